-- How many of the entries that were taken were placed at least once.
use Rattle.std.proofs.Common.{◌≡◌, ℕ, ◌+◌, ◌-◌, suc, not, nat_lt, min, Bool, true, false, cond, None, Option, List, [], ◌∷◌, ◌++◌, length, refl, sym, ap, ap₂, ◌∙◌, arith, append-nil, length-append, length-take, length-drop}
use Rattle.std.specs.List.{filter}
use Rattle.std.specs.Option.{option_map_or, option_to_list}
use Rattle.std.proofs.lemmas.List.{length-map}
use Rattle.pblk_model.specs.declared.shape.Shape.{Shape}
use Rattle.pblk_model.specs.declared.chunk.Mark.{Mark}
use Rattle.pblk_model.specs.Image.{Image}
use Rattle.pblk_world.specs.Events.{EngineEvent, Entry, Begin, Take, Place, Stripe, Decides, Logged}
use Rattle.pblk_world.specs.World.{Logs}
use Rattle.pblk_world.specs.EngineLog.{Begun, begun, begun_by, Taken, taken_by, takes, Placed, placed_by, placements, holds_position, Opening}
use Rattle.pblk_world.specs.Fronts.{first_position, was_placed}
use Rattle.pblk_world.specs.Space.{placed_front}
use Rattle.pblk_world.proofs.Appending.{placements_more}
use Rattle.stripe_placer.specs.Entries.{Entries, waiting}
use Rattle.stripe_placer.specs.OpenLines.{OpenLine, kind_of}
use Rattle.stripe_placer.specs.Placing.{Program, next_positions}
use Rattle.stripe_placer.proofs.Named.{IsProgramIn, its_program}
use Rattle.core_laws.specs.Stepping.{after}
use Rattle.core_laws.specs.OpenedLines.{open_line}
use Rattle.core_laws.specs.PlacerOf.{fresh_entries, entries_of, IsStripeOf}
use Rattle.core_laws.specs.Positions.{IsUnplaced, AreNumbered}
use Rattle.core_laws.proofs.StillWaiting.{entries_placed, next_are_first}
use Rattle.core_laws.proofs.Placing.{with_place}
use Rattle.core_laws.proofs.Steady.{was_placed_same}
use Rattle.core_laws.proofs.Taking.{filter_last}
use Rattle.core_laws.proofs.Taking as taking
use Rattle.core_laws.specs.OpenAddresses.{keeps_placed}
use Rattle.core_laws.proofs.KeptStripes.{with_event}
use Rattle.core_laws.proofs.KeptRows.{begun_kept}
use Rattle.pblk_model.proofs.Maps.{filter_none, filter_same}
use Rattle.pblk_world.proofs.EngineLogLemmas.{takes_more}

begun_by_none : (e : EngineEvent) (knows : List ℕ) → keeps_placed e ≡ true → begun_by knows (Decides e) ≡ None
begun_by_none (Begin b) knows keeps = absurd cc
begun_by_none e knows keeps = refl

none_placed : (log : List Logged) (n : ℕ) (e : EngineEvent) → keeps_placed e ≡ true → placed_by log n (Decides e) ≡ None
none_placed log n (Place stripe) keeps = absurd cc
none_placed log n e keeps = refl

none_taken : (e : EngineEvent) → keeps_placed e ≡ true → taken_by (Decides e) ≡ None
none_taken (Take entry mark) keeps = absurd cc
none_taken e keeps = refl

first_kept : (log new : List Logged) → begun new ≡ begun log → first_position new ≡ first_position log
first_kept log new same = ap (λ (x : Option Begun). option_map_or (λ (b : Begun). b.beginning.first) x 0) same

placed_in : Shape → List Placed → List Taken → ℕ
placed_in s ps ts = length (filter (λ t. nat_lt 0 (length (filter (holds_position s t.entry.position) ps))) ts)

front_by : (s : Shape) (log new : List Logged) → begun new ≡ begun log → placements new ≡ placements log → takes new ≡ takes log
    → placed_front s new ≡ placed_front s log
unfolding placed_in
front_by s log new same ps ts = ap₂ (λ m n. m + n) (first_kept log new same) (ap₂ (placed_in s) ps ts)

pub front_kept : (s : Shape) (log : List Logged) (e : EngineEvent) (knows : List ℕ) → keeps_placed e ≡ true
    → placed_front s (with_event log e knows) ≡ placed_front s log
front_kept s log e knows keeps =
    let l : Logged = record { event = Decides e; knows = knows } in
    front_by s log (with_event log e knows) (begun_kept log e knows (begun_by_none e knows keeps))
    (placements_more log l ∙ ap (λ o. placements log ++ option_to_list o) (none_placed log (length log) e keeps) ∙ append-nil (placements log))
    (takes_more log l ∙ ap (λ o. takes log ++ option_to_list o) (none_taken e keeps) ∙ append-nil (takes log))

-- an entry that no stripe has yet
pub front_taken : (s : Shape) (log : List Logged) (entry : Entry) (mark : Mark) (knows : List ℕ) → IsUnplaced s log entry.position
    → placed_front s (with_event log (Take entry mark) knows) ≡ placed_front s log
front_taken s log entry mark knows none =
    let l : Logged = record { event = Decides (Take entry mark); knows = knows } in
    let new : List Logged = with_event log (Take entry mark) knows in
    let t : Taken = record { entry = entry; mark = mark } in
    let never : was_placed s log t ≡ false =
    ap (λ (ps : List Placed). nat_lt 0 (length ps)) (filter_none (holds_position s entry.position) (placements log) none) in
    ap₂ (λ m n. m + n) (first_kept log new (begun_kept log (Take entry mark) knows refl))
    (ap length (filter_same (was_placed s new) (was_placed s log) (was_placed_same s log new (taking.alike log entry mark knows)) (takes new))
    ∙ ap (λ ts. length (filter (was_placed s log) ts)) (takes_more log l)
    ∙ ap length (filter_last (was_placed s log) (takes log) t false never ∙ append-nil (filter (was_placed s log) (takes log))))

-- ---- a stripe is placed

both_parts : {X : Type 0} (f : X → Bool) (xs : List X) → length (filter f xs) + length (filter (λ x. not (f x)) xs) ≡ length xs
both_parts f [] = refl
both_parts {X} f (x ∷ xs) = go (f x) (both_parts f xs)
  where
    go : (b : Bool) → length (filter f xs) + length (filter (λ x. not (f x)) xs) ≡ length xs
        → length (cond b (x ∷ filter f xs) (filter f xs)) + length (cond (not b) (x ∷ filter (λ x. not (f x)) xs) (filter (λ x. not (f x)) xs)) ≡ suc
        (length xs)
    go true rest = omega arith
    go false rest = omega arith

pub front_placed : (i : Image) (logs : Logs) (knows : List ℕ) (pad : ℕ) (o : Opening) (stripe : Stripe) (of : Program) → IsStripeOf i logs pad o stripe of
    → AreNumbered (logs 0)
    → placed_front i.shape (after logs (Place stripe) knows 0) ≡ placed_front i.shape (logs 0) + (of.count - length (entries_of i.shape (logs 0) pad).lost)
front_placed i logs knows pad o stripe of is numbered =
    let s : Shape = i.shape in
    let log : List Logged = logs 0 in
    let new : List Logged = with_place log stripe knows in
    let e : Entries = entries_of s log pad in
    let l : OpenLine = open_line i logs o in
    let its : (j : ℕ) × IsProgramIn s e l of j = its_program s e l of is.next in
    let qs : List ℕ = next_positions s e (kind_of l its.0) in
    let lost : ℕ = length e.lost in
    let count : length qs ≡ of.count = ap (λ (x : Program). x.count) its.1.is in
    let first : length qs ≡ min (length qs) (length (waiting e)) = ap (λ (xs : List ℕ). length xs) (next_are_first s e (kind_of l its.0))
    ∙ length-take (length qs) (waiting e) in
    let all : length (waiting e) ≡ lost + length e.fresh = length-append e.lost e.fresh in
    let fresh : length e.fresh ≡ length (fresh_entries s log) = length-map (fresh_entries s log) (λ (t : Taken). t.entry.position) in
    let left : length (fresh_entries s new) ≡ length e.fresh - (of.count - lost) =
    sym (length-map (fresh_entries s new) (λ (t : Taken). t.entry.position))
    ∙ ap (λ (x : Entries). length x.fresh) (entries_placed i logs knows pad o stripe of is numbered)
    ∙ length-drop (of.count - lost) e.fresh in
    let same : takes new ≡ takes log = takes_more log (record { event = Decides (Place stripe); knows = knows }) ∙ append-nil (takes log) in
    let counted : length (takes new) ≡ length (takes log) = ap (λ (ts : List Taken). length ts) same in
    let begins : first_position new ≡ first_position log = first_kept log new (begun_kept log (Place stripe) knows refl) in
    let now : length (filter (was_placed s new) (takes new)) + length (fresh_entries s new) ≡ length (takes new) = both_parts (was_placed s new) (takes new) in
    let was : length (filter (was_placed s log) (takes log)) + length (fresh_entries s log) ≡ length (takes log) = both_parts (was_placed s log) (takes log) in
    omega arith

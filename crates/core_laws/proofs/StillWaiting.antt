-- The entries that wait once a stripe is placed.
use Rattle.std.proofs.Common.{◌≡◌, ℕ, ◌+◌, ◌-◌, ◌<◌, ◌≤◌, ◌==◌, ◌&&◌, ◌||◌, suc, not, nat_lt, Bool, true, false, cond, Some, None, List, [], ◌∷◌, ◌++◌, length, take, drop, refl, sym, ap, ◌∙◌, arith, append-nil, le_of_lt, length-append}
use Rattle.std.specs.Prelude.{is_some, if◌then◌else◌}
use Rattle.std.specs.List.{filter, filter_map, list_any, range_with_len, drop-map, cons_option}
use Rattle.pblk_model.specs.declared.shape.Shape.{Shape}
use Rattle.pblk_model.specs.Chunk.{Block}
use Rattle.pblk_model.specs.Image.{Image}
use Rattle.pblk_model.specs.Records.{named}
use Rattle.pblk_world.specs.Events.{Stripe, Place, Decides, Logged}
use Rattle.pblk_world.specs.World.{Logs}
use Rattle.pblk_world.specs.EngineLog.{Taken, takes, Opened, Opening, Placed, placements, life_of, was_lost, is_loss, bears_position, holds_position}
use Rattle.pblk_world.specs.Fronts.{first_position, times_placed, times_lost, was_placed, waits}
use Rattle.pblk_world.specs.Victims.{position_in}
use Rattle.stripe_placer.specs.declared.placement.StripeKind.{StripeKind}
use Rattle.stripe_placer.specs.declared.placement.StripeKind.TheVariants as kinds
use Rattle.stripe_placer.specs.Entries.{Entries, waiting, without_first}
use Rattle.stripe_placer.specs.OpenLines.{OpenLine, kind_of}
use Rattle.stripe_placer.specs.Placing.{Program, next_positions}
use Rattle.stripe_placer.proofs.Named.{IsProgramIn, its_program}
use Rattle.core_laws.specs.Stepping.{after}
use Rattle.core_laws.specs.OpenedLines.{open_line}
use Rattle.core_laws.specs.PlacerOf.{IsStripeOf, positions_of, positions_in_stripe, lost_entries, fresh_entries, entries_of}
use Rattle.core_laws.proofs.Engine.{placements_before}
use Rattle.core_laws.proofs.Taking.{filter_last, same_entries}
use Rattle.core_laws.proofs.Placing.{IsPlacing, new_placed, with_place, placements_now, answer_now, new_unanswered}
use Rattle.core_laws.proofs.Removing.{is_within, and_yes, removed_both, apart_numbered, apart_split, filter_twice, take_taken}
use Rattle.pblk_model.proofs.Maps.{filter_agree, filter_same}
use Rattle.pblk_model.proofs.Tests.{and_refused, lt_true, not_true, other_number, second_of}
use Rattle.pblk_world.proofs.EngineLogLemmas.{takes_more}

-- ---- a stripe holds the positions in it

pub holds_is : (s : Shape) (position : ℕ) (bs : List Block)
    → list_any (bears_position s position) bs ≡ list_any (λ q. q == position) (filter_map (position_in s) bs)
holds_is s position [] = refl
holds_is s position (b ∷ bs) = go (is_some (named s b.mark)) (holds_is s position bs)
  where
    go : (c : Bool) → list_any (bears_position s position) bs ≡ list_any (λ q. q == position) (filter_map (position_in s) bs)
        → ((c && (b.mark.position == position)) || list_any (bears_position s position) bs) ≡ list_any (λ q. q == position)
        (cons_option (if c then Some b.mark.position else None) (filter_map (position_in s) bs))
    go true rest = ap (λ r. (b.mark.position == position) || r) rest
    go false rest = rest

-- ---- how often an entry was placed and lost

abbrev more_by : Bool → ℕ
more_by true = 1
more_by false = 0

length_more : {X : Type 0} (xs : List X) (x : X) (b : Bool) → length (xs ++ cond b (x ∷ []) []) ≡ length xs + more_by b
length_more xs x true = length-append xs (x ∷ [])
length_more xs x false = length-append xs []

placed_times : (s : Shape) (log : List Logged) (stripe : Stripe) (knows : List ℕ) (o : Opening) (t : Taken) → life_of log stripe.line ≡ Opened o
    → times_placed s (with_place log stripe knows) t ≡ times_placed s log t + more_by (is_within (positions_in_stripe s stripe) t)
placed_times s log stripe knows o t opened =
    ap (λ ps. length (filter (holds_position s t.entry.position) ps)) (placements_now log stripe knows o opened)
    ∙ ap length (filter_last (holds_position s t.entry.position) (placements log) (new_placed log stripe o) (is_within (positions_in_stripe s stripe) t)
    (holds_is s t.entry.position stripe.blocks))
    ∙ length_more (filter (holds_position s t.entry.position) (placements log)) (new_placed log stripe o) (is_within (positions_in_stripe s stripe) t)

lost_times : (s : Shape) (log : List Logged) (stripe : Stripe) (knows : List ℕ) (o : Opening) (t : Taken) → IsPlacing log stripe o
    → times_lost s (with_place log stripe knows) t ≡ times_lost s log t
lost_times s log stripe knows o t is =
    let new : List Logged = with_place log stripe knows in
    let test : Placed → Bool = λ p. was_lost new p && holds_position s t.entry.position p in
    ap (λ ps. length (filter (λ p. was_lost new p && holds_position s t.entry.position p) ps)) (placements_now log stripe knows o is.opened)
    ∙ ap length (filter_last (λ p. was_lost new p && holds_position s t.entry.position p) (placements log) (new_placed log stripe o) false
    (ap (λ a. is_loss a && holds_position s t.entry.position (new_placed log stripe o)) (new_unanswered log stripe knows o is))
    ∙ append-nil (filter (λ p. was_lost new p && holds_position s t.entry.position p) (placements log))
    ∙ filter_agree (λ (p : Placed). p.number < length log) (λ p. was_lost new p && holds_position s t.entry.position p)
    (λ p. was_lost log p && holds_position s t.entry.position p)
    (λ p before. ap (λ a. is_loss a && holds_position s t.entry.position p) (answer_now log stripe knows o p is.opened (le_of_lt before))) (placements log)
    (placements_before log))

fewer : {X : Type 0} (f g : X → Bool) (xs : List X) → length (filter (λ x. f x && g x) xs) ≤ length (filter g xs)
fewer f g [] = omega arith
fewer {X} f g (x ∷ xs) = go (f x) (g x) (fewer f g xs)
  where
    go : (a b : Bool) → length (filter (λ x. f x && g x) xs) ≤ length (filter g xs)
        → length (cond (a && b) (x ∷ filter (λ x. f x && g x) xs) (filter (λ x. f x && g x) xs)) ≤ length (cond b (x ∷ filter g xs) (filter g xs))
    go true true rest = omega arith
    go true false rest = rest
    go false true rest = omega arith
    go false false rest = rest

-- ---- who waits

not_equal : (m n : ℕ) → n < m → (m == n) ≡ false
not_equal m n h = other_number m n (λ e. absurd (omega arith))

lost_by : (p l n : ℕ) (b : Bool) → n ≡ p + more_by b → l ≤ p → ((n == l) && nat_lt 0 n) ≡ (((p == l) && nat_lt 0 p) && not b)
lost_by p l n true is few =
    let above : l < n = omega (arith, is) in
    ap (λ c. c && nat_lt 0 n) (not_equal n l above) ∙ sym (and_refused ((p == l) && nat_lt 0 p))
lost_by p l n false is few =
    let same : n ≡ p = omega (arith, is) in
    ap (λ k. (k == l) && nat_lt 0 k) same ∙ sym (and_yes ((p == l) && nat_lt 0 p))

fresh_by : (p n : ℕ) (b : Bool) → n ≡ p + more_by b → not (nat_lt 0 n) ≡ (not (nat_lt 0 p) && not b)
fresh_by p n true is =
    let some : 0 < n = omega (arith, is) in
    ap not (lt_true 0 n some) ∙ sym (and_refused (not (nat_lt 0 p)))
fresh_by p n false is =
    let same : n ≡ p = omega (arith, is) in
    ap (λ k. not (nat_lt 0 k)) same ∙ sym (and_yes (not (nat_lt 0 p)))

lost_now : (s : Shape) (log : List Logged) (stripe : Stripe) (knows : List ℕ) (o : Opening) → IsPlacing log stripe o → (t : Taken)
    → (waits s (with_place log stripe knows) t && was_placed s (with_place log stripe knows) t) ≡
    ((waits s log t && was_placed s log t) && not (is_within (positions_in_stripe s stripe) t))
lost_now s log stripe knows o is t =
    ap (λ k. (times_placed s (with_place log stripe knows) t == k) && was_placed s (with_place log stripe knows) t) (lost_times s log stripe knows o t is)
    ∙ lost_by (times_placed s log t) (times_lost s log t) (times_placed s (with_place log stripe knows) t) (is_within (positions_in_stripe s stripe) t)
    (placed_times s log stripe knows o t is.opened)
    (fewer (was_lost log) (holds_position s t.entry.position) (placements log))

fresh_now : (s : Shape) (log : List Logged) (stripe : Stripe) (knows : List ℕ) (o : Opening) → IsPlacing log stripe o → (t : Taken)
    → not (was_placed s (with_place log stripe knows) t) ≡ (not (was_placed s log t) && not (is_within (positions_in_stripe s stripe) t))
fresh_now s log stripe knows o is t =
    fresh_by (times_placed s log t) (times_placed s (with_place log stripe knows) t) (is_within (positions_in_stripe s stripe) t)
    (placed_times s log stripe knows o t is.opened)

-- ---- the entries of the next stripe

pub next_are_first : (s : Shape) (e : Entries) (kind : StripeKind) → next_positions s e kind ≡ take (length (next_positions s e kind)) (waiting e)
next_are_first s e kinds.Start = refl
next_are_first s e kinds.Data = take_taken s.ws_opt (waiting e)
next_are_first s e kinds.Pad = refl
next_are_first s e kinds.End = refl

pub length_positions : (ts : List Taken) → length (positions_of ts) ≡ length ts
length_positions [] = refl
length_positions (t ∷ ts) = ap suc (length_positions ts)

pub entries_placed : (i : Image) (logs : Logs) (knows : List ℕ) (pad : ℕ) (o : Opening) (stripe : Stripe) (of : Program) → IsStripeOf i logs pad o stripe of
    → positions_of (takes (logs 0)) ≡ range_with_len (first_position (logs 0)) (length (takes (logs 0)))
    → entries_of i.shape (after logs (Place stripe) knows 0) pad ≡ without_first of.count (entries_of i.shape (logs 0) pad)
entries_placed i logs knows pad o stripe of is numbered =
    let s : Shape = i.shape in
    let log : List Logged = logs 0 in
    let new : List Logged = with_place log stripe knows in
    let e : Entries = entries_of s log pad in
    let l : OpenLine = open_line i logs o in
    let its : (j : ℕ) × IsProgramIn s e l of j = its_program s e l of is.next in
    let j : ℕ = its.0 in
    let qs : List ℕ = positions_in_stripe s stripe in
    let lost : List Taken = lost_entries s log in
    let fresh : List Taken = fresh_entries s log in
    let placing : IsPlacing log stripe o = record { opened = is.opened; idle = is.idle } in
    let next : next_positions s e (kind_of l j) ≡ of.positions = ap (λ (x : Program). x.positions) its.1.is in
    let count : length (next_positions s e (kind_of l j)) ≡ of.count = ap (λ (x : Program). x.count) its.1.is in
    let first : qs ≡ take of.count (positions_of lost ++ positions_of fresh) =
    is.positions ∙ sym next ∙ next_are_first s e (kind_of l j) ∙ ap (λ n. take n (waiting e)) count in
    let apart = apart_split (λ t. waits s log t && was_placed s log t) (λ t. not (was_placed s log t))
    (λ q. nat_lt 0 (length (filter (holds_position s q) (placements log))))
    (λ t f. second_of (waits s log t) (was_placed s log t) f) (λ t f. not_true (was_placed s log t) f) (takes log)
    (apart_numbered (first_position log) (length (takes log)) (takes log) numbered) in
    let removed = removed_both of.count lost fresh apart in
    let same : takes new ≡ takes log = takes_more log (record { event = Decides (Place stripe); knows = knows }) ∙ append-nil (takes log) in
    let less : lost_entries s new ≡ drop of.count lost =
    filter_same (λ t. waits s new t && was_placed s new t) (λ t. (waits s log t && was_placed s log t) && not (is_within qs t))
    (lost_now s log stripe knows o placing) (takes new)
    ∙ ap (filter (λ t. (waits s log t && was_placed s log t) && not (is_within qs t))) same
    ∙ filter_twice (λ t. waits s log t && was_placed s log t) (is_within qs) (takes log)
    ∙ ap (λ zs. filter (λ t. not (is_within zs t)) lost) first ∙ removed.0 in
    let rest : fresh_entries s new ≡ drop (of.count - length lost) fresh =
    filter_same (λ t. not (was_placed s new t)) (λ t. not (was_placed s log t) && not (is_within qs t)) (fresh_now s log stripe knows o placing) (takes new)
    ∙ ap (filter (λ t. not (was_placed s log t) && not (is_within qs t))) same
    ∙ filter_twice (λ t. not (was_placed s log t)) (is_within qs) (takes log)
    ∙ ap (λ zs. filter (λ t. not (is_within zs t)) fresh) first ∙ removed.1 in
    same_entries (positions_of (lost_entries s new)) (drop of.count (positions_of lost)) (positions_of (fresh_entries s new))
    (drop (of.count - length (positions_of lost)) (positions_of fresh)) pad
    (ap positions_of less ∙ sym (drop-map (λ (t : Taken). t.entry.position) of.count lost))
    (ap positions_of rest ∙ sym (drop-map (λ (t : Taken). t.entry.position) (of.count - length lost) fresh)
    ∙ ap (λ n. drop (of.count - n) (positions_of fresh)) (sym (length_positions lost)))

-- What a placer holds: what waits, and what stands in stripes that aren't answered.
use Rattle.std.proofs.Common.{◌≡◌, ◌⊎◌, inl, inr, ℕ, ◌+◌, ◌-◌, ◌<◌, ◌≤◌, ◌==◌, ◌&&◌, ◌||◌, zero, suc, Bool, true, false, Some, None, Option, List, [], ◌∷◌, ◌++◌, length, refl, sym, subst, ap, ap₂, ◌∙◌, arith, if◌then◌else◌}
use Rattle.std.specs.Prelude.{slice_get, map}
use Rattle.std.specs.List.{AllByRecursion, flat_map, list_any, enumerate_from, range_with_len}
use Rattle.std.specs.Option.{option_map_or}
use Rattle.std.proofs.lemmas.Bool.{cases_order, eqb-true}
use Rattle.pblk_model.specs.declared.shape.Shape.{Shape}
use Rattle.pblk_model.specs.Shape.{units}
use Rattle.pblk_model.specs.Chunk.{Block}
use Rattle.pblk_model.specs.Image.{Image}
use Rattle.pblk_model.specs.Contents.{least_missing}
use Rattle.pblk_world.specs.Events.{Logged}
use Rattle.pblk_world.specs.World.{Logs}
use Rattle.pblk_world.specs.EngineLog.{Taken, takes, LineLife, AsFound, Opened, Freed, Placed, placements, answers, is_land, is_loss, has_landed, was_lost, bears_position, holds_position}
use Rattle.pblk_world.specs.Fronts.{first_position, taken, has_landed_at, synced, waiting}
use Rattle.pblk_world.specs.Space.{is_readable_in, gives_back, freed, placed_front}
use Rattle.pblk_world.proofs.SyncedFront.{synced_is}
use Rattle.stripe_placer.specs.Placing.{Program, positions_in, held}
use Rattle.stripe_placer.specs.Placing.UnitRow.{Idle}
use Rattle.core_laws.specs.PlacerOf.{positions_of, positions_in_stripe, fresh_entries, waits_again, program_of_placed, row_of_program, row_in, unit_row_in, unanswered_on, placing_of}
use Rattle.world_laws.proofs.UnitTurns.{unit_is as its_unit}
use Rattle.core_laws.specs.Placed.{IsInWindow}
use Rattle.core_laws.specs.Positions.{AreNumbered}
use Rattle.core_laws.proofs.AnsweredUnits.{first_answer}
use Rattle.core_laws.proofs.NextTakes.{IsRising}
use Rattle.core_laws.proofs.Placed.{is_in_list, stripe_holds}
use Rattle.core_laws.proofs.PlacedAnew.{IsWaiting, holders_lost, landed_not_lost, waiting_wait}
use Rattle.core_laws.proofs.PlacedInOrder.{HasEntries, IsOrdered, fresh_in_order, front_within, waiting_rises}
use Rattle.core_laws.proofs.PlacedPositions.{numbered_below}
use Rattle.core_laws.proofs.SyncedWindow.{numbered_above}
use Rattle.core_laws.proofs.WaitingEntries.{waiting_alike}
use Rattle.core_laws.proofs.Distinct.{IsIn, Distinct, in_joined, at_in, passing, made_of, distinct_joined, distinct_rows, distinct_at, distinct_few}
use Rattle.pblk_model.proofs.Lists.{IsAmong}
use Rattle.pblk_model.proofs.Maps.{all_in_range, from_filter}
use Rattle.pblk_model.proofs.Parts.{all_at}
use Rattle.pblk_model.proofs.Tests.{no_both, not_both, other_number}

-- ---- the rows of the units

program_positions : (stopped : Bool) (of : Program) → positions_in (row_of_program stopped of) ≡ of.positions
program_positions true of = refl
program_positions false of = refl

-- a row has the positions of a stripe, or none
row_positions : (i : Image) (logs : Logs) (stopped : Bool) (life : LineLife) (p : Placed)
    → (positions_in (row_in i logs stopped life p) ≡ []) ⊎ (positions_in (row_in i logs stopped life p) ≡ positions_in_stripe i.shape p.stripe)
row_positions i logs stopped AsFound p = inl refl
row_positions i logs stopped (Opened o) p = inr (program_positions stopped (program_of_placed i logs o p))
row_positions i logs stopped (Freed past knows) p = inl refl

awaited_is : (i : Image) (logs : Logs) (again : List ℕ) (unit : ℕ)
    → (positions_in (unit_row_in i logs again unit) ≡ [])
    ⊎ ((p : Placed) × (unanswered_on (logs 0) unit ≡ Some p) × (positions_in (unit_row_in i logs again unit) ≡ positions_in_stripe i.shape p.stripe))
awaited_is i logs again unit = go (unanswered_on (logs 0) unit) refl
  where
    by_row : (p : Placed) → unanswered_on (logs 0) unit ≡ Some p
        → (positions_in (row_in i logs (waits_again (logs 0) again unit) p.life p) ≡ [])
        ⊎ (positions_in (row_in i logs (waits_again (logs 0) again unit) p.life p) ≡ positions_in_stripe i.shape p.stripe)
        → (positions_in (row_in i logs (waits_again (logs 0) again unit) p.life p) ≡ [])
        ⊎ ((q : Placed) × (unanswered_on (logs 0) unit ≡ Some q)
        × (positions_in (row_in i logs (waits_again (logs 0) again unit) p.life p) ≡ positions_in_stripe i.shape q.stripe))
    by_row p e (inl none) = inl none
    by_row p e (inr its) = inr (p, e, its)

    go : (o : Option Placed) → unanswered_on (logs 0) unit ≡ o
        → (positions_in (option_map_or (λ (p : Placed). row_in i logs (waits_again (logs 0) again unit) p.life p) o Idle) ≡ [])
        ⊎ ((p : Placed) × (unanswered_on (logs 0) unit ≡ Some p)
        × (positions_in (option_map_or (λ (p : Placed). row_in i logs (waits_again (logs 0) again unit) p.life p) o Idle) ≡ positions_in_stripe i.shape
        p.stripe))
    go None e = inl refl
    go (Some p) e = by_row p e (row_positions i logs (waits_again (logs 0) again unit) p.life p)

-- a position in a row is in the stripe of its unit
in_row : (i : Image) (logs : Logs) (again : List ℕ) (unit q : ℕ) → IsIn (positions_in (unit_row_in i logs again unit)) q
    → (p : Placed) × (unanswered_on (logs 0) unit ≡ Some p) × IsIn (positions_in_stripe i.shape p.stripe) q
in_row i logs again unit q is = go (awaited_is i logs again unit)
  where
    go : (positions_in (unit_row_in i logs again unit) ≡ [])
        ⊎ ((p : Placed) × (unanswered_on (logs 0) unit ≡ Some p) × (positions_in (unit_row_in i logs again unit) ≡ positions_in_stripe i.shape p.stripe))
        → (p : Placed) × (unanswered_on (logs 0) unit ≡ Some p) × IsIn (positions_in_stripe i.shape p.stripe) q
    go (inl none) = let never : IsIn [] q = subst (λ xs. IsIn xs q) none is in absurd cc
    go (inr at) = (at.0, at.1, subst (λ xs. IsIn xs q) at.2 is)

among : (log : List Logged) (unit : ℕ) (p : Placed) → unanswered_on log unit ≡ Some p → IsAmong (placements log) p
among log unit p e = from_filter (λ (q : Placed). q.stripe.unit == unit) (placements log) p (length (answers log unit), e)

pub distinct_rising : (ts : List Taken) → IsRising ts → Distinct (positions_of ts)
distinct_rising [] rise = tt
distinct_rising (t ∷ ts) rise = (none_same ts rise.0, distinct_rising ts rise.1)
  where
    none_same : (us : List Taken) → AllByRecursion (λ (u : Taken). t.entry.position < u.entry.position) us
        → is_in_list (positions_of us) t.entry.position ≡ false
    none_same [] all = refl
    none_same (u ∷ us) all = ap₂ (λ a b. a || b)
        (other_number u.entry.position t.entry.position (λ e. let less : t.entry.position < u.entry.position = all.0 in absurd (omega arith)))
        (none_same us all.1)

-- the entry of a position in such a list
entry_of : (ts : List Taken) (q : ℕ) → IsIn (positions_of ts) q → (t : Taken) × IsAmong ts t × (t.entry.position ≡ q)
entry_of ts q is =
    let at = passing (λ (t : Taken). t.entry.position == q) ts (sym (any_mapped ts) ∙ is) in
    (at.0, at.1, eqb-true at.0.entry.position q at.2)
  where
    any_mapped : (us : List Taken) → is_in_list (positions_of us) q ≡ list_any (λ (t : Taken). t.entry.position == q) us
    any_mapped [] = refl
    any_mapped (u ∷ us) = ap (λ b. (u.entry.position == q) || b) (any_mapped us)

row_distinct : (i : Image) (logs : Logs) (again : List ℕ) → IsOrdered i.shape (logs 0) → (unit : ℕ) → Distinct (positions_in (unit_row_in i logs again unit))
row_distinct i logs again is unit = go (awaited_is i logs again unit)
  where
    go : (positions_in (unit_row_in i logs again unit) ≡ [])
        ⊎ ((p : Placed) × (unanswered_on (logs 0) unit ≡ Some p) × (positions_in (unit_row_in i logs again unit) ≡ positions_in_stripe i.shape p.stripe))
        → Distinct (positions_in (unit_row_in i logs again unit))
    go (inl none) = subst Distinct (sym none) tt
    go (inr at) =
        let there : IsAmong (placements (logs 0)) at.0 = among (logs 0) unit at.0 at.1 in
        let its : HasEntries i.shape (logs 0) at.0.stripe =
        all_at (λ (p : Placed). HasEntries i.shape (logs 0) p.stripe) (placements (logs 0)) there.0 at.0 there.1 is.entries in
        subst Distinct (sym (at.2 ∙ its.positions)) (distinct_rising its.entries its.rising)

one_row : (i : Image) (logs : Logs) (again : List ℕ) → IsOrdered i.shape (logs 0) → (u v q : ℕ) → IsIn (positions_in (unit_row_in i logs again u)) q
    → IsIn (positions_in (unit_row_in i logs again v)) q → u ≡ v
one_row i logs again is u v q a b =
    let p = in_row i logs again u q a in
    let r = in_row i logs again v q b in
    let same : p.0 ≡ r.0 = is.once q p.0 r.0 (among (logs 0) u p.0 p.1) (among (logs 0) v r.0 r.1)
    (stripe_holds i.shape q p.0 ∙ p.2) (stripe_holds i.shape q r.0 ∙ r.2)
    (ap is_loss (first_answer (logs 0) u p.0 p.1)) (ap is_loss (first_answer (logs 0) v r.0 r.1)) in
    sym (its_unit (logs 0) u (length (answers (logs 0) u)) p.0 p.1) ∙ ap (λ (x : Placed). x.stripe.unit) same
    ∙ its_unit (logs 0) v (length (answers (logs 0) v)) r.0 r.1

made_mapped : {X Y : Type 0} (f : X → Y) (g : Y → List ℕ) (xs : List X) → flat_map g (map f xs) ≡ flat_map (λ x. g (f x)) xs
made_mapped f g [] = refl
made_mapped f g (x ∷ xs) = ap (λ ys. g (f x) ++ ys) (made_mapped f g xs)

-- ---- all that is held

pub held_is : (i : Image) (logs : Logs) (pad : ℕ) (again : List ℕ)
    → held (placing_of i logs pad again) ≡ positions_of (waiting i.shape (logs 0))
    ++ flat_map (λ unit. positions_in (unit_row_in i logs again unit)) (range_with_len 0 (units i.shape))
held_is i logs pad again = ap₂ (λ (a b : List ℕ). a ++ b) (waiting_alike i.shape (logs 0) pad)
    (made_mapped (unit_row_in i logs again) positions_in (range_with_len 0 (units i.shape)))

-- an entry that waits is in no stripe but lost ones
waiting_at : (s : Shape) (log : List Logged) (q : ℕ) → IsIn (positions_of (waiting s log)) q
    → (t : Taken) × IsAmong (takes log) t × (t.entry.position ≡ q)
    × ((p : Placed) → IsAmong (placements log) p → holds_position s q p ≡ true → was_lost log p ≡ true)
waiting_at s log q is =
    let at = entry_of (waiting s log) q is in
    let wait : IsWaiting s log at.0 = all_at (IsWaiting s log) (waiting s log) at.1.0 at.0 at.1.1 (waiting_wait s log) in (
      at.0,
      wait.0,
      at.2,
      λ p there holds. all_at (λ (p : Placed). holds_position s at.0.entry.position p ≡ true → was_lost log p ≡ true) (placements log) there.0 p there.1
          (holders_lost s log at.0 wait.1) (ap (λ n. holds_position s n p) at.2 ∙ holds),
    )

pub held_distinct : (i : Image) (logs : Logs) (pad : ℕ) (again : List ℕ) → IsOrdered i.shape (logs 0) → Distinct (held (placing_of i logs pad again))
held_distinct i logs pad again is = subst Distinct (sym (held_is i logs pad again))
    (distinct_joined (positions_of (waiting i.shape (logs 0)))
    (flat_map (λ unit. positions_in (unit_row_in i logs again unit)) (range_with_len 0 (units i.shape)))
    (distinct_rising (waiting i.shape (logs 0)) (waiting_rises i.shape (logs 0) is.numbered is.order))
    (distinct_rows (λ unit. positions_in (unit_row_in i logs again unit)) 0 (units i.shape) (row_distinct i logs again is) (one_row i logs again is))
    (λ q waits placed.
    let row = made_of (λ unit. positions_in (unit_row_in i logs again unit)) 0 (units i.shape) q placed in
    let p = in_row i logs again row.0 q row.3 in
    not_both (was_lost (logs 0) p.0)
    ((waiting_at i.shape (logs 0) q waits).3 p.0 (among (logs 0) row.0 p.0 p.1) (stripe_holds i.shape q p.0 ∙ p.2))
    (ap is_loss (first_answer (logs 0) row.0 p.0 p.1))))

-- ---- what is held hasn't landed

pub record IsHeld (s : Shape) (log : List Logged) (q : ℕ) : Type 0 where
  pub low : first_position log ≤ q
  pub high : q < taken log
  pub not_landed : has_landed_at s log q ≡ false

no_land : (s : Shape) (log : List Logged) (q : ℕ) → ((p : Placed) → IsAmong (placements log) p → has_landed log p ≡ true → holds_position s q p ≡ true → ⊥)
    → has_landed_at s log q ≡ false
no_land s log q never = go (has_landed_at s log q) refl
  where
    both : (a b : Bool) → (a && b) ≡ true → (a ≡ true) × (b ≡ true)
    both true true e = (refl, refl)
    both true false e = absurd cc
    both false b e = absurd cc

    go : (b : Bool) → has_landed_at s log q ≡ b → b ≡ false
    go true e =
        let at = passing (λ p. has_landed log p && holds_position s q p) (placements log) e in
        let parts = both (has_landed log at.0) (holds_position s q at.0) at.2 in
        absurd (never at.0 at.1 parts.0 parts.1)
    go false e = refl

-- what was taken is within the positions
in_takes : (log : List Logged) (t : Taken) → AreNumbered log → IsAmong (takes log) t → (first_position log ≤ t.entry.position) × (t.entry.position < taken log)
in_takes log t numbered at = (
  all_at (λ (t : Taken). first_position log ≤ t.entry.position) (takes log) at.0 t at.1 (numbered_above (first_position log) (takes log) numbered),
  all_at (λ (t : Taken). t.entry.position < taken log) (takes log) at.0 t at.1
      (numbered_below (first_position log) (length (takes log)) (takes log) numbered),
)

waiting_held : (s : Shape) (log : List Logged) → IsOrdered s log → (q : ℕ) → IsIn (positions_of (waiting s log)) q → IsHeld s log q
waiting_held s log is q waits =
    let at = waiting_at s log q waits in
    let bounds = in_takes log at.0 is.numbered at.1 in
    record {
      low = subst (λ n. first_position log ≤ n) at.2 bounds.0;
      high = subst (λ n. n < taken log) at.2 bounds.1;
      not_landed = no_land s log q (λ p there landed holds. not_both (was_lost log p) (at.3 p there holds) (landed_not_lost log p landed));
    }

row_held : (i : Image) (logs : Logs) (again : List ℕ) → IsOrdered i.shape (logs 0) → (unit q : ℕ) → IsIn (positions_in (unit_row_in i logs again unit)) q
    → IsHeld i.shape (logs 0) q
row_held i logs again is unit q e =
    let p = in_row i logs again unit q e in
    let there : IsAmong (placements (logs 0)) p.0 = among (logs 0) unit p.0 p.1 in
    let its : HasEntries i.shape (logs 0) p.0.stripe =
    all_at (λ (p : Placed). HasEntries i.shape (logs 0) p.stripe) (placements (logs 0)) there.0 p.0 there.1 is.entries in
    let at = entry_of its.entries q (subst (λ qs. IsIn qs q) its.positions p.2) in
    let bounds = in_takes (logs 0) at.0 is.numbered (all_at (IsAmong (takes (logs 0))) its.entries at.1.0 at.0 at.1.1 its.among) in
    record {
      low = subst (λ n. first_position (logs 0) ≤ n) at.2 bounds.0;
      high = subst (λ n. n < taken (logs 0)) at.2 bounds.1;
      not_landed = no_land i.shape (logs 0) q (λ r its landed holds.
          let same : r ≡ p.0 = is.once q r p.0 its there holds (stripe_holds i.shape q p.0 ∙ p.2) (landed_not_lost (logs 0) r landed)
          (ap is_loss (first_answer (logs 0) unit p.0 p.1)) in
          no_both (has_landed (logs 0) r) landed (ap (has_landed (logs 0)) same ∙ ap is_land (first_answer (logs 0) unit p.0 p.1)));
    }

pub held_at : (i : Image) (logs : Logs) (pad : ℕ) (again : List ℕ) → IsOrdered i.shape (logs 0) → (q : ℕ) → IsIn (held (placing_of i logs pad again)) q
    → IsHeld i.shape (logs 0) q
held_at i logs pad again is q e =
    go (in_joined (positions_of (waiting i.shape (logs 0)))
    (flat_map (λ unit. positions_in (unit_row_in i logs again unit)) (range_with_len 0 (units i.shape))) q
    (subst (λ xs. IsIn xs q) (held_is i logs pad again) e))
  where
    go : IsIn (positions_of (waiting i.shape (logs 0))) q
        ⊎ IsIn (flat_map (λ unit. positions_in (unit_row_in i logs again unit)) (range_with_len 0 (units i.shape))) q → IsHeld i.shape (logs 0) q
    go (inl waits) = waiting_held i.shape (logs 0) is q waits
    go (inr placed) =
        let row = made_of (λ unit. positions_in (unit_row_in i logs again unit)) 0 (units i.shape) q placed in
        row_held i logs again is row.0 q row.3

-- ---- fronts below

least_below : (borne : ℕ → Bool) (turns p q : ℕ) → p ≤ q → q < least_missing borne turns p → borne q ≡ true
unfolding least_missing
least_below borne zero p q a b = absurd (omega arith)
least_below borne (suc turns) p q a b = go (borne p) refl b (least_below borne turns (p + 1) q)
  where
    go : (c : Bool) → borne p ≡ c → q < (if c then least_missing borne turns (p + 1) else p)
        → (p + 1 ≤ q → q < least_missing borne turns (p + 1) → borne q ≡ true) → borne q ≡ true
    go false e f rest = absurd (omega arith)
    go true e f rest = elim (cases_order p q) as (λ _. borne q ≡ true) [
      | inl same ↦ ap borne (sym same) ∙ e
      | inr (inl above) ↦ rest (omega arith) f
      | inr (inr beneath) ↦ absurd (omega arith)
    ]

bears_numbered : (test : Block → Bool) (readable : ℕ → Bool) (n : ℕ) (bs : List Block)
    → list_any (λ (b : ℕ × Block). test b.1 && readable b.0) (enumerate_from n bs) ≡ true → list_any test bs ≡ true
bears_numbered test readable n [] e = e
bears_numbered test readable n (b ∷ bs) e = go (test b) (readable n) e (bears_numbered test readable (n + 1) bs)
  where
    go : (c d : Bool) → ((c && d) || list_any (λ (b : ℕ × Block). test b.1 && readable b.0) (enumerate_from (n + 1) bs)) ≡ true
        → (list_any (λ (b : ℕ × Block). test b.1 && readable b.0) (enumerate_from (n + 1) bs) ≡ true → list_any test bs ≡ true) → (c || list_any test bs) ≡ true
    go true d f rest = refl
    go false d f rest = rest f

-- what is given back has landed
back_has_landed : (s : Shape) (log : List Logged) (q : ℕ) (ps : List Placed) → list_any (gives_back s log q) ps ≡ true
    → list_any (λ p. has_landed log p && holds_position s q p) ps ≡ true
back_has_landed s log q [] e = e
back_has_landed s log q (p ∷ ps) e =
    go (has_landed log p) (list_any (λ (b : ℕ × Block). bears_position s q b.1 && is_readable_in s log p.stripe.unit b.0 p.life)
    (enumerate_from p.stripe.at p.stripe.blocks)) refl e (back_has_landed s log q ps)
  where
    go : (c d : Bool) → list_any (λ (b : ℕ × Block). bears_position s q b.1 && is_readable_in s log p.stripe.unit b.0 p.life)
        (enumerate_from p.stripe.at p.stripe.blocks) ≡ d
        → ((c && d) || list_any (gives_back s log q) ps) ≡ true
        → (list_any (gives_back s log q) ps ≡ true → list_any (λ p. has_landed log p && holds_position s q p) ps ≡ true)
        → ((c && holds_position s q p) || list_any (λ p. has_landed log p && holds_position s q p) ps) ≡ true
    go false d is f rest = rest f
    go true true is f rest = ap (λ b. b || list_any (λ p. has_landed log p && holds_position s q p) ps)
        (bears_numbered (bears_position s q) (λ n. is_readable_in s log p.stripe.unit n p.life) p.stripe.at p.stripe.blocks is)
    go true false is f rest = later_too (holds_position s q p) (list_any (λ p. has_landed log p && holds_position s q p) ps) (rest f)
      where
        later_too : (a b : Bool) → b ≡ true → (a || b) ≡ true
        later_too true b e = refl
        later_too false b e = e

freed_under : (s : Shape) (log : List Logged) (q : ℕ) → IsHeld s log q → freed s log ≤ q
freed_under s log q at = elim (cases_order (freed s log) q) as (λ _. freed s log ≤ q) [
  | inl same ↦ omega arith
  | inr (inl above) ↦ omega arith
  | inr (inr beneath) ↦ no_both (has_landed_at s log q)
      (back_has_landed s log q (placements log)
      (least_below (λ position. list_any (gives_back s log position) (placements log)) (length (takes log)) (first_position log) q at.low beneath))
      at.not_landed
]

synced_under : (s : Shape) (log : List Logged) (q : ℕ) → IsHeld s log q → synced s log ≤ q
synced_under s log q at = elim (cases_order (synced s log) q) as (λ _. synced s log ≤ q) [
  | inl same ↦ omega arith
  | inr (inl above) ↦ omega arith
  | inr (inr beneath) ↦ no_both (has_landed_at s log q) (synced_is s log q at.low beneath) at.not_landed
]

pub held_few : (i : Image) (logs : Logs) (pad : ℕ) (again : List ℕ) (from : ℕ) → IsOrdered i.shape (logs 0) → from ≤ freed i.shape (logs 0)
    → length (held (placing_of i logs pad again)) ≤ taken (logs 0) - from
held_few i logs pad again from is below = distinct_few from (taken (logs 0) - from) (held (placing_of i logs pad again)) (held_distinct i logs pad again is)
    (λ q e.
    let at : IsHeld i.shape (logs 0) q = held_at i logs pad again is q e in
    let high : q < taken (logs 0) = at.high in
    let low : freed i.shape (logs 0) ≤ q = freed_under i.shape (logs 0) q at in
    (omega arith, omega arith))

pub in_window : (i : Image) (logs : Logs) (pad : ℕ) (again : List ℕ) (k q : ℕ) → IsOrdered i.shape (logs 0)
    → slice_get (held (placing_of i logs pad again)) k ≡ Some q → IsInWindow i.shape (logs 0) q
in_window i logs pad again k q is e =
    let at : IsHeld i.shape (logs 0) q = held_at i logs pad again is q (at_in (held (placing_of i logs pad again)) k q e) in
    record {
      from_first = at.low;
      below_taken = at.high;
      not_landed = at.not_landed;
      from_freed = freed_under i.shape (logs 0) q at;
      from_synced = synced_under i.shape (logs 0) q at;
    }

pub held_once : (i : Image) (logs : Logs) (pad : ℕ) (again : List ℕ) (j k q : ℕ) → IsOrdered i.shape (logs 0)
    → slice_get (held (placing_of i logs pad again)) j ≡ Some q → slice_get (held (placing_of i logs pad again)) k ≡ Some q → j ≡ k
held_once i logs pad again j k q is a b = distinct_at (held (placing_of i logs pad again)) j k q (held_distinct i logs pad again is) a b

pub fresh_below : (s : Shape) (log : List Logged) → IsOrdered s log → AllByRecursion (λ q. q < taken log) (positions_of (fresh_entries s log))
fresh_below s log is =
    let within : placed_front s log ≤ taken log = front_within s log is in
    subst (AllByRecursion (λ q. q < taken log)) (sym (fresh_in_order s log is))
    (all_in_range (placed_front s log) (taken log - placed_front s log) (taken log) (omega arith))

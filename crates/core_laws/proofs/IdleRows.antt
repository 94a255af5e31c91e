-- The rows of a placer in a mount: a unit's row is idle exactly where its stripes are
-- answered.
use Rattle.std.proofs.Common.{◌≡◌, ℕ, ◌+◌, ◌<◌, ◌≤◌, ◌==◌, zero, suc, Bool, true, false, Some, None, Option, List, [], ◌∷◌, map, length, refl, sym, subst, ap, ◌∙◌, arith}
use Rattle.std.specs.Prelude.{slice_get}
use Rattle.std.specs.List.{filter_map, cons_option, range_with_len}
use Rattle.std.specs.Option.{option_map_or}
use Rattle.std.proofs.lemmas.Option.{none-some, same_Some, slice_get_within}
use Rattle.pblk_model.specs.Image.{Image}
use Rattle.pblk_model.specs.Shape.{units}
use Rattle.pblk_world.specs.Events.{Logged}
use Rattle.pblk_world.specs.World.{World, Logs, log_of}
use Rattle.pblk_world.specs.EngineLog.{LineLife, AsFound, Opened, Freed, is_opened, Placed, placements, placed_on, answers, is_answered, turn}
use Rattle.pblk_world.proofs.Answered.{answers_fit}
use Rattle.stripe_placer.specs.Placing.{Program, stopped_in, is_under_way}
use Rattle.stripe_placer.specs.Placing.UnitRow.{Idle}
use Rattle.stripe_placer.proofs.Numbered.{get_mapped}
use Rattle.core_laws.specs.PlacerOf.{program_of_placed, waits_again, row_in, unit_row_in, unanswered_on}
use Rattle.world_laws.proofs.Stripes.{life_of_stripe}
use Rattle.world_laws.proofs.UnitTurns.{unit_is as its_unit}
use Rattle.core_laws.proofs.UnitTurns.{stands_at_turn}
use Rattle.core_laws.proofs.Followed.{IsFollowed}
use Rattle.pblk_model.proofs.Lists.{IsAmong}
use Rattle.pblk_model.proofs.Maps.{from_filter}
use Rattle.pblk_model.proofs.Parts.{contained_among, within_some}

-- ---- rows

row_busy : (i : Image) (logs : Logs) (b : Bool) (life : LineLife) (p : Placed) → is_opened life ≡ true → stopped_in (row_in i logs b life p) ≡ None
    → is_under_way (row_in i logs b life p) ≡ true
row_busy i logs true (Opened o) p opened none = absurd (none-some (program_of_placed i logs o p) (sym none))
row_busy i logs false (Opened o) p opened none = refl
row_busy i logs b AsFound p opened none = absurd cc
row_busy i logs b (Freed past knows) p opened none = absurd cc

-- a row that is neither under way nor stopped is of no stripe that isn't answered, and the other
-- way round
pub is_idle : (i : Image) (us : ℕ → List ℕ) (w : World) (again : List ℕ) (unit : ℕ) → IsFollowed i us w
    → is_under_way (unit_row_in i (log_of w) again unit) ≡ false
    → stopped_in (unit_row_in i (log_of w) again unit) ≡ None
    → length (answers (log_of w 0) unit) ≡ length (placed_on (log_of w 0) unit)
is_idle i us w again unit is idle none = go (unanswered_on (log_of w 0) unit) refl idle none
  where
    go : (o : Option Placed) → unanswered_on (log_of w 0) unit ≡ o
        → is_under_way (option_map_or (λ p. row_in i (log_of w) (waits_again (log_of w 0) again unit) p.life p) o Idle) ≡ false
        → stopped_in (option_map_or (λ p. row_in i (log_of w) (waits_again (log_of w 0) again unit) p.life p) o Idle) ≡ None
        → length (answers (log_of w 0) unit) ≡ length (placed_on (log_of w 0) unit)
    go None e f g =
        let most : length (answers (log_of w 0) unit) ≤ length (placed_on (log_of w 0) unit) = answers_fit i w unit is.mount.legal in
        let least : length (placed_on (log_of w 0) unit) ≤ length (answers (log_of w 0) unit) =
        none_past (placed_on (log_of w 0) unit) (length (answers (log_of w 0) unit)) e in
        omega arith
      where
        none_past : {X : Type 0} (xs : List X) (k : ℕ) → slice_get xs k ≡ None → length xs ≤ k
        none_past [] k h = omega arith
        none_past (x ∷ xs) zero h = absurd cc
        none_past (x ∷ xs) (suc k) h = let rest : length xs ≤ k = none_past xs k h in omega arith
    go (Some p) e f g =
        let among : IsAmong (placements (log_of w 0)) p =
        from_filter (λ (q : Placed). q.stripe.unit == unit) (placements (log_of w 0)) p (length (answers (log_of w 0) unit), e) in
        let life = life_of_stripe i w p is.mount.legal (contained_among (placements (log_of w 0)) p among) in
        let opened : is_opened p.life ≡ true = ap is_opened life.1 in
        let under : is_under_way (row_in i (log_of w) (waits_again (log_of w 0) again unit) p.life p) ≡ true =
        row_busy i (log_of w) (waits_again (log_of w 0) again unit) p.life p opened g in
        absurd cc

pub row_there : (i : Image) (logs : Logs) (again : List ℕ) (unit : ℕ) → unit < units i.shape
    → slice_get (map (unit_row_in i logs again) (range_with_len 0 (units i.shape))) unit ≡ Some (unit_row_in i logs again unit)
row_there i logs again unit inside = let from : 0 + unit ≡ unit = omega arith in get_mapped (unit_row_in i logs again) 0 (units i.shape) unit inside
    ∙ ap (λ u. Some (unit_row_in i logs again u)) from

-- ---- stopped stripes

-- the stripe that is offered again is that of its unit
stopped_unit : (i : Image) (logs : Logs) (b : Bool) (x : Option Placed) (unit : ℕ) (of : Program) → ((p : Placed) → x ≡ Some p → p.stripe.unit ≡ unit)
    → stopped_in (option_map_or (λ (p : Placed). row_in i logs b p.life p) x Idle) ≡ Some of → of.unit ≡ unit
stopped_unit i logs b None unit of own e = absurd cc
stopped_unit i logs b (Some p) unit of own e = go b p.life e
  where
    go : (b : Bool) (life : LineLife) → stopped_in (row_in i logs b life p) ≡ Some of → of.unit ≡ unit
    go true (Opened o) e = ap (λ (x : Program). x.unit) (sym (same_Some (program_of_placed i logs o p) of e)) ∙ own p refl
    go false (Opened o) e = absurd cc
    go b AsFound e = absurd cc
    go b (Freed past knows) e = absurd cc

pub its_row : (i : Image) (logs : Logs) (again : List ℕ) (unit : ℕ) (of : Program) → stopped_in (unit_row_in i logs again unit) ≡ Some of → of.unit ≡ unit
its_row i logs again unit of e = stopped_unit i logs (waits_again (logs 0) again unit) (unanswered_on (logs 0) unit) unit of
    (λ p there. its_unit (logs 0) unit (length (answers (logs 0) unit)) p there) e

-- where its unit has no stopped stripe, a program isn't one that is offered again
pub not_again : (i : Image) (logs : Logs) (again : List ℕ) (a n k : ℕ) (of : Program) → stopped_in (unit_row_in i logs again of.unit) ≡ None
    → slice_get (filter_map stopped_in (map (unit_row_in i logs again) (range_with_len a n))) k ≡ Some of → ⊥
not_again i logs again a zero k of none there = absurd (none-some of there)
not_again i logs again a (suc n) k of none there =
    go (stopped_in (unit_row_in i logs again a)) refl k there (λ m h. not_again i logs again (a + 1) n m of none h)
  where
    go : (o : Option Program) → stopped_in (unit_row_in i logs again a) ≡ o → (k : ℕ)
        → slice_get (cons_option o (filter_map stopped_in (map (unit_row_in i logs again) (range_with_len (a + 1) n)))) k ≡ Some of
        → ((m : ℕ) → slice_get (filter_map stopped_in (map (unit_row_in i logs again) (range_with_len (a + 1) n))) m ≡ Some of → ⊥) → ⊥
    go None e k there rest = rest k there
    go (Some x) e zero there rest =
        let own : of.unit ≡ a = its_row i logs again a of (e ∙ there) in
        none-some of (sym none ∙ ap (λ u. stopped_in (unit_row_in i logs again u)) own ∙ e ∙ there)
    go (Some x) e (suc k) there rest = rest k there

-- ---- answers

-- a unit of which each stripe has an answer
pub all_answered : (log : List Logged) (unit : ℕ) (p : Placed) → length (answers log unit) ≡ length (placed_on log unit) → IsAmong (placed_on log unit) p
    → p.stripe.unit ≡ unit → is_answered log p ≡ true
all_answered log unit p idle among same =
    let turn_is : slice_get (placed_on log p.stripe.unit) (turn log p) ≡ Some p =
    stands_at_turn log p (from_filter (λ (q : Placed). q.stripe.unit == unit) (placements log) p among) in
    let inside : turn log p < length (placed_on log p.stripe.unit) = slice_get_within (placed_on log p.stripe.unit) (turn log p) p turn_is in
    let count : length (answers log p.stripe.unit) ≡ length (placed_on log p.stripe.unit) =
    subst (λ u. length (answers log u) ≡ length (placed_on log u)) (sym same) idle in
    within_some (answers log p.stripe.unit) (turn log p) (omega arith)

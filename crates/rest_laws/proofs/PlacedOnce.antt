-- Where nothing was lost, no position is placed twice. So as many positions are placed as entries
-- are.
use Rattle.std.proofs.Common.{◌≡◌, ◌≢◌, ◌⊎◌, inl, inr, ℕ, ◌+◌, ◌<◌, ◌≤◌, ◌==◌, ◌&&◌, suc, zero, not, cond, nat_eq, nat_le, nat_lt, Bool, true, false, List, [], ◌∷◌, length, refl, sym, subst, ap, ◌∙◌, arith}
use Rattle.std.specs.List.{filter, flat_map}
use Rattle.std.proofs.lemmas.Bool.{eqb-true}
use Rattle.pblk_model.specs.declared.shape.Shape.{Shape}
use Rattle.pblk_world.specs.Events.{Logged}
use Rattle.pblk_world.specs.EngineLog.{Placed, holds_position, placements}
use Rattle.pblk_world.specs.Fronts.{first_position}
use Rattle.pblk_model.proofs.Lists.{IsAmong, later}
use Rattle.pblk_model.proofs.Parts.{all_at}
use Rattle.pblk_model.proofs.Tests.{either, or_left, or_right}
use Rattle.world_laws.proofs.UnitTurns.{Rises, rise_all}
use Rattle.core_laws.specs.Placed.{placed_count, placed_positions}
use Rattle.core_laws.specs.PlacerOf.{positions_in_stripe}
use Rattle.core_laws.proofs.PlainLogs.{NoPlacementLost}
use Rattle.core_laws.proofs.Distinct.{Distinct, IsIn, distinct_few, distinct_joined, passing}
use Rattle.core_laws.proofs.HeldPositions.{distinct_rising}
use Rattle.core_laws.proofs.Placed.{in_range, is_in_list, some_hold, stripe_holds}
use Rattle.core_laws.proofs.PlacedInOrder.{HasEntries, IsOrdered, count_is}

-- numbers that all stand in a list are no more than it has

kept_beside : (q : ℕ) (xs : List ℕ) (r : ℕ) → IsIn xs r → r ≢ q → IsIn (filter (λ x. not (x == q)) xs) r
kept_beside q [] r e other = absurd cc
kept_beside q (x ∷ xs) r e other = go (nat_eq x q) refl (either (x == r) (is_in_list xs r) e) (kept_beside q xs r)
  where
    go : (b : Bool) → nat_eq x q ≡ b → ((x == r) ≡ true) ⊎ IsIn xs r → (IsIn xs r → r ≢ q → IsIn (filter (λ y. not (y == q)) xs) r)
        → IsIn (cond (not b) (x ∷ filter (λ y. not (y == q)) xs) (filter (λ y. not (y == q)) xs)) r
    go true same (inl here) rest = absurd (other (sym (eqb-true x r here) ∙ eqb-true x q same))
    go true same (inr there) rest = rest there other
    go false apart (inl here) rest = or_left (x == r) (is_in_list (filter (λ y. not (y == q)) xs) r) here
    go false apart (inr there) rest = or_right (x == r) (is_in_list (filter (λ y. not (y == q)) xs) r) (rest there other)

no_more : (q : ℕ) (xs : List ℕ) → length (filter (λ x. not (x == q)) xs) ≤ length xs
no_more q [] = omega arith
no_more q (x ∷ xs) = go (x == q) (no_more q xs)
  where
    go : (b : Bool) → length (filter (λ y. not (y == q)) xs) ≤ length xs
        → length (cond (not b) (x ∷ filter (λ y. not (y == q)) xs) (filter (λ y. not (y == q)) xs)) ≤ suc (length xs)
    go true rest = omega (arith, rest)
    go false rest = omega (arith, rest)

fewer_without : (q : ℕ) (xs : List ℕ) → IsIn xs q → length (filter (λ x. not (x == q)) xs) < length xs
fewer_without q [] e = absurd cc
fewer_without q (x ∷ xs) e = go (x == q) refl (either (x == q) (is_in_list xs q) e) (fewer_without q xs) (no_more q xs)
  where
    go : (b : Bool) → (x == q) ≡ b → ((x == q) ≡ true) ⊎ IsIn xs q → (IsIn xs q → length (filter (λ y. not (y == q)) xs) < length xs)
        → length (filter (λ y. not (y == q)) xs) ≤ length xs
        → length (cond (not b) (x ∷ filter (λ y. not (y == q)) xs) (filter (λ y. not (y == q)) xs)) < suc (length xs)
    go true is h rest most = omega (arith, most)
    go false is (inl here) rest most = absurd (cc (here, is))
    go false is (inr there) rest most = let less : length (filter (λ y. not (y == q)) xs) < length xs = rest there in omega (arith, less)

pub enough : (a n : ℕ) (xs : List ℕ) → ((q : ℕ) → a ≤ q → q < a + n → IsIn xs q) → n ≤ length xs
enough a zero xs all = omega arith
enough a (suc n) xs all =
    let rest : n ≤ length (filter (λ x. not (x == a)) xs) = enough (a + 1) n (filter (λ x. not (x == a)) xs)
    (λ q low high. kept_beside a xs q (all q (omega (arith, low)) (omega (arith, high))) (λ e. omega (arith, low, e))) in
    let less : length (filter (λ x. not (x == a)) xs) < length xs = fewer_without a xs (all a (omega arith) (omega arith)) in
    omega (arith, rest, less)

-- which stripe of some holds a position
of_stripe : (s : Shape) (ps : List Placed) (q : ℕ) → IsIn (flat_map (λ (p : Placed). positions_in_stripe s p.stripe) ps) q
    → (p : Placed) × IsAmong ps p × (holds_position s q p ≡ true)
of_stripe s ps q e = passing (holds_position s q) ps (some_hold s q ps ∙ e)

module _ (s : Shape) (log : List Logged) (none : NoPlacementLost log) (is : IsOrdered s log) where
  distinct_in : (ps : List Placed) → Rises ps → ((p : Placed) → IsAmong ps p → IsAmong (placements log) p)
      → Distinct (flat_map (λ (p : Placed). positions_in_stripe s p.stripe) ps)
  distinct_in [] rise among = tt
  distinct_in (p ∷ ps) rise among =
      let there : IsAmong (placements log) p = among p (0, refl) in
      let its : HasEntries s log p.stripe = all_at (λ (r : Placed). HasEntries s log r.stripe) (placements log) there.0 p there.1 is.entries in
      distinct_joined (positions_in_stripe s p.stripe) (flat_map (λ (r : Placed). positions_in_stripe s r.stripe) ps)
      (subst Distinct (sym its.positions) (distinct_rising its.entries its.rising))
      (distinct_in ps rise.1 (λ r at. among r (later p ps r at)))
      (λ q here behind.
      let other = of_stripe s ps q behind in
      let same : p ≡ other.0 = is.once q p other.0 there (among other.0 (later p ps other.0 other.1)) (stripe_holds s q p ∙ here) other.2 (none p)
      (none other.0) in
      let number : p.number ≡ other.0.number = ap (λ (r : Placed). r.number) same in
      let above : p.number < other.0.number = all_at (λ (r : Placed). p.number < r.number) ps other.1.0 other.0 other.1.1 rise.0 in
      omega (arith, number, above))

  pub placed_once : length (placed_positions s log) ≡ placed_count s log
  placed_once =
      let in_it : (q : ℕ) → is_in_list (placed_positions s log) q ≡ (nat_le (first_position log) q && nat_lt q (first_position log + is.order.count)) =
      λ q. sym (some_hold s q (placements log)) ∙ is.order.held q ∙ in_range (first_position log) is.order.count q in
      let most : length (placed_positions s log) ≤ is.order.count = distinct_few (first_position log) is.order.count (placed_positions s log)
      (distinct_in (placements log) (rise_all log) (λ p at. at))
      (λ q e. let both : (nat_le (first_position log) q && nat_lt q (first_position log + is.order.count)) ≡ true = sym (in_it q) ∙ e in within q both) in
      let least : is.order.count ≤ length (placed_positions s log) = enough (first_position log) is.order.count (placed_positions s log)
      (λ q low high. in_it q ∙ inside q low high) in
      let same : length (placed_positions s log) ≡ is.order.count = omega (arith, most, least) in
      same ∙ sym (count_is s log is)
    where
      within : (q : ℕ) → (nat_le (first_position log) q && nat_lt q (first_position log + is.order.count)) ≡ true
          → (first_position log ≤ q) × (q < first_position log + is.order.count)
      within q both = grind arith

      inside : (q : ℕ) → first_position log ≤ q → q < first_position log + is.order.count
          → (nat_le (first_position log) q && nat_lt q (first_position log + is.order.count)) ≡ true
      inside q low high = grind arith

-- How far the front placed has come since a stripe was placed in the line that was opened last.
use Rattle.std.proofs.Common.{◌≡◌, ◌⊎◌, inl, inr, ℕ, ◌+◌, ◌-◌, ◌*◌, ◌<◌, ◌≤◌, suc, cond, ◌||◌, Bool, true, false, Some, List, [], ◌∷◌, ◌++◌, length, take, drop, refl, sym, subst, ap, ◌∙◌, arith, length-append, length-take}
use Rattle.std.specs.Prelude.{slice_get}
use Rattle.std.specs.List.{AllByRecursion, Contains, filter, flat_map}
use Rattle.std.proofs.lemmas.Bool.{cases_order}
use Rattle.std.proofs.lemmas.Grind.{flat_map-append}
use Rattle.std.proofs.Math.Nat.{mul-le-mul_left, mul-suc}
use Rattle.pblk_model.specs.declared.shape.Shape.{Shape}
use Rattle.pblk_model.specs.Image.{Image}
use Rattle.pblk_laws.proofs.Widths.{filter_map_length}
use Rattle.pblk_world.specs.EngineLog.{Opening, holds_position, is_life, Placed, placements, stripes_of, takes}
use Rattle.pblk_world.specs.Events.{Logged}
use Rattle.pblk_world.specs.Fronts.{first_position, was_placed}
use Rattle.pblk_world.specs.Space.{placed_front}
use Rattle.pblk_world.specs.Victims.{position_in}
use Rattle.pblk_world.specs.World.{World, log_of}
use Rattle.pblk_model.proofs.Lists.{IsAmong, among_contained}
use Rattle.pblk_model.proofs.Maps.{filter_both, in_filter}
use Rattle.pblk_model.proofs.Parts.{all_at, all_by_get, contained_among, get_right, take_and_drop}
use Rattle.pblk_model.proofs.Tests.{same_number}
use Rattle.pblk_world.specs.LegalMounts.{IsLegalMount}
use Rattle.world_laws.proofs.Later.{placed_within, placements_joined}
use Rattle.world_laws.proofs.LineStripes.{stripe_count, turn_of_stripe}
use Rattle.core_laws.specs.Placed.{placed_positions}
use Rattle.core_laws.specs.PlacerOf.{positions_in_stripe}
use Rattle.core_laws.proofs.LosslessMounts.{IsLosslessMount}
use Rattle.core_laws.specs.Spent.{OpensWhenFull}
use Rattle.core_laws.proofs.Placed.{is_in_list, stripe_holds}
use Rattle.core_laws.proofs.PlacedInOrder.{IsOrdered, ordered}
use Rattle.core_laws.proofs.PlainLogs.{NoPlacementLost, never_lost}
use Rattle.rest_laws.proofs.PlacedOnce.{placed_once}
use Rattle.rest_laws.specs.NewestOpened.{IsLastOpened}
use Rattle.core_laws.proofs.LaterLines.{none_in_older}
use Rattle.rest_laws.proofs.OverSynced.{IsOf, first_then, lost_then, of, ordered_then}

-- ---- lists

-- what those that pass make is at most so much for each of them, where the others make nothing
pub made_by_passing : {X : Type 0} (test : X → Bool) (f : X → List ℕ) (m : ℕ) (xs : List X)
    → AllByRecursion (λ x. ((test x ≡ true) × (length (f x) ≤ m)) ⊎ (f x ≡ [])) xs → length (flat_map f xs) ≤ m * length (filter test xs)
made_by_passing test f m [] all = omega arith
made_by_passing {X} test f m (x ∷ xs) all =
    let parts : length (f x ++ flat_map f xs) ≡ length (f x) + length (flat_map f xs) = length-append (f x) (flat_map f xs) in
    by all.0 (made_by_passing test f m xs all.1) parts
  where
    step : (a b c n k : ℕ) → a ≡ b + c → b ≤ m → c ≤ m * n → k ≡ suc n → a ≤ m * k
    step a b c n k x y z e = subst (λ j. a ≤ m * j) (sym e) (let more : m * suc n ≡ m * n + m = mul-suc m n in omega arith)

    skip : (a b c n k : ℕ) → a ≡ b + c → b ≡ 0 → c ≤ m * n → n ≤ k → a ≤ m * k
    skip a b c n k x y z e = let more : m * n ≤ m * k = mul-le-mul_left m e in omega arith

    longer : (b : Bool) → length (filter test xs) ≤ length (cond b (x ∷ filter test xs) (filter test xs))
    longer true = omega arith
    longer false = omega arith

    by : ((test x ≡ true) × (length (f x) ≤ m)) ⊎ (f x ≡ []) → length (flat_map f xs) ≤ m * length (filter test xs)
        → length (f x ++ flat_map f xs) ≡ length (f x) + length (flat_map f xs)
        → length (f x ++ flat_map f xs) ≤ m * length (cond (test x) (x ∷ filter test xs) (filter test xs))
    by (inl passes) rest parts =
        step (length (f x ++ flat_map f xs)) (length (f x)) (length (flat_map f xs)) (length (filter test xs))
        (length (cond (test x) (x ∷ filter test xs) (filter test xs))) parts passes.1 rest
        (ap (λ b. length (cond b (x ∷ filter test xs) (filter test xs))) passes.0)
    by (inr none) rest parts =
        skip (length (f x ++ flat_map f xs)) (length (f x)) (length (flat_map f xs)) (length (filter test xs))
        (length (cond (test x) (x ∷ filter test xs) (filter test xs))) parts (ap (λ (ys : List ℕ). length ys) none) rest (longer (test x))

-- ---- stripes

module _ (i : Image) (w : World) (lossless : IsLosslessMount i w) (full : OpensWhenFull i (log_of w)) (n : Opening) (last : IsLastOpened (log_of w 0) n) where
  abbrev log : List Logged
  log = log_of w 0

  abbrev s : Shape
  s = i.shape

  mount : IsLegalMount i w
  mount = lossless.mount

  -- after the line was opened, stripes of other lines have no entry
  since : (p : Placed) → Contains (placements (log_of w 0)) p → n.number < p.number
      → ((is_life n.number p.life ≡ true) × (length (positions_in_stripe i.shape p.stripe) ≤ i.shape.ws_opt)) ⊎ (positions_in_stripe i.shape p.stripe ≡ [])
  since p there later = by_opening (of i w lossless full p there).0 (of i w lossless full p there).1
    where
      by_opening : (x : Opening) → IsOf i w lossless full p x
          → ((is_life n.number p.life ≡ true) × (length (positions_in_stripe i.shape p.stripe) ≤ i.shape.ws_opt)) ⊎ (positions_in_stripe i.shape p.stripe ≡ [])
      by_opening x its = by (cases_order x.number n.number)
        where
          by : (x.number ≡ n.number) ⊎ ((x.number < n.number) ⊎ (n.number < x.number))
              → ((is_life n.number p.life ≡ true) × (length (positions_in_stripe i.shape p.stripe) ≤ i.shape.ws_opt))
              ⊎ (positions_in_stripe i.shape p.stripe ≡ [])
          by (inr (inr after)) = let few : x.number ≤ n.number = last.last x its.opened in absurd (omega arith)
          by (inl same) =
              let mine : is_life x.number p.life ≡ true = ap (is_life x.number) its.life ∙ same_number x.number in
              let of_line : IsAmong (stripes_of log x) p =
              in_filter (λ (y : Placed). is_life x.number y.life) (placements log) p (among_contained (placements log) p there) mine in
              let size : length p.stripe.blocks ≡ s.ws_opt =
              stripe_count i w x p mount.accepted mount.legal its.opened (contained_among (stripes_of log x) p of_line) in
              let fewer : length (positions_in_stripe s p.stripe) ≤ length p.stripe.blocks = filter_map_length (position_in s) p.stripe.blocks in
              inl (subst (λ k. is_life k p.life ≡ true) same mine, omega arith)
          by (inr (inl older)) = inr (none (positions_in_stripe s p.stripe) refl)
            where
              none : (ps : List ℕ) → positions_in_stripe i.shape p.stripe ≡ ps → positions_in_stripe i.shape p.stripe ≡ []
              none [] e = e
              none (r ∷ ps) e =
                  let holds : holds_position s r p ≡ true =
                  stripe_holds s r p ∙ ap (λ (qs : List ℕ). is_in_list qs r) e ∙ ap (λ b. b || is_in_list ps r) (same_number r) in
                  absurd (none_in_older i w mount full n x p r last.opened there its.life holds later older)

  -- the front placed is as far from the first position as positions are placed
  placed_length : (xs : List Logged) → NoPlacementLost xs → IsOrdered i.shape xs
      → placed_front i.shape xs ≡ first_position xs + length (placed_positions i.shape xs)
  placed_length xs none is =
      let count : length (placed_positions s xs) ≡ length (filter (was_placed s xs) (takes xs)) = placed_once s xs none is in
      omega (arith, count)

  pub placed_since : (j : ℕ) (p : Placed) → slice_get (stripes_of (log_of w 0) n) j ≡ Some p → Contains (placements (log_of w 0)) p → n.number < p.number
      → placed_front i.shape (log_of w 0) ≤ placed_front i.shape (take p.number (log_of w 0)) + i.shape.ws_opt * (length (stripes_of (log_of w 0) n) - j)
  placed_since j p at there later =
      let f : Placed → List ℕ = λ x. positions_in_stripe s x.stripe in
      let test : Placed → Bool = λ x. is_life n.number x.life in
      let then_ : List Logged = take m log in
      let joined = placements_joined then_ (drop m log) in
      let ps : List Placed = joined.0 in
      let split : placements log ≡ placements then_ ++ ps = ap placements (sym (take_and_drop m log)) ∙ joined.1 in
      let far : m < length log = placed_within log p there in
      let long : length then_ ≡ m = omega (arith, length-take m log) in
      let made_few : length (flat_map f ps) ≤ s.ws_opt * length (filter test ps) =
      made_by_passing test f s.ws_opt ps (all_by_get (λ x. ((test x ≡ true) × (length (f x) ≤ s.ws_opt)) ⊎ (f x ≡ [])) ps (λ k x there_k.
      let low : length then_ ≤ x.number = all_at (λ (y : Placed). length then_ ≤ y.number) ps k x there_k joined.2 in
      let mine : Contains (placements log) x = contained_among (placements log) x (
        length (placements then_) + k,
        ap (λ (xs : List Placed). slice_get xs (length (placements then_) + k)) split ∙ get_right (placements then_) ps k ∙ there_k,
      ) in
      since x mine (omega arith))) in
      let all_stripes : length (stripes_of log n) ≡ length (stripes_of then_ n) + length (filter test ps) =
      ap (λ (xs : List Placed). length (filter test xs)) split ∙ ap (λ (xs : List Placed). length xs) (filter_both test (placements then_) ps)
      ∙ length-append (filter test (placements then_)) (filter test ps) in
      let turn : length (stripes_of then_ n) ≡ j = turn_of_stripe log n j p at in
      let all_positions : length (placed_positions s log) ≡ length (placed_positions s then_) + length (flat_map f ps) =
      ap (λ (xs : List Placed). length (flat_map f xs)) split ∙ ap (λ (xs : List ℕ). length xs) (flat_map-append f (placements then_) ps)
      ∙ length-append (flat_map f (placements then_)) (flat_map f ps) in
      let now : placed_front s log ≡ first_position log + length (placed_positions s log) =
      placed_length log (never_lost log lossless.none_lost) (ordered i w lossless.mount) in
      let was : placed_front s then_ ≡ first_position then_ + length (placed_positions s then_) =
      placed_length then_ (lost_then i w lossless full p there) order_then in
      let first : first_position then_ ≡ first_position log = first_then i w lossless full m (omega arith) in
      let left : length (filter test ps) ≡ length (stripes_of log n) - j = omega arith in
      let most : length (flat_map f ps) ≤ s.ws_opt * (length (stripes_of log n) - j) = subst (λ k. length (flat_map f ps) ≤ s.ws_opt * k) left made_few in
      by_numbers (placed_front s log) (placed_front s then_) (length (placed_positions s log)) (length (placed_positions s then_)) (length (flat_map f ps))
      (first_position log) (first_position then_) (s.ws_opt * (length (stripes_of log n) - j)) now was all_positions first most
    where
      m : ℕ
      m = p.number

      order_then : IsOrdered i.shape (take p.number (log_of w 0))
      order_then = ordered_then i w lossless full p there

      by_numbers : (a b c d e f g k : ℕ) → a ≡ f + c → b ≡ g + d → c ≡ d + e → g ≡ f → e ≤ k → a ≤ b + k
      by_numbers a b c d e f g k x y z t u = omega arith

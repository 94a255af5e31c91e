-- In which line an entry stands: that of the stripe, not lost, that holds its position, while the
-- line has the life in which the stripe was placed.
use Rattle.std.proofs.Common.{◌≡◌, ℕ, ◌+◌, ◌<◌, ◌&&◌, not, Bool, true, false, Some, List, length, take, refl, sym, ap, ◌∙◌, arith}
use Rattle.std.specs.List.{Contains, filter, find, range_with_len}
use Rattle.std.specs.Option.{option_map}
use Rattle.std.proofs.lemmas.Option.{slice_get_within}
use Rattle.std.proofs.Math.Seq.{take-length}
use Rattle.pblk_model.specs.Image.{Image}
use Rattle.pblk_world.specs.Events.{Logged}
use Rattle.pblk_world.specs.World.{World, log_of}
use Rattle.pblk_world.specs.EngineLog.{AsFound, Freed, LineLife, Opened, Opening, has_landed, holds_position, is_life, life_of, Placed, placements, was_lost}
use Rattle.pblk_world.specs.Victims.{is_in_force, is_live_in, landed_line, line_of_position, live}
use Rattle.pblk_model.proofs.Lists.{among_contained}
use Rattle.pblk_model.proofs.Maps.{any_found, any_member, found_passes, in_filter, none_kept, range_get}
use Rattle.pblk_model.proofs.Options.{map_some, some_value}
use Rattle.pblk_model.proofs.Parts.{contained_among}
use Rattle.pblk_model.proofs.Tests.{both, not_true, same, same_number}
use Rattle.pblk_world.specs.LegalMounts.{IsLegalMount}
use Rattle.world_laws.proofs.Stripes.{life_of_stripe, one_opening, opening_then}
use Rattle.core_laws.proofs.PlacedAnew.{landed_not_lost, one_kept}

-- ---- tests

three : (a b c : Bool) → a ≡ true → b ≡ true → c ≡ true → (a && b && c) ≡ true
three true true true p q r = refl
three true true false p q r = absurd cc
three true false c p q r = absurd cc
three false b c p q r = absurd cc

-- ---- live sectors

pub none_is_live : (i : Image) (w : World) (line lba : ℕ) → live i (log_of w) line ≡ 0 → lba < i.shape.capacity → is_live_in i (log_of w) line lba ≡ false
none_is_live i w line lba none small = go (is_live_in i (log_of w) line lba) refl
  where
    go : (b : Bool) → is_live_in i (log_of w) line lba ≡ b → is_live_in i (log_of w) line lba ≡ false
    go false e = e
    go true e =
        let range : List ℕ = range_with_len 0 i.shape.capacity in
        let alike : 0 + lba ≡ lba = omega arith in
        let at = in_filter (is_live_in i (log_of w) line) range lba (lba, range_get 0 i.shape.capacity lba small ∙ ap (λ n. Some n) alike) e in
        let some : at.0 < length (filter (is_live_in i (log_of w) line) range) =
        slice_get_within (filter (is_live_in i (log_of w) line) range) at.0 lba at.1 in
        absurd (omega arith)

pub live_none : (i : Image) (w : World) (line : ℕ) → ((lba : ℕ) → lba < i.shape.capacity → is_live_in i (log_of w) line lba ≡ false)
    → live i (log_of w) line ≡ 0
live_none i w line none = ap length (none_kept (is_live_in i (log_of w) line) 0 i.shape.capacity
    (λ k small. let alike : 0 + k ≡ k = omega arith in ap (is_live_in i (log_of w) line) alike ∙ none k small))

-- ---- the line of a position

module _ (i : Image) (w : World) (mount : IsLegalMount i w) where
  abbrev log : List Logged
  log = log_of w 0

  -- a stripe whose line has its life still is in force
  pub in_force : (p : Placed) → Contains (placements (log_of w 0)) p → life_of (log_of w 0) p.stripe.line ≡ p.life
      → is_in_force (log_of w 0) p.life p.stripe.line ≡ true
  in_force p there stands =
      let life = life_of_stripe i w p mount.legal there in
      ap (λ l. is_in_force log l p.stripe.line) life.1 ∙ ap (is_life life.0.number) (stands ∙ life.1) ∙ same_number life.0.number

  of_force : (p : Placed) → Contains (placements (log_of w 0)) p → is_in_force (log_of w 0) p.life p.stripe.line ≡ true
      → life_of (log_of w 0) p.stripe.line ≡ p.life
  of_force p there force = go (life_of log p.stripe.line) refl (ap (λ l. is_in_force log l p.stripe.line) (sym life.1) ∙ force)
    where
      life : (o : Opening) × (p.life ≡ Opened o) × (life_of (take p.number (log_of w 0)) p.stripe.line ≡ Opened o)
      life = life_of_stripe i w p mount.legal there

      go : (l : LineLife) → life_of (log_of w 0) p.stripe.line ≡ l → is_life life.0.number l ≡ true → life_of (log_of w 0) p.stripe.line ≡ p.life
      go AsFound e h = absurd cc
      go (Freed was knows) e h = absurd cc
      go (Opened o) e h =
          let now = opening_then log (length log) p.stripe.line o (ap (λ (xs : List Logged). life_of xs p.stripe.line) (take-length log) ∙ e) in
          let then_ = opening_then log p.number p.stripe.line life.0 life.2 in
          let one : o ≡ life.0 = one_opening log o life.0 now.0 then_.0 (same o.number life.0.number h) in
          e ∙ ap Opened one ∙ sym life.1

  -- a stripe that holds the position and wasn't lost, in a line that has its life still
  pub record IsStanding (position : ℕ) (p : Placed) : Type 0 where
    pub there : Contains (placements (log_of w 0)) p
    pub holds : holds_position i.shape position p ≡ true
    pub kept : was_lost (log_of w 0) p ≡ false
    pub stands : life_of (log_of w 0) p.stripe.line ≡ p.life

  placed_test : ℕ → Placed → Bool
  placed_test position p = holds_position i.shape position p && not (was_lost (log_of w 0) p) && is_in_force (log_of w 0) p.life p.stripe.line

  landed_test : ℕ → Placed → Bool
  landed_test position p = holds_position i.shape position p && has_landed (log_of w 0) p && is_in_force (log_of w 0) p.life p.stripe.line

  pub line_stands : (position : ℕ) (p : Placed) → IsStanding position p → line_of_position i.shape (log_of w 0) position ≡ Some p.stripe.line
  unfolding placed_test
  line_stands position p h =
      let at = among_contained (placements log) p h.there in
      let found = some_value (find (placed_test position) (placements log)) (sym (any_found (placed_test position) (placements log))
      ∙ any_member (placed_test position) (placements log) at.0 p at.1
      (three (holds_position i.shape position p) (not (was_lost log p)) (is_in_force log p.life p.stripe.line) h.holds (ap not h.kept)
      (in_force p h.there h.stands))) in
      let passes = found_passes (placed_test position) (placements log) found.0 found.1 in
      let ends = both ((holds_position i.shape position found.0) && (not (was_lost log found.0))) (is_in_force log found.0.life found.0.stripe.line) passes.0 in
      let parts = both (holds_position i.shape position found.0) (not (was_lost log found.0)) ends.0 in
      let one : found.0 ≡ p = one_kept i w mount found.0 p position (contained_among (placements log) found.0 passes.1) h.there parts.0 h.holds
      (not_true (was_lost log found.0) parts.1) h.kept in
      ap (option_map (λ (q : Placed). q.stripe.line)) found.1 ∙ ap (λ (q : Placed). Some q.stripe.line) one

  pub stands_in_line : (position line : ℕ) → line_of_position i.shape (log_of w 0) position ≡ Some line
      → (p : Placed) × IsStanding position p × (p.stripe.line ≡ line)
  unfolding placed_test
  stands_in_line position line e =
      let found = map_some (λ (q : Placed). q.stripe.line) (find (placed_test position) (placements log)) line e in
      let passes = found_passes (placed_test position) (placements log) found.0 found.1 in
      let ends = both ((holds_position i.shape position found.0) && (not (was_lost log found.0))) (is_in_force log found.0.life found.0.stripe.line) passes.0 in
      let parts = both (holds_position i.shape position found.0) (not (was_lost log found.0)) ends.0 in
      let there : Contains (placements log) found.0 = contained_among (placements log) found.0 passes.1 in (
        found.0,
        record { there = there; holds = parts.0; kept = not_true (was_lost log found.0) parts.1; stands = of_force found.0 there ends.1 },
        found.2,
      )

  pub landed_stands : (position : ℕ) (p : Placed) → IsStanding position p → has_landed (log_of w 0) p ≡ true
      → landed_line i.shape (log_of w 0) position ≡ Some p.stripe.line
  unfolding landed_test
  landed_stands position p h landed =
      let at = among_contained (placements log) p h.there in
      let found = some_value (find (landed_test position) (placements log)) (sym (any_found (landed_test position) (placements log))
      ∙ any_member (landed_test position) (placements log) at.0 p at.1
      (three (holds_position i.shape position p) (has_landed log p) (is_in_force log p.life p.stripe.line) h.holds landed (in_force p h.there h.stands))) in
      let passes = found_passes (landed_test position) (placements log) found.0 found.1 in
      let ends = both ((holds_position i.shape position found.0) && (has_landed log found.0)) (is_in_force log found.0.life found.0.stripe.line) passes.0 in
      let parts = both (holds_position i.shape position found.0) (has_landed log found.0) ends.0 in
      let one : found.0 ≡ p = one_kept i w mount found.0 p position (contained_among (placements log) found.0 passes.1) h.there parts.0 h.holds
      (landed_not_lost log found.0 parts.1) h.kept in
      ap (option_map (λ (q : Placed). q.stripe.line)) found.1 ∙ ap (λ (q : Placed). Some q.stripe.line) one

  pub landed_in_line : (position line : ℕ) → landed_line i.shape (log_of w 0) position ≡ Some line
      → (p : Placed) × IsStanding position p × (has_landed (log_of w 0) p ≡ true) × (p.stripe.line ≡ line)
  unfolding landed_test
  landed_in_line position line e =
      let found = map_some (λ (q : Placed). q.stripe.line) (find (landed_test position) (placements log)) line e in
      let passes = found_passes (landed_test position) (placements log) found.0 found.1 in
      let ends = both ((holds_position i.shape position found.0) && (has_landed log found.0)) (is_in_force log found.0.life found.0.stripe.line) passes.0 in
      let parts = both (holds_position i.shape position found.0) (has_landed log found.0) ends.0 in
      let there : Contains (placements log) found.0 = contained_among (placements log) found.0 passes.1 in (
        found.0,
        record { there = there; holds = parts.0; kept = landed_not_lost log found.0 parts.1; stands = of_force found.0 there ends.1 },
        parts.1,
        found.2,
      )

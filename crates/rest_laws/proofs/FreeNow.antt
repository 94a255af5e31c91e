-- Which lines are Free or to be reset, and which are Free where no reset is left to be made.
use Rattle.std.proofs.Common.{◌≡◌, ◌⊎◌, inl, inr, ℕ, ◌*◌, ◌<◌, ◌≤◌, ◌&&◌, not, nat_lt, Bool, true, false, Some, None, is_some, refl, sym, subst, ap, ap₂, ◌∙◌, arith}
use Rattle.pblk_model.specs.Image.{Image}
use Rattle.pblk_model.specs.LineOrder.{data_len}
use Rattle.pblk_model.specs.StartRecord.{start_of}
use Rattle.pblk_world.specs.EngineLog.{AsFound, Begun, begun, Freed, life_of, LineLife, Opening}
use Rattle.pblk_world.specs.Lines.{are_empty, found_image, has_number, is_free_line, is_given_up, is_given_up_by, known_image, line_data, strays_of}
use Rattle.pblk_world.specs.Space.{full_data}
use Rattle.pblk_world.specs.World.{World, log_of}
use Rattle.std.specs.Prelude.{List, Option}
use Rattle.pblk_model.proofs.Tests.{both, lt_true, not_both, not_true}
use Rattle.pblk_world.specs.LegalMounts.{IsLegalMount}
use Rattle.pblk_world.specs.Orders.{AreReset}
use Rattle.rest_laws.specs.RoomSteps.{is_unreset}
use Rattle.rest_laws.specs.Tidy.{AreWide}
use Rattle.rest_laws.proofs.AsFoundLines.{found_empty}
use Rattle.rest_laws.proofs.RoomyShapes.{eight_stripes}

module _ (i : Image) (w : World) (mount : IsLegalMount i w) (wide : AreWide (known_image i (log_of w))) where
  -- each line has as much data as a full one
  pub all_data : (line : ℕ) → line < i.shape.chunks → line_data (known_image i (log_of w)) line ≡ full_data i.shape
  all_data line inside = ap (data_len i.shape) (wide line inside)

  -- an empty line without a sequence number is Free
  empty_free : (line : ℕ) → line < i.shape.chunks → (life : LineLife) → life_of (log_of w 0) line ≡ life → has_number i (log_of w) life line ≡ false
      → are_empty (known_image i (log_of w)) line ≡ true → is_free_line i (log_of w) line ≡ true
  empty_free line inside life is none empty =
      let eight : 8 * i.shape.ws_opt ≤ full_data i.shape = eight_stripes i.shape mount.accepted in
      let one : 0 < i.shape.ws_opt = mount.accepted.drive.ws_opt in
      let some : 0 < line_data (known_image i (log_of w)) line = subst (λ m. 0 < m) (sym (all_data line inside)) (omega arith) in
      ap₂ (λ a b. not a && b && nat_lt 0 (line_data (known_image i (log_of w)) line)) (ap (λ l. has_number i (log_of w) l line) is ∙ none) empty
      ∙ lt_true 0 (line_data (known_image i (log_of w)) line) some

  -- A line that was freed is Free, or it is to be reset.
  pub freed_soon : (line : ℕ) (was : Option Opening) (knows : List ℕ) → line < i.shape.chunks → life_of (log_of w 0) line ≡ Freed was knows
      → (is_free_line i (log_of w) line ≡ true) ⊎ (is_unreset i (log_of w) line ≡ true)
  freed_soon line was knows inside is = go (are_empty (known_image i (log_of w)) line) refl
    where
      go : (t : Bool) → are_empty (known_image i (log_of w)) line ≡ t
          → (is_free_line i (log_of w) line ≡ true) ⊎ (is_unreset i (log_of w) line ≡ true)
      go true empty = inl (empty_free line inside (Freed was knows) is refl empty)
      go false used = inr (ap₂ (λ a b. a && not b) (ap (is_given_up_by (strays_of (log_of w 0)) line) is) used)

  -- so is one that is as it was found, without a sequence number
  pub found_soon : (b : Begun) (line : ℕ) → begun (log_of w 0) ≡ Some b → line < i.shape.chunks → life_of (log_of w 0) line ≡ AsFound
      → start_of (found_image i (log_of w)) line ≡ None → (is_free_line i (log_of w) line ≡ true) ⊎ (is_unreset i (log_of w) line ≡ true)
  found_soon b line begins inside is none =
      go (is_given_up (log_of w 0) line) (are_empty (known_image i (log_of w)) line) refl refl
    where
      go : (t e : Bool) → is_given_up (log_of w 0) line ≡ t → are_empty (known_image i (log_of w)) line ≡ e
          → (is_free_line i (log_of w) line ≡ true) ⊎ (is_unreset i (log_of w) line ≡ true)
      go true false given used = inr (ap₂ (λ a b. a && not b) given used)
      go true true given empty = inl (empty_free line inside AsFound is (ap is_some none) empty)
      go false e kept same = inl (empty_free line inside AsFound is (ap is_some none) (found_empty i w mount b begins line is inside none kept))

  module _ (reset : AreReset i (log_of w)) where
    -- where no reset is left to be made it is Free
    pub soon_now : (line : ℕ) → line < i.shape.chunks → (is_free_line i (log_of w) line ≡ true) ⊎ (is_unreset i (log_of w) line ≡ true)
        → is_free_line i (log_of w) line ≡ true
    soon_now line inside (inl free) = free
    soon_now line inside (inr unreset) =
        let parts = both (is_given_up (log_of w 0) line) (not (are_empty (known_image i (log_of w)) line)) unreset in
        absurd (not_both (are_empty (known_image i (log_of w)) line) (reset line inside parts.0)
        (not_true (are_empty (known_image i (log_of w)) line) parts.1))

    pub found_free : (b : Begun) (line : ℕ) → begun (log_of w 0) ≡ Some b → line < i.shape.chunks → life_of (log_of w 0) line ≡ AsFound
        → start_of (found_image i (log_of w)) line ≡ None → is_free_line i (log_of w) line ≡ true
    found_free b line begins inside is none = soon_now line inside (found_soon b line begins inside is none)

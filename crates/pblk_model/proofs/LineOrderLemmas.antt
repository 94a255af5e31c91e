-- Lemmas on the words of LineOrder.
use Rattle.std.proofs.Common.{Bool, arith, false, nat_lt, refl, true, ℕ, ◌*◌, ◌+◌, ◌-◌, ◌<◌, ◌≡◌}
use Rattle.std.specs.Prelude.{if◌then◌else◌}
use Rattle.pblk_model.specs.LineOrder.{data_len, end_len, start_len}
use Rattle.pblk_model.specs.declared.shape.Shape.{Shape}

-- the end record ends where its line does
pub whole_line : (s : Shape) (g : ℕ) → 0 < data_len s g → start_len s + data_len s g + end_len s g ≡ g * s.clba
whole_line s g some = go (nat_lt (g * s.clba - start_len s - end_len s g) s.ws_opt) refl some
  where
    go : (b : Bool) → nat_lt (g * s.clba - start_len s - end_len s g) s.ws_opt ≡ b → 0 < (if b then 0 else g * s.clba - start_len s - end_len s g)
        → start_len s + (if b then 0 else g * s.clba - start_len s - end_len s g) + end_len s g ≡ g * s.clba
    go true e some = absurd (omega arith)
    go false e some = by_parts (g * s.clba) (start_len s) (end_len s g) some
      where
        by_parts : (n a b : ℕ) → 0 < n - a - b → a + (n - a - b) + b ≡ n
        by_parts n a b some = omega arith

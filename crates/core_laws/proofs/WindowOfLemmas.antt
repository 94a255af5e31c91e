-- Lemmas on the words of WindowOf.
use Rattle.std.proofs.Common.{List, None, Option, Some, refl, ℕ, ◌≡◌}
use Rattle.std.specs.Option.{option_map}
use Rattle.core_laws.specs.WindowOf.{HeldSector, HeldSectors, without_frame}
use Rattle.write_window.specs.declared.held.Held.{Held}

pub same_window : (from u v : ℕ) (a b : List HeldSector) → u ≡ v → a ≡ b
    → ◌≡◌ {A = HeldSectors} (record { freed = from; users = u; entries = a }) (record { freed = from; users = v; entries = b })
same_window from u v a b p q = λ i. record { freed = from; users = p i; entries = q i }

pub bytes_without : (o : Option Held)
    → option_map (λ (h : Held). h.entry.frame.bytes) o ≡ option_map (λ (h : HeldSector). h.sector) (option_map without_frame o)
bytes_without None = refl
bytes_without (Some h) = refl

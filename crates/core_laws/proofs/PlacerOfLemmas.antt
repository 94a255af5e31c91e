-- Lemmas on the words of PlacerOf.
use Rattle.std.proofs.Common.{List, [], ap, refl, suc, take, zero, ℕ, ◌∷◌, ◌≡◌}
use Rattle.core_laws.specs.PlacerOf.{positions_of}
use Rattle.pblk_world.specs.EngineLog.{Taken}

pub positions_taken : (n : ℕ) (ts : List Taken) → positions_of (take n ts) ≡ take n (positions_of ts)
positions_taken zero ts = refl
positions_taken (suc n) [] = refl
positions_taken (suc n) (t ∷ ts) = ap (λ qs. t.entry.position ∷ qs) (positions_taken n ts)

-- Lemmas on the words of Victims.
use Rattle.std.proofs.Common.{le_refl, length, refl, suc, take_all, zero, ℕ, ◌≡◌}
use Rattle.pblk_model.proofs.Numbers.{fun_same}
use Rattle.pblk_world.specs.Victims.{engine_prefix}
use Rattle.pblk_world.specs.World.{Logs}

pub whole_prefix : (logs : Logs) → engine_prefix (length (logs 0)) logs ≡ logs
whole_prefix logs = fun_same (engine_prefix (length (logs 0)) logs) logs each
  where
    each : (author : ℕ) → engine_prefix (length (logs 0)) logs author ≡ logs author
    each zero = take_all (length (logs 0)) (logs 0) (le_refl (length (logs 0)))
    each (suc unit) = refl

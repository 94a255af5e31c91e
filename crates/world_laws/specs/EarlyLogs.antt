-- The logs of a world at an earlier time, and before its units know that the mount has begun.
use Rattle.std.specs.Prelude.{ℕ, suc, ◌≡◌, take}
use Rattle.std.specs.List.{AllByRecursion}
use Rattle.pblk_world.specs.World.{World, Logs, log_of, knows_engine}

-- each is a prefix of the world's
abbrev pub ArePrefixes : World → Logs → Type 0
ArePrefixes w logs = (author : ℕ) → (n : ℕ) × (logs author ≡ take n (log_of w author))

-- no event of a unit knows any of the engine's log
abbrev pub AreEarly : Logs → Type 0
AreEarly logs = (unit : ℕ) → AllByRecursion (λ l. knows_engine l ≡ 0) (logs (suc unit))

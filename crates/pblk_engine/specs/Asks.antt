-- Up to which position pads were asked for, and by whom.
use Rattle.std.specs.Prelude.{ℕ, ◌<◌, ◌≤◌, ◌⊎◌, length}
use Rattle.pblk_model.specs.Image.{Image}
use Rattle.pblk_world.specs.AtRest.{logs_at, pad_target}
use Rattle.pblk_world.specs.World.{Logs}

-- The victim at work asked for pads up to this position or further, at a length of the engine's log
-- that is at most n.
pub record VictimAsked (i : Image) (logs : Logs) (n upto : ℕ) : Type 0 where
  pub at : ℕ
  pub has_begun : 0 < at
  pub within : at ≤ n
  pub asks : upto ≤ pad_target i (logs_at at logs) 0

-- A pad target is at most as it was, or at most what a victim at work asked for.
abbrev pub IsRaisedByVictims : Image → Logs → ℕ → ℕ → Type 0
IsRaisedByVictims i logs old new = (new ≤ old) ⊎ VictimAsked i logs (length (logs 0)) new

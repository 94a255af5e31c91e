-- Bytes as the lines of a script.
use Rattle.std.specs.Prelude.{ℕ, ◌≡◌, ◌<◌, List, map}
use Rattle.std.specs.List.{AllByRecursion, flat_map}
use Rattle.pblk_model.specs.declared.script.Command.{Command}
use Rattle.pblk_model.specs.Script.{thread_lines}
use Rattle.pblk_model.specs.ScriptText.{spoken}

-- the lines that aren't skipped are those of the script, and each begins in the first 4,194,304
-- bytes
pub record AreLinesOf (bytes : List ℕ) (script : List (List Command)) : Type 0 where
  pub lines : map (λ line. line.bytes) (spoken bytes) ≡ flat_map thread_lines script
  pub early : AllByRecursion (λ line. line.offset < 4194304) (spoken bytes)

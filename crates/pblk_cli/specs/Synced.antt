-- What a run's transcript tells of the front synced, whether the image was sealed or not.
use Rattle.std.specs.Prelude.{ℕ, ◌≤◌, ◌≡◌, List, slice_get, Some}
use Rattle.pblk_model.specs.declared.script.Command.{Command}
use Rattle.pblk_model.specs.declared.script.Command.TheVariants.{Flush}
use Rattle.pblk_model.specs.declared.shape.Shape.{Shape}
use Rattle.pblk_model.specs.History.{users}
use Rattle.pblk_model.specs.Text.{Flushed, Transcript}
use Rattle.pblk_model.specs.Transcript.{answered}
use Rattle.pblk_world.specs.Events.{Logged}
use Rattle.pblk_world.specs.Fronts.{synced, taken, user_positions}

-- how many lines of the history stand below the front synced
abbrev pub synced_lines : Shape → List Logged → ℕ
synced_lines s log = users (user_positions log) (synced s log)

-- Each `f` line counts lines of the history below the front synced, and no others.
abbrev pub AreFlushesSynced : Shape → List Logged → List (List Command) → Transcript → Type 0
AreFlushesSynced s log commands t = (i c front : ℕ) → slice_get (answered commands t i) c ≡ Some (Flush, Flushed front)
    → front ≤ synced_lines s log

-- all that was taken is synced
abbrev pub IsAllSynced : Shape → List Logged → Type 0
IsAllSynced s log = synced s log ≡ taken log

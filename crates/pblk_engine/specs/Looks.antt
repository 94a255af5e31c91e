-- What a look at the logs of a mount gives.
use Rattle.std.specs.Prelude.{List, ℕ, length}
use Rattle.pblk_model.specs.declared.run.Front.{Front}
use Rattle.pblk_model.specs.declared.shape.Shape.{Shape}
use Rattle.pblk_model.specs.Contents.{contents}
use Rattle.pblk_model.specs.History.{after as after_history}
use Rattle.pblk_model.specs.Image.{Image}
use Rattle.pblk_world.specs.Events.{Logged}
use Rattle.pblk_world.specs.Fronts.{history, synced, taken, user_takes}
use Rattle.pblk_world.specs.Lines.{found_image}
use Rattle.pblk_world.specs.World.{Logs}
use Rattle.core_laws.specs.WindowOf.{users_below}

-- what each sector holds after all that was taken
abbrev pub latest_by : Image → Logs → List (List ℕ)
latest_by i logs = after_history (contents (found_image i logs)) (history (logs 0))

-- the fronts
abbrev pub front_taken : List Logged → Front
front_taken log = record { users = length (user_takes log); position = taken log }

abbrev pub front_synced : Shape → List Logged → Front
front_synced s log = record { users = users_below log (synced s log); position = synced s log }

-- The victim at work, and how far it asks for padding, by what the engine was told.
use Rattle.std.proofs.Common.{◌≡◌, ℕ, ◌==◌, max, None, Some, Option, List, length, refl, ap, ap₂, ◌∙◌, if◌then◌else◌}
use Rattle.pblk_model.specs.Image.{Image}
use Rattle.pblk_world.specs.AtRest.{asked_by, pad_target, victim_now}
use Rattle.pblk_world.specs.Events.{Logged}
use Rattle.pblk_world.specs.Victims.{victim}
use Rattle.pblk_world.specs.World.{Logs}
use Rattle.world_laws.specs.SameTold.{AreSameTold}
use Rattle.world_laws.proofs.ToldTables.{due_told, live_told, takers_told, victim_told}

pub at_work_told : (i : Image) (a b : Logs) → AreSameTold i a b → victim_now i b ≡ victim_now i a
at_work_told i a b h = ap (λ (log : List Logged). victim i b (length log)) h.own ∙ victim_told i a b h (length (a 0))

asked_told : (i : Image) (a b : Logs) → AreSameTold i a b → (line : Option ℕ) → asked_by i b line ≡ asked_by i a line
asked_told i a b h None = refl
asked_told i a b h (Some line) = ap₂ (λ n upto. if n == 0 then upto else 0) (live_told i a b h line) (takers_told i a b h line)

pub pads_told : (i : Image) (a b : Logs) (asked : ℕ) → AreSameTold i a b → pad_target i b asked ≡ pad_target i a asked
pads_told i a b asked h = ap₂ (λ due upto. max asked (if due then upto else 0)) (due_told i a b h)
    (ap (asked_by i b) (at_work_told i a b h) ∙ asked_told i a b h (victim_now i a))

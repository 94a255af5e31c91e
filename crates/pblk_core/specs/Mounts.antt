-- What holds of a core in its mount.
use Rattle.std.specs.Prelude.{ℕ, ◌≡◌, List, [], length, slice_index}
use Rattle.pblk_model.specs.Image.{Image}
use Rattle.pblk_model.specs.declared.found.Found.{Found}
use Rattle.pblk_model.specs.declared.shape.Shape.{Shape}
use Rattle.pblk_world.specs.Events.{EngineEvent, Begin}
use Rattle.pblk_world.specs.Lines.{found_image}
use Rattle.pblk_world.specs.World.{World, Logs, log_of}
use Rattle.world_laws.specs.Finding.{IsFoundOf, NoneOpen}
use Rattle.pblk_world.specs.LegalMounts.{IsLegalMount}
use Rattle.world_laws.specs.MountBeginnings.{beginning_of}
use Rattle.core_laws.specs.Stepping.{after}
use Rattle.pblk_core.specs.Collecting.{Collects}
use Rattle.pblk_core.specs.Stands.{Stands}
use Rattle.pblk_core.specs.declared.target_core.Core.{Core}

-- What holds for the logs of its mount: of each legal mount for whose logs the core stands.
abbrev pub InItsMount : Core → (Image → World → Type 0) → Type 0
InItsMount c P = (i : Image) (w : World) → IsLegalMount i w → Stands i (log_of w) c → P i w

-- What holds for the logs of its mount, where the core also collects what they say.
abbrev pub WhereCollecting : Core → (Image → World → Type 0) → Type 0
WhereCollecting c P = InItsMount c (λ i w. Collects i (log_of w) c → P i w)

-- What holds for all logs for which the core stands, of an image that has a legal mount.
abbrev pub ByItsLogs : Core → (Image → Logs → Type 0) → Type 0
ByItsLogs c P = (i : Image) (w : World) (logs : Logs) → IsLegalMount i w → Stands i logs c → P i logs

-- What holds for the logs of each mount that begins with what recovery found on a drive of a shape,
-- as they are once the mount has begun: no chunk is Open then.
abbrev pub BeginsWith : Shape → Found → (Image → Logs → Type 0) → Type 0
BeginsWith s f P = (i : Image) (w : World) (knows : List ℕ) → i.shape ≡ s → IsLegalMount i w → log_of w 0 ≡ []
    → IsFoundOf (found_image i (after (log_of w) (Begin (beginning_of f)) knows)) f
    → NoneOpen (found_image i (after (log_of w) (Begin (beginning_of f)) knows))
    → P i (after (log_of w) (Begin (beginning_of f)) knows)

-- The core stood for some logs, and still stands for them. The same for what it collects.
abbrev pub StandsStill : Core → Core → Type 0
StandsStill old new = (i : Image) (logs : Logs) → Stands i logs old → Stands i logs new

abbrev pub CollectsStill : Core → Core → Type 0
CollectsStill old new = (i : Image) (logs : Logs) → Collects i logs old → Collects i logs new

-- Where the core stood for the logs of its mount, it now stands for them with this event of the
-- engine behind. The same for what it collects.
abbrev pub StandsAfter : Core → EngineEvent → Core → Type 0
StandsAfter old e new = (i : Image) (w : World) (knows : List ℕ) → IsLegalMount i w
    → Stands i (log_of w) old → Stands i (after (log_of w) e knows) new

abbrev pub CollectsAfter : Core → EngineEvent → Core → Type 0
CollectsAfter old e new = (i : Image) (w : World) (knows : List ℕ) → IsLegalMount i w
    → Stands i (log_of w) old → Collects i (log_of w) old → Collects i (after (log_of w) e knows) new

-- The event knows all of the engine's own log.
abbrev pub StandsAfterKnowing : Core → EngineEvent → Core → Type 0
StandsAfterKnowing old e new = (i : Image) (w : World) (knows : List ℕ) → IsLegalMount i w
    → Stands i (log_of w) old → slice_index knows 0 ≡ length (log_of w 0) → Stands i (after (log_of w) e knows) new

abbrev pub CollectsAfterKnowing : Core → EngineEvent → Core → Type 0
CollectsAfterKnowing old e new = (i : Image) (w : World) (knows : List ℕ) → IsLegalMount i w
    → Stands i (log_of w) old → Collects i (log_of w) old → slice_index knows 0 ≡ length (log_of w 0)
    → Collects i (after (log_of w) e knows) new

-- The event notes what a unit answered, by the number of the unit's event, as the logs allow it.
abbrev pub StandsAfterAnswer : Core → (ℕ → EngineEvent) → (Image → Logs → ℕ → Type 0) → Core → Type 0
StandsAfterAnswer old answer May new = (i : Image) (w : World) (event : ℕ) (knows : List ℕ) → IsLegalMount i w
    → Stands i (log_of w) old → May i (log_of w) event → Stands i (after (log_of w) (answer event) knows) new

abbrev pub CollectsAfterAnswer : Core → (ℕ → EngineEvent) → (Image → Logs → ℕ → Type 0) → Core → Type 0
CollectsAfterAnswer old answer May new = (i : Image) (w : World) (event : ℕ) (knows : List ℕ) → IsLegalMount i w
    → Stands i (log_of w) old → Collects i (log_of w) old → May i (log_of w) event
    → Collects i (after (log_of w) (answer event) knows) new

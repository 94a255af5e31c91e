-- Lemmas on the words of Stepping.
use Rattle.std.proofs.Common.{List, None, Option, Some, ap, refl, ℕ, ◌∙◌, ◌≡◌}
use Rattle.core_laws.specs.Stepping.{after}
use Rattle.pblk_model.specs.Image.{Image}
use Rattle.pblk_world.proofs.EngineLogLemmas.{begun_kept}
use Rattle.pblk_world.specs.EngineLog.{Begun, begun, begun_by}
use Rattle.pblk_world.specs.Events.{Decides, EngineEvent}
use Rattle.pblk_world.specs.Lines.{found_by, found_image}
use Rattle.pblk_world.specs.World.{Logs}

pub found_kept : (i : Image) (logs : Logs) (e : EngineEvent) (knows : List ℕ) → begun_by knows (Decides e) ≡ None
    → found_image i (after logs e knows) ≡ found_image i logs
found_kept i logs e knows none = ap (found_by i (after logs e knows)) (begun_kept (logs 0) e knows none) ∙ go (begun (logs 0))
  where
    go : (b : Option Begun) → found_by i (after logs e knows) b ≡ found_by i logs b
    go None = refl
    go (Some b) = refl

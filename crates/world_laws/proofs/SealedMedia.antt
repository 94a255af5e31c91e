-- The media of a mount over a sealed image are sealed, whatever was opened, freed, stopped or
-- failed.
use Rattle.std.proofs.Common.{◌≡◌, ℕ, ◌<◌, Some, None, Option, length, refl, sym, ap}
use Rattle.std.proofs.Math.Seq.{take-length}
use Rattle.pblk_model.specs.Image.{Image}
use Rattle.pblk_model.specs.Sealed.{IsSealed}
use Rattle.pblk_world.specs.World.{World, log_of, media}
use Rattle.pblk_world.specs.EngineLog.{Begun, begun, LineLife, AsFound, Freed, Opened, last_opening, life_of}
use Rattle.world_laws.specs.SealedLines.{IsSealedLine}
use Rattle.world_laws.proofs.FoundImages.{early_before, early_sealed}
use Rattle.world_laws.proofs.LosingLines.{all_sealed}
use Rattle.pblk_world.specs.LegalMounts.{IsLegalMount}
use Rattle.world_laws.proofs.BeforeFreeing.{before_freeing}
use Rattle.world_laws.proofs.FreedLines.{freed_sealed}
use Rattle.world_laws.proofs.OpenedSealed.{opened_sealed}
use Rattle.world_laws.proofs.UnopenedLines.{unopened_sealed}

module _ (i : Image) (w : World) (mount : IsLegalMount i w) (sealed : IsSealed i) where
  module _ (b : Begun) (begins : begun (log_of w 0) ≡ Some b) (line : ℕ) (inside : line < i.shape.chunks) where
    by_life : (life : LineLife) → life_of (log_of w 0) line ≡ life → IsSealedLine (media i (log_of w)) line
    by_life AsFound is = unopened_sealed i w mount b begins line sealed inside (ap last_opening is)
    by_life (Opened o) is = opened_sealed i w line o mount is
    by_life (Freed None knows) is = unopened_sealed i w mount b begins line sealed inside (ap last_opening is)
    by_life (Freed (Some o) knows) is = freed_sealed i w mount b begins line o knows is (before_freeing i w mount.legal b begins line o knows is)

  pub media_sealed : IsSealed (media i (log_of w))
  media_sealed = by (begun (log_of w 0)) refl
    where
      by : (o : Option Begun) → begun (log_of w 0) ≡ o → IsSealed (media i (log_of w))
      by None e = early_sealed i w (log_of w) mount.accepted mount.fit sealed mount.legal
          (λ author. (length (log_of w author), sym (take-length (log_of w author)))) (early_before i w mount.legal e)
      by (Some b) e = all_sealed (media i (log_of w)) (λ line inside. by_life b e line inside (life_of (log_of w 0) line) refl)

-- A line that was opened in this mount and freed since has what it had just before it was freed, or
-- less.
use Rattle.std.proofs.Common.{◌≡◌, ℕ, suc, Some, List, length, refl, sym, ◌∙◌, arith}
use Rattle.std.specs.List.{Contains}
use Rattle.pblk_model.specs.Image.{Image, IsFit}
use Rattle.pblk_model.specs.Records.{Record, line_records}
use Rattle.pblk_model.specs.StartRecord.{StartRecord, start_of}
use Rattle.pblk_world.specs.World.{World, log_of, media}
use Rattle.pblk_world.specs.EngineLog.{Begun, begun, Freed, Opening, life_of}
use Rattle.pblk_world.proofs.WorldLemmas.{length_media}
use Rattle.world_laws.specs.Losing.{LosesChunks}
use Rattle.world_laws.specs.SealedLines.{IsSealedLine}
use Rattle.world_laws.proofs.FitMedia.{media_fit}
use Rattle.world_laws.proofs.LosingLines.{lose_records, lose_sealed, lose_start}
use Rattle.pblk_world.specs.LegalMounts.{IsLegalMount}
use Rattle.world_laws.proofs.BeforeFreeing.{IsBefore, chunk_then, within_later}
use Rattle.world_laws.proofs.FreedChunks.{none_since}
use Rattle.world_laws.proofs.LosingChunks.{kept_or_lost}
use Rattle.world_laws.proofs.MediaChunks.{chunk_of_media}
use Rattle.world_laws.proofs.OpenedSealed.{opened_sealed}

module _ (i : Image) (w : World) (mount : IsLegalMount i w) (b : Begun) (begins : begun (log_of w 0) ≡ Some b) (line : ℕ) (o : Opening) (knows : List ℕ)
    (freed : life_of (log_of w 0) line ≡ Freed (Some o) knows) (old : IsBefore i w b line o knows) where
  pub mount_then : IsLegalMount i old.before
  mount_then = record { accepted = mount.accepted; fit = mount.fit; legal = old.earlier.legal }

  fit_then : IsFit (media i (log_of old.before))
  fit_then = media_fit i old.before mount.accepted mount.fit old.earlier.legal

  sealed_then : IsSealedLine (media i (log_of old.before)) line
  sealed_then = opened_sealed i old.before line o mount_then old.is_open

  freed_loses : LosesChunks (media i (log_of old.before)) (media i (log_of w)) line
  freed_loses = record {
    shape = refl;
    count = length_media i (log_of w) ∙ sym (length_media i (log_of old.before));
    chunks = λ unit. kept_or_lost i w mount.accepted mount.fit mount.legal unit line (length (log_of old.before (suc unit)))
        (within_later i w b old.before old.earlier (suc unit))
        (none_since i w mount.accepted mount.fit mount.legal b begins unit line o knows freed old (length (log_of w (suc unit))))
        (media i (log_of old.before)) (media i (log_of w))
        (chunk_of_media i (log_of old.before) line unit
        ∙ sym (chunk_then i w b old.before old.earlier unit line (length (log_of old.before (suc unit))) (omega arith)))
        (chunk_of_media i (log_of w) line unit);
  }

  pub freed_start : (r : StartRecord) → start_of (media i (log_of w)) line ≡ Some r → start_of (media i (log_of old.before)) line ≡ Some r
  freed_start r = lose_start (media i (log_of old.before)) (media i (log_of w)) line r mount.accepted fit_then sealed_then freed_loses

  pub freed_records : (r : Record) → Contains (line_records (media i (log_of w)) line) r → Contains (line_records (media i (log_of old.before)) line) r
  freed_records r = lose_records (media i (log_of old.before)) (media i (log_of w)) line r mount.accepted fit_then sealed_then freed_loses

  pub freed_sealed : IsSealedLine (media i (log_of w)) line
  freed_sealed = lose_sealed (media i (log_of old.before)) (media i (log_of w)) line mount.accepted fit_then sealed_then freed_loses

-- What a core notes of its lines, once a program that is under way has landed, or has failed.
use Rattle.std.proofs.Common.{◌≡◌, ℕ, ◌*◌, ◌<◌, min, not, Bool, zero, suc, Some, List, [], ◌∷◌, length, take, sym, subst, ap, ap₂, ◌∙◌, arith}
use Rattle.std.specs.Prelude.{◌↔◌, IsTrue, slice_get, slice_set}
use Rattle.pblk_model.specs.Image.{Image}
use Rattle.pblk_world.specs.Answering.{MayLand, MayLose}
use Rattle.pblk_world.specs.EngineLog.{Begun, begun}
use Rattle.pblk_world.specs.Events.{Landed, Lost}
use Rattle.pblk_world.specs.World.{World, log_of}
use Rattle.stripe_placer.specs.OpenLines.{has_left}
use Rattle.stripe_placer.specs.declared.placement.StripeKind.TheVariants as kinds
use Rattle.stripe_placer.specs.Placing.{Program}
use Rattle.pblk_world.specs.LegalMounts.{IsLegalMount}
use Rattle.core_laws.specs.ClosedLines.{top_of}
use Rattle.core_laws.specs.OpenedLines.{open_line}
use Rattle.core_laws.specs.Stepping.{after}
use Rattle.pblk_core.specs.Answering.{closed_when}
use Rattle.pblk_core.specs.declared.line_notes.LineNote.{LineNote}
use Rattle.pblk_core.specs.declared.line_notes.LineNotes.{LineNotes}
use Rattle.pblk_core.specs.LineNotes.{AreNotes, newest_landed, note_added}
use Rattle.pblk_core.proofs.LandedCore.{positions_are}
use Rattle.pblk_core.proofs.LandedNotes.{note_answered, notes_landed as landed_in, notes_lost as lost_in}
use Rattle.pblk_core.proofs.LandedWay.{IsOnWay, line_of_way}
use Rattle.pblk_core.proofs.StartKinds.{is_start}
use Rattle.pblk_model.proofs.Parts.{take_nothing}

-- the first ones of a list are those up to a number, where it has so many
pub take_fewer : {X : Type 0} (n : ℕ) (xs : List X) → take (min (length xs) n) xs ≡ take n xs
take_fewer zero xs = let none : min (length xs) 0 ≡ 0 = omega arith in ap (λ k. take k xs) none
take_fewer (suc n) [] = take_nothing (min 0 (suc n)) ∙ sym (take_nothing (suc n))
take_fewer (suc n) (x ∷ xs) =
    let next : min (suc (length xs)) (suc n) ≡ suc (min (length xs) n) = omega arith in
    ap (λ k. take k (x ∷ xs)) next ∙ ap (λ ys. x ∷ ys) (take_fewer n xs)

module _ (i : Image) (w : World) (unit event : ℕ) (knows : List ℕ) (of : Program) (mount : IsLegalMount i w) (b : Begun) (begins : begun (log_of w 0) ≡ Some b)
    (is : IsOnWay i w unit of) (gone : Bool) (old notes : LineNotes) where
  its_line : of.line ≡ is.row.stripe.stripe.line
  its_line = sym (line_of_way i w unit of is) ∙ is.its_line

  inside : is.row.stripe.stripe.line < i.shape.chunks
  inside = subst (λ n. n < i.shape.chunks) is.its_line is.line_is.well.in_range

  -- where it has landed
  pub notes_landed : MayLand (log_of w) unit event → (start : Bool) → IsTrue start ↔ (of.kind ≡ kinds.Start)
      → not (has_left (open_line i (after (log_of w) (Landed unit event) knows) is.row.opening)) ≡ gone
      → ((row : LineNote) → slice_get old.rows.items of.line ≡ Some row
      → notes.rows.items ≡ slice_set old.rows.items of.line (note_answered gone start (top_of of.positions) row))
      → ((row : LineNote) → slice_get old.rows.items of.line ≡ Some row → notes.newest ≡ newest_landed start row old.newest)
      → AreNotes i (log_of w) old → AreNotes i (after (log_of w) (Landed unit event) knows) notes
  notes_landed may start tells gone_is rows newest are =
      landed_in i w mount b begins unit event knows may is.row.stripe is.row.waits is.row.opening is.row.life is.stands is.among.0 is.among.1 start
      (is_start i w unit of mount is start tells) gone old notes gone_is inside
      (λ row there. rows row (ap (slice_get old.rows.items) its_line ∙ there)
      ∙ ap₂ (λ n qs. slice_set old.rows.items n (note_answered gone start (top_of qs) row)) its_line (positions_are i w unit of is))
      (λ row there. newest row (ap (slice_get old.rows.items) its_line ∙ there)) are

  -- and where it failed
  pub notes_lost : (may : MayLose (log_of w) unit event) (kept : ℕ) → kept ≡ may.landed_before * i.shape.ws_min
      → not (has_left (open_line i (after (log_of w) (Lost unit event) knows) is.row.opening)) ≡ gone
      → ((row : LineNote) → slice_get old.rows.items of.line ≡ Some row
      → notes.rows.items ≡ slice_set old.rows.items of.line (closed_when gone (note_added (top_of (take kept of.positions)) row)))
      → notes.newest ≡ old.newest
      → AreNotes i (log_of w) old → AreNotes i (after (log_of w) (Lost unit event) knows) notes
  notes_lost may kept kept_is gone_is rows newest are =
      lost_in i w mount b begins unit event knows may is.row.stripe is.row.waits is.row.opening is.row.life is.stands kept gone old notes kept_is gone_is inside
      (λ row there. rows row (ap (slice_get old.rows.items) its_line ∙ there)
      ∙ ap₂ (λ n qs. slice_set old.rows.items n (closed_when gone (note_added (top_of (take kept qs)) row))) its_line (positions_are i w unit of is))
      newest are

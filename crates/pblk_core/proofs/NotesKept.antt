-- What a core notes of its lines, after an event that changes nothing of it.
use Rattle.std.proofs.Common.{◌≡◌, ℕ, true, None, Some, List, sym, ap, ◌∙◌}
use Rattle.pblk_model.specs.Image.{Image}
use Rattle.pblk_world.specs.EngineLog.{Begun, begun, begun_by, Opened, Opening, life_of}
use Rattle.pblk_world.specs.Events.{Decides, EngineEvent}
use Rattle.pblk_world.specs.Lines.{known_image, told_by}
use Rattle.pblk_world.specs.World.{World, Logs, log_of}
use Rattle.pblk_world.specs.LegalMounts.{IsLegalMount}
use Rattle.core_laws.specs.ClosedLines.{ClosedLine, answered_top, closed_line, newest_numbers, starts_left}
use Rattle.core_laws.specs.LandedStripes.{keeps_landed}
use Rattle.core_laws.specs.Stepping.{after}
use Rattle.core_laws.proofs.KeptRows.{known_kept}
use Rattle.core_laws.proofs.NewestStarts.{left_kept, newest_kept}
use Rattle.pblk_core.specs.declared.line_notes.LineNotes.{LineNotes}
use Rattle.pblk_core.specs.LineNotes.{AreNotes, IsNoteOf}
use Rattle.pblk_core.specs.Resets.{ResetQueue, used_units}
use Rattle.pblk_core.specs.Stands.{AreUsed}

pub notes_kept : (i : Image) (logs new : Logs) (notes : LineNotes) → ((line : ℕ) → life_of (new 0) line ≡ life_of (logs 0) line)
    → ((line : ℕ) → closed_line i new line ≡ closed_line i logs line) → newest_numbers i new ≡ newest_numbers i logs
    → ((o : Opening) → starts_left i.shape (new 0) o ≡ starts_left i.shape (logs 0) o)
    → ((line : ℕ) (o : Opening) → life_of (logs 0) line ≡ Opened o → answered_top i new o ≡ answered_top i logs o)
    → AreNotes i logs notes → AreNotes i new notes
notes_kept i logs new notes lives closed newest starts tops are = record {
  count = are.count;
  opened = λ line o row is there.
      let before : life_of (logs 0) line ≡ Opened o = sym (lives line) ∙ is in
      let was : IsNoteOf i logs o row = are.opened line o row before there in
      record {
        seq = was.seq;
        front = was.front;
        starts_left = was.starts_left ∙ sym (starts o);
        top = was.top ∙ sym (tops line o before);
      };
  closed = λ line row there. are.closed line row there ∙ sym (closed line);
  newest = are.newest ∙ sym newest;
}

pub used_kept : (i : Image) (logs new : Logs) (resets : ResetQueue) → ((line : ℕ) → closed_line i new line ≡ closed_line i logs line)
    → ((line : ℕ) (c : ClosedLine) → closed_line i logs line ≡ Some c → used_units (known_image i new) line ≡ used_units (known_image i logs) line)
    → AreUsed i logs resets → AreUsed i new resets
used_kept i logs new resets closed same are = λ line c is.
    let was : closed_line i logs line ≡ Some c = sym (closed line) ∙ is in are line c was ∙ sym (same line c was)

-- ---- an event that turns no line, tells of no opened one's chunk, and neither places nor answers
-- a stripe

pub quiet_notes : (i : Image) (w : World) (b : Begun) (e : EngineEvent) (knows : List ℕ) (notes : LineNotes) → IsLegalMount i w
    → begun (log_of w 0) ≡ Some b → keeps_landed e ≡ true
    → ((line : ℕ) → life_of (after (log_of w) e knows 0) line ≡ life_of (log_of w 0) line)
    → ((line : ℕ) → closed_line i (after (log_of w) e knows) line ≡ closed_line i (log_of w) line)
    → ((line : ℕ) (o : Opening) → life_of (log_of w 0) line ≡ Opened o → answered_top i (after (log_of w) e knows) o ≡ answered_top i (log_of w) o)
    → AreNotes i (log_of w) notes → AreNotes i (after (log_of w) e knows) notes
quiet_notes i w b e knows notes mount begins landed lives closed tops are =
    notes_kept i (log_of w) (after (log_of w) e knows) notes lives closed (newest_kept i w b e knows mount begins landed)
    (λ o. left_kept i.shape (log_of w) e knows o landed) tops are

pub quiet_used : (i : Image) (logs : Logs) (e : EngineEvent) (knows : List ℕ) (resets : ResetQueue) → begun_by knows (Decides e) ≡ None
    → ((unit : ℕ) → told_by logs unit (Decides e) ≡ None)
    → ((line : ℕ) → closed_line i (after logs e knows) line ≡ closed_line i logs line) → AreUsed i logs resets → AreUsed i (after logs e knows) resets
quiet_used i logs e knows resets begins untold closed are =
    used_kept i logs (after logs e knows) resets closed
    (λ line c is. ap (λ (j : Image). used_units j line) (known_kept i logs e knows begins untold)) are

-- An event that places, answers, opens and frees nothing leaves the open lines as they are.
use Rattle.std.proofs.Common.{◌≡◌, ℕ, ◌<◌, Some, List, length, sym, ap, ap₂, ◌∙◌, le_of_lt}
use Rattle.std.specs.Prelude.{slice_get}
use Rattle.std.specs.List.{filter, range_with_len}
use Rattle.std.specs.Option.{is_some}
use Rattle.pblk_model.specs.Shape.{units}
use Rattle.pblk_model.specs.declared.shape.Shape.{Shape}
use Rattle.pblk_model.specs.Image.{Image, line_units}
use Rattle.pblk_world.specs.Events.{EngineEvent, Decides, Logged}
use Rattle.pblk_world.specs.World.{Logs}
use Rattle.pblk_world.specs.EngineLog.{Opening, is_life, Placed, stripes_of}
use Rattle.pblk_world.specs.Lines.{known_image}
use Rattle.stripe_placer.specs.OpenLines.{has_left}
use Rattle.core_laws.specs.Stepping.{after}
use Rattle.core_laws.specs.OpenedLines.{opened_units, bits_of, open_line, standing}
use Rattle.core_laws.proofs.Engine.{prefix_same}
use Rattle.core_laws.proofs.Steady.{AreAlike, unanswered_in, open_line_same, standing_before}
use Rattle.core_laws.proofs.LeftLines.{left_before}
use Rattle.pblk_core.specs.declared.open_lines.OpenLine.{OpenLine}
use Rattle.pblk_core.specs.declared.open_lines.OpenLines.{OpenLines}
use Rattle.pblk_core.specs.LineRecords.{AreRecordsOf, RecordsView}
use Rattle.pblk_core.specs.Stands.{left_openings, stripes_left, under_way, IsOpenLine, AreOpenLines}
use Rattle.pblk_model.proofs.Maps.{filter_agree}
use Rattle.pblk_core.proofs.WholeMarks.{records_kept}

pub stripes_same : (old new : List Logged) → AreAlike old new → (o : Opening) → stripes_of new o ≡ stripes_of old o
stripes_same old new alike o = ap (λ ps. filter (λ (p : Placed). is_life o.number p.life) ps) alike.placements

pub records_same : (s : Shape) (logs : Logs) (e : EngineEvent) (knows : List ℕ) → AreAlike (logs 0) (after logs e knows 0) → (o : Opening) (r : RecordsView)
    → AreRecordsOf s (logs 0) o r → AreRecordsOf s (after logs e knows 0) o r
records_same s logs e knows alike o r of =
    records_kept s (logs 0) (record { event = Decides e; knows = knows }) o r (stripes_same (logs 0) (after logs e knows 0) alike o) of

pub units_same : (i : Image) (logs : Logs) (e : EngineEvent) (knows : List ℕ) (o : Opening) → o.number < length (logs 0)
    → opened_units i (after logs e knows) o ≡ opened_units i logs o
units_same i logs e knows o before = ap (λ (ls : Logs). line_units (known_image i ls) o.line) (prefix_same logs e knows o.number (le_of_lt before))

pub left_same : (i : Image) (logs : Logs) (e : EngineEvent) (knows : List ℕ) → AreAlike (logs 0) (after logs e knows 0)
    → standing (after logs e knows 0) ≡ standing (logs 0)
    → left_openings i (after logs e knows) ≡ left_openings i logs
left_same i logs e knows alike same =
    ap (λ os. filter (λ (o : Opening). has_left (open_line i (after logs e knows) o)) os) same
    ∙ filter_agree (λ (o : Opening). o.number < length (logs 0)) (λ o. has_left (open_line i (after logs e knows) o)) (λ o. has_left (open_line i logs o))
    (λ o before. ap has_left (open_line_same i logs e knows alike o before)) (standing (logs 0)) (standing_before (logs 0))

pub open_same : (i : Image) (logs : Logs) (e : EngineEvent) (knows : List ℕ) (o : Opening) (kept : OpenLine) → AreAlike (logs 0) (after logs e knows 0)
    → o.number < length (logs 0)
    → IsOpenLine i logs o kept → IsOpenLine i (after logs e knows) o kept
open_same i logs e knows o kept alike before is = record {
  records = records_same i.shape logs e knows alike o kept.records is.records;
  online = is.online ∙ ap bits_of (sym (units_same i logs e knows o before));
  left = is.left ∙ ap stripes_left (sym (open_line_same i logs e knows alike o before));
}

-- where the same lines have a stripe left
pub open_lines_left : (i : Image) (logs : Logs) (e : EngineEvent) (knows : List ℕ) (kept : OpenLines) → AreAlike (logs 0) (after logs e knows 0)
    → left_openings i (after logs e knows) ≡ left_openings i logs
    → AreOpenLines i logs kept → AreOpenLines i (after logs e knows) kept
open_lines_left i logs e knows kept alike left are = record {
  two = are.two;
  shapes = are.shapes;
  count = are.count ∙ ap length (sym left);
  few = are.few;
  each = λ k o line there held.
      let old : slice_get (left_openings i logs) k ≡ Some o = ap (λ os. slice_get os k) (sym left) ∙ there in
      open_same i logs e knows o line alike (left_before i logs k o old) (are.each k o line old held);
}

-- and so where the same lines stand
pub open_lines_same : (i : Image) (logs : Logs) (e : EngineEvent) (knows : List ℕ) (kept : OpenLines) → AreAlike (logs 0) (after logs e knows 0)
    → standing (after logs e knows 0) ≡ standing (logs 0)
    → AreOpenLines i logs kept → AreOpenLines i (after logs e knows) kept
open_lines_same i logs e knows kept alike same = open_lines_left i logs e knows kept alike (left_same i logs e knows alike same)

pub under_way_same : (s : Shape) (old new : List Logged) → AreAlike old new → under_way s old ≡ under_way s new
under_way_same s old new alike =
    ap₂ (λ ps ns. length (filter (λ unit. is_some (unanswered_in ps ns unit)) (range_with_len 0 (units s)))) (sym alike.placements) (sym alike.answers)

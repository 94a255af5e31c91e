use Rattle.std.proofs.Common.{map, ap, ◌∙◌, take_all}
use Rattle.std.specs.Option.{option_map}
use Rattle.std.proofs.lemmas.Option.{slice_get-get_or}
use Rattle.pblk_meta.specs.Records.{row_numbers}
use Rattle.pblk_core.specs.OlderLines.{older_found}
use Rattle.pblk_core.proofs.FoundRows.{row_pushed, no_row}
use Rattle.pblk_core.proofs.opening.older_rows.Goals.{in-Some+in_ok-push, in_default}
use Rattle.pblk_core.proofs.opening.older_rows.Goals as goal

pub loop-line-preserved : goal.loop-line-preserved
loop-line-preserved c = elim c.match-row.branch [
  | in-Some+in_ok-push w ↦ ap (map row_numbers) w.rows-is
      ∙ row_pushed c.args.end c.loop-line.line c.args.lines.now _ c.loop-line.rows w.push.new.self w.in-Some.seq w.bound_of.result
      (slice_get-get_or c.args.lines.now c.loop-line.line _ c.loop-line-test.true) w.in-Some.is w.bound_of.ensures w.in_ok-push.ensures.ok c.loop-line.invariant
  | in_default w ↦ ap (map row_numbers) w.rows-is
      ∙ no_row c.args.end c.loop-line.line c.args.lines.now _ c.loop-line.rows
      (slice_get-get_or c.args.lines.now c.loop-line.line _ c.loop-line-test.true) (ap (option_map _) w.in_default.is) c.loop-line.invariant
]

pub returns : goal.returns
returns c = c.loop-line.invariant ∙ ap (older_found c.args.end) (take_all c.loop-line.line c.args.lines.now c.loop-line-test.false)

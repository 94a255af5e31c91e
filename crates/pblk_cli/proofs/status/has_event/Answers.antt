use Rattle.std.proofs.Common.{◌∙◌}
use Rattle.pblk_cli.proofs.EventLines.{by_close, by_opening, by_threads}
use Rattle.pblk_cli.proofs.status.has_event.Goals as goal
use Rattle.pblk_cli.proofs.status.has_event.Goals.{else-is_drive, then-is_drive}

pub returns-then-any_is_drive : goal.returns-then-any_is_drive
returns-then-any_is_drive c = λ script end. elim c.if-is_drive.branch [
  | then-is_drive w ↦ by_opening script c.args.records.now end c.if-is_drive.value
      (w.value-is ∙ c.is_drive.ensures.opening) c.if-any_is_drive.true
  | else-is_drive w ↦ by_threads script c.args.records.now end w.as_slice.result.now c.is_drive.result c.if-is_drive.value w.as_slice.ensures
      c.is_drive.ensures.opening w.if-is_drive.false (w.value-is ∙ w.any_is_drive.ensures) c.if-any_is_drive.true
]

pub returns-else-any_is_drive : goal.returns-else-any_is_drive
returns-else-any_is_drive c = λ script end. elim c.if-is_drive.branch [
  | then-is_drive w ↦ absurd (cc (w.value-is, w.if-is_drive.true, c.if-any_is_drive.false))
  | else-is_drive w ↦ by_close script c.args.records.now end w.as_slice.result.now c.is_drive.result c.if-is_drive.value
      c.is_drive-else-any_is_drive.result w.as_slice.ensures c.is_drive.ensures.opening w.if-is_drive.false
      (w.value-is ∙ w.any_is_drive.ensures) c.if-any_is_drive.false c.is_drive-else-any_is_drive.ensures.closing
]

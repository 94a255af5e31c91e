use Rattle.std.proofs.Common.{◌∙◌}
use Rattle.run_report.proofs.Accepted.{are_as_many, are_rows}
use Rattle.run_report.proofs.transcripts.transcript.Goals as goal

pub rows-requires : goal.rows-requires
rows-requires c = rw (c.as_slice.ensures, c.as_slice-threads.ensures)
    (are_as_many c.args.records.now.opening c.args.script.now c.args.records.now.threads c.requires.answered)

pub put_history-requires : goal.put_history-requires
put_history-requires c =
    are_rows c.args.script.now c.args.records.now c.deref.result.now c.requires (c.deref.ensures.value
    ∙ (rw (c.as_slice.ensures, c.as_slice-threads.ensures) at c.in_ok-rows.ensures))

pub kept-kept-requires : goal.kept-kept-requires
kept-kept-requires c =
    are_rows c.args.script.now c.args.records.now c.deref-2.result.now c.requires (c.deref-2.ensures.value
    ∙ (rw (c.as_slice.ensures, c.as_slice-threads.ensures) at c.in_ok-rows.ensures))

use Rattle.std.proofs.Common.{◌∙◌}
use Rattle.run_report.specs.declared.counts.Counted.TheVariants as counted
use Rattle.run_report.proofs.Accepted.{are_as_many, are_rows}
use Rattle.run_report.proofs.FewCommands.{total_fits}
use Rattle.run_report.proofs.counts.totals.Goals as goal

pub rows-requires : goal.rows-requires
rows-requires c = rw (c.as_slice.ensures, c.as_slice-threads.ensures)
    (are_as_many c.args.records.now.opening c.args.script.now c.args.records.now.threads c.requires.answered)

pub kept-kept-requires : goal.kept-kept-requires
kept-kept-requires c =
    are_rows c.args.script.now c.args.records.now c.deref.result.now c.requires (c.deref.ensures.value
    ∙ (rw (c.as_slice.ensures, c.as_slice-threads.ensures) at c.in_ok-rows.ensures))

pub count-commands-requires : goal.count-commands-requires
count-commands-requires c = rw c.as_slice-threads.ensures (total_fits counted.Commands c.args.script.now c.args.records.now c.requires)

pub count-writes-requires : goal.count-writes-requires
count-writes-requires c = rw c.as_slice-threads.ensures (total_fits counted.Writes c.args.script.now c.args.records.now c.requires)

pub count-sectors-requires : goal.count-sectors-requires
count-sectors-requires c = rw c.as_slice-threads.ensures (total_fits counted.Sectors c.args.script.now c.args.records.now c.requires)

pub count-reads-requires : goal.count-reads-requires
count-reads-requires c = rw c.as_slice-threads.ensures (total_fits counted.Reads c.args.script.now c.args.records.now c.requires)

pub count-flushes-requires : goal.count-flushes-requires
count-flushes-requires c = rw c.as_slice-threads.ensures (total_fits counted.Flushes c.args.script.now c.args.records.now c.requires)

use Rattle.scan_recovery.proofs.fetching.fetch_mark.Goals as goal

pub is_written-requires-clause-closed : goal.is_written-requires-clause-closed
is_written-requires-clause-closed g c = c.requires.closed c.args.line c.args.unit

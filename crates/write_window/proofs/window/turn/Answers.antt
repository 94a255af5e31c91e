use Rattle.write_window.proofs.Runs.{with_is_set}
use Rattle.write_window.proofs.window.turn.Goals as goal

pub returns-clause-items : goal.returns-clause-items
returns-clause-items c = with_is_set c.args.entries.now.items c.args.index c.index_mut.result.now c.args.to c.requires.inside c.index_mut.ensures.value

use Rattle.std.proofs.Common.{List, ◌++◌, take}
use Rattle.pblk_model.specs.declared.script.Command.{Command}
use Rattle.run_threads.specs.Names.{AreNames, PostOnce}
use Rattle.run_threads.proofs.names.Names.prepare.Given as goal

abbrev pub invariant-loop-command : goal.invariant-loop-command
invariant-loop-command l = (before rest : List Command) → AreNames l.fn.self before → PostOnce (before ++ (l.commands ++ rest))
    → AreNames l.self (before ++ take l.command-index l.commands)

use Rattle.std.proofs.Common.{◌≡◌, map}
use Rattle.run_script.proofs.thread.Thread.into_commands.Given as goal

abbrev pub invariant-loop-command : goal.invariant-loop-command
invariant-loop-command l = ((goal.iterator-loop-command).can_next l.command-iterator) × ((goal.iterator-loop-command).is_finite l.command-iterator)
    × (l.commands ≡ map (λ x. x.1) l.yielded)

use Rattle.std.proofs.Common.{ap, sym, ◌∙◌}
use Rattle.block_port.specs.Port.{ModelPort}
use Rattle.run_threads.specs.Names.{told_by}
use Rattle.run_threads.proofs.Hearing.{hears}
use Rattle.run_threads.proofs.command.hear.Goals as goal

pub returns-clause-answer : goal.returns-clause-answer
returns-clause-answer g c = λ at all.
    let told = told_by c.args.board.now.names at in
    hears told (g.P.Port.model c.args.port.now) (g.P.Port.model c.hear.new.self) c.args.name.now c.hear-note.result.position
    (ap told (sym c.as_str.ensures) ∙ (c.hear-note.ensures.told at all).0) c.hear.ensures

pub returns-clause-known : goal.returns-clause-known
returns-clause-known g c = λ at all. (c.hear-note.ensures.told at all).1

pub returns-clause-capacity : goal.returns-clause-capacity
returns-clause-capacity g c = ap (λ (p : ModelPort). p.capacity) c.hear.ensures

use Rattle.unit_port.proofs.Units.{told_quiet}
use Rattle.pblk_engine.proofs.commands.reset.Goals as goal

pub returns-clause-given : goal.returns-clause-given
returns-clause-given g c =
    let event = c.reset.ensures.event in
    record {
      outcome = event.0;
      told = event.1;
      steps = event.2;
      fits = c.reset.ensures.fits;
      quiet = λ unarmed. (told_quiet c.reset.result event.0 event.1 (c.reset.ensures.quiet unarmed)).1;
    }

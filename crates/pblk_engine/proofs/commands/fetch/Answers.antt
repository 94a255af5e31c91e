use Rattle.unit_port.proofs.Units.{block_quiet}
use Rattle.pblk_engine.proofs.commands.fetch.Goals as goal

pub returns-clause-given : goal.returns-clause-given
returns-clause-given g c =
    let event = c.fetch.ensures.event in
    record {
      outcome = event.0;
      told = event.1;
      steps = event.2;
      fits = c.fetch.ensures.fits;
      quiet = λ unarmed. (block_quiet c.args.out.now c.fetch.new.out c.fetch.result event.0 event.1 (c.fetch.ensures.quiet unarmed)).1;
    }

use Rattle.pblk_engine.proofs.Meetings.{worker_met}
use Rattle.pblk_engine.proofs.worker.Worker.meet.Goals as goal

pub invariant_of-self : goal.invariant_of-self
invariant_of-self g c =
    let w = c.self.inside in
    let e = c.meet.ensures in (
      c.self.invariant.0,
      worker_met g.M.Mount.chronicle g.M.Mount.past w.token c.meet.new.self c.args.note.known w.number w.stripe w.made c.self.invariant.1 c.requires.note.noted
          e.met e.keeps e.learns e.legal e.begun,
    )

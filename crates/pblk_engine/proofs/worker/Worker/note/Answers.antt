use Rattle.std.proofs.Common.{sym, subst}
use Rattle.pblk_engine.specs.Notes.{IsNoteOf}
use Rattle.pblk_engine.proofs.Meetings.{worker_note}
use Rattle.pblk_engine.proofs.worker.Worker.note.Goals as goal

pub returns-clause-note : goal.returns-clause-note
returns-clause-note g c =
    let w = c.self.inside in
    subst (IsNoteOf g.M.Mount.chronicle g.M.Mount.past) (sym c.note.ensures.note)
    (worker_note g.M.Mount.chronicle g.M.Mount.past w.token w.number w.stripe w.made c.self.invariant.1)

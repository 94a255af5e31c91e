use Rattle.pblk_engine.proofs.Meetings.{unit_note}
use Rattle.pblk_engine.proofs.arm.Arm.note.Goals as goal

pub returns-clause-note : goal.returns-clause-note
returns-clause-note g c =
    let a = c.self.inside in
    let e = c.note.ensures in
    unit_note g.M.Mount.chronicle g.M.Mount.past g.M.Mount.handed g.M.Mount.wear a.number (g.U.Unit.model a.unit) (g.U.Unit.wear a.unit) a.author c.note.result
    c.self.invariant.1.unit c.self.invariant.1.noted e.note_of e.note_past e.note_known

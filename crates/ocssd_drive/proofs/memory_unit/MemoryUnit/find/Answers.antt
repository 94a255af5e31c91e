use Rattle.std.proofs.Common.{◌∙◌, sym}
use Rattle.ocssd_drive.proofs.UnitChunks.{looked_up, not_there}
use Rattle.ocssd_drive.proofs.memory_unit.MemoryUnit.find.Goals as goal

pub returns-clause-found : goal.returns-clause-found
returns-clause-found c =
    let lookup = rw c.deref.ensures.value at c.get.ensures.lookup in
    looked_up c.self.inside c.args.self.now c.args.chunk c.get.result c.self.invariant c.self.view_is lookup.0 lookup.1

pub returns-clause-none : goal.returns-clause-none
returns-clause-none c none =
    let lookup = rw c.deref.ensures.value at c.get.ensures.lookup in
    not_there c.self.inside c.args.self.now c.args.chunk c.self.view_is (sym lookup.0 ∙ none)

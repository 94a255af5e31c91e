use Rattle.std.proofs.Common.{refl}
use Rattle.pblk_model.specs.declared.shape.Shape.{Shape}
use Rattle.pblk_model.specs.ChunkStep.{Reset}
use Rattle.ocssd_drive.proofs.Taking.{not_found, ready, takes}
use Rattle.ocssd_drive.proofs.memory_unit.MemoryUnit.takes_reset.Goals as goal

pub returns-in-Some-clause-exact : goal.returns-in-Some-clause-exact
returns-in-Some-clause-exact c =
    let is = ready c.args.self.now.unit c.args.chunk (λ (s : Shape). Reset) c.in-Some.found.now (Unit {0}) c.reset_refusal.result c.is_none.result c.in-Some.ensures.found tt c.reset_refusal.ensures c.is_none.ensures in
    (λ t. (is.0 t).1, λ r. is.1 (tt, r))

pub returns-in-Some-clause-taken : goal.returns-in-Some-clause-taken
returns-in-Some-clause-taken c = λ t. takes _ _ _ ((returns-in-Some-clause-exact c).0 t)

pub returns-in-None-clause-exact : goal.returns-in-None-clause-exact
returns-in-None-clause-exact c =
    let is = not_found c.args.self.now.unit c.args.chunk Reset (Unit {0}) (c.in-None.ensures.none refl) in
    (λ t. (is.0 t).1, λ r. is.1 (tt, r))

pub returns-in-None-clause-taken : goal.returns-in-None-clause-taken
returns-in-None-clause-taken c = λ t. takes _ _ _ ((returns-in-None-clause-exact c).0 t)

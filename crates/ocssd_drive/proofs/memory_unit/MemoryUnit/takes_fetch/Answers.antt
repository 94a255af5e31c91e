use Rattle.std.proofs.Common.{◌≡◌, length, refl, sym, subst}
use Rattle.pblk_model.specs.declared.shape.Shape.{Shape}
use Rattle.pblk_model.specs.ChunkStep.{Read}
use Rattle.ocssd_drive.specs.Units.{WornUnit}
use Rattle.ocssd_drive.proofs.Taking.{not_found, not_same, ready, takes}
use Rattle.ocssd_drive.proofs.memory_unit.MemoryUnit.takes_fetch.Goals as goal

pub returns-then-out-self-clause-exact : goal.returns-then-out-self-clause-exact
returns-then-out-self-clause-exact c = ready c.args.self.now.unit c.args.chunk (λ (s : Shape). Read c.args.block) c.in-Some.found.now (length c.args.out.now ≡ c.args.self.now.unit.shape.sector) c.read_refusal.result c.is_none.result c.in-Some.ensures.found
    (subst (λ (v : WornUnit). (length c.args.out.now ≡ v.unit.shape.sector)) c.self.view_is c.if-out-self.true) c.read_refusal.ensures c.is_none.ensures

pub returns-then-out-self-clause-whole : goal.returns-then-out-self-clause-whole
returns-then-out-self-clause-whole c = λ t. ((returns-then-out-self-clause-exact c).0 t).0

pub returns-then-out-self-clause-taken : goal.returns-then-out-self-clause-taken
returns-then-out-self-clause-taken c = λ t. takes _ _ _ ((returns-then-out-self-clause-exact c).0 t).1

pub returns-else-out-self-clause-exact : goal.returns-else-out-self-clause-exact
returns-else-out-self-clause-exact c = not_same (length c.args.out.now) c.self.inside.shape.sector _ _ (λ h. subst (λ (v : WornUnit). (length c.args.out.now ≡ v.unit.shape.sector)) (sym c.self.view_is) h) c.if-out-self.false

pub returns-else-out-self-clause-whole : goal.returns-else-out-self-clause-whole
returns-else-out-self-clause-whole c = λ t. ((returns-else-out-self-clause-exact c).0 t).0

pub returns-else-out-self-clause-taken : goal.returns-else-out-self-clause-taken
returns-else-out-self-clause-taken c = λ t. takes _ _ _ ((returns-else-out-self-clause-exact c).0 t).1

pub returns-in-None-clause-exact : goal.returns-in-None-clause-exact
returns-in-None-clause-exact c = not_found c.args.self.now.unit c.args.chunk _ _ (c.in-None.ensures.none refl)

pub returns-in-None-clause-whole : goal.returns-in-None-clause-whole
returns-in-None-clause-whole c = λ t. ((returns-in-None-clause-exact c).0 t).0

pub returns-in-None-clause-taken : goal.returns-in-None-clause-taken
returns-in-None-clause-taken c = λ t. takes _ _ _ ((returns-in-None-clause-exact c).0 t).1

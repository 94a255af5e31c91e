use Rattle.std.proofs.Common.{◌≡◌, ◌*◌, length, refl, sym, subst}
use Rattle.pblk_model.specs.declared.shape.Shape.{Shape}
use Rattle.pblk_model.specs.Blocks.{blocks_of}
use Rattle.pblk_model.specs.ChunkStep.{Write}
use Rattle.ocssd_drive.specs.Units.{WornUnit}
use Rattle.ocssd_drive.proofs.Taking.{not_found, not_whole, ready, takes}
use Rattle.ocssd_drive.proofs.memory_unit.MemoryUnit.takes_program.Goals as goal

pub returns-then-has_sectors-clause-exact : goal.returns-then-has_sectors-clause-exact
returns-then-has_sectors-clause-exact c = ready c.args.self.now.unit c.args.chunk (λ (s : Shape). Write c.args.at (blocks_of s.sector c.args.bytes.now c.args.marks.now)) c.in-Some.found.now (length c.args.bytes.now ≡ length c.args.marks.now * c.args.self.now.unit.shape.sector) c.write_refusal.result c.is_none.result c.in-Some.ensures.found
    (subst (λ (v : WornUnit). (length c.args.bytes.now ≡ length c.args.marks.now * v.unit.shape.sector)) c.self.view_is (c.has_sectors.ensures.0 c.if-has_sectors.true)) c.write_refusal.ensures c.is_none.ensures

pub returns-then-has_sectors-clause-whole : goal.returns-then-has_sectors-clause-whole
returns-then-has_sectors-clause-whole c = λ t. ((returns-then-has_sectors-clause-exact c).0 t).0

pub returns-then-has_sectors-clause-taken : goal.returns-then-has_sectors-clause-taken
returns-then-has_sectors-clause-taken c = λ t. takes _ _ _ ((returns-then-has_sectors-clause-exact c).0 t).1

pub returns-else-has_sectors-clause-exact : goal.returns-else-has_sectors-clause-exact
returns-else-has_sectors-clause-exact c = not_whole _ _ c.has_sectors.result c.if-has_sectors.false (λ h. c.has_sectors.ensures.1 (subst (λ (v : WornUnit). (length c.args.bytes.now ≡ length c.args.marks.now * v.unit.shape.sector)) (sym c.self.view_is) h))

pub returns-else-has_sectors-clause-whole : goal.returns-else-has_sectors-clause-whole
returns-else-has_sectors-clause-whole c = λ t. ((returns-else-has_sectors-clause-exact c).0 t).0

pub returns-else-has_sectors-clause-taken : goal.returns-else-has_sectors-clause-taken
returns-else-has_sectors-clause-taken c = λ t. takes _ _ _ ((returns-else-has_sectors-clause-exact c).0 t).1

pub returns-in-None-clause-exact : goal.returns-in-None-clause-exact
returns-in-None-clause-exact c = not_found c.args.self.now.unit c.args.chunk _ _ (c.in-None.ensures.none refl)

pub returns-in-None-clause-whole : goal.returns-in-None-clause-whole
returns-in-None-clause-whole c = λ t. ((returns-in-None-clause-exact c).0 t).0

pub returns-in-None-clause-taken : goal.returns-in-None-clause-taken
returns-in-None-clause-taken c = λ t. takes _ _ _ ((returns-in-None-clause-exact c).0 t).1

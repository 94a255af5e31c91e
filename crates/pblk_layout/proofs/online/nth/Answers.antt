use Rattle.std.proofs.Common.{sym, ◌∙◌, arith}
use Rattle.pblk_layout.proofs.Sets.{here, behind, without, none_left, from_first}
use Rattle.pblk_layout.proofs.online.nth.Goals as goal
use Rattle.pblk_layout.proofs.online.nth.Goals.{then-is_in+else-left-eq0, else-is_in}

pub loop-unit-init : goal.loop-unit-init
loop-unit-init c = from_first c.args.online c.args.n

pub returns-then-left-eq0 : goal.returns-then-left-eq0
returns-then-left-eq0 c = here c.args.online c.loop-unit.unit c.loop-unit.left c.args.n c.loop-unit-test.true
    (sym c.is_in.ensures.is ∙ c.if-is_in.true) c.if-left-eq0.true c.loop-unit.invariant

pub loop-unit-preserved : goal.loop-unit-preserved
loop-unit-preserved c =
    elim c.if-is_in.branch [
      | then-is_in+else-left-eq0 w ↦ rw w.left-is
          (behind c.args.online c.loop-unit.unit c.loop-unit.left c.args.n c.loop-unit-test.true (sym c.is_in.ensures.is ∙ w.if-is_in.true)
          (omega (arith, w.if-left-eq0.false)) c.loop-unit.invariant)
      | else-is_in w ↦ rw w.left-is (without c.args.online c.loop-unit.unit c.loop-unit.left c.args.n c.loop-unit-test.true
          (sym c.is_in.ensures.is ∙ w.if-is_in.false) c.loop-unit.invariant)
    ]

pub unreachable-requires : goal.unreachable-requires
unreachable-requires c = none_left c.args.online c.loop-unit.unit c.loop-unit.left c.args.n c.loop-unit-test.false c.requires c.loop-unit.invariant

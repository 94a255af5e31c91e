use Rattle.std.proofs.Common.{◌+◌, ◌∙◌, refl, sym, ap, arith}
use Rattle.pblk_cli.proofs.Bits.{below, few, none_more, one_more, shifted}
use Rattle.pblk_cli.proofs.create.least_bits.Goals.{then-power-from, else-power-from}
use Rattle.pblk_cli.proofs.create.least_bits.Goals as goal

pub loop-power-init : goal.loop-power-init
loop-power-init c = refl

pub overflow_add-bits : goal.overflow_add-bits
overflow_add-bits c = omega (arith, c.loop-power.invariant, few c.args.count c.loop-power.power, c.loop-power-test.true)

pub loop-power-preserved : goal.loop-power-preserved
loop-power-preserved c = let s = shifted c.loop-power.power c.loop-power-test.true in
    elim c.if-power-from.branch [
      | then-power-from w ↦ w.bits-is ∙ ap (λ b. b + 1) c.loop-power.invariant
          ∙ sym (one_more c.args.count c.loop-power.power (omega (arith, s, w.if-power-from.true, c.from.ensures)))
      | else-power-from w ↦ w.bits-is ∙ c.loop-power.invariant
          ∙ sym (none_more c.args.count c.loop-power.power (omega (arith, s, w.if-power-from.false, c.from.ensures)))
    ]

pub returns : goal.returns
returns c = c.loop-power.invariant ∙ ap (below c.args.count) {y = 32} (omega (arith, c.loop-power-test.false, c.loop-power.auto.power-end))

use Rattle.std.proofs.Common.{◌+◌, ◌-◌, sym, ap, ◌∙◌, arith}
use Rattle.pblk_model.specs.StartRecord.{written_run}
use Rattle.image_check.proofs.RunLemmas.{run_all, run_first, run_more, run_none, then_run}
use Rattle.image_check.proofs.line.Line.run.Goals as goal

pub loop-place-init : goal.loop-place-init
loop-place-init c = ap (λ xs. then_run xs (written_run c.args.self.now.image c.args.self.now.number c.args.at (c.args.at + c.args.count - c.args.at)))
    c.in_ok-blocks.ensures.items
    ∙ run_first (written_run c.args.self.now.image c.args.self.now.number c.args.at (c.args.at + c.args.count - c.args.at))
    ∙ ap (written_run c.args.self.now.image c.args.self.now.number c.args.at) (omega arith)

pub returns-in-None : goal.returns-in-None
returns-in-None c = run_none c.args.self.now.image c.args.self.now.number c.loop-place.place (c.args.at + c.args.count - c.loop-place.place)
    (c.args.at + c.args.count - (c.loop-place.place + 1)) c.loop-place.blocks.items
    (written_run c.args.self.now.image c.args.self.now.number c.args.at c.args.count)
    (omega (arith, c.loop-place-test.true, c.loop-place.auto.place-end)) (sym c.in-None.is ∙ c.block.ensures) c.loop-place.invariant

pub loop-place-preserved : goal.loop-place-preserved
loop-place-preserved c = run_more c.args.self.now.image c.args.self.now.number c.loop-place.place (c.args.at + c.args.count - c.loop-place.place)
    (c.args.at + c.args.count - (c.loop-place.place + 1)) c.loop-place.blocks.items c.push.new.self.items c.in-Some.block
    (written_run c.args.self.now.image c.args.self.now.number c.args.at c.args.count)
    (omega (arith, c.loop-place-test.true, c.loop-place.auto.place-end))
    (sym c.in-Some.is ∙ c.block.ensures) c.in_ok-push-in-Some.ensures.items c.loop-place.invariant

pub returns : goal.returns
returns c = run_all c.args.self.now.image c.args.self.now.number c.loop-place.place (c.args.at + c.args.count - c.loop-place.place)
    c.loop-place.blocks.items (written_run c.args.self.now.image c.args.self.now.number c.args.at c.args.count)
    (omega (arith, c.loop-place-test.false, c.loop-place.auto.place-end)) c.loop-place.invariant

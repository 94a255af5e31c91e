use Rattle.std.proofs.Common.{◌≡◌, ◌++◌, ◌∷◌, [], ap, ◌∙◌}
use Rattle.pblk_reference.proofs.Starts.{run_goes_on, run_stops, run_is_done}
use Rattle.pblk_model.specs.StartRecord.{written_run}
use Rattle.pblk_reference.proofs.start.written_run.Goals as goal

pub returns-in-None : goal.returns-in-None
returns-in-None c = run_stops c.args.image.now c.args.line c.args.at c.args.n c.loop-k.k c.loop-k.found.items
    (written_run c.args.image.now c.args.line c.args.at c.args.n) c.loop-k-test.true c.in-None.ensures c.loop-k.invariant

pub loop-k-preserved : goal.loop-k-preserved
loop-k-preserved c =
    let now : c.push.new.self.items ≡ c.loop-k.found.items ++ c.in-Some.block.now ∷ [] = c.in_ok-push-in-Some.ensures.items
    ∙ ap (λ b. c.loop-k.found.items ++ b ∷ []) c.in_ok-copied-in-Some.ensures in
    run_goes_on c.args.image.now c.args.line c.args.at c.args.n c.loop-k.k c.loop-k.found.items c.push.new.self.items c.in-Some.block.now
    (written_run c.args.image.now c.args.line c.args.at c.args.n) c.loop-k-test.true c.in-Some.ensures now c.loop-k.invariant

pub returns : goal.returns
returns c = run_is_done c.args.image.now c.args.line c.args.at c.args.n c.loop-k.k c.loop-k.found.items
    (written_run c.args.image.now c.args.line c.args.at c.args.n) c.loop-k-test.false c.loop-k.invariant

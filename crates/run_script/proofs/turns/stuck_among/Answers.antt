use Rattle.std.proofs.Common.{◌≡◌, ◌<◌, ◌+◌, ap, ◌∙◌, arith, length, map, take}
use Rattle.std.specs.List.{flat_map}
use Rattle.pblk_model.specs.ScriptText.{stuck_at, unposted}
use Rattle.run_script.specs.Turns.{lifted}
use Rattle.run_script.proofs.RunOn.{left_all}
use Rattle.run_script.proofs.RunOnLoops.{fill_next, fill_end}
use Rattle.run_script.proofs.turns.stuck_among.Goals as goal

pub loop-index-preserved : goal.loop-index-preserved
loop-index-preserved c =
    let early : c.loop-index.index < 16 = omega (arith, c.loop-index-test.true, c.min-count.ensures) in
    let within : c.loop-index.index < length c.args.ended.now = omega (arith, c.loop-index-test.true, c.min-count.ensures) in
    fill_next (λ x. x.now) c.loop-index.left c.args.ended.now c.args.last.now c.loop-index.index c.as_slice.result c.index-ended-index.result
    c.loop-index.invariant early within c.index-ended-index.is c.as_slice.ensures

pub returns : goal.returns
returns c = λ all are few known.
    let n : c.loop-index.index ≡ length c.args.ended.now = omega (arith, c.loop-index.auto.index-end, c.loop-index-test.false, c.min-count.ensures, few) in
    let count : c.min-count.result ≡ c.loop-index.index = omega (arith, n, c.min-count.ensures, few) in
    let filled = fill_end (λ x. x.now) c.loop-index.left c.args.ended.now c.args.last.now c.loop-index.index c.loop-index.invariant n few in
    let same = ap (λ k. map (λ x. x.now) (take (k + 1) c.loop-index.left)) count ∙ filled in
    c.stuck_at.ensures all (left_all all c.args.names.now are) (ap (λ ts. unposted all (flat_map lifted ts)) same ∙ known) ∙ ap stuck_at same

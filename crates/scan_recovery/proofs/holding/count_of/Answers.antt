use Rattle.std.proofs.Common.{◌≡◌, ◌<◌, length, ap, sym, subst, arith}
use Rattle.pblk_model.specs.declared.shape.Shape.{Shape}
use Rattle.scan_recovery.specs.Survey.{IsCountTo}
use Rattle.scan_recovery.specs.Starts.{line_start}
use Rattle.scan_recovery.proofs.Founds.{there}
use Rattle.scan_recovery.proofs.Surveys.{count_new}
use Rattle.scan_recovery.proofs.holding.count_of.Goals as goal

pub loop-line-init : goal.loop-line-init
loop-line-init c =
    count_new c.args.media.now c.shape-shape.result.capacity c.shape-shape.result.chunks c.in_ok-count.count
    (sym (ap (λ (s : Shape). s.capacity) c.shape-shape.ensures.shape)) (sym (ap (λ (s : Shape). s.chunks) c.shape-shape.ensures.shape)) c.in_ok-count.ensures

pub count_line-requires-clause-start : goal.count_line-requires-clause-start
count_line-requires-clause-start c =
    let chunks = ap (λ (s : Shape). s.chunks) c.shape-shape.ensures.shape in
    let inside : c.loop-line.line < length c.args.starts.now = omega (arith, c.loop-line-test.true, chunks, c.requires.starts.count) in
    there c.args.media.now.shape.chunks (line_start c.args.media.now) c.args.starts.now c.loop-line.line _ c.requires.starts inside

pub returns : goal.returns
returns c =
    let chunks = ap (λ (s : Shape). s.chunks) c.shape-shape.ensures.shape in
    let last : c.loop-line.line ≡ c.args.media.now.shape.chunks = omega (arith, c.loop-line.auto.line-end, c.loop-line-test.false, chunks) in
    subst (λ n. IsCountTo c.args.media.now n c.loop-line.count) last c.loop-line.invariant

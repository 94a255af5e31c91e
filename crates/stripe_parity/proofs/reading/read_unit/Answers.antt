use Rattle.std.proofs.Common.{◌≡◌, ◌+◌, sym, subst, arith}
use Rattle.stripe_parity.specs.ParityBytes.{IsUnitPart}
use Rattle.stripe_parity.proofs.FileParts.{one_kept_more, part_reaches}
use Rattle.stripe_parity.proofs.reading.read_unit.Goals as goal

pub slice_bounds-read_kept-end : goal.slice_bounds-read_kept-end
slice_bounds-read_kept-end c =
    part_reaches c.args.shape.now c.args.bytes.now c.args.unit c.loop-chunk.chunk c.requires.reaches c.requires.unit c.loop-chunk-test.true

pub loop-chunk-preserved : goal.loop-chunk-preserved
loop-chunk-preserved c =
    subst (IsUnitPart c.args.shape.now c.args.bytes.now c.args.unit (c.loop-chunk.chunk + 1)) (sym c.in_ok-push_kept-in-Some.ensures)
    (one_kept_more c.args.shape.now c.args.bytes.now c.args.unit c.loop-chunk.chunk c.loop-chunk.kept.items c.in-Some.found c.loop-chunk.invariant
    c.in-Some.ensures.found.0 c.in-Some.ensures.found.1)

pub returns-clause-kept : goal.returns-clause-kept
returns-clause-kept c =
    let end : c.loop-chunk.chunk ≡ c.args.shape.now.chunks = omega arith in
    subst (λ n. IsUnitPart c.args.shape.now c.args.bytes.now c.args.unit n c.loop-chunk.kept.items) end c.loop-chunk.invariant

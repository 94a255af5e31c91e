use Rattle.std.proofs.Common.{◌++◌, ap, ◌∙◌}
use Rattle.pblk_model.specs.Bytes.{le64}
use Rattle.pblk_reference.proofs.Words.{piece_more}
use Rattle.pblk_reference.proofs.bytes.put_u64s.Goals as goal
use Rattle.pblk_model.proofs.Maps.{pieces_all}

pub loop-number-preserved : goal.loop-number-preserved
loop-number-preserved c =
    let now = c.in_ok-extend_from_slice.ensures.items ∙ ap (λ xs. c.loop-number.out.items ++ xs) c.to_le_bytes.ensures in
    piece_more le64 c.args.numbers.now c.loop-number.number-index 0 c.args.out.now.items c.loop-number.out.items c.extend_from_slice.new.self.items
    c.loop-number-test.true now c.loop-number.invariant

pub returns : goal.returns
returns c = pieces_all le64 c.args.numbers.now c.loop-number.number-index c.args.out.now.items c.loop-number.out.items c.loop-number-test.false
    c.loop-number.invariant

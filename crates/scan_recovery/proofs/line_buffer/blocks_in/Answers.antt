use Rattle.std.proofs.Common.{◌+◌, None, length, drop}
use Rattle.scan_recovery.proofs.PackedLines.{drop_one, first_long, left_step, packed_step}
use Rattle.scan_recovery.proofs.line_buffer.blocks_in.Goals as goal

pub first_block-block-requires : goal.first_block-block-requires
first_block-block-requires c =
    let k = c.loop-mark.mark-index in
    first_long c.args.size (length c.loop-mark.rest.now) (drop k c.args.marks.now) (drop (k + 1) c.args.marks.now) _
    (drop_one c.args.marks.now k None c.loop-mark-test.true) c.loop-mark.invariant.within

pub loop-mark-preserved : goal.loop-mark-preserved
loop-mark-preserved c =
    let k = c.loop-mark.mark-index in
    let left = drop_one c.args.marks.now k None c.loop-mark-test.true in
    record {
      blocks = packed_step c.args.size c.args.bytes.now c.loop-mark.rest.now c.first_block-block.result.1.now c.args.marks.now (drop k c.args.marks.now)
          (drop (k + 1) c.args.marks.now) _ c.first_block-block.result.0
          c.loop-mark.blocks.items c.push.new.self.items left c.first_block-block.ensures.first c.in_ok-push.ensures.items c.loop-mark.invariant.blocks;
      within = left_step c.args.size (length c.loop-mark.rest.now) (length c.first_block-block.result.1.now) (drop k c.args.marks.now)
          (drop (k + 1) c.args.marks.now) _ left c.first_block-block.ensures.rest c.loop-mark.invariant.within;
    }

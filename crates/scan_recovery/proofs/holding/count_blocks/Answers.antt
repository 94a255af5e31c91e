use Rattle.std.proofs.Common.{sym, ◌∙◌, arith}
use Rattle.std.specs.Option.{option_map}
use Rattle.pblk_meta.specs.Records.{end_numbers}
use Rattle.scan_recovery.proofs.Surveys.{count_first, count_marked, count_through, mount_line, mount_tops, seq_is, start_there}
use Rattle.scan_recovery.proofs.holding.count_blocks.Goals as goal

pub loop-at-init : goal.loop-at-init
loop-at-init c = λ start is. count_first c.args.media.now c.args.line start c.args.count.now c.requires.count

pub count_block-requires-clause-mount : goal.count_block-requires-clause-mount
count_block-requires-clause-mount c = c.requires.mount.mount

pub count_block-requires-clause-line : goal.count_block-requires-clause-line
count_block-requires-clause-line c = mount_line c.args.media.now c.args.mount.now c.args.line c.requires.mount c.requires.line

pub count_block-requires-clause-tops : goal.count_block-requires-clause-tops
count_block-requires-clause-tops c =
    let i = c.args.media.now in
    let start = start_there i c.args.line c.args.seq c.requires.seq in
    mount_tops i c.args.mount.now _ c.loop-at.count c.requires.mount (c.loop-at.invariant start.0 start.1)

pub loop-at-preserved : goal.loop-at-preserved
loop-at-preserved c = λ start is.
    let i = c.args.media.now in
    let seq-is = seq_is i c.args.line c.args.seq start c.requires.seq is in
    count_marked i c.args.line start (option_map end_numbers c.args.end.now) c.loop-at.at c.args.mount.now c.shape-in-loop-at.result.now c.args.seq
    c.mark_of-mark.result c.loop-at.count c.count_block.new.count c.requires.mount (c.shape-in-loop-at.ensures.shape ∙ c.requires.layout) seq-is
    (c.requires.end start seq-is) c.mark_of-mark.ensures c.in_ok-count_block.ensures (c.loop-at.invariant start is)

pub returns : goal.returns
returns c =
    let i = c.args.media.now in
    let start = start_there i c.args.line c.args.seq c.requires.seq in
    count_through i c.args.line start.0 c.loop-at.at c.loop-at.count start.1
    (omega (arith, c.loop-at.auto.at-end, c.loop-at-test.false, c.len-at-end.ensures.len)) (c.loop-at.invariant start.0 start.1)

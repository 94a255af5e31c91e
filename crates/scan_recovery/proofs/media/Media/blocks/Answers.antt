use Rattle.std.proofs.Common.{sym, ◌∙◌}
use Rattle.scan_recovery.proofs.FetchLines.{blocks_more, blocks_none}
use Rattle.scan_recovery.proofs.media.Media.blocks.Goals as goal

pub loop-at-init : goal.loop-at-init
loop-at-init c = c.in_ok-blocks.ensures.items ∙ sym (blocks_none c.args.self.now c.args.line c.args.from)

pub loop-at-preserved : goal.loop-at-preserved
loop-at-preserved c =
    blocks_more c.args.self.now c.args.line c.args.from c.loop-at.at c.loop-at.blocks.items c.push.new.self.items c.block.result c.loop-at.auto.at
    c.in_ok-push.ensures.items c.block.ensures c.loop-at.invariant

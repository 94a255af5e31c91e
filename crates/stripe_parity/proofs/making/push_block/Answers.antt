use Rattle.std.proofs.Common.{length, refl}
use Rattle.stripe_parity.proofs.MadeRows.{block_added}
use Rattle.stripe_parity.proofs.making.push_block.Goals as goal

pub returns-clause-added : goal.returns-clause-added
returns-clause-added c =
    block_added (length c.args.sector.now) c.args.bytes.now.items c.extend_from_slice.new.self.items c.args.sector.now c.args.marks.now.items
    c.push.new.self.items c.args.mark refl
    c.requires c.in_ok-extend_from_slice.ensures.items c.in_ok-push.ensures.items

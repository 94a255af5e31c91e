use Rattle.std.proofs.Common.{map}
use Rattle.scan_recovery.specs.Units.{image_of}
use Rattle.stripe_parity.proofs.RebuiltBlocks.{rebuilt_own}
use Rattle.stripe_parity.proofs.parity.Parity.block.Goals as goal

pub returns-clause-rebuilt : goal.returns-clause-rebuilt
returns-clause-rebuilt g c = λ first was sectors is agree there.
    rebuilt_own c.args.self.now first (image_of c.args.self.now.shape (map g.U.Unit.model c.args.units.now)) c.args.lost c.args.chunk c.args.block was
    (record { sector = c.lost_block.new.out; mark = c.in_ok-mark.mark }) sectors is agree there c.in_ok-mark.ensures.block

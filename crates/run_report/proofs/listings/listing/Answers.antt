use Rattle.run_report.proofs.ListedLines.{line_step}
use Rattle.run_report.proofs.listings.listing.Goals as goal

pub loop-lba-preserved : goal.loop-lba-preserved
loop-lba-preserved c = line_step _ _ _ c.loop-lba.lba c.args.contents.now.sectors c.get.result.now c.get.ensures.sector c.loop-lba.invariant
    c.in_ok-put_sector.ensures

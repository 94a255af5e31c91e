use Rattle.std.proofs.Common.{map}
use Rattle.scan_recovery.specs.Fetches.{error_of}
use Rattle.scan_recovery.proofs.Growths.{scanned}
use Rattle.scan_recovery.proofs.scanning.scan.Goals as goal

pub returns-clause-fetched : goal.returns-clause-fetched
returns-clause-fetched g c = (c.scan_all.ensures.fetched.0, c.scan_all.ensures.fetched.1)

pub returns-clause-fetches : goal.returns-clause-fetches
returns-clause-fetches g c =
    scanned c.args.shape.now (map g.U.Unit.model c.args.units.now) (map g.U.Unit.model c.scan_all.new.units) (error_of c.scan_all.result)
    c.scan_all.ensures.fetched

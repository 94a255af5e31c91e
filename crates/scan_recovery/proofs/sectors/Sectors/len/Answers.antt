use Rattle.std.proofs.Common.{◌∙◌, length, ap, sym}
use Rattle.scan_recovery.proofs.SectorLists.{length-sectors_in}
use Rattle.scan_recovery.proofs.sectors.Sectors.len.Goals as goal

pub returns : goal.returns
returns c = sym (length-sectors_in c.self.inside.size c.self.inside.count c.self.inside.bytes.items) ∙ ap length c.self.view_is

use Rattle.pblk_laws.proofs.MarkNames.{sector_exactly, void_exactly, pad_none, meta_none}
use Rattle.pblk_laws.proofs.marks.marks_name_sectors.Goals as goal

pub returns : goal.returns
returns c = record { sector = sector_exactly; void = void_exactly; pad = pad_none; meta = meta_none }

use Rattle.pblk_laws.proofs.MarkNames.{sector_borne, void_borne, pad_borne, meta_borne}
use Rattle.pblk_laws.proofs.marks.marks_bear_records.Goals as goal

pub returns : goal.returns
returns c = record { sector = sector_borne; void = void_borne; pad = pad_borne; meta = meta_borne }

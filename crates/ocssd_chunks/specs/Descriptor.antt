-- A descriptor as the model has it.
use Rattle.ocssd_chunks.specs.declared.descriptor.Descriptor.{Descriptor}
use Rattle.pblk_model.specs.Descriptor as model

-- the fields of a descriptor
abbrev pub fields_of : Descriptor → model.Descriptor
fields_of d = record { state = d.state; wear = d.wear; slba = d.slba; cnlb = d.cnlb; wp = d.wp }

use Rattle.world_laws.proofs.BegunWithFound.{began_found}
use Rattle.world_laws.proofs.MayBegin.{may_begin}
use Rattle.world_laws.proofs.found.a_mount_begins_with_what_is_found.Goals as goal

pub returns : goal.returns
returns c = record { may = may_begin; began = began_found }

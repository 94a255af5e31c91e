-- Whoever is lent an emptied `Vec` by `&` gets nothing with it.
use base.Fraction.{full_share}
use denote.Memory.{part_at}
use denote.SharingLaws.{nothing_shr_laws}
use denote.Struct.Lending.{Lends-nothing}
use Rattle.sector_pool.specs.contracts.memory.Emptied as C
use Rattle.sector_pool.proofs.memory.Emptied.TheLaw.Statement.{statement}

pub shares : statement
shares = record {
  shr_laws = λ e block at. nothing_shr_laws;
  shares = λ M 𝓤 𝓛 e κ ts block at. Lends-nothing 𝓛 (part_at C.the_written full_share e block at) (C.the_written).lives κ ts;
}

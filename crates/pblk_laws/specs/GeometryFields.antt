-- The numbers of a geometry, at the places of its spelling.
use Rattle.std.specs.Prelude.{◌<◌, ◌^◌}
use Rattle.pblk_model.specs.Geometry.{Geometry}

-- each number is below 256, 2 to the 16 or 2 to the 32, by the number of bytes at its place
pub record FitsFields (g : Geometry) : Type 0 where
  pub mjr : g.mjr < 256
  pub mnr : g.mnr < 256
  pub group_bits : g.group_bits < 256
  pub pu_bits : g.pu_bits < 256
  pub chunk_bits : g.chunk_bits < 256
  pub block_bits : g.block_bits < 256
  pub mccap : g.mccap < 2 ^ 32
  pub wit : g.wit < 256
  pub groups : g.groups < 2 ^ 16
  pub pus : g.pus < 2 ^ 16
  pub chunks : g.chunks < 2 ^ 32
  pub clba : g.clba < 2 ^ 32
  pub ws_min : g.ws_min < 2 ^ 32
  pub ws_opt : g.ws_opt < 2 ^ 32
  pub mw_cunits : g.mw_cunits < 2 ^ 32
  pub maxoc : g.maxoc < 2 ^ 32
  pub maxocpu : g.maxocpu < 2 ^ 32

-- What the fields of a port in memory stand for, and what they keep.
use Rattle.std.specs.Prelude.{◌≡◌, ◌+◌, ◌*◌, ◌<◌, ◌≤◌, ◌^◌, List, [], ◌∷◌, ◌++◌, map, length, replicate, None}
use Rattle.std.specs.List.{flat_map}
use Rattle.pblk_model.specs.Bytes.{zeros}
use Rattle.pblk_model.specs.History.{after}
use Rattle.block_port.specs.Own.{OwnWrite, PlacedSector, lines_of, sectors_of}
use Rattle.block_port.specs.Port.{ModelPort, IsSectorSize, Rise}
use Rattle.plain_port.specs.declared.plain.PlainPort.TheInside as inside

-- the history: each write is known at once
abbrev pub lines_in : List OwnWrite → List PlacedSector
lines_in own = flat_map lines_of own

abbrev pub model : inside.Inside → ModelPort
model p = record {
  start = replicate (p.capacity) (zeros p.sector);
  known = lines_in p.own;
  taken = p.taken;
  seen = p.seen;
  own = p.own;
  flushed = p.flushed;
  faults = p.faults;
  worns = p.worns;
  capacity = p.capacity;
  sector = p.sector;
  footing = None;
}

pub record IsPlain (p : inside.Inside) : Type 0 where
  pub size : IsSectorSize p.sector
  -- the sectors are those after the history
  pub contents : sectors_of p.sector p.capacity p.bytes.items
      ≡ after (replicate (p.capacity) (zeros p.sector)) (map (λ x. x.write) (lines_in p.own))
  pub bytes : length p.bytes.items ≡ p.capacity * p.sector
  pub few : p.capacity * p.sector ≤ 2 ^ 32
  pub rise : Rise 0 p.taken (lines_in p.own)
  pub lines : p.lines ≡ length (lines_in p.own)
  pub taken : p.taken < 2 ^ 63
  pub seen : p.seen < 2 ^ 63

-- a port after a write at this place
abbrev pub with_write : OwnWrite → ModelPort → ModelPort
with_write w p = record p {
  known = p.known ++ lines_of w;
  taken = w.place.first + w.place.count;
  seen = w.place.first + w.place.count;
  own = p.own ++ w ∷ [];
}

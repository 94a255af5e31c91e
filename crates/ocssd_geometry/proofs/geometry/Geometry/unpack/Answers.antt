use Rattle.std.proofs.Common.{◌<◌, refl, arith}
use Rattle.pblk_model.specs.declared.shape.Address.{Address}
use Rattle.pblk_model.specs.Geometry.{Packs}
use Rattle.ocssd_geometry.specs.Numbers.{numbers_of}
use Rattle.ocssd_geometry.proofs.Packing.{IsParted, packed-parted, parted_only, parted_in_range}
use Rattle.ocssd_geometry.proofs.geometry.Geometry.unpack.Goals as goal
use Rattle.ocssd_geometry.proofs.geometry.Geometry.unpack.Goals.{else-group-from-via-then-group-from+then-pu-from+then-chunk-self+else-block-self, else-group-from-via-then-group-from+then-pu-from+else-chunk-self, else-group-from-via-then-group-from+else-pu-from, else-group-from-via-else-group-from}

found_parts : (c : goal.Then-block-self) → IsParted (numbers_of c.args.self.now) c.args.lba c.parted-rest.result.0 c.parted-rest-2.result.0
    (record { group = c.parted-group.result.0; pu = c.parted-group.result.1; chunk = c.parted-rest-2.result.1; block = c.parted-rest.result.1 })
found_parts c = record {
  above_block = c.parted-rest.ensures.high;
  block = c.parted-rest.ensures.low;
  above_chunk = c.parted-rest-2.ensures.high;
  chunk = c.parted-rest-2.ensures.low;
  group = c.parted-group.ensures.high;
  pu = c.parted-group.ensures.low;
}

-- the parts in range are an address
pub returns-then-block-self-clause-found : goal.returns-then-block-self-clause-found
returns-then-block-self-clause-found c =
    (record { group = omega arith; pu = omega arith; chunk = omega arith; block = omega arith }, packed-parted _ _ _ _ _ (found_parts c))

-- and no other address has the number
pub returns-then-block-self-clause-only : goal.returns-then-block-self-clause-only
returns-then-block-self-clause-only c = λ a packs. rw (parted_only _ _ _ _ _ a c.requires (found_parts c) packs) refl

pub returns-then-block-self-clause-none : goal.returns-then-block-self-clause-none
returns-then-block-self-clause-none c = (λ never. absurd cc, λ none. absurd (none _ (returns-then-block-self-clause-found c)))

other_parts : (c : goal.Joined-else-group-from) → IsParted (numbers_of c.args.self.now) c.args.lba c.parted-rest.result.0 c.parted-rest-2.result.0
    (record { group = c.parted-group.result.0; pu = c.parted-group.result.1; chunk = c.parted-rest-2.result.1; block = c.parted-rest.result.1 })
other_parts c = record {
  above_block = c.parted-rest.ensures.high;
  block = c.parted-rest.ensures.low;
  above_chunk = c.parted-rest-2.ensures.high;
  chunk = c.parted-rest-2.ensures.low;
  group = c.parted-group.ensures.high;
  pu = c.parted-group.ensures.low;
}

-- parts out of range are those of no address
no_address : (c : goal.Joined-else-group-from) (a : Address) → Packs (numbers_of c.args.self.now) a c.args.lba → ⊥
no_address c a packs =
    let inside = parted_in_range _ _ _ _ _ a c.requires (other_parts c) packs in
    let group : c.parted-group.result.0 < c.args.self.now.groups = inside.group in
    let pu : c.parted-group.result.1 < c.args.self.now.pus = inside.pu in
    let chunk : c.parted-rest-2.result.1 < c.args.self.now.chunks = inside.chunk in
    let block : c.parted-rest.result.1 < c.args.self.now.clba = inside.block in
    elim c.else-group-from.branch [
      | else-group-from-via-then-group-from+then-pu-from+then-chunk-self+else-block-self w ↦ absurd (omega arith)
      | else-group-from-via-then-group-from+then-pu-from+else-chunk-self w ↦ absurd (omega arith)
      | else-group-from-via-then-group-from+else-pu-from w ↦ absurd (omega arith)
      | else-group-from-via-else-group-from w ↦ absurd (omega arith)
    ]

pub returns-else-group-from-clause-only : goal.returns-else-group-from-clause-only
returns-else-group-from-clause-only c = λ a packs. absurd (no_address c a packs)

pub returns-else-group-from-clause-none : goal.returns-else-group-from-clause-none
returns-else-group-from-clause-none c = (λ _. no_address c, λ _. refl)

-- What an accepted geometry's numbers keep, and what bytes are read as.
use Rattle.std.proofs.Common.{◌≡◌, ◌≢◌, ℕ, ◌+◌, ◌^◌, ◌≤◌, Some, None, Err, List, length, refl, sym}
use Rattle.std.proofs.lemmas.Bool.{leb-true, ne_eqb}
use Rattle.std.specs.Prelude.{◌<◌}
use Rattle.pblk_model.specs.declared.shape.GeometryErr.{GeometryErr}
use Rattle.pblk_model.specs.declared.shape.GeometryErr.TheVariants.{Length}
use Rattle.pblk_model.specs.Checks.{first_failing}
use Rattle.pblk_model.specs.Geometry.{Geometry, geometry_in, field_checks, profile_checks, geometry_refusal, read_geometry}
use Rattle.pblk_model.proofs.Tests.{some_of}
use Rattle.pblk_model.proofs.ChecksLemmas.{none_fails}
use Rattle.pblk_model.proofs.GeometryLemmas.{holds, none_refused}

-- ---- a geometry that isn't refused

-- the lengths of an address's fields
pub record HasLengths (g : Geometry) : Type 0 where
  pub group : g.groups ≤ 2 ^ g.group_bits
  pub pu : g.pus ≤ 2 ^ g.pu_bits
  pub chunk : g.chunks ≤ 2 ^ g.chunk_bits
  pub block : g.clba ≤ 2 ^ g.block_bits
  pub sum : g.group_bits + g.pu_bits + g.chunk_bits + g.block_bits ≤ 64

pub accepted_lengths : (g : Geometry) → geometry_refusal g ≡ None → HasLengths g
accepted_lengths g e =
    let parts = none_refused (first_failing (field_checks g)) (first_failing (profile_checks g)) e in
    let fields = none_fails (field_checks g) parts.0 in
    let rules = none_fails (profile_checks g) parts.1 in
    record {
      group = holds g.group_bits g.groups fields.1.0;
      pu = holds g.pu_bits g.pus fields.1.1.0;
      chunk = holds g.chunk_bits g.chunks fields.1.1.1.0;
      block = holds g.block_bits g.clba fields.1.1.1.1.0;
      sum = leb-true _ 64 rules.1.1.1.1.1.1.1.0;
    }

-- each count is above 0
pub record HasCounts (g : Geometry) : Type 0 where
  pub groups : 0 < g.groups
  pub pus : 0 < g.pus
  pub chunks : 0 < g.chunks
  pub clba : 0 < g.clba
  pub ws_min : 0 < g.ws_min
  pub ws_opt : 0 < g.ws_opt

pub accepted_counts : (g : Geometry) → geometry_refusal g ≡ None → HasCounts g
accepted_counts g e =
    let parts = none_refused (first_failing (field_checks g)) (first_failing (profile_checks g)) e in
    let fields = (none_fails (field_checks g) parts.0).1.1.1.1.1 in
    record {
      groups = some_of g.groups fields.0;
      pus = some_of g.pus fields.1.0;
      chunks = some_of g.chunks fields.1.1.0;
      clba = some_of g.clba fields.1.1.1.0;
      ws_min = some_of g.ws_min fields.1.1.1.1.0;
      ws_opt = some_of g.ws_opt fields.1.1.1.1.1.0;
    }

-- ---- what bytes are read as

pub read_short : (bytes : List ℕ) → length bytes ≢ 4096 → Err Length ≡ read_geometry bytes
read_short bytes short = rw (ne_eqb (length bytes) 4096 short) refl

pub read_refused : (bytes : List ℕ) (g : Geometry) (refusal : GeometryErr) → length bytes ≡ 4096 → g ≡ geometry_in bytes → Some refusal ≡ geometry_refusal g
    → Err refusal ≡ read_geometry bytes
read_refused bytes g refusal size is refused =
    let some : geometry_refusal (geometry_in bytes) ≡ Some refusal = rw is at (sym refused) in
    rw (size, some) refl

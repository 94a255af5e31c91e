-- Where the parts of an image end, by the numbers of its geometry.
use Rattle.std.proofs.Common.{◌≡◌, ℕ, ◌+◌, ◌*◌, ◌/◌, ◌%◌, ◌<◌, ◌≤◌, Option, List, sym, ap, ◌∙◌, subst, arith, mul-pos}
use Rattle.std.specs.List.{range_with_len, sum_by}
use Rattle.std.specs.Option.{option_map}
use Rattle.std.proofs.lemmas.Nat.{div_below}
use Rattle.std.proofs.Math.Nat.{le-mul_of_pos_right, mul-le-mul_right, mul_assoc, mul_comm}
use Rattle.pblk_model.specs.declared.shape.Shape.{Shape}
use Rattle.pblk_model.specs.declared.image.ImageErr.{ImageErr}
use Rattle.pblk_model.specs.declared.image.ImageErr.TheVariants as errors
use Rattle.pblk_model.specs.Accepted.{IsAccepted}
use Rattle.pblk_model.specs.Checks.{first_failing}
use Rattle.pblk_model.specs.Geometry.{Geometry}
use Rattle.pblk_model.specs.ImageFile.{blocks_end, chunk_checks, chunk_refusal, descriptor_at, descriptors_end, geometry_at, pointer_at, shape_at}
use Rattle.pblk_model.specs.Shape.{units}
use Rattle.pblk_model.proofs.AcceptedLemmas.{sector_within, all_blocks}

-- The n-th chunk.

pub unit_below : (b : List ℕ) (g : Geometry) (n : ℕ) → g ≡ geometry_at b → IsAccepted (shape_at b) → n < units (shape_at b) * (shape_at b).chunks
    → n / g.chunks < g.groups * g.pus
unit_below b g n is accepted inside =
    let below : n < g.groups * g.pus * g.chunks = subst (λ (g : Geometry). n < g.groups * g.pus * g.chunks) (sym is) inside in
    let some : 8 ≤ g.chunks = subst (λ (g : Geometry). 8 ≤ g.chunks) (sym is) accepted.drive.lines_low in
    div_below n g.chunks (g.groups * g.pus) (omega arith) below

abbrev refusal_by : Geometry → ℕ → List ℕ → Option ImageErr
refusal_by g n d = option_map (errors.Chunk (n / g.chunks) (n % g.chunks)) (first_failing (chunk_checks g (n / g.chunks) (n % g.chunks) d))

pub refused_by : (b : List ℕ) (g : Geometry) (n : ℕ) (r : Option ℕ) → g ≡ geometry_at b
    → r ≡ first_failing (chunk_checks g (n / g.chunks) (n % g.chunks) (descriptor_at b n))
    → option_map (errors.Chunk (n / g.chunks) (n % g.chunks)) r ≡ chunk_refusal b n
refused_by b g n r is by = ap (option_map (errors.Chunk (n / g.chunks) (n % g.chunks))) by ∙ ap (λ g. refusal_by g n (descriptor_at b n)) is

-- Sizes.

-- this many blocks are not too many
pub few_blocks : (b : List ℕ) (g : Geometry) (count : ℕ) → g ≡ geometry_at b → IsAccepted (shape_at b) → count ≤ units (shape_at b) * (shape_at b).chunks
    → count * g.clba ≤ 268435456
few_blocks b g count is accepted within =
    let all : units (shape_at b) * (shape_at b).chunks * g.clba ≤ 268435456 =
    subst (λ (x : Geometry). units (shape_at b) * (shape_at b).chunks * x.clba ≤ 268435456) (sym is) (all_blocks (shape_at b) accepted) in
    let part : count * g.clba ≤ units (shape_at b) * (shape_at b).chunks * g.clba = mul-le-mul_right g.clba within in
    omega arith

-- Ends.

pub descriptors_end_is : (b : List ℕ) (g : Geometry) → g ≡ geometry_at b → 4128 + 32 * (g.groups * g.pus * g.chunks) ≡ descriptors_end b
descriptors_end_is b g is = ap (λ (g : Geometry). 4128 + 32 * (g.groups * g.pus * g.chunks)) is

pub count_is : (b : List ℕ) (g : Geometry) → g ≡ geometry_at b → g.groups * g.pus * g.chunks ≡ units (shape_at b) * (shape_at b).chunks
count_is b g is = ap (λ (g : Geometry). g.groups * g.pus * g.chunks) is

pub blocks_end_is : (b : List ℕ) (g : Geometry) (sector blocks : ℕ) → g ≡ geometry_at b → sector ≡ (shape_at b).sector
    → blocks ≡ sum_by (pointer_at b) (range_with_len 0 (g.groups * g.pus * g.chunks))
    → 4128 + 32 * (g.groups * g.pus * g.chunks) + (sector + 16) * blocks ≡ blocks_end b
blocks_end_is b g sector blocks is same sum =
    ap (λ n. 4128 + 32 * (g.groups * g.pus * g.chunks) + (sector + 16) * n) sum
    ∙ (ap (λ n. 4128 + 32 * (g.groups * g.pus * g.chunks) + (n + 16) * sum_by (pointer_at b) (range_with_len 0 (g.groups * g.pus * g.chunks))) same
    ∙ ap (λ (g : Geometry). 4128 + 32 * (g.groups * g.pus * g.chunks) + ((shape_at b).sector + 16) * sum_by (pointer_at b)
    (range_with_len 0 (g.groups * g.pus * g.chunks))) is)

pub clba_within : (s : Shape) → IsAccepted s → s.clba ≤ 268435456
clba_within s accepted =
    let all : units s * s.chunks * s.clba ≤ 268435456 = all_blocks s accepted in
    let some : 0 < units s * s.chunks = mul-pos (mul-pos accepted.drive.groups accepted.drive.pus) (omega (arith, accepted.drive.lines_low)) in
    let one : s.clba ≤ s.clba * (units s * s.chunks) = le-mul_of_pos_right s.clba some in
    let same : s.clba * (units s * s.chunks) ≡ units s * s.chunks * s.clba = mul_comm s.clba (units s * s.chunks) in
    omega arith

-- the blocks of some units, each of which has at most so many
pub units_few : (s : Shape) (n blocks : ℕ) → IsAccepted s → n ≤ units s → blocks ≤ n * (s.chunks * s.clba) → blocks ≤ 268435456
units_few s n blocks accepted within few =
    let all : units s * s.chunks * s.clba ≤ 268435456 = all_blocks s accepted in
    let part : n * (s.chunks * s.clba) ≤ units s * (s.chunks * s.clba) = mul-le-mul_right (s.chunks * s.clba) within in
    let product : units s * (s.chunks * s.clba) ≡ units s * s.chunks * s.clba = sym (mul_assoc (units s) s.chunks s.clba) in
    omega arith

-- as bytes with their marks
pub bytes_few : (s : Shape) (blocks : ℕ) → IsAccepted s → blocks ≤ 268435456 → (s.sector + 16) * blocks ≤ 1103806595072
bytes_few s blocks accepted few =
    let size : s.sector + 16 ≤ 4112 = omega (arith, sector_within s accepted) in
    let one : (s.sector + 16) * blocks ≤ 4112 * blocks = mul-le-mul_right blocks size in
    omega arith

pub chunks_few : (s : Shape) → IsAccepted s → units s * s.chunks ≤ 268435456
chunks_few s accepted =
    let all : units s * s.chunks * s.clba ≤ 268435456 = all_blocks s accepted in
    let one : units s * s.chunks ≤ units s * s.chunks * s.clba = le-mul_of_pos_right (units s * s.chunks) accepted.drive.clba in
    omega arith

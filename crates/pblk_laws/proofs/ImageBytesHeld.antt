-- What holds of bytes that are an image: what the checks that pass come to.
use Rattle.std.proofs.Common.{◌≡◌, ℕ, zero, suc, ◌^◌, ◌+◌, ◌-◌, ◌*◌, ◌/◌, ◌%◌, ◌<◌, ◌≤◌, ◌⊎◌, Bool, true, false, eqb, leb, ltb, Option, Some, None, Ok, List, map, length, inl, inr, refl, sym, ap, ◌∙◌, arith}
use Rattle.std.specs.Prelude.{◌&&◌}
use Rattle.std.specs.Int.{w8, w64}
use Rattle.std.specs.List.{AllByRecursion, range_with_len, slice_index}
use Rattle.std.specs.Option.{is_some, option_map_or}
use Rattle.std.proofs.lemmas.Bool.{and_parts, eqb-true, leb-true, or_cases}
use Rattle.pblk_model.specs.declared.chunk.ChunkState.{ChunkState}
use Rattle.pblk_model.specs.declared.chunk.ChunkState.TheVariants.{Free}
use Rattle.pblk_model.specs.declared.image.ImageErr.{ImageErr}
use Rattle.pblk_model.specs.declared.image.ImageErr.TheVariants as errors
use Rattle.pblk_model.specs.declared.shape.Shape.{Shape}
use Rattle.pblk_model.specs.Accepted.{IsAccepted, IsTargetShape, is_ring_power, settings_checks}
use Rattle.pblk_model.specs.Bytes.{number_at}
use Rattle.pblk_model.specs.Checks.{first_failing}
use Rattle.pblk_model.specs.Chunk.{PointerFits}
use Rattle.pblk_model.specs.Descriptor.{Descriptor, pointer_holds, read_descriptor, state_in}
use Rattle.pblk_model.specs.Geometry.{Geometry, geometry_refusal, packed}
use Rattle.pblk_model.specs.ImageFile.{blocks_end, chunk_checks, chunk_refusal, chunks_at, descriptor_at, descriptors_end, first_address, geometry_at, image_refusal, image_refusals, shape_at}
use Rattle.pblk_model.specs.LineOrder.{data_len}
use Rattle.pblk_model.specs.Shape.{units}
use Rattle.pblk_model.proofs.Options.{none_of_map}
use Rattle.pblk_model.proofs.Parts.{slice_length}
use Rattle.pblk_model.proofs.Tests.{below_of}
use Rattle.pblk_model.proofs.AcceptedLemmas.{ring_power_is}
use Rattle.pblk_model.proofs.ChecksLemmas.{kept_of, none_each, none_fails}
use Rattle.pblk_model.proofs.DescriptorLemmas.{pointer_fits, reads}
use Rattle.pblk_model.proofs.GeometryLemmas.{drive_shape_is}

-- Tests.

three_parts : (a b c : Bool) → (a && b && c) ≡ true → (a ≡ true) × (b ≡ true) × (c ≡ true)
three_parts true true c h = (refl, refl, h)
three_parts true false c h = absurd cc
three_parts false b c h = absurd cc

-- Shapes.

sector_holds : (n : ℕ) → (eqb n 512 ≡ true) ⊎ (eqb n 4096 ≡ true) → (n ≡ 512) ⊎ (n ≡ 4096)
sector_holds n (inl e) = inl (eqb-true n 512 e)
sector_holds n (inr e) = inr (eqb-true n 4096 e)

target_holds : (s : Shape) → first_failing (settings_checks s) ≡ None → IsTargetShape s
target_holds s e =
    let rules = none_fails (settings_checks s) e in
    let capacity = three_parts (leb 1 s.capacity) (ltb s.capacity (2 ^ 40)) (leb (4 * s.capacity) (3 * (s.chunks - 5) * data_len s (units s))) rules.1.1.1.0 in
    let ring = and_parts (is_ring_power s.ring) (leb (units s * (s.mw_cunits + 4 * s.ws_opt) + 16) s.ring) rules.1.1.1.1.0 in
    let power = ring_power_is s.ring ring.0 in
    record {
      sector = sector_holds s.sector (or_cases (eqb s.sector 512) (eqb s.sector 4096) rules.0);
      size = leb-true _ _ rules.1.0;
      room = leb-true _ _ rules.1.1.0;
      some_capacity = leb-true 1 s.capacity capacity.0;
      capacity_number = below_of s.capacity (2 ^ 40) capacity.1;
      spare = leb-true _ _ capacity.2;
      ring_power = power.0;
      ring_low = leb-true _ _ ring.1;
      ring_high = power.1;
    }

-- Refusals.

none_at : (f : ℕ → Option ImageErr) (a n m : ℕ) → AllByRecursion (λ r. r ≡ None) (map f (range_with_len a n)) → m < n → f (a + m) ≡ None
none_at f a zero m all low = absurd (omega arith)
none_at f a (suc n) zero all low =
    let here : a ≡ a + zero = omega arith in
    sym (ap f here) ∙ all.0
none_at f a (suc n) (suc m) all low =
    let here : a + 1 + m ≡ a + suc m = omega arith in
    sym (ap f here) ∙ none_at f (a + 1) n m all.1 (omega arith)

-- the parts of an image that isn't refused
pub record IsTaken (b : List ℕ) : Type 0 where
  pub geometry : geometry_refusal (geometry_at b) ≡ None
  pub accepted : IsAccepted (shape_at b)
  pub each : (n : ℕ) → n < chunks_at b → chunk_refusal b n ≡ None
  pub descriptors : descriptors_end b ≤ length b
  pub blocks : blocks_end b ≡ length b

pub taken_of : (b : List ℕ) → image_refusal b ≡ None → IsTaken b
taken_of b is =
    let all = none_each (image_refusals b) is in
    let five = all.1.1.1.1 in
    let short : descriptors_end b ≤ length b =
    leb-true (descriptors_end b) (length b) (kept_of (leb (descriptors_end b) (length b)) (errors.Short (length b)) five.1.1.0) in
    let low : blocks_end b ≤ length b = leb-true (blocks_end b) (length b) (kept_of (leb (blocks_end b) (length b)) (errors.Short (length b)) five.1.1.1.1.0) in
    let high : length b ≤ blocks_end b = leb-true (length b) (blocks_end b) (kept_of (leb (length b) (blocks_end b)) errors.Long five.1.1.1.1.1.0) in
    let geometry : geometry_refusal (geometry_at b) ≡ None = none_of_map errors.Geometry (geometry_refusal (geometry_at b)) five.0 in
    let rows = none_each (map (chunk_refusal b) (range_with_len 0 (chunks_at b))) five.1.1.1.0 in
    record {
      geometry = geometry;
      accepted = record {
        drive = drive_shape_is (geometry_at b) (shape_at b).sector (shape_at b).capacity (shape_at b).ring geometry;
        target = target_holds (shape_at b) (none_of_map errors.Settings (first_failing (settings_checks (shape_at b))) five.1.0);
      };
      each = λ n low. let here : 0 + n ≡ n = omega arith in sym (ap (chunk_refusal b) here) ∙ none_at (chunk_refusal b) 0 (chunks_at b) n rows low;
      descriptors = short;
      blocks = omega arith;
    }

-- Descriptors.

-- the state that a descriptor has
abbrev pub state_of : List ℕ → ChunkState
state_of d = option_map_or (λ s. s) (state_in (slice_index d 0)) Free

known : (o : Option ChunkState) → is_some o ≡ true → o ≡ Some (option_map_or (λ s. s) o Free)
known None some = absurd cc
known (Some s) some = refl

-- the bytes are a descriptor of this chunk
pub record IsDescriptorOf (g : Geometry) (unit chunk : ℕ) (d : List ℕ) : Type 0 where
  pub read : read_descriptor d ≡ Ok
      (record { state = state_of d; wear = number_at w8 2 d; slba = packed g (first_address g unit chunk); cnlb = g.clba; wp = number_at w64 24 d })
  pub place : PointerFits (state_of d) g.clba (number_at w64 24 d)
  pub multiple : number_at w64 24 d % g.ws_min ≡ 0

pub descriptor_is : (g : Geometry) (unit chunk : ℕ) (d : List ℕ) → length d ≡ 32 → first_failing (chunk_checks g unit chunk d) ≡ None
    → IsDescriptorOf g unit chunk d
descriptor_is g unit chunk d size passes =
    let checks = none_fails (chunk_checks g unit chunk d) passes in
    let state = known (state_in (slice_index d 0)) checks.0 in
    let kind = eqb-true (slice_index d 1) 1 checks.1.0 in
    let slba = eqb-true (number_at w64 8 d) (packed g (first_address g unit chunk)) checks.1.1.0 in
    let cnlb = eqb-true (number_at w64 16 d) g.clba checks.1.1.1.0 in
    let wp = number_at w64 24 d in
    let last = and_parts (eqb (wp % g.ws_min) 0) (option_map_or (λ state. pointer_holds state g.clba wp) (state_in (slice_index d 0)) true) checks.1.1.1.1.0 in
    let holds : pointer_holds (state_of d) g.clba wp ≡ true = sym (ap (λ o. option_map_or (λ state. pointer_holds state g.clba wp) o true) state) ∙ last.1 in
    let made : ℕ → ℕ → Descriptor = λ n m. record { state = state_of d; wear = number_at w8 2 d; slba = n; cnlb = m; wp = wp } in
    record {
      read = reads d (state_of d) g.clba size state kind cnlb holds
          ∙ (ap (λ n. Ok (made n (number_at w64 16 d))) slba ∙ ap (λ n. Ok (made (packed g (first_address g unit chunk)) n)) cnlb);
      place = pointer_fits (state_of d) g.clba wp holds;
      multiple = eqb-true (wp % g.ws_min) 0 last.0;
    }

pub row_is : (b : List ℕ) (n : ℕ) → IsTaken b → n < chunks_at b
    → IsDescriptorOf (geometry_at b) (n / (geometry_at b).chunks) (n % (geometry_at b).chunks) (descriptor_at b n)
row_is b n taken inside =
    let g = geometry_at b in
    descriptor_is g (n / g.chunks) (n % g.chunks) (descriptor_at b n)
    (slice_length b (4128 + 32 * n) (4128 + 32 * n + 32) 32 refl (omega (arith, taken.descriptors)))
    (none_of_map (errors.Chunk (n / g.chunks) (n % g.chunks)) (first_failing (chunk_checks g (n / g.chunks) (n % g.chunks) (descriptor_at b n)))
    (taken.each n inside))

-- A drive that is filled from an image chunk by chunk.
use Rattle.std.proofs.Common.{◌≡◌, ℕ, ◌+◌, ◌-◌, ◌*◌, ◌/◌, ◌%◌, ◌<◌, ◌≤◌, Some, Ok, List, [], ◌++◌, length, take, drop, replicate, slice_get, slice_set, inl, inr, refl, sym, ap, ◌∙◌, subst, arith}
use Rattle.std.specs.List.{AllByRecursion, flat_map, range_with_len, slice_range, sum_by}
use Rattle.std.proofs.lemmas.Bool.{cases_lt}
use Rattle.std.proofs.lemmas.List.{length-replicate, length-set}
use Rattle.std.proofs.lemmas.Nat.{div-add-mod', mod_below}
use Rattle.std.proofs.Math.Nat.{mul-add}
use Rattle.pblk_model.specs.Descriptor.{read_descriptor}
use Rattle.pblk_model.specs.ImageFile.{StoredChunk, block_bytes, descriptor_at, descriptor_of, descriptors_end, geometry_at, pointer_at, shape_at}
use Rattle.pblk_model.specs.Chunk.{free_chunk}
use Rattle.pblk_model.specs.Shape.{units}
use Rattle.pblk_laws.proofs.ImageBytesFlat.{all_flat, flat, length_of_flat}
use Rattle.ocssd_drive.specs.Drive.{changed_at}
use Rattle.drive_image.specs.Filling.{IsNth, bytes_of}
use Rattle.drive_image.proofs.Flat.{flat_changed, all_changed, AreEmptyFrom, spelled_more, empty_all, get_same, get_other}
use Rattle.drive_image.proofs.ListFacts.{length_changed}
use Rattle.pblk_model.proofs.Lists.{all_replicated}
use Rattle.pblk_model.proofs.Maps.{sum_more}
use Rattle.pblk_model.proofs.Parts.{all_get, joined}

abbrev pub chunk_bytes : StoredChunk → List ℕ
chunk_bytes k = flat_map block_bytes k.chunk.blocks

-- the n-th descriptor is that of this chunk
abbrev pub IsDescribed : List ℕ → ℕ → StoredChunk → Type 0
IsDescribed b n k = let g = geometry_at b in read_descriptor (descriptor_at b n) ≡ Ok (descriptor_of g (n / g.chunks) (n % g.chunks) k)

-- The first n chunks are those of the image, and their blocks end at this byte; in the others
-- nothing is written.
pub record AreFilled (b : List ℕ) (n at : ℕ) (us : List (List StoredChunk)) : Type 0 where
  pub ends : at ≡ descriptors_end b + ((shape_at b).sector + 16) * sum_by (pointer_at b) (range_with_len 0 n)
  pub count : length us ≡ units (shape_at b)
  pub each : AllByRecursion (λ (u : List StoredChunk). length u ≡ (geometry_at b).chunks) us
  pub done : (m : ℕ) (k : StoredChunk) → m < n → slice_get (flat us) m ≡ Some k → IsDescribed b m k
  pub free : AreEmptyFrom chunk_bytes n (flat us)
  pub blocks : flat_map chunk_bytes (flat us) ≡ slice_range b (descriptors_end b) at

-- nothing is filled in a blank drive
nothing : (b : List ℕ) (n : ℕ) → slice_range b n n ≡ []
nothing b n =
    let none : n - n ≡ 0 = omega arith in
    ap (λ m. take m (drop n b)) none

pub blank_filled : (b : List ℕ) → AreFilled b 0 (descriptors_end b) (replicate (units (shape_at b)) (replicate (geometry_at b).chunks (record {
  chunk = free_chunk;
  wear = 0;
})))
blank_filled b =
    let k : StoredChunk = record { chunk = free_chunk; wear = 0 } in
    let u = replicate (geometry_at b).chunks k in
    let us = replicate (units (shape_at b)) u in
    let all : AllByRecursion (λ (k : StoredChunk). chunk_bytes k ≡ []) (flat us) =
    all_flat (λ (k : StoredChunk). chunk_bytes k ≡ []) us
    (all_replicated (AllByRecursion (λ (k : StoredChunk). chunk_bytes k ≡ [])) (units (shape_at b)) u
    (all_replicated (λ (k : StoredChunk). chunk_bytes k ≡ []) (geometry_at b).chunks k refl)) in
    let free : AreEmptyFrom chunk_bytes 0 (flat us) = record { empty = λ m x low is. all_get (λ (k : StoredChunk). chunk_bytes k ≡ []) (flat us) m x all is } in
    record {
      ends = omega arith;
      count = length-replicate (units (shape_at b)) u;
      each = all_replicated (λ (u : List StoredChunk). length u ≡ (geometry_at b).chunks) (units (shape_at b)) u (length-replicate (geometry_at b).chunks k);
      done = λ m k low is. absurd (omega arith);
      free = free;
      blocks = empty_all chunk_bytes (flat us) free ∙ sym (nothing b (descriptors_end b));
    }

further : (start size before one after at length : ℕ) → at ≡ start + size * before → length ≡ size * one → after ≡ before + one
    → at + length ≡ start + size * after
further start size before one after at length is more next =
    let product : size * (before + one) ≡ size * before + size * one = mul-add size before one in
    let same : size * after ≡ size * (before + one) = ap (λ n. size * n) next in
    omega arith

done_more : (b : List ℕ) (n at m : ℕ) (us new : List (List StoredChunk)) (k x : StoredChunk) → flat new ≡ slice_set (flat us) n k → AreFilled b n at us
    → IsNth b n at k
    → m < n + 1 → slice_get (flat new) m ≡ Some x → IsDescribed b m x
done_more b n at m us new k x flatly filled nth low is = elim (cases_lt m n) [
  | inl before ↦ filled.done m x before (sym (get_other (flat us) n m k (λ same. omega arith)) ∙ (ap (λ xs. slice_get xs m) (sym flatly) ∙ is))
  | inr there ↦ let same : n ≡ m = omega arith in
      let last : slice_get (slice_set (flat us) n k) n ≡ Some x = ap (λ i. slice_get (slice_set (flat us) n k) i) same
      ∙ (ap (λ xs. slice_get xs m) (sym flatly) ∙ is) in
      let one : k ≡ x = sym (get_same (flat us) n k x last) in
      subst (λ i. IsDescribed b i x) same (subst (λ y. IsDescribed b n y) one nth.descriptor)
]

pub one_filled : (b : List ℕ) (n at more : ℕ) (us : List (List StoredChunk)) (k : StoredChunk) → AreFilled b n at us → IsNth b n at k
    → n < units (shape_at b) * (geometry_at b).chunks → 0 < (geometry_at b).chunks → more ≡ bytes_of b n
    → AreFilled b (n + 1) (at + more) (changed_at (λ chunks. slice_set chunks (n % (geometry_at b).chunks) k) (n / (geometry_at b).chunks) us)
one_filled b n at more us k filled nth inside some is =
    let c = (geometry_at b).chunks in
    let low : n % c < c = mod_below n c some in
    let new = changed_at (λ chunks. slice_set chunks (n % c) k) (n / c) us in
    let place : n / c * c + n % c ≡ n = div-add-mod' n c in
    let flatly : flat new ≡ slice_set (flat us) n k = flat_changed c us (n / c) (n % c) k filled.each low ∙ ap (λ i. slice_set (flat us) i k) place in
    let whole : length (flat us) ≡ length us * c = length_of_flat c us filled.each in
    let within : n < length (flat us) = subst (λ m. n < m) (sym (whole ∙ ap (λ m. m * c) filled.count)) inside in
    let begins : descriptors_end b ≤ at = omega (arith, filled.ends) in
    record {
      ends = further (descriptors_end b) ((shape_at b).sector + 16) (sum_by (pointer_at b) (range_with_len 0 n)) (pointer_at b n)
          (sum_by (pointer_at b) (range_with_len 0 (n + 1))) at more filled.ends is (sum_more (pointer_at b) n);
      count = length_changed (λ chunks. slice_set chunks (n % c) k) (n / c) us ∙ filled.count;
      each = all_changed (λ (u : List StoredChunk). length u ≡ c) (λ chunks. slice_set chunks (n % c) k) (n / c) us (λ u h. length-set u (n % c) k
          ∙ h) filled.each;
      done = λ m x low is. done_more b n at m us new k x flatly filled nth low is;
      free = record {
        empty = λ m x high is. filled.free.empty m x (omega arith) (sym (get_other (flat us) n m k (λ same. omega arith))
            ∙ (ap (λ xs. slice_get xs m) (sym flatly) ∙ is));
      };
      blocks = ap (flat_map chunk_bytes) flatly
          ∙ (spelled_more chunk_bytes (flat us) n k within filled.free
          ∙ (ap (λ ys. ys ++ chunk_bytes k) filled.blocks
          ∙ (ap (λ ys. slice_range b (descriptors_end b) at ++ ys) (sym nth.blocks)
          ∙ (joined b (descriptors_end b) at (at + bytes_of b n) begins (omega arith)
          ∙ ap (λ m. slice_range b (descriptors_end b) (at + m)) (sym is)))));
    }

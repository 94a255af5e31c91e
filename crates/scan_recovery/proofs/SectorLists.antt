-- Sectors that stand one after another in bytes.
use Rattle.std.proofs.Common.{ℕ, zero, suc, ◌+◌, ◌*◌, ◌≡◌, ◌<◌, ◌≤◌, inl, inr, List, length, slice_get, slice_range, Some, map, ap, arith}
use Rattle.std.specs.List.{range_with_len}
use Rattle.std.proofs.lemmas.List.FromFn.{length-map-range_with_len}
use Rattle.scan_recovery.specs.Sectors.{IsSectorSize, sectors_in}

pub length-sectors_in : (size count : ℕ) (bytes : List ℕ) → length (sectors_in size count bytes) ≡ count
length-sectors_in size count bytes = length-map-range_with_len (λ lba. slice_range bytes (lba * size) (lba * size + size)) 0 count

-- a sector ends within the bytes
pub sector_within : (size count lba : ℕ) → IsSectorSize size → lba < count → lba * size + size ≤ count * size
sector_within size count lba (inl e) below = rw e (omega (arith, below))
sector_within size count lba (inr e) below = rw e (omega (arith, below))

get_map : {X : Type 0} (f : ℕ → X) (a n i j : ℕ) → i < n → a + i ≡ j → slice_get (map f (range_with_len a n)) i ≡ Some (f j)
get_map f a zero i j below e = absurd (omega (arith, below))
get_map f a (suc n) zero j below e = ap (λ k. Some (f k)) (omega (arith, e))
get_map f a (suc n) (suc i) j below e = get_map f (a + 1) n i j (omega (arith, below)) (omega (arith, e))

pub get-sectors_in : (size count lba : ℕ) (bytes : List ℕ) → lba < count
    → slice_get (sectors_in size count bytes) lba ≡ Some (slice_range bytes (lba * size) (lba * size + size))
get-sectors_in size count lba bytes below = get_map (λ k. slice_range bytes (k * size) (k * size + size)) 0 count lba lba below (omega arith)

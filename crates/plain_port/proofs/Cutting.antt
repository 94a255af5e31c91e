-- Bytes cut into sectors, and sectors that are put over others.
use Rattle.std.proofs.Common.{ℕ, zero, suc, ◌+◌, ◌-◌, ◌*◌, ◌≡◌, ◌≤◌, List, [], ◌∷◌, ◌++◌, length, take, drop, replicate, slice_range, ap, ◌∙◌, sym, refl, arith}
use Rattle.std.proofs.Math.Nat.{add-mul, mul-le-mul_right}
use Rattle.std.proofs.Math.Seq.{take-append_seam, drop-append_seam}
use Rattle.std.proofs.lemmas.List.{append_assoc, length-append, length-take-le, take-replicate, drop-replicate, take-append-drop, drop-drop}
use Rattle.pblk_model.specs.Bytes.{zeros}
use Rattle.block_port.specs.Own.{sectors_of}
use Rattle.plain_port.specs.Sectors.{put_from}
use Rattle.block_port.proofs.OwnLemmas.{length_sectors, sectors_append}
use Rattle.pblk_model.proofs.Numbers.{suc-times}
use Rattle.pblk_model.proofs.Parts.{part_length, put_at_end}

pub sectors_of_zeros : (size n : ℕ) → sectors_of size n (replicate (n * size) 0) ≡ replicate n (zeros size)
unfolding sectors_of zeros
sectors_of_zeros size zero = refl
sectors_of_zeros size (suc n) =
    let left : size + n * size - size ≡ n * size = omega arith in
    rw (suc-times n size, take-replicate {X = ℕ} size (size + n * size) 0 (omega arith), drop-replicate {X = ℕ} size (size + n * size) 0, left)
    (ap (λ ss. zeros size ∷ ss) (sectors_of_zeros size n))

-- sectors that are put over as many others
pub put_over : (front written old back : List (List ℕ)) → length old ≡ length written
    → put_from (front ++ (old ++ back)) (length front) written ≡ front ++ (written ++ back)
put_over front [] [] back h = refl
put_over front [] (o ∷ old) back h = absurd (omega (arith, h))
put_over front (s ∷ written) [] back h = absurd (omega (arith, h))
put_over front (s ∷ written) (o ∷ old) back h =
    let longer : length front + 1 ≡ length (front ++ s ∷ []) = sym (length-append front (s ∷ [])) in
    let again = put_over (front ++ s ∷ []) written old back (omega (arith, h)) in
    rw (put_at_end front o s (old ++ back), longer, ← append_assoc front (s ∷ []) (old ++ back), again, append_assoc front (s ∷ []) (written ++ back)) refl

-- the same of their bytes
pub put_bytes : (size lba count more : ℕ) (front old back bytes : List ℕ) → length front ≡ lba * size → length old ≡ count * size → length bytes ≡ count * size
    → sectors_of size (lba + (count + more)) (front ++ (bytes ++ back)) ≡ put_from (sectors_of size (lba + (count + more)) (front ++ (old ++ back))) lba
    (sectors_of size count bytes)
put_bytes size lba count more front old back bytes f o b =
    let over = put_over (sectors_of size lba front) (sectors_of size count bytes) (sectors_of size count old) (sectors_of size more back)
    (length_sectors size count old ∙ sym (length_sectors size count bytes)) in
    rw (
      sectors_append size lba (count + more) front (bytes ++ back) f,
      sectors_append size lba (count + more) front
          (old ++ back) f,
      sectors_append size count more bytes back b,
      sectors_append size count more old back o,
    )
    (sym (rw (length_sectors size lba front) at over))

-- sectors that are read out of others
pub get_bytes : (size lba count more : ℕ) (front bytes back : List ℕ) → length front ≡ lba * size → length bytes ≡ count * size
    → slice_range (sectors_of size (lba + (count + more)) (front ++ (bytes ++ back))) lba (lba + count) ≡ sectors_of size count bytes
get_bytes size lba count more front bytes back f b =
    let e : lba + count - lba ≡ count = omega arith in
    let past : drop lba (sectors_of size lba front ++
    (sectors_of size count bytes ++ sectors_of size more back)) ≡ sectors_of size count bytes ++ sectors_of size more back = rw
    (length_sectors size lba front) at (drop-append_seam (sectors_of size lba front) (sectors_of size count bytes ++ sectors_of size more back)) in
    rw (e, sectors_append size lba (count + more) front (bytes ++ back) f, sectors_append size count more bytes back b, past)
    (rw (length_sectors size count bytes) at (take-append_seam (sectors_of size count bytes) (sectors_of size more back)))

-- Parts of bytes that are so many sectors.

pub part_fits : (size capacity lba count len all : ℕ) → all ≡ capacity * size → len ≡ count * size → lba + count ≤ capacity → lba * size + len ≤ all
part_fits size capacity lba count len all a l within =
    let e : (lba + count) * size ≡ lba * size + count * size = add-mul lba count size in
    let le : (lba + count) * size ≤ capacity * size = mul-le-mul_right size within in
    omega (arith, e, le, a, l)

-- bytes in three parts
parted : (at len : ℕ) (xs : List ℕ) → xs ≡ take at xs ++ (slice_range xs at (at + len) ++ drop (at + len) xs)
parted at len xs =
    let e : at + len - at ≡ len = omega arith in
    rw (e, ← drop-drop len at xs, take-append-drop len (drop at xs), take-append-drop at xs) refl

pub get_at : (size capacity lba count len : ℕ) (xs : List ℕ) → length xs ≡ capacity * size → len ≡ count * size → lba + count ≤ capacity
    → sectors_of size count (slice_range xs (lba * size) (lba * size + len)) ≡ slice_range (sectors_of size capacity xs) lba (lba + count)
get_at size capacity lba count len xs a l within =
    let fits = part_fits size capacity lba count len (length xs) a l within in
    let more : capacity ≡ lba + (count + (capacity - (lba + count))) = omega (arith, within) in
    let got = get_bytes size lba count (capacity - (lba + count)) (take (lba * size) xs) (slice_range xs (lba * size) (lba * size + len))
    (drop (lba * size + len) xs)
    (length-take-le (lba * size) xs (omega (arith, fits))) (part_length (lba * size) len xs fits ∙ l) in
    sym (rw (← more, ← parted (lba * size) len xs) at got)

pub put_at : (size capacity lba count : ℕ) (xs bytes : List ℕ) → length xs ≡ capacity * size → length bytes ≡ count * size → lba + count ≤ capacity
    → sectors_of size capacity (take (lba * size) xs ++ (bytes ++ drop (lba * size + length bytes) xs)) ≡ put_from (sectors_of size capacity xs) lba
    (sectors_of size count bytes)
put_at size capacity lba count xs bytes a l within =
    let fits = part_fits size capacity lba count (length bytes) (length xs) a l within in
    let more : capacity ≡ lba + (count + (capacity - (lba + count))) = omega (arith, within) in
    let put = put_bytes size lba count (capacity - (lba + count)) (take (lba * size) xs) (slice_range xs (lba * size) (lba * size + length bytes))
    (drop (lba * size + length bytes) xs) bytes
    (length-take-le (lba * size) xs (omega (arith, fits))) (part_length (lba * size) (length bytes) xs fits ∙ l) l in
    rw (← more, ← parted (lba * size) (length bytes) xs) at put

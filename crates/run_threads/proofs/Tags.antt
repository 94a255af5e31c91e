-- Bytes that repeat, and the sectors that they are.
use Rattle.std.proofs.Common.{ℕ, zero, suc, ◌+◌, ◌-◌, ◌*◌, ◌/◌, ◌^◌, ◌≡◌, ◌≤◌, ◌&&◌, ◌<◌, inl, inr, Bool, List, [], ◌∷◌, ◌++◌, length, map, take, drop, if◌then◌else◌, replicate, nat_eq, get_or, ap, ◌∙◌, sym, refl, arith}
use Rattle.std.specs.List.{list_all, repeat}
use Rattle.std.specs.Simd.{first_chunks}
use Rattle.std.specs.Int.{from_le_bytes}
use Rattle.std.proofs.lemmas.Nat.{from_le_bytes-to_le_bytes_8, le_bytes_8, mul-le}
use Rattle.std.specs.Str.{bytes_eq}
use Rattle.std.proofs.lemmas.List.{append_assoc, append-nil, length-append, take-append-drop, length-drop, length-take-le}
use Rattle.std.proofs.Math.Bool.{and_assoc}
use Rattle.std.proofs.lemmas.Bool.Decides.{Decides-eqb, same_from_decides}
use Rattle.std.proofs.lemmas.Slice.Eq.{bytes_eq-Decides}
use Rattle.std.proofs.lemmas.Slice.{take-put_mid, drop-put_mid}
use borrow.Rule.Slice.PartMut.{put_mid}
use Rattle.std.proofs.Math.Seq.{take-append_seam, drop-append_seam}
use Rattle.block_port.specs.Own.{sectors_of}
use Rattle.block_port.specs.Port.{IsSectorSize}
use Rattle.pblk_model.specs.Bytes.{le64, number_at}
use Rattle.pblk_model.specs.Text.{Word, Tag, Mixed, word_of}
use Rattle.std.specs.Int.{w64}
use Rattle.pblk_model.specs.History.{tag_sector}

pub repeat_last : (n : ℕ) (xs : List ℕ) → repeat (n + 1) xs ≡ repeat n xs ++ xs
repeat_last zero xs = append-nil xs
repeat_last (suc n) xs = let e : suc n + 1 ≡ suc (n + 1) = omega arith in rw e (ap (λ ys. xs ++ ys) (repeat_last n xs) ∙ sym (append_assoc xs (repeat n xs) xs))

pub length-repeat : (n : ℕ) (xs : List ℕ) → length (repeat n xs) ≡ n * length xs
length-repeat zero xs = grind arith
length-repeat (suc n) xs = let e : suc n * length xs ≡ length xs + n * length xs = grind arith in length-append xs (repeat n xs)
    ∙ ap (λ (k : ℕ). length xs + k) (length-repeat n xs) ∙ sym e

repeat_append : (k n : ℕ) (xs : List ℕ) → repeat (k + n) xs ≡ repeat k xs ++ repeat n xs
repeat_append zero n xs = let e : 0 + n ≡ n = omega arith in rw e refl
repeat_append (suc k) n xs = let e : suc k + n ≡ suc (k + n) = omega arith in
    rw e (ap (λ ys. xs ++ ys) (repeat_append k n xs) ∙ sym (append_assoc xs (repeat k xs) (repeat n xs)))

-- the first elements, and the others, are compared apart
pub eq_append : (xs ys vs ws : List ℕ) → length xs ≡ length vs → bytes_eq (xs ++ ys) (vs ++ ws) ≡ (bytes_eq xs vs && bytes_eq ys ws)
eq_append [] ys [] ws h = refl
eq_append [] ys (v ∷ vs) ws h = absurd (omega (arith, h))
eq_append (x ∷ xs) ys [] ws h = absurd (omega (arith, h))
eq_append (x ∷ xs) ys (v ∷ vs) ws h = ap (λ b. nat_eq x v && b) (eq_append xs ys vs ws (omega (arith, h)))
    ∙ sym (and_assoc (nat_eq x v) (bytes_eq xs vs) (bytes_eq ys ws))

-- sectors of k pieces each
pub sectors_of_repeat : (size k count : ℕ) (xs : List ℕ) → size ≡ k * length xs → sectors_of size count (repeat (count * k) xs) ≡ replicate count (repeat k xs)
unfolding sectors_of
sectors_of_repeat size k zero xs h = refl
sectors_of_repeat size k (suc count) xs h =
    let e : suc count * k ≡ k + count * k = grind arith in
    let long : length (repeat k xs) ≡ size = length-repeat k xs ∙ sym h in
    let front : take size (repeat k xs ++ repeat (count * k) xs) ≡ repeat k xs = rw long at (take-append_seam (repeat k xs) (repeat (count * k) xs)) in
    let back : drop size (repeat k xs ++ repeat (count * k) xs) ≡ repeat (count * k) xs = rw long at (drop-append_seam (repeat k xs) (repeat (count * k) xs)) in
    rw (e, repeat_append k (count * k) xs, front, back) (ap (λ ss. repeat k xs ∷ ss) (sectors_of_repeat size k count xs h))

pub eighths : (size count : ℕ) → IsSectorSize size → (count * size ≡ count * size / 8 * 8) × (count * size / 8 ≡ count * (size / 8)) × (size ≡ size / 8 * 8)
    × (8 ≤ size)
eighths size count (inl h) = rw h (omega arith, omega arith, refl, omega arith)
eighths size count (inr h) = rw h (omega arith, omega arith, refl, omega arith)

pub tagged : (size count tag : ℕ) → IsSectorSize size → sectors_of size count (repeat (count * size / 8) (le64 tag)) ≡ replicate count (tag_sector size tag)
unfolding tag_sector
tagged size count tag h =
    let parts = eighths size count h in
    rw parts.1 (sectors_of_repeat size (size / 8) count (le64 tag) parts.2)

-- pieces of pieces
repeat_repeat : (n m : ℕ) (xs : List ℕ) → repeat n (repeat m xs) ≡ repeat (n * m) xs
repeat_repeat zero m xs = let e : 0 * m ≡ 0 = grind arith in rw e refl
repeat_repeat (suc n) m xs = let e : suc n * m ≡ m + n * m = grind arith in
    rw e (ap (λ ys. repeat m xs ++ ys) (repeat_repeat n m xs) ∙ sym (repeat_append m (n * m) xs))

-- eight numbers are written at a time
pub filled : (size count tag : ℕ) (block bytes : List ℕ) → IsSectorSize size → block ≡ repeat 8 (le64 tag) → length bytes ≡ count * size
    → bytes ≡ repeat (count * size / 64) block → sectors_of size count bytes ≡ replicate count (tag_sector size tag)
filled size count tag block bytes h eight long is =
    let all : bytes ≡ repeat (count * size / 64 * 8) (le64 tag) = is ∙ ap (repeat (count * size / 64)) eight ∙ repeat_repeat (count * size / 64) 8 (le64 tag) in
    rw (all, blocks h) (tagged size count tag h)
  where
    blocks : IsSectorSize size → count * size / 64 * 8 ≡ count * size / 8
    blocks (inl e) = rw e (omega arith)
    blocks (inr e) = rw e (omega arith)

-- pieces of eight bytes are compared one after another
pub pieces_eq : (n : ℕ) (piece xs : List ℕ) → length piece ≡ 8 → length xs ≡ n * 8
    → list_all (λ ys. bytes_eq ys piece) (first_chunks 8 n xs) ≡ bytes_eq xs (repeat n piece)
pieces_eq zero piece [] long all = refl
pieces_eq zero piece (x ∷ xs) long all = absurd (omega (arith, all))
pieces_eq (suc n) piece xs long all =
    let a_long : length (take 8 xs) ≡ 8 = length-take-le 8 xs (omega (arith, all)) in
    let r_long : length (drop 8 xs) ≡ n * 8 = length-drop 8 xs ∙ omega (arith, all) in
    let split : bytes_eq xs (piece ++ repeat n piece) ≡ (bytes_eq (take 8 xs) piece && bytes_eq (drop 8 xs) (repeat n piece)) =
    rw (take-append-drop 8 xs) at (eq_append (take 8 xs) (drop 8 xs) piece (repeat n piece) (a_long ∙ sym long)) in
    ap (λ b. bytes_eq (take 8 xs) piece && b) (pieces_eq n piece (drop 8 xs) long r_long) ∙ sym split

-- eight bytes are those of a number where theirs is that one
pub number_eq : (xs : List ℕ) (read number : ℕ) → length xs ≡ 8 → ((i : ℕ) → get_or xs i 0 < 256) → read ≡ from_le_bytes w64 xs → number < 2 ^ 64
    → nat_eq read number ≡ bytes_eq xs (le64 number)
number_eq xs read number long each is below =
    let back : le64 read ≡ xs = le_bytes_8 xs read long each is in
    same_from_decides (nat_eq read number) (bytes_eq xs (le64 number)) (Decides-eqb read number) (
      λ t. is ∙ ap (from_le_bytes w64) ((bytes_eq-Decides xs (le64 number)).0 t) ∙ from_le_bytes-to_le_bytes_8 number below,
      λ e. (bytes_eq-Decides xs (le64 number)).1 (sym back ∙ ap le64 e),
    )

-- the next of some pieces stands within them
pub within : (n k w : ℕ) → k < n → k * w + w ≤ n * w
within n k w below = let more : (k + 1) * w ≡ k * w + w = grind arith in omega (arith, more, mul-le (k + 1) w n w (omega (arith, below)) (omega arith))

-- one piece more, written
pub write_step : (n k w : ℕ) (piece old ys : List ℕ) → k < n → length piece ≡ w → length old ≡ n * w → ys ≡ piece → take (k * w) old ≡ repeat k piece
    → (length (put_mid (k * w) (k * w + w - k * w) old ys) ≡ n * w) × (take ((k + 1) * w) (put_mid (k * w) (k * w + w - k * w) old ys) ≡ repeat (k + 1) piece)
write_step n k w piece old ys below long all same done =
    let ys_long : length ys ≡ w = ap length same ∙ long in
    let fits = within n k w below in
    let next : (k + 1) * w ≡ k * w + w = grind arith in
    let end : (k + 1) * w ≡ k * w + length ys = omega (arith, ys_long, next) in
    let front = take-put_mid (k * w) (k * w + w - k * w) old ys ((k + 1) * w) end (omega (arith, all, fits)) in
    let back = drop-put_mid (k * w) (k * w + w - k * w) old ys ((k + 1) * w) (omega (arith, next)) (omega (arith, all, fits)) (omega (arith, ys_long, next)) in
    let whole = take-append-drop ((k + 1) * w) (put_mid (k * w) (k * w + w - k * w) old ys) in
    let done_long : length (take (k * w) old) ≡ k * w = length-take-le (k * w) old (omega (arith, all, fits)) in
    let size = ap length (sym whole) ∙ length-append (take ((k + 1) * w) (put_mid (k * w) (k * w + w - k * w) old ys))
    (drop ((k + 1) * w) (put_mid (k * w) (k * w + w - k * w) old ys)) in
    let f : length (take ((k + 1) * w) (put_mid (k * w) (k * w + w - k * w) old ys)) ≡ k * w + w = ap length front ∙ length-append (take (k * w) old) ys
    ∙ omega (arith, ys_long, done_long) in
    let b : length (drop ((k + 1) * w) (put_mid (k * w) (k * w + w - k * w) old ys)) ≡ n * w - (k + 1) * w = ap length back ∙ length-drop ((k + 1) * w) old
    ∙ omega (arith, all) in
    (omega (arith, size, f, b, fits, next), front ∙ ap (λ x. x ++ ys) done ∙ ap (λ x. repeat k piece ++ x) same ∙ sym (repeat_last k piece))

-- the word of a sector of pieces
pub word_is : (sector : List ℕ) (tag : ℕ) (same : Bool) → tag ≡ number_at w64 0 sector → same ≡ bytes_eq sector (repeat (length sector / 8) (le64 tag))
    → (if same then Tag tag else Mixed) ≡ word_of sector
unfolding tag_sector
word_is sector tag same is h = rw (h, is) refl

-- one word more
pub words_step : (size n k : ℕ) (words : List Word) (rest : List ℕ) (all : List Word) → k < n → length rest ≡ (n - k) * size
    → words ++ map word_of (sectors_of size (n - k) rest) ≡ all
    → (length (drop size rest) ≡ (n - (k + 1)) * size)
    × ((words ++ word_of (take size rest) ∷ []) ++ map word_of (sectors_of size (n - (k + 1)) (drop size rest)) ≡ all)
unfolding sectors_of
words_step size n k words rest all below h is =
    let left : n - k ≡ suc (n - (k + 1)) = omega arith in
    let more : (n - k) * size ≡ size + (n - (k + 1)) * size = rw left (grind arith) in (
      length-drop size rest ∙ omega (arith, h, more),
      append_assoc words (word_of (take size rest) ∷ [])
          (map word_of (sectors_of size (n - (k + 1)) (drop size rest))) ∙ (rw left at is),
    )

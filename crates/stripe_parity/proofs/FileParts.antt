-- The parts of a parity's file, one after another.
use Rattle.std.proofs.Common.{◌≡◌, ◌⊎◌, inl, inr, ℕ, zero, suc, ◌+◌, ◌*◌, ◌-◌, ◌<◌, ◌≤◌, List, [], ◌∷◌, ◌++◌, length, map, take, drop, get_or, refl, sym, ap, ap₂, ◌∙◌, subst, arith, length-append, length-drop}
use Rattle.std.proofs.lemmas.List.Sums.{sum_by-cons}
use Rattle.std.proofs.lemmas.Nat.{mul-le}
use Rattle.std.proofs.lemmas.Option.{none-some}
use Rattle.std.proofs.Math.Nat.{mul-le-mul_left}
use Rattle.std.specs.Prelude.{slice_range}
use Rattle.std.specs.List.{AllByRecursion, flat_map, range_with_len, sum_by}
use Rattle.pblk_model.specs.declared.shape.Shape.{Shape}
use Rattle.pblk_model.specs.Accepted.{IsAccepted}
use Rattle.pblk_model.specs.Chunk.{Block}
use Rattle.pblk_model.specs.ImageFile.{block_bytes}
use Rattle.pblk_model.specs.Shape.{units}
use Rattle.pblk_model.proofs.Lists.{with_last}
use Rattle.pblk_model.proofs.Maps.{sum_more}
use Rattle.pblk_model.proofs.Numbers.{next_at}
use Rattle.pblk_model.proofs.Parts.{all_dropped, all_taken, joined, take_all, take_and_drop}
use Rattle.ocssd_chunks.specs.DriveChunk.{DriveChunk}
use Rattle.ocssd_chunks.proofs.BlockList.{all_bytes}
use Rattle.ocssd_drive.specs.Units.{IsChunkIn}
use Rattle.stripe_parity.specs.declared.error.ParityErr.{ParityErr}
use Rattle.stripe_parity.specs.declared.error.ParityErr.TheVariants as errors
use Rattle.stripe_parity.specs.declared.kept.KeptChunk.{KeptChunk}
use Rattle.stripe_parity.specs.ParityBytes.{AreRowsOf, AreUnitParts, BeginsAs, IsFileRefusal, IsFirstUnkept, IsKeptPart, IsUnitPart, IsUnitRefusal, header_bytes, kept_bytes, kept_end, kept_part, magic_bytes, number_bytes, parity_bytes, rows_length, version_bytes}
use Rattle.stripe_parity.specs.ParityFile.{IsKept, IsParity, greatest_pointer}
use Rattle.stripe_parity.proofs.Differences.{below_next}
use Rattle.stripe_parity.proofs.MadeChunks.{each_more}
use Rattle.stripe_parity.proofs.ParityIs.{blocks_fit}
use Rattle.stripe_parity.proofs.Putting.{flat_more}

-- a part and the next one
pub part_more : (b : List ℕ) (from at to : ℕ) (front next : List ℕ) → from ≤ at → at ≤ to → slice_range b from at ≡ front → slice_range b at to ≡ next
    → slice_range b from to ≡ front ++ next
part_more b from at to front next low high was more = sym (joined b from at to low high) ∙ ap₂ (λ (x y : List ℕ). x ++ y) was more

sub_self : (n : ℕ) → n - n ≡ 0
sub_self n = omega arith

empty_part : (b : List ℕ) (from to : ℕ) → from ≡ to → slice_range b from to ≡ []
empty_part b from to same = ap (slice_range b from) (sym same) ∙ ap (λ n. take n (drop from b)) (sub_self from)

from_front : (b : List ℕ) (n : ℕ) → slice_range b 0 n ≡ take n b
from_front b n = let same : n - 0 ≡ n = omega arith in ap (λ m. take m b) same

pub none_kept : (s : Shape) (b : List ℕ) (unit : ℕ) → IsUnitPart s b unit 0 []
none_kept s b unit = record {
  many = refl;
  each = tt;
  bytes = empty_part b (32 + 8 * (unit * s.chunks)) (32 + 8 * (unit * s.chunks + 0)) (omega arith);
  parts = λ chunk below. absurd (omega (arith, below));
}

pub one_kept_more : (s : Shape) (b : List ℕ) (unit n : ℕ) (of : List KeptChunk) (k : KeptChunk) → IsUnitPart s b unit n of → IsKept s k
    → kept_part s b unit n ≡ kept_bytes k → IsUnitPart s b unit (n + 1) (of ++ k ∷ [])
one_kept_more s b unit n of k h is part =
    let at = 32 + 8 * (unit * s.chunks + n) in
    let end : at + 8 ≡ 32 + 8 * (unit * s.chunks + (n + 1)) = omega arith in
    record {
      many = length-append of (k ∷ []) ∙ ap (λ m. m + 1) h.many;
      each = with_last (IsKept s) of k h.each is;
      bytes = part_more b (32 + 8 * (unit * s.chunks)) at (32 + 8 * (unit * s.chunks + (n + 1))) (flat_map kept_bytes of) (kept_bytes k) (omega arith)
          (omega arith) h.bytes (ap (slice_range b at) (sym end) ∙ part)
          ∙ sym (flat_more kept_bytes of k);
      parts = below_next (IsKeptPart s b unit) n h.parts (k, is, part);
    }

pub none_units : (s : Shape) (b : List ℕ) → AreUnitParts s b 0 []
none_units s b = record {
  many = refl;
  chunks_are = tt;
  each = tt;
  bytes = empty_part b 32 (32 + 8 * (0 * s.chunks)) (omega arith);
  parts = λ unit chunk below. absurd (omega (arith, below));
}

pub one_unit_more : (s : Shape) (b : List ℕ) (n : ℕ) (kept : List (List KeptChunk)) (of : List KeptChunk) → AreUnitParts s b n kept
    → IsUnitPart s b n s.chunks of → AreUnitParts s b (n + 1) (kept ++ of ∷ [])
one_unit_more s b n kept of h part =
    let next : n * s.chunks + s.chunks ≡ (n + 1) * s.chunks = grind arith in
    let end : 32 + 8 * (n * s.chunks + s.chunks) ≡ 32 + 8 * ((n + 1) * s.chunks) = ap (λ m. 32 + 8 * m) next in
    record {
      many = length-append kept (of ∷ []) ∙ ap (λ m. m + 1) h.many;
      chunks_are = with_last (λ (x : List KeptChunk). length x ≡ s.chunks) kept of h.chunks_are part.many;
      each = with_last (AllByRecursion (IsKept s)) kept of h.each part.each;
      bytes = ap (slice_range b 32) (sym end)
          ∙ part_more b 32 (32 + 8 * (n * s.chunks)) (32 + 8 * (n * s.chunks + s.chunks)) (flat_map (flat_map kept_bytes) kept) (flat_map kept_bytes of)
          (omega arith) (omega arith) h.bytes part.bytes
          ∙ sym (flat_more (flat_map kept_bytes) kept of);
      parts = λ unit chunk below low. below_next (λ u. IsKeptPart s b u chunk) n (λ u before. h.parts u chunk before low) (part.parts chunk low) unit below;
    }

pub begins : (s : Shape) (b : List ℕ) (kept : List (List KeptChunk)) → take 32 b ≡ header_bytes s → kept_end s ≤ length b → AreUnitParts s b (units s) kept
    → BeginsAs s b kept
begins s b kept header reaches h = record {
  units_are = h.many;
  chunks_are = h.chunks_are;
  each = h.each;
  reaches = reaches;
  bytes = sym (from_front b (kept_end s))
      ∙ part_more b 0 32 (kept_end s) (header_bytes s) (flat_map (flat_map kept_bytes) kept) (omega arith) (omega arith) header h.bytes;
}

earlier_part : (s : Shape) (b : List ℕ) (unit chunk u c : ℕ) → ((v d : ℕ) → v < unit → d < s.chunks → IsKeptPart s b v d)
    → ((d : ℕ) → d < chunk → IsKeptPart s b unit d) → c < s.chunks
    → (u < unit) ⊎ ((u ≡ unit) × (c < chunk)) → IsKeptPart s b u c
earlier_part s b unit chunk u c before here low (inl less) = before u c less low
earlier_part s b unit chunk u c before here low (inr (same, less)) = subst (λ v. IsKeptPart s b v c) (sym same) (here c less)

pub first_unkept : (s : Shape) (b : List ℕ) (unit chunk : ℕ) (kept : List (List KeptChunk)) → take 32 b ≡ header_bytes s → kept_end s ≤ length b
    → unit < units s → chunk < s.chunks → (IsKeptPart s b unit chunk → ⊥)
    → ((c : ℕ) → c < chunk → IsKeptPart s b unit c) → AreUnitParts s b unit kept → IsFirstUnkept s b unit chunk
first_unkept s b unit chunk kept header reaches within chunk-within not here h = record {
  header = header;
  reaches = reaches;
  unit_within = within;
  chunk_within = chunk-within;
  not = not;
  first = λ u c low at. earlier_part s b unit chunk u c h.parts here low at;
}

-- so the refusal of a unit is one of the file
pub file_refused : (s : Shape) (b : List ℕ) (at : ℕ) (kept : List (List KeptChunk)) (e : ParityErr) → take 32 b ≡ header_bytes s → kept_end s ≤ length b
    → at < units s → AreUnitParts s b at kept
    → IsUnitRefusal s b at e → IsFileRefusal s b e
file_refused s b at kept errors.Magic header reaches within h refused = absurd refused
file_refused s b at kept errors.Version header reaches within h refused = absurd refused
file_refused s b at kept errors.Numbers header reaches within h refused = absurd refused
file_refused s b at kept (errors.Short bytes) header reaches within h refused = absurd refused
file_refused s b at kept errors.Long header reaches within h refused = absurd refused
file_refused s b at kept (errors.State unit chunk) header reaches within h (same, low, not, before) =
    subst (λ u. IsFirstUnkept s b u chunk) (sym same) (first_unkept s b at chunk kept header reaches within low not before h)
file_refused s b at kept (errors.Differs unit chunk) header reaches within h refused = absurd refused
file_refused s b at kept (errors.Drive unit event) header reaches within h refused = absurd refused
file_refused s b at kept errors.Memory header reaches within h refused = tt

-- The header, in three parts.
pub header_is : (s : Shape) (b : List ℕ) → take 8 b ≡ magic_bytes → slice_range b 8 12 ≡ version_bytes → slice_range b 12 32 ≡ number_bytes s
    → take 32 b ≡ header_bytes s
header_is s b magic version numbers =
    part_more b 0 12 32 (magic_bytes ++ version_bytes) (number_bytes s) (omega arith) (omega arith)
    (part_more b 0 8 12 magic_bytes version_bytes (omega arith) (omega arith) magic version) numbers

-- The exclusive ors.

pub no_rows : (s : Shape) (b : List ℕ) (kept : List (List KeptChunk)) → kept_end s ≤ length b → AreRowsOf s b kept 0 (kept_end s) []
no_rows s b kept reaches = record {
  many = refl;
  lengths = λ chunk row there. absurd (none-some row there);
  place = omega arith;
  reaches = reaches;
  bytes = empty_part b (kept_end s) (kept_end s) refl;
}

farther : (w a g at end start : ℕ) → at ≡ start + w * a → end ≡ at + w * g → end ≡ start + w * (a + g)
farther w a g at end start was is = grind (arith, was, is)

pub one_row_more : (s : Shape) (b : List ℕ) (kept : List (List KeptChunk)) (n at end : ℕ) (rows : List (List Block)) (row : List Block)
    → AreRowsOf s b kept n at rows
    → end ≡ at + (s.sector + 16) * greatest_pointer kept n → end ≤ length b → length row ≡ greatest_pointer kept n
    → slice_range b at end ≡ flat_map block_bytes row
    → AreRowsOf s b kept (n + 1) end (rows ++ row ∷ [])
one_row_more s b kept n at end rows row h is reaches long part =
    let w = s.sector + 16 in
    record {
      many = length-append rows (row ∷ []) ∙ ap (λ m. m + 1) h.many;
      lengths = each_more (λ chunk r. length r ≡ greatest_pointer kept chunk) rows row h.lengths (long ∙ ap (greatest_pointer kept) (sym h.many));
      place = farther w (sum_by (greatest_pointer kept) (range_with_len 0 n)) (greatest_pointer kept n) at end (kept_end s) h.place is
          ∙ ap (λ m. kept_end s + w * m) (sym (sum_more (greatest_pointer kept) n));
      reaches = reaches;
      bytes = part_more b (kept_end s) at end (flat_map (flat_map block_bytes) rows) (flat_map block_bytes row) (omega (arith, h.place))
          (omega (arith, is)) h.bytes part
          ∙ sym (flat_more (flat_map block_bytes) rows row);
    }

-- the sum of the first is at most the sum of all
sum_within : (f : ℕ → ℕ) (a n m : ℕ) → n ≤ m → sum_by f (range_with_len a n) ≤ sum_by f (range_with_len a m)
sum_within f a zero m low = omega arith
sum_within f a (suc n) zero low = absurd (omega (arith, low))
sum_within f a (suc n) (suc m) low =
    omega (arith, sum_by-cons f a (range_with_len (a + 1) n), sum_by-cons f a (range_with_len (a + 1) m), sum_within f (a + 1) n m (omega (arith, low)))

-- a row that ends past the bytes
pub ends_in_rows : (s : Shape) (b : List ℕ) (kept : List (List KeptChunk)) (n at : ℕ) (rows : List (List Block)) → AreRowsOf s b kept n at rows → n < s.chunks
    → length b < at + (s.sector + 16) * greatest_pointer kept n → length b < kept_end s + rows_length s kept
ends_in_rows s b kept n at rows h low short =
    let w = s.sector + 16 in
    let f = greatest_pointer kept in
    let end = farther w (sum_by f (range_with_len 0 n)) (f n) at (at + w * f n) (kept_end s) h.place refl in
    let fewer : sum_by f (range_with_len 0 n) + f n ≤ sum_by f (range_with_len 0 s.chunks) =
    omega (arith, sum_more f n, sum_within f 0 (n + 1) s.chunks (omega (arith, low))) in
    omega (arith, short, end, mul-le-mul_left w fewer)

-- where the bytes end with the last row, they are the parity's
pub whole_file : (s : Shape) (b : List ℕ) (kept : List (List KeptChunk)) (n at : ℕ) (rows : List (List Block)) → BeginsAs s b kept
    → AreRowsOf s b kept n at rows → length b ≤ at
    → parity_bytes (record { shape = s; chunks = kept; rows = rows }) ≡ b
whole_file s b kept n at rows begins h end =
    sym (part_more b 0 (kept_end s) at (header_bytes s ++ flat_map (flat_map kept_bytes) kept) (flat_map (flat_map block_bytes) rows) (omega arith)
    (omega (arith, h.place)) (from_front b (kept_end s) ∙ begins.bytes) h.bytes)
    ∙ from_front b at ∙ take_all b at end

each_byte : (b : List ℕ) (k : ℕ) → AllByRecursion (λ x. x < 256) b → get_or b k 0 < 256
each_byte [] k all = omega arith
each_byte (x ∷ b) zero all = all.0
each_byte (x ∷ b) (suc k) all = each_byte b k all.1

-- the bytes of a part are bytes
pub part_bytes : (b : List ℕ) (from to : ℕ) → ((k : ℕ) → get_or b k 0 < 256) → (k : ℕ) → get_or (slice_range b from to) k 0 < 256
part_bytes b from to each k =
    each_byte (slice_range b from to) k (all_taken (λ x. x < 256) (to - from) (drop from b) (all_dropped (λ x. x < 256) from b (all_bytes b each)))

-- a byte, three zeros and four bytes
pub eight : (b p : List ℕ) (x : ℕ) → length b ≡ 8 → get_or b 0 0 ≡ x → slice_range b 1 4 ≡ 0 ∷ 0 ∷ 0 ∷ [] → slice_range b 4 8 ≡ p
    → b ≡ (x ∷ 0 ∷ 0 ∷ 0 ∷ []) ++ p
eight [] p x long first zeros rest = absurd (omega (arith, long))
eight (y ∷ b) p x long first zeros rest =
    let last : drop 3 b ≡ p = sym (take_all (drop 3 b) 4 (omega (arith, long, length-drop 3 b))) ∙ rest in
    ap₂ (λ (z : ℕ) (l : List ℕ). z ∷ l) first (sym (take_and_drop 3 b) ∙ ap₂ (λ (k l : List ℕ). k ++ l) zeros last)

-- what is kept of a chunk ends within what is kept of all
part_within : (s : Shape) (unit chunk : ℕ) → unit < units s → chunk < s.chunks → 32 + 8 * (unit * s.chunks + chunk) + 8 ≤ kept_end s
part_within s unit chunk low below =
    let more : (unit + 1) * s.chunks ≤ units s * s.chunks = mul-le (unit + 1) s.chunks (units s) s.chunks (omega (arith, low)) (omega arith) in
    omega (arith, more, below, next_at unit s.chunks)

pub part_reaches : (s : Shape) (b : List ℕ) (unit chunk : ℕ) → kept_end s ≤ length b → unit < units s → chunk < s.chunks
    → 32 + 8 * (unit * s.chunks + chunk) + 8 ≤ length b
part_reaches s b unit chunk reaches low below = omega (arith, reaches, part_within s unit chunk low below)

-- what is read is a parity
pub read_parity : (s : Shape) (b : List ℕ) (kept : List (List KeptChunk)) (at : ℕ) (rows : List DriveChunk) → IsAccepted s → BeginsAs s b kept
    → AreRowsOf s b kept s.chunks at (map (λ (c : DriveChunk). c.chunk.blocks) rows)
    → AllByRecursion (IsChunkIn s) rows → IsParity (record { shape = s; chunks = kept; rows = map (λ (c : DriveChunk). c.chunk.blocks) rows })
read_parity s b kept at rows accepted begins h fits = record {
  accepted = accepted;
  units_are = begins.units_are;
  chunks_are = begins.chunks_are;
  each = begins.each;
  rows_are = h.many;
  lengths = h.lengths;
  blocks = blocks_fit s rows fits;
}

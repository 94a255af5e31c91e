-- Lemmas about the blocks of a line's records.
use Rattle.std.proofs.Common.{◌≡◌, ℕ, zero, suc, ◌+◌, ◌-◌, ◌*◌, ◌≤◌, List, [], ◌∷◌, length, take, drop, replicate, slice_range, refl, ap, sym, ◌∙◌, subst, arith}
use Rattle.std.proofs.lemmas.List.{length-replicate}
use Rattle.std.proofs.Math.Nat.{mul-le-mul_right}
use Rattle.pblk_model.specs.declared.shape.Shape.{Shape}
use Rattle.pblk_model.specs.declared.chunk.Mark.{Mark}
use Rattle.pblk_model.specs.Chunk.{Block}
use Rattle.pblk_model.specs.Shape.{units}
use Rattle.pblk_model.specs.Blocks.{blocks_of}
use Rattle.pblk_model.specs.LineOrder.{start_len, end_len, data_len, HoldsEnd, IsLeastMultiple}
use Rattle.pblk_core.proofs.Filled.{drop-blocks_of}
use Rattle.pblk_model.proofs.Tests.{data_within}
use Rattle.pblk_model.proofs.BlocksLemmas.{length-blocks_of, take-blocks_of}

-- the marks of any line have room where those of the widest have
pub marks_fit : (s : Shape) (g n more room : ℕ) → n + more ≤ data_len s g → g ≤ units s → units s * s.clba ≤ room → n + more ≤ room
marks_fit s g n more room few narrow enough =
    let within : data_len s g ≤ g * s.clba - start_len s - end_len s g = data_within _ _ (data_len s g) refl in
    let wide : g * s.clba ≤ units s * s.clba = mul-le-mul_right s.clba narrow in
    omega arith

-- the end record of no line is longer than that of the widest
pub longest : (s : Shape) (g : ℕ) → IsLeastMultiple s.ws_opt (HoldsEnd s g) (end_len s g)
    → IsLeastMultiple s.ws_opt (HoldsEnd s (units s)) (end_len s (units s)) → g ≤ units s → end_len s g ≤ end_len s (units s)
longest s g own widest narrow =
    let wide : g * s.clba ≤ units s * s.clba = mul-le-mul_right s.clba narrow in
    let held : HoldsEnd s (units s) (s.ws_opt * widest.multiple.0) = subst (HoldsEnd s (units s)) widest.multiple.2 widest.holds in
    let least : end_len s g ≤ s.ws_opt * widest.multiple.0 = own.least widest.multiple.0 widest.multiple.1 (omega arith) in
    subst (λ n. end_len s g ≤ n) (sym widest.multiple.2) least

pub longest_bytes : (s : Shape) (g size : ℕ) → end_len s g ≤ end_len s (units s) → size ≡ end_len s (units s) * s.sector → end_len s g * s.sector ≤ size
longest_bytes s g size h size-is = let all : end_len s g * s.sector ≤ end_len s (units s) * s.sector = mul-le-mul_right s.sector h in omega arith

-- a stripe of it lies in its bytes
pub run_within : (from stripe count size long : ℕ) → from + stripe ≤ count → count * size ≤ long → (from + stripe) * size ≤ long
run_within from stripe count size long h enough = let all : (from + stripe) * size ≤ count * size = mul-le-mul_right size h in omega arith

take_same : {X : Type 0} (n k : ℕ) (x : X) → n ≤ k → take n (replicate k x) ≡ replicate n x
take_same zero k x h = refl
take_same (suc n) zero x h = absurd (omega arith)
take_same (suc n) (suc k) x h = ap (λ xs. x ∷ xs) (take_same n k x (omega arith))

drop_same : {X : Type 0} (n k : ℕ) (x : X) → drop n (replicate k x) ≡ replicate (k - n) x
drop_same zero k x = let all : k - 0 ≡ k = omega arith in rw all refl
drop_same (suc n) zero x = let none : 0 - suc n ≡ 0 = omega arith in rw none refl
drop_same (suc n) (suc k) x = let less : suc k - suc n ≡ k - n = omega arith in rw less (drop_same n k x)

-- the blocks of a record from one on, as many as a stripe has
pub run_of : (size count stripe from : ℕ) (bytes : List ℕ) (m : Mark) → from + stripe ≤ count
    → take stripe (drop from (blocks_of size bytes (replicate count m))) ≡ blocks_of size (take (stripe * size) (drop (from * size) bytes)) (replicate stripe m)
run_of size count stripe from bytes m h =
    let left : stripe ≤ count - from = omega arith in
    rw (
      drop-blocks_of size from bytes (replicate count m),
      drop_same from count m,
      take-blocks_of size stripe (drop (from * size) bytes) (replicate (count - from) m),
      take_same stripe (count - from) m left,
    ) refl

pub stripe_of : (size count stripe from begins a : ℕ) (bytes : List ℕ) (m : Mark) → from ≡ a - begins → from + stripe ≤ count
    → blocks_of size (take (stripe * size) (drop (from * size) bytes)) (replicate stripe m) ≡ slice_range (blocks_of size bytes (replicate count m))
    (a - begins) (a - begins + stripe)
stripe_of size count stripe from begins a bytes m from-is h =
    let long : a - begins + stripe - (a - begins) ≡ stripe = omega arith in
    rw (long, ← from-is) (sym (run_of size count stripe from bytes m h))

-- the bytes behind a record's are none of its blocks
pub only_front : (size count : ℕ) (bytes : List ℕ) (m : Mark)
    → blocks_of size bytes (replicate count m) ≡ blocks_of size (take (count * size) bytes) (replicate count m)
only_front size zero bytes m = refl
only_front size (suc count) bytes m = sym (all ∙ same) where
  all : blocks_of size (take (suc count * size) bytes) (replicate (suc count) m) ≡ blocks_of size (take (suc count * size) bytes)
      (take (suc count) (replicate (suc count) m))
  all = ap (λ (ms : List Mark). blocks_of size (take (suc count * size) bytes) ms) (sym (take_same (suc count) (suc count) m (omega arith)))

  whole : (n : ℕ) (bs : List Block) → length bs ≡ n → take n bs ≡ bs
  whole zero [] h = refl
  whole zero (b ∷ bs) h = absurd (omega arith)
  whole (suc n) [] h = absurd (omega arith)
  whole (suc n) (b ∷ bs) h = ap (λ xs. b ∷ xs) (whole n bs (omega arith))

  same : blocks_of size (take (suc count * size) bytes) (take (suc count) (replicate (suc count) m)) ≡ blocks_of size bytes (replicate (suc count) m)
  same = sym (take-blocks_of size (suc count) bytes (replicate (suc count) m))
      ∙ whole (suc count) (blocks_of size bytes (replicate (suc count) m))
      (length-blocks_of size bytes (replicate (suc count) m) ∙ length-replicate (suc count) m)

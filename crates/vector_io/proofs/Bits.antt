-- Numbers whose bits are flags.
use Rattle.std.proofs.Common.{ℕ, zero, suc, ◌+◌, ◌-◌, ◌<◌, ◌≤◌, append_assoc, ◌≡◌, ◌≢◌, ◌*◌, ◌^◌, ◌%◌, ◌++◌, Bool, true, false, cond, List, [], ◌∷◌, length, replicate, slice_index_or, refl, sym, ap, ◌∙◌, arith, w64, bit_or}
use Rattle.std.specs.Int.{bit_at}
use Rattle.std.proofs.lemmas.Nat.Bits.{bit_at_set_same, bit_at_set_other, bit_at-zero}
use Rattle.std.proofs.lemmas.List.{length-append, length-replicate, replicate-append-replicate}
use native.Mathlib.Decide.{ℕ_discrete}
use Rattle.vector_io.specs.Status.{HasBits}

unset_more : (flags : List Bool) (i : ℕ) → slice_index_or (flags ++ false ∷ []) i false ≡ slice_index_or flags i false
unset_more [] zero = refl
unset_more [] (suc i) = refl
unset_more (f ∷ flags) zero = refl
unset_more (f ∷ flags) (suc i) = unset_more flags i

at_end : (flags : List Bool) (f : Bool) (i : ℕ) → length flags ≡ i → slice_index_or (flags ++ f ∷ []) i false ≡ f
at_end [] f zero e = refl
at_end [] f (suc i) e = absurd (omega arith)
at_end (g ∷ flags) f zero e = absurd (omega arith)
at_end (g ∷ flags) f (suc i) e = at_end flags f i (omega arith)

elsewhere : (flags : List Bool) (f : Bool) (i : ℕ) → i ≢ length flags → slice_index_or (flags ++ f ∷ []) i false ≡ slice_index_or flags i false
elsewhere [] f zero e = absurd (e refl)
elsewhere [] f (suc i) e = refl
elsewhere (g ∷ flags) f zero e = refl
elsewhere (g ∷ flags) f (suc i) e = elsewhere flags f i (λ same. e (ap suc same))

set_bit : (n at : ℕ) (flags : List Bool) → at < 64 → length flags ≡ at → HasBits n flags → (i : ℕ) → Dec (i ≡ at)
    → bit_at (bit_or n (1 * 2 ^ at % 2 ^ 64)) i ≡ cond (slice_index_or (flags ++ true ∷ []) i false) 1 0
set_bit n at flags within len h i (yes same) = rw (same) (bit_at_set_same w64 n at within ∙ ap (λ b. cond b 1 0) (sym (at_end flags true at len)))
set_bit n at flags within len h i (no apart) =
    bit_at_set_other w64 n at within i apart ∙ h.bit i ∙ ap (λ b. cond b 1 0) (sym (elsewhere flags true i (λ e. apart (e ∙ len))))

pub bit_set : (n at : ℕ) → at < 64 → (flags : List Bool) → length flags ≡ at → HasBits n flags → HasBits (bit_or n (1 * 2 ^ at % 2 ^ 64)) (flags ++ true ∷ [])
bit_set n at within flags len h = record { bit = λ i. set_bit n at flags within len h i (ℕ_discrete i at) }

pub bit_unset : (n : ℕ) (flags : List Bool) → HasBits n flags → HasBits n (flags ++ false ∷ [])
bit_unset n flags h = record { bit = λ i. h.bit i ∙ ap (λ b. cond b 1 0) (sym (unset_more flags i)) }

pub no_bits : HasBits 0 []
no_bits = record { bit = λ i. bit_at-zero i ∙ refl }

pub flags_grow : (flags : List Bool) (from at : ℕ) (set : Bool) → from ≤ at
    → (flags ++ replicate (at - from) set) ++ set ∷ [] ≡ flags ++ replicate (at + 1 - from) set
flags_grow flags from at set h =
    let more : at - from + 1 ≡ at + 1 - from = omega arith in
    append_assoc flags (replicate (at - from) set) (set ∷ [])
    ∙ ap (λ fs. flags ++ fs) (replicate-append-replicate (at - from) 1 set ∙ ap (λ n. replicate n set) more)

pub flags_len : (flags : List Bool) (from at : ℕ) (set : Bool) → from ≤ at → length flags ≡ from → length (flags ++ replicate (at - from) set) ≡ at
flags_len flags from at set h len = length-append flags (replicate (at - from) set) ∙ omega (arith, length-replicate (at - from) set)

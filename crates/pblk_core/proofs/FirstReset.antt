-- The first chunk of those that are to be reset, and the ones behind it.
use Rattle.std.proofs.Common.{◌≡◌, ◌≢◌, ◌⊎◌, ℕ, ◌+◌, ◌^◌, ◌<◌, ◌≤◌, zero, suc, Bool, true, false, cond, Some, None, Option, List, [], ◌∷◌, ◌++◌, drop, refl, sym, subst, ap, ap₂, ◌∙◌, arith, inl, inr}
use Rattle.std.specs.Prelude.{slice_get}
use Rattle.std.specs.List.{filter, flat_map, range_with_len}
use Rattle.std.proofs.lemmas.Bool.{cases_order, eqb-true}
use Rattle.std.proofs.lemmas.Option.{same_Some, none-some}
use Rattle.core_laws.specs.OpenedLines.{bits_of}
use Rattle.pblk_core.specs.declared.resets.LineChunk.{LineChunk}
use Rattle.pblk_core.specs.Resets.{in_line, is_of_line}
use Rattle.core_laws.proofs.UnitBits.{bits_kept}
use Rattle.pblk_model.proofs.Tests.{same_number}

abbrev pub chunk_of : ℕ → ℕ → LineChunk
chunk_of line unit = record { line = line; unit = unit }

-- the chunks of these units of each line
abbrev pub all_chunks : (ℕ → List ℕ) → ℕ → ℕ → List LineChunk
all_chunks g a n = flat_map (λ line. in_line line (g line)) (range_with_len a n)

-- ---- the first line with a unit

pub record IsFirstOf (g : ℕ → List ℕ) (a n : ℕ) (r : LineChunk) : Type 0 where
  pub low : a ≤ r.line
  pub inside : r.line < a + n
  pub units : List ℕ
  pub is : g r.line ≡ r.unit ∷ units
  pub before : (k : ℕ) → a ≤ k → k < r.line → g k ≡ []

pub same_first : (a k : ℕ) → a ≤ k → (a ≡ k) ⊎ (a + 1 ≤ k)
same_first a k low = go (cases_order a k)
  where
    go : (a ≡ k) ⊎ ((a < k) ⊎ (k < a)) → (a ≡ k) ⊎ (a + 1 ≤ k)
    go (inl same) = inl same
    go (inr (inl less)) = inr (omega arith)
    go (inr (inr more)) = absurd (omega arith)

pub first_is : (g : ℕ → List ℕ) (a n : ℕ) (r : LineChunk) → slice_get (all_chunks g a n) 0 ≡ Some r → IsFirstOf g a n r
first_is g a zero r e = absurd (none-some r e)
first_is g a (suc n) r e = go (g a) refl e (λ f. first_is g (a + 1) n r f)
  where
    later : g a ≡ [] → IsFirstOf g (a + 1) n r → IsFirstOf g a (suc n) r
    later none f =
        let low : a + 1 ≤ r.line = f.low in
        let inside : r.line < a + 1 + n = f.inside in
        record { low = omega arith; inside = omega arith; units = f.units; is = f.is; before = λ k from less. by k less (same_first a k from) }
      where
        by : (k : ℕ) → k < r.line → (a ≡ k) ⊎ (a + 1 ≤ k) → g k ≡ []
        by k less (inl same) = ap g (sym same) ∙ none
        by k less (inr more) = f.before k more less

    go : (us : List ℕ) → g a ≡ us → slice_get (in_line a us ++ all_chunks g (a + 1) n) 0 ≡ Some r
        → (slice_get (all_chunks g (a + 1) n) 0 ≡ Some r → IsFirstOf g (a + 1) n r) → IsFirstOf g a (suc n) r
    go [] is f rest = later is (rest f)
    go (u ∷ us) is f rest = subst (IsFirstOf g a (suc n)) (same_Some (chunk_of a u) r f)
        (record { low = omega arith; inside = omega arith; units = us; is = is; before = λ k from less. absurd (omega arith) })

pub same_above : (g h : ℕ → List ℕ) (a n : ℕ) → ((k : ℕ) → a ≤ k → h k ≡ g k) → all_chunks h a n ≡ all_chunks g a n
same_above g h a zero same = refl
same_above g h a (suc n) same = ap₂ (λ us rest. in_line a us ++ rest) (same a (omega arith)) (same_above g h (a + 1) n (λ k from. same k (omega arith)))

-- without the first one, where its line has one unit less and each other line has the same
pub others_are : (g h : ℕ → List ℕ) (a n : ℕ) (r : LineChunk) (f : IsFirstOf g a n r) → h r.line ≡ f.units → ((k : ℕ) → k ≢ r.line → h k ≡ g k)
    → all_chunks h a n ≡ drop 1 (all_chunks g a n)
others_are g h a zero r f e other = let low : a ≤ r.line = f.low in let inside : r.line < a + 0 = f.inside in absurd (omega arith)
others_are g h a (suc n) r f e other = go (same_first a r.line f.low) (λ x y. others_are g h (a + 1) n r x y other)
  where
    go : (a ≡ r.line) ⊎ (a + 1 ≤ r.line) → ((x : IsFirstOf g (a + 1) n r) → h r.line ≡ x.units → all_chunks h (a + 1) n ≡ drop 1 (all_chunks g (a + 1) n))
        → all_chunks h a (suc n) ≡ drop 1 (all_chunks g a (suc n))
    go (inl same) rest =
        ap₂ (λ us xs. in_line a us ++ xs) (ap h same ∙ e) (same_above g h (a + 1) n (λ k from. other k (λ c. absurd (omega arith))))
        ∙ sym (ap (λ us. drop 1 (in_line a us ++ all_chunks g (a + 1) n)) (ap g same ∙ f.is))
    go (inr more) rest =
        let inside : r.line < a + suc n = f.inside in
        let none : g a ≡ [] = f.before a (omega arith) (omega arith) in
        let x : IsFirstOf g (a + 1) n r =
        record { low = more; inside = omega arith; units = f.units; is = f.is; before = λ k from less. f.before k (omega arith) less } in
        ap (λ us. in_line a us ++ all_chunks h (a + 1) n) (other a (λ c. absurd (omega arith)) ∙ none) ∙ rest x e
        ∙ sym (ap (λ us. drop 1 (in_line a us ++ all_chunks g (a + 1) n)) none)

-- the first one is of the line where that has a unit and no line before has
pub none_before : (g : ℕ → List ℕ) (a n line u : ℕ) (us : List ℕ) → a ≤ line → line < a + n → g line ≡ u ∷ us → ((k : ℕ) → a ≤ k → k < line → g k ≡ [])
    → slice_get (all_chunks g a n) 0 ≡ Some (chunk_of line u)
none_before g a zero line u us low inside is before = absurd (omega arith)
none_before g a (suc n) line u us low inside is before =
    go (same_first a line low) (λ x. none_before g (a + 1) n line u us x (omega arith) is (λ k from less. before k (omega arith) less))
  where
    go : (a ≡ line) ⊎ (a + 1 ≤ line) → (a + 1 ≤ line → slice_get (all_chunks g (a + 1) n) 0 ≡ Some (chunk_of line u))
        → slice_get (all_chunks g a (suc n)) 0 ≡ Some (chunk_of line u)
    go (inl same) rest = ap (λ vs. slice_get (in_line a vs ++ all_chunks g (a + 1) n) 0) (ap g same ∙ is) ∙ ap (λ k. Some (chunk_of k u)) same
    go (inr more) rest = ap (λ vs. slice_get (in_line a vs ++ all_chunks g (a + 1) n) 0) (before a (omega arith) (omega arith)) ∙ rest more

-- whether it is of the line tells whether the line has a unit
pub is_there : (g : ℕ → List ℕ) (n line : ℕ) → is_of_line line (slice_get (all_chunks g 0 n) 0) ≡ true → (u : ℕ) × (us : List ℕ) × (g line ≡ u ∷ us)
is_there g n line e = go (slice_get (all_chunks g 0 n) 0) refl e
  where
    go : (o : Option LineChunk) → slice_get (all_chunks g 0 n) 0 ≡ o → is_of_line line o ≡ true → (u : ℕ) × (us : List ℕ) × (g line ≡ u ∷ us)
    go None f none = absurd cc
    go (Some r) f its = let x : IsFirstOf g 0 n r = first_is g 0 n r f in (r.unit, x.units, ap g (sym (eqb-true r.line line its)) ∙ x.is)

pub none_there : (g : ℕ → List ℕ) (n line : ℕ) → line < n → ((k : ℕ) → k < line → g k ≡ []) → is_of_line line (slice_get (all_chunks g 0 n) 0) ≡ false
    → g line ≡ []
none_there g n line inside before e = go (g line) refl
  where
    go : (vs : List ℕ) → g line ≡ vs → g line ≡ []
    go [] is = is
    go (u ∷ us) is =
        let held : is_of_line line (slice_get (all_chunks g 0 n) 0) ≡ true =
        ap (is_of_line line) (none_before g 0 n line u us (omega arith) (omega arith) is (λ k from less. before k less)) ∙ same_number line in
        absurd cc

-- no line has a unit where there is no chunk
no_chunk : (line : ℕ) (us : List ℕ) (rest : List LineChunk) → in_line line us ++ rest ≡ [] → (us ≡ []) × (rest ≡ [])
no_chunk line [] rest e = (refl, e)
no_chunk line (u ∷ us) rest e = absurd (none-some (chunk_of line u) (sym (ap (λ xs. slice_get xs 0) e)))

pub none_of_any : (g : ℕ → List ℕ) (a n k : ℕ) → all_chunks g a n ≡ [] → a ≤ k → k < a + n → g k ≡ []
none_of_any g a zero k none low high = absurd (omega arith)
none_of_any g a (suc n) k none low high =
    let both = no_chunk a (g a) (all_chunks g (a + 1) n) none in
    go (same_first a k low) both.0 (λ more. none_of_any g (a + 1) n k both.1 more (omega arith))
  where
    go : (a ≡ k) ⊎ (a + 1 ≤ k) → g a ≡ [] → (a + 1 ≤ k → g k ≡ []) → g k ≡ []
    go (inl same) here rest = ap g (sym same) ∙ here
    go (inr more) here rest = rest more

-- ---- the first number that passes

pub record IsFirstPassed (p : ℕ → Bool) (a n u : ℕ) (us : List ℕ) : Type 0 where
  pub passes : p u ≡ true
  pub low : a ≤ u
  pub inside : u < a + n
  pub others : (q : ℕ → Bool) → q u ≡ false → ((k : ℕ) → k ≢ u → q k ≡ p k) → filter q (range_with_len a n) ≡ us

filter_above : (p q : ℕ → Bool) (a n : ℕ) → ((k : ℕ) → a ≤ k → q k ≡ p k) → filter q (range_with_len a n) ≡ filter p (range_with_len a n)
filter_above p q a zero same = refl
filter_above p q a (suc n) same = ap₂ (λ b xs. cond b (a ∷ xs) xs) (same a (omega arith)) (filter_above p q (a + 1) n (λ k from. same k (omega arith)))

pub first_passed : (p : ℕ → Bool) (a n u : ℕ) (us : List ℕ) → filter p (range_with_len a n) ≡ u ∷ us → IsFirstPassed p a n u us
first_passed p a zero u us e = absurd (none-some u (ap (λ xs. slice_get xs 0) e))
first_passed p a (suc n) u us e = go (p a) refl e (λ f. first_passed p (a + 1) n u us f)
  where
    here : p a ≡ true → a ≡ u → filter p (range_with_len (a + 1) n) ≡ us → IsFirstPassed p a (suc n) u us
    here is same rest = record {
      passes = ap p (sym same) ∙ is;
      low = omega arith;
      inside = omega arith;
      others = λ q none other.
          ap (λ b. cond b (a ∷ filter q (range_with_len (a + 1) n)) (filter q (range_with_len (a + 1) n))) (ap q same ∙ none)
          ∙ filter_above p q (a + 1) n (λ k from. other k (λ c. absurd (omega arith))) ∙ rest;
    }

    later : p a ≡ false → IsFirstPassed p (a + 1) n u us → IsFirstPassed p a (suc n) u us
    later is f =
        let low : a + 1 ≤ u = f.low in
        let inside : u < a + 1 + n = f.inside in
        record {
          passes = f.passes;
          low = omega arith;
          inside = omega arith;
          others = λ q none other.
              ap (λ b. cond b (a ∷ filter q (range_with_len (a + 1) n)) (filter q (range_with_len (a + 1) n))) (other a (λ c. absurd (omega arith)) ∙ is)
              ∙ f.others q none other;
        }

    go : (b : Bool) → p a ≡ b → cond b (a ∷ filter p (range_with_len (a + 1) n)) (filter p (range_with_len (a + 1) n)) ≡ u ∷ us
        → (filter p (range_with_len (a + 1) n) ≡ u ∷ us → IsFirstPassed p (a + 1) n u us) → IsFirstPassed p a (suc n) u us
    go true is f rest = here is (same_Some a u (ap (λ xs. slice_get xs 0) f)) (ap (drop 1) f)
    go false is f rest = later is (rest f)

-- ---- bits

filter_below : (p q : ℕ → Bool) (a n : ℕ) → ((k : ℕ) → k < a + n → q k ≡ p k) → filter q (range_with_len a n) ≡ filter p (range_with_len a n)
filter_below p q a zero same = refl
filter_below p q a (suc n) same = ap₂ (λ b xs. cond b (a ∷ xs) xs) (same a (omega arith)) (filter_below p q (a + 1) n (λ k low. same k (omega arith)))

bit_is : (n : ℕ) (b c : Bool) → b ≡ c → cond b (2 ^ n) 0 ≡ cond c (2 ^ n) 0
bit_is n b c e = ap (λ x. cond x (2 ^ n) 0) e

-- one number passes no more
pub bits_less : (p q : ℕ → Bool) (n u : ℕ) → u < n → p u ≡ true → q u ≡ false → ((k : ℕ) → k ≢ u → q k ≡ p k)
    → bits_of (filter p (range_with_len 0 n)) ≡ bits_of (filter q (range_with_len 0 n)) + 2 ^ u
bits_less p q zero u inside passes fails other = absurd (omega arith)
bits_less p q (suc n) u inside passes fails other = go (cases_order u n) (λ low. bits_less p q n u low passes fails other)
  where
    go : (u ≡ n) ⊎ ((u < n) ⊎ (n < u)) → (u < n → bits_of (filter p (range_with_len 0 n)) ≡ bits_of (filter q (range_with_len 0 n)) + 2 ^ u)
        → bits_of (filter p (range_with_len 0 (suc n))) ≡ bits_of (filter q (range_with_len 0 (suc n))) + 2 ^ u
    go (inl same) rest =
        let old : bits_of (filter p (range_with_len 0 (suc n))) ≡ bits_of (filter p (range_with_len 0 n)) + cond (p n) (2 ^ n) 0 = bits_kept p n in
        let new : bits_of (filter q (range_with_len 0 (suc n))) ≡ bits_of (filter q (range_with_len 0 n)) + cond (q n) (2 ^ n) 0 = bits_kept q n in
        let a : cond (p n) (2 ^ n) 0 ≡ 2 ^ n = bit_is n (p n) true (ap p (sym same) ∙ passes) in
        let b : cond (q n) (2 ^ n) 0 ≡ 0 = bit_is n (q n) false (ap q (sym same) ∙ fails) in
        let below : bits_of (filter q (range_with_len 0 n)) ≡ bits_of (filter p (range_with_len 0 n)) =
        ap bits_of (filter_below p q 0 n (λ k low. other k (λ c. absurd (omega arith)))) in
        let power : 2 ^ u ≡ 2 ^ n = ap (λ k. 2 ^ k) same in
        omega arith
    go (inr (inl less)) rest =
        let old : bits_of (filter p (range_with_len 0 (suc n))) ≡ bits_of (filter p (range_with_len 0 n)) + cond (p n) (2 ^ n) 0 = bits_kept p n in
        let new : bits_of (filter q (range_with_len 0 (suc n))) ≡ bits_of (filter q (range_with_len 0 n)) + cond (q n) (2 ^ n) 0 = bits_kept q n in
        let last : cond (q n) (2 ^ n) 0 ≡ cond (p n) (2 ^ n) 0 = bit_is n (q n) (p n) (other n (λ c. absurd (omega arith))) in
        let before : bits_of (filter p (range_with_len 0 n)) ≡ bits_of (filter q (range_with_len 0 n)) + 2 ^ u = rest less in
        omega arith
    go (inr (inr more)) rest = absurd (omega arith)

-- Two lists by rising number, and the least number of which they don't say the same.
use Rattle.std.proofs.Common.{◌≡◌, ◌≢◌, ℕ, ◌+◌, ◌<◌, ◌≤◌, ◌==◌, nat_lt, if◌then◌else◌, drop, get_or, length, inl, inr, cond, List, [], ◌∷◌, Option, Some, None, refl, sym, ap, ◌∙◌, subst, arith}
use Rattle.std.specs.List.{slice_get}
use Rattle.std.specs.Option.{IfSome, is_some}
use Rattle.std.proofs.lemmas.Option.{none-some, same_Some, slice_get-get_or}
use Rattle.std.proofs.lemmas.Bool.{cases_lt, eq-eqb, le-ltb, lt-ltb, ne_eqb}
use Rattle.pblk_model.proofs.Tests.{below_of}
use Rattle.pblk_model.proofs.Parts.{drop_at, drop_past, none_past}
use native.Mathlib.Decide.{ℕ_discrete}
use Rattle.image_check.proofs.Rises.{AreAbove, AreRising}
use Rattle.image_check.specs.Right.{IsLeastOther, said_of}

module _ {X : Type 0} (number : X → ℕ) where
  said_step : (x : X) (xs : List X) (n : ℕ) → number x ≢ n → said_of number (x ∷ xs) n ≡ said_of number xs n
  said_step x xs n other = ap (λ b. cond b (Some x) (said_of number xs n)) (ne_eqb (number x) n other)

  said_here : (x : X) (xs : List X) → said_of number (x ∷ xs) (number x) ≡ Some x
  said_here x xs = ap (λ b. cond b (Some x) (said_of number xs (number x))) (eq-eqb (number x) (number x) refl)

  pub none_said : (n m : ℕ) (xs : List X) → AreAbove number n xs → m ≤ n → said_of number xs m ≡ None
  none_said n m [] h below = refl
  none_said n m (x ∷ xs) h below = let above = h.0 in said_step x xs m (λ e. omega arith) ∙ none_said n m xs h.1 below

  above_more : (n m : ℕ) (xs : List X) → n ≤ m → AreAbove number m xs → AreAbove number n xs
  above_more n m [] less h = tt
  above_more n m (x ∷ xs) less h = let above = h.0 in (omega arith, above_more n m xs less h.1)

  -- one of the two has nothing more
  pub other_left : (x : X) (xs : List X) → AreRising number (x ∷ xs) → IsLeastOther number (x ∷ xs) [] (number x)
  other_left x xs h = record {
    other = λ e. none-some x (sym (sym (said_here x xs) ∙ e));
    least = λ m less. said_step x xs m (λ e. omega arith) ∙ none_said (number x) m xs h.0 (omega arith);
  }

  pub other_right : (y : X) (ys : List X) → AreRising number (y ∷ ys) → IsLeastOther number [] (y ∷ ys) (number y)
  other_right y ys h = record {
    other = λ e. none-some y (e ∙ said_here y ys);
    least = λ m less. sym (said_step y ys m (λ e. omega arith) ∙ none_said (number y) m ys h.0 (omega arith));
  }

  -- they begin with two that aren't the same
  pub other_less : (x y : X) (xs ys : List X) → AreRising number (x ∷ xs) → AreRising number (y ∷ ys) → number x < number y
      → IsLeastOther number (x ∷ xs) (y ∷ ys) (number x)
  other_less x y xs ys h k less = record {
    other = λ e. none-some x (sym (sym (said_here x xs) ∙ e ∙ said_step y ys (number x) (λ e. omega arith)
        ∙ none_said (number y) (number x) ys k.0 (omega arith)));
    least = λ m below. said_step x xs m (λ e. omega arith) ∙ none_said (number x) m xs h.0 (omega arith)
        ∙ sym (said_step y ys m (λ e. omega arith) ∙ none_said (number y) m ys k.0 (omega arith));
  }

  pub other_more : (x y : X) (xs ys : List X) → AreRising number (x ∷ xs) → AreRising number (y ∷ ys) → number y < number x
      → IsLeastOther number (x ∷ xs) (y ∷ ys) (number y)
  other_more x y xs ys h k less = record {
    other = λ e. none-some y (sym (said_step x xs (number y) (λ e. omega arith) ∙ none_said (number x) (number y) xs h.0 (omega arith)) ∙ e ∙ said_here y ys);
    least = λ m below. said_step x xs m (λ e. omega arith) ∙ none_said (number x) m xs h.0 (omega arith)
        ∙ sym (said_step y ys m (λ e. omega arith) ∙ none_said (number y) m ys k.0 (omega arith));
  }

  pub other_same : (x y : X) (xs ys : List X) → AreRising number (x ∷ xs) → AreRising number (y ∷ ys) → number x ≡ number y → x ≢ y
      → IsLeastOther number (x ∷ xs) (y ∷ ys) (number x)
  other_same x y xs ys h k same other = record {
    other = λ e. other (same_Some x y (sym (said_here x xs) ∙ e ∙ ap (said_of number (y ∷ ys)) same ∙ said_here y ys));
    least = λ m below. said_step x xs m (λ e. omega arith) ∙ none_said (number x) m xs h.0 (omega arith)
        ∙ sym (said_step y ys m (λ e. omega arith) ∙ none_said (number y) m ys k.0 (omega arith));
  }

  -- one that both begin with changes nothing
  pub other_after : (x : X) (xs ys : List X) (n : ℕ) → IsLeastOther number xs ys n → AreAbove number (number x) xs → AreAbove number (number x) ys
      → IsLeastOther number (x ∷ xs) (x ∷ ys) n
  other_after x xs ys n h above above' = record {
    other = λ e. h.other (by_number (ℕ_discrete (number x) n) e);
    least = λ m less. ap (λ o. cond (number x == m) (Some x) o) (h.least m less);
  } where
    by_number : Dec (number x ≡ n) → said_of number (x ∷ xs) n ≡ said_of number (x ∷ ys) n → said_of number xs n ≡ said_of number ys n
    by_number (yes same) e = none_said (number x) n xs above (omega arith) ∙ sym (none_said (number x) n ys above' (omega arith))
    by_number (no other) e = sym (said_step x xs n other) ∙ e ∙ said_step x ys n other

  -- two that aren't the same
  pub other_first : (x y : X) (xs ys : List X) → AreRising number (x ∷ xs) → AreRising number (y ∷ ys) → x ≢ y
      → IsLeastOther number (x ∷ xs) (y ∷ ys) (number (if nat_lt (number y) (number x) then y else x))
  other_first x y xs ys h k other = elim (cases_lt (number y) (number x)) [
    | inl less ↦ subst (λ b. IsLeastOther number (x ∷ xs) (y ∷ ys) (number (if b then y else x))) (sym (lt-ltb (number y) (number x) less))
        (other_more x y xs ys h k less)
    | inr most ↦ subst (λ b. IsLeastOther number (x ∷ xs) (y ∷ ys) (number (if b then y else x))) (sym (le-ltb (number y) (number x) most))
        (elim (cases_lt (number x) (number y)) [
          | inl less ↦ other_less x y xs ys h k less
          | inr more ↦ other_same x y xs ys h k (omega arith) other
        ])
  ]

-- what is left of two lists from a place on, where they say the same before it
pub record IsLeft {X : Type 0} (number : X → ℕ) (right said : List X) (k : ℕ) : Type 0 where
  pub ours : AreRising number (drop k right)
  pub theirs : AreRising number (drop k said)
  pub other : (n : ℕ) → IsLeastOther number (drop k right) (drop k said) n → IsLeastOther number right said n
  pub same : drop k said ≡ drop k right → said ≡ right

module _ {X : Type 0} (number : X → ℕ) (right said : List X) where
  pub left_all : AreRising number right → AreRising number said → IsLeft number right said 0
  left_all h k = record { ours = h; theirs = k; other = λ n g. g; same = λ e. e }

  module _ (k : ℕ) (left : IsLeft number right said k) where
    module _ (a : X) (here : slice_get right k ≡ Some a) where
      ours_is : drop k right ≡ a ∷ drop (k + 1) right
      ours_is = drop_at right k a here

      ours_rise : AreRising number (a ∷ drop (k + 1) right)
      ours_rise = subst (AreRising number) ours_is left.ours

      -- the second has no more
      pub left_more : slice_get said k ≡ None → IsLeastOther number right said (number a)
      left_more none = left.other (number a)
          (subst (λ xs. IsLeastOther number xs (drop k said) (number a)) (sym ours_is)
          (subst (λ ys. IsLeastOther number (a ∷ drop (k + 1) right) ys (number a)) (sym (drop_past said k (none_past said k none)))
          (other_left number a (drop (k + 1) right) ours_rise)))

      module _ (b : X) (there : slice_get said k ≡ Some b) where
        theirs_is : drop k said ≡ b ∷ drop (k + 1) said
        theirs_is = drop_at said k b there

        theirs_rise : AreRising number (b ∷ drop (k + 1) said)
        theirs_rise = subst (AreRising number) theirs_is left.theirs

        of_left : (n : ℕ) → IsLeastOther number (a ∷ drop (k + 1) right) (b ∷ drop (k + 1) said) n → IsLeastOther number right said n
        of_left n h = left.other n
            (subst (λ xs. IsLeastOther number xs (drop k said) n) (sym ours_is)
            (subst (λ ys. IsLeastOther number (a ∷ drop (k + 1) right) ys n) (sym theirs_is) h))

        -- there they say something else
        pub left_differ : a ≢ b → IsLeastOther number right said (number (if nat_lt (number b) (number a) then b else a))
        left_differ other = of_left (number (if nat_lt (number b) (number a) then b else a))
            (other_first number a b (drop (k + 1) right) (drop (k + 1) said) ours_rise theirs_rise other)

        -- there they say the same
        pub left_next : a ≡ b → IsLeft number right said (k + 1)
        left_next e = record {
          ours = ours_rise.1;
          theirs = theirs_rise.1;
          other = λ n h. of_left n (subst (λ z. IsLeastOther number (a ∷ drop (k + 1) right) (z ∷ drop (k + 1) said) n) e
              (other_after number a (drop (k + 1) right) (drop (k + 1) said) n h ours_rise.0
              (subst (λ z. AreAbove number (number z) (drop (k + 1) said)) (sym e) theirs_rise.0)));
          same = λ tails. left.same (theirs_is ∙ ap (λ z. z ∷ drop (k + 1) said) (sym e) ∙ ap (λ zs. a ∷ zs) tails ∙ sym ours_is);
        }

    -- the first has no more
    pub left_over : (b : X) → length right ≤ k → slice_get said k ≡ Some b → IsLeastOther number right said (number b)
    left_over b past there = left.other (number b)
        (subst (λ xs. IsLeastOther number xs (drop k said) (number b)) (sym (drop_past right k past))
        (subst (λ ys. IsLeastOther number [] ys (number b)) (sym (drop_at said k b there))
        (other_right number b (drop (k + 1) said) (subst (AreRising number) (drop_at said k b there) left.theirs))))

    pub left_same : length right ≤ k → slice_get said k ≡ None → said ≡ right
    left_same past none = left.same (drop_past said k (none_past said k none) ∙ sym (drop_past right k past))

pub if_got : {X B : Type 0} (o : Option B) (now : B → X) (xs : List X) (k : ℕ) (P : X → Type 0) → is_some o ≡ nat_lt k (length xs)
    → IfSome o (λ x. now x ≡ get_or xs k (now x)) → ((x : X) → slice_get xs k ≡ Some x → P x) → IfSome o (λ x. P (now x))
if_got None now xs k P some is h = tt
if_got (Some x) now xs k P some is h = h (now x) (slice_get-get_or xs k (now x) (below_of k (length xs) (sym some)) ∙ ap Some (sym is))

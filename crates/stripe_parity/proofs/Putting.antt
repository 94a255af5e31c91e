-- Bytes that are added to a list piece by piece.
use Rattle.std.proofs.Common.{◌≡◌, ℕ, ◌+◌, List, [], ◌∷◌, ◌++◌, length, take, cond, Some, refl, sym, ap, ◌∙◌, append_assoc, append-nil}
use Rattle.std.specs.Prelude.{Result, Ok, Err}
use Rattle.std.specs.List.{flat_map, slice_get}
use Rattle.std.specs.Result.{is_ok}
use Rattle.pblk_model.proofs.Parts.{take_more}
use Rattle.stripe_parity.specs.Puts.{Puts}

pub puts_one : {T E : Type 0} (r : Result T E) (old new bytes : List ℕ) → new ≡ cond (is_ok r) (old ++ bytes) old → Puts r old new bytes
puts_one (Ok x) old new bytes is = is
puts_one (Err e) old new bytes is = ([], is ∙ sym (append-nil old))

-- some were added before
pub puts_after : {T E : Type 0} (r : Result T E) (old mid new first bytes : List ℕ) → mid ≡ old ++ first → Puts r mid new bytes
    → Puts r old new (first ++ bytes)
puts_after (Ok x) old mid new first bytes was next = next ∙ ap (λ l. l ++ bytes) was ∙ append_assoc old first bytes
puts_after (Err e) old mid new first bytes was (more, next) = (first ++ more, next ∙ ap (λ l. l ++ more) was ∙ append_assoc old first more)

-- for want of memory some bytes were added, after those that were before
pub some_more : (old mid new first : List ℕ) → mid ≡ old ++ first → (more : List ℕ) × (new ≡ mid ++ more) → (more : List ℕ) × (new ≡ old ++ more)
some_more old mid new first was (more, next) = (first ++ more, next ∙ ap (λ l. l ++ more) was ∙ append_assoc old first more)

pub flat_more : {X : Type 0} (f : X → List ℕ) (xs : List X) (x : X) → flat_map f (xs ++ x ∷ []) ≡ flat_map f xs ++ f x
flat_more f [] x = append-nil (f x)
flat_more f (y ∷ xs) x = ap (λ l. f y ++ l) (flat_more f xs x) ∙ sym (append_assoc (f y) (flat_map f xs) (f x))

-- those of one element more
pub puts_next : {X : Type 0} (f : X → List ℕ) (xs : List X) (i : ℕ) (x : X) (old mid new : List ℕ) → slice_get xs i ≡ Some x
    → mid ≡ old ++ flat_map f (take i xs) → new ≡ mid ++ f x
    → new ≡ old ++ flat_map f (take (i + 1) xs)
puts_next f xs i x old mid new there was next =
    next ∙ ap (λ l. l ++ f x) was ∙ append_assoc old (flat_map f (take i xs)) (f x)
    ∙ ap (λ l. old ++ l) (sym (flat_more f (take i xs) x) ∙ ap (flat_map f) (sym (take_more xs i x there)))

-- three parts, one after another
pub three_put : (o0 o1 o2 o3 a b c : List ℕ) → o1 ≡ o0 ++ a → o2 ≡ o1 ++ b → o3 ≡ o2 ++ c → o3 ≡ o0 ++ (a ++ (b ++ c))
three_put o0 o1 o2 o3 a b c first second third =
    third ∙ ap (λ l. l ++ c) (second ∙ ap (λ l. l ++ b) first ∙ append_assoc o0 a b) ∙ append_assoc o0 (a ++ b) c ∙ ap (λ l. o0 ++ l) (append_assoc a b c)

front : (xs ys : List ℕ) → take (length xs) (xs ++ ys) ≡ xs
front [] ys = refl
front (x ∷ xs) ys = ap (λ l. x ∷ l) (front xs ys)

-- what was added is cut off again
pub cut_back : (n : ℕ) (old mid new : List ℕ) → n ≡ length old → (more : List ℕ) × (mid ≡ old ++ more) → new ≡ take n mid → new ≡ old
cut_back n old mid new many (more, was) cut = cut ∙ ap (λ l. take n l) was ∙ ap (λ k. take k (old ++ more)) many ∙ front old more

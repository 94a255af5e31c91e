-- How many elements pass a test.
use Rattle.std.proofs.Common.{◌≡◌, ℕ, suc, ◌+◌, Bool, true, false, cond, Some, refl, List, [], ◌∷◌, ◌++◌, length, take, map, filter, sym, ap, ◌∙◌, arith, append_assoc, length-append, add-one}
use Rattle.std.specs.List.{slice_get, flat_map, zip}
use Rattle.std.proofs.lemmas.List.{append-nil}
use Rattle.pblk_model.specs.Chunk.{Chunk}
use Rattle.pblk_model.specs.ImageFile.{StoredChunk}
use Rattle.pblk_model.proofs.Maps.{filter_both}
use Rattle.pblk_model.proofs.Parts.{take_next}

pub take-all : {X : Type 0} (xs : List X) (n : ℕ) → n ≡ length xs → take n xs ≡ xs
take-all xs n e = ap (λ k. take k xs) e ∙ whole xs
  where
    whole : {X : Type 0} (xs : List X) → take (length xs) xs ≡ xs
    whole [] = refl
    whole (x ∷ xs) = ap (λ ys. x ∷ ys) (whole xs)

append_cond : {X : Type 0} (b : Bool) (x : X) (xs ys : List X) → cond b (x ∷ (xs ++ ys)) (xs ++ ys) ≡ cond b (x ∷ xs) xs ++ ys
append_cond true x xs ys = refl
append_cond false x xs ys = refl

-- one element more
count_more : {X : Type 0} (p : X → Bool) (xs : List X) (i : ℕ) (x : X) → slice_get xs i ≡ Some x
    → length (filter p (take (i + 1) xs)) ≡ length (filter p (take i xs)) + length (filter p (x ∷ []))
count_more p xs i x e = rw add-one (ap (λ ys. length (filter p ys)) (take_next xs i x e) ∙ ap length (filter_both p (take i xs) (x ∷ []))
    ∙ length-append (filter p (take i xs)) (filter p (x ∷ [])))

pub count_one : {X : Type 0} (p : X → Bool) (xs : List X) (i : ℕ) (x : X) → slice_get xs i ≡ Some x → p x ≡ true
    → length (filter p (take (i + 1) xs)) ≡ length (filter p (take i xs)) + 1
count_one p xs i x e h = count_more p xs i x e ∙ ap (λ b. length (filter p (take i xs)) + length (cond b (x ∷ []) [])) h

pub count_none : {X : Type 0} (p : X → Bool) (xs : List X) (i : ℕ) (x : X) → slice_get xs i ≡ Some x → p x ≡ false
    → length (filter p (take (i + 1) xs)) ≡ length (filter p (take i xs))
count_none p xs i x e h = count_more p xs i x e ∙ ap (λ b. length (filter p (take i xs)) + length (cond b (x ∷ []) [])) h ∙ omega arith

-- the elements of one list more
joined_more : {X Y : Type 0} (f : X → List Y) (xs : List X) (x : X) → flat_map (λ ys. ys) (map f (xs ++ x ∷ [])) ≡ flat_map (λ ys. ys) (map f xs) ++ f x
joined_more f [] x = append-nil (f x)
joined_more f (y ∷ xs) x = ap (λ zs. f y ++ zs) (joined_more f xs x) ∙ sym (append_assoc (f y) (flat_map (λ ys. ys) (map f xs)) (f x))

pub count_joined : {X Y : Type 0} (p : Y → Bool) (f : X → List Y) (xs : List X) (i : ℕ) (x : X) → slice_get xs i ≡ Some x
    → length (filter p (flat_map (λ ys. ys) (map f (take (i + 1) xs)))) ≡ length (filter p (flat_map (λ ys. ys) (map f (take i xs)))) + length (filter p (f x))
count_joined p f xs i x e = rw add-one (ap (λ ys. length (filter p (flat_map (λ zs. zs) (map f ys)))) (take_next xs i x e)
    ∙ ap (λ ys. length (filter p ys)) (joined_more f (take i xs) x)
    ∙ ap length (filter_both p (flat_map (λ ys. ys) (map f (take i xs))) (f x))
    ∙ length-append (filter p (flat_map (λ ys. ys) (map f (take i xs)))) (filter p (f x)))

same_length : {X Y : Type 0} (b : Bool) (x : X) (y : Y) (xs : List X) (ys : List Y) → length xs ≡ length ys
    → length (cond b (x ∷ xs) xs) ≡ length (cond b (y ∷ ys) ys)
same_length true x y xs ys e = ap suc e
same_length false x y xs ys e = e

-- chunks that are stored with their wear indices
pub count_stored : (q : Chunk → Bool) (media : List Chunk) (wear : List ℕ) → length wear ≡ length media
    → length (filter (λ (k : StoredChunk). q k.chunk) (map (λ (p : Chunk × ℕ). record { chunk = p.0; wear = p.1 }) (zip media wear))) ≡ length (filter q media)
count_stored q [] wear e = refl
count_stored q (m ∷ media) [] e = absurd (omega (arith, e))
count_stored q (m ∷ media) (w ∷ wear) e = same_length (q m) (record { chunk = m; wear = w }) m _ (filter q media) (count_stored q media wear (omega (arith, e)))

pub added : (a b m n k : ℕ) → a ≡ m → b ≡ n → k ≡ m + n → a + b ≡ k
added a b m n k ea eb e = omega (arith, ea, eb, e)

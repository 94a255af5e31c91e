-- Where the pieces of a list stand, and how a list is cut into them.
use Rattle.std.proofs.Common.{◌≡◌, ℕ, ◌+◌, ◌-◌, ◌*◌, zero, suc, Some, List, [], ◌∷◌, ◌++◌, length, take, drop, refl, sym, ap, ◌∙◌, arith, append_assoc, length-append}
use Rattle.std.specs.List.{AllByRecursion, slice_get, slice_range, flat_map}
use Rattle.std.proofs.lemmas.List.{take_at, drop_at}
use Rattle.std.proofs.lemmas.Option.{none-some, same_Some}

regroup : {X : Type 0} (a b c d : List X) → a ++ (b ++ c ++ d) ≡ a ++ b ++ c ++ d
regroup a b c d = simp append_assoc

regroup_within : {X : Type 0} (a b c d e : List X) → a ++ (b ++ c ++ d) ++ e ≡ a ++ b ++ c ++ (d ++ e)
regroup_within a b c d e = simp append_assoc

-- a piece of a list, behind this many elements
pub record Piece (whole piece : List ℕ) (place : ℕ) : Type 0 where
  pub before : List ℕ
  pub after : List ℕ
  pub is : whole ≡ before ++ piece ++ after
  pub count : length before ≡ place

pub piece_in_piece : (whole middle piece : List ℕ) (i j : ℕ) → Piece whole middle i → Piece middle piece j → Piece whole piece (i + j)
piece_in_piece whole middle piece i j p q = record {
  before = p.before ++ q.before;
  after = q.after ++ p.after;
  is = p.is ∙ (ap (λ m. p.before ++ m ++ p.after) q.is ∙ regroup_within p.before q.before piece q.after p.after);
  count = omega (arith, length-append p.before q.before, p.count, q.count);
}

pub slice_of : (xs ys zs : List ℕ) (n m : ℕ) → length xs ≡ n → n + length ys ≡ m → slice_range (xs ++ ys ++ zs) n m ≡ ys
slice_of xs ys zs n m h k =
    ap (λ w. take (m - n) (drop n w)) (append_assoc xs ys zs)
    ∙ (ap (take (m - n)) (drop_at xs (ys ++ zs) n h) ∙ take_at ys zs (m - n) (omega arith))

pub slice_of_piece : (whole piece : List ℕ) (i n m : ℕ) → Piece whole piece i → i ≡ n → n + length piece ≡ m → slice_range whole n m ≡ piece
slice_of_piece whole piece i n m p e h = ap (λ w. slice_range w n m) p.is ∙ slice_of p.before piece p.after n m (p.count ∙ e) h

-- The pieces of one length that stand behind each other.

pub piece_of_flat : {X : Type 0} (f : X → List ℕ) (n : ℕ) (xs : List X) (k : ℕ) (x : X) → AllByRecursion (λ x. length (f x) ≡ n) xs → slice_get xs k ≡ Some x
    → Piece (flat_map f xs) (f x) (n * k)
piece_of_flat f n [] k x h e = absurd (none-some x e)
piece_of_flat f n (y ∷ ys) zero x h e =
    record { before = []; after = flat_map f ys; is = ap (λ z. f z ++ flat_map f ys) (same_Some y x e); count = omega arith }
piece_of_flat f n (y ∷ ys) (suc k) x h e =
    let p : Piece (flat_map f ys) (f x) (n * k) = piece_of_flat f n ys k x h.1 e in
    let first : length (f y) ≡ n = h.0 in
    record {
      before = f y ++ p.before;
      after = p.after;
      is = ap (λ w. f y ++ w) p.is ∙ regroup (f y) p.before (f x) p.after;
      count = omega (arith, length-append (f y) p.before, p.count);
    }

-- Cuts.

pub cut : (xs ys r t : List ℕ) → length xs ≡ length ys → xs ++ r ≡ ys ++ t → (xs ≡ ys) × (r ≡ t)
cut xs ys r t h e = (
  sym (take_at xs r (length ys) h) ∙ (ap (take (length ys)) e ∙ take_at ys t (length ys) refl),
  sym (drop_at xs r (length ys) h) ∙ (ap (drop (length ys)) e ∙ drop_at ys t (length ys) refl),
)

-- lists of one length, whose elements at one place are in a relation
abbrev pub Paired : {X : Type 0} → (X → X → Type 0) → List X → List X → Type 0
Paired R [] [] = Unit {0}
Paired R [] (y ∷ ys) = ⊥
Paired R (x ∷ xs) [] = ⊥
Paired R (x ∷ xs) (y ∷ ys) = R x y × Paired R xs ys

pub paired_from : {X : Type 0} (R : X → X → Type 0) (xs ys : List X) → length xs ≡ length ys
    → ((k : ℕ) (x y : X) → slice_get xs k ≡ Some x → slice_get ys k ≡ Some y → R x y) → Paired R xs ys
paired_from R [] [] e h = tt
paired_from R [] (y ∷ ys) e h = omega arith
paired_from R (x ∷ xs) [] e h = omega arith
paired_from R (x ∷ xs) (y ∷ ys) e h = (h zero x y refl refl, paired_from R xs ys (omega arith) (λ k a b p q. h (suc k) a b p q))

-- what one element is cut from, a list of them is cut from
pub cut_flat : {X : Type 0} (R : X → X → Type 0) (f : X → List ℕ) → ((x y : X) (r t : List ℕ) → R x y → f x ++ r ≡ f y ++ t → (x ≡ y) × (r ≡ t))
    → (xs ys : List X) (r t : List ℕ) → Paired R xs ys → flat_map f xs ++ r ≡ flat_map f ys ++ t → (xs ≡ ys) × (r ≡ t)
cut_flat R f each [] [] r t p e = (refl, e)
cut_flat R f each [] (y ∷ ys) r t p e = absurd p
cut_flat R f each (x ∷ xs) [] r t p e = absurd p
cut_flat R f each (x ∷ xs) (y ∷ ys) r t p e =
    let first = each x y (flat_map f xs ++ r) (flat_map f ys ++ t) p.0
    (sym (append_assoc (f x) (flat_map f xs) r) ∙ (e ∙ append_assoc (f y) (flat_map f ys) t)) in
    let rest = cut_flat R f each xs ys r t p.1 first.1 in
    (ap (λ z. z ∷ xs) first.0 ∙ ap (λ zs. y ∷ zs) rest.0, rest.1)

-- One more number of a range.
use Rattle.std.proofs.Common.{◌≡◌, ℕ, ◌+◌, ◌≤◌, List, [], ◌∷◌, ◌++◌, Option, Some, None, sym, ap, ◌∙◌, arith}
use Rattle.std.specs.List.{filter_map, flat_map, range_with_len, cons_option}
use Rattle.std.proofs.lemmas.List.{append-nil}
use Rattle.std.proofs.lemmas.List.Elements.{filter_map-append}
use Rattle.std.proofs.lemmas.List.Concat.{flat_map-append}
use Rattle.pblk_model.proofs.Maps.{range_from_0}

pub filter_map_range_more : {X : Type 0} (f : ℕ → Option X) (n : ℕ) (o : Option X) → o ≡ f n
    → filter_map f (range_with_len 0 (n + 1)) ≡ filter_map f (range_with_len 0 n) ++ cons_option o []
filter_map_range_more f n o e = ap (filter_map f) (range_from_0 n) ∙ filter_map-append f (range_with_len 0 n) (n ∷ [])
    ∙ ap (λ x. filter_map f (range_with_len 0 n) ++ cons_option x []) (sym e)

pub flat_map_range_more : {X : Type 0} (f : ℕ → List X) (n : ℕ) (xs : List X) → xs ≡ f n
    → flat_map f (range_with_len 0 (n + 1)) ≡ flat_map f (range_with_len 0 n) ++ xs
flat_map_range_more f n xs e = ap (flat_map f) (range_from_0 n) ∙ flat_map-append f (range_with_len 0 n) (n ∷ [])
    ∙ ap (λ x. flat_map f (range_with_len 0 n) ++ x) (append-nil (f n) ∙ sym e)

pub some_more : {X : Type 0} (f : ℕ → Option X) (n : ℕ) (now front : List X) (x : X) (o : Option X) → o ≡ f n → o ≡ Some x → now ≡ front ++ x ∷ []
    → front ≡ filter_map f (range_with_len 0 n) → now ≡ filter_map f (range_with_len 0 (n + 1))
some_more f n now front x o o-is some now-is front-is = now-is ∙ ap (λ xs. xs ++ x ∷ []) front-is ∙ sym (filter_map_range_more f n (Some x) (sym some ∙ o-is))

pub none_more : {X : Type 0} (f : ℕ → Option X) (n : ℕ) (front : List X) (o : Option X) → o ≡ f n → o ≡ None → front ≡ filter_map f (range_with_len 0 n)
    → front ≡ filter_map f (range_with_len 0 (n + 1))
none_more f n front o o-is none front-is = front-is ∙ sym (filter_map_range_more f n None (sym none ∙ o-is) ∙ append-nil (filter_map f (range_with_len 0 n)))

pub all_more : {X : Type 0} (f : ℕ → List X) (n : ℕ) (now front xs : List X) → xs ≡ f n → now ≡ front ++ xs → front ≡ flat_map f (range_with_len 0 n)
    → now ≡ flat_map f (range_with_len 0 (n + 1))
all_more f n now front xs xs-is now-is front-is = now-is ∙ ap (λ ys. ys ++ xs) front-is ∙ sym (flat_map_range_more f n xs xs-is)

-- and how long the lists are
pub whole_range : {X : Type 0} (f : ℕ → Option X) (found : List X) (at len n : ℕ) → at ≤ len → len ≤ at → len ≡ n → found ≡ filter_map f (range_with_len 0 at)
    → found ≡ filter_map f (range_with_len 0 n)
whole_range f found at len n le ge n-is found-is =
    let all : at ≡ n = omega arith in
    found-is ∙ ap (λ m. filter_map f (range_with_len 0 m)) all

pub one_more : (n m at : ℕ) → m ≡ n + 1 → n ≤ at → m ≤ at + 1
one_more n m at m-is few = omega arith

pub no_more : (n at : ℕ) → n ≤ at → n ≤ at + 1
no_more n at few = omega arith

pub at_most : (n at len most : ℕ) → n ≤ at → at ≤ len → len ≤ most → n ≤ most
at_most n at len most few le short = omega arith

-- Steps of the loops, over plain lists.
use Rattle.std.proofs.Common.{◌≡◌, ℕ, ◌+◌, ◌*◌, ◌<◌, Bool, true, false, cond, Option, Some, None, List, [], ◌∷◌, ◌++◌, length, ◌≤◌, ◌/◌, ◌^◌, get_or, map, take, drop, refl, sym, subst, ap, ◌∙◌, append_assoc, arith}
use Rattle.std.proofs.lemmas.List.{length-set, drop_more, map_more, length-take-le, length-map}
use Rattle.std.proofs.Math.Nat.{pow-le-pow_right, div-le_self, div-mul-le_self, mul-le-mul_left, mul-le-mul_right, mul_assoc}
use Rattle.std.specs.Option.{option_map, option_or}
use Rattle.std.proofs.lemmas.List.Folds.{list_any-append, find-append}
use Rattle.std.specs.List.{filter, filter_map, find, slice_set}
use Rattle.std.specs.Prelude.{◌==◌, if◌then◌else◌}
use Rattle.pblk_model.specs.declared.shape.Shape.{Shape}
use Rattle.stripe_placer.specs.OpenLines.{Stripe, OpenLine, with_stripe, in_line}
use Rattle.stripe_placer.specs.Placing.{Program, placement}
use Rattle.stripe_placer.specs.declared.placement.Placement.{Placement}
use Rattle.stripe_placer.proofs.Rows.{named_by, none_named}
use Rattle.plain_placer.specs.Fitting.{FitsLine, FitLines}
use Rattle.pblk_model.proofs.Parts.{put_at_end}

-- The first of a list of choices makes none, or it doesn't pass; else it is the one.
pub no_choice : {X : Type 0} (p : Program → Bool) (f : X → Option Program) (x : X) (xs : List X) → option_map placement (f x) ≡ None
    → find p (filter_map f (x ∷ xs)) ≡ find p (filter_map f xs)
no_choice p f x xs is = rw (none_named (f x) is) refl

pub failing_choice : {X : Type 0} (p : Program → Bool) (f : X → Option Program) (x : X) (xs : List X) (of : Placement) → option_map placement (f x) ≡ Some of
    → ((q : Program) → placement q ≡ of → p q ≡ false)
    → find p (filter_map f (x ∷ xs)) ≡ find p (filter_map f xs)
failing_choice p f x xs of is fails =
    let hit = named_by (f x) of is in
    rw hit.1 (rw (fails hit.0 hit.2) refl)

pub passing_choice : {X : Type 0} (p : Program → Bool) (f : X → Option Program) (x : X) (xs : List X) (of : Placement) → option_map placement (f x) ≡ Some of
    → ((q : Program) → placement q ≡ of → p q ≡ true)
    → ◌≡◌ {A = Option Placement} (Some of) (option_map placement (find p (filter_map f (x ∷ xs))))
passing_choice p f x xs of is passes =
    let hit = named_by (f x) of is in
    rw hit.1 (rw (passes hit.0 hit.2) (ap (λ o. Some o) (sym hit.2)))

-- by the unit alone
pub of_unit : (test : ℕ → Bool) (of : Placement) (b : Bool) → test of.unit ≡ b → (q : Program) → placement q ≡ of → test q.unit ≡ b
of_unit test of b is q same = ap (λ (x : Placement). test x.unit) same ∙ is

pub same_len : (line j : ℕ) (to : Stripe) (l : OpenLine) → length (in_line line j to l).stripes ≡ length l.stripes
same_len line j to l = on (l.line == line) where
  on : (b : Bool) → length (if b then with_stripe l j to else l).stripes ≡ length l.stripes
  on true = length-set l.stripes j to
  on false = refl

pub fit_turned : (s : Shape) (line j : ℕ) (to : Stripe) (ls : List OpenLine) → FitLines s ls → FitLines s (map (in_line line j to) ls)
fit_turned s line j to [] fit = tt
fit_turned s line j to (l ∷ ls) fit = (subst (λ n. n * s.ws_opt < 4294967296) (sym (same_len line j to l)) fit.0, fit_turned s line j to ls fit.1)

pub fit_filtered : (s : Shape) (p : OpenLine → Bool) (ls : List OpenLine) → FitLines s ls → FitLines s (filter p ls)
fit_filtered s p [] fit = tt
fit_filtered s p (l ∷ ls) fit = on (p l) (fit_filtered s p ls fit.1) where
  on : (b : Bool) → FitLines s (filter p ls) → FitLines s (cond b (l ∷ filter p ls) (filter p ls))
  on true rest = (fit.0, rest)
  on false rest = rest

pub fit_more : (s : Shape) (ls : List OpenLine) (l : OpenLine) → FitLines s ls → FitsLine s l → FitLines s (ls ++ l ∷ [])
fit_more s [] l fit fits = (fits, tt)
fit_more s (m ∷ ls) l fit fits = (fit.0, fit_more s ls l fit.1 fits)

-- one of a list and then another that passes
pub found_first : (p : Program → Bool) (xs ys : List Program) (of : Placement) → option_map placement (find p xs) ≡ Some of
    → ◌≡◌ {A = Option Placement} (Some of) (option_map placement (find p (xs ++ ys)))
found_first p xs ys of is =
    let hit = named_by (find p xs) of is in
    ap (λ o. Some o) (sym hit.2) ∙ sym (ap (option_map placement) (find-append p xs ys ∙ ap (λ o. option_or o (find p ys)) hit.1))

pub found_then : (p : Program → Bool) (xs ys : List Program) (r : Option Placement) → option_map placement (find p xs) ≡ None
    → r ≡ option_map placement (find p ys) → r ≡ option_map placement (find p (xs ++ ys))
found_then p xs ys r none is = is ∙ sym (ap (option_map placement) (find-append p xs ys ∙ ap (λ o. option_or o (find p ys)) (none_named (find p xs) none)))

-- the element behind others, and another in its place
at_end : {X : Type 0} (a : List X) (o d : X) (rest : List X) → get_or (a ++ o ∷ rest) (length a) d ≡ o
at_end [] o d rest = refl
at_end (x ∷ a) o d rest = at_end a o d rest

-- a list of which each element was changed, and one more
pub changed_more : {X : Type 0} (f : X → X) (old now : List X) (i : ℕ) (x d : X) → now ≡ map f (take i old) ++ drop i old → i < length old → x ≡ get_or now i d
    → slice_set now i (f x) ≡ map f (take (i + 1) old) ++ drop (i + 1) old
changed_more {X} f old now i x d is inside at =
    let a : List X = map f (take i old) in
    let o : X = get_or old i d in
    let rest : List X = drop (i + 1) old in
    let whole : now ≡ a ++ o ∷ rest = is ∙ ap (λ zs. a ++ zs) (drop_more old i d inside) in
    let len : length a ≡ i = length-map (take i old) f ∙ length-take-le i old (omega arith) in
    let same : x ≡ o = at ∙ ap (λ zs. get_or zs i d) whole ∙ subst (λ k. get_or (a ++ o ∷ rest) k d ≡ o) len (at_end a o d rest) in
    ap (λ zs. slice_set zs i (f x)) whole
    ∙ subst (λ k. slice_set (a ++ o ∷ rest) k (f x) ≡ a ++ f x ∷ rest) len (put_at_end a o (f x) rest)
    ∙ ap (λ z. a ++ f z ∷ rest) same
    ∙ sym (append_assoc a (f o ∷ []) rest)
    ∙ ap (λ zs. zs ++ rest) (sym (map_more f old i d inside))

pub bits_below : (count set : ℕ) → set < 2 ^ 64 → 64 ≤ count → set < 2 ^ count
bits_below count set fits far = let more : 2 ^ 64 ≤ 2 ^ count = pow-le-pow_right {n = 2} (omega arith) far in omega arith

-- a stripe's first block is before its line's end
pub block_fits : (j w b n : ℕ) → j < n → n * b < 2 ^ 32 → j / w * b < 2 ^ 32
block_fits j w b n inside short =
    let row : j / w * b ≤ j * b = mul-le-mul_right b (div-le_self j w) in
    let line : j * b ≤ n * b = mul-le-mul_right b (omega arith) in
    omega (arith, row, line, short)

-- the blocks of a line's stripes are no more than its chunks have
pub stripes_fit : (w c b : ℕ) → w * c ≤ 65536 → w * (c / b) * b < 2 ^ 32
stripes_fit w c b short =
    let whole : w * (c / b * b) ≤ w * c = mul-le-mul_left w (div-mul-le_self c b) in
    omega (arith, mul_assoc w (c / b) b, whole, short)

pub ruleset any_append = list_any-append

-- The rows of the units.
use Rattle.std.proofs.Common.{◌≡◌, ℕ, zero, suc, ◌+◌, ◌<◌, Bool, true, false, cond, not, ◌&&◌, Option, Some, None, List, [], ◌∷◌, ◌++◌, length, refl, sym, ap, ◌∙◌, arith}
use Rattle.std.specs.Prelude.{map, replicate}
use Rattle.std.specs.List.{slice_get, slice_set, slice_index_or, find, filter_map, cons_option}
use Rattle.std.specs.Option.{option_map, option_map_or}
use Rattle.std.proofs.lemmas.Option.{same_Some}
use Rattle.pblk_layout.specs.Online.{is_in}
use Rattle.stripe_placer.specs.Placing.{Program, placement, UnitRow, stopped_in, is_under_way, is_ready}
use Rattle.stripe_placer.specs.Placing.UnitRow.{Idle, UnderWay, Stopped}
use Rattle.stripe_placer.specs.Inside.{OwnUnits, first_given}
use Rattle.stripe_placer.specs.declared.placement.Placement.{Placement}
use Rattle.stripe_placer.proofs.PlacingLemmas.{cond_true}

pub given_none : {X Y : Type 0} (test : Y → Bool) (give : X → Option Y) (x : X) (xs : List X) → give x ≡ None
    → first_given test give (x ∷ xs) ≡ first_given test give xs
given_none test give x xs e = ap (λ o. find test (cons_option o (filter_map give xs))) e

pub given_failing : {X Y : Type 0} (test : Y → Bool) (give : X → Option Y) (x : X) (y : Y) (xs : List X) → give x ≡ Some y → test y ≡ false
    → first_given test give (x ∷ xs) ≡ first_given test give xs
given_failing test give x y xs e no_pass = ap (λ o. find test (cons_option o (filter_map give xs))) e
    ∙ ap (λ b. cond b (Some y) (find test (filter_map give xs))) no_pass

pub given_first : {X Y : Type 0} (test : Y → Bool) (give : X → Option Y) (x : X) (y : Y) (xs : List X) → give x ≡ Some y → test y ≡ true
    → first_given test give (x ∷ xs) ≡ Some y
given_first test give x y xs e passes = ap (λ o. find test (cons_option o (filter_map give xs))) e
    ∙ ap (λ b. cond b (Some y) (find test (filter_map give xs))) passes

alone_fails : {Y : Type 0} (test : Y → Bool) (o : Option Y) (rest : List Y) → find test (cons_option o []) ≡ None
    → find test (cons_option o rest) ≡ find test rest
alone_fails test None rest e = refl
alone_fails test (Some y) rest e = elim (test y) as (λ b. cond b (Some y) None ≡ None → cond b (Some y) (find test rest) ≡ find test rest) [
  | true ↦ λ h. absurd cc
  | false ↦ λ h. refl
] e

alone_passes : {Y : Type 0} (test : Y → Bool) (o : Option Y) (rest : List Y) (z : Y) → find test (cons_option o []) ≡ Some z
    → find test (cons_option o rest) ≡ Some z
alone_passes test None rest z e = absurd cc
alone_passes test (Some y) rest z e = elim (test y) as (λ b. cond b (Some y) None ≡ Some z → cond b (Some y) (find test rest) ≡ Some z) [
  | true ↦ λ h. h
  | false ↦ λ h. absurd cc
] e

-- by what one alone gives
pub one_fails : {X Y : Type 0} (test : Y → Bool) (give : X → Option Y) (x : X) (xs : List X) → first_given test give (x ∷ []) ≡ None
    → first_given test give (x ∷ xs) ≡ first_given test give xs
one_fails test give x xs e = alone_fails test (give x) (filter_map give xs) e

pub one_passes : {X Y : Type 0} (test : Y → Bool) (give : X → Option Y) (x : X) (xs : List X) (z : Y) → first_given test give (x ∷ []) ≡ Some z
    → first_given test give (x ∷ xs) ≡ Some z
one_passes test give x xs z e = alone_passes test (give x) (filter_map give xs) z e

-- the first of two lists
pub find_first : {X : Type 0} (test : X → Bool) (xs ys : List X) (x : X) → find test xs ≡ Some x → find test (xs ++ ys) ≡ Some x
find_first test [] ys x e = absurd cc
find_first test (z ∷ zs) ys x e = elim (test z) as (λ b. cond b (Some z) (find test zs) ≡ Some x → cond b (Some z) (find test (zs ++ ys)) ≡ Some x) [
  | true ↦ λ h. h
  | false ↦ λ h. find_first test zs ys x h
] e

pub find_second : {X : Type 0} (test : X → Bool) (xs ys : List X) → find test xs ≡ None → find test (xs ++ ys) ≡ find test ys
find_second test [] ys e = refl
find_second test (z ∷ zs) ys e = elim (test z) as (λ b. cond b (Some z) (find test zs) ≡ None → cond b (Some z) (find test (zs ++ ys)) ≡ find test ys) [
  | true ↦ λ h. absurd cc
  | false ↦ λ h. find_second test zs ys h
] e

pub get_map : {X Y : Type 0} (f : X → Y) (xs : List X) (i : ℕ) → slice_get (map f xs) i ≡ option_map f (slice_get xs i)
get_map f [] i = refl
get_map f (x ∷ xs) zero = refl
get_map f (x ∷ xs) (suc i) = get_map f xs i

pub set_map : {X Y : Type 0} (f : X → Y) (xs : List X) (i : ℕ) (x : X) → map f (slice_set xs i x) ≡ slice_set (map f xs) i (f x)
set_map f [] i x = refl
set_map f (y ∷ ys) zero x = refl
set_map f (y ∷ ys) (suc i) x = ap (λ zs. f y ∷ zs) (set_map f ys i x)

pub length_map : {X Y : Type 0} (f : X → Y) (xs : List X) → length (map f xs) ≡ length xs
length_map f [] = refl
length_map f (x ∷ xs) = omega (arith, length_map f xs)

pub one_more : {X : Type 0} (n : ℕ) (x : X) → replicate n x ++ x ∷ [] ≡ replicate (n + 1) x
one_more zero x = refl
one_more (suc n) x =
    let more : suc (n + 1) ≡ suc n + 1 = omega arith in
    ap (λ zs. x ∷ zs) (one_more n x) ∙ ap (λ k. replicate k x) more

-- ---- stopped programs

and_true_last : (b : Bool) → (b && not false) ≡ b
and_true_last true = refl
and_true_last false = refl

failing : (b : Bool) (of : Program) → cond b (Some of) None ≡ None → b ≡ false
failing true of e = absurd cc
failing false of e = refl

passed : (b : Bool) (of o : Program) → cond b (Some of) None ≡ Some o → ◌≡◌ {A = Option Program} (Some of) (Some o)
passed true of o e = e
passed false of o e = absurd cc

ready_is : (rows : List UnitRow) (busy unit : ℕ) (of : Program) → slice_get rows unit ≡ Some (Stopped of) → is_ready rows busy unit ≡ not (is_in busy unit)
ready_is rows busy unit of e = ap (λ o. not (is_in busy unit) && not (option_map_or is_under_way o false)) e ∙ and_true_last (not (is_in busy unit))

pub stopped_skip : (test ready : Program → Bool) (r : UnitRow) (rest : List UnitRow) → ((of : Program) → r ≡ Stopped of → ready of ≡ test of)
    → first_given test stopped_in (r ∷ []) ≡ None → first_given ready stopped_in (r ∷ rest) ≡ first_given ready stopped_in rest
stopped_skip test ready Idle rest same none = refl
stopped_skip test ready (UnderWay of) rest same none = refl
stopped_skip test ready (Stopped of) rest same none = given_failing ready stopped_in (Stopped of) of rest refl (same of refl ∙ failing (test of) of none)

pub stopped_hit : (test ready : Program → Bool) (r : UnitRow) (rest : List UnitRow) (o : Program) → ((of : Program) → r ≡ Stopped of → ready of ≡ test of)
    → first_given test stopped_in (r ∷ []) ≡ Some o → first_given ready stopped_in (r ∷ rest) ≡ Some o
stopped_hit test ready Idle rest o same some = absurd cc
stopped_hit test ready (UnderWay of) rest o same some = absurd cc
stopped_hit test ready (Stopped of) rest o same some = given_first ready stopped_in (Stopped of) of rest refl (same of refl ∙ cond_true (test of) of o some)
    ∙ passed (test of) of o some

-- the readiness of a stopped program's unit is that it isn't busy
pub stopped_ready : (rows : List UnitRow) (busy i : ℕ) (of : Program) → OwnUnits rows → slice_get rows i ≡ Some (Stopped of)
    → is_ready rows busy of.unit ≡ not (is_in busy of.unit)
stopped_ready rows busy i of own e = ready_is rows busy of.unit of (ap (slice_get rows) (own i of e) ∙ e)

-- ---- placements

-- what is named by a placement that was found
pub named_by : (o : Option Program) (of : Placement) → option_map placement o ≡ Some of → (q : Program) × (o ≡ Some q) × (placement q ≡ of)
named_by None of e = absurd cc
named_by (Some q) of e = (q, refl, (let same : placement q ≡ of = same_Some (placement q) of e in same))

pub none_named : (o : Option Program) → option_map placement o ≡ None → o ≡ None
none_named None e = refl
none_named (Some q) e = absurd cc

pub get_is : {X : Type 0} (xs : List X) (i : ℕ) (x : X) → i < length xs → x ≡ slice_index_or xs i x → slice_get xs i ≡ Some x
get_is [] i x h e = absurd (omega arith)
get_is (y ∷ ys) zero x h e = ap (λ z. Some z) (sym e)
get_is (y ∷ ys) (suc i) x h e = get_is ys i x (omega arith) e

-- Arms as an opening makes them of units, and as it takes the units out again.
use Rattle.std.proofs.Common.{◌≡◌, ◌⊎◌, ⊎_elim, ℕ, zero, suc, ◌+◌, ◌<◌, Some, List, [], ◌∷◌, ◌++◌, length, length-append, map, reverse, append_assoc, refl, sym, subst, ap, ap₂, ◌∙◌, arith}
use Rattle.std.specs.Prelude.{slice_get}
use Rattle.std.specs.List.{range_with_len}
use Rattle.std.proofs.lemmas.List.{map-append, reverse-append}
use Rattle.std.proofs.lemmas.Option.{none-some, same_Some}
use Rattle.pblk_model.proofs.Maps.{range_last}
use Rattle.unit_port.specs.Unit.{ModelUnit}
use Rattle.chronicle.specs.Handles.{AuthorView}
use Rattle.chronicle.specs.Views.{Past}
use Rattle.pblk_engine.specs.Arms.{ArmView, arm_view}
use Rattle.pblk_engine.specs.Endings.{AreArmsInOrder}
use Rattle.pblk_world.proofs.Growing.{at_end}
use Rattle.block_target.specs.Targets.{AreTakenOut, arms_of}

-- ---- lists

pub last_same : {X : Type 0} (xs ys : List X) (x y : X) → xs ++ x ∷ [] ≡ ys ++ y ∷ [] → (xs ≡ ys) × (x ≡ y)
last_same [] [] x y e = (refl, cc)
last_same [] (z ∷ ys) x y e = absurd (omega (arith, ap length e, length-append ys (y ∷ [])))
last_same (z ∷ xs) [] x y e = absurd (omega (arith, ap length e, length-append xs (x ∷ [])))
last_same (z ∷ xs) (v ∷ ys) x y e =
    let tails : xs ++ x ∷ [] ≡ ys ++ y ∷ [] = cc in
    let rest = last_same xs ys x y tails in
    (cc, rest.1)

pub one_longer : {X : Type 0} (xs ys : List X) (x : X) → ys ≡ xs ++ x ∷ [] → length ys ≡ length xs + 1
one_longer xs ys x is = ap length is ∙ length-append xs (x ∷ [])

-- what stands behind so many
pub at_middle : {X Y : Type 0} (f : X → Y) (xs ys : List X) (y : X) → slice_get (map f (xs ++ y ∷ ys)) (length xs) ≡ Some (f y)
at_middle f [] ys y = refl
at_middle f (x ∷ xs) ys y = at_middle f xs ys y

-- two lists of one length that have the same in each place
pub lists_same : {X : Type 0} (xs ys : List X) → length xs ≡ length ys → ((k : ℕ) (x : X) → slice_get xs k ≡ Some x → slice_get ys k ≡ Some x) → xs ≡ ys
lists_same [] [] many each = refl
lists_same [] (y ∷ ys) many each = absurd (omega (arith, many))
lists_same (x ∷ xs) [] many each = absurd (omega (arith, many))
lists_same (x ∷ xs) (y ∷ ys) many each =
    ap₂ (λ z zs. z ∷ zs) (sym (same_Some y x (each 0 x refl)))
    (lists_same xs ys (let less : suc (length xs) ≡ suc (length ys) = many in omega arith) (λ k z there. each (suc k) z there))

-- one that is left goes to those that are done
pub moved : {X : Type 0} (all left rest done : List X) (x : X) → all ≡ left ++ done → left ≡ rest ++ x ∷ [] → all ≡ rest ++ x ∷ done
moved all left rest done x is last = is ∙ ap (λ xs. xs ++ done) last ∙ append_assoc rest (x ∷ []) done

-- the same where they are in turned order
pub moved_on : {X : Type 0} (all left rest done after : List X) (x : X) → all ≡ left ++ reverse done → left ≡ rest ++ x ∷ [] → after ≡ done ++ x ∷ []
    → all ≡ rest ++ reverse after
moved_on all left rest done after x is last new =
    moved all left rest (reverse done) x is last ∙ ap (λ xs. rest ++ xs) (sym (ap reverse new ∙ reverse-append done (x ∷ [])))

-- ---- arms of units

-- the last of the authors that are left comes next
pub next_author : (f : ℕ → AuthorView) (old new : List AuthorView) (a : AuthorView) (n m : ℕ) → m ≡ n → old ≡ new ++ a ∷ []
    → old ≡ map f (range_with_len 0 (m + 1)) → (new ≡ map f (range_with_len 0 n)) × (a ≡ f n)
next_author f old new a n m same is was =
    let next : m + 1 ≡ n + 1 = omega (arith, same) in
    let at : 0 + n ≡ n = omega arith in
    last_same new (map f (range_with_len 0 n)) a (f n)
    (sym is ∙ was ∙ ap (λ k. map f (range_with_len 0 k)) next
    ∙ ap (map f) (range_last 0 n ∙ ap (λ k. range_with_len 0 n ++ k ∷ []) at) ∙ map-append f (range_with_len 0 n) (n ∷ []))

pub some_author : (f : ℕ → AuthorView) (xs : List AuthorView) (n : ℕ) → xs ≡ map f (range_with_len 0 (n + 1)) → 0 < length xs
some_author f xs n is =
    omega (
      arith,
      ap length (is ∙ ap (map f) (range_last 0 n) ∙ map-append f (range_with_len 0 n) ((0 + n) ∷ [])),
      length-append (map f (range_with_len 0 n)) (f (0 + n) ∷ []),
    )

-- one more arm is made, of the unit before those that have arms
pub more_arms : (past : Past) (n m : ℕ) (arms after : List ArmView) (us : List ModelUnit) (a : ArmView) (u : ModelUnit) → n + 1 ≡ m
    → reverse arms ≡ arms_of past m us → a ≡ arm_view n past.logs u → after ≡ arms ++ a ∷ [] → reverse after ≡ arms_of past n (u ∷ us)
more_arms past n m arms after us a u next were new is =
    ap reverse is ∙ reverse-append arms (a ∷ []) ∙ ap₂ (λ x xs. x ∷ xs) new (were ∙ ap (λ k. arms_of past k us) (sym next))

pub arms_numbered : (past : Past) (from : ℕ) (us : List ModelUnit) (k : ℕ) (a : ArmView) → slice_get (arms_of past from us) k ≡ Some a → a.number ≡ from + k
arms_numbered past from [] k a there = absurd (none-some a there)
arms_numbered past from (u ∷ us) zero a there =
    let at : from ≡ from + 0 = omega arith in ap (λ (x : ArmView). x.number) (sym (same_Some (arm_view from past.logs u) a there)) ∙ at
arms_numbered past from (u ∷ us) (suc k) a there =
    let at : from + 1 + k ≡ from + suc k = omega arith in arms_numbered past (from + 1) us k a there ∙ at

pub arms_in_order : (past : Past) (us : List ModelUnit) → AreArmsInOrder (arms_of past 0 us)
arms_in_order past us number a there = let at : 0 + number ≡ number = omega arith in arms_numbered past 0 us number a there ∙ at

pub arms_count : (past : Past) (from : ℕ) (us : List ModelUnit) → length (arms_of past from us) ≡ length us
arms_count past from [] = refl
arms_count past from (u ∷ us) = ap suc (arms_count past (from + 1) us)

pub arms_units : (past : Past) (from : ℕ) (us : List ModelUnit) → map (λ (a : ArmView). a.unit) (arms_of past from us) ≡ us
arms_units past from [] = refl
arms_units past from (u ∷ us) = ap (λ xs. u ∷ xs) (arms_units past (from + 1) us)

-- ---- the units are taken out again

pub none_out : (wear : List (List ℕ)) → AreTakenOut wear [] [] []
none_out wear = record { units_are = refl; count = refl; each = λ number levels there. absurd (none-some levels there) }

pub one_out : (wear : List (List ℕ)) (arms : List ArmView) (us : List ModelUnit) (worn : List (List ℕ)) → AreTakenOut wear arms us worn
    → (a : ArmView) (u : ModelUnit) (levels : List ℕ) → a.number ≡ length arms → u ≡ a.unit → slice_get wear a.number ≡ Some levels
    → AreTakenOut wear (arms ++ a ∷ []) (us ++ u ∷ []) (worn ++ levels ∷ [])
one_out wear arms us worn is a u levels numbered unit has = record {
  units_are = ap₂ (λ xs x. xs ++ x ∷ []) is.units_are unit ∙ sym (map-append (λ (x : ArmView). x.unit) arms (a ∷ []));
  count = length-append worn (levels ∷ []) ∙ ap (λ n. n + 1) is.count ∙ sym (length-append arms (a ∷ []));
  each = λ number l there.
      ⊎_elim (λ old. is.each number l old)
      (λ new. subst (λ x. slice_get wear number ≡ Some x) new.1 (subst (λ n. slice_get wear n ≡ Some levels) (numbered ∙ sym (new.0 ∙ is.count)) has))
      (at_end worn levels l number there);
}

pub taken_whole : (wear : List (List ℕ)) (past : Past) (us out : List ModelUnit) (worn : List (List ℕ)) → length wear ≡ length us
    → AreTakenOut wear (arms_of past 0 us) out worn → (out ≡ us) × (worn ≡ wear)
taken_whole wear past us out worn many is =
    (is.units_are ∙ arms_units past 0 us, lists_same worn wear (is.count ∙ arms_count past 0 us ∙ sym many) is.each)

-- The entry of a sector before another one, and the one after it, where positions rise.
use Rattle.std.proofs.Common.{◌≡◌, ℕ, ◌+◌, ◌<◌, ◌≤◌, ◌==◌, ◌&&◌, zero, suc, max, nat_lt, Bool, true, false, cond, Some, None, Option, List, [], ◌∷◌, ◌++◌, take, refl, sym, subst, ap, ap₂, ◌∙◌, arith, append-nil}
use Rattle.std.specs.Prelude.{⊤}
use Rattle.std.specs.List.{AllByRecursion, filter, find, last_or, range_with_len}
use Rattle.std.specs.Option.{option_map, option_or}
use Rattle.std.proofs.lemmas.List.Folds.{find-append}
use Rattle.std.proofs.lemmas.List.Elements.{filter-append}
use Rattle.std.proofs.lemmas.Option.{same_Some, none-some}
use Rattle.pblk_world.specs.EngineLog.{Taken}
use Rattle.line_table.specs.Rows.{latest}
use Rattle.core_laws.specs.PlacerOf.{positions_of}
use Rattle.core_laws.proofs.Placing.{not_below}
use Rattle.core_laws.proofs.Removing.{all_second as all_right}
use Rattle.pblk_model.proofs.Lists.{all_append, all_imply, last_in}
use Rattle.pblk_model.proofs.Maps.{all_filter, find_agree, find_none}
use Rattle.pblk_model.proofs.Parts.{all_taken}
use Rattle.pblk_model.proofs.Tests.{and_false, and_true, lt_true, other_number}

-- ---- rising positions

abbrev pub IsRising : List Taken → Type 0
IsRising [] = ⊤
IsRising (t ∷ ts) = AllByRecursion (λ u. t.entry.position < u.entry.position) ts × IsRising ts

from_by : (a n : ℕ) (ts : List Taken) → positions_of ts ≡ range_with_len a n → AllByRecursion (λ t. a ≤ t.entry.position) ts
from_by a n [] e = tt
from_by a zero (t ∷ ts) e = absurd cc
from_by a (suc n) (t ∷ ts) e =
    let first : t.entry.position ≡ a = cc in
    let rest : positions_of ts ≡ range_with_len (a + 1) n = cc in
    (omega arith, all_imply (λ (u : Taken). a + 1 ≤ u.entry.position) (λ (u : Taken). a ≤ u.entry.position) (λ u h. omega arith) ts (from_by (a + 1) n ts rest))

pub rising_by : (a n : ℕ) (ts : List Taken) → positions_of ts ≡ range_with_len a n → IsRising ts
rising_by a n [] e = tt
rising_by a zero (t ∷ ts) e = absurd cc
rising_by a (suc n) (t ∷ ts) e =
    let first : t.entry.position ≡ a = cc in
    let rest : positions_of ts ≡ range_with_len (a + 1) n = cc in (
      all_imply (λ (u : Taken). a + 1 ≤ u.entry.position) (λ (u : Taken). t.entry.position < u.entry.position) (λ u h. omega arith) ts
          (from_by (a + 1) n ts rest),
      rising_by (a + 1) n ts rest,
    )

pub rising_filtered : (test : Taken → Bool) (ts : List Taken) → IsRising ts → IsRising (filter test ts)
rising_filtered test [] rise = tt
rising_filtered test (t ∷ ts) rise = go (test t) (rising_filtered test ts rise.1)
  where
    go : (b : Bool) → IsRising (filter test ts) → IsRising (cond b (t ∷ filter test ts) (filter test ts))
    go true rest = (all_filter (λ (u : Taken). t.entry.position < u.entry.position) test ts rise.0, rest)
    go false rest = rest

pub rising_taken : (n : ℕ) (ts : List Taken) → IsRising ts → IsRising (take n ts)
rising_taken zero ts rise = tt
rising_taken (suc n) [] rise = tt
rising_taken (suc n) (t ∷ ts) rise = (all_taken (λ (u : Taken). t.entry.position < u.entry.position) n ts rise.0, rising_taken n ts rise.1)

pub rising_joined : (n : ℕ) (ts us : List Taken) → IsRising ts → IsRising us → AllByRecursion (λ (t : Taken). t.entry.position < n) ts
    → AllByRecursion (λ (u : Taken). n ≤ u.entry.position) us → IsRising (ts ++ us)
rising_joined n [] us a b below above = b
rising_joined n (t ∷ ts) us a b below above =
    let less : t.entry.position < n = below.0 in (
      all_append (λ (u : Taken). t.entry.position < u.entry.position) ts us a.0
          (all_imply (λ (u : Taken). n ≤ u.entry.position) (λ (u : Taken). t.entry.position < u.entry.position) (λ u h. omega arith) us above),
      rising_joined n ts us a.1 b below.1 above,
    )

pub rising_before : (before : List Taken) (t : Taken) (after : List Taken) → IsRising (before ++ t ∷ after)
    → AllByRecursion (λ u. u.entry.position < t.entry.position) before
rising_before [] t after rise = tt
rising_before (u ∷ before) t after rise =
    ((all_right (λ (v : Taken). u.entry.position < v.entry.position) before (t ∷ after) rise.0).0, rising_before before t after rise.1)

rising_right : (before after : List Taken) → IsRising (before ++ after) → IsRising after
rising_right [] after rise = rise
rising_right (u ∷ before) after rise = rising_right before after rise.1

pub rising_after : (before : List Taken) (t : Taken) (after : List Taken) → IsRising (before ++ t ∷ after)
    → AllByRecursion (λ u. t.entry.position < u.entry.position) after
rising_after before t after rise = (rising_right before (t ∷ after) rise).0

-- ---- the last of a list

abbrev pub is_at : ℕ → Option Taken → Bool
is_at position None = false
is_at position (Some t) = t.entry.position == position

last_append : {X : Type 0} (o : Option X) (xs ys : List X) → last_or o (xs ++ ys) ≡ last_or (last_or o xs) ys
last_append o [] ys = refl
last_append o (x ∷ xs) ys = last_append (Some x) xs ys

abbrev IsElsewhere : ℕ → Taken → Type 0
IsElsewhere position t = (t.entry.position == position) ≡ false

last_elsewhere : (position : ℕ) (o : Option Taken) (xs : List Taken) → is_at position o ≡ false → AllByRecursion (IsElsewhere position) xs
    → is_at position (last_or o xs) ≡ false
last_elsewhere position o [] was all = was
last_elsewhere position o (x ∷ xs) was all = last_elsewhere position (Some x) xs all.0 all.1

below_elsewhere : (position : ℕ) (xs : List Taken) → AllByRecursion (λ u. u.entry.position < position) xs → AllByRecursion (IsElsewhere position) xs
below_elsewhere position xs all =
    all_imply (λ (u : Taken). u.entry.position < position) (IsElsewhere position)
    (λ u h. other_number u.entry.position position (λ e. absurd (omega arith))) xs all

above_elsewhere : (position : ℕ) (xs : List Taken) → AllByRecursion (λ u. position < u.entry.position) xs → AllByRecursion (IsElsewhere position) xs
above_elsewhere position xs all =
    all_imply (λ (u : Taken). position < u.entry.position) (IsElsewhere position)
    (λ u h. other_number u.entry.position position (λ e. absurd (omega arith))) xs all

last_by : (test : Taken → Bool) (before : List Taken) (t : Taken) (after : List Taken)
    → last_or None (filter test (before ++ t ∷ after)) ≡ last_or (last_or None (filter test before)) (cond (test t) (t ∷ filter test after) (filter test after))
last_by test before t after = ap (last_or None) (filter-append test before (t ∷ after))
    ∙ last_append None (filter test before) (cond (test t) (t ∷ filter test after) (filter test after))

before_at : (test : Taken → Bool) (before : List Taken) (position : ℕ) → AllByRecursion (λ u. u.entry.position < position) before
    → is_at position (last_or None (filter test before)) ≡ false
before_at test before position below =
    last_elsewhere position None (filter test before) refl (all_filter (IsElsewhere position) test before (below_elsewhere position before below))

-- an entry that doesn't pass isn't the last one that does
pub fails_at : (test : Taken → Bool) (before : List Taken) (t : Taken) (after : List Taken) → IsRising (before ++ t ∷ after) → test t ≡ false
    → is_at t.entry.position (last_or None (filter test (before ++ t ∷ after))) ≡ false
fails_at test before t after rise fails =
    ap (is_at t.entry.position) (last_by test before t after
    ∙ ap (λ b. last_or (last_or None (filter test before)) (cond b (t ∷ filter test after) (filter test after))) fails)
    ∙ last_elsewhere t.entry.position (last_or None (filter test before)) (filter test after)
    (before_at test before t.entry.position (rising_before before t after rise))
    (all_filter (IsElsewhere t.entry.position) test after (above_elsewhere t.entry.position after (rising_after before t after rise)))

-- nor is one after which another passes
pub passes_later : (test : Taken → Bool) (before : List Taken) (t : Taken) (after : List Taken) (y : Taken) (ys : List Taken) → IsRising (before ++ t ∷ after)
    → filter test after ≡ y ∷ ys
    → is_at t.entry.position (last_or None (filter test (before ++ t ∷ after))) ≡ false
passes_later test before t after y ys rise some =
    ap (is_at t.entry.position) (last_by test before t after ∙ ap (λ zs. last_or (last_or None (filter test before)) (cond (test t) (t ∷ zs) zs)) some
    ∙ go (test t))
    ∙ (let all : AllByRecursion (IsElsewhere t.entry.position) (y ∷ ys) =
    subst (AllByRecursion (IsElsewhere t.entry.position)) some
    (all_filter (IsElsewhere t.entry.position) test after (above_elsewhere t.entry.position after (rising_after before t after rise))) in
    last_elsewhere t.entry.position (Some y) ys all.0 all.1)
  where
    go : (b : Bool) → last_or (last_or None (filter test before)) (cond b (t ∷ y ∷ ys) (y ∷ ys)) ≡ last_or (Some y) ys
    go true = refl
    go false = refl

-- one that passes is the last one where none passes after it
pub passes_last : (test : Taken → Bool) (before : List Taken) (t : Taken) (after : List Taken) → test t ≡ true → filter test after ≡ []
    → last_or None (filter test (before ++ t ∷ after)) ≡ Some t
passes_last test before t after passes none =
    last_by test before t after ∙ ap₂ (λ b zs. last_or (last_or None (filter test before)) (cond b (t ∷ zs) zs)) passes none

-- ---- the next entry of a sector

abbrev pub is_same : Taken → Taken → Bool
is_same t u = u.mark.lba == t.mark.lba

pub next_by : (before : List Taken) (t : Taken) (after : List Taken) → IsRising (before ++ t ∷ after)
    → find (λ u. (u.mark.lba == t.mark.lba) && nat_lt t.entry.position u.entry.position) (before ++ t ∷ after) ≡ find (is_same t) after
next_by before t after rise =
    find-append (λ u. (u.mark.lba == t.mark.lba) && nat_lt t.entry.position u.entry.position) before (t ∷ after)
    ∙ ap (λ o. option_or o (find (λ u. (u.mark.lba == t.mark.lba) && nat_lt t.entry.position u.entry.position) (t ∷ after)))
    (find_none (λ u. (u.mark.lba == t.mark.lba) && nat_lt t.entry.position u.entry.position) before
    (all_imply (λ (u : Taken). u.entry.position < t.entry.position) (λ u. ((u.mark.lba == t.mark.lba) && nat_lt t.entry.position u.entry.position) ≡ false)
    (λ u h. and_false (u.mark.lba == t.mark.lba) (nat_lt t.entry.position u.entry.position) (not_below u.entry.position t.entry.position (omega arith))) before
    (rising_before before t after rise)))
    ∙ ap (λ b. cond b (Some t) (find (λ u. (u.mark.lba == t.mark.lba) && nat_lt t.entry.position u.entry.position) after))
    (and_false (t.mark.lba == t.mark.lba) (nat_lt t.entry.position t.entry.position) (not_below t.entry.position t.entry.position (omega arith)))
    ∙ find_agree (λ (u : Taken). t.entry.position < u.entry.position) (λ u. (u.mark.lba == t.mark.lba) && nat_lt t.entry.position u.entry.position) (is_same t)
    (λ u h. and_true (u.mark.lba == t.mark.lba) (nat_lt t.entry.position u.entry.position) (lt_true t.entry.position u.entry.position h)) after
    (rising_after before t after rise)

pub none_found : {X : Type 0} (test : X → Bool) (xs : List X) → find test xs ≡ None → AllByRecursion (λ x. test x ≡ false) xs
none_found test [] e = tt
none_found {X} test (x ∷ xs) e = go (test x) refl e (λ f. none_found test xs f)
  where
    go : (b : Bool) → test x ≡ b → cond b (Some x) (find test xs) ≡ None → (find test xs ≡ None → AllByRecursion (λ x. test x ≡ false) xs)
        → AllByRecursion (λ x. test x ≡ false) (x ∷ xs)
    go true f e rest = absurd (none-some x (sym e))
    go false f e rest = (f, rest e)

-- where an element is found
pub record IsFound {X : Type 0} (test : X → Bool) (xs : List X) (x : X) : Type 0 where
  pub before : List X
  pub after : List X
  pub is : xs ≡ before ++ x ∷ after
  pub fail : AllByRecursion (λ y. test y ≡ false) before
  pub passes : test x ≡ true

pub found_at : {X : Type 0} (test : X → Bool) (xs : List X) (x : X) → find test xs ≡ Some x → IsFound test xs x
found_at test [] x e = absurd (none-some x e)
found_at {X} test (y ∷ ys) x e = go (test y) refl e (λ f. found_at test ys x f)
  where
    go : (b : Bool) → test y ≡ b → cond b (Some y) (find test ys) ≡ Some x → (find test ys ≡ Some x → IsFound test ys x) → IsFound test (y ∷ ys) x
    go true f e rest =
        let same : y ≡ x = same_Some y x e in
        record { before = []; after = ys; is = ap (λ z. z ∷ ys) same; fail = tt; passes = ap test (sym same) ∙ f }
    go false f e rest =
        let r : IsFound test ys x = rest e in
        record { before = y ∷ r.before; after = r.after; is = ap (λ zs. y ∷ zs) r.is; fail = (f, r.fail); passes = r.passes }

-- ---- the greatest of some positions

last_some : (P : Taken → Type 0) (y : Taken) (ys : List Taken) → P y → AllByRecursion P ys → (z : Taken) × (last_or (Some y) ys ≡ Some z) × P z
last_some P y [] is all = (y, refl, is)
last_some P y (x ∷ xs) is all = last_some P x xs all.0 all.1

pub latest_is : (by : ℕ) (o : Option Taken) → ((t : Taken) → o ≡ Some t → t.entry.position < by)
    → latest (option_map (λ (t : Taken). t.entry.position) o) by ≡ by
latest_is by None below = refl
latest_is by (Some t) below = let before : t.entry.position < by = below t refl in omega arith

pub one_more : (xs : List Taken) (u : Taken) (ys : List Taken) → AllByRecursion (λ t. t.entry.position < u.entry.position) xs
    → AllByRecursion (λ t. u.entry.position < t.entry.position) ys
    → option_map (λ (t : Taken). t.entry.position) (last_or None (xs ++ u ∷ ys)) ≡ Some
    (latest (option_map (λ (t : Taken). t.entry.position) (last_or None (xs ++ ys))) u.entry.position)
one_more xs u [] below above =
    ap (option_map (λ (t : Taken). t.entry.position)) (last_append None xs (u ∷ []))
    ∙ ap (λ n. Some n) (sym (ap (λ zs. latest (option_map (λ (t : Taken). t.entry.position) (last_or None zs)) u.entry.position) (append-nil xs)
    ∙ latest_is u.entry.position (last_or None xs)
    (λ t e. last_in (λ (v : Taken). v.entry.position < u.entry.position) None xs t (λ y f. absurd (none-some y f)) below e)))
one_more xs u (y ∷ ys) below above =
    let last : (z : Taken) × (last_or (Some y) ys ≡ Some z) × (u.entry.position < z.entry.position) =
    last_some (λ (t : Taken). u.entry.position < t.entry.position) y ys above.0 above.1 in
    let z : Taken = last.0 in
    let more : u.entry.position < z.entry.position = last.2 in
    let greatest : z.entry.position ≡ max z.entry.position u.entry.position = omega arith in
    ap (option_map (λ (t : Taken). t.entry.position)) (last_append None xs (u ∷ y ∷ ys) ∙ last.1)
    ∙ ap (λ n. Some n) greatest
    ∙ ap (λ o. Some (latest (option_map (λ (t : Taken). t.entry.position) o) u.entry.position)) (sym (last_append None xs (y ∷ ys) ∙ last.1))

-- Entries that wait again, one after another: how many a placer holds then, and which.
use Rattle.std.proofs.Common.{◌≡◌, ◌⊎◌, inl, inr, ℕ, ◌+◌, ◌<◌, ◌≤◌, ◌==◌, ◌||◌, suc, nat_lt, nat_le, Bool, true, false, cond, Some, None, List, [], ◌∷◌, ◌++◌, length, take, drop, refl, sym, subst, ap, ◌∙◌, arith, append-nil, length-append}
use Rattle.std.specs.Prelude.{slice_get}
use Rattle.std.specs.List.{Contains, filter, flat_map}
use Rattle.std.specs.Option.{option_to_list}
use Rattle.std.proofs.lemmas.Bool.{eqb-true}
use Rattle.std.proofs.lemmas.List.Elements.{filter_map-append}
use Rattle.std.proofs.lemmas.List.Sums.{fold-append}
use Rattle.std.proofs.lemmas.Option.{slice_get_within}
use Rattle.pblk_model.specs.declared.chunk.Mark.{Mark}
use Rattle.pblk_model.specs.declared.shape.Shape.{Shape}
use Rattle.stripe_placer.specs.Entries.{Entries, waiting, with_entry}
use Rattle.stripe_placer.specs.Placing.{Placing, held, positions_in, waits}
use Rattle.core_laws.proofs.Distinct.{IsIn, at_in, in_first, in_joined, in_second, passing}
use Rattle.core_laws.proofs.Placed.{is_in_list}
use Rattle.pblk_core.specs.Losing.{HasRoomFor, all_wait, position_of_mark, positions_of_marks}
use Rattle.pblk_model.proofs.Lists.{IsAmong, among_contained}
use Rattle.pblk_model.proofs.Maps.{more}
use Rattle.pblk_model.proofs.Parts.{contained_among, get_last, get_more, take_and_drop, take_more}
use Rattle.pblk_model.proofs.Tests.{either, le_of_lt_false, or_left, or_right, same_number}

-- ---- one more

parted : (p : ℕ) (xs : List ℕ) → length (filter (λ q. nat_lt q p) xs) + length (filter (λ q. nat_le p q) xs) ≡ length xs
parted p [] = refl
parted p (x ∷ xs) = go (nat_lt x p) refl (nat_le p x) refl (parted p xs)
  where
    below : List ℕ
    below = filter (λ q. nat_lt q p) xs

    above : List ℕ
    above = filter (λ q. nat_le p q) xs

    go : (a : Bool) → nat_lt x p ≡ a → (b : Bool) → nat_le p x ≡ b
        → length (filter (λ q. nat_lt q p) xs) + length (filter (λ q. nat_le p q) xs) ≡ length xs
        → length (cond a (x ∷ filter (λ q. nat_lt q p) xs) (filter (λ q. nat_lt q p) xs))
        + length (cond b (x ∷ filter (λ q. nat_le p q) xs) (filter (λ q. nat_le p q) xs)) ≡ suc (length xs)
    go true e true f rest = let less : x < p = grind arith in let more_is : p ≤ x = grind arith in absurd (omega arith)
    go true e false f rest = omega arith
    go false e true f rest = omega arith
    go false e false f rest =
        let more_is : p ≤ x = le_of_lt_false x p e in let less : x < p = grind arith in absurd (omega arith)

in_filtered : (test : ℕ → Bool) (xs : List ℕ) (x : ℕ) → IsIn (filter test xs) x → IsIn xs x
in_filtered test [] x e = e
in_filtered test (y ∷ xs) x e = go (test y) e (in_filtered test xs x)
  where
    go : (b : Bool) → IsIn (cond b (y ∷ filter test xs) (filter test xs)) x → (IsIn (filter test xs) x → IsIn xs x) → IsIn (y ∷ xs) x
    go false h rest = or_right (y == x) (is_in_list xs x) (rest h)
    go true h rest = by (y == x) h
      where
        by : (c : Bool) → (c || is_in_list (filter test xs) x) ≡ true → (c || is_in_list xs x) ≡ true
        by true g = refl
        by false g = rest g

waiting_more : (e : Entries) (q : ℕ) → length (waiting (with_entry e q true)) ≡ length (waiting e) + 1
waiting_more e q =
    let first : List ℕ = filter (λ x. nat_lt x q) e.lost in
    let rest : List ℕ = filter (λ x. nat_le q x) e.lost in
    let parts = parted q e.lost in
    let all : length ((first ++ q ∷ rest) ++ e.fresh) ≡ length (first ++ q ∷ rest) + length e.fresh = length-append (first ++ q ∷ rest) e.fresh in
    let front : length (first ++ q ∷ rest) ≡ length first + suc (length rest) = length-append first (q ∷ rest) in
    let whole : length (waiting e) ≡ length e.lost + length e.fresh = length-append e.lost e.fresh in
    omega arith

waiting_in : (e : Entries) (q x : ℕ) → IsIn (waiting (with_entry e q true)) x → IsIn (waiting e) x ⊎ (q ≡ x)
waiting_in e q x h = go (in_joined (first ++ q ∷ rest) e.fresh x h)
  where
    first : List ℕ
    first = filter (λ y. nat_lt y q) e.lost

    rest : List ℕ
    rest = filter (λ y. nat_le q y) e.lost

    of_lost : IsIn e.lost x → IsIn (waiting e) x
    of_lost at = in_first e.lost e.fresh x at

    by_rest : (q == x) ≡ true ⊎ IsIn rest x → IsIn (waiting e) x ⊎ (q ≡ x)
    by_rest (inl same) = inr (eqb-true q x same)
    by_rest (inr at) = inl (of_lost (in_filtered (λ y. nat_le q y) e.lost x at))

    by : IsIn first x ⊎ IsIn (q ∷ rest) x → IsIn (waiting e) x ⊎ (q ≡ x)
    by (inl at) = inl (of_lost (in_filtered (λ y. nat_lt y q) e.lost x at))
    by (inr at) = by_rest (either (q == x) (is_in_list rest x) at)

    go : IsIn (first ++ q ∷ rest) x ⊎ IsIn e.fresh x → IsIn (waiting e) x ⊎ (q ≡ x)
    go (inl at) = by (in_joined first (q ∷ rest) x at)
    go (inr at) = inl (in_second e.lost e.fresh x at)

held_more : (p : Placing) (q : ℕ) → length (held (waits p q true)) ≡ length (held p) + 1
held_more p q =
    let rows : List ℕ = flat_map positions_in p.units in
    let one : length (waiting (with_entry p.entries q true)) ≡ length (waiting p.entries) + 1 = waiting_more p.entries q in
    let new : length (held (waits p q true)) ≡ length (waiting (with_entry p.entries q true)) + length rows =
    length-append (waiting (with_entry p.entries q true)) rows in
    let old : length (held p) ≡ length (waiting p.entries) + length rows = length-append (waiting p.entries) rows in
    omega arith

held_in : (p : Placing) (q x : ℕ) → IsIn (held (waits p q true)) x → IsIn (held p) x ⊎ (q ≡ x)
held_in p q x h = go (in_joined (waiting (with_entry p.entries q true)) rows x h)
  where
    rows : List ℕ
    rows = flat_map positions_in p.units

    by : IsIn (waiting p.entries) x ⊎ (q ≡ x) → IsIn (held p) x ⊎ (q ≡ x)
    by (inl at) = inl (in_first (waiting p.entries) rows x at)
    by (inr same) = inr same

    go : IsIn (waiting (with_entry p.entries q true)) x ⊎ IsIn rows x → IsIn (held p) x ⊎ (q ≡ x)
    go (inl at) = by (waiting_in p.entries q x at)
    go (inr at) = inl (in_second (waiting p.entries) rows x at)

-- ---- all of them

pub all_shape : (p : Placing) (qs : List ℕ) → (all_wait p qs).shape ≡ p.shape
all_shape p [] = refl
all_shape p (q ∷ qs) = all_shape (waits p q true) qs

pub all_held : (p : Placing) (qs : List ℕ) → length (held (all_wait p qs)) ≡ length (held p) + length qs
all_held p [] = let same : length (held p) ≡ length (held p) + 0 = omega arith in same
all_held p (q ∷ qs) =
    let rest : length (held (all_wait (waits p q true) qs)) ≡ length (held (waits p q true)) + length qs = all_held (waits p q true) qs in
    let one : length (held (waits p q true)) ≡ length (held p) + 1 = held_more p q in
    rest ∙ omega arith

pub all_in : (p : Placing) (qs : List ℕ) (x : ℕ) → IsIn (held (all_wait p qs)) x → IsIn (held p) x ⊎ IsIn qs x
all_in p [] x h = inl h
all_in p (q ∷ qs) x h = go (all_in (waits p q true) qs x h)
  where
    by : IsIn (held p) x ⊎ (q ≡ x) → IsIn (held p) x ⊎ IsIn (q ∷ qs) x
    by (inl at) = inl at
    by (inr same) = inr (or_left (q == x) (is_in_list qs x) (ap (λ y. q == y) (sym same) ∙ same_number q))

    go : IsIn (held (waits p q true)) x ⊎ IsIn qs x → IsIn (held p) x ⊎ IsIn (q ∷ qs) x
    go (inl at) = by (held_in p q x at)
    go (inr at) = inr (or_right (q == x) (is_in_list qs x) at)

-- ---- those of the first marks

module _ (s : Shape) (marks : List Mark) (k : ℕ) (m : Mark) (there : slice_get marks k ≡ Some m) where
  one_more_mark : positions_of_marks s (take (k + 1) marks) ≡ positions_of_marks s (take k marks) ++ option_to_list (position_of_mark s m)
  one_more_mark = ap (positions_of_marks s) (take_more marks k m there) ∙ more (position_of_mark s) (take k marks) m

  pub waits_more : (p : Placing) → position_of_mark s m ≡ Some m.position
      → waits (all_wait p (positions_of_marks s (take k marks))) m.position true ≡ all_wait p (positions_of_marks s (take (k + 1) marks))
  waits_more p bears =
      sym (ap (all_wait p) (one_more_mark ∙ ap (λ o. positions_of_marks s (take k marks) ++ option_to_list o) bears)
      ∙ fold-append (λ q position. waits q position true) p (positions_of_marks s (take k marks)) (m.position ∷ []))

  pub waits_same : (p : Placing) → position_of_mark s m ≡ None
      → all_wait p (positions_of_marks s (take k marks)) ≡ all_wait p (positions_of_marks s (take (k + 1) marks))
  waits_same p none =
      sym (ap (all_wait p) (one_more_mark ∙ ap (λ o. positions_of_marks s (take k marks) ++ option_to_list o) none
      ∙ append-nil (positions_of_marks s (take k marks))))

  -- they stand first among all, and then that of the mark
  parts : positions_of_marks s marks ≡ positions_of_marks s (take (k + 1) marks) ++ positions_of_marks s (drop (k + 1) marks)
  parts = ap (positions_of_marks s) (sym (take_and_drop (k + 1) marks)) ∙ filter_map-append (position_of_mark s) (take (k + 1) marks) (drop (k + 1) marks)

  module _ (p : Placing) (room : HasRoomFor p (positions_of_marks s marks)) (bears : position_of_mark s m ≡ Some m.position) where
    here : slice_get (positions_of_marks s marks) (length (positions_of_marks s (take k marks))) ≡ Some m.position
    here = ap (λ qs. slice_get qs (length (positions_of_marks s (take k marks)))) parts
        ∙ get_more (positions_of_marks s (take (k + 1) marks)) (positions_of_marks s (drop (k + 1) marks)) (length (positions_of_marks s (take k marks)))
        m.position (ap (λ qs. slice_get qs (length (positions_of_marks s (take k marks))))
        (one_more_mark ∙ ap (λ o. positions_of_marks s (take k marks) ++ option_to_list o) bears)
        ∙ get_last (positions_of_marks s (take k marks)) m.position)

    pub room_left : length (held (all_wait p (positions_of_marks s (take k marks)))) < (all_wait p (positions_of_marks s (take k marks))).shape.ring
    room_left =
        let qs : List ℕ = positions_of_marks s (take k marks) in
        let inside : length qs < length (positions_of_marks s marks) =
        slice_get_within (positions_of_marks s marks) (length (positions_of_marks s (take k marks))) m.position here in
        let count : length (held (all_wait p qs)) ≡ length (held p) + length qs = all_held p qs in
        let fits : length (held p) + length (positions_of_marks s marks) ≤ p.shape.ring = room.fits in
        subst (λ (t : Shape). length (held (all_wait p (positions_of_marks s (take k marks)))) < t.ring)
        (sym (all_shape p (positions_of_marks s (take k marks)))) (omega arith)

    pub another : Contains (held (all_wait p (positions_of_marks s (take k marks)))) m.position → ⊥
    another there_is =
        let at : IsAmong (held (all_wait p (positions_of_marks s (take k marks)))) m.position =
        among_contained (held (all_wait p (positions_of_marks s (take k marks)))) m.position there_is in
        go (all_in p (positions_of_marks s (take k marks)) m.position (at_in (held (all_wait p (positions_of_marks s (take k marks)))) at.0 m.position at.1))
      where
        found : (xs : List ℕ) (x : ℕ) → IsIn xs x → IsAmong xs x
        found xs x is =
            let at = passing (λ y. y == x) xs is in
            subst (IsAmong xs) (eqb-true at.0 x at.2) at.1

        go : IsIn (held p) m.position ⊎ IsIn (positions_of_marks s (take k marks)) m.position → ⊥
        go (inl old) = room.others (length (positions_of_marks s (take k marks))) m.position here
            (contained_among (held p) m.position (found (held p) m.position old))
        go (inr earlier) =
            let at : IsAmong (positions_of_marks s (take k marks)) m.position = found (positions_of_marks s (take k marks)) m.position earlier in
            let low : at.0 < length (positions_of_marks s (take k marks)) = slice_get_within (positions_of_marks s (take k marks)) at.0 m.position at.1 in
            let also : slice_get (positions_of_marks s marks) at.0 ≡ Some m.position =
            ap (λ qs. slice_get qs at.0) parts
            ∙ get_more (positions_of_marks s (take (k + 1) marks)) (positions_of_marks s (drop (k + 1) marks)) at.0 m.position
            (ap (λ qs. slice_get qs at.0) one_more_mark
            ∙ get_more (positions_of_marks s (take k marks)) (option_to_list (position_of_mark s m)) at.0 m.position at.1) in
            let same : at.0 ≡ length (positions_of_marks s (take k marks)) =
            room.apart at.0 (length (positions_of_marks s (take k marks))) m.position also here in
            omega arith

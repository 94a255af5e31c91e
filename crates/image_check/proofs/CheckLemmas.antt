-- When a certificate is right, by what the checker finds.
use Rattle.std.proofs.Common.{◌≡◌, ℕ, ◌+◌, ◌-◌, ◌<◌, ◌≤◌, ◌==◌, ◌&&◌, ◌||◌, not, nat_le, nat_lt, zero, suc, Bool, true, false, cond, List, [], ◌∷◌, map, Option, Some, None, refl, sym, ap, ◌∙◌, subst, arith}
use Rattle.std.specs.List.{AllByRecursion, list_any, range_with_len, slice_get}
use Rattle.std.specs.List.Sorted.{IsStrictlyIncreasing}
use Rattle.std.specs.Option.{is_some, option_map, option_map_or}
use Rattle.std.proofs.lemmas.Option.{none-some, same_Some}
use Rattle.std.proofs.lemmas.Bool.{eq-eqb, le-leb, le-ltb, lt-leb, ne_eqb, true≢false}
use Rattle.pblk_model.specs.Image.{Image}
use Rattle.pblk_model.specs.StartRecord.{StartRecord}
use Rattle.pblk_model.specs.Records.{Record, records}
use Rattle.pblk_model.specs.Contents.{end, head, is_borne}
use Rattle.pblk_model.proofs.Parts.{get_below}
use Rattle.pblk_model.proofs.Tests.{and_both, and_false, le_of_lt_false}
use Rattle.pblk_meta.specs.Records.{start_numbers}
use Rattle.pblk_meta.specs.declared.start_record.StartRecord.{StartRecord as Start}
use Rattle.pblk_laws.proofs.Ends.{end_is_end}
use Rattle.image_check.specs.declared.certificate.Bearer.{Bearer}
use Rattle.image_check.specs.declared.certificate.Certificate.{Certificate}
use Rattle.image_check.specs.declared.error.CheckErr.{CheckErr}
use Rattle.image_check.specs.declared.error.CheckErr.TheVariants as errors
use Rattle.image_check.specs.declared.bearers.Seen.{Seen}
use Rattle.image_check.specs.Bearers.{IsSeen, first_wrong}
use Rattle.image_check.specs.Right.{AreBearers, AreBearersRight, IsLeastWrong, IsRight, Refuses, bearer_right, is_borne_right, is_named, may_end, said_of}
use Rattle.image_check.proofs.CompareLemmas.{none_said}
use Rattle.image_check.proofs.EndLemmas.{end_right, no_head_end_is, unborne_end}
use Rattle.image_check.proofs.Orders.{row_rises}
use Rattle.image_check.proofs.Rises.{AreRising, rising_of}
use Rattle.image_check.proofs.WrongLemmas.{AreFlags, Tells, flags_of, least_wrong, right_bearer, right_from, right_place}

abbrev position_of : Bearer → ℕ
position_of b = b.position

-- Without a head.

pub no_head_wrong : (i : Image) (c : Certificate) (b : Bearer) → head i ≡ None → Some b ≡ slice_get c.bears 0 → IsStrictlyIncreasing (map position_of c.bears)
    → IsLeastWrong (bearer_right i c) b.position
no_head_wrong i c b none first rising =
    subst (λ o. IsLeastWrong (λ p. is_borne_right o (records i) c.end p (said_of position_of c.bears p)) b.position) (sym none)
    (by_bears c.bears first (rising_of position_of c.bears rising)) where
      by_bears : (bears : List Bearer) → Some b ≡ slice_get bears 0 → AreRising position_of bears
          → IsLeastWrong (λ p. not (is_some (said_of position_of bears p))) b.position
      by_bears [] first rising = absurd (none-some b (sym first))
      by_bears (x ∷ bears) first rising =
          let same : b ≡ x = same_Some b x first in
          subst (λ y. IsLeastWrong (λ p. not (is_some (said_of position_of (x ∷ bears) p))) y.position) (sym same) (record {
            wrong = ap (λ t. not (is_some (cond t (Some x) (said_of position_of bears x.position)))) (eq-eqb x.position x.position refl);
            least = λ m less. (let apart : (x.position == m) ≡ false = ne_eqb x.position m (λ e. omega arith) in
                ap (λ t. not (is_some (cond t (Some x) (said_of position_of bears m)))) apart
                ∙ ap (λ o. not (is_some o)) (none_said position_of x.position m bears rising.0 (omega arith)));
          })

pub no_head_right : (i : Image) (c : Certificate) → head i ≡ None → c.bears ≡ [] → (p : ℕ) → bearer_right i c p ≡ true
no_head_right i c none empty p =
    ap (λ o. is_borne_right o (records i) c.end p (said_of position_of c.bears p)) none
    ∙ ap (λ bears. not (is_some (said_of position_of bears p))) empty

pub no_head_end : (i : Image) (c : Certificate) (b : Bool) → head i ≡ None → (c.end == 0) ≡ b → may_end (head i) (records i) c.end ≡ b
no_head_end i c b none is = ap (λ o. may_end o (records i) c.end) none ∙ is

pub no_head_bears : (i : Image) (c : Certificate) → head i ≡ None → c.bears ≡ [] → AreBearers (head i) (records i) (end i) c.bears
no_head_bears i c none empty = subst (λ o. AreBearers o (records i) (end i) c.bears) (sym none)
    (subst (λ bears. AreBearers None (records i) (end i) bears) (sym empty) (record { positions = refl; named = λ h e. absurd (none-some h e) }))

-- With a head.

module _ (i : Image) (c : Certificate) (h : StartRecord) (is : head i ≡ Some h) where
  abbrev tells : Option ℕ → Type 0
  tells o = Tells h (records i) c.end (bearer_right i c) o

  module _ (seen : Seen) (known : IsSeen h c.bears c.end (records i) seen) where
    flags : AreFlags h (records i) c.end h.front c.bears seen.bearers.items
    flags = flags_of h (records i) c.end h.front c.bears seen.bearers.items known.bearers.count
        (λ k b there. known.bearers.each k (get_below c.bears k b there)
        ∙ ap (λ o. Some (option_map_or (λ b. (b.position == h.front + k) && list_any (is_named h b) (records i)) o false)) there)

    pub wrong_told : IsStrictlyIncreasing (map position_of c.bears) → tells (first_wrong h.front c.end c.bears seen.bearers.items)
    wrong_told rising = subst (λ o. Tells h (records i) c.end (λ p. is_borne_right o (records i) c.end p (said_of position_of c.bears p))
        (first_wrong h.front c.end c.bears seen.bearers.items)) (sym is)
        (least_wrong h (records i) c.end h.front c.bears seen.bearers.items (rising_of position_of c.bears rising) flags)

    pub end_told : may_end (head i) (records i) c.end ≡ nat_le h.front c.end && not seen.end
    end_told = ap (λ o. may_end o (records i) c.end) is ∙ ap (λ b. nat_le h.front c.end && not b) (sym known.end)

    pub bears_told : first_wrong h.front c.end c.bears seen.bearers.items ≡ None → c.end ≡ end i → AreBearers (head i) (records i) (end i) c.bears
    bears_told none end-is =
        let all = rows h.front c.bears seen.bearers.items flags none in
        subst (λ o. AreBearers o (records i) (end i) c.bears) (sym is) (record {
          positions = all.0 ∙ ap (λ p. range_with_len h.front (p - h.front)) end-is;
          named = λ g same. subst (λ x. AllByRecursion (λ b. list_any (is_named x b) (records i) ≡ true) c.bears) (same_Some h g same) all.1;
        }) where
          rows : (from : ℕ) (bears : List Bearer) (flagged : List Bool) → AreFlags h (records i) c.end from bears flagged
              → first_wrong from c.end bears flagged ≡ None
              → (map position_of bears ≡ range_with_len from (c.end - from)) × AllByRecursion (λ b. list_any (is_named h b) (records i) ≡ true) bears
          rows from [] flagged f none = (by_end (nat_lt from c.end) refl none, tt) where
            by_end : (t : Bool) → nat_lt from c.end ≡ t → cond t (Some from) None ≡ None → [] ≡ range_with_len from (c.end - from)
            by_end true e none = absurd (none-some from (sym none))
            by_end false e none =
                let most : c.end ≤ from = le_of_lt_false from c.end e in
                let zero-left : c.end - from ≡ 0 = omega arith in
                ap (range_with_len from) (sym zero-left)
          rows from (b ∷ bears) [] f none = absurd f
          rows from (b ∷ bears) (s ∷ flagged) f none = by_place (rows (from + 1) bears flagged f.1) (nat_lt b.position from || nat_le c.end from) refl
              (nat_lt from b.position || not s) refl none where
                by_place : (first_wrong (from + 1) c.end bears flagged ≡ None
                    → (map position_of bears ≡ range_with_len (from + 1) (c.end - (from + 1)))
                    × AllByRecursion (λ b. list_any (is_named h b) (records i) ≡ true) bears)
                    → (t : Bool) → nat_lt b.position from || nat_le c.end from ≡ t → (u : Bool) → nat_lt from b.position || not s ≡ u
                    → cond t (Some b.position) (cond u (Some from) (first_wrong (from + 1) c.end bears flagged)) ≡ None
                    → (map position_of (b ∷ bears) ≡ range_with_len from (c.end - from))
                    × AllByRecursion (λ b. list_any (is_named h b) (records i) ≡ true) (b ∷ bears)
                by_place rest true e u g none = absurd (none-some b.position (sym none))
                by_place rest false e true g none = absurd (none-some from (sym none))
                by_place rest false e false g none =
                    let place = right_place h (records i) c.end from b e in
                    let here = right_bearer h (records i) c.end from b s place.0 f.0 g in
                    let tails = rest none in
                    let more : c.end - from ≡ suc (c.end - (from + 1)) = omega (arith, place.1) in (
                      ap (λ p. p ∷ map position_of bears) here.0 ∙ ap (λ ps. from ∷ ps) tails.0 ∙ ap (range_with_len from) (sym more),
                      (here.1, tails.1),
                    )

-- What a call answers that found a head, looked for its bearers, and then for a wrong one by what was seen.
module _ (i : Image) (c : Certificate) (newest : Option Start) (start : Start) (newest-is : option_map start_numbers newest ≡ head i)
    (some : newest ≡ Some start) (bears : List Bearer) (bears-are : bears ≡ c.bears) (seen : Seen)
    (looked : IsSeen (start_numbers start) bears c.end (records i) seen) (flags : List Bool) (flags-are : flags ≡ seen.bearers.items)
    (rising : IsStrictlyIncreasing (map position_of c.bears)) (found : Option ℕ)
    (answer : found ≡ first_wrong (start_numbers start).front c.end bears flags) where
  abbrev h : StartRecord
  h = start_numbers start

  is : head i ≡ Some h
  is = sym newest-is ∙ ap (option_map start_numbers) some

  known : IsSeen h c.bears c.end (records i) seen
  known = subst (λ bs. IsSeen h bs c.end (records i) seen) bears-are looked

  found-is : found ≡ first_wrong h.front c.end c.bears seen.bearers.items
  found-is = answer ∙ ap (λ bs. first_wrong h.front c.end bs flags) bears-are ∙ ap (first_wrong h.front c.end c.bears) flags-are

  told : tells i c h is found
  told = subst (tells i c h is) (sym found-is) (wrong_told i c h is seen known rising)

  ends : may_end (head i) (records i) c.end ≡ nat_le h.front c.end && not seen.end
  ends = end_told i c h is seen known

  pub wrong_refused : (p : ℕ) → found ≡ Some p → IsLeastWrong (bearer_right i c) p
  wrong_refused p is-some = subst (tells i c h is) is-some told

  module _ (none : found ≡ None) where
    all_right : (p : ℕ) → bearer_right i c p ≡ true
    all_right = subst (tells i c h is) none told

    pub low_refused : c.end < h.front → ((p : ℕ) → bearer_right i c p ≡ true) × (may_end (head i) (records i) c.end ≡ false)
    low_refused low = (all_right, ends ∙ ap (λ b. b && not seen.end) (lt-leb h.front c.end low))

    pub borne_refused : seen.end ≡ true → ((p : ℕ) → bearer_right i c p ≡ true) × (may_end (head i) (records i) c.end ≡ false)
    borne_refused borne = (all_right, ends ∙ and_false (nat_le h.front c.end) (not seen.end) (ap not borne))

    pub bearers_right : h.front ≤ c.end → seen.end ≡ false → AreBearersRight i c
    bearers_right high unborne = (all_right, ends ∙ and_both (nat_le h.front c.end) (not seen.end) (le-leb h.front c.end high) (ap not unborne))

    pub bearers_are : h.front ≤ c.end → seen.end ≡ false → AreBearers (head i) (records i) (end i) c.bears
    bearers_are high unborne = bears_told i c h is seen known (sym found-is ∙ none) (end_right i c (bearers_right high unborne))

-- Where a certificate is right it isn't refused.

-- rising positions, each with a record that it names, are right
module _ (h : StartRecord) (rs : List Record) where
  all_flags : (last from n : ℕ) (bears : List Bearer) → map position_of bears ≡ range_with_len from n
      → AllByRecursion (λ b. list_any (is_named h b) rs ≡ true) bears
      → AreFlags h rs last from bears (map (λ b. true) bears)
  all_flags last from n [] e named = tt
  all_flags last from zero (b ∷ bears) e named = absurd (cc)
  all_flags last from (suc n) (b ∷ bears) e named =
      let here : b.position ≡ from = cc in
      let tails : map position_of bears ≡ range_with_len (from + 1) n = cc in
      (sym (and_both (b.position == from) (list_any (is_named h b) rs) (eq-eqb b.position from here) named.0), all_flags last (from + 1) n bears tails named.1)

  none_wrong : (last from n : ℕ) (bears : List Bearer) → map position_of bears ≡ range_with_len from n → last ≡ from + n
      → first_wrong from last bears (map (λ b. true) bears) ≡ None
  none_wrong last from zero [] e all = ap (λ t. cond t (Some from) None) (le-ltb from last (omega (arith, all)))
  none_wrong last from (suc n) [] e all = absurd (cc)
  none_wrong last from zero (b ∷ bears) e all = absurd (cc)
  none_wrong last from (suc n) (b ∷ bears) e all =
      let here : b.position ≡ from = cc in
      let tails : map position_of bears ≡ range_with_len (from + 1) n = cc in
      let low : nat_lt b.position from ≡ false = le-ltb b.position from (omega (arith, here)) in
      let high : nat_le last from ≡ false = lt-leb last from (omega (arith, all)) in
      let near : nat_lt from b.position ≡ false = le-ltb from b.position (omega (arith, here)) in
      ap (λ t. cond (t || nat_le last from) (Some b.position)
      (cond (nat_lt from b.position || false) (Some from) (first_wrong (from + 1) last bears (map (λ b. true) bears)))) low
      ∙ ap (λ t. cond t (Some b.position) (cond (nat_lt from b.position || false) (Some from) (first_wrong (from + 1) last bears (map (λ b. true) bears)))) high
      ∙ ap (λ t. cond (t || false) (Some from) (first_wrong (from + 1) last bears (map (λ b. true) bears))) near
      ∙ none_wrong last (from + 1) n bears tails (omega (arith, all))

rise_row : (from n : ℕ) (bears : List Bearer) → map position_of bears ≡ range_with_len from n → AreRising position_of bears
rise_row from n bears e = rising_of position_of bears (subst IsStrictlyIncreasing (sym e) (row_rises from n))

right_bears : (i : Image) (c : Certificate) (o : Option StartRecord) → head i ≡ o → AreBearers o (records i) (end i) c.bears → c.end ≡ end i
    → (p : ℕ) → is_borne_right o (records i) c.end p (said_of position_of c.bears p) ≡ true
right_bears i c None is bears end-is p = ap (λ xs. not (is_some (said_of position_of xs p))) (no_positions c.bears bears.positions) where
  no_positions : (xs : List Bearer) → map position_of xs ≡ [] → xs ≡ []
  no_positions [] e = refl
  no_positions (x ∷ xs) e = absurd (cc)
right_bears i c (Some h) is bears end-is p =
    let from_front : h.front ≤ end i = (end_is_end i h is).from_front in
    let told = least_wrong h (records i) c.end h.front c.bears (map (λ b. true) c.bears) (rise_row h.front (end i - h.front) c.bears bears.positions)
    (all_flags h (records i) c.end h.front (end i - h.front) c.bears bears.positions (bears.named h refl)) in
    subst (Tells h (records i) c.end (right_from h (records i) c.end h.front c.bears))
    (none_wrong h (records i) c.end h.front (end i - h.front) c.bears bears.positions (omega (arith, end-is, from_front))) told p

right_end : (i : Image) (c : Certificate) (o : Option StartRecord) → head i ≡ o → c.end ≡ end i → may_end o (records i) c.end ≡ true
right_end i c None is end-is = ap (λ p. p == 0) (end-is ∙ no_head_end_is i is)
right_end i c (Some h) is end-is =
    ap (λ p. nat_le h.front p && not (is_borne (records i) h p)) end-is
    ∙ and_both (nat_le h.front (end i)) (not (is_borne (records i) h (end i))) (le-leb h.front (end i) (end_is_end i h is).from_front)
    (ap not (unborne_end (records i) h (end i) (end_is_end i h is)))

pub not_refused : (i : Image) (c : Certificate) (e : CheckErr) → IsRight i c → Refuses i c e → e ≡ errors.Memory
not_refused i c (errors.Line line) right why = absurd (why.other (ap (λ xs. said_of (λ e. e.line) xs line) (sym right.lines)))
not_refused i c errors.Head right why = absurd (why.1 right.head_is)
not_refused i c (errors.Bearer p) right why = absurd (true≢false (sym (right_bears i c (head i) refl right.bears right.end_is p) ∙ why.2.wrong))
not_refused i c errors.End right why = absurd (true≢false (sym (right_end i c (head i) refl right.end_is) ∙ why.3))
not_refused i c (errors.Winner lba) right why = absurd (why.4.other (ap (λ xs. said_of (λ w. w.lba) xs lba) (sym right.wins)))
not_refused i c (errors.Live line) right why = absurd (why.5.other (ap (λ xs. said_of (λ l. l.line) xs line) (sym right.lives)))
not_refused i c errors.Memory right why = refl

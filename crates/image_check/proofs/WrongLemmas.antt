-- The least position whose bearer is wrong.
use Rattle.std.proofs.Common.{◌≡◌, ◌≢◌, ◌⊎◌, ℕ, ◌+◌, ◌<◌, ◌≤◌, ◌==◌, ◌&&◌, ◌||◌, not, nat_le, nat_lt, if◌then◌else◌, suc, inl, inr, Bool, true, false, cond, List, [], ◌∷◌, length, get_or, Option, Some, None, refl, sym, ap, ◌∙◌, subst, arith, add-zero, drop}
use Rattle.std.specs.List.{list_any, slice_get}
use Rattle.std.specs.Option.{is_some, option_map_or}
use Rattle.std.proofs.lemmas.Option.{same_Some, slice_get-get_or}
use Rattle.std.proofs.lemmas.Bool.{le-leb, leb-true, lt-leb, lt-ltb, le-ltb, eq-eqb, ne_eqb, cases_lt}
use Rattle.pblk_model.proofs.Parts.{drop_at, drop_past}
use Rattle.pblk_model.proofs.Tests.{and_false, either_false, le_of_lt_false, not_true, or_right, second_of}
use native.Mathlib.Decide.{ℕ_discrete}
use Rattle.pblk_model.specs.StartRecord.{StartRecord}
use Rattle.pblk_model.specs.Records.{Record}
use Rattle.image_check.specs.declared.certificate.Bearer.{Bearer}
use Rattle.image_check.specs.Bearers.{first_wrong}
use Rattle.image_check.specs.Right.{IsLeastWrong, is_named, said_of}
use Rattle.image_check.proofs.CompareLemmas.{none_said}
use Rattle.image_check.proofs.Rises.{AreRising}

abbrev position_of : Bearer → ℕ
position_of b = b.position

abbrev bears_of : List Bearer → ℕ → Option Bearer
bears_of bears p = said_of position_of bears p

module _ (h : StartRecord) (rs : List Record) (last : ℕ) where
  -- whether what is said of a position is right, where the positions that need a bearer begin here
  abbrev pub right_said : ℕ → ℕ → Option Bearer → Bool
  right_said from p said = if nat_le from p && nat_lt p last then option_map_or (λ b. list_any (is_named h b) rs) said false else not (is_some said)

  abbrev pub right_from : ℕ → List Bearer → ℕ → Bool
  right_from from bears p = right_said from p (bears_of bears p)

  -- the flags say of each bearer whether it stands at its place and names a record
  abbrev pub AreFlags : ℕ → List Bearer → List Bool → Type 0
  AreFlags p [] [] = Unit {0}
  AreFlags p [] (s ∷ seen) = ⊥
  AreFlags p (b ∷ bears) [] = ⊥
  AreFlags p (b ∷ bears) (s ∷ seen) = (s ≡ ((b.position == p) && list_any (is_named h b) rs)) × AreFlags (p + 1) bears seen

  in_range : (from p : ℕ) (said : Option Bearer) → from ≤ p → p < last → right_said from p said ≡ option_map_or (λ b. list_any (is_named h b) rs) said false
  in_range from p said low high = ap (λ x. cond x (option_map_or (λ b. list_any (is_named h b) rs) said false) (not (is_some said)))
      (ap (λ x. x && nat_lt p last) (le-leb from p low) ∙ lt-ltb p last high)

  below_range : (from p : ℕ) (said : Option Bearer) → p < from → right_said from p said ≡ not (is_some said)
  below_range from p said low = ap (λ x. cond (x && nat_lt p last) (option_map_or (λ b. list_any (is_named h b) rs) said false) (not (is_some said)))
      (lt-leb from p low)

  past_range : (from p : ℕ) (said : Option Bearer) → last ≤ p → right_said from p said ≡ not (is_some said)
  past_range from p said high = ap (λ x. cond x (option_map_or (λ b. list_any (is_named h b) rs) said false) (not (is_some said)))
      (and_false (nat_le from p) (nat_lt p last) (le-ltb p last high))

  out_of_range : (from p : ℕ) (said : Option Bearer) → last ≤ from → right_said from p said ≡ not (is_some said)
  out_of_range from p said none = elim (cases_lt p from) [
    | inl less ↦ below_range from p said less
    | inr most ↦ past_range from p said (omega arith)
  ]

  not_said : (o : Option Bearer) → o ≡ None → not (is_some o) ≡ true
  not_said o none = ap (λ x. not (is_some x)) none

  is_said : (o : Option Bearer) (b : Bearer) → o ≡ Some b → not (is_some o) ≡ false
  is_said o b some = ap (λ x. not (is_some x)) some

  here : (b : Bearer) (bears : List Bearer) (p : ℕ) → b.position ≡ p → bears_of (b ∷ bears) p ≡ Some b
  here b bears p same = ap (λ x. cond x (Some b) (bears_of bears p)) (eq-eqb b.position p same)

  later : (b : Bearer) (bears : List Bearer) (p : ℕ) → b.position ≢ p → bears_of (b ∷ bears) p ≡ bears_of bears p
  later b bears p other = ap (λ x. cond x (Some b) (bears_of bears p)) (ne_eqb b.position p other)

  none_before : (b : Bearer) (bears : List Bearer) (p : ℕ) → AreRising position_of (b ∷ bears) → p < b.position → bears_of (b ∷ bears) p ≡ None
  none_before b bears p rising below = later b bears p (λ e. omega arith) ∙ none_said position_of b.position p bears rising.0 (omega arith)

  -- The cases of the first bearer.

  pub too_low : (from : ℕ) (b : Bearer) (bears : List Bearer) → AreRising position_of (b ∷ bears) → b.position < from
      → IsLeastWrong (right_from from (b ∷ bears)) b.position
  too_low from b bears rising low = record {
    wrong = below_range from b.position (bears_of (b ∷ bears) b.position) low ∙ is_said (bears_of (b ∷ bears) b.position) b (here b bears b.position refl);
    least = λ m less. below_range from m (bears_of (b ∷ bears) m) (omega arith) ∙ not_said (bears_of (b ∷ bears) m) (none_before b bears m rising less);
  }

  pub too_high : (from : ℕ) (b : Bearer) (bears : List Bearer) → AreRising position_of (b ∷ bears) → last ≤ from
      → IsLeastWrong (right_from from (b ∷ bears)) b.position
  too_high from b bears rising high = record {
    wrong = out_of_range from b.position (bears_of (b ∷ bears) b.position) high ∙ is_said (bears_of (b ∷ bears) b.position) b (here b bears b.position refl);
    least = λ m less. out_of_range from m (bears_of (b ∷ bears) m) high ∙ not_said (bears_of (b ∷ bears) m) (none_before b bears m rising less);
  }

  pub left_out : (from : ℕ) (b : Bearer) (bears : List Bearer) → AreRising position_of (b ∷ bears) → from < last → from < b.position
      → IsLeastWrong (right_from from (b ∷ bears)) from
  left_out from b bears rising high above = record {
    wrong = in_range from from (bears_of (b ∷ bears) from) (omega arith) high
        ∙ ap (λ o. option_map_or (λ b. list_any (is_named h b) rs) o false) (none_before b bears from rising above);
    least = λ m less. below_range from m (bears_of (b ∷ bears) m) less ∙ not_said (bears_of (b ∷ bears) m) (none_before b bears m rising (omega arith));
  }

  pub not_named : (from : ℕ) (b : Bearer) (bears : List Bearer) → AreRising position_of (b ∷ bears) → from < last → b.position ≡ from
      → list_any (is_named h b) rs ≡ false → IsLeastWrong (right_from from (b ∷ bears)) from
  not_named from b bears rising high same none = record {
    wrong = in_range from from (bears_of (b ∷ bears) from) (omega arith) high
        ∙ ap (λ o. option_map_or (λ b. list_any (is_named h b) rs) o false) (here b bears from same) ∙ none;
    least = λ m less. below_range from m (bears_of (b ∷ bears) m) less ∙ not_said (bears_of (b ∷ bears) m) (none_before b bears m rising (omega arith));
  }

  -- a right one changes nothing of the others
  pub same_right : (from : ℕ) (b : Bearer) (bears : List Bearer) → AreRising position_of (b ∷ bears) → from < last → b.position ≡ from
      → list_any (is_named h b) rs ≡ true → (p : ℕ) → right_from from (b ∷ bears) p ≡ right_from (from + 1) bears p
  same_right from b bears rising high same named p = by_place (ℕ_discrete p from) where
    by_place : Dec (p ≡ from) → right_from from (b ∷ bears) p ≡ right_from (from + 1) bears p
    by_place (yes e) = in_range from p (bears_of (b ∷ bears) p) (omega arith) (omega arith)
        ∙ ap (λ o. option_map_or (λ b. list_any (is_named h b) rs) o false) (here b bears p (same ∙ sym e)) ∙ named
        ∙ sym (below_range (from + 1) p (bears_of bears p) (omega arith)
        ∙ not_said (bears_of bears p) (none_said position_of b.position p bears rising.0 (omega (arith, e, same))))
    by_place (no other) = by_order (cases_lt p from) where
      apart : bears_of (b ∷ bears) p ≡ bears_of bears p
      apart = later b bears p (λ e. other (sym e ∙ same))

      above_next : from ≤ p → from + 1 ≤ p
      above_next most = elim (cases_lt from p) [
        | inl less ↦ omega arith
        | inr equal ↦ absurd (other (omega arith))
      ]

      by_order : (p < from) ⊎ (from ≤ p) → right_from from (b ∷ bears) p ≡ right_from (from + 1) bears p
      by_order (inl less) = below_range from p (bears_of (b ∷ bears) p) less ∙ ap (λ o. not (is_some o)) apart
          ∙ sym (below_range (from + 1) p (bears_of bears p) (omega arith))
      by_order (inr most) = ap (right_said from p) apart
          ∙ ap (λ x. cond (x && nat_lt p last) (option_map_or (λ b. list_any (is_named h b) rs) (bears_of bears p) false)
          (not (is_some (bears_of bears p)))) (le-leb from p most ∙ sym (le-leb (from + 1) p (above_next most)))

  -- The least one, if there is one.
  abbrev pub Tells : (ℕ → Bool) → Option ℕ → Type 0
  Tells right None = (p : ℕ) → right p ≡ true
  Tells right (Some n) = IsLeastWrong right n

  last_wrong : (from : ℕ) → from < last → IsLeastWrong (right_from from []) from
  last_wrong from high = record {
    wrong = in_range from from None (omega arith) high;
    least = λ m less. below_range from m None less;
  }

  all_passed : (from : ℕ) → last ≤ from → (p : ℕ) → right_from from [] p ≡ true
  all_passed from none p = out_of_range from p None none

  none_left : (from : ℕ) → Tells (right_from from []) (cond (nat_lt from last) (Some from) None)
  none_left from = elim (cases_lt from last) [
    | inl less ↦ subst (λ b. Tells (right_from from []) (cond b (Some from) None)) (sym (lt-ltb from last less)) (last_wrong from less)
    | inr most ↦ subst (λ b. Tells (right_from from []) (cond b (Some from) None)) (sym (le-ltb from last most)) (all_passed from most)
  ]

  lt_of_le_false : (a b : ℕ) → nat_le a b ≡ false → b < a
  lt_of_le_false a b fails = elim (cases_lt b a) [
    | inl less ↦ less
    | inr most ↦ (let both : true ≡ false = sym (le-leb a b most) ∙ fails in absurd (cc))
  ]

  not_false : (a : Bool) → not a ≡ false → a ≡ true
  not_false true e = refl
  not_false false e = absurd (cc)

  wrong_place : (from : ℕ) (b : Bearer) (bears : List Bearer) → AreRising position_of (b ∷ bears) → nat_lt b.position from || nat_le last from ≡ true
      → IsLeastWrong (right_from from (b ∷ bears)) b.position
  wrong_place from b bears rising holds = elim (cases_lt b.position from) [
    | inl less ↦ too_low from b bears rising less
    | inr most ↦ too_high from b bears rising (leb-true last from (sym (ap (λ x. x || nat_le last from) (le-ltb b.position from most)) ∙ holds))
  ]

  pub right_place : (from : ℕ) (b : Bearer) → nat_lt b.position from || nat_le last from ≡ false → (from ≤ b.position) × (from < last)
  right_place from b fails =
      let parts = either_false (nat_lt b.position from) (nat_le last from) fails in
      (le_of_lt_false b.position from parts.0, lt_of_le_false last from parts.1)

  wrong_bearer : (from : ℕ) (b : Bearer) (bears : List Bearer) (s : Bool) → AreRising position_of (b ∷ bears) → from ≤ b.position → from < last
      → s ≡ ((b.position == from) && list_any (is_named h b) rs) → nat_lt from b.position || not s ≡ true → IsLeastWrong (right_from from (b ∷ bears)) from
  wrong_bearer from b bears s rising low high flag holds = elim (cases_lt from b.position) [
    | inl less ↦ left_out from b bears rising high less
    | inr most ↦ (let same : b.position ≡ from = omega arith in
        let unseen : not s ≡ true = sym (ap (λ x. x || not s) (le-ltb from b.position most)) ∙ holds in
        not_named from b bears rising high same (sym (ap (λ x. x && list_any (is_named h b) rs) (eq-eqb b.position from same)) ∙ sym flag ∙ not_true s unseen))
  ]

  pub right_bearer : (from : ℕ) (b : Bearer) (s : Bool) → from ≤ b.position → s ≡ ((b.position == from) && list_any (is_named h b) rs)
      → nat_lt from b.position || not s ≡ false → (b.position ≡ from) × (list_any (is_named h b) rs ≡ true)
  right_bearer from b s low flag fails =
      let parts = either_false (nat_lt from b.position) (not s) fails in
      let most : b.position ≤ from = le_of_lt_false from b.position parts.0 in
      let seen : (b.position == from) && list_any (is_named h b) rs ≡ true = sym flag ∙ not_false s parts.1 in
      (omega arith, second_of (b.position == from) (list_any (is_named h b) rs) seen)

  pub least_wrong : (from : ℕ) (bears : List Bearer) (seen : List Bool) → AreRising position_of bears → AreFlags from bears seen
      → Tells (right_from from bears) (first_wrong from last bears seen)
  least_wrong from [] seen rising flags = none_left from
  least_wrong from (b ∷ bears) [] rising flags = absurd flags
  least_wrong from (b ∷ bears) (s ∷ seen) rising flags =
      by_place (least_wrong (from + 1) bears seen rising.1 flags.1) (nat_lt b.position from || nat_le last from) refl where
        moved : (o : Option ℕ) → ((p : ℕ) → right_from from (b ∷ bears) p ≡ right_from (from + 1) bears p) → Tells (right_from (from + 1) bears) o
            → Tells (right_from from (b ∷ bears)) o
        moved None same all = λ p. same p ∙ all p
        moved (Some n) same least = record { wrong = same n ∙ least.wrong; least = λ m less. same m ∙ least.least m less }

        by_bearer : from ≤ b.position → from < last → Tells (right_from (from + 1) bears) (first_wrong (from + 1) last bears seen) → (t : Bool)
            → nat_lt from b.position || not s ≡ t
            → Tells (right_from from (b ∷ bears)) (cond t (Some from) (first_wrong (from + 1) last bears seen))
        by_bearer low high after true holds = wrong_bearer from b bears s rising low high flags.0 holds
        by_bearer low high after false fails =
            let k = right_bearer from b s low flags.0 fails in
            moved (first_wrong (from + 1) last bears seen) (same_right from b bears rising high k.0 k.1) after

        by_place : Tells (right_from (from + 1) bears) (first_wrong (from + 1) last bears seen) → (t : Bool) → nat_lt b.position from || nat_le last from ≡ t
            → Tells (right_from from (b ∷ bears))
            (cond t (Some b.position) (cond (nat_lt from b.position || not s) (Some from) (first_wrong (from + 1) last bears seen)))
        by_place after true holds = wrong_place from b bears rising holds
        by_place after false fails = let k = right_place from b fails in by_bearer k.0 k.1 after (nat_lt from b.position || not s) refl

  -- the flags of a table
  pub flags_of : (from : ℕ) (bears : List Bearer) (seen : List Bool) → length seen ≡ length bears
      → ((k : ℕ) (b : Bearer) → slice_get bears k ≡ Some b → slice_get seen k ≡ Some ((b.position == from + k) && list_any (is_named h b) rs))
      → AreFlags from bears seen
  flags_of from [] [] long each = tt
  flags_of from [] (s ∷ seen) long each = absurd (omega (arith, long))
  flags_of from (b ∷ bears) [] long each = absurd (omega (arith, long))
  flags_of from (b ∷ bears) (s ∷ seen) long each = (
    same_Some s ((b.position == from) && list_any (is_named h b) rs)
        (each 0 b refl ∙ ap (λ n. Some ((b.position == n) && list_any (is_named h b) rs)) (add-zero from)),
    flags_of (from + 1) bears seen (omega (arith, long)) (λ k x there.
        (let place : from + suc k ≡ from + 1 + k = omega arith in
        each (suc k) x there ∙ ap (λ n. Some ((x.position == n) && list_any (is_named h x) rs)) place)),
  )

-- One bearer more.
pub wrong_step : (from last k : ℕ) (bears : List Bearer) (seen : List Bool) (b : Bearer) (s : Bool) → slice_get bears k ≡ Some b → slice_get seen k ≡ Some s
    → first_wrong (from + k) last (drop k bears) (drop k seen)
    ≡ cond (nat_lt b.position (from + k) || nat_le last (from + k)) (Some b.position)
    (cond (nat_lt (from + k) b.position || not s) (Some (from + k)) (first_wrong (from + k + 1) last (drop (k + 1) bears) (drop (k + 1) seen)))
wrong_step from last k bears seen b s there flag =
    ap (λ xs. first_wrong (from + k) last xs (drop k seen)) (drop_at bears k b there)
    ∙ ap (first_wrong (from + k) last (b ∷ drop (k + 1) bears)) (drop_at seen k s flag)

pub wrong_end : (from last : ℕ) (bears : List Bearer) (seen : List Bool) (k : ℕ) → length bears ≤ k
    → first_wrong (from + k) last (drop k bears) (drop k seen) ≡ cond (nat_lt (from + k) last) (Some (from + k)) None
wrong_end from last bears seen k past = ap (λ xs. first_wrong (from + k) last xs (drop k seen)) (drop_past bears k past)

abbrev no_bearer : Bearer
no_bearer = record { position = 0; line = 0; at = 0 }

module _ (from last k : ℕ) (bears : List Bearer) (seen : List Bool) (o : Option ℕ) (place : k < length bears) (flagged : k < length seen)
    (now : first_wrong (from + k) last (drop k bears) (drop k seen) ≡ o) where
  abbrev b : Bearer
  b = get_or bears k no_bearer

  abbrev s : Bool
  s = get_or seen k false

  step : cond (nat_lt b.position (from + k) || nat_le last (from + k)) (Some b.position)
      (cond (nat_lt (from + k) b.position || not s) (Some (from + k)) (first_wrong (from + k + 1) last (drop (k + 1) bears) (drop (k + 1) seen))) ≡ o
  step = sym (wrong_step from last k bears seen b s (slice_get-get_or bears k no_bearer place) (slice_get-get_or seen k false flagged)) ∙ now

  abbrev after : Option ℕ
  after = cond (nat_lt (from + k) b.position || not s) (Some (from + k)) (first_wrong (from + k + 1) last (drop (k + 1) bears) (drop (k + 1) seen))

  pub step_out : (b.position < from + k) ⊎ (last ≤ from + k) → Some b.position ≡ o
  step_out (inl less) = sym (ap (λ t. cond (t || nat_le last (from + k)) (Some b.position) after) (lt-ltb b.position (from + k) less)) ∙ step
  step_out (inr most) = sym (ap (λ t. cond t (Some b.position) after)
      (or_right (nat_lt b.position (from + k)) (nat_le last (from + k)) (le-leb last (from + k) most))) ∙ step

  module _ (low : from + k ≤ b.position) (high : from + k < last) where
    inside : after ≡ o
    inside = sym (ap (λ t. cond t (Some b.position) after)
        (ap (λ t. t || nat_le last (from + k)) (le-ltb b.position (from + k) low) ∙ lt-leb last (from + k) high)) ∙ step

    abbrev rest : Option ℕ
    rest = first_wrong (from + k + 1) last (drop (k + 1) bears) (drop (k + 1) seen)

    pub step_off : (from + k < b.position) ⊎ (s ≡ false) → Some (from + k) ≡ o
    step_off (inl less) = sym (ap (λ t. cond (t || not s) (Some (from + k)) rest) (lt-ltb (from + k) b.position less)) ∙ inside
    step_off (inr unseen) = sym (ap (λ t. cond t (Some (from + k)) rest) (or_right (nat_lt (from + k) b.position) (not s) (ap not unseen))) ∙ inside

    pub step_on : b.position ≤ from + k → s ≡ true → first_wrong (from + (k + 1)) last (drop (k + 1) bears) (drop (k + 1) seen) ≡ o
    step_on most seen-it =
        let next : from + (k + 1) ≡ from + k + 1 = omega arith in
        ap (λ n. first_wrong n last (drop (k + 1) bears) (drop (k + 1) seen)) next
        ∙ sym (ap (λ t. cond t (Some (from + k)) rest) (ap (λ t. t || not s) (le-ltb (from + k) b.position most) ∙ ap not seen-it)) ∙ inside

pub step_end : (from last k n : ℕ) (bears : List Bearer) (seen : List Bool) (o : Option ℕ) → n ≡ length bears → k ≡ length bears
    → first_wrong (from + k) last (drop k bears) (drop k seen) ≡ o → cond (nat_lt (from + n) last) (Some (from + n)) None ≡ o
step_end from last k n bears seen o all here now =
    ap (λ m. cond (nat_lt (from + m) last) (Some (from + m)) None) (all ∙ sym here) ∙ sym (wrong_end from last bears seen k (omega (arith, here))) ∙ now

-- The rows of the units and the lines agree, whatever is placed and answered.
use Rattle.std.proofs.Common.{◌≡◌, ◌≢◌, ◌⊎◌, inl, inr, ℕ, zero, suc, ◌<◌, Bool, true, false, cond, Some, List, [], ◌∷◌, ◌++◌, length, refl, sym, ap, subst, ◌∙◌, arith, length-set}
use Rattle.std.specs.Prelude.{map, nat_eq}
use Rattle.std.specs.List.{slice_get, slice_set, slice_index_or, filter, AllByRecursion, All}
use Rattle.std.proofs.lemmas.Bool.{eqb-true, eqb-false}
use Rattle.std.proofs.lemmas.Option.{same_Some}
use Rattle.stripe_placer.specs.OpenLines.{Stripe, OpenLine, in_line, with_stripe}
use Rattle.stripe_placer.specs.OpenLines.Stripe.{Unanswered}
use Rattle.stripe_placer.specs.Inside.{IsAmongLines, IsUnanswered, AreApart}
use Rattle.stripe_placer.proofs.Chunks.{same_eq, other_eq}
use Rattle.stripe_placer.proofs.Rows.{get_is}
use Rattle.pblk_model.proofs.Parts.{got_else, got_here}

-- ---- a line with another outcome of one stripe

pub in_line_same : (l : OpenLine) (line j : ℕ) (to : Stripe) → l.line ≡ line → in_line line j to l ≡ with_stripe l j to
in_line_same l line j to e = ap (λ b. cond b (with_stripe l j to) l) (ap (λ n. nat_eq n line) e ∙ same_eq line)

pub in_line_other : (l : OpenLine) (line j : ℕ) (to : Stripe) → l.line ≢ line → in_line line j to l ≡ l
in_line_other l line j to e = ap (λ b. cond b (with_stripe l j to) l) (other_eq l.line line e)

-- it has the number, the units and as many stripes as before
pub in_line_keeps : (l : OpenLine) (line j : ℕ) (to : Stripe)
    → ((in_line line j to l).line ≡ l.line) × ((in_line line j to l).online ≡ l.online) × (length (in_line line j to l).stripes ≡ length l.stripes)
in_line_keeps l line j to = elim (nat_eq l.line line) as
    (λ b. ((cond b (with_stripe l j to) l).line ≡ l.line) × ((cond b (with_stripe l j to) l).online ≡ l.online)
    × (length (cond b (with_stripe l j to) l).stripes ≡ length l.stripes)) [
      | true ↦ (refl, refl, length-set l.stripes j to)
      | false ↦ (refl, refl, refl)
    ]

-- of a stripe that isn't answered then: it wasn't before, or it is the one that was changed
pub in_line_unanswered : (l : OpenLine) (line j i : ℕ) (to : Stripe) → IsUnanswered (in_line line j to l) i → IsUnanswered l i ⊎ ((l.line ≡ line) × (i ≡ j))
in_line_unanswered l line j i to waits = elim (nat_eq l.line line) as
    (λ b. nat_eq l.line line ≡ b → IsUnanswered (cond b (with_stripe l j to) l) i → IsUnanswered l i ⊎ ((l.line ≡ line) × (i ≡ j))) [
      | true ↦ λ e h. elim (nat_eq i j) as (λ b. nat_eq i j ≡ b → IsUnanswered l i ⊎ ((l.line ≡ line) × (i ≡ j))) [
        | true ↦ λ f. inr (eqb-true l.line line e, eqb-true i j f)
        | false ↦ λ f. inl (sym (got_else l.stripes j i to (eqb-false i j f)) ∙ h)
      ] refl
      | false ↦ λ e h. inl h
    ] refl waits

-- a stripe that wasn't answered isn't, but for the one that was changed
pub in_line_waits : (l : OpenLine) (line j i : ℕ) (to : Stripe) → IsUnanswered l i → ((l.line ≡ line) → (i ≡ j) → to ≡ Unanswered)
    → IsUnanswered (in_line line j to l) i
in_line_waits l line j i to waits kept = elim (nat_eq l.line line) as (λ b. nat_eq l.line line ≡ b → IsUnanswered (cond b (with_stripe l j to) l) i) [
  | true ↦ λ e. elim (nat_eq i j) as (λ b. nat_eq i j ≡ b → slice_get (slice_set l.stripes j to) i ≡ Some Unanswered) [
    | true ↦ λ f.
        let same : i ≡ j = eqb-true i j f in
        ap (slice_get (slice_set l.stripes j to)) same ∙ got_here l.stripes j Unanswered to (ap (slice_get l.stripes) (sym same) ∙ waits)
        ∙ ap (λ s. Some s) (kept (eqb-true l.line line e) same)
    | false ↦ λ f. got_else l.stripes j i to (eqb-false i j f) ∙ waits
  ] refl
  | false ↦ λ e. waits
] refl

-- ---- lines apart

others_mapped : (f : OpenLine → OpenLine) (lines : List OpenLine) (l : OpenLine) → ((l : OpenLine) → (f l).line ≡ l.line)
    → AllByRecursion (λ m. m.line ≢ l.line) lines → AllByRecursion (λ m. m.line ≢ (f l).line) (map f lines)
others_mapped f [] l same all = tt
others_mapped f (m ∷ lines) l same all = (λ e. all.0 (sym (same m) ∙ e ∙ same l), others_mapped f lines l same all.1)

pub apart_mapped : (f : OpenLine → OpenLine) (lines : List OpenLine) → ((l : OpenLine) → (f l).line ≡ l.line) → AreApart lines → AreApart (map f lines)
apart_mapped f [] same apart = tt
apart_mapped f (l ∷ lines) same apart = (others_mapped f lines l same apart.0, apart_mapped f lines same apart.1)

others_filtered : (test : OpenLine → Bool) (lines : List OpenLine) (l : OpenLine) → AllByRecursion (λ m. m.line ≢ l.line) lines
    → AllByRecursion (λ m. m.line ≢ l.line) (filter test lines)
others_filtered test [] l all = tt
others_filtered test (m ∷ lines) l all = elim (test m) as (λ b. AllByRecursion (λ m. m.line ≢ l.line) (cond b (m ∷ filter test lines) (filter test lines))) [
  | true ↦ (all.0, others_filtered test lines l all.1)
  | false ↦ others_filtered test lines l all.1
]

pub apart_filtered : (test : OpenLine → Bool) (lines : List OpenLine) → AreApart lines → AreApart (filter test lines)
apart_filtered test [] apart = tt
apart_filtered test (l ∷ lines) apart = elim (test l) as (λ b. AreApart (cond b (l ∷ filter test lines) (filter test lines))) [
  | true ↦ (others_filtered test lines l apart.0, apart_filtered test lines apart.1)
  | false ↦ apart_filtered test lines apart.1
]

others_last : (lines : List OpenLine) (m l : OpenLine) → AllByRecursion (λ n. n.line ≢ m.line) lines → l.line ≢ m.line
    → AllByRecursion (λ n. n.line ≢ m.line) (lines ++ l ∷ [])
others_last [] m l all other = (other, tt)
others_last (n ∷ lines) m l all other = (all.0, others_last lines m l all.1 other)

pub apart_last : (lines : List OpenLine) (l : OpenLine) → AreApart lines → All (λ m. m.line ≢ l.line) lines → AreApart (lines ++ l ∷ [])
apart_last [] l apart all = (tt, tt)
apart_last (m ∷ lines) l apart all =
    let first : m.line ≢ l.line = all 0 m (omega arith) in
    (others_last lines m l apart.0 (λ e. first (sym e)), apart_last lines l apart.1 (λ k d h. all (suc k) d (omega arith)))

other_at : (lines : List OpenLine) (l m : OpenLine) (i : ℕ) → AllByRecursion (λ n. n.line ≢ l.line) lines → slice_get lines i ≡ Some m → m.line ≢ l.line
other_at [] l m i all e = absurd cc
other_at (n ∷ lines) l m zero all e = let same : n ≡ m = cc in λ f. all.0 (ap (λ (x : OpenLine). x.line) same ∙ f)
other_at (n ∷ lines) l m (suc i) all e = other_at lines l m i all.1 e

-- one number, one line
pub one_line : (lines : List OpenLine) (l m : OpenLine) (i k : ℕ) → AreApart lines → slice_get lines i ≡ Some l → slice_get lines k ≡ Some m → l.line ≡ m.line
    → l ≡ m
one_line [] l m i k apart e f same = absurd cc
one_line (n ∷ lines) l m zero zero apart e f same = same_Some l m (sym e ∙ f)
one_line (n ∷ lines) l m zero (suc k) apart e f same =
    let first : n ≡ l = cc in
    absurd (other_at lines n m k apart.0 f (sym same ∙ ap (λ (x : OpenLine). x.line) (sym first)))
one_line (n ∷ lines) l m (suc i) zero apart e f same =
    let first : n ≡ m = cc in
    absurd (other_at lines n l i apart.0 e (same ∙ ap (λ (x : OpenLine). x.line) (sym first)))
one_line (n ∷ lines) l m (suc i) (suc k) apart e f same = one_line lines l m i k apart.1 e f same

pub one_among : (lines : List OpenLine) (l m : OpenLine) → AreApart lines → IsAmongLines lines l → IsAmongLines lines m → l.line ≡ m.line → l ≡ m
one_among lines l m apart at there same = one_line lines l m at.0 there.0 apart at.1 there.1 same

-- one line changed in its place is each line changed by its number
others_same : (lines : List OpenLine) (line j : ℕ) (to : Stripe) → AllByRecursion (λ m. m.line ≢ line) lines → map (in_line line j to) lines ≡ lines
others_same [] line j to all = refl
others_same (m ∷ lines) line j to all =
    ap (λ (x : OpenLine). x ∷ map (in_line line j to) lines) (in_line_other m line j to all.0) ∙ ap (λ xs. m ∷ xs) (others_same lines line j to all.1)

pub set_is_map : (lines : List OpenLine) (i line j : ℕ) (l : OpenLine) (to : Stripe) → AreApart lines → slice_get lines i ≡ Some l → l.line ≡ line
    → slice_set lines i (with_stripe l j to) ≡ map (in_line line j to) lines
set_is_map [] i line j l to apart e same = absurd cc
set_is_map (m ∷ lines) zero line j l to apart e same =
    let first : m ≡ l = cc in
    let number : m.line ≡ line = ap (λ (x : OpenLine). x.line) first ∙ same in
    ap (λ (x : OpenLine). with_stripe x j to ∷ lines) (sym first) ∙ ap (λ (x : OpenLine). x ∷ lines) (sym (in_line_same m line j to number))
    ∙ ap (λ xs. in_line line j to m ∷ xs) (sym (others_same lines line j to (subst (λ n. AllByRecursion (λ x. x.line ≢ n) lines) number apart.0)))
set_is_map (m ∷ lines) (suc i) line j l to apart e same =
    let other : m.line ≢ line = λ f. other_at lines m l i apart.0 e (same ∙ sym f) in
    ap (λ (x : OpenLine). x ∷ slice_set lines i (with_stripe l j to)) (sym (in_line_other m line j to other))
    ∙ ap (λ xs. in_line line j to m ∷ xs) (set_is_map lines i line j l to apart.1 e same)

-- as the code finds the line and changes it
pub turned : (lines seen : List OpenLine) (i line j : ℕ) (l new : OpenLine) (to : Stripe) → AreApart lines → seen ≡ lines → i < length seen
    → ((d : OpenLine) → (slice_index_or seen i d).line ≡ line) → l ≡ slice_index_or lines i l → new ≡ with_stripe l j to
    → slice_set lines i new ≡ map (in_line line j to) lines
turned lines seen i line j l new to apart same inside number is change =
    let within : i < length lines = omega (arith, inside, ap (λ xs. length xs) same) in
    let at : slice_get lines i ≡ Some l = get_is lines i l within is in
    let its : l.line ≡ line = ap (λ (x : OpenLine). x.line) is ∙ ap (λ xs. (slice_index_or xs i l).line) (sym same) ∙ number l in
    ap (slice_set lines i) change ∙ set_is_map lines i line j l to apart at its

-- What a slot counts, when another thing becomes of a stripe.
use Rattle.std.proofs.Common.{◌≡◌, ℕ, ◌+◌, ◌-◌, ◌<◌, ◌≤◌, Bool, true, false, not, Some, List, length, take, drop, refl, sym, ap, ◌∙◌, arith}
use Rattle.std.specs.Prelude.{nat_lt}
use Rattle.std.specs.List.{slice_get, slice_set}
use Rattle.stripe_placer.specs.OpenLines.{Stripe, is_landed, is_unanswered, is_lost}
use Rattle.stripe_placer.specs.OpenLines.Stripe.{Unplaced, Unanswered, Landed, Lost}
use Rattle.stripe_placer.specs.Slots.{tally, KeepsCounts}
use Rattle.stripe_placer.proofs.Chunks.{lt_of}
use Rattle.stripe_placer.proofs.Tallies.{one, tally_set, tally_first, tally_part, tally_part_before, tally_part_after, take_set, tally_same, tally_some, tally_at_most, get_take, get_drop}
use Rattle.pblk_model.proofs.Tests.{le_of_lt_false}

abbrev pub is_left : Stripe → Bool
is_left s = not (is_landed s)

-- whether a stripe is one of d from s on
part_same : (test : Stripe → Bool) (xs : List Stripe) (s d j : ℕ) (old new : Stripe) → slice_get xs j ≡ Some old → test old ≡ test new
    → tally test (take d (drop s (slice_set xs j new))) ≡ tally test (take d (drop s xs))
part_same test xs s d j old new is same =
    elim (nat_lt j s) as (λ t. nat_lt j s ≡ t → tally test (take d (drop s (slice_set xs j new))) ≡ tally test (take d (drop s xs))) [
      | true ↦ λ e. tally_part_before test xs s d j new (lt_of j s e)
      | false ↦ λ e. elim (nat_lt j (s + d)) as
          (λ t. nat_lt j (s + d) ≡ t → tally test (take d (drop s (slice_set xs j new))) ≡ tally test (take d (drop s xs))) [
            | true ↦ λ f. omega (arith, tally_part test xs s d j old new (le_of_lt_false j s e) (lt_of j (s + d) f) is, ap one same)
            | false ↦ λ f. tally_part_after test xs s d j new (le_of_lt_false j (s + d) f)
          ] refl
    ] refl

first_same : (test : Stripe → Bool) (xs : List Stripe) (n j : ℕ) (old new : Stripe) → slice_get xs j ≡ Some old → test old ≡ test new
    → tally test (take n (slice_set xs j new)) ≡ tally test (take n xs)
first_same test xs n j old new is same = elim (nat_lt j n) as (λ t. nat_lt j n ≡ t → tally test (take n (slice_set xs j new)) ≡ tally test (take n xs)) [
  | true ↦ λ e. omega (arith, tally_first test xs n j old new (lt_of j n e) is, ap one same)
  | false ↦ λ e. ap (tally test) (take_set xs n j new (le_of_lt_false j n e))
] refl

pub placed_counts : (xs : List Stripe) (j sc dc a b u l : ℕ) → KeepsCounts xs sc dc a b u l → slice_get xs j ≡ Some Unplaced
    → KeepsCounts (slice_set xs j Unanswered) sc dc a b (u + 1) l
placed_counts xs j sc dc a b u l counts is = record {
  start_is = counts.start_is ∙ sym (first_same is_left xs sc j Unplaced Unanswered is refl);
  data_is = counts.data_is ∙ sym (part_same is_left xs sc dc j Unplaced Unanswered is refl);
  unanswered_is = omega (arith, counts.unanswered_is, tally_set is_unanswered xs j Unplaced Unanswered is);
  lost_is = counts.lost_is ∙ sym (tally_same is_lost xs j Unplaced Unanswered is refl);
}

-- how many are left once stripe j has landed
pub record LandsIn (j sc dc a b more-a more-b : ℕ) : Type 0 where
  pub start : j < sc → more-a ≡ a + 1
  pub start_other : sc ≤ j → more-a ≡ a
  pub part : sc ≤ j → j < sc + dc → more-b ≡ b + 1
  pub part_before : j < sc → more-b ≡ b
  pub part_after : sc + dc ≤ j → more-b ≡ b

landed_start : (xs : List Stripe) (j sc a more : ℕ) → more ≡ tally is_left (take sc xs) → slice_get xs j ≡ Some Unanswered → (j < sc → more ≡ a + 1)
    → (sc ≤ j → more ≡ a) → a ≡ tally is_left (take sc (slice_set xs j Landed))
landed_start xs j sc a more was is here other = elim (nat_lt j sc) as (λ t. nat_lt j sc ≡ t → a ≡ tally is_left (take sc (slice_set xs j Landed))) [
  | true ↦ λ e.
      let below : j < sc = lt_of j sc e in
      omega (arith, was, here below, tally_first is_left xs sc j Unanswered Landed below is)
  | false ↦ λ e.
      let above : sc ≤ j = le_of_lt_false j sc e in
      omega (arith, was, other above, ap (tally is_left) (take_set xs sc j Landed above))
] refl

landed_part : (xs : List Stripe) (j sc dc b more : ℕ) → more ≡ tally is_left (take dc (drop sc xs)) → slice_get xs j ≡ Some Unanswered
    → (sc ≤ j → j < sc + dc → more ≡ b + 1) → (j < sc → more ≡ b) → (sc + dc ≤ j → more ≡ b)
    → b ≡ tally is_left (take dc (drop sc (slice_set xs j Landed)))
landed_part xs j sc dc b more was is here before after =
    elim (nat_lt j sc) as (λ t. nat_lt j sc ≡ t → b ≡ tally is_left (take dc (drop sc (slice_set xs j Landed)))) [
      | true ↦ λ e.
          let below : j < sc = lt_of j sc e in
          omega (arith, was, before below, tally_part_before is_left xs sc dc j Landed below)
      | false ↦ λ e.
          let from : sc ≤ j = le_of_lt_false j sc e in
          elim (nat_lt j (sc + dc)) as (λ t. nat_lt j (sc + dc) ≡ t → b ≡ tally is_left (take dc (drop sc (slice_set xs j Landed)))) [
            | true ↦ λ f.
                let below : j < sc + dc = lt_of j (sc + dc) f in
                omega (arith, was, here from below, tally_part is_left xs sc dc j Unanswered Landed from below is)
            | false ↦ λ f.
                let past : sc + dc ≤ j = le_of_lt_false j (sc + dc) f in
                omega (arith, was, after past, tally_part_after is_left xs sc dc j Landed past)
          ] refl
    ] refl

pub landed_counts : (xs : List Stripe) (j sc dc a b more-a more-b u more-u l : ℕ) → KeepsCounts xs sc dc more-a more-b more-u l
    → slice_get xs j ≡ Some Unanswered → LandsIn j sc dc a b more-a more-b → more-u ≡ u + 1
    → KeepsCounts (slice_set xs j Landed) sc dc a b u l
landed_counts xs j sc dc a b more-a more-b u more-u l counts is lands fewer = record {
  start_is = landed_start xs j sc a more-a counts.start_is is lands.start lands.start_other;
  data_is = landed_part xs j sc dc b more-b counts.data_is is lands.part lands.part_before lands.part_after;
  unanswered_is = omega (arith, fewer, counts.unanswered_is, tally_set is_unanswered xs j Unanswered Landed is);
  lost_is = counts.lost_is ∙ sym (tally_same is_lost xs j Unanswered Landed is refl);
}

pub lost_counts : (xs : List Stripe) (j sc dc a b u more-u l : ℕ) → KeepsCounts xs sc dc a b more-u l → slice_get xs j ≡ Some Unanswered → more-u ≡ u + 1
    → KeepsCounts (slice_set xs j Lost) sc dc a b u (l + 1)
lost_counts xs j sc dc a b u more-u l counts is fewer = record {
  start_is = counts.start_is ∙ sym (first_same is_left xs sc j Unanswered Lost is refl);
  data_is = counts.data_is ∙ sym (part_same is_left xs sc dc j Unanswered Lost is refl);
  unanswered_is = omega (arith, fewer, counts.unanswered_is, tally_set is_unanswered xs j Unanswered Lost is);
  lost_is = omega (arith, counts.lost_is, tally_set is_lost xs j Unanswered Lost is);
}

-- what isn't answered is counted
pub some_unanswered : (xs : List Stripe) (j sc dc a b u l : ℕ) → KeepsCounts xs sc dc a b u l → slice_get xs j ≡ Some Unanswered → 1 ≤ u
some_unanswered xs j sc dc a b u l counts is = omega (arith, counts.unanswered_is, tally_some is_unanswered xs j Unanswered is refl)

pub start_left : (xs : List Stripe) (j sc dc a b u l : ℕ) → KeepsCounts xs sc dc a b u l → slice_get xs j ≡ Some Unanswered → j < sc → 1 ≤ a
start_left xs j sc dc a b u l counts is h = omega (arith, counts.start_is, tally_some is_left (take sc xs) j Unanswered (get_take xs sc j Unanswered h is) refl)

pub data_left : (xs : List Stripe) (j sc dc a b u l : ℕ) → KeepsCounts xs sc dc a b u l → slice_get xs j ≡ Some Unanswered → sc ≤ j → j < sc + dc → 1 ≤ b
data_left xs j sc dc a b u l counts is from h =
    let place : j ≡ sc + (j - sc) = omega arith in
    omega (
      arith,
      counts.data_is,
      tally_some is_left (take dc (drop sc xs)) (j - sc) Unanswered
          (get_take (drop sc xs) dc (j - sc) Unanswered (omega arith) (get_drop xs sc j (j - sc) Unanswered place is)) refl,
    )

pub few_unanswered : (xs : List Stripe) (sc dc a b u l : ℕ) → KeepsCounts xs sc dc a b u l → u ≤ length xs
few_unanswered xs sc dc a b u l counts = omega (arith, counts.unanswered_is, tally_at_most is_unanswered xs)

pub few_lost : (xs : List Stripe) (sc dc a b u l : ℕ) → KeepsCounts xs sc dc a b u l → l ≤ length xs
few_lost xs sc dc a b u l counts = omega (arith, counts.lost_is, tally_at_most is_lost xs)

-- What became of the stripes of a line, by what its chunks wait for.
use Rattle.std.proofs.Common.{◌≡◌, ◌≢◌, ◌⊎◌, inl, inr, ℕ, zero, suc, ◌+◌, ◌-◌, ◌*◌, ◌/◌, ◌%◌, ◌<◌, ◌≤◌, Bool, true, false, cond, not, ◌&&◌, Option, Some, None, List, [], ◌∷◌, length, min, refl, sym, ap, subst, ◌∙◌, arith, length-set}
use Rattle.std.specs.Prelude.{nat_lt, nat_eq}
use Rattle.std.specs.List.{slice_get, slice_set, slice_index_or}
use Rattle.std.specs.Option.{option_map_or}
use Rattle.std.proofs.lemmas.Bool.{eqb-true, eqb-false}
use Rattle.std.proofs.lemmas.Bool.Decides.{nat_tests}
use Rattle.std.proofs.lemmas.Option.{slice_get_within}
use Rattle.std.proofs.Math.Nat.{add-mod_right, add-mul-mod_self_left, mul-le-mul_right}
use Rattle.stripe_placer.specs.OpenLines.{Stripe, OpenLine, width, in_one_chunk, stripe_is, is_unplaced, is_lost, is_closed, is_to_place, next_of}
use Rattle.stripe_placer.specs.OpenLines.Stripe.{Unplaced, Unanswered, Landed, Lost}
use Rattle.stripe_placer.specs.Slots.{outcome, outcome_in, outcomes, FitsChunk, is_closed_chunk, KeepsLine}
use Rattle.stripe_placer.specs.declared.slot.Chunk.{Chunk}
use Rattle.stripe_placer.specs.declared.slot.Chunk.TheVariants as chunk
use Rattle.stripe_placer.proofs.Numbered.{get_mapped, set_mapped, found_in_range, none_in_range, IsFirst, first_is, some_in_range, no_in_range}
use Rattle.pblk_model.proofs.Maps.{length_mapped}
use Rattle.pblk_model.proofs.Tests.{and_both, and_false, le_of_lt_false, lt_true, not_before, not_true as not_not}
use Rattle.pblk_model.proofs.Numbers.{not_less}

abbrev pub chunk_of : List Chunk → ℕ → ℕ → Chunk
chunk_of chunks w j = slice_index_or chunks (j % w) chunk.Open

-- the chunks say what became of the stripes of a line
pub record Describes (l : OpenLine) (chunks : List Chunk) (w next n : ℕ) : Type 0 where
  pub stripes_are : l.stripes ≡ outcomes chunks w next n
  pub width_is : width l ≡ w
  pub some : 0 < w
  pub few : w ≤ 64
  pub next_inside : next ≤ n
  pub chunk_count : length chunks ≡ 64
  pub fit : (k : ℕ) → k < w → FitsChunk (slice_index_or chunks k chunk.Open) k w next

-- ---- tests

pub same_eq : (i : ℕ) → nat_eq i i ≡ true
same_eq i = grind (arith, nat_tests)

pub other_eq : (i j : ℕ) → i ≢ j → nat_eq i j ≡ false
other_eq i j h = grind (arith, nat_tests)

pub lt_both : (i a b : ℕ) → (i < a → i < b) → (i < b → i < a) → nat_lt i a ≡ nat_lt i b
lt_both i a b f g = elim (nat_lt i a) as (λ t. nat_lt i a ≡ t → t ≡ nat_lt i b) [
  | true ↦ λ e. let h : i < a = grind (arith, nat_tests) in sym (lt_true i b (f h))
  | false ↦ λ e. let h : a ≤ i = grind (arith, nat_tests) in sym (not_before i b (not_less i b (λ below. absurd (omega (arith, g below)))))
] refl

not_true : (b : Bool) → b ≡ true → not b ≡ false
not_true true e = refl
not_true false e = absurd cc

not_false : (b : Bool) → b ≡ false → not b ≡ true
not_false true e = absurd cc
not_false false e = refl

-- ---- chunks

pub column : (w j : ℕ) → 0 < w → j % w < w
column w j h = omega arith

got_set : (chunks : List Chunk) (k : ℕ) (c : Chunk) → k < length chunks → slice_index_or (slice_set chunks k c) k chunk.Open ≡ c
got_set [] k c h = absurd (omega arith)
got_set (x ∷ xs) zero c h = refl
got_set (x ∷ xs) (suc k) c h = got_set xs k c (omega arith)

pub chunk_set_same : (chunks : List Chunk) (w i j : ℕ) (c : Chunk) → i % w ≡ j % w → j % w < length chunks → chunk_of (slice_set chunks (j % w) c) w i ≡ c
chunk_set_same chunks w i j c same h = ap (λ k. slice_index_or (slice_set chunks (j % w) c) k chunk.Open) same ∙ got_set chunks (j % w) c h

pub got_other : (chunks : List Chunk) (k m : ℕ) (c : Chunk) → m ≢ k → slice_index_or (slice_set chunks k c) m chunk.Open ≡ slice_index_or chunks m chunk.Open
got_other [] k m c h = refl
got_other (x ∷ xs) zero zero c h = absurd (h refl)
got_other (x ∷ xs) zero (suc m) c h = refl
got_other (x ∷ xs) (suc k) zero c h = refl
got_other (x ∷ xs) (suc k) (suc m) c h = got_other xs k m c (λ e. h (omega (arith, e)))

more_rows : (w a b : ℕ) → w * a < w * b → a + 1 ≤ b
more_rows w a b h = elim (nat_lt a b) as (λ t. nat_lt a b ≡ t → a + 1 ≤ b) [
  | true ↦ λ e. grind (arith, nat_tests)
  | false ↦ λ e.
      let below : b ≤ a = grind (arith, nat_tests) in
      let rows : b * w ≤ a * w = mul-le-mul_right w below in
      absurd (omega (arith, rows))
] refl

-- stripes of one chunk are as far apart as the line is wide
pub next_in_chunk : (w i j : ℕ) → 0 < w → i % w ≡ j % w → j < i → j + w ≤ i
next_in_chunk w i j some same h =
    let i-is : w * (i / w) + i % w ≡ i = omega arith in
    let j-is : w * (j / w) + j % w ≡ j = omega arith in
    let more : j / w + 1 ≤ i / w = more_rows w (j / w) (i / w) (omega arith) in
    let rows : (j / w + 1) * w ≤ (i / w) * w = mul-le-mul_right w more in
    omega (arith, rows)

-- each stripe from one on is in the chunk of one of the next w
pub comes_round : (w next i : ℕ) → 0 < w → next ≤ i → (m : ℕ) × (next ≤ m) × (m < next + w) × (m ≤ i) × (m % w ≡ i % w)
comes_round w next i some h =
    let m = next + (i - next) % w in
    let i-is : m + w * ((i - next) / w) ≡ i = omega arith in
    let same : m % w ≡ i % w = sym (add-mul-mod_self_left m w ((i - next) / w)) ∙ ap (λ k. k % w) i-is in
    (m, omega arith, omega arith, omega arith, same)

-- ---- what became of a stripe

pub outcome_at : (chunks : List Chunk) (w next n j : ℕ) → j < n → slice_get (outcomes chunks w next n) j ≡ Some (outcome_in chunks w next j)
outcome_at chunks w next n j h = get_mapped (outcome_in chunks w next) 0 n j h ∙ ap (λ k. Some (outcome_in chunks w next k)) (omega arith)

unanswered_here : (c : Chunk) (next j : ℕ) → outcome c next j ≡ Unanswered → c ≡ chunk.Unanswered j
unanswered_here chunk.Open next j e =
    elim (nat_lt j next) as (λ b. cond b Landed Unplaced ≡ Unanswered → chunk.Open ≡ chunk.Unanswered j) [ true ↦ λ h. absurd cc | false ↦ λ h. absurd cc ] e
unanswered_here (chunk.Unanswered i) next j e = elim (nat_eq j i) as
    (λ b. nat_eq j i ≡ b → cond b Unanswered (cond (nat_lt j next) Landed Unplaced) ≡ Unanswered → chunk.Unanswered i ≡ chunk.Unanswered j) [
      | true ↦ λ t h. ap chunk.Unanswered (sym (eqb-true j i t))
      | false ↦ λ t h. elim (nat_lt j next) as
          (λ b. cond b Landed Unplaced ≡ Unanswered → chunk.Unanswered i ≡ chunk.Unanswered j) [ true ↦ λ g. absurd cc | false ↦ λ g. absurd cc ] h
    ] refl e
unanswered_here (chunk.Closed i) next j e =
    elim (nat_lt j i) as (λ b. cond b Landed (cond (nat_eq j i) Lost Unplaced) ≡ Unanswered → chunk.Closed i ≡ chunk.Unanswered j) [
      | true ↦ λ h. absurd cc
      | false ↦ λ h. elim (nat_eq j i) as
          (λ b. cond b Lost Unplaced ≡ Unanswered → chunk.Closed i ≡ chunk.Unanswered j) [ true ↦ λ g. absurd cc | false ↦ λ g. absurd cc ] h
    ] e

lost_only_closed : (c : Chunk) (next i : ℕ) → is_closed_chunk c ≡ false → is_lost (outcome c next i) ≡ false
lost_only_closed chunk.Open next i clear = elim (nat_lt i next) as (λ b. is_lost (cond b Landed Unplaced) ≡ false) [ true ↦ refl | false ↦ refl ]
lost_only_closed (chunk.Unanswered k) next i clear = elim (nat_eq i k) as (λ b. is_lost (cond b Unanswered (cond (nat_lt i next) Landed Unplaced)) ≡ false) [
  | true ↦ refl
  | false ↦ elim (nat_lt i next) as (λ b. is_lost (cond b Landed Unplaced) ≡ false) [ true ↦ refl | false ↦ refl ]
]
lost_only_closed (chunk.Closed k) next i clear = absurd cc

lost_in_closed : (k next : ℕ) → outcome (chunk.Closed k) next k ≡ Lost
lost_in_closed k next = ap (λ b. cond b Landed (cond (nat_eq k k) Lost Unplaced)) (not_before k k (omega arith)) ∙ ap (λ b. cond b Lost Unplaced) (same_eq k)

-- of stripes that were placed none is unplaced, but where its chunk is closed
placed_before : (c : Chunk) (next j : ℕ) → is_closed_chunk c ≡ false → j < next → is_unplaced (outcome c next j) ≡ false
placed_before chunk.Open next j clear h = ap (λ b. is_unplaced (cond b Landed Unplaced)) (lt_true j next h)
placed_before (chunk.Unanswered k) next j clear h = elim (nat_eq j k) as (λ b. is_unplaced (cond b Unanswered (cond (nat_lt j next) Landed Unplaced)) ≡ false) [
  | true ↦ refl
  | false ↦ ap (λ b. is_unplaced (cond b Landed Unplaced)) (lt_true j next h)
]
placed_before (chunk.Closed k) next j clear h = absurd cc

unplaced_from : (c : Chunk) (k w next j : ℕ) → is_closed_chunk c ≡ false → FitsChunk c k w next → next ≤ j → is_unplaced (outcome c next j) ≡ true
unplaced_from chunk.Open k w next j clear fit h = ap (λ b. is_unplaced (cond b Landed Unplaced)) (not_before j next h)
unplaced_from (chunk.Unanswered i) k w next j clear fit h =
    let other : j ≢ i = omega (arith, fit.1) in
    ap (λ b. is_unplaced (cond b Unanswered (cond (nat_lt j next) Landed Unplaced))) (other_eq j i other)
    ∙ ap (λ b. is_unplaced (cond b Landed Unplaced)) (not_before j next h)
unplaced_from (chunk.Closed i) k w next j clear fit h = absurd cc

-- ---- a line

pub stripe_at : (l : OpenLine) (chunks : List Chunk) (w next n j : ℕ) → Describes l chunks w next n → j < n
    → slice_get l.stripes j ≡ Some (outcome_in chunks w next j)
stripe_at l chunks w next n j d h = ap (λ xs. slice_get xs j) d.stripes_are ∙ outcome_at chunks w next n j h

pub stripe_count : (l : OpenLine) (chunks : List Chunk) (w next n : ℕ) → Describes l chunks w next n → length l.stripes ≡ n
stripe_count l chunks w next n d = ap (λ xs. length xs) d.stripes_are ∙ length_mapped (outcome_in chunks w next) 0 n

stripe_test : (l : OpenLine) (chunks : List Chunk) (w next n j : ℕ) (test : Stripe → Bool) → Describes l chunks w next n → j < n
    → stripe_is l test j ≡ test (outcome_in chunks w next j)
stripe_test l chunks w next n j test d h = ap (λ o. option_map_or test o false) (stripe_at l chunks w next n j d h)

one_chunk_test : (l : OpenLine) (chunks : List Chunk) (w next n i j : ℕ) → Describes l chunks w next n → in_one_chunk l i j ≡ nat_eq (i % w) (j % w)
one_chunk_test l chunks w next n i j d = ap (λ g. nat_eq (i % g) (j % g)) d.width_is

closed_yes : (l : OpenLine) (chunks : List Chunk) (w next n i j : ℕ) → Describes l chunks w next n → chunk_of chunks w j ≡ chunk.Closed i
    → (i % w ≡ j % w) × (i < next) → is_closed l j ≡ true
closed_yes l chunks w next n i j d is fit =
    let inside : i < n = omega (arith, fit.1, d.next_inside) in
    let chunk-is : chunk_of chunks w i ≡ chunk.Closed i = ap (λ k. slice_index_or chunks k chunk.Open) fit.0 ∙ is in
    let lost : stripe_is l is_lost i ≡ true = stripe_test l chunks w next n i is_lost d inside ∙ ap (λ c. is_lost (outcome c next i)) chunk-is
    ∙ ap is_lost (lost_in_closed i next) in
    let together : in_one_chunk l i j ≡ true = one_chunk_test l chunks w next n i j d ∙ ap (λ k. nat_eq k (j % w)) fit.0 ∙ same_eq (j % w) in
    some_in_range (λ k. stripe_is l is_lost k && in_one_chunk l k j) 0 (length l.stripes) i (omega arith) (omega (arith, stripe_count l chunks w next n d))
    (and_both (stripe_is l is_lost i) (in_one_chunk l i j) lost together)

closed_no : (l : OpenLine) (chunks : List Chunk) (w next n j : ℕ) → Describes l chunks w next n → is_closed_chunk (chunk_of chunks w j) ≡ false
    → is_closed l j ≡ false
closed_no l chunks w next n j d clear = no_in_range (λ k. stripe_is l is_lost k && in_one_chunk l k j) 0 (length l.stripes) (λ i from inside.
    let within : i < n = omega (arith, stripe_count l chunks w next n d) in
    elim (nat_eq (i % w) (j % w)) as (λ b. nat_eq (i % w) (j % w) ≡ b → (stripe_is l is_lost i && in_one_chunk l i j) ≡ false) [
      | true ↦ λ e.
          let here : chunk_of chunks w i ≡ chunk_of chunks w j = ap (λ k. slice_index_or chunks k chunk.Open) (eqb-true (i % w) (j % w) e) in
          let kept : stripe_is l is_lost i ≡ false = stripe_test l chunks w next n i is_lost d within
          ∙ lost_only_closed (chunk_of chunks w i) next i (ap is_closed_chunk here ∙ clear) in
          ap (λ b. b && in_one_chunk l i j) kept
      | false ↦ λ e. and_false (stripe_is l is_lost i) (in_one_chunk l i j) (one_chunk_test l chunks w next n i j d ∙ e)
    ] refl)

closed_by : (l : OpenLine) (chunks : List Chunk) (w next n j : ℕ) (c : Chunk) → Describes l chunks w next n → chunk_of chunks w j ≡ c
    → FitsChunk c (j % w) w next → is_closed l j ≡ is_closed_chunk c
closed_by l chunks w next n j chunk.Open d is fit = closed_no l chunks w next n j d (ap is_closed_chunk is)
closed_by l chunks w next n j (chunk.Unanswered i) d is fit = closed_no l chunks w next n j d (ap is_closed_chunk is)
closed_by l chunks w next n j (chunk.Closed i) d is fit = closed_yes l chunks w next n i j d is (fit.0, fit.1)

-- whether a chunk is closed
pub closed_is : (l : OpenLine) (chunks : List Chunk) (w next n j : ℕ) → Describes l chunks w next n → is_closed l j ≡ is_closed_chunk (chunk_of chunks w j)
closed_is l chunks w next n j d = closed_by l chunks w next n j (chunk_of chunks w j) d refl (d.fit (j % w) (column w j d.some))

-- ---- the next stripe

pub to_place_from : (l : OpenLine) (chunks : List Chunk) (w next n j : ℕ) → Describes l chunks w next n → next ≤ j → j < n
    → is_to_place l j ≡ not (is_closed_chunk (chunk_of chunks w j))
to_place_from l chunks w next n j d from h =
    elim (is_closed_chunk (chunk_of chunks w j)) as (λ b. is_closed_chunk (chunk_of chunks w j) ≡ b → is_to_place l j ≡ not b) [
      | true ↦ λ e. and_false (stripe_is l is_unplaced j) (not (is_closed l j)) (not_true (is_closed l j) (closed_is l chunks w next n j d ∙ e))
      | false ↦ λ e.
          let unplaced : stripe_is l is_unplaced j ≡ true = stripe_test l chunks w next n j is_unplaced d h
          ∙ unplaced_from (chunk_of chunks w j) (j % w) w next j e (d.fit (j % w) (column w j d.some)) from in
          and_both (stripe_is l is_unplaced j) (not (is_closed l j)) unplaced (not_false (is_closed l j) (closed_is l chunks w next n j d ∙ e))
    ] refl

pub to_place_before : (l : OpenLine) (chunks : List Chunk) (w next n j : ℕ) → Describes l chunks w next n → j < next → is_to_place l j ≡ false
to_place_before l chunks w next n j d h =
    elim (is_closed_chunk (chunk_of chunks w j)) as (λ b. is_closed_chunk (chunk_of chunks w j) ≡ b → is_to_place l j ≡ false) [
      | true ↦ λ e. and_false (stripe_is l is_unplaced j) (not (is_closed l j)) (not_true (is_closed l j) (closed_is l chunks w next n j d ∙ e))
      | false ↦ λ e.
          let inside : j < n = omega (arith, d.next_inside) in
          ap (λ b. b && not (is_closed l j)) (stripe_test l chunks w next n j is_unplaced d inside ∙ placed_before (chunk_of chunks w j) next j e h)
    ] refl

-- all chunks of the stripes from one on up to another are closed
abbrev pub ClosedBetween : List Chunk → ℕ → ℕ → ℕ → Type 0
ClosedBetween chunks w a b = (i : ℕ) → a ≤ i → i < b → is_closed_chunk (chunk_of chunks w i) ≡ true

pub lt_of : (a b : ℕ) → nat_lt a b ≡ true → a < b
lt_of a b e = grind (arith, nat_tests)

not_to_place : (l : OpenLine) (chunks : List Chunk) (w next n b i : ℕ) → Describes l chunks w next n → ClosedBetween chunks w next b → i < b → b ≤ n
    → is_to_place l i ≡ false
not_to_place l chunks w next n b i d closed h inside = elim (nat_lt i next) as (λ t. nat_lt i next ≡ t → is_to_place l i ≡ false) [
  | true ↦ λ e. to_place_before l chunks w next n i d (lt_of i next e)
  | false ↦ λ e.
      let from : next ≤ i = le_of_lt_false i next e in
      to_place_from l chunks w next n i d from (omega arith) ∙ not_true (is_closed_chunk (chunk_of chunks w i)) (closed i from h)
] refl

pub next_is : (l : OpenLine) (chunks : List Chunk) (w next n j : ℕ) → Describes l chunks w next n → next ≤ j → j < n
    → is_closed_chunk (chunk_of chunks w j) ≡ false → ClosedBetween chunks w next j → next_of l ≡ Some j
next_is l chunks w next n j d from h clear closed =
    found_in_range (is_to_place l) 0 (length l.stripes) j (omega (arith, stripe_count l chunks w next n d))
    (ap (is_to_place l) (omega arith) ∙ to_place_from l chunks w next n j d from h ∙ not_false (is_closed_chunk (chunk_of chunks w j)) clear)
    (λ i below. ap (is_to_place l) (omega arith) ∙ not_to_place l chunks w next n j i d closed below (omega arith))
    ∙ ap (λ k. Some k) (omega arith)

all_closed : (chunks : List Chunk) (w next n end : ℕ) → 0 < w → (end ≡ n) ⊎ (end ≡ next + w) → ClosedBetween chunks w next end → ClosedBetween chunks w next n
all_closed chunks w next n end some (inl e) closed i from h = closed i from (omega (arith, e))
all_closed chunks w next n end some (inr e) closed i from h =
    let m = comes_round w next i some from in
    ap (λ k. is_closed_chunk (slice_index_or chunks k chunk.Open)) (sym m.4) ∙ closed m.0 m.1 (omega (arith, m.2, e))

-- once the next w are closed, all are
pub none_is_next : (l : OpenLine) (chunks : List Chunk) (w next n end : ℕ) → Describes l chunks w next n → end ≤ n → (end ≡ n) ⊎ (end ≡ next + w)
    → ClosedBetween chunks w next end → next_of l ≡ None
none_is_next l chunks w next n end d inside reach closed =
    let all : ClosedBetween chunks w next n = all_closed chunks w next n end d.some reach closed in
    none_in_range (is_to_place l) 0 (length l.stripes)
    (λ i h. ap (is_to_place l) (omega arith) ∙ not_to_place l chunks w next n n i d all (omega (arith, stripe_count l chunks w next n d)) (omega arith))

-- what a slot keeps describes its line
pub described : (line online w sc dc n next : ℕ) (chunks : List Chunk) → KeepsLine online w sc dc n next chunks
    → Describes (record { line = line; online = online; start_count = sc; data_count = dc; stripes = outcomes chunks w next n }) chunks w next n
described line online w sc dc n next chunks keeps = record {
  stripes_are = refl;
  width_is = sym keeps.width_is;
  some = keeps.some;
  few = keeps.few;
  next_inside = keeps.next_inside;
  chunk_count = keeps.chunk_count;
  fit = keeps.chunks_fit;
}

pub one_of_two : (a b m : ℕ) → m ≡ min a b → (m ≡ a) ⊎ (m ≡ b)
one_of_two a b m e = elim (nat_lt a b) as (λ t. nat_lt a b ≡ t → (m ≡ a) ⊎ (m ≡ b)) [
  | true ↦ λ less. let h : a < b = lt_of a b less in inl (omega (arith, e))
  | false ↦ λ less. let h : b ≤ a = le_of_lt_false a b less in inr (omega (arith, e))
] refl

-- ---- a stripe is placed

-- a stripe that can be placed: all chunks of the stripes from `next` to it are closed, and all in its own have landed
pub record IsPlaceable (chunks : List Chunk) (w next n j : ℕ) : Type 0 where
  pub inside : j < n
  pub from : next ≤ j
  pub clear : chunk_of chunks w j ≡ chunk.Open
  pub before : ClosedBetween chunks w next j

placeable_chunk : (chunks : List Chunk) (w next n j : ℕ) (c : Chunk) → next ≤ j → j < n → FitsChunk c (j % w) w next → chunk_of chunks w j ≡ c
    → is_closed_chunk c ≡ false → ((i : ℕ) → c ≡ chunk.Unanswered i → (i % w ≡ j % w) × (i < next) → ⊥) → c ≡ chunk.Open
placeable_chunk chunks w next n j chunk.Open from inside fit is clear alone = refl
placeable_chunk chunks w next n j (chunk.Unanswered i) from inside fit is clear alone = absurd (alone i refl (fit.0, fit.1))
placeable_chunk chunks w next n j (chunk.Closed i) from inside fit is clear alone = absurd cc

unanswered_is : (k next : ℕ) → outcome (chunk.Unanswered k) next k ≡ Unanswered
unanswered_is k next = ap (λ b. cond b Unanswered (cond (nat_lt k next) Landed Unplaced)) (same_eq k)

not_not_true : (b : Bool) → not b ≡ false → b ≡ true
not_not_true true e = refl
not_not_true false e = absurd cc

-- the next stripe of a line can be placed where none that isn't answered is in its chunk
pub placeable : (l : OpenLine) (chunks : List Chunk) (w next n j : ℕ) → Describes l chunks w next n → next_of l ≡ Some j
    → ((i : ℕ) → slice_get l.stripes i ≡ Some Unanswered → in_one_chunk l i j ≡ false) → IsPlaceable chunks w next n j
placeable l chunks w next n j d is alone =
    let first : IsFirst (is_to_place l) 0 (length l.stripes) j = first_is (is_to_place l) 0 (length l.stripes) j is in
    let inside : j < n = omega (arith, first.inside, stripe_count l chunks w next n d) in
    let from : next ≤ j = not_less j next (λ h.
    let wrong : true ≡ false = sym first.passes ∙ to_place_before l chunks w next n j d h in
    absurd cc) in
    let open_chunk : is_closed_chunk (chunk_of chunks w j) ≡ false =
    not_not (is_closed_chunk (chunk_of chunks w j)) (sym (to_place_from l chunks w next n j d from inside) ∙ first.passes) in
    record {
      inside = inside;
      from = from;
      clear = placeable_chunk chunks w next n j (chunk_of chunks w j) from inside (d.fit (j % w) (column w j d.some)) refl open_chunk (λ i here fit.
          let within : i < n = omega (arith, fit.1, d.next_inside) in
          let there : chunk_of chunks w i ≡ chunk.Unanswered i = ap (λ k. slice_index_or chunks k chunk.Open) fit.0 ∙ here in
          let waits : slice_get l.stripes i ≡ Some Unanswered = stripe_at l chunks w next n i d within ∙ ap (λ c. Some (outcome c next i)) there
          ∙ ap (λ s. Some s) (unanswered_is i next) in
          let wrong : true ≡ false = sym (same_eq (j % w)) ∙ ap (λ k. nat_eq k (j % w)) (sym fit.0) ∙ sym (one_chunk_test l chunks w next n i j d)
          ∙ alone i waits in
          absurd cc);
      before = λ i above below. not_not_true (is_closed_chunk (chunk_of chunks w i))
          (sym (to_place_from l chunks w next n i d above (omega arith)) ∙ first.before i (omega arith) below);
    }

false_true : false ≡ true → ⊥
false_true e = absurd cc

not_between : (next j i : ℕ) → i ≢ j → i < j + 1 → (next ≤ i → i < j → ⊥) → i < next
not_between next j i apart h none = elim (nat_lt i next) as (λ t. nat_lt i next ≡ t → i < next) [
  | true ↦ λ e. lt_of i next e
  | false ↦ λ e. absurd (none (le_of_lt_false i next e) (omega arith))
] refl

-- where none of a chunk is between, it is the same whether `next` is at one end or the other
moved_on : (c : Chunk) (next j i : ℕ) → next ≤ j → i ≢ j → (next ≤ i → i < j → is_closed_chunk c ≡ true) → outcome c next i ≡ outcome c (j + 1) i
moved_on chunk.Open next j i from apart between =
    ap (λ b. cond b Landed Unplaced)
    (lt_both i next (j + 1) (λ h. omega arith) (λ h. not_between next j i apart h (λ above below. absurd (false_true (between above below)))))
moved_on (chunk.Unanswered k) next j i from apart between =
    ap (λ b. cond (nat_eq i k) Unanswered (cond b Landed Unplaced))
    (lt_both i next (j + 1) (λ h. omega arith) (λ h. not_between next j i apart h (λ above below. absurd (false_true (between above below)))))
moved_on (chunk.Closed k) next j i from apart between = refl

placed_other : (chunks : List Chunk) (w next n j i : ℕ) → j % w < length chunks → IsPlaceable chunks w next n j → i ≢ j
    → outcome_in chunks w next i ≡ outcome_in (slice_set chunks (j % w) (chunk.Unanswered j)) w (j + 1) i
placed_other chunks w next n j i h p apart =
    elim (nat_eq (i % w) (j % w)) as
    (λ b. nat_eq (i % w) (j % w) ≡ b → outcome_in chunks w next i ≡ outcome_in (slice_set chunks (j % w) (chunk.Unanswered j)) w (j + 1) i) [
      | true ↦ λ e.
          let same : i % w ≡ j % w = eqb-true (i % w) (j % w) e in
          let was : chunk_of chunks w i ≡ chunk.Open = ap (λ k. slice_index_or chunks k chunk.Open) same ∙ p.clear in
          let is : chunk_of (slice_set chunks (j % w) (chunk.Unanswered j)) w i ≡ chunk.Unanswered j =
          chunk_set_same chunks w i j (chunk.Unanswered j) same h in
          ap (λ c. outcome c next i) was
          ∙ moved_on chunk.Open next j i p.from apart (λ above below. sym (ap is_closed_chunk was) ∙ p.before i above below)
          ∙ sym (ap (λ b. cond b Unanswered (cond (nat_lt i (j + 1)) Landed Unplaced)) (other_eq i j apart))
          ∙ ap (λ c. outcome c (j + 1) i) (sym is)
      | false ↦ λ e.
          let is : chunk_of (slice_set chunks (j % w) (chunk.Unanswered j)) w i ≡ chunk_of chunks w i =
          got_other chunks (j % w) (i % w) (chunk.Unanswered j) (eqb-false (i % w) (j % w) e) in
          moved_on (chunk_of chunks w i) next j i p.from apart (p.before i) ∙ ap (λ c. outcome c (j + 1) i) (sym is)
    ] refl

pub placed_outcomes : (chunks : List Chunk) (w next n j : ℕ) → j % w < length chunks → IsPlaceable chunks w next n j
    → slice_set (outcomes chunks w next n) j Unanswered ≡ outcomes (slice_set chunks (j % w) (chunk.Unanswered j)) w (j + 1) n
placed_outcomes chunks w next n j h p =
    set_mapped (outcome_in chunks w next) (outcome_in (slice_set chunks (j % w) (chunk.Unanswered j)) w (j + 1)) 0 n j Unanswered p.inside
    (ap (outcome_in (slice_set chunks (j % w) (chunk.Unanswered j)) w (j + 1)) (omega arith)
    ∙ ap (λ c. outcome c (j + 1) j) (chunk_set_same chunks w j j (chunk.Unanswered j) refl h) ∙ unanswered_is j (j + 1))
    (λ i inside apart. ap (outcome_in chunks w next) (omega arith) ∙ placed_other chunks w next n j i h p apart
    ∙ ap (outcome_in (slice_set chunks (j % w) (chunk.Unanswered j)) w (j + 1)) (omega arith))

-- the other chunks fit on
placed_fit : (chunks : List Chunk) (w next n j k : ℕ) (c : Chunk) → 0 < w → IsPlaceable chunks w next n j → k ≢ j % w → k < w
    → slice_index_or chunks k chunk.Open ≡ c → FitsChunk c k w next → FitsChunk c k w (j + 1)
placed_fit chunks w next n j k chunk.Open some p apart inside is fit = tt
placed_fit chunks w next n j k (chunk.Unanswered i) some p apart inside is fit = (
  fit.0,
  omega (arith, fit.1, p.from),
  not_less (i + w) (j + 1) (λ h.
      let round : (i + w) % w ≡ k = add-mod_right i w ∙ fit.0 in
      elim (nat_eq (i + w) j) as (λ b. nat_eq (i + w) j ≡ b → ⊥) [
        | true ↦ λ e. apart (sym round ∙ ap (λ m. m % w) (eqb-true (i + w) j e))
        | false ↦ λ e.
            let other : i + w ≢ j = eqb-false (i + w) j e in
            let closed : is_closed_chunk (chunk_of chunks w (i + w)) ≡ true = p.before (i + w) fit.2 (omega arith) in
            let open_chunk : is_closed_chunk (chunk_of chunks w (i + w)) ≡ false = ap (λ m. is_closed_chunk (slice_index_or chunks m chunk.Open)) round
            ∙ ap is_closed_chunk is in
            false_true (sym open_chunk ∙ closed)
      ] refl),
)
placed_fit chunks w next n j k (chunk.Closed i) some p apart inside is fit = (fit.0, omega (arith, fit.1, p.from))

set_fit : (chunks : List Chunk) (w next at k : ℕ) (c : Chunk) → at < length chunks → FitsChunk c at w next
    → (k ≢ at → FitsChunk (slice_index_or chunks k chunk.Open) k w next) → FitsChunk (slice_index_or (slice_set chunks at c) k chunk.Open) k w next
set_fit chunks w next at k c h here others =
    elim (nat_eq k at) as (λ b. nat_eq k at ≡ b → FitsChunk (slice_index_or (slice_set chunks at c) k chunk.Open) k w next) [
      | true ↦ λ e.
          let same : k ≡ at = eqb-true k at e in
          subst (λ m. FitsChunk (slice_index_or (slice_set chunks at c) m chunk.Open) m w next) (sym same)
          (subst (λ (x : Chunk). FitsChunk x at w next) (sym (got_set chunks at c h)) here)
      | false ↦ λ e.
          let apart : k ≢ at = eqb-false k at e in
          subst (λ (x : Chunk). FitsChunk x k w next) (sym (got_other chunks at k c apart)) (others apart)
    ] refl

pub placed_keeps : (online w sc dc n next j : ℕ) (chunks : List Chunk) → KeepsLine online w sc dc n next chunks → IsPlaceable chunks w next n j
    → KeepsLine online w sc dc n (j + 1) (slice_set chunks (j % w) (chunk.Unanswered j))
placed_keeps online w sc dc n next j chunks keeps p =
    let at : j % w < length chunks = omega (arith, keeps.chunk_count, column w j keeps.some, keeps.few) in
    record {
      width_is = keeps.width_is;
      some = keeps.some;
      few = keeps.few;
      parts_short = keeps.parts_short;
      next_inside = omega (arith, p.inside);
      stripes_short = keeps.stripes_short;
      chunk_count = length-set chunks (j % w) (chunk.Unanswered j) ∙ keeps.chunk_count;
      chunks_fit = λ k inside. set_fit chunks w (j + 1) (j % w) k (chunk.Unanswered j) at (refl, omega arith, omega (arith, keeps.some))
          (λ apart. placed_fit chunks w next n j k (slice_index_or chunks k chunk.Open) keeps.some p apart inside refl (keeps.chunks_fit k inside));
    }

-- ---- a stripe is answered

-- a stripe that isn't answered
pub record IsWaiting (chunks : List Chunk) (w next n j : ℕ) : Type 0 where
  pub inside : j < n
  pub from : j < next
  pub last : next ≤ j + w
  pub here : chunk_of chunks w j ≡ chunk.Unanswered j

some_stripe : (a b : Stripe) → ◌≡◌ {A = Option Stripe} (Some a) (Some b) → a ≡ b
some_stripe a b e = cc

pub is_waiting : (l : OpenLine) (chunks : List Chunk) (w next n j : ℕ) → Describes l chunks w next n → slice_get l.stripes j ≡ Some Unanswered
    → IsWaiting chunks w next n j
is_waiting l chunks w next n j d is =
    let inside : j < n = omega (arith, slice_get_within l.stripes j Unanswered is, stripe_count l chunks w next n d) in
    let same : outcome_in chunks w next j ≡ Unanswered =
    some_stripe (outcome_in chunks w next j) Unanswered (sym (stripe_at l chunks w next n j d inside) ∙ is) in
    let here : chunk_of chunks w j ≡ chunk.Unanswered j = unanswered_here (chunk_of chunks w j) next j same in
    let fit : FitsChunk (chunk.Unanswered j) (j % w) w next = subst (λ (c : Chunk). FitsChunk c (j % w) w next) here (d.fit (j % w) (column w j d.some)) in
    record { inside = inside; from = fit.1; last = fit.2; here = here }

-- of its chunk's stripes those before it have landed, and none after it was placed
answered_other : (chunks : List Chunk) (w next n j i : ℕ) (c : Chunk) → j % w < length chunks → IsWaiting chunks w next n j → i ≢ j
    → (i % w ≡ j % w → outcome (chunk.Unanswered j) next i ≡ outcome c next i)
    → outcome_in chunks w next i ≡ outcome_in (slice_set chunks (j % w) c) w next i
answered_other chunks w next n j i c h p apart kept =
    elim (nat_eq (i % w) (j % w)) as (λ b. nat_eq (i % w) (j % w) ≡ b → outcome_in chunks w next i ≡ outcome_in (slice_set chunks (j % w) c) w next i) [
      | true ↦ λ e.
          let same : i % w ≡ j % w = eqb-true (i % w) (j % w) e in
          let was : chunk_of chunks w i ≡ chunk.Unanswered j = ap (λ k. slice_index_or chunks k chunk.Open) same ∙ p.here in
          let is : chunk_of (slice_set chunks (j % w) c) w i ≡ c = chunk_set_same chunks w i j c same h in
          ap (λ x. outcome x next i) was ∙ kept same ∙ ap (λ x. outcome x next i) (sym is)
      | false ↦ λ e. ap (λ x. outcome x next i) (sym (got_other chunks (j % w) (i % w) c (eqb-false (i % w) (j % w) e)))
    ] refl

answered_outcomes : (chunks : List Chunk) (w next n j : ℕ) (c : Chunk) (to : Stripe) → j % w < length chunks → IsWaiting chunks w next n j
    → outcome c next j ≡ to
    → ((i : ℕ) → i ≢ j → i % w ≡ j % w → outcome (chunk.Unanswered j) next i ≡ outcome c next i)
    → slice_set (outcomes chunks w next n) j to ≡ outcomes (slice_set chunks (j % w) c) w next n
answered_outcomes chunks w next n j c to h p here others =
    set_mapped (outcome_in chunks w next) (outcome_in (slice_set chunks (j % w) c) w next) 0 n j to p.inside
    (ap (outcome_in (slice_set chunks (j % w) c) w next) (omega arith) ∙ ap (λ x. outcome x next j) (chunk_set_same chunks w j j c refl h) ∙ here)
    (λ i inside apart. ap (outcome_in chunks w next) (omega arith) ∙ answered_other chunks w next n j i c h p apart (others i apart)
    ∙ ap (outcome_in (slice_set chunks (j % w) c) w next) (omega arith))

pub landed_outcomes : (chunks : List Chunk) (w next n j : ℕ) → j % w < length chunks → IsWaiting chunks w next n j
    → slice_set (outcomes chunks w next n) j Landed ≡ outcomes (slice_set chunks (j % w) chunk.Open) w next n
landed_outcomes chunks w next n j h p = answered_outcomes chunks w next n j chunk.Open Landed h p (ap (λ b. cond b Landed Unplaced) (lt_true j next p.from))
    (λ i apart same. ap (λ b. cond b Unanswered (cond (nat_lt i next) Landed Unplaced)) (other_eq i j apart))

before_it : (w next i j : ℕ) → 0 < w → i % w ≡ j % w → i ≢ j → i < next → next ≤ j + w → i < j
before_it w next i j some same apart below last = elim (nat_lt j i) as (λ t. nat_lt j i ≡ t → i < j) [
  | true ↦ λ e.
      let above : j < i = lt_of j i e in
      absurd (omega (arith, next_in_chunk w i j some same above))
  | false ↦ λ e. let h : i ≤ j = le_of_lt_false j i e in omega arith
] refl

pub lost_outcomes : (chunks : List Chunk) (w next n j : ℕ) → 0 < w → j % w < length chunks → IsWaiting chunks w next n j
    → slice_set (outcomes chunks w next n) j Lost ≡ outcomes (slice_set chunks (j % w) (chunk.Closed j)) w next n
lost_outcomes chunks w next n j some h p = answered_outcomes chunks w next n j (chunk.Closed j) Lost h p (lost_in_closed j next)
    (λ i apart same. ap (λ b. cond b Unanswered (cond (nat_lt i next) Landed Unplaced)) (other_eq i j apart)
    ∙ ap (λ b. cond b Landed Unplaced) (lt_both i next j (λ below. before_it w next i j some same apart below p.last) (λ below. omega (arith, p.from)))
    ∙ sym (ap (λ b. cond (nat_lt i j) Landed (cond b Lost Unplaced)) (other_eq i j apart)))

pub answered_keeps : (online w sc dc n next j : ℕ) (chunks : List Chunk) (c : Chunk) → KeepsLine online w sc dc n next chunks → FitsChunk c (j % w) w next
    → KeepsLine online w sc dc n next (slice_set chunks (j % w) c)
answered_keeps online w sc dc n next j chunks c keeps fit =
    let at : j % w < length chunks = omega (arith, keeps.chunk_count, column w j keeps.some, keeps.few) in
    record {
      width_is = keeps.width_is;
      some = keeps.some;
      few = keeps.few;
      parts_short = keeps.parts_short;
      next_inside = keeps.next_inside;
      stripes_short = keeps.stripes_short;
      chunk_count = length-set chunks (j % w) c ∙ keeps.chunk_count;
      chunks_fit = λ k inside. set_fit chunks w next (j % w) k c at fit (λ apart. keeps.chunks_fit k inside);
    }

-- a stripe that can be placed wasn't
pub unplaced_is : (chunks : List Chunk) (w next n j : ℕ) → IsPlaceable chunks w next n j → slice_get (outcomes chunks w next n) j ≡ Some Unplaced
unplaced_is chunks w next n j p = outcome_at chunks w next n j p.inside ∙ ap (λ c. Some (outcome c next j)) p.clear
    ∙ ap (λ b. Some (cond b Landed Unplaced)) (not_before j next p.from)

-- A line as it is opened.
use Rattle.std.proofs.Common.{◌≡◌, ◌≢◌, ℕ, zero, suc, ◌+◌, ◌-◌, ◌*◌, ◌/◌, ◌%◌, ◌<◌, ◌≤◌, ◌^◌, Bool, true, false, cond, List, ◌∷◌, length, take, drop, refl, sym, ap, subst, ◌∙◌, arith}
use Rattle.std.specs.Prelude.{nat_lt, map, replicate}
use Rattle.std.specs.List.{slice_index_or, range_with_len}
use Rattle.std.proofs.Math.Nat.{mul-le-mul_right, mul-le-mul_left}
use Rattle.pblk_model.specs.declared.shape.Shape.{Shape}
use Rattle.pblk_model.specs.Accepted.{IsAccepted}
use Rattle.pblk_model.specs.Shape.{units}
use Rattle.pblk_model.specs.LineOrder.{start_len, end_len, data_len}
use Rattle.pblk_layout.specs.Online.{units_in}
use Rattle.stripe_placer.specs.OpenLines.{Stripe, OpenLine, opened, is_unanswered, is_lost}
use Rattle.stripe_placer.specs.OpenLines.Stripe.{Unplaced, Landed}
use Rattle.stripe_placer.specs.Slots.{outcome, outcome_in, outcomes, tally, FitsChunk, KeepsLine, KeepsCounts}
use Rattle.stripe_placer.specs.Inside.{FitsShape}
use Rattle.stripe_placer.specs.declared.slot.Chunk.{Chunk}
use Rattle.stripe_placer.specs.declared.slot.Chunk.TheVariants as chunk
use Rattle.stripe_placer.proofs.Chunks.{lt_of}
use Rattle.stripe_placer.proofs.Tallies.{none_of_new, all_of_new}
use Rattle.stripe_placer.proofs.Counted.{is_left}
use Rattle.pblk_model.proofs.Tests.{le_of_lt_false, lt_true, not_before}
use Rattle.stripe_placer.proofs.OpenLinesLemmas.{length_new}

pub open_at : (n k : ℕ) → slice_index_or (replicate n chunk.Open) k chunk.Open ≡ chunk.Open
open_at zero k = refl
open_at (suc n) zero = refl
open_at (suc n) (suc k) = open_at n k

pub all_same : (f : ℕ → Stripe) (v : Stripe) (a n : ℕ) → ((i : ℕ) → f i ≡ v) → map f (range_with_len a n) ≡ replicate n v
all_same f v a zero h = refl
all_same f v a (suc n) h = ap (λ s. s ∷ map f (range_with_len (a + 1) n)) (h a) ∙ ap (λ xs. v ∷ xs) (all_same f v (a + 1) n h)

abbrev outcome_by : Chunk → ℕ → Stripe
outcome_by c i = outcome c 0 i

abbrev unplaced_by : Bool → Stripe
unplaced_by b = cond b Landed Unplaced

pub nothing_placed : (m w n : ℕ) → outcomes (replicate m chunk.Open) w 0 n ≡ replicate n Unplaced
nothing_placed m w n = all_same (outcome_in (replicate m chunk.Open) w 0) Unplaced 0 n
    (λ i. ap (λ (c : Chunk). outcome_by c i) (open_at m (i % w)) ∙ ap (λ b. unplaced_by b) (not_before i 0 (omega arith)))

by_room : (start end all w : ℕ) → cond (nat_lt (all - start - end) w) 0 (all - start - end) ≢ 0
    → start + cond (nat_lt (all - start - end) w) 0 (all - start - end) ≤ all
by_room start end all w some = elim (nat_lt (all - start - end) w) as (λ b. cond b 0 (all - start - end) ≢ 0 → start + cond b 0 (all - start - end) ≤ all) [
  | true ↦ λ h. absurd (h refl)
  | false ↦ λ h. omega (arith, h)
] some

pub data_and_start : (s : Shape) (g : ℕ) → data_len s g ≢ 0 → start_len s + data_len s g ≤ g * s.clba
data_and_start s g some = by_room (start_len s) (end_len s g) (g * s.clba) s.ws_opt some

pub no_data : (s : Shape) → 0 < s.ws_opt → data_len s 0 ≡ 0
no_data s h = ap (λ b. cond b 0 (0 * s.clba - start_len s - end_len s 0)) (lt_true (0 * s.clba - start_len s - end_len s 0) s.ws_opt (omega arith))

pub width_some : (s : Shape) (g : ℕ) → 0 < s.ws_opt → data_len s g ≢ 0 → 0 < g
width_some s zero h some = absurd (some (no_data s h))
width_some s (suc g) h some = omega arith

below_rows : (w a b : ℕ) → 0 < w → w * a ≤ b * w → a ≤ b
below_rows w a b some h = elim (nat_lt b a) as (λ t. nat_lt b a ≡ t → a ≤ b) [
  | true ↦ λ e.
      let above : b < a = lt_of b a e in
      let more : b + 1 ≤ a = omega arith in
      let rows : (b + 1) * w ≤ a * w = mul-le-mul_right w more in
      absurd (omega (arith, rows))
  | false ↦ λ e. le_of_lt_false b a e
] refl

-- as many stripes as blocks
pub part_count : (w a b all n : ℕ) → 0 < w → a + b ≤ all → all ≡ n * w → a / w + b / w ≤ n
part_count w a b all n some fits is =
    let first : w * (a / w) ≤ a = omega arith in
    let second : w * (b / w) ≤ b = omega arith in
    below_rows w (a / w + b / w) n some (omega (arith, is))

pub line_rows : (g clba w : ℕ) → clba % w ≡ 0 → g * clba ≡ (g * (clba / w)) * w
line_rows g clba w whole =
    let rows : clba ≡ w * (clba / w) = omega (arith, whole) in
    ap (λ k. g * k) rows ∙ omega arith

take_new : (n k : ℕ) → k ≤ n → take k (replicate n Unplaced) ≡ replicate k Unplaced
take_new n zero h = refl
take_new zero (suc k) h = absurd (omega arith)
take_new (suc n) (suc k) h = ap (λ xs. Unplaced ∷ xs) (take_new n k (omega arith))

drop_new : (n k : ℕ) → drop k (replicate n Unplaced) ≡ replicate (n - k) Unplaced
drop_new n zero = ap (λ m. replicate m Unplaced) (omega arith)
drop_new zero (suc k) = let e : zero - suc k ≡ 0 = omega arith in sym (ap (λ m. replicate m Unplaced) e)
drop_new (suc n) (suc k) = drop_new n k ∙ ap (λ m. replicate m Unplaced) (omega arith)

pub opened_counts : (n sc dc : ℕ) → sc + dc ≤ n → KeepsCounts (replicate n Unplaced) sc dc sc dc 0 0
opened_counts n sc dc h = record {
  start_is = sym (ap (tally is_left) (take_new n sc (omega arith)) ∙ all_of_new is_left Unplaced sc refl);
  data_is = sym (ap (λ xs. tally is_left (take dc xs)) (drop_new n sc) ∙ ap (tally is_left) (take_new (n - sc) dc (omega arith))
      ∙ all_of_new is_left Unplaced dc refl);
  unanswered_is = sym (none_of_new is_unanswered Unplaced n refl);
  lost_is = sym (none_of_new is_lost Unplaced n refl);
}

-- what is known of a line that is opened
pub record Opens (s : Shape) (online w a b n : ℕ) (chunks : List Chunk) : Type 0 where
  pub accepted : IsAccepted s
  pub width_is : w ≡ length (units_in online)
  pub few : w ≤ units s
  pub some : data_len s w ≢ 0
  pub start_is : a ≡ start_len s / s.ws_opt
  pub data_is : b ≡ data_len s w / s.ws_opt
  pub count_is : n ≡ w * (s.clba / s.ws_opt)
  pub chunks_are : chunks ≡ replicate 64 chunk.Open
  pub short : w * s.clba ≤ 65536

pub parts_inside : (s : Shape) (online w a b n : ℕ) (chunks : List Chunk) → Opens s online w a b n chunks → a + b ≤ n
parts_inside s online w a b n chunks o =
    let rows : w * s.clba ≡ (w * (s.clba / s.ws_opt)) * s.ws_opt = line_rows w s.clba s.ws_opt o.accepted.drive.whole_stripes in
    let parts : start_len s / s.ws_opt + data_len s w / s.ws_opt ≤ w * (s.clba / s.ws_opt) =
    part_count s.ws_opt (start_len s) (data_len s w) (w * s.clba) (w * (s.clba / s.ws_opt)) o.accepted.drive.ws_opt (data_and_start s w o.some) rows in
    omega (arith, parts, o.start_is, o.data_is, o.count_is)

pub count_short : (s : Shape) (online w a b n : ℕ) (chunks : List Chunk) → Opens s online w a b n chunks → n ≤ 65536
count_short s online w a b n chunks o =
    let rows : w * s.clba ≡ (w * (s.clba / s.ws_opt)) * s.ws_opt = line_rows w s.clba s.ws_opt o.accepted.drive.whole_stripes in
    let more : (w * (s.clba / s.ws_opt)) * 1 ≤ (w * (s.clba / s.ws_opt)) * s.ws_opt = mul-le-mul_left (w * (s.clba / s.ws_opt)) o.accepted.drive.ws_opt in
    omega (arith, rows, more, o.count_is, o.short)

pub opened_keeps : (s : Shape) (online w a b n : ℕ) (chunks : List Chunk) → Opens s online w a b n chunks → KeepsLine online w a b n 0 chunks
opened_keeps s online w a b n chunks o = record {
  width_is = o.width_is;
  some = width_some s w o.accepted.drive.ws_opt o.some;
  few = omega (arith, o.few, o.accepted.drive.few_units);
  parts_short = omega (arith, parts_inside s online w a b n chunks o, count_short s online w a b n chunks o);
  next_inside = omega arith;
  stripes_short = count_short s online w a b n chunks o;
  chunk_count = ap (λ xs. length xs) o.chunks_are;
  chunks_fit = λ k inside. subst (λ (c : Chunk). FitsChunk c k w 0) (sym (ap (λ xs. slice_index_or xs k chunk.Open) o.chunks_are ∙ open_at 64 k)) tt;
}

pub opened_stripes : (s : Shape) (online w a b n : ℕ) (chunks : List Chunk) → Opens s online w a b n chunks → outcomes chunks w 0 n ≡ replicate n Unplaced
opened_stripes s online w a b n chunks o = ap (λ xs. outcomes xs w 0 n) o.chunks_are ∙ nothing_placed 64 w n

pub opened_tallies : (s : Shape) (online w a b n : ℕ) (chunks : List Chunk) → Opens s online w a b n chunks → KeepsCounts (outcomes chunks w 0 n) a b a b 0 0
opened_tallies s online w a b n chunks o =
    subst (λ (xs : List Stripe). KeepsCounts xs a b a b 0 0) (sym (opened_stripes s online w a b n chunks o))
    (opened_counts n a b (parts_inside s online w a b n chunks o))

pub opened_line : (s : Shape) (line online w a b n : ℕ) (chunks : List Chunk) → Opens s online w a b n chunks
    → ◌≡◌ {A = OpenLine} (record { line = line; online = online; start_count = a; data_count = b; stripes = outcomes chunks w 0 n }) (opened s line online)
opened_line s line online w a b n chunks o =
    let make : ℕ → ℕ → List Stripe → OpenLine = λ x y xs. record { line = line; online = online; start_count = x; data_count = y; stripes = xs } in
    ap (λ x. make x b (outcomes chunks w 0 n)) o.start_is
    ∙ ap (λ y. make (start_len s / s.ws_opt) y (outcomes chunks w 0 n)) (o.data_is ∙ ap (λ g. data_len s g / s.ws_opt) o.width_is)
    ∙ ap (make (start_len s / s.ws_opt) (data_len s (length (units_in online)) / s.ws_opt))
    (opened_stripes s online w a b n chunks o ∙ ap (λ k. replicate k Unplaced) (o.count_is ∙ ap (λ g. g * (s.clba / s.ws_opt)) o.width_is))

pub opened_fits : (s : Shape) (line online w a b n : ℕ) (chunks : List Chunk) → Opens s online w a b n chunks → online < 2 ^ units s
    → FitsShape s (opened s line online)
opened_fits s line online w a b n chunks o h = record {
  online = h;
  some = omega (arith, o.width_is, width_some s w o.accepted.drive.ws_opt o.some);
  few = omega (arith, o.width_is, o.few);
  stripes = length_new (length (units_in online) * (s.clba / s.ws_opt));
}

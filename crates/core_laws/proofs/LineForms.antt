-- What became of the stripes of an opened line that isn't Failed: the first ones were placed, in order, and the
-- others weren't.
use Rattle.std.proofs.Common.{◌≡◌, ◌≢◌, ℕ, ◌+◌, ◌-◌, ◌*◌, ◌/◌, ◌%◌, ◌<◌, ◌≤◌, zero, suc, Bool, true, false, cond, Some, None, List, [], ◌∷◌, ◌++◌, map, length, replicate, refl, sym, ap, ap₂, ◌∙◌, arith}
use Rattle.std.specs.Prelude.{slice_get}
use Rattle.std.specs.List.{find, range_with_len, slice_index_or}
use Rattle.std.proofs.lemmas.Option.{same_Some, none-some, slice_get_within, get_or_from_slice_get}
use Rattle.pblk_model.specs.Image.{Image}
use Rattle.pblk_layout.specs.Online.{units_in}
use Rattle.pblk_world.specs.Events.{Logged}
use Rattle.pblk_world.specs.World.{World, log_of}
use Rattle.pblk_world.specs.Lines.{known_image}
use Rattle.pblk_world.specs.EngineLog.{is_opened, Opening, Opened, life_of, Placed, stripes_of, answer_of, has_failed}
use Rattle.stripe_placer.specs.OpenLines.{Stripe, OpenLine, width}
use Rattle.stripe_placer.specs.OpenLines.Stripe.{Unplaced}
use Rattle.core_laws.specs.OpenedLines.{bits_of, as_opened, is_stripe_at, by_answer, became, outcome, open_line}
use Rattle.core_laws.proofs.StripesByPlace.{at_its_place, not_at}
use Rattle.core_laws.proofs.Followed.{IsFollowed}
use Rattle.core_laws.proofs.UnitBits.{bits_back}
use Rattle.core_laws.proofs.KeptLines.{few_units, keeps_units}
use Rattle.core_laws.proofs.PartLengths.{IsStriped}
use Rattle.core_laws.proofs.PlainOpenings.{IsOpenedLine, opened_lines}
use Rattle.core_laws.proofs.StripesInOrder.{wide, stripe_count, IsAtPlace, IsInOrder, in_order, its_stripes}
use Rattle.pblk_model.proofs.Lists.{length_replicate}

-- ---- lists

all_one : {X : Type 0} (f : ℕ → X) (u : X) (a n : ℕ) → ((k : ℕ) → k < n → f (a + k) ≡ u) → map f (range_with_len a n) ≡ replicate n u
all_one f u a zero is = refl
all_one f u a (suc n) is =
    let first : a + 0 ≡ a = omega arith in
    ap₂ (λ x xs. x ∷ xs) (ap f (sym first) ∙ is 0 (omega arith))
    (all_one f u (a + 1) n (λ k h. let next : a + 1 + k ≡ a + suc k = omega arith in ap f next ∙ is (suc k) (omega arith)))

mapped_is : {X Y : Type 0} (f : ℕ → Y) (h : X → Y) (u : Y) (xs : List X) (a n : ℕ) → length xs ≤ n
    → ((k : ℕ) (x : X) → slice_get xs k ≡ Some x → f (a + k) ≡ h x) → ((k : ℕ) → length xs ≤ k → k < n → f (a + k) ≡ u)
    → map f (range_with_len a n) ≡ map h xs ++ replicate (n - length xs) u
mapped_is f h u [] a n within first later = let count : n ≡ n - 0 = omega arith in all_one f u a n (λ k inside. later k (omega arith) inside)
    ∙ ap (λ m. replicate m u) count
mapped_is f h u (x ∷ xs) a zero within first later = absurd (omega arith)
mapped_is f h u (x ∷ xs) a (suc n) within first later =
    let start : a + 0 ≡ a = omega arith in
    let count : n - length xs ≡ suc n - suc (length xs) = omega arith in
    ap₂ (λ y ys. y ∷ ys) (ap f (sym start) ∙ first 0 x refl)
    (mapped_is f h u xs (a + 1) n (omega arith)
    (λ k y e. let next : a + 1 + k ≡ a + suc k = omega arith in ap f next ∙ first (suc k) y e)
    (λ k past inside. let next : a + 1 + k ≡ a + suc k = omega arith in ap f next ∙ later (suc k) (omega arith) (omega arith))
    ∙ ap (λ m. map h xs ++ replicate m u) count)

none_found : {X : Type 0} (test : X → Bool) (xs : List X) → ((k : ℕ) (x : X) → slice_get xs k ≡ Some x → test x ≡ false) → find test xs ≡ None
none_found test [] is = refl
none_found test (x ∷ xs) is = ap (λ b. cond b (Some x) (find test xs)) (is 0 x refl) ∙ none_found test xs (λ k y e. is (suc k) y e)

found_at : {X : Type 0} (test : X → Bool) (xs : List X) (j : ℕ) (x : X) → slice_get xs j ≡ Some x → test x ≡ true
    → ((k : ℕ) (y : X) → slice_get xs k ≡ Some y → k ≢ j → test y ≡ false) → find test xs ≡ Some x
found_at test [] j x e passes others = absurd (none-some x e)
found_at test (y ∷ ys) zero x e passes others =
    let same : y ≡ x = same_Some y x e in
    ap (λ b. cond b (Some y) (find test ys)) (ap test same ∙ passes) ∙ ap (λ z. Some z) same
found_at test (y ∷ ys) (suc j) x e passes others =
    ap (λ b. cond b (Some y) (find test ys)) (others 0 y refl (λ f. absurd (omega (arith, f))))
    ∙ found_at test ys j x e passes (λ k z g other. others (suc k) z g (λ f. other (omega (arith, f))))

-- ---- the units of an opened line

pub units_back : (i : Image) (us : ℕ → List ℕ) (w : World) (o : Opening) → IsFollowed i us w → life_of (log_of w 0) o.line ≡ Opened o
    → units_in (as_opened i (log_of w) o).online ≡ us o.line
units_back i us w o is life =
    ap (λ xs. units_in (bits_of xs)) (sym (keeps_units i w o.line o is.mount life))
    ∙ bits_back (known_image i (log_of w)) o.line (few_units i w (log_of w) is.mount) ∙ is.keeps o.line (ap is_opened life)

-- the line without stripes
pub record IsLineOf (i : Image) (us : ℕ → List ℕ) (w : World) (o : Opening) : Type 0 where
  pub units : units_in (as_opened i (log_of w) o).online ≡ us o.line
  pub wide_is : width (as_opened i (log_of w) o) ≡ wide us o.line
  pub count : length (as_opened i (log_of w) o).stripes ≡ stripe_count i us o.line
  pub well : IsOpenedLine i us o.line o
  pub striped : IsStriped i.shape (wide us o.line)
  pub order : IsInOrder i us (log_of w 0) o.line o

pub line_of : (i : Image) (us : ℕ → List ℕ) (w : World) (o : Opening) → IsFollowed i us w → life_of (log_of w 0) o.line ≡ Opened o
    → has_failed (log_of w 0) o ≡ false → IsLineOf i us w o
line_of i us w o is life whole =
    let units : units_in (as_opened i (log_of w) o).online ≡ us o.line = units_back i us w o is life in
    let wide_is : width (as_opened i (log_of w) o) ≡ wide us o.line = ap (λ (us : List ℕ). length us) units in
    let well : IsOpenedLine i us o.line o = opened_lines i us w is o.line o life in
    record {
      units = units;
      wide_is = wide_is;
      count = length_replicate (width (as_opened i (log_of w) o) * (i.shape.clba / i.shape.ws_opt)) Unplaced
          ∙ ap (λ g. g * (i.shape.clba / i.shape.ws_opt)) wide_is;
      well = well;
      striped = its_stripes i us o.line o is.mount.accepted.drive.ws_opt is.mount.accepted.drive.whole_stripes well;
      order = in_order i us w is o.line o life whole;
    }

-- ---- its stripes

at_its_number : (i : Image) (us : ℕ → List ℕ) (w : World) (o : Opening) (k unit at : ℕ) → IsLineOf i us w o → IsAtPlace i us o.line k unit at
    → is_stripe_at i.shape (as_opened i (log_of w) o) unit at k ≡ true
at_its_number i us w o k unit at is place =
    let l : OpenLine = as_opened i (log_of w) o in
    at_its_place i.shape l unit at k
    (ap₂ (λ (us : List ℕ) g. slice_index_or us (k % g) 0) is.units is.wide_is ∙ get_or_from_slice_get (us o.line) (k % wide us o.line) unit 0 place.its_unit)
    (ap (λ g. k / g * i.shape.ws_opt) is.wide_is ∙ sym place.its_block)

unfoldable pub answered_as : List Logged → Placed → Stripe
answered_as log p = by_answer (answer_of log p)

placed_stripe : (i : Image) (us : ℕ → List ℕ) (w : World) (o : Opening) (k : ℕ) (p : Placed) → IsLineOf i us w o
    → slice_get (stripes_of (log_of w 0) o) k ≡ Some p → outcome i.shape (log_of w 0) o (as_opened i (log_of w) o) k ≡ answered_as (log_of w 0) p
unfolding answered_as
placed_stripe i us w o k p is there =
    let log : List Logged = log_of w 0 in
    let l : OpenLine = as_opened i (log_of w) o in
    let some_units : 0 < width l = let g = is.wide_is in let h = is.striped.wide in omega arith in
    ap (became log) (found_at (λ (q : Placed). is_stripe_at i.shape l q.stripe.unit q.stripe.at k) (stripes_of log o) k p there
    (at_its_number i us w o k p.stripe.unit p.stripe.at is (is.order.places k p there))
    (λ m q e other. not_at i.shape l q.stripe.unit q.stripe.at k m is.striped.some some_units
    (at_its_number i us w o m q.stripe.unit q.stripe.at is (is.order.places m q e)) (λ f. other (sym f))))

unplaced_stripe : (i : Image) (us : ℕ → List ℕ) (w : World) (o : Opening) (k : ℕ) → IsLineOf i us w o → length (stripes_of (log_of w 0) o) ≤ k
    → outcome i.shape (log_of w 0) o (as_opened i (log_of w) o) k ≡ Unplaced
unplaced_stripe i us w o k is past =
    let log : List Logged = log_of w 0 in
    let l : OpenLine = as_opened i (log_of w) o in
    let some_units : 0 < width l = let g = is.wide_is in let h = is.striped.wide in omega arith in
    ap (became log) (none_found (λ (q : Placed). is_stripe_at i.shape l q.stripe.unit q.stripe.at k) (stripes_of log o)
    (λ m q e. let inside : m < length (stripes_of log o) = slice_get_within (stripes_of log o) m q e in
    not_at i.shape l q.stripe.unit q.stripe.at k m is.striped.some some_units (at_its_number i us w o m q.stripe.unit q.stripe.at is (is.order.places m q e))
    (λ f. absurd (omega (arith, f)))))

pub formed : (i : Image) (us : ℕ → List ℕ) (w : World) (o : Opening) → IsLineOf i us w o
    → (open_line i (log_of w) o).stripes ≡ map (answered_as (log_of w 0)) (stripes_of (log_of w 0) o)
    ++ replicate (stripe_count i us o.line - length (stripes_of (log_of w 0) o)) Unplaced
formed i us w o is =
    let log : List Logged = log_of w 0 in
    let l : OpenLine = as_opened i (log_of w) o in
    ap (λ n. map (outcome i.shape log o l) (range_with_len 0 n)) is.count
    ∙ mapped_is (outcome i.shape log o l) (answered_as log) Unplaced (stripes_of log o) 0 (stripe_count i us o.line) is.order.inside
    (λ k p e. let from : 0 + k ≡ k = omega arith in ap (outcome i.shape log o l) from ∙ placed_stripe i us w o k p is e)
    (λ k past inside. let from : 0 + k ≡ k = omega arith in ap (outcome i.shape log o l) from ∙ unplaced_stripe i us w o k is past)

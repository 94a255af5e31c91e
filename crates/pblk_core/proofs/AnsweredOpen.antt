-- The open lines of a core once a stripe was answered: its line leaves them where no stripe of it
-- is left.
use Rattle.std.proofs.Common.{◌≡◌, ◌≢◌, ℕ, ◌+◌, ◌-◌, ◌/◌, ◌<◌, ◌≤◌, ◌==◌, zero, suc, nat_eq, if◌then◌else◌, Bool, true, false, cond, Some, List, [], ◌∷◌, length, refl, sym, subst, ap, ◌∙◌, arith}
use Rattle.std.specs.Prelude.{slice_get}
use Rattle.std.specs.List.{filter}
use Rattle.std.proofs.lemmas.Bool.{eqb-true, eqb-false}
use Rattle.std.proofs.lemmas.Option.{same_Some, none-some}
use Rattle.pblk_model.specs.declared.shape.Shape.{Shape}
use Rattle.pblk_model.specs.Image.{Image}
use Rattle.pblk_world.specs.World.{World, Logs, log_of}
use Rattle.pblk_world.specs.EngineLog.{Opening}
use Rattle.stripe_placer.specs.OpenLines.{Stripe, has_left, in_line, with_stripe}
use Rattle.stripe_placer.specs.Placing.{Program}
use Rattle.pblk_model.proofs.Maps.{filter_all}
use Rattle.core_laws.specs.OpenedLines.{open_line, opened_units, standing, bits_of}
use Rattle.core_laws.specs.LeftOpenings.{left_openings}
use Rattle.core_laws.proofs.UnitTurns.{filtered_is}
use Rattle.core_laws.proofs.LeftLines.{left_apart, left_before}
use Rattle.core_laws.proofs.HistorySectors.{set_length}
use Rattle.pblk_core.specs.LineRecords.{AreRecordsOf, RecordsView}
use Rattle.pblk_core.specs.Answering.{IsLessIn, IsRemoved}
use Rattle.pblk_core.specs.Slots.{IsSlot, answered_slot}
use Rattle.pblk_core.specs.Stands.{IsOpenLine, AreOpenLines, stripes_left}
use Rattle.pblk_core.specs.declared.open_lines.OpenLine.{OpenLine as KeptLine}
use Rattle.pblk_core.specs.declared.open_lines.OpenLines.{OpenLines}
use Rattle.pblk_core.proofs.LandedWay.{IsOnWay, line_of_way, stripe_number}
use Rattle.pblk_core.proofs.LandedLines.{HasSlot}
use Rattle.pblk_core.proofs.LineCounts.{none_left, some_left}
use Rattle.pblk_model.proofs.Numbers.{le_before}
use Rattle.pblk_model.proofs.Parts.{all_by_get, got_else, got_here, got_within}
use Rattle.pblk_model.proofs.Tests.{other_number, same_number}

-- ---- the logs with an answer

-- an opening has a stripe left then
abbrev pub has_more : Image → World → Program → Stripe → Opening → Bool
has_more i w of to o = has_left (in_line of.line (of.at / i.shape.ws_opt) to (open_line i (log_of w) o))

-- The program's stripe became this, and so many of its line's stripes less are left.
pub record IsAnswered (i : Image) (w : World) (new : Logs) (unit : ℕ) (of : Program) (is : IsOnWay i w unit of) (to : Stripe) (count : ℕ) : Type 0 where
  pub left : left_openings i new ≡ filter (has_more i w of to) (left_openings i (log_of w))
  pub line : (k : ℕ) (o : Opening) → slice_get (left_openings i (log_of w)) k ≡ Some o
      → open_line i new o ≡ in_line of.line (of.at / i.shape.ws_opt) to (open_line i (log_of w) o)
  pub units : (o : Opening) → o.number ≤ length (log_of w 0) → opened_units i new o ≡ opened_units i (log_of w) o
  pub kept : (o : Opening) (r : RecordsView) → AreRecordsOf i.shape (log_of w 0) o r → AreRecordsOf i.shape (new 0) o r
  pub fewer : stripes_left (with_stripe (open_line i (log_of w) is.row.opening) is.number to) + count
      ≡ stripes_left (open_line i (log_of w) is.row.opening)

module _ (i : Image) (w : World) (new : Logs) (unit : ℕ) (of : Program) (is : IsOnWay i w unit of) (to : Stripe) (count : ℕ)
    (answered : IsAnswered i w new unit of is to count) where
  own_line : in_line of.line (of.at / i.shape.ws_opt) to (open_line i (log_of w) is.row.opening)
      ≡ with_stripe (open_line i (log_of w) is.row.opening) is.number to
  own_line =
      ap (λ b. if b then with_stripe (open_line i (log_of w) is.row.opening) (of.at / i.shape.ws_opt) to else open_line i (log_of w) is.row.opening)
      (ap (λ n. n == of.line) (line_of_way i w unit of is) ∙ same_number of.line)
      ∙ ap (λ j. with_stripe (open_line i (log_of w) is.row.opening) j to) (stripe_number i w unit of is)

  other_line : (o : Opening) → o.line ≢ of.line → in_line of.line (of.at / i.shape.ws_opt) to (open_line i (log_of w) o) ≡ open_line i (log_of w) o
  other_line o apart =
      ap (λ b. if b then with_stripe (open_line i (log_of w) o) (of.at / i.shape.ws_opt) to else open_line i (log_of w) o)
      (other_number o.line of.line apart)

  -- the line as it is then
  pub own_now : (k : ℕ) → slice_get (left_openings i (log_of w)) k ≡ Some is.row.opening
      → open_line i new is.row.opening ≡ with_stripe (open_line i (log_of w) is.row.opening) is.number to
  own_now k here = answered.line k is.row.opening here ∙ own_line

  apart_by : (k m : ℕ) (other : Opening) → slice_get (left_openings i (log_of w)) k ≡ Some is.row.opening
      → slice_get (left_openings i (log_of w)) m ≡ Some other → m ≢ k → other.line ≢ of.line
  apart_by k m other here there apart =
      λ e. apart (left_apart i (log_of w) m k other is.row.opening there here (e ∙ sym (line_of_way i w unit of is)))

  more_beside : (k m : ℕ) (other : Opening) → slice_get (left_openings i (log_of w)) k ≡ Some is.row.opening
      → slice_get (left_openings i (log_of w)) m ≡ Some other → m ≢ k → has_more i w of to other ≡ true
  more_beside k m other here there apart =
      ap has_left (other_line other (apart_by k m other here there apart))
      ∙ filtered_is (λ (o : Opening). has_left (open_line i (log_of w) o)) (standing (log_of w 0)) m other there

  -- by the slot of its line
  module _ (slot : KeptLine) (was : slot.stripes_left ≡ stripes_left (open_line i (log_of w) is.row.opening)) where
    left_now : slot.stripes_left - count ≡ stripes_left (with_stripe (open_line i (log_of w) is.row.opening) is.number to)
    left_now =
        let fewer : stripes_left (with_stripe (open_line i (log_of w) is.row.opening) is.number to) + count
        ≡ stripes_left (open_line i (log_of w) is.row.opening) = answered.fewer in
        omega arith

    pub own_none : slot.stripes_left - count ≡ 0 → has_more i w of to is.row.opening ≡ false
    own_none none = ap has_left own_line ∙ none_left (with_stripe (open_line i (log_of w) is.row.opening) is.number to) (sym left_now ∙ none)

    pub own_more : 0 < slot.stripes_left - count → has_more i w of to is.row.opening ≡ true
    own_more some = ap has_left own_line
        ∙ some_left (with_stripe (open_line i (log_of w) is.row.opening) is.number to) (subst (λ n. 0 < n) left_now some)

  -- ---- records

  own_open : (k : ℕ) (kept : KeptLine) → slice_get (left_openings i (log_of w)) k ≡ Some is.row.opening
      → IsOpenLine i (log_of w) is.row.opening kept → IsOpenLine i new is.row.opening (answered_slot count kept)
  own_open k kept here old = record {
    records = answered.kept is.row.opening kept.records old.records;
    online = old.online ∙ ap bits_of (sym
        (answered.units is.row.opening (le_before is.row.opening.number (length (log_of w 0)) (left_before i (log_of w) k is.row.opening here))));
    left = left_now kept old.left ∙ ap stripes_left (sym (answered.line k is.row.opening here ∙ own_line));
  }

  other_open : (k m : ℕ) (other : Opening) (kept : KeptLine) → slice_get (left_openings i (log_of w)) k ≡ Some is.row.opening
      → slice_get (left_openings i (log_of w)) m ≡ Some other → m ≢ k → IsOpenLine i (log_of w) other kept → IsOpenLine i new other kept
  other_open k m other kept here there apart old = record {
    records = answered.kept other kept.records old.records;
    online = old.online ∙ ap bits_of (sym
        (answered.units other (le_before other.number (length (log_of w 0)) (left_before i (log_of w) m other there))));
    left = old.left ∙ ap stripes_left (sym (answered.line m other there ∙ other_line other (apart_by k m other here there apart)));
  }

-- ---- lists of at most two

pub record DropsOne {X : Type 0} (f : X → Bool) (xs : List X) (k : ℕ) : Type 0 where
  pub count : length (filter f xs) + 1 ≡ length xs
  pub each : (m : ℕ) (y : X) → slice_get (filter f xs) m ≡ Some y → (m ≡ 0) × (slice_get xs (1 - k) ≡ Some y) × (k < 2)

alone : {X : Type 0} (x : X) (m : ℕ) (y : X) → slice_get (x ∷ []) m ≡ Some y → (m ≡ 0) × (x ≡ y)
alone x zero y e = (refl, same_Some x y e)
alone x (suc m) y e = absurd (none-some y e)

drops_one : {X : Type 0} (f : X → Bool) (xs : List X) (k : ℕ) (x : X) → slice_get xs k ≡ Some x → f x ≡ false
    → ((m : ℕ) (y : X) → slice_get xs m ≡ Some y → m ≢ k → f y ≡ true) → length xs ≤ 2 → DropsOne f xs k
drops_one f [] k x at fails others few = absurd (none-some x at)
drops_one {X} f (a ∷ []) zero x at fails others few =
    let none : filter f (a ∷ []) ≡ [] = ap (λ b. cond b (a ∷ []) []) (ap f (same_Some a x at) ∙ fails) in
    record {
      count = ap (λ xs. length xs + 1) none;
      each = λ m y e. absurd (none-some y (ap (λ xs. slice_get xs m) (sym none) ∙ e));
    }
drops_one f (a ∷ []) (suc k) x at fails others few = absurd (none-some x at)
drops_one {X} f (a ∷ b ∷ []) zero x at fails others few =
    let one : filter f (a ∷ b ∷ []) ≡ b ∷ [] =
    ap (λ c. cond c (a ∷ cond (f b) (b ∷ []) []) (cond (f b) (b ∷ []) [])) (ap f (same_Some a x at) ∙ fails)
    ∙ ap (λ c. cond c (b ∷ []) []) (others 1 b refl (λ e. absurd (omega arith))) in
    record {
      count = ap (λ xs. length xs + 1) one;
      each = λ m y e.
          let is = alone b m y (ap (λ xs. slice_get xs m) (sym one) ∙ e) in
          (is.0, ap Some is.1, lit_below);
    }
  where
    lit_below : 0 < 2
    lit_below = omega arith
drops_one {X} f (a ∷ b ∷ []) (suc zero) x at fails others few =
    let one : filter f (a ∷ b ∷ []) ≡ a ∷ [] =
    ap (λ c. cond c (a ∷ cond (f b) (b ∷ []) []) (cond (f b) (b ∷ []) [])) (others 0 a refl (λ e. absurd (omega arith)))
    ∙ ap (λ c. a ∷ cond c (b ∷ []) []) (ap f (same_Some b x at) ∙ fails) in
    record {
      count = ap (λ xs. length xs + 1) one;
      each = λ m y e.
          let is = alone a m y (ap (λ xs. slice_get xs m) (sym one) ∙ e) in
          (is.0, ap Some is.1, lit_below);
    }
  where
    lit_below : 1 < 2
    lit_below = omega arith
drops_one f (a ∷ b ∷ []) (suc (suc k)) x at fails others few = absurd (none-some x at)
drops_one f (a ∷ b ∷ c ∷ xs) k x at fails others few = absurd (omega arith)

-- ---- the open lines

pub slot_of_mid : (old mid : OpenLines) (k : ℕ) (slot : KeptLine) (count : ℕ) → IsLessIn old mid k slot count → IsSlot old k slot
    → IsSlot mid k (answered_slot count slot)
slot_of_mid old mid k slot count is there = ap (λ xs. slice_get xs k) is.slots ∙ got_here old.slots.items k slot (answered_slot count slot) there

pub other_of_mid : (old mid : OpenLines) (k m : ℕ) (slot x : KeptLine) (count : ℕ) → IsLessIn old mid k slot count → m ≢ k → IsSlot mid m x → IsSlot old m x
other_of_mid old mid k m slot x count is apart there =
    sym (ap (λ xs. slice_get xs m) is.slots ∙ got_else old.slots.items k m (answered_slot count slot) apart) ∙ there

shapes_of_mid : (s : Shape) (old mid : OpenLines) (k : ℕ) (slot : KeptLine) (count : ℕ) → IsLessIn old mid k slot count → IsSlot old k slot
    → ((m : ℕ) (x : KeptLine) → IsSlot old m x → x.records.shape ≡ s) → (m : ℕ) (x : KeptLine) → IsSlot mid m x → x.records.shape ≡ s
shapes_of_mid s old mid k slot count is there all m x at = go (nat_eq m k) refl
  where
    go : (b : Bool) → nat_eq m k ≡ b → x.records.shape ≡ s
    go true e =
        let same : answered_slot count slot ≡ x =
        same_Some (answered_slot count slot) x
        (sym (slot_of_mid old mid k slot count is there) ∙ ap (slice_get mid.slots.items) (sym (eqb-true m k e)) ∙ at) in
        ap (λ (y : KeptLine). y.records.shape) (sym same) ∙ all k slot there
    go false e = all m x (other_of_mid old mid k m slot x count is (eqb-false m k e) at)

module _ (i : Image) (w : World) (logs : Logs) (unit : ℕ) (of : Program) (is : IsOnWay i w unit of) (to : Stripe) (count : ℕ)
    (answered : IsAnswered i w logs unit of is to count) (old mid : OpenLines) (are : AreOpenLines i (log_of w) old)
    (has : HasSlot i (log_of w) old is.row.opening) (less : IsLessIn old mid has.k has.slot count) where
  -- where a stripe of the line is left
  pub lines_stay : 0 < has.slot.stripes_left - count → AreOpenLines i logs mid
  lines_stay some =
      let left : left_openings i logs ≡ left_openings i (log_of w) =
      answered.left ∙ filter_all (has_more i w of to) (left_openings i (log_of w))
      (all_by_get (λ (x : Opening). has_more i w of to x ≡ true) (left_openings i (log_of w)) (λ m x e. more m x e (nat_eq m has.k) refl)) in
      record {
        two = ap length less.slots ∙ set_length old.slots.items has.k (answered_slot count has.slot) ∙ are.two;
        few = subst (λ n. n ≤ 2) (sym less.same) are.few;
        shapes = shapes_of_mid i.shape old mid has.k has.slot count less has.there are.shapes;
        count = less.same ∙ are.count ∙ ap length (sym left);
        each = λ k o x there at. each k o x (ap (λ os. slice_get os k) (sym left) ∙ there) at (nat_eq k has.k) refl;
      }
    where
      more : (m : ℕ) (x : Opening) → slice_get (left_openings i (log_of w)) m ≡ Some x → (b : Bool) → nat_eq m has.k ≡ b → has_more i w of to x ≡ true
      more m x e true f =
          let same : x ≡ is.row.opening =
          same_Some x is.row.opening (sym e ∙ ap (slice_get (left_openings i (log_of w))) (eqb-true m has.k f) ∙ has.opening) in
          ap (has_more i w of to) same ∙ own_more i w logs unit of is to count answered has.slot has.is.left some
      more m x e false f = more_beside i w logs unit of is to count answered has.k m x has.opening e (eqb-false m has.k f)

      each : (k : ℕ) (o : Opening) (x : KeptLine) → slice_get (left_openings i (log_of w)) k ≡ Some o → IsSlot mid k x → (b : Bool) → nat_eq k has.k ≡ b
          → IsOpenLine i logs o x
      each k o x there at true f =
          let opening : is.row.opening ≡ o =
          same_Some is.row.opening o (sym has.opening ∙ ap (slice_get (left_openings i (log_of w))) (sym (eqb-true k has.k f)) ∙ there) in
          let slot : answered_slot count has.slot ≡ x =
          same_Some (answered_slot count has.slot) x
          (sym (slot_of_mid old mid has.k has.slot count less has.there) ∙ ap (slice_get mid.slots.items) (sym (eqb-true k has.k f)) ∙ at) in
          subst (λ (y : KeptLine). IsOpenLine i logs o y) slot
          (subst (λ (p : Opening). IsOpenLine i logs p (answered_slot count has.slot)) opening
          (own_open i w logs unit of is to count answered has.k has.slot has.opening has.is))
      each k o x there at false f = other_open i w logs unit of is to count answered has.k k o x has.opening there (eqb-false k has.k f)
          (are.each k o x there (other_of_mid old mid has.k k has.slot x count less (eqb-false k has.k f) at))

  -- where none is
  pub line_leaves : (new : OpenLines) → IsRemoved mid new has.k → has.slot.stripes_left - count ≡ 0 → AreOpenLines i logs new
  line_leaves new gone none =
      let few : old.count ≤ 2 = are.few in
      let total : old.count ≡ length (left_openings i (log_of w)) = are.count in
      let drops : DropsOne (has_more i w of to) (left_openings i (log_of w)) has.k =
      drops_one (has_more i w of to) (left_openings i (log_of w)) has.k is.row.opening has.opening
      (own_none i w logs unit of is to count answered has.slot has.is.left none)
      (λ m y e apart. more_beside i w logs unit of is to count answered has.k m y has.opening e apart) (omega arith) in
      let shorter : length (filter (has_more i w of to) (left_openings i (log_of w))) + 1 ≡ length (left_openings i (log_of w)) = drops.count in
      let fewer : new.count + 1 ≡ mid.count = gone.count in
      let kept : mid.count ≡ old.count = less.same in
      record {
        two = gone.two;
        few = omega arith;
        shapes = λ m x at. let from = gone.same m x at in shapes_of_mid i.shape old mid has.k has.slot count less has.there are.shapes from.0 x from.1;
        count = (let n : new.count ≡ length (filter (has_more i w of to) (left_openings i (log_of w))) = omega arith in n) ∙ ap length (sym answered.left);
        each = λ m o x there at. each m o x at (drops.each m o (ap (λ os. slice_get os m) (sym answered.left) ∙ there));
      }
    where
      -- the other slot comes first
      slot_there : (k : ℕ) → has.k ≡ k → k < 2 → (x : KeptLine) → IsSlot new 0 x → IsSlot old (1 - k) x
      slot_there zero e h x at =
          let y : (z : KeptLine) × (IsSlot old 1 z) = got_within old.slots.items 1 (let two : length old.slots.items ≡ 2 = are.two in omega arith) in
          let in_mid : IsSlot mid 1 y.0 = ap (λ xs. slice_get xs 1) less.slots
          ∙ got_else old.slots.items has.k 1 (answered_slot count has.slot) (λ f. absurd (omega (arith, e, f))) ∙ y.1 in
          let same : y.0 ≡ x = same_Some y.0 x (sym (gone.first y.0 e in_mid) ∙ at) in
          y.1 ∙ ap Some same
      slot_there (suc zero) e h x at =
          let y : (z : KeptLine) × (IsSlot old 0 z) = got_within old.slots.items 0 (let two : length old.slots.items ≡ 2 = are.two in omega arith) in
          let in_mid : IsSlot mid 0 y.0 = ap (λ xs. slice_get xs 0) less.slots
          ∙ got_else old.slots.items has.k 0 (answered_slot count has.slot) (λ f. absurd (omega (arith, e, f))) ∙ y.1 in
          let same : y.0 ≡ x = same_Some y.0 x (sym (gone.second y.0 e in_mid) ∙ at) in
          y.1 ∙ ap Some same
      slot_there (suc (suc k)) e h x at = absurd (omega arith)

      apart : (k : ℕ) → k < 2 → 1 - k ≢ k
      apart zero h e = absurd (omega arith)
      apart (suc zero) h e = absurd (omega arith)
      apart (suc (suc k)) h e = absurd (omega arith)

      each : (m : ℕ) (o : Opening) (x : KeptLine) → IsSlot new m x → (m ≡ 0) × (slice_get (left_openings i (log_of w)) (1 - has.k) ≡ Some o) × (has.k < 2)
          → IsOpenLine i logs o x
      each m o x at is_at =
          let slot : IsSlot old (1 - has.k) x = slot_there has.k refl is_at.2 x (ap (slice_get new.slots.items) (sym is_at.0) ∙ at) in
          other_open i w logs unit of is to count answered has.k (1 - has.k) o x has.opening is_at.1 (apart has.k is_at.2)
          (are.each (1 - has.k) o x is_at.1 slot)

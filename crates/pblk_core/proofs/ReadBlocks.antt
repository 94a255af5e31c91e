-- A block that can be read: what the calls of the layout, the window and the map say of it.
use Rattle.std.proofs.Common.{◌≡◌, ◌≢◌, ℕ, ◌+◌, ◌<◌, ◌≤◌, ◌==◌, ◌&&◌, not, zero, suc, nat_lt, if◌then◌else◌, Bool, true, false, cond, Some, None, Option, List, [], ◌∷◌, length, refl, sym, subst, ap, ap₂, ◌∙◌, arith}
use Rattle.std.specs.Prelude.{◌↔◌, IfSome, IsTrue, slice_get}
use Rattle.std.specs.Bool.{OnTrue, OnFalse}
use Rattle.std.specs.List.{position_or_len}
use Rattle.std.specs.Option.{option_and_then}
use Rattle.std.specs.Ordering.{nat_cmp}
use Rattle.std.specs.FinMap.{FinMap}
use Rattle.std.specs.FinMap as fin
use Rattle.std.proofs.lemmas.Bool.{eqb-true}
use Rattle.std.proofs.lemmas.Option.{same_Some, none-some}
use Rattle.pblk_model.specs.declared.shape.Shape.{Shape}
use Rattle.pblk_model.specs.declared.chunk.Mark.{Mark}
use Rattle.pblk_model.specs.LineOrder.{line_order}
use Rattle.pblk_model.specs.Marks.{pad_lba}
use Rattle.pblk_layout.specs.Online.{units_in}
use Rattle.core_laws.proofs.Placing.{not_below}
use Rattle.l2p_map.specs.declared.slot.Slot.{Slot}
use Rattle.l2p_map.specs.declared.slot.Slot.TheVariants.{Unwritten, Cached, Media}
use Rattle.pblk_core.specs.declared.open_lines.OpenLine.{OpenLine}
use Rattle.pblk_core.specs.Readable.{data_mark, is_place, position_of, ReadBlock, read_at, is_cached, moved, block_reads}
use Rattle.pblk_model.proofs.Parts.{get_below}
use Rattle.pblk_model.proofs.Tests.{lt_true, other_number, same_number}

-- ---- the first place in a line's order

front_within : {X : Type 0} (p : X → Bool) (xs : List X) (a : ℕ) (x : X) → slice_get xs a ≡ Some x → p x ≡ true → position_or_len p xs ≤ a
front_within p [] a x at e = absurd (none-some x at)
front_within p (y ∷ xs) zero x at e = subst (λ b. cond (not b) (1 + position_or_len p xs) 0 ≤ 0) (sym (ap p (same_Some y x at) ∙ e)) (omega arith)
front_within p (y ∷ xs) (suc a) x at e = go (p y) (front_within p xs a x at e)
  where
    go : (b : Bool) → position_or_len p xs ≤ a → cond (not b) (1 + position_or_len p xs) 0 ≤ suc a
    go true h = omega arith
    go false h = omega arith

front_is : {X : Type 0} (p : X → Bool) (xs : List X) → position_or_len p xs < length xs
    → (x : X) × (slice_get xs (position_or_len p xs) ≡ Some x) × (p x ≡ true)
front_is p [] h = absurd (omega arith)
front_is {X} p (y ∷ xs) h = go (p y) refl h (front_is p xs)
  where
    go : (b : Bool) → p y ≡ b → cond (not b) (1 + position_or_len p xs) 0 < length (y ∷ xs)
        → (position_or_len p xs < length xs → (x : X) × (slice_get xs (position_or_len p xs) ≡ Some x) × (p x ≡ true))
        → (x : X) × (slice_get (y ∷ xs) (cond (not b) (1 + position_or_len p xs) 0) ≡ Some x) × (p x ≡ true)
    go true e h rest = (y, refl, e)
    go false e h rest =
        let x = rest (omega arith) in
        let next : 1 + position_or_len p xs ≡ suc (position_or_len p xs) = omega arith in
        (x.0, ap (slice_get (y ∷ xs)) next ∙ x.1, x.2)

same_place : (a b : ℕ × ℕ) → is_place a b ≡ true → a ≡ b
same_place a b e =
    let both = parts (a.0 == b.0) (a.1 == b.1) e in
    λ k. (eqb-true a.0 b.0 both.0 k, eqb-true a.1 b.1 both.1 k)
  where
    parts : (m n : Bool) → (m && n) ≡ true → (m ≡ true) × (n ≡ true)
    parts true n e = (refl, e)
    parts false n e = absurd cc

is_itself : (a : ℕ × ℕ) → is_place a a ≡ true
is_itself a = ap₂ (λ m n. m && n) (same_number a.0) (same_number a.1)

-- what is found there, and only there, is the first
pub place_is : (order : List (ℕ × ℕ)) (place : ℕ × ℕ) (r : Option ℕ) → IfSome r (λ a. slice_get order a ≡ Some place)
    → ((a : ℕ) → slice_get order a ≡ Some place → r ≡ Some a) → position_of place order ≡ r
place_is order place r found only =
    go (position_or_len (is_place place) order) refl (nat_lt (position_or_len (is_place place) order) (length order)) refl r found only
  where
    go : (n : ℕ) → position_or_len (is_place place) order ≡ n → (b : Bool) → nat_lt (position_or_len (is_place place) order) (length order) ≡ b → (r : Option ℕ)
        → IfSome r (λ a. slice_get order a ≡ Some place)
        → ((a : ℕ) → slice_get order a ≡ Some place → r ≡ Some a) → cond b (Some (position_or_len (is_place place) order)) None ≡ r
    go n is true e r found only =
        let inside : position_or_len (is_place place) order < length order = grind arith in
        let x = front_is (is_place place) order inside in
        sym (only (position_or_len (is_place place) order) (x.1 ∙ ap Some (sym (same_place place x.0 x.2))))
    go n is false e None found only = refl
    go n is false e (Some a) found only =
        let early : position_or_len (is_place place) order ≤ a = front_within (is_place place) order a place found (is_itself place) in
        let last : a < length order = get_below order a place found in
        let passes : nat_lt (position_or_len (is_place place) order) (length order) ≡ true =
        lt_true (position_or_len (is_place place) order) (length order) (omega arith) in
        absurd cc

pub place_at : (l : OpenLine) (s : Shape) (unit block : ℕ) (r : Option ℕ) → l.records.shape ≡ s
    → IfSome r (λ a. slice_get (line_order s (units_in l.online)) a ≡ Some (unit, block))
    → ((a : ℕ) → slice_get (line_order s (units_in l.online)) a ≡ Some (unit, block) → r ≡ Some a)
    → position_of (unit, block) (line_order l.records.shape (units_in l.online)) ≡ r
place_at l s unit block r shape found only = ap (λ t. position_of (unit, block) (line_order t (units_in l.online))) shape
    ∙ place_is (line_order s (units_in l.online)) (unit, block) r found only

-- ---- a block's mark

abbrev read_if : ℕ → Mark → Option ReadBlock
read_if at m = if m.lba == pad_lba then None else Some (record { at = at; mark = m })

abbrev read_by : ℕ → Mark → Bool → Option ReadBlock
read_by at m b = if b then None else Some (record { at = at; mark = m })

pub none_there : (l : OpenLine) (unit block : ℕ) → position_of (unit, block) (line_order l.records.shape (units_in l.online)) ≡ None
    → block_reads l unit block ≡ None
none_there l unit block e = ap (option_and_then (read_at l.records)) e

pub none_told : (l : OpenLine) (unit block at : ℕ) → position_of (unit, block) (line_order l.records.shape (units_in l.online)) ≡ Some at
    → data_mark l.records at ≡ None → block_reads l unit block ≡ None
none_told l unit block at e none = ap (option_and_then (read_at l.records)) e ∙ ap (option_and_then (read_if at)) none

pub pads_there : (l : OpenLine) (unit block at : ℕ) (mark : Mark) → position_of (unit, block) (line_order l.records.shape (units_in l.online)) ≡ Some at
    → data_mark l.records at ≡ Some mark → mark.lba ≡ pad_lba → block_reads l unit block ≡ None
pads_there l unit block at mark e told pad =
    ap (option_and_then (read_at l.records)) e ∙ ap (option_and_then (read_if at)) told
    ∙ ap (read_by at mark) (ap (λ n. n == pad_lba) pad ∙ same_number pad_lba)

pub reads_there : (l : OpenLine) (unit block at : ℕ) (mark : Mark) → position_of (unit, block) (line_order l.records.shape (units_in l.online)) ≡ Some at
    → data_mark l.records at ≡ Some mark → mark.lba ≢ pad_lba → block_reads l unit block ≡ Some (record { at = at; mark = mark })
reads_there l unit block at mark e told other =
    ap (option_and_then (read_at l.records)) e ∙ ap (option_and_then (read_if at)) told
    ∙ ap (read_by at mark) (other_number mark.lba pad_lba other)

-- ---- the map

cached_is : (o : Option Slot) (q : ℕ) → is_cached o q ≡ true → o ≡ Some (Cached q)
cached_is None q e = absurd cc
cached_is (Some Unwritten) q e = absurd cc
cached_is (Some (Cached p)) q e = ap (λ n. Some (Cached n)) (eqb-true p q e)
cached_is (Some (Media line at p)) q e = absurd cc

pub moved_is : (capacity line : ℕ) (m n : FinMap nat_cmp Slot) (b : ReadBlock) (r : Bool) → b.mark.lba < capacity
    → (IsTrue r ↔ (fin.get m b.mark.lba ≡ Some (Cached b.mark.position)))
    → OnTrue r (n ≡ fin.insert m b.mark.lba (Media line b.at b.mark.position)) → OnFalse r (n ≡ m) → n ≡ moved capacity line m b
moved_is capacity line m n b true below was set unchanged =
    set ∙ sym (ap₂ (λ (x y : Bool). if x && y then fin.insert m b.mark.lba (Media line b.at b.mark.position) else m) (lt_true b.mark.lba capacity below)
    (ap (λ o. is_cached o b.mark.position) (was.0 refl) ∙ same_number b.mark.position))
moved_is capacity line m n b false below was set unchanged =
    unchanged ∙ sym (ap₂ (λ (x y : Bool). if x && y then fin.insert m b.mark.lba (Media line b.at b.mark.position) else m) (lt_true b.mark.lba capacity below)
    (go (is_cached (fin.get m b.mark.lba) b.mark.position) refl))
  where
    go : (c : Bool) → is_cached (fin.get m b.mark.lba) b.mark.position ≡ c → c ≡ false
    go true e = let h : false ≡ true = was.1 (cached_is (fin.get m b.mark.lba) b.mark.position e) in absurd cc
    go false e = refl

pub stays_there : (capacity line : ℕ) (m : FinMap nat_cmp Slot) (b : ReadBlock) → capacity ≤ b.mark.lba → m ≡ moved capacity line m b
stays_there capacity line m b above =
    sym (ap (λ (x : Bool). if x && is_cached (fin.get m b.mark.lba) b.mark.position then fin.insert m b.mark.lba (Media line b.at b.mark.position) else m)
    (not_below capacity b.mark.lba above))

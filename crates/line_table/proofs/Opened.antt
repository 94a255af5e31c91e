-- The state of a line when a target opens, case by case.
use Rattle.std.proofs.Common.{◌≡◌, ◌≢◌, ℕ, Bool, true, false, ◌≤◌, cond, eqb, Some, None, List, ◌++◌, take, drop, length, refl, sym, ap, subst, ◌∙◌, arith}
use Rattle.std.proofs.Math.Seq.{take-append_seam}
use Rattle.std.proofs.lemmas.Option.{same_Some, slice_get_within, get_or_from_slice_get}
use Rattle.std.specs.List.{list_any, slice_get, slice_index_or}
use Rattle.std.specs.Option.{is_some}
use Rattle.pblk_model.specs.declared.shape.Shape.{Shape}
use Rattle.pblk_model.specs.declared.found.Found.{Found}
use Rattle.pblk_model.specs.declared.found.LineRow.{LineRow}
use Rattle.pblk_model.specs.Found.{online_units}
use Rattle.pblk_model.specs.LineOrder.{data_len}
use Rattle.pblk_layout.specs.Online.{units_in}
use Rattle.line_table.specs.declared.row.LineState.{LineState}
use Rattle.line_table.specs.declared.row.LineState.TheVariants.{Free, Full, Failed, Freed, Dead}
use Rattle.pblk_model.specs.Shape.{units}
use Rattle.line_table.specs.declared.row.Row.{Row}
use Rattle.line_table.specs.Opening.{width_of, live_count, opening_state}
use Rattle.line_table.specs.Counting.{IsOpened, AreOpened, AreCounted, IsOpening, AreOpening, with_live}
use Rattle.line_table.proofs.Places.{get_within, some_isnt_zero}

-- a choice of four
abbrev choice : Bool → Bool → Bool → Bool → LineState
choice seq full stray dead = cond seq (cond full Full Failed) (cond stray Freed (cond dead Dead Free))

chosen : (a a' b b' c c' d d' : Bool) → a ≡ a' → b ≡ b' → c ≡ c' → d ≡ d' → choice a b c d ≡ choice a' b' c' d'
chosen a a' b b' c c' d d' p q r t = cc

pub is_full : (s : Shape) (f : Found) (line : ℕ) (row : LineRow) → is_some row.seq ≡ true → row.full ≡ true → Full ≡ opening_state s f line row
unfolding opening_state
is_full s f line row seq full = sym (chosen _ true _ true _ _ _ _ seq full refl refl)

pub is_failed : (s : Shape) (f : Found) (line : ℕ) (row : LineRow) → is_some row.seq ≡ true → row.full ≡ false → Failed ≡ opening_state s f line row
unfolding opening_state
is_failed s f line row seq full = sym (chosen _ true _ false _ _ _ _ seq full refl refl)

pub is_freed : (s : Shape) (f : Found) (line : ℕ) (row : LineRow) → is_some row.seq ≡ false → list_any (λ stray. eqb stray line) f.strays ≡ true
    → Freed ≡ opening_state s f line row
unfolding opening_state
is_freed s f line row seq stray = sym (chosen _ false row.full row.full _ true _ _ seq refl stray refl)

pub is_dead : (s : Shape) (f : Found) (line g n : ℕ) (row : LineRow) → is_some row.seq ≡ false → list_any (λ stray. eqb stray line) f.strays ≡ false
    → g ≡ width_of s f line → n ≡ data_len s g → n ≡ 0 → Dead ≡ opening_state s f line row
unfolding opening_state
is_dead s f line g n row seq stray g-is n-is none =
    let dead : eqb (data_len s (width_of s f line)) 0 ≡ true = ap (λ w. eqb (data_len s w) 0) (sym g-is) ∙ ap (λ k. eqb k 0) (sym n-is ∙ none) in
    sym (chosen _ false row.full row.full _ false _ true seq refl stray dead)

pub is_free_one : (s : Shape) (f : Found) (line g n : ℕ) (row : LineRow) → is_some row.seq ≡ false → list_any (λ stray. eqb stray line) f.strays ≡ false
    → g ≡ width_of s f line → n ≡ data_len s g → n ≢ 0 → Free ≡ opening_state s f line row
unfolding opening_state
is_free_one s f line g n row seq stray g-is n-is some =
    let dead : eqb (data_len s (width_of s f line)) 0 ≡ false = ap (λ w. eqb (data_len s w) 0) (sym g-is) ∙ ap (λ k. eqb k 0) (sym n-is)
    ∙ some_isnt_zero n some in
    sym (chosen _ false row.full row.full _ false _ false seq refl stray dead)

-- the width of a line by its online units
pub width_is : (s : Shape) (f : Found) (line live width : ℕ) → width ≡ length (units_in live) → units_in live ≡ online_units s f line
    → width ≡ width_of s f line
unfolding width_of
width_is s f line live width is units-are = is ∙ ap length units-are

-- the row of a line
pub opened : (s : Shape) (f : Found) (lines : List LineRow) (line width : ℕ) (d : LineRow) (state : LineState) → lines ≡ f.lines
    → state ≡ opening_state s f line (slice_index_or lines line d) → width ≡ width_of s f line → width ≤ units s
    → IsOpened s f line (record { state = state; width = width; live = 0; taker = None })
opened s f lines line width d state lines-are state-is width-is few = record {
  state = λ l there. state-is ∙ ap (opening_state s f line)
      (get_or_from_slice_get lines line l d (ap (λ (xs : List LineRow). slice_get xs line) lines-are ∙ there));
  width = width-is;
  few = few;
  live = refl;
  taker = refl;
}

-- with its live sectors
pub opening_from : (s : Shape) (f : Found) (old new : List Row) → length f.lines ≡ s.chunks → s.chunks ≤ 1024 → AreOpened s f old → AreCounted f.winners old new
    → AreOpening s f new
opening_from s f old new lines few are counted = record {
  lines = counted.lines ∙ are.lines ∙ lines;
  few = omega (arith, counted.lines, are.lines, lines);
  each = λ line row h.
      let before : (r : Row) × (slice_get old line ≡ Some r) = get_within old line (omega (arith, counted.lines, slice_get_within new line row h)) in
      let was : IsOpened s f line before.0 = are.each line before.0 before.1 in
      let row-is : with_live (live_count f.winners line) before.0 ≡ row =
      same_Some (with_live (live_count f.winners line) before.0) row (sym (counted.each line before.0 before.1) ∙ h) in
      subst (IsOpening s f line) row-is (record { state = was.state; width = was.width; few = was.few; live = refl; taker = was.taker });
}

pub taken_whole : (n : ℕ) (new rows : List Row) → n ≡ length new → take n (new ++ drop (length new) rows) ≡ new
taken_whole n new rows e = ap (λ k. take k (new ++ drop (length new) rows)) e ∙ take-append_seam new (drop (length new) rows)

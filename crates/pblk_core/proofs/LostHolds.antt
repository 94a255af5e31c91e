-- The rows beside the entries and the table of lines, once the stripe of entries was lost.
use Rattle.std.proofs.Common.{◌≡◌, ◌≢◌, ℕ, ◌<◌, ◌≤◌, ◌%◌, ◌==◌, ◌||◌, nat_lt, Bool, true, false, Some, None, Option, List, [], ◌∷◌, length, refl, sym, subst, ap, ap₂, ◌∙◌, append-nil, length-set}
use Rattle.std.specs.Prelude.{if◌then◌else◌, is_some, slice_get, slice_set}
use Rattle.std.specs.List.{AllByRecursion, Contains, list_any}
use Rattle.std.specs.Option.{option_map_or}
use Rattle.std.proofs.lemmas.Bool.{eqb-true}
use Rattle.std.proofs.lemmas.Option.{slice_get_within, slice_get-get_or}
use Rattle.pblk_model.specs.declared.shape.Shape.{Shape}
use Rattle.pblk_model.specs.Image.{Image}
use Rattle.pblk_model.specs.Marks.{meta_lba, void_lba}
use Rattle.pblk_model.specs.Records.{named}
use Rattle.pblk_world.specs.Events.{Decides, Logged, Lost}
use Rattle.pblk_world.specs.World.{World, log_of}
use Rattle.pblk_world.specs.EngineLog.{Taken, takes}
use Rattle.pblk_world.specs.EngineLog.{holds_position}
use Rattle.line_table.specs.Rows.{Table}
use Rattle.line_table.proofs.Places.{get_set_same, get_set_other}
use Rattle.pblk_world.specs.LegalMounts.{IsLegalMount}
use Rattle.pblk_world.proofs.EngineLogLemmas.{takes_more}
use Rattle.core_laws.specs.EntryHolds.{later_take, placed_line}
use Rattle.core_laws.specs.PlacedEntries.{lower_by, lower_entries, lower_entry, taker_of}
use Rattle.stripe_placer.specs.Placing.{Program}
use Rattle.core_laws.specs.PlacerOf.{positions_of}
use Rattle.core_laws.specs.Stepping.{after}
use Rattle.core_laws.specs.WindowOf.{is_given_back}
use Rattle.core_laws.proofs.EntryHolds.{later_same}
use Rattle.core_laws.proofs.GivenLost.{given_lost}
use Rattle.core_laws.proofs.LostStripe.{IsOneLost, line_lost, one_lost}
use Rattle.core_laws.proofs.Placed.{is_in_list, stripe_holds}
use Rattle.core_laws.proofs.PlacedInOrder.{HasEntries, ordered}
use Rattle.pblk_core.specs.Holds.{hold_of, row_at, taker_in}
use Rattle.pblk_core.specs.Losing.{lost_rows, lower_hold, lowered_lines, row_lost, without_line}
use Rattle.pblk_core.specs.Stands.{AreHolds, Stands}
use Rattle.pblk_core.specs.declared.hold.Hold.{Hold}
use Rattle.pblk_core.specs.declared.hold.Holds.{Holds}
use Rattle.pblk_core.specs.declared.target_core.Core.{Core}
use Rattle.pblk_core.proofs.LandedCore.{positions_are}
use Rattle.pblk_core.proofs.LandedWay.{IsOnWay}
use Rattle.pblk_core.proofs.NotedEntries.{AreEntriesOf}
use Rattle.pblk_core.proofs.PlacedEntries.{AreApart, by_name, later_is_next, one_row, taker_by}
use Rattle.pblk_core.proofs.WaitingEntries.{row_of_entry}
use Rattle.pblk_model.proofs.Lists.{IsAmong}
use Rattle.pblk_model.proofs.Parts.{all_at, all_by_get}
use Rattle.pblk_model.proofs.Tests.{either_false, same_number}
use Rattle.pblk_model.proofs.Maps.{all_mapped}

-- ---- rows

one_length : (rows : List Hold) (q : ℕ) → length (row_lost rows q) ≡ length rows
one_length rows q = go (row_at rows q)
  where
    go : (o : Option Hold) → length (option_map_or (λ h. slice_set rows (q % length rows) (without_line h)) o rows) ≡ length rows
    go None = refl
    go (Some h) = length-set rows (q % length rows) (without_line h)

pub rows_length : (qs : List ℕ) (rows : List Hold) → length (lost_rows rows qs) ≡ length rows
rows_length [] rows = refl
rows_length (q ∷ qs) rows = rows_length qs (row_lost rows q) ∙ one_length rows q

abbrev row_if : Bool → Hold → Hold
row_if true h = without_line h
row_if false h = h

row_else : (n p q : ℕ) (rows : List Hold) (h : Hold) → length rows ≡ n → q % n ≢ p % n → slice_get rows (p % n) ≡ Some h
    → slice_get (row_lost rows q) (p % n) ≡ Some h
row_else n p q rows h count apart there = go (row_at rows q) ∙ there
  where
    go : (o : Option Hold) → slice_get (option_map_or (λ h. slice_set rows (q % length rows) (without_line h)) o rows) (p % n) ≡ slice_get rows (p % n)
    go None = refl
    go (Some h) = get_set_other rows (q % length rows) (p % n) (without_line h) (λ e. apart (ap (λ m. q % m) (sym count) ∙ sym e))

row_here : (n p q : ℕ) (rows : List Hold) (h : Hold) → length rows ≡ n → q ≡ p → slice_get rows (p % n) ≡ Some h
    → slice_get (row_lost rows q) (p % n) ≡ Some (without_line h)
row_here n p q rows h count same there =
    let at : row_at rows q ≡ Some h = ap₂ (λ a b. slice_get rows (a % b)) same count ∙ there in
    let inside : p % n < length rows = slice_get_within rows (p % n) h there in
    ap (λ o. slice_get (option_map_or (λ h. slice_set rows (q % length rows) (without_line h)) o rows) (p % n)) at
    ∙ get_set_same rows (q % length rows) (p % n) (without_line h) (ap₂ (λ a b. a % b) (sym same) (sym count))
    (subst (λ k. k < length rows) (ap₂ (λ a b. a % b) (sym same) (sym count)) inside)

row_after : (n p : ℕ) (qs : List ℕ) (rows : List Hold) (h : Hold) → length rows ≡ n → AreApart n p qs → slice_get rows (p % n) ≡ Some h
    → slice_get (lost_rows rows qs) (p % n) ≡ Some (row_if (list_any (λ q. q == p) qs) h)
row_after n p [] rows h count apart there = there
row_after n p (q ∷ qs) rows h count apart there =
    go (q == p) refl (λ g at. row_after n p qs (row_lost rows q) g (one_length rows q ∙ count) apart.1 at)
  where
    twice : (b : Bool) → row_if b (without_line h) ≡ without_line h
    twice true = refl
    twice false = refl

    go : (b : Bool) → (q == p) ≡ b
        → ((g : Hold) → slice_get (row_lost rows q) (p % n) ≡ Some g
        → slice_get (lost_rows (row_lost rows q) qs) (p % n) ≡ Some (row_if (list_any (λ q. q == p) qs) g))
        → slice_get (lost_rows (row_lost rows q) qs) (p % n) ≡ Some (row_if (b || list_any (λ q. q == p) qs) h)
    go true e rest = rest (without_line h) (row_here n p q rows h count (eqb-true q p e) there) ∙ ap (λ x. Some x) (twice (list_any (λ q. q == p) qs))
    go false e rest = rest h (row_else n p q rows h count (apart.0 (λ f. true_false (sym (ap (λ m. m == p) f ∙ same_number p) ∙ e))) there)
      where
        true_false : true ≡ false → ⊥
        true_false e = absurd cc

-- ---- the table

lowered_if : (log : List Logged) (line : ℕ) (table : Table) (t : Taken) (b : Bool)
    → (if b then table else lower_by (taker_of log t) line table) ≡ (if b then table else lower_by (if b then None else taker_by (later_take log t)) line table)
lowered_if log line table t true = refl
lowered_if log line table t false = ap (λ o. lower_by (taker_by o) line table) (sym (later_is_next log t))

lowered_shape : (b : Bool) (o : Option ℕ) (line : ℕ) (table : Table) → (if b then lower_by o line table else table).shape ≡ table.shape
lowered_shape true None line table = refl
lowered_shape true (Some by) line table = refl
lowered_shape false o line table = refl

pub lines_lowered_are : (s : Shape) (log : List Logged) (line : ℕ) (rows : List Hold) (table : Table) (ts : List Taken) → s.capacity ≤ meta_lba
    → table.shape ≡ s → AllByRecursion (λ (t : Taken). is_some (named s t.mark) ≡ true) ts
    → AllByRecursion (λ (t : Taken). row_at rows t.entry.position ≡ Some (hold_of s log t)) ts
    → lowered_lines rows line table (positions_of ts) ≡ lower_entries log line table ts
lines_lowered_are s log line rows table [] small same names all = refl
lines_lowered_are s log line rows table (t ∷ ts) small same names all =
    let its : lower_entry log line table t ≡ lower_hold line table (Some (hold_of s log t)) =
    ap (λ (z : Shape). if nat_lt t.mark.lba z.capacity then lower_by (taker_of log t) line table else table) same
    ∙ by_name s t (lower_by (taker_of log t) line table) table small names.0 ∙ lowered_if log line table t (t.mark.lba == void_lba) in
    ap (λ (u : Table). lowered_lines rows line u (positions_of ts)) (ap (lower_hold line table) all.0 ∙ sym its)
    ∙ lines_lowered_are s log line rows (lower_entry log line table t) ts small
    (lowered_shape (nat_lt t.mark.lba table.shape.capacity) (taker_of log t) line table ∙ same) names.1 all.1

-- ---- the rows by the log

module _ (i : Image) (w : World) (c : Core) (unit event : ℕ) (knows : List ℕ) (of : Program) (mount : IsLegalMount i w) (st : Stands i (log_of w) c)
    (is : IsOnWay i w unit of) (its : AreEntriesOf i w c unit of is) where
  lost : IsOneLost (log_of w 0) (after (log_of w) (Lost unit event) knows 0) is.row.stripe
  lost = one_lost (log_of w 0) unit event knows is.row.stripe is.row.waits

  among : AllByRecursion (IsAmong (takes (log_of w 0))) its.entries
  among = subst (AllByRecursion (IsAmong (takes (log_of w 0)))) its.are (HasEntries.among its.its)

  held : (q : ℕ) → holds_position i.shape q is.row.stripe ≡ list_any (λ m. m == q) of.positions
  held q = stripe_holds i.shape q is.row.stripe ∙ ap (λ qs. is_in_list qs q) (sym (positions_are i w unit of is))

  -- the places of its entries are theirs alone
  apart : (t : Taken) (k : ℕ) → slice_get (takes (log_of w 0)) k ≡ Some t → is_given_back i.shape (log_of w 0) t.entry.position ≡ false
      → AreApart i.shape.ring t.entry.position of.positions
  apart t k there kept = subst (AreApart i.shape.ring t.entry.position) its.positions
      (all_mapped (λ q. q ≢ t.entry.position → q % i.shape.ring ≢ t.entry.position % i.shape.ring) (λ (u : Taken). u.entry.position) its.entries
      (all_by_get (λ (u : Taken). u.entry.position ≢ t.entry.position → u.entry.position % i.shape.ring ≢ t.entry.position % i.shape.ring) its.entries
      (λ n u e other same.
      let at : IsAmong (takes (log_of w 0)) u = all_at (IsAmong (takes (log_of w 0))) its.entries n u e among in
      let row = all_at (λ (u : Taken). row_at c.holds.rows.items u.entry.position ≡ Some (hold_of i.shape (log_of w 0) u)) its.entries n u e its.rows in
      other (one_row i w c u t at.0 k mount at.1 there row (row_of_entry i w c t k st there kept)
      (ap (λ m. u.entry.position % m) st.holds.room ∙ same ∙ sym (ap (λ m. t.entry.position % m) st.holds.room))))))

  row_now : (t : Taken) (b : Bool) → list_any (λ m. m == t.entry.position) of.positions ≡ b
      → row_if b (hold_of i.shape (log_of w 0) t) ≡ hold_of i.shape (after (log_of w) (Lost unit event) knows 0) t
  row_now t b e = go b (line_lost i.shape (log_of w 0) (after (log_of w) (Lost unit event) knows 0) is.row.stripe t.entry.position (ordered i w mount).once lost
      ∙ ap (λ x. if x then None else placed_line i.shape (log_of w 0) t.entry.position) (held t.entry.position ∙ e))
    where
      taker_same : taker_in t (later_take (after (log_of w) (Lost unit event) knows 0) t) ≡ taker_in t (later_take (log_of w 0) t)
      taker_same = ap (taker_in t) (later_same (log_of w 0) (record { event = Decides (Lost unit event); knows = knows }) t refl)

      with_line_of : (a : Option ℕ) → placed_line i.shape (after (log_of w) (Lost unit event) knows 0) t.entry.position ≡ a
          → ◌≡◌ {A = Hold} (record { mark = t.mark; line = a; taker = taker_in t (later_take (log_of w 0) t) })
          (hold_of i.shape (after (log_of w) (Lost unit event) knows 0) t)
      with_line_of a f = λ j. record { mark = t.mark; line = sym f j; taker = sym taker_same j }

      go : (b : Bool) → placed_line i.shape (after (log_of w) (Lost unit event) knows 0) t.entry.position
          ≡ (if b then None else placed_line i.shape (log_of w 0) t.entry.position)
          → row_if b (hold_of i.shape (log_of w 0) t) ≡ hold_of i.shape (after (log_of w) (Lost unit event) knows 0) t
      go true f = with_line_of None f
      go false f = with_line_of (placed_line i.shape (log_of w 0) t.entry.position) f

  pub holds_lost : (new : Holds) → new.rows.items ≡ lost_rows c.holds.rows.items of.positions
      → AreHolds i.shape (after (log_of w) (Lost unit event) knows 0) new
  holds_lost new rows = record {
    room = ap (λ (rs : List Hold). length rs) rows ∙ rows_length of.positions c.holds.rows.items ∙ st.holds.room;
    each = λ t there given.
        let at : Contains (takes (log_of w 0)) t = subst (λ (ts : List Taken). Contains ts t)
        (takes_more (log_of w 0) (record { event = Decides (Lost unit event); knows = knows }) ∙ append-nil (takes (log_of w 0))) there in
        let before : is_given_back i.shape (log_of w 0) t.entry.position ≡ false =
        (either_false (is_given_back i.shape (log_of w 0) t.entry.position) _
        (sym (given_lost i.shape (log_of w 0) (after (log_of w) (Lost unit event) knows 0) is.row.stripe is.row.opening t.entry.position lost is.row.life)
        ∙ given)).0 in
        let number : slice_get (takes (log_of w 0)) at.0 ≡ Some t = slice_get-get_or (takes (log_of w 0)) at.0 t at.1 ∙ ap (λ x. Some x) at.2 in
        ap (λ rs. slice_get rs (t.entry.position % i.shape.ring)) rows
        ∙ row_after i.shape.ring t.entry.position of.positions c.holds.rows.items (hold_of i.shape (log_of w 0) t) st.holds.room
        (apart t at.0 number before) (st.holds.each t at before)
        ∙ ap (λ x. Some x) (row_now t (list_any (λ m. m == t.entry.position) of.positions) refl);
  }

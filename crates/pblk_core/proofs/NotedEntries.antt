-- The entries of a program under way, as they were taken, and what the table notes of them once
-- they have landed.
use Rattle.std.proofs.Common.{◌≡◌, ◌≢◌, ℕ, ◌==◌, ◌&&◌, ◌||◌, Bool, true, false, Some, None, Option, List, [], ◌∷◌, length, refl, sym, ap, ap₂, ◌∙◌, length-set}
use Rattle.std.specs.Prelude.{slice_get, slice_set}
use Rattle.std.specs.List.{AllByRecursion, list_any}
use Rattle.std.specs.Option.{is_some, option_map, option_map_or}
use Rattle.std.proofs.lemmas.Option.{slice_get-map, slice_get_within}
use Rattle.pblk_model.specs.Image.{Image}
use Rattle.pblk_model.specs.Records.{named}
use Rattle.pblk_world.specs.Events.{Logged}
use Rattle.pblk_world.specs.World.{World, log_of}
use Rattle.pblk_world.specs.EngineLog.{Taken, takes, Placed, placements, is_land, is_loss, has_landed, holds_position}
use Rattle.pblk_world.specs.Fronts.{has_landed_at}
use Rattle.pblk_world.specs.Victims.{landed_line}
use Rattle.line_table.specs.declared.row.Row.{Row}
use Rattle.line_table.specs.Rows.{Table, IsRow, noted}
use Rattle.line_table.proofs.Places.{get_set_same}
use Rattle.stripe_placer.specs.Placing.{Program}
use Rattle.core_laws.specs.PlacerOf.{positions_of}
use Rattle.pblk_world.specs.LegalMounts.{IsLegalMount}
use Rattle.core_laws.specs.WindowOf.{is_given_back}
use Rattle.core_laws.proofs.StillWaiting.{holds_is as bears_is}
use Rattle.core_laws.proofs.Growing.{given_landed}
use Rattle.core_laws.proofs.HeldOnce.{held_once}
use Rattle.core_laws.proofs.LandedStripe.{one_more}
use Rattle.core_laws.proofs.NewlyHeld.{member_of}
use Rattle.core_laws.specs.ChangedTables.{note_by, with_row}
use Rattle.core_laws.proofs.LandedEntries.{AreItsEntries}
use Rattle.core_laws.proofs.UsersEntries.{in_order}
use Rattle.core_laws.proofs.LogOrders.{small_capacity}
use Rattle.core_laws.proofs.PlacedEntryRows.{IsEntry, entry_at}
use Rattle.core_laws.proofs.PlacedPlaces.{BearsThese, turned_round}
use Rattle.core_laws.proofs.PlacedInOrder.{HasEntries, ordered}
use Rattle.core_laws.proofs.PlacedAnew.{landed_not_lost}
use Rattle.core_laws.proofs.Answered.{first_unanswered}
use Rattle.pblk_core.specs.Entries.{note_hold, noted_lines}
use Rattle.pblk_core.specs.Holds.{hold_of, row_at}
use Rattle.pblk_core.specs.Stands.{Stands}
use Rattle.pblk_core.specs.declared.hold.Hold.{Hold}
use Rattle.pblk_core.specs.declared.target_core.Core.{Core}
use Rattle.pblk_core.proofs.LandedCore.{holds_it, positions_are}
use Rattle.pblk_core.proofs.LandedWay.{IsOnWay}
use Rattle.pblk_world.proofs.Takers.{not_landed_line}
use Rattle.pblk_core.proofs.WaitingEntries.{row_of_entry}
use Rattle.pblk_model.proofs.Lists.{IsAmong, all_imply}
use Rattle.pblk_model.proofs.Parts.{all_at, all_by_get, get_set_other}
use Rattle.pblk_model.proofs.Tests.{first_of, second_of}

-- ---- the entries

any_of : (q : ℕ) (ts : List Taken) → list_any (λ m. m == q) (positions_of ts) ≡ list_any (λ (t : Taken). q == t.entry.position) ts
any_of q [] = refl
any_of q (t ∷ ts) = ap₂ (λ a b. a || b) (turned_round t.entry.position q) (any_of q ts)

-- what its stripe holds hasn't landed
own_not_landed : (i : Image) (w : World) (unit : ℕ) (of : Program) (q : ℕ) → IsLegalMount i w → (is : IsOnWay i w unit of)
    → holds_position i.shape q is.row.stripe ≡ true → has_landed_at i.shape (log_of w 0) q ≡ false
own_not_landed i w unit of q mount is held = go (has_landed_at i.shape (log_of w 0) q) refl
  where
    go : (b : Bool) → has_landed_at i.shape (log_of w 0) q ≡ b → b ≡ false
    go false e = refl
    go true e =
        let m = member_of (λ p. has_landed (log_of w 0) p && holds_position i.shape q p) (placements (log_of w 0)) e in
        let same : m.0 ≡ is.row.stripe =
        held_once i w mount q m.0 is.row.stripe m.2 (first_unanswered (log_of w 0) unit is.row.stripe is.row.waits).among
        (second_of (has_landed (log_of w 0) m.0) (holds_position i.shape q m.0) m.1) held
        (landed_not_lost (log_of w 0) m.0 (first_of (has_landed (log_of w 0) m.0) (holds_position i.shape q m.0) m.1))
        (ap is_loss (one_more (log_of w 0) unit 0 [] is.row.stripe is.row.waits).before) in
        let yes : has_landed (log_of w 0) is.row.stripe ≡ true = ap (has_landed (log_of w 0)) (sym same)
        ∙ first_of (has_landed (log_of w 0) m.0) (holds_position i.shape q m.0) m.1 in
        let no : has_landed (log_of w 0) is.row.stripe ≡ false = ap is_land (one_more (log_of w 0) unit 0 [] is.row.stripe is.row.waits).before in
        absurd (cc (sym yes ∙ no))

pub record AreEntriesOf (i : Image) (w : World) (c : Core) (unit : ℕ) (of : Program) (is : IsOnWay i w unit of) : Type 0 where
  pub its : HasEntries i.shape (log_of w 0) is.row.stripe.stripe
  pub entries : List Taken
  pub are : its.entries ≡ entries
  pub positions : positions_of entries ≡ of.positions
  pub own : AreItsEntries i (log_of w) is.row.stripe entries
  pub names : AllByRecursion (λ (t : Taken). is_some (named i.shape t.mark) ≡ true) entries
  pub rows : AllByRecursion (λ (t : Taken). row_at c.holds.rows.items t.entry.position ≡ Some (hold_of i.shape (log_of w 0) t)) entries

pub entries_of_way : (i : Image) (w : World) (c : Core) (unit : ℕ) (of : Program) → IsLegalMount i w → Stands i (log_of w) c → (is : IsOnWay i w unit of)
    → AreEntriesOf i w c unit of is
unfolding BearsThese
entries_of_way i w c unit of mount st is = record {
  its = its;
  entries = its.entries;
  are = refl;
  positions = sym its.positions ∙ sym (positions_are i w unit of is);
  own = record {
    bears = λ q. bears_is i.shape q is.row.stripe.stripe.blocks ∙ ap (list_any (λ m. m == q)) its.positions ∙ any_of q its.entries;
    rising = its.rising;
    among = all_imply (IsAmong (takes log)) (IsEntry (takes log)) (λ t there. entry_at (takes log) there.0 t there.1) its.entries its.among;
    nowhere = all_by_get (λ (t : Taken). landed_line i.shape log t.entry.position ≡ None) its.entries
        (λ n t at. not_landed_line i.shape log t.entry.position (away n t at));
  };
  names = all_imply (IsAmong (takes log)) (λ (t : Taken). is_some (named i.shape t.mark) ≡ true)
      (λ t there. all_at (λ (t : Taken). is_some (named i.shape t.mark) ≡ true) (takes log) there.0 t there.1
      (in_order i w (small_capacity i mount.accepted) mount.legal).named) its.entries its.among;
  rows = all_by_get (λ (t : Taken). row_at c.holds.rows.items t.entry.position ≡ Some (hold_of i.shape log t)) its.entries (λ n t at.
      let there : IsAmong (takes log) t = all_at (IsAmong (takes log)) its.entries n t at its.among in
      row_of_entry i w c t there.0 st there.1 (not_given t (away n t at) (is_given_back i.shape log t.entry.position) refl));
}
  where
    log : List Logged
    log = log_of w 0

    among : IsAmong (placements log) is.row.stripe
    among = (first_unanswered (log_of w 0) unit is.row.stripe is.row.waits).among

    its : HasEntries i.shape (log_of w 0) is.row.stripe.stripe
    its = all_at (λ (p : Placed). HasEntries i.shape (log_of w 0) p.stripe) (placements log) among.0 is.row.stripe among.1
        (ordered i w mount).entries

    away : (n : ℕ) (t : Taken) → slice_get its.entries n ≡ Some t → has_landed_at i.shape (log_of w 0) t.entry.position ≡ false
    away n t at = own_not_landed i w unit of t.entry.position mount is (holds_it i w unit of n t.entry.position is
        (ap (λ qs. slice_get qs n) (positions_are i w unit of is ∙ its.positions) ∙ slice_get-map (λ (t : Taken). t.entry.position) its.entries n
        ∙ ap (option_map (λ (t : Taken). t.entry.position)) at))

    not_given : (t : Taken) → has_landed_at i.shape (log_of w 0) t.entry.position ≡ false → (b : Bool) → is_given_back i.shape (log_of w 0) t.entry.position ≡ b
        → b ≡ false
    not_given t none false e = refl
    not_given t none true e = absurd (cc (sym none ∙ given_landed i.shape (log_of w 0) t.entry.position e))

-- ---- the row of their line

-- a row of which the taker alone may differ
pub record IsLike (row new : Row) : Type 0 where
  pub state : new.state ≡ row.state
  pub width : new.width ≡ row.width

note_row : (line : ℕ) (t : Table) (o : Option Hold) (row : Row) → IsRow t line row → (new : Row) × IsRow (note_hold line t o) line new × IsLike row new
note_row line t None row there = (row, there, record { state = refl; width = refl })
note_row line t (Some h) row there = go h.taker
  where
    go : (o : Option ℕ) → (new : Row) × IsRow (note_by o line t) line new × IsLike row new
    go None = (row, there, record { state = refl; width = refl })
    go (Some by) = (
      noted by row,
      ap (λ o. slice_get (option_map_or (λ r. slice_set t.rows line (noted by r)) o t.rows) line) there
          ∙ get_set_same t.rows line line (noted by row) refl (slice_get_within t.rows line row there),
      record { state = refl; width = refl },
    )

pub noted_row : (rows : List Hold) (line : ℕ) (qs : List ℕ) (t : Table) (row : Row) → IsRow t line row
    → (new : Row) × IsRow (noted_lines rows line t qs) line new × IsLike row new
noted_row rows line [] t row there = (row, there, record { state = refl; width = refl })
noted_row rows line (q ∷ qs) t row there =
    let one = note_row line t (row_at rows q) row there in
    let rest = noted_row rows line qs (note_hold line t (row_at rows q)) one.0 one.1 in
    (rest.0, rest.1, record { state = rest.2.state ∙ one.2.state; width = rest.2.width ∙ one.2.width })

pub note_shape : (rows : List Hold) (line : ℕ) (qs : List ℕ) (t : Table) → (noted_lines rows line t qs).shape ≡ t.shape
note_shape rows line [] t = refl
note_shape rows line (q ∷ qs) t = note_shape rows line qs (note_hold line t (row_at rows q)) ∙ one (row_at rows q)
  where
    by_taker : (o : Option ℕ) → (note_by o line t).shape ≡ t.shape
    by_taker None = refl
    by_taker (Some by) = refl

    one : (o : Option Hold) → (note_hold line t o).shape ≡ t.shape
    one None = refl
    one (Some h) = by_taker h.taker

pub row_count : (line : ℕ) (change : Row → Row) (t : Table) → length (with_row line change t).rows ≡ length t.rows
row_count line change t = go (slice_get t.rows line)
  where
    go : (o : Option Row) → length (option_map_or (λ r. slice_set t.rows line (change r)) o t.rows) ≡ length t.rows
    go None = refl
    go (Some r) = length-set t.rows line (change r)

pub row_elsewhere : (line other : ℕ) (change : Row → Row) (t : Table) → other ≢ line → slice_get (with_row line change t).rows other ≡ slice_get t.rows other
row_elsewhere line other change t apart = go (slice_get t.rows line)
  where
    go : (o : Option Row) → slice_get (option_map_or (λ row. slice_set t.rows line (change row)) o t.rows) other ≡ slice_get t.rows other
    go None = refl
    go (Some row) = get_set_other t.rows line other (change row) apart

pub note_length : (rows : List Hold) (line : ℕ) (qs : List ℕ) (t : Table) → length (noted_lines rows line t qs).rows ≡ length t.rows
note_length rows line [] t = refl
note_length rows line (q ∷ qs) t = note_length rows line qs (note_hold line t (row_at rows q)) ∙ one (row_at rows q)
  where
    set : (by : ℕ) (o : Option Row) → length (option_map_or (λ r. slice_set t.rows line (noted by r)) o t.rows) ≡ length t.rows
    set by None = refl
    set by (Some r) = length-set t.rows line (noted by r)

    by_taker : (o : Option ℕ) → length (note_by o line t).rows ≡ length t.rows
    by_taker None = refl
    by_taker (Some by) = set by (slice_get t.rows line)

    one : (o : Option Hold) → length (note_hold line t o).rows ≡ length t.rows
    one None = refl
    one (Some h) = by_taker h.taker

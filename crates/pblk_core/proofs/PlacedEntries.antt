-- The rows beside the entries and the table of lines, once the entries of a stripe are placed, and
-- once they have landed.
use Rattle.std.proofs.Common.{◌≡◌, ◌≢◌, ℕ, ◌<◌, ◌≤◌, ◌%◌, ◌==◌, ◌&&◌, ◌||◌, nat_eq, nat_lt, Bool, true, false, Some, None, Option, List, [], ◌∷◌, length, take, refl, sym, subst, ap, ap₂, ◌∙◌, arith, length-set}
use Rattle.std.specs.Prelude.{if◌then◌else◌, is_some, slice_get, slice_set}
use Rattle.std.specs.List.{AllByRecursion, Contains, list_any}
use Rattle.std.specs.Option.{option_map, option_map_or}
use Rattle.std.proofs.lemmas.Bool.{eqb-true}
use Rattle.std.proofs.lemmas.Option.{same_Some, slice_get_within, slice_get-get_or}
use Rattle.pblk_model.specs.declared.shape.Shape.{Shape}
use Rattle.pblk_model.specs.Image.{Image}
use Rattle.pblk_model.specs.Marks.{meta_lba, void_lba}
use Rattle.pblk_model.specs.Records.{named}
use Rattle.pblk_world.specs.Events.{Stripe, Place, Decides, Logged}
use Rattle.pblk_world.specs.World.{World, log_of}
use Rattle.pblk_world.specs.EngineLog.{Opening, Taken, takes, bears_position}
use Rattle.line_table.specs.Rows.{Table}
use Rattle.line_table.proofs.Places.{get_set_same, get_set_other}
use Rattle.core_laws.specs.ChangedTables.{note_by}
use Rattle.core_laws.specs.PlacedEntries.{next_take, taker_of, place_by, place_entry, place_entries, note_entry, note_entries}
use Rattle.core_laws.specs.PlacerOf.{positions_of, positions_in_stripe}
use Rattle.pblk_world.specs.Fronts.{waiting}
use Rattle.pblk_world.specs.LegalMounts.{IsLegalMount}
use Rattle.core_laws.specs.WindowOf.{is_given_back}
use Rattle.core_laws.proofs.Placing.{with_place, IsPlacing}
use Rattle.core_laws.proofs.PlacedInOrder.{ordered}
use Rattle.core_laws.proofs.EntryHolds.{later_same, line_of_others, line_of_stripe}
use Rattle.pblk_core.specs.Stands.{Stands}
use Rattle.pblk_core.specs.declared.target_core.Core.{Core}
use Rattle.pblk_core.proofs.StandsFacts.{ring_some}
use Rattle.pblk_core.proofs.WaitingEntries.{IsWaiting, waiting_at, row_of_entry}
use Rattle.core_laws.proofs.TakenSlots.{find_same}
use Rattle.core_laws.proofs.StillWaiting.{holds_is as bears_is}
use Rattle.core_laws.specs.EntryHolds.{later_take, placed_line}
use Rattle.pblk_core.specs.Entries.{with_line, row_placed, placed_rows, place_hold, placed_lines, note_hold, noted_lines}
use Rattle.pblk_core.specs.Holds.{hold_of, row_at, taker_in}
use Rattle.pblk_core.specs.declared.hold.Hold.{Hold}
use Rattle.pblk_model.proofs.Parts.{all_at, all_by_get, get_whole}
use Rattle.pblk_model.proofs.Tests.{same_number}
use Rattle.pblk_model.proofs.Maps.{all_mapped}

-- ---- rows

one_length : (line : ℕ) (rows : List Hold) (q : ℕ) → length (row_placed line rows q) ≡ length rows
one_length line rows q = go (row_at rows q)
  where
    go : (o : Option Hold) → length (option_map_or (λ h. slice_set rows (q % length rows) (with_line line h)) o rows) ≡ length rows
    go None = refl
    go (Some h) = length-set rows (q % length rows) (with_line line h)

pub rows_length : (line : ℕ) (qs : List ℕ) (rows : List Hold) → length (placed_rows line rows qs) ≡ length rows
rows_length line [] rows = refl
rows_length line (q ∷ qs) rows = rows_length line qs (row_placed line rows q) ∙ one_length line rows q

-- the row of a position is changed where it is one of these, of which no other has its place
abbrev pub AreApart : ℕ → ℕ → List ℕ → Type 0
AreApart n p qs = AllByRecursion (λ q. q ≢ p → q % n ≢ p % n) qs

abbrev pub row_if : Bool → ℕ → Hold → Hold
row_if true line h = with_line line h
row_if false line h = h

row_else : (line n p q : ℕ) (rows : List Hold) (h : Hold) → length rows ≡ n → q % n ≢ p % n → slice_get rows (p % n) ≡ Some h
    → slice_get (row_placed line rows q) (p % n) ≡ Some h
row_else line n p q rows h count apart there = go (row_at rows q) ∙ there
  where
    go : (o : Option Hold) → slice_get (option_map_or (λ h. slice_set rows (q % length rows) (with_line line h)) o rows) (p % n) ≡ slice_get rows (p % n)
    go None = refl
    go (Some h) = get_set_other rows (q % length rows) (p % n) (with_line line h) (λ e. apart (ap (λ m. q % m) (sym count) ∙ sym e))

row_here : (line n p q : ℕ) (rows : List Hold) (h : Hold) → 0 < n → length rows ≡ n → q ≡ p → slice_get rows (p % n) ≡ Some h
    → slice_get (row_placed line rows q) (p % n) ≡ Some (with_line line h)
row_here line n p q rows h some count same there =
    let at : row_at rows q ≡ Some h = ap₂ (λ a b. slice_get rows (a % b)) same count ∙ there in
    let inside : p % n < length rows = slice_get_within rows (p % n) h there in
    ap (λ o. slice_get (option_map_or (λ h. slice_set rows (q % length rows) (with_line line h)) o rows) (p % n)) at
    ∙ get_set_same rows (q % length rows) (p % n) (with_line line h) (ap₂ (λ a b. a % b) (sym same) (sym count))
    (subst (λ k. k < length rows) (ap₂ (λ a b. a % b) (sym same) (sym count)) inside)

pub row_after : (line n p : ℕ) (qs : List ℕ) (rows : List Hold) (h : Hold) → 0 < n → length rows ≡ n → AreApart n p qs → slice_get rows (p % n) ≡ Some h
    → slice_get (placed_rows line rows qs) (p % n) ≡ Some (row_if (list_any (λ q. q == p) qs) line h)
row_after line n p [] rows h some count apart there = there
row_after line n p (q ∷ qs) rows h some count apart there =
    go (q == p) refl (λ g at. row_after line n p qs (row_placed line rows q) g some (one_length line rows q ∙ count) apart.1 at)
  where
    twice : (b : Bool) → row_if b line (with_line line h) ≡ with_line line h
    twice true = refl
    twice false = refl

    go : (b : Bool) → (q == p) ≡ b
        → ((g : Hold) → slice_get (row_placed line rows q) (p % n) ≡ Some g
        → slice_get (placed_rows line (row_placed line rows q) qs) (p % n) ≡ Some (row_if (list_any (λ q. q == p) qs) line g))
        → slice_get (placed_rows line (row_placed line rows q) qs) (p % n) ≡ Some (row_if (b || list_any (λ q. q == p) qs) line h)
    go true e rest = rest (with_line line h) (row_here line n p q rows h some count (eqb-true q p e) there) ∙ ap Some (twice (list_any (λ q. q == p) qs))
    go false e rest = rest h (row_else line n p q rows h count (apart.0 (λ f. true_false (sym (ap (λ m. m == p) f ∙ same_number p) ∙ e))) there)
      where
        true_false : true ≡ false → ⊥
        true_false e = absurd cc

-- ---- the table

pub later_is_next : (log : List Logged) (t : Taken) → later_take log t ≡ next_take log t
later_is_next log t =
    find_same (λ (u : Taken). nat_lt t.entry.position u.entry.position && (u.mark.lba == t.mark.lba))
    (λ (u : Taken). (u.mark.lba == t.mark.lba) && nat_lt t.entry.position u.entry.position)
    (λ u. swapped (nat_lt t.entry.position u.entry.position) (u.mark.lba == t.mark.lba)) (takes log)
  where
    swapped : (a b : Bool) → (a && b) ≡ (b && a)
    swapped true true = refl
    swapped true false = refl
    swapped false true = refl
    swapped false false = refl

abbrev pub taker_by : Option Taken → Option ℕ
taker_by o = option_map (λ (u : Taken). u.entry.position) o

-- an entry that is of a sector or Void is of a sector where it isn't Void
pub by_name : {X : Type 0} (s : Shape) (t : Taken) (x y : X) → s.capacity ≤ meta_lba → is_some (named s t.mark) ≡ true
    → (if nat_lt t.mark.lba s.capacity then x else y) ≡ (if t.mark.lba == void_lba then y else x)
by_name s t x y small names = go (nat_lt t.mark.lba s.capacity) refl (t.mark.lba == void_lba) refl names
  where
    go : (a : Bool) → nat_lt t.mark.lba s.capacity ≡ a → (b : Bool) → nat_eq t.mark.lba void_lba ≡ b
        → is_some (if a then Some (Some t.mark.lba) else (if b then Some None else None)) ≡ true → (if a then x else y) ≡ (if b then y else x)
    go true e true f names =
        let low : t.mark.lba < s.capacity = grind arith in
        let void : t.mark.lba ≡ void_lba = eqb-true t.mark.lba void_lba f in
        absurd (omega arith)
    go true e false f names = refl
    go false e true f names = refl
    go false e false f names = absurd cc

placed_if : (log : List Logged) (line : ℕ) (table : Table) (t : Taken) (b : Bool)
    → (if b then table else place_by (taker_of log t) line table) ≡ (if b then table else place_by (if b then None else taker_by (later_take log t)) line table)
placed_if log line table t true = refl
placed_if log line table t false = ap (λ o. place_by (taker_by o) line table) (sym (later_is_next log t))

noted_if : (log : List Logged) (line : ℕ) (table : Table) (t : Taken) (b : Bool)
    → (if b then table else note_by (taker_of log t) line table) ≡ note_by (if b then None else taker_by (later_take log t)) line table
noted_if log line table t true = refl
noted_if log line table t false = ap (λ o. note_by (taker_by o) line table) (sym (later_is_next log t))

placed_shape : (b : Bool) (o : Option ℕ) (line : ℕ) (table : Table) → (if b then place_by o line table else table).shape ≡ table.shape
placed_shape true None line table = refl
placed_shape true (Some by) line table = refl
placed_shape false o line table = refl

noted_shape : (b : Bool) (o : Option ℕ) (line : ℕ) (table : Table) → (if b then note_by o line table else table).shape ≡ table.shape
noted_shape true None line table = refl
noted_shape true (Some by) line table = refl
noted_shape false o line table = refl

pub lines_placed_are : (s : Shape) (log : List Logged) (line : ℕ) (rows : List Hold) (table : Table) (ts : List Taken) → s.capacity ≤ meta_lba
    → table.shape ≡ s → AllByRecursion (λ (t : Taken). is_some (named s t.mark) ≡ true) ts
    → AllByRecursion (λ (t : Taken). row_at rows t.entry.position ≡ Some (hold_of s log t)) ts
    → placed_lines rows line table (positions_of ts) ≡ place_entries log line table ts
lines_placed_are s log line rows table [] small same names all = refl
lines_placed_are s log line rows table (t ∷ ts) small same names all =
    let its : place_entry log line table t ≡ place_hold line table (Some (hold_of s log t)) =
    ap (λ (z : Shape). if nat_lt t.mark.lba z.capacity then place_by (taker_of log t) line table else table) same
    ∙ by_name s t (place_by (taker_of log t) line table) table small names.0 ∙ placed_if log line table t (t.mark.lba == void_lba) in
    ap (λ (u : Table). placed_lines rows line u (positions_of ts)) (ap (place_hold line table) all.0 ∙ sym its)
    ∙ lines_placed_are s log line rows (place_entry log line table t) ts small
    (placed_shape (nat_lt t.mark.lba table.shape.capacity) (taker_of log t) line table ∙ same) names.1 all.1

pub lines_noted_are : (s : Shape) (log : List Logged) (line : ℕ) (rows : List Hold) (table : Table) (ts : List Taken) → s.capacity ≤ meta_lba
    → table.shape ≡ s → AllByRecursion (λ (t : Taken). is_some (named s t.mark) ≡ true) ts
    → AllByRecursion (λ (t : Taken). row_at rows t.entry.position ≡ Some (hold_of s log t)) ts
    → noted_lines rows line table (positions_of ts) ≡ note_entries log line table ts
lines_noted_are s log line rows table [] small same names all = refl
lines_noted_are s log line rows table (t ∷ ts) small same names all =
    let its : note_entry log line table t ≡ note_hold line table (Some (hold_of s log t)) =
    ap (λ (z : Shape). if nat_lt t.mark.lba z.capacity then note_by (taker_of log t) line table else table) same
    ∙ by_name s t (note_by (taker_of log t) line table) table small names.0 ∙ noted_if log line table t (t.mark.lba == void_lba) in
    ap (λ (u : Table). noted_lines rows line u (positions_of ts)) (ap (note_hold line table) all.0 ∙ sym its)
    ∙ lines_noted_are s log line rows (note_entry log line table t) ts small
    (noted_shape (nat_lt t.mark.lba table.shape.capacity) (taker_of log t) line table ∙ same) names.1 all.1

-- ---- the rows by the log

unplaced_among : (s : Shape) (log : List Logged) (p : ℕ) (ts : List Taken) → AllByRecursion (λ (t : Taken). placed_line s log t.entry.position ≡ None) ts
    → list_any (λ q. q == p) (positions_of ts) ≡ true → placed_line s log p ≡ None
unplaced_among s log p [] all e = absurd cc
unplaced_among s log p (t ∷ ts) all e = go (t.entry.position == p) refl e (unplaced_among s log p ts all.1)
  where
    go : (b : Bool) → (t.entry.position == p) ≡ b → (b || list_any (λ q. q == p) (positions_of ts)) ≡ true
        → (list_any (λ q. q == p) (positions_of ts) ≡ true → placed_line s log p ≡ None) → placed_line s log p ≡ None
    go true f g rest = ap (placed_line s log) (sym (eqb-true t.entry.position p f)) ∙ all.0
    go false f g rest = rest g

-- two entries whose rows stand at one place are one
pub one_row : (i : Image) (w : World) (c : Core) (t u : Taken) (j k : ℕ) → IsLegalMount i w → slice_get (takes (log_of w 0)) j ≡ Some t
    → slice_get (takes (log_of w 0)) k ≡ Some u
    → row_at c.holds.rows.items t.entry.position ≡ Some (hold_of i.shape (log_of w 0) t)
    → row_at c.holds.rows.items u.entry.position ≡ Some (hold_of i.shape (log_of w 0) u)
    → t.entry.position % length c.holds.rows.items ≡ u.entry.position % length c.holds.rows.items → t.entry.position ≡ u.entry.position
one_row i w c t u j k mount at bt a b same =
    let marked = (ordered i w mount).marked in
    let hold : hold_of i.shape (log_of w 0) t ≡ hold_of i.shape (log_of w 0) u =
    same_Some (hold_of i.shape (log_of w 0) t) (hold_of i.shape (log_of w 0) u) (sym a ∙ ap (slice_get c.holds.rows.items) same ∙ b) in
    sym (all_at (λ (t : Taken). t.mark.position ≡ t.entry.position) (takes (log_of w 0)) j t at marked)
    ∙ ap (λ (h : Hold). h.mark.position) hold
    ∙ all_at (λ (t : Taken). t.mark.position ≡ t.entry.position) (takes (log_of w 0)) k u bt marked

-- the row of each entry that isn't given back, once the first that wait are placed
pub row_placed_is : (i : Image) (w : World) (c : Core) (stripe : Stripe) (knows : List ℕ) (o : Opening) (n : ℕ) (t : Taken) → IsLegalMount i w
    → Stands i (log_of w) c → IsPlacing (log_of w 0) stripe o
    → positions_in_stripe i.shape stripe ≡ positions_of (take n (waiting i.shape (log_of w 0))) → Contains (takes (log_of w 0)) t
    → is_given_back i.shape (log_of w 0) t.entry.position ≡ false
    → slice_get (placed_rows stripe.line c.holds.rows.items (positions_of (take n (waiting i.shape (log_of w 0))))) (t.entry.position % i.shape.ring) ≡ Some
    (hold_of i.shape (with_place (log_of w 0) stripe knows) t)
row_placed_is i w c stripe knows o n t mount st placing positions among kept =
    row_after stripe.line i.shape.ring t.entry.position (positions_of ts) c.holds.rows.items (hold_of s log t)
    (ring_some s mount.accepted) st.holds.room apart row
    ∙ ap Some (go (list_any (λ q. q == t.entry.position) (positions_of ts)) refl)
  where
    s : Shape
    s = i.shape

    log : List Logged
    log = log_of w 0

    ts : List Taken
    ts = take n (waiting i.shape (log_of w 0))

    there : slice_get (takes (log_of w 0)) among.0 ≡ Some t
    there = slice_get-get_or (takes (log_of w 0)) among.0 t among.1 ∙ ap Some among.2

    row : slice_get c.holds.rows.items (t.entry.position % i.shape.ring) ≡ Some (hold_of i.shape (log_of w 0) t)
    row = st.holds.each t among kept

    wait : (k : ℕ) (u : Taken) → slice_get (take n (waiting i.shape (log_of w 0))) k ≡ Some u → IsWaiting i w c u
    wait k u e = waiting_at i w c k u mount st (get_whole n (waiting i.shape (log_of w 0)) k u e)

    apart : AreApart i.shape.ring t.entry.position (positions_of (take n (waiting i.shape (log_of w 0))))
    apart = all_mapped (λ q. q ≢ t.entry.position → q % i.shape.ring ≢ t.entry.position % i.shape.ring) (λ (u : Taken). u.entry.position)
        (take n (waiting i.shape (log_of w 0)))
        (all_by_get (λ (u : Taken). u.entry.position ≢ t.entry.position → u.entry.position % i.shape.ring ≢ t.entry.position % i.shape.ring)
        (take n (waiting i.shape (log_of w 0)))
        (λ k u e other same.
        let is : IsWaiting i w c u = wait k u e in
        other (one_row i w c u t is.number among.0 mount is.there there is.row (row_of_entry i w c t among.0 st there kept)
        (ap (λ m. u.entry.position % m) st.holds.room ∙ same ∙ sym (ap (λ m. t.entry.position % m) st.holds.room)))))

    bears : list_any (bears_position i.shape t.entry.position) stripe.blocks ≡ list_any (λ q. q == t.entry.position)
        (positions_of (take n (waiting i.shape (log_of w 0))))
    bears = bears_is i.shape t.entry.position stripe.blocks ∙ ap (list_any (λ q. q == t.entry.position)) positions

    taker_same : taker_in t (later_take (with_place (log_of w 0) stripe knows) t) ≡ taker_in t (later_take (log_of w 0) t)
    taker_same = ap (taker_in t) (later_same (log_of w 0) (record { event = Decides (Place stripe); knows = knows }) t refl)

    with_line_of : (a : Option ℕ) → a ≡ placed_line i.shape (with_place (log_of w 0) stripe knows) t.entry.position
        → ◌≡◌ {A = Hold} (record { mark = t.mark; line = a; taker = taker_in t (later_take (log_of w 0) t) })
        (hold_of i.shape (with_place (log_of w 0) stripe knows) t)
    with_line_of a e = λ j. record { mark = t.mark; line = e j; taker = sym taker_same j }

    go : (b : Bool) → list_any (λ q. q == t.entry.position) (positions_of (take n (waiting i.shape (log_of w 0)))) ≡ b
        → row_if b stripe.line (hold_of i.shape (log_of w 0) t) ≡ hold_of i.shape (with_place (log_of w 0) stripe knows) t
    go true e = with_line_of (Some stripe.line)
        (sym (line_of_stripe i.shape (log_of w 0) stripe knows o t.entry.position placing
        (unplaced_among i.shape (log_of w 0) t.entry.position (take n (waiting i.shape (log_of w 0)))
        (all_by_get (λ (u : Taken). placed_line i.shape (log_of w 0) u.entry.position ≡ None) (take n (waiting i.shape (log_of w 0)))
        (λ k u f. IsWaiting.unplaced (wait k u f))) e)
        (bears ∙ e)))
    go false e = with_line_of (placed_line i.shape (log_of w 0) t.entry.position)
        (sym (line_of_others i.shape (log_of w 0) stripe knows o t.entry.position placing (bears ∙ e)))

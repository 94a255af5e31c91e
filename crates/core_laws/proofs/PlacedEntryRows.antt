-- What the entries of a stripe make of the table, one after another, as they are placed and as they
-- land.
use Rattle.std.proofs.Common.{◌≡◌, ◌≢◌, ℕ, ◌+◌, ◌<◌, ◌≤◌, ◌==◌, ◌&&◌, ◌||◌, zero, suc, nat_eq, nat_lt, Bool, true, false, Some, None, Option, List, [], ◌∷◌, ◌++◌, refl, sym, subst, ap, ◌∙◌, arith, if◌then◌else◌}
use Rattle.std.specs.Prelude.{slice_get}
use Rattle.std.specs.List.{AllByRecursion, find, list_any}
use Rattle.std.specs.Option.{option_map}
use Rattle.std.proofs.lemmas.Bool.{eqb-true, eqb-false}
use Rattle.std.proofs.lemmas.Option.{same_Some, none-some}
use Rattle.pblk_model.specs.Image.{Image}
use Rattle.pblk_world.specs.World.{Logs}
use Rattle.pblk_world.specs.EngineLog.{AsFound, Freed, LineLife, Opened, life_of, Taken, takes}
use Rattle.line_table.specs.declared.row.Row.{Row}
use Rattle.line_table.specs.Rows.{latest, noted}
use Rattle.pblk_world.specs.Victims.{is_freed}
use Rattle.core_laws.specs.RowsOf.{logs_then, state_of, taker_by, width_in}
use Rattle.core_laws.specs.ChangedTables.{note_by}
use Rattle.core_laws.specs.PlacedEntries.{next_take, gained, place_by, taker_of, place_entry, place_entries, note_entry, note_entries}
use Rattle.core_laws.proofs.KeptRows.{row_parts}
use Rattle.core_laws.proofs.NextTakes.{IsRising, is_at, is_same, next_by, found_at}
use Rattle.core_laws.proofs.EntryRows.{Places, with_entry, live_with, taker_with, IsNowhere, live_elsewhere, taker_elsewhere, live_outside, taker_outside, live_last, taker_last, live_later, taker_later}
use Rattle.core_laws.proofs.ChangedTables.{table_of, table_changes, tables_agree}
use Rattle.pblk_model.proofs.Tests.{other_number}

-- what took sectors from a line of this life, where their entries have landed in these lines: of a
-- line that was freed what had taken them then
abbrev pub taker_for : Image → Logs → Places → ℕ → LineLife → Option ℕ
taker_for i logs landed line AsFound = taker_with i.shape.capacity (takes (logs 0)) landed line
taker_for i logs landed line (Opened o) = taker_with i.shape.capacity (takes (logs 0)) landed line
taker_for i logs landed line (Freed past knows) = taker_by i (logs_then knows logs) line

-- the row of a line where the entries of sectors are in these lines, and have landed in those
abbrev pub row_with : Image → Logs → Places → Places → ℕ → Row
row_with i logs places landed line =
    row_parts (state_of i logs line) (width_in i logs line (life_of (logs 0) line)) (live_with i.shape.capacity (takes (logs 0)) places line)
    (taker_for i logs landed line (life_of (logs 0) line))

-- an entry among those that were taken
pub record IsEntry (ts : List Taken) (t : Taken) : Type 0 where
  pub before : List Taken
  pub after : List Taken
  pub is : ts ≡ before ++ t ∷ after

row_elsewhere : (i : Image) (logs : Logs) (places landed : Places) (position line m : ℕ) → IsNowhere position places → m ≢ line
    → row_with i logs (with_entry position line places) landed m ≡ row_with i logs places landed m
row_elsewhere i logs places landed position line m nowhere apart =
    ap (λ n. row_parts (state_of i logs m) (width_in i logs m (life_of (logs 0) m)) n (taker_for i logs landed m (life_of (logs 0) m)))
    (live_elsewhere i.shape.capacity (takes (logs 0)) places position line m nowhere apart)

landed_elsewhere : (i : Image) (logs : Logs) (places landed : Places) (position line m : ℕ) → IsNowhere position landed → m ≢ line
    → row_with i logs places (with_entry position line landed) m ≡ row_with i logs places landed m
landed_elsewhere i logs places landed position line m nowhere apart =
    ap (λ o. row_parts (state_of i logs m) (width_in i logs m (life_of (logs 0) m)) (live_with i.shape.capacity (takes (logs 0)) places m) o)
    (by_life (life_of (logs 0) m))
  where
    by_life : (life : LineLife) → taker_for i logs (with_entry position line landed) m life ≡ taker_for i logs landed m life
    by_life AsFound = taker_elsewhere i.shape.capacity (takes (logs 0)) landed position line m nowhere apart
    by_life (Opened o) = taker_elsewhere i.shape.capacity (takes (logs 0)) landed position line m nowhere apart
    by_life (Freed past knows) = refl

-- the next entry of its sector, among all
next_is : (i : Image) (logs : Logs) (t : Taken) → IsRising (takes (logs 0)) → (its : IsEntry (takes (logs 0)) t)
    → next_take (logs 0) t ≡ find (is_same t) its.after
next_is i logs t rise its =
    ap (find (λ u. (u.mark.lba == t.mark.lba) && nat_lt t.entry.position u.entry.position)) its.is ∙ next_by its.before t its.after (subst IsRising its.is rise)

-- an entry that is placed
table_there : (i : Image) (logs : Logs) (places landed : Places) (line : ℕ) (t : Taken) → IsRising (takes (logs 0))
    → IsEntry (takes (logs 0)) t → IsNowhere t.entry.position places
    → table_of i.shape (row_with i logs (with_entry t.entry.position line places) landed) ≡ place_entry (logs 0) line
    (table_of i.shape (row_with i logs places landed)) t
table_there i logs places landed line t rise its nowhere =
    by_lba (nat_lt t.mark.lba i.shape.capacity) refl
  where
    risen : IsRising (its.before ++ t ∷ its.after)
    risen = subst IsRising its.is rise

    go : t.mark.lba < i.shape.capacity → (o : Option Taken) → find (is_same t) its.after ≡ o
        → table_of i.shape (row_with i logs (with_entry t.entry.position line places) landed) ≡ place_by (option_map (λ (u : Taken). u.entry.position) o) line
        (table_of i.shape (row_with i logs places landed))
    go inside None e = table_changes i.shape (row_with i logs places landed) (row_with i logs (with_entry t.entry.position line places) landed) line gained
        (ap (λ n. row_parts (state_of i logs line) (width_in i logs line (life_of (logs 0) line)) n (taker_for i logs landed line (life_of (logs 0) line)))
        (subst (λ ts. live_with i.shape.capacity ts (with_entry t.entry.position line places) line ≡ live_with i.shape.capacity ts places line + 1) (sym its.is)
        (live_last i.shape.capacity its.before t its.after places line risen nowhere inside e)))
        (λ m other. row_elsewhere i logs places landed t.entry.position line m nowhere other)
    go inside (Some u) e = tables_agree i.shape (row_with i logs places landed) (row_with i logs (with_entry t.entry.position line places) landed)
        (λ m. each m (nat_eq m line) refl)
      where
        each : (m : ℕ) (b : Bool) → nat_eq m line ≡ b → row_with i logs (with_entry t.entry.position line places) landed m ≡ row_with i logs places landed m
        each m false f = row_elsewhere i logs places landed t.entry.position line m nowhere (eqb-false m line f)
        each m true f = subst (λ n. row_with i logs (with_entry t.entry.position line places) landed n ≡ row_with i logs places landed n)
            (sym (eqb-true m line f))
            (ap (λ n. row_parts (state_of i logs line) (width_in i logs line (life_of (logs 0) line)) n
            (taker_for i logs landed line (life_of (logs 0) line)))
            (subst (λ ts. live_with i.shape.capacity ts (with_entry t.entry.position line places) line ≡ live_with i.shape.capacity ts places line) (sym its.is)
            (live_later i.shape.capacity its.before t its.after u places line risen (found_at (is_same t) its.after u e))))

    by_lba : (b : Bool) → nat_lt t.mark.lba i.shape.capacity ≡ b
        → table_of i.shape (row_with i logs (with_entry t.entry.position line places) landed)
        ≡ (if b then place_by (taker_of (logs 0) t) line (table_of i.shape (row_with i logs places landed))
        else table_of i.shape (row_with i logs places landed))
    by_lba true e =
        let inside : t.mark.lba < i.shape.capacity = grind arith in
        go inside (find (is_same t) its.after) refl
        ∙ ap (λ o. place_by (option_map (λ (u : Taken). u.entry.position) o) line (table_of i.shape (row_with i logs places landed)))
        (sym (next_is i logs t rise its))
    by_lba false e =
        let outside : i.shape.capacity ≤ t.mark.lba = grind arith in
        tables_agree i.shape (row_with i logs places landed) (row_with i logs (with_entry t.entry.position line places) landed) (λ m.
        ap (λ n. row_parts (state_of i logs m) (width_in i logs m (life_of (logs 0) m)) n (taker_for i logs landed m (life_of (logs 0) m)))
        (subst (λ ts. live_with i.shape.capacity ts (with_entry t.entry.position line places) m ≡ live_with i.shape.capacity ts places m) (sym its.is)
        (live_outside i.shape.capacity its.before t its.after places line m risen outside)))

-- an entry that has landed
landed_there : (i : Image) (logs : Logs) (places landed : Places) (line : ℕ) (t : Taken) → is_freed (life_of (logs 0) line) ≡ false
    → IsRising (takes (logs 0))
    → IsEntry (takes (logs 0)) t → IsNowhere t.entry.position landed
    → table_of i.shape (row_with i logs places (with_entry t.entry.position line landed)) ≡ note_entry (logs 0) line
    (table_of i.shape (row_with i logs places landed)) t
landed_there i logs places landed line t kept rise its nowhere =
    by_lba (nat_lt t.mark.lba i.shape.capacity) refl
  where
    risen : IsRising (its.before ++ t ∷ its.after)
    risen = subst IsRising its.is rise

    own : (ps : Places) (life : LineLife) → is_freed life ≡ false → taker_for i logs ps line life ≡ taker_with i.shape.capacity (takes (logs 0)) ps line
    own ps AsFound kept = refl
    own ps (Opened o) kept = refl
    own ps (Freed past knows) kept = absurd cc

    go : t.mark.lba < i.shape.capacity → (o : Option Taken) → find (is_same t) its.after ≡ o
        → table_of i.shape (row_with i logs places (with_entry t.entry.position line landed)) ≡ note_by (option_map (λ (u : Taken). u.entry.position) o) line
        (table_of i.shape (row_with i logs places landed))
    go inside None e = tables_agree i.shape (row_with i logs places landed) (row_with i logs places (with_entry t.entry.position line landed))
        (λ m. each m (nat_eq m line) refl)
      where
        each : (m : ℕ) (b : Bool) → nat_eq m line ≡ b → row_with i logs places (with_entry t.entry.position line landed) m ≡ row_with i logs places landed m
        each m false f = landed_elsewhere i logs places landed t.entry.position line m nowhere (eqb-false m line f)
        each m true f = subst (λ n. row_with i logs places (with_entry t.entry.position line landed) n ≡ row_with i logs places landed n)
            (sym (eqb-true m line f))
            (ap (λ o. row_parts (state_of i logs line) (width_in i logs line (life_of (logs 0) line))
            (live_with i.shape.capacity (takes (logs 0)) places line) o)
            (own (with_entry t.entry.position line landed) (life_of (logs 0) line) kept
            ∙ subst (λ ts. taker_with i.shape.capacity ts (with_entry t.entry.position line landed) line ≡ taker_with i.shape.capacity ts landed line)
            (sym its.is)
            (taker_last i.shape.capacity its.before t its.after landed line risen e)
            ∙ sym (own landed (life_of (logs 0) line) kept)))
    go inside (Some u) e = table_changes i.shape (row_with i logs places landed) (row_with i logs places (with_entry t.entry.position line landed)) line
        (noted u.entry.position)
        (ap (λ o. row_parts (state_of i logs line) (width_in i logs line (life_of (logs 0) line)) (live_with i.shape.capacity (takes (logs 0)) places line) o)
        (own (with_entry t.entry.position line landed) (life_of (logs 0) line) kept
        ∙ subst (λ ts. taker_with i.shape.capacity ts (with_entry t.entry.position line landed) line ≡ Some
        (latest (taker_with i.shape.capacity ts landed line) u.entry.position)) (sym its.is)
        (taker_later i.shape.capacity its.before t its.after u landed line risen nowhere inside (found_at (is_same t) its.after u e))
        ∙ ap (λ o. Some (latest o u.entry.position)) (sym (own landed (life_of (logs 0) line) kept))))
        (λ m other. landed_elsewhere i logs places landed t.entry.position line m nowhere other)

    same_taker : i.shape.capacity ≤ t.mark.lba → (m : ℕ) (life : LineLife)
        → taker_for i logs (with_entry t.entry.position line landed) m life ≡ taker_for i logs landed m life
    same_taker outside m AsFound =
        subst (λ ts. taker_with i.shape.capacity ts (with_entry t.entry.position line landed) m ≡ taker_with i.shape.capacity ts landed m) (sym its.is)
        (taker_outside i.shape.capacity its.before t its.after landed line m risen outside)
    same_taker outside m (Opened o) =
        subst (λ ts. taker_with i.shape.capacity ts (with_entry t.entry.position line landed) m ≡ taker_with i.shape.capacity ts landed m) (sym its.is)
        (taker_outside i.shape.capacity its.before t its.after landed line m risen outside)
    same_taker outside m (Freed past knows) = refl

    by_lba : (b : Bool) → nat_lt t.mark.lba i.shape.capacity ≡ b
        → table_of i.shape (row_with i logs places (with_entry t.entry.position line landed))
        ≡ (if b then note_by (taker_of (logs 0) t) line (table_of i.shape (row_with i logs places landed))
        else table_of i.shape (row_with i logs places landed))
    by_lba true e =
        let inside : t.mark.lba < i.shape.capacity = grind arith in
        go inside (find (is_same t) its.after) refl
        ∙ ap (λ o. note_by (option_map (λ (u : Taken). u.entry.position) o) line (table_of i.shape (row_with i logs places landed)))
        (sym (next_is i logs t rise its))
    by_lba false e =
        let outside : i.shape.capacity ≤ t.mark.lba = grind arith in
        tables_agree i.shape (row_with i logs places landed) (row_with i logs places (with_entry t.entry.position line landed)) (λ m.
        ap (λ o. row_parts (state_of i logs m) (width_in i logs m (life_of (logs 0) m)) (live_with i.shape.capacity (takes (logs 0)) places m) o)
        (same_taker outside m (life_of (logs 0) m)))

-- ---- all of them

pub with_entries : ℕ → List Taken → Places → Places
with_entries line [] places = places
with_entries line (t ∷ ts) places = with_entries line ts (with_entry t.entry.position line places)

still_nowhere : (position line : ℕ) (places : Places) (other : ℕ) → IsNowhere other places → other ≢ position
    → IsNowhere other (with_entry position line places)
still_nowhere position line places other nowhere apart = λ lba u e.
    ap (λ b. if b then Some line else places lba (Some u)) (other_number u.entry.position position (λ f. apart (sym e ∙ f))) ∙ nowhere lba u e

all_still : (position line : ℕ) (places : Places) (ts : List Taken) → AllByRecursion (λ u. position < u.entry.position) ts
    → AllByRecursion (λ t. IsNowhere t.entry.position places) ts
    → AllByRecursion (λ t. IsNowhere t.entry.position (with_entry position line places)) ts
all_still position line places [] above all = tt
all_still position line places (t ∷ ts) above all = (
  still_nowhere position line places t.entry.position all.0 (λ e. let more : position < t.entry.position = above.0 in absurd (omega arith)),
  all_still position line places ts above.1 all.1,
)

pub entries_placed : (i : Image) (logs : Logs) (line : ℕ) (ts : List Taken) (places landed : Places) → IsRising (takes (logs 0)) → IsRising ts
    → AllByRecursion (IsEntry (takes (logs 0))) ts
    → AllByRecursion (λ t. IsNowhere t.entry.position places) ts
    → table_of i.shape (row_with i logs (with_entries line ts places) landed) ≡ place_entries (logs 0) line
    (table_of i.shape (row_with i logs places landed)) ts
unfolding with_entries
entries_placed i logs line [] places landed rise own all nowhere = refl
entries_placed i logs line (t ∷ ts) places landed rise own all nowhere =
    entries_placed i logs line ts (with_entry t.entry.position line places) landed rise own.1 all.1 (all_still t.entry.position line places ts own.0 nowhere.1)
    ∙ ap (λ table. place_entries (logs 0) line table ts) (table_there i logs places landed line t rise all.0 nowhere.0)

pub entries_landed : (i : Image) (logs : Logs) (line : ℕ) (ts : List Taken) (places landed : Places) → is_freed (life_of (logs 0) line) ≡ false
    → IsRising (takes (logs 0)) → IsRising ts
    → AllByRecursion (IsEntry (takes (logs 0))) ts
    → AllByRecursion (λ t. IsNowhere t.entry.position landed) ts
    → table_of i.shape (row_with i logs places (with_entries line ts landed)) ≡ note_entries (logs 0) line (table_of i.shape (row_with i logs places landed)) ts
unfolding with_entries
entries_landed i logs line [] places landed kept rise own all nowhere = refl
entries_landed i logs line (t ∷ ts) places landed kept rise own all nowhere =
    entries_landed i logs line ts places (with_entry t.entry.position line landed) kept rise own.1 all.1
    (all_still t.entry.position line landed ts own.0 nowhere.1)
    ∙ ap (λ table. note_entries (logs 0) line table ts) (landed_there i logs places landed line t kept rise all.0 nowhere.0)

or_if : {X : Type 0} (a b : Bool) (x y : X) → (if b then x else (if a then x else y)) ≡ (if a || b then x else y)
or_if true true x y = refl
or_if true false x y = refl
or_if false true x y = refl
or_if false false x y = refl

-- an entry is in the line where it is one of them
pub entries_are : (line : ℕ) (ts : List Taken) (places : Places) (lba : ℕ) (o : Option Taken)
    → with_entries line ts places lba o ≡ (if list_any (λ t. is_at t.entry.position o) ts then Some line else places lba o)
unfolding with_entries
entries_are line [] places lba o = refl
entries_are line (t ∷ ts) places lba o =
    entries_are line ts (with_entry t.entry.position line places) lba o
    ∙ or_if (is_at t.entry.position o) (list_any (λ u. is_at u.entry.position o) ts) (Some line) (places lba o)

-- an entry that was taken stands among all
pub entry_at : (ts : List Taken) (k : ℕ) (t : Taken) → slice_get ts k ≡ Some t → IsEntry ts t
entry_at [] k t e = absurd (none-some t e)
entry_at (u ∷ ts) zero t e = record { before = []; after = ts; is = ap (λ v. v ∷ ts) (same_Some u t e) }
entry_at (u ∷ ts) (suc k) t e =
    let r : IsEntry ts t = entry_at ts k t e in
    record { before = u ∷ r.before; after = r.after; is = ap (λ vs. u ∷ vs) r.is }

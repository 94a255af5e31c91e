-- The table of lines, by the rows that were found.
use Rattle.std.proofs.Common.{◌≡◌, ℕ, ◌<◌, ◌==◌, ◌&&◌, not, Bool, true, false, Some, None, Option, List, length, get_or, refl, sym, ap, ap₂, ◌∙◌, arith, if◌then◌else◌}
use Rattle.std.specs.Prelude.{slice_get}
use Rattle.std.specs.List.{filter, last_or, list_any, range_with_len}
use Rattle.std.specs.Option.{is_some, option_map, option_map_or, option_and_then}
use Rattle.std.proofs.lemmas.List.FromFn.{fill_by_all}
use Rattle.std.proofs.lemmas.Option.{slice_get-get_or}
use Rattle.pblk_model.specs.declared.found.Found.{Found}
use Rattle.pblk_model.specs.declared.found.Winner.{Winner}
use Rattle.pblk_model.specs.LineOrder.{data_len}
use Rattle.pblk_model.specs.Image.{Image, width}
use Rattle.pblk_model.specs.StartRecord.{StartRecord, start_of}
use Rattle.pblk_model.specs.EndRecord.{end_of}
use Rattle.pblk_model.specs.Records.{Record}
use Rattle.pblk_model.specs.Contents.{counted, winner, is_of}
use Rattle.pblk_laws.proofs.LineUnits.{line_units_count}
use Rattle.pblk_world.specs.Events.{Logged}
use Rattle.pblk_world.specs.World.{Logs}
use Rattle.pblk_world.specs.EngineLog.{Taken, takes, is_as_found, life_of}
use Rattle.pblk_world.specs.Fronts.{last_take}
use Rattle.pblk_world.specs.Lines.{found_image, known_image, are_empty, is_stray, line_data}
use Rattle.pblk_world.specs.Space as space
use Rattle.pblk_world.specs.Victims.{line_of, is_live_in, live, took_from}
use Rattle.line_table.specs.declared.row.LineState.{LineState}
use Rattle.line_table.specs.declared.row.LineState.TheVariants as states
use Rattle.line_table.specs.declared.row.Row.{Row}
use Rattle.line_table.specs.Opening.{width_of, live_count, opening_state}
use Rattle.line_table.specs.Rows.{Table, free_addresses}
use Rattle.core_laws.specs.RowsOf.{state_found, state_in, state_of, width_in, taker_in, row_of_line, rows_of}
use Rattle.world_laws.specs.Finding.{is_full, line_row, winner_of, winner_with}
use Rattle.world_laws.proofs.FoundRows.{row_at}
use Rattle.world_laws.proofs.FoundStates.{live_are}
use Rattle.core_laws.proofs.FreeRows.{addresses_free}
use Rattle.core_laws.proofs.KeptRows.{same_row}
use Rattle.core_laws.proofs.ChangedTables.{same_table}
use Rattle.core_laws.proofs.OpenedRows.{either}
use Rattle.core_laws.specs.JustBegun.{HasJustBegun}
use Rattle.core_laws.specs.OpeningTables.{IsOpeningTable}
use Rattle.core_laws.proofs.BegunImages.{named_image, found_at, known_at, named_fit, named_found, life_is}
use Rattle.core_laws.proofs.MadeLists.{any_passed, passed_made, filter_agree}
use Rattle.pblk_model.proofs.StartRecordLemmas.{some_seq}

-- ---- widths

pub width_found : (i : Image) (f : Found) (logs : Logs) (line : ℕ) (is : HasJustBegun i f logs) → line < i.shape.chunks
    → width_of i.shape f line ≡ width (named_image i logs is.knows) line
unfolding width_of
width_found i f logs line is inside =
    ap (λ us. length us) (live_are (named_image i logs is.knows) f line (named_fit i f logs is) (named_found i f logs is) inside)
    ∙ line_units_count (named_image i logs is.knows) line

width_now : (i : Image) (f : Found) (logs : Logs) (line : ℕ) (is : HasJustBegun i f logs)
    → width_in i logs line (life_of (logs 0) line) ≡ width (named_image i logs is.knows) line
width_now i f logs line is =
    ap (width_in i logs line) (life_is i f logs line is)
    ∙ ap₂ (λ (k j : Image). if are_empty k line then width k line else width j line) (known_at i f logs is) (found_at i f logs is)
    ∙ either (are_empty (named_image i logs is.knows) line) (width (named_image i logs is.knows) line)

-- ---- states

-- by the line's start record, whether its end record is whole, whether it is empty, and its data
-- addresses
abbrev state_by : Bool → Bool → Bool → ℕ → LineState
state_by started full empty addresses =
    if started then (if full then states.Full else states.Failed)
    else if empty then (if addresses == 0 then states.Dead else states.Free)
    else states.Freed

abbrev opening_by : Bool → Bool → Bool → ℕ → LineState
opening_by started full stray addresses =
    if started then (if full then states.Full else states.Failed)
    else if stray then states.Freed
    else if addresses == 0 then states.Dead
    else states.Free

same_state : (started full empty : Bool) (addresses : ℕ) → opening_by started full (not started && not empty) addresses ≡ state_by started full empty addresses
same_state true full empty addresses = refl
same_state false full true addresses = refl
same_state false full false addresses = refl

opening_is : (i : Image) (f : Found) (logs : Logs) (line : ℕ) (is : HasJustBegun i f logs) → line < i.shape.chunks
    → opening_state i.shape f line (line_row (named_image i logs is.knows) line)
    ≡ state_by (is_some (start_of (named_image i logs is.knows) line)) (is_full (named_image i logs is.knows) line)
    (are_empty (named_image i logs is.knows) line) (line_data (named_image i logs is.knows) line)
unfolding opening_state
opening_is i f logs line is inside =
    let stray : list_any (λ stray. stray == line) f.strays ≡ is_stray (named_image i logs is.knows) line =
    ap (list_any (λ stray. stray == line)) (named_found i f logs is).strays_are
    ∙ any_passed (is_stray (named_image i logs is.knows)) 0 i.shape.chunks line (omega arith) (omega arith) in
    ap (λ b. opening_by b (is_full (named_image i logs is.knows) line) (list_any (λ stray. stray == line) f.strays)
    (data_len i.shape (width_of i.shape f line))) (some_seq (start_of (named_image i logs is.knows) line))
    ∙ ap₂ (λ b g. opening_by (is_some (start_of (named_image i logs is.knows) line)) (is_full (named_image i logs is.knows) line) b (data_len i.shape g)) stray
    (width_found i f logs line is inside)
    ∙ same_state (is_some (start_of (named_image i logs is.knows) line)) (is_full (named_image i logs is.knows) line)
    (are_empty (named_image i logs is.knows) line) (line_data (named_image i logs is.knows) line)

by_start : (i : Image) (logs : Logs) (line : ℕ) (o : Option StartRecord) → state_found i logs line o
    ≡ state_by (is_some o) (option_map_or (λ start. is_some (end_of (found_image i logs) line start)) o false) (are_empty (known_image i logs) line)
    (line_data (known_image i logs) line)
by_start i logs line None = refl
by_start i logs line (Some start) = refl

state_now : (i : Image) (f : Found) (logs : Logs) (line : ℕ) (is : HasJustBegun i f logs)
    → state_of i logs line ≡ state_by (is_some (start_of (named_image i logs is.knows) line)) (is_full (named_image i logs is.knows) line)
    (are_empty (named_image i logs is.knows) line) (line_data (named_image i logs is.knows) line)
state_now i f logs line is =
    ap (state_in i logs line) (life_is i f logs line is)
    ∙ by_start i logs line (start_of (found_image i logs) line)
    ∙ ap₂ (λ (j k : Image). state_by (is_some (start_of j line)) (is_full j line) (are_empty k line) (line_data k line)) (found_at i f logs is)
    (known_at i f logs is)

-- ---- live sectors

of_line : (line lba : ℕ) (o : Option Record)
    → option_map_or (λ (w : Winner). w.line == line) (option_map (winner_with lba) o) false ≡ is_of line (option_and_then (λ (r : Record). Some r.line) o)
of_line line lba None = refl
of_line line lba (Some r) = refl

as_found : (i : Image) (f : Found) (logs : Logs) (is : HasJustBegun i f logs) (o : Option Record)
    → option_and_then (λ (r : Record). Some r.line) o ≡ option_and_then (λ (r : Record). if is_as_found (life_of (logs 0) r.line) then Some r.line else None) o
as_found i f logs is None = refl
as_found i f logs is (Some r) = ap (λ life. if is_as_found life then Some r.line else None) (sym (life_is i f logs r.line is))

live_in : (i : Image) (f : Found) (logs : Logs) (line lba : ℕ) (is : HasJustBegun i f logs)
    → option_map_or (λ (w : Winner). w.line == line) (winner_of (named_image i logs is.knows) lba) false ≡ is_live_in i logs line lba
live_in i f logs line lba is =
    of_line line lba (winner (counted (named_image i logs is.knows)) lba)
    ∙ ap (is_of line) (as_found i f logs is (winner (counted (named_image i logs is.knows)) lba))
    ∙ ap (λ (j : Image). is_of line
    (option_and_then (λ (r : Record). if is_as_found (life_of (logs 0) r.line) then Some r.line else None) (winner (counted j) lba)))
    (sym (found_at i f logs is))
    ∙ ap (λ o. is_of line (line_of i logs lba o)) (sym (ap (λ (xs : List Logged). last_take xs lba) is.log))

live_is : (i : Image) (f : Found) (logs : Logs) (line : ℕ) → HasJustBegun i f logs → live_count f.winners line ≡ live i logs line
unfolding live_count
live_is i f logs line is =
    ap (λ ws. length (filter (λ (w : Winner). w.line == line) ws)) (named_found i f logs is).winners_are
    ∙ passed_made (λ (w : Winner). w.line == line) (winner_of (named_image i logs is.knows)) (range_with_len 0 i.shape.capacity)
    ∙ ap (λ xs. length xs) (filter_agree (λ lba. option_map_or (λ (w : Winner). w.line == line) (winner_of (named_image i logs is.knows) lba) false)
    (is_live_in i logs line) (λ lba. live_in i f logs line lba is) (range_with_len 0 i.shape.capacity))

-- ---- takers

taker_now : (i : Image) (f : Found) (logs : Logs) (line : ℕ) → HasJustBegun i f logs → taker_in i logs line (life_of (logs 0) line) ≡ None
taker_now i f logs line is =
    ap (taker_in i logs line) (life_is i f logs line is)
    ∙ ap (λ (ts : List Taken). option_map (λ (t : Taken). t.entry.position) (last_or None (filter (took_from i logs line) ts))) (ap takes is.log)

-- ---- the table

row_is : (i : Image) (f : Found) (logs : Logs) (t : Table) (line : ℕ) (row : Row) → HasJustBegun i f logs → IsOpeningTable i.shape f t → line < i.shape.chunks
    → slice_get t.rows line ≡ Some row → row ≡ row_of_line i logs line
row_is i f logs t line row is table inside there =
    same_row row.state (state_of i logs line) row.width (width_in i logs line (life_of (logs 0) line)) row.live (live i logs line) row.taker
    (taker_in i logs line (life_of (logs 0) line))
    (table.state line row there (line_row (named_image i logs is.knows) line) (row_at (named_image i logs is.knows) f line (named_found i f logs is) inside)
    ∙ opening_is i f logs line is inside ∙ sym (state_now i f logs line is))
    (table.width line row there ∙ width_found i f logs line is inside ∙ sym (width_now i f logs line is))
    (table.live line row there ∙ live_is i f logs line is)
    (table.taker line row there ∙ sym (taker_now i f logs line is))

pub table_is : (i : Image) (f : Found) (logs : Logs) (t : Table) → HasJustBegun i f logs → IsOpeningTable i.shape f t → t ≡ rows_of i logs
table_is i f logs t is table =
    same_table t.shape i.shape t.rows (rows_of i logs).rows table.shape
    (fill_by_all (row_of_line i logs) t.rows i.shape.chunks (row_of_line i logs 0) table.lines (λ line inside.
    let count : length t.rows ≡ i.shape.chunks = table.lines in
    row_is i f logs t line (get_or t.rows line (row_of_line i logs 0)) is table inside (slice_get-get_or t.rows line (row_of_line i logs 0) (omega arith))))

pub addresses_are : (i : Image) (f : Found) (logs : Logs) (t : Table) → HasJustBegun i f logs → IsOpeningTable i.shape f t
    → free_addresses t ≡ space.free_addresses i logs
addresses_are i f logs t is table = ap free_addresses (table_is i f logs t is table) ∙ addresses_free i logs

-- What the parts of a core ask of the reset of a chunk that it names.
use Rattle.std.proofs.Common.{◌≡◌, ◌≢◌, ◌⊎◌, ℕ, ◌+◌, ◌-◌, ◌^◌, ◌<◌, ◌≤◌, ◌==◌, if◌then◌else◌, Bool, true, false, Some, None, Option, List, length, refl, sym, subst, ap, ◌∙◌, arith, inl, inr}
use Rattle.std.specs.Prelude.{slice_get, slice_set}
use Rattle.std.specs.List.{slice_index_or}
use Rattle.std.specs.Option.{option_map_or}
use Rattle.std.proofs.lemmas.Bool.{cases_order}
use Rattle.std.proofs.lemmas.Option.{get_or_from_slice_get, same_Some, slice_get_within, slice_get-get_or}
use Rattle.pblk_model.specs.declared.shape.Shape.{Shape}
use Rattle.pblk_model.specs.declared.chunk.ChunkState.{ChunkState}
use Rattle.pblk_model.specs.Shape.{units}
use Rattle.pblk_model.specs.LineOrder.{data_len}
use Rattle.pblk_model.specs.Image.{Image, is_online_in}
use Rattle.pblk_layout.specs.Online.{is_in}
use Rattle.pblk_world.specs.World.{World, log_of}
use Rattle.line_table.specs.declared.row.LineState.TheVariants.{Free, Dead, Freed}
use Rattle.line_table.specs.declared.row.Row.{Row}
use Rattle.line_table.specs.Rows.{Table, IsRow, IsChange}
use Rattle.line_table.proofs.Places.{get_set_same}
use Rattle.core_laws.specs.OpenedLines.{online_now}
use Rattle.core_laws.specs.RowsOf.{row_of_line}
use Rattle.core_laws.proofs.HistorySectors.{set_length}
use Rattle.core_laws.proofs.PlacedLines.{get_row as row_there}
use Rattle.pblk_model.proofs.Parts.{get_set_other}
use Rattle.pblk_core.specs.declared.line_notes.LineNotes.{LineNotes}
use Rattle.pblk_core.specs.declared.target_core.Core.{Core}
use Rattle.pblk_core.specs.declared.work.Work.TheVariants.{Reset}
use Rattle.pblk_core.specs.Collecting.{HasEachLine}
use Rattle.pblk_core.specs.Named.{named}
use Rattle.pblk_core.specs.Resets.{kept_units, emptied}
use Rattle.pblk_core.specs.Stands.{Stands, IsStanding}
use Rattle.pblk_core.proofs.LineBits.{known_bits}
use Rattle.pblk_core.proofs.NamedReset.{IsNamedReset}
use Rattle.pblk_core.proofs.ResetRows.{state_before}
use Rattle.pblk_core.proofs.ResetUnits.{unit_was_in}
use Rattle.pblk_core.proofs.StandsReset.{named_in}
use Rattle.pblk_core.proofs.TabledLines.{each_line}

pub record MayReset (c : Core) (line unit : ℕ) : Type 0 where
  pub line_units : line < length c.online.items
  pub small : unit < 64
  pub unit_in : (us : ℕ) → slice_get c.online.items line ≡ Some us → is_in us unit ≡ true
  pub below : (us : ℕ) → slice_get c.online.items line ≡ Some us → us < 2 ^ units c.layout
  pub line_row : line < length c.lines.rows
  pub freed : (row : Row) → IsRow c.lines line row → row.state ≡ Freed

pub reset_next : (c : Core) (line unit : ℕ) → IsStanding c → named c ≡ Reset line unit → MayReset c line unit
reset_next c line unit standing names = record {
  line_units = slice_get_within c.online.items line (online_now i (log_of w) line) units_there;
  small = let few : units i.shape ≤ 64 = standing.legal.accepted.drive.few_units in let inside : unit < units i.shape = named_is.unit_in_range in omega arith;
  unit_in = λ us there. subst (λ n. is_in n unit ≡ true) (same_Some (online_now i (log_of w) line) us (sym units_there ∙ there))
      (unit_was_in i w line unit standing.legal named_is);
  below = λ us there. subst (λ n. n < 2 ^ units c.layout) (same_Some (online_now i (log_of w) line) us (sym units_there ∙ there))
      (subst (λ (s : Shape). online_now i (log_of w) line < 2 ^ units s) (sym st.layout) (known_bits i w (log_of w) line standing.legal));
  line_row = slice_get_within c.lines.rows line (row_of_line i (log_of w) line) row_is;
  freed = λ row there. ap (λ (r : Row). r.state) (sym (same_Some (row_of_line i (log_of w) line) row (sym row_is ∙ there)))
      ∙ state_before i w line unit st.beginning standing.legal st.has_begun named_is;
}
  where
    i : Image
    i = standing.image

    w : World
    w = standing.world

    st : Stands i (log_of w) c
    st = standing.stands

    named_is : IsNamedReset i (log_of w) line unit
    named_is = named_in i (log_of w) c line unit st names

    from : 0 + line ≡ line
    from = omega arith

    units_there : slice_get c.online.items line ≡ Some (online_now i (log_of w) line)
    units_there = ap (λ us. slice_get us line) st.units ∙ row_there (online_now i (log_of w)) i.shape.chunks 0 line named_is.in_range
        ∙ ap (λ l. Some (online_now i (log_of w) l)) from

    row_is : slice_get c.lines.rows line ≡ Some (row_of_line i (log_of w) line)
    row_is = ap (λ (t : Table). slice_get t.rows line) st.table ∙ row_there (row_of_line i (log_of w)) i.shape.chunks 0 line named_is.in_range
        ∙ ap (λ l. Some (row_of_line i (log_of w) l)) from

-- the units that stay are among those that were
pub kept_less : (live : List ℕ) (line unit us : ℕ) (state : ChunkState) → slice_get live line ≡ Some us
    → (x : ℕ) × (slice_get (kept_units live line unit state) line ≡ Some x) × (x ≤ us)
kept_less live line unit us state there = go (is_online_in state)
  where
    go : (b : Bool) → (x : ℕ) × (slice_get
        (if b then live else option_map_or (λ units. slice_set live line (units - 2 ^ unit)) (slice_get live line) live) line ≡ Some x) × (x ≤ us)
    go true = (us, there, omega arith)
    go false = (
      us - 2 ^ unit,
      ap (λ o. slice_get (option_map_or (λ units. slice_set live line (units - 2 ^ unit)) o live) line) there
          ∙ get_set_same live line line (us - 2 ^ unit) refl (slice_get_within live line us there),
      omega arith,
    )

-- those of another line are what they were
pub kept_beside : (live : List ℕ) (line unit other : ℕ) (state : ChunkState) → other ≢ line
    → slice_get (kept_units live line unit state) other ≡ slice_get live other
kept_beside live line unit other state apart = go (is_online_in state) (slice_get live line)
  where
    go : (b : Bool) (o : Option ℕ) → slice_get (if b then live else option_map_or (λ units. slice_set live line (units - 2 ^ unit)) o live) other
        ≡ slice_get live other
    go true o = refl
    go false None = refl
    go false (Some us) = get_set_other live line other (us - 2 ^ unit) apart

-- each line has as many units as before, or one less
kept_below : (live : List ℕ) (line unit n : ℕ) (state : ChunkState) → ((k us : ℕ) → slice_get live k ≡ Some us → us < n)
    → (length (kept_units live line unit state) ≡ length live) × ((k us : ℕ) → slice_get (kept_units live line unit state) k ≡ Some us → us < n)
kept_below live line unit n state low = go (is_online_in state) (slice_get live line) refl
  where
    less : (us : ℕ) → slice_get live line ≡ Some us → (k x : ℕ) → slice_get (slice_set live line (us - 2 ^ unit)) k ≡ Some x
        → (k ≡ line) ⊎ ((k < line) ⊎ (line < k)) → x < n
    less us there k x at (inl here) =
        let few : us < n = low line us there in
        let same : us - 2 ^ unit ≡ x = same_Some (us - 2 ^ unit) x
        (sym (get_set_same live line line (us - 2 ^ unit) refl (slice_get_within live line us there))
        ∙ ap (slice_get (slice_set live line (us - 2 ^ unit))) (sym here) ∙ at) in
        omega arith
    less us there k x at (inr (inl below)) =
        low k x (sym (get_set_other live line k (us - 2 ^ unit) (λ e. absurd (omega arith))) ∙ at)
    less us there k x at (inr (inr above)) =
        low k x (sym (get_set_other live line k (us - 2 ^ unit) (λ e. absurd (omega arith))) ∙ at)

    go : (b : Bool) (o : Option ℕ) → slice_get live line ≡ o
        → (length (if b then live else option_map_or (λ units. slice_set live line (units - 2 ^ unit)) o live) ≡ length live)
        × ((k us : ℕ) → slice_get (if b then live else option_map_or (λ units. slice_set live line (units - 2 ^ unit)) o live) k ≡ Some us → us < n)
    go true o there = (refl, low)
    go false None there = (refl, low)
    go false (Some us) there = (set_length live line (us - 2 ^ unit), λ k x at. less us there k x at (cases_order k line))

pub each_reset : (c new : Core) (line unit : ℕ) (state : ChunkState) → IsStanding c → new.layout ≡ c.layout → new.notes ≡ c.notes
    → length new.lines.rows ≡ length c.lines.rows → new.online.items ≡ kept_units c.online.items line unit state → HasEachLine new
each_reset c new line unit state standing layout notes rows live =
    let each = each_line standing.image standing.world (log_of standing.world) standing.legal standing.stands in
    let kept = kept_below c.online.items line unit (2 ^ units c.layout) state each.few in
    let chunks = ap (λ (s : Shape). s.chunks) (sym layout) in
    record {
      rows = rows ∙ each.rows ∙ chunks;
      noted = ap (λ (n : LineNotes). length n.rows.items) notes ∙ each.noted ∙ chunks;
      online = ap (λ (us : List ℕ). length us) live ∙ kept.0 ∙ each.online ∙ chunks;
      few = λ k us there. subst (λ (s : Shape). us < 2 ^ units s) (sym layout) (kept.1 k us (ap (λ xs. slice_get xs k) (sym live) ∙ there));
    }

-- a line of which no used chunk is left turns
pub emptied_change : (s : Shape) (width : ℕ) → IsChange Freed (emptied s width) (data_len s width)
emptied_change s width = go (data_len s width == 0) refl
  where
    go : (b : Bool) → (data_len s width == 0) ≡ b
        → ((if b then Dead else Free) ≡ Free) × (0 < data_len s width) ⊎ ((if b then Dead else Free) ≡ Dead) × (data_len s width ≡ 0)
    go true e = inr (refl, grind arith)
    go false e = inl (refl, grind arith)

pub kept_there : (c : Core) (line unit : ℕ) (state : ChunkState) → IsStanding c → named c ≡ Reset line unit
    → (x : ℕ) × (slice_get (kept_units c.online.items line unit state) line ≡ Some x) × (x < 2 ^ units c.layout)
kept_there c line unit state standing names =
    let may : MayReset c line unit = reset_next c line unit standing names in
    let us : ℕ = slice_index_or c.online.items line 0 in
    let there : slice_get c.online.items line ≡ Some us = slice_get-get_or c.online.items line 0 may.line_units in
    let kept = kept_less c.online.items line unit us state there in
    let low : us < 2 ^ units c.layout = may.below us there in
    let less : kept.0 ≤ us = kept.2 in
    (kept.0, kept.1, omega arith)

-- the table is of the drive's shape
-- their number is at most that of all units
pub kept_few : (c : Core) (line unit us d width : ℕ) (state : ChunkState) → IsStanding c → named c ≡ Reset line unit
    → us ≡ slice_index_or (kept_units c.online.items line unit state) line d
    → ((n : ℕ) → us < 2 ^ n → width ≤ n) → width ≤ units c.layout
kept_few c line unit us d width state standing names is few =
    let kept = kept_there c line unit state standing names in
    few (units c.layout) (subst (λ n. n < 2 ^ units c.layout)
    (sym (is ∙ get_or_from_slice_get (kept_units c.online.items line unit state) line kept.0 d kept.1)) kept.2)

pub table_shape : (c : Core) → IsStanding c → c.layout ≡ c.lines.shape
table_shape c standing = standing.stands.layout ∙ sym (ap (λ (t : Table). t.shape) standing.stands.table)

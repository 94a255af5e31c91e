-- A core that took an entry stands for the log with it, where its tables tell of the sectors: for
-- one that becomes the latest of its sector they do.
use Rattle.std.proofs.Common.{◌≡◌, ◌≢◌, ◌⊎◌, eqb, ℕ, ◌+◌, ◌<◌, ◌≤◌, ◌==◌, ◌^◌, if◌then◌else◌, true, false, cond, Some, None, Option, List, [], ◌∷◌, ◌++◌, ◌&&◌, length, refl, sym, subst, ap, ap₂, ◌∙◌, arith, inl, inr, length-append, append-nil, le_trans, zero-add}
use Rattle.std.specs.List.{filter, range_with_len, list_any}
use Rattle.std.specs.Ordering.{nat_cmp, eq_by_cmp}
use Rattle.std.specs.FinMap.{FinMap, get-insert}
use Rattle.std.specs.FinMap as fin
use Rattle.std.specs.Cmp.{nat_cmp_total}
use Rattle.pblk_model.specs.declared.shape.Shape.{Shape}
use Rattle.pblk_model.specs.declared.chunk.Mark.{Mark}
use Rattle.pblk_model.specs.Image.{Image, block_at, line_units}
use Rattle.pblk_model.specs.Marks.{meta_lba, sector_mark, void_lba}
use Rattle.pblk_model.specs.Chunk.{Block, IsBlock}
use Rattle.pblk_world.specs.Taking.{BearsIt, IsLatest, IsMarked, MayTake}
use Rattle.pblk_world.specs.Events.{Entry, Source, Take, Decides, Logged}
use Rattle.pblk_world.specs.World.{Logs, media, World, log_of}
use Rattle.pblk_world.specs.EngineLog.{Begun, begun, Taken, block_of_taken, takes, openings, is_as_found, placements}
use Rattle.pblk_world.specs.Fronts.{first_position, taken, user_takes, is_users, last_take}
use Rattle.pblk_world.specs.Space.{freed, gives_back}
use Rattle.pblk_world.proofs.Appending.{openings_more, life_more}
use Rattle.l2p_map.specs.declared.slot.Slot.{Slot}
use Rattle.l2p_map.specs.declared.slot.Slot.TheVariants.{Unwritten, Cached, Media}
use Rattle.core_laws.specs.Stepping.{after}
use Rattle.core_laws.specs.OpenedLines.{bits_of, online_now, standing}
use Rattle.core_laws.specs.Positions.{AreNumbered, IsUnplaced}
use Rattle.core_laws.specs.SlotOf.{slot_by, slot_of}
use Rattle.core_laws.specs.WindowOf.{is_given_back, sectors_in, window_from, HeldSectors, waiting_sector, without_frame, class_of, source_of}
use Rattle.core_laws.proofs.AnsweredTops.{top_kept}
use Rattle.core_laws.proofs.Taking.{alike, with_take, filter_last, placing_taken}
use Rattle.core_laws.proofs.TakenSlots.{slot_taken, gives_back_same, any_same}
use Rattle.core_laws.proofs.TakenWindow.{window_taken}
use Rattle.core_laws.proofs.Steady.{AreAlike, standing_same}
use Rattle.core_laws.proofs.TakenNumbers.{first_stays}
use Rattle.core_laws.specs.ClosedLines.{closed_line}
use Rattle.core_laws.proofs.ClosedKept.{closed_taken}
use Rattle.core_laws.proofs.KeptRows.{begun_kept, known_kept}
use Rattle.core_laws.proofs.LeastPositions.{least_rises}
use Rattle.pblk_core.specs.LineNotes.{AreNotes}
use Rattle.pblk_core.specs.Stands.{Stands, AreHolds, AreOpenLines, AreUsed}
use Rattle.pblk_core.proofs.AnswerCounts.{counts_same}
use Rattle.pblk_core.proofs.FullOpenings.{full_kept}
use Rattle.pblk_core.proofs.SteadyLines.{open_lines_same, under_way_same}
use Rattle.pblk_world.specs.Starts.{older_rows}
use Rattle.core_laws.proofs.OpenAddresses.{addresses_kept}
use Rattle.pblk_core.proofs.StandsFacts.{freed_taken_within, window_taken_is, next_is_unplaced}
use Rattle.std.proofs.lemmas.List.{map-append}
use Rattle.pblk_meta.specs.Records.{start_numbers}
use Rattle.core_laws.specs.PlacerOf.{placing_of}
use Rattle.core_laws.proofs.PlacedFront.{front_taken}
use Rattle.sector_pool.specs.declared.entry.Class.{Class}
use Rattle.sector_pool.specs.declared.entry.Class.TheVariants.{User, Copy}
use Rattle.sector_pool.specs.declared.entry.Source.{Source as EntrySource}
use Rattle.std.specs.Option.{option_map}
use Rattle.pblk_core.proofs.TakenHolds.{holds_taken}
use Rattle.pblk_core.proofs.LiveLine.{line_is, landed_is}
use Rattle.pblk_world.specs.Victims.{landed_line_of, line_of, live}
use Rattle.core_laws.specs.RowsOf.{rows_of, row_of_line}
use Rattle.core_laws.proofs.TakenRows.{rows_taken}
use Rattle.core_laws.proofs.LiveCounts.{live_some}
use Rattle.std.proofs.lemmas.List.FromFn.{length-map-range_with_len}
use Rattle.core_laws.proofs.LogOrders.{in_order as plain_in_order}
use Rattle.core_laws.proofs.LinesInRange.{line_in_range}
use Rattle.line_table.specs.declared.row.Row.{Row}
use Rattle.line_table.specs.Rows.{Table, IsRow}
use Rattle.core_laws.proofs.FreedMoments.{freed_before}
use Rattle.core_laws.proofs.UsersEntries.{in_order}
use Rattle.std.proofs.lemmas.Option.{same_Some}
use Rattle.pblk_core.specs.Taking.{CanTake}
use Rattle.pblk_core.specs.Taken.{HasItsSector, IsClassed, entry_of, is_latest_from, is_latest_in, is_source, users_in}
use Rattle.pblk_core.specs.Holds.{has_landed_in, line_of_slot, rows_with_taker}
use Rattle.core_laws.specs.ChangedTables.{lose_in}
use Rattle.pblk_core.specs.declared.target_core.Core.{Core}
use Rattle.sector_pool.specs.declared.entry.Entry.{Entry as FramedEntry}
use Rattle.write_window.specs.declared.held.Progress.TheVariants.{Waiting}
use Rattle.write_window.specs.Window as view
use Rattle.stripe_placer.specs.Placing.{waits}
use Rattle.pblk_world.specs.LegalMounts.{IsLegalMount}
use Rattle.core_laws.proofs.LatestSources.{entry_is_latest, named_is_place}
use Rattle.core_laws.proofs.LiveSlots.{given_by}
use Rattle.std.proofs.lemmas.Bool.{eqb-true}
use Rattle.pblk_model.specs.Contents.{least_missing}
use Rattle.std.specs.Prelude.{slice_set, ◌%◌, map, slice_get}
use Rattle.std.proofs.lemmas.Bool.Decides.{eqb_tells}
use Rattle.pblk_core.proofs.FoundLines.{older_kept}
use Rattle.pblk_core.proofs.KeptResets.{resets_quiet, fits_same}
use Rattle.pblk_core.proofs.NotesKept.{quiet_notes, quiet_used}
use Rattle.pblk_core.specs.Resets.{resets_left}
use Rattle.pblk_model.proofs.Maps.{map_same, row_at}
use Rattle.pblk_model.proofs.Tests.{both, other_key, same_key}
use Rattle.pblk_model.proofs.MarksLemmas.{accepted_small}
use Rattle.pblk_world.proofs.EngineLogLemmas.{takes_more}

-- ---- the map

set_at : (f g : ℕ → Slot) (m : FinMap nat_cmp Slot) (lba x q : ℕ) (capacity : ℕ) → ((n : ℕ) → g n ≡ (if lba == n then Cached q else f n))
    → ((n : ℕ) → n < capacity → fin.get m n ≡ Some (f n)) → x < capacity → fin.get (fin.insert m lba (Cached q)) x ≡ Some (g x)
set_at f g m lba x q capacity changed old within = get-insert nat_cmp_total m lba (Cached q) x ∙ go (eqb_tells lba x)
  where
    go : ((eqb lba x ≡ true) × (lba ≡ x)) ⊎ ((eqb lba x ≡ false) × (lba ≢ x)) → cond (eq_by_cmp nat_cmp x lba) (Some (Cached q)) (fin.get m x) ≡ Some (g x)
    go (inl h) = ap (λ b. cond b (Some (Cached q)) (fin.get m x)) (same_key x lba (sym h.1))
        ∙ ap Some (sym (changed x ∙ ap (λ b. if b then Cached q else f x) h.0))
    go (inr h) = ap (λ b. cond b (Some (Cached q)) (fin.get m x)) (other_key x lba (λ e. h.1 (sym e))) ∙ old x within
        ∙ ap Some (sym (changed x ∙ ap (λ b. if b then Cached q else f x) h.0))

pub slots_taken : (i : Image) (logs : Logs) (entry : Entry) (mark : Mark) (knows : List ℕ) (m : FinMap nat_cmp Slot) (x : ℕ)
    → IsUnplaced i.shape (logs 0) entry.position → mark.lba ≡ entry.lba
    → ((lba : ℕ) → lba < i.shape.capacity → fin.get m lba ≡ Some (slot_of i logs lba)) → x < i.shape.capacity
    → fin.get (fin.insert m entry.lba (Cached entry.position)) x ≡ Some (slot_of i (after logs (Take entry mark) knows) x)
slots_taken i logs entry mark knows m x none names old within =
    set_at (slot_of i logs) (slot_of i (after logs (Take entry mark) knows)) m entry.lba x entry.position i.shape.capacity
    (λ n. slot_taken i logs entry mark knows n none ∙ ap (λ l. if l == n then Cached entry.position else slot_of i logs n) names) old within

-- no sector is brought to the drive
pub media_kept : (m : FinMap nat_cmp Slot) (lba x q line at position : ℕ) → fin.get (fin.insert m lba (Cached q)) x ≡ Some (Media line at position)
    → fin.get m x ≡ Some (Media line at position)
media_kept m lba x q line at position there = go (eqb_tells lba x) (sym (get-insert nat_cmp_total m lba (Cached q) x) ∙ there)
  where
    go : ((eqb lba x ≡ true) × (lba ≡ x)) ⊎ ((eqb lba x ≡ false) × (lba ≢ x)) → cond (eq_by_cmp nat_cmp x lba) (Some (Cached q)) (fin.get m x)
        ≡ Some (Media line at position) → fin.get m x ≡ Some (Media line at position)
    go (inl h) e = absurd (in_buffer (same_Some (Cached q) (Media line at position)
        (sym (ap (λ b. cond b (Some (Cached q)) (fin.get m x)) (same_key x lba (sym h.1))) ∙ e)))
      where
        in_buffer : Cached q ≡ Media line at position → ⊥
        in_buffer e = absurd cc
    go (inr h) e = sym (ap (λ b. cond b (Some (Cached q)) (fin.get m x)) (other_key x lba (λ same. h.1 (sym same)))) ∙ e

-- ---- lines

pub units_taken : (i : Image) (logs : Logs) (entry : Entry) (mark : Mark) (knows : List ℕ) (line : ℕ)
    → online_now i (after logs (Take entry mark) knows) line ≡ online_now i logs line
units_taken i logs entry mark knows line = ap (λ (j : Image). bits_of (line_units j line)) (known_kept i logs (Take entry mark) knows refl (λ unit. refl))

pub openings_taken : (log : List Logged) (entry : Entry) (mark : Mark) (knows : List ℕ) → openings (with_take log entry mark knows) ≡ openings log
openings_taken log entry mark knows = openings_more log (record { event = Decides (Take entry mark); knows = knows }) ∙ append-nil (openings log)

pub standing_taken : (log : List Logged) (entry : Entry) (mark : Mark) (knows : List ℕ) → standing (with_take log entry mark knows) ≡ standing log
standing_taken log entry mark knows =
    standing_same log (with_take log entry mark knows) (openings_taken log entry mark knows)
    (λ line. life_more log (record { event = Decides (Take entry mark); knows = knows }) line)

-- ---- fronts

pub given_same : (s : Shape) (log : List Logged) (entry : Entry) (mark : Mark) (knows : List ℕ) (q : ℕ)
    → is_given_back s (with_take log entry mark knows) q ≡ is_given_back s log q
given_same s log entry mark knows q =
    any_same (gives_back s new q) (gives_back s log q) (gives_back_same s log new (alike log entry mark knows) q) (placements new)
    ∙ ap (list_any (gives_back s log q)) (AreAlike.placements (alike log entry mark knows))
  where
    new : List Logged
    new = with_take log entry mark knows

pub freed_taken : (s : Shape) (log : List Logged) (entry : Entry) (mark : Mark) (knows : List ℕ) (b : Begun) → begun log ≡ Some b
    → freed s log ≤ freed s (with_take log entry mark knows)
freed_taken s log entry mark knows b has =
    let new : List Logged = with_take log entry mark knows in
    let first : first_position new ≡ first_position log = first_stays log (record { event = Decides (Take entry mark); knows = knows }) b has in
    let more : length (takes log) ≤ length (takes new) =
    subst (λ ts. length (takes log) ≤ length ts) (sym (takes_more log (record { event = Decides (Take entry mark); knows = knows })))
    (omega (arith, length-append (takes log) (record { entry = entry; mark = mark } ∷ []))) in
    subst (λ p. freed s log ≤ least_missing (is_given_back s new) (length (takes new)) p) (sym first)
    (least_rises (is_given_back s log) (is_given_back s new) (length (takes log)) (length (takes new)) (first_position log)
    (λ q e. given_same s log entry mark knows q ∙ e) more)

-- ---- the window and the users

-- the source of an entry, as the log has it
abbrev pub sources : Option EntrySource → Option Source
sources = option_map (λ (at : EntrySource). record { line = at.line; at = at.at; position = at.position })

pub classed_is : (m : FinMap nat_cmp Slot) (e : FramedEntry) (c : Class) (s : Option EntrySource) → IsClassed m e c s
    → c ≡ class_of (option_map (λ (at : EntrySource). record { line = at.line; at = at.at; position = at.position }) s)
classed_is m e User s none = sym (ap (λ o. class_of (sources o)) none)
classed_is m e Copy s is = sym (ap (λ o. class_of (sources o)) is.1)

-- an entry waits in the window, as a user's or as a copy
waiting_is : (e : FramedEntry) → e.class ≡ class_of (entry_of e).source → without_frame (record { entry = e; progress = Waiting }) ≡ waiting_sector (entry_of e)
waiting_is e class = λ k. record {
  position = e.position;
  class = class k;
  lba = e.lba;
  source = from e.source k;
  sector = e.frame.bytes;
  progress = Waiting;
}
  where
    from : (o : Option EntrySource) → o ≡ source_of (sources o)
    from None = refl
    from (Some at) = refl

pub users_more : (log : List Logged) (entry : Entry) (mark : Mark) (knows : List ℕ)
    → length (user_takes (with_take log entry mark knows)) ≡ length (user_takes log) + users_in (class_of entry.source)
users_more log entry mark knows =
    ap (λ ts. length (filter (λ (t : Taken). is_users t.entry.source) ts)) (takes_more log (record { event = Decides (Take entry mark); knows = knows }))
    ∙ ap length (filter_last (λ (t : Taken). is_users t.entry.source) (takes log) (record { entry = entry; mark = mark }) (is_users entry.source) refl)
    ∙ go entry.source
  where
    go : (o : Option Source) → length (user_takes log ++ cond (is_users o) (record { entry = entry; mark = mark } ∷ []) [])
        ≡ length (user_takes log) + users_in (class_of o)
    go None = length-append (user_takes log) (record { entry = entry; mark = mark } ∷ [])
    go (Some source) = length-append (user_takes log) []

-- ---- the core

-- what a core's fields are once it took an entry, but for those that tell of sectors
pub record IsKeptInto (old new : Core) (e : FramedEntry) : Type 0 where
  pub layout : new.layout ≡ old.layout
  pub capacity : fin.len new.map ≡ fin.len old.map
  pub window : new.window ≡ record old.window { entries = old.window.entries ++ record { entry = e; progress = Waiting } ∷ [] }
  pub placer : new.placer ≡ waits old.placer e.position false
  pub open_lines : new.open ≡ old.open
  pub online : new.online ≡ old.online
  pub resets : new.resets ≡ old.resets
  pub notes : new.notes ≡ old.notes
  pub start : new.start ≡ old.start
  pub first : new.first ≡ old.first
  pub placed : new.placed ≡ old.placed
  pub left : new.left ≡ old.left
  pub under_way : new.under_way ≡ old.under_way
  pub answers : new.answers.items ≡ old.answers.items
  pub users : new.users ≡ old.users + users_in e.class

-- those that tell of sectors, by the logs
pub record TellsSectors (i : Image) (logs : Logs) (c : Core) : Type 0 where
  pub slots : (lba : ℕ) → lba < i.shape.capacity → fin.get c.map lba ≡ Some (slot_of i logs lba)
  pub table : c.lines ≡ rows_of i logs
  pub holds : AreHolds i.shape (logs 0) c.holds

module _ (i : Image) (w : World) (c : Core) (e : FramedEntry) (mount : IsLegalMount i w) (st : Stands i (log_of w) c) (next : CanTake c e) where
  pub taken_is : e.position ≡ taken (log_of w 0)
  taken_is = next.next ∙ window_taken_is i w c st

  pub unplaced : IsUnplaced i.shape (log_of w 0) e.position
  unplaced = subst (IsUnplaced i.shape (log_of w 0)) (sym taken_is) (next_is_unplaced i w mount)

  pub within : taken (log_of w 0) < c.window.freed + i.shape.ring
  within =
      let end : c.window.freed + length c.window.entries ≡ taken (log_of w 0) = window_taken_is i w c st in
      let size : c.window.size ≡ i.shape.ring = st.size in
      let room : length c.window.entries < c.window.size = next.room in
      omega arith

  pub numbered : AreNumbered (log_of w 0)
  numbered = (in_order i w (accepted_small i.shape mount.accepted) mount.legal).numbered

pub kept_stands : (i : Image) (w : World) (knows : List ℕ) (old new : Core) (e : FramedEntry) (mark : Mark) → IsLegalMount i w → Stands i (log_of w) old
    → CanTake old e → IsKeptInto old new e → TellsSectors i (after (log_of w) (Take (entry_of e) mark) knows) new
    → Stands i (after (log_of w) (Take (entry_of e) mark) knows) new
kept_stands i w knows old new e mark mount st next is tells = record {
  layout = is.layout ∙ st.layout;
  beginning = st.beginning;
  has_begun = begun_kept (log_of w 0) (Take (entry_of e) mark) knows refl ∙ st.has_begun;
  capacity = is.capacity ∙ st.capacity;
  slots = tells.slots;
  table = tells.table;
  units = ap (λ l. l.items) is.online ∙ st.units
      ∙ map_same (online_now i (log_of w)) (online_now i new_logs) (λ line. sym (units_taken i (log_of w) (entry_of e) mark knows line))
      (range_with_len 0 i.shape.chunks);
  resets = ap resets_left is.resets ∙ st.resets
      ∙ sym (resets_quiet i (log_of w) (Take (entry_of e) mark) knows refl (λ unit. refl)
      (λ line. life_more (log_of w 0) (record { event = Decides (Take (entry_of e) mark); knows = knows }) line));
  used_lines = ap (λ r. length r.used) is.resets ∙ st.used_lines;
  used = subst (AreUsed i new_logs) (sym is.resets)
      (quiet_used i (log_of w) (Take (entry_of e) mark) knows old.resets refl (λ unit. refl) same_closed st.used);
  notes = subst (AreNotes i new_logs) (sym is.notes)
      (quiet_notes i w st.beginning (Take (entry_of e) mark) knows old.notes mount st.has_begun refl
      (λ line. life_more (log_of w 0) (record { event = Decides (Take (entry_of e) mark); knows = knows }) line) same_closed
      (λ line o life. top_kept i (log_of w) (Take (entry_of e) mark) knows o refl (λ unit. refl)) st.notes);
  size = ap (λ v. v.size) is.window ∙ st.size;
  window = window_is;
  from_first = subst (λ v. first_position (new_logs 0) ≤ v.freed) (sym is.window) (subst (λ p. p ≤ old.window.freed) (sym first_is) st.from_first);
  to_freed = subst (λ v. v.freed ≤ freed i.shape (new_logs 0)) (sym is.window)
      (le_trans st.to_freed (freed_taken i.shape (log_of w 0) (entry_of e) mark knows st.beginning st.has_begun));
  holds = tells.holds;
  again = st.again;
  placing = placing_is;
  open_lines = subst (AreOpenLines i new_logs) (sym is.open_lines)
      (open_lines_same i (log_of w) (Take (entry_of e) mark) knows old.open (alike (log_of w 0) (entry_of e) mark knows)
      (standing_taken (log_of w 0) (entry_of e) mark knows) st.open_lines);
  next_seq = ap (λ r. r.seq) is.start ∙ st.next_seq
      ∙ ap (λ os. st.beginning.beginning.seq + length os) (sym (openings_taken (log_of w 0) (entry_of e) mark knows));
  first_seq = ap (λ r. r.first_seq) is.start ∙ st.first_seq;
  own_capacity = ap (λ r. r.capacity) is.start ∙ st.own_capacity;
  older = ap (λ r. (start_numbers r).rows) is.start ∙ st.older ∙ older_is;
  fits = fits_same old new is.first (ap (λ r. r.first_seq) is.start) (ap (λ r. (start_numbers r).rows) is.start) st.fits;
  first = is.first ∙ st.first ∙ sym first_is;
  placed = ap₂ (λ a b. a + b) is.first is.placed ∙ st.placed ∙ sym (front_taken i.shape (log_of w 0) (entry_of e) mark knows none);
  left = is.left ∙ st.left ∙ sym (addresses_kept i (log_of w) (Take (entry_of e) mark) knows refl);
  in_flight = is.under_way ∙ st.in_flight ∙ under_way_same i.shape (log_of w 0) (new_logs 0) (alike (log_of w 0) (entry_of e) mark knows);
  answers = is.answers ∙ st.answers ∙ counts_same i.shape (log_of w 0) (new_logs 0) (alike (log_of w 0) (entry_of e) mark knows);
  full = full_kept i (log_of w) (Take (entry_of e) mark) knows refl st.full;
  users = is.users ∙ ap₂ (λ n c. n + users_in c) st.users (classed_is old.map e e.class e.source next.class)
      ∙ sym (users_more (log_of w 0) (entry_of e) mark knows);
}
  where
    new_logs : Logs
    new_logs = after (log_of w) (Take (entry_of e) mark) knows

    same_closed : (line : ℕ) → closed_line i (after (log_of w) (Take (entry_of e) mark) knows) line ≡ closed_line i (log_of w) line
    same_closed line = closed_taken i (log_of w) (entry_of e) mark knows line

    none : IsUnplaced i.shape (log_of w 0) e.position
    none = unplaced i w old e mount st next

    older_is : older_rows i (log_of w) ≡ older_rows i new_logs
    older_is = older_kept i (log_of w) (Take (entry_of e) mark) knows st.beginning st.has_begun refl
        (λ line. inl (ap is_as_found (life_more (log_of w 0) (record { event = Decides (Take (entry_of e) mark); knows = knows }) line)))

    first_is : first_position (new_logs 0) ≡ first_position (log_of w 0)
    first_is = first_stays (log_of w 0) (record { event = Decides (Take (entry_of e) mark); knows = knows }) st.beginning st.has_begun

    map_window : map without_frame (old.window.entries ++ record { entry = e; progress = Waiting } ∷ []) ≡ map without_frame old.window.entries
        ++ without_frame (record { entry = e; progress = Waiting }) ∷ []
        → ◌≡◌ {A = HeldSectors} (record {
          freed = old.window.freed;
          users = old.window.users;
          entries =
              map without_frame (old.window.entries ++ record { entry = e; progress = Waiting } ∷ []);
        })
        (record {
          freed = old.window.freed;
          users = old.window.users;
          entries =
              map without_frame old.window.entries ++ without_frame (record { entry = e; progress = Waiting }) ∷ [];
        })
    map_window h = λ k. record { freed = old.window.freed; users = old.window.users; entries = h k }

    with_last : without_frame (record { entry = e; progress = Waiting }) ≡ waiting_sector (entry_of e)
        → ◌≡◌ {A = HeldSectors} (record {
          freed = old.window.freed;
          users = old.window.users;
          entries =
              map without_frame old.window.entries ++ without_frame (record { entry = e; progress = Waiting }) ∷ [];
        })
        (record { freed = old.window.freed; users = old.window.users; entries = map without_frame old.window.entries ++ waiting_sector (entry_of e) ∷ [] })
    with_last h = λ k. record { freed = old.window.freed; users = old.window.users; entries = map without_frame old.window.entries ++ h k ∷ [] }

    window_is : sectors_in new.window ≡ window_from i.shape (new_logs 0) new.window.freed
    window_is =
        ap sectors_in is.window
        ∙ map_window (map-append without_frame old.window.entries (record { entry = e; progress = Waiting } ∷ []))
        ∙ with_last (waiting_is e (classed_is old.map e e.class e.source next.class))
        ∙ ap (λ (v : HeldSectors). record v { entries = v.entries ++ waiting_sector (entry_of e) ∷ [] }) st.window
        ∙ sym (window_taken i.shape (log_of w 0) (entry_of e) mark knows old.window.freed none (taken_is i w old e mount st next)
        (freed_taken_within i w old st))
        ∙ ap (window_from i.shape (new_logs 0)) (sym (ap (λ v. v.freed) is.window))

    placing_is : new.placer ≡ placing_of i new_logs new.placer.entries.pad st.again
    placing_is =
        is.placer ∙ ap (λ p. waits p e.position false) st.placing
        ∙ sym (placing_taken i (log_of w) (entry_of e) mark knows old.placer.entries.pad st.again none)
        ∙ ap (λ n. placing_of i new_logs n st.again) (sym (ap (λ p. p.entries.pad) is.placer))

-- ---- the slot that is a source

-- a slot that is a block is just that block
pub source_slot : (slot : Slot) (source : EntrySource) → is_source (Some slot) source ≡ true → slot ≡ Media source.line source.at source.position
source_slot Unwritten source e = absurd cc
source_slot (Cached position) source e = absurd cc
source_slot (Media line at position) source e =
    let parts = both (line == source.line) ((at == source.at) && (position == source.position)) e in
    let rest = both (at == source.at) (position == source.position) parts.1 in
    let a : line ≡ source.line = eqb-true line source.line parts.0 in
    let b : at ≡ source.at = eqb-true at source.at rest.0 in
    let c : position ≡ source.position = eqb-true position source.position rest.1 in
    λ k. Media (a k) (b k) (c k)

-- ---- an entry that becomes the latest of its sector

-- the line of a slot is one of the drive, and has a live sector
slot_line : (i : Image) (w : World) (c : Core) (lba : ℕ) (slot : Slot) (line : ℕ) → IsLegalMount i w → Stands i (log_of w) c → fin.get c.map lba ≡ Some slot
    → lba < i.shape.capacity
    → line_of_slot c.holds.rows.items slot ≡ Some line → line_of i (log_of w) lba (last_take (log_of w 0) lba) ≡ Some line
slot_line i w c lba slot line mount st found inside is =
    let now : slot ≡ slot_of i (log_of w) lba = same_Some slot (slot_of i (log_of w) lba) (sym found ∙ st.slots lba inside) in
    sym (line_is i w c.holds lba mount inside st.holds) ∙ sym (ap (line_of_slot c.holds.rows.items) now) ∙ is

pub live_there : (i : Image) (w : World) (c : Core) (lba : ℕ) (slot : Slot) (line : ℕ) (row : Row) → IsLegalMount i w → Stands i (log_of w) c
    → fin.get c.map lba ≡ Some slot → lba < i.shape.capacity
    → line_of_slot c.holds.rows.items slot ≡ Some line → IsRow c.lines line row → 0 < row.live
live_there i w c lba slot line row mount st found inside is there =
    let some : 0 < live i (log_of w) line = live_some i (log_of w) line lba inside (slot_line i w c lba slot line mount st found inside is) in
    let at : slice_get (map (row_of_line i (log_of w)) (range_with_len 0 i.shape.chunks)) line ≡ Some row =
    sym (ap (λ (t : Table). slice_get t.rows line) st.table) ∙ there in
    subst (λ (r : Row). 0 < r.live) ((row_at (row_of_line i (log_of w)) i.shape.chunks 0 line row at).1)
    (subst (λ n. 0 < live i (log_of w) n) (sym (zero-add line)) some)

pub live_inside : (i : Image) (w : World) (c : Core) (lba : ℕ) (slot : Slot) (line : ℕ) → IsLegalMount i w → Stands i (log_of w) c
    → fin.get c.map lba ≡ Some slot → lba < i.shape.capacity
    → line_of_slot c.holds.rows.items slot ≡ Some line → line < length c.lines.rows
live_inside i w c lba slot line mount st found inside is =
    let low : line < i.shape.chunks =
    line_in_range i (log_of w) lba (last_take (log_of w 0) lba) line (plain_in_order i w mount).placed
    (slot_line i w c lba slot line mount st found inside is) in
    subst (λ n. line < n) (sym (ap (λ (t : Table). length t.rows) st.table ∙ length-map-range_with_len (row_of_line i (log_of w)) 0 i.shape.chunks)) low

-- what a core's fields are once it took one
pub record IsTakenInto (old new : Core) (e : FramedEntry) (mark : Mark) : Type 0 where
  pub kept : IsKeptInto old new e
  pub slot : Slot
  pub found : fin.get old.map e.lba ≡ Some slot
  pub map : new.map ≡ fin.insert old.map e.lba (Cached e.position)
  pub lines : new.lines ≡ lose_in (line_of_slot old.holds.rows.items slot) (has_landed_in old.window slot) e.position old.lines
  pub holds : new.holds.rows.items ≡ slice_set (rows_with_taker slot e.position old.holds.rows.items)
      (e.position % length (rows_with_taker slot e.position old.holds.rows.items)) (record { mark = mark; line = None; taker = None })

pub taken_stands : (i : Image) (w : World) (knows : List ℕ) (old new : Core) (e : FramedEntry) (mark : Mark) → IsLegalMount i w → Stands i (log_of w) old
    → CanTake old e → IsTakenInto old new e mark → mark.lba ≡ e.lba → e.lba < i.shape.capacity
    → Stands i (after (log_of w) (Take (entry_of e) mark) knows) new
taken_stands i w knows old new e mark mount st next is names inside = kept_stands i w knows old new e mark mount st next is.kept (record {
  slots = λ x within. ap (λ m. fin.get m x) is.map ∙ slots_taken i (log_of w) (entry_of e) mark knows old.map x none names st.slots within;
  table = is.lines ∙ ap₂ (λ o t. lose_in o (has_landed_in old.window is.slot) e.position t) line_now st.table
      ∙ ap (λ slot. lose_in (line_of i (log_of w) e.lba (last_take (log_of w 0) e.lba)) (has_landed_in old.window slot) e.position (rows_of i (log_of w)))
      slot_now ∙ sym table_now;
  holds = holds_taken i (log_of w) knows (entry_of e) mark old.holds old.window.freed (numbered i w old e mount st next) none st.holds
      (taken_is i w old e mount st next) st.to_freed (within i w old e mount st next) new.holds names no_void holds_are;
})
  where
    none : IsUnplaced i.shape (log_of w 0) e.position
    none = unplaced i w old e mount st next

    slot_now : is.slot ≡ slot_of i (log_of w) e.lba
    slot_now = same_Some is.slot (slot_of i (log_of w) e.lba) (sym is.found ∙ st.slots e.lba inside)

    line_now : line_of_slot old.holds.rows.items is.slot ≡ line_of i (log_of w) e.lba (last_take (log_of w 0) e.lba)
    line_now = ap (line_of_slot old.holds.rows.items) slot_now ∙ line_is i w old.holds e.lba mount inside st.holds

    holds_are : new.holds.rows.items ≡ slice_set (rows_with_taker (slot_of i (log_of w) e.lba) e.position old.holds.rows.items)
        (e.position % length (rows_with_taker (slot_of i (log_of w) e.lba) e.position old.holds.rows.items))
        (record { mark = mark; line = None; taker = None })
    holds_are = is.holds ∙ ap (λ s. slice_set (rows_with_taker s e.position old.holds.rows.items)
        (e.position % length (rows_with_taker s e.position old.holds.rows.items)) (record { mark = mark; line = None; taker = None })) slot_now

    table_now : rows_of i (after (log_of w) (Take (entry_of e) mark) knows) ≡ lose_in (line_of i (log_of w) e.lba (last_take (log_of w 0) e.lba))
        (has_landed_in old.window (slot_of i (log_of w) e.lba)) e.position (rows_of i (log_of w))
    table_now =
        rows_taken i (log_of w) (entry_of e) mark knows (has_landed_in old.window (slot_of i (log_of w) e.lba))
        (freed_before i w mount.legal) (numbered i w old e mount st next) none (taken_is i w old e mount st next)
        (subst (λ n. n < i.shape.capacity) (sym names) inside)
        (ap (λ n. landed_line_of i (log_of w) n (last_take (log_of w 0) n)) names ∙ landed_is i w old e.lba mount st
        ∙ ap (λ n. if has_landed_in old.window (slot_of i (log_of w) e.lba) then line_of i (log_of w) n (last_take (log_of w 0) n) else None) (sym names))
        ∙ ap (λ n. lose_in (line_of i (log_of w) n (last_take (log_of w 0) n)) (has_landed_in old.window (slot_of i (log_of w) e.lba)) e.position
        (rows_of i (log_of w))) names

    no_void : mark.lba < void_lba
    no_void = let low : i.shape.capacity ≤ meta_lba = accepted_small i.shape mount.accepted in
        let same : mark.lba ≡ e.lba = names in
        omega (arith, inside)

-- ---- and the log may take it

-- What the map names is the latest of its sector, whatever block stands there.
source_is_latest : (i : Image) (w : World) (lba : ℕ) (source : EntrySource) (block : Block) → IsLegalMount i w → lba < i.shape.capacity
    → slot_of i (log_of w) lba ≡ Media source.line source.at source.position → block_at (media i (log_of w)) source.line source.at ≡ Some block
    → IsLatest i (log_of w) lba (record { line = source.line; at = source.at; position = source.position }) block
source_is_latest i w lba source block mount inside slot there = record {
  place = named_is_place i w mount lba source.line source.at source.position inside slot;
  there = there;
  bears = bears (last_take (log_of w 0) lba) refl slot;
}
  where
    bears : (o : Option Taken) → last_take (log_of w 0) lba ≡ o → slot_by i (log_of w) lba o ≡ Media source.line source.at source.position
        → BearsIt lba (record { line = source.line; at = source.at; position = source.position }) block o
    bears None last e = tt
    bears (Some t) last e =
        let latest = entry_is_latest i w mount lba inside t last source.line source.at source.position
        (given_by i (log_of w) t.entry.position source.line source.at source.position e) in
        subst (λ (b : Block). b.mark ≡ sector_mark lba source.position) (same_Some (block_of_taken t) block (sym latest.there ∙ there))
        (subst (BearsIt lba (record { line = source.line; at = source.at; position = source.position }) (block_of_taken t)) last latest.bears)

-- a copy of it has its sector
marked_latest : (i : Image) (w : World) (c : Core) (e : FramedEntry) (source : Option EntrySource) → IsLegalMount i w → Stands i (log_of w) c
    → e.lba < i.shape.capacity → is_latest_from (fin.get c.map e.lba) source ≡ true → HasItsSector i (log_of w) (entry_of e) (sources source)
    → IsMarked i (log_of w) (entry_of e) (sector_mark e.lba e.position) (sources source)
marked_latest i w c e None mount st inside latest sector = refl
marked_latest i w c e (Some source) mount st inside latest sector = inl (record {
  block = sector.block;
  latest = source_is_latest i w e.lba source sector.block mount inside slot_is sector.there;
  sector = sector.sector;
  names_sector = refl;
})
  where
    slot_is : slot_of i (log_of w) e.lba ≡ Media source.line source.at source.position
    slot_is = source_slot (slot_of i (log_of w) e.lba) source (ap (λ o. is_source o source) (sym (st.slots e.lba inside)) ∙ latest)

pub may_take : (i : Image) (w : World) (c : Core) (e : FramedEntry) → IsLegalMount i w → Stands i (log_of w) c → e.position ≡ view.taken c.window
    → e.position < 2 ^ 62 → e.lba < i.shape.capacity → is_latest_in c.map e ≡ true
    → IsBlock i.shape (record { sector = e.frame.bytes; mark = sector_mark e.lba e.position })
    → HasItsSector i (log_of w) (entry_of e) (entry_of e).source
    → MayTake i (log_of w) (entry_of e) (sector_mark e.lba e.position)
may_take i w c e mount st position number inside latest block sector = record {
  position = position ∙ window_taken_is i w c st;
  position_number = number;
  lba = inside;
  marked = marked_latest i w c e e.source mount st inside latest sector;
  block = block;
}

-- A core that opened a line stands for the log with it.
use Rattle.std.proofs.Common.{◌≡◌, ◌≢◌, ◌⊎◌, ℕ, ◌+◌, ◌-◌, ◌*◌, ◌/◌, ◌<◌, ◌≤◌, true, false, None, Some, List, [], ◌∷◌, ◌++◌, length, refl, sym, subst, ap, ap₂, ◌∙◌, arith, inl, inr, length-append, length-set, le_refl, take, not, nat_eq, Bool, if◌then◌else◌}
use Rattle.std.specs.Prelude.{map, slice_get, slice_set, slice_range}
use Rattle.std.specs.List.{Contains, filter, flat_map, range_with_len}
use Rattle.std.specs.FinMap as fin
use Rattle.std.proofs.Math.Seq.{drop-nil, take-nil}
use Rattle.std.proofs.lemmas.Option.{same_Some, slice_get_within}
use Rattle.pblk_model.specs.declared.shape.Shape.{Shape}
use Rattle.pblk_model.specs.Chunk.{Block}
use Rattle.pblk_model.specs.StartRecord.{start_bytes, start_of}
use Rattle.pblk_model.specs.Image.{Image, line_units}
use Rattle.pblk_model.specs.LineOrder.{start_len, data_len}
use Rattle.pblk_world.specs.Events.{Open, EngineEvent, Decides, Logged}
use Rattle.pblk_world.specs.World.{World, Logs, log_of}
use Rattle.pblk_world.specs.EngineLog.{Taken, takes, Opening, openings, Placed, placements, stripes_of, is_life, has_failed, is_as_found, Opened, life_of}
use Rattle.pblk_world.specs.Fronts.{first_position, is_users}
use Rattle.pblk_world.specs.Lines.{known_image, found_image}
use Rattle.pblk_world.specs.Opening.{MayOpen}
use Rattle.pblk_world.specs.Placing.{end_address}
use Rattle.pblk_world.specs.Space.{freed}
use Rattle.pblk_world.specs.Starts.{start_stripes}
use Rattle.pblk_world.proofs.Appending.{openings_more, life_more}
use Rattle.line_table.specs.declared.row.LineState.TheVariants as states
use Rattle.line_table.specs.Rows.{Changes, turned}
use Rattle.line_table.proofs.Places.{get_within, get_set_same, get_set_other, each_more}
use Rattle.stripe_placer.specs.Placing.{begun as line_begun}
use Rattle.write_window.specs.Window as view
use Rattle.core_laws.specs.Stepping.{after}
use Rattle.core_laws.specs.OpenedLines.{bits_of, online_now}
use Rattle.core_laws.specs.PlacerOf.{placing_of}
use Rattle.pblk_world.specs.LegalMounts.{IsLegalMount}
use Rattle.core_laws.specs.RowsOf.{rows_of, row_of_line}
use Rattle.core_laws.specs.WindowOf.{is_given_back, sectors_in, window_from}
use Rattle.core_laws.proofs.Engine.{prefix_whole}
use Rattle.core_laws.proofs.TakenNumbers.{first_stays}
use Rattle.core_laws.proofs.Opening.{new_line, placing_opened, placed_before}
use Rattle.core_laws.proofs.Steady.{AreAlike}
use Rattle.core_laws.proofs.PlacedLines.{get_row as row_there}
use Rattle.core_laws.proofs.TakenWindow.{given_same}
use Rattle.core_laws.proofs.QuietEvents.{IsQuiet, quiet_alike, quiet_window, quiet_slot, open_is_quiet, quiet_takes}
use Rattle.core_laws.proofs.LeastPositions.{least_rises}
use Rattle.core_laws.specs.ChangedTables.{with_row}
use Rattle.core_laws.proofs.ClosedKept.{closed_opened}
use Rattle.core_laws.proofs.KeptRows.{begun_kept, known_kept}
use Rattle.core_laws.proofs.OpenAddresses.{addresses_opened}
use Rattle.core_laws.proofs.OpenedRows.{rows_opened}
use Rattle.core_laws.proofs.PlacedFront.{front_kept}
use Rattle.core_laws.proofs.FreedMoments.{freed_before}
use Rattle.core_laws.proofs.ChangedTables.{changed_is}
use Rattle.core_laws.proofs.EntryHolds.{later_same, line_same}
use Rattle.core_laws.proofs.LeftLines.{left_before, left_more}
use Rattle.pblk_model.specs.Contents.{least_missing}
use Rattle.pblk_core.specs.declared.target_core.Core.{Core}
use Rattle.pblk_core.specs.declared.hold.Holds.{Holds}
use Rattle.pblk_core.specs.declared.open_lines.OpenLine.{OpenLine}
use Rattle.pblk_core.specs.Holds.{hold_of, taker_in}
use Rattle.pblk_core.specs.Slots.{IsSlot, opened_slot}
use Rattle.pblk_core.specs.LineNotes.{note_opened}
use Rattle.pblk_core.specs.Stands.{Stands, AreHolds, AreOpenLines, AreUsed, IsOpenLine, left_openings, stripes_left}
use Rattle.pblk_core.specs.LineRecords.{placed_whole}
use Rattle.pblk_core.proofs.LineCounts.{left_opened}
use Rattle.pblk_layout.specs.Online.{units_in}
use Rattle.stripe_placer.specs.OpenLines.{opened}
use Rattle.pblk_core.specs.Named.{next_line, next_units, next_start}
use Rattle.pblk_core.proofs.OpeningFacts.{MayOpenNext, IsNextLine, next_line_is, next_may_open}
use Rattle.core_laws.proofs.Steady.{lost_same}
use Rattle.pblk_core.proofs.AnswerCounts.{counts_same}
use Rattle.pblk_core.proofs.FullOpenings.{full_opened}
use Rattle.pblk_core.proofs.SteadyLines.{open_same, under_way_same}
use Rattle.pblk_core.proofs.FoundLines.{HasOldRow, free_is_new, older_kept}
use Rattle.pblk_core.proofs.KeptResets.{resets_opened, fits_same}
use Rattle.pblk_core.proofs.NotesKept.{quiet_used}
use Rattle.pblk_core.proofs.NotesSet.{notes_opened, set_at}
use Rattle.pblk_core.specs.Resets.{resets_left}
use Rattle.std.proofs.lemmas.Bool.{eqb-true}
use Rattle.pblk_model.proofs.Maps.{filter_none, map_same}

-- ---- entries and their rows

hold_same : (s : Shape) (log : List Logged) (e : EngineEvent) (knows : List ℕ) (t : Taken) → IsQuiet log e knows
    → hold_of s (log ++ record { event = Decides e; knows = knows } ∷ []) t ≡ hold_of s log t
hold_same s log e knows t quiet = ap₂ (λ l u. record { mark = t.mark; line = l; taker = taker_in t u })
    (line_same s log new (quiet_alike log e knows quiet).placements (lost_same log new (quiet_alike log e knows quiet)) t.entry.position)
    (later_same log (record { event = Decides e; knows = knows }) t quiet.takes)
  where
    new : List Logged
    new = log ++ record { event = Decides e; knows = knows } ∷ []

pub quiet_holds : (s : Shape) (log : List Logged) (e : EngineEvent) (knows : List ℕ) (holds : Holds) → IsQuiet log e knows → AreHolds s log holds
    → AreHolds s (log ++ record { event = Decides e; knows = knows } ∷ []) holds
quiet_holds s log e knows holds quiet are = record {
  room = are.room;
  each = λ t among waits.
      are.each t (subst (λ ts. Contains ts t) (quiet_takes log e knows quiet) among)
      (sym (given_same s log (log ++ record { event = Decides e; knows = knows } ∷ []) (quiet_alike log e knows quiet) t.entry.position) ∙ waits)
      ∙ ap Some (sym (hold_same s log e knows t quiet));
}

pub quiet_freed : (s : Shape) (log : List Logged) (e : EngineEvent) (knows : List ℕ) → IsQuiet log e knows
    → first_position (log ++ record { event = Decides e; knows = knows } ∷ []) ≡ first_position log
    → freed s log ≤ freed s (log ++ record { event = Decides e; knows = knows } ∷ [])
quiet_freed s log e knows quiet first =
    let new : List Logged = log ++ record { event = Decides e; knows = knows } ∷ [] in
    subst (λ p. freed s log ≤ least_missing (is_given_back s new) (length (takes new)) p) (sym first)
    (subst (λ ts. freed s log ≤ least_missing (is_given_back s new) (length ts) (first_position log)) (sym (quiet_takes log e knows quiet))
    (least_rises (is_given_back s log) (is_given_back s new) (length (takes log)) (length (takes log)) (first_position log)
    (λ q h. given_same s log new (quiet_alike log e knows quiet) q ∙ h) (le_refl (length (takes log)))))

-- ---- the line

abbrev pub opening_next : List Logged → Core → List ℕ → Opening
opening_next log c knows = record { number = length log; line = next_line c; start = next_start c; knows = knows }

-- nothing was placed in it yet
none_of : (log : List Logged) (e : EngineEvent) (knows : List ℕ) (o : Opening) → IsQuiet log e knows → o.number ≡ length log
    → stripes_of (log ++ record { event = Decides e; knows = knows } ∷ []) o ≡ []
none_of log e knows o quiet number =
    ap (filter (λ (p : Placed). is_life o.number p.life)) (AreAlike.placements (quiet_alike log e knows quiet))
    ∙ ap (λ n. filter (λ (p : Placed). is_life n p.life) (placements log)) number
    ∙ filter_none (λ (p : Placed). is_life (length log) p.life) (placements log) (placed_before log (length log) (le_refl (length log)))

none_in_range : (a b : ℕ) → map (λ (x : Block). x.mark) (slice_range [] a b) ≡ []
none_in_range a b = ap (map (λ (x : Block). x.mark)) (ap (take (b - a)) (drop-nil a) ∙ take-nil (b - a))

no_marks : (s : Shape) (o : Opening) (ps : List Placed) → ps ≡ []
    → map (λ (b : Block). b.mark) (slice_range (flat_map (λ (p : Placed). p.stripe.blocks) ps) (start_len s) (end_address s o)) ≡ []
no_marks s o ps none = ap (λ (qs : List Placed). map (λ (b : Block). b.mark)
    (slice_range (flat_map (λ (p : Placed). p.stripe.blocks) qs) (start_len s) (end_address s o))) none ∙ none_in_range (start_len s) (end_address s o)

-- what a core's fields are once it opened its next line
pub record IsOpenedInto (old new : Core) : Type 0 where
  pub layout : new.layout ≡ old.layout
  pub map : new.map ≡ old.map
  pub lines : Changes old.lines new.lines (next_line old) (turned states.Open (next_start old).width)
  pub window : new.window ≡ old.window
  pub placer : new.placer ≡ line_begun old.placer (next_line old) (next_units old)
  pub holds : new.holds ≡ old.holds
  pub open_count : new.open.count ≡ old.open.count + 1
  pub open_slots : (line : OpenLine) → IsSlot old.open old.open.count line → new.open.slots.items ≡ slice_set old.open.slots.items old.open.count
      (opened_slot line (next_start old) (next_units old) ((next_start old).width * (old.layout.clba / old.layout.ws_opt)))
  pub online : new.online ≡ old.online
  pub resets : new.resets ≡ old.resets
  pub note_rows : new.notes.rows.items ≡ slice_set old.notes.rows.items (next_line old)
      (note_opened (next_start old).seq (next_start old).front (start_stripes old.layout))
  pub newest : new.notes.newest ≡ old.notes.newest
  pub seq : new.start.seq ≡ old.start.seq + 1
  pub first_seq : new.start.first_seq ≡ old.start.first_seq
  pub own_capacity : new.start.capacity ≡ old.start.capacity
  pub older : new.start.rows ≡ old.start.rows
  pub first : new.first ≡ old.first
  pub placed : new.placed ≡ old.placed
  pub left : new.left ≡ old.left + data_len old.layout (next_start old).width
  pub under_way : new.under_way ≡ old.under_way
  pub answers : new.answers.items ≡ old.answers.items
  pub users : new.users ≡ old.users

one_more : (n : ℕ) → n < 2 → n + 1 ≤ 2
one_more n h = omega arith

pub lines_opened : (i : Image) (w : World) (knows : List ℕ) (old new : Core) → IsLegalMount i w → Stands i (log_of w) old → MayOpenNext old
    → IsOpenedInto old new
    → AreOpenLines i (after (log_of w) (Open (next_line old) (next_start old)) knows) new.open
lines_opened i w knows old new mount st may is = record {
  two = ap length slots_are ∙ length-set old.open.slots.items old.open.count x ∙ st.open_lines.two;
  shapes = λ k line there. go k line (set_at old.open.slots.items old.open.count k x line inside (ap (λ ls. slice_get ls k) (sym slots_are) ∙ there));
  few = subst (λ n. n ≤ 2) (sym is.open_count) (one_more old.open.count may.few);
  count = is.open_count ∙ ap (λ n. n + 1) st.open_lines.count
      ∙ sym (ap length left_are ∙ length-append (left_openings i (log_of w)) (opening_next (log_of w 0) old knows ∷ []));
  each = λ k o line there held. each_more (left_openings i (log_of w)) (opening_next (log_of w 0) old knows) IsKept earlier last k o
      (ap (λ os. slice_get os k) (sym left_are) ∙ there) line
      (ap (λ ls. slice_get ls k) (sym slots_are) ∙ held);
}
  where
    e : EngineEvent
    e = Open (next_line old) (next_start old)

    new_logs : Logs
    new_logs = after (log_of w) e knows

    quiet : IsQuiet (log_of w 0) e knows
    quiet = open_is_quiet (log_of w 0) (next_line old) (next_start old) knows

    alike : AreAlike (log_of w 0) (new_logs 0)
    alike = quiet_alike (log_of w 0) e knows quiet

    line_is : IsNextLine i w old
    line_is = next_line_is i w old mount st may

    inside : old.open.count < length old.open.slots.items
    inside = let two : length old.open.slots.items ≡ 2 = st.open_lines.two in let few : old.open.count < 2 = may.few in omega arith

    slot : (line : OpenLine) × (slice_get old.open.slots.items old.open.count ≡ Some line)
    slot = get_within old.open.slots.items old.open.count inside

    x : OpenLine
    x = opened_slot slot.0 (next_start old) (next_units old) ((next_start old).width * (old.layout.clba / old.layout.ws_opt))

    slots_are : new.open.slots.items ≡ slice_set old.open.slots.items old.open.count x
    slots_are = is.open_slots slot.0 slot.1

    left_are : left_openings i new_logs ≡ left_openings i (log_of w) ++ opening_next (log_of w 0) old knows ∷ []
    left_are = left_more i (log_of w) (next_line old) (next_start old) knows line_is.closed line_is.stripes

    shape_is : slot.0.records.shape ≡ i.shape
    shape_is = st.open_lines.shapes old.open.count slot.0 slot.1

    go : (k : ℕ) (line : OpenLine) → ((k ≡ old.open.count) × (x ≡ line)) ⊎ ((k ≢ old.open.count) × (slice_get old.open.slots.items k ≡ Some line))
        → line.records.shape ≡ i.shape
    go k line (inl h) = ap (λ (l : OpenLine). l.records.shape) (sym h.1) ∙ shape_is
    go k line (inr h) = st.open_lines.shapes k line h.1

    IsKept : ℕ → Opening → Type 0
    IsKept = λ k o. (line : OpenLine) → slice_get (slice_set old.open.slots.items old.open.count x) k ≡ Some line → IsOpenLine i new_logs o line

    earlier : (k : ℕ) (o : Opening) → slice_get (left_openings i (log_of w)) k ≡ Some o → IsKept k o
    earlier k o there line held =
        let low : k < length (left_openings i (log_of w)) = slice_get_within (left_openings i (log_of w)) k o there in
        let count : old.open.count ≡ length (left_openings i (log_of w)) = st.open_lines.count in
        let other : k ≢ old.open.count = λ same. absurd (omega arith) in
        open_same i (log_of w) e knows o line alike (left_before i (log_of w) k o there)
        (st.open_lines.each k o line there (sym (get_set_other old.open.slots.items old.open.count k x other) ∙ held))

    last : IsKept (length (left_openings i (log_of w))) (opening_next (log_of w 0) old knows)
    last line held =
        let o : Opening = opening_next (log_of w 0) old knows in
        let none : stripes_of (new_logs 0) o ≡ [] = none_of (log_of w 0) e knows o quiet refl in
        subst (IsOpenLine i new_logs o)
        (same_Some x line (sym (get_set_same old.open.slots.items old.open.count (length (left_openings i (log_of w))) x (sym st.open_lines.count) inside)
        ∙ held))
        (record {
          records = record {
            shape = shape_is;
            line = refl;
            width = refl;
            seq = refl;
            start = ap (λ s. start_bytes s (next_start old)) shape_is;
            marks = sym (no_marks i.shape o (placed_whole (new_logs 0) o)
                (ap (filter (λ (p : Placed). not (has_failed (take p.number (new_logs 0)) o))) none));
          };
          online = line_is.units_are ∙ ap (λ (ls : Logs). bits_of (line_units (known_image i ls) (next_line old))) (sym (prefix_whole (log_of w) e knows));
          left = ap (λ (s : Shape). (next_start old).width * (s.clba / s.ws_opt)) st.layout
              ∙ ap (λ n. length (units_in n) * (i.shape.clba / i.shape.ws_opt)) line_is.units_are
              ∙ sym (ap stripes_left (new_line i (log_of w) (next_line old) (next_start old) knows)
              ∙ left_opened (opened i.shape (next_line old) (online_now i (log_of w) (next_line old)))
              (length (units_in (online_now i (log_of w) (next_line old))) * (i.shape.clba / i.shape.ws_opt)) refl);
        })

pub opened_stands : (i : Image) (w : World) (knows : List ℕ) (old new : Core) → IsLegalMount i w → Stands i (log_of w) old → MayOpenNext old
    → IsOpenedInto old new
    → Stands i (after (log_of w) (Open (next_line old) (next_start old)) knows) new
opened_stands i w knows old new mount st may is = record {
  layout = is.layout ∙ st.layout;
  beginning = st.beginning;
  has_begun = begun_kept (log_of w 0) e knows refl ∙ st.has_begun;
  capacity = ap fin.len is.map ∙ st.capacity;
  slots = λ x within. ap (λ m. fin.get m x) is.map ∙ st.slots x within ∙ ap Some (sym (quiet_slot i (log_of w) e knows x quiet));
  table = table_is;
  units = ap (λ l. l.items) is.online ∙ st.units
      ∙ map_same (online_now i (log_of w)) (online_now i new_logs)
      (λ line. ap (λ (j : Image). bits_of (line_units j line)) (sym (known_kept i (log_of w) e knows refl (λ unit. refl)))) (range_with_len 0 i.shape.chunks);
  resets = ap resets_left is.resets ∙ st.resets ∙ sym (resets_opened i (log_of w) (next_line old) (next_start old) knows line_is.least.is_free);
  used_lines = ap (λ r. length r.used) is.resets ∙ st.used_lines;
  used = subst (AreUsed i new_logs) (sym is.resets)
      (quiet_used i (log_of w) e knows old.resets refl (λ unit. refl)
      (λ line. closed_opened i w st.beginning (next_line old) (next_start old) knows line mount st.has_begun allowed) st.used);
  notes = notes_opened i w st.beginning (next_line old) (next_start old) knows old.notes new.notes mount st.has_begun allowed
      (is.note_rows ∙ ap (λ (s : Shape). slice_set old.notes.rows.items (next_line old)
      (note_opened (next_start old).seq (next_start old).front (start_stripes s))) st.layout) is.newest st.notes;
  size = ap (λ v. v.size) is.window ∙ st.size;
  window = ap sectors_in is.window ∙ st.window ∙ sym (quiet_window i.shape (log_of w) e knows old.window.freed quiet)
      ∙ ap (λ (v : view.WindowView). window_from i.shape (new_logs 0) v.freed) (sym is.window);
  from_first = subst (λ v. first_position (new_logs 0) ≤ v.freed) (sym is.window) (subst (λ p. p ≤ old.window.freed) (sym first_is) st.from_first);
  to_freed =
      let rises : freed i.shape (log_of w 0) ≤ freed i.shape (new_logs 0) = quiet_freed i.shape (log_of w 0) e knows quiet first_is in
      let low : old.window.freed ≤ freed i.shape (log_of w 0) = st.to_freed in
      subst (λ v. v.freed ≤ freed i.shape (new_logs 0)) (sym is.window) (omega arith);
  holds = subst (AreHolds i.shape (new_logs 0)) (sym is.holds) (quiet_holds i.shape (log_of w 0) e knows old.holds quiet st.holds);
  again = st.again;
  placing = placing_is;
  open_lines = lines_opened i w knows old new mount st may is;
  next_seq = is.seq ∙ seq_is;
  first_seq = is.first_seq ∙ st.first_seq;
  own_capacity = is.own_capacity ∙ st.own_capacity;
  older = ap (λ rs. map Rattle.pblk_meta.specs.Records.row_numbers rs) is.older ∙ st.older
      ∙ older_kept i (log_of w) e knows st.beginning st.has_begun refl (λ line. old_row line (nat_eq (next_line old) line) refl);
  fits = fits_same old new is.first is.first_seq (ap (λ rs. map Rattle.pblk_meta.specs.Records.row_numbers rs) is.older) st.fits;
  first = is.first ∙ st.first ∙ sym first_is;
  placed = ap₂ (λ a b. a + b) is.first is.placed ∙ st.placed ∙ sym (front_kept i.shape (log_of w 0) e knows refl);
  left = is.left ∙ ap₂ (λ a (s : Shape). a + data_len s (next_start old).width) st.left st.layout
      ∙ sym (addresses_opened i (log_of w) (next_line old) (next_start old) knows line_is.least.in_range line_is.closed);
  in_flight = is.under_way ∙ st.in_flight ∙ under_way_same i.shape (log_of w 0) (new_logs 0) alike;
  answers = is.answers ∙ st.answers ∙ counts_same i.shape (log_of w 0) (new_logs 0) alike;
  full = full_opened i (log_of w) (next_line old) (next_start old) knows (sym st.left ∙ may.left) st.full;
  users = is.users ∙ st.users ∙ ap (λ ts. length (filter (λ (t : Taken). is_users t.entry.source) ts)) (sym (quiet_takes (log_of w 0) e knows quiet));
}
  where
    e : EngineEvent
    e = Open (next_line old) (next_start old)

    new_logs : Logs
    new_logs = after (log_of w) e knows

    quiet : IsQuiet (log_of w 0) e knows
    quiet = open_is_quiet (log_of w 0) (next_line old) (next_start old) knows

    alike : AreAlike (log_of w 0) (new_logs 0)
    alike = quiet_alike (log_of w 0) e knows quiet

    line_is : IsNextLine i w old
    line_is = next_line_is i w old mount st may

    allowed : MayOpen i (log_of w) st.beginning (next_line old) (next_start old)
    allowed = next_may_open i w old st.beginning mount st may st.has_begun

    first_is : first_position (new_logs 0) ≡ first_position (log_of w 0)
    first_is = first_stays (log_of w 0) (record { event = Decides e; knows = knows }) st.beginning st.has_begun

    old_row : (line : ℕ) (c : Bool) → nat_eq (next_line old) line ≡ c
        → HasOldRow i (log_of w) (after (log_of w) (Open (next_line old) (next_start old)) knows) line
    old_row line true f = go (free_is_new i (log_of w) (next_line old) line_is.least.is_free)
      where
        it : next_line old ≡ line
        it = eqb-true (next_line old) line f

        go : (is_as_found (life_of (log_of w 0) (next_line old)) ≡ false) ⊎ (start_of (found_image i (log_of w)) (next_line old) ≡ None)
            → HasOldRow i (log_of w) (after (log_of w) (Open (next_line old) (next_start old)) knows) line
        go (inl new) = inl (ap is_as_found (life_more (log_of w 0) (record { event = Decides (Open (next_line old) (next_start old)); knows = knows }) line
            ∙ ap (λ c. if c then Opened (record { number = length (log_of w 0); line = line; start = next_start old; knows = knows }) else life_of
            (log_of w 0) line) f) ∙ sym (ap (λ n. is_as_found (life_of (log_of w 0) n)) (sym it) ∙ new))
        go (inr unstarted) = inr (ap (λ n. start_of (found_image i (log_of w)) n) (sym it) ∙ unstarted)
    old_row line false f = inl (ap is_as_found (life_more (log_of w 0) (record { event = Decides (Open (next_line old) (next_start old)); knows = knows }) line
        ∙ ap (λ c. if c then Opened (record { number = length (log_of w 0); line = line; start = next_start old; knows = knows }) else life_of
        (log_of w 0) line) f))

    there : slice_get old.lines.rows (next_line old) ≡ Some (row_of_line i (log_of w) (0 + next_line old))
    there = ap (λ t. slice_get t.rows (next_line old)) st.table ∙ row_there (row_of_line i (log_of w)) i.shape.chunks 0 (next_line old) line_is.least.in_range

    table_is : new.lines ≡ rows_of i new_logs
    table_is =
        changed_is old.lines new.lines (next_line old) (turned states.Open (next_start old).width) (row_of_line i (log_of w) (0 + next_line old)) there is.lines
        ∙ ap (with_row (next_line old) (turned states.Open (next_start old).width)) st.table
        ∙ sym (rows_opened i (log_of w) st.beginning (next_line old) (next_start old) knows mount.accepted.drive
        (freed_before i w mount.legal) allowed)

    placing_is : new.placer ≡ placing_of i new_logs new.placer.entries.pad st.again
    placing_is =
        is.placer ∙ ap (λ p. line_begun p (next_line old) (next_units old)) st.placing
        ∙ ap (line_begun (placing_of i (log_of w) old.placer.entries.pad st.again) (next_line old)) line_is.units_are
        ∙ sym (placing_opened i (log_of w) (next_line old) (next_start old) knows old.placer.entries.pad st.again line_is.closed line_is.stripes)
        ∙ ap (λ n. placing_of i new_logs n st.again) (sym (ap (λ p. p.entries.pad) is.placer))

    seq_is : old.start.seq + 1 ≡ st.beginning.beginning.seq + length (openings (new_logs 0))
    seq_is =
        let was : old.start.seq ≡ st.beginning.beginning.seq + length (openings (log_of w 0)) = st.next_seq in
        let more : length (openings (new_logs 0)) ≡ length (openings (log_of w 0)) + 1 =
        ap length (openings_more (log_of w 0) (record { event = Decides e; knows = knows }))
        ∙ length-append (openings (log_of w 0)) (opening_next (log_of w 0) old knows ∷ []) in
        omega arith

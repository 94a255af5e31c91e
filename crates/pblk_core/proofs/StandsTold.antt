-- What a core stands for and collects, and what it is to do next, depends on what the engine was
-- told alone.
use Rattle.std.proofs.Common.{◌≡◌, ℕ, ◌+◌, ◌≤◌, ◌^◌, ◌==◌, ◌&&◌, ◌||◌, not, nat_lt, Bool, false, Some, None, Option, List, [], if◌then◌else◌, length, refl, sym, subst, ap, ap₂, ◌∙◌}
use Rattle.std.specs.Prelude.{slice_get, position}
use Rattle.std.specs.List.{flat_map, range_with_len}
use Rattle.std.specs.Option.{is_some, option_map, option_map_or}
use Rattle.pblk_model.specs.Image.{Image}
use Rattle.pblk_world.specs.AtRest.{victim_now}
use Rattle.pblk_world.specs.EngineLog.{Begun, begun, life_of, Opening, openings}
use Rattle.pblk_world.specs.Events.{Logged}
use Rattle.pblk_world.specs.Fronts.{first_position, synced, taken, waiting, user_takes}
use Rattle.pblk_world.specs.Lines.{chunks_of, is_given_up}
use Rattle.pblk_world.specs.Space.{freed, placed_front, position_limit}
use Rattle.pblk_world.specs.Victims.{live}
use Rattle.pblk_world.specs.World.{Logs}
use Rattle.line_table.specs.Rows.{is_free}
use Rattle.stripe_placer.specs.Placing.{next_stripe}
use Rattle.world_laws.specs.SameTold.{AreSameTold}
use Rattle.world_laws.proofs.ToldImages.{image_same}
use Rattle.world_laws.proofs.ToldPads.{at_work_told, pads_told}
use Rattle.world_laws.proofs.ToldTables.{addresses_told, due_told, live_told, open_told, rows_told as older_told}
use Rattle.core_laws.specs.ClosedLines.{starts_left}
use Rattle.core_laws.specs.KnownLogs.{AreKnown}
use Rattle.core_laws.specs.OpenedLines.{bits_of, online_now}
use Rattle.core_laws.specs.WindowOf.{window_from}
use Rattle.core_laws.proofs.AnsweredTops.{top_same}
use Rattle.core_laws.proofs.NextVictims.{closed_known, newest_known}
use Rattle.core_laws.proofs.ToldSpent.{full_told}
use Rattle.core_laws.proofs.ToldTables.{known_told, left_told, line_told, lines_told, online_told, placing_told, rows_told, slot_told, units_told}
use Rattle.pblk_core.specs.Collecting.{Collects}
use Rattle.pblk_core.specs.Copies.{is_copy_due}
use Rattle.pblk_core.specs.LineRecords.{AreRecordsOf}
use Rattle.pblk_core.specs.Named.{choice, pad_of, reset_or, work_of}
use Rattle.pblk_core.specs.Resets.{in_line, resets_of, used_units}
use Rattle.pblk_core.specs.Stands.{Stands, AreHolds, AreOpenLines, IsOpenLine, left_openings, stripes_left, under_way, answer_counts}
use Rattle.pblk_core.specs.declared.open_lines.OpenLine.{OpenLine}
use Rattle.pblk_core.specs.declared.open_lines.OpenLines.{OpenLines}
use Rattle.pblk_core.specs.declared.target_core.Core.{Core}
use Rattle.pblk_core.proofs.NotesKept.{notes_kept, used_kept}
use Rattle.pblk_model.proofs.Maps.{map_same}

module _ (i : Image) (a b : Logs) (h : AreSameTold i a b) where
  its_known : AreKnown i a b
  its_known = known_told i a b h

  -- ---- open lines

  open_told_of : (o : Opening) (kept : OpenLine) → IsOpenLine i a o kept → IsOpenLine i b o kept
  open_told_of o kept is = record {
    records = subst (λ (log : List Logged). AreRecordsOf i.shape log o kept.records) (sym h.own) is.records;
    online = is.online ∙ sym (ap bits_of (units_told i a b h o));
    left = is.left ∙ sym (ap stripes_left (line_told i a b h o));
  }

  opens_told : (kept : OpenLines) → AreOpenLines i a kept → AreOpenLines i b kept
  opens_told kept are =
      let left : left_openings i b ≡ left_openings i a = left_told i a b h in
      record {
        two = are.two;
        shapes = are.shapes;
        count = are.count ∙ sym (ap (λ (os : List Opening). length os) left);
        few = are.few;
        each = λ k o line there held. open_told_of o line (are.each k o line (ap (λ (os : List Opening). slice_get os k) (sym left) ∙ there) held);
      }

  -- ---- resets

  -- the same chunks are still to be reset
  pub resets_told : resets_of i b ≡ resets_of i a
  resets_told = ap₂ (λ (log : List Logged) (j : Image). flat_map (λ line. in_line line (if is_given_up log line then used_units j line else []))
      (range_with_len 0 i.shape.chunks)) h.own (image_same i a b h)

  -- ---- the core

  pub stands_told : (c : Core) → Stands i a c → Stands i b c
  stands_told c st = record {
    layout = st.layout;
    beginning = st.beginning;
    has_begun = ap begun h.own ∙ st.has_begun;
    capacity = st.capacity;
    slots = λ lba within. st.slots lba within ∙ ap Some (sym (slot_told i a b h lba));
    table = st.table ∙ sym (rows_told i a b h);
    units = st.units ∙ sym (map_same (online_now i b) (online_now i a) (online_told i a b h) (range_with_len 0 i.shape.chunks));
    resets = st.resets ∙ sym resets_told;
    used_lines = st.used_lines;
    used = used_kept i a b c.resets (λ line. closed_known i a b its_known line)
        (λ line closed is. ap (λ (j : Image). used_units j line) (image_same i a b h)) st.used;
    notes = notes_kept i a b c.notes (λ line. ap (λ (log : List Logged). life_of log line) h.own)
        (λ line. closed_known i a b its_known line)
        (ap (option_map (λ start. record { seq = start.seq; front = start.front })) (newest_known i a b its_known))
        (λ o. ap (λ (log : List Logged). starts_left i.shape log o) h.own)
        (λ line o life. top_same i a b o (ap (λ (j : Image). chunks_of j o.line) (image_same i a b h))) st.notes;
    size = st.size;
    window = st.window ∙ sym (ap (λ (log : List Logged). window_from i.shape log c.window.freed) h.own);
    from_first = subst (λ (log : List Logged). first_position log ≤ c.window.freed) (sym h.own) st.from_first;
    to_freed = subst (λ (log : List Logged). c.window.freed ≤ freed i.shape log) (sym h.own) st.to_freed;
    holds = subst (λ (log : List Logged). AreHolds i.shape log c.holds) (sym h.own) st.holds;
    again = st.again;
    placing = st.placing ∙ sym (placing_told i a b h c.placer.entries.pad st.again);
    open_lines = opens_told c.open st.open_lines;
    full = full_told i a b h st.full;
    next_seq = st.next_seq ∙ sym (ap (λ (log : List Logged). st.beginning.beginning.seq + length (openings log)) h.own);
    first_seq = st.first_seq;
    own_capacity = st.own_capacity;
    older = st.older ∙ sym (older_told i a b h);
    fits = st.fits;
    first = st.first ∙ sym (ap first_position h.own);
    placed = st.placed ∙ sym (ap (placed_front i.shape) h.own);
    left = st.left ∙ sym (open_told i a b h);
    in_flight = st.in_flight ∙ sym (ap (under_way i.shape) h.own);
    answers = st.answers ∙ sym (ap (answer_counts i.shape) h.own);
    users = st.users ∙ sym (ap (λ (log : List Logged). length (user_takes log)) h.own);
  }

  pub collects_told : (c : Core) → Collects i a c → Collects i b c
  collects_told c is = record {
    count = is.count;
    victim = is.victim ∙ sym (at_work_told i a b h);
    passed = is.passed;
    barren = is.barren;
    asked = subst (λ n. n ≤ pad_of c) (sym (pads_told i a b 0 h)) is.asked;
  }

  -- ---- what is to be done next

  has_live_told : (line : Option ℕ) → option_map_or (λ l. nat_lt 0 (live i b l)) line false ≡ option_map_or (λ l. nat_lt 0 (live i a l)) line false
  has_live_told None = refl
  has_live_told (Some line) = ap (nat_lt 0) (live_told i a b h line)

  pub copies_told : is_copy_due i b ≡ is_copy_due i a
  copies_told = ap₂ (λ x y. x && y) (due_told i a b h)
      (ap₂ (λ x y. x && y) (ap (λ o. option_map_or (λ l. nat_lt 0 (live i b l)) o false) (at_work_told i a b h) ∙ has_live_told (victim_now i a))
      (ap₂ (λ (log : List Logged) n. nat_lt (taken log) (position_limit log) && nat_lt (length (waiting i.shape log)) n) h.own (addresses_told i a b h)))

  pub work_told : (pad : ℕ) (again : List ℕ) (copying : Bool) → work_of i b pad again copying ≡ work_of i a pad again copying
  work_told pad again copying = λ j. reset_or (slice_get (resets_told j) 0) (choice
      (is_some (next_stripe (placing_told i a b h pad again j) 0))
      (nat_lt 0 (length (waiting i.shape (h.own j))) && (open_told i a b h j == 0))
      (is_some (position is_free (rows_told i a b h j).rows))
      (nat_lt (length (lines_told i a b h j)) 2
      && (nat_lt (option_map_or (λ (g : Begun). g.beginning.seq) (begun (h.own j)) 0 + length (openings (h.own j))) (2 ^ 61)
      && nat_lt (synced i.shape (h.own j)) (2 ^ 61)))
      (copies_told j && not copying)
      (nat_lt 0 (under_way i.shape (h.own j)) || copying))

-- How the numbers of lines and of chunks that are to be reset change with each step, and that a
-- reset leaves what there is of addresses together with those of such lines.
use Rattle.std.proofs.Common.{◌≡◌, ℕ, ◌+◌, ◌*◌, ◌<◌, ◌≤◌, ◌&&◌, not, nat_lt, suc, Bool, true, false, Some, None, Option, is_some, List, ◌∷◌, length, refl, sym, subst, ap, ap₂, ◌∙◌, arith, if◌then◌else◌}
use Rattle.std.specs.List.{filter, range_with_len}
use Rattle.std.specs.Option.{option_and_then, option_map}
use Rattle.std.proofs.lemmas.Option.{same_Some}
use Rattle.pblk_model.specs.Image.{Image}
use Rattle.std.proofs.Math.Nat.{mul-add, mul-one}
use Rattle.pblk_model.specs.LineOrder.{data_len}
use Rattle.pblk_model.specs.Shape.{units}
use Rattle.pblk_model.specs.StartRecord.{StartRecord, start_of}
use Rattle.pblk_model.specs.UnitLog.{UnitEvent}
use Rattle.pblk_world.specs.Answering.{MayNoteReset}
use Rattle.pblk_world.specs.EngineLog.{AsFound, Begun, begun, Freed, is_opened, life_of, LineLife, Opened}
use Rattle.pblk_world.specs.Events.{Again, Begin, Decides, EngineEvent, Free, Landed, Logged, Lost, Open, Place, ResetDone, Step, Take}
use Rattle.pblk_world.specs.Lines.{are_empty, found_image, has_number, is_given_up, known_image, line_data, strays_of}
use Rattle.pblk_world.specs.Opening.{MayOpen}
use Rattle.pblk_world.specs.Space.{addresses, full_data}
use Rattle.pblk_world.specs.Starts.{seq_in}
use Rattle.pblk_world.specs.World.{World, Logs, log_of, prefixes, unit_event_at, unit_event_of}
use Rattle.pblk_world.proofs.Appending.{life_more}
use Rattle.pblk_world.proofs.LinesLemmas.{not_given_up}
use Rattle.pblk_model.proofs.Maps.{filter_same}
use Rattle.pblk_model.proofs.Tests.{lt_true, not_both}
use Rattle.pblk_world.specs.LegalMounts.{IsLegalMount}
use Rattle.world_laws.specs.SameTold.{AreSameTold}
use Rattle.world_laws.proofs.ToldDecisions.{opening_told}
use Rattle.world_laws.proofs.ToldImages.{image_same, told_back}
use Rattle.core_laws.specs.Stepping.{after}
use Rattle.core_laws.proofs.FreedWidths as widths
use Rattle.core_laws.proofs.RangeSums.{sum_same}
use Rattle.core_laws.proofs.SteppingLemmas.{found_kept}
use Rattle.rest_laws.specs.RoomSteps.{free_data, is_unreset, is_used_at, keeps_unreset, unreset_chunks, unreset_in, unreset_lines}
use Rattle.rest_laws.specs.Tidy.{AreWide}
use Rattle.rest_laws.proofs.ChunkResets.{chunks_freed, chunks_kept, chunks_landed, chunks_opened, chunks_reset}
use Rattle.rest_laws.proofs.RoomChanges.{before, by_logs, land_whole, line_freed, may, note_whole, reset_gives, told, unit_tells_none, whole}
use Rattle.rest_laws.proofs.RoomyShapes.{eight_stripes}
use Rattle.rest_laws.proofs.UnresetSteps.{unreset_freed, unreset_kept, unreset_landed, unreset_opened, unreset_reset}
use Rattle.rest_laws.proofs.UsedResets.{in_range, may_note, still_given}

module _ (i : Image) (s : Step) (w : World) (mount : IsLegalMount i (s ∷ w)) where
  pub unit_keeps_unreset : (unit : ℕ) → s.author ≡ suc unit → unreset_lines i (log_of (s ∷ w)) ≡ unreset_lines i (log_of w)
  unit_keeps_unreset unit own =
      let same : AreSameTold i (log_of w) (log_of (s ∷ w)) = unit_tells_none i s w mount unit own in
      ap (λ (xs : List ℕ). length xs) (filter_same (is_unreset i (log_of (s ∷ w))) (is_unreset i (log_of w)) (λ line.
      ap₂ (λ (log : List Logged) (j : Image). is_given_up log line && not (are_empty j line)) same.own
      (image_same i (log_of w) (log_of (s ∷ w)) same)) (range_with_len 0 i.shape.chunks))

  pub unit_keeps_chunks : (unit : ℕ) → s.author ≡ suc unit → unreset_chunks i (log_of (s ∷ w)) ≡ unreset_chunks i (log_of w)
  unit_keeps_chunks unit own =
      let same : AreSameTold i (log_of w) (log_of (s ∷ w)) = unit_tells_none i s w mount unit own in
      sum_same (unreset_in i (log_of (s ∷ w))) (unreset_in i (log_of w)) (λ line.
      ap₂ (λ (log : List Logged) (j : Image). if is_given_up log line then length (filter (is_used_at j line) (range_with_len 0 (units i.shape))) else 0)
      same.own (image_same i (log_of w) (log_of (s ∷ w)) same)) (range_with_len 0 i.shape.chunks)

  module _ (own : s.author ≡ 0) (b : Begun) (begins : begun (log_of w 0) ≡ Some b) where
    abbrev knows : List ℕ
    knows = s.logged.knows

    was : IsLegalMount i w
    was = before i s w mount

    pub engine_keeps_unreset : (e : EngineEvent) → s.logged.event ≡ Decides e → keeps_unreset e ≡ true
        → unreset_lines i (log_of (s ∷ w)) ≡ unreset_lines i (log_of w)
    engine_keeps_unreset (Begin x) is keeps = absurd cc
    engine_keeps_unreset (Lost unit number) is keeps = absurd cc
    engine_keeps_unreset (ResetDone unit number) is keeps = absurd cc
    engine_keeps_unreset (Free line) is keeps = absurd cc
    engine_keeps_unreset (Take entry mark) is keeps =
        by_logs i s w mount (Take entry mark) own is b begins (λ ls. unreset_lines i ls ≡ unreset_lines i (log_of w))
        (unreset_kept i (log_of w) (Take entry mark) knows b begins refl (λ unit. refl) (λ line.
        life_more (log_of w 0) (record { event = Decides (Take entry mark); knows = knows }) line))
    engine_keeps_unreset (Place stripe) is keeps =
        by_logs i s w mount (Place stripe) own is b begins (λ ls. unreset_lines i ls ≡ unreset_lines i (log_of w))
        (unreset_kept i (log_of w) (Place stripe) knows b begins refl (λ unit. refl) (λ line.
        life_more (log_of w 0) (record { event = Decides (Place stripe); knows = knows }) line))
    engine_keeps_unreset (Again unit number) is keeps =
        by_logs i s w mount (Again unit number) own is b begins (λ ls. unreset_lines i ls ≡ unreset_lines i (log_of w))
        (unreset_kept i (log_of w) (Again unit number) knows b begins refl (λ u. refl) (λ line.
        life_more (log_of w 0) (record { event = Decides (Again unit number); knows = knows }) line))
    engine_keeps_unreset (Landed unit number) is keeps =
        by_logs i s w mount (Landed unit number) own is b begins (λ ls. unreset_lines i ls ≡ unreset_lines i (log_of w))
        (unreset_landed i w was b begins knows unit number (land_whole (log_of w) s.logged unit number
        (whole i s w mount (Landed unit number) own is b begins) (may i s w mount (Landed unit number) own is b begins).2))
    engine_keeps_unreset (Open line start) is keeps =
        let named_may = may i s w mount (Open line start) own is b begins in
        let now : MayOpen i (log_of w) named_may.0 line start =
        opening_told i (prefixes s.logged (log_of w)) (log_of w)
        (told_back i (log_of w) (prefixes s.logged (log_of w)) (told i s w mount (Open line start) own is b begins)) named_may.0 line start named_may.2 in
        by_logs i s w mount (Open line start) own is b begins (λ ls. unreset_lines i ls ≡ unreset_lines i (log_of w))
        (unreset_opened i w was b begins knows named_may.0 line start now)

    -- so do these with the chunks that are to be reset
    pub engine_keeps_chunks : (e : EngineEvent) → s.logged.event ≡ Decides e → keeps_unreset e ≡ true
        → unreset_chunks i (log_of (s ∷ w)) ≡ unreset_chunks i (log_of w)
    engine_keeps_chunks (Begin x) is keeps = absurd cc
    engine_keeps_chunks (Lost unit number) is keeps = absurd cc
    engine_keeps_chunks (ResetDone unit number) is keeps = absurd cc
    engine_keeps_chunks (Free line) is keeps = absurd cc
    engine_keeps_chunks (Take entry mark) is keeps =
        by_logs i s w mount (Take entry mark) own is b begins (λ ls. unreset_chunks i ls ≡ unreset_chunks i (log_of w))
        (chunks_kept i (log_of w) (Take entry mark) knows b begins refl (λ unit. refl) (λ line.
        life_more (log_of w 0) (record { event = Decides (Take entry mark); knows = knows }) line))
    engine_keeps_chunks (Place stripe) is keeps =
        by_logs i s w mount (Place stripe) own is b begins (λ ls. unreset_chunks i ls ≡ unreset_chunks i (log_of w))
        (chunks_kept i (log_of w) (Place stripe) knows b begins refl (λ unit. refl) (λ line.
        life_more (log_of w 0) (record { event = Decides (Place stripe); knows = knows }) line))
    engine_keeps_chunks (Again unit number) is keeps =
        by_logs i s w mount (Again unit number) own is b begins (λ ls. unreset_chunks i ls ≡ unreset_chunks i (log_of w))
        (chunks_kept i (log_of w) (Again unit number) knows b begins refl (λ u. refl) (λ line.
        life_more (log_of w 0) (record { event = Decides (Again unit number); knows = knows }) line))
    engine_keeps_chunks (Landed unit number) is keeps =
        by_logs i s w mount (Landed unit number) own is b begins (λ ls. unreset_chunks i ls ≡ unreset_chunks i (log_of w))
        (chunks_landed i w was b begins knows unit number (land_whole (log_of w) s.logged unit number
        (whole i s w mount (Landed unit number) own is b begins) (may i s w mount (Landed unit number) own is b begins).2))
    engine_keeps_chunks (Open line start) is keeps =
        let named_may = may i s w mount (Open line start) own is b begins in
        let now : MayOpen i (log_of w) named_may.0 line start =
        opening_told i (prefixes s.logged (log_of w)) (log_of w)
        (told_back i (log_of w) (prefixes s.logged (log_of w)) (told i s w mount (Open line start) own is b begins)) named_may.0 line start named_may.2 in
        by_logs i s w mount (Open line start) own is b begins (λ ls. unreset_chunks i ls ≡ unreset_chunks i (log_of w))
        (chunks_opened i w was b begins knows named_may.0 line start now)

    pub free_adds_chunks : (line : ℕ) → s.logged.event ≡ Decides (Free line)
        → unreset_chunks i (log_of (s ∷ w)) ≤ unreset_chunks i (log_of w) + units i.shape
    free_adds_chunks line is =
        let it = line_freed i s w mount own b begins line is in
        by_logs i s w mount (Free line) own is b begins (λ ls. unreset_chunks i ls ≤ unreset_chunks i (log_of w) + units i.shape)
        (chunks_freed i w was b begins knows line it.0 it.1 it.3)

    pub free_adds : (line : ℕ) → s.logged.event ≡ Decides (Free line) → unreset_lines i (log_of (s ∷ w)) ≡ unreset_lines i (log_of w) + 1
    free_adds line is =
        let it = line_freed i s w mount own b begins line is in
        by_logs i s w mount (Free line) own is b begins (λ ls. unreset_lines i ls ≡ unreset_lines i (log_of w) + 1)
        (unreset_freed i w was b begins knows line it.0 it.1 it.2 it.3)

    module _ (unit number : ℕ) (u : UnitEvent) (is : s.logged.event ≡ Decides (ResetDone unit number))
        (at : unit_event_at (log_of w) unit number ≡ Some u) where
      now : MayNoteReset (log_of w) unit number
      now = note_whole (log_of w) s.logged unit number (whole i s w mount (ResetDone unit number) own is b begins)
          (may i s w mount (ResetDone unit number) own is b begins).2

      same : now.reset.chunk ≡ u.chunk
      same = ap (λ (x : UnitEvent). x.chunk) (same_Some now.reset u
          (sym (ap (option_and_then (λ (l : Logged). unit_event_of l.event)) now.new.is_known ∙ now.new.event) ∙ at))

      given : is_given_up (log_of w 0) u.chunk ≡ true
      given = ap (is_given_up (log_of w 0)) (sym same) ∙ still_given i w was b begins unit number (may_note (log_of w) unit number now)

      pub reset_takes : unreset_lines i (log_of w)
          ≡ unreset_lines i (log_of (s ∷ w)) + (if are_empty (known_image i (log_of (s ∷ w))) u.chunk then 1 else 0)
      reset_takes =
          by_logs i s w mount (ResetDone unit number) own is b begins
          (λ ls. unreset_lines i (log_of w) ≡ unreset_lines i ls + (if are_empty (known_image i ls) u.chunk then 1 else 0))
          (subst (λ m. unreset_lines i (log_of w) ≡ unreset_lines i (after (log_of w) (ResetDone unit number) knows)
          + (if are_empty (known_image i (after (log_of w) (ResetDone unit number) knows)) m then 1 else 0)) same
          (unreset_reset i w was b begins knows unit number now))

      pub reset_takes_chunk : unreset_chunks i (log_of w) ≡ unreset_chunks i (log_of (s ∷ w)) + 1
      reset_takes_chunk =
          by_logs i s w mount (ResetDone unit number) own is b begins (λ ls. unreset_chunks i (log_of w) ≡ unreset_chunks i ls + 1)
          (chunks_reset i w was b begins knows unit number now)

      -- the line has no sequence number
      unnumbered : (life : LineLife) → life_of (log_of w 0) u.chunk ≡ life → has_number i (log_of w) life u.chunk ≡ false
      unnumbered (Freed past ks) e = refl
      unnumbered (Opened o) e = absurd (not_both (is_opened (life_of (log_of w 0) u.chunk)) (ap is_opened e)
          (not_given_up (strays_of (log_of w 0)) u.chunk (life_of (log_of w 0) u.chunk) given))
      unnumbered AsFound e = by (start_of (found_image i (log_of w)) u.chunk) refl
        where
          by : (o : Option StartRecord) → start_of (found_image i (log_of w)) u.chunk ≡ o → is_some (start_of (found_image i (log_of w)) u.chunk) ≡ false
          by None f = ap is_some f
          by (Some start) f = absurd (not_both (is_given_up (log_of w 0) u.chunk) given
              (widths.not_given_up i w was u.chunk b begins start.seq
              (ap (λ l. seq_in i (log_of w) l u.chunk) e ∙ ap (option_map (λ (x : StartRecord). x.seq)) f)))

      -- What there is of addresses, together with those of full lines that are to be reset, stays.
      pub reset_moves : AreWide (known_image i (log_of (s ∷ w)))
          → addresses i (log_of (s ∷ w)) + full_data i.shape * unreset_lines i (log_of (s ∷ w))
          ≡ addresses i (log_of w) + full_data i.shape * unreset_lines i (log_of w)
      reset_moves wide =
          by_numbers (are_empty (known_image i (log_of (s ∷ w))) u.chunk) (addresses i (log_of (s ∷ w))) (addresses i (log_of w))
          (unreset_lines i (log_of (s ∷ w))) (unreset_lines i (log_of w)) (full_data i.shape)
          (reset_gives i s w mount own b begins unit number u is at ∙ ap (λ n. addresses i (log_of w) + n) data_is) reset_takes
        where
          by_numbers : (t : Bool) (c a v m d : ℕ) → c ≡ a + (if t then d else 0) → m ≡ v + (if t then 1 else 0) → c + d * v ≡ a + d * m
          by_numbers true c a v m d x y =
              let more : d * m ≡ d * v + d * 1 = ap (λ k. d * k) y ∙ mul-add d v 1 in
              let one : d * 1 ≡ d = mul-one d in
              omega arith
          by_numbers false c a v m d x y =
              let same_lines : m ≡ v = omega arith in
              let same_part : d * m ≡ d * v = ap (λ k. d * k) same_lines in
              omega arith

          inside : u.chunk < i.shape.chunks
          inside = subst (λ m. m < i.shape.chunks) same (in_range i w was b begins unit number (may_note (log_of w) unit number now))

          whole_data : line_data (known_image i (log_of (s ∷ w))) u.chunk ≡ full_data i.shape
          whole_data = ap (data_len i.shape) (wide u.chunk inside)

          some : nat_lt 0 (line_data (known_image i (log_of (s ∷ w))) u.chunk) ≡ true
          some =
              let eight : 8 * i.shape.ws_opt ≤ full_data i.shape = eight_stripes i.shape mount.accepted in
              let one : 0 < i.shape.ws_opt = mount.accepted.drive.ws_opt in
              ap (nat_lt 0) whole_data ∙ lt_true 0 (full_data i.shape) (above (full_data i.shape) i.shape.ws_opt eight one)
            where
              above : (d n : ℕ) → 8 * n ≤ d → 0 < n → 0 < d
              above d n x y = omega arith

          number_kept : (ls : Logs) → (life : LineLife) → life_of (log_of w 0) u.chunk ≡ life → found_image i ls ≡ found_image i (log_of w)
              → has_number i ls life u.chunk ≡ false
          number_kept ls (Freed past ks) e found = refl
          number_kept ls (Opened o) e found = unnumbered (Opened o) e
          number_kept ls AsFound e found = ap (λ (j : Image). is_some (start_of j u.chunk)) found ∙ unnumbered AsFound e

          none : has_number i (log_of (s ∷ w)) (life_of (log_of (s ∷ w) 0) u.chunk) u.chunk ≡ false
          none = by_logs i s w mount (ResetDone unit number) own is b begins (λ ls. has_number i ls (life_of (ls 0) u.chunk) u.chunk ≡ false)
              (ap (λ l. has_number i (after (log_of w) (ResetDone unit number) knows) l u.chunk)
              (life_more (log_of w 0) (record { event = Decides (ResetDone unit number); knows = knows }) u.chunk)
              ∙ number_kept (after (log_of w) (ResetDone unit number) knows) (life_of (log_of w 0) u.chunk) refl
              (found_kept i (log_of w) (ResetDone unit number) knows refl))

          data_is : free_data i (log_of (s ∷ w)) u.chunk ≡ (if are_empty (known_image i (log_of (s ∷ w))) u.chunk then full_data i.shape else 0)
          data_is =
              let empty : Bool = are_empty (known_image i (log_of (s ∷ w))) u.chunk in
              ap₂ (λ t v. if not t && empty && v then line_data (known_image i (log_of (s ∷ w))) u.chunk else 0) none some
              ∙ ap (λ n. if empty && true then n else 0) whole_data ∙ ap (λ t. if t then full_data i.shape else 0) (with_true empty)
            where
              with_true : (t : Bool) → (t && true) ≡ t
              with_true true = refl
              with_true false = refl

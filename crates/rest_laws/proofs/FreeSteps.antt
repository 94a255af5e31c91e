-- How the data addresses of the Free lines change with each event of the engine.
use Rattle.std.proofs.Common.{◌≡◌, ◌≢◌, ℕ, ◌+◌, ◌<◌, ◌&&◌, not, nat_lt, Bool, true, false, Some, None, is_some, List, length, refl, sym, subst, ap, ◌∙◌, arith, if◌then◌else◌}
use Rattle.std.specs.Prelude.{slice_get}
use Rattle.std.specs.List.{range_with_len}
use Rattle.std.specs.Option.{option_and_then}
use Rattle.std.proofs.lemmas.Option.{none-some, same_Some}
use Rattle.pblk_model.specs.Image.{Image}
use Rattle.pblk_model.specs.LineOrder.{data_len}
use Rattle.pblk_model.specs.StartRecord.{StartRecord, start_of}
use Rattle.pblk_model.specs.UnitLog.{UnitEvent}
use Rattle.pblk_world.specs.Answering.{MayLand, MayNoteReset}
use Rattle.pblk_world.specs.EngineLog.{AsFound, Begun, begun, begun_by, Freed, is_opened, life_of, LineLife, Opened, answers, placed_on}
use Rattle.pblk_world.specs.Events.{Decides, EngineEvent, Landed, Logged, Open, ResetDone}
use Rattle.pblk_world.specs.Lines.{are_empty, has_number, is_free_line, known_image, line_data, told_by}
use Rattle.pblk_world.specs.Opening.{MayOpen}
use Rattle.pblk_world.specs.Space.{free_addresses}
use Rattle.pblk_world.specs.World.{World, Logs, log_of, unit_event_at, unit_event_of}
use Rattle.pblk_world.proofs.Appending.{life_more}
use Rattle.pblk_world.proofs.LinesLemmas.{free_unopened}
use Rattle.pblk_model.proofs.Tests.{not_both, other_number, same_number}
use Rattle.pblk_world.specs.LegalMounts.{IsLegalMount}
use Rattle.world_laws.specs.UnitPrograms.{IsProgramOfStripe}
use Rattle.world_laws.proofs.NextLives.{IsPlacedIn, placed_in}
use Rattle.world_laws.proofs.Programs.{program_of_stripe}
use Rattle.core_laws.specs.PlacerOf.{unanswered_on}
use Rattle.core_laws.proofs.UnansweredLines.{first_open}
use Rattle.core_laws.specs.Stepping.{after}
use Rattle.core_laws.proofs.KeptRows.{KeepsChunks}
use Rattle.core_laws.proofs.LandedRows.{keeps_chunks}
use Rattle.core_laws.proofs.RangeSums.{sum_more, sum_same}
use Rattle.core_laws.proofs.ClosedKept.{one_told}
use Rattle.rest_laws.specs.RoomSteps.{free_data}
use Rattle.rest_laws.proofs.UsedResets.{in_range, may_note, unempty_now}

abbrev data_by : Image → Bool → Bool → ℕ → ℕ
data_by i number empty wide = if not number && empty && nat_lt 0 (data_len i.shape wide) then data_len i.shape wide else 0

-- a line whose chunks and life stay
data_kept : (i : Image) (logs new : Logs) (line : ℕ) → life_of (new 0) line ≡ life_of (logs 0) line → KeepsChunks i logs new line
    → free_data i new line ≡ free_data i logs line
data_kept i logs new line life kept = λ k. data_by i (number k) (kept.empty k) (kept.wide k)
  where
    by_life : (l : LineLife) → has_number i new l line ≡ has_number i logs l line
    by_life AsFound = ap (λ (j : Image). is_some (start_of j line)) kept.found
    by_life (Opened o) = refl
    by_life (Freed was knows) = refl

    number : has_number i new (life_of (new 0) line) line ≡ has_number i logs (life_of (logs 0) line) line
    number = ap (λ l. has_number i new l line) life ∙ by_life (life_of (logs 0) line)

-- an opened line isn't Free
opened_none : (i : Image) (logs : Logs) (line : ℕ) → is_opened (life_of (logs 0) line) ≡ true → free_data i logs line ≡ 0
opened_none i logs line opened = go (is_free_line i logs line) refl
  where
    go : (t : Bool) → is_free_line i logs line ≡ t → (if t then line_data (known_image i logs) line else 0) ≡ 0
    go false e = refl
    go true e = absurd (not_both (is_opened (life_of (logs 0) line)) opened (free_unopened i logs line e))

-- ---- events that tell nothing of chunks

pub free_kept : (i : Image) (logs : Logs) (e : EngineEvent) (knows : List ℕ) → begun_by knows (Decides e) ≡ None
    → ((unit : ℕ) → told_by logs unit (Decides e) ≡ None) → ((line : ℕ) → life_of (after logs e knows 0) line ≡ life_of (logs 0) line)
    → free_addresses i (after logs e knows) ≡ free_addresses i logs
free_kept i logs e knows begins none life =
    sum_same (free_data i (after logs e knows)) (free_data i logs) (λ line. data_kept i logs (after logs e knows) line (life line)
    (keeps_chunks i logs e knows line begins (λ unit u told same. none-some u (sym (none unit) ∙ told))))
    (range_with_len 0 i.shape.chunks)

-- ---- a stripe has landed

module _ (i : Image) (w : World) (mount : IsLegalMount i w) (unit number : ℕ) (knows : List ℕ) (may : MayLand (log_of w) unit number) where
  -- its line is opened
  pub its_line : (u : ℕ) (x : UnitEvent) → told_by (log_of w) u (Decides (Landed unit number)) ≡ Some x → is_opened (life_of (log_of w 0) x.chunk) ≡ true
  its_line u x told =
      let at : unit_event_at (log_of w) unit number ≡ Some may.program =
      ap (option_and_then (λ (l : Logged). unit_event_of l.event)) may.new.is_known ∙ may.new.event in
      let s : IsProgramOfStripe (log_of w) unit number may.stripe.logged may.program =
      program_of_stripe i w unit number may.stripe.logged may.program mount.legal may.stripe.is_logged
      (ap (λ (l : Logged). unit_event_of l.event) (same_Some may.stripe.logged may.new.logged (sym may.stripe.is_logged ∙ may.new.is_known)) ∙ may.new.event)
      may.stripe.program may.stripe.after_begin in
      let waits : unanswered_on (log_of w 0) unit ≡ Some s.placed =
      ap (slice_get (placed_on (log_of w 0) unit)) (sym may.stripe.its_turn) ∙ s.in_order in
      let it : IsPlacedIn i w mount.legal unit (length (answers (log_of w 0) unit)) s.placed =
      placed_in i w mount.legal unit (length (answers (log_of w 0) unit)) s.placed waits in
      let chunk : x.chunk ≡ s.placed.stripe.line =
      ap (λ (y : UnitEvent). y.chunk) (one_told (log_of w) unit number u x may.program at told) ∙ s.chunk ∙ it.chunk in
      ap (λ m. is_opened (life_of (log_of w 0) m)) chunk ∙ ap is_opened (first_open i w unit s.placed mount.legal waits ∙ it.its_life)

  pub free_landed : free_addresses i (after (log_of w) (Landed unit number) knows) ≡ free_addresses i (log_of w)
  free_landed = sum_same (free_data i new) (free_data i (log_of w)) each (range_with_len 0 i.shape.chunks)
    where
      new : Logs
      new = after (log_of w) (Landed unit number) knows

      life : (line : ℕ) → life_of (after (log_of w) (Landed unit number) knows 0) line ≡ life_of (log_of w 0) line
      life line = life_more (log_of w 0) (record { event = Decides (Landed unit number); knows = knows }) line

      each : (line : ℕ) → free_data i new line ≡ free_data i (log_of w) line
      each line = by (is_opened (life_of (log_of w 0) line)) refl
        where
          by : (t : Bool) → is_opened (life_of (log_of w 0) line) ≡ t → free_data i new line ≡ free_data i (log_of w) line
          by true opened = opened_none i new line (ap is_opened (life line) ∙ opened) ∙ sym (opened_none i (log_of w) line opened)
          by false closed = data_kept i (log_of w) new line (life line)
              (keeps_chunks i (log_of w) (Landed unit number) knows line refl (λ u x told same.
              not_both (is_opened (life_of (log_of w 0) line)) (ap (λ m. is_opened (life_of (log_of w 0) m)) same ∙ its_line u x told) closed))

-- ---- a line is opened

-- its data addresses are those of a Free line no more
pub free_opened : (i : Image) (logs : Logs) (b : Begun) (line : ℕ) (start : StartRecord) (knows : List ℕ) → MayOpen i logs b line start
    → free_addresses i logs ≡ free_addresses i (after logs (Open line start) knows) + data_len i.shape start.width
free_opened i logs b line start knows may =
    let first : line ≡ 0 + line = omega arith in
    let more : free_data i logs line ≡ free_data i new line + data_len i.shape start.width = omega (arith, before, now) in
    sum_more (free_data i new) (free_data i logs) i.shape.chunks 0 line (data_len i.shape start.width) may.in_range
    (subst (λ m. free_data i logs m ≡ free_data i new m + data_len i.shape start.width) first more)
    (λ m apart. sym (beside m (λ e. apart (e ∙ first))))
  where
    new : Logs
    new = after logs (Open line start) knows

    l : Logged
    l = record { event = Decides (Open line start); knows = knows }

    before : free_data i logs line ≡ data_len i.shape start.width
    before = ap (λ t. if t then line_data (known_image i logs) line else 0) may.is_free ∙ ap (data_len i.shape) (sym may.own_width)

    now : free_data i new line ≡ 0
    now = opened_none i new line (ap is_opened (life_more (logs 0) l line
        ∙ ap (λ t. if t then Opened (record { number = length (logs 0); line = line; start = start; knows = knows }) else life_of (logs 0) line)
        (same_number line)))

    beside : (m : ℕ) → m ≢ line → free_data i new m ≡ free_data i logs m
    beside m apart = data_kept i logs new m
        (life_more (logs 0) l m
        ∙ ap (λ t. if t then Opened (record { number = length (logs 0); line = m; start = start; knows = knows }) else life_of (logs 0) m)
        (other_number line m (λ e. apart (sym e))))
        (keeps_chunks i logs (Open line start) knows m refl (λ u x told same. none-some x told))

-- ---- a reset is noted

module _ (i : Image) (w : World) (mount : IsLegalMount i w) (b : Begun) (begins : begun (log_of w 0) ≡ Some b) (unit number : ℕ) (knows : List ℕ)
    (may : MayNoteReset (log_of w) unit number) where
  -- the data addresses of the chunk's line come, where it is Free now
  pub free_reset : free_addresses i (after (log_of w) (ResetDone unit number) knows)
      ≡ free_addresses i (log_of w) + free_data i (after (log_of w) (ResetDone unit number) knows) may.reset.chunk
  free_reset =
      let first : line ≡ 0 + line = omega arith in
      let none : free_data i (log_of w) line ≡ 0 = not_free in
      let more : free_data i new line ≡ free_data i (log_of w) line + free_data i new line = omega (arith, none) in
      sum_more (free_data i (log_of w)) (free_data i new) i.shape.chunks 0 line (free_data i new line) inside
      (subst (λ m. free_data i new m ≡ free_data i (log_of w) m + free_data i new line) first more)
      (λ m apart. beside m (λ e. apart (e ∙ first)))
    where
      new : Logs
      new = after (log_of w) (ResetDone unit number) knows

      line : ℕ
      line = may.reset.chunk

      inside : may.reset.chunk < i.shape.chunks
      inside = in_range i w mount b begins unit number (may_note (log_of w) unit number may)

      -- a chunk of it is used
      not_free : free_data i (log_of w) may.reset.chunk ≡ 0
      not_free =
          let used : are_empty (known_image i (log_of w)) line ≡ false = unempty_now i w mount b begins unit number
          (may_note (log_of w) unit number may) in
          ap (λ t. if not (has_number i (log_of w) (life_of (log_of w 0) line) line) && t && nat_lt 0 (line_data (known_image i (log_of w)) line)
          then line_data (known_image i (log_of w)) line else 0) used
          ∙ no_line (not (has_number i (log_of w) (life_of (log_of w 0) line) line)) (nat_lt 0 (line_data (known_image i (log_of w)) line))
          (line_data (known_image i (log_of w)) line)
        where
          no_line : (a c : Bool) (n : ℕ) → (if a && false && c then n else 0) ≡ 0
          no_line true c n = refl
          no_line false c n = refl

      at : unit_event_at (log_of w) unit number ≡ Some may.reset
      at = ap (option_and_then (λ (l : Logged). unit_event_of l.event)) may.new.is_known ∙ may.new.event

      beside : (m : ℕ) → m ≢ may.reset.chunk → free_data i new m ≡ free_data i (log_of w) m
      beside m apart = data_kept i (log_of w) new m (life_more (log_of w 0) (record { event = Decides (ResetDone unit number); knows = knows }) m)
          (keeps_chunks i (log_of w) (ResetDone unit number) knows m refl (λ u x told same. apart (same
          ∙ ap (λ (y : UnitEvent). y.chunk) (one_told (log_of w) unit number u x may.reset at told))))

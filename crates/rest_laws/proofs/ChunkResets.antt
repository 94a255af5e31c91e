-- How the number of chunks that are to be reset changes with each step of a legal mount.
use Rattle.std.proofs.Common.{◌≡◌, ◌≢◌, ◌⊎◌, inl, inr, ℕ, ◌+◌, ◌*◌, ◌<◌, ◌≤◌, ◌&&◌, not, nat_eq, nat_lt, Bool, true, false, Some, None, Option, List, [], ◌∷◌, length, refl, sym, subst, ap, ap₂, ◌∙◌, arith, if◌then◌else◌}
use Rattle.std.specs.Prelude.{slice_get, sum_by}
use Rattle.std.specs.List.{filter, range_with_len}
use Rattle.std.specs.Option.{option_and_then, option_map, option_map_or, option_to_list}
use Rattle.std.proofs.lemmas.Bool.{cases_lt, eqb-false, eqb-true}
use Rattle.std.proofs.lemmas.List.FromFn.{length-range_with_len}
use Rattle.std.proofs.lemmas.List.Sums.{fold-append, sum_by-cons}
use Rattle.std.proofs.lemmas.Option.{none-some}
use Rattle.pblk_model.specs.Chunk.{Chunk}
use Rattle.pblk_model.specs.ChunkStep.{ChunkCommand}
use Rattle.pblk_model.specs.Image.{Image}
use Rattle.pblk_model.specs.Shape.{units}
use Rattle.pblk_model.specs.StartRecord.{StartRecord}
use Rattle.pblk_model.specs.UnitLog.{UnitEvent, after_event, after_log, after_outcome}
use Rattle.pblk_laws.specs.LineBlocks.{chunk_in}
use Rattle.pblk_world.specs.Answering.{MayLand, MayNoteReset}
use Rattle.pblk_world.specs.EngineLog.{Begun, begun, begun_by, is_opened, life_of, Opened}
use Rattle.pblk_world.specs.Events.{Decides, EngineEvent, Free, Landed, Logged, Open, ResetDone}
use Rattle.pblk_world.specs.Lines.{are_empty, found_image, has_number, is_empty_state, is_given_up, known_image, line_data, strays_of, told_by, told_events}
use Rattle.pblk_world.specs.Opening.{MayOpen}
use Rattle.pblk_world.specs.Starts.{seq_of}
use Rattle.pblk_world.specs.World.{World, Logs, log_of, unit_event_at, unit_event_of}
use Rattle.pblk_world.proofs.Appending.{life_more}
use Rattle.pblk_world.proofs.LinesLemmas.{not_given_up, reset_empties}
use Rattle.pblk_model.proofs.Maps.{filter_short, none_kept}
use Rattle.pblk_model.proofs.Parts.{get_past}
use Rattle.pblk_model.proofs.Tests.{both, not_both, other_number, same_number}
use Rattle.pblk_world.specs.LegalMounts.{IsLegalMount}
use Rattle.world_laws.proofs.FoundStates.{some_used}
use Rattle.core_laws.specs.Stepping.{after}
use Rattle.core_laws.proofs.ClosedKept.{one_told}
use Rattle.core_laws.proofs.FreedLives.{life_beside}
use Rattle.core_laws.proofs.FreedWidths as widths
use Rattle.core_laws.proofs.KnownChunks.{after_chunk, known_get}
use Rattle.core_laws.proofs.LandedRows.{event_beside, told_more}
use Rattle.core_laws.proofs.RangeSums.{sum_more, sum_same}
use Rattle.core_laws.proofs.SteppingLemmas.{found_kept}
use Rattle.rest_laws.specs.RoomSteps.{is_unreset, is_used_at, unreset_chunks, unreset_in, unreset_lines}
use Rattle.rest_laws.proofs.FreeSteps.{its_line}
use Rattle.rest_laws.proofs.LiveSums.{as_number, passing_first}
use Rattle.rest_laws.proofs.UnresetSteps.{count_more, count_same, given_kept}
use Rattle.rest_laws.proofs.UsedResets.{in_range, may_note, none_there, still_given, used_now}

-- ---- a chunk after an event of the engine

-- the chunks of a unit
units_after : (i : Image) (logs : Logs) (e : EngineEvent) (knows : List ℕ) (u : ℕ) → begun_by knows (Decides e) ≡ None
    → slice_get (known_image i (after logs e knows)).units u
    ≡ option_map (λ (cs : List Chunk). after_log i.shape cs (option_to_list (told_by logs u (Decides e)))) (slice_get (known_image i logs).units u)
units_after i logs e knows u quiet =
    known_get i (after logs e knows) u
    ∙ ap (λ (f : Image). option_map (λ (cs : List Chunk). after_log i.shape cs (told_events (after logs e knows) u)) (slice_get f.units u))
    (found_kept i logs e knows quiet)
    ∙ twice (slice_get (found_image i logs).units u)
    ∙ ap (option_map (λ (cs : List Chunk). after_log i.shape cs (option_to_list (told_by logs u (Decides e))))) (sym (known_get i logs u))
  where
    each : (cs : List Chunk) → after_log i.shape cs (told_events (after logs e knows) u)
        ≡ after_log i.shape (after_log i.shape cs (told_events logs u)) (option_to_list (told_by logs u (Decides e)))
    each cs = ap (after_log i.shape cs) (told_more logs e knows u)
        ∙ fold-append (after_event i.shape) cs (told_events logs u) (option_to_list (told_by logs u (Decides e)))

    twice : (o : Option (List Chunk)) → option_map (λ (cs : List Chunk). after_log i.shape cs (told_events (after logs e knows) u)) o
        ≡ option_map (λ (cs : List Chunk). after_log i.shape cs (option_to_list (told_by logs u (Decides e))))
        (option_map (λ (cs : List Chunk). after_log i.shape cs (told_events logs u)) o)
    twice None = refl
    twice (Some cs) = ap (λ (xs : List Chunk). Some xs) (each cs)

-- where each event that a unit is told of is of another chunk
chunk_kept : (i : Image) (logs : Logs) (e : EngineEvent) (knows : List ℕ) (line u : ℕ) → begun_by knows (Decides e) ≡ None
    → ((x : UnitEvent) → told_by logs u (Decides e) ≡ Some x → line ≢ x.chunk)
    → chunk_in (known_image i (after logs e knows)) line u ≡ chunk_in (known_image i logs) line u
chunk_kept i logs e knows line u quiet beside =
    ap (option_and_then (λ (cs : List Chunk). slice_get cs line)) (units_after i logs e knows u quiet)
    ∙ go (told_by logs u (Decides e)) (slice_get (known_image i logs).units u) refl
  where
    go : (o : Option UnitEvent) (us : Option (List Chunk)) → told_by logs u (Decides e) ≡ o
        → option_and_then (λ (cs : List Chunk). slice_get cs line) (option_map (λ (cs : List Chunk). after_log i.shape cs (option_to_list o)) us)
        ≡ option_and_then (λ (cs : List Chunk). slice_get cs line) us
    go o None told = refl
    go None (Some cs) told = refl
    go (Some x) (Some cs) told = event_beside i.shape cs x line (beside x told)

-- and where it is of this one
chunk_told : (i : Image) (logs : Logs) (e : EngineEvent) (knows : List ℕ) (u : ℕ) (x : UnitEvent) → begun_by knows (Decides e) ≡ None
    → told_by logs u (Decides e) ≡ Some x
    → chunk_in (known_image i (after logs e knows)) x.chunk u
    ≡ option_map (λ (c : Chunk). after_outcome i.shape c x.command x.outcome) (chunk_in (known_image i logs) x.chunk u)
chunk_told i logs e knows u x quiet told =
    ap (option_and_then (λ (cs : List Chunk). slice_get cs x.chunk))
    (units_after i logs e knows u quiet
    ∙ ap (λ o. option_map (λ (cs : List Chunk). after_log i.shape cs (option_to_list o)) (slice_get (known_image i logs).units u)) told)
    ∙ go (slice_get (known_image i logs).units u)
  where
    go : (us : Option (List Chunk))
        → option_and_then (λ (cs : List Chunk). slice_get cs x.chunk) (option_map (λ (cs : List Chunk). after_event i.shape cs x) us)
        ≡ option_map (λ (c : Chunk). after_outcome i.shape c x.command x.outcome) (option_and_then (λ (cs : List Chunk). slice_get cs x.chunk) us)
    go None = refl
    go (Some cs) = after_chunk i.shape cs x x.chunk refl

one_less : (a c : Bool) → a ≡ true → c ≡ false → as_number a ≡ as_number c + 1
one_less a c is none = ap as_number is ∙ ap (λ t. as_number t + 1) (sym none)

-- ---- one line

abbrev used_of : Option Chunk → Bool
used_of o = option_map_or (λ (c : Chunk). not (is_empty_state c.state)) o false

-- how many chunks of a line are used
abbrev used_count : Image → ℕ → ℕ
used_count j line = length (filter (is_used_at j line) (range_with_len 0 (units j.shape)))

line_kept : (i : Image) (logs : Logs) (e : EngineEvent) (knows : List ℕ) (b : Begun) (line : ℕ) → begun (logs 0) ≡ Some b
    → begun_by knows (Decides e) ≡ None → life_of (after logs e knows 0) line ≡ life_of (logs 0) line
    → ((u : ℕ) (x : UnitEvent) → told_by logs u (Decides e) ≡ Some x → line ≢ x.chunk)
    → unreset_in i (after logs e knows) line ≡ unreset_in i logs line
line_kept i logs e knows b line begins quiet life beside =
    ap₂ (λ t n. if t then n else 0) (given_kept logs e knows b line begins life)
    (count_same (is_used_at (known_image i logs) line) (is_used_at (known_image i (after logs e knows)) line) (units i.shape)
    (λ u. ap used_of (chunk_kept i logs e knows line u quiet (beside u))))

-- none of an opened line is to be reset
opened_none : (i : Image) (logs : Logs) (line : ℕ) → is_opened (life_of (logs 0) line) ≡ true → unreset_in i logs line ≡ 0
opened_none i logs line opened = go (is_given_up (logs 0) line) refl
  where
    go : (t : Bool) → is_given_up (logs 0) line ≡ t
        → (if t then used_count (known_image i logs) line else 0) ≡ 0
    go false e = refl
    go true e = absurd (not_both (is_opened (life_of (logs 0) line)) opened (not_given_up (strays_of (logs 0)) line (life_of (logs 0) line) e))

-- an empty line has no used chunk
unused : (j : Image) (line u : ℕ) → are_empty j line ≡ true → is_used_at j line u ≡ false
unused j line u empty = go (chunk_in j line u) refl
  where
    by : (c : Chunk) (t : Bool) → is_empty_state c.state ≡ t → chunk_in j line u ≡ Some c → not (is_empty_state c.state) ≡ false
    by c true e there = ap not e
    by c false e there = absurd (not_both (are_empty j line) empty (some_used line j.units u c there e))

    go : (o : Option Chunk) → chunk_in j line u ≡ o → used_of (chunk_in j line u) ≡ false
    go None e = ap used_of e
    go (Some c) e = ap used_of e ∙ by c (is_empty_state c.state) refl e

none_used : (j : Image) (line : ℕ) → are_empty j line ≡ true → used_count j line ≡ 0
none_used j line empty = ap (λ (us : List ℕ). length us) (none_kept (is_used_at j line) 0 (units j.shape) (λ k below. unused j line (0 + k) empty))

-- so none of it is to be reset
empty_none : (i : Image) (logs : Logs) (line : ℕ) → are_empty (known_image i logs) line ≡ true → unreset_in i logs line ≡ 0
empty_none i logs line empty = go (is_given_up (logs 0) line)
  where
    go : (t : Bool) → (if t then used_count (known_image i logs) line else 0) ≡ 0
    go false = refl
    go true = none_used (known_image i logs) line empty

-- a line that is to be reset has no more such chunks than there are units, no other line has any
few_in : (i : Image) (logs : Logs) (line : ℕ) → unreset_in i logs line ≤ units i.shape * as_number (is_unreset i logs line)
few_in i logs line = go (is_given_up (logs 0) line) (are_empty (known_image i logs) line) refl
  where
    go : (t e : Bool) → are_empty (known_image i logs) line ≡ e
        → (if t then used_count (known_image i logs) line else 0) ≤ units i.shape * as_number (t && not e)
    go false e is = omega arith
    go true true is = omega (arith, none_used (known_image i logs) line is)
    go true false is = omega (
      arith,
      filter_short (is_used_at (known_image i logs) line) (range_with_len 0 (units i.shape)),
      length-range_with_len 0 (units i.shape),
    )

pub few_chunks : (i : Image) (logs : Logs) → unreset_chunks i logs ≤ units i.shape * unreset_lines i logs
few_chunks i logs = go (range_with_len 0 i.shape.chunks)
  where
    go : (lines : List ℕ) → sum_by (unreset_in i logs) lines ≤ units i.shape * length (filter (is_unreset i logs) lines)
    go [] = omega arith
    go (line ∷ lines) =
        let sum : sum_by (unreset_in i logs) (line ∷ lines) ≡ unreset_in i logs line + sum_by (unreset_in i logs) lines =
        sum_by-cons (unreset_in i logs) line lines in
        let count : length (filter (is_unreset i logs) (line ∷ lines)) ≡ as_number (is_unreset i logs line) + length (filter (is_unreset i logs) lines) =
        passing_first (is_unreset i logs) line lines in
        let all : units i.shape * length (filter (is_unreset i logs) (line ∷ lines))
        ≡ units i.shape * (as_number (is_unreset i logs line) + length (filter (is_unreset i logs) lines)) = ap (λ n. units i.shape * n) count in
        omega (arith, sum, all, few_in i logs line, go lines)

-- ---- events that tell nothing of chunks

pub chunks_kept : (i : Image) (logs : Logs) (e : EngineEvent) (knows : List ℕ) (b : Begun) → begun (logs 0) ≡ Some b → begun_by knows (Decides e) ≡ None
    → ((unit : ℕ) → told_by logs unit (Decides e) ≡ None) → ((line : ℕ) → life_of (after logs e knows 0) line ≡ life_of (logs 0) line)
    → unreset_chunks i (after logs e knows) ≡ unreset_chunks i logs
chunks_kept i logs e knows b begins quiet none life =
    sum_same (unreset_in i (after logs e knows)) (unreset_in i logs)
    (λ line. line_kept i logs e knows b line begins quiet (life line) (λ u x told same. none-some x (sym (none u) ∙ told)))
    (range_with_len 0 i.shape.chunks)

module _ (i : Image) (w : World) (mount : IsLegalMount i w) (b : Begun) (begins : begun (log_of w 0) ≡ Some b) (knows : List ℕ) where
  -- ---- a stripe has landed

  pub chunks_landed : (unit number : ℕ) → MayLand (log_of w) unit number
      → unreset_chunks i (after (log_of w) (Landed unit number) knows) ≡ unreset_chunks i (log_of w)
  chunks_landed unit number may =
      sum_same (unreset_in i new) (unreset_in i (log_of w)) (λ line. by line (is_opened (life_of (log_of w 0) line)) refl) (range_with_len 0 i.shape.chunks)
    where
      new : Logs
      new = after (log_of w) (Landed unit number) knows

      life : (line : ℕ) → life_of (after (log_of w) (Landed unit number) knows 0) line ≡ life_of (log_of w 0) line
      life line = life_more (log_of w 0) (record { event = Decides (Landed unit number); knows = knows }) line

      by : (line : ℕ) (t : Bool) → is_opened (life_of (log_of w 0) line) ≡ t → unreset_in i new line ≡ unreset_in i (log_of w) line
      by line true opened = opened_none i new line (ap is_opened (life line) ∙ opened) ∙ sym (opened_none i (log_of w) line opened)
      by line false closed = line_kept i (log_of w) (Landed unit number) knows b line begins refl (life line) (λ u x told same.
          not_both (is_opened (life_of (log_of w 0) line))
          (ap (λ m. is_opened (life_of (log_of w 0) m)) same ∙ its_line i w mount unit number knows may u x told) closed)

  -- ---- a line is freed

  -- its used chunks are to be reset, which are no more than there are units
  pub chunks_freed : (line seq : ℕ) → line < i.shape.chunks → seq_of i (log_of w) line ≡ Some seq
      → unreset_chunks i (after (log_of w) (Free line) knows) ≤ unreset_chunks i (log_of w) + units i.shape
  chunks_freed line seq inside has_seq =
      let first : line ≡ 0 + line = omega arith in
      let more : unreset_in i new line ≡ unreset_in i (log_of w) line + unreset_in i new line = omega (arith, before) in
      let sum : unreset_chunks i new ≡ unreset_chunks i (log_of w) + unreset_in i new line =
      sum_more (unreset_in i (log_of w)) (unreset_in i new) i.shape.chunks 0 line (unreset_in i new line) inside
      (subst (λ m. unreset_in i new m ≡ unreset_in i (log_of w) m + unreset_in i new line) first more)
      (λ m apart. beside m (λ e. apart (e ∙ first))) in
      omega (arith, sum, few (is_given_up (new 0) line))
    where
      new : Logs
      new = after (log_of w) (Free line) knows

      few : (t : Bool) → (if t then used_count (known_image i new) line else 0) ≤ units i.shape
      few false = omega arith
      few true = omega (
        arith,
        filter_short (is_used_at (known_image i new) line) (range_with_len 0 (units i.shape)),
        length-range_with_len 0 (units i.shape),
      )

      before : unreset_in i (log_of w) line ≡ 0
      before = ap (λ t. if t then used_count (known_image i (log_of w)) line else 0) (widths.not_given_up i w mount line b begins seq has_seq)

      beside : (m : ℕ) → m ≢ line → unreset_in i new m ≡ unreset_in i (log_of w) m
      beside m apart = line_kept i (log_of w) (Free line) knows b m begins refl (life_beside (log_of w 0) line knows m apart)
          (λ u x told same. none-some x told)

  -- ---- a reset is noted

  -- its chunk was to be reset, and isn't any more
  pub chunks_reset : (unit number : ℕ) → (may : MayNoteReset (log_of w) unit number)
      → unreset_chunks i (log_of w) ≡ unreset_chunks i (after (log_of w) (ResetDone unit number) knows) + 1
  chunks_reset unit number may =
      let first : line ≡ 0 + line = omega arith in
      sum_more (unreset_in i new) (unreset_in i (log_of w)) i.shape.chunks 0 line 1
      (in_range i w mount b begins unit number (may_note (log_of w) unit number may))
      (subst (λ m. unreset_in i (log_of w) m ≡ unreset_in i new m + 1) first here)
      (λ m apart. sym (beside m (λ e. apart (e ∙ first))))
    where
      new : Logs
      new = after (log_of w) (ResetDone unit number) knows

      line : ℕ
      line = may.reset.chunk

      life : (m : ℕ) → life_of (after (log_of w) (ResetDone unit number) knows 0) m ≡ life_of (log_of w 0) m
      life m = life_more (log_of w 0) (record { event = Decides (ResetDone unit number); knows = knows }) m

      at : unit_event_at (log_of w) unit number ≡ Some may.reset
      at = ap (option_and_then (λ (l : Logged). unit_event_of l.event)) may.new.is_known ∙ may.new.event

      told : told_by (log_of w) unit (Decides (ResetDone unit number)) ≡ Some may.reset
      told = ap (λ t. if t then unit_event_at (log_of w) unit number else None) (same_number unit) ∙ at

      beside : (m : ℕ) → m ≢ may.reset.chunk → unreset_in i new m ≡ unreset_in i (log_of w) m
      beside m apart = line_kept i (log_of w) (ResetDone unit number) knows b m begins refl (life m) (λ u x is same. apart (same
          ∙ ap (λ (y : UnitEvent). y.chunk) (one_told (log_of w) unit number u x may.reset at is)))

      -- the chunk was used, and isn't any more
      was : (c : Chunk) × (chunk_in (known_image i (log_of w)) may.reset.chunk unit ≡ Some c) × (is_empty_state c.state ≡ false)
      was = used_now i w mount b begins unit number (may_note (log_of w) unit number may)

      used_before : is_used_at (known_image i (log_of w)) may.reset.chunk unit ≡ true
      used_before = let c = used_now i w mount b begins unit number (may_note (log_of w) unit number may) in ap used_of c.1 ∙ ap not c.2

      unused_now : is_used_at (known_image i (after (log_of w) (ResetDone unit number) knows)) may.reset.chunk unit ≡ false
      unused_now =
          let c = used_now i w mount b begins unit number (may_note (log_of w) unit number may) in
          ap used_of (chunk_told i (log_of w) (ResetDone unit number) knows unit may.reset refl
          (ap (λ t. if t then unit_event_at (log_of w) unit number else None) (same_number unit)
          ∙ ap (option_and_then (λ (l : Logged). unit_event_of l.event)) may.new.is_known ∙ may.new.event)
          ∙ ap (option_map (λ (x : Chunk). after_outcome i.shape x may.reset.command may.reset.outcome)) c.1)
          ∙ ap (λ (command : ChunkCommand). not (is_empty_state (after_outcome i.shape c.0 command may.reset.outcome).state)) may.is_reset
          ∙ ap not (reset_empties i.shape c.0 may.reset.outcome may.not_stopped)

      -- no other chunk of the line changes
      other_unit : (u : ℕ) → u ≢ unit → is_used_at (known_image i new) line u ≡ is_used_at (known_image i (log_of w)) line u
      other_unit u apart = ap used_of (chunk_kept i (log_of w) (ResetDone unit number) knows line u refl (λ x is same.
          none-some x (sym (ap (λ t. if t then unit_event_at (log_of w) u number else None) (other_number unit u (λ e. apart (sym e)))) ∙ is)))

      unit_in : unit < units i.shape
      unit_in = by (cases_lt unit (units i.shape))
        where
          by : (unit < units i.shape) ⊎ (units i.shape ≤ unit) → unit < units i.shape
          by (inl below) = below
          by (inr past) = absurd (none_there i w mount b begins unit number (may_note (log_of w) unit number may)
              (get_past i.units unit (omega (arith, past, mount.fit.units))))

      counts : used_count (known_image i (log_of w)) line ≡ used_count (known_image i new) line + 1
      counts = count_more (is_used_at (known_image i new) line) (is_used_at (known_image i (log_of w)) line) (units i.shape) unit 1 unit_in
          (one_less (is_used_at (known_image i (log_of w)) line unit) (is_used_at (known_image i new) line unit) used_before unused_now)
          (λ u apart. sym (other_unit u apart))

      here : unreset_in i (log_of w) may.reset.chunk ≡ unreset_in i new may.reset.chunk + 1
      here =
          let given : is_given_up (log_of w 0) line ≡ true = still_given i w mount b begins unit number (may_note (log_of w) unit number may) in
          ap (λ t. if t then used_count (known_image i (log_of w)) line else 0) given
          ∙ counts
          ∙ ap (λ t. (if t then used_count (known_image i new) line else 0) + 1)
          (sym (given_kept (log_of w) (ResetDone unit number) knows b line begins (life line) ∙ given))

  -- ---- a line is opened

  pub chunks_opened : (c : Begun) (line : ℕ) (start : StartRecord) → MayOpen i (log_of w) c line start
      → unreset_chunks i (after (log_of w) (Open line start) knows) ≡ unreset_chunks i (log_of w)
  chunks_opened c line start may =
      sum_same (unreset_in i new) (unreset_in i (log_of w)) (λ m. by m (nat_eq m line) refl) (range_with_len 0 i.shape.chunks)
    where
      new : Logs
      new = after (log_of w) (Open line start) knows

      l : Logged
      l = record { event = Decides (Open line start); knows = knows }

      by : (m : ℕ) (t : Bool) → nat_eq m line ≡ t → unreset_in i new m ≡ unreset_in i (log_of w) m
      by m false apart =
          line_kept i (log_of w) (Open line start) knows b m begins refl
          (life_more (log_of w 0) l m
          ∙ ap (λ t. if t then Opened (record { number = length (log_of w 0); line = m; start = start; knows = knows }) else life_of (log_of w 0) m)
          (other_number line m (λ e. eqb-false m line apart (sym e))))
          (λ u x told same. none-some x told)
      by m true e =
          let here : m ≡ line = eqb-true m line e in
          let parts = both (not (has_number i (log_of w) (life_of (log_of w 0) line) line) && are_empty (known_image i (log_of w)) line)
          (nat_lt 0 (line_data (known_image i (log_of w)) line)) may.is_free in
          let empty : are_empty (known_image i (log_of w)) line ≡ true =
          (both (not (has_number i (log_of w) (life_of (log_of w 0) line) line)) (are_empty (known_image i (log_of w)) line) parts.0).1 in
          let now : unreset_in i new line ≡ 0 =
          opened_none i new line (ap is_opened (life_more (log_of w 0) l line
          ∙ ap (λ t. if t then Opened (record { number = length (log_of w 0); line = line; start = start; knows = knows }) else life_of (log_of w 0) line)
          (same_number line))) in
          ap (unreset_in i new) here ∙ now ∙ sym (empty_none i (log_of w) line empty) ∙ ap (unreset_in i (log_of w)) (sym here)

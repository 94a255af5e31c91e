-- The chunks that a unit's log leaves.
use Rattle.std.proofs.Common.{◌≡◌, ℕ, ◌<◌, inl, inr, Option, Some, None, List, [], ◌∷◌, ◌++◌, length, refl, sym, ap, ◌∙◌, subst}
use Rattle.std.specs.List.{AllByRecursion, slice_get, slice_set}
use Rattle.std.specs.Option.{option_map_or}
use Rattle.std.proofs.lemmas.List.{length-set, append-nil}
use Rattle.pblk_model.specs.declared.shape.Shape.{Shape}
use Rattle.pblk_model.specs.Chunk.{Chunk, IsChunk}
use Rattle.pblk_model.specs.ChunkStep.{ChunkCommand, Write, Read, Reset, WritesBlocks, ChunkAnswer, Done, Gave, Empty, Refused, ChunkStep, ChunkFails}
use Rattle.pblk_model.specs.UnitLog.{UnitOutcome, Answered, Failed, Stopped, UnitEvent, NotRefused, IsOutcome, IsEvent, IsUnitLog, InFlight, IsCutWithin, IsCut, after_answer, after_outcome, after_event, after_log}
use Rattle.pblk_laws.specs.StopLog.{WritesInFlight, IsStopOf}
use Rattle.pblk_laws.proofs.ChunkStep.{step_is_chunk, failure_is_chunk, stop_is_chunk}
use Rattle.pblk_laws.proofs.UnitLog.{answered, failed, stopped, stop_event, log_grows, log_leaves}
use Rattle.pblk_model.proofs.Parts.{all_get, all_set}
use Rattle.pblk_model.proofs.UnitLogLemmas.{after_event_is}

-- Failures and answers are events.

pub fail_event : (s : Shape) (c new : Chunk) (command : ChunkCommand) → ChunkFails s c command new
    → (k : ℕ) × IsOutcome s c command (Failed k) × (new ≡ after_outcome s c command (Failed k))
fail_event s c new (Write at blocks) (r, k, few, e) = (k, (r, few), e)
fail_event s c new (Read b) (r, e) = (0, (r, refl), e)
fail_event s c new Reset (r, e) = (0, (r, refl), e)

leaves_as : (s : Shape) (c new : Chunk) (command : ChunkCommand) (answer : ChunkAnswer) → ChunkStep s c command answer new
    → new ≡ after_answer s c command answer
leaves_as s c new (Write at blocks) Done h = h.1
leaves_as s c new (Write at blocks) (Refused e) h = h.1
leaves_as s c new (Write at blocks) (Gave block) h = absurd h
leaves_as s c new (Write at blocks) Empty h = absurd h
leaves_as s c new (Read b) Done h = absurd h
leaves_as s c new (Read b) (Gave block) h = h.3
leaves_as s c new (Read b) Empty h = h.2
leaves_as s c new (Read b) (Refused e) h = h.1
leaves_as s c new Reset Done h = h.1
leaves_as s c new Reset (Refused e) h = h.1
leaves_as s c new Reset (Gave block) h = absurd h
leaves_as s c new Reset Empty h = absurd h

pub answer_event : (s : Shape) (c new : Chunk) (command : ChunkCommand) (answer : ChunkAnswer) → NotRefused answer → ChunkStep s c command answer new
    → IsOutcome s c command (Answered answer) × (new ≡ after_outcome s c command (Answered answer))
answer_event s c new command answer taken h =
    let same : new ≡ after_answer s c command answer = leaves_as s c new command answer h in
    ((taken, subst (ChunkStep s c command answer) same h), same)

-- Chunks of the shape stay so.

outcome_is_chunk : (s : Shape) (c : Chunk) (command : ChunkCommand) (o : UnitOutcome) → 0 < s.ws_min → IsChunk s c → WritesBlocks s command
    → IsOutcome s c command o → IsChunk s (after_outcome s c command o)
outcome_is_chunk s c command (Answered answer) minimum chunk blocks h = step_is_chunk s c _ command answer chunk blocks (answered s c command answer h)
outcome_is_chunk s c command (Failed k) minimum chunk blocks h = failure_is_chunk s c _ command chunk blocks (failed s c command k h)
outcome_is_chunk s c command (Stopped k) minimum chunk blocks h = stop_is_chunk s c _ command minimum chunk blocks (stopped s c command k h)

event_keeps : (s : Shape) (chunks : List Chunk) (e : UnitEvent) → 0 < s.ws_min → AllByRecursion (IsChunk s) chunks → IsEvent s chunks e
    → AllByRecursion (IsChunk s) (after_event s chunks e)
event_keeps s chunks e minimum each event =
    let found : IsChunk s event.found = all_get (IsChunk s) chunks e.chunk event.found each event.there in
    subst (AllByRecursion (IsChunk s)) (sym (after_event_is s chunks e event.found event.there))
    (all_set (IsChunk s) chunks e.chunk (after_outcome s event.found e.command e.outcome) each
    (outcome_is_chunk s event.found e.command e.outcome minimum found event.blocks event.outcome))

pub log_keeps : (s : Shape) (chunks : List Chunk) (log : List UnitEvent) → 0 < s.ws_min → AllByRecursion (IsChunk s) chunks → IsUnitLog s chunks log
    → AllByRecursion (IsChunk s) (after_log s chunks log)
unfolding IsUnitLog
log_keeps s chunks [] minimum each h = each
log_keeps s chunks (e ∷ log) minimum each h = log_keeps s (after_event s chunks e) log minimum (event_keeps s chunks e minimum each h.0) h.1

event_by : (s : Shape) (chunks : List Chunk) (e : UnitEvent) (o : Option Chunk)
    → length (option_map_or (λ d. slice_set chunks e.chunk (after_outcome s d e.command e.outcome)) o chunks) ≡ length chunks
event_by s chunks e None = refl
event_by s chunks e (Some c) = length-set chunks e.chunk (after_outcome s c e.command e.outcome)

pub log_count : (s : Shape) (chunks : List Chunk) (log : List UnitEvent) → length (after_log s chunks log) ≡ length chunks
log_count s chunks [] = refl
log_count s chunks (e ∷ log) = log_count s (after_event s chunks e) log ∙ event_by s chunks e (slice_get chunks e.chunk)

-- A stop leaves what a log leaves.

abbrev stop_of : InFlight → ℕ → UnitEvent
stop_of f k = record { chunk = f.chunk; command = f.command; outcome = Stopped k }

split_log : (s : Shape) (chunks : List Chunk) (log more : List UnitEvent) → IsUnitLog s chunks (log ++ more) → IsUnitLog s (after_log s chunks log) more
unfolding IsUnitLog
split_log s chunks [] more h = h
split_log s chunks (e ∷ log) more h = split_log s (after_event s chunks e) log more h.1

abbrev IsMade : Shape → List Chunk → List UnitEvent → Option InFlight → List Chunk → Type 0
IsMade s chunks log flight left = (more : List UnitEvent) × IsStopOf flight more × IsUnitLog s chunks (log ++ more) × (left ≡ after_log s chunks (log ++ more))

same_log : (s : Shape) (chunks left : List Chunk) (log : List UnitEvent) → left ≡ after_log s chunks log → left ≡ after_log s chunks (log ++ [])
same_log s chunks left log e = e ∙ ap (after_log s chunks) (sym (append-nil log))

is_same_log : (s : Shape) (chunks : List Chunk) (log : List UnitEvent) → IsUnitLog s chunks log → IsUnitLog s chunks (log ++ [])
is_same_log s chunks log h = subst (IsUnitLog s chunks) (sym (append-nil log)) h

cut_within : (s : Shape) (chunks left : List Chunk) (log : List UnitEvent) (f : InFlight) → IsUnitLog s chunks log → WritesBlocks s f.command
    → IsCutWithin s (after_log s chunks log) f left → IsMade s chunks log (Some f) left
cut_within s chunks left log f h blocks (old, new, there, stops, e) =
    let now = after_log s chunks log in
    let stop = stop_event s old new f.command stops in
    let event : UnitEvent = stop_of f stop.0 in
    let is : IsEvent s now event = record { found = old; there = there; blocks = blocks; outcome = stop.1 } in
    let made : left ≡ after_event s now event = e ∙ ap (slice_set now f.chunk) stop.2 ∙ sym (after_event_is s now event old there) in
    (event ∷ [], inr (stop.0, refl), log_grows s chunks log event h is, made ∙ sym (log_leaves s chunks log event))

pub cut_is_log : (s : Shape) (chunks left : List Chunk) (log : List UnitEvent) (flight : Option InFlight) → IsUnitLog s chunks log → WritesInFlight s flight
    → IsCut s (after_log s chunks log) flight left → IsMade s chunks log flight left
cut_is_log s chunks left log None h blocks cut = ([], refl, is_same_log s chunks log h, same_log s chunks left log cut)
cut_is_log s chunks left log (Some f) h blocks (inl same) = ([], inl refl, is_same_log s chunks log h, same_log s chunks left log same)
cut_is_log s chunks left log (Some f) h blocks (inr within) = cut_within s chunks left log f h blocks within

unchanged : (s : Shape) (chunks : List Chunk) (log more : List UnitEvent) → more ≡ [] → after_log s chunks (log ++ more) ≡ after_log s chunks log
unchanged s chunks log more none = ap (λ m. after_log s chunks (log ++ m)) none ∙ ap (after_log s chunks) (append-nil log)

one_more : (s : Shape) (chunks : List Chunk) (log more : List UnitEvent) (f : InFlight) (k : ℕ) → more ≡ stop_of f k ∷ [] → IsUnitLog s chunks (log ++ more)
    → IsCutWithin s (after_log s chunks log) f (after_log s chunks (log ++ more))
unfolding IsUnitLog
one_more s chunks log more f k e h =
    let now = after_log s chunks log in
    let event = stop_of f k in
    let last : IsUnitLog s now (event ∷ []) = subst (IsUnitLog s now) e (split_log s chunks log more h) in
    let is : IsEvent s now event = last.0 in
    let made : after_log s chunks (log ++ more) ≡ after_event s now event = ap (λ m. after_log s chunks (log ++ m)) e ∙ log_leaves s chunks log event in (
      is.found,
      after_outcome s is.found f.command (Stopped k),
      is.there,
      stopped s is.found f.command k is.outcome,
      made
          ∙ after_event_is s now event is.found is.there,
    )

pub log_is_cut : (s : Shape) (chunks : List Chunk) (log more : List UnitEvent) (flight : Option InFlight) → IsStopOf flight more
    → IsUnitLog s chunks (log ++ more)
    → IsCut s (after_log s chunks log) flight (after_log s chunks (log ++ more))
log_is_cut s chunks log more None none h = unchanged s chunks log more none
log_is_cut s chunks log more (Some f) (inl none) h = inl (unchanged s chunks log more none)
log_is_cut s chunks log more (Some f) (inr (k, e)) h = inr (one_more s chunks log more f k e h)

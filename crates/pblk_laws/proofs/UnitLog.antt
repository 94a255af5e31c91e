-- What a unit's events leave.
use Rattle.std.proofs.Common.{◌≡◌, ℕ, zero, suc, ◌*◌, ◌<◌, ◌≤◌, inl, inr, None, List, [], ◌∷◌, ◌++◌, length, take, refl, arith}
use Rattle.std.proofs.lemmas.List.Sums.{fold-append}
use Rattle.pblk_model.specs.declared.shape.Shape.{Shape}
use Rattle.pblk_model.specs.Chunk.{Chunk, Block}
use Rattle.pblk_model.specs.ChunkStep.{ChunkCommand, Write, Read, Reset, ChunkAnswer, ChunkStep, ChunkFails, ChunkStops, refusal, appended}
use Rattle.pblk_model.specs.UnitLog.{Answered, Failed, Stopped, UnitEvent, IsOutcome, IsEvent, IsUnitLog, after_outcome, after_event, after_log}

pub answered : (s : Shape) (c : Chunk) (command : ChunkCommand) (answer : ChunkAnswer) → IsOutcome s c command (Answered answer)
    → ChunkStep s c command answer (after_outcome s c command (Answered answer))
answered s c command answer h = h.1

pub failed : (s : Shape) (c : Chunk) (command : ChunkCommand) (k : ℕ) → IsOutcome s c command (Failed k)
    → ChunkFails s c command (after_outcome s c command (Failed k))
failed s c (Write at blocks) k h = (h.0, k, h.1, refl)
failed s c (Read b) k h = (h.0, refl)
failed s c Reset k h = (h.0, refl)

pub stopped : (s : Shape) (c : Chunk) (command : ChunkCommand) (k : ℕ) → IsOutcome s c command (Stopped k)
    → ChunkStops s c command (after_outcome s c command (Stopped k))
stopped s c (Write at blocks) zero h = inl refl
stopped s c (Write at blocks) (suc k) h = inr (h.0, (suc k, omega arith, h.1, refl))
stopped s c (Read b) zero h = inl refl
stopped s c (Read b) (suc k) h = absurd h
stopped s c Reset zero h = inl refl
stopped s c Reset (suc k) h = inr (h, refl)

abbrev pub IsStopped : Shape → Chunk → ChunkCommand → Chunk → Type 0
IsStopped s c command new = (k : ℕ) × IsOutcome s c command (Stopped k) × (new ≡ after_outcome s c command (Stopped k))

as_it_was : (s : Shape) (c new : Chunk) (command : ChunkCommand) → new ≡ c → IsStopped s c command new
as_it_was s c new (Write at blocks) h = (0, tt, h)
as_it_was s c new (Read b) h = (0, tt, h)
as_it_was s c new Reset h = (0, tt, h)

within_write : (s : Shape) (c new : Chunk) (at : ℕ) (blocks : List Block) (k : ℕ) → refusal s c (Write at blocks) ≡ None → 0 < k → k * s.ws_min ≤ length blocks
    → new ≡ appended s c (take (k * s.ws_min) blocks) → IsStopped s c (Write at blocks) new
within_write s c new at blocks zero r some fits h = absurd (omega (arith, some))
within_write s c new at blocks (suc k) r some fits h = (suc k, (r, fits), h)

pub stop_event : (s : Shape) (c new : Chunk) (command : ChunkCommand) → ChunkStops s c command new
    → (k : ℕ) × IsOutcome s c command (Stopped k) × (new ≡ after_outcome s c command (Stopped k))
stop_event s c new command (inl h) = as_it_was s c new command h
stop_event s c new (Write at blocks) (inr (r, (k, some, fits, h))) = within_write s c new at blocks k r some fits h
stop_event s c new (Read b) (inr (r, h)) = absurd h
stop_event s c new Reset (inr (r, h)) = (1, r, h)

pub log_grows : (s : Shape) (chunks : List Chunk) (log : List UnitEvent) (e : UnitEvent) → IsUnitLog s chunks log → IsEvent s (after_log s chunks log) e
    → IsUnitLog s chunks (log ++ (e ∷ []))
unfolding IsUnitLog
log_grows s chunks [] e h last = (last, tt)
log_grows s chunks (first ∷ log) e h last = (h.0, log_grows s (after_event s chunks first) log e h.1 last)

pub log_leaves : (s : Shape) (chunks : List Chunk) (log : List UnitEvent) (e : UnitEvent)
    → after_log s chunks (log ++ (e ∷ [])) ≡ after_event s (after_log s chunks log) e
log_leaves s chunks log e = fold-append (after_event s) chunks log (e ∷ [])

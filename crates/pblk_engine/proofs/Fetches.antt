-- Fetches: that a unit takes one, what it gives, and what it leaves of the arm.
use Rattle.std.proofs.Common.{◌≡◌, ◌≢◌, inl, ℕ, suc, ◌+◌, ◌-◌, ◌^◌, ◌<◌, true, false, min, None, Some, List, [], ◌∷◌, ◌++◌, refl, sym, subst, ap, ◌∙◌, arith, if◌then◌else◌}
use Rattle.std.specs.Prelude.{nat_lt, slice_get}
use Rattle.std.proofs.lemmas.Option.{same_Some}
use Rattle.atomic_table.specs.Seated.{TableId}
use Rattle.pblk_model.specs.declared.shape.Shape.{Shape}
use Rattle.pblk_model.specs.declared.chunk.ChunkErr.TheVariants as errors
use Rattle.pblk_model.specs.declared.chunk.ChunkState.{ChunkState}
use Rattle.pblk_model.specs.declared.chunk.ChunkState.TheVariants as states
use Rattle.pblk_model.specs.Image.{Image}
use Rattle.pblk_model.specs.Chunk.{Block, Chunk, IsChunk, IsReadable, PointerFits, ReadableIn, pointer}
use Rattle.pblk_model.specs.ChunkStep.{Empty, Gave, Read, read_refusal_in}
use Rattle.pblk_model.specs.UnitLog.{Answered, IsOutcome, UnitEvent, UnitOutcome}
use Rattle.pblk_world.specs.AtRest.{AreResetsNoted}
use Rattle.pblk_world.specs.Commanding.{MayDo, ended_stripes, ends_program, ends_stripe, is_reset, was_stopped}
use Rattle.pblk_world.specs.EngineLog.{begun}
use Rattle.pblk_world.specs.Events.{Does, Logged, Maker}
use Rattle.pblk_world.specs.Legal.{IsAllowed}
use Rattle.pblk_world.specs.World.{Logs, knows_engine}
use Rattle.step_laws.proofs.Fetches.{may_read}
use Rattle.step_laws.proofs.Levels.{ends_by_command}
use Rattle.pblk_model.proofs.Parts.{all_get}
use Rattle.pblk_model.proofs.Tests.{and_false, lt_true}
use Rattle.unit_port.specs.Unit.{ModelUnit, Steps, Takes}
use Rattle.chronicle.specs.Views.{Past}
use Rattle.chronicle.specs.Handles.{AuthorView}
use Rattle.chronicle.specs.Prefixes.{logs_of, naming, with_event, ArePrefixes, AreLegalLogs}
use Rattle.pblk_engine.specs.Arms.{IsArm, IsArmOf, WasGiven, last_done, last_event}
use Rattle.pblk_engine.specs.Fetches.{IsReadableAt}
use Rattle.pblk_engine.proofs.ArmNext.{can, last, own_is, unit_is}
use Rattle.pblk_engine.proofs.Programs.{ended_more, own_chunk}

-- ---- a block that can be read is taken

read_taken : (s : Shape) (state : ChunkState) (wp b : ℕ) → PointerFits state s.clba wp → ReadableIn state s.mw_cunits wp b → read_refusal_in s state b ≡ None
read_taken s states.Free wp b fits h = absurd h
read_taken s states.Open wp b fits h = let below : wp < s.clba = fits.1 in ap (λ t. if t then None else Some errors.PastEnd) (lt_true b s.clba (omega arith))
read_taken s states.Closed wp b fits h = ap (λ t. if t then None else Some errors.PastEnd) (lt_true b s.clba (omega arith))
read_taken s states.Offline wp b fits h = absurd h

pub takes_readable : (i : Image) (logs : Logs) (number line block : ℕ) (handed u : ModelUnit) → IsArm i logs number handed u
    → (is : IsReadableAt i logs number line block) → Takes u line (Read block)
takes_readable i logs number line block handed u arm is =
    let there : slice_get u.media line ≡ Some is.chunk = own_chunk i logs number line handed u is.chunk arm is.there in
    let fits : IsChunk i.shape is.chunk = subst (λ (s : Shape). IsChunk s is.chunk) arm.shape
    (all_get (IsChunk u.shape) u.media line is.chunk arm.fit.chunks there) in
    record {
      found = is.chunk;
      there = there;
      taken = inl (ap (λ (s : Shape). read_refusal_in s is.chunk.state block) arm.shape
          ∙ read_taken i.shape is.chunk.state (pointer is.chunk) block fits.place is.readable);
    }

-- and so is one of a chunk that isn't Offline
pub takes_online : (u : ModelUnit) (line block : ℕ) (c : Chunk) → slice_get u.media line ≡ Some c → c.state ≢ states.Offline → block < u.shape.clba
    → Takes u line (Read block)
takes_online u line block c there online inside = record { found = c; there = there; taken = inl (go c.state online) }
  where
    low : (if nat_lt block u.shape.clba then None else Some errors.PastEnd) ≡ None
    low = ap (λ t. if t then None else Some errors.PastEnd) (lt_true block u.shape.clba inside)

    go : (state : ChunkState) → state ≢ states.Offline → read_refusal_in u.shape state block ≡ None
    go states.Free on = low
    go states.Open on = low
    go states.Closed on = low
    go states.Offline on = absurd (on refl)

-- ---- what it gives

module _ (u new : ModelUnit) (line number : ℕ) (outcome : UnitOutcome) (steps : Steps u line (Read number) outcome new) where
  abbrev found : Chunk
  found = steps.event.found

  pub its_outcome : (o : UnitOutcome) → outcome ≡ o → IsOutcome u.shape found (Read number) o
  its_outcome o is = subst (λ (x : UnitOutcome). IsOutcome u.shape found (Read number) x) is steps.event.outcome

  pub gave : (b : Block) → outcome ≡ Answered (Gave b) → slice_get found.blocks number ≡ Some b
  gave b is = (its_outcome (Answered (Gave b)) is).1.2

  pub none_there : outcome ≡ Answered Empty → ¬ IsReadable u.shape found number
  none_there is = (its_outcome (Answered Empty) is).1.1

  module _ (i : Image) (logs : Logs) (unit : ℕ) (handed : ModelUnit) (arm : IsArm i logs unit handed u) (is : IsReadableAt i logs unit line number) where
    same_chunk : found ≡ is.chunk
    same_chunk = same_Some found is.chunk (sym steps.event.there ∙ own_chunk i logs unit line handed u is.chunk arm is.there)

    pub gave_readable : (b : Block) → outcome ≡ Answered (Gave b) → b ≡ is.block
    gave_readable b gives = same_Some b is.block (sym (gave b gives) ∙ ap (λ (c : Chunk). slice_get c.blocks number) same_chunk ∙ is.written)

    pub not_empty : outcome ≡ Answered Empty → ⊥
    not_empty none = none_there none (subst (λ (s : Shape). IsReadable s found number) (sym arm.shape)
        (subst (λ (c : Chunk). IsReadable i.shape c number) (sym same_chunk) is.readable))

-- ---- it is legal, and leaves an arm

module _ (chronicle : TableId) (past : Past) (handed : List ModelUnit) (wear : List (List ℕ)) (a : AuthorView) (number : ℕ) (u new : ModelUnit)
    (worn : List ℕ) (ended : ℕ) (is : IsArmOf chronicle past handed wear a number u worn ended) (line block : ℕ) (tells : UnitOutcome → Type 0)
    (given : WasGiven u line (Read block) tells new) (worker count : ℕ) where
  abbrev e : UnitEvent
  e = record { chunk = line; command = Read block; outcome = given.outcome }

  abbrev maker : Maker
  maker = record { worker = worker; made = count }

  last_is : last_event new ≡ e
  last_is = last chronicle past handed wear a number u new worn is.unit line (Read block) tells given worker count

  pub fetch_allowed : IsAllowed past.image (suc number) (last_done new worker count) (logs_of a.known)
  fetch_allowed =
      let can_do = can chronicle past handed wear a number u new worn is.unit line (Read block) tells given worker count in
      subst (λ (x : UnitEvent). MayDo past.image (logs_of a.known) number x) (sym last_is) (record {
        chunks = can_do.chunks;
        has_chunks = can_do.has_chunks;
        event = can_do.event;
        stopped = can_do.stopped;
        command = may_read past.image (logs_of a.known) number line block can_do.event.found (Read block) (begun (logs_of a.known 0)) refl;
      })

  pub fetch_resets_none : is_reset (last_event new).command ≡ true → was_stopped (last_event new).outcome ≡ true
  fetch_resets_none = subst (λ (x : UnitEvent). is_reset x.command ≡ true → was_stopped x.outcome ≡ true) (sym last_is) (λ reset. absurd cc)

  pub fetched : (next : AuthorView) → next ≡ record a { known = with_event a.known (suc number) (last_done new worker count) } → (now : List ℕ) → now ≡ worn
      → AreLegalLogs past.image next.known → ArePrefixes past.logs next.known → AreResetsNoted (logs_of next.known)
      → IsArmOf chronicle past handed wear next number new now ended
  fetched next appended now same legal begun noted =
      let l : Logged = naming a.known (Does e maker) in
      let own : logs_of next.known (suc number) ≡ logs_of a.known (suc number) ++ l ∷ [] =
      own_is chronicle past handed wear a number u new worn is.unit line (Read block) tells given worker count next appended in
      let none : ends_stripe l ≡ false = and_false (nat_lt 0 (knows_engine l)) (ends_program e) (ends_by_command e refl) in
      let same_count : ended_stripes (logs_of next.known (suc number)) ≡ ended_stripes (logs_of a.known (suc number)) + 0 =
      ap ended_stripes own ∙ ended_more (logs_of a.known (suc number)) l false none in
      record {
        unit = unit_is chronicle past handed wear a number u new worn is.unit line (Read block) tells given worker count next appended now same legal begun;
        noted = noted;
        makers = ap (λ (x : AuthorView). x.makers) appended ∙ is.makers;
        spare = ap (λ (x : AuthorView). x.spare) appended ∙ is.spare;
        counted = is.counted ∙ ap (λ n. min n (2 ^ 64 - 1)) (omega (arith, same_count));
      }

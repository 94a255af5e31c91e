-- The reset of a chunk of a line that was given up, and how the engine notes it.
use Rattle.std.proofs.Common.{◌≡◌, ℕ, ◌<◌, true, false, None, Option, List, [], ◌∷◌, length, refl, sym, subst, ap, ◌∙◌, arith}
use Rattle.pblk_model.specs.declared.shape.Shape.{Shape}
use Rattle.pblk_model.specs.declared.chunk.ChunkState.{ChunkState}
use Rattle.pblk_model.specs.declared.chunk.ChunkState.TheVariants as states
use Rattle.pblk_model.specs.Chunk.{Chunk}
use Rattle.pblk_model.specs.ChunkStep.{ChunkCommand, Done, Gave, Empty, Refused, Reset, reset_refusal_in}
use Rattle.pblk_model.specs.UnitLog.{UnitOutcome, Answered, Failed, Stopped, UnitEvent, IsOutcome}
use Rattle.pblk_model.specs.Found.{IsUsed}
use Rattle.pblk_model.specs.Image.{Image}
use Rattle.pblk_world.specs.Events.{ResetDone, Maker, Logged}
use Rattle.pblk_world.specs.World.{World, log_of}
use Rattle.pblk_world.specs.EngineLog.{Begun, begun}
use Rattle.pblk_world.specs.Lines.{is_given_up}
use Rattle.pblk_world.specs.Commanding.{is_program, was_stopped, IsCommand}
use Rattle.pblk_world.specs.Answering.{IsDoneReset, MayNoteReset}
use Rattle.pblk_world.specs.Legal.{IsLegal}
use Rattle.pblk_world.specs.LegalMounts.{IsLegalMount}
use Rattle.core_laws.specs.PlacerOf.{unanswered_on, was_stopped_on}
use Rattle.world_laws.proofs.EarlierLogs.{some_begun}
use Rattle.step_laws.specs.NextEvents.{CanReset}
use Rattle.step_laws.specs.Whole.{after_unit, next_event, after_reset_noted, IsLevel}
use Rattle.step_laws.proofs.EngineSteps.{engine_next}
use Rattle.step_laws.proofs.Levels.{ends_by_command, level_by, level_unit}
use Rattle.step_laws.proofs.UnitSteps.{engine_log, is_new, unit_next}
use Rattle.step_laws.proofs.Waiting.{waits_still, stopped_now}

-- a chunk that holds something doesn't refuse a reset
pub reset_taken : (state : ChunkState) → IsUsed state → reset_refusal_in state ≡ None
reset_taken states.Free used = absurd used
reset_taken states.Open used = refl
reset_taken states.Closed used = refl
reset_taken states.Offline used = absurd used

-- a reset that wasn't stopped was done, or failed
done_reset : (s : Shape) (c : Chunk) (outcome : UnitOutcome) → IsOutcome s c Reset outcome → was_stopped outcome ≡ false → IsDoneReset outcome
done_reset s c (Answered Done) is ends = refl
done_reset s c (Answered (Gave block)) is ends = absurd is.1
done_reset s c (Answered Empty) is ends = absurd is.1
done_reset s c (Answered (Refused e)) is ends = absurd is.0
done_reset s c (Failed k) is ends = tt
done_reset s c (Stopped k) is ends = absurd cc

-- a log in which a line was given up has an event
pub some_given : (log : List Logged) (line : ℕ) → is_given_up log line ≡ true → 0 < length log
some_given [] line e = absurd (cc)
some_given (l ∷ log) line e = omega arith

module _ (i : Image) (w : World) (unit : ℕ) (e : UnitEvent) (maker : Maker) (reset : CanReset i (log_of w) unit e) where
  abbrev mid : World
  mid = after_unit i.shape unit e maker w

  abbrev end_ : World
  end_ = after_reset_noted i.shape unit e maker w

  -- ---- it may be done

  some : 0 < length (log_of w 0)
  some = some_given (log_of w 0) e.chunk reset.given.line

  pub reset_next : IsLegalMount i w → IsLegalMount i (after_unit i.shape unit e maker w)
  reset_next mount =
      let begins = some_begun i w mount.legal some in
      let c : Chunk = reset.can.event.found in
      unit_next i w unit e maker mount reset.can
      (subst (λ (command : ChunkCommand). IsCommand i (log_of w) unit c e.chunk command (begun (log_of w 0))) (sym reset.command)
      (subst (λ (o : Option Begun). IsCommand i (log_of w) unit c e.chunk Reset o) (sym begins.1) reset.given))

  pub reset_level : IsLevel w → IsLevel (after_unit i.shape unit e maker w)
  reset_level level = level_unit i.shape unit e maker w (ends_by_command e (ap is_program reset.command)) level

  -- ---- it is noted

  module _ (ends : was_stopped e.outcome ≡ false) where
    pub may_note : IsLegal i w → (may : MayNoteReset (log_of mid) unit (next_event w unit)) × (may.reset ≡ e)
    may_note legal = (
      record {
        reset = e;
        new = is_new i w unit e maker legal;
        is_reset = reset.command;
        not_stopped = done_reset i.shape reset.can.event.found e.outcome
            (subst (λ (command : ChunkCommand). IsOutcome i.shape reset.can.event.found command e.outcome) reset.command reset.can.event.outcome) ends;
      },
      refl,
    )

    pub noted_legal : IsLegalMount i w → IsLegalMount i end_
    noted_legal mount =
        let begins = some_begun i w mount.legal some in
        engine_next i mid begins.0 (ResetDone unit (next_event w unit)) (reset_next mount)
        (ap begun (engine_log i.shape unit e maker w) ∙ begins.1) (may_note mount.legal).0

  pub noted_level : IsLevel w → IsLevel end_
  noted_level level = level_by i.shape (ResetDone unit (next_event w unit)) mid (λ u. refl) (reset_level level)

-- ---- the stripes that aren't answered are the same, and the units that were stopped

pub noted_waits : (s : Shape) (unit : ℕ) (e : UnitEvent) (maker : Maker) (w : World) (other : ℕ)
    → unanswered_on (log_of (after_reset_noted s unit e maker w) 0) other ≡ unanswered_on (log_of w 0) other
noted_waits s unit e maker w other =
    waits_still s (ResetDone unit (next_event w unit)) (after_unit s unit e maker w) refl other refl
    ∙ ap (λ log. unanswered_on log other) (engine_log s unit e maker w)

pub noted_stops : (s : Shape) (unit : ℕ) (e : UnitEvent) (maker : Maker) (w : World) (other : ℕ)
    → was_stopped_on (log_of (after_reset_noted s unit e maker w) 0) other ≡ was_stopped_on (log_of w 0) other
noted_stops s unit e maker w other =
    stopped_now s (ResetDone unit (next_event w unit)) (after_unit s unit e maker w) other
    ∙ ap (λ log. was_stopped_on log other) (engine_log s unit e maker w)

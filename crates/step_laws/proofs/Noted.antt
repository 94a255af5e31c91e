-- The engine notes what became of a unit's stripe: it has landed, it was lost, or its program was
-- stopped.
use Rattle.std.proofs.Common.{◌≡◌, ◌≢◌, ℕ, ◌<◌, ◌==◌, ◌&&◌, not, true, false, Some, None, length, refl, sym, ap, ap₂, ◌∙◌, if◌then◌else◌}
use Rattle.pblk_model.specs.ChunkStep.{Done}
use Rattle.pblk_model.specs.UnitLog.{UnitEvent, Answered, Failed, Stopped}
use Rattle.pblk_model.specs.Image.{Image}
use Rattle.pblk_world.specs.Events.{EngineEvent, Landed, Lost, Again, Decides, Maker}
use Rattle.pblk_world.specs.World.{World, log_of}
use Rattle.pblk_world.specs.EngineLog.{begun, Placed, placed_by, Answer, DidLand, WasLost, answer_by}
use Rattle.pblk_world.specs.Commanding.{is_program, was_stopped, ends_program}
use Rattle.core_laws.specs.PlacerOf.{unanswered_on, was_stopped_on}
use Rattle.core_laws.proofs.PlainStripes.{one_unanswered}
use Rattle.pblk_world.specs.LegalMounts.{IsLegalMount}
use Rattle.step_laws.specs.NextEvents.{CanProgram}
use Rattle.step_laws.specs.Whole.{noted, after_unit, next_event, after_landing, after_losing, after_stopping, IsLevel}
use Rattle.step_laws.proofs.EngineSteps.{engine_next}
use Rattle.step_laws.proofs.Levels.{ends_by_stop, level_by, level_unit, level_answered}
use Rattle.step_laws.proofs.Programs.{program_begun, program_next, may_land, may_lose, may_offer_again}
use Rattle.step_laws.proofs.UnitSteps.{engine_log, engine_longer}
use Rattle.step_laws.proofs.Waiting.{waits_still, waits_no_more, stopped_now, own_again, others_again}
use Rattle.pblk_model.proofs.Tests.{other_number, same_number}

module _ (i : Image) (w : World) (unit : ℕ) (p : Placed) (e : UnitEvent) (maker : Maker) (mount : IsLegalMount i w)
    (can : CanProgram i (log_of w) unit p e) where
  abbrev mid : World
  mid = after_unit i.shape unit e maker w

  mid_legal : IsLegalMount i mid
  mid_legal = program_next i w unit p e maker can mount

  some : 0 < length (log_of w 0)
  some = let begins = program_begun i w unit p e maker can mount.legal in engine_longer w begins.0 begins.1

  -- ---- the engine notes an answer: of a program that was done, or that failed

  module _ (tells : EngineEvent) (answer : Answer) (goes_on : was_stopped e.outcome ≡ false)
      (answers : (u : ℕ) → answer_by u (Decides tells) ≡ (if unit == u then Some answer else None))
      (places : placed_by (log_of mid 0) (length (log_of mid 0)) (Decides tells) ≡ None) where
    abbrev answered : World
    answered = noted i.shape tells mid

    ends : ends_program e ≡ true
    ends = ap₂ (λ a b. a && not b) (ap is_program can.command) goes_on

    own_answer : answer_by unit (Decides tells) ≡ Some answer
    own_answer = answers unit ∙ ap (λ b. if b then Some answer else None) (same_number unit)

    others_answer : (u : ℕ) → u ≢ unit → answer_by u (Decides tells) ≡ None
    others_answer u apart = answers u ∙ ap (λ b. if b then Some answer else None) (other_number unit u (λ same. apart (sym same)))

    answered_level : IsLevel w → IsLevel answered
    answered_level = level_answered i w unit e maker tells answer mount.legal some ends own_answer others_answer

    -- the unit's stripe is answered, those of the others wait as before
    answered_waits : unanswered_on (log_of answered 0) unit ≡ None
    answered_waits = waits_no_more i.shape tells mid places unit answer own_answer (one_unanswered i mid mid_legal.legal unit)

    others_still : (u : ℕ) → u ≢ unit → unanswered_on (log_of answered 0) u ≡ unanswered_on (log_of w 0) u
    others_still u apart = waits_still i.shape tells mid places u (others_answer u apart) ∙ ap (λ log. unanswered_on log u) (engine_log i.shape unit e maker w)

  -- ---- it was done, and has landed

  module _ (done : e.outcome ≡ Answered Done) where
    abbrev lands : EngineEvent
    lands = Landed unit (next_event w unit)

    abbrev landed : World
    landed = after_landing i.shape unit e maker w

    pub landing_legal : IsLegalMount i landed
    landing_legal =
        let begins = program_begun i w unit p e maker can mount.legal in
        engine_next i mid begins.0 lands mid_legal (ap begun (engine_log i.shape unit e maker w) ∙ begins.1)
        (may_land i w unit p e maker can mount.legal done)

    pub landing_level : IsLevel w → IsLevel landed
    landing_level = answered_level lands (DidLand (next_event w unit)) (ap was_stopped done) (λ u. refl) refl

    pub own_waits : unanswered_on (log_of landed 0) unit ≡ None
    own_waits = answered_waits lands (DidLand (next_event w unit)) (ap was_stopped done) (λ u. refl) refl

    pub others_wait : (u : ℕ) → u ≢ unit → unanswered_on (log_of landed 0) u ≡ unanswered_on (log_of w 0) u
    others_wait = others_still lands (DidLand (next_event w unit)) (ap was_stopped done) (λ u. refl) refl

    -- the stripes of the same units were stopped
    pub landing_stops : (u : ℕ) → was_stopped_on (log_of landed 0) u ≡ was_stopped_on (log_of w 0) u
    landing_stops u = stopped_now i.shape lands mid u ∙ ap (λ log. was_stopped_on log u) (engine_log i.shape unit e maker w)

  -- ---- it failed, and was lost

  module _ (k : ℕ) (failed : e.outcome ≡ Failed k) where
    abbrev loses : EngineEvent
    loses = Lost unit (next_event w unit)

    abbrev lost : World
    lost = after_losing i.shape unit e maker w

    pub losing_legal : IsLegalMount i lost
    losing_legal =
        let begins = program_begun i w unit p e maker can mount.legal in
        engine_next i mid begins.0 loses mid_legal (ap begun (engine_log i.shape unit e maker w) ∙ begins.1)
        (may_lose i w unit p e maker can k mount.legal failed)

    pub losing_level : IsLevel w → IsLevel lost
    losing_level = answered_level loses (WasLost (next_event w unit)) (ap was_stopped failed) (λ u. refl) refl

    pub own_lost : unanswered_on (log_of lost 0) unit ≡ None
    own_lost = answered_waits loses (WasLost (next_event w unit)) (ap was_stopped failed) (λ u. refl) refl

    pub others_lost : (u : ℕ) → u ≢ unit → unanswered_on (log_of lost 0) u ≡ unanswered_on (log_of w 0) u
    others_lost = others_still loses (WasLost (next_event w unit)) (ap was_stopped failed) (λ u. refl) refl

    pub losing_stops : (u : ℕ) → was_stopped_on (log_of lost 0) u ≡ was_stopped_on (log_of w 0) u
    losing_stops u = stopped_now i.shape loses mid u ∙ ap (λ log. was_stopped_on log u) (engine_log i.shape unit e maker w)

  -- ---- it was stopped, and is offered again

  module _ (k : ℕ) (stops : e.outcome ≡ Stopped k) where
    abbrev stopped : World
    stopped = after_stopping i.shape unit e maker w

    was : was_stopped e.outcome ≡ true
    was = ap was_stopped stops

    pub stopping_legal : IsLegalMount i stopped
    stopping_legal =
        let begins = program_begun i w unit p e maker can mount.legal in
        engine_next i mid begins.0 (Again unit (next_event w unit)) mid_legal
        (ap begun (engine_log i.shape unit e maker w) ∙ begins.1) (may_offer_again i w unit p e maker can k mount.legal stops)

    pub stopping_level : IsLevel w → IsLevel stopped
    stopping_level level = level_by i.shape (Again unit (next_event w unit)) mid (λ u. refl) (level_unit i.shape unit e maker w (ends_by_stop e was) level)

    -- the same stripes wait for their answers
    pub stopping_waits : (u : ℕ) → unanswered_on (log_of stopped 0) u ≡ unanswered_on (log_of w 0) u
    stopping_waits u = waits_still i.shape (Again unit (next_event w unit)) mid refl u refl
        ∙ ap (λ log. unanswered_on log u) (engine_log i.shape unit e maker w)

    -- that of this unit was stopped
    pub own_stopped : was_stopped_on (log_of stopped 0) unit ≡ true
    own_stopped = own_again i.shape unit (next_event w unit) mid

    pub others_stopped : (u : ℕ) → u ≢ unit → was_stopped_on (log_of stopped 0) u ≡ was_stopped_on (log_of w 0) u
    others_stopped u apart = others_again i.shape unit (next_event w unit) mid u apart
        ∙ ap (λ log. was_stopped_on log u) (engine_log i.shape unit e maker w)

-- The wrong commands of units, the wrong answers and the wrong knowledge are refused.
use Rattle.std.proofs.Common.{◌≡◌, ℕ, ◌*◌, ◌<◌, ◌≤◌, suc, Some, refl, ap, ◌∙◌, arith, lit<}
use Rattle.std.specs.Prelude.{slice_get}
use Rattle.std.proofs.lemmas.Option.{none-some, same_Some}
use Rattle.pblk_model.specs.ChunkStep.{Done}
use Rattle.pblk_model.specs.UnitLog.{UnitEvent, UnitOutcome, Answered, Failed, Stopped}
use Rattle.pblk_world.specs.Events.{Logged}
use Rattle.pblk_world.specs.World.{Logs, unit_event_of}
use Rattle.pblk_world.specs.Commanding.{is_reset}
use Rattle.pblk_world.specs.Answering.{IsNew}
use Rattle.pblk_world.specs.Legal.{IsLegal}
use Rattle.world_tests.specs.Steps.{image, program_of}
use Rattle.world_tests.specs.Simple.{start_stripe}
use Rattle.world_tests.specs.Wrong.{resets_before_begin, stripe_isnt_placed, stripe_isnt_known, open_line_is_reset, stopped_unit_writes, failure_lands_all, answer_isnt_known, failed_program_lands, program_lands_twice, done_program_is_lost, done_program_is_offered_again, program_is_noted_as_reset, knows_the_future, forgets, misses_its_own_log, unit_decides, author_is_none}
use Rattle.world_tests.proofs.Knowing.{no_truth, differ}

-- what became of a command, as a number
kind_of : UnitOutcome → ℕ
kind_of (Answered answer) = 0
kind_of (Failed k) = 1
kind_of (Stopped k) = 2

other_kind : (a b : UnitOutcome) → a ≡ b → kind_of a ≡ kind_of b
other_kind a b e = ap kind_of e

-- Commands.

pub no_reset_before : ¬ IsLegal image resets_before_begin
unfolding IsLegal
no_reset_before h = h.0.allowed.command

pub no_unplaced : ¬ IsLegal image stripe_isnt_placed
unfolding IsLegal
no_unplaced h = none-some h.0.allowed.command.placed h.0.allowed.command.earliest

pub no_unknown : ¬ IsLegal image stripe_isnt_known
unfolding IsLegal
no_unknown h = none-some h.0.allowed.command.placed h.0.allowed.command.earliest

pub no_reset_of_open : ¬ IsLegal image open_line_is_reset
unfolding IsLegal
no_reset_of_open h = no_truth h.0.allowed.command.line

pub no_write_after_stop : ¬ IsLegal image stopped_unit_writes
unfolding IsLegal kind_of
no_write_after_stop h = differ 0 2 refl (other_kind (Answered Done) (Stopped 0) (h.0.allowed.stopped refl))

pub no_whole_failure : ¬ IsLegal image failure_lands_all
unfolding IsLegal
no_whole_failure h = let wrong : 2 * 2 < 4 = h.0.allowed.event.outcome.1 in omega arith

-- Answers.

pub no_unknown_answer : ¬ IsLegal image answer_isnt_known
unfolding IsLegal
no_unknown_answer h = none-some h.0.allowed.2.new.logged h.0.allowed.2.new.is_known

-- the event that is known is this one
is_event : (logs : Logs) (unit number : ℕ) (e known : UnitEvent) (l : Logged) → Some l ≡ slice_get (logs (suc unit)) number
    → Some known ≡ unit_event_of l.event → (n : IsNew logs unit number e) → known ≡ e
is_event logs unit number e known l at event n =
    same_Some known e (event ∙ ap (λ (m : Logged). unit_event_of m.event) (same_Some l n.logged (at ∙ n.is_known)) ∙ n.event)

pub no_failed_lands : ¬ IsLegal image failed_program_lands
unfolding IsLegal kind_of
no_failed_lands h = let a = h.0.allowed.2 in
    differ 1 0 refl (ap (λ (e : UnitEvent). kind_of e.outcome) (is_event _ 0 0 a.program (program_of start_stripe (Failed 0)) _ refl refl a.new) ∙ ap
    kind_of a.done)

pub no_second_landing : ¬ IsLegal image program_lands_twice
unfolding IsLegal
no_second_landing h = h.0.allowed.2.new.once (0, lit< tt, refl)

pub no_lost_done : ¬ IsLegal image done_program_is_lost
unfolding IsLegal kind_of
no_lost_done h = let a = h.0.allowed.2 in
    differ 0 1 refl (ap (λ (e : UnitEvent). kind_of e.outcome) (is_event _ 0 0 a.program (program_of start_stripe (Answered Done)) _ refl refl a.new) ∙ ap
    kind_of a.failed)

pub no_done_again : ¬ IsLegal image done_program_is_offered_again
unfolding IsLegal kind_of
no_done_again h = let a = h.0.allowed.2 in
    differ 0 2 refl (ap (λ (e : UnitEvent). kind_of e.outcome) (is_event _ 0 0 a.program (program_of start_stripe (Answered Done)) _ refl refl a.new) ∙ ap
    kind_of a.stopped)

pub no_program_as_reset : ¬ IsLegal image program_is_noted_as_reset
unfolding IsLegal
no_program_as_reset h = let a = h.0.allowed.2 in
    no_truth (ap (λ (e : UnitEvent). is_reset e.command) (is_event _ 0 0 a.reset (program_of start_stripe (Answered Done)) _ refl refl a.new) ∙ ap
    is_reset a.is_reset)

-- Knowledge.

pub no_future : ¬ IsLegal image knows_the_future
unfolding IsLegal
no_future h = let wrong : 1 ≤ 0 = h.0.knowledge.within 2 in omega arith

pub no_forgetting : ¬ IsLegal image forgets
unfolding IsLegal
no_forgetting h = let wrong : 1 ≤ 0 = h.0.knowledge.rising _ 1 (4, lit< tt, refl) in omega arith

pub no_missing : ¬ IsLegal image misses_its_own_log
unfolding IsLegal
no_missing h = differ 1 2 refl h.0.knowledge.own

pub no_deciding_unit : ¬ IsLegal image unit_decides
unfolding IsLegal
no_deciding_unit h = h.0.allowed

pub no_other_author : ¬ IsLegal image author_is_none
unfolding IsLegal
no_other_author h = let wrong : 3 ≤ 2 = h.0.author in omega arith

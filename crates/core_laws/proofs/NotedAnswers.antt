-- The event of the engine that notes an answer of a unit: that its stripe has landed, or is lost.
use Rattle.std.proofs.Common.{◌≡◌, ◌⊎◌, ℕ, ◌==◌, if◌then◌else◌, Bool, true, false, Some, None, Option, List, [], ◌∷◌, ◌++◌, length, refl, sym, ap, ◌∙◌, arith, append-nil}
use Rattle.std.specs.Prelude.{slice_get}
use Rattle.std.specs.List.{AllByRecursion, filter}
use Rattle.std.specs.Option.{option_to_list}
use Rattle.std.proofs.lemmas.Option.{none-some, same_Some, slice_get_past}
use Rattle.pblk_model.specs.ChunkStep.{Done}
use Rattle.pblk_model.specs.Image.{Image}
use Rattle.pblk_model.specs.UnitLog.{UnitOutcome, UnitEvent, Answered, Failed}
use Rattle.pblk_world.specs.Answering.{IsNew, IsOfStripe, MayLand, MayLose}
use Rattle.pblk_world.specs.Commanding.{was_stopped}
use Rattle.pblk_world.specs.EngineLog.{Answer, DidLand, WasLost, answer_by, answer_of, answers, Begun, begun, begun_by, life_of, LineLife, named_by, Opening, opened_by, openings, Placed, placements, Taken, takes, turned_by}
use Rattle.pblk_world.specs.Events.{Decides, EngineEvent, Event, Landed, Logged, Lost}
use Rattle.pblk_world.specs.Fronts.{is_users, user_takes}
use Rattle.pblk_world.specs.Legal.{IsAllowed}
use Rattle.pblk_world.specs.Lines.{told_by}
use Rattle.pblk_world.specs.World.{Logs, unit_event_at}
use Rattle.pblk_world.proofs.Appending.{life_more, openings_more, placements_more}
use Rattle.pblk_world.proofs.EngineLogLemmas.{answers_more, takes_more}
use Rattle.core_laws.specs.PlacerOf.{unanswered_on}
use Rattle.core_laws.specs.Stepping.{after}
use Rattle.core_laws.proofs.Answered.{IsAnswer, IsFirst, first_unanswered, its_answer, others_answer}
use Rattle.pblk_model.proofs.Lists.{IsAmong, all_imply, among_all}
use Rattle.pblk_model.proofs.Tests.{other_number, same, same_number}

abbrev pub noting : ℕ → Answer → EngineEvent
noting unit (DidLand event) = Landed unit event
noting unit (WasLost event) = Lost unit event

abbrev pub MayNote : Logs → ℕ → Answer → Type 0
MayNote logs unit (DidLand event) = MayLand logs unit event
MayNote logs unit (WasLost event) = MayLose logs unit event

-- the number of the program's event in the unit's log
abbrev pub number_in : Answer → ℕ
number_in (DidLand event) = event
number_in (WasLost event) = event

-- the program was done, or it failed
abbrev pub IsEndedBy : Answer → UnitOutcome → Type 0
IsEndedBy (DidLand event) outcome = outcome ≡ Answered Done
IsEndedBy (WasLost event) outcome = (landed_before : ℕ) × (outcome ≡ Failed landed_before)

pub unstopped : (a : Answer) (outcome : UnitOutcome) → IsEndedBy a outcome → was_stopped outcome ≡ false
unstopped (DidLand event) outcome ended = ap was_stopped ended
unstopped (WasLost event) outcome ended = ap was_stopped ended.1

-- when it may be noted, of either kind
pub record IsNoted (logs : Logs) (unit : ℕ) (a : Answer) : Type 0 where
  pub program : UnitEvent
  pub new : IsNew logs unit (number_in a) program
  pub stripe : IsOfStripe logs unit (number_in a) program
  pub ended : IsEndedBy a program.outcome

pub noted : (logs : Logs) (unit : ℕ) (a : Answer) → MayNote logs unit a → IsNoted logs unit a
noted logs unit (DidLand event) may = record { program = may.program; new = may.new; stripe = may.stripe; ended = may.done }
noted logs unit (WasLost event) may =
    record { program = may.program; new = may.new; stripe = may.stripe; ended = (may.landed_before, may.failed) }

pub may_note : (i : Image) (logs : Logs) (unit : ℕ) (a : Answer) → IsAllowed i 0 (Decides (noting unit a)) logs → MayNote logs unit a
may_note i logs unit (DidLand event) allowed = allowed.2
may_note i logs unit (WasLost event) allowed = allowed.2

pub allowed_note : (i : Image) (logs : Logs) (unit : ℕ) (a : Answer) (b : Begun) → begun (logs 0) ≡ Some b → MayNote logs unit a
    → IsAllowed i 0 (Decides (noting unit a)) logs
allowed_note i logs unit (DidLand event) b begins may = (b, begins, may)
allowed_note i logs unit (WasLost event) b begins may = (b, begins, may)

-- ---- what the event says

pub names_it : (unit : ℕ) (a : Answer) → named_by unit (Decides (noting unit a)) ≡ Some (number_in a)
names_it unit (DidLand event) = ap (λ b. if b then Some event else None) (same_number unit)
names_it unit (WasLost event) = ap (λ b. if b then Some event else None) (same_number unit)

pub tells_it : (logs : Logs) (unit u : ℕ) (a : Answer)
    → told_by logs u (Decides (noting unit a)) ≡ (if unit == u then unit_event_at logs u (number_in a) else None)
tells_it logs unit u (DidLand event) = refl
tells_it logs unit u (WasLost event) = refl

-- no other event answers so
pub answer_names : (unit : ℕ) (a : Answer) (e : Event) → answer_by unit e ≡ Some a → e ≡ Decides (noting unit a)
answer_names unit a (Decides (Landed other event)) is = by (other == unit) refl is
  where
    by : (b : Bool) → (other == unit) ≡ b → (if b then Some (DidLand event) else None) ≡ Some a → Decides (Landed other event) ≡ Decides (noting unit a)
    by true alike f = ap (λ u. Decides (Landed u event)) (same other unit alike) ∙ ap (λ x. Decides (noting unit x)) (same_Some (DidLand event) a f)
    by false apart f = absurd (none-some a f)
answer_names unit a (Decides (Lost other event)) is = by (other == unit) refl is
  where
    by : (b : Bool) → (other == unit) ≡ b → (if b then Some (WasLost event) else None) ≡ Some a → Decides (Lost other event) ≡ Decides (noting unit a)
    by true alike f = ap (λ u. Decides (Lost u event)) (same other unit alike) ∙ ap (λ x. Decides (noting unit x)) (same_Some (WasLost event) a f)
    by false apart f = absurd (none-some a f)
answer_names unit a e is = absurd (none-some a is)

-- ---- what stays

module _ (unit : ℕ) (knows : List ℕ) where
  pub none_begun : (a : Answer) → begun_by knows (Decides (noting unit a)) ≡ None
  none_begun (DidLand event) = refl
  none_begun (WasLost event) = refl

  pub none_opened : (number : ℕ) (a : Answer) → opened_by number knows (Decides (noting unit a)) ≡ None
  none_opened number (DidLand event) = refl
  none_opened number (WasLost event) = refl

  pub none_turned : (line number : ℕ) (life : LineLife) (a : Answer) → turned_by line life number knows (Decides (noting unit a)) ≡ life
  none_turned line number life (DidLand event) = refl
  none_turned line number life (WasLost event) = refl

module _ (logs : Logs) (unit : ℕ) (knows : List ℕ) where
  abbrev noted_as : EngineEvent → Logged
  noted_as e = record { event = Decides e; knows = knows }

  pub lives_noted : (a : Answer) (line : ℕ) → life_of (after logs (noting unit a) knows 0) line ≡ life_of (logs 0) line
  lives_noted a line =
      life_more (logs 0) (noted_as (noting unit a)) line ∙ none_turned unit knows line (length (logs 0)) (life_of (logs 0) line) a

  pub takes_noted : (a : Answer) → takes (after logs (noting unit a) knows 0) ≡ takes (logs 0)
  takes_noted (DidLand event) = takes_more (logs 0) (noted_as (Landed unit event)) ∙ append-nil (takes (logs 0))
  takes_noted (WasLost event) = takes_more (logs 0) (noted_as (Lost unit event)) ∙ append-nil (takes (logs 0))

  pub users_noted : (a : Answer) → user_takes (after logs (noting unit a) knows 0) ≡ user_takes (logs 0)
  users_noted a = ap (filter (λ (t : Taken). is_users t.entry.source)) (takes_noted a)

  pub openings_noted : (a : Answer) → openings (after logs (noting unit a) knows 0) ≡ openings (logs 0)
  openings_noted a =
      openings_more (logs 0) (noted_as (noting unit a))
      ∙ ap (λ (o : Option Opening). openings (logs 0) ++ option_to_list o) (none_opened unit knows (length (logs 0)) a) ∙ append-nil (openings (logs 0))

-- it is an answer of the unit, and of no other
module _ (log : List Logged) (unit : ℕ) (knows : List ℕ) where
  abbrev pub with_answer : Answer → List Logged
  with_answer a = log ++ record { event = Decides (noting unit a); knows = knows } ∷ []

  pub placements_noted : (a : Answer) → placements (with_answer a) ≡ placements log
  placements_noted (DidLand event) =
      placements_more log (record { event = Decides (Landed unit event); knows = knows }) ∙ append-nil (placements log)
  placements_noted (WasLost event) =
      placements_more log (record { event = Decides (Lost unit event); knows = knows }) ∙ append-nil (placements log)

  pub answers_noted : (a : Answer) (v : ℕ) → answers (with_answer a) v ≡ answers log v ++ option_to_list (if unit == v then Some a else None)
  answers_noted (DidLand event) v = answers_more log (record { event = Decides (Landed unit event); knows = knows }) v
  answers_noted (WasLost event) v = answers_more log (record { event = Decides (Lost unit event); knows = knows }) v

  pub answer_is : (a : Answer) → IsAnswer log (with_answer a) unit a
  answer_is a = record {
    placements = placements_noted a;
    here = answers_noted a unit ∙ ap (λ b. answers log unit ++ option_to_list (if b then Some a else None)) (same_number unit);
    elsewhere = λ v other. answers_noted a v
        ∙ ap (λ b. answers log v ++ option_to_list (if b then Some a else None)) (other_number unit v (λ e. other (sym e)))
        ∙ append-nil (answers log v);
  }

-- one stripe is answered, and what became of the others is as it was
pub record IsOneAnswered (log new : List Logged) (p : Placed) (a : Answer) : Type 0 where
  pub stripes : placements new ≡ placements log
  pub among : IsAmong (placements log) p
  pub before : answer_of log p ≡ None
  pub now : answer_of new p ≡ Some a
  pub others : AllByRecursion (λ r. (r ≡ p) ⊎ (answer_of new r ≡ answer_of log r)) (placements log)

pub one_answered : (log : List Logged) (unit : ℕ) (a : Answer) (knows : List ℕ) (p : Placed) → unanswered_on log unit ≡ Some p
    → IsOneAnswered log (with_answer log unit knows a) p a
one_answered log unit a knows p waits =
    let new : List Logged = with_answer log unit knows a in
    let is : IsAnswer log (with_answer log unit knows a) unit a = answer_is log unit knows a in
    let first : IsFirst log unit p = first_unanswered log unit p waits in
    record {
      stripes = is.placements;
      among = first.among;
      before = ap (λ n. slice_get (answers log p.stripe.unit) n) (first.turn_is ∙ ap (λ u. length (answers log u)) (sym first.of_unit))
          ∙ slice_get_past (answers log p.stripe.unit) (length (answers log p.stripe.unit)) (omega arith);
      now = its_answer log new unit a p is first;
      others = all_imply (IsAmong (placements log)) (λ (r : Placed). (r ≡ p) ⊎ (answer_of new r ≡ answer_of log r))
          (λ r among. others_answer log new unit a p r is first among) (placements log) (among_all (placements log));
    }

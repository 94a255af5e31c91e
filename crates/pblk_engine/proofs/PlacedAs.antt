-- The stripe that was placed last on a unit waits there, with its turn.
use Rattle.std.proofs.Common.{◌≡◌, ◌-◌, ◌^◌, min, cond, Some, ◌<◌, List, [], ◌∷◌, ◌++◌, length, take, sym, subst, ap, ap₂, ◌∙◌, append-nil}
use Rattle.std.specs.Prelude.{slice_get}
use Rattle.std.specs.List.{Contains}
use Rattle.pblk_model.specs.Accepted.{IsAccepted}
use Rattle.pblk_model.specs.Image.{Image, IsFit}
use Rattle.pblk_model.specs.Shape.{units}
use Rattle.pblk_world.specs.EngineLog.{Answer, Placed, answers, life_of, placed_on, placements}
use Rattle.pblk_world.specs.Events.{Place, Stripe, Logged}
use Rattle.pblk_world.specs.Legal.{IsLegal}
use Rattle.pblk_world.specs.Placing.{MayPlace}
use Rattle.pblk_world.specs.World.{World, Logs, log_of}
use Rattle.pblk_world.proofs.Answered.{answers_fit}
use Rattle.pblk_world.proofs.EngineLogLemmas.{answers_more}
use Rattle.core_laws.specs.PlacerOf.{unanswered_on}
use Rattle.core_laws.proofs.Answered.{IsFirst, first_unanswered}
use Rattle.core_laws.proofs.AnsweredUnits.{all_answered}
use Rattle.core_laws.proofs.KeptLines.{on_drive}
use Rattle.core_laws.proofs.LandedOn.{placed_on_more}
use Rattle.step_laws.specs.Whole.{engine_step}
use Rattle.pblk_core.specs.Filling.{Filling}
use Rattle.pblk_core.specs.Stands.{answer_count}
use Rattle.pblk_core.proofs.Laws.{turn_is_next, turn_stays}
use Rattle.pblk_model.proofs.Parts.{get_last, is_in}
use Rattle.pblk_model.proofs.Tests.{same_number}
use Rattle.chronicle.specs.Prefixes.{Prefixes, AreLegalLogs, logs_of}
use Rattle.pblk_engine.specs.Placements.{IsPlacedAs}
use Rattle.pblk_engine.proofs.HeartSteps.{log_is}
use Rattle.pblk_engine.proofs.Knowledge.{mount_of}

pub placed_as : (log : List Logged) (f : Filling) (p : Placed) → unanswered_on log f.stripe.unit ≡ Some p → p.stripe ≡ f.stripe
    → f.turn ≡ answer_count log f.stripe.unit → IsPlacedAs log f
placed_as log f p waits stripe turn =
    let first : IsFirst log f.stripe.unit p = first_unanswered log f.stripe.unit p waits in
    record {
      number = first.among.0;
      placed = p;
      there = first.among.1;
      stripe = stripe;
      turn = turn_is_next log f.stripe.unit p waits ∙ sym turn;
    }

pub placed_still : (log more : List Logged) (f : Filling) → IsPlacedAs log f → IsPlacedAs (log ++ more) f
placed_still log more f is =
    let stays = turn_stays log more is.number is.placed is.there in
    record { number = is.number; placed = is.placed; there = stays.0; stripe = is.stripe; turn = stays.1 ∙ is.turn }

-- it is placed on one of the drive's units
pub placed_inside : (i : Image) (known : Prefixes) → AreLegalLogs i known → IsAccepted i.shape → IsFit i → (f : Filling) → IsPlacedAs (logs_of known 0) f
    → f.stripe.unit < units i.shape
placed_inside i known legal accepted fit f is =
    let placed : Contains (placements (logs_of known 0)) is.placed = is_in (placements (logs_of known 0)) is.number is.placed is.there in
    let there : Contains (placements (log_of legal.world 0)) is.placed =
    subst (λ (logs : Logs). Contains (placements (logs 0)) is.placed) (sym legal.logs) placed in
    subst (λ (s : Stripe). s.unit < units i.shape) is.stripe
    (on_drive i legal.world is.placed (mount_of i known legal accepted fit) there)

module _ (i : Image) (w : World) (stripe : Stripe) (legal : IsLegal i w) (may : MayPlace i (log_of w) stripe) where
  abbrev last : Logged
  last = (engine_step i.shape (Place stripe) w).logged

  abbrev pub newest : Placed
  newest = record { number = length (log_of w 0); stripe = stripe; life = life_of (take (length (log_of w 0)) (log_of w 0)) stripe.line }

  answers_same : answers (log_of w 0 ++ last ∷ []) stripe.unit ≡ answers (log_of w 0) stripe.unit
  answers_same = answers_more (log_of w 0) last stripe.unit ∙ append-nil (answers (log_of w 0) stripe.unit)

  pub count_same : answer_count (log_of (engine_step i.shape (Place stripe) w ∷ w) 0) stripe.unit ≡ answer_count (log_of w 0) stripe.unit
  count_same =
      ap (λ (log : List Logged). answer_count log stripe.unit) (log_is i w (Place stripe))
      ∙ ap (λ (xs : List Answer). min (length xs) (2 ^ 64 - 1)) answers_same

  placed_last : placed_on (log_of w 0 ++ last ∷ []) stripe.unit ≡ placed_on (log_of w 0) stripe.unit ++ newest ∷ []
  placed_last =
      placed_on_more (log_of w 0) last stripe.unit
      ∙ ap (λ b. placed_on (log_of w 0) stripe.unit ++ cond b (newest ∷ []) []) (same_number stripe.unit)

  pub newest_waits : unanswered_on (log_of (engine_step i.shape (Place stripe) w ∷ w) 0) stripe.unit ≡ Some newest
  newest_waits =
      ap (λ (log : List Logged). unanswered_on log stripe.unit) (log_is i w (Place stripe))
      ∙ ap₂ (λ (ps : List Placed) n. slice_get ps n) placed_last
      (ap (λ (xs : List Answer). length xs) answers_same ∙ all_answered i (log_of w) stripe (answers_fit i w stripe.unit legal) may)
      ∙ get_last (placed_on (log_of w 0) stripe.unit) newest

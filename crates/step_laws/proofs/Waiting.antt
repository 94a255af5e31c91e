-- What one more event of the engine leaves of the stripes that aren't answered, and of those that
-- were stopped.
use Rattle.std.proofs.Common.{◌≡◌, ◌≢◌, ℕ, ◌+◌, ◌≤◌, ◌==◌, true, Some, None, Option, List, [], ◌∷◌, ◌++◌, length, refl, sym, ap, ap₂, ◌∙◌, append-nil, length-append, if◌then◌else◌}
use Rattle.std.specs.Prelude.{slice_get}
use Rattle.std.specs.List.{filter}
use Rattle.std.specs.Option.{option_to_list}
use Rattle.pblk_model.specs.declared.shape.Shape.{Shape}
use Rattle.pblk_world.specs.Events.{EngineEvent, Again, Decides, Logged}
use Rattle.pblk_world.specs.World.{World, log_of}
use Rattle.pblk_world.specs.EngineLog.{Placed, placed_by, placed_on, placements, Answer, answers, answer_by}
use Rattle.pblk_world.proofs.Appending.{placements_more}
use Rattle.core_laws.specs.PlacerOf.{stopped_by, unanswered_on, was_stopped_on}
use Rattle.core_laws.proofs.Engine.{stopped_more}
use Rattle.step_laws.specs.Whole.{engine_step, noted}
use Rattle.pblk_model.proofs.Parts.{get_past}
use Rattle.pblk_model.proofs.Tests.{other_number, same_number}
use Rattle.pblk_world.proofs.EngineLogLemmas.{answers_more}
use Rattle.pblk_world.proofs.WorldLemmas.{log_here}

module _ (s : Shape) (e : EngineEvent) (w : World) where
  abbrev logged : Logged
  logged = (engine_step s e w).logged

  log_now : log_of (noted s e w) 0 ≡ log_of w 0 ++ logged ∷ []
  log_now = log_here (engine_step s e w) w 0 refl

  -- ---- an event that places nothing

  module _ (places : placed_by (log_of w 0) (length (log_of w 0)) (Decides e) ≡ None) where
    placed_still : (unit : ℕ) → placed_on (log_of (noted s e w) 0) unit ≡ placed_on (log_of w 0) unit
    placed_still unit =
        ap (λ (log : List Logged). placed_on log unit) log_now
        ∙ ap (λ (ps : List Placed). filter (λ (p : Placed). p.stripe.unit == unit) ps)
        (placements_more (log_of w 0) logged ∙ same (placed_by (log_of w 0) (length (log_of w 0)) (Decides e)) places)
      where
        same : (o : Option Placed) → o ≡ None → placements (log_of w 0) ++ option_to_list o ≡ placements (log_of w 0)
        same o none = ap (λ (o : Option Placed). placements (log_of w 0) ++ option_to_list o) none ∙ append-nil (placements (log_of w 0))

    -- and is no answer of the unit
    pub waits_still : (unit : ℕ) → answer_by unit (Decides e) ≡ None → unanswered_on (log_of (noted s e w) 0) unit ≡ unanswered_on (log_of w 0) unit
    waits_still unit none = ap₂ (λ (ps : List Placed) (xs : List Answer). slice_get ps (length xs)) (placed_still unit)
        (ap (λ (log : List Logged). answers log unit) log_now ∙ answers_more (log_of w 0) logged unit
        ∙ ap (λ (o : Option Answer). answers (log_of w 0) unit ++ option_to_list o) none ∙ append-nil (answers (log_of w 0) unit))

    -- and answers the one stripe of the unit that wasn't answered
    pub waits_no_more : (unit : ℕ) (answer : Answer) → answer_by unit (Decides e) ≡ Some answer
        → length (placed_on (log_of w 0) unit) ≤ length (answers (log_of w 0) unit) + 1
        → unanswered_on (log_of (noted s e w) 0) unit ≡ None
    waits_no_more unit answer own one = ap₂ (λ (ps : List Placed) n. slice_get ps n) (placed_still unit)
        (ap (λ (log : List Logged). length (answers log unit)) log_now
        ∙ ap (λ (xs : List Answer). length xs) (answers_more (log_of w 0) logged unit
        ∙ ap (λ (o : Option Answer). answers (log_of w 0) unit ++ option_to_list o) own)
        ∙ length-append (answers (log_of w 0) unit) (answer ∷ []))
        ∙ get_past (placed_on (log_of w 0) unit) (length (answers (log_of w 0) unit) + 1) one

  -- ---- stops

  pub stopped_now : (unit : ℕ) → was_stopped_on (log_of (noted s e w) 0) unit ≡ stopped_by unit (was_stopped_on (log_of w 0) unit) (Decides e)
  stopped_now unit = ap (λ (log : List Logged). was_stopped_on log unit) log_now ∙ stopped_more (log_of w 0) logged unit

-- of a stripe that is offered again

pub own_again : (s : Shape) (unit event : ℕ) (w : World) → was_stopped_on (log_of (noted s (Again unit event) w) 0) unit ≡ true
own_again s unit event w = stopped_now s (Again unit event) w unit
    ∙ ap (λ b. if b then true else was_stopped_on (log_of w 0) unit) (same_number unit)

pub others_again : (s : Shape) (unit event : ℕ) (w : World) (other : ℕ) → other ≢ unit
    → was_stopped_on (log_of (noted s (Again unit event) w) 0) other ≡ was_stopped_on (log_of w 0) other
others_again s unit event w other apart = stopped_now s (Again unit event) w other
    ∙ ap (λ b. if b then true else was_stopped_on (log_of w 0) other) (other_number unit other (λ same. apart (sym same)))

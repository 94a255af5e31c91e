-- The program of a unit's stripe that isn't answered, where all stripes before it are. It may be
-- made, and be noted by its outcome.
use Rattle.std.proofs.Common.{◌≡◌, ℕ, ◌<◌, ◌==◌, suc, false, None, Some, Option, List, [], ◌∷◌, length, take, refl, sym, subst, ap, ◌∙◌, arith}
use Rattle.std.specs.Prelude.{slice_get}
use Rattle.std.proofs.lemmas.Bool.{eqb-true}
use Rattle.std.proofs.lemmas.Option.{slice_get_within}
use Rattle.std.proofs.Math.Seq.{take-append_seam}
use Rattle.pblk_model.specs.Shape.{units}
use Rattle.pblk_model.specs.Chunk.{Chunk}
use Rattle.pblk_model.specs.ChunkStep.{ChunkCommand, Write, Done, refusal}
use Rattle.pblk_model.specs.UnitLog.{UnitEvent, Answered, Failed, Stopped}
use Rattle.pblk_model.specs.Image.{Image}
use Rattle.pblk_laws.specs.LineBlocks.{chunk_in}
use Rattle.pblk_world.specs.Events.{Maker, Logged}
use Rattle.pblk_world.specs.World.{World, log_of, known, unit_events, media}
use Rattle.pblk_world.specs.EngineLog.{Begun, begun, Placed, placements, placed_on, answers}
use Rattle.pblk_world.specs.Commanding.{is_program, has_stopped, ended_stripes, IsCommand, IsStripe}
use Rattle.pblk_world.specs.Answering.{IsOfStripe, MayLand, MayLose, MayOfferAgain}
use Rattle.pblk_world.specs.Legal.{IsLegal}
use Rattle.pblk_world.specs.LegalMounts.{IsLegalMount}
use Rattle.core_laws.specs.PlacerOf.{unanswered_on}
use Rattle.core_laws.proofs.UnitTurns.{filtered_is}
use Rattle.core_laws.proofs.KeptLines.{on_drive}
use Rattle.step_laws.specs.NextEvents.{CanProgram}
use Rattle.step_laws.specs.Whole.{unit_step, after_unit, next_event}
use Rattle.step_laws.proofs.Knowing.{known_whole}
use Rattle.step_laws.proofs.NextProgram.{has_chunk_of, program_is_taken}
use Rattle.step_laws.proofs.UnitSteps.{unit_log, new_event, engine_log, has_begun, engine_longer, unit_next, is_new}
use Rattle.pblk_model.proofs.Lists.{IsAmong}
use Rattle.pblk_model.proofs.Maps.{from_filter}
use Rattle.pblk_model.proofs.Parts.{contained_among}

-- ---- the stripe

pub unit_in_range : (i : Image) (w : World) (unit k : ℕ) (p : Placed) → IsLegalMount i w → slice_get (placed_on (log_of w 0) unit) k ≡ Some p
    → unit < units i.shape
unit_in_range i w unit k p mount there =
    let among : IsAmong (placements (log_of w 0)) p = from_filter (λ (q : Placed). q.stripe.unit == unit) (placements (log_of w 0)) p (k, there) in
    let on : p.stripe.unit ≡ unit = eqb-true p.stripe.unit unit (filtered_is (λ (q : Placed). q.stripe.unit == unit) (placements (log_of w 0)) k p there) in
    subst (λ n. n < units i.shape) on (on_drive i w p mount (contained_among (placements (log_of w 0)) p among))

-- its unit has the chunk
pub program_chunk : (i : Image) (w : World) (unit : ℕ) (p : Placed) → IsLegalMount i w → unanswered_on (log_of w 0) unit ≡ Some p
    → (c : Chunk) × (chunk_in (media i (log_of w)) p.stripe.chunk unit ≡ Some c)
program_chunk i w unit p mount waits =
    let k : ℕ = length (answers (log_of w 0) unit) in
    let found = has_chunk_of i w unit k p mount (unit_in_range i w unit k p mount waits) waits in
    (found.0, found.1)

-- and the chunk doesn't refuse the program, unless the unit was stopped
pub program_fits : (i : Image) (w : World) (unit : ℕ) (p : Placed) → IsLegalMount i w → unanswered_on (log_of w 0) unit ≡ Some p
    → ended_stripes (log_of w (suc unit)) ≡ length (answers (log_of w 0) unit) → has_stopped (unit_events (log_of w) unit) ≡ false
    → (c : Chunk) × (chunk_in (media i (log_of w)) p.stripe.chunk unit ≡ Some c) × (refusal i.shape c (Write p.stripe.at p.stripe.blocks) ≡ None)
program_fits i w unit p mount waits level running =
    program_is_taken i w unit p mount (unit_in_range i w unit (length (answers (log_of w 0) unit)) p mount waits)
    (ap (slice_get (placed_on (log_of w 0) unit)) level ∙ waits) running

-- ---- its program

module _ (i : Image) (w : World) (unit : ℕ) (p : Placed) (e : UnitEvent) (maker : Maker) (can : CanProgram i (log_of w) unit p e) where
  stripe : IsStripe (log_of w) unit e.chunk p.stripe.at p.stripe.blocks
  stripe = record {
    placed = p;
    earliest = ap (slice_get (placed_on (log_of w 0) unit)) can.level ∙ can.waits;
    its_chunk = can.chunk;
    its_place = refl;
    its_blocks = refl;
  }

  pub program_begun : IsLegal i w → (b : Begun) × (begun (log_of w 0) ≡ Some b)
  program_begun legal = has_begun i w unit (length (answers (log_of w 0) unit)) p legal can.waits

  pub program_next : IsLegalMount i w → IsLegalMount i (after_unit i.shape unit e maker w)
  program_next mount =
      let begins = program_begun mount.legal in
      let c : Chunk = can.can.event.found in
      unit_next i w unit e maker mount can.can
      (subst (λ (command : ChunkCommand). IsCommand i (log_of w) unit c e.chunk command (begun (log_of w 0))) (sym can.command)
      (subst (λ (o : Option Begun). IsCommand i (log_of w) unit c e.chunk (Write p.stripe.at p.stripe.blocks) o) (sym begins.1) stripe))

  -- ---- it may be noted

  abbrev mid : World
  mid = after_unit i.shape unit e maker w

  own_log : log_of mid 0 ≡ log_of w 0
  own_log = engine_log i.shape unit e maker w

  before : take (next_event w unit) (log_of mid (suc unit)) ≡ log_of w (suc unit)
  before = ap (λ (log : List Logged). take (next_event w unit) log) (unit_log i.shape unit e maker w)
      ∙ take-append_seam (log_of w (suc unit)) ((unit_step i.shape unit e maker w).logged ∷ [])

  pub of_stripe : IsLegal i w → IsOfStripe (log_of mid) unit (next_event w unit) e
  of_stripe legal =
      let begins = program_begun legal in
      let l : Logged = (unit_step i.shape unit e maker w).logged in
      let some : 0 < length (log_of w 0) = engine_longer w begins.0 begins.1 in
      let knows : known l 0 ≡ length (log_of w 0) = known_whole i w legal 0 in
      let fewer : length (answers (log_of w 0) unit) < length (placed_on (log_of w 0) unit) =
      slice_get_within (placed_on (log_of w 0) unit) (length (answers (log_of w 0) unit)) p can.waits in record {
        program = ap is_program can.command;
        logged = l;
        is_logged = new_event i.shape unit e maker w;
        after_begin = omega arith;
        placed = subst (λ (log : List Logged). length (answers log unit) < length (placed_on log unit)) (sym own_log) fewer;
        its_turn = ap ended_stripes before ∙ can.level ∙ ap (λ (log : List Logged). length (answers log unit)) (sym own_log);
      }

  pub may_land : IsLegal i w → e.outcome ≡ Answered Done → MayLand (log_of mid) unit (next_event w unit)
  may_land legal done = record { program = e; new = is_new i w unit e maker legal; stripe = of_stripe legal; done = done }

  pub may_lose : (k : ℕ) → IsLegal i w → e.outcome ≡ Failed k → MayLose (log_of mid) unit (next_event w unit)
  may_lose k legal failed =
      record { program = e; new = is_new i w unit e maker legal; stripe = of_stripe legal; landed_before = k; failed = failed }

  pub may_offer_again : (k : ℕ) → IsLegal i w → e.outcome ≡ Stopped k → MayOfferAgain (log_of mid) unit (next_event w unit)
  may_offer_again k legal stopped =
      record { program = e; new = is_new i w unit e maker legal; stripe = of_stripe legal; landed_before = k; stopped = stopped }

-- The program of a stripe that the engine may note as landed or as lost: it is that of the first
-- stripe of its unit that isn't answered.
use Rattle.std.proofs.Common.{◌≡◌, ◌≢◌, ℕ, ◌<◌, ◌==◌, nat_eq, if◌then◌else◌, Bool, true, false, Some, None, List, length, refl, sym, subst, ap, ◌∙◌}
use Rattle.std.specs.Prelude.{slice_get}
use Rattle.std.specs.Option.{option_and_then}
use Rattle.std.proofs.lemmas.Bool.{eqb-true}
use Rattle.std.proofs.lemmas.Option.{same_Some}
use Rattle.pblk_model.specs.ChunkStep.{Write}
use Rattle.pblk_model.specs.Image.{Image}
use Rattle.pblk_model.specs.UnitLog.{UnitEvent}
use Rattle.pblk_laws.specs.LineBlocks.{chunk_in}
use Rattle.pblk_world.specs.EngineLog.{Answer, Begun, begun, Placed, placed_on, placements, answers}
use Rattle.pblk_world.specs.Events.{Decides, Logged}
use Rattle.pblk_world.specs.Lines.{known_image, told_by}
use Rattle.pblk_world.specs.World.{World, knows_engine, log_of, unit_event_at, unit_event_of}
use Rattle.pblk_world.specs.LegalMounts.{IsLegalMount}
use Rattle.world_laws.specs.UnitPrograms.{IsProgramOfStripe}
use Rattle.world_laws.proofs.Programs.{program_of_stripe}
use Rattle.core_laws.specs.InOrder.{IsInPlace}
use Rattle.core_laws.specs.PlacerOf.{unanswered_on}
use Rattle.core_laws.specs.Stepping.{after}
use Rattle.core_laws.proofs.LogOrders.{in_order}
use Rattle.core_laws.proofs.NotedAnswers.{IsEndedBy, IsNoted, MayNote, noted, noting, number_in, tells_it}
use Rattle.pblk_model.proofs.Lists.{IsAmong}
use Rattle.pblk_model.proofs.Maps.{from_filter}
use Rattle.pblk_model.proofs.Parts.{all_at}
use Rattle.pblk_core.proofs.KnownAfter.{beside_after, untold_after}

-- it is the one of the stripe, and it ended
pub record IsItsProgram (w : World) (unit : ℕ) (a : Answer) (p : Placed) : Type 0 where
  pub program : UnitEvent
  pub is_event : unit_event_at (log_of w) unit (number_in a) ≡ Some program
  pub chunk : program.chunk ≡ p.stripe.line
  pub command : program.command ≡ Write p.stripe.at p.stripe.blocks
  pub ended : IsEndedBy a program.outcome

pub its_program : (i : Image) (w : World) (unit : ℕ) (a : Answer) (p : Placed) → IsLegalMount i w → MayNote (log_of w) unit a
    → unanswered_on (log_of w 0) unit ≡ Some p → IsItsProgram w unit a p
its_program i w unit a p mount may_be waits =
    let may : IsNoted (log_of w) unit a = noted (log_of w) unit a may_be in
    let one : may.stripe.logged ≡ may.new.logged = same_Some may.stripe.logged may.new.logged (sym may.stripe.is_logged ∙ may.new.is_known) in
    let s : IsProgramOfStripe (log_of w) unit (number_in a) may.new.logged may.program =
    program_of_stripe i w unit (number_in a) may.new.logged may.program mount.legal may.new.is_known may.new.event may.stripe.program
    (subst (λ (x : Logged). 0 < knows_engine x) one may.stripe.after_begin) in
    let it : s.placed ≡ p = same_Some s.placed p (sym s.in_order ∙ ap (slice_get (placed_on (log_of w 0) unit)) may.stripe.its_turn ∙ waits) in
    let among : IsAmong (placements (log_of w 0)) p =
    from_filter (λ (q : Placed). q.stripe.unit == unit) (placements (log_of w 0)) p (length (answers (log_of w 0) unit), waits) in
    let place : IsInPlace i (log_of w 0) p = all_at (IsInPlace i (log_of w 0)) (placements (log_of w 0)) among.0 p among.1 (in_order i w mount).placed in
    record {
      program = may.program;
      is_event = ap (option_and_then (λ (l : Logged). unit_event_of l.event)) may.new.is_known ∙ may.new.event;
      chunk = s.chunk ∙ ap (λ (x : Placed). x.stripe.chunk) it ∙ place.chunk;
      command = s.command ∙ ap (λ (x : Placed). Write x.stripe.at x.stripe.blocks) it;
      ended = may.ended;
    }

-- ---- what the event tells

module _ (i : Image) (w : World) (unit : ℕ) (a : Answer) (knows : List ℕ) (p : Placed) (mount : IsLegalMount i w) (may : MayNote (log_of w) unit a)
    (waits : unanswered_on (log_of w 0) unit ≡ Some p) where
  pub its : IsItsProgram w unit a p
  its = its_program i w unit a p mount may waits

  -- the program, to its unit
  pub told_own : (u : ℕ) → nat_eq unit u ≡ true → told_by (log_of w) u (Decides (noting unit a)) ≡ Some its.program
  told_own u e = tells_it (log_of w) unit u a ∙ ap (λ (b : Bool). if b then unit_event_at (log_of w) u (number_in a) else None) e
      ∙ ap (λ v. unit_event_at (log_of w) v (number_in a)) (sym (eqb-true unit u e)) ∙ its.is_event

  -- and nothing to another
  pub untold : (u : ℕ) → nat_eq unit u ≡ false → told_by (log_of w) u (Decides (noting unit a)) ≡ None
  untold u e = tells_it (log_of w) unit u a ∙ ap (λ (b : Bool). if b then unit_event_at (log_of w) u (number_in a) else None) e

  -- whatever event its number names is on the stripe's line
  pub chunk_noted : (e : UnitEvent) → unit_event_at (log_of w) unit (number_in a) ≡ Some e → e.chunk ≡ p.stripe.line
  chunk_noted e there = ap (λ (x : UnitEvent). x.chunk) (same_Some e its.program (sym there ∙ its.is_event)) ∙ its.chunk

  -- the chunks of another line are as they were
  pub chunk_same : (b : Begun) → begun (log_of w 0) ≡ Some b → (line u : ℕ) → line ≢ p.stripe.line
      → chunk_in (known_image i (after (log_of w) (noting unit a) knows)) line u ≡ chunk_in (known_image i (log_of w)) line u
  chunk_same b begins line u apart = by (nat_eq unit u) refl
    where
      by : (c : Bool) → nat_eq unit u ≡ c
          → chunk_in (known_image i (after (log_of w) (noting unit a) knows)) line u ≡ chunk_in (known_image i (log_of w)) line u
      by true e = beside_after i (log_of w) (noting unit a) knows u line b its.program begins (told_own u e) (λ same. apart (sym same ∙ its.chunk))
      by false e = untold_after i (log_of w) (noting unit a) knows u line b begins (untold u e)

-- The program of a stripe whose turn it is: the unit takes it, it is legal, and what it leaves of
-- the arm.
use Rattle.std.proofs.Common.{◌≡◌, inl, inr, ℕ, suc, ◌+◌, ◌-◌, ◌^◌, ◌<◌, ◌≤◌, Bool, true, false, cond, min, nat_lt, Option, Some, List, [], ◌∷◌, ◌++◌, length, length-append, refl, sym, subst, ap, ◌∙◌, arith}
use Rattle.std.specs.Prelude.{slice_get}
use Rattle.std.specs.List.{filter}
use Rattle.std.specs.Option.{option_and_then}
use Rattle.std.proofs.lemmas.List.Elements.{filter-append}
use Rattle.pblk_model.specs.declared.shape.Shape.{Shape}
use Rattle.pblk_model.specs.Chunk.{Block, Chunk}
use Rattle.pblk_model.specs.ChunkStep.{ChunkCommand, Write, refusal}
use Rattle.pblk_model.specs.Image.{Image}
use Rattle.pblk_model.specs.UnitLog.{UnitEvent}
use Rattle.pblk_laws.specs.LineBlocks.{chunk_in}
use Rattle.pblk_world.specs.Commanding.{MayDo, IsCommand, IsStripe, ended_stripes, ends_program, ends_stripe, has_stopped, is_program, is_reset, was_stopped}
use Rattle.pblk_world.specs.EngineLog.{Begun, Placed, answers, begun, placed_on}
use Rattle.pblk_world.specs.Events.{Does, Logged, Maker, Stripe}
use Rattle.pblk_world.specs.LegalMounts.{IsLegalMount}
use Rattle.pblk_world.specs.World.{World, Logs, knows_engine, log_of, media, unit_events}
use Rattle.core_laws.specs.PlacerOf.{unanswered_on}
use Rattle.unit_port.specs.Unit.{ModelUnit, Takes}
use Rattle.step_laws.specs.NextEvents.{CanDo}
use Rattle.step_laws.proofs.Levels.{ends_by_stop}
use Rattle.step_laws.proofs.Programs.{program_chunk, program_fits}
use Rattle.step_laws.proofs.UnitSteps.{has_begun}
use Rattle.world_laws.proofs.Tellings.{ends}
use Rattle.pblk_model.proofs.Tests.{and_false}
use Rattle.pblk_engine.specs.Arms.{IsArm}
use Rattle.pblk_engine.specs.Ended.{TellsEnded, ended_by}
use Rattle.pblk_engine.specs.declared.commands.Ended.{Ended}
use Rattle.pblk_engine.specs.declared.commands.Ended.TheVariants as how

-- the unit's chunk of a line
pub own_chunk : (i : Image) (logs : Logs) (number line : ℕ) (handed u : ModelUnit) (c : Chunk) → IsArm i logs number handed u
    → chunk_in (media i logs) line number ≡ Some c → slice_get u.media line ≡ Some c
own_chunk i logs number line handed u c arm there = ap (option_and_then (λ (cs : List Chunk). slice_get cs line)) (sym arm.media) ∙ there

-- ---- what a unit may program

module _ (i : Image) (w : World) (stripe : Stripe) (number : ℕ) (handed old : ModelUnit) (mount : IsLegalMount i w)
    (arm : IsArm i (log_of w) number handed old) (p : Placed) (same : p.stripe ≡ stripe) (waits : unanswered_on (log_of w 0) number ≡ Some p)
    (level : ended_stripes (log_of w (suc number)) ≡ length (answers (log_of w 0) number)) where
  pub program_taken : Takes old stripe.chunk (Write stripe.at stripe.blocks)
  program_taken =
      subst (λ (s : Stripe). Takes old s.chunk (Write s.at s.blocks)) same (go (has_stopped (unit_events (log_of w) number)) refl)
    where
      go : (b : Bool) → has_stopped (unit_events (log_of w) number) ≡ b → Takes old p.stripe.chunk (Write p.stripe.at p.stripe.blocks)
      go true was =
          let c = program_chunk i w number p mount waits in
          record {
            found = c.0;
            there = own_chunk i (log_of w) number p.stripe.chunk handed old c.0 arm c.1;
            taken = inr (arm.stopped was);
          }
      go false runs =
          let c = program_fits i w number p mount waits level runs in
          record {
            found = c.0;
            there = own_chunk i (log_of w) number p.stripe.chunk handed old c.0 arm c.1;
            taken = inl (ap (λ (s : Shape). refusal s c.0 (Write p.stripe.at p.stripe.blocks)) arm.shape ∙ c.2);
          }

  pub may_program : (e : UnitEvent) → CanDo i (log_of w) number e → e.chunk ≡ stripe.chunk → e.command ≡ Write stripe.at stripe.blocks
      → MayDo i (log_of w) number e
  may_program e can its_chunk its_command =
      let begins : (b : Begun) × (begun (log_of w 0) ≡ Some b) = has_begun i w number (length (answers (log_of w 0) number)) p mount.legal waits in
      let is : IsStripe (log_of w) number e.chunk stripe.at stripe.blocks = record {
        placed = p;
        earliest = ap (slice_get (placed_on (log_of w 0) number)) level ∙ waits;
        its_chunk = its_chunk ∙ ap (λ (s : Stripe). s.chunk) (sym same);
        its_place = ap (λ (s : Stripe). s.at) (sym same);
        its_blocks = ap (λ (s : Stripe). s.blocks) (sym same);
      } in
      record {
        chunks = can.chunks;
        has_chunks = can.has_chunks;
        event = can.event;
        stopped = can.stopped;
        command = subst (λ (c : ChunkCommand). IsCommand i (log_of w) number can.event.found e.chunk c (begun (log_of w 0))) (sym its_command)
            (subst (λ (o : Option Begun). IsCommand i (log_of w) number can.event.found e.chunk (Write stripe.at stripe.blocks) o) (sym begins.1) is);
      }

-- ---- how many have ended

pub ended_more : (own : List Logged) (l : Logged) (b : Bool) → ends_stripe l ≡ b
    → ended_stripes (own ++ l ∷ []) ≡ ended_stripes own + length {A = Logged} (cond b (l ∷ []) [])
ended_more own l b is =
    ap length (filter-append ends_stripe own (l ∷ [])) ∙ length-append (filter ends_stripe own) (filter ends_stripe (l ∷ []))
    ∙ ap (λ t. ended_stripes own + length {A = Logged} (cond t (l ∷ []) [])) is

module _ (own next : List Logged) (e : UnitEvent) (maker : Maker) (knows : List ℕ) (is : next ≡ own ++ record { event = Does e maker; knows = knows } ∷ [])
    (program : is_program e.command ≡ true) (knew : 0 < knows_engine (record { event = Does e maker; knows = knows })) where
  abbrev logged : Logged
  logged = record { event = Does e maker; knows = knows }

  goes : was_stopped e.outcome ≡ false → ended_stripes next ≡ ended_stripes own + 1
  goes going = ap ended_stripes is ∙ ended_more own logged true (ends logged e refl program going knew)

  stays : was_stopped e.outcome ≡ true → ended_stripes next ≡ ended_stripes own + 0
  stays stopped = ap ended_stripes is
      ∙ ended_more own logged false (and_false (nat_lt 0 (knows_engine logged)) (ends_program e) (ends_by_stop e stopped))

  pub ended_next : (ws_min : ℕ) (ended : Ended) → TellsEnded ws_min ended e.outcome → ended_stripes next ≡ ended_stripes own + ended_by ended
  ended_next ws_min how.Done told = goes (ap was_stopped told)
  ended_next ws_min (how.Failed kept) told = goes (ap was_stopped told.1)
  ended_next ws_min how.Stopped told = stays (ap was_stopped told.1)

-- as far as numbers tell
pub counted_next : (own next was now ended : ℕ) → was ≡ min own (2 ^ 64 - 1) → next ≡ own + ended → (was ≤ 2 ^ 64 - 1 → now ≡ min (was + ended) (2 ^ 64 - 1))
    → now ≡ min next (2 ^ 64 - 1)
counted_next own next was now ended is more added =
    let most : was ≤ 2 ^ 64 - 1 = omega (arith, is) in
    omega (arith, is, more, added most)

-- a program isn't a reset
pub no_reset : (e : UnitEvent) (at : ℕ) (blocks : List Block) → e.command ≡ Write at blocks
    → is_reset e.command ≡ true → was_stopped e.outcome ≡ true
no_reset e at blocks is reset = absurd (no (sym (ap is_reset is) ∙ reset))
  where
    no : false ≡ true → ⊥
    no same = cc

-- An arm that met a note by which the worker's stripe was placed: it programs the stripe at its
-- turn.
use Rattle.std.proofs.Common.{◌≡◌, ℕ, suc, ◌+◌, ◌-◌, ◌^◌, ◌<◌, ◌≤◌, true, min, Some, List, [], ◌∷◌, ◌++◌, length, refl, sym, subst, ap, ap₂, ◌∙◌, arith}
use Rattle.std.specs.Prelude.{map, slice_get}
use Rattle.atomic_table.specs.Seated.{TableId}
use Rattle.pblk_model.specs.ChunkStep.{Write}
use Rattle.pblk_model.specs.Image.{Image}
use Rattle.pblk_model.specs.UnitLog.{UnitEvent}
use Rattle.pblk_world.specs.AtRest.{AreResetsNoted}
use Rattle.pblk_world.specs.Commanding.{MayDo, ended_stripes, is_reset, was_stopped}
use Rattle.pblk_world.specs.EngineLog.{Begun, Placed, answers, begun, placements, turn as turn_of}
use Rattle.pblk_world.specs.Events.{Does, Logged, Maker, Stripe}
use Rattle.pblk_world.specs.Legal.{IsAllowed}
use Rattle.pblk_world.specs.LegalMounts.{IsLegalMount}
use Rattle.pblk_world.specs.World.{World, Logs, log_of}
use Rattle.core_laws.specs.PlacerOf.{unanswered_on}
use Rattle.pblk_core.specs.Filling.{Filling}
use Rattle.pblk_core.specs.Stands.{turn_told}
use Rattle.pblk_core.proofs.Laws.{turn_stays}
use Rattle.step_laws.specs.NextEvents.{CanDo}
use Rattle.step_laws.proofs.UnitSteps.{engine_longer, has_begun}
use Rattle.unit_port.specs.Unit.{ModelUnit, Takes}
use Rattle.chronicle.specs.Views.{Past}
use Rattle.chronicle.specs.Handles.{AuthorView}
use Rattle.chronicle.specs.Prefixes.{Prefixes, logs_of, longer_of, naming, with_event, ArePrefixes, AreLegalLogs}
use Rattle.chronicle.proofs.PrefixLemmas.{named_length}
use Rattle.write_ring.specs.declared.view.Key.{Key}
use Rattle.pblk_engine.specs.Arms.{IsArm, IsArmOf, WasGiven, arm_view, last_done, last_event}
use Rattle.pblk_engine.specs.Placements.{IsPlacedAs}
use Rattle.pblk_engine.specs.Deeds.{HasDone, HasProgrammed}
use Rattle.pblk_engine.specs.Workers.{WorkerView, last_made}
use Rattle.pblk_engine.specs.Ended.{TellsEnded, ended_by}
use Rattle.pblk_engine.specs.Mounts.{IsMounted}
use Rattle.pblk_engine.specs.declared.commands.Ended.{Ended}
use Rattle.pblk_engine.proofs.ArmNext.{can, has_done, last, own_is, unit_is}
use Rattle.pblk_engine.proofs.Level.{waits_there}
use Rattle.pblk_engine.proofs.Programs.{counted_next, ended_next, may_program, no_reset, program_taken}

-- what a mount and legal logs are
pub legal_mount : (past : Past) (key : Key) (handed : List ModelUnit) (wear : List (List ℕ)) (known : Prefixes) → IsMounted past key handed wear
    → (legal : AreLegalLogs past.image known) → IsLegalMount past.image legal.world
legal_mount past key handed wear known mounted legal = record { accepted = mounted.accepted; fit = mounted.fit; legal = legal.legal }

-- a stripe was placed by a longer log, too
pub placed_more : (early late : Prefixes) (f : Filling) → ArePrefixes early late → IsPlacedAs (logs_of early 0) f → IsPlacedAs (logs_of late 0) f
placed_more early late f more is =
    let rest = more.each 0 in
    let stays = turn_stays (logs_of early 0) rest.0 is.number is.placed is.there in
    record {
      number = is.number;
      placed = is.placed;
      there = subst (λ (xs : List Logged). slice_get (placements xs) is.number ≡ Some is.placed) rest.1 stays.0;
      stripe = is.stripe;
      turn = ap (λ (xs : List Logged). turn_told xs is.placed) (sym rest.1) ∙ stays.1 ∙ is.turn;
    }

module _ (chronicle : TableId) (past : Past) (key : Key) (handed : List ModelUnit) (wear : List (List ℕ)) (mounted : IsMounted past key handed wear)
    (a : AuthorView) (number : ℕ) (u : ModelUnit) (worn : List ℕ) (ended : ℕ) (is : IsArmOf chronicle past handed wear a number u worn ended)
    (f : Filling) (on : f.stripe.unit ≡ number) (placed : IsPlacedAs (logs_of a.known 0) f)
    (turn : ended_stripes (logs_of a.known (suc number)) ≡ f.turn) (below : f.turn < 2 ^ 64 - 1) where
  abbrev i : Image
  i = past.image

  abbrev w : World
  w = is.unit.legal.world

  abbrev p : Placed
  p = placed.placed

  logs_are : log_of w ≡ logs_of a.known
  logs_are = is.unit.legal.logs

  mount : IsLegalMount i w
  mount = legal_mount past key handed wear a.known mounted is.unit.legal

  arm : IsArm i (log_of w) number is.unit.before u
  arm = subst (λ (l : Logs). IsArm i l number is.unit.before u) (sym logs_are) is.unit.arm

  there : slice_get (placements (log_of w 0)) placed.number ≡ Some p
  there = ap (λ (l : Logs). slice_get (placements (l 0)) placed.number) logs_are ∙ placed.there

  its_turn : turn_told (log_of w 0) p ≡ f.turn
  its_turn = ap (λ (l : Logs). turn_told (l 0) p) logs_are ∙ placed.turn

  unit_same : p.stripe.unit ≡ number
  unit_same = ap (λ (s : Stripe). s.unit) placed.stripe ∙ on

  facts : (unanswered_on (log_of w 0) p.stripe.unit ≡ Some p)
      × (ended_stripes (log_of w (suc p.stripe.unit)) ≡ length (answers (log_of w 0) p.stripe.unit))
      × (turn_of (log_of w 0) p ≡ ended_stripes (log_of w (suc p.stripe.unit)))
  facts = waits_there i w placed.number p mount there
      (its_turn ∙ as_told f.turn (ended_stripes (logs_of a.known (suc number))) turn below
      ∙ ap₂ (λ (l : Logs) n. min (ended_stripes (l (suc n))) (2 ^ 64 - 1)) (sym logs_are) (sym unit_same))
      (subst (λ n. n < 2 ^ 64 - 1) (sym its_turn) below)
    where
      as_told : (n own : ℕ) → own ≡ n → n < 2 ^ 64 - 1 → n ≡ min own (2 ^ 64 - 1)
      as_told n own same low = omega (arith, same, low)

  waits : unanswered_on (log_of w 0) number ≡ Some p
  waits = subst (λ n. unanswered_on (log_of w 0) n ≡ Some p) unit_same facts.0

  level : ended_stripes (log_of w (suc number)) ≡ length (answers (log_of w 0) number)
  level = subst (λ n. ended_stripes (log_of w (suc n)) ≡ length (answers (log_of w 0) n)) unit_same facts.1

  pub taken : Takes u f.stripe.chunk (Write f.stripe.at f.stripe.blocks)
  taken = program_taken i w f.stripe number is.unit.before u mount arm p placed.stripe waits level

  -- the mount had begun
  pub some_log : 0 < length (logs_of a.known 0)
  some_log =
      let begins : (b : Begun) × (begun (log_of w 0) ≡ Some b) = has_begun i w number (length (answers (log_of w 0) number)) p mount.legal waits in
      subst (λ (l : Logs). 0 < length (l 0)) logs_are (engine_longer w begins.0 begins.1)

  module _ (new : ModelUnit) (how : Ended) (worker count : ℕ)
      (given : WasGiven u f.stripe.chunk (Write f.stripe.at f.stripe.blocks) (TellsEnded f.shape.ws_min how) new) where
    abbrev e : UnitEvent
    e = record { chunk = f.stripe.chunk; command = Write f.stripe.at f.stripe.blocks; outcome = given.outcome }

    abbrev maker : Maker
    maker = record { worker = worker; made = count }

    last_is : last_event new ≡ e
    last_is = last chronicle past handed wear a number u new worn is.unit f.stripe.chunk (Write f.stripe.at f.stripe.blocks) (TellsEnded f.shape.ws_min how)
        given worker count

    pub allowed : IsAllowed past.image (suc number) (last_done new worker count) (logs_of a.known)
    allowed = subst (λ (x : UnitEvent). MayDo i (logs_of a.known) number x) (sym last_is)
        (subst (λ (l : Logs). MayDo i l number e) logs_are
        (may_program i w f.stripe number is.unit.before u mount arm p placed.stripe waits level e
        (subst (λ (l : Logs). CanDo i l number e) (sym logs_are)
        (can chronicle past handed wear a number u new worn is.unit f.stripe.chunk (Write f.stripe.at f.stripe.blocks)
        (TellsEnded f.shape.ws_min how) given worker
        count)) refl refl))

    pub resets_none : is_reset (last_event new).command ≡ true → was_stopped (last_event new).outcome ≡ true
    resets_none = subst (λ (x : UnitEvent). is_reset x.command ≡ true → was_stopped x.outcome ≡ true) (sym last_is)
        (no_reset e f.stripe.at f.stripe.blocks refl)

    pub programmed : (next : AuthorView) → next ≡ record a { known = with_event a.known (suc number) (last_done new worker count) } → (now : List ℕ)
        → now ≡ worn
        → AreLegalLogs past.image next.known → ArePrefixes past.logs next.known → AreResetsNoted (logs_of next.known) → (count_now : ℕ)
        → (ended ≤ 2 ^ 64 - 1 → count_now ≡ min (ended + ended_by how) (2 ^ 64 - 1)) → IsArmOf chronicle past handed wear next number new now count_now
    programmed next appended now same legal begun noted count_now counts =
        let own : logs_of next.known (suc number) ≡ logs_of a.known (suc number) ++ naming a.known (Does e maker) ∷ [] =
        own_is chronicle past handed wear a number u new worn is.unit f.stripe.chunk (Write f.stripe.at f.stripe.blocks)
        (TellsEnded f.shape.ws_min how) given worker
        count next appended in
        let more : ended_stripes (logs_of next.known (suc number)) ≡ ended_stripes (logs_of a.known (suc number)) + ended_by how =
        ended_next (logs_of a.known (suc number)) (logs_of next.known (suc number)) e maker (map length a.known) own refl
        (subst (λ n. 0 < n) (sym (named_length a.known (Does e maker) 0)) some_log) f.shape.ws_min how given.told in
        record {
          unit = unit_is chronicle past handed wear a number u new worn is.unit f.stripe.chunk (Write f.stripe.at f.stripe.blocks)
              (TellsEnded f.shape.ws_min how) given worker count next appended now same legal begun;
          noted = noted;
          makers = ap (λ (x : AuthorView). x.makers) appended ∙ is.makers;
          spare = ap (λ (x : AuthorView). x.spare) appended ∙ is.spare;
          counted = counted_next (ended_stripes (logs_of a.known (suc number))) (ended_stripes (logs_of next.known (suc number))) ended count_now
              (ended_by how) is.counted more counts;
        }

    pub has_programmed : (next : AuthorView) → next ≡ record a { known = with_event a.known (suc number) (last_done new worker count) } → (before : Prefixes)
        → (was now : WorkerView) → f ≡ was.stripe → worker ≡ was.number → count ≡ length was.made
        → now ≡ record was { known = longer_of was.known next.known; made = was.made ++ last_made number next.known new ∷ [] } → ArePrefixes was.known now.known
        → ArePrefixes next.known now.known
        → HasProgrammed (arm_view number before u) (arm_view number next.known new) was now a.known how
    has_programmed next appended before was now same its_worker its_count is_now keeps learns = record {
      done = subst (λ (x : Filling). HasDone (arm_view number before u) (arm_view number next.known new) was now a.known x.stripe.chunk
          (Write x.stripe.at x.stripe.blocks) (TellsEnded x.shape.ws_min how)) same
          (has_done chronicle past handed wear a number u new worn is.unit f.stripe.chunk (Write f.stripe.at f.stripe.blocks)
          (TellsEnded f.shape.ws_min how) given
          worker count next appended before was now its_worker its_count is_now keeps learns);
      begun = some_log;
      turn = turn ∙ ap (λ (x : Filling). x.turn) same;
      below = subst (λ (x : Filling). x.turn < 2 ^ 64 - 1) same below;
    }

-- The reset of a chunk that the engine names: the unit takes it, and it is legal.
use Rattle.std.proofs.Common.{◌≡◌, ◌⊎◌, inl, inr, ℕ, suc, ◌+◌, ◌-◌, ◌^◌, ◌==◌, ◌&&◌, true, false, min, nat_lt, None, Option, Some, List, [], ◌∷◌, ◌++◌, length, refl, sym, subst, ap, ◌∙◌, arith}
use Rattle.std.specs.Prelude.{slice_get, Err, Result}
use Rattle.std.specs.List.{Contains, list_any}
use Rattle.std.specs.Option.{option_and_then}
use Rattle.std.proofs.Math.Path.{fun_ext}
use Rattle.std.proofs.lemmas.Option.{same_Some}
use Rattle.atomic_table.specs.Seated.{TableId}
use Rattle.pblk_model.specs.declared.chunk.ChunkState.{ChunkState}
use Rattle.pblk_model.specs.declared.chunk.ChunkState.TheVariants as states
use Rattle.pblk_model.specs.Chunk.{Chunk}
use Rattle.pblk_model.specs.ChunkStep.{ChunkCommand, Reset}
use Rattle.pblk_model.specs.Found.{IsUsed}
use Rattle.pblk_model.specs.Image.{Image}
use Rattle.pblk_model.specs.UnitLog.{Stopped, UnitEvent, UnitOutcome}
use Rattle.pblk_laws.specs.LineBlocks.{chunk_in}
use Rattle.pblk_world.specs.AtRest.{AreResetsNoted}
use Rattle.pblk_world.specs.Commanding.{IsCommand, IsGivenUp, MayDo, ended_stripes, ends_program, ends_stripe, has_stopped, is_reset, is_stopped_reset, was_stopped}
use Rattle.pblk_world.specs.EngineLog.{Begun, begun}
use Rattle.pblk_world.specs.Events.{Decides, Does, Event, Logged, Maker}
use Rattle.pblk_world.specs.Legal.{IsAllowed}
use Rattle.pblk_world.specs.LegalMounts.{IsLegalMount}
use Rattle.pblk_world.specs.Lines.{is_given_up}
use Rattle.pblk_world.specs.World.{World, Logs, knows_engine, log_of, media, unit_events}
use Rattle.pblk_core.specs.Resets.{IsToReset, is_used_state}
use Rattle.core_laws.proofs.Growing.{any_weaker}
use Rattle.pblk_model.proofs.Lists.{all_of}
use Rattle.pblk_model.proofs.Parts.{is_in}
use Rattle.pblk_model.proofs.Tests.{and_false, second_of}
use Rattle.step_laws.specs.NextEvents.{CanDo}
use Rattle.step_laws.proofs.GivenUp.{reset_taken, some_given}
use Rattle.step_laws.proofs.Levels.{ends_by_command}
use Rattle.world_laws.proofs.EarlierLogs.{some_begun}
use Rattle.world_laws.proofs.NotedChunks.{used_or_stopped}
use Rattle.unit_port.specs.Unit.{ModelUnit, Takes, TellsDone}
use Rattle.unit_port.specs.declared.unit.UnitErr.{UnitErr}
use Rattle.unit_port.specs.declared.unit.UnitErr.TheVariants as causes
use Rattle.chronicle.specs.Views.{Past}
use Rattle.chronicle.specs.Handles.{AuthorView}
use Rattle.chronicle.specs.Prefixes.{Prefixes, logs_of, longer_of, naming, with_event, ArePrefixes, AreLegalLogs}
use Rattle.chronicle.proofs.Rests.{right_stays}
use Rattle.write_ring.specs.declared.view.Key.{Key}
use Rattle.pblk_engine.specs.Arms.{IsArm, IsArmOf, IsUnitOf, WasGiven, arm_view, last_done, last_event}
use Rattle.pblk_engine.specs.Mounts.{IsMounted}
use Rattle.pblk_engine.specs.Workers.{Made, last_made}
use Rattle.pblk_engine.specs.Resets.{IsLastOf, IsResettingOf, WasReset}
use Rattle.pblk_engine.proofs.ArmNext.{can, keeps, known_is, last, others_are, own_is, unit_is}
use Rattle.pblk_engine.proofs.Lent.{maker_of}
use Rattle.pblk_engine.proofs.Meetings.{same_begun, same_legal, unit_met, unit_numbers}
use Rattle.pblk_engine.proofs.NotedCommands.{made_now, noted_next}
use Rattle.pblk_engine.proofs.ArmPrograms.{legal_mount}
use Rattle.pblk_engine.proofs.Programs.{ended_more, own_chunk}

-- what is known together with one who knows more is what that one knows
pub same_logs : (a b : Prefixes) → ArePrefixes a b → logs_of (longer_of a b) ≡ logs_of b
same_logs a b less = fun_ext (λ author. right_stays a b author (less.each author))

is_used : (state : ChunkState) → is_used_state state ≡ true → IsUsed state
is_used states.Free e = absurd cc
is_used states.Open e = tt
is_used states.Closed e = tt
is_used states.Offline e = absurd cc

resets_stop : (line : ℕ) (events : List UnitEvent) → list_any (is_stopped_reset line) events ≡ true → has_stopped events ≡ true
resets_stop line events was =
    any_weaker (is_stopped_reset line) (λ (e : UnitEvent). was_stopped e.outcome) events
    (all_of (λ (e : UnitEvent). is_stopped_reset line e ≡ true → was_stopped e.outcome ≡ true)
    (λ e. second_of ((e.chunk == line) && is_reset e.command) (was_stopped e.outcome)) events) was

module _ (i : Image) (w : World) (number line : ℕ) (handed old : ModelUnit) (mount : IsLegalMount i w) (arm : IsArm i (log_of w) number handed old)
    (noted : AreResetsNoted (log_of w)) (is : IsToReset i (log_of w) line number) where
  begins : (b : Begun) × (begun (log_of w 0) ≡ Some b)
  begins = some_begun i w mount.legal (some_given (log_of w 0) line is.given_up)

  -- the chunk, as it stands on the drive
  found : (d : Chunk) × (chunk_in (media i (log_of w)) line number ≡ Some d)
      × (IsUsed d.state ⊎ (list_any (is_stopped_reset line) (unit_events (log_of w) number) ≡ true))
  found = used_or_stopped i w mount.legal begins.0 begins.1 number line noted is.chunk is.is_chunk (is_used is.chunk.state is.used)

  there : slice_get old.media line ≡ Some found.0
  there = own_chunk i (log_of w) number line handed old found.0 arm found.1

  pub takes_reset : Takes old line Reset
  takes_reset = record {
    found = found.0;
    there = there;
    taken = elim found.2 [
      | inl used ↦ inl (reset_taken found.0.state used)
      | inr stopped ↦ inr (arm.stopped (resets_stop line (unit_events (log_of w) number) stopped))
    ];
  }

  pub may_reset : (e : UnitEvent) → CanDo i (log_of w) number e → e.chunk ≡ line → e.command ≡ Reset → MayDo i (log_of w) number e
  may_reset e can its_chunk its_command =
      let same : found.0 ≡ can.event.found =
      same_Some found.0 can.event.found (sym found.1
      ∙ ap (option_and_then (λ (cs : List Chunk). slice_get cs line)) can.has_chunks
      ∙ ap (slice_get can.chunks) (sym its_chunk) ∙ can.event.there) in
      let given : IsGivenUp (log_of w) number can.event.found e.chunk = record {
        line = ap (λ n. is_given_up (log_of w 0) n) its_chunk ∙ is.given_up;
        used = subst (λ (n : ℕ). IsUsed can.event.found.state ⊎ (list_any (is_stopped_reset n) (unit_events (log_of w) number) ≡ true)) (sym its_chunk)
            (subst (λ (c : Chunk). IsUsed c.state ⊎ (list_any (is_stopped_reset line) (unit_events (log_of w) number) ≡ true)) same found.2);
      } in
      record {
        chunks = can.chunks;
        has_chunks = can.has_chunks;
        event = can.event;
        stopped = can.stopped;
        command = subst (λ (c : ChunkCommand). IsCommand i (log_of w) number can.event.found e.chunk c (begun (log_of w 0))) (sym its_command)
            (subst (λ (o : Option Begun). IsCommand i (log_of w) number can.event.found e.chunk Reset o) (sym begins.1) given);
      }

-- ---- of an arm that met the engine's note

module _ (chronicle : TableId) (past : Past) (key : Key) (handed : List ModelUnit) (wear : List (List ℕ)) (mounted : IsMounted past key handed wear)
    (a : AuthorView) (number : ℕ) (u : ModelUnit) (worn : List ℕ) (ended : ℕ) (is : IsArmOf chronicle past handed wear a number u worn ended)
    (line : ℕ) (given_up : IsToReset past.image (logs_of a.known) line number) where
  abbrev w : World
  w = is.unit.legal.world

  logs_are : log_of w ≡ logs_of a.known
  logs_are = is.unit.legal.logs

  mount : IsLegalMount past.image w
  mount = legal_mount past key handed wear a.known mounted is.unit.legal

  arm : IsArm past.image (log_of w) number is.unit.before u
  arm = subst (λ (l : Logs). IsArm past.image l number is.unit.before u) (sym logs_are) is.unit.arm

  noted : AreResetsNoted (log_of w)
  noted = subst AreResetsNoted (sym logs_are) is.noted

  to_reset : IsToReset past.image (log_of w) line number
  to_reset = subst (λ (l : Logs). IsToReset past.image l line number) (sym logs_are) given_up

  pub taken : Takes u line Reset
  taken = takes_reset past.image w number line is.unit.before u mount arm noted to_reset

  module _ (new : ModelUnit) (tells : UnitOutcome → Type 0) (given : WasGiven u line Reset tells new) (worker count : ℕ) where
    abbrev e : UnitEvent
    e = record { chunk = line; command = Reset; outcome = given.outcome }

    abbrev maker : Maker
    maker = record { worker = worker; made = count }

    last_is : last_event new ≡ e
    last_is = last chronicle past handed wear a number u new worn is.unit line Reset tells given worker count

    pub reset_allowed : IsAllowed past.image (suc number) (last_done new worker count) (logs_of a.known)
    reset_allowed = subst (λ (x : UnitEvent). MayDo past.image (logs_of a.known) number x) (sym last_is)
        (subst (λ (l : Logs). MayDo past.image l number e) logs_are
        (may_reset past.image w number line is.unit.before u mount arm noted to_reset e
        (subst (λ (l : Logs). CanDo past.image l number e) (sym logs_are)
        (can chronicle past handed wear a number u new worn is.unit line Reset tells given worker count)) refl refl))

    module _ (next : AuthorView) (appended : next ≡ record a { known = with_event a.known (suc number) (last_done new worker count) }) where
      pub unit_reset : (now : List ℕ) → now ≡ worn → AreLegalLogs past.image next.known → ArePrefixes past.logs next.known
          → IsUnitOf chronicle past handed wear next number new now
      unit_reset now same legal begun =
          unit_is chronicle past handed wear a number u new worn is.unit line Reset tells given worker count next appended now same legal begun

      -- no stripe ended
      pub counted_reset : ended ≡ min (ended_stripes (logs_of next.known (suc number))) (2 ^ 64 - 1)
      counted_reset =
          let l : Logged = naming a.known (Does e maker) in
          let own : logs_of next.known (suc number) ≡ logs_of a.known (suc number) ++ l ∷ [] =
          own_is chronicle past handed wear a number u new worn is.unit line Reset tells given worker count next appended in
          let none : ends_stripe l ≡ false = and_false (nat_lt 0 (knows_engine l)) (ends_program e) (ends_by_command e refl) in
          let same_count : ended_stripes (logs_of next.known (suc number)) ≡ ended_stripes (logs_of a.known (suc number)) + 0 =
          ap ended_stripes own ∙ ended_more (logs_of a.known (suc number)) l false none in
          is.counted ∙ ap (λ n. min n (2 ^ 64 - 1)) (omega (arith, same_count))

-- ---- once the reset is noted by the unit's author

module _ (chronicle : TableId) (past : Past) (key : Key) (handed : List ModelUnit) (wear : List (List ℕ)) (mounted : IsMounted past key handed wear)
    (a : AuthorView) (number : ℕ) (u : ModelUnit) (worn : List ℕ) (ended : ℕ) (is : IsArmOf chronicle past handed wear a number u worn ended)
    (line : ℕ) (given_up : IsToReset past.image (logs_of a.known) line number) (new : ModelUnit) (result : Result (Unit {0}) UnitErr)
    (given : WasGiven u line Reset (TellsDone result) new) (worker count : ℕ) (next : AuthorView)
    (appended : next ≡ record a { known = with_event a.known a.number (last_done new worker count) }) where
  abbrev its_maker : Maker
  its_maker = record { worker = worker; made = count }

  abbrev became : UnitEvent
  became = record { chunk = line; command = Reset; outcome = given.outcome }

  its_own : next ≡ record a { known = with_event a.known (suc number) (last_done new worker count) }
  its_own = appended ∙ ap (λ n. record a { known = with_event a.known n (last_done new worker count) }) is.unit.numbered

  its_log : logs_of next.known (suc number) ≡ logs_of a.known (suc number) ++ naming a.known (Does became its_maker) ∷ []
  its_log = own_is chronicle past handed wear a number u new worn is.unit line Reset (TellsDone result) given worker count next its_own

  pub more_known : ArePrefixes a.known next.known
  more_known = keeps chronicle past handed wear a number u new worn is.unit line Reset (TellsDone result) given worker count next its_own

  pub last_of : IsLastOf next.known number new worker count
  last_of =
      let made = made_now a.known next.known number worker count became its_log in
      record {
        logged = made.logged;
        there = made.there;
        event = made.event ∙ ap (λ (e : UnitEvent). Does e its_maker)
            (sym (last chronicle past handed wear a number u new worn is.unit line Reset (TellsDone result) given worker count));
      }

  pub unit_of : (now : List ℕ) → now ≡ worn → AreLegalLogs next.past.image next.known → ArePrefixes next.past.logs next.known
      → IsUnitOf chronicle past handed wear next number new now
  unit_of now same legal begun =
      let over : next.past ≡ past = ap (λ (x : AuthorView). x.past) appended ∙ is.unit.over in
      unit_reset chronicle past key handed wear mounted a number u worn ended is line given_up new (TellsDone result) given worker count next its_own now same
      (same_legal past next.past next.known over legal) (same_begun past next.past next.known over begun)

  -- whose author numbers the worker's commands now
  pub reset_of : (its : AuthorView) → its ≡ record next { makers = its.makers; spare = its.spare } → its.makers ≡ maker_of worker (count + 1) ∷ []
      → its.spare ≡ None → (now : List ℕ) → now ≡ worn → AreLegalLogs next.past.image next.known → ArePrefixes next.past.logs next.known
      → IsResettingOf chronicle past handed wear its number new now ended
  reset_of its same makers spare now its_wear legal begun = record {
    unit = unit_numbers chronicle past handed wear number new now next its (unit_of now its_wear legal begun) same;
    maker = its_maker;
    last = subst (λ (x : AuthorView). IsLastOf x.known number new worker count) (sym same) last_of;
    makers = makers;
    spare = spare;
    counted = counted_reset chronicle past key handed wear mounted a number u worn ended is line given_up new (TellsDone result) given worker count next its_own
        ∙ ap (λ (x : AuthorView). min (ended_stripes (logs_of x.known (suc number))) (2 ^ 64 - 1)) (sym same);
  }

  -- where it was stopped, the engine need not note it
  pub stopped_noted : result ≡ Err causes.Stopped → AreResetsNoted (logs_of next.known)
  stopped_noted stopped =
      let told : (k : ℕ) × (given.outcome ≡ Stopped k) = subst (λ (r : Result (Unit {0}) UnitErr). TellsDone r given.outcome) stopped given.told in
      noted_next past.image a.known next.known (suc number) became its_maker is.unit.legal its_log
      (others_are chronicle past handed wear a number u new worn is.unit line Reset (TellsDone result) given worker count next its_own)
      (λ reset. ap was_stopped told.1) is.noted

  pub done_reset : (early before : Prefixes) → a.known ≡ before
      → WasReset (arm_view number early u) (arm_view number next.known new) worker count before line result
  done_reset early before known = record {
    outcome = given.outcome;
    told = given.told;
    steps = given.steps;
    known = known_is chronicle past handed wear a number u new worn is.unit line Reset (TellsDone result) given worker count next its_own
        ∙ ap (λ (k : Prefixes). with_event k (suc number) (Does became its_maker)) known;
  }

-- ---- once the engine has noted it

abbrev maker_in : Event → Maker
maker_in (Decides e) = maker_of 0 0
maker_in (Does e maker) = maker

-- a unit's last event has one maker
pub same_maker : (known : Prefixes) (number : ℕ) (u : ModelUnit) (worker count other n : ℕ) → IsLastOf known number u worker count
    → IsLastOf known number u other n → maker_of worker count ≡ maker_of other n
same_maker known number u worker count other n one two =
    let same : one.logged ≡ two.logged = same_Some one.logged two.logged (sym one.there ∙ two.there) in
    ap maker_in (sym one.event ∙ ap (λ (l : Logged). l.event) same ∙ two.event)

module _ (chronicle : TableId) (past : Past) (handed : List ModelUnit) (wear : List (List ℕ)) (number : ℕ) (u : ModelUnit) (worn : List ℕ) (ended : ℕ)
    (a new : AuthorView) (note : Prefixes) (is : IsResettingOf chronicle past handed wear a number u worn ended)
    (met : new ≡ record a { known = longer_of a.known note })
    (owns : (author : ℕ) → Contains a.owned author → logs_of new.known author ≡ logs_of a.known author) where
  its_known : new.known ≡ longer_of a.known note
  its_known = ap (λ (x : AuthorView). x.known) met

  pub own_stays : logs_of new.known (suc number) ≡ logs_of a.known (suc number)
  own_stays = owns (suc number) (subst (λ xs. Contains xs (suc number)) (sym is.unit.owned) (is_in (suc number ∷ []) 0 (suc number) refl))

  pub ends_noted : AreResetsNoted (logs_of note) → ArePrefixes a.known note → AreResetsNoted (logs_of new.known)
  ends_noted noted less = subst AreResetsNoted (sym (ap logs_of its_known ∙ same_logs a.known note less)) noted

  -- once the author gave back what was lent
  pub ends_arm : (back : AuthorView) → back ≡ record new { makers = []; spare = None } → AreResetsNoted (logs_of note) → ArePrefixes a.known note
      → AreLegalLogs new.past.image new.known → ArePrefixes new.past.logs new.known → IsArmOf chronicle past handed wear back number u worn ended
  ends_arm back gives noted less legal begun = subst (λ (x : AuthorView). IsArmOf chronicle past handed wear x number u worn ended) (sym gives) (record {
    unit = unit_numbers chronicle past handed wear number u worn new (record new { makers = []; spare = None })
        (unit_met chronicle past handed wear number u worn a new is.unit (met ∙ ap (λ k. record a { known = k }) (sym its_known)) own_stays legal begun) refl;
    noted = ends_noted noted less;
    makers = refl;
    spare = refl;
    counted = is.counted ∙ ap (λ (xs : List Logged). min (ended_stripes xs) (2 ^ 64 - 1)) (sym own_stays);
  })

  pub last_stays : (worker count : ℕ) → IsLastOf a.known number u worker count → IsLastOf new.known number u worker count
  last_stays worker count last = record {
    logged = last.logged;
    there = ap (λ (xs : List Logged). slice_get xs (length xs - 1)) own_stays ∙ last.there;
    event = last.event;
  }

  pub made_stays : last_made number new.known u ≡ last_made number a.known u
  made_stays = ap (λ (xs : List Logged). made_of (length xs - 1)) own_stays
    where
      made_of : ℕ → Made
      made_of n = record { unit = number; number = n; event = last_event u }

  -- it numbers the next command of the worker that made the reset
  pub numbers_its : (worker count : ℕ) → IsLastOf a.known number u worker count → new.makers ≡ maker_of worker (count + 1) ∷ []
  numbers_its worker count last =
      ap (λ (x : AuthorView). x.makers) met ∙ is.makers
      ∙ ap (λ (m : Maker). maker_of m.worker (m.made + 1) ∷ []) (same_maker a.known number u is.maker.worker is.maker.made worker count is.last last)

  pub names_none : new.spare ≡ None
  names_none = ap (λ (x : AuthorView). x.spare) met ∙ is.spare

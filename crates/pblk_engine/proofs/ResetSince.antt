-- The engine learns of a reset that wasn't stopped, and notes it.
use Rattle.std.proofs.Common.{◌≡◌, ◌≢◌, ℕ, ◌+◌, ◌-◌, ◌<◌, ◌==◌, suc, Bool, true, false, if◌then◌else◌, None, Some, List, [], ◌∷◌, ◌++◌, length, map, take, refl, sym, subst, ap, ap₂, ◌∙◌, arith, length-append, length-set}
use Rattle.std.specs.Prelude.{slice_get, Result, Ok, Err}
use Rattle.std.specs.List.{Contains, filter_map, range_with_len}
use Rattle.std.specs.Option.{option_map}
use Rattle.std.proofs.lemmas.List.Elements.{filter_map-append}
use Rattle.std.proofs.Math.Seq.{take-append_seam}
use Rattle.std.proofs.lemmas.Bool.{eqb-true}
use Rattle.std.proofs.lemmas.Option.{same_Some}
use mathlib.Core.List.{IsPrefix}
use Rattle.pblk_model.specs.declared.chunk.ChunkState.{ChunkState}
use Rattle.pblk_model.specs.Chunk.{Chunk}
use Rattle.pblk_model.specs.ChunkStep.{Reset}
use Rattle.pblk_model.specs.Image.{Image}
use Rattle.pblk_model.specs.Shape.{units}
use Rattle.pblk_model.specs.declared.shape.Shape.{Shape}
use Rattle.pblk_model.specs.UnitLog.{UnitEvent, UnitOutcome, Stopped, after_outcome}
use Rattle.pblk_model.proofs.Lists.{among_contained, among_more}
use Rattle.pblk_model.proofs.Maps.{given_at}
use Rattle.pblk_model.proofs.Numbers.{fun_same}
use Rattle.pblk_model.proofs.Parts.{contained_among, get_last}
use Rattle.pblk_model.proofs.Tests.{same_number}
use Rattle.pblk_laws.specs.LineBlocks.{chunk_in}
use Rattle.pblk_world.specs.Answering.{IsDoneReset}
use Rattle.pblk_world.specs.AtRest.{AreResetsNoted, logs_at}
use Rattle.pblk_world.specs.Commanding.{has_stopped}
use Rattle.pblk_world.specs.EngineLog.{is_opened, life_of, named_by, named_events}
use Rattle.pblk_world.specs.Events.{EngineEvent, ResetDone, Decides, Does, Logged, Step}
use Rattle.pblk_world.specs.Legal.{IsAllowed, MayDecide}
use Rattle.pblk_world.specs.LegalMounts.{IsLegalMount}
use Rattle.pblk_world.specs.Lines.{known_image, strays_of}
use Rattle.pblk_world.specs.Orders.{NoneToFree}
use Rattle.pblk_world.specs.World.{World, Logs, log_of, media, unit_event_of, unit_events}
use Rattle.pblk_world.proofs.LinesLemmas.{not_given_up}
use Rattle.pblk_world.proofs.WorldLemmas.{log_elsewhere, log_here}
use Rattle.core_laws.specs.Stepping.{after}
use Rattle.world_laws.specs.SameTold.{AreSameNamed, AreSameTold}
use Rattle.world_laws.specs.UnitChunks.{first_events}
use Rattle.world_laws.proofs.Deeds.{IsDeed, deed}
use Rattle.world_laws.proofs.GrownLogs.{at_named}
use Rattle.world_laws.proofs.NotedChunks.{as_known}
use Rattle.step_laws.specs.Whole.{after_unit, engine_step, knows_all, next_event, unit_step}
use Rattle.step_laws.proofs.EngineSteps.{decided_legal, engine_logs}
use Rattle.step_laws.proofs.NotedSteps.{noted_reset}
use Rattle.step_laws.proofs.UnitStays.{known_stays, named_stays, told_stays}
use Rattle.step_laws.proofs.UnitSteps.{chunk_now, is_new, unit_log}
use Rattle.write_window.specs.Window as window
use Rattle.pblk_core.specs.Keeping.{KeepsStripes}
use Rattle.pblk_core.specs.Mounts.{CollectsAfterAnswer, StandsAfterAnswer}
use Rattle.pblk_core.specs.Named.{named, pad_of}
use Rattle.pblk_core.specs.Resets.{IsResetTo, IsToReset}
use Rattle.pblk_core.specs.declared.target_core.Core.{Core}
use Rattle.pblk_core.specs.declared.work.Work.TheVariants as works
use Rattle.pblk_core.proofs.NamedReset.{to_reset}
use Rattle.pblk_core.proofs.StandsReset.{named_in}
use Rattle.chronicle.specs.Handles.{AuthorView}
use Rattle.chronicle.specs.Prefixes.{Prefixes, AreLegalLogs, ArePrefixes, logs_of, longer_of, naming, with_event}
use Rattle.chronicle.specs.Views.{Past}
use Rattle.chronicle.proofs.Parts.{log_grows}
use Rattle.chronicle.proofs.PrefixLemmas.{others_same, own_more}
use Rattle.chronicle.proofs.Rests.{event_keeps, still_begun}
use Rattle.chronicle.proofs.Worlds.{more_legal}
use Rattle.unit_port.specs.Unit.{TellsDone}
use Rattle.unit_port.specs.declared.unit.UnitErr.{UnitErr}
use Rattle.unit_port.specs.declared.unit.UnitErr.TheVariants as errors
use Rattle.pblk_engine.specs.Arms.{ArmView}
use Rattle.pblk_engine.specs.Asks.{IsRaisedByVictims}
use Rattle.pblk_engine.specs.Deeds.{event_of}
use Rattle.pblk_engine.specs.Hearts.{HasDecided, IsBeating, IsHeart, Parts, parts}
use Rattle.pblk_engine.specs.ResetNotes.{IsResetSince}
use Rattle.pblk_engine.specs.Resets.{WasReset}
use Rattle.pblk_engine.proofs.Asks.{raised_after}
use Rattle.pblk_engine.proofs.Decisions.{after_quiet_but, its_heart, its_mount, none_to_free_then}
use Rattle.pblk_engine.proofs.Growth.{but_grows}
use Rattle.pblk_engine.proofs.HeartBut.{IsHeartBut, but_notes, with_notes}
use Rattle.pblk_engine.proofs.HeartSteps.{IsAfter, decided_but}
use Rattle.pblk_engine.proofs.Knowledge.{known_next, mount_of, names_all}
use Rattle.pblk_engine.proofs.Resets.{same_logs}

-- ---- one event of a unit more

-- what is known once a unit's event stands at the end of its log, which names all that was known
pub known_unit : (i : Image) (known : Prefixes) (k : AreLegalLogs i known) (unit : ℕ) (e : UnitEvent) (maker : _) → unit < units i.shape
    → logs_of (with_event known (suc unit) (Does e maker)) ≡ log_of (unit_step i.shape unit e maker k.world ∷ k.world)
known_unit i known k unit e maker inside = fun_same _ _ (λ author. go (author == suc unit) author refl)
  where
    step : Step
    step = unit_step i.shape unit e maker k.world

    step_is : step ≡ record { author = suc unit; logged = naming known (Does e maker) }
    step_is = ap (λ (ns : List ℕ). record { author = suc unit; logged = record { event = Does e maker; knows = ns } })
        (sym (names_all i known k (ResetDone 0 0)))

    own : (author : ℕ) → logs_of known author ≡ log_of k.world author
    own author = ap (λ (l : Logs). l author) (sym k.logs)

    within : suc unit < length known
    within = let many : length known ≡ units i.shape + 1 = k.authors in omega arith

    here : logs_of (with_event known (suc unit) (Does e maker)) (suc unit) ≡ log_of (step ∷ k.world) (suc unit)
    here =
        own_more known (suc unit) (Does e maker) within
        ∙ ap₂ (λ (log : List Logged) (l : Logged). log ++ l ∷ []) (own (suc unit)) (ap (λ (s : Step). s.logged) (sym step_is))
        ∙ sym (log_here step k.world (suc unit) refl)

    other : (author : ℕ) → author ≢ suc unit → logs_of (with_event known (suc unit) (Does e maker)) author ≡ log_of (step ∷ k.world) author
    other author apart =
        others_same known (suc unit) (Does e maker) author apart ∙ own author ∙ sym (log_elsewhere step k.world author (λ same. apart (sym same)))

    go : (t : Bool) (author : ℕ) → (author == suc unit) ≡ t
        → logs_of (with_event known (suc unit) (Does e maker)) author ≡ log_of (step ∷ k.world) author
    go true author same =
        let is : author ≡ suc unit = eqb-true author (suc unit) same in
        subst (λ a. logs_of (with_event known (suc unit) (Does e maker)) a ≡ log_of (step ∷ k.world) a) (sym is) here
    go false author apart = other author (λ same.
        let both : true ≡ false = sym (same_number (suc unit)) ∙ ap (λ a. a == suc unit) (sym same) ∙ apart in absurd cc)

-- the logs after an event of the engine are told by those before it
same_after : (s : Shape) (e f : EngineEvent) (v w : World) → e ≡ f → log_of v ≡ log_of w
    → log_of (engine_step s e v ∷ v) ≡ log_of (engine_step s f w ∷ w)
same_after s e f v w same logs = engine_logs s e v ∙ ap₂ now same logs ∙ sym (engine_logs s f w)
  where
    now : EngineEvent → Logs → Logs
    now x l = after l x (map (λ author. length (l author)) (range_with_len 0 (units s + 1)))

-- what the engine named it still names
pub still_named : (log later : List Logged) (unit number : ℕ) → IsPrefix log later → Contains (named_events log unit) number
    → Contains (named_events later unit) number
still_named log later unit number more named =
    subst (λ (xs : List Logged). Contains (named_events xs unit) number) more.1
    (subst (λ (xs : List ℕ). Contains xs number) (sym (filter_map-append (λ (l : Logged). named_by unit l.event) log more.0))
    (contained_among (named_events log unit ++ named_events more.0 unit) number
    (among_more (named_events log unit) (named_events more.0 unit) number (among_contained (named_events log unit) number named))))

-- ---- what is learnt

module _ (h : Parts) (b : IsBeating h) (line unit : ℕ) (state : ChunkState) (note : Prefixes)
    (is : IsResetSince h.author.past.image h.author.known note line unit state) (names : named h.core ≡ works.Reset line unit) where
  abbrev i : Image
  i = h.author.past.image

  abbrev w : World
  w = b.legal.world

  abbrev e : UnitEvent
  e = event_of line Reset is.outcome

  abbrev mid : World
  mid = after_unit i.shape unit e is.maker w

  heart : IsHeart i (log_of w) h.core h.intake
  heart = its_heart h b

  is_to : IsToReset i (log_of w) line unit
  is_to = to_reset i (log_of w) line unit (named_in i (log_of w) h.core line unit heart.stands names)

  before_legal : AreLegalLogs i is.before
  before_legal = record { authors = is.authors ∙ b.legal.authors; world = w; legal = b.legal.legal; logs = b.legal.logs ∙ sym is.same }

  note_logs : logs_of note ≡ log_of mid
  unfolding before_legal
  note_logs = ap logs_of is.noted ∙ known_unit i is.before before_legal unit e is.maker is_to.unit_in_range

  -- the note knows all that the engine's author knows
  pub note_more : ArePrefixes h.author.known note
  note_more = record {
    each = λ author. subst (λ (p : Logs × Logs). IsPrefix (p.0 author) (p.1 author)) both
        (log_grows (unit_step i.shape unit e is.maker w) w author);
  }
    where
      both : ◌≡◌ {A = Logs × Logs} (log_of w, log_of mid) (logs_of h.author.known, logs_of note)
      both = λ j. (b.legal.logs j, sym note_logs j)

  -- what it knows then tells the engine nothing else
  pub met_named : AreSameNamed (logs_of h.author.known) (logs_of (longer_of h.author.known note))
  met_named = subst (λ (p : Logs × Logs). AreSameNamed p.0 p.1) both (named_stays i w unit e is.maker b.legal.legal)
    where
      both : ◌≡◌ {A = Logs × Logs} (log_of w, log_of mid) (logs_of h.author.known, logs_of (longer_of h.author.known note))
      both = λ j. (b.legal.logs j, (sym note_logs ∙ sym (same_logs h.author.known note note_more)) j)

  -- ---- once the author met it

  module _ (a : AuthorView) (met : a ≡ record h.author { known = longer_of h.author.known note }) (legal : AreLegalLogs a.past.image a.known) where
    same_past : a.past ≡ h.author.past
    same_past = ap (λ (x : AuthorView). x.past) met

    k : AreLegalLogs i a.known
    k = subst (λ (p : Past). AreLegalLogs p.image a.known) same_past legal

    known_logs : logs_of a.known ≡ log_of mid
    known_logs = ap (λ (x : AuthorView). logs_of x.known) met ∙ same_logs h.author.known note note_more ∙ note_logs

    world_logs : log_of k.world ≡ log_of mid
    world_logs = k.logs ∙ known_logs

    mount : IsLegalMount i k.world
    mount = mount_of i a.known k b.fits.accepted b.fits.fit

    -- the number of the reset in its log
    abbrev pub number : ℕ
    number = length (logs_of a.known (suc unit)) - 1

    abbrev pub d : EngineEvent
    d = ResetDone unit number

    pub number_is : number ≡ length (logs_of h.author.known (suc unit))
    number_is =
        let own : logs_of a.known (suc unit) ≡ log_of w (suc unit) ++ (unit_step i.shape unit e is.maker w).logged ∷ [] =
        ap (λ (l : Logs). l (suc unit)) known_logs ∙ unit_log i.shape unit e is.maker w in
        let long : length (logs_of a.known (suc unit)) ≡ length (log_of w (suc unit)) + 1 =
        ap (λ (log : List Logged). length log) own ∙ length-append (log_of w (suc unit)) ((unit_step i.shape unit e is.maker w).logged ∷ []) in
        let same : length (log_of w (suc unit)) ≡ length (logs_of h.author.known (suc unit)) =
        ap (λ (l : Logs). length (l (suc unit))) b.legal.logs in
        omega arith

    number_next : number ≡ next_event w unit
    number_next = number_is ∙ ap (λ (l : Logs). length (l (suc unit))) (sym b.legal.logs)

    -- ---- the unit wasn't stopped before

    own_log : log_of k.world (suc unit) ≡ log_of w (suc unit) ++ (unit_step i.shape unit e is.maker w).logged ∷ []
    own_log = ap (λ (l : Logs). l (suc unit)) world_logs ∙ unit_log i.shape unit e is.maker w

    at : slice_get (log_of k.world (suc unit)) (next_event w unit) ≡ Some (unit_step i.shape unit e is.maker w).logged
    at = ap (λ (log : List Logged). slice_get log (next_event w unit)) own_log ∙ get_last (log_of w (suc unit)) (unit_step i.shape unit e is.maker w).logged

    its : IsDeed i k.world unit (next_event w unit) (unit_step i.shape unit e is.maker w).logged
    its = deed i k.world unit (next_event w unit) (unit_step i.shape unit e is.maker w).logged k.legal at

    events_before : first_events (log_of k.world) unit (next_event w unit) ≡ unit_events (log_of w) unit
    unfolding first_events
    events_before = ap (λ (log : List Logged). filter_map (λ (l : Logged). unit_event_of l.event) log)
        (ap (take (next_event w unit)) own_log ∙ take-append_seam (log_of w (suc unit)) ((unit_step i.shape unit e is.maker w).logged ∷ []))

    running : has_stopped (unit_events (log_of w) unit) ≡ false
    running = go (has_stopped (unit_events (log_of w) unit)) refl
      where
        go : (t : Bool) → has_stopped (unit_events (log_of w) unit) ≡ t → has_stopped (unit_events (log_of w) unit) ≡ false
        go false going = going
        go true was =
            let same : its.event ≡ e = same_Some its.event e (sym its.is_event) in
            let stops : is.outcome ≡ Stopped 0 =
            ap (λ (x : UnitEvent). x.outcome) (sym same) ∙ its.stopped (ap has_stopped events_before ∙ was) in
            absurd (subst IsDoneReset stops is.done)

    -- ---- what the heart stands for

    told_now : AreSameNamed (log_of w) (log_of k.world)
    told_now = subst (AreSameNamed (log_of w)) (sym world_logs) (named_stays i w unit e is.maker b.legal.legal)

    grown : IsHeartBut i (log_of k.world) h.core h.intake
    grown = but_grows i (log_of w) (log_of k.world)
        (subst (AreSameTold i (log_of w)) (sym world_logs) (told_stays i w unit e is.maker b.legal.legal)) told_now
        (λ author. subst (λ (l : Logs). IsPrefix (log_of w author) (l author)) (sym world_logs)
        (log_grows (unit_step i.shape unit e is.maker w) w author))
        h.core h.intake (but_notes i (log_of w) h.core h.intake heart)

    -- ---- the engine may note it

    may_be : IsResetTo i (log_of mid) unit (next_event w unit) line state
    may_be = record {
      may = record { reset = e; new = is_new i w unit e is.maker b.legal.legal; is_reset = refl; not_stopped = is.done };
      chunk = refl;
      leaves = leaves;
    }
      where
        closed : is_opened (life_of (log_of w 0) line) ≡ false
        closed = not_given_up (strays_of (log_of w 0)) line (life_of (log_of w 0) line) is_to.given_up

        leaves : (c : Chunk) → chunk_in (known_image i (log_of mid)) line unit ≡ Some c
            → (after_outcome i.shape c Reset is.outcome).state ≡ state
        leaves c there =
            let then_ : chunk_in (known_image i (log_of w)) line unit ≡ Some c =
            ap (λ (j : Image). chunk_in j line unit) (sym (known_stays i w unit e is.maker b.legal.legal)) ∙ there in
            let stood : chunk_in (media i (log_of w)) line unit ≡ Some c =
            as_known i w b.legal.legal heart.stands.beginning heart.stands.has_begun unit line heart.noted c closed running then_ in
            let now : is.chunk ≡ after_outcome i.shape c Reset is.outcome =
            same_Some is.chunk (after_outcome i.shape c Reset is.outcome)
            (sym is.there ∙ ap (λ (l : Logs). chunk_in (media i l) line unit) note_logs ∙ chunk_now i unit e is.maker w
            ∙ ap (option_map (λ (x : Chunk). after_outcome i.shape x Reset is.outcome)) stood) in
            ap (λ (x : Chunk). x.state) (sym now) ∙ sym is.leaves

    reset_to : IsResetTo i (log_of k.world) unit number line state
    reset_to = subst (λ (p : Logs × ℕ). IsResetTo i p.0 unit p.1 line state) both may_be
      where
        both : ◌≡◌ {A = Logs × ℕ} (log_of mid, next_event w unit) (log_of k.world, number)
        both = λ j. (sym world_logs j, sym number_next j)

    may_in : MayDecide i (log_of k.world) d
    may_in = (grown.stands.beginning, grown.stands.has_begun, reset_to.may)

    pub may_note : IsAllowed a.past.image a.number (Decides d) (logs_of a.known)
    may_note =
        let numbered : a.number ≡ 0 = ap (λ (x : AuthorView). x.number) met ∙ b.engine.number in
        subst (λ n. IsAllowed a.past.image n (Decides d) (logs_of a.known)) (sym numbered)
        (subst (λ (p : Past). MayDecide p.image (logs_of a.known) d) (sym same_past)
        (subst (λ (l : Logs). MayDecide i l d) k.logs may_in))

    none_then : NoneToFree i (logs_of h.author.known) → NoneToFree i (logs_at (length (log_of k.world 0)) (log_of k.world))
    none_then none = subst (NoneToFree i)
        (sym (ap (λ (log : List Logged). logs_at (length log) (log_of k.world)) told_now.own
        ∙ at_named (log_of w) (log_of k.world) (length (log_of w 0)) told_now))
        (none_to_free_then i w h.core h.intake (its_mount h b) heart (subst (NoneToFree i) (sym b.legal.logs) none))

    abbrev later : World
    later = engine_step i.shape d k.world ∷ k.world

    next_mount : IsLegalMount i later
    next_mount = decided_legal i k.world d mount may_in

    noted_later : AreResetsNoted (log_of later)
    noted_later = subst AreResetsNoted
        (same_after i.shape (ResetDone unit (next_event w unit)) d mid k.world (ap (ResetDone unit) (sym number_next)) (sym world_logs))
        (noted_reset i.shape unit e is.maker w heart.noted)

    -- ---- once the core noted it

    module _ (none : NoneToFree i (logs_of h.author.known)) (new : Core)
        (stands : StandsAfterAnswer h.core (ResetDone unit) (λ i logs event. IsResetTo i logs unit event line state) new)
        (collects : CollectsAfterAnswer h.core (ResetDone unit) (λ i logs event. IsResetTo i logs unit event line state) new)
        (same : new.window ≡ h.core.window) (kept : KeepsStripes h.core new) where
      after_note : IsAfter i k.world d h.core new h.intake h.intake
      after_note = after_quiet_but i k.world d refl h.core new h.intake mount next_mount grown
          (stands i k.world number (knows_all i.shape k.world) mount grown.stands reset_to)
          (collects i k.world number (knows_all i.shape k.world) mount grown.stands grown.collects reset_to)
          (λ r all. subst (λ (x : window.WindowView). window.AreOf r x.entries) (sym same) all)
          (ap (λ (x : window.WindowView). length x.entries) same) kept.pad.most kept.copying (none_then none) tt

      module _ (last : AuthorView) (appended : last ≡ record a { known = with_event a.known a.number (Decides d) }) where
        last_is : last ≡ record h.author { known = with_event a.known 0 (Decides d) }
        last_is =
            appended
            ∙ ap₂ (λ (x : AuthorView) n. record x { known = with_event a.known n (Decides d) }) met
            (ap (λ (x : AuthorView). x.number) met ∙ b.engine.number)

        pub beating_noted : IsBeating (parts new last h.intake)
        beating_noted = subst (λ (x : AuthorView). IsBeating (parts new x h.intake)) (sym last_is) (record {
          engine = record { number = b.engine.number; owned = b.engine.owned };
          legal = more_legal i a.known 0 (Decides d) (let many : length a.known ≡ units i.shape + 1 = k.authors in omega arith)
              (subst (λ (l : Logs). MayDecide i l d) k.logs may_in) k;
          fits = b.fits;
          heart = subst (λ (logs : Logs). IsHeart i logs new h.intake) (sym (known_next i a.known k d))
              (with_notes i (log_of later) new h.intake (decided_but i k.world d h.core new h.intake h.intake mount next_mount grown after_note)
              noted_later);
        })

        pub raised_noted : IsRaisedByVictims last.past.image (logs_of last.known) (pad_of h.core) (pad_of new)
        raised_noted = subst (λ (x : AuthorView). IsRaisedByVictims x.past.image (logs_of x.known) (pad_of h.core) (pad_of new)) (sym last_is)
            (subst (λ (logs : Logs). IsRaisedByVictims i logs (pad_of h.core) (pad_of new)) (sym (known_next i a.known k d))
            (raised_after i k.world d mount next_mount h.core new h.intake h.intake after_note))

    -- ---- what the author knows then

    module _ (last : AuthorView) (appended : last ≡ record a { known = with_event a.known a.number (Decides d) }) where
      zero_is : last ≡ record a { known = with_event a.known 0 (Decides d) }
      zero_is = appended ∙ ap (λ n. record a { known = with_event a.known n (Decides d) }) (ap (λ (x : AuthorView). x.number) met ∙ b.engine.number)

      some : 0 < length a.known
      some = let many : length a.known ≡ units i.shape + 1 = k.authors in omega arith

      last_known : last.known ≡ with_event a.known 0 (Decides d)
      last_known = ap (λ (x : AuthorView). x.known) zero_is

      more : ArePrefixes a.known last.known
      more = subst (ArePrefixes a.known) (sym last_known) (event_keeps a.known 0 (Decides d) some)

      pub decided_noted : HasDecided (record h.author { known = longer_of h.author.known note }) last
      decided_noted = subst (λ (x : AuthorView). HasDecided x last) met (record {
        same = zero_is ∙ ap (λ (ks : Prefixes). record a { known = ks }) (sym last_known);
        keeps = more;
        units = λ other. ap (λ (ks : Prefixes). logs_of ks (suc other)) last_known
            ∙ others_same a.known 0 (Decides d) (suc other) (λ is. let no : suc other ≡ 0 = is in absurd (omega arith));
      })

      pub names_it : Contains (named_events (logs_of last.known 0) unit) (length (logs_of h.author.known (suc unit)))
      names_it = subst (λ (log : List Logged). Contains (named_events log unit) (length (logs_of h.author.known (suc unit))))
          (sym (ap (λ (ks : Prefixes). logs_of ks 0) last_known ∙ own_more a.known 0 (Decides d) some))
          (contained_among (named_events (logs_of a.known 0 ++ naming a.known (Decides d) ∷ []) unit) (length (logs_of h.author.known (suc unit)))
          (given_at (λ (x : Logged). named_by unit x.event) (logs_of a.known 0 ++ naming a.known (Decides d) ∷ []) (naming a.known (Decides d))
          (length (logs_of h.author.known (suc unit))) (length (logs_of a.known 0)) (get_last (logs_of a.known 0) (naming a.known (Decides d)))
          (ap (λ t. if t then Some number else None) (same_number unit) ∙ ap (λ n. Some n) number_is)))

      pub keeps_noted : ArePrefixes h.author.known a.known → ArePrefixes h.author.known last.known
      keeps_noted keeps = still_begun h.author.known a.known last.known keeps more

      pub learns_noted : ArePrefixes note a.known → ArePrefixes note last.known
      learns_noted learns = still_begun note a.known last.known learns more

-- ---- by what the unit's arm tells of the reset

done_of : (result : Result (Unit {0}) UnitErr) (outcome : UnitOutcome) → TellsDone result outcome → result ≢ Err errors.Stopped → IsDoneReset outcome
done_of (Ok x) outcome told going = subst IsDoneReset (sym told) refl
done_of (Err errors.Failed) outcome told going = subst IsDoneReset (sym told.1) tt
done_of (Err errors.Stopped) outcome told going = absurd (going refl)

-- The arm knew no more than the engine's author, met a note of that author, and noted the reset.
-- This is what it knows then, and how the chunk is.
pub reset_since : (i : Image) (known : Prefixes) (old new : ArmView) (worker count line : ℕ) (result : Result (Unit {0}) UnitErr) (state : ChunkState)
    → AreLegalLogs i known → ArePrefixes old.known known → WasReset old new worker count (longer_of old.known known) line result
    → AreLegalLogs i new.known → result ≢ Err errors.Stopped
    → (c : Chunk) × (chunk_in (media i (logs_of new.known)) line old.number ≡ Some c) × (state ≡ c.state)
    → IsResetSince i known new.known line old.number state
reset_since i known old new worker count line result state legal told was after going chunk = record {
  before = longer_of old.known known;
  authors = sym (length-set (longer_of old.known known) (suc old.number) _) ∙ ap length (sym was.known) ∙ after.authors ∙ sym legal.authors;
  same = same_logs old.known known told;
  outcome = was.outcome;
  done = done_of result was.outcome was.told going;
  maker = record { worker = worker; made = count };
  noted = was.known;
  chunk = chunk.0;
  there = chunk.1;
  leaves = chunk.2;
}

-- A reset that the engine has not heard of yet is of a chunk that the engine knows as used. So its
-- line isn't opened, and is still given up.
use Rattle.std.proofs.Common.{◌≡◌, ◌⊎◌, inl, inr, ℕ, ◌+◌, ◌-◌, ◌<◌, ◌≤◌, suc, zero, nat_eq, Bool, true, false, Some, None, Option, List, [], length, take, refl, sym, subst, ap, ap₂, ◌∙◌, arith, if◌then◌else◌}
use Rattle.std.specs.Prelude.{slice_get, slice_index}
use Rattle.std.specs.Option.{option_and_then, option_map_or}
use Rattle.std.proofs.lemmas.Bool.{cases_lt, eqb-true}
use Rattle.std.proofs.lemmas.Option.{none-some, same_Some}
use Rattle.std.proofs.Math.Seq.{take-length}
use Rattle.pblk_model.specs.Chunk.{Chunk}
use Rattle.pblk_model.specs.ChunkStep.{Reset}
use Rattle.pblk_model.specs.Found.{IsUsed}
use Rattle.pblk_model.specs.Image.{Image, IsFit}
use Rattle.pblk_model.specs.StartRecord.{StartRecord}
use Rattle.pblk_model.specs.UnitLog.{after_log, UnitEvent, UnitOutcome, Answered, Failed, Stopped}
use Rattle.pblk_laws.specs.LineBlocks.{chunk_in}
use Rattle.pblk_world.specs.Answering.{IsDoneReset, IsNew, MayNoteReset}
use Rattle.pblk_world.specs.AtRest.{IsUnnotedReset}
use Rattle.pblk_world.specs.Commanding.{is_program, is_reset, was_stopped}
use Rattle.pblk_world.specs.EngineLog.{Begun, begun, Freed, last_opening, life_of, LineLife, Opened, turned_by}
use Rattle.pblk_world.specs.Events.{Again, Begin, Decides, Does, Event, Free, Landed, Logged, Lost, Open, Place, ResetDone, Take}
use Rattle.pblk_world.specs.Lines.{are_empty, is_empty_state, is_given_up, is_given_up_by, known_image, strays_of}
use Rattle.pblk_world.specs.Opening.{MayOpen}
use Rattle.pblk_world.specs.Victims.{engine_prefix}
use Rattle.pblk_world.specs.World.{World, Logs, knows_engine, log_of, media, unit_event_of}
use Rattle.pblk_world.proofs.EngineLogLemmas.{begun_taken}
use Rattle.pblk_world.proofs.LinesLemmas.{used_is}
use Rattle.pblk_world.proofs.VictimsLemmas.{whole_prefix}
use Rattle.pblk_model.proofs.Options.{split_then}
use Rattle.pblk_model.proofs.Parts.{all_at, contained_among, get_below, get_taken, got_within}
use Rattle.pblk_model.proofs.Tests.{not_both}
use Rattle.pblk_world.specs.LegalMounts.{IsLegalMount}
use Rattle.world_laws.specs.UnitChunks.{NoProgram, chunk_after, first_events}
use Rattle.world_laws.proofs.Deeds.{IsDeed, deed}
use Rattle.world_laws.proofs.FitMedia.{media_fit}
use Rattle.world_laws.proofs.FoundImages.{found_early}
use Rattle.world_laws.proofs.FoundStates.{some_used}
use Rattle.world_laws.proofs.KnownChunks.{IsKnownTo, known_first, known_later}
use Rattle.world_laws.proofs.LifeUnits.{begun_within, chunk_known}
use Rattle.world_laws.proofs.Made.{known_within}
use Rattle.world_laws.proofs.MediaChunks.{chunk_of_media}
use Rattle.world_laws.proofs.NextLives.{life_next}
use Rattle.world_laws.proofs.NotedResets.{reset_is}
use Rattle.world_laws.proofs.Openings.{opened_at}
use Rattle.world_laws.proofs.Resets.{IsReset, empty_until, reset}
use Rattle.world_laws.proofs.ToldBefore.{IsActive, IsNamedFor, all_named, going_before}
use Rattle.world_laws.proofs.UnitChunks.{still_there}
use Rattle.world_laws.proofs.KnownPrefixes.{named_there}
use Rattle.rest_laws.proofs.TidyFound.{free_parts}

-- A reset of which the engine has noted nothing. It wasn't stopped.
pub record IsUnheardReset (logs : Logs) (unit number : ℕ) : Type 0 where
  pub reset : UnitEvent
  pub new : IsNew logs unit number reset
  pub is_reset : reset.command ≡ Reset
  pub going : was_stopped reset.outcome ≡ false

-- a reset that was done, or failed, wasn't stopped
pub going_reset : (o : UnitOutcome) → IsDoneReset o → was_stopped o ≡ false
going_reset (Answered answer) done = refl
going_reset (Failed k) done = refl
going_reset (Stopped k) done = absurd done

abbrev pub may_note : (logs : Logs) (unit number : ℕ) → MayNoteReset logs unit number → IsUnheardReset logs unit number
may_note logs unit number may =
    record { reset = may.reset; new = may.new; is_reset = may.is_reset; going = going_reset may.reset.outcome may.not_stopped }

pub unnoted : (logs : Logs) (unit number : ℕ) → IsUnnotedReset logs unit number → IsUnheardReset logs unit number
unnoted logs unit number is = by (split_then (λ (l : Logged). unit_event_of l.event) (slice_get (logs (suc unit)) number) is.event is.is_known)
  where
    by : (l : Logged) × (slice_get (logs (suc unit)) number ≡ Some l) × (unit_event_of l.event ≡ Some is.event) → IsUnheardReset logs unit number
    by at = record {
      reset = is.event;
      new = record { logged = at.0; is_known = at.1; event = at.2; once = is.unnoted };
      is_reset = reset_is is.event.command is.reset;
      going = is.not_stopped;
    }

abbrev IsGivenBy : List ℕ → ℕ → LineLife → Type 0
IsGivenBy strays line life = is_given_up_by strays line life ≡ true

module _ (i : Image) (w : World) (mount : IsLegalMount i w) (b : Begun) (begins : begun (log_of w 0) ≡ Some b) (unit number : ℕ)
    (may : IsUnheardReset (log_of w) unit number) where
  abbrev log : List Logged
  log = log_of w 0

  abbrev own : List Logged
  own = log_of w (suc unit)

  abbrev line : ℕ
  line = may.reset.chunk

  abbrev base : ℕ
  base = slice_index b.knows (suc unit)

  its_deed : IsDeed i w unit number may.new.logged
  its_deed = deed i w unit number may.new.logged mount.legal may.new.is_known

  same_event : its_deed.event ≡ may.reset
  same_event = same_Some its_deed.event may.reset (sym its_deed.is_event ∙ may.new.event)

  is_reset_of : IsReset i w mount.legal unit number may.new.logged may.new.is_known its_deed
  is_reset_of = reset i w mount.legal unit number may.new.logged may.new.is_known its_deed
      (ap (λ (e : UnitEvent). e.command) same_event ∙ may.is_reset)

  -- it comes after what the mount found
  from_base : slice_index b.knows (suc unit) ≤ number
  from_base = go (cases_lt number base)
    where
      go : (number < slice_index b.knows (suc unit)) ⊎ (slice_index b.knows (suc unit) ≤ number) → slice_index b.knows (suc unit) ≤ number
      go (inr later) = later
      go (inl early) =
          let none : knows_engine may.new.logged ≡ 0 =
          all_at (λ (l : Logged). knows_engine l ≡ 0) (take base own) number may.new.logged (get_taken base own number early ∙ may.new.is_known)
          (found_early i w b mount.legal begins unit) in
          let knew : 0 < knows_engine may.new.logged = is_reset_of.knew in
          absurd (omega arith)

  -- the chunk that it finds is used
  found_used : is_empty_state its_deed.found.state ≡ false
  found_used = go is_reset_of.used
    where
      go : IsUsed its_deed.found.state ⊎ (its_deed.event.outcome ≡ Stopped 0) → is_empty_state its_deed.found.state ≡ false
      go (inl used) = used_is its_deed.found.state used
      go (inr stopped) = absurd (not_both (was_stopped may.reset.outcome)
          (ap (λ (e : UnitEvent). was_stopped e.outcome) (sym same_event) ∙ ap was_stopped stopped) may.going)

  found_there : chunk_after i (log_of w) may.reset.chunk unit number ≡ Some its_deed.found
  found_there = ap (λ (e : UnitEvent). chunk_after i (log_of w) e.chunk unit number) (sym same_event) ∙ its_deed.there

  is_active : IsActive i w mount.legal b begins unit may.reset.chunk number may.new.logged may.reset
  is_active = inr (record {
    from = from_base;
    at = record { there = may.new.is_known; is_event = may.new.event; its_chunk = refl; passes = ap is_reset may.is_reset };
    going = may.going;
  })

  pub in_range : may.reset.chunk < i.shape.chunks
  in_range =
      let fit : IsFit (media i (log_of w)) = media_fit i w mount.accepted mount.fit mount.legal in
      let d = still_there i (log_of w) line unit number (length own) its_deed.found found_there in
      let at = split_then (λ (cs : List Chunk). slice_get cs line) (slice_get (media i (log_of w)).units unit) d.0
      (chunk_of_media i (log_of w) line unit ∙ d.1) in
      let count : length at.0 ≡ i.shape.chunks =
      all_at (λ (cs : List Chunk). length cs ≡ i.shape.chunks) (media i (log_of w)).units unit at.0 at.1 fit.chunks in
      let below : line < length at.0 = get_below at.0 line d.0 at.2 in
      omega arith

  pub none_there : slice_get i.units unit ≡ None → ⊥
  unfolding chunk_after
  none_there none =
      none-some its_deed.found (sym (ap (λ (o : Option (List Chunk)). option_and_then (λ (cs : List Chunk).
      slice_get (after_log i.shape cs (first_events (log_of w) unit number)) line) o) none) ∙ found_there)

  -- By what the unit knew when it made the reset, and by any more that the engine has decided, the
  -- chunk is used.
  pub used_then : (k : ℕ) → knows_engine may.new.logged ≤ k → k ≤ length (log_of w 0)
      → (c : Chunk) × (chunk_in (known_image i (engine_prefix k (log_of w))) may.reset.chunk unit ≡ Some c) × (is_empty_state c.state ≡ false)
  used_then k knew within = go (slice_get i.units unit) refl
    where
      some : 0 < k
      some = let first : 0 < knows_engine may.new.logged = is_reset_of.knew in omega (arith, knew)

      by : (cs : List Chunk) (has : slice_get i.units unit ≡ Some cs) (n : ℕ) → IsKnownTo i w mount.legal b begins unit may.reset.chunk cs has k n
          → (c : Chunk) × (chunk_in (known_image i (engine_prefix k (log_of w))) may.reset.chunk unit ≡ Some c) × (is_empty_state c.state ≡ false)
      by cs has n at = (its.0, chunk_known i w mount.legal b begins unit line cs has k some ∙ at.same ∙ its.1, used (is_empty_state its.0.state) refl)
        where
          its : (c : Chunk) × (chunk_after i (log_of w) may.reset.chunk unit n ≡ Some c)
          its = still_there i (log_of w) line unit number n its_deed.found found_there

          early : n ≤ number
          early = before (cases_lt number n)
            where
              before : (number < n) ⊎ (n ≤ number) → n ≤ number
              before (inr low) = low
              before (inl high) =
                  let q = at.named number may.new.logged may.reset high is_active in
                  absurd (may.new.once (named_there log unit q.0 number q.2.logged q.2.there q.2.names))

          inside : number < length (log_of w (suc unit))
          inside = get_below own number may.new.logged may.new.is_known

          none_between : NoProgram (log_of w) may.reset.chunk unit n number
          none_between m l e from before there is_event its_chunk = test (is_program e.command) refl
            where
              test : (t : Bool) → is_program e.command ≡ t → is_program e.command ≡ false
              test false same = same
              test true program =
                  let low : slice_index b.knows (suc unit) ≤ n = at.from in
                  let active : IsActive i w mount.legal b begins unit line m l e = inl (record {
                    from = omega arith;
                    at = record { there = there; is_event = is_event; its_chunk = its_chunk; passes = program };
                    going = going_before i w mount.legal b begins unit line m number l may.new.logged e may.reset before there is_event may.new.is_known
                        may.new.event may.going;
                  }) in
                  let told : IsNamedFor i w mount.legal b begins unit line m may.new.logged =
                  all_named i w mount.legal b begins unit line (suc number) m number l may.new.logged e may.reset before (omega arith) active is_active in
                  let first : told.at < knows_engine may.new.logged = told.known in
                  let less : m < n = at.within told.at m l e (omega (arith, knew)) told.named active in
                  absurd (omega arith)

          used : (t : Bool) → is_empty_state its.0.state ≡ t → is_empty_state its.0.state ≡ false
          used false e = e
          used true e =
              let far : n + (number - n) ≡ number = omega (arith, early) in
              let there : chunk_after i (log_of w) line unit (n + (number - n)) ≡ Some its.0 =
              empty_until i w mount.legal unit line n (number - n) its.0 (omega (arith, early, inside)) its.1 e
              (subst (NoProgram (log_of w) line unit n) (sym far) none_between) in
              let same : its_deed.found ≡ its.0 =
              same_Some its_deed.found its.0 (sym found_there ∙ ap (chunk_after i (log_of w) line unit) (sym far) ∙ there) in
              absurd (not_both (is_empty_state its.0.state) e (ap (λ (x : Chunk). is_empty_state x.state) (sym same) ∙ found_used))

      go : (o : Option (List Chunk)) → slice_get i.units unit ≡ o
          → (c : Chunk) × (chunk_in (known_image i (engine_prefix k (log_of w))) may.reset.chunk unit ≡ Some c) × (is_empty_state c.state ≡ false)
      go None none = absurd (none_there none)
      go (Some cs) has =
          let told = known_later i w mount.legal b begins unit line cs has 0 k (slice_index b.knows (suc unit)) (omega (arith, within))
          (known_first i w mount.legal b begins unit line cs has (begun_within i w mount.legal b begins unit)) in
          let from_none : 0 + k ≡ k = omega arith in
          by cs has told.0 (subst (λ n. IsKnownTo i w mount.legal b begins unit line cs has n told.0) from_none told.2)

  all_known : knows_engine may.new.logged ≤ length (log_of w 0)
  all_known = known_within i w (suc unit) 0 may.new.logged mount.legal (contained_among (log_of w (suc unit)) may.new.logged (number, may.new.is_known))

  -- a line with that chunk isn't empty
  pub unempty : (k : ℕ) → knows_engine may.new.logged ≤ k → k ≤ length (log_of w 0)
      → are_empty (known_image i (engine_prefix k (log_of w))) may.reset.chunk ≡ false
  unempty k knew within =
      let c = used_then k knew within in some_used line (known_image i (engine_prefix k (log_of w))).units unit c.0 c.1 c.2

  -- by all that the engine has decided the chunk is used, too
  pub used_now : (c : Chunk) × (chunk_in (known_image i (log_of w)) may.reset.chunk unit ≡ Some c) × (is_empty_state c.state ≡ false)
  used_now = subst (λ (logs : Logs). (c : Chunk) × (chunk_in (known_image i logs) may.reset.chunk unit ≡ Some c) × (is_empty_state c.state ≡ false))
      (whole_prefix (log_of w)) (used_then (length (log_of w 0)) all_known (omega arith))

  -- nor is it by all that the engine has decided
  pub unempty_now : are_empty (known_image i (log_of w)) may.reset.chunk ≡ false
  unempty_now =
      ap (λ (logs : Logs). are_empty (known_image i logs) line) (sym (whole_prefix (log_of w))) ∙ unempty (length (log_of w 0)) all_known (omega arith)

  -- ---- the line is given up as long as that reset isn't noted

  -- it isn't opened then
  unopened_then : (k other : ℕ) (start : StartRecord) (l : Logged) → knows_engine may.new.logged ≤ k → slice_get (log_of w 0) k ≡ Some l
      → l.event ≡ Decides (Open other start) → other ≡ may.reset.chunk → ⊥
  unopened_then k other start l knew there is same =
      let opens = opened_at i w k other start l mount.legal there is in
      let free : MayOpen i (engine_prefix k (log_of w)) opens.0 other start = opens.2 in
      let empty : are_empty (known_image i (engine_prefix k (log_of w))) other ≡ true = (free_parts i (engine_prefix k (log_of w)) other free.is_free).1 in
      let inside : k < length log = get_below log k l there in
      not_both (are_empty (known_image i (engine_prefix k (log_of w))) other) empty
      (ap (are_empty (known_image i (engine_prefix k (log_of w)))) same ∙ unempty k knew (omega arith))

  given_next : (k : ℕ) (l : Logged) → knows_engine may.new.logged ≤ k → slice_get (log_of w 0) k ≡ Some l
      → is_given_up (take k (log_of w 0)) may.reset.chunk ≡ true → is_given_up (take (suc k) (log_of w 0)) may.reset.chunk ≡ true
  given_next k l knew there given =
      ap₂ (λ (o : Option Begun) (life : LineLife). is_given_up_by (option_map_or (λ (x : Begun). x.beginning.strays) o []) line life)
      (begun_taken (suc k) log (omega arith) ∙ sym (begun_taken k log some)) (life_next log k line l there)
      ∙ by_event l.event refl
    where
      some : 0 < k
      some = let first : 0 < knows_engine may.new.logged = is_reset_of.knew in omega (arith, knew)

      by_test : (t : Bool) (life : LineLife) → (t ≡ true → IsGivenBy (strays_of (take k (log_of w 0))) may.reset.chunk life)
          → IsGivenBy (strays_of (take k (log_of w 0))) may.reset.chunk (if t then life else life_of (take k (log_of w 0)) may.reset.chunk)
      by_test true life says = says refl
      by_test false life says = given

      by_event : (e : Event) → l.event ≡ e
          → IsGivenBy (strays_of (take k (log_of w 0))) may.reset.chunk (turned_by may.reset.chunk (life_of (take k (log_of w 0)) may.reset.chunk) k l.knows e)
      by_event (Does e maker) is = given
      by_event (Decides (Begin b)) is = given
      by_event (Decides (Take entry mark)) is = given
      by_event (Decides (Place stripe)) is = given
      by_event (Decides (Landed u n)) is = given
      by_event (Decides (Lost u n)) is = given
      by_event (Decides (Again u n)) is = given
      by_event (Decides (ResetDone u n)) is = given
      by_event (Decides (Open other start)) is =
          by_test (nat_eq other line) (Opened (record { number = k; line = line; start = start; knows = l.knows }))
          (λ t. absurd (unopened_then k other start l knew there is (eqb-true other line t)))
      by_event (Decides (Free other)) is =
          by_test (nat_eq other line) (Freed (last_opening (life_of (take k log) line)) l.knows) (λ t. refl)

  given_then : (d : ℕ) → knows_engine may.new.logged + d ≤ length (log_of w 0)
      → is_given_up (take (knows_engine may.new.logged + d) (log_of w 0)) may.reset.chunk ≡ true
  given_then zero within =
      let same : knows_engine may.new.logged + 0 ≡ knows_engine may.new.logged = omega arith in
      ap (λ n. is_given_up (take n log) line) same ∙ ap (λ (e : UnitEvent). is_given_up (take (knows_engine may.new.logged) log) e.chunk) (sym same_event)
      ∙ is_reset_of.given_up
  given_then (suc d) within =
      let next : knows_engine may.new.logged + suc d ≡ suc (knows_engine may.new.logged + d) = omega arith in
      let l = got_within log (knows_engine may.new.logged + d) (omega arith) in
      ap (λ n. is_given_up (take n log) line) next
      ∙ given_next (knows_engine may.new.logged + d) l.0 (omega arith) l.1 (given_then d (omega arith))

  pub still_given : is_given_up (log_of w 0) may.reset.chunk ≡ true
  still_given =
      let all : knows_engine may.new.logged + (length log - knows_engine may.new.logged) ≡ length log = omega (arith, all_known) in
      ap (λ (xs : List Logged). is_given_up xs line) (sym (take-length log)) ∙ ap (λ n. is_given_up (take n log) line) (sym all)
      ∙ given_then (length log - knows_engine may.new.logged) (omega arith)

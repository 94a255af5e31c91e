-- The program of a stripe of an opened line that was answered: it came after the opening, and is
-- among the events by which the engine knows the chunk.
use Rattle.std.proofs.Common.{◌≡◌, ℕ, ◌<◌, ◌≤◌, ◌==◌, ◌||◌, suc, Some, List, length, take, sym, subst, ap, ◌∙◌, arith}
use Rattle.std.specs.Prelude.{slice_get, slice_index}
use Rattle.std.specs.List.{Contains}
use Rattle.std.specs.Option.{option_and_then}
use Rattle.std.proofs.lemmas.List.{take-take}
use Rattle.std.proofs.lemmas.Option.{same_Some}
use Rattle.pblk_model.specs.Chunk.{Chunk}
use Rattle.pblk_model.specs.ChunkStep.{Write}
use Rattle.pblk_model.specs.UnitLog.{UnitEvent}
use Rattle.pblk_model.specs.Image.{Image}
use Rattle.pblk_world.specs.Commanding.{ended_stripes, is_program, is_reset}
use Rattle.pblk_world.specs.EngineLog.{Answer, answer_by, answer_of, answers, Begun, begun, last_opening, life_of, named_by, named_events, Opened, Opening, openings, Placed, placed_on, placements, stripes_of}
use Rattle.pblk_world.specs.Events.{Decides, Logged}
use Rattle.pblk_world.specs.Legal.{IsLegal}
use Rattle.pblk_world.specs.Lines.{known_image}
use Rattle.pblk_world.specs.World.{World, log_of, known, knows_engine, prefixes, unit_event_of}
use Rattle.pblk_model.proofs.Lists.{IsAmong, among_contained}
use Rattle.pblk_model.proofs.Maps.{given_at, in_filter}
use Rattle.pblk_model.proofs.Parts.{contained_among, get_below, get_whole_within}
use Rattle.pblk_model.proofs.Tests.{same_number}
use Rattle.world_laws.specs.KnownChunks.{IsChange}
use Rattle.pblk_world.specs.LegalMounts.{IsLegalMount}
use Rattle.world_laws.specs.UnitChunks.{chunk_after}
use Rattle.world_laws.specs.UnitPrograms.{IsProgramOfStripe}
use Rattle.world_laws.proofs.FirstEvent.{IsBeginning, beginning_of}
use Rattle.world_laws.proofs.KnownPrefixes.{known_prefix}
use Rattle.world_laws.proofs.LifePlaces.{began}
use Rattle.world_laws.proofs.Lives.{life_is_known}
use Rattle.world_laws.proofs.NamedPrefixes.{was_made}
use Rattle.world_laws.proofs.NextLives.{IsDecided, decided, placed_in}
use Rattle.world_laws.proofs.OpenedChunks.{named, since}
use Rattle.world_laws.proofs.Programs.{program_of_stripe}
use Rattle.world_laws.proofs.Stripes.{opening_then, stripe_is}
use Rattle.world_laws.proofs.Tellings.{IsFrom, source}
use Rattle.world_laws.proofs.UnitTurns.{turn_is}
use Rattle.core_laws.proofs.NotedAnswers.{IsEndedBy, IsNoted, answer_names, may_note, names_it, noted, noting, number_in, unstopped}

-- ---- the program, and the event of the engine that names it

pub record IsAnsweredIn (w : World) (unit : ℕ) (p : Placed) (a : Answer) : Type 0 where
  pub told : Contains (named_events (log_of w 0) unit) (number_in a)
  pub logged : Logged
  pub there : slice_get (log_of w (suc unit)) (number_in a) ≡ Some logged
  pub event : UnitEvent
  pub is_event : unit_event_of logged.event ≡ Some event
  pub knew : p.number < knows_engine logged
  pub chunk : event.chunk ≡ p.stripe.chunk
  pub command : event.command ≡ Write p.stripe.at p.stripe.blocks
  pub ended : IsEndedBy a event.outcome

answered_in : (i : Image) (w : World) (legal : IsLegal i w) (p : Placed) (a : Answer) → Contains (placements (log_of w 0)) p
    → answer_of (log_of w 0) p ≡ Some a → IsAnsweredIn w p.stripe.unit p a
answered_in i w legal p a there answer =
    let log : List Logged = log_of w 0 in
    let unit : ℕ = p.stripe.unit in
    let at : IsAmong (placed_on log unit) p =
    in_filter (λ (q : Placed). q.stripe.unit == unit) (placements log) p (among_contained (placements log) p there) (same_number unit) in
    let from : IsFrom (λ (l : Logged). answer_by unit l.event) log at.0 a =
    source (λ (l : Logged). answer_by unit l.event) log at.0 a (ap (λ t. slice_get (answers log unit) t) (sym (turn_is log unit at.0 p at.1)) ∙ answer) in
    by at from.at from.from from.there (answer_names unit a from.from.event from.gives) from.count
  where
    by : (at : IsAmong (placed_on (log_of w 0) p.stripe.unit) p) (q : ℕ) (l : Logged) → slice_get (log_of w 0) q ≡ Some l
        → l.event ≡ Decides (noting p.stripe.unit a)
        → length (answers (take q (log_of w 0)) p.stripe.unit) ≡ at.0 → IsAnsweredIn w p.stripe.unit p a
    by at q l told names count =
        let unit : ℕ = p.stripe.unit in
        let number : ℕ = number_in a in
        let own : List Logged = log_of w (suc unit) in
        let d : IsDecided i w legal q (noting unit a) l = decided i w legal q (noting unit a) l told names in
        let may : IsNoted (prefixes l (log_of w)) unit a = noted (prefixes l (log_of w)) unit a (may_note i (prefixes l (log_of w)) unit a d.allowed) in
        let whole = get_whole_within (known l (suc unit)) own number may.new.logged may.new.is_known in
        let one : may.stripe.logged ≡ may.new.logged = same_Some may.stripe.logged may.new.logged (sym may.stripe.is_logged ∙ may.new.is_known) in
        let s : IsProgramOfStripe (log_of w) unit number may.new.logged may.program =
        program_of_stripe i w unit number may.new.logged may.program legal whole.0 may.new.event may.stripe.program
        (subst (λ (x : Logged). 0 < knows_engine x) one may.stripe.after_begin) in
        let inside : number < known l (suc unit) = whole.1 in
        let turn : ended_stripes (take number own) ≡ at.0 =
        ap ended_stripes (sym (take-take number (known l (suc unit)) own (omega arith))) ∙ may.stripe.its_turn
        ∙ ap (λ (xs : List Logged). length (answers xs unit)) d.own ∙ count in
        let it : s.placed ≡ p = same_Some s.placed p (sym s.in_order ∙ ap (slice_get (placed_on (log_of w 0) unit)) turn ∙ at.1) in
        record {
          told = contained_among (named_events (log_of w 0) unit) number
              (given_at (λ (x : Logged). named_by unit x.event) (log_of w 0) l number q told (ap (named_by unit) names ∙ names_it unit a));
          logged = may.new.logged;
          there = whole.0;
          event = may.program;
          is_event = may.new.event;
          knew = subst (λ (x : Placed). x.number < knows_engine may.new.logged) it s.was_known;
          chunk = s.chunk ∙ ap (λ (x : Placed). x.stripe.chunk) it;
          command = s.command ∙ ap (λ (x : Placed). Write x.stripe.at x.stripe.blocks) it;
          ended = may.ended;
        }

-- ---- its line stays opened

module _ (i : Image) (w : World) (mount : IsLegalMount i w) (o : Opening) (p : Placed) (a : Answer) (life : life_of (log_of w 0) o.line ≡ Opened o)
    (its : Contains (stripes_of (log_of w 0) o) p) (answer : answer_of (log_of w 0) p ≡ Some a) where
  abbrev log : List Logged
  log = log_of w 0

  abbrev unit : ℕ
  unit = p.stripe.unit

  -- the program came after the opening
  pub record IsAnsweredSince : Type 0 where
    pub in_log : IsAnsweredIn w p.stripe.unit p a
    pub inside : number_in a < length (log_of w (suc p.stripe.unit))
    pub in_line : in_log.event.chunk ≡ o.line
    pub since_opening : slice_index o.knows (suc p.stripe.unit) ≤ number_in a
    pub since_begin : (b : Begun) → begun (log_of w 0) ≡ Some b → slice_index b.knows (suc p.stripe.unit) ≤ number_in a

  pub answered_since : IsAnsweredSince
  answered_since =
      let b = began i w o.line o mount.legal life in
      let opened : Contains (openings log) o = (life_is_known log o.line o (ap last_opening life)).0 in
      let is = stripe_is i w o p mount.legal opened its in
      let x : IsAnsweredIn w unit p a = answered_in i w mount.legal p a is.0 answer in
      let placed : IsAmong (placed_on log unit) p =
      in_filter (λ (q : Placed). q.stripe.unit == p.stripe.unit) (placements log) p (among_contained (placements log) p is.0) (same_number unit) in
      let h = since i w mount.legal b.0 b.1 unit o.line o life in
      let later : o.number < p.number = (opening_then log p.number p.stripe.line o is.2).2 in
      let knew : p.number < knows_engine x.logged = x.knew in
      let low : known h.logged (suc unit) ≤ number_in a =
      (was_made i w (suc unit) (number_in a) x.logged mount.legal x.there).knew 0 o.number h.logged (omega arith) h.there in
      let base : known h.logged (suc unit) ≡ slice_index o.knows (suc unit) = named i w mount.legal b.0 b.1 unit o.line o life in
      record {
        in_log = x;
        inside = get_below (log_of w (suc unit)) (number_in a) x.logged x.there;
        in_line = x.chunk ∙ (placed_in i w mount.legal unit placed.0 p placed.1).chunk ∙ is.3;
        since_opening = omega arith;
        since_begin = λ g begins.
            let first : IsBeginning i w g = beginning_of i w g mount.legal begins in
            let begun_low : known first.logged (suc unit) ≤ number_in a =
            (was_made i w (suc unit) (number_in a) x.logged mount.legal x.there).knew 0 0 first.logged (omega arith) first.there in
            let begun_base : known first.logged (suc unit) ≡ slice_index g.knows (suc unit) = ap (λ ks. slice_index ks (suc unit)) first.knows in
            omega arith;
      }

  -- ---- the chunk as it is known

  module _ (chunks : List Chunk) (c : Chunk) (at : slice_get (known_image i (log_of w)).units p.stripe.unit ≡ Some chunks)
      (there : slice_get chunks o.line ≡ Some c) where
    -- how far the unit's log was told of the chunk, with the program in it
    pub record IsToldFar : Type 0 where
      pub since : IsAnsweredSince
      pub events : ℕ
      pub inside : events ≤ length (log_of w (suc p.stripe.unit))
      pub chunk : chunk_after i (log_of w) o.line p.stripe.unit events ≡ Some c
      pub before : number_in a < events

    pub told_far : IsToldFar
    told_far =
        let b = began i w o.line o mount.legal life in
        let since_then : IsAnsweredSince = answered_since in
        let x : IsAnsweredIn w unit p a = since_then.in_log in
        let change : IsChange (log_of w) o.line unit (number_in a) = record {
          logged = x.logged;
          there = x.there;
          event = x.event;
          is_event = x.is_event;
          its_chunk = since_then.in_line;
          kind = ap (λ c. is_program c || is_reset c) x.command;
          going = unstopped a x.event.outcome x.ended;
        } in
        let known_now = known_prefix i w mount.legal b.0 b.1 unit o.line c (ap (option_and_then (λ (cs : List Chunk). slice_get cs o.line)) at ∙ there) in
        record {
          since = since_then;
          events = known_now.0;
          inside = known_now.2;
          chunk = known_now.3;
          before = (known_now.4 (number_in a) (since_then.since_begin b.0 b.1) change).1 x.told;
        }

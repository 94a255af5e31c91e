-- Where the pointer of a chunk of an opened line is, while its unit isn't stopped: behind the last
-- stripe of the opening there that has ended.
use Rattle.std.proofs.Common.{◌≡◌, ℕ, ◌+◌, ◌-◌, ◌<◌, ◌≤◌, ◌⊎◌, inl, inr, ◌==◌, nat_eq, zero, suc, Bool, true, false, Some, List, length, take, refl, sym, subst, ap, ap₂, ◌∙◌, arith, if◌then◌else◌, length-append}
use Rattle.std.specs.Prelude.{slice_get, slice_index}
use Rattle.std.specs.List.{Contains, filter_map}
use Rattle.std.proofs.lemmas.Bool.{cases_order, eqb-true, eqb-false}
use Rattle.std.proofs.lemmas.Option.{same_Some}
use Rattle.std.proofs.Math.Seq.{take-length}
use Rattle.pblk_model.specs.declared.chunk.ChunkState.{ChunkState}
use Rattle.pblk_model.specs.declared.chunk.ChunkState.TheVariants as states
use Rattle.pblk_model.specs.Chunk.{Chunk, IsChunk, PointerFits, pointer}
use Rattle.pblk_model.specs.ChunkStep.{ChunkCommand, Write, Read, Reset, Done, appended}
use Rattle.pblk_model.specs.UnitLog.{Answered, IsOutcome, UnitEvent, after_outcome}
use Rattle.pblk_model.specs.Image.{Image}
use Rattle.pblk_laws.proofs.ChunkStep.{write_placed}
use Rattle.pblk_world.specs.Events.{Logged}
use Rattle.pblk_world.specs.World.{World, log_of, knows_engine, known, unit_event_of, unit_events}
use Rattle.pblk_world.specs.EngineLog.{Begun, begun, is_life, life_of, Opened, Opening, Placed, placed_on, placements, stripes_of, stripes_on}
use Rattle.pblk_world.specs.Commanding.{ended_stripes, has_stopped, is_program, was_stopped}
use Rattle.pblk_world.specs.Lines.{is_empty_state}
use Rattle.pblk_model.proofs.Lists.{IsAmong}
use Rattle.pblk_model.proofs.Maps.{from_filter, in_filter}
use Rattle.pblk_model.proofs.Parts.{contained_among, get_below, got_within}
use Rattle.pblk_model.proofs.Tests.{lt_true, not_both, same_number}
use Rattle.pblk_world.specs.LegalMounts.{IsLegalMount}
use Rattle.world_laws.proofs.Stripes.{IsPlaced, opening_then, placed_is, stripe_is}
use Rattle.world_laws.proofs.Openings.{placed_at}
use Rattle.world_laws.specs.UnitChunks.{NoProgram, chunk_after, first_events}
use Rattle.world_laws.proofs.BeforeFreeing.{opening_within}
use Rattle.world_laws.proofs.Deeds.{IsDeed, deed, fetch_leaves}
use Rattle.world_laws.proofs.LastUses.{IsOfChunk}
use Rattle.world_laws.proofs.LifePlaces.{began}
use Rattle.world_laws.proofs.LineBlocks.{IsLandedProgram, IsLineOf, opened_line}
use Rattle.world_laws.proofs.LineStripes.{stripe_count}
use Rattle.world_laws.proofs.NamedPrefixes.{was_made}
use Rattle.world_laws.proofs.OpenedChunks.{IsLifes, empty_at_base, empty_at_reset, lifes, named, since}
use Rattle.world_laws.proofs.Resets.{empty_stays, reset}
use Rattle.world_laws.proofs.Stops.{still_stopped, stopped_here}
use Rattle.world_laws.proofs.Tellings.{ended_one, ended_within, ends}
use Rattle.world_laws.proofs.UnitTurns.{Rises, earlier_placed, rise_all, rise_between, some_rise, unit_is}
use Rattle.world_laws.proofs.UnitChunks.{still_there}
use Rattle.world_laws.proofs.UnitLogs.{chunk_fits}

pub no_blocks_yet : (state : ChunkState) (clba wp : ℕ) → is_empty_state state ≡ true → PointerFits state clba wp → wp ≡ 0
no_blocks_yet states.Free clba wp empty fits = fits
no_blocks_yet states.Open clba wp empty fits = absurd cc
no_blocks_yet states.Closed clba wp empty fits = absurd cc
no_blocks_yet states.Offline clba wp empty fits = fits

-- ---- a line that is opened, on one of its units

module _ (i : Image) (w : World) (mount : IsLegalMount i w) (o : Opening) (is_open : life_of (log_of w 0) o.line ≡ Opened o) (unit : ℕ) where
  abbrev log : List Logged
  log = log_of w 0

  abbrev own : List Logged
  own = log_of w (suc unit)

  b : (x : Begun) × (begun (log_of w 0) ≡ Some x)
  b = began i w o.line o mount.legal is_open

  abbrev base : ℕ
  base = slice_index o.knows (suc unit)

  line : IsLineOf i w o
  line = opened_line i w mount o is_open

  -- where nothing is programmed its chunk stays
  stays_until : (from d : ℕ) (c : Chunk) → slice_index o.knows (suc unit) ≤ from → from + d ≤ length (log_of w (suc unit))
      → NoProgram (log_of w) o.line unit from (from + d) → chunk_after i (log_of w) o.line unit from ≡ Some c
      → chunk_after i (log_of w) o.line unit (from + d) ≡ Some c
  stays_until from zero c low inside none there = let same : from + 0 ≡ from = omega arith in ap (chunk_after i (log_of w) o.line unit) same ∙ there
  stays_until from (suc d) c low inside none there =
      let next : from + suc d ≡ suc (from + d) = omega arith in
      let at = got_within own (from + d) (omega arith) in
      let now : chunk_after i (log_of w) o.line unit (from + d) ≡ Some c =
      stays_until from d c low (omega arith) (λ m l e above below. none m l e above (omega arith)) there in
      ap (chunk_after i (log_of w) o.line unit) next
      ∙ one at.0 at.1 (deed i w unit (from + d) at.0 mount.legal at.1) now (λ e is on. none (from + d) at.0 e (omega arith) (omega arith) at.1 is on) ∙ now
    where
      one : (l : Logged) (at : slice_get (log_of w (suc unit)) (from + d) ≡ Some l) (e : IsDeed i w unit (from + d) l)
          → chunk_after i (log_of w) o.line unit (from + d) ≡ Some c
          → ((x : UnitEvent) → unit_event_of l.event ≡ Some x → x.chunk ≡ o.line → is_program x.command ≡ false)
          → chunk_after i (log_of w) o.line unit (suc (from + d)) ≡ chunk_after i (log_of w) o.line unit (from + d)
      one l at e now none_here = go (nat_eq e.event.chunk o.line) refl
        where
          by_command : (command : ChunkCommand) → e.event.command ≡ command → e.event.chunk ≡ o.line
              → chunk_after i (log_of w) o.line unit (suc (from + d)) ≡ chunk_after i (log_of w) o.line unit (from + d)
          by_command (Write place blocks) is its = absurd (not_both (is_program e.event.command) (ap is_program is) (none_here e.event e.is_event its))
          by_command (Read place) is its = fetch_leaves i w unit (from + d) l e place is o.line
          by_command Reset is its =
              let empty : is_empty_state c.state ≡ true =
              empty_at_reset i w mount.legal b.0 b.1 unit o.line o is_open (from + d) l at e (omega arith) c now
              (reset i w mount.legal unit (from + d) l at e is) its in
              let found : e.found ≡ c = same_Some e.found c (sym e.there ∙ ap (λ k. chunk_after i (log_of w) k unit (from + d)) its ∙ now) in
              empty_stays i w mount.legal unit (from + d) l at e (ap (λ (x : Chunk). is_empty_state x.state) found ∙ empty) (ap is_program is) o.line

          go : (t : Bool) → nat_eq e.event.chunk o.line ≡ t
              → chunk_after i (log_of w) o.line unit (suc (from + d)) ≡ chunk_after i (log_of w) o.line unit (from + d)
          go true same = by_command e.event.command refl (eqb-true e.event.chunk o.line same)
          go false other = e.others o.line (eqb-false e.event.chunk o.line other)

  -- ---- while the unit isn't stopped

  module _ (running : has_stopped (unit_events (log_of w) unit) ≡ false) where
    all_events : first_events (log_of w) unit (length (log_of w (suc unit))) ≡ unit_events (log_of w) unit
    unfolding first_events
    all_events = ap (λ (xs : List Logged). filter_map (λ (l : Logged). unit_event_of l.event) xs) (take-length own)

    going : (n : ℕ) (l : Logged) (e : UnitEvent) → slice_get (log_of w (suc unit)) n ≡ Some l → unit_event_of l.event ≡ Some e → was_stopped e.outcome ≡ false
    going n l e at is = go (was_stopped e.outcome) refl
      where
        go : (t : Bool) → was_stopped e.outcome ≡ t → was_stopped e.outcome ≡ false
        go false f = f
        go true f =
            let inside : n < length own = get_below own n l at in
            let far : suc n + (length own - suc n) ≡ length own = omega arith in
            let was : has_stopped (first_events (log_of w) unit (length own)) ≡ true =
            ap (λ k. has_stopped (first_events (log_of w) unit k)) (sym far)
            ∙ still_stopped i w mount.legal unit (suc n) (length own - suc n) (omega arith) (stopped_here i w mount.legal unit n l e at is f) in
            absurd (not_both (has_stopped (unit_events (log_of w) unit)) (ap has_stopped (sym all_events) ∙ was) running)

    -- a program in the chunk is of a stripe that the opening has on the unit, whose turn is over
    pub record IsTurn (y : ℕ) : Type 0 where
      pub placed : Placed
      pub in_order : slice_get (placed_on (log_of w 0) unit) (ended_stripes (take y (log_of w (suc unit)))) ≡ Some placed
      pub over : ended_stripes (take y (log_of w (suc unit))) < ended_stripes (log_of w (suc unit))
      pub index : ℕ
      pub at : slice_get (stripes_on (log_of w 0) o unit) index ≡ Some placed

    turn_of : (y : ℕ) (x : Logged) (e : UnitEvent) → slice_index o.knows (suc unit) ≤ y → IsOfChunk i w mount.legal unit o.line is_program y x e → IsTurn y
    turn_of y x e from at =
        let q : IsLifes i w mount.legal b.0 b.1 unit o.line o is_open y x e = lifes i w mount.legal b.0 b.1 unit o.line o is_open y x e from at in
        let s : Placed = q.of_line.stripe.placed in
        let inside : y < length own = get_below own y x at.there in
        let one : ended_stripes (take (suc y) own) ≡ ended_stripes (take y own) + 1 =
        ended_one own y x at.there (ends x e at.is_event at.passes (going y x e at.there at.is_event) q.of_line.knew) in
        let more : ended_stripes (take (suc y) own) ≤ ended_stripes (take (length own) own) = ended_within own (suc y) (length own) (omega arith) in
        let all : ended_stripes (take (length own) own) ≡ ended_stripes own = ap ended_stripes (take-length own) in
        let among : IsAmong (placements log) s =
        from_filter (λ (z : Placed). z.stripe.unit == unit) (placements log) s (ended_stripes (take y own), q.of_line.stripe.in_order) in
        let passes : is_life o.number s.life ≡ true = ap (is_life o.number) q.life ∙ same_number o.number in
        let its : IsAmong (stripes_on log o unit) s =
        in_filter (λ (z : Placed). z.stripe.unit == unit) (stripes_of log o) s
        (in_filter (λ (z : Placed). is_life o.number z.life) (placements log) s among passes)
        (ap (λ u. u == unit) (unit_is log unit (ended_stripes (take y own)) s q.of_line.stripe.in_order) ∙ same_number unit) in
        record { placed = s; in_order = q.of_line.stripe.in_order; over = omega arith; index = its.0; at = its.1 }

    -- ---- the chunk

    module _ (c : Chunk) (now : chunk_after i (log_of w) o.line unit (length (log_of w (suc unit))) ≡ Some c) where
      pub fits_chunk : IsChunk i.shape c
      fits_chunk = chunk_fits i w mount.legal unit o.line (length own) c mount.fit mount.accepted.drive.ws_min (omega arith) now

      -- from a length on nothing is programmed there
      kept : (from : ℕ) (d : Chunk) → slice_index o.knows (suc unit) ≤ from → from ≤ length (log_of w (suc unit))
          → chunk_after i (log_of w) o.line unit from ≡ Some d → ((y : ℕ) → IsTurn y → from ≤ y → ⊥) → c ≡ d
      kept from d low inside there none =
          let far : from + (length own - from) ≡ length own = omega arith in
          same_Some c d (sym now ∙ ap (chunk_after i (log_of w) o.line unit) (sym far)
          ∙ stays_until from (length own - from) d low (omega arith) (λ y x e above below at is its. by y x e above at is its) there)
        where
          by : (y : ℕ) (x : Logged) (e : UnitEvent) → from ≤ y → slice_get (log_of w (suc unit)) y ≡ Some x → unit_event_of x.event ≡ Some e
              → e.chunk ≡ o.line → is_program e.command ≡ false
          by y x e above at is its = go (is_program e.command) refl
            where
              go : (t : Bool) → is_program e.command ≡ t → is_program e.command ≡ false
              go false f = f
              go true f = absurd (none y (turn_of y x e (omega arith) (record { there = at; is_event = is; its_chunk = its; passes = f })) above)

      -- no stripe of the opening has ended on the unit
      pub none_ended : ((y : ℕ) → IsTurn y → ⊥) → (pointer c ≡ 0) × (is_empty_state c.state ≡ true)
      none_ended none =
          let within : slice_index o.knows (suc unit) ≤ length own = opening_within i w o.line (suc unit) o mount.legal is_open in
          let d = still_there i (log_of w) o.line unit (length own) base c now in
          let same : c ≡ d.0 = kept base d.0 (omega arith) within d.1 (λ y e above. none y e) in
          let empty : is_empty_state c.state ≡ true =
          ap (λ (x : Chunk). is_empty_state x.state) same ∙ empty_at_base i w mount.legal b.0 b.1 unit o.line o is_open d.0 d.1 in
          (no_blocks_yet c.state i.shape.clba (pointer c) empty fits_chunk.place, empty)

      -- the chunk behind a stripe whose program was done
      pub record IsBehind (q : Placed) : Type 0 where
        pub pointer_is : pointer c ≡ q.stripe.at + i.shape.ws_opt
        pub state : q.stripe.at + i.shape.ws_opt < i.shape.clba → c.state ≡ states.Open

      module _ (k : ℕ) (q : Placed) (its : slice_get (stripes_on (log_of w 0) o unit) k ≡ Some q) (x : IsLandedProgram w unit q)
          (last : (y : ℕ) (e : IsTurn y) → e.index ≤ k) where
        of_opening : Contains (stripes_of (log_of w 0) o) q
        of_opening = contained_among (stripes_of log o) q (from_filter (λ (z : Placed). z.stripe.unit == unit) (stripes_of log o) q (k, its))

        -- behind its program nothing is programmed in the chunk
        none_after : (y : ℕ) → IsTurn y → suc x.number ≤ y → ⊥
        none_after y e above =
            let one : ended_stripes (take (suc x.number) own) ≡ ended_stripes (take x.number own) + 1 =
            ended_one own x.number x.logged x.there (ends x.logged x.event x.is_event (ap is_program x.command) (ap was_stopped x.done)
            (let knew : q.number < knows_engine x.logged = x.knew in omega arith)) in
            let more : ended_stripes (take (suc x.number) own) ≤ ended_stripes (take y own) = ended_within own (suc x.number) y above in
            let late : q.number < e.placed.number =
            earlier_placed log unit (ended_stripes (take x.number own)) (ended_stripes (take y own)) q e.placed (omega arith) x.in_order e.in_order in
            by (cases_order e.index k) e.at late (last y e)
          where
            rise : Rises (stripes_on (log_of w 0) o unit)
            rise = some_rise (λ (z : Placed). z.stripe.unit == unit) (stripes_of log o)
                (some_rise (λ (z : Placed). is_life o.number z.life) (placements log) (rise_all log))

            by : {m : ℕ} {r : Placed} → (m ≡ k) ⊎ ((m < k) ⊎ (k < m)) → slice_get (stripes_on (log_of w 0) o unit) m ≡ Some r
                → q.number < r.number → m ≤ k → ⊥
            by {m} {r} (inl same) at late few =
                let one : r ≡ q = same_Some r q (sym at ∙ ap (slice_get (stripes_on log o unit)) same ∙ its) in
                let number : r.number ≡ q.number = ap (λ (z : Placed). z.number) one in omega arith
            by {m} {r} (inr (inl below)) at late few =
                let early : r.number < q.number = rise_between (stripes_on log o unit) m k r q rise below at its in omega arith
            by (inr (inr past)) at late few = omega arith

        -- what its program left
        left : (d : Chunk) × (c ≡ appended i.shape d q.stripe.blocks) × (q.stripe.at ≡ pointer d)
        left =
            let n : ℕ = x.number in
            let is = stripe_is i w o q mount.legal line.opened of_opening in
            let d : IsDeed i w unit n x.logged = deed i w unit n x.logged mount.legal x.there in
            let event : d.event ≡ x.event = same_Some d.event x.event (sym d.is_event ∙ x.is_event) in
            let writes : d.event.command ≡ Write q.stripe.at q.stripe.blocks = ap (λ (e : UnitEvent). e.command) event ∙ x.command in
            let ended : d.event.outcome ≡ Answered Done = ap (λ (e : UnitEvent). e.outcome) event ∙ x.done in
            let placed : IsPlaced log q = placed_is log q is.0 in
            let own_chunk : q.stripe.chunk ≡ q.stripe.line =
            (placed_at i w q.number q.stripe placed.logged mount.legal placed.there placed.event).chunk in
            let chunk : d.event.chunk ≡ o.line = ap (λ (e : UnitEvent). e.chunk) event ∙ x.chunk ∙ own_chunk ∙ is.3 in
            let outcome : IsOutcome i.shape d.found (Write q.stripe.at q.stripe.blocks) (Answered Done) =
            subst (λ r. IsOutcome i.shape d.found (Write q.stripe.at q.stripe.blocks) r) ended
            (subst (λ r. IsOutcome i.shape d.found r d.event.outcome) writes d.outcome) in
            let after : chunk_after i (log_of w) o.line unit (suc n) ≡ Some (appended i.shape d.found q.stripe.blocks) =
            ap (λ y. chunk_after i (log_of w) y unit (suc n)) (sym chunk) ∙ d.left
            ∙ ap₂ (λ r t. Some (after_outcome i.shape d.found r t)) writes ended in
            let inside : n < length own = get_below own n x.logged x.there in
            let s = since i w mount.legal b.0 b.1 unit o.line o is_open in
            let opened : o.number < q.number = (opening_then log q.number q.stripe.line o is.2).2 in
            let knew : q.number < knows_engine x.logged = x.knew in
            let low : known s.logged (suc unit) ≤ n =
            (was_made i w (suc unit) n x.logged mount.legal x.there).knew 0 o.number s.logged (omega arith) s.there in
            let base_is : known s.logged (suc unit) ≡ base = named i w mount.legal b.0 b.1 unit o.line o is_open in (
              d.found,
              kept (suc n) (appended i.shape d.found q.stripe.blocks) (omega arith) (omega arith) after none_after,
              (write_placed i.shape d.found.state (pointer d.found) q.stripe.at (length q.stripe.blocks) outcome.1.0).pointer,
            )

        pub behind_last : IsBehind q
        behind_last =
            let d = left in
            let blocks : length q.stripe.blocks ≡ i.shape.ws_opt = stripe_count i w o q mount.accepted mount.legal line.opened of_opening in
            let far : pointer c ≡ pointer d.0 + length q.stripe.blocks = ap pointer d.1 ∙ length-append d.0.blocks q.stripe.blocks in
            let at : q.stripe.at ≡ pointer d.0 = d.2 in record {
              pointer_is = omega arith;
              state = λ below. ap (λ (y : Chunk). y.state) d.1
                  ∙ ap (λ t. if t then states.Open else states.Closed) (lt_true (pointer d.0 + length q.stripe.blocks) i.shape.clba (omega arith));
            }

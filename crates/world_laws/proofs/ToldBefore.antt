-- Of two commands of a chunk that weren't stopped, programs or resets, the engine had named the
-- earlier one when the unit made the later one: a stripe is placed only where the one before it is
-- answered, a line is freed only where its stripes are answered, and opened only where its resets
-- are told.
use Rattle.std.proofs.Common.{◌≡◌, ℕ, ◌+◌, ◌-◌, ◌<◌, ◌≤◌, ◌⊎◌, inl, inr, suc, zero, Bool, true, false, Some, List, length, take, refl, sym, subst, ap, ◌∙◌, arith}
use Rattle.std.specs.Prelude.{slice_get, slice_index}
use Rattle.std.specs.Option.{option_and_then}
use Rattle.std.proofs.lemmas.Bool.{cases_lt, cases_order}
use Rattle.std.proofs.lemmas.Option.{same_Some}
use Rattle.pblk_model.specs.Found.{IsUsed}
use Rattle.pblk_model.specs.Chunk.{Chunk}
use Rattle.pblk_model.specs.ChunkStep.{ChunkCommand, Write, Read, Reset, Done}
use Rattle.pblk_model.specs.UnitLog.{UnitEvent, Answered, Failed, Stopped, IsOutcome, after_log, after_outcome}
use Rattle.pblk_model.specs.Image.{Image}
use Rattle.pblk_laws.proofs.UnitChunks.{log_count}
use Rattle.pblk_world.specs.Events.{Decides, Open, Logged}
use Rattle.pblk_world.specs.World.{World, log_of, known, knows_engine, unit_event_of}
use Rattle.pblk_world.specs.EngineLog.{Begun, begun, Opened, is_opened, life_of}
use Rattle.pblk_world.specs.Lines.{is_empty_state}
use Rattle.pblk_world.specs.Commanding.{is_program, is_reset, was_stopped, has_stopped, ended_stripes}
use Rattle.pblk_world.specs.Legal.{IsLegal}
use Rattle.pblk_world.proofs.Growing.{knowledge_rises}
use Rattle.pblk_world.proofs.LinesLemmas.{used_is}
use Rattle.pblk_model.proofs.Options.{split_then}
use Rattle.pblk_model.proofs.Parts.{get_below, got_within}
use Rattle.world_laws.specs.UnitChunks.{chunk_after, first_events}
use Rattle.world_laws.specs.UnitPrograms.{IsProgramOfStripe}
use Rattle.world_laws.proofs.NamedPrefixes.{IsByPrefixes, was_made}
use Rattle.world_laws.proofs.Deeds.{IsDeed, deed}
use Rattle.world_laws.proofs.FirstEvent.{IsBeginning, beginning_of, only_fetches}
use Rattle.world_laws.proofs.FoundEmpty.{empty_by_told}
use Rattle.world_laws.proofs.KnownEmpty.{IsEmptySince, IsToldReset}
use Rattle.world_laws.proofs.LastUses.{IsOfChunk, IsWrittenBy, LastUse, last_use, reset_leaves_empty}
use Rattle.world_laws.proofs.NextLives.{IsDecided, IsPlacedIn, decided, placed_in}
use Rattle.world_laws.proofs.Programs.{program_of_stripe}
use Rattle.world_laws.proofs.Resets.{IsReset, reset, not_opened}
use Rattle.world_laws.proofs.Stops.{still_stopped, stopped_here}
use Rattle.world_laws.proofs.StripeLines.{IsGone, earlier_told, open_or_gone}
use Rattle.world_laws.proofs.Tellings.{IsNamedAt, IsTold, IsToldBefore, ended_one, ended_within, ends, its_program, last_program, named_known, one_naming}

pub no_both : {X : Type 0} {b : Bool} → b ≡ true → b ≡ false → X
no_both p q = absurd cc

module _ (i : Image) (w : World) (legal : IsLegal i w) (b : Begun) (begins : begun (log_of w 0) ≡ Some b) (unit line : ℕ) where
  abbrev log : List Logged
  log = log_of w 0

  abbrev own : List Logged
  own = log_of w (suc unit)

  abbrev base : ℕ
  base = slice_index b.knows (suc unit)

  -- a command of the chunk from the mount's beginning on that wasn't stopped
  pub record IsCommandOf (test : ChunkCommand → Bool) (n : ℕ) (l : Logged) (e : UnitEvent) : Type 0 where
    pub from : slice_index b.knows (suc unit) ≤ n
    pub at : IsOfChunk i w legal unit line test n l e
    pub going : was_stopped e.outcome ≡ false

  -- the engine's event of number q, which the unit's event knew, names event n
  pub record IsNamedFor (n : ℕ) (l : Logged) : Type 0 where
    pub at : ℕ
    pub known : at < knows_engine l
    pub named : IsNamedAt i w legal unit at n

  named_later : (n m k : ℕ) (l x : Logged) → m ≤ k → slice_get own m ≡ Some l → slice_get own k ≡ Some x → IsNamedFor n l → IsNamedFor n x
  named_later n m k l x within there later h =
      let low : h.at < knows_engine l = h.known in
      let more : knows_engine l ≤ knows_engine x = knowledge_rises i w (suc unit) 0 m k l x legal within there later in
      record { at = h.at; known = omega arith; named = h.named }

  -- ---- programs

  pub record IsProgram (n : ℕ) (l : Logged) (e : UnitEvent) : Type 0 where
    pub knew : 0 < knows_engine l
    pub stripe : IsProgramOfStripe (log_of w) unit n l e
    pub placed : IsPlacedIn i w legal unit (ended_stripes (take n (log_of w (suc unit)))) stripe.placed
    pub its_line : stripe.placed.stripe.line ≡ line

  pub program : (n : ℕ) (l : Logged) (e : UnitEvent) → slice_index b.knows (suc unit) ≤ n → IsOfChunk i w legal unit line is_program n l e → IsProgram n l e
  program n l e from at =
      let knew : 0 < knows_engine l = go (cases_lt 0 (knows_engine l)) in
      let s : IsProgramOfStripe (log_of w) unit n l e = program_of_stripe i w unit n l e legal at.there at.is_event at.passes knew in
      let p : IsPlacedIn i w legal unit (ended_stripes (take n own)) s.placed = placed_in i w legal unit (ended_stripes (take n own)) s.placed s.in_order in
      record { knew = knew; stripe = s; placed = p; its_line = sym p.chunk ∙ sym s.chunk ∙ at.its_chunk }
    where
      go : (0 < knows_engine l) ⊎ (knows_engine l ≤ 0) → 0 < knows_engine l
      go (inl some) = some
      go (inr none) =
          let fetch = only_fetches i w legal b begins unit n l e from at.there at.is_event none in
          no_both at.passes (ap is_program fetch.1)

  ending : (n : ℕ) (l : Logged) (e : UnitEvent) → IsCommandOf is_program n l e → ended_stripes (take (suc n) own) ≡ ended_stripes (take n own) + 1
  ending n l e h = ended_one own n l h.at.there (ends l e h.at.is_event h.at.passes h.going (program n l e h.from h.at).knew)

  -- it is what is told of its stripe
  pub told_itself : (n k : ℕ) (l : Logged) (e : UnitEvent) → IsCommandOf is_program n l e → (t : IsToldBefore i w legal unit (ended_stripes (take n own)) k)
      → IsNamedAt i w legal unit t.at n
  told_itself n k l e h t =
      let same : n ≡ t.told.number =
      its_program i w legal unit (ended_stripes (take n own)) t.at n l t.told refl h.at.there
      (ends l e h.at.is_event h.at.passes h.going (program n l e h.from h.at).knew) in
      subst (IsNamedAt i w legal unit t.at) (sym same) t.told.named

  -- a program, and a later program
  two_programs : (n m : ℕ) (l x : Logged) (e f : UnitEvent) → n < m → IsCommandOf is_program n l e → IsCommandOf is_program m x f → IsNamedFor n x
  two_programs n m l x e f below first second =
      let p : IsProgram n l e = program n l e first.from first.at in
      let q : IsProgram m x f = program m x f second.from second.at in
      let one : ended_stripes (take (suc n) own) ≡ ended_stripes (take n own) + 1 = ending n l e first in
      let more : ended_stripes (take (suc n) own) ≤ ended_stripes (take m own) = ended_within own (suc n) m (omega arith) in
      let t : IsToldBefore i w legal unit (ended_stripes (take n own)) q.stripe.placed.number =
      earlier_told i w legal unit (ended_stripes (take n own)) (ended_stripes (take m own)) p.stripe.placed q.stripe.placed
      (omega arith) p.stripe.in_order q.stripe.in_order in
      let known : q.stripe.placed.number < knows_engine x = q.stripe.was_known in
      let before : t.at < q.stripe.placed.number = t.before in
      record { at = t.at; known = omega arith; named = told_itself n q.stripe.placed.number l e first t }

  -- ---- resets

  pub record IsResetOf (n : ℕ) (l : Logged) (e : UnitEvent) : Type 0 where
    pub knew : 0 < knows_engine l
    pub closed : is_opened (life_of (take (knows_engine l) (log_of w 0)) line) ≡ false
    pub found : Chunk
    pub there : chunk_after i (log_of w) line unit n ≡ Some found
    pub used : is_empty_state found.state ≡ false
    pub left : Chunk
    pub after : chunk_after i (log_of w) line unit (suc n) ≡ Some left
    pub empty : is_empty_state left.state ≡ true

  reset_is : (command : ChunkCommand) → is_reset command ≡ true → command ≡ Reset
  reset_is (Write at blocks) e = absurd cc
  reset_is (Read at) e = absurd cc
  reset_is Reset e = refl

  its_reset : (n : ℕ) (l : Logged) (e : UnitEvent) → IsCommandOf is_reset n l e → IsResetOf n l e
  its_reset n l e h =
      let d : IsDeed i w unit n l = deed i w unit n l legal h.at.there in
      let same : d.event ≡ e = same_Some d.event e (sym d.is_event ∙ h.at.is_event) in
      let is : d.event.command ≡ Reset = ap (λ (x : UnitEvent). x.command) same ∙ reset_is e.command h.at.passes in
      let r : IsReset i w legal unit n l h.at.there d = reset i w legal unit n l h.at.there d is in
      let its : d.event.chunk ≡ line = ap (λ (x : UnitEvent). x.chunk) same ∙ h.at.its_chunk in
      let going : was_stopped d.event.outcome ≡ false = ap (λ (x : UnitEvent). was_stopped x.outcome) same ∙ h.going in
      record {
        knew = r.knew;
        closed = ap (λ m. is_opened (life_of (take (knows_engine l) log) m)) (sym its) ∙ not_opened i w legal unit n l h.at.there d r;
        found = d.found;
        there = ap (λ m. chunk_after i (log_of w) m unit n) (sym its) ∙ d.there;
        used = used d going r.used;
        left = after_outcome i.shape d.found d.event.command d.event.outcome;
        after = ap (λ m. chunk_after i (log_of w) m unit (suc n)) (sym its) ∙ d.left;
        empty = ap (λ x. is_empty_state (after_outcome i.shape d.found x d.event.outcome).state) is
            ∙ reset_leaves_empty i.shape d.found d.event.outcome (subst (λ x. IsOutcome i.shape d.found x d.event.outcome) is d.outcome) going;
      }
    where
      used : (d : IsDeed i w unit n l) → was_stopped d.event.outcome ≡ false → IsUsed d.found.state ⊎ (d.event.outcome ≡ Stopped 0)
          → is_empty_state d.found.state ≡ false
      used d going (inl is) = used_is d.found.state is
      used d going (inr stopped) = no_both (ap was_stopped stopped) going

  -- a program, and a later reset
  program_reset : (n m : ℕ) (l x : Logged) (e f : UnitEvent) → n < m → IsCommandOf is_program n l e → IsCommandOf is_reset m x f → IsNamedFor n x
  program_reset n m l x e f below first second =
      let p : IsProgram n l e = program n l e first.from first.at in
      let r : IsResetOf m x f = its_reset m x f second in
      let known : p.stripe.placed.number < knows_engine l = p.stripe.was_known in
      let more : knows_engine l ≤ knows_engine x = knowledge_rises i w (suc unit) 0 n m l x legal (omega arith) first.at.there second.at.there in
      let made : IsByPrefixes i w (suc unit) m x = was_made i w (suc unit) m x legal second.at.there in
      go p r (open_or_gone i w legal unit (ended_stripes (take n own)) p.stripe.placed p.stripe.in_order (knows_engine x) (omega arith) (made.within 0))
    where
      go : (p : IsProgram n l e) → IsResetOf m x f
          → (life_of (take (knows_engine x) log) p.stripe.placed.stripe.line ≡ Opened
          (placed_in i w legal unit (ended_stripes (take n own)) p.stripe.placed p.stripe.in_order).opening)
          ⊎ IsGone i w legal unit (ended_stripes (take n own)) p.stripe.placed p.stripe.in_order (knows_engine x) → IsNamedFor n x
      go p r (inl open_now) = no_both (ap (λ k. is_opened (life_of (take (knows_engine x) log) k)) (sym p.its_line) ∙ ap is_opened open_now) r.closed
      go p r (inr gone) =
          let before : gone.told.at < gone.freed.number = gone.told.before in
          let freed : gone.freed.number < knows_engine x = gone.freed.before in
          record { at = gone.told.at; known = omega arith; named = told_itself n gone.freed.number l e first gone.told }

  -- ---- a reset, and a later program

  -- a reset that knew of the opening of a later program's line would have come after the line was
  -- freed
  late_reset : (n m : ℕ) (l x : Logged) (e f : UnitEvent) → n < m → IsCommandOf is_reset n l e → (q : IsProgram m x f)
      → q.placed.opening.number < knows_engine l → ⊥
  late_reset n m l x e f below first q knew = go (cases_lt q.stripe.placed.number (knows_engine l))
    where
      closed : is_opened (life_of (take (knows_engine l) log) q.stripe.placed.stripe.line) ≡ false
      closed = ap (λ k. is_opened (life_of (take (knows_engine l) log) k)) q.its_line ∙ (its_reset n l e first).closed

      made : IsByPrefixes i w (suc unit) n l
      made = was_made i w (suc unit) n l legal first.at.there

      by_gone : IsGone i w legal unit (ended_stripes (take m own)) q.stripe.placed q.stripe.in_order (knows_engine l) → ⊥
      by_gone gone =
          let t : IsTold i w legal unit (ended_stripes (take m own)) gone.told.at = gone.told.told in
          let early : gone.told.at < gone.freed.number = gone.told.before in
          let freed : gone.freed.number < knows_engine l = gone.freed.before in
          let last : m ≤ t.number = last_program i w legal unit (ended_stripes (take m own)) gone.told.at m t refl in
          let known_there : t.number < known t.named.logged (suc unit) = named_known i w legal unit gone.told.at t.number t.named in
          let within : known t.named.logged (suc unit) ≤ n = made.knew 0 gone.told.at t.named.logged (omega arith) t.named.there in
          absurd (omega arith)

      go : (q.stripe.placed.number < knows_engine l) ⊎ (knows_engine l ≤ q.stripe.placed.number) → ⊥
      go (inr low) = no_both (ap is_opened (q.placed.open_from.since (knows_engine l) knew low)) closed
      go (inl high) = by (open_or_gone i w legal unit (ended_stripes (take m own)) q.stripe.placed q.stripe.in_order (knows_engine l) high (made.within 0))
        where
          by : (life_of (take (knows_engine l) log) q.stripe.placed.stripe.line ≡ Opened
              (placed_in i w legal unit (ended_stripes (take m own)) q.stripe.placed q.stripe.in_order).opening)
              ⊎ IsGone i w legal unit (ended_stripes (take m own)) q.stripe.placed q.stripe.in_order (knows_engine l) → ⊥
          by (inl open_now) = no_both (ap is_opened open_now) closed
          by (inr gone) = by_gone gone

  abbrev pub IsActive : ℕ → Logged → UnitEvent → Type 0
  IsActive n l e = IsCommandOf is_program n l e ⊎ IsCommandOf is_reset n l e

  abbrev pub AreNamedBelow : ℕ → Type 0
  AreNamedBelow top = (n m : ℕ) (l x : Logged) (e f : UnitEvent) → n < m → m < top → IsActive n l e → IsActive m x f → IsNamedFor n x

  -- the unit's chunks when the mount began
  pub record IsFoundChunk : Type 0 where
    pub chunks : List Chunk
    pub has : slice_get i.units unit ≡ Some chunks
    pub chunk : Chunk
    pub at : slice_get (after_log i.shape chunks (first_events (log_of w) unit (slice_index b.knows (suc unit)))) line ≡ Some chunk
    pub there : chunk_after i (log_of w) line unit (slice_index b.knows (suc unit)) ≡ Some chunk

  pub found_chunk : (n : ℕ) (c : Chunk) → chunk_after i (log_of w) line unit n ≡ Some c → IsFoundChunk
  unfolding chunk_after
  found_chunk n c there =
      let its = split_then (λ (cs : List Chunk). slice_get (after_log i.shape cs (first_events (log_of w) unit n)) line) (slice_get i.units unit) c there in
      let long : length (after_log i.shape its.0 (first_events (log_of w) unit n)) ≡ length its.0 = log_count i.shape its.0 (first_events (log_of w) unit n) in
      let same : length (after_log i.shape its.0 (first_events (log_of w) unit base)) ≡ length its.0 = log_count i.shape its.0
      (first_events (log_of w) unit base) in
      let inside : line < length (after_log i.shape its.0 (first_events (log_of w) unit n)) = get_below
      (after_log i.shape its.0 (first_events (log_of w) unit n)) line c its.2 in
      let at = got_within (after_log i.shape its.0 (first_events (log_of w) unit base)) line (omega arith) in
      record {
        chunks = its.0;
        has = its.1;
        chunk = at.0;
        at = at.1;
        there = ap (option_and_then (λ (cs : List Chunk). slice_get (after_log i.shape cs (first_events (log_of w) unit base)) line)) its.1 ∙ at.1;
      }

  -- what comes before a command that wasn't stopped wasn't stopped
  pub going_before : (n m : ℕ) (l x : Logged) (e f : UnitEvent) → n < m → slice_get own n ≡ Some l → unit_event_of l.event ≡ Some e → slice_get own m ≡ Some x
      → unit_event_of x.event ≡ Some f
      → was_stopped f.outcome ≡ false → was_stopped e.outcome ≡ false
  going_before n m l x e f below there is later its going = go (was_stopped e.outcome) refl
    where
      inside : m < length own
      inside = get_below own m x later

      go : (t : Bool) → was_stopped e.outcome ≡ t → was_stopped e.outcome ≡ false
      go false same = same
      go true same =
          let d : IsDeed i w unit m x = deed i w unit m x legal later in
          let far : suc n + (m - suc n) ≡ m = omega arith in
          let was : has_stopped (first_events (log_of w) unit m) ≡ true =
          ap (λ k. has_stopped (first_events (log_of w) unit k)) (sym far)
          ∙ still_stopped i w legal unit (suc n) (m - suc n) (omega (arith, inside)) (stopped_here i w legal unit n l e there is same) in
          let one : d.event ≡ f = same_Some d.event f (sym d.is_event ∙ its) in
          no_both (ap (λ (y : UnitEvent). was_stopped y.outcome) (sym one) ∙ ap was_stopped (d.stopped was)) going

  -- a reset that the engine was told of
  pub told_reset : (k : ℕ) (cs : List Chunk) (r : IsToldReset i w legal unit cs line k) → IsCommandOf is_reset r.number r.telling.logged r.event
  told_reset k cs r =
      let at : IsOfChunk i w legal unit line is_reset r.number r.telling.logged r.event = record {
        there = r.telling.there;
        is_event = r.telling.is_event;
        its_chunk = r.its_chunk;
        passes = ap is_reset r.reset;
      } in
      record { from = from at; at = at; going = going r.telling.kind }
    where
      going : ((is_program r.event.command ≡ true)
          × ((r.event.outcome ≡ Answered Done) ⊎ ((m : ℕ) × (r.event.outcome ≡ Failed m)))) ⊎ ((r.event.command ≡ Reset)
          × (was_stopped r.event.outcome ≡ false))
          → was_stopped r.event.outcome ≡ false
      going (inl p) = no_both p.0 (ap is_program r.reset)
      going (inr q) = q.1

      first : IsBeginning i w b
      first = beginning_of i w b legal begins

      from : IsOfChunk i w legal unit line is_reset r.number r.telling.logged r.event → base ≤ r.number
      from at =
          let d : IsDeed i w unit r.number r.telling.logged = deed i w unit r.number r.telling.logged legal at.there in
          let same : d.event ≡ r.event = same_Some d.event r.event (sym d.is_event ∙ at.is_event) in
          let knew = (reset i w legal unit r.number r.telling.logged at.there d (ap (λ (y : UnitEvent). y.command) same ∙ r.reset)).knew in
          let within : known first.logged (suc unit) ≤ r.number =
          (was_made i w (suc unit) r.number r.telling.logged legal at.there).knew 0 0 first.logged knew first.there in
          let here : known first.logged (suc unit) ≡ base = ap (λ ks. slice_index ks (suc unit)) first.knows in
          omega arith

  -- a naming knows what it names
  pub names_later : (q n : ℕ) (l : Logged) → slice_get own n ≡ Some l → (at : IsNamedAt i w legal unit q n) → knows_engine l ≤ q
  names_later q n l there at = (was_made i w 0 q at.logged legal at.there).knew (suc unit) n l (named_known i w legal unit q n at) there

  -- A chunk that the engine knew as empty holds something, by programs that were all named. Then
  -- the engine was told of a reset that is still to come.
  module _ (n k : ℕ) (c : Chunk) (low : slice_index b.knows (suc unit) ≤ n) (inside : n ≤ length (log_of w (suc unit)))
      (there : chunk_after i (log_of w) line unit n ≡ Some c)
      (used : is_empty_state c.state ≡ false) (found : IsFoundChunk)
      (below : AreNamedBelow n)
      (going : (y : ℕ) (l : Logged) (e : UnitEvent) → slice_index b.knows (suc unit) ≤ y → y < n → IsOfChunk i w legal unit line is_program y l e
      → was_stopped e.outcome ≡ false)
      (named : (y : ℕ) (l : Logged) (e : UnitEvent) → y < n → IsCommandOf is_program y l e → (q : ℕ) × (q < k) × IsNamedAt i w legal unit q y) where
    abbrev cs : List Chunk
    cs = after_log i.shape found.chunks (first_events (log_of w) unit (slice_index b.knows (suc unit)))

    pub record IsToldLater : Type 0 where
      pub told : IsToldReset i w legal unit cs line k
      pub past : n ≤ told.number

    abbrev Use : Type 0
    Use = LastUse i w legal unit line (slice_index b.knows (suc unit)) n

    last : Use
    last =
        let far : base + (n - base) ≡ n = omega arith in
        subst (LastUse i w legal unit line base) far
        (last_use i w legal unit line base (n - base) c (omega arith) (ap (chunk_after i (log_of w) line unit) far ∙ there) used)

    command_of : (y : IsWrittenBy i w legal unit line base n) → IsCommandOf is_program y.number y.logged y.event
    command_of y = record { from = y.first; at = y.program; going = going y.number y.logged y.event y.first y.before y.program }

    never_told : IsEmptySince i w legal unit cs line k → Use → IsToldLater
    never_told h (inl was) =
        let one : h.chunk ≡ found.chunk = same_Some h.chunk found.chunk (sym h.there ∙ found.at) in
        let two : found.chunk ≡ was.chunk = same_Some found.chunk was.chunk (sym found.there ∙ was.there) in
        no_both h.empty (ap (λ (x : Chunk). is_empty_state x.state) (one ∙ two) ∙ was.used)
    never_told h (inr y) =
        let at = named y.number y.logged y.event y.before (command_of y) in
        no_both (h.since at.0 y.number y.logged y.event (omega arith) at.1 at.2 y.program) (going y.number y.logged y.event y.first y.before y.program)

    told_early : (r : IsToldReset i w legal unit cs line k) → r.number < n → Use → IsToldLater
    told_early r before (inl was) =
        let z : IsCommandOf is_reset r.number r.telling.logged r.event = told_reset k cs r in
        no_both (was.since r.number r.telling.logged r.event z.from before z.at) z.going
    told_early r before (inr y) = go (cases_order r.number y.number)
      where
        z : IsCommandOf is_reset r.number r.telling.logged r.event
        z = told_reset k cs r

        go : (r.number ≡ y.number) ⊎ ((r.number < y.number) ⊎ (y.number < r.number)) → IsToldLater
        go (inl same) =
            let one : r.telling.logged ≡ y.logged = same_Some r.telling.logged y.logged (sym z.at.there ∙ ap (slice_get own) same ∙ y.program.there) in
            let event : r.event ≡ y.event = same_Some r.event y.event (sym z.at.is_event ∙ ap (λ (x : Logged). unit_event_of x.event) one
            ∙ y.program.is_event) in
            no_both y.program.passes (ap (λ (x : UnitEvent). is_program x.command) (sym event) ∙ ap is_program r.reset)
        go (inr (inr above)) = no_both (y.since r.number r.telling.logged r.event (omega arith) before z.at) z.going
        go (inr (inl under)) =
            let h : IsNamedFor r.number y.logged = below r.number y.number r.telling.logged y.logged r.event y.event under y.before (inr z)
            (inl (command_of y)) in
            let at = named y.number y.logged y.event y.before (command_of y) in
            let same : h.at ≡ r.at = one_naming i w legal unit h.at r.at r.number h.named r.telling.named in
            let knew : h.at < knows_engine y.logged = h.known in
            let later : knows_engine y.logged ≤ at.0 = names_later at.0 y.number y.logged y.program.there at.2 in
            no_both (r.since at.0 y.number y.logged y.event (omega arith) at.1 at.2 y.program) (going y.number y.logged y.event y.first y.before y.program)

    pub told_later : IsEmptySince i w legal unit cs line k ⊎ IsToldReset i w legal unit cs line k → IsToldLater
    told_later (inl h) = never_told h last
    told_later (inr r) = go (cases_lt r.number n)
      where
        go : (r.number < n) ⊎ (n ≤ r.number) → IsToldLater
        go (inl before) = told_early r before last
        go (inr past) = record { told = r; past = past }

  fewer : (n m : ℕ) → n ≤ m → AreNamedBelow m → AreNamedBelow n
  fewer n m within below j k l x e f before top = below j k l x e f before (omega arith)

  -- ---- the induction

  module _ (m : ℕ) (below : AreNamedBelow m) where
    reset_program : (n : ℕ) (l x : Logged) (e f : UnitEvent) → n < m → IsCommandOf is_reset n l e → IsCommandOf is_program m x f → IsNamedFor n x
    reset_program n l x e f before first second = go (cases_lt q.placed.opening.number (knows_engine l))
      where
        q : IsProgram m x f
        q = program m x f second.from second.at

        r : IsResetOf n l e
        r = its_reset n l e first

        found : IsFoundChunk
        found = found_chunk n r.found r.there

        by_told : (z : IsToldReset i w legal unit
            (after_log i.shape found.chunks (first_events (log_of w) unit (slice_index b.knows (suc unit)))) line q.placed.opening.number) → n ≤ z.number
            → IsNamedFor n x
        by_told z past = by (cases_order n z.number)
          where
            opened : q.placed.opening.number < q.stripe.placed.number
            opened = q.placed.open_from.before

            placed : q.stripe.placed.number < knows_engine x
            placed = q.stripe.was_known

            inside : z.number < m
            inside =
                let near : z.number < known z.telling.named.logged (suc unit) = named_known i w legal unit z.at z.number z.telling.named in
                let early : z.at < q.placed.opening.number = z.before in
                let more : known z.telling.named.logged (suc unit) ≤ known q.placed.logged (suc unit) =
                knowledge_rises i w 0 (suc unit) z.at q.stripe.placed.number z.telling.named.logged q.placed.logged legal
                (omega (arith, opened)) z.telling.named.there q.placed.decided.there in
                let few : known q.placed.logged (suc unit) ≤ m =
                (was_made i w (suc unit) m x legal second.at.there).knew 0 q.stripe.placed.number q.placed.logged placed q.placed.decided.there in
                omega arith

            by : (n ≡ z.number) ⊎ ((n < z.number) ⊎ (z.number < n)) → IsNamedFor n x
            by (inl same) =
                let early : z.at < q.placed.opening.number = z.before in
                record { at = z.at; known = omega (arith, opened, placed); named = subst (IsNamedAt i w legal unit z.at) (sym same) z.telling.named }
            by (inr (inl later)) =
                named_later n z.number m z.telling.logged x (omega (arith, inside)) z.telling.there second.at.there
                (below n z.number l z.telling.logged e z.event later inside (inr first) (inr (told_reset q.placed.opening.number _ z)))
            by (inr (inr above)) = absurd (omega arith)

        named : knows_engine l ≤ q.placed.opening.number → (y : ℕ) (k : Logged) (g : UnitEvent) → y < n → IsCommandOf is_program y k g → (p : ℕ)
            × (p < q.placed.opening.number) × IsNamedAt i w legal unit p y
        named low y k g under h =
            let its : IsNamedFor y l = program_reset y n k l g e under h first in
            let knew : its.at < knows_engine l = its.known in
            (its.at, omega arith, its.named)

        go : (q.placed.opening.number < knows_engine l) ⊎ (knows_engine l ≤ q.placed.opening.number) → IsNamedFor n x
        go (inl knew) = absurd (late_reset n m l x e f before first q knew)
        go (inr low) =
            let opening : IsDecided i w legal q.placed.opening.number (Open line q.placed.opening.start) q.placed.open_from.logged =
            decided i w legal q.placed.opening.number (Open line q.placed.opening.start) q.placed.open_from.logged q.placed.open_from.there
            (q.placed.open_from.event ∙ ap (λ k. Decides (Open k q.placed.opening.start)) q.its_line) in
            let inside : n < length own = get_below own n l first.at.there in
            let later = told_later n q.placed.opening.number r.found first.from (omega arith) r.there r.used found (fewer n m (omega arith) below)
            (λ y k g from under at. going_before y n k l g e under at.there at.is_event first.at.there first.at.is_event first.going) (named low)
            (empty_by_told i w legal b begins unit line q.placed.opening.number q.placed.opening.start q.placed.open_from.logged opening found.chunks found.has
            found.chunk found.at) in
            by_told later.told later.past

    two_resets : (n : ℕ) (l x : Logged) (e f : UnitEvent) → n < m → IsCommandOf is_reset n l e → IsCommandOf is_reset m x f → IsNamedFor n x
    two_resets n l x e f before first second = go (its_reset n l e first) (its_reset m x f second)
      where
        go : IsResetOf n l e → IsResetOf m x f → IsNamedFor n x
        go r t =
            let inside : m < length own = get_below own m x second.at.there in
            let far : suc n + (m - suc n) ≡ m = omega arith in
            by r (subst (LastUse i w legal unit line (suc n)) far
            (last_use i w legal unit line (suc n) (m - suc n) t.found (omega arith) (ap (chunk_after i (log_of w) line unit) far ∙ t.there) t.used))
          where
            by : IsResetOf n l e → LastUse i w legal unit line (suc n) m → IsNamedFor n x
            by r (inl was) =
                let same : r.left ≡ was.chunk = same_Some r.left was.chunk (sym r.after ∙ was.there) in
                no_both r.empty (ap (λ (y : Chunk). is_empty_state y.state) same ∙ was.used)
            by r (inr y) =
                let from : slice_index b.knows (suc unit) ≤ n = first.from in
                let above : suc n ≤ y.number = y.first in
                let under : y.number < m = y.before in
                let its : IsCommandOf is_program y.number y.logged y.event =
                record {
                  from = omega arith;
                  at = y.program;
                  going = going_before y.number m y.logged x y.event f under y.program.there y.program.is_event second.at.there second.at.is_event second.going;
                } in
                named_later n y.number m y.logged x (omega arith) y.program.there second.at.there
                (below n y.number l y.logged e y.event (omega arith) under (inr first) (inl its))

    named_step : (n : ℕ) (l x : Logged) (e f : UnitEvent) → n < m → IsActive n l e → IsActive m x f → IsNamedFor n x
    named_step n l x e f before (inl p) (inl q) = two_programs n m l x e f before p q
    named_step n l x e f before (inl p) (inr r) = program_reset n m l x e f before p r
    named_step n l x e f before (inr r) (inl q) = reset_program n l x e f before r q
    named_step n l x e f before (inr r) (inr t) = two_resets n l x e f before r t

  pub all_named : (top : ℕ) → AreNamedBelow top
  all_named zero n m l x e f before under = absurd (omega arith)
  all_named (suc top) n m l x e f before under = go (cases_lt m top) (all_named top)
    where
      go : (m < top) ⊎ (top ≤ m) → AreNamedBelow top → IsActive n l e → IsActive m x f → IsNamedFor n x
      go (inl low) below = below n m l x e f before low
      go (inr high) below = let same : top ≡ m = omega arith in named_step m (subst AreNamedBelow same below) n l x e f before

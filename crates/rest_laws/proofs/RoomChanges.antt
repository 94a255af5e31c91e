-- How the unplaced data addresses change with each step of a legal mount.
use Rattle.std.proofs.Common.{◌≡◌, ◌⊎◌, inl, inr, ℕ, ◌+◌, ◌<◌, ◌≤◌, suc, true, Some, List, [], ◌∷◌, ◌++◌, length, take, refl, sym, subst, ap, ap₂, ◌∙◌, arith, if◌then◌else◌}
use Rattle.std.specs.List.{Contains, list_all}
use Rattle.std.specs.Option.{option_and_then}
use Rattle.std.proofs.lemmas.Option.{same_Some}
use Rattle.std.proofs.lemmas.List.{take-append-le, take-take}
use Rattle.pblk_model.specs.Chunk.{Chunk}
use Rattle.pblk_model.specs.Image.{Image}
use Rattle.pblk_model.specs.LineOrder.{data_len}
use Rattle.pblk_model.specs.UnitLog.{UnitEvent}
use Rattle.pblk_world.specs.Answering.{IsNew, MayLand, MayNoteReset}
use Rattle.pblk_world.specs.Commanding.{ended_stripes}
use Rattle.pblk_world.specs.EngineLog.{Begun, begun, answers, is_as_found, life_of, LineLife, named_events, placed_on}
use Rattle.pblk_world.specs.Events.{Again, Begin, Decides, EngineEvent, Event, Free, Landed, Logged, Lost, Open, Place, ResetDone, Step, Stripe, Take}
use Rattle.pblk_world.specs.Freeing.{MayFree}
use Rattle.pblk_world.specs.Legal.{IsAllowed, IsLegal, IsLegalStep, MayDecide}
use Rattle.pblk_world.specs.Lines.{are_over, chunks_of, is_over_state}
use Rattle.pblk_world.specs.Opening.{MayOpen}
use Rattle.pblk_world.specs.Placing.{IsData, IsEnd, IsPad, IsStart, MayPlace}
use Rattle.pblk_world.specs.Space.{addresses, free_addresses, open_addresses}
use Rattle.pblk_world.specs.Starts.{seq_of}
use Rattle.pblk_world.specs.World.{World, Logs, known, log_of, prefixes, unit_event_at, unit_event_of}
use Rattle.pblk_world.proofs.Answered.{answers_fit}
use Rattle.pblk_world.proofs.Appending.{life_more}
use Rattle.pblk_world.proofs.Growing.{grows}
use Rattle.pblk_world.proofs.LegalLemmas.{whole_own}
use Rattle.pblk_world.proofs.LinesLemmas.{free_unopened}
use Rattle.pblk_world.proofs.WorldLemmas.{log_elsewhere}
use Rattle.pblk_model.proofs.Parts.{get_whole, get_whole_within}
use Rattle.pblk_world.specs.LegalMounts.{IsLegalMount, NoStripeLost}
use Rattle.world_laws.specs.SameTold.{AreSameTold}
use Rattle.world_laws.proofs.Made.{IsMade, known_within, step_by}
use Rattle.world_laws.proofs.ToldDecisions.{opening_told, placing_told}
use Rattle.world_laws.proofs.ToldImages.{image_same, told_back}
use Rattle.world_laws.proofs.ToldSince.{same_told, told_when_made}
use Rattle.world_laws.proofs.ToldTables.{addresses_told, seq_told}
use Rattle.core_laws.proofs.LosslessMounts.{IsLosslessMount}
use Rattle.core_laws.specs.Stepping.{after}
use Rattle.core_laws.proofs.EngineLogs.{logs_after}
use Rattle.core_laws.proofs.FreedLines.{free_freed, open_freed}
use Rattle.core_laws.proofs.IdleUnits.{idle_fits}
use Rattle.core_laws.proofs.LogOrders.{small_capacity}
use Rattle.core_laws.proofs.OpenAddresses.{addresses_kept, addresses_opened}
use Rattle.core_laws.proofs.PlacedAddresses.{data_addresses, other_addresses}
use Rattle.core_laws.proofs.Placing.{IsPlacing}
use Rattle.rest_laws.specs.RoomSteps.{free_data, has_entry, keeps_room}
use Rattle.rest_laws.proofs.FreeSteps.{free_kept, free_landed, free_opened, free_reset}
use Rattle.rest_laws.proofs.StripeEntries.{data_have_one, others_have_none}

-- ---- what may be by the logs that an event names may be by the whole ones

new_whole : (logs : Logs) (l : Logged) (unit number : ℕ) (e : UnitEvent) → prefixes l logs 0 ≡ logs 0 → IsNew (prefixes l logs) unit number e
    → IsNew logs unit number e
new_whole logs l unit number e own is = record {
  logged = is.logged;
  is_known = get_whole (known l (suc unit)) (logs (suc unit)) number is.logged is.is_known;
  event = is.event;
  once = λ named. is.once (subst (λ (xs : List Logged). Contains (named_events xs unit) number) (sym own) named);
}

pub land_whole : (logs : Logs) (l : Logged) (unit number : ℕ) → prefixes l logs 0 ≡ logs 0 → MayLand (prefixes l logs) unit number → MayLand logs unit number
land_whole logs l unit number own may =
    let at = get_whole_within (known l (suc unit)) (logs (suc unit)) number may.stripe.logged may.stripe.is_logged in
    record {
      program = may.program;
      new = new_whole logs l unit number may.program own may.new;
      stripe = record {
        program = may.stripe.program;
        logged = may.stripe.logged;
        is_logged = at.0;
        after_begin = may.stripe.after_begin;
        placed = subst (λ (xs : List Logged). length (answers xs unit) < length (placed_on xs unit)) own may.stripe.placed;
        its_turn = ap ended_stripes (sym (take-take number (known l (suc unit)) (logs (suc unit)) (omega (arith, at.1)))) ∙ may.stripe.its_turn
            ∙ ap (λ (xs : List Logged). length (answers xs unit)) own;
      };
      done = may.done;
    }

pub note_whole : (logs : Logs) (l : Logged) (unit number : ℕ) → prefixes l logs 0 ≡ logs 0 → MayNoteReset (prefixes l logs) unit number
    → MayNoteReset logs unit number
note_whole logs l unit number own may = record {
  reset = may.reset;
  new = new_whole logs l unit number may.reset own may.new;
  is_reset = may.is_reset;
  not_stopped = may.not_stopped;
}

module _ (i : Image) (s : Step) (w : World) (mount : IsLegalMount i (s ∷ w)) where
  pub before : IsLegalMount i w
  unfolding IsLegal
  before = record { accepted = mount.accepted; fit = mount.fit; legal = mount.legal.1 }

  step : IsLegalStep i (log_of w) s
  unfolding IsLegal
  step = mount.legal.0

  -- ---- a step of a unit

  pub unit_tells_none : (unit : ℕ) → s.author ≡ suc unit → AreSameTold i (log_of w) (log_of (s ∷ w))
  unit_tells_none unit own = same_told i w (log_of (s ∷ w)) before.legal (record {
    own = log_elsewhere s w 0 (λ e. absurd (omega (arith, own)));
    named = λ u l there. same_part u l there (log_part u);
  })
    where
      log_part : (u : ℕ) → (more : List Logged) × (log_of (s ∷ w) (suc u) ≡ log_of w (suc u) ++ more)
      log_part u = grows (s ∷ []) w (suc u)

      same_part : (u : ℕ) (l : Logged) → Contains (log_of w 0) l → (more : List Logged) × (log_of (s ∷ w) (suc u) ≡ log_of w (suc u) ++ more)
          → prefixes l (log_of (s ∷ w)) (suc u) ≡ prefixes l (log_of w) (suc u)
      same_part u l there more =
          ap (take (known l (suc u))) more.1
          ∙ take-append-le (known l (suc u)) (log_of w (suc u)) more.0 (known_within i w 0 (suc u) l before.legal there)

  pub unit_keeps : (unit : ℕ) → s.author ≡ suc unit → addresses i (log_of (s ∷ w)) ≡ addresses i (log_of w)
  unit_keeps unit own = addresses_told i (log_of w) (log_of (s ∷ w)) (unit_tells_none unit own)

  -- ---- a step of the engine

  module _ (e : EngineEvent) (own : s.author ≡ 0) (is : s.logged.event ≡ Decides e) (b : Begun) (begins : begun (log_of w 0) ≡ Some b) where
    abbrev named : Logs
    named = prefixes s.logged (log_of w)

    made : IsMade i (s ∷ w) 0 (length (log_of w 0)) s.logged
    made = record {
      before = w;
      later = [];
      whole = λ k. record { author = own k; logged = s.logged } ∷ w;
      here = refl;
      legal = before.legal;
      step = subst (IsLegalStep i (log_of w)) (λ k. record { author = own k; logged = s.logged }) step;
    }

    pub told : AreSameTold i (log_of w) (prefixes s.logged (log_of w))
    unfolding made
    told = told_when_made i (s ∷ w) (length (log_of w 0)) s.logged made

    pub whole : prefixes s.logged (log_of w) 0 ≡ log_of w 0
    unfolding made
    whole = whole_own i (step_by 0 s.logged) w made.step

    pub may : MayDecide i (prefixes s.logged (log_of w)) e
    unfolding made
    may = subst (λ (x : Event). IsAllowed i 0 x (prefixes s.logged (log_of w))) is made.step.allowed

    pub logs_are : log_of (s ∷ w) ≡ after (log_of w) e s.logged.knows
    logs_are = logs_after s w e own is

    -- a fact of the logs after the event as one of the logs after the step
    pub by_logs : (P : Logs → Type 0) → P (after (log_of w) e s.logged.knows) → P (log_of (s ∷ w))
    by_logs P = subst P (sym logs_are)

  -- what adds up stays
  same_sum : (a b c d : ℕ) → a ≡ b → c ≡ d → a + c ≡ b + d
  same_sum a b c d x y = ap₂ (λ m n. m + n) x y

  module _ (own : s.author ≡ 0) (b : Begun) (begins : begun (log_of w 0) ≡ Some b) where
    abbrev knows : List ℕ
    knows = s.logged.knows

    -- a line that is freed is over by the whole logs too, and has a sequence number by them
    pub line_freed : (line : ℕ) → s.logged.event ≡ Decides (Free line)
        → (seq : ℕ) × (line < i.shape.chunks) × (are_over i (log_of w) line ≡ true) × (seq_of i (log_of w) line ≡ Some seq)
    line_freed line is =
        let named_may : MayFree i (prefixes s.logged (log_of w)) line = (may (Free line) own is b begins).2 in
        let same : AreSameTold i (log_of w) (prefixes s.logged (log_of w)) = told (Free line) own is b begins in
        let over : are_over i (log_of w) line ≡ true =
        sym (ap₂ (λ (j : Image) (l : LineLife). list_all (λ (c : Chunk). is_over_state (is_as_found l) c.state) (chunks_of j line))
        (image_same i (log_of w) (prefixes s.logged (log_of w)) same)
        (ap (λ (xs : List Logged). life_of xs line) (whole (Free line) own is b begins))) ∙ named_may.over in
        let seq : seq_of i (log_of w) line ≡ Some named_may.seq = sym (seq_told i (log_of w) (prefixes s.logged (log_of w)) same line) ∙ named_may.has_seq in
        (named_may.seq, named_may.in_range, over, seq)

    quiet_event : (e : EngineEvent) → s.logged.event ≡ Decides e
        → open_addresses i (after (log_of w) e s.logged.knows) ≡ open_addresses i (log_of w)
        → free_addresses i (after (log_of w) e s.logged.knows) ≡ free_addresses i (log_of w)
        → addresses i (log_of (s ∷ w)) ≡ addresses i (log_of w)
    quiet_event e is open_same free_same =
        by_logs e own is b begins (λ ls. addresses i ls ≡ addresses i (log_of w))
        (same_sum (open_addresses i (after (log_of w) e knows)) (open_addresses i (log_of w)) (free_addresses i (after (log_of w) e knows))
        (free_addresses i (log_of w)) open_same free_same)

    pub engine_keeps : (e : EngineEvent) → s.logged.event ≡ Decides e → keeps_room e ≡ true → addresses i (log_of (s ∷ w)) ≡ addresses i (log_of w)
    engine_keeps (Begin x) is keeps = absurd cc
    engine_keeps (Place stripe) is keeps = absurd cc
    engine_keeps (Lost unit number) is keeps = absurd cc
    engine_keeps (ResetDone unit number) is keeps = absurd cc
    engine_keeps (Take entry mark) is keeps =
        quiet_event (Take entry mark) is (addresses_kept i (log_of w) (Take entry mark) knows refl)
        (free_kept i (log_of w) (Take entry mark) knows refl (λ unit. refl) (λ line.
        life_more (log_of w 0) (record { event = Decides (Take entry mark); knows = knows }) line))
    engine_keeps (Again unit number) is keeps =
        quiet_event (Again unit number) is (addresses_kept i (log_of w) (Again unit number) knows refl)
        (free_kept i (log_of w) (Again unit number) knows refl (λ u. refl) (λ line.
        life_more (log_of w 0) (record { event = Decides (Again unit number); knows = knows }) line))
    engine_keeps (Landed unit number) is keeps =
        quiet_event (Landed unit number) is (addresses_kept i (log_of w) (Landed unit number) knows refl)
        (free_landed i w before unit number knows
        (land_whole (log_of w) s.logged unit number (whole (Landed unit number) own is b begins) (may (Landed unit number) own is b begins).2))
    engine_keeps (Open line start) is keeps =
        let named_may = may (Open line start) own is b begins in
        let now : MayOpen i (log_of w) named_may.0 line start =
        opening_told i (prefixes s.logged (log_of w)) (log_of w)
        (told_back i (log_of w) (prefixes s.logged (log_of w)) (told (Open line start) own is b begins))
        named_may.0 line start named_may.2 in
        let more : open_addresses i (after (log_of w) (Open line start) knows) ≡ open_addresses i (log_of w) + data_len i.shape start.width =
        addresses_opened i (log_of w) line start knows now.in_range (free_unopened i (log_of w) line now.is_free) in
        let less : free_addresses i (log_of w) ≡ free_addresses i (after (log_of w) (Open line start) knows) + data_len i.shape start.width =
        free_opened i (log_of w) named_may.0 line start knows now in
        by_logs (Open line start) own is b begins (λ ls. addresses i ls ≡ addresses i (log_of w))
        (moved (open_addresses i (after (log_of w) (Open line start) knows)) (open_addresses i (log_of w))
        (free_addresses i (after (log_of w) (Open line start) knows)) (free_addresses i (log_of w)) (data_len i.shape start.width) more less)
      where
        moved : (a b c d n : ℕ) → a ≡ b + n → d ≡ c + n → a + c ≡ b + d
        moved a b c d n x y = omega arith
    engine_keeps (Free line) is keeps =
        let it = line_freed line is in
        quiet_event (Free line) is (open_freed i w before line knows it.2) (free_freed i w before line knows it.2 b begins it.0 it.3)

    -- a stripe
    module _ (none : NoStripeLost (log_of w 0)) where
      lossless : IsLosslessMount i w
      lossless = record { mount = before; none_lost = none }

      pub stripe_takes : (stripe : Stripe) → s.logged.event ≡ Decides (Place stripe)
          → addresses i (log_of w) ≡ addresses i (log_of (s ∷ w)) + (if has_entry i.shape stripe then i.shape.ws_opt else 0)
      stripe_takes stripe is =
          by_logs (Place stripe) own is b begins (λ ls. addresses i (log_of w) ≡ addresses i ls + (if has_entry i.shape stripe then i.shape.ws_opt else 0))
          (by_kind now.kind)
        where
          now : MayPlace i (log_of w) stripe
          now = placing_told i (prefixes s.logged (log_of w)) (log_of w)
              (told_back i (log_of w) (prefixes s.logged (log_of w)) (told (Place stripe) own is b begins)) stripe (may (Place stripe) own is b begins).2

          placing : IsPlacing (log_of w 0) stripe now.opening
          placing = record {
            opened = now.is_open;
            idle = both_ways (answers_fit i w stripe.unit before.legal) (idle_fits (log_of w 0) stripe.unit now.idle);
          }
            where
              both_ways : {a b : ℕ} → a ≤ b → b ≤ a → a ≡ b
              both_ways x y = omega (arith, x, y)

          free_same : free_addresses i (after (log_of w) (Place stripe) s.logged.knows) ≡ free_addresses i (log_of w)
          free_same = free_kept i (log_of w) (Place stripe) knows refl (λ unit. refl) (λ line.
              life_more (log_of w 0) (record { event = Decides (Place stripe); knows = knows }) line)

          sums : (a b c d n : ℕ) → a ≡ b + n → d ≡ c → a + c ≡ b + d + n
          sums a b c d n x y = omega arith

          by_others : IsStart i (log_of w) now.opening stripe ⊎ (IsEnd i (log_of w) now.opening stripe ⊎ IsPad i (log_of w) now.opening stripe)
              → addresses i (log_of w)
              ≡ addresses i (after (log_of w) (Place stripe) s.logged.knows) + (if has_entry i.shape stripe then i.shape.ws_opt else 0)
          by_others kind =
              let open_same : open_addresses i (after (log_of w) (Place stripe) knows) ≡ open_addresses i (log_of w) =
              other_addresses i (log_of w) stripe knows now.opening before.accepted.drive placing now.in_range kind in
              let old : ℕ = open_addresses i (log_of w) in
              let new : ℕ = open_addresses i (after (log_of w) (Place stripe) knows) in
              sums old new (free_addresses i (log_of w)) (free_addresses i (after (log_of w) (Place stripe) knows)) 0
              (with_none old new open_same) free_same
              ∙ ap (λ n. addresses i (after (log_of w) (Place stripe) knows) + n)
              (ap (λ t. if t then i.shape.ws_opt else 0) (sym (others_have_none i (log_of w) now.opening stripe (small_capacity i before.accepted) kind)))
            where
              with_none : (a b : ℕ) → b ≡ a → a ≡ b + 0
              with_none a b x = omega arith

          by_kind : IsStart i (log_of w) now.opening stripe ⊎ (IsData i (log_of w) now.opening stripe
              ⊎ (IsEnd i (log_of w) now.opening stripe ⊎ IsPad i (log_of w) now.opening stripe))
              → addresses i (log_of w)
              ≡ addresses i (after (log_of w) (Place stripe) s.logged.knows) + (if has_entry i.shape stripe then i.shape.ws_opt else 0)
          by_kind (inl start) = by_others (inl start)
          by_kind (inr (inr rest)) = by_others (inr rest)
          by_kind (inr (inl data_is)) =
              sums (open_addresses i (log_of w)) (open_addresses i (after (log_of w) (Place stripe) knows)) (free_addresses i (log_of w))
              (free_addresses i (after (log_of w) (Place stripe) knows)) i.shape.ws_opt
              (data_addresses i (log_of w) stripe knows now.opening before.accepted.drive placing now.in_range data_is) free_same
              ∙ ap (λ n. addresses i (after (log_of w) (Place stripe) knows) + n)
              (ap (λ t. if t then i.shape.ws_opt else 0) (sym (data_have_one i w now.opening stripe lossless data_is)))

    -- a reset
    pub reset_gives : (unit number : ℕ) (u : UnitEvent) → s.logged.event ≡ Decides (ResetDone unit number)
        → unit_event_at (log_of w) unit number ≡ Some u
        → addresses i (log_of (s ∷ w)) ≡ addresses i (log_of w) + free_data i (log_of (s ∷ w)) u.chunk
    reset_gives unit number u is at =
        by_logs (ResetDone unit number) own is b begins (λ ls. addresses i ls ≡ addresses i (log_of w) + free_data i ls u.chunk)
        (subst (λ m. addresses i new ≡ addresses i (log_of w) + free_data i new m) same
        (sums (open_addresses i new) (open_addresses i (log_of w)) (free_addresses i new) (free_addresses i (log_of w)) (free_data i new now.reset.chunk)
        (addresses_kept i (log_of w) (ResetDone unit number) knows refl) (free_reset i w before b begins unit number knows now)))
      where
        new : Logs
        new = after (log_of w) (ResetDone unit number) s.logged.knows

        now : MayNoteReset (log_of w) unit number
        now = note_whole (log_of w) s.logged unit number (whole (ResetDone unit number) own is b begins) (may (ResetDone unit number) own is b begins).2

        same : now.reset.chunk ≡ u.chunk
        same = ap (λ (x : UnitEvent). x.chunk) (same_Some now.reset u
            (sym (ap (option_and_then (λ (l : Logged). unit_event_of l.event)) now.new.is_known ∙ now.new.event) ∙ at))

        sums : (a b c d n : ℕ) → a ≡ b → c ≡ d + n → a + c ≡ b + d + n
        sums a b c d n x y = omega arith

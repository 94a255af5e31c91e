-- The last program of a stripe, which its worker tells the engine: the engine may note it.
use Rattle.std.proofs.Common.{◌≡◌, ◌⊎◌, inl, inr, ℕ, zero, suc, ◌+◌, ◌-◌, ◌*◌, ◌^◌, ◌<◌, ◌≤◌, ◌==◌, Bool, true, false, min, None, Some, List, length, take, drop, refl, sym, subst, ap, ap₂, ◌∙◌, arith, if◌then◌else◌}
use Rattle.std.specs.Prelude.{slice_get}
use Rattle.std.specs.List.{Contains}
use Rattle.std.proofs.lemmas.Bool.{cases_lt, eqb-true}
use Rattle.std.proofs.lemmas.List.{take-append-le, take-take}
use Rattle.std.proofs.lemmas.Option.{none-some, same_Some, slice_get_within}
use mathlib.Core.List.{IsPrefix}
use Rattle.pblk_model.specs.ChunkStep.{Reset, Write}
use Rattle.pblk_model.specs.Image.{Image}
use Rattle.pblk_model.specs.UnitLog.{UnitEvent}
use Rattle.pblk_model.proofs.Lists.{among_contained}
use Rattle.pblk_model.proofs.Maps.{from_given}
use Rattle.pblk_model.proofs.Parts.{get_more, get_whole_within, is_in, take_and_drop}
use Rattle.pblk_model.proofs.Tests.{same_number}
use Rattle.pblk_world.specs.Answering.{IsNew, IsOfStripe}
use Rattle.pblk_world.specs.Commanding.{ended_stripes, is_program}
use Rattle.pblk_world.specs.EngineLog.{Answer, DidLand, WasLost, answer_by, answers, named_by, named_events, placed_on}
use Rattle.pblk_world.specs.Events.{Again, Decides, Does, Event, Landed, Logged, Lost, Maker, ResetDone, Stripe}
use Rattle.pblk_world.specs.Legal.{IsLegal}
use Rattle.pblk_world.specs.LegalMounts.{IsLegalMount}
use Rattle.pblk_world.specs.World.{World, Logs, known, log_of, prefixes, unit_event_of}
use Rattle.world_laws.proofs.NamedPrefixes.{IsByPrefixes, was_made}
use Rattle.world_laws.proofs.NextLives.{IsDecided, decided}
use Rattle.world_laws.proofs.Tellings.{IsNamedAt, named_known}
use Rattle.core_laws.specs.PlacerOf.{unanswered_on}
use Rattle.pblk_core.specs.Filling.{Filling}
use Rattle.pblk_core.specs.Losing.{HasItsEntries}
use Rattle.pblk_core.specs.Stands.{Stands, answer_count}
use Rattle.pblk_core.specs.declared.target_core.Core.{Core}
use Rattle.pblk_core.proofs.Laws.{its_entries, waits_at_turn}
use Rattle.chronicle.specs.Prefixes.{Prefixes, AreLegalLogs, ArePrefixes, logs_of}
use Rattle.chronicle.proofs.Worlds.{known_closed}
use Rattle.pblk_engine.specs.Answers.{IsLastProgram, MayAnswer}
use Rattle.pblk_engine.specs.Deeds.{event_of}
use Rattle.pblk_engine.specs.Ended.{TellsEnded}
use Rattle.pblk_engine.specs.Placements.{IsPlacedAs}
use Rattle.pblk_engine.specs.Stops.{again_by, stop_count, stops_of}
use Rattle.pblk_engine.specs.declared.commands.Ended.{Ended}
use Rattle.pblk_engine.specs.declared.commands.Ended.TheVariants as ended
use Rattle.pblk_engine.proofs.PlacedAs.{placed_still}
use Rattle.pblk_engine.proofs.Stops.{count_grows, gives_less}

-- ---- the engine has named no such event yet

-- A program of a unit, made when as many of its stripes had ended as are answered now. Each stop of
-- the unit's programs that is noted now was known by then.
module _ (i : Image) (w : World) (legal : IsLegal i w) (unit number : ℕ) (l : Logged) (e : UnitEvent) (maker : Maker)
    (there : slice_get (log_of w (suc unit)) number ≡ Some l) (is : l.event ≡ Does e maker) (program : is_program e.command ≡ true)
    (turn : ended_stripes (take number (log_of w (suc unit))) ≡ length (answers (log_of w 0) unit))
    (same : stop_count (take (known l 0) (log_of w 0)) unit ≡ stop_count (log_of w 0) unit) (few : stop_count (log_of w 0) unit < 2 ^ 64 - 1) where
  abbrev log : List Logged
  log = log_of w 0

  abbrev own : List Logged
  own = log_of w (suc unit)

  made : IsByPrefixes i w (suc unit) number l
  made = was_made i w (suc unit) number l legal there

  -- no event names it that was known when it was made
  not_before : (q : ℕ) → q < known l 0 → IsNamedAt i w legal unit q number → ⊥
  not_before q below at =
      let named : number < known at.logged (suc unit) = named_known i w legal unit q number at in
      let knew : known at.logged (suc unit) ≤ number = made.knew 0 q at.logged below at.there in
      absurd (omega arith)

  -- of which unit and event it tells
  named_own : (other m : ℕ) (b : Bool) → (other == unit) ≡ b → (if b then Some m else None) ≡ Some number → (other ≡ unit) × (m ≡ number)
  named_own other m true same f = (eqb-true other unit same, same_Some m number f)
  named_own other m false apart f = absurd (none-some number f)

  -- no answer that came since names it: that answer would be one more
  no_answer : (q : ℕ) (x : Logged) (p : UnitEvent) (a : Answer) → slice_get (log_of w 0) q ≡ Some x → prefixes x (log_of w) 0 ≡ take q (log_of w 0)
      → IsOfStripe (prefixes x (log_of w)) unit number p → answer_by unit x.event ≡ Some a → ⊥
  no_answer q x p a at whole stripe gives =
      let inside : number < known x (suc unit) = (get_whole_within (known x (suc unit)) own number stripe.logged stripe.is_logged).1 in
      let first : take number (take (known x (suc unit)) own) ≡ take number own = take-take number (known x (suc unit)) own (omega arith) in
      let then_ : ended_stripes (take number own) ≡ length (answers (take q log) unit) =
      ap ended_stripes (sym first) ∙ stripe.its_turn ∙ ap (λ (xs : List Logged). length (answers xs unit)) whole in
      let less : length (answers (take q log) unit) < length (answers log unit) =
      gives_less (λ (m : Logged). answer_by unit m.event) log q q x a (omega arith) at gives in
      absurd (omega (arith, turn))

  -- no stop that was noted since names it: there is none
  no_stop : (q event : ℕ) (x : Logged) → known l 0 ≤ q → slice_get (log_of w 0) q ≡ Some x → x.event ≡ Decides (Again unit event) → ⊥
  no_stop q event x from at stop =
      let less : length (stops_of (take (known l 0) log) unit) < length (stops_of log unit) =
      gives_less (λ (m : Logged). again_by unit m.event) log (known l 0) q x event from at
      (ap (again_by unit) stop ∙ ap (λ (b : Bool). if b then Some event else None) (same_number unit)) in
      apart (length (stops_of (take (known l 0) log) unit)) (length (stops_of log unit)) less same few
    where
      apart : (m n : ℕ) → m < n → min m (2 ^ 64 - 1) ≡ min n (2 ^ 64 - 1) → min n (2 ^ 64 - 1) < 2 ^ 64 - 1 → ⊥
      apart m n less same few = absurd (omega arith)

  -- it is no reset
  no_reset : (x : Logged) (r : UnitEvent) → IsNew (prefixes x (log_of w)) unit number r → r.command ≡ Reset → ⊥
  no_reset x r new reset =
      let at : slice_get own number ≡ Some new.logged = (get_whole_within (known x (suc unit)) own number new.logged new.is_known).0 in
      let one : l ≡ new.logged = same_Some l new.logged (sym there ∙ at) in
      let event : e ≡ r = same_Some e r (ap unit_event_of (sym is) ∙ ap (λ (y : Logged). unit_event_of y.event) one ∙ new.event) in
      no (sym program ∙ ap (λ (x : UnitEvent). is_program x.command) event ∙ ap is_program reset)
    where
      no : true ≡ false → ⊥
      no same = cc

  not_since : (q : ℕ) → known l 0 ≤ q → IsNamedAt i w legal unit q number → ⊥
  not_since q from at = go at.logged.event refl at.names
    where
      go : (event : Event) → at.logged.event ≡ event → named_by unit event ≡ Some number → ⊥
      go (Decides (Landed other m)) tells names =
          let mine = named_own other m (other == unit) refl names in
          let event : at.logged.event ≡ Decides (Landed unit number) = tells ∙ ap₂ (λ u n. Decides (Landed u n)) mine.0 mine.1 in
          let d : IsDecided i w legal q (Landed unit number) at.logged = decided i w legal q (Landed unit number) at.logged at.there event in
          no_answer q at.logged d.allowed.2.program (DidLand number) at.there d.own d.allowed.2.stripe
          (ap (answer_by unit) event ∙ ap (λ (b : Bool). if b then Some (DidLand number) else None) (same_number unit))
      go (Decides (Lost other m)) tells names =
          let mine = named_own other m (other == unit) refl names in
          let event : at.logged.event ≡ Decides (Lost unit number) = tells ∙ ap₂ (λ u n. Decides (Lost u n)) mine.0 mine.1 in
          let d : IsDecided i w legal q (Lost unit number) at.logged = decided i w legal q (Lost unit number) at.logged at.there event in
          no_answer q at.logged d.allowed.2.program (WasLost number) at.there d.own d.allowed.2.stripe
          (ap (answer_by unit) event ∙ ap (λ (b : Bool). if b then Some (WasLost number) else None) (same_number unit))
      go (Decides (Again other m)) tells names =
          let mine = named_own other m (other == unit) refl names in
          no_stop q number at.logged from at.there (tells ∙ ap₂ (λ u n. Decides (Again u n)) mine.0 mine.1)
      go (Decides (ResetDone other m)) tells names =
          let mine = named_own other m (other == unit) refl names in
          let event : at.logged.event ≡ Decides (ResetDone unit number) = tells ∙ ap₂ (λ u n. Decides (ResetDone u n)) mine.0 mine.1 in
          let d : IsDecided i w legal q (ResetDone unit number) at.logged = decided i w legal q (ResetDone unit number) at.logged at.there event in
          no_reset at.logged d.allowed.2.reset d.allowed.2.new d.allowed.2.is_reset
      go event tells names = absurd (none-some number names)

  once : ¬ Contains (named_events (log_of w 0) unit) number
  once named =
      let at = among_contained (named_events log unit) number named in
      let from = from_given (λ (x : Logged). named_by unit x.event) log number at.0 at.1 in
      go from.1.0 (record { logged = from.0; there = from.1.1; names = from.2 }) (cases_lt from.1.0 (known l 0))
    where
      go : (q : ℕ) → IsNamedAt i w legal unit q number → (q < known l 0) ⊎ (known l 0 ≤ q) → ⊥
      go q at (inl below) = not_before q below at
      go q at (inr above) = not_since q above at

  module _ (begun : 0 < known l 0) (waits : length (answers (log_of w 0) unit) < length (placed_on (log_of w 0) unit)) where
    new : IsNew (log_of w) unit number e
    new = record { logged = l; is_known = there; event = ap unit_event_of is; once = once }

    of_stripe : IsOfStripe (log_of w) unit number e
    of_stripe = record { program = program; logged = l; is_logged = there; after_begin = begun; placed = waits; its_turn = turn }

    pub may_answer : (how : Ended) (ws_min : ℕ) → ws_min ≡ i.shape.ws_min → TellsEnded ws_min how e.outcome → MayAnswer how unit i (log_of w) number
    may_answer ended.Done ws_min size told = record { program = e; new = new; stripe = of_stripe; done = told }
    may_answer (ended.Failed kept) ws_min size told = record {
      may = record { program = e; new = new; stripe = of_stripe; landed_before = told.0; failed = told.1 };
      written = told.2 ∙ ap (λ n. told.0 * n) size;
    }
    may_answer ended.Stopped ws_min size told =
        record { program = e; new = new; stripe = of_stripe; landed_before = told.0; stopped = told.1 }

-- ---- by what a note knew, and who met it

-- nothing was placed in no log
begun_by_place : (k : ℕ) (xs : List Logged) (f : Filling) → IsPlacedAs (take k xs) f → 0 < k
begun_by_place k xs f placed = go k placed
  where
    go : (k : ℕ) → IsPlacedAs (take k xs) f → 0 < k
    go zero placed = absurd (none-some placed.placed placed.there)
    go (suc k) placed = omega arith

module _ (i : Image) (told now : Prefixes) (before : AreLegalLogs i told) (legal : AreLegalLogs i now) (learns : ArePrefixes told now) (f : Filling)
    (how : Ended) (stops : ℕ) (last : IsLastProgram told f how stops) where
  abbrev unit : ℕ
  unit = f.stripe.unit

  -- what came to a log since
  since : (author : ℕ) → IsPrefix (logs_of told author) (logs_of now author)
  since = learns.each

  abbrev knew : ℕ
  knew = known last.logged 0

  knew_within : knew ≤ length (logs_of told 0)
  knew_within = known_closed i told (suc unit) 0 last.logged before (is_in (logs_of told (suc unit)) last.number last.logged last.there)

  knew_same : take knew (logs_of now 0) ≡ take knew (logs_of told 0)
  knew_same = ap (take knew) (sym (since 0).1) ∙ take-append-le knew (logs_of told 0) (since 0).0 knew_within

  -- the stripe is placed now
  pub placed_now : IsPlacedAs (logs_of now 0) f
  placed_now = subst (λ (log : List Logged). IsPlacedAs log f) (take_and_drop knew (logs_of now 0))
      (placed_still (take knew (logs_of now 0)) (drop knew (logs_of now 0)) f
      (subst (λ (log : List Logged). IsPlacedAs log f) (sym knew_same) last.placed))

  there_now : slice_get (logs_of now (suc unit)) last.number ≡ Some last.logged
  there_now = ap (λ (log : List Logged). slice_get log last.number) (sym (since (suc unit)).1)
      ∙ get_more (logs_of told (suc unit)) (since (suc unit)).0 last.number last.logged last.there

  before_now : take last.number (logs_of now (suc unit)) ≡ take last.number (logs_of told (suc unit))
  before_now = ap (take last.number) (sym (since (suc unit)).1)
      ∙ take-append-le last.number (logs_of told (suc unit)) (since (suc unit)).0
      (let n : length (logs_of told (suc unit)) ≡ last.number + 1 = last.last in omega arith)

  module _ (accepted : IsLegalMount i legal.world) where
    abbrev w : World
    w = legal.world

    own_log : log_of legal.world 0 ≡ logs_of now 0
    own_log = ap (λ (logs : Logs). logs 0) legal.logs

    pub placed_here : IsPlacedAs (log_of legal.world 0) f
    placed_here = subst (λ (log : List Logged). IsPlacedAs log f) (sym own_log) placed_now

    its_unit : placed_here.placed.stripe.unit ≡ f.stripe.unit
    its_unit = ap (λ (s : Stripe). s.unit) placed_here.stripe

    module _ (count : answer_count (log_of legal.world 0) f.stripe.unit ≡ f.turn) (below : f.turn < 2 ^ 64 - 1) where
      -- it is the stripe of its unit that isn't answered
      pub waits_here : unanswered_on (log_of legal.world 0) f.stripe.unit ≡ Some placed_here.placed
      waits_here = subst (λ u. unanswered_on (log_of w 0) u ≡ Some placed_here.placed) its_unit
          (waits_at_turn i w placed_here.number placed_here.placed accepted placed_here.there
          (placed_here.turn ∙ sym count ∙ ap (answer_count (log_of w 0)) (sym its_unit))
          (subst (λ n. n < 2 ^ 64 - 1) (sym placed_here.turn) below))

      pub entries_here : (c : Core) → Stands i (log_of legal.world) c → HasItsEntries c f.stripe
      entries_here c stands = subst (HasItsEntries c) placed_here.stripe
          (its_entries i w c placed_here.placed accepted stands
          (subst (λ u. unanswered_on (log_of w 0) u ≡ Some placed_here.placed) (sym its_unit) waits_here))

      pub may_answer_here : stop_count (logs_of now 0) f.stripe.unit ≡ stops → stops < 2 ^ 64 - 1 → f.shape.ws_min ≡ i.shape.ws_min
          → MayAnswer how f.stripe.unit i (log_of legal.world) last.number
      may_answer_here counted few size =
          may_answer i w accepted.legal unit last.number last.logged (event_of f.stripe.chunk (Write f.stripe.at f.stripe.blocks) last.outcome) last.maker
          there last.event refl turn same some
          (begun_by_place knew (logs_of told 0) f last.placed)
          (slice_get_within (placed_on (log_of w 0) unit) (length (answers (log_of w 0) unit)) placed_here.placed waits_here)
          how f.shape.ws_min size last.tells
        where
          there : slice_get (log_of legal.world (suc f.stripe.unit)) last.number ≡ Some last.logged
          there = ap (λ (logs : Logs). slice_get (logs (suc unit)) last.number) legal.logs ∙ there_now

          turn : ended_stripes (take last.number (log_of legal.world (suc f.stripe.unit))) ≡ length (answers (log_of legal.world 0) f.stripe.unit)
          turn = ap (λ (logs : Logs). ended_stripes (take last.number (logs (suc unit)))) legal.logs ∙ ap ended_stripes before_now ∙ last.turn
              ∙ exact (length (answers (log_of w 0) unit)) f.turn count below
            where
              exact : (n t : ℕ) → min n (2 ^ 64 - 1) ≡ t → t < 2 ^ 64 - 1 → t ≡ n
              exact n t same less = omega arith

          counted_here : stop_count (log_of legal.world 0) f.stripe.unit ≡ stops
          counted_here = ap (λ (log : List Logged). stop_count log unit) own_log ∙ counted

          same : stop_count (take knew (log_of legal.world 0)) f.stripe.unit ≡ stop_count (log_of legal.world 0) f.stripe.unit
          same =
              let least : stops ≤ stop_count (take knew (log_of w 0)) unit =
              subst (λ (log : List Logged). stops ≤ stop_count log unit) (sym (ap (take knew) own_log ∙ knew_same)) last.noted in
              let most : stop_count (take knew (log_of w 0)) unit ≤ stop_count (log_of w 0) unit =
              subst (λ (log : List Logged). stop_count (take knew (log_of w 0)) unit ≤ stop_count log unit) (take_and_drop knew (log_of w 0))
              (count_grows (take knew (log_of w 0)) (drop knew (log_of w 0)) unit) in
              level _ _ _ least most counted_here
            where
              level : (a b s : ℕ) → s ≤ a → a ≤ b → b ≡ s → a ≡ b
              level a b s least most is = omega arith

          some : stop_count (log_of legal.world 0) f.stripe.unit < 2 ^ 64 - 1
          some = subst (λ n. n < 2 ^ 64 - 1) (sym counted_here) few

-- A chunk of an opened line, as the engine knows it, holds at most the stripes there that were
-- answered. It is Closed only once it is full, or a stripe there was lost.
use Rattle.std.proofs.Common.{◌≡◌, ◌≢◌, ◌⊎◌, inl, inr, ℕ, ◌+◌, ◌-◌, ◌*◌, ◌<◌, ◌≤◌, ◌==◌, zero, suc, nat_eq, nat_lt, Bool, true, false, cond, Some, None, Option, List, [], ◌∷◌, ◌++◌, length, take, drop, refl, sym, subst, ap, ap₂, ◌∙◌, arith, length-append, length-take, if◌then◌else◌}
use Rattle.std.specs.Prelude.{slice_get, slice_index, slice_set}
use Rattle.std.specs.List.{Contains, filter, find, list_any}
use Rattle.std.specs.Option.{is_some, option_and_then, option_map_or, option_to_list}
use Rattle.std.proofs.lemmas.Bool.{cases_lt, eqb-true, eqb-false}
use Rattle.std.proofs.lemmas.List.{take-append-le, take-take}
use Rattle.std.proofs.lemmas.Option.{none-some, same_Some}
use Rattle.std.proofs.Math.Nat.{mul-le-mul_right}
use Rattle.std.proofs.Math.Seq.{take-length}
use Rattle.pblk_model.specs.declared.chunk.ChunkState.{ChunkState}
use Rattle.pblk_model.specs.declared.chunk.ChunkState.TheVariants as states
use Rattle.pblk_model.specs.declared.shape.Shape.{Shape}
use Rattle.pblk_model.specs.Chunk.{Block, Chunk, free_chunk, offline_chunk, pointer}
use Rattle.pblk_model.specs.ChunkStep.{Reset, Write, appended, closed_after, reset_in}
use Rattle.pblk_model.specs.UnitLog.{Answered, Failed, Stopped, UnitEvent, UnitOutcome, after_event, after_log, after_outcome}
use Rattle.pblk_model.specs.Image.{Image}
use Rattle.pblk_model.proofs.UnitLogLemmas.{event_beside, event_here}
use Rattle.pblk_world.specs.Answering.{IsDoneReset, IsNew, IsOfStripe, MayLand, MayLose, MayNoteReset}
use Rattle.pblk_world.specs.Events.{Decides, Event, Free, Landed, Logged, Lost, ResetDone}
use Rattle.pblk_world.specs.World.{World, log_of, known, knows_engine, prefixes, unit_event_at, unit_event_of}
use Rattle.pblk_world.specs.EngineLog.{Answer, DidLand, WasLost, answer_by, answer_of, answers, Begun, begun, is_answered, is_life, is_loss, life_of, Opened, Opening, openings, Placed, placed_on, placements, stripes_of, stripes_on, turn, was_lost}
use Rattle.pblk_world.specs.Commanding.{ended_stripes}
use Rattle.pblk_world.specs.Lines.{is_empty_state, told_by}
use Rattle.pblk_world.proofs.EngineLogLemmas.{answers_more}
use Rattle.pblk_model.proofs.Lists.{IsAmong, among_contained}
use Rattle.pblk_model.proofs.Maps.{any_found, any_member, filter_both, found_passes, from_filter, in_filter}
use Rattle.pblk_model.proofs.Options.{some_value}
use Rattle.pblk_model.proofs.Parts.{contained_among, get_below, get_last, get_more, get_past, get_whole_within, got_within, take_and_drop, take_next}
use Rattle.pblk_model.proofs.Tests.{lt_true, not_both, same_number}
use Rattle.pblk_world.specs.LegalMounts.{IsLegalMount}
use Rattle.world_laws.specs.UnitChunks.{first_events}
use Rattle.world_laws.specs.UnitPrograms.{IsProgramOfStripe}
use Rattle.world_laws.proofs.FoundEmpty.{known_is_empty}
use Rattle.world_laws.proofs.Freeing.{answered_when_freed}
use Rattle.world_laws.proofs.KnownChunks.{IsKnownTo}
use Rattle.world_laws.proofs.KnownEmpty.{told_chunk, told_first, told_none, told_one}
use Rattle.world_laws.proofs.Later.{answered_later, lost_later, placed_within, placements_joined}
use Rattle.world_laws.proofs.LifePlaces.{began}
use Rattle.world_laws.proofs.LifeUnits.{at_opening}
use Rattle.world_laws.proofs.LineStripes.{stripe_count}
use Rattle.world_laws.proofs.Lives.{IsFreedLife, freed_before_opened, standing_or_freed}
use Rattle.world_laws.proofs.NextLives.{IsDecided, IsOpenSince, decided, placed_in}
use Rattle.world_laws.proofs.OpenedChunks.{opening, since}
use Rattle.world_laws.proofs.Placements.{still_placed}
use Rattle.world_laws.proofs.Programs.{program_of_stripe}
use Rattle.world_laws.proofs.Stripes.{life_of_stripe, opening_then, placed_before_freed}
use Rattle.world_laws.proofs.UnitLogs.{chunk_fits}
use Rattle.world_laws.proofs.UnitTurns.{turn_is, unit_is}
use Rattle.core_laws.proofs.LandedOn.{landed_on, landed_grows}
use Rattle.world_laws.proofs.ChunkPointers.{no_blocks_yet}
use Rattle.core_laws.proofs.LandedNow.{opened_now}
use Rattle.core_laws.proofs.PlacedAnew.{earlier_stripe}

-- ---- chunks

empty_not_closed : (c : Chunk) → is_empty_state c.state ≡ true → c.state ≢ states.Closed
empty_not_closed c empty closed = not_both (is_empty_state c.state) empty (ap is_empty_state closed)

reset_has_none : (s : Shape) (state : ChunkState) (wp : ℕ) → (length (reset_in s state wp).blocks ≡ 0) × (is_empty_state (reset_in s state wp).state ≡ true)
reset_has_none s states.Free wp = (refl, refl)
reset_has_none s states.Open wp = (refl, refl)
reset_has_none s states.Closed wp = go (wp == s.clba)
  where
    go : (b : Bool) → (length (if b then free_chunk else offline_chunk).blocks ≡ 0)
        × (is_empty_state (if b then free_chunk else offline_chunk).state ≡ true)
    go true = (refl, refl)
    go false = (refl, refl)
reset_has_none s states.Offline wp = (refl, refl)

-- ---- lists

one_more_answered : {X : Type 0} (f : X → Bool) (xs ys : List X) (n : ℕ) (x : X) → slice_get xs n ≡ Some x → f x ≡ true
    → length (filter f (take n xs)) + 1 ≤ length (filter f (take (suc n) (xs ++ ys)))
one_more_answered {X} f xs ys n x at passes =
    let inside : n < length xs = get_below xs n x at in
    let part : take (suc n) (xs ++ ys) ≡ take n xs ++ x ∷ [] = take-append-le (suc n) xs ys (omega arith) ∙ take_next xs n x at in
    let none : List X = [] in
    let one : length (filter f (x ∷ none)) ≡ 1 = ap (λ b. length (cond b (x ∷ none) none)) passes in
    let count : length (filter f (take (suc n) (xs ++ ys))) ≡ length (filter f (take n xs)) + length (filter f (x ∷ none)) =
    ap (λ zs. length (filter f zs)) part ∙ ap length (filter_both f (take n xs) (x ∷ none)) ∙ length-append (filter f (take n xs)) (filter f (x ∷ none)) in
    omega arith

-- ---- answers

-- an event that answers the unit
answer_last : (log : List Logged) (l : Logged) (unit : ℕ) (a : Answer) → answer_by unit l.event ≡ Some a
    → answers (log ++ l ∷ []) unit ≡ answers log unit ++ a ∷ []
answer_last log l unit a is = answers_more log l unit ∙ ap (λ o. answers log unit ++ option_to_list o) is

-- the stripe that it answers is counted
answered_more : (log : List Logged) (l : Logged) (o : Opening) (unit : ℕ) (a : Answer) (p : Placed) → answer_by unit l.event ≡ Some a
    → slice_get (placed_on log unit) (length (answers log unit)) ≡ Some p → is_life o.number p.life ≡ true
    → length (landed_on log o unit) + 1 ≤ length (landed_on (log ++ l ∷ []) o unit)
answered_more log l o unit a p is at its =
    let joined = placements_joined log (l ∷ []) in
    let mine : Placed → Bool = λ q. q.stripe.unit == unit in
    let placed : placed_on (log ++ l ∷ []) unit ≡ placed_on log unit ++ filter mine joined.0 =
    ap (filter mine) joined.1 ∙ filter_both mine (placements log) joined.0 in
    let sum : length (answers (log ++ l ∷ []) unit) ≡ length (answers log unit) + 1 =
    ap length (answer_last log l unit a is) ∙ length-append (answers log unit) (a ∷ []) in
    let count : length (answers (log ++ l ∷ []) unit) ≡ suc (length (answers log unit)) = omega arith in
    subst (λ n. length (landed_on log o unit) + 1 ≤ length (filter (λ (q : Placed). is_life o.number q.life) (take n (placed_on (log ++ l ∷ []) unit))))
    (sym count)
    (subst (λ ps. length (landed_on log o unit) + 1 ≤ length (filter (λ (q : Placed). is_life o.number q.life) (take (suc (length (answers log unit))) ps)))
    (sym placed)
    (one_more_answered (λ (q : Placed). is_life o.number q.life) (placed_on log unit) (filter mine joined.0) (length (answers log unit)) p at its))

-- a stripe of the opening on the unit was lost
abbrev pub HasLoss : List Logged → Opening → ℕ → Type 0
HasLoss log o unit = list_any (was_lost log) (stripes_on log o unit) ≡ true

loss_of : (log : List Logged) (o : Opening) (unit : ℕ) (p : Placed) → IsAmong (stripes_on log o unit) p → was_lost log p ≡ true → HasLoss log o unit
loss_of log o unit p at lost = any_member (was_lost log) (stripes_on log o unit) at.0 p at.1 lost

on_unit_later : (log : List Logged) (l : Logged) (o : Opening) (unit : ℕ) (p : Placed) → IsAmong (stripes_on log o unit) p
    → IsAmong (stripes_on (log ++ l ∷ []) o unit) p
on_unit_later log l o unit p at =
    let joined = placements_joined log (l ∷ []) in
    let mine : Placed → Bool = λ q. q.stripe.unit == unit in
    let its : Placed → Bool = λ q. is_life o.number q.life in
    let grown : stripes_on (log ++ l ∷ []) o unit ≡ stripes_on log o unit ++ filter mine (filter its joined.0) =
    ap (λ ps. filter mine (filter its ps)) joined.1 ∙ ap (filter mine) (filter_both its (placements log) joined.0)
    ∙ filter_both mine (filter its (placements log)) (filter its joined.0) in
    (at.0, ap (λ ps. slice_get ps at.0) grown ∙ get_more (stripes_on log o unit) (filter mine (filter its joined.0)) at.0 p at.1)

placed_of_unit : (log : List Logged) (o : Opening) (unit : ℕ) (p : Placed) → IsAmong (stripes_on log o unit) p → Contains (placements log) p
placed_of_unit log o unit p at = contained_among (placements log) p
    (from_filter (λ (q : Placed). is_life o.number q.life) (placements log) p (from_filter (λ (q : Placed). q.stripe.unit == unit) (stripes_of log o) p at))

loss_later : (log : List Logged) (l : Logged) (o : Opening) (unit : ℕ) → HasLoss log o unit → HasLoss (log ++ l ∷ []) o unit
loss_later log l o unit h =
    let found = some_value (find (was_lost log) (stripes_on log o unit)) (sym (any_found (was_lost log) (stripes_on log o unit)) ∙ h) in
    let passes = found_passes (was_lost log) (stripes_on log o unit) found.0 found.1 in
    loss_of (log ++ l ∷ []) o unit found.0 (on_unit_later log l o unit found.0 passes.1)
    (lost_later log (l ∷ []) found.0 (placed_within log found.0 (placed_of_unit log o unit found.0 passes.1)) passes.0)

-- ---- a chunk by what was told

pub record IsFilled (s : Shape) (log : List Logged) (o : Opening) (unit : ℕ) (c : Chunk) : Type 0 where
  pub blocks : length c.blocks ≤ length (landed_on log o unit) * s.ws_opt
  pub closed : c.state ≡ states.Closed → (s.clba ≤ length c.blocks) ⊎ HasLoss log o unit

filled_later : (s : Shape) (log : List Logged) (l : Logged) (o : Opening) (unit : ℕ) (c : Chunk) → IsFilled s log o unit c → IsFilled s (log ++ l ∷ []) o unit c
filled_later s log l o unit c h = record { blocks = more; closed = λ e. later (h.closed e) }
  where
    more : length c.blocks ≤ length (landed_on (log ++ l ∷ []) o unit) * s.ws_opt
    more =
        let rows : length (landed_on log o unit) * s.ws_opt ≤ length (landed_on (log ++ l ∷ []) o unit) * s.ws_opt =
        mul-le-mul_right s.ws_opt (landed_grows log l o unit) in
        let before : length c.blocks ≤ length (landed_on log o unit) * s.ws_opt = h.blocks in
        omega arith

    later : (s.clba ≤ length c.blocks) ⊎ HasLoss log o unit → (s.clba ≤ length c.blocks) ⊎ HasLoss (log ++ l ∷ []) o unit
    later (inl full) = inl full
    later (inr loss) = inr (loss_later log l o unit loss)

filled_empty : (s : Shape) (log : List Logged) (o : Opening) (unit : ℕ) (c : Chunk) → length c.blocks ≡ 0 → is_empty_state c.state ≡ true
    → IsFilled s log o unit c
filled_empty s log o unit c none empty = record { blocks = omega arith; closed = λ e. absurd (empty_not_closed c empty e) }

-- some blocks more than before, at most a stripe of them
more_blocks : (s : Shape) (n m : ℕ) (old new more : List Block) → new ≡ old ++ more → length more ≤ s.ws_opt → length old ≤ n * s.ws_opt → n + 1 ≤ m
    → length new ≤ m * s.ws_opt
more_blocks s n m old new more is few before rises =
    let count : length new ≡ length old + length more = ap length is ∙ length-append old more in
    let rows : (n + 1) * s.ws_opt ≤ m * s.ws_opt = mul-le-mul_right s.ws_opt rises in
    let one : (n + 1) * s.ws_opt ≡ n * s.ws_opt + s.ws_opt = omega arith in
    omega arith

filled_landed : (s : Shape) (old new : List Logged) (o : Opening) (unit : ℕ) (d : Chunk) (blocks : List Block) → length blocks ≡ s.ws_opt
    → length (landed_on old o unit) + 1 ≤ length (landed_on new o unit) → IsFilled s old o unit d → IsFilled s new o unit (appended s d blocks)
filled_landed s old new o unit d blocks whole more h = record {
  blocks = more_blocks s (length (landed_on old o unit)) (length (landed_on new o unit)) d.blocks (d.blocks ++ blocks) blocks refl (omega arith) h.blocks more;
  closed = λ e. inl (full (nat_lt (pointer d + length blocks) s.clba) refl e);
}
  where
    full : (b : Bool) → nat_lt (pointer d + length blocks) s.clba ≡ b → (if b then states.Open else states.Closed) ≡ states.Closed
        → s.clba ≤ length (d.blocks ++ blocks)
    full true e f = absurd cc
    full false e f = by (cases_lt (pointer d + length blocks) s.clba)
      where
        by : (pointer d + length blocks < s.clba) ⊎ (s.clba ≤ pointer d + length blocks) → s.clba ≤ length (d.blocks ++ blocks)
        by (inl below) = absurd (not_both (nat_lt (pointer d + length blocks) s.clba) (lt_true (pointer d + length blocks) s.clba below) e)
        by (inr above) = omega (arith, length-append d.blocks blocks)

filled_lost : (s : Shape) (old new : List Logged) (o : Opening) (unit : ℕ) (d : Chunk) (blocks : List Block) (k : ℕ) → length blocks ≡ s.ws_opt
    → length (landed_on old o unit) + 1 ≤ length (landed_on new o unit) → HasLoss new o unit → IsFilled s old o unit d
    → IsFilled s new o unit (closed_after s d blocks k)
filled_lost s old new o unit d blocks k whole more loss h = record {
  blocks = more_blocks s (length (landed_on old o unit)) (length (landed_on new o unit)) d.blocks (d.blocks ++ take (k * s.ws_min) blocks)
      (take (k * s.ws_min) blocks) refl (omega (arith, length-take (k * s.ws_min) blocks)) h.blocks more;
  closed = λ e. inr loss;
}

module _ (i : Image) (w : World) (mount : IsLegalMount i w) (o : Opening) (is_open : life_of (log_of w 0) o.line ≡ Opened o) (unit : ℕ) where
  abbrev log : List Logged
  log = log_of w 0

  abbrev own : List Logged
  own = log_of w (suc unit)

  abbrev pub b : (x : Begun) × (begun (log_of w 0) ≡ Some x)
  b = began i w o.line o mount.legal is_open

  -- ---- the stripe of a program that is told

  record IsToldProgram (k : ℕ) (e : UnitEvent) : Type 0 where
    stripe : Placed
    first : slice_get (placed_on (take k (log_of w 0)) unit) (length (answers (take k (log_of w 0)) unit)) ≡ Some stripe
    chunk : e.chunk ≡ stripe.stripe.chunk
    command : e.command ≡ Write stripe.stripe.at stripe.stripe.blocks

  told_program : (k m : ℕ) (l : Logged) (e : UnitEvent) → prefixes l (log_of w) 0 ≡ take k (log_of w 0) → IsNew (prefixes l (log_of w)) unit m e
      → IsOfStripe (prefixes l (log_of w)) unit m e → IsToldProgram k e
  told_program k m l e own_is new of =
      let whole = get_whole_within (known l (suc unit)) own m new.logged new.is_known in
      let one : of.logged ≡ new.logged = same_Some of.logged new.logged (sym of.is_logged ∙ new.is_known) in
      let knew : 0 < knows_engine new.logged = subst (λ (x : Logged). 0 < knows_engine x) one of.after_begin in
      let s : IsProgramOfStripe (log_of w) unit m new.logged e = program_of_stripe i w unit m new.logged e mount.legal whole.0 new.event of.program knew in
      let turn : ended_stripes (take m own) ≡ length (answers (take k log) unit) =
      ap ended_stripes (sym (take-take m (known l (suc unit)) own (let below : m < known l (suc unit) = whole.1 in omega arith)))
      ∙ of.its_turn ∙ ap (λ (xs : List Logged). length (answers xs unit)) own_is in
      let inside : length (answers (take k log) unit) < length (placed_on (take k log) unit) =
      subst (λ (xs : List Logged). length (answers xs unit) < length (placed_on xs unit)) own_is of.placed in
      let at = got_within (placed_on (take k log) unit) (length (answers (take k log) unit)) inside in
      let same : at.0 ≡ s.placed = same_Some at.0 s.placed (sym (still_placed k log unit (length (answers (take k log) unit)) at.0 at.1)
      ∙ ap (slice_get (placed_on log unit)) (sym turn) ∙ s.in_order) in
      record {
        stripe = at.0;
        first = at.1;
        chunk = s.chunk ∙ ap (λ (p : Placed). p.stripe.chunk) (sym same);
        command = s.command ∙ ap (λ (p : Placed). Write p.stripe.at p.stripe.blocks) (sym same);
      }

  -- the first stripe of the unit that isn't answered, if it is of the line, is of this opening
  module _ (k : ℕ) (from : o.number ≤ k) (p : Placed)
      (first : slice_get (placed_on (take k (log_of w 0)) unit) (length (answers (take k (log_of w 0)) unit)) ≡ Some p)
      (its_chunk : p.stripe.chunk ≡ o.line) where
    now : slice_get (placed_on (log_of w 0) unit) (length (answers (take k (log_of w 0)) unit)) ≡ Some p
    now = still_placed k log unit (length (answers (take k log) unit)) p first

    there : Contains (placements (log_of w 0)) p
    there = contained_among (placements log) p
        (from_filter (λ (q : Placed). q.stripe.unit == unit) (placements log) p (length (answers (take k log) unit), now))

    then_there : Contains (placements (take k (log_of w 0))) p
    then_there = contained_among (placements (take k log)) p
        (from_filter (λ (q : Placed). q.stripe.unit == unit) (placements (take k log)) p (length (answers (take k log) unit), first))

    its_line : p.stripe.line ≡ o.line
    its_line = sym (placed_in i w mount.legal unit (length (answers (take k log) unit)) p now).chunk ∙ its_chunk

    not_answered : is_answered (take k (log_of w 0)) p ≡ false
    not_answered =
        let on : p.stripe.unit ≡ unit = unit_is (take k log) unit (length (answers (take k log) unit)) p first in
        let turn_here : turn (take k log) p ≡ length (answers (take k log) unit) = turn_is (take k log) unit (length (answers (take k log) unit)) p first in
        ap is_some (ap₂ (λ u n. slice_get (answers (take k log) u) n) on turn_here
        ∙ get_past (answers (take k log) unit) (length (answers (take k log) unit)) (omega arith))

    of_opening : p.life ≡ Opened o
    of_opening = go (standing_or_freed i w life.0 mount.legal was.0)
      where
        life : (x : Opening) × (p.life ≡ Opened x) × (life_of (take p.number (log_of w 0)) p.stripe.line ≡ Opened x)
        life = life_of_stripe i w p mount.legal there

        was : Contains (openings (log_of w 0)) life.0 × (life.0.line ≡ p.stripe.line) × (life.0.number < p.number)
        was = opening_then log p.number p.stripe.line life.0 life.2

        go : (life_of (log_of w 0) life.0.line ≡ Opened life.0) ⊎ IsFreedLife (log_of w 0) life.0 → p.life ≡ Opened o
        go (inl stands) = life.1 ∙ sym stands ∙ ap (life_of log) (was.1 ∙ its_line) ∙ is_open
        go (inr f) =
            let before : f.number < o.number = freed_before_opened log o.line o f.number f.logged is_open f.there
            (f.frees ∙ ap (λ n. Decides (Free n)) (was.1 ∙ its_line)) in
            let of_life : Contains (stripes_of log life.0) p = contained_among (stripes_of log life.0) p
            (in_filter (λ (q : Placed). is_life life.0.number q.life) (placements log) p (among_contained (placements log) p there)
            (ap (is_life life.0.number) life.1 ∙ same_number life.0.number)) in
            let answered : is_answered (take f.number log) p ≡ true = answered_when_freed i w life.0 p mount.legal f of_life in
            let early : Contains (placements (take f.number log)) p = contained_among (placements (take f.number log)) p
            (earlier_stripe i w mount p f.number there (placed_before_freed i w life.0 p f mount.legal of_life)) in
            let part : take f.number (take k log) ≡ take f.number log = take-take f.number k log (omega arith) in
            absurd (not_both (is_answered (take k log) p)
            (subst (λ (xs : List Logged). is_answered xs p ≡ true)
            (ap (λ xs. xs ++ drop f.number (take k log)) (sym part) ∙ take_and_drop f.number (take k log))
            (answered_later (take f.number log) (drop f.number (take k log)) p (placed_within (take f.number log) p early) answered)) not_answered)

    its_life : is_life o.number p.life ≡ true
    its_life = ap (is_life o.number) of_opening ∙ same_number o.number

    whole : length p.stripe.blocks ≡ i.shape.ws_opt
    whole = stripe_count i w o p mount.accepted mount.legal (opened_now i w mount o.line o is_open).0
        (contained_among (stripes_of log o) p
        (in_filter (λ (q : Placed). is_life o.number q.life) (placements log) p (among_contained (placements log) p there) its_life))

    -- where it is lost the opening has a loss on the unit
    lost_now : (l : Logged) (m : ℕ) → answer_by unit l.event ≡ Some (WasLost m) → HasLoss (take k (log_of w 0) ++ l ∷ []) o unit
    lost_now l m is =
        let new : List Logged = take k log ++ l ∷ [] in
        let n : ℕ = length (answers (take k log) unit) in
        let on : p.stripe.unit ≡ unit = unit_is (take k log) unit n p first in
        let among : IsAmong (stripes_on (take k log) o unit) p =
        in_filter (λ (q : Placed). q.stripe.unit == unit) (stripes_of (take k log) o) p
        (in_filter (λ (q : Placed). is_life o.number q.life) (placements (take k log)) p (among_contained (placements (take k log)) p then_there) its_life)
        (ap (λ u. u == unit) on ∙ same_number unit) in
        let joined = placements_joined (take k log) (l ∷ []) in
        let mine : Placed → Bool = λ q. q.stripe.unit == unit in
        let at : slice_get (placed_on new unit) n ≡ Some p =
        ap (λ ps. slice_get ps n) (ap (filter mine) joined.1 ∙ filter_both mine (placements (take k log)) joined.0)
        ∙ get_more (placed_on (take k log) unit) (filter mine joined.0) n p first in
        let answer : answer_of new p ≡ Some (WasLost m) =
        ap₂ (λ u t. slice_get (answers new u) t) on (turn_is new unit n p at)
        ∙ ap (λ xs. slice_get xs n) (answer_last (take k log) l unit (WasLost m) is) ∙ get_last (answers (take k log) unit) (WasLost m) in
        loss_of new o unit p (on_unit_later (take k log) l o unit p among) (ap is_loss answer)

  -- ---- event by event

  module _ (start_chunks : List Chunk) (has : slice_get i.units unit ≡ Some start_chunks) where
    abbrev cs : List Chunk
    cs = after_log i.shape start_chunks (first_events (log_of w) unit (slice_index b.0.knows (suc unit)))

    abbrev told : ℕ → Option Chunk
    told k = told_chunk i.shape (log_of w) cs o.line unit k

    AreFilled : ℕ → Type 0
    AreFilled k = (c : Chunk) → told k ≡ Some c → IsFilled i.shape (take k (log_of w 0)) o unit c

    at_first : AreFilled o.number
    unfolding AreFilled
    at_first c is = go (at_opening i w mount.legal b.0 b.1 unit o.line o is_open start_chunks has)
      where
        go : (n : ℕ) × IsKnownTo i w mount.legal b.0 b.1 unit o.line start_chunks has o.number n → IsFilled i.shape (take o.number (log_of w 0)) o unit c
        go at =
            let h : IsOpenSince i w mount.legal o.line (length log) o = since i w mount.legal b.0 b.1 unit o.line o is_open in
            let empty : is_empty_state c.state ≡ true =
            known_is_empty i w mount.legal b.0 b.1 unit o.line o.number o.start h.logged
            (opening i w mount.legal b.0 b.1 unit o.line o is_open) start_chunks has c is in
            let none : length c.blocks ≡ 0 = no_blocks_yet c.state i.shape.clba (pointer c) empty
            (chunk_fits i w mount.legal unit o.line at.0 c mount.fit mount.accepted.drive.ws_min at.1.inside (sym at.1.same ∙ is)).place in
            filled_empty i.shape (take o.number log) o unit c none empty

    module _ (k : ℕ) (from : o.number ≤ k) (l : Logged) (at : slice_get (log_of w 0) k ≡ Some l) (before : AreFilled k) where
      abbrev next : List Logged
      next = take k (log_of w 0) ++ l ∷ []

      next_is : take (suc k) (log_of w 0) ≡ next
      next_is = take_next log k l at

      stays : told (suc k) ≡ told k → AreFilled (suc k)
      unfolding AreFilled
      stays same c is = subst (λ (xs : List Logged). IsFilled i.shape xs o unit c) (sym next_is)
          (filled_later i.shape (take k log) l o unit c (before c (sym same ∙ is)))

      untold : told_by (log_of w) unit l.event ≡ None → AreFilled (suc k)
      untold none = stays (told_none i w mount.legal unit cs o.line k l at none)

      -- an event of the chunk
      module _ (e : UnitEvent) (tells : told_by (log_of w) unit l.event ≡ Some e) where
        beside : e.chunk ≢ o.line → AreFilled (suc k)
        unfolding told_chunk
        beside other = stays (ap (λ (ds : List Chunk). slice_get ds o.line) (told_one i w mount.legal unit cs o.line k l e at tells)
            ∙ event_beside i.shape (after_log i.shape cs (told_first (log_of w) unit k)) e o.line other)

        -- what it left
        here : e.chunk ≡ o.line → ((d : Chunk) → told k ≡ Some d → IsFilled i.shape next o unit (after_outcome i.shape d e.command e.outcome))
            → AreFilled (suc k)
        unfolding AreFilled told_chunk
        here its leaves c is = go (told k) refl
          where
            was : List Chunk
            was = after_log i.shape cs (told_first (log_of w) unit k)

            left : slice_get (after_event i.shape (after_log i.shape cs (told_first (log_of w) unit k)) e) o.line ≡ Some c
            left = ap (λ (ds : List Chunk). slice_get ds o.line) (sym (told_one i w mount.legal unit cs o.line k l e at tells)) ∙ is

            go : (x : Option Chunk) → slice_get (after_log i.shape cs (told_first (log_of w) unit k)) o.line ≡ x
                → IsFilled i.shape (take (suc k) (log_of w 0)) o unit c
            go None none = absurd (none-some c (sym none
                ∙ ap (λ x. slice_get (option_map_or (λ (d : Chunk). slice_set was e.chunk (after_outcome i.shape d e.command e.outcome)) x was) o.line)
                (sym (ap (slice_get was) its ∙ none)) ∙ left))
            go (Some d) some =
                let one : after_outcome i.shape d e.command e.outcome ≡ c =
                same_Some (after_outcome i.shape d e.command e.outcome) c (sym (event_here i.shape was e o.line d its some) ∙ left) in
                subst (λ (xs : List Logged). IsFilled i.shape xs o unit c) (sym next_is)
                (subst (IsFilled i.shape next o unit) one (leaves d some))

        by_chunk : (e.chunk ≡ o.line → (d : Chunk) → told k ≡ Some d → IsFilled i.shape next o unit (after_outcome i.shape d e.command e.outcome))
            → AreFilled (suc k)
        by_chunk leaves = go (nat_eq e.chunk o.line) refl
          where
            go : (t : Bool) → nat_eq e.chunk o.line ≡ t → AreFilled (suc k)
            go true same = let its : e.chunk ≡ o.line = eqb-true e.chunk o.line same in here its (leaves its)
            go false other = beside (eqb-false e.chunk o.line other)

      -- a unit event that the engine's event names
      tells_it : (m : ℕ) (e : UnitEvent) → IsNew (prefixes l (log_of w)) unit m e → unit_event_at (log_of w) unit m ≡ Some e
      tells_it m e new =
          let whole_log = get_whole_within (known l (suc unit)) own m new.logged new.is_known in
          ap (option_and_then (λ (x : Logged). unit_event_of x.event)) whole_log.0 ∙ new.event

      landed_event : (m : ℕ) → l.event ≡ Decides (Landed unit m) → AreFilled (suc k)
      unfolding AreFilled
      landed_event m is =
          let d : IsDecided i w mount.legal k (Landed unit m) l = decided i w mount.legal k (Landed unit m) l at is in
          let may : MayLand (prefixes l (log_of w)) unit m = d.allowed.2 in
          let p : IsToldProgram k may.program = told_program k m l may.program d.own may.new may.stripe in
          let answer : answer_by unit l.event ≡ Some (DidLand m) = ap (answer_by unit) is ∙ ap (λ t. if t then Some (DidLand m) else None) (same_number unit) in
          by_chunk may.program (ap (told_by (log_of w) unit) is ∙ ap (λ t. if t then unit_event_at (log_of w) unit m else None) (same_number unit)
          ∙ tells_it m may.program may.new) (λ its c was.
          subst (IsFilled i.shape next o unit) (sym (ap₂ (λ x y. after_outcome i.shape c x y) p.command may.done))
          (filled_landed i.shape (take k log) next o unit c p.stripe.stripe.blocks (whole k from p.stripe p.first (sym p.chunk ∙ its))
          (answered_more (take k log) l o unit (DidLand m) p.stripe answer p.first (its_life k from p.stripe p.first (sym p.chunk ∙ its))) (before c was)))

      lost_event : (m : ℕ) → l.event ≡ Decides (Lost unit m) → AreFilled (suc k)
      unfolding AreFilled
      lost_event m is =
          let d : IsDecided i w mount.legal k (Lost unit m) l = decided i w mount.legal k (Lost unit m) l at is in
          let may : MayLose (prefixes l (log_of w)) unit m = d.allowed.2 in
          let p : IsToldProgram k may.program = told_program k m l may.program d.own may.new may.stripe in
          let answer : answer_by unit l.event ≡ Some (WasLost m) = ap (answer_by unit) is ∙ ap (λ t. if t then Some (WasLost m) else None) (same_number unit) in
          by_chunk may.program (ap (told_by (log_of w) unit) is ∙ ap (λ t. if t then unit_event_at (log_of w) unit m else None) (same_number unit)
          ∙ tells_it m may.program may.new) (λ its c was.
          subst (IsFilled i.shape next o unit) (sym (ap₂ (λ x y. after_outcome i.shape c x y) p.command may.failed))
          (filled_lost i.shape (take k log) next o unit c p.stripe.stripe.blocks may.landed_before (whole k from p.stripe p.first (sym p.chunk ∙ its))
          (answered_more (take k log) l o unit (WasLost m) p.stripe answer p.first (its_life k from p.stripe p.first (sym p.chunk ∙ its)))
          (lost_now k from p.stripe p.first (sym p.chunk ∙ its) l m answer) (before c was)))

      reset_event : (m : ℕ) → l.event ≡ Decides (ResetDone unit m) → AreFilled (suc k)
      reset_event m is =
          let d : IsDecided i w mount.legal k (ResetDone unit m) l = decided i w mount.legal k (ResetDone unit m) l at is in
          let may : MayNoteReset (prefixes l (log_of w)) unit m = d.allowed.2 in
          by_chunk may.reset (ap (told_by (log_of w) unit) is ∙ ap (λ t. if t then unit_event_at (log_of w) unit m else None) (same_number unit)
          ∙ tells_it m may.reset may.new) (λ its c was.
          subst (λ x. IsFilled i.shape next o unit (after_outcome i.shape c x may.reset.outcome)) (sym may.is_reset)
          (by_outcome c may.reset.outcome may.not_stopped))
        where
          by_outcome : (c : Chunk) (x : UnitOutcome) → IsDoneReset x → IsFilled i.shape next o unit (after_outcome i.shape c Reset x)
          by_outcome c (Answered answer) done =
              let none = reset_has_none i.shape c.state (pointer c) in
              subst (λ a. IsFilled i.shape next o unit (after_outcome i.shape c Reset (Answered a))) (sym done)
              (filled_empty i.shape next o unit (reset_in i.shape c.state (pointer c)) none.0 none.1)
          by_outcome c (Failed n) done = filled_empty i.shape next o unit offline_chunk refl refl
          by_outcome c (Stopped n) done = absurd done

      one_more : AreFilled (suc k)
      one_more = go l.event refl
        where
          by : (other : ℕ) (t : Bool) → nat_eq other unit ≡ t → (other ≡ unit → AreFilled (suc k)) → (nat_eq other unit ≡ false → AreFilled (suc k))
              → AreFilled (suc k)
          by other true e mine others = mine (eqb-true other unit e)
          by other false e mine others = others e

          go : (e : Event) → l.event ≡ e → AreFilled (suc k)
          go (Decides (Landed other m)) is = by other (nat_eq other unit) refl (λ u. landed_event m (is ∙ ap (λ n. Decides (Landed n m)) u))
              (λ e. untold (ap (told_by (log_of w) unit) is ∙ ap (λ t. if t then unit_event_at (log_of w) unit m else None) e))
          go (Decides (Lost other m)) is = by other (nat_eq other unit) refl (λ u. lost_event m (is ∙ ap (λ n. Decides (Lost n m)) u))
              (λ e. untold (ap (told_by (log_of w) unit) is ∙ ap (λ t. if t then unit_event_at (log_of w) unit m else None) e))
          go (Decides (ResetDone other m)) is = by other (nat_eq other unit) refl (λ u. reset_event m (is ∙ ap (λ n. Decides (ResetDone n m)) u))
              (λ e. untold (ap (told_by (log_of w) unit) is ∙ ap (λ t. if t then unit_event_at (log_of w) unit m else None) e))
          go e is = untold (ap (told_by (log_of w) unit) is)

    filled_until : (d : ℕ) → o.number + d ≤ length (log_of w 0) → AreFilled (o.number + d)
    filled_until zero inside = let same : o.number + 0 ≡ o.number = omega arith in subst AreFilled (sym same) at_first
    filled_until (suc d) inside =
        let far : o.number + suc d ≡ suc (o.number + d) = omega arith in
        let l = got_within log (o.number + d) (omega arith) in
        subst AreFilled (sym far) (one_more (o.number + d) (omega arith) l.0 l.1 (filled_until d (omega arith)))

    pub filled_now : (c : Chunk) → told_chunk i.shape (log_of w)
        (after_log i.shape start_chunks (first_events (log_of w) unit (slice_index b.0.knows (suc unit)))) o.line unit (length (log_of w 0)) ≡ Some c
        → IsFilled i.shape (log_of w 0) o unit c
    unfolding AreFilled
    filled_now c is =
        let inside : o.number < length log = (opened_now i w mount o.line o is_open).2 in
        let far : o.number + (length log - o.number) ≡ length log = omega arith in
        subst (λ (xs : List Logged). IsFilled i.shape xs o unit c) (take-length log)
        (subst AreFilled far (filled_until (length log - o.number) (omega arith)) c is)

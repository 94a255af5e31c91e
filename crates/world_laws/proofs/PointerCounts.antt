-- While a unit isn't stopped and no program of a chunk failed, the chunk's pointer counts the
-- stripes of its line there that have ended.
use Rattle.std.proofs.Common.{◌≡◌, ℕ, ◌+◌, ◌*◌, ◌<◌, ◌≤◌, ◌⊎◌, inl, inr, ◌==◌, not, nat_lt, zero, suc, Bool, true, false, cond, Some, None, Option, List, [], ◌∷◌, length, take, refl, sym, subst, ap, ◌∙◌, arith}
use Rattle.std.specs.Prelude.{slice_get, slice_index}
use Rattle.std.specs.List.{Contains, filter}
use Rattle.std.specs.Option.{option_map_or}
use Rattle.std.proofs.lemmas.Bool.{cases_order}
use Rattle.std.proofs.lemmas.Option.{none-some, same_Some}
use Rattle.pblk_model.specs.Chunk.{Chunk, pointer}
use Rattle.pblk_model.specs.ChunkStep.{Done, Write}
use Rattle.pblk_model.specs.UnitLog.{Answered, UnitEvent}
use Rattle.pblk_model.specs.Image.{Image}
use Rattle.pblk_laws.specs.LineBlocks.{chunk_in}
use Rattle.pblk_world.specs.Events.{Logged}
use Rattle.pblk_world.specs.World.{World, log_of, knows_engine, known, media, unit_event_of, unit_events}
use Rattle.pblk_world.specs.EngineLog.{Begun, begun, is_life, life_of, Opened, Opening, Placed, placed_on, placements, stripes_of, stripes_on, turn}
use Rattle.pblk_world.specs.Commanding.{ended_stripes, ends_program, ends_stripe, has_stopped, is_program, was_stopped}
use Rattle.pblk_model.proofs.Lists.{IsAmong}
use Rattle.pblk_model.proofs.Maps.{all_passed, filter_short, from_filter, in_filter}
use Rattle.pblk_model.proofs.Parts.{all_at, contained_among, got_within}
use Rattle.pblk_model.proofs.Tests.{below_of, first_of, lt_true, not_both, second_of}
use Rattle.pblk_world.specs.LegalMounts.{IsLegalMount}
use Rattle.world_laws.proofs.Stripes.{IsPlaced, opening_then, placed_is, stripe_is}
use Rattle.world_laws.proofs.Openings.{placed_at}
use Rattle.world_laws.specs.UnitChunks.{chunk_after}
use Rattle.world_laws.specs.UnitPrograms.{IsProgramOfStripe}
use Rattle.world_laws.proofs.ChunkPointers.{IsBehind, IsTurn, behind_last, none_ended}
use Rattle.world_laws.proofs.LifePlaces.{began}
use Rattle.world_laws.proofs.LineBlocks.{IsLandedProgram, IsLineOf, opened_line}
use Rattle.world_laws.proofs.NamedPrefixes.{was_made}
use Rattle.world_laws.proofs.MediaChunks.{chunk_of_media}
use Rattle.world_laws.proofs.OpenedChunks.{named, since}
use Rattle.world_laws.proofs.Programs.{program_of_stripe}
use Rattle.world_laws.proofs.StripePlaces.{kth_place}
use Rattle.world_laws.proofs.UnitTurns.{earlier_placed, rise_all, rise_between, some_rise, turn_is}

-- ---- lists in which those that pass come first

abbrev PassFirst : {X : Type 0} → (X → Bool) → List X → Type 0
PassFirst {X} f xs = (j m : ℕ) (x y : X) → j < m → slice_get xs j ≡ Some x → slice_get xs m ≡ Some y → f y ≡ true → f x ≡ true

none_pass : {X : Type 0} (f : X → Bool) (xs : List X) → ((m : ℕ) (x : X) → slice_get xs m ≡ Some x → f x ≡ false) → filter f xs ≡ []
none_pass f [] none = refl
none_pass {X} f (x ∷ xs) none =
    ap (λ t. cond t (x ∷ filter f xs) (filter f xs)) (none 0 x refl) ∙ none_pass f xs (λ m y at. none (suc m) y at)

passes_below : {X : Type 0} (f : X → Bool) (xs : List X) (m : ℕ) (x : X) → PassFirst f xs → slice_get xs m ≡ Some x
    → (f x ≡ true → m < length (filter f xs)) × (m < length (filter f xs) → f x ≡ true)
passes_below f [] m x first at = absurd (none-some x at)
passes_below {X} f (y ∷ xs) m x first at =
    go (f y) refl m at (λ k at. passes_below f xs k x (λ j m x y below a b. first (suc j) (suc m) x y (omega arith) a b) at)
  where
    go : (t : Bool) → f y ≡ t → (m : ℕ) → slice_get (y ∷ xs) m ≡ Some x
        → ((k : ℕ) → slice_get xs k ≡ Some x → (f x ≡ true → k < length (filter f xs)) × (k < length (filter f xs) → f x ≡ true))
        → (f x ≡ true → m < length (filter f (y ∷ xs))) × (m < length (filter f (y ∷ xs)) → f x ≡ true)
    go true e zero at rest =
        let count : length (filter f (y ∷ xs)) ≡ suc (length (filter f xs)) = ap (λ t. length (cond t (y ∷ filter f xs) (filter f xs))) e in
        (λ p. omega arith, λ below. ap f (sym (same_Some y x at)) ∙ e)
    go true e (suc k) at rest =
        let count : length (filter f (y ∷ xs)) ≡ suc (length (filter f xs)) = ap (λ t. length (cond t (y ∷ filter f xs) (filter f xs))) e in
        let h = rest k at in
        (λ p. let inside : k < length (filter f xs) = h.0 p in omega arith, λ below. h.1 (omega arith))
    go false e m at rest =
        let none : filter f xs ≡ [] = none_pass f xs (λ j z there. later j z there (f z) refl) in
        let count : length (filter f (y ∷ xs)) ≡ 0 = ap (λ t. length (cond t (y ∷ filter f xs) (filter f xs))) e ∙ ap length none in
        (λ p. absurd (not_both (f y) (by m at p) e), λ below. absurd (omega arith))
      where
        later : (j : ℕ) (z : X) → slice_get xs j ≡ Some z → (t : Bool) → f z ≡ t → f z ≡ false
        later j z there false p = p
        later j z there true p = absurd (not_both (f y) (first 0 (suc j) y z (omega arith) refl there p) e)

        by : (m : ℕ) → slice_get (y ∷ xs) m ≡ Some x → f x ≡ true → f y ≡ true
        by zero at p = ap f (same_Some y x at) ∙ p
        by (suc k) at p = first 0 (suc k) y x (omega arith) refl at p

-- ---- the event that ended a stripe

record IsEnding (own : List Logged) (turn : ℕ) : Type 0 where
  number : ℕ
  logged : Logged
  there : slice_get own number ≡ Some logged
  ending : ends_stripe logged ≡ true
  turn_is : ended_stripes (take number own) ≡ turn

ending_of : (own : List Logged) (turn : ℕ) → turn < ended_stripes own → IsEnding own turn
ending_of [] turn below = absurd (omega arith)
ending_of (l ∷ own) turn below = go (ends_stripe l) refl turn below (λ t b. ending_of own t b)
  where
    go : (t : Bool) → ends_stripe l ≡ t → (turn : ℕ) → turn < ended_stripes (l ∷ own)
        → ((t : ℕ) → t < ended_stripes own → IsEnding own t) → IsEnding (l ∷ own) turn
    go false e turn below rest =
        let count : ended_stripes (l ∷ own) ≡ ended_stripes own = ap (λ t. length (cond t (l ∷ filter ends_stripe own) (filter ends_stripe own))) e in
        let h : IsEnding own turn = rest turn (omega arith) in record {
          number = suc h.number;
          logged = h.logged;
          there = h.there;
          ending = h.ending;
          turn_is = ap (λ t. length (cond t (l ∷ filter ends_stripe (take h.number own)) (filter ends_stripe (take h.number own)))) e ∙ h.turn_is;
        }
    go true e zero below rest = record { number = 0; logged = l; there = refl; ending = e; turn_is = refl }
    go true e (suc turn) below rest =
        let count : ended_stripes (l ∷ own) ≡ suc (ended_stripes own) = ap (λ t. length (cond t (l ∷ filter ends_stripe own) (filter ends_stripe own))) e in
        let h : IsEnding own turn = rest turn (omega arith) in record {
          number = suc h.number;
          logged = h.logged;
          there = h.there;
          ending = h.ending;
          turn_is = ap (λ t. length (cond t (l ∷ filter ends_stripe (take h.number own)) (filter ends_stripe (take h.number own)))) e ∙ ap suc h.turn_is;
        }

-- the event is a program, done or failed
record IsEnded (l : Logged) : Type 0 where
  knew : 0 < knows_engine l
  event : UnitEvent
  is_event : unit_event_of l.event ≡ Some event
  program : is_program event.command ≡ true

ended_is : (l : Logged) → ends_stripe l ≡ true → IsEnded l
ended_is l ending = go (unit_event_of l.event) refl (second_of (nat_lt 0 (knows_engine l)) _ ending)
  where
    go : (o : Option UnitEvent) → unit_event_of l.event ≡ o → option_map_or ends_program o false ≡ true → IsEnded l
    go None is e = absurd cc
    go (Some event) is e = record {
      knew = below_of 0 (knows_engine l) (first_of (nat_lt 0 (knows_engine l)) _ ending);
      event = event;
      is_event = is;
      program = first_of (is_program event.command) (not (was_stopped event.outcome)) e;
    }

-- ---- the stripes of an opened line on a unit

module _ (i : Image) (w : World) (mount : IsLegalMount i w) (o : Opening) (is_open : life_of (log_of w 0) o.line ≡ Opened o) (unit : ℕ)
    (running : has_stopped (unit_events (log_of w) unit) ≡ false) where
  abbrev log : List Logged
  log = log_of w 0

  abbrev own : List Logged
  own = log_of w (suc unit)

  b : (x : Begun) × (begun (log_of w 0) ≡ Some x)
  b = began i w o.line o mount.legal is_open

  line : IsLineOf i w o
  line = opened_line i w mount o is_open

  -- whether a stripe's program has ended
  abbrev has_ended : Placed → Bool
  has_ended q = nat_lt (turn (log_of w 0) q) (ended_stripes (log_of w (suc unit)))

  on_unit : (m : ℕ) (q : Placed) → slice_get (stripes_on (log_of w 0) o unit) m ≡ Some q → IsAmong (placed_on (log_of w 0) unit) q
  on_unit m q at = in_filter (λ (z : Placed). z.stripe.unit == unit) (placements log) q
      (from_filter (λ (z : Placed). is_life o.number z.life) (placements log) q
      (from_filter (λ (z : Placed). z.stripe.unit == unit) (stripes_of log o) q (m, at)))
      (all_at (λ (z : Placed). (z.stripe.unit == unit) ≡ true) (stripes_on log o unit) m q at
      (all_passed (λ (z : Placed). z.stripe.unit == unit) (stripes_of log o)))

  ended_first : PassFirst (λ q. nat_lt (turn (log_of w 0) q) (ended_stripes (log_of w (suc unit)))) (stripes_on (log_of w 0) o unit)
  ended_first j m x y below first second passes =
      let a = on_unit j x first in
      let z = on_unit m y second in
      let early : x.number < y.number = rise_between (stripes_on log o unit) j m x y
      (some_rise (λ (q : Placed). q.stripe.unit == unit) (stripes_of log o)
      (some_rise (λ (q : Placed). is_life o.number q.life) (placements log) (rise_all log)))
      below first second in
      let over : turn log y < ended_stripes own = below_of (turn log y) (ended_stripes own) passes in
      let its : turn log y ≡ z.0 = turn_is log unit z.0 y z.1 in
      let own_turn : turn log x ≡ a.0 = turn_is log unit a.0 x a.1 in
      lt_true (turn log x) (ended_stripes own) (by (cases_order a.0 z.0) a.1 z.1 early (omega arith) own_turn)
    where
      by : {k n : ℕ} → (k ≡ n) ⊎ ((k < n) ⊎ (n < k)) → slice_get (placed_on (log_of w 0) unit) k ≡ Some x → slice_get (placed_on (log_of w 0) unit) n ≡ Some y
          → x.number < y.number → n < ended_stripes (log_of w (suc unit)) → turn (log_of w 0) x ≡ k → turn (log_of w 0) x < ended_stripes (log_of w (suc unit))
      by (inl same) one two early over is = omega arith
      by (inr (inl less)) one two early over is = omega arith
      by {k} {n} (inr (inr more)) one two early over is = let late : y.number < x.number = earlier_placed log unit n k y x more two one in absurd (omega arith)

  module _ (c : Chunk) (now : chunk_after i (log_of w) o.line unit (length (log_of w (suc unit))) ≡ Some c)
      (done : (number : ℕ) (l : Logged) (e : UnitEvent) → slice_index o.knows (suc unit) ≤ number → slice_get (log_of w (suc unit)) number ≡ Some l
      → unit_event_of l.event ≡ Some e → e.chunk ≡ o.line → is_program e.command ≡ true → e.outcome ≡ Answered Done) where
    count : ℕ
    count = length (filter has_ended (stripes_on (log_of w 0) o unit))

    turns_below : (y : ℕ) (e : IsTurn i w mount o is_open unit running y)
        → e.index < length (filter (λ q. nat_lt (turn (log_of w 0) q) (ended_stripes (log_of w (suc unit)))) (stripes_on (log_of w 0) o unit))
    turns_below y e =
        let its : turn log e.placed ≡ ended_stripes (take y own) = turn_is log unit (ended_stripes (take y own)) e.placed e.in_order in
        let over : ended_stripes (take y own) < ended_stripes own = e.over in
        (passes_below has_ended (stripes_on log o unit) e.index e.placed ended_first e.at).0 (lt_true (turn log e.placed) (ended_stripes own) (omega arith))

    -- the program of the last one that has ended
    program_of : (k : ℕ) (q : Placed) → slice_get (stripes_on (log_of w 0) o unit) k ≡ Some q → turn (log_of w 0) q < ended_stripes (log_of w (suc unit))
        → IsLandedProgram w unit q
    program_of k q at over =
        let h : IsEnding own (turn log q) = ending_of own (turn log q) over in
        let ended : IsEnded h.logged = ended_is h.logged h.ending in
        let s : IsProgramOfStripe (log_of w) unit h.number h.logged ended.event =
        program_of_stripe i w unit h.number h.logged ended.event mount.legal h.there ended.is_event ended.program ended.knew in
        let z = on_unit k q at in
        let turn_q : turn log q ≡ z.0 = turn_is log unit z.0 q z.1 in
        let same : s.placed ≡ q = same_Some s.placed q (sym s.in_order ∙ ap (slice_get (placed_on log unit)) (h.turn_is ∙ turn_q) ∙ z.1) in
        let there : Contains (stripes_of log o) q =
        contained_among (stripes_of log o) q (from_filter (λ (x : Placed). x.stripe.unit == unit) (stripes_of log o) q (k, at)) in
        let is = stripe_is i w o q mount.legal line.opened there in
        let placed : IsPlaced log q = placed_is log q is.0 in
        let own_chunk : q.stripe.chunk ≡ q.stripe.line =
        (placed_at i w q.number q.stripe placed.logged mount.legal placed.there placed.event).chunk in
        let chunk : ended.event.chunk ≡ q.stripe.chunk = s.chunk ∙ ap (λ (x : Placed). x.stripe.chunk) same in
        let knew : q.number < knows_engine h.logged = subst (λ (x : Placed). x.number < knows_engine h.logged) same s.was_known in
        let since_open = since i w mount.legal b.0 b.1 unit o.line o is_open in
        let opened : o.number < q.number = (opening_then log q.number q.stripe.line o is.2).2 in
        let low : known since_open.logged (suc unit) ≤ h.number =
        (was_made i w (suc unit) h.number h.logged mount.legal h.there).knew 0 o.number since_open.logged (omega arith) since_open.there in
        let base_is : known since_open.logged (suc unit) ≡ slice_index o.knows (suc unit) = named i w mount.legal b.0 b.1 unit o.line o is_open in
        record {
          number = h.number;
          logged = h.logged;
          there = h.there;
          event = ended.event;
          is_event = ended.is_event;
          knew = knew;
          in_order = s.in_order ∙ ap (λ x. Some x) same;
          chunk = chunk;
          command = s.command ∙ ap (λ (x : Placed). Write x.stripe.at x.stripe.blocks) same;
          done = done h.number h.logged ended.event (omega arith) h.there ended.is_event (chunk ∙ own_chunk ∙ is.3) ended.program;
        }

    pub pointer_counts : pointer c
        ≡ length (filter (λ q. nat_lt (turn (log_of w 0) q) (ended_stripes (log_of w (suc unit)))) (stripes_on (log_of w 0) o unit)) * i.shape.ws_opt
    pointer_counts = go (length (filter has_ended (stripes_on log o unit))) refl
      where
        go : (n : ℕ) → length (filter has_ended (stripes_on (log_of w 0) o unit)) ≡ n
            → pointer c ≡ length (filter has_ended (stripes_on (log_of w 0) o unit)) * i.shape.ws_opt
        go zero none =
            let nothing = none_ended i w mount o is_open unit running c now
            (λ y e. let below : e.index < length (filter has_ended (stripes_on log o unit)) = turns_below y e in omega arith) in
            nothing.0 ∙ (let zeros : 0 ≡ 0 * i.shape.ws_opt = omega arith in zeros) ∙ ap (λ m. m * i.shape.ws_opt) (sym none)
        go (suc k) some =
            let few : length (filter has_ended (stripes_on log o unit)) ≤ length (stripes_on log o unit) = filter_short has_ended (stripes_on log o unit) in
            let last = got_within (stripes_on log o unit) k (omega arith) in
            let passes : has_ended last.0 ≡ true = (passes_below has_ended (stripes_on log o unit) k last.0 ended_first last.1).1 (omega arith) in
            let over : turn log last.0 < ended_stripes own = below_of (turn log last.0) (ended_stripes own) passes in
            let h : IsBehind i w mount o is_open unit running c now last.0 =
            behind_last i w mount o is_open unit running c now k last.0 last.1 (program_of k last.0 last.1 over)
            (λ y e. let below : e.index < length (filter has_ended (stripes_on log o unit)) = turns_below y e in omega arith) in
            let at : last.0.stripe.at ≡ k * i.shape.ws_opt = kth_place i w o unit k last.0 mount line.opened last.1 in
            h.pointer_is ∙ (let next : last.0.stripe.at + i.shape.ws_opt ≡ suc k * i.shape.ws_opt = omega arith in next)
            ∙ ap (λ m. m * i.shape.ws_opt) (sym some)

pub counted_pointer : (i : Image) (w : World) (mount : IsLegalMount i w) (o : Opening) (is_open : life_of (log_of w 0) o.line ≡ Opened o) (unit : ℕ)
    (c : Chunk) → has_stopped (unit_events (log_of w) unit) ≡ false
    → ((number : ℕ) (l : Logged) (e : UnitEvent) → slice_index o.knows (suc unit) ≤ number → slice_get (log_of w (suc unit)) number ≡ Some l
    → unit_event_of l.event ≡ Some e → e.chunk ≡ o.line → is_program e.command ≡ true → e.outcome ≡ Answered Done)
    → chunk_in (media i (log_of w)) o.line unit ≡ Some c → pointer c
    ≡ length (filter (λ q. nat_lt (turn (log_of w 0) q) (ended_stripes (log_of w (suc unit)))) (stripes_on (log_of w 0) o unit)) * i.shape.ws_opt
counted_pointer i w mount o is_open unit c running done found =
    pointer_counts i w mount o is_open unit running c (sym (chunk_of_media i (log_of w) o.line unit) ∙ found) done

-- Where the run of crate room_law begins that the engine's log makes: at its first event.
use Rattle.std.proofs.Common.{◌≡◌, ℕ, ◌+◌, ◌*◌, ◌<◌, ◌≤◌, ◌&&◌, not, nat_lt, is_some, zero, suc, Bool, true, false, cond, Some, None, Option, List, [], ◌∷◌, length, take, refl, sym, subst, ap, ap₂, ◌∙◌, arith}
use Rattle.std.specs.Prelude.{slice_get, map}
use Rattle.std.specs.List.{Contains, enumerate_from, filter, filter_map, list_all, range_with_len}
use Rattle.std.proofs.Math.Nat.{mul-le-mul_left}
use Rattle.pblk_model.specs.declared.chunk.ChunkState.{ChunkState}
use Rattle.pblk_model.specs.declared.chunk.ChunkState.TheVariants as states
use Rattle.pblk_model.specs.Chunk.{Chunk}
use Rattle.pblk_model.specs.Accepted.{IsAccepted}
use Rattle.pblk_model.specs.Image.{Image}
use Rattle.pblk_model.specs.LineOrder.{data_len}
use Rattle.pblk_model.specs.StartRecord.{start_of}
use Rattle.pblk_model.specs.UnitLog.{after_log}
use Rattle.pblk_world.specs.EngineLog.{AsFound, Begun, Taken, life_of, takes}
use Rattle.pblk_world.specs.Events.{Begin, Beginning, Decides, Event, Logged}
use Rattle.pblk_world.specs.Fronts.{taken}
use Rattle.pblk_world.specs.Lines.{are_empty, chunks_of, found_by, found_image, line_data, has_number, is_empty_state, is_free_line, known_image, told_by, told_events}
use Rattle.pblk_world.specs.Space.{full_data, open_addresses, placed_front, unplaced_in}
use Rattle.pblk_world.specs.Victims.{engine_prefix, victim}
use Rattle.pblk_world.specs.World.{World, Logs, log_of}
use Rattle.pblk_model.proofs.Lists.{contains_none}
use Rattle.pblk_model.proofs.Tests.{and_both, both, lt_true}
use Rattle.pblk_model.proofs.Parts.{got_within, take_next}
use Rattle.world_laws.proofs.Beginnings.{first_begins}
use Rattle.world_laws.proofs.FitMedia.{found_fit}
use Rattle.world_laws.proofs.ToldImages.{found_at}
use Rattle.world_laws.proofs.EarlierLogs.{some_begun}
use Rattle.core_laws.proofs.MadeLists.{sum_none}
use Rattle.room_law.specs.Counting.{AtStart, IsReached, IsStart, NoCopy, State}
use Rattle.room_law.specs.Counting as counting
use Rattle.rest_laws.specs.RoomRuns.{AreBegunAt, HasNumbers, IsReasonedMount, IsRoomState, sizes_of, still_at_work}
use Rattle.rest_laws.specs.RoomSteps.{free_lines, unreset_lines}
use Rattle.rest_laws.specs.Tidy.{has_free_chunks, is_free_state}
use Rattle.rest_laws.proofs.RoomyShapes.{eight_stripes}
use Rattle.rest_laws.proofs.RunStates.{limit_is, reach_next}
use Rattle.rest_laws.proofs.SomeOpened.{blank_start}

-- where one test passes and another does with it, more pass that one
pub more_pass : (p q : ℕ → Bool) (a n : ℕ) → ((k : ℕ) → k < n → p (a + k) ≡ true → q (a + k) ≡ true)
    → length (filter p (range_with_len a n)) ≤ length (filter q (range_with_len a n))
more_pass p q a zero each = omega arith
more_pass p q a (suc n) each =
    go (p a) (q a) (λ e. let same : a + 0 ≡ a = omega arith in ap q (sym same) ∙ each 0 (omega arith) (ap p same ∙ e))
    (more_pass p q (a + 1) n (λ k small e. let same : a + 1 + k ≡ a + suc k = omega arith in ap q same ∙ each (suc k) (omega arith) (ap p (sym same) ∙ e)))
  where
    go : (s t : Bool) → (s ≡ true → t ≡ true) → length (filter p (range_with_len (a + 1) n)) ≤ length (filter q (range_with_len (a + 1) n))
        → length (cond s (a ∷ filter p (range_with_len (a + 1) n)) (filter p (range_with_len (a + 1) n)))
        ≤ length (cond t (a ∷ filter q (range_with_len (a + 1) n)) (filter q (range_with_len (a + 1) n)))
    go false false follows rest = rest
    go false true follows rest = omega (arith, rest)
    go true true follows rest = omega (arith, rest)
    go true false follows rest = absurd (let no : false ≡ true = follows refl in cc)

numbered_are : {X : Type 0} (n : ℕ) (xs : List X) → map (λ (x : ℕ × X). x.1) (enumerate_from n xs) ≡ xs
numbered_are n [] = refl
numbered_are n (x ∷ xs) = ap (λ ys. x ∷ ys) (numbered_are (n + 1) xs)

fun_units : {X Y : Type 0} (f g : X → Y) → ((x : X) → f x ≡ g x) → f ≡ g
fun_units f g each = λ k x. each x k

free_is_empty : (s : ChunkState) → is_free_state s ≡ true → is_empty_state s ≡ true
free_is_empty states.Free e = refl
free_is_empty states.Offline e = refl
free_is_empty states.Open e = absurd cc
free_is_empty states.Closed e = absurd cc

free_empty : (cs : List Chunk) → list_all (λ (c : Chunk). is_free_state c.state) cs ≡ true → list_all (λ (c : Chunk). is_empty_state c.state) cs ≡ true
free_empty [] e = refl
free_empty (c ∷ cs) e =
    let parts = both (is_free_state c.state) (list_all (λ (x : Chunk). is_free_state x.state) cs) e in
    and_both (is_empty_state c.state) (list_all (λ (x : Chunk). is_empty_state x.state) cs) (free_is_empty c.state parts.0) (free_empty cs parts.1)

module _ (i : Image) (w : World) (is : IsReasonedMount i w) (some : 1 ≤ length (log_of w 0)) where
  abbrev first : Logs
  first = engine_prefix 1 (log_of w)

  l : (l : Logged) × (slice_get (log_of w 0) 0 ≡ Some l)
  l = got_within (log_of w 0) 0 some

  beginning : (b : Beginning) × (l.0.event ≡ Decides (Begin b))
  beginning = first_begins i w l.0 is.mount.legal l.1

  one : take 1 (log_of w 0) ≡ record { event = Decides (Begin beginning.0); knows = l.0.knows } ∷ []
  one = take_next (log_of w 0) 0 l.0 l.1 ∙ ap (λ (e : Event). record { event = e; knows = l.0.knows } ∷ []) beginning.1

  as_found : (line : ℕ) → life_of (take 1 (log_of w 0)) line ≡ AsFound
  as_found line = ap (λ (xs : List Logged). life_of xs line) one

  -- ---- the numbers

  none_open : open_addresses i (engine_prefix 1 (log_of w)) ≡ 0
  none_open =
      sum_none (λ line. unplaced_in i.shape (take 1 (log_of w 0)) (life_of (take 1 (log_of w 0)) line))
      (λ line. ap (unplaced_in i.shape (take 1 (log_of w 0))) (as_found line)) 0 i.shape.chunks

  none_taken : taken (take 1 (log_of w 0)) ≡ placed_front i.shape (take 1 (log_of w 0))
  none_taken = ap taken one ∙ sym (ap (placed_front i.shape) one)

  -- the engine was told of nothing yet
  nothing_told : (unit : ℕ) → told_events (engine_prefix 1 (log_of w)) unit ≡ []
  nothing_told unit = ap (filter_map (λ (m : Logged). told_by first unit m.event)) one

  known_is_found : known_image i (engine_prefix 1 (log_of w)) ≡ record { shape = i.shape; units = (found_image i (log_of w)).units }
  known_is_found = ap (λ us. record { shape = i.shape; units = us }) same_units
    where
      same_units : (known_image i (engine_prefix 1 (log_of w))).units ≡ (found_image i (log_of w)).units
      same_units =
          ap (λ (f : ℕ × List Chunk → List Chunk). map f (enumerate_from 0 (found_image i first).units))
          (fun_units (λ unit. after_log i.shape unit.1 (told_events first unit.0)) (λ unit. unit.1)
          (λ unit. ap (after_log i.shape unit.1) (nothing_told unit.0)))
          ∙ numbered_are 0 (found_image i first).units
          ∙ ap (λ (j : Image). j.units) (found_at i (log_of w) 1 (omega arith))

  -- ---- a line with Free chunks alone is Free

  module _ (line : ℕ) (inside : line < i.shape.chunks) (free : has_free_chunks (found_image i (log_of w)) line ≡ true) where
    empty : are_empty (known_image i (engine_prefix 1 (log_of w))) line ≡ true
    empty = ap (λ (j : Image). are_empty j line) known_is_found ∙ free_empty (chunks_of (found_image i (log_of w)) line) free

    same_shape : (found_image i (log_of w)).shape ≡ i.shape
    same_shape = let b = some_begun i w is.mount.legal some in ap (λ (x : Option Begun). (found_by i (log_of w) x).shape) b.1

    no_start : start_of (found_image i (log_of w)) line ≡ None
    no_start = blank_start (found_image i (log_of w)) line (subst IsAccepted (sym same_shape) is.mount.accepted)
        (found_fit i w is.mount.accepted is.mount.fit is.mount.legal) free

    no_number : has_number i (engine_prefix 1 (log_of w)) (life_of (take 1 (log_of w 0)) line) line ≡ false
    no_number = ap (λ life. has_number i first life line) (as_found line)
        ∙ ap (λ (j : Image). is_some (start_of j line)) (found_at i (log_of w) 1 (omega arith)) ∙ ap is_some no_start

    has_data : nat_lt 0 (line_data (known_image i (engine_prefix 1 (log_of w))) line) ≡ true
    has_data =
        let eight : 8 * i.shape.ws_opt ≤ full_data i.shape = eight_stripes i.shape is.mount.accepted in
        let positive : 0 < i.shape.ws_opt = is.mount.accepted.drive.ws_opt in
        ap (λ g. nat_lt 0 (data_len i.shape g)) (is.wide 1 (omega arith) some line inside)
        ∙ lt_true 0 (full_data i.shape) (above (full_data i.shape) i.shape.ws_opt eight positive)
      where
        above : (d n : ℕ) → 8 * n ≤ d → 0 < n → 0 < d
        above d n x y = omega arith

    its_free : is_free_line i (engine_prefix 1 (log_of w)) line ≡ true
    its_free = ap₂ (λ a b. not a && b && nat_lt 0 (line_data (known_image i first) line)) no_number empty ∙ has_data

  two_free : 2 ≤ free_lines i (engine_prefix 1 (log_of w))
  two_free =
      let more : length (filter (has_free_chunks (found_image i (log_of w))) (range_with_len 0 i.shape.chunks)) ≤ free_lines i first =
      more_pass (has_free_chunks (found_image i (log_of w))) (is_free_line i first) 0 i.shape.chunks (λ k small free. its_free (0 + k) (omega arith) free) in
      omega (arith, is.some_free)

  -- ---- the state

  start_numbers : State
  start_numbers = record {
    left = open_addresses i (engine_prefix 1 (log_of w));
    free = free_lines i (engine_prefix 1 (log_of w));
    resetting = unreset_lines i (engine_prefix 1 (log_of w));
    placed = placed_front i.shape (take 1 (log_of w 0));
    taken = taken (take 1 (log_of w 0));
    reach = 0;
    users = 0;
    before_due = 0;
    while_due = 0;
    victim = None;
    copy = NoCopy;
  }

  pub start : State
  start = counting.raised (sizes_of i) start_numbers

  numbers : HasNumbers i (engine_prefix 1 (log_of w)) start
  unfolding start start_numbers
  numbers = record { left = refl; free = refl; resetting = refl; placed = refl; taken = refl }

  has_begun : IsStart (sizes_of i) start
  unfolding start start_numbers
  has_begun = record {
    stripes_left = 0;
    whole = omega (arith, none_open);
    has_room =
        let two : full_data i.shape * 2 ≤ full_data i.shape * free_lines i first = mul-le-mul_left (full_data i.shape) two_free in
        omega arith;
    none_waits = none_taken;
    reach = omega arith;
    users = omega arith;
    before_due = omega arith;
    while_due = omega arith;
    no_victim = refl;
    no_copy = refl;
  }

  reached : IsReached (sizes_of i) start
  reached = AtStart start has_begun

  module _ (at : ℕ → ℕ) (turns : AreBegunAt i (log_of w) at) where
    pub started : IsRoomState i (log_of w) at 1 0 0 (still_at_work (engine_prefix 1 (log_of w)) (victim i (log_of w) 0)) start
    unfolding start start_numbers victim
    started = record {
      numbers = numbers;
      victim = tt;
      copy = λ number entry mark took low.
          let turn = turns.each number entry mark took in
          let some_at : 0 < turn.0.begun.at = turn.0.begun.has_begun in
          omega (arith, turn.1);
      users = λ t held source. absurd (none_held t (subst (λ (xs : List Logged). Contains (takes xs) t) one held));
      reach = reach_next i w is 0 start.reach some (λ position r. absurd (let from : 0 < r.at = r.has_begun in omega (arith, r.within)))
          (let limit = limit_is i w is 1 (omega arith) some start numbers in omega (arith, limit));
      asks = λ position a. absurd (let from : 0 < a.at = a.has_begun in omega (arith, a.within));
      reached = reached;
    }
      where
        none_held : (t : Taken) → Contains {X = Taken} [] t → ⊥
        none_held t held = contains_none t held

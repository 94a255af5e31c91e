-- The newest start record only gets newer. What was freed is older, and its line stands.
use Rattle.std.proofs.Common.{◌≡◌, ◌⊎◌, inl, inr, ℕ, ◌+◌, ◌<◌, ◌≤◌, ◌&&◌, nat_le, zero, suc, Bool, true, false, cond, Some, Option, List, [], ◌∷◌, ◌++◌, map, length, take, drop, refl, sym, subst, ap, ◌∙◌, arith, length-append}
use Rattle.std.specs.Prelude.{slice_get, ⊤}
use Rattle.std.specs.List.{AllByRecursion, Contains, filter, last_or, list_all}
use Rattle.std.specs.Option.{option_map_or}
use Rattle.std.proofs.lemmas.List.{take-append-le}
use Rattle.std.proofs.lemmas.List.Elements.{filter-append}
use Rattle.std.proofs.lemmas.Option.{none-some, same_Some}
use Rattle.pblk_model.specs.declared.shape.Shape.{Shape}
use Rattle.pblk_model.specs.Image.{Image}
use Rattle.pblk_model.specs.StartRecord.{StartRecord}
use Rattle.pblk_model.specs.Contents.{head, end}
use Rattle.pblk_model.specs.Records.{Record}
use Rattle.pblk_world.specs.Events.{Logged}
use Rattle.pblk_world.specs.World.{World, log_of}
use Rattle.pblk_world.specs.EngineLog.{Begun, Opening, openings, Opened, life_of, is_life, Placed, placements, stripes_of, has_landed}
use Rattle.pblk_world.specs.Fronts.{first_position}
use Rattle.pblk_world.specs.Freeing.{HasLandedIn}
use Rattle.pblk_world.specs.Legal.{IsLegal}
use Rattle.pblk_world.specs.Lines.{found_image, next_seq}
use Rattle.pblk_world.specs.Starts.{start_stripes, have_landed, has_landed_start, newest_start, seq_in}
use Rattle.pblk_world.specs.Victims.{engine_prefix}
use Rattle.pblk_model.proofs.Lists.{IsAmong, all_imply, among_all, among_contained, later}
use Rattle.pblk_model.proofs.Maps.{all_filter, all_passed, from_filter, in_filter}
use Rattle.pblk_model.proofs.Parts.{all_at, all_by_get, all_taken, contained_among, take_and_drop}
use Rattle.pblk_model.proofs.Tests.{and_both, first_of, le_true, second_of, within_is}
use Rattle.world_laws.proofs.Begun.{IsBegunWith, begun_with}
use Rattle.world_laws.proofs.FoundCounts.{front_low}
use Rattle.world_laws.proofs.Freeing.{IsFreeable, freed_life_at}
use Rattle.world_laws.proofs.Later.{landed_later, placed_within, placements_joined}
use Rattle.world_laws.proofs.Lives.{IsFreedLife, standing_or_freed}
use Rattle.world_laws.proofs.StartRecords.{IsNthOpening, nth_opening, seq_of_nth, fronts_rise, front_from_first}
use Rattle.world_laws.proofs.Stripes.{opening_of_prefix, opening_then}
use Rattle.world_laws.proofs.ToldImages.{found_then}

-- ---- openings by their sequence numbers

abbrev AreRising : List Opening → Type 0
AreRising [] = ⊤
AreRising (o ∷ os) = AllByRecursion (λ (p : Opening). o.start.seq < p.start.seq) os × AreRising os

rising_by : (os : List Opening) → ((m n : ℕ) (o p : Opening) → slice_get os m ≡ Some o → slice_get os n ≡ Some p → m < n
    → o.start.seq < p.start.seq) → AreRising os
rising_by [] h = tt
rising_by (o ∷ os) h = (
  all_by_get (λ (p : Opening). o.start.seq < p.start.seq) os (λ k p at. h 0 (suc k) o p refl at (omega arith)),
  rising_by os (λ m n x y a b below. h (suc m) (suc n) x y a b (omega arith)),
)

rising_filter : (test : Opening → Bool) (os : List Opening) → AreRising os → AreRising (filter test os)
rising_filter test [] h = tt
rising_filter test (o ∷ os) h = go (test o) (rising_filter test os h.1)
  where
    go : (b : Bool) → AreRising (filter test os) → AreRising (cond b (o ∷ filter test os) (filter test os))
    go true rest = (all_filter (λ (p : Opening). o.start.seq < p.start.seq) test os h.0, rest)
    go false rest = rest

openings_rise : (i : Image) (w : World) → IsLegal i w → AreRising (openings (log_of w 0))
openings_rise i w legal = rising_by (openings (log_of w 0)) (λ m n o p a b below.
    let is : IsNthOpening i w m o = nth_opening i w m o legal a in
    let first : o.start.seq ≡ is.g.beginning.seq + m = seq_of_nth i w m o is.g legal is.is_begun a in
    let second : p.start.seq ≡ is.g.beginning.seq + n = seq_of_nth i w n p is.g legal is.is_begun b in
    omega arith)

-- ---- the last of some openings

abbrev starts : List Opening → List StartRecord
starts os = map (λ (o : Opening). o.start) os

last_is : (first_one : Option StartRecord) (os : List Opening) (s : StartRecord) → last_or first_one (starts os) ≡ Some s
    → ((first_one ≡ Some s) × (os ≡ [])) ⊎ ((o : Opening) × IsAmong os o × (o.start ≡ s))
last_is first_one [] s e = inl (e, refl)
last_is first_one (o ∷ os) s e = go (last_is (Some o.start) os s e)
  where
    go : ((Some o.start ≡ Some s) × (os ≡ [])) ⊎ ((p : Opening) × IsAmong os p × (p.start ≡ s))
        → ((first_one ≡ Some s) × (o ∷ os ≡ [])) ⊎ ((p : Opening) × IsAmong (o ∷ os) p × (p.start ≡ s))
    go (inl this) = inr (o, (0, refl), same_Some o.start s this.0)
    go (inr that) = inr (that.0, later o os that.0 that.1, that.2)

last_seq : (first_one : Option StartRecord) (os : List Opening) (s : StartRecord) → AreRising os → last_or first_one (starts os) ≡ Some s
    → AllByRecursion (λ (o : Opening). o.start.seq ≤ s.seq) os
last_seq first_one [] s rise e = tt
last_seq first_one (o ∷ os) s rise e = (first os rise.0 e (last_seq (Some o.start) os s rise.1 e), last_seq (Some o.start) os s rise.1 e)
  where
    first : (os : List Opening) → AllByRecursion (λ (p : Opening). o.start.seq < p.start.seq) os → last_or (Some o.start) (starts os) ≡ Some s
        → AllByRecursion (λ (p : Opening). p.start.seq ≤ s.seq) os → o.start.seq ≤ s.seq
    first [] rise e rest = let same : o.start.seq ≡ s.seq = ap (λ (x : StartRecord). x.seq) (same_Some o.start s e) in omega arith
    first (p ∷ ps) rise e rest = let a : o.start.seq < p.start.seq = rise.0 in let b : p.start.seq ≤ s.seq = rest.0 in omega arith

last_after : (s : StartRecord) (os : List Opening) → (t : StartRecord) × (last_or (Some s) (starts os) ≡ Some t)
last_after s [] = (s, refl)
last_after s (o ∷ os) = last_after o.start os

last_there : (first_one : Option StartRecord) (os : List Opening) (o : Opening) → IsAmong os o → (s : StartRecord) × (last_or first_one (starts os) ≡ Some s)
last_there first_one [] o at = absurd (none-some o at.1)
last_there first_one (p ∷ os) o at = last_after p.start os

-- ---- a start record that has landed has landed

list_all_weaker : {X : Type 0} (f g : X → Bool) (xs : List X) → AllByRecursion (λ x. f x ≡ true → g x ≡ true) xs → list_all f xs ≡ true → list_all g xs ≡ true
list_all_weaker f g [] h e = refl
list_all_weaker f g (x ∷ xs) h e =
    and_both (g x) (list_all g xs) (h.0 (first_of (f x) (list_all f xs) e)) (list_all_weaker f g xs h.1 (second_of (f x) (list_all f xs) e))

pub have_landed_later : (log more : List Logged) (o : Opening) (count : ℕ) → have_landed log o count ≡ true → have_landed (log ++ more) o count ≡ true
have_landed_later log more o count h =
    let test : Placed → Bool = λ p. is_life o.number p.life in
    let joined = placements_joined log more in
    let old : List Placed = stripes_of log o in
    let new : List Placed = filter test joined.0 in
    let grown : stripes_of (log ++ more) o ≡ old ++ new = ap (filter test) joined.1 ∙ filter-append test (placements log) joined.0 in
    let enough : count ≤ length old = within_is count (length old) (first_of (nat_le count (length old)) (list_all (has_landed log) (take count old)) h) in
    let numbers : AllByRecursion (λ (p : Placed). p.number < length log) (take count old) =
    all_taken (λ (p : Placed). p.number < length log) count old (all_filter (λ (p : Placed). p.number < length log) test (placements log)
    (all_imply (IsAmong (placements log)) (λ (p : Placed). p.number < length log) (λ p at. placed_within log p (contained_among (placements log) p at))
    (placements log) (among_all (placements log)))) in
    ap (λ (ps : List Placed). nat_le count (length ps) && list_all (has_landed (log ++ more)) (take count ps)) grown
    ∙ and_both (nat_le count (length (old ++ new))) (list_all (has_landed (log ++ more)) (take count (old ++ new)))
    (le_true count (length (old ++ new)) (omega (arith, length-append old new)))
    (ap (list_all (has_landed (log ++ more))) (take-append-le count old new enough)
    ∙ list_all_weaker (has_landed log) (has_landed (log ++ more)) (take count old)
    (all_imply (λ (p : Placed). p.number < length log) (λ (p : Placed). has_landed log p ≡ true → has_landed (log ++ more) p ≡ true)
    (λ p before. landed_later log more p before) (take count old) numbers)
    (second_of (nat_le count (length old)) (list_all (has_landed log) (take count old)) h))

-- the openings whose start record has landed
abbrev landed : Shape → List Logged → List Opening
landed s log = filter (has_landed_start s log) (openings log)

landed_now : (s : Shape) (n : ℕ) (log : List Logged) (o : Opening) → IsAmong (landed s (take n log)) o → IsAmong (landed s log) o
landed_now s n log o at =
    let then_ : IsAmong (openings (take n log)) o = from_filter (has_landed_start s (take n log)) (openings (take n log)) o at in
    let passes : has_landed_start s (take n log) o ≡ true =
    all_at (λ p. has_landed_start s (take n log) p ≡ true) (landed s (take n log)) at.0 o at.1
    (all_passed (has_landed_start s (take n log)) (openings (take n log))) in
    let now : IsAmong (openings log) o =
    among_contained (openings log) o (opening_of_prefix log n o (contained_among (openings (take n log)) o then_)) in
    in_filter (has_landed_start s log) (openings log) o now
    (subst (λ (xs : List Logged). has_landed_start s xs o ≡ true) (take_and_drop n log)
    (have_landed_later (take n log) (drop n log) o (start_stripes s) passes))

-- ---- the newest start record

-- what is as new as a start record, or newer, with a front as high or higher
pub record IsNewest (i : Image) (w : World) (than : StartRecord) : Type 0 where
  pub newest : StartRecord
  pub is_newest : newest_start i (log_of w) ≡ Some newest
  pub seq : than.seq ≤ newest.seq
  pub front : than.front ≤ newest.front

-- an opening after those of the image that was found
newer_than_head : (i : Image) (w : World) (h : StartRecord) (o : Opening) → IsLegal i w → head (found_image i (log_of w)) ≡ Some h
    → IsAmong (openings (log_of w 0)) o → (h.seq < o.start.seq) × (h.front ≤ o.start.front)
newer_than_head i w h o legal is_head at =
    let is : IsNthOpening i w at.0 o = nth_opening i w at.0 o legal at.1 in
    let with_ : IsBegunWith i w is.g = begun_with i w is.g legal is.is_begun in
    let seq : o.start.seq ≡ is.g.beginning.seq + at.0 = seq_of_nth i w at.0 o is.g legal is.is_begun at.1 in
    let next : is.g.beginning.seq ≡ h.seq + 1 = with_.seq ∙ ap next_seq is_head in
    let first : first_position (log_of w 0) ≡ end (found_image i (log_of w)) =
    ap (λ e. option_map_or (λ (b : Begun). b.beginning.first) e 0) is.is_begun ∙ with_.first in
    let low : h.front ≤ end (found_image i (log_of w)) = front_low (found_image i (log_of w)) h is_head in
    let from : first_position (log_of w 0) ≤ o.start.front = front_from_first i w at.0 o legal at.1 in
    (omega arith, omega arith)

-- of two openings one with a greater number is later
pub later_front : (i : Image) (w : World) (o p : Opening) → IsLegal i w → IsAmong (openings (log_of w 0)) o → IsAmong (openings (log_of w 0)) p
    → o.start.seq ≤ p.start.seq → o.start.front ≤ p.start.front
later_front i w o p legal a b h =
    let is : IsNthOpening i w a.0 o = nth_opening i w a.0 o legal a.1 in
    let first : o.start.seq ≡ is.g.beginning.seq + a.0 = seq_of_nth i w a.0 o is.g legal is.is_begun a.1 in
    let second : p.start.seq ≡ is.g.beginning.seq + b.0 = seq_of_nth i w b.0 p is.g legal is.is_begun b.1 in
    fronts_rise i w a.0 b.0 o p legal a.1 b.1 (omega arith)

-- a landed start record of this mount is at most as new as the newest
pub newest_of_landed : (i : Image) (w : World) (o : Opening) → IsLegal i w → IsAmong (landed i.shape (log_of w 0)) o → IsNewest i w o.start
newest_of_landed i w o legal at =
    let log : List Logged = log_of w 0 in
    let test : Opening → Bool = has_landed_start i.shape log in
    let none : Option StartRecord = head (found_image i (log_of w)) in
    let newest = last_there none (landed i.shape log) o at in
    let seqs = last_seq none (landed i.shape log) newest.0 (rising_filter test (openings log) (openings_rise i w legal)) newest.1 in
    let seq : o.start.seq ≤ newest.0.seq = all_at (λ (p : Opening). p.start.seq ≤ newest.0.seq) (landed i.shape log) at.0 o at.1 seqs in
    record { newest = newest.0; is_newest = newest.1; seq = seq; front = go newest.0 seq (last_is none (landed i.shape log) newest.0 newest.1) }
  where
    go : (s : StartRecord) → o.start.seq ≤ s.seq
        → ((head (found_image i (log_of w)) ≡ Some s) × (landed i.shape (log_of w 0) ≡ []))
        ⊎ ((p : Opening) × IsAmong (landed i.shape (log_of w 0)) p × (p.start ≡ s))
        → o.start.front ≤ s.front
    go s seq (inl none) = absurd (none-some o (ap (λ (os : List Opening). slice_get os at.0) (sym none.1) ∙ at.1))
    go s seq (inr one) =
        let test : Opening → Bool = has_landed_start i.shape (log_of w 0) in
        let front : o.start.front ≤ one.0.start.front =
        later_front i w o one.0 legal (from_filter test (openings (log_of w 0)) o at) (from_filter test (openings (log_of w 0)) one.0 one.1)
        (subst (λ (t : StartRecord). o.start.seq ≤ t.seq) (sym one.2) seq) in
        subst (λ (t : StartRecord). o.start.front ≤ t.front) one.2 front

-- what was the newest of the image that was found is at most as new as the newest now
newest_of_head : (i : Image) (w : World) (h : StartRecord) → IsLegal i w → head (found_image i (log_of w)) ≡ Some h → IsNewest i w h
newest_of_head i w h legal is_head = go (landed i.shape (log_of w 0)) refl
  where
    go : (os : List Opening) → landed i.shape (log_of w 0) ≡ os → IsNewest i w h
    go [] none = record {
      newest = h;
      is_newest = ap (λ (os : List Opening). last_or (head (found_image i (log_of w))) (starts os)) none ∙ is_head;
      seq = omega arith;
      front = omega arith;
    }
    go (o ∷ os) some =
        let at : IsAmong (landed i.shape (log_of w 0)) o = (0, ap (λ (ps : List Opening). slice_get ps 0) some) in
        let newer = newer_than_head i w h o legal is_head (from_filter (has_landed_start i.shape (log_of w 0)) (openings (log_of w 0)) o at) in
        let newest : IsNewest i w o.start = newest_of_landed i w o legal at in
        let seq_before : h.seq < o.start.seq = newer.0 in
        let seq_after : o.start.seq ≤ newest.newest.seq = newest.seq in
        let front_before : h.front ≤ o.start.front = newer.1 in
        let front_after : o.start.front ≤ newest.newest.front = newest.front in
        record { newest = newest.newest; is_newest = newest.is_newest; seq = omega arith; front = omega arith }

-- the newest start record at a length of the engine's log is at most as new as the newest now
pub newest_grows : (i : Image) (w : World) (a : ℕ) (s : StartRecord) → IsLegal i w → newest_start i (engine_prefix (suc a) (log_of w)) ≡ Some s → IsNewest i w s
newest_grows i w a s legal is = go (last_is (head (found_image i (engine_prefix (suc a) (log_of w)))) (landed i.shape (take (suc a) (log_of w 0))) s is)
  where
    go : ((head (found_image i (engine_prefix (suc a) (log_of w))) ≡ Some s) × (landed i.shape (take (suc a) (log_of w 0)) ≡ []))
        ⊎ ((o : Opening) × IsAmong (landed i.shape (take (suc a) (log_of w 0))) o × (o.start ≡ s)) → IsNewest i w s
    go (inl none) = newest_of_head i w s legal (ap head (sym (found_then i (log_of w) a)) ∙ none.0)
    go (inr one) = subst (IsNewest i w) one.2 (newest_of_landed i w one.0 legal (landed_now i.shape (suc a) (log_of w 0) one.0 one.1))

-- ---- what was freed is older

-- by the newest start record, and where a record that had landed in the line stands below its front
pub record IsOlder (i : Image) (w : World) (o : Opening) (f : IsFreedLife (log_of w 0) o) : Type 0 where
  pub newest : StartRecord
  pub is_newest : newest_start i (log_of w) ≡ Some newest
  pub seq : o.start.seq < newest.seq
  pub below : (r : Record) → HasLandedIn i (engine_prefix f.number (log_of w)) (Opened o) o.line r → r.position < newest.front

pub older_when_freed : (i : Image) (w : World) (o : Opening) → IsLegal i w → (f : IsFreedLife (log_of w 0) o) → IsOlder i w o f
older_when_freed i w o legal f = go f.number refl (freed_life_at i w o legal f)
  where
    go : (n : ℕ) → f.number ≡ n → IsFreeable i (engine_prefix f.number (log_of w)) o.line → IsOlder i w o f
    go zero none free =
        let opened = opening_then (log_of w 0) f.number o.line o f.was in
        let below : o.number < f.number = opened.2 in
        absurd (omega arith)
    go (suc a) at free =
        let newest : IsNewest i w free.newest =
        newest_grows i w a free.newest legal (subst (λ n. newest_start i (engine_prefix n (log_of w)) ≡ Some free.newest) at free.is_newest) in
        let seq : o.start.seq ≡ free.seq =
        same_Some o.start.seq free.seq (sym (ap (λ life. seq_in i (engine_prefix f.number (log_of w)) life o.line) f.was) ∙ free.has_seq) in
        let older : free.seq < free.newest.seq = free.older in
        let newer : free.newest.seq ≤ newest.newest.seq = newest.seq in
        let higher : free.newest.front ≤ newest.newest.front = newest.front in record {
          newest = newest.newest;
          is_newest = newest.is_newest;
          seq = omega arith;
          below = λ r landed.
              let under : r.position < free.newest.front = free.below_front r
              (subst (λ life. HasLandedIn i (engine_prefix f.number (log_of w)) life o.line r) (sym f.was) landed) in
              omega arith;
        }

-- the line of the newest start record stands
pub newest_stands : (i : Image) (w : World) (o : Opening) → IsLegal i w → Contains (openings (log_of w 0)) o → newest_start i (log_of w) ≡ Some o.start
    → life_of (log_of w 0) o.line ≡ Opened o
newest_stands i w o legal there newest = go (standing_or_freed i w o legal there)
  where
    go : (life_of (log_of w 0) o.line ≡ Opened o) ⊎ IsFreedLife (log_of w 0) o → life_of (log_of w 0) o.line ≡ Opened o
    go (inl stands) = stands
    go (inr freed) =
        let older : IsOlder i w o freed = older_when_freed i w o legal freed in
        let same : older.newest.seq ≡ o.start.seq = ap (λ (s : StartRecord). s.seq) (same_Some older.newest o.start (sym older.is_newest ∙ newest)) in
        let below : o.start.seq < older.newest.seq = older.seq in
        absurd (omega arith)

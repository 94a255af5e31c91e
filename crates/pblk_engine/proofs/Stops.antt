-- How many stops were noted of each unit, as the engine's log goes on.
use Rattle.std.proofs.Common.{◌≡◌, ◌≢◌, ℕ, ◌+◌, ◌-◌, ◌^◌, ◌<◌, ◌≤◌, ◌++◌, Bool, false, min, None, Some, Option, List, [], ◌∷◌, length, take, drop, refl, sym, subst, ap, ◌∙◌, arith, append-nil, length-append, if◌then◌else◌}
use Rattle.std.specs.Prelude.{slice_get, slice_index_or, slice_set}
use Rattle.std.specs.List.{filter_map, range_with_len}
use Rattle.std.specs.Option.{option_to_list}
use Rattle.std.proofs.lemmas.List.{take-take}
use Rattle.std.proofs.lemmas.List.Elements.{filter_map-append}
use Rattle.std.proofs.lemmas.Option.{same_Some, slice_get-get_or}
use Rattle.pblk_model.specs.declared.shape.Shape.{Shape}
use Rattle.pblk_model.specs.Shape.{units}
use Rattle.pblk_model.proofs.Maps.{length_mapped, map_same, more, rows_set}
use Rattle.pblk_model.proofs.Parts.{take_and_drop, take_more}
use Rattle.pblk_model.proofs.Tests.{other_number, same_number}
use Rattle.core_laws.proofs.PlacedLines.{get_row}
use Rattle.pblk_model.specs.Image.{Image}
use Rattle.pblk_world.specs.Events.{Again, Decides, Does, Event, Logged, Maker}
use Rattle.pblk_world.specs.Legal.{IsAllowed}
use Rattle.pblk_world.specs.World.{Logs}
use Rattle.chronicle.specs.Handles.{AuthorView}
use Rattle.chronicle.specs.Prefixes.{IsNext, logs_of, naming, next_after, with_event}
use Rattle.pblk_engine.specs.Answers.{answer_event}
use Rattle.pblk_engine.specs.Stops.{IsCounting, again_by, is_stop_note, stop_count, stop_counts, stops_of, stops_with}
use Rattle.pblk_engine.specs.declared.commands.Ended.{Ended}
use Rattle.pblk_engine.specs.declared.commands.Ended.TheVariants as ended

-- ---- what some elements of a list give

module _ {X Y : Type 0} (f : X → Option Y) where
  -- more elements give no less
  pub gives_more : (xs ys : List X) → length (filter_map f xs) ≤ length (filter_map f (xs ++ ys))
  gives_more xs ys =
      let long : length (filter_map f (xs ++ ys)) ≡ length (filter_map f xs) + length (filter_map f ys) =
      ap length (filter_map-append f xs ys) ∙ length-append (filter_map f xs) (filter_map f ys) in
      omega arith

  pub gives_within : (xs : List X) (m n : ℕ) → m ≤ n → length (filter_map f (take m xs)) ≤ length (filter_map f (take n xs))
  gives_within xs m n within =
      subst (λ (ys : List X). length (filter_map f ys) ≤ length (filter_map f (take n xs))) (take-take m n xs within)
      (subst (λ (ys : List X). length (filter_map f (take m (take n xs))) ≤ length (filter_map f ys)) (take_and_drop m (take n xs))
      (gives_more (take m (take n xs)) (drop m (take n xs))))

  -- elements before one that gives something give less than all
  pub gives_less : (xs : List X) (m q : ℕ) (x : X) (y : Y) → m ≤ q → slice_get xs q ≡ Some x → f x ≡ Some y
      → length (filter_map f (take m xs)) < length (filter_map f xs)
  gives_less xs m q x y within there gives =
      let early : length (filter_map f (take m xs)) ≤ length (filter_map f (take q xs)) = gives_within xs m q within in
      let one : length (filter_map f (take (q + 1) xs)) ≡ length (filter_map f (take q xs)) + 1 =
      ap (λ (ys : List X). length (filter_map f ys)) (take_more xs q x there)
      ∙ ap (λ (ys : List Y). length ys) (more f (take q xs) x)
      ∙ length-append (filter_map f (take q xs)) (option_to_list (f x))
      ∙ ap (λ (o : Option Y). length (filter_map f (take q xs)) + length (option_to_list o)) gives in
      let whole : length (filter_map f (take (q + 1) xs)) ≤ length (filter_map f xs) =
      subst (λ (ys : List X). length (filter_map f (take (q + 1) xs)) ≤ length (filter_map f ys)) (take_and_drop (q + 1) xs)
      (gives_more (take (q + 1) xs) (drop (q + 1) xs)) in
      omega arith

-- ---- one event more

pub quiet_none : (unit : ℕ) (e : Event) → is_stop_note e ≡ false → again_by unit e ≡ None
quiet_none unit (Decides (Again other event)) quiet = absurd cc
quiet_none unit (Decides e) quiet = refl
quiet_none unit (Does e maker) quiet = refl

stops_more : (log : List Logged) (l : Logged) (unit : ℕ) → stops_of (log ++ l ∷ []) unit ≡ stops_of log unit ++ option_to_list (again_by unit l.event)
stops_more log l unit = more (λ (m : Logged). again_by unit m.event) log l

none_more : (log : List Logged) (l : Logged) (unit : ℕ) → again_by unit l.event ≡ None → stops_of (log ++ l ∷ []) unit ≡ stops_of log unit
none_more log l unit none =
    stops_more log l unit ∙ ap (λ (o : Option ℕ). stops_of log unit ++ option_to_list o) none ∙ append-nil (stops_of log unit)

pub counts_quiet : (s : Shape) (log : List Logged) (l : Logged) → is_stop_note l.event ≡ false → stop_counts s (log ++ l ∷ []) ≡ stop_counts s log
counts_quiet s log l quiet = map_same (stop_count (log ++ l ∷ [])) (stop_count log)
    (λ unit. ap (λ (xs : List ℕ). min (length xs) (2 ^ 64 - 1)) (none_more log l unit (quiet_none unit l.event quiet))) (range_with_len 0 (units s))

pub count_at : (s : Shape) (log : List Logged) (unit : ℕ) → unit < units s → slice_get (stop_counts s log) unit ≡ Some (stop_count log unit)
count_at s log unit inside =
    let from : 0 + unit ≡ unit = omega arith in
    get_row (stop_count log) (units s) 0 unit inside ∙ ap (λ n. Some (stop_count log n)) from

pub counts_long : (s : Shape) (log : List Logged) → length (stop_counts s log) ≡ units s
counts_long s log = length_mapped (stop_count log) 0 (units s)

-- a stop more of one unit
counts_stopped : (s : Shape) (log : List Logged) (l : Logged) (unit event : ℕ) → unit < units s → l.event ≡ Decides (Again unit event)
    → slice_set (stop_counts s log) unit (min (stop_count log unit + 1) (2 ^ 64 - 1)) ≡ stop_counts s (log ++ l ∷ [])
counts_stopped s log l unit event inside is =
    let from : 0 + unit ≡ unit = omega arith in
    sym (rows_set (stop_count log) (stop_count (log ++ l ∷ [])) (units s) 0 unit (min (stop_count log unit + 1) (2 ^ 64 - 1)) inside
    (ap (stop_count (log ++ l ∷ [])) from ∙ ap (λ (xs : List ℕ). min (length xs) (2 ^ 64 - 1)) here ∙ one_more)
    (λ other apart. ap (λ (xs : List ℕ). min (length xs) (2 ^ 64 - 1)) (elsewhere other (λ e. apart (e ∙ sym from)))))
  where
    here : stops_of (log ++ l ∷ []) unit ≡ stops_of log unit ++ event ∷ []
    here =
        stops_more log l unit ∙ ap (λ (e : Event). stops_of log unit ++ option_to_list (again_by unit e)) is
        ∙ ap (λ (b : Bool). stops_of log unit ++ option_to_list (if b then Some event else None)) (same_number unit)

    elsewhere : (other : ℕ) → other ≢ unit → stops_of (log ++ l ∷ []) other ≡ stops_of log other
    elsewhere other apart = none_more log l other
        (ap (again_by other) is ∙ ap (λ (b : Bool). if b then Some event else None) (other_number unit other (λ same. apart (sym same))))

    at_most : (n : ℕ) → min (n + 1) (2 ^ 64 - 1) ≡ min (min n (2 ^ 64 - 1) + 1) (2 ^ 64 - 1)
    at_most n = omega arith

    one_more : min (length (stops_of log unit ++ event ∷ [])) (2 ^ 64 - 1) ≡ min (stop_count log unit + 1) (2 ^ 64 - 1)
    one_more = ap (λ n. min n (2 ^ 64 - 1)) (length-append (stops_of log unit) (event ∷ [])) ∙ at_most (length (stops_of log unit))

-- ---- by the author

-- how many it counts of a unit
pub counted_at : (a : AuthorView) (stops : List ℕ) (unit : ℕ) → IsCounting a stops → unit < units a.past.image.shape
    → slice_get stops unit ≡ Some (stop_count (logs_of a.known 0) unit)
counted_at a stops unit is inside = ap (λ (ns : List ℕ). slice_get ns unit) is.counts ∙ count_at a.past.image.shape (logs_of a.known 0) unit inside

pub counted_long : (a : AuthorView) (stops : List ℕ) → IsCounting a stops → length stops ≡ units a.past.image.shape
counted_long a stops is = ap (λ (ns : List ℕ). length ns) is.counts ∙ counts_long a.past.image.shape (logs_of a.known 0)

-- and as it tells that
pub count_told : (a : AuthorView) (stops : List ℕ) (unit n : ℕ) → IsCounting a stops → unit < units a.past.image.shape → n ≡ slice_index_or stops unit n
    → n ≡ stop_count (logs_of a.known 0) unit
count_told a stops unit n is inside told =
    let long : length stops ≡ units a.past.image.shape = counted_long a stops is in
    same_Some n (stop_count (logs_of a.known 0) unit)
    (ap (λ m. Some m) told ∙ sym (slice_get-get_or stops unit n (omega arith)) ∙ counted_at a stops unit is inside)

-- it knows more, and its own log is as it was
pub counting_still : (a b : AuthorView) (stops : List ℕ) → IsCounting a stops → b ≡ record a { known = b.known }
    → logs_of b.known 0 ≡ logs_of a.known 0 → IsCounting b stops
counting_still a b stops is same own = record {
  engine = record { number = ap (λ (x : AuthorView). x.number) same ∙ is.engine.number; owned = ap (λ (x : AuthorView). x.owned) same ∙ is.engine.owned };
  counts = is.counts ∙ ap (stop_counts a.past.image.shape) (sym own) ∙ ap (λ (x : AuthorView). stop_counts x.past.image.shape (logs_of b.known 0)) (sym same);
}

module _ (a b : AuthorView) (stops : List ℕ) (e : Event) (is : IsCounting a stops) (appended : b ≡ record a { known = with_event a.known a.number e })
    (own : logs_of b.known a.number ≡ logs_of a.known a.number ++ naming a.known e ∷ []) where
  own_now : logs_of b.known 0 ≡ logs_of a.known 0 ++ naming a.known e ∷ []
  own_now = subst (λ n. logs_of b.known n ≡ logs_of a.known n ++ naming a.known e ∷ []) is.engine.number own

  counts_then : (next : List ℕ) → next ≡ stop_counts a.past.image.shape (logs_of a.known 0 ++ naming a.known e ∷ []) → IsCounting b next
  counts_then next are = record {
    engine = record {
      number = ap (λ (x : AuthorView). x.number) appended ∙ is.engine.number;
      owned = ap (λ (x : AuthorView). x.owned) appended ∙ is.engine.owned;
    };
    counts = are ∙ ap (stop_counts a.past.image.shape) (sym own_now)
        ∙ ap (λ (x : AuthorView). stop_counts x.past.image.shape (logs_of b.known 0)) (sym appended);
  }

  pub counting_quiet : is_stop_note e ≡ false → IsCounting b stops
  counting_quiet quiet = counts_then stops
      (is.counts ∙ sym (counts_quiet a.past.image.shape (logs_of a.known 0) (naming a.known e) quiet))

  pub counting_stop : (unit event : ℕ) → unit < units a.past.image.shape → e ≡ Decides (Again unit event)
      → IsCounting b (slice_set stops unit (min (stop_count (logs_of a.known 0) unit + 1) (2 ^ 64 - 1)))
  counting_stop unit event inside stop = counts_then _
      (ap (λ (ns : List ℕ). slice_set ns unit (min (stop_count (logs_of a.known 0) unit + 1) (2 ^ 64 - 1))) is.counts
      ∙ counts_stopped a.past.image.shape (logs_of a.known 0) (naming a.known e) unit event inside stop)

-- the answer to a stripe, and the counts that it leaves
pub counting_answer : (a b : AuthorView) (stops next : List ℕ) (how : Ended) (unit event : ℕ) → IsCounting a stops
    → b ≡ record a { known = with_event a.known a.number (Decides (answer_event how unit event)) }
    → logs_of b.known a.number ≡ logs_of a.known a.number ++ naming a.known (Decides (answer_event how unit event)) ∷ []
    → unit < units a.past.image.shape → ((n : ℕ) → slice_get stops unit ≡ Some n → next ≡ stops_with stops unit n how) → IsCounting b next
counting_answer a b stops next how unit event is appended own inside counts =
    subst (IsCounting b) (sym (counts (stop_count (logs_of a.known 0) unit) (counted_at a stops unit is inside))) (go how appended own)
  where
    go : (how : Ended) → b ≡ record a { known = with_event a.known a.number (Decides (answer_event how unit event)) }
        → logs_of b.known a.number ≡ logs_of a.known a.number ++ naming a.known (Decides (answer_event how unit event)) ∷ []
        → IsCounting b (stops_with stops unit (stop_count (logs_of a.known 0) unit) how)
    go ended.Done appended own = counting_quiet a b stops (Decides (answer_event ended.Done unit event)) is appended own refl
    go (ended.Failed kept) appended own = counting_quiet a b stops (Decides (answer_event (ended.Failed kept) unit event)) is appended own refl
    go ended.Stopped appended own = counting_stop a b stops (Decides (answer_event ended.Stopped unit event)) is appended own unit event inside refl

-- as the log goes on no count falls
pub count_grows : (log more : List Logged) (unit : ℕ) → stop_count log unit ≤ stop_count (log ++ more) unit
count_grows log more unit =
    let grows : length (stops_of log unit) ≤ length (stops_of (log ++ more) unit) = gives_more (λ (l : Logged). again_by unit l.event) log more in
    omega arith

-- ---- what the engine's author appends is a decision

-- so it numbers no command
pub decision_next : (i : Image) (logs : Logs) (n : ℕ) (e : Event) (makers : List Maker) → n ≡ 0 → IsAllowed i n e logs
    → IsNext e makers × (next_after e makers ≡ makers)
decision_next i logs n e makers zeroth may = go e (subst (λ m. IsAllowed i m e logs) zeroth may)
  where
    go : (e : Event) → IsAllowed i 0 e logs → IsNext e makers × (next_after e makers ≡ makers)
    go (Decides x) may = (tt, refl)
    go (Does x maker) may = absurd may

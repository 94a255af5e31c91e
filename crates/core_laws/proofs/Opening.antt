-- What the opening of a line changes of a placer.
use Rattle.std.proofs.Common.{◌≡◌, ℕ, ◌+◌, ◌<◌, ◌≤◌, ◌==◌, ◌&&◌, ◌||◌, zero, suc, not, nat_eq, Bool, true, false, Some, None, Option, List, [], ◌∷◌, ◌++◌, length, take, replicate, refl, sym, ap, ap₂, ◌∙◌, arith, append-nil, le_refl, length-take}
use Rattle.std.specs.Prelude.{map, slice_get, if◌then◌else◌}
use Rattle.std.specs.List.{AllByRecursion, filter, filter_map, cons_option, find, fold, list_any, range_with_len, enumerate_from}
use Rattle.std.specs.Option.{option_map_or}
use Rattle.std.proofs.lemmas.Bool.{eqb-true}
use Rattle.std.proofs.lemmas.Option.{same_Some, none-some}
use Rattle.pblk_model.specs.declared.shape.Shape.{Shape}
use Rattle.pblk_model.specs.Shape.{units}
use Rattle.pblk_model.specs.Image.{Image, line_units}
use Rattle.pblk_model.specs.StartRecord.{StartRecord}
use Rattle.pblk_world.specs.Events.{Open, Free, Place, Event, Decides, Logged}
use Rattle.pblk_world.specs.World.{Logs}
use Rattle.pblk_world.specs.EngineLog.{LineLife, AsFound, Opened, Freed, is_life, is_opened, life_of, turned, turned_by, last_opening, Opening, openings, takes, Placed, placed_by, placements, answers, stripes_of}
use Rattle.pblk_world.specs.Lines.{known_image}
use Rattle.pblk_world.proofs.Appending.{life_more, openings_more, placements_more}
use Rattle.stripe_placer.specs.OpenLines.{Stripe, OpenLine, opened, numbers, has_left, is_to_place, is_closed, is_lost, is_unplaced, is_unanswered, stripe_is, in_one_chunk}
use Rattle.stripe_placer.specs.OpenLines.Stripe.{Unplaced}
use Rattle.stripe_placer.specs.Placing.{begun}
use Rattle.core_laws.specs.Stepping.{after}
use Rattle.core_laws.specs.OpenedLines.{bits_of, became, is_stripe_at, outcome, with_outcomes, open_line, standing, open_lines}
use Rattle.core_laws.specs.PlacerOf.{entries_of, contains_unit, unit_row_in, placing_of}
use Rattle.core_laws.proofs.Engine.{prefix_whole, openings_before, stopped_more}
use Rattle.core_laws.proofs.Steady.{AreAlike, open_line_same, standing_before, row_same, unanswered_in}
use Rattle.core_laws.proofs.Taking.{same_placing, filter_last}
use Rattle.core_laws.proofs.Stopping.{entries_same}
use Rattle.pblk_model.proofs.Lists.{length_replicate}
use Rattle.pblk_model.proofs.Maps.{filter_agree, filter_none, map_agree, map_last, map_same, none_any}
use Rattle.pblk_model.proofs.Numbers.{fun_same}
use Rattle.pblk_model.proofs.Tests.{or_left, other_number, same_number}
use Rattle.pblk_world.proofs.EngineLogLemmas.{answers_more, takes_more}

-- ---- the numbers of lives

turned_life : (line n : ℕ) (life : LineLife) (k : ℕ) (knows : List ℕ) (e : Event) → k < n → is_life n life ≡ false
    → is_life n (turned_by line life k knows e) ≡ false
turned_life line n life k knows (Decides (Open other start)) below not_it =
    elim (other == line) as (λ b. is_life n (if b then Opened (record { number = k; line = line; start = start; knows = knows }) else life) ≡ false) [
      | true ↦ other_number k n (λ e. absurd (omega arith))
      | false ↦ not_it
    ]
turned_life line n life k knows (Decides (Free other)) below not_it =
    elim (other == line) as (λ b. is_life n (if b then Freed (last_opening life) knows else life) ≡ false) [
      | true ↦ refl
      | false ↦ not_it
    ]
turned_life line n life k knows e below not_it = not_it

lives_from : (line n k : ℕ) (log : List Logged) (life : LineLife) → k + length log ≤ n → is_life n life ≡ false
    → is_life n (fold (turned line) life (enumerate_from k log)) ≡ false
lives_from line n k [] life within not_it = not_it
lives_from line n k (l ∷ log) life within not_it =
    lives_from line n (k + 1) log (turned_by line life k l.knows l.event) (omega arith) (turned_life line n life k l.knows l.event (omega arith) not_it)

-- no line has a life that began at the log's length or later
pub life_before : (log : List Logged) (line n : ℕ) → length log ≤ n → is_life n (life_of log line) ≡ false
life_before log line n within = lives_from line n 0 log AsFound (omega arith) refl

pub all_made : {X Y : Type 0} (h : X → Option Y) (P : Y → Type 0) → ((x : X) (y : Y) → h x ≡ Some y → P y) → (xs : List X) → AllByRecursion P (filter_map h xs)
all_made h P says [] = tt
all_made {X} {Y} h P says (x ∷ xs) = go (h x) refl (all_made h P says xs)
  where
    go : (o : Option Y) → h x ≡ o → AllByRecursion P (filter_map h xs) → AllByRecursion P (cons_option o (filter_map h xs))
    go None e rest = rest
    go (Some y) e rest = (says x y e, rest)

placed_life : (log : List Logged) (n number : ℕ) (e : Event) (p : Placed) → length log ≤ n → placed_by log number e ≡ Some p → is_life n p.life ≡ false
placed_life log n number (Decides (Place stripe)) p within h =
    let short : length (take number log) ≤ n = omega (arith, length-take number log) in
    ap (λ (x : Placed). is_life n x.life) (sym (same_Some (record { number = number; stripe = stripe; life = life_of (take number log) stripe.line }) p h))
    ∙ life_before (take number log) stripe.line n short
placed_life log n number e p within h = absurd (none-some p h)

pub placed_before : (log : List Logged) (n : ℕ) → length log ≤ n → AllByRecursion (λ p. is_life n p.life ≡ false) (placements log)
placed_before log n within = all_made (λ (e : ℕ × Logged). placed_by log e.0 e.1.event) (λ (p : Placed). is_life n p.life ≡ false)
    (λ e p h. placed_life log n e.0 e.1.event p within h) (enumerate_from 0 log)

-- ---- a line without stripes

pub replicated_gets : {X : Type 0} (n i : ℕ) (x : X) (test : X → Bool) → test x ≡ false → option_map_or test (slice_get (replicate n x) i) false ≡ false
replicated_gets zero i x test e = refl
replicated_gets (suc n) zero x test e = e
replicated_gets (suc n) (suc i) x test e = replicated_gets n i x test e

first_left : (l : OpenLine) (n : ℕ) → l.stripes ≡ replicate (suc n) Unplaced → is_closed l 0 ≡ false → is_to_place l 0 ≡ true
first_left l n e open_chunk = ap₂ (λ (xs : List Stripe) b. option_map_or is_unplaced (slice_get xs 0) false && not b) e open_chunk

chunk_open : (l : OpenLine) (n : ℕ) → l.stripes ≡ replicate n Unplaced → is_closed l 0 ≡ false
chunk_open l n e = none_any (λ i. stripe_is l is_lost i && in_one_chunk l i 0) (λ i. ap (λ b. b && in_one_chunk l i 0)
    (ap (λ (xs : List Stripe). option_map_or is_lost (slice_get xs i) false) e ∙ replicated_gets n i Unplaced is_lost refl)) (numbers l)

any_first : (test : ℕ → Bool) (n : ℕ) → 0 < n → test 0 ≡ true → list_any test (range_with_len 0 n) ≡ true
any_first test zero some e = absurd (omega arith)
any_first test (suc n) some e = ap (λ b. b || list_any test (range_with_len 1 n)) e

left_by : (l : OpenLine) (n : ℕ) → l.stripes ≡ replicate n Unplaced → 0 < n → has_left l ≡ true
left_by l zero e some = absurd (omega arith)
left_by l (suc n) e some =
    let count : length l.stripes ≡ suc n = ap (λ (xs : List Stripe). length xs) e ∙ length_replicate (suc n) Unplaced in
    or_left (list_any (is_to_place l) (numbers l)) (list_any is_unanswered l.stripes)
    (any_first (is_to_place l) (length l.stripes) (omega arith) (first_left l n e (chunk_open l (suc n) e)))

unplaced_all : (f : ℕ → Stripe) → ((j : ℕ) → f j ≡ Unplaced) → (a n : ℕ) → map f (range_with_len a n) ≡ replicate n Unplaced
unplaced_all f none a zero = refl
unplaced_all f none a (suc n) = ap₂ (λ x xs. x ∷ xs) (none a) (unplaced_all f none (a + 1) n)

-- an opening of which no stripe was placed
no_outcomes : (s : Shape) (log : List Logged) (o : Opening) (l : OpenLine) (n : ℕ) → l.stripes ≡ replicate n Unplaced → stripes_of log o ≡ []
    → with_outcomes s log o l ≡ l
no_outcomes s log o l n e none =
    let count : length l.stripes ≡ n = ap (λ (xs : List Stripe). length xs) e ∙ length_replicate n Unplaced in
    ap (λ xs. record l { stripes = xs })
    (unplaced_all (outcome s log o l) (λ j. ap (λ (ps : List Placed). became log (find (λ (p : Placed). is_stripe_at s l p.stripe.unit p.stripe.at j) ps)) none)
    0 (length l.stripes)
    ∙ ap (λ k. replicate k Unplaced) count ∙ sym e)

-- ---- a line is opened

abbrev with_open : List Logged → ℕ → StartRecord → List ℕ → List Logged
with_open log line start knows = log ++ record { event = Decides (Open line start); knows = knows } ∷ []

abbrev new_opening : List Logged → ℕ → StartRecord → List ℕ → Opening
new_opening log line start knows = record { number = length log; line = line; start = start; knows = knows }

alike : (log : List Logged) (line : ℕ) (start : StartRecord) (knows : List ℕ) → AreAlike log (with_open log line start knows)
alike log line start knows = record {
  placements = placements_more log (record { event = Decides (Open line start); knows = knows }) ∙ append-nil (placements log);
  answers = fun_same (answers (with_open log line start knows)) (answers log)
      (λ u. answers_more log (record { event = Decides (Open line start); knows = knows }) u ∙ append-nil (answers log u));
}

not_life : (n : ℕ) (life : LineLife) → is_opened life ≡ false → is_life n life ≡ false
not_life n AsFound e = refl
not_life n (Opened o) e = absurd cc
not_life n (Freed past k) e = refl

life_by : (log : List Logged) (line : ℕ) (start : StartRecord) (knows : List ℕ) (other : ℕ)
    → life_of (with_open log line start knows) other ≡
    (if line == other then Opened (record { number = length log; line = other; start = start; knows = knows }) else life_of log other)
life_by log line start knows other = life_more log (record { event = Decides (Open line start); knows = knows }) other

stays : (log : List Logged) (line : ℕ) (start : StartRecord) (knows : List ℕ) → is_opened (life_of log line) ≡ false → (o : Opening) → o.number < length log
    → is_life o.number (life_of (with_open log line start knows) o.line) ≡ is_life o.number (life_of log o.line)
stays log line start knows closed o before = ap (is_life o.number) (life_by log line start knows o.line) ∙ go (nat_eq line o.line) refl
  where
    go : (b : Bool) → nat_eq line o.line ≡ b
        → is_life o.number (if b then Opened (record { number = length log; line = o.line; start = start; knows = knows }) else life_of log o.line) ≡ is_life
        o.number (life_of log o.line)
    go true e =
        let same : line ≡ o.line = eqb-true line o.line e in
        other_number (length log) o.number (λ f. absurd (omega arith))
        ∙ sym (not_life o.number (life_of log o.line) (ap (λ n. is_opened (life_of log n)) (sym same) ∙ closed))
    go false e = refl

begins : (log : List Logged) (line : ℕ) (start : StartRecord) (knows : List ℕ) → is_life (length log) (life_of (with_open log line start knows) line) ≡ true
begins log line start knows =
    ap (is_life (length log)) (life_by log line start knows line
    ∙ ap (λ b. if b then Opened (record { number = length log; line = line; start = start; knows = knows }) else life_of log line) (same_number line))
    ∙ same_number (length log)

standing_more : (log : List Logged) (line : ℕ) (start : StartRecord) (knows : List ℕ) → is_opened (life_of log line) ≡ false
    → standing (with_open log line start knows) ≡ standing log ++ new_opening log line start knows ∷ []
standing_more log line start knows closed =
    let new : List Logged = with_open log line start knows in
    ap (filter (λ (o : Opening). is_life o.number (life_of new o.line))) (openings_more log (record { event = Decides (Open line start); knows = knows }))
    ∙ filter_last (λ (o : Opening). is_life o.number (life_of new o.line)) (openings log) (new_opening log line start knows) true (begins log line start knows)
    ∙ ap (λ os. os ++ new_opening log line start knows ∷ [])
    (filter_agree (λ (o : Opening). o.number < length log) (λ (o : Opening). is_life o.number (life_of new o.line))
    (λ (o : Opening). is_life o.number (life_of log o.line)) (stays log line start knows closed) (openings log) (openings_before log))

abbrev online_now : Image → Logs → ℕ → ℕ
online_now i logs line = bits_of (line_units (known_image i logs) line)

pub new_line : (i : Image) (logs : Logs) (line : ℕ) (start : StartRecord) (knows : List ℕ)
    → open_line i (after logs (Open line start) knows) (new_opening (logs 0) line start knows) ≡ opened i.shape line (online_now i logs line)
new_line i logs line start knows =
    let new : Logs = after logs (Open line start) knows in
    let o : Opening = new_opening (logs 0) line start knows in
    let l : OpenLine = opened i.shape line (online_now i logs line) in
    ap (λ (ls : Logs). with_outcomes i.shape (new 0) o (opened i.shape line (online_now i ls line))) (prefix_whole logs (Open line start) knows)
    ∙ no_outcomes i.shape (new 0) o l (length l.stripes) (sym (ap (λ k. replicate k Unplaced) (length_replicate _ Unplaced)))
    (ap (filter (λ (p : Placed). is_life (length (logs 0)) p.life)) ((alike (logs 0) line start knows).placements)
    ∙ filter_none (λ (p : Placed). is_life (length (logs 0)) p.life) (placements (logs 0))
    (placed_before (logs 0) (length (logs 0)) (le_refl (length (logs 0)))))

lines_more : (i : Image) (logs : Logs) (line : ℕ) (start : StartRecord) (knows : List ℕ) → is_opened (life_of (logs 0) line) ≡ false
    → 0 < length (opened i.shape line (online_now i logs line)).stripes
    → open_lines i (after logs (Open line start) knows) ≡ open_lines i logs ++ opened i.shape line (online_now i logs line) ∷ []
lines_more i logs line start knows closed some =
    let new : Logs = after logs (Open line start) knows in
    let o : Opening = new_opening (logs 0) line start knows in
    let l : OpenLine = opened i.shape line (online_now i logs line) in
    ap (λ os. filter has_left (map (open_line i new) os)) (standing_more (logs 0) line start knows closed)
    ∙ ap (filter has_left) (map_last (open_line i new) (standing (logs 0)) o)
    ∙ filter_last has_left (map (open_line i new) (standing (logs 0))) (open_line i new o) true
    (ap has_left (new_line i logs line start knows) ∙ left_by l (length l.stripes) (sym (ap (λ k. replicate k Unplaced) (length_replicate _ Unplaced))) some)
    ∙ ap₂ (λ (xs : List OpenLine) (x : OpenLine). filter has_left xs ++ x ∷ [])
    (map_agree (λ (o : Opening). o.number < length (logs 0)) (open_line i new) (open_line i logs)
    (open_line_same i logs (Open line start) knows (alike (logs 0) line start knows)) (standing (logs 0)) (standing_before (logs 0)))
    (new_line i logs line start knows)

pub placing_opened : (i : Image) (logs : Logs) (line : ℕ) (start : StartRecord) (knows : List ℕ) (pad : ℕ) (again : List ℕ)
    → is_opened (life_of (logs 0) line) ≡ false
    → 0 < length (opened i.shape line (bits_of (line_units (known_image i logs) line))).stripes
    → placing_of i (after logs (Open line start) knows) pad again ≡ begun (placing_of i logs pad again) line (bits_of (line_units (known_image i logs) line))
placing_opened i logs line start knows pad again closed some =
    let same : AreAlike (logs 0) (after logs (Open line start) knows 0) = alike (logs 0) line start knows in
    let l : Logged = record { event = Decides (Open line start); knows = knows } in
    let new : Logs = after logs (Open line start) knows in
    same_placing i.shape (entries_of i.shape (new 0) pad) (entries_of i.shape (logs 0) pad)
    (map (unit_row_in i new again) (range_with_len 0 (units i.shape))) (map (unit_row_in i logs again) (range_with_len 0 (units i.shape)))
    (open_lines i new) (open_lines i logs ++ opened i.shape line (online_now i logs line) ∷ [])
    (entries_same i.shape (logs 0) (new 0) pad same (takes_more (logs 0) l ∙ append-nil (takes (logs 0))))
    (map_same (unit_row_in i new again) (unit_row_in i logs again) (λ unit. row_same i logs (Open line start) knows again again unit
    (ap₂ (λ ps ns. unanswered_in ps ns unit) same.placements same.answers)
    (ap (λ b. b && not (contains_unit again unit)) (stopped_more (logs 0) l unit))) (range_with_len 0 (units i.shape)))
    (lines_more i logs line start knows closed some)

-- The open lines and the units once a stripe is placed.
use Rattle.std.proofs.Common.{◌≡◌, ◌≢◌, ℕ, ◌+◌, ◌*◌, ◌/◌, ◌<◌, ◌≤◌, ◌==◌, ◌&&◌, ◌||◌, zero, suc, not, nat_eq, nat_lt, Bool, true, false, cond, Some, Option, List, [], ◌∷◌, ◌++◌, length, refl, sym, subst, subst₂, ap, ap₂, ◌∙◌, arith, append-nil}
use Rattle.std.specs.Prelude.{map, slice_get, slice_set, if◌then◌else◌}
use Rattle.std.specs.List.{AllByRecursion, filter, find, range_with_len, list_any}
use Rattle.std.specs.Option.{option_map_or, unwrap_or}
use Rattle.std.proofs.lemmas.Bool.{eqb-true, eqb-false}
use Rattle.std.proofs.lemmas.Option.{none-some, slice_get_past}
use Rattle.pblk_model.specs.declared.shape.Shape.{Shape}
use Rattle.pblk_model.specs.Shape.{units}
use Rattle.pblk_model.specs.Image.{Image}
use Rattle.pblk_layout.specs.Online.{units_in}
use Rattle.pblk_world.specs.Events.{Stripe, Place, Decides, Logged}
use Rattle.pblk_world.specs.World.{Logs}
use Rattle.pblk_world.specs.EngineLog.{Opened, is_life, life_of, Opening, openings, Placed, placed_on, answers, takes}
use Rattle.pblk_world.proofs.Appending.{life_more, openings_more}
use Rattle.stripe_placer.specs.Entries.{Entries, without_first}
use Rattle.stripe_placer.specs.OpenLines as line
use Rattle.stripe_placer.specs.OpenLines.{OpenLine, width, unit_of, numbers, has_left, kind_of, with_stripe, in_line, next_of, is_to_place}
use Rattle.stripe_placer.specs.OpenLines.Stripe.{Unplaced, Unanswered}
use Rattle.stripe_placer.specs.Placing.{Program, UnitRow, Placing, next_positions, program_of, placed, placed_again, placed_first, is_stopped}
use Rattle.stripe_placer.specs.Placing.UnitRow.{Idle, UnderWay}
use Rattle.stripe_placer.proofs.Agreeing.{in_line_same, in_line_other}
use Rattle.stripe_placer.proofs.Named.{IsProgramIn, its_program, next_unplaced, its_stripe_is}
use Rattle.stripe_placer.proofs.Steps.{unanswered_left}
use Rattle.core_laws.specs.Stepping.{after}
use Rattle.core_laws.specs.OpenedLines.{as_opened, is_stripe_at, outcome, with_outcomes, open_line, standing, open_lines}
use Rattle.pblk_world.specs.Fronts.{first_position}
use Rattle.core_laws.proofs.StillWaiting.{entries_placed}
use Rattle.core_laws.specs.PlacerOf.{IsStripeOf, positions_of, entries_of, positions_in_stripe, number_of, program_at, program_of_stripe, row_in, unit_row_in, unanswered_on, was_stopped_on, contains_unit, waits_again, placing_of}
use Rattle.core_laws.proofs.Engine.{prefix_whole, stopped_more}
use Rattle.core_laws.proofs.Steady.{as_opened_same, standing_before, standing_same, row_same}
use Rattle.core_laws.proofs.Taking.{same_placing}
use Rattle.core_laws.proofs.Opening.{life_before}
use Rattle.core_laws.proofs.OpeningNumbers.{opens_at, life_at, standing_at, of_its_line}
use Rattle.core_laws.proofs.StripesByPlace.{at_its_place, not_at, find_only}
use Rattle.core_laws.proofs.Placing.{IsPlacing, new_placed, with_place, placed_on_now, answers_now, outcome_there, outcome_elsewhere, outcome_beside}
use Rattle.pblk_model.proofs.Lists.{all_imply, length_replicate}
use Rattle.pblk_model.proofs.Maps.{all_passed, length_mapped, map_agree, map_same, row_at, rows_set}
use Rattle.pblk_model.proofs.Numbers.{some_units}
use Rattle.pblk_model.proofs.Parts.{got_here}
use Rattle.pblk_model.proofs.Tests.{or_left, other_number, same_number}

-- ---- which stripe of its line it is

pub record IsPlacedAt (i : Image) (logs : Logs) (o : Opening) (stripe : Stripe) (of : Program) (j : ℕ) : Type 0 where
  pub before : o.number < length (logs 0)
  pub line : o.line ≡ stripe.line
  pub its_line : o.line ≡ of.line
  pub number : of.at / i.shape.ws_opt ≡ j
  pub inside : j < length (as_opened i logs o).stripes
  pub wide : 0 < width (as_opened i logs o)
  pub here : is_stripe_at i.shape (as_opened i logs o) stripe.unit stripe.at j ≡ true
  pub unplaced : outcome i.shape (logs 0) o (as_opened i logs o) j ≡ Unplaced
  pub next : next_of (open_line i logs o) ≡ Some j
  pub program : program_at i.shape (open_line i logs o) stripe j ≡ of

pub life_is_before : (log : List Logged) (line : ℕ) (o : Opening) → life_of log line ≡ Opened o → o.number < length log
life_is_before log line o e = go (nat_lt o.number (length log)) refl
  where
    go : (b : Bool) → nat_lt o.number (length log) ≡ b → o.number < length log
    go true f = grind arith
    go false f =
        let above : length log ≤ o.number = grind arith in
        let none : is_life o.number (Opened o) ≡ false = ap (is_life o.number) (sym e) ∙ life_before log line o.number above in
        let some : is_life o.number (Opened o) ≡ true = same_number o.number in
        absurd cc

same_program : (l at unit unit2 block block2 : ℕ) (k : Program) (p q : List ℕ) → unit ≡ unit2 → block ≡ block2 → p ≡ q
    → ◌≡◌ {A = Program} (record { line = l; at = at; unit = unit; block = block; kind = k.kind; count = length p; positions = p })
    (record { line = l; at = at; unit = unit2; block = block2; kind = k.kind; count = length q; positions = q })
same_program l at unit unit2 block block2 k p q e f g =
    λ i. record { line = l; at = at; unit = e i; block = f i; kind = k.kind; count = length (g i); positions = g i }

pub placed_at : (i : Image) (logs : Logs) (pad : ℕ) (o : Opening) (stripe : Stripe) (of : Program) → 0 < i.shape.ws_opt → IsStripeOf i logs pad o stripe of
    → (j : ℕ) × IsPlacedAt i logs o stripe of j
placed_at i logs pad o stripe of some is =
    let s : Shape = i.shape in
    let l0 : OpenLine = as_opened i logs o in
    let l : OpenLine = open_line i logs o in
    let e : Entries = entries_of s (logs 0) pad in
    let its : (j : ℕ) × IsProgramIn s e l of j = its_program s e l of is.next in
    let j : ℕ = its.0 in
    let made : Program = program_of s l j (kind_of l j) (next_positions s e (kind_of l j)) in
    let same : made ≡ of = its.1.is in
    let at : (j < length l0.stripes) × (outcome s (logs 0) o l0 (0 + j) ≡ Unplaced) =
    row_at (outcome s (logs 0) o l0) (length l0.stripes) 0 j Unplaced (next_unplaced l j its.1.next) in
    let from : 0 + j ≡ j = omega arith in
    let opened : (opens_at (logs 0) o.number ≡ Some stripe.line) × (o.line ≡ stripe.line) = life_at (logs 0) stripe.line o is.opened in
    let unit : unit_of l j ≡ stripe.unit = ap (λ (x : Program). x.unit) same ∙ sym is.unit in
    let block : j / width l * s.ws_opt ≡ stripe.at = ap (λ (x : Program). x.block) same ∙ sym is.block in
    let count : length l0.stripes ≡ length (units_in l0.online) * (s.clba / s.ws_opt) =
    length_replicate (length (units_in l0.online) * (s.clba / s.ws_opt)) Unplaced in
    let inside : j < length (units_in l0.online) * (s.clba / s.ws_opt) = subst (λ n. j < n) count at.0 in (
      j,
      record {
        before = life_is_before (logs 0) stripe.line o is.opened;
        line = opened.1;
        its_line = ap (λ (x : Program). x.line) same;
        number = its_stripe_is s e l of j some its.1;
        inside = at.0;
        wide = some_units (length (units_in l0.online)) (s.clba / s.ws_opt) j inside;
        here = at_its_place s l0 stripe.unit stripe.at j unit block;
        unplaced = ap (outcome s (logs 0) o l0) (sym from) ∙ at.1;
        next = its.1.next;
        program = same_program l.line (j * s.ws_opt) stripe.unit (unit_of l j) stripe.at (j / width l * s.ws_opt) made (positions_in_stripe s stripe)
            (next_positions s e (kind_of l j))
            (sym unit) (sym block) (is.positions ∙ sym (ap (λ (x : Program). x.positions) same)) ∙ same;
      },
    )

-- ---- its line

line_of_it : (i : Image) (logs : Logs) (knows : List ℕ) (o : Opening) (stripe : Stripe) (of : Program) (j : ℕ) → 0 < i.shape.ws_opt
    → IsPlacing (logs 0) stripe o → IsPlacedAt i logs o stripe of j
    → open_line i (after logs (Place stripe) knows) o ≡ in_line of.line (of.at / i.shape.ws_opt) Unanswered (open_line i logs o)
line_of_it i logs knows o stripe of j some is at =
    let s : Shape = i.shape in
    let l0 : OpenLine = as_opened i logs o in
    let l : OpenLine = open_line i logs o in
    let new : List Logged = with_place (logs 0) stripe knows in
    let from : 0 + j ≡ j = omega arith in
    let its : is_life o.number (Opened o) ≡ true = same_number o.number in
    ap (λ (x : OpenLine). with_outcomes s new o x) (as_opened_same i logs (Place stripe) knows o at.before)
    ∙ ap (λ xs. record l0 { stripes = xs })
    (rows_set (outcome s (logs 0) o l0) (outcome s new o l0) (length l0.stripes) 0 j Unanswered at.inside
    (ap (outcome s new o l0) from ∙ outcome_there s (logs 0) stripe knows o o l0 j is its at.here at.unplaced)
    (λ m other. outcome_beside s (logs 0) stripe knows o o l0 m is.opened its
    (not_at s l0 stripe.unit stripe.at m j some at.wide at.here (λ e. other (e ∙ sym from)))))
    ∙ sym (in_line_same l of.line j Unanswered at.its_line)
    ∙ ap (λ k. in_line of.line k Unanswered l) (sym at.number)

-- ---- the other lines

line_elsewhere : (i : Image) (logs : Logs) (knows : List ℕ) (o other : Opening) (stripe : Stripe) (of : Program) (j : ℕ) → IsPlacing (logs 0) stripe o
    → IsPlacedAt i logs o stripe of j
    → other.number < length (logs 0) → opens_at (logs 0) other.number ≡ Some other.line → other.line ≢ of.line
    → open_line i (after logs (Place stripe) knows) other ≡ in_line of.line (of.at / i.shape.ws_opt) Unanswered (open_line i logs other)
line_elsewhere i logs knows o other stripe of j is at before opens apart =
    let s : Shape = i.shape in
    let l0 : OpenLine = as_opened i logs other in
    let new : List Logged = with_place (logs 0) stripe knows in
    let not_its : is_life other.number (Opened o) ≡ false =
    of_its_line (logs 0) stripe.line o other is.opened opens (λ e. apart (e ∙ sym at.line ∙ at.its_line)) in
    ap (λ (x : OpenLine). with_outcomes s new other x) (as_opened_same i logs (Place stripe) knows other before)
    ∙ ap (λ xs. record l0 { stripes = xs })
    (map_same (outcome s new other l0) (outcome s (logs 0) other l0) (λ m. outcome_elsewhere s (logs 0) stripe knows o other l0 m is.opened not_its)
    (numbers l0))
    ∙ sym (in_line_other (open_line i logs other) of.line (of.at / s.ws_opt) Unanswered apart)

-- what is known of an opening whose line stands
pub record IsStanding (log : List Logged) (o : Opening) : Type 0 where
  pub before : o.number < length log
  pub opens : opens_at log o.number ≡ Some o.line
  pub alive : is_life o.number (life_of log o.line) ≡ true

zipped : {X : Type 0} (P Q R : X → Type 0) (S : X → Type 0) → ((x : X) → P x → Q x → R x → S x) → (xs : List X) → AllByRecursion P xs → AllByRecursion Q xs
    → AllByRecursion R xs → AllByRecursion S xs
zipped P Q R S says [] p q r = tt
zipped P Q R S says (x ∷ xs) p q r = (says x p.0 q.0 r.0, zipped P Q R S says xs p.1 q.1 r.1)

pub all_standing : (log : List Logged) → AllByRecursion (IsStanding log) (standing log)
all_standing log = zipped (λ (o : Opening). o.number < length log) (λ (o : Opening). opens_at log o.number ≡ Some o.line)
    (λ (o : Opening). is_life o.number (life_of log o.line) ≡ true) (IsStanding log)
    (λ o p q r. record { before = p; opens = q; alive = r }) (standing log) (standing_before log) (standing_at log)
    (all_passed (λ (o : Opening). is_life o.number (life_of log o.line)) (openings log))

-- the standing opening of a line has the number of its life
pub its_number : (log : List Logged) (o other : Opening) (line : ℕ) → life_of log line ≡ Opened o → IsStanding log other → other.line ≡ line
    → o.number ≡ other.number
its_number log o other line life is same = eqb-true o.number other.number (ap (is_life other.number) (sym life ∙ ap (life_of log) (sym same)) ∙ is.alive)

abbrev like : Opening → ℕ → ℕ → Opening
like o n line = record { number = n; line = line; start = o.start; knows = o.knows }

pub line_now : (i : Image) (logs : Logs) (knows : List ℕ) (o : Opening) (stripe : Stripe) (of : Program) (j : ℕ) → 0 < i.shape.ws_opt
    → IsPlacing (logs 0) stripe o
    → IsPlacedAt i logs o stripe of j
    → (other : Opening) → IsStanding (logs 0) other
    → open_line i (after logs (Place stripe) knows) other ≡ in_line of.line (of.at / i.shape.ws_opt) Unanswered (open_line i logs other)
line_now i logs knows o stripe of j some is at other stands = go (nat_eq other.line of.line) refl
  where
    go : (b : Bool) → nat_eq other.line of.line ≡ b
        → open_line i (after logs (Place stripe) knows) other ≡ in_line of.line (of.at / i.shape.ws_opt) Unanswered (open_line i logs other)
    go true e =
        let same : other.line ≡ o.line = eqb-true other.line of.line e ∙ sym at.its_line in
        let number : o.number ≡ other.number = its_number (logs 0) o other stripe.line is.opened stands (same ∙ at.line) in
        subst₂ (λ n ln. open_line i (after logs (Place stripe) knows) (like o n ln) ≡ in_line of.line (of.at / i.shape.ws_opt) Unanswered
        (open_line i logs (like o n ln)))
        number (sym same) (line_of_it i logs knows o stripe of j some is at)
    go false e = line_elsewhere i logs knows o other stripe of j is at stands.before stands.opens (eqb-false other.line of.line e)

-- ---- each line has a stripe left as before

pub found_any : {X : Type 0} (f : X → Bool) (xs : List X) (y : X) → find f xs ≡ Some y → list_any f xs ≡ true
found_any f [] y e = absurd (none-some y e)
found_any {X} f (x ∷ xs) y e = go (f x) e (found_any f xs y)
  where
    go : (b : Bool) → cond b (Some x) (find f xs) ≡ Some y → (find f xs ≡ Some y → list_any f xs ≡ true) → (b || list_any f xs) ≡ true
    go true g rest = refl
    go false g rest = rest g

left_of_it : (i : Image) (logs : Logs) (o : Opening) (stripe : Stripe) (of : Program) (j : ℕ) → IsPlacedAt i logs o stripe of j
    → has_left (in_line of.line (of.at / i.shape.ws_opt) Unanswered (open_line i logs o)) ≡ has_left (open_line i logs o)
left_of_it i logs o stripe of j at =
    let l : OpenLine = open_line i logs o in
    let was : has_left l ≡ true = or_left (list_any (is_to_place l) (numbers l)) (list_any line.is_unanswered l.stripes)
    (found_any (is_to_place l) (numbers l) j at.next) in
    ap (λ k. has_left (in_line of.line k Unanswered l)) at.number
    ∙ ap has_left (in_line_same l of.line j Unanswered at.its_line)
    ∙ unanswered_left (with_stripe l j Unanswered) j (got_here l.stripes j Unplaced Unanswered (next_unplaced l j at.next))
    ∙ sym was

left_now : (i : Image) (logs : Logs) (o : Opening) (stripe : Stripe) (of : Program) (j : ℕ) → IsPlacing (logs 0) stripe o → IsPlacedAt i logs o stripe of j
    → (other : Opening) → IsStanding (logs 0) other
    → has_left (in_line of.line (of.at / i.shape.ws_opt) Unanswered (open_line i logs other)) ≡ has_left (open_line i logs other)
left_now i logs o stripe of j is at other stands = go (nat_eq other.line of.line) refl
  where
    go : (b : Bool) → nat_eq other.line of.line ≡ b
        → has_left (in_line of.line (of.at / i.shape.ws_opt) Unanswered (open_line i logs other)) ≡ has_left (open_line i logs other)
    go true e =
        let same : other.line ≡ o.line = eqb-true other.line of.line e ∙ sym at.its_line in
        let number : o.number ≡ other.number = its_number (logs 0) o other stripe.line is.opened stands (same ∙ at.line) in
        subst₂ (λ n ln. has_left (in_line of.line (of.at / i.shape.ws_opt) Unanswered (open_line i logs (like o n ln))) ≡ has_left
        (open_line i logs (like o n ln)))
        number (sym same) (left_of_it i logs o stripe of j at)
    go false e = ap has_left (in_line_other (open_line i logs other) of.line (of.at / i.shape.ws_opt) Unanswered (eqb-false other.line of.line e))

pub commute : {O X : Type 0} (test : X → Bool) (g : X → X) (f : O → X) (xs : List O) → AllByRecursion (λ x. test (g (f x)) ≡ test (f x)) xs
    → filter test (map (λ x. g (f x)) xs) ≡ map g (filter test (map f xs))
commute test g f [] all = refl
commute test g f (x ∷ xs) all =
    ap (λ b. cond b (g (f x) ∷ filter test (map (λ x. g (f x)) xs)) (filter test (map (λ x. g (f x)) xs))) all.0
    ∙ go (test (f x)) (commute test g f xs all.1)
  where
    go : (b : Bool) → filter test (map (λ x. g (f x)) xs) ≡ map g (filter test (map f xs))
        → cond b (g (f x) ∷ filter test (map (λ x. g (f x)) xs)) (filter test (map (λ x. g (f x)) xs)) ≡ map g
        (cond b (f x ∷ filter test (map f xs)) (filter test (map f xs)))
    go true e = ap (λ ys. g (f x) ∷ ys) e
    go false e = e

pub lines_placed : (i : Image) (logs : Logs) (knows : List ℕ) (o : Opening) (stripe : Stripe) (of : Program) (j : ℕ) → 0 < i.shape.ws_opt
    → IsPlacing (logs 0) stripe o → IsPlacedAt i logs o stripe of j
    → open_lines i (after logs (Place stripe) knows) ≡ map (in_line of.line (of.at / i.shape.ws_opt) Unanswered) (open_lines i logs)
lines_placed i logs knows o stripe of j some is at =
    let new : Logs = after logs (Place stripe) knows in
    let l : Logged = record { event = Decides (Place stripe); knows = knows } in
    let g : OpenLine → OpenLine = in_line of.line (of.at / i.shape.ws_opt) Unanswered in
    ap (λ os. filter has_left (map (open_line i new) os))
    (standing_same (logs 0) (new 0) (openings_more (logs 0) l ∙ append-nil (openings (logs 0))) (λ line. life_more (logs 0) l line))
    ∙ ap (filter has_left) (map_agree (IsStanding (logs 0)) (open_line i new)
    (λ other. in_line of.line (of.at / i.shape.ws_opt) Unanswered (open_line i logs other)) (line_now i logs knows o stripe of j some is at) (standing (logs 0))
    (all_standing (logs 0)))
    ∙ commute has_left (in_line of.line (of.at / i.shape.ws_opt) Unanswered) (open_line i logs) (standing (logs 0))
    (all_imply (IsStanding (logs 0))
    (λ other. has_left (in_line of.line (of.at / i.shape.ws_opt) Unanswered (open_line i logs other)) ≡ has_left (open_line i logs other))
    (left_now i logs o stripe of j is at) (standing (logs 0)) (all_standing (logs 0)))

-- ---- the rows

pub get_last : {X : Type 0} (xs : List X) (x : X) (k : ℕ) → k ≡ length xs → slice_get (xs ++ x ∷ []) k ≡ Some x
get_last [] x zero e = refl
get_last [] x (suc k) e = absurd (omega (arith, e))
get_last (y ∷ xs) x zero e = absurd (omega (arith, e))
get_last (y ∷ xs) x (suc k) e = get_last xs x k (omega (arith, e))

pub row_of_it : (i : Image) (logs : Logs) (knows again : List ℕ) (o : Opening) (stripe : Stripe) (of : Program) (j : ℕ) → 0 < i.shape.ws_opt
    → IsPlacing (logs 0) stripe o → IsPlacedAt i logs o stripe of j
    → unit_row_in i (after logs (Place stripe) knows) again stripe.unit ≡ UnderWay of
row_of_it i logs knows again o stripe of j some is at =
    let s : Shape = i.shape in
    let new : Logs = after logs (Place stripe) knows in
    let l : OpenLine = open_line i logs o in
    let p : Placed = new_placed (logs 0) stripe o in
    let there : unanswered_on (new 0) stripe.unit ≡ Some p =
    ap₂ (λ (xs : List Placed) k. slice_get xs k) (placed_on_now (logs 0) stripe knows o stripe.unit true is.opened (same_number stripe.unit))
    (ap length (answers_now (logs 0) stripe knows stripe.unit))
    ∙ get_last (placed_on (logs 0) stripe.unit) p (length (answers (logs 0) stripe.unit)) is.idle in
    let going : waits_again (new 0) again stripe.unit ≡ false =
    ap (λ b. b && not (contains_unit again stripe.unit))
    (stopped_more (logs 0) (record { event = Decides (Place stripe); knows = knows }) stripe.unit
    ∙ ap (λ b. if b then false else was_stopped_on (logs 0) stripe.unit) (same_number stripe.unit)) in
    let from : 0 + j ≡ j = omega arith in
    let count : length l.stripes ≡ length (as_opened i logs o).stripes =
    length_mapped (outcome s (logs 0) o (as_opened i logs o)) 0 (length (as_opened i logs o).stripes) in
    let number : number_of s l stripe ≡ j = ap (λ k. unwrap_or k 0)
    (find_only (is_stripe_at s l stripe.unit stripe.at) (length l.stripes) 0 j (subst (λ n. j < n) (sym count) at.inside)
    (ap (is_stripe_at s l stripe.unit stripe.at) from ∙ at.here)
    (λ m other. not_at s l stripe.unit stripe.at m j some at.wide at.here (λ e. other (e ∙ sym from)))) ∙ from in
    ap₂ (λ b u. option_map_or (λ (p : Placed). row_in i new b p.life p) u Idle) going there
    ∙ ap (λ (ls : Logs). UnderWay (program_of_stripe s (open_line i ls o) stripe)) (prefix_whole logs (Place stripe) knows)
    ∙ ap (λ k. UnderWay (program_at s l stripe k)) number
    ∙ ap (λ (x : Program). UnderWay x) at.program

row_elsewhere : (i : Image) (logs : Logs) (knows again : List ℕ) (o : Opening) (stripe : Stripe) (v : ℕ) → life_of (logs 0) stripe.line ≡ Opened o
    → v ≢ stripe.unit
    → unit_row_in i (after logs (Place stripe) knows) again v ≡ unit_row_in i logs again v
row_elsewhere i logs knows again o stripe v opened other =
    let apart : (stripe.unit == v) ≡ false = other_number stripe.unit v (λ e. other (sym e)) in
    row_same i logs (Place stripe) knows again again v
    (ap₂ (λ (xs : List Placed) k. slice_get xs k) (placed_on_now (logs 0) stripe knows o v false opened apart ∙ append-nil (placed_on (logs 0) v))
    (ap length (answers_now (logs 0) stripe knows v)))
    (ap (λ b. b && not (contains_unit again v))
    (stopped_more (logs 0) (record { event = Decides (Place stripe); knows = knows }) v ∙ ap (λ b. if b then false else was_stopped_on (logs 0) v) apart))

-- a unit whose stripes are all answered has none
pub row_before : (i : Image) (logs : Logs) (again : List ℕ) (unit : ℕ) → length (answers (logs 0) unit) ≡ length (placed_on (logs 0) unit)
    → unit_row_in i logs again unit ≡ Idle
row_before i logs again unit idle =
    let past : length (placed_on (logs 0) unit) ≤ length (answers (logs 0) unit) = omega (arith, idle) in
    ap (λ u. option_map_or (λ (p : Placed). row_in i logs (waits_again (logs 0) again unit) p.life p) u Idle)
    (slice_get_past (placed_on (logs 0) unit) (length (answers (logs 0) unit)) past)

pub get_row : {X : Type 0} (f : ℕ → X) (n a k : ℕ) → k < n → slice_get (map f (range_with_len a n)) k ≡ Some (f (a + k))
get_row f zero a k h = absurd (omega arith)
get_row f (suc n) a zero h = let e : a ≡ a + 0 = omega arith in ap (λ m. Some (f m)) e
get_row f (suc n) a (suc k) h = let e : a + 1 + k ≡ a + suc k = omega arith in get_row f n (a + 1) k (omega arith) ∙ ap (λ m. Some (f m)) e

placed_new : (p : Placing) (of : Program) → slice_get p.units of.unit ≡ Some Idle → placed p of ≡ placed_first p of
placed_new p of e = ap (λ (r : Option UnitRow). if option_map_or is_stopped r false then placed_again p of else placed_first p of) e

pub placing_placed : (i : Image) (logs : Logs) (knows : List ℕ) (pad : ℕ) (again : List ℕ) (o : Opening) (stripe : Stripe) (of : Program) → 0 < i.shape.ws_opt
    → IsStripeOf i logs pad o stripe of
    → positions_of (takes (logs 0)) ≡ range_with_len (first_position (logs 0)) (length (takes (logs 0)))
    → placing_of i (after logs (Place stripe) knows) pad again ≡ placed (placing_of i logs pad again) of
placing_placed i logs knows pad again o stripe of some is numbered =
    let at : (j : ℕ) × IsPlacedAt i logs o stripe of j = placed_at i logs pad o stripe of some is in
    let placing : IsPlacing (logs 0) stripe o = record { opened = is.opened; idle = is.idle } in
    let new : Logs = after logs (Place stripe) knows in
    let n : ℕ = units i.shape in
    let first : 0 + of.unit ≡ of.unit = omega arith in
    let from : 0 + of.unit ≡ stripe.unit = first ∙ sym is.unit in
    let inside : of.unit < units i.shape = subst (λ u. u < units i.shape) is.unit is.in_range in
    same_placing i.shape (entries_of i.shape (new 0) pad) (without_first of.count (entries_of i.shape (logs 0) pad))
    (map (unit_row_in i new again) (range_with_len 0 (units i.shape)))
    (slice_set (map (unit_row_in i logs again) (range_with_len 0 (units i.shape))) of.unit (UnderWay of))
    (open_lines i new) (map (in_line of.line (of.at / i.shape.ws_opt) Unanswered) (open_lines i logs))
    (entries_placed i logs knows pad o stripe of is numbered)
    (rows_set (unit_row_in i logs again) (unit_row_in i new again) (units i.shape) 0 of.unit (UnderWay of) inside
    (ap (unit_row_in i new again) from ∙ row_of_it i logs knows again o stripe of at.0 some placing at.1)
    (λ m other. row_elsewhere i logs knows again o stripe m is.opened (λ e. other (e ∙ sym from))))
    (lines_placed i logs knows o stripe of at.0 some placing at.1)
    ∙ sym (placed_new (placing_of i logs pad again) of
    (get_row (unit_row_in i logs again) (units i.shape) 0 of.unit inside
    ∙ ap (λ r. Some r) (ap (unit_row_in i logs again) from ∙ row_before i logs again stripe.unit is.idle)))

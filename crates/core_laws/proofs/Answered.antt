-- What the answer to a program changes of a placer.
use Rattle.std.proofs.Common.{◌≡◌, ◌≢◌, ◌⊎◌, inl, inr, ℕ, ◌+◌, ◌*◌, ◌/◌, ◌<◌, ◌≤◌, ◌==◌, zero, suc, nat_eq, nat_lt, Bool, true, false, Some, None, Option, List, [], ◌∷◌, ◌++◌, length, refl, sym, subst, subst₂, ap, ap₂, ◌∙◌, arith}
use Rattle.std.specs.Prelude.{map, slice_get}
use Rattle.std.specs.List.{filter, find}
use Rattle.std.proofs.lemmas.Bool.{eqb-true, eqb-false}
use Rattle.std.proofs.lemmas.Option.{same_Some, slice_get_within}
use Rattle.pblk_model.specs.declared.shape.Shape.{Shape}
use Rattle.pblk_model.specs.Image.{Image}
use Rattle.pblk_world.specs.Events.{EngineEvent, Logged}
use Rattle.pblk_world.specs.World.{Logs}
use Rattle.pblk_world.specs.EngineLog.{LineLife, AsFound, Opened, Freed, is_life, life_of, Opening, Placed, placements, placed_on, Answer, DidLand, WasLost, answers, answer_of, stripes_of, turn}
use Rattle.stripe_placer.specs.OpenLines as line
use Rattle.stripe_placer.specs.OpenLines.{OpenLine, width, unit_of, numbers, has_left, in_line}
use Rattle.stripe_placer.specs.OpenLines.Stripe.{Unplaced, Unanswered}
use Rattle.stripe_placer.specs.Placing.{Program}
use Rattle.stripe_placer.specs.Inside.{IsProgramOf, IsUnanswered}
use Rattle.stripe_placer.proofs.Agreeing.{in_line_same, in_line_other}
use Rattle.stripe_placer.proofs.Steps.{unanswered_left}
use Rattle.pblk_layout.specs.Online.{units_in}
use Rattle.core_laws.specs.Stepping.{after}
use Rattle.core_laws.specs.OpenedLines.{as_opened, by_answer, became, placed_as, is_stripe_at, outcome, with_outcomes, open_line, standing, open_lines}
use Rattle.core_laws.specs.PlacerOf.{unanswered_on}
use Rattle.core_laws.proofs.Steady.{as_opened_same}
use Rattle.core_laws.proofs.OpeningNumbers.{opens_at}
use Rattle.core_laws.proofs.StripesByPlace.{one_stripe}
use Rattle.world_laws.proofs.UnitTurns.{unit_is as its_unit, turn_is as its_turn}
use Rattle.core_laws.proofs.UnitTurns.{filtered_is, stands_at_turn}
use Rattle.core_laws.proofs.PlacedLines.{IsStanding, all_standing}
use Rattle.pblk_model.proofs.Lists.{IsAmong, length_replicate}
use Rattle.pblk_model.proofs.Maps.{found_passes, from_filter, from_map, map_same, row_at, rows_set}
use Rattle.pblk_model.proofs.Numbers.{some_units}
use Rattle.pblk_model.proofs.Parts.{all_at, get_last, none_past}
use Rattle.pblk_model.proofs.Tests.{first_of}

-- an event answers the unit's stripe, and places nothing
pub record IsAnswer (log new : List Logged) (unit : ℕ) (a : Answer) : Type 0 where
  pub placements : placements new ≡ placements log
  pub here : answers new unit ≡ answers log unit ++ a ∷ []
  pub elsewhere : (v : ℕ) → v ≢ unit → answers new v ≡ answers log v

-- the stripe that the answer is for
pub record IsFirst (log : List Logged) (unit : ℕ) (q : Placed) : Type 0 where
  pub among : IsAmong (placements log) q
  pub of_unit : q.stripe.unit ≡ unit
  pub turn_is : turn log q ≡ length (answers log unit)

get_other : {X : Type 0} (xs : List X) (x : X) (k : ℕ) → k ≢ length xs → slice_get (xs ++ x ∷ []) k ≡ slice_get xs k
get_other [] x zero other = absurd (other refl)
get_other [] x (suc k) other = refl
get_other (y ∷ xs) x zero other = refl
get_other (y ∷ xs) x (suc k) other = get_other xs x k (λ e. other (ap suc e))

turn_same : (log new : List Logged) → placements new ≡ placements log → (p : Placed) → turn new p ≡ turn log p
turn_same log new same p = ap (λ ps. length (filter (λ (q : Placed). nat_lt q.number p.number) (filter (λ (q : Placed). q.stripe.unit == p.stripe.unit) ps)))
    same

pub its_answer : (log new : List Logged) (unit : ℕ) (a : Answer) (q : Placed) → IsAnswer log new unit a → IsFirst log unit q → answer_of new q ≡ Some a
its_answer log new unit a q is first =
    ap₂ (λ (xs : List Answer) n. slice_get xs n) (ap (answers new) first.of_unit ∙ is.here) (turn_same log new is.placements q ∙ first.turn_is)
    ∙ get_last (answers log unit) a

-- every other stripe is answered as before
pub others_answer : (log new : List Logged) (unit : ℕ) (a : Answer) (q r : Placed) → IsAnswer log new unit a → IsFirst log unit q → IsAmong (placements log) r
    → (r ≡ q) ⊎ (answer_of new r ≡ answer_of log r)
others_answer log new unit a q r is first among = go (nat_eq r.stripe.unit unit) refl
  where
    there : r.stripe.unit ≡ unit → (b : Bool) → nat_eq (turn log r) (length (answers log unit)) ≡ b → (r ≡ q) ⊎ (answer_of new r ≡ answer_of log r)
    there same true e =
        let turns : turn log r ≡ turn log q = eqb-true (turn log r) (length (answers log unit)) e ∙ sym first.turn_is in
        inl (same_Some r q (sym (stands_at_turn log r among) ∙ ap₂ (λ u n. slice_get (placed_on log u) n) (same ∙ sym first.of_unit) turns
        ∙ stands_at_turn log q first.among))
    there same false e =
        inr (ap₂ (λ (xs : List Answer) n. slice_get xs n) (ap (answers new) same ∙ is.here) (turn_same log new is.placements r)
        ∙ get_other (answers log unit) a (turn log r) (eqb-false (turn log r) (length (answers log unit)) e)
        ∙ ap (λ u. slice_get (answers log u) (turn log r)) (sym same))

    go : (b : Bool) → nat_eq r.stripe.unit unit ≡ b → (r ≡ q) ⊎ (answer_of new r ≡ answer_of log r)
    go true e = there (eqb-true r.stripe.unit unit e) (nat_eq (turn log r) (length (answers log unit))) refl
    go false e = inr (ap₂ (λ (xs : List Answer) n. slice_get xs n) (is.elsewhere r.stripe.unit (eqb-false r.stripe.unit unit e))
        (turn_same log new is.placements r))

-- ---- the stripe of a program under way

pub record IsAnsweredAt (i : Image) (logs : Logs) (o : Opening) (of : Program) (q : Placed) : Type 0 where
  pub standing : IsStanding (logs 0) o
  pub line : o.line ≡ of.line
  pub first : IsFirst (logs 0) of.unit q
  pub inside : of.at / i.shape.ws_opt < length (as_opened i logs o).stripes
  pub wide : 0 < width (as_opened i logs o)
  pub here : is_stripe_at i.shape (as_opened i logs o) q.stripe.unit q.stripe.at (of.at / i.shape.ws_opt) ≡ true
  pub is : placed_as i.shape (logs 0) o (as_opened i logs o) (of.at / i.shape.ws_opt) ≡ Some q
  pub waits : IsUnanswered (open_line i logs o) (of.at / i.shape.ws_opt)

by_none : (a : Option Answer) → by_answer a ≡ Unanswered → a ≡ None
by_none None e = refl
by_none (Some (DidLand k)) e = absurd cc
by_none (Some (WasLost k)) e = absurd cc

some_stripe : (log : List Logged) (x : Option Placed) → became log x ≡ Unanswered → (q : Placed) × (x ≡ Some q) × (answer_of log q ≡ None)
some_stripe log None e = absurd cc
some_stripe log (Some q) e = (q, refl, by_none (answer_of log q) e)

pub answered_at : (i : Image) (logs : Logs) (of : Program) → IsProgramOf i.shape (open_lines i logs) of.unit of
    → length (placed_on (logs 0) of.unit) ≡ length (answers (logs 0) of.unit) + 1
    → (o : Opening) × (q : Placed) × IsAnsweredAt i logs o of q
answered_at i logs of is one =
    let s : Shape = i.shape in
    let log : List Logged = logs 0 in
    let j : ℕ = of.at / s.ws_opt in
    let from : (o : Opening) × IsAmong (standing log) o × (open_line i logs o ≡ is.line.0) =
    from_map (open_line i logs) (standing log) is.line.0 (from_filter has_left (map (open_line i logs) (standing log)) is.line.0 is.line.1) in
    let o : Opening = from.0 in
    let l0 : OpenLine = as_opened i logs o in
    let both : IsUnanswered (open_line i logs o) j × (unit_of (open_line i logs o) j ≡ of.unit) =
    subst (λ (l : OpenLine). IsUnanswered l j × (unit_of l j ≡ of.unit)) (sym from.2) (is.stripe is.line.0 is.line.1 is.line.2) in
    let at : (j < length l0.stripes) × (outcome s log o l0 (0 + j) ≡ Unanswered) = row_at (outcome s log o l0) (length l0.stripes) 0 j Unanswered both.0 in
    let zero_more : 0 + j ≡ j = omega arith in
    let some : (q : Placed) × (placed_as s log o l0 j ≡ Some q) × (answer_of log q ≡ None) =
    some_stripe log (placed_as s log o l0 j) (ap (outcome s log o l0) (sym zero_more) ∙ at.1) in
    let q : Placed = some.0 in
    let found : (is_stripe_at s l0 q.stripe.unit q.stripe.at j ≡ true) × IsAmong (stripes_of log o) q =
    found_passes (λ (p : Placed). is_stripe_at s l0 p.stripe.unit p.stripe.at j) (stripes_of log o) q some.1 in
    let among : IsAmong (placements log) q = from_filter (λ (p : Placed). is_life o.number p.life) (placements log) q found.1 in
    let unit : q.stripe.unit ≡ of.unit =
    sym (eqb-true (unit_of l0 j) q.stripe.unit (first_of (unit_of l0 j == q.stripe.unit) (j / width l0 * s.ws_opt == q.stripe.at) found.0)) ∙ both.1 in
    let late : length (answers log of.unit) ≤ turn log q =
    none_past (answers log of.unit) (turn log q) (ap (λ u. slice_get (answers log u) (turn log q)) (sym unit) ∙ some.2) in
    let soon : turn log q < length (placed_on log of.unit) =
    slice_get_within (placed_on log of.unit) (turn log q) q (ap (λ u. slice_get (placed_on log u) (turn log q)) (sym unit) ∙ stands_at_turn log q among) in
    let count : length l0.stripes ≡ length (units_in l0.online) * (s.clba / s.ws_opt) =
    length_replicate (length (units_in l0.online) * (s.clba / s.ws_opt)) Unplaced in (
      o,
      q,
      record {
        standing = all_at (IsStanding log) (standing log) from.1.0 o from.1.1 (all_standing log);
        line = ap (λ (l : OpenLine). l.line) from.2 ∙ is.line.2;
        first = record { among = among; of_unit = unit; turn_is = omega (arith, late, soon, one) };
        inside = at.0;
        wide = some_units (length (units_in l0.online)) (s.clba / s.ws_opt) j (subst (λ n. j < n) count at.0);
        here = found.0;
        is = some.1;
        waits = both.0;
      },
    )

-- ---- outcomes

became_by : (log new : List Logged) (unit : ℕ) (a : Answer) (q : Placed) (x : Option Placed) → IsAnswer log new unit a → IsFirst log unit q
    → ((r : Placed) → x ≡ Some r → IsAmong (placements log) r × (r ≢ q)) → became new x ≡ became log x
became_by log new unit a q None is first other = refl
became_by log new unit a q (Some r) is first other =
    elim (others_answer log new unit a q r is first (other r refl).0) as (λ _. became new (Some r) ≡ became log (Some r)) [
      | inl same ↦ absurd ((other r refl).1 same)
      | inr kept ↦ ap by_answer kept
    ]

same_place : (s : Shape) (log new : List Logged) (o : Opening) (l : OpenLine) (j : ℕ) → placements new ≡ placements log
    → placed_as s new o l j ≡ placed_as s log o l j
same_place s log new o l j same =
    ap (λ ps. find (λ (p : Placed). is_stripe_at s l p.stripe.unit p.stripe.at j) (filter (λ (p : Placed). is_life o.number p.life) ps)) same

outcome_by : (s : Shape) (log new : List Logged) (unit : ℕ) (a : Answer) (q : Placed) (o : Opening) (l : OpenLine) (j : ℕ) → IsAnswer log new unit a
    → IsFirst log unit q
    → ((r : Placed) → placed_as s log o l j ≡ Some r → r ≢ q) → outcome s new o l j ≡ outcome s log o l j
outcome_by s log new unit a q o l j is first other =
    ap (became new) (same_place s log new o l j is.placements)
    ∙ became_by log new unit a q (placed_as s log o l j) is first
    (λ r e. (
      from_filter (λ (p : Placed). is_life o.number p.life) (placements log) r
          (found_passes (λ (p : Placed). is_stripe_at s l p.stripe.unit p.stripe.at j) (stripes_of log o) r e).1,
      other r e,
    ))

line_of_it : (i : Image) (logs : Logs) (e : EngineEvent) (knows : List ℕ) (o : Opening) (of : Program) (a : Answer) (q : Placed) → 0 < i.shape.ws_opt
    → IsAnswer (logs 0) (after logs e knows 0) of.unit a → IsAnsweredAt i logs o of q
    → open_line i (after logs e knows) o ≡ in_line of.line (of.at / i.shape.ws_opt) (by_answer (Some a)) (open_line i logs o)
line_of_it i logs e knows o of a q some is at =
    let s : Shape = i.shape in
    let j : ℕ = of.at / s.ws_opt in
    let l0 : OpenLine = as_opened i logs o in
    let new : List Logged = after logs e knows 0 in
    let from : 0 + j ≡ j = omega arith in
    ap (λ (x : OpenLine). with_outcomes s new o x) (as_opened_same i logs e knows o at.standing.before)
    ∙ ap (λ xs. record l0 { stripes = xs })
    (rows_set (outcome s (logs 0) o l0) (outcome s new o l0) (length l0.stripes) 0 j (by_answer (Some a)) at.inside
    (ap (outcome s new o l0) from ∙ ap (became new) (same_place s (logs 0) new o l0 j is.placements ∙ at.is)
    ∙ ap by_answer (its_answer (logs 0) new of.unit a q is at.first))
    (λ m other. outcome_by s (logs 0) new of.unit a q o l0 m is at.first
    (λ r f same. other (one_stripe s l0 q.stripe.unit q.stripe.at m j some at.wide
    (subst (λ (p : Placed). is_stripe_at s l0 p.stripe.unit p.stripe.at m ≡ true) same
    (found_passes (λ (p : Placed). is_stripe_at s l0 p.stripe.unit p.stripe.at m) (stripes_of (logs 0) o) r f).0) at.here ∙ sym from))))
    ∙ sym (in_line_same (open_line i logs o) of.line j (by_answer (Some a)) at.line)

lives_once : (m n : ℕ) (life : LineLife) → is_life m life ≡ true → is_life n life ≡ true → m ≡ n
lives_once m n AsFound a b = absurd cc
lives_once m n (Opened o) a b = sym (eqb-true o.number m a) ∙ eqb-true o.number n b
lives_once m n (Freed none_past k) a b = absurd cc

life_is : (s : Shape) (log : List Logged) (o : Opening) (l : OpenLine) (j : ℕ) (r : Placed) → placed_as s log o l j ≡ Some r → is_life o.number r.life ≡ true
life_is s log o l j r e =
    let found = found_passes (λ (p : Placed). is_stripe_at s l p.stripe.unit p.stripe.at j) (stripes_of log o) r e in
    filtered_is (λ (p : Placed). is_life o.number p.life) (placements log) found.1.0 r found.1.1

line_elsewhere : (i : Image) (logs : Logs) (e : EngineEvent) (knows : List ℕ) (o other : Opening) (of : Program) (a : Answer) (q : Placed)
    → IsAnswer (logs 0) (after logs e knows 0) of.unit a → IsAnsweredAt i logs o of q
    → IsStanding (logs 0) other → other.line ≢ of.line
    → open_line i (after logs e knows) other ≡ in_line of.line (of.at / i.shape.ws_opt) (by_answer (Some a)) (open_line i logs other)
line_elsewhere i logs e knows o other of a q is at stands apart =
    let s : Shape = i.shape in
    let l0 : OpenLine = as_opened i logs other in
    let new : List Logged = after logs e knows 0 in
    ap (λ (x : OpenLine). with_outcomes s new other x) (as_opened_same i logs e knows other stands.before)
    ∙ ap (λ xs. record l0 { stripes = xs })
    (map_same (outcome s new other l0) (outcome s (logs 0) other l0) (λ m. outcome_by s (logs 0) new of.unit a q other l0 m is at.first
    (λ r f same.
    let number : other.number ≡ o.number =
    lives_once other.number o.number q.life (subst (λ (p : Placed). is_life other.number p.life ≡ true) same (life_is s (logs 0) other l0 m r f))
    (life_is s (logs 0) o (as_opened i logs o) (of.at / s.ws_opt) q at.is) in
    apart (same_Some other.line o.line (sym stands.opens ∙ ap (opens_at (logs 0)) number ∙ at.standing.opens) ∙ at.line))) (numbers l0))
    ∙ sym (in_line_other (open_line i logs other) of.line (of.at / s.ws_opt) (by_answer (Some a)) apart)

abbrev like : Opening → ℕ → ℕ → Opening
like o n line = record { number = n; line = line; start = o.start; knows = o.knows }

one_number : (log : List Logged) (o other : Opening) → IsStanding log o → IsStanding log other → o.line ≡ other.line → o.number ≡ other.number
one_number log o other a b same =
    lives_once o.number other.number (life_of log other.line) (ap (λ n. is_life o.number (life_of log n)) (sym same) ∙ a.alive) b.alive

pub line_answered : (i : Image) (logs : Logs) (e : EngineEvent) (knows : List ℕ) (o : Opening) (of : Program) (a : Answer) (q : Placed) → 0 < i.shape.ws_opt
    → IsAnswer (logs 0) (after logs e knows 0) of.unit a → IsAnsweredAt i logs o of q
    → (other : Opening) → IsStanding (logs 0) other
    → open_line i (after logs e knows) other ≡ in_line of.line (of.at / i.shape.ws_opt) (by_answer (Some a)) (open_line i logs other)
line_answered i logs e knows o of a q some is at other stands = go (nat_eq other.line of.line) refl
  where
    go : (b : Bool) → nat_eq other.line of.line ≡ b
        → open_line i (after logs e knows) other ≡ in_line of.line (of.at / i.shape.ws_opt) (by_answer (Some a)) (open_line i logs other)
    go true f =
        let same : o.line ≡ other.line = at.line ∙ sym (eqb-true other.line of.line f) in
        subst₂ (λ n ln. open_line i (after logs e knows) (like o n ln) ≡ in_line of.line (of.at / i.shape.ws_opt) (by_answer (Some a))
        (open_line i logs (like o n ln)))
        (one_number (logs 0) o other at.standing stands same) same (line_of_it i logs e knows o of a q some is at)
    go false f = line_elsewhere i logs e knows o other of a q is at stands (eqb-false other.line of.line f)

-- a line without a stripe left has none afterwards
pub none_left : (i : Image) (logs : Logs) (o : Opening) (of : Program) (q : Placed) (to : line.Stripe) → IsAnsweredAt i logs o of q
    → (other : Opening) → IsStanding (logs 0) other → has_left (open_line i logs other) ≡ false
    → has_left (in_line of.line (of.at / i.shape.ws_opt) to (open_line i logs other)) ≡ false
none_left i logs o of q to at other stands none = go (nat_eq other.line of.line) refl
  where
    go : (b : Bool) → nat_eq other.line of.line ≡ b → has_left (in_line of.line (of.at / i.shape.ws_opt) to (open_line i logs other)) ≡ false
    go true f =
        let same : o.line ≡ other.line = at.line ∙ sym (eqb-true other.line of.line f) in
        let left : has_left (open_line i logs other) ≡ true = subst₂ (λ n ln. has_left (open_line i logs (like o n ln)) ≡ true)
        (one_number (logs 0) o other at.standing stands same) same (unanswered_left (open_line i logs o) (of.at / i.shape.ws_opt) at.waits) in
        absurd cc
    go false f = ap has_left (in_line_other (open_line i logs other) of.line (of.at / i.shape.ws_opt) to (eqb-false other.line of.line f)) ∙ none

-- the unanswered stripe of a unit is the one that the next answer is for
pub first_unanswered : (log : List Logged) (unit : ℕ) (p : Placed) → unanswered_on log unit ≡ Some p → IsFirst log unit p
first_unanswered log unit p e = record {
  among = from_filter (λ (q : Placed). q.stripe.unit == unit) (placements log) p (length (answers log unit), e);
  of_unit = its_unit log unit (length (answers log unit)) p e;
  turn_is = its_turn log unit (length (answers log unit)) p e;
}

-- What a placed stripe changes of a placer.
use Rattle.std.proofs.Common.{◌≡◌, ℕ, ◌<◌, ◌≤◌, ◌==◌, nat_lt, Bool, true, false, cond, Some, None, Option, List, [], ◌∷◌, ◌++◌, length, refl, ap, ap₂, ◌∙◌, arith, append-nil, le_refl, le_of_lt, take_all}
use Rattle.std.specs.Prelude.{slice_get}
use Rattle.std.specs.List.{filter, find}
use Rattle.std.proofs.lemmas.Option.{slice_get_past}
use Rattle.pblk_model.specs.declared.shape.Shape.{Shape}
use Rattle.pblk_world.specs.Events.{Stripe, Place, Decides, Logged}
use Rattle.pblk_world.specs.EngineLog.{LineLife, Opened, is_life, life_of, Opening, Placed, placements, placed_on, Answer, DidLand, WasLost, answers, answer_of, stripes_of, turn}
use Rattle.pblk_world.proofs.Appending.{placements_more}
use Rattle.world_laws.proofs.LineStripes.{stripes_before}
use Rattle.stripe_placer.specs.OpenLines.{OpenLine}
use Rattle.stripe_placer.specs.OpenLines.Stripe.{Unplaced, Unanswered}
use Rattle.core_laws.specs.OpenedLines.{by_answer, became, placed_as, is_stripe_at, outcome}
use Rattle.core_laws.proofs.Engine.{placements_before}
use Rattle.core_laws.proofs.Taking.{filter_last}
use Rattle.core_laws.proofs.StripesByPlace.{find_all, find_last, find_fails_last}
use Rattle.pblk_model.proofs.Lists.{all_imply}
use Rattle.pblk_model.proofs.Maps.{all_filter, filter_all}
use Rattle.pblk_model.proofs.Tests.{lt_true}
use Rattle.pblk_world.proofs.EngineLogLemmas.{answers_more}

abbrev pub with_place : List Logged → Stripe → List ℕ → List Logged
with_place log stripe knows = log ++ record { event = Decides (Place stripe); knows = knows } ∷ []

-- the stripe as it is placed in the line of this opening
abbrev pub new_placed : List Logged → Stripe → Opening → Placed
new_placed log stripe o = record { number = length log; stripe = stripe; life = Opened o }

-- all that is used of the stripe and its unit
pub record IsPlacing (log : List Logged) (stripe : Stripe) (o : Opening) : Type 0 where
  pub opened : life_of log stripe.line ≡ Opened o
  pub idle : length (answers log stripe.unit) ≡ length (placed_on log stripe.unit)

pub placements_now : (log : List Logged) (stripe : Stripe) (knows : List ℕ) (o : Opening) → life_of log stripe.line ≡ Opened o
    → placements (with_place log stripe knows) ≡ placements log ++ new_placed log stripe o ∷ []
placements_now log stripe knows o opened =
    placements_more log (record { event = Decides (Place stripe); knows = knows })
    ∙ ap (λ (life : LineLife). placements log ++ record { number = length log; stripe = stripe; life = life } ∷ [])
    (ap (λ (xs : List Logged). life_of xs stripe.line) (take_all (length log) log (le_refl (length log))) ∙ opened)

pub answers_now : (log : List Logged) (stripe : Stripe) (knows : List ℕ) (unit : ℕ) → answers (with_place log stripe knows) unit ≡ answers log unit
answers_now log stripe knows unit = answers_more log (record { event = Decides (Place stripe); knows = knows }) unit ∙ append-nil (answers log unit)

pub placed_on_now : (log : List Logged) (stripe : Stripe) (knows : List ℕ) (o : Opening) (unit : ℕ) (b : Bool) → life_of log stripe.line ≡ Opened o
    → (stripe.unit == unit) ≡ b
    → placed_on (with_place log stripe knows) unit ≡ placed_on log unit ++ cond b (new_placed log stripe o ∷ []) []
placed_on_now log stripe knows o unit b opened is =
    ap (filter (λ (p : Placed). p.stripe.unit == unit)) (placements_now log stripe knows o opened)
    ∙ filter_last (λ (p : Placed). p.stripe.unit == unit) (placements log) (new_placed log stripe o) b is

-- ---- answers of the others, and of the new one

pub not_below : (m n : ℕ) → m ≤ n → nat_lt n m ≡ false
not_below m n h = go (nat_lt n m) refl
  where
    go : (b : Bool) → nat_lt n m ≡ b → b ≡ false
    go true e = let below : n < m = grind arith in absurd (omega arith)
    go false e = refl

turn_now : (log : List Logged) (stripe : Stripe) (knows : List ℕ) (o : Opening) (q : Placed) → life_of log stripe.line ≡ Opened o → q.number ≤ length log
    → turn (with_place log stripe knows) q ≡ turn log q
turn_now log stripe knows o q opened before = go (stripe.unit == q.stripe.unit) refl
  where
    go : (b : Bool) → (stripe.unit == q.stripe.unit) ≡ b → turn (with_place log stripe knows) q ≡ turn log q
    go b e =
        ap (λ (ps : List Placed). length (filter (λ (r : Placed). nat_lt r.number q.number) ps)) (placed_on_now log stripe knows o q.stripe.unit b opened e)
        ∙ ap length (rest b)
      where
        rest : (b : Bool) → filter (λ (r : Placed). nat_lt r.number q.number) (placed_on log q.stripe.unit ++ cond b (new_placed log stripe o ∷ []) []) ≡ filter
            (λ (r : Placed). nat_lt r.number q.number) (placed_on log q.stripe.unit)
        rest true = filter_last (λ (r : Placed). nat_lt r.number q.number) (placed_on log q.stripe.unit) (new_placed log stripe o) false
            (not_below q.number (length log) before) ∙ append-nil (filter (λ (r : Placed). nat_lt r.number q.number) (placed_on log q.stripe.unit))
        rest false = ap (filter (λ (r : Placed). nat_lt r.number q.number)) (append-nil (placed_on log q.stripe.unit))

pub answer_now : (log : List Logged) (stripe : Stripe) (knows : List ℕ) (o : Opening) (q : Placed) → life_of log stripe.line ≡ Opened o → q.number ≤ length log
    → answer_of (with_place log stripe knows) q ≡ answer_of log q
answer_now log stripe knows o q opened before =
    ap₂ (λ (xs : List Answer) k. slice_get xs k) (answers_now log stripe knows q.stripe.unit) (turn_now log stripe knows o q opened before)

-- all stripes of the unit were placed before it
turn_of_new : (log : List Logged) (stripe : Stripe) (o : Opening) → turn log (new_placed log stripe o) ≡ length (placed_on log stripe.unit)
turn_of_new log stripe o = ap length (filter_all (λ (r : Placed). nat_lt r.number (length log)) (placed_on log stripe.unit)
    (all_imply (λ (p : Placed). p.number < length log) (λ (p : Placed). nat_lt p.number (length log) ≡ true) (λ p h. lt_true p.number (length log) h)
    (placed_on log stripe.unit)
    (all_filter (λ (p : Placed). p.number < length log) (λ (p : Placed). p.stripe.unit == stripe.unit) (placements log) (placements_before log))))

pub new_unanswered : (log : List Logged) (stripe : Stripe) (knows : List ℕ) (o : Opening) → IsPlacing log stripe o
    → answer_of (with_place log stripe knows) (new_placed log stripe o) ≡ None
new_unanswered log stripe knows o is =
    answer_now log stripe knows o (new_placed log stripe o) is.opened (le_refl (length log))
    ∙ slice_get_past (answers log stripe.unit) (turn log (new_placed log stripe o)) (omega (arith, turn_of_new log stripe o, is.idle))

-- ---- outcomes

became_now : (log : List Logged) (stripe : Stripe) (knows : List ℕ) (o : Opening) (x : Option Placed) → life_of log stripe.line ≡ Opened o
    → ((q : Placed) → x ≡ Some q → q.number < length log)
    → became (with_place log stripe knows) x ≡ became log x
became_now log stripe knows o None opened before = refl
became_now log stripe knows o (Some q) opened before = ap by_answer (answer_now log stripe knows o q opened (le_of_lt (before q refl)))

pub stripes_now : (log : List Logged) (stripe : Stripe) (knows : List ℕ) (o other : Opening) (b : Bool) → life_of log stripe.line ≡ Opened o
    → is_life other.number (Opened o) ≡ b
    → stripes_of (with_place log stripe knows) other ≡ stripes_of log other ++ cond b (new_placed log stripe o ∷ []) []
stripes_now log stripe knows o other b opened is =
    ap (filter (λ (p : Placed). is_life other.number p.life)) (placements_now log stripe knows o opened)
    ∙ filter_last (λ (p : Placed). is_life other.number p.life) (placements log) (new_placed log stripe o) b is

same_outcome : (s : Shape) (log : List Logged) (stripe : Stripe) (knows : List ℕ) (o other : Opening) (l : OpenLine) (j : ℕ)
    → life_of log stripe.line ≡ Opened o
    → placed_as s (with_place log stripe knows) other l j ≡ placed_as s log other l j
    → outcome s (with_place log stripe knows) other l j ≡ outcome s log other l j
same_outcome s log stripe knows o other l j opened same =
    ap (became (with_place log stripe knows)) same
    ∙ became_now log stripe knows o (placed_as s log other l j) opened
    (λ q e. find_all (λ (p : Placed). p.number < length log) (λ (p : Placed). is_stripe_at s l p.stripe.unit p.stripe.at j) (stripes_of log other) q e
    (stripes_before log other))

-- in another opening nothing changes
pub outcome_elsewhere : (s : Shape) (log : List Logged) (stripe : Stripe) (knows : List ℕ) (o other : Opening) (l : OpenLine) (j : ℕ)
    → life_of log stripe.line ≡ Opened o → is_life other.number (Opened o) ≡ false
    → outcome s (with_place log stripe knows) other l j ≡ outcome s log other l j
outcome_elsewhere s log stripe knows o other l j opened apart =
    same_outcome s log stripe knows o other l j opened
    (ap (find (λ (p : Placed). is_stripe_at s l p.stripe.unit p.stripe.at j))
    (stripes_now log stripe knows o other false opened apart ∙ append-nil (stripes_of log other)))

-- of the opening's other stripes too
pub outcome_beside : (s : Shape) (log : List Logged) (stripe : Stripe) (knows : List ℕ) (o other : Opening) (l : OpenLine) (j : ℕ)
    → life_of log stripe.line ≡ Opened o → is_life other.number (Opened o) ≡ true
    → is_stripe_at s l stripe.unit stripe.at j ≡ false → outcome s (with_place log stripe knows) other l j ≡ outcome s log other l j
outcome_beside s log stripe knows o other l j opened its apart =
    same_outcome s log stripe knows o other l j opened
    (ap (find (λ (p : Placed). is_stripe_at s l p.stripe.unit p.stripe.at j)) (stripes_now log stripe knows o other true opened its)
    ∙ find_fails_last (λ (p : Placed). is_stripe_at s l p.stripe.unit p.stripe.at j) (stripes_of log other) (new_placed log stripe o) apart)

was_none : (log : List Logged) (x : Option Placed) → became log x ≡ Unplaced → x ≡ None
was_none log None e = refl
was_none log (Some p) e = absurd (placed_not (answer_of log p) e)
  where
    placed_not : (a : Option Answer) → by_answer a ≡ Unplaced → ⊥
    placed_not None e = cc
    placed_not (Some a) e = elim a as (λ a. by_answer (Some a) ≡ Unplaced → ⊥) [ DidLand k ↦ λ e. cc | WasLost k ↦ λ e. cc ] e

pub outcome_there : (s : Shape) (log : List Logged) (stripe : Stripe) (knows : List ℕ) (o other : Opening) (l : OpenLine) (j : ℕ) → IsPlacing log stripe o
    → is_life other.number (Opened o) ≡ true
    → is_stripe_at s l stripe.unit stripe.at j ≡ true → outcome s log other l j ≡ Unplaced → outcome s (with_place log stripe knows) other l j ≡ Unanswered
outcome_there s log stripe knows o other l j is its here unplaced =
    ap (λ (ps : List Placed). became (with_place log stripe knows) (find (λ (p : Placed). is_stripe_at s l p.stripe.unit p.stripe.at j) ps))
    (stripes_now log stripe knows o other true is.opened its)
    ∙ ap (became (with_place log stripe knows))
    (find_last (λ (p : Placed). is_stripe_at s l p.stripe.unit p.stripe.at j) (stripes_of log other) (new_placed log stripe o) true here
    (was_none log (placed_as s log other l j) unplaced))
    ∙ ap by_answer (new_unanswered log stripe knows o is)

-- A unit has at most one stripe that isn't answered.
use Rattle.std.proofs.Common.{◌≡◌, ℕ, ◌+◌, ◌≤◌, ◌==◌, nat_eq, Bool, true, false, cond, List, [], ◌∷◌, ◌++◌, length, take, refl, subst, ap, arith}
use Rattle.std.specs.List.{filter}
use Rattle.std.specs.Option.{option_to_list}
use Rattle.std.proofs.lemmas.Bool.{eqb-true}
use Rattle.pblk_model.specs.Image.{Image}
use Rattle.pblk_world.specs.Events.{EngineEvent, Place, Decides, Logged}
use Rattle.pblk_world.specs.World.{World, Logs, log_of}
use Rattle.pblk_world.specs.EngineLog.{life_of, Placed, placed_by, placed_on, answers}
use Rattle.pblk_world.specs.Legal.{MayDecide, IsLegal}
use Rattle.core_laws.proofs.EventByEvent.{of_legal_log}
use Rattle.core_laws.proofs.IdleUnits.{idle_fits}
use Rattle.core_laws.proofs.PlainStripes.{placed_count}
use Rattle.pblk_world.proofs.EngineLogLemmas.{answer_count}

abbrev HasOne : List Logged → Type 0
HasOne log = (unit : ℕ) → length (placed_on log unit) ≤ length (answers log unit) + 1

-- an event that adds no stripe of the unit
none_added : (log : List Logged) (l : Logged) (unit : ℕ)
    → length (filter (λ (p : Placed). p.stripe.unit == unit) (option_to_list (placed_by log (length log) l.event))) ≡ 0
    → length (placed_on log unit) ≤ length (answers log unit) + 1 → length (placed_on (log ++ l ∷ []) unit) ≤ length (answers (log ++ l ∷ []) unit) + 1
none_added log l unit none has = omega (arith, answer_count log l unit, placed_count log l unit, none, has)

one_added : (log : List Logged) (l : Logged) (unit : ℕ)
    → length (filter (λ (p : Placed). p.stripe.unit == unit) (option_to_list (placed_by log (length log) l.event))) ≤ 1
    → length (placed_on log unit) ≤ length (answers log unit) → length (placed_on (log ++ l ∷ []) unit) ≤ length (answers (log ++ l ∷ []) unit) + 1
one_added log l unit few has = omega (arith, answer_count log l unit, placed_count log l unit, few, has)

at_most_one : {X : Type 0} (b : Bool) (x : X) → length (cond b (x ∷ []) []) ≤ 1
at_most_one true x = omega arith
at_most_one false x = omega arith

one_kept : (i : Image) (log : List Logged) (known : Logs) (e : EngineEvent) (knows : List ℕ) → known 0 ≡ log → MayDecide i known e
    → HasOne log → HasOne (log ++ record { event = Decides e; knows = knows } ∷ [])
one_kept i log known (Place stripe) knows own may has unit = go (nat_eq stripe.unit unit) refl
  where
    go : (b : Bool) → nat_eq stripe.unit unit ≡ b
        → length (placed_on (log ++ record { event = Decides (Place stripe); knows = knows } ∷ []) unit) ≤ length
        (answers (log ++ record { event = Decides (Place stripe); knows = knows } ∷ []) unit) + 1
    go true e =
        let idle : length (placed_on (known 0) stripe.unit) ≤ length (answers (known 0) stripe.unit) = idle_fits (known 0) stripe.unit may.2.idle in
        one_added log (record { event = Decides (Place stripe); knows = knows }) unit
        (at_most_one (stripe.unit == unit) (record { number = length log; stripe = stripe; life = life_of (take (length log) log) stripe.line }))
        (subst (λ u. length (placed_on log u) ≤ length (answers log u)) (eqb-true stripe.unit unit e)
        (subst (λ (x : List Logged). length (placed_on x stripe.unit) ≤ length (answers x stripe.unit)) own idle))
    go false e = none_added log (record { event = Decides (Place stripe); knows = knows }) unit
        (ap (λ b. length {A = Placed} (cond b (record { number = length log; stripe = stripe; life = life_of (take (length log) log) stripe.line } ∷ []) [])) e)
        (has unit)
one_kept i log known e knows own may has unit = none_added log (record { event = Decides e; knows = knows }) unit refl (has unit)

pub one_stripe : (i : Image) (w : World) (unit : ℕ) → IsLegal i w → length (placed_on (log_of w 0) unit) ≤ length (answers (log_of w 0) unit) + 1
one_stripe i w unit legal = of_legal_log i HasOne (λ unit. omega arith) (one_kept i) w legal unit

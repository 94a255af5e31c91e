-- Lemmas on the words of Checks.
use Rattle.std.proofs.Common.{Bool, List, None, Option, Some, [], false, refl, true, ℕ, ◌∙◌, ◌∷◌, ◌≡◌}
use Rattle.std.proofs.lemmas.Bool.{cond-true}
use Rattle.std.specs.List.{AllByRecursion}
use Rattle.pblk_model.proofs.Options.{first_passes}
use Rattle.pblk_model.specs.Checks.{first_failing, first_refusal, unless}

pub none_each : {E : Type 0} (rs : List (Option E)) → first_refusal rs ≡ None → AllByRecursion (λ r. r ≡ None) rs
none_each [] is = tt
none_each (None ∷ rs) is = (refl, none_each rs is)
none_each (Some e ∷ rs) is = absurd cc

pub kept_of : {E : Type 0} (t : Bool) (e : E) → unless t e ≡ None → t ≡ true
kept_of true e is = refl
kept_of false e is = absurd cc

pub none_fails : (checks : List (ℕ × Bool)) → first_failing checks ≡ None → AllByRecursion (λ check. check.1 ≡ true) checks
none_fails [] h = tt
none_fails (check ∷ checks) h =
    let both = first_passes check.1 (first_failing checks) check.0 h in
    (both.0, none_fails checks both.1)

pub passes : (checks : List (ℕ × Bool)) → AllByRecursion (λ (check : ℕ × Bool). check.1 ≡ true) checks → first_failing checks ≡ None
passes [] h = refl
passes (check ∷ checks) h = cond-true check.1 (first_failing checks) (Some check.0) h.0 ∙ passes checks h.1

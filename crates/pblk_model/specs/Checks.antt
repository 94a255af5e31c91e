-- Checks in the order in which they are made: each a number, and whether it holds.
use Rattle.std.specs.Prelude.{ℕ, if◌then◌else◌, Bool, List, [], ◌∷◌, Option, Some, None}

-- the number of the first check that fails
abbrev pub first_failing : List (ℕ × Bool) → Option ℕ
first_failing [] = None
first_failing (check ∷ checks) = if check.1 then first_failing checks else Some check.0

-- the first refusal of some that are judged in order
abbrev pub first_refusal : {E : Type 0} → List (Option E) → Option E
first_refusal [] = None
first_refusal (None ∷ refusals) = first_refusal refusals
first_refusal (Some e ∷ refusals) = Some e

-- a refusal, unless this holds
abbrev pub unless : {E : Type 0} → Bool → E → Option E
unless holds e = if holds then None else Some e

-- What holds of the results of calls.
use Rattle.std.proofs.Common.{Result, Ok, Err, IfErr, IfOk, IsErrAnd}

-- of what a call gives
pub if_given : {A E : Type 0} {P Q : A → Type 0} (r : Result A E) → IfOk r P → ((a : A) → P a → Q a) → IfOk r Q
if_given (Ok a) h f = f a h
if_given (Err e) h f = tt

-- of the error that it gives
pub err_only : {A E : Type 0} {P Q : E → Type 0} (r : Result A E) → IsErrAnd r Q → ((e : E) → Q e → P e) → IfErr r P
err_only (Ok a) h f = tt
err_only (Err e) h f = f e h

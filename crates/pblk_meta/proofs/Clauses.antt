-- What the clauses on reading say of an answer.
use Rattle.std.proofs.Common.{◌≡◌, Option, Some, None, Result, Ok, Err, sym}
use Rattle.std.specs.Option.{option_map}
use Rattle.std.specs.Prelude.{IfOk, IfSome}

pub if_ok : {X E : Type 0} (r : Result X E) (P Q : X → Type 0) → ((x : X) → P x → Q x) → IfOk r P → IfOk r Q
if_ok (Ok x) P Q f h = f x h
if_ok (Err e) P Q f h = tt

-- what holds of each value that is read
pub if_read : {X Y : Type 0} (f : X → Y) (o : Option X) (read : Option Y) (P : Y → Type 0) → ((y : Y) → read ≡ Some y → P y) → option_map f o ≡ read
    → IfSome o (λ x. P (f x))
if_read f None read P h e = tt
if_read f (Some x) read P h e = h (f x) (sym e)

-- Lists place by place.
use Rattle.std.proofs.Common.{◌≡◌, refl, ap, Option, Some, None, IsNone, IfNone}
use Rattle.std.specs.Option.{unwrap_or}

pub some_same : {A : Type 0} (x y : A) → Some x ≡ Some y → x ≡ y
some_same x y e = ap (λ o. unwrap_or o x) e

pub if_none : {A : Type 0} (P : Type 0) (r : Option A) → (IsNone r → P) → IfNone r P
if_none P None holds = holds refl
if_none P (Some x) holds = tt

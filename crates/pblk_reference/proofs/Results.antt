-- What a last call answers is what its caller should.
use Rattle.std.proofs.Common.{◌≡◌, ◌∙◌}
use Rattle.std.specs.Prelude.{Result, Ok, Err, IfOk}

pub answered : {A V E : Type 0} (f : V → A) (r : Result V E) (x y : A) → IfOk r (λ o. f o ≡ x) → x ≡ y → IfOk r (λ o. f o ≡ y)
answered f (Ok v) x y is e = is ∙ e
answered f (Err v) x y is e = tt

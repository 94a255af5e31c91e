use Rattle.std.proofs.Common.{◌≡◌, ◌⊎◌, inl, inr, ℕ, ◌<◌, ◌≤◌, false, true, sym, subst, ◌∙◌, arith}
use Rattle.std.proofs.lemmas.Bool.{cases_lt}
use Rattle.pblk_core.specs.Landing.{IsUnderWayOn}
use Rattle.pblk_engine.proofs.looking.is_any_under_way.Goals as goal

pub loop-unit-preserved : goal.loop-unit-preserved
loop-unit-preserved c = λ unit below. go unit (omega (arith, below)) (cases_lt unit c.loop-unit.unit)
  where
    go : (unit : ℕ) → unit ≤ c.loop-unit.unit → (unit < c.loop-unit.unit) ⊎ (c.loop-unit.unit ≤ unit) → ¬ IsUnderWayOn c.args.core.now unit
    go unit most (inl before) = c.loop-unit.invariant unit before
    go unit most (inr last) = λ on.
        let here : unit ≡ c.loop-unit.unit = omega (arith, most, last) in
        let both : true ≡ false = sym (c.is_under_way.ensures.1 (subst (IsUnderWayOn c.args.core.now) here on)) ∙ c.if-is_under_way.false in
        absurd cc

pub returns-clause-none : goal.returns-clause-none
returns-clause-none c = λ none unit inside.
    let passed : unit < c.loop-unit.unit = omega (arith, inside, c.loop-unit.auto.unit-end, c.loop-unit-test.false) in c.loop-unit.invariant unit passed

pub returns-then-is_under_way-clause-some : goal.returns-then-is_under_way-clause-some
returns-then-is_under_way-clause-some c = λ is. (c.loop-unit.unit, c.loop-unit-test.true, c.is_under_way.ensures.0 c.if-is_under_way.true)

use Rattle.std.proofs.Common.{◌≡◌, ◌+◌, subst, arith, ◌∙◌}
use Rattle.pblk_model.specs.Frames.{PoolView, count_left, count_out}
use Rattle.sector_pool.proofs.PoolSteps.{left_is, left_fits, all}
use Rattle.sector_pool.proofs.pool.Pool.left.Goals as goal

pub overflow_cast-result : goal.overflow_cast-result
overflow_cast-result c = record { fits = omega (arith, c.len.ensures, left_fits c.self.inside c.self.invariant) }

pub returns-clause-left : goal.returns-clause-left
returns-clause-left c =
    subst (λ (v : PoolView). c.len.result ≡ count_left v.left) c.self.view_is (c.len.ensures ∙ left_is c.self.inside c.self.invariant)

pub returns-clause-sum : goal.returns-clause-sum
returns-clause-sum c =
    subst (λ (v : PoolView). count_left v.left + count_out v.left ≡ v.region.count) c.self.view_is (all c.self.inside c.self.invariant ∙ c.self.invariant.count)

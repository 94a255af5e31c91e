use Rattle.std.proofs.Common.{◌≡◌, ◌<◌, replicate, true, arith, ap, ◌∙◌, subst}
use Rattle.pblk_model.specs.Frames.{PoolView, count_out}
use Rattle.sector_pool.proofs.Flags.{all_left}
use Rattle.sector_pool.proofs.PoolSteps.{flags, left_is, all}
use Rattle.sector_pool.proofs.pool.Pool.close.Goals as goal

pub returns-then-len-self-clause-refused : goal.returns-then-len-self-clause-refused
returns-then-len-self-clause-refused c =
    let p = c.self.inside in
    let is = c.self.invariant in
    let some_out : 0 < count_out p.ranges.here = omega (arith, c.if-len-self.true, c.len.ensures, left_is p is, all p is) in
    subst (λ (v : PoolView). 0 < count_out v.left) c.self.view_is some_out

pub rejoin-requires : goal.rejoin-requires
rejoin-requires c =
    let p = c.self.inside in
    let is = c.self.invariant in
    let none_out : count_out p.ranges.here ≡ 0 = omega (arith, c.if-len-self.false, c.len.ensures, left_is p is, all p is) in
    (all_left p.ranges.here none_out ∙ ap (λ n. replicate n true) (flags p is ∙ is.count), is.extent)

pub returns-clause-closed : goal.returns-clause-closed
returns-clause-closed c =
    let p = c.self.inside in
    let is = c.self.invariant in
    let none_out : count_out p.ranges.here ≡ 0 = omega (arith, c.if-len-self.false, c.len.ensures, left_is p is, all p is) in
    subst (λ (v : PoolView). count_out v.left ≡ 0) c.self.view_is none_out

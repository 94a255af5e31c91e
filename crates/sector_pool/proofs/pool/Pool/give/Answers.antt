use Rattle.std.proofs.Common.{◌≡◌, ◌+◌, reverse, sym, ap, ◌∙◌, subst}
use Rattle.pblk_model.specs.Frames.{PoolView, count_left, count_out}
use Rattle.sector_pool.specs.Stack.{IsStackOf}
use Rattle.sector_pool.proofs.Flags.{left_comes, out_comes}
use Rattle.sector_pool.proofs.Stacks.{put}
use Rattle.sector_pool.proofs.PoolSteps.{has_room, changed}
use Rattle.sector_pool.proofs.pool.Pool.give.Goals as goal

pub put-requires : goal.put-requires
put-requires c = record { room = has_room c.self.inside c.self.invariant c.frame.inside.number c.regain.ensures.0 }

pub invariant_of-self : goal.invariant_of-self
invariant_of-self c =
    let p = c.self.inside in
    let is = c.self.invariant in
    let i = c.frame.inside.number in
    let back = c.regain.ensures in
    let numbers = c.put.new.numbers in
    let stack = put p.numbers.items numbers.items i c.put.ensures.items p.ranges.here back.0 is.stack in
    changed p is c.regain.new.self back.2 back.3 numbers
    (subst (λ here. IsStackOf (reverse numbers.items) here) (sym back.1) stack) c.put.ensures.capacity

pub returns-clause-more_left : goal.returns-clause-more_left
returns-clause-more_left c =
    let here = c.self.inside.ranges.here in
    let back = c.regain.ensures in
    subst (λ (v : PoolView). count_left c.regain.new.self.here ≡ count_left v.left + 1) c.self.view_is
    (ap count_left back.1 ∙ left_comes here c.frame.inside.number back.0)

pub returns-clause-fewer_out : goal.returns-clause-fewer_out
returns-clause-fewer_out c =
    let here = c.self.inside.ranges.here in
    let back = c.regain.ensures in
    subst (λ (v : PoolView). count_out v.left ≡ count_out c.regain.new.self.here + 1) c.self.view_is
    (out_comes here c.frame.inside.number back.0 ∙ ap (λ left. count_out left + 1) (sym back.1))

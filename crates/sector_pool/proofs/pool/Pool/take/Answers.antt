use Rattle.std.proofs.Common.{◌≡◌, ◌+◌, Some, true, true≢false, sym, ap, ◌∙◌, arith, subst}
use Rattle.std.specs.List.{slice_get}
use Rattle.std.proofs.lemmas.Option.{slice_get_within}
use Rattle.pblk_model.specs.Frames.{PoolView, count_left, count_out}
use Rattle.sector_pool.proofs.Flags.{left_goes, out_goes}
use Rattle.sector_pool.proofs.Stacks.{popped}
use Rattle.sector_pool.proofs.PoolSteps.{flags, framed}
use Rattle.sector_pool.proofs.pool.Pool.take.Goals as goal

-- the range that goes was left
top : (c : goal.After-lend-bytes) → slice_get c.self.inside.ranges.here c.in_ok-number.number ≡ Some true
top c = (popped c.pop.new.self.items c.self.inside.numbers.items c.in_ok-number.number c.in_ok-number.ensures.items c.self.inside.ranges.here
    c.self.invariant.stack).0

pub invariant_of-result : goal.invariant_of-result
invariant_of-result c =
    let p = c.self.inside in
    let is = c.self.invariant in
    let i = c.in_ok-number.number in
    let lent = c.lend-bytes.ensures in
    framed p is c.lend-bytes.result.1 lent.4 c.lend-bytes.result.0 i (omega (arith, slice_get_within p.ranges.here i true (top c), flags p is)) lent.3

pub returns-clause-none : goal.returns-clause-none
returns-clause-none c =
    let some = left_goes c.self.inside.ranges.here c.in_ok-number.number (top c) in
    let seen = ap (λ (v : PoolView). count_left v.left) c.self.view_is in
    ((λ is. absurd (true≢false is)), (λ none. absurd (omega arith)))

pub returns-clause-fewer_left : goal.returns-clause-fewer_left
returns-clause-fewer_left c =
    let here = c.self.inside.ranges.here in
    subst (λ (v : PoolView). count_left v.left ≡ count_left c.lend-bytes.new.self.here + 1) c.self.view_is
    (left_goes here c.in_ok-number.number (top c) ∙ ap (λ left. count_left left + 1) (sym c.lend-bytes.ensures.0))

pub returns-clause-more_out : goal.returns-clause-more_out
returns-clause-more_out c =
    let here = c.self.inside.ranges.here in
    subst (λ (v : PoolView). count_out c.lend-bytes.new.self.here ≡ count_out v.left + 1) c.self.view_is
    (ap count_out c.lend-bytes.ensures.0 ∙ out_goes here c.in_ok-number.number (top c))

use Rattle.std.proofs.lemmas.Option.{slice_get-get_or}
use Rattle.pblk_core.proofs.FoundMap.{none_set, next_inside, one_set, all_set}
use Rattle.pblk_core.proofs.opening.found_map.Goals as goal

pub loop-k-init : goal.loop-k-init
loop-k-init c = none_set c.args.capacity c.args.winners.now c.in_ok-map.map c.in_ok-map.ensures.capacity c.in_ok-map.ensures.unwritten

pub set-requires : goal.set-requires
set-requires c = next_inside c.args.capacity c.loop-k.k c.args.winners.now _ c.loop-k.map c.requires.inside c.loop-k-test.true c.loop-k.invariant

pub loop-k-preserved : goal.loop-k-preserved
loop-k-preserved c = one_set c.args.capacity c.loop-k.k c.args.winners.now _ c.loop-k.map c.set.new.self c.requires.rise
    (slice_get-get_or c.args.winners.now c.loop-k.k _ c.loop-k-test.true) c.set.ensures.set c.set.ensures.capacity c.loop-k.invariant

pub returns-clause-capacity : goal.returns-clause-capacity
returns-clause-capacity c = c.loop-k.invariant.capacity

pub returns-clause-slots : goal.returns-clause-slots
returns-clause-slots c = all_set c.args.capacity c.loop-k.k c.args.winners.now c.loop-k.map c.loop-k-test.false c.loop-k.invariant

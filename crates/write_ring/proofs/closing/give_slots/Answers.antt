use Rattle.std.proofs.Common.{◌≡◌, ◌%◌, refl, sym, ap, ◌∙◌, subst, arith, length, length-set, false, slice_index_or}
use Rattle.std.proofs.Math.Nat.{mod-lt}
use Rattle.std.specs.Slots.{slots_filled, slots_counts}
use mathlib.Core.Option.{some-injective}
use lib.ListN.{get_elem?}
use Rattle.write_ring.specs.declared.cell.Cell.TheVariants as cell
use Rattle.write_ring.specs.Endings.{HasFrame}
use Rattle.write_ring.proofs.Leaving.{Walk, walk_next, position_of}
use Rattle.write_ring.proofs.closing.give_slots.Goals as goal

pub loop-at-init : goal.loop-at-init
loop-at-init c =
    let s = c.args.closed.slots in
    let long = sym (slots_counts s).1 ∙ c.requires.long in (
      record {
        long = long;
        full = λ p le lt.
            let low = mod-lt p c.requires.some in
            c.requires.full (p % c.args.size) (omega arith) (omega (arith, low, c.requires.long));
        gone = λ p le lt. absurd (omega arith);
      },
      refl,
      c.requires.long,
    )

pub take_slot-cell-requires-clause-long : goal.take_slot-cell-requires-clause-long
take_slot-cell-requires-clause-long c = c.loop-at.invariant.2

pub take_slot-cell-requires-clause-here : goal.take_slot-cell-requires-clause-here
take_slot-cell-requires-clause-here c = c.loop-at.invariant.0.full c.loop-at.at (omega arith) (omega (arith, c.loop-at-test.true, c.requires.left.room))

pub unreachable-requires : goal.unreachable-requires
unreachable-requires c =
    let e = c.take_slot-cell.ensures in
    let at = c.loop-at.at in
    let blank = c.requires.left.blanks at c.loop-at.auto.at c.loop-at-test.true in
    c.in_default.not-Empty (some-injective c.take_slot-cell.result cell.Empty
    (sym e.value ∙ ap (λ l. get_elem? l (at % c.args.size)) c.loop-at.invariant.1 ∙ blank))

pub loop-at-preserved : goal.loop-at-preserved
loop-at-preserved c =
    let e = c.take_slot-cell.ensures in
    let i = c.loop-at.invariant in
    let old = slots_filled c.loop-at.closed.slots in
    let at = c.loop-at.at in (
      walk_next c.args.size c.args.freed at old (slots_filled c.take_slot-cell.new.closed.slots) i.0 c.requires.some c.loop-at.auto.at
          (omega (arith, c.loop-at-test.true, c.requires.left.room)) (ap length e.flags ∙ length-set old (at % c.args.size) false) e.flags,
      e.items ∙ i.1,
      e.long ∙ i.2,
    )

pub loop-at-2-init : goal.loop-at-2-init
loop-at-2-init c =
    let i = c.loop-at.invariant in
    let ends : c.loop-at.at ≡ c.args.taken = omega (arith, c.loop-at.auto.at-end c.requires.left.order, c.loop-at-test.false) in
    (subst (λ k. Walk c.args.size c.args.freed k (slots_filled c.loop-at.closed.slots)) ends i.0, i.1, i.2, refl, refl, refl)

pub take_slot-cell-requires-in-loop-at-2-clause-long :
    goal.take_slot-cell-requires-in-loop-at-2-clause-long
take_slot-cell-requires-in-loop-at-2-clause-long c = c.loop-at-2.invariant.2

pub take_slot-cell-requires-in-loop-at-2-clause-here :
    goal.take_slot-cell-requires-in-loop-at-2-clause-here
take_slot-cell-requires-in-loop-at-2-clause-here c = c.loop-at-2.invariant.0.full c.loop-at-2.at (omega arith) (omega (arith, c.loop-at-2-test.true))

pub give_slot-requires : goal.give_slot-requires
give_slot-requires c =
    let e = c.take_slot-cell-in-loop-at-2.ensures in
    let i = c.loop-at-2.invariant in
    let at = c.loop-at-2.at in
    let there = c.requires.left.others at c.loop-at-2.auto.at (omega (arith, c.loop-at-2-test.true)) in
    let same = some-injective there.0 c.take_slot-cell-in-loop-at-2.result
    (sym there.1 ∙ ap (λ l. get_elem? l (at % c.args.size)) (sym i.1) ∙ e.value) in
    record { own = subst (λ r. HasFrame r c.take_slot-cell-in-loop-at-2.result) (sym i.3) (subst (HasFrame c.args.pool.now.region) same there.2) }

pub loop-at-2-preserved : goal.loop-at-2-preserved
loop-at-2-preserved c =
    let e = c.take_slot-cell-in-loop-at-2.ensures in
    let g = c.give_slot.ensures in
    let i = c.loop-at-2.invariant in
    let old = slots_filled c.loop-at-2.closed.slots in
    let at = c.loop-at-2.at in (
      walk_next c.args.size c.args.freed at old (slots_filled c.take_slot-cell-in-loop-at-2.new.closed.slots) i.0 c.requires.some
          (omega (arith, c.loop-at-2.auto.at, c.requires.left.order)) c.loop-at-2-test.true
          (ap length e.flags ∙ length-set old (at % c.args.size) false) e.flags,
      e.items ∙ i.1,
      e.long ∙ i.2,
      g.region ∙ i.3,
      omega (arith, g.more_left, i.4),
      omega (arith, g.fewer_out, i.5),
    )

pub free-requires : goal.free-requires
free-requires c k lt =
    let i = c.loop-at-2.invariant in
    let p = position_of c.args.size c.args.freed k (omega (arith, i.2, lt)) in
    ap (λ j. slice_index_or (slots_filled c.loop-at-2.closed.slots) j false) (sym p.3) ∙ i.0.gone p.0 p.1 (omega (arith, c.loop-at-2-test.false, p.2))

pub returns-clause-region : goal.returns-clause-region
returns-clause-region c = c.loop-at-2.invariant.3

pub returns-clause-more_left : goal.returns-clause-more_left
returns-clause-more_left c =
    let i = c.loop-at-2.invariant in omega (arith, i.4, c.loop-at-2-test.false, c.loop-at-2.auto.at-end c.requires.left.room)

pub returns-clause-fewer_out : goal.returns-clause-fewer_out
returns-clause-fewer_out c =
    let i = c.loop-at-2.invariant in omega (arith, i.5, c.loop-at-2-test.false, c.loop-at-2.auto.at-end c.requires.left.room)

use Rattle.std.proofs.Common.{◌∷◌, [], length, reverse, refl, sym, ap, ◌∙◌, subst, arith, length-append}
use Rattle.std.specs.List.{AllByRecursion}
use Rattle.pblk_model.proofs.Lists.{all_append}
use Rattle.write_ring.specs.declared.cell.Cell.TheVariants as cell
use Rattle.write_ring.specs.Frames.{IsFreeOf}
use Rattle.write_ring.specs.Openings.{IsDrawn}
use Rattle.write_ring.proofs.Draws.{drawn_more}
use Rattle.write_ring.proofs.opening.first_cells.Goals as goal

pub loop-number-init : goal.loop-number-init
loop-number-init c =
    let is = c.in_ok-cells.ensures.items in
    let p = c.args.pool.now in (
      ap length is,
      c.in_ok-cells.ensures.capacity,
      subst (λ l. AllByRecursion (IsFreeOf p.region) l) (sym is) tt,
      subst (λ l. IsDrawn p.region p.left p.left (reverse l)) (sym is) refl,
      refl,
      omega arith,
      omega arith,
    )

pub put-requires : goal.put-requires
put-requires c = record { room = omega (arith, c.loop-number.invariant.0, c.loop-number.invariant.1, c.loop-number-test.true) }

pub loop-number-preserved : goal.loop-number-preserved
loop-number-preserved c =
    let i = c.loop-number.invariant in
    let t = c.take_frame-frame.ensures in
    let f = c.take_frame-frame.result in
    let p = c.put.ensures in
    let r = c.args.pool.now.region in
    let xs = c.loop-number.cells.items in (
      omega (arith, ap length p.items, length-append xs (cell.Free f ∷ []), i.0),
      omega (arith, p.capacity, i.1),
      subst (λ l. AllByRecursion (IsFreeOf r) l) (sym p.items) (all_append (IsFreeOf r) xs (cell.Free f ∷ []) i.2 ((f, refl, t.region ∙ i.4), tt)),
      subst (λ l. IsDrawn r c.args.pool.now.left l (reverse c.put.new.cells.items)) (sym t.out)
          (drawn_more r c.args.pool.now.left c.loop-number.pool.left xs c.put.new.cells.items f p.items (t.region ∙ i.4) t.was_left i.3),
      t.same_region ∙ i.4,
      omega (arith, i.5, t.fewer_left),
      omega (arith, i.6, t.more_out),
    )

pub returns-clause-free : goal.returns-clause-free
returns-clause-free c = c.loop-number.invariant.2

pub returns-clause-drawn : goal.returns-clause-drawn
returns-clause-drawn c = c.loop-number.invariant.3

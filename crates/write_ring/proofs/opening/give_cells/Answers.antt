use Rattle.std.proofs.Common.{reverse, refl, sym, ap, ◌∙◌, subst, set, true, arith}
use Rattle.write_ring.specs.Openings.{IsDrawn}
use Rattle.write_ring.proofs.Draws.{drawn_less, drawn_none, same_frame}
use Rattle.write_ring.proofs.opening.give_cells.Goals as goal

pub loop-cell-init : goal.loop-cell-init
loop-cell-init c = (refl, λ before h. h)

pub unreachable-requires : goal.unreachable-requires
unreachable-requires c =
    let d = c.requires.drawn in
    let front = drawn_less c.args.pool.now.region d.0 c.loop-cell.pool.left c.pop.new.self.items c.loop-cell.cells.items c.in-Some.cell c.in-Some.ensures.items
    (c.loop-cell.invariant.1 d.0 d.1) in
    c.in_default-cell.not-Free front.0 front.1

pub give-requires : goal.give-requires
give-requires c =
    let d = c.requires.drawn in
    let front = drawn_less c.args.pool.now.region d.0 c.loop-cell.pool.left c.pop.new.self.items c.loop-cell.cells.items c.in-Some.cell c.in-Some.ensures.items
    (c.loop-cell.invariant.1 d.0 d.1) in
    record { own = ap (λ f. f.region) (same_frame c.in-Some.cell c.in-Free.frame front.0 c.in-Free.is front.1) ∙ front.2 ∙ sym c.loop-cell.invariant.0 }

pub loop-cell-preserved : goal.loop-cell-preserved
loop-cell-preserved c = (
  c.give.ensures.same_region ∙ c.loop-cell.invariant.0,
  λ before h.
      let r = c.args.pool.now.region in
      let now = c.loop-cell.pool.left in
      let front = drawn_less r before now c.pop.new.self.items c.loop-cell.cells.items c.in-Some.cell c.in-Some.ensures.items
      (c.loop-cell.invariant.1 before h) in
      let same = same_frame c.in-Some.cell c.in-Free.frame front.0 c.in-Free.is front.1 in
      subst (λ l. IsDrawn r before l (reverse c.pop.new.self.items)) (sym (c.give.ensures.left ∙ ap (λ f. set now f.number true) same)) front.3,
)

pub returns-clause-back : goal.returns-clause-back
returns-clause-back c before h =
    drawn_none c.args.pool.now.region before c.loop-cell.pool.left c.loop-cell.cells.items (omega (arith, c.in_default.ensures.cases.0, c.loop-cell.cells.ok))
    (c.loop-cell.invariant.1 before h)

pub returns-clause-region : goal.returns-clause-region
returns-clause-region c = c.loop-cell.invariant.0

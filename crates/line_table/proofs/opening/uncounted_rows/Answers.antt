use Rattle.std.proofs.Common.{◌≡◌, ◌++◌, ◌∷◌, [], length, List, None, slice_get, ap, sym, subst, ◌∙◌, arith, length-append}
use Rattle.pblk_model.specs.Shape.{units}
use Rattle.line_table.specs.declared.row.Row.{Row}
use Rattle.line_table.specs.Counting.{IsOpened}
use Rattle.line_table.proofs.Places.{each_more}
use Rattle.line_table.proofs.Opened.{opened, width_is}
use Rattle.line_table.proofs.opening.uncounted_rows.Goals as goal

pub state-state-requires-clause-width : goal.state-state-requires-clause-width
state-state-requires-clause-width c =
    width_is c.args.layout.now c.args.found.now c.loop-line.line c.online_units.result c.width-width.result c.width-width.ensures.width
    c.online_units.ensures.units

pub state-state-requires-clause-few : goal.state-state-requires-clause-few
state-state-requires-clause-few c = c.width-width.ensures.few (units c.args.layout.now) c.online_units.ensures.below

pub loop-line-preserved : goal.loop-line-preserved
loop-line-preserved c =
    let row : Row = record { state = c.state-state.result; width = c.width-width.result; live = 0; taker = None } in
    let items : c.push.new.self.items ≡ c.loop-line.rows.items ++ row ∷ [] = c.in_ok-push.ensures.items in
    let last : IsOpened c.args.layout.now c.args.found.now c.loop-line.line row =
    opened c.args.layout.now c.args.found.now c.as_slice-lines.result.now c.loop-line.line c.width-width.result _ c.state-state.result c.as_slice-lines.ensures
    c.state-state.ensures
    (width_is c.args.layout.now c.args.found.now c.loop-line.line c.online_units.result c.width-width.result c.width-width.ensures.width
    c.online_units.ensures.units)
    (c.width-width.ensures.few (units c.args.layout.now) c.online_units.ensures.below) in
    record {
      lines = ap length items ∙ length-append c.loop-line.rows.items (row ∷ []) ∙ omega (arith, c.loop-line.invariant.lines);
      each = λ line r h. each_more c.loop-line.rows.items row (IsOpened c.args.layout.now c.args.found.now) c.loop-line.invariant.each
          (subst (λ k. IsOpened c.args.layout.now c.args.found.now k row) (sym c.loop-line.invariant.lines) last) line r
          (ap (λ (xs : List Row). slice_get xs line) (sym items) ∙ h);
    }

use Rattle.std.proofs.Common.{ℕ, ◌+◌, ◌<◌, ◌≤◌, ◌∙◌, List, length, drop, sym, subst, ap₂, arith}
use Rattle.std.proofs.lemmas.List.Sums.{fold_more}
use Rattle.std.proofs.lemmas.Option.{slice_get-get_or}
use Rattle.pblk_model.proofs.Parts.{drop_at}
use Rattle.line_table.specs.declared.row.Row.{Row}
use Rattle.line_table.specs.Rows.{IsRow, Table}
use Rattle.pblk_core.specs.declared.hold.Hold.{Hold}
use Rattle.pblk_core.specs.Holds.{row_at}
use Rattle.pblk_core.specs.Losing.{live_among, lower_hold}
use Rattle.pblk_core.proofs.FillingRows.{lowered_inside, lowered_some}
use Rattle.pblk_core.proofs.filling.lower_lines.Goals as goal

pub loop-index-preserved : goal.loop-index-preserved
loop-index-preserved c =
    let t : Table = c.loop-index.lines in
    let rows : List Hold = c.args.holds.now.rows.items in
    let k : ℕ = c.loop-index.index in
    let ps : List ℕ = c.args.positions.now in
    let inside : k < length ps = omega arith in
    let rest = drop_at ps k _ (slice_get-get_or ps k 0 inside) in
    record {
      lines = c.lower_line.ensures
          ∙ ap₂ (λ (u : Table) o. lower_hold c.args.line u o) c.loop-index.invariant.lines (sym c.get-hold.ensures)
          ∙ sym (fold_more (λ (u : Table) position. lower_hold c.args.line u (row_at rows position)) c.args.lines.now ps k 0 inside);
      inside = subst (λ (u : Table). c.args.line < length u.rows) (sym c.lower_line.ensures)
          (lowered_inside t c.args.line c.args.line c.get-hold.result c.loop-index.invariant.inside);
      some = subst (λ (u : Table). (row : Row) → IsRow u c.args.line row → live_among rows (drop (k + 1) ps) ≤ row.live) (sym c.lower_line.ensures)
          (lowered_some t c.args.line c.get-hold.result _ (drop (k + 1) ps) rows c.get-hold.ensures c.loop-index.invariant.inside
          (λ r is. subst (λ qs. live_among rows qs ≤ r.live) rest (c.loop-index.invariant.some r is)));
    }

use Rattle.std.proofs.Common.{◌+◌, ◌-◌, ◌<◌, ◌^◌, ℕ, List, length, subst, sym, ap₂, ◌∙◌, ◌≡◌, arith}
use Rattle.line_table.specs.Rows.{Table, IsRow}
use Rattle.line_table.specs.declared.row.Row.{Row}
use Rattle.std.proofs.lemmas.List.Sums.{fold_more}
use Rattle.pblk_core.specs.declared.hold.Hold.{Hold}
use Rattle.pblk_core.specs.Holds.{row_at}
use Rattle.pblk_core.specs.Entries.{place_hold}
use Rattle.pblk_core.proofs.FillingRows.{placed_inside, placed_room}
use Rattle.pblk_core.proofs.filling.settle_lines.Goals as goal

pub loop-index-preserved : goal.loop-index-preserved
loop-index-preserved c =
    let t : Table = c.loop-index.lines in
    let rows : List Hold = c.args.holds.now.rows.items in
    let k : ℕ = c.loop-index.index in
    let ps : List ℕ = c.args.positions.now in
    let inside : k < length ps = omega arith in
    let left : length ps - k ≡ length ps - (k + 1) + 1 = omega arith in
    record {
      lines = c.settle_line.ensures
          ∙ ap₂ (λ (u : Table) o. place_hold c.args.line u o) c.loop-index.invariant.lines (sym c.get-hold.ensures)
          ∙ sym (fold_more (λ (u : Table) position. place_hold c.args.line u (row_at rows position)) c.args.lines.now ps k 0 inside);
      inside = subst (λ (u : Table). c.args.line < length u.rows) (sym c.settle_line.ensures)
          (placed_inside t c.args.line c.args.line c.get-hold.result c.loop-index.invariant.inside);
      room = subst (λ (u : Table). (row : Row) → IsRow u c.args.line row → row.live + (length ps - (k + 1)) < 2 ^ 32) (sym c.settle_line.ensures)
          (placed_room t c.args.line c.get-hold.result (length ps - (k + 1)) (2 ^ 32) c.loop-index.invariant.inside
          (λ r is. subst (λ n. r.live + n < 2 ^ 32) left (c.loop-index.invariant.room r is)));
    }

use Rattle.std.proofs.Common.{◌<◌, ℕ, List, length, subst, sym, ap₂, ◌∙◌, arith}
use Rattle.line_table.specs.Rows.{Table}
use Rattle.std.proofs.lemmas.List.Sums.{fold_more}
use Rattle.pblk_core.specs.declared.hold.Hold.{Hold}
use Rattle.pblk_core.specs.Holds.{row_at}
use Rattle.pblk_core.specs.Entries.{note_hold}
use Rattle.pblk_core.proofs.FillingRows.{noted_inside}
use Rattle.pblk_core.proofs.filling.note_takers.Goals as goal

pub loop-index-preserved : goal.loop-index-preserved
loop-index-preserved c =
    let t : Table = c.loop-index.lines in
    let rows : List Hold = c.args.holds.now.rows.items in
    let k : ℕ = c.loop-index.index in
    let ps : List ℕ = c.args.positions.now in
    let inside : k < length ps = omega arith in
    record {
      lines = c.note_taker.ensures
          ∙ ap₂ (λ (u : Table) o. note_hold c.args.line u o) c.loop-index.invariant.lines (sym c.get-hold.ensures)
          ∙ sym (fold_more (λ (u : Table) position. note_hold c.args.line u (row_at rows position)) c.args.lines.now ps k 0 inside);
      inside = subst (λ (u : Table). c.args.line < length u.rows) (sym c.note_taker.ensures)
          (noted_inside t c.args.line c.args.line c.get-hold.result c.loop-index.invariant.inside);
    }

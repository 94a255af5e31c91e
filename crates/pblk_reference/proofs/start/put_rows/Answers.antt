use Rattle.std.proofs.Common.{◌++◌, ap, ◌∙◌}
use Rattle.pblk_reference.specs.Words.{row_words}
use Rattle.pblk_reference.proofs.Words.{piece_more}
use Rattle.pblk_reference.proofs.start.put_rows.Goals as goal
use Rattle.pblk_model.proofs.Maps.{pieces_all}

pub loop-row-preserved : goal.loop-row-preserved
loop-row-preserved c =
    let now = c.in_ok-put_row.ensures ∙ ap (λ r. c.loop-row.out.items ++ row_words r) c.row-item.is in
    piece_more row_words c.args.rows.now c.loop-row.row-index c.row-item.result c.args.out.now.items c.loop-row.out.items c.put_row.new.out.items
    c.loop-row-test.true now c.loop-row.invariant

pub returns : goal.returns
returns c = pieces_all row_words c.args.rows.now c.loop-row.row-index c.args.out.now.items c.loop-row.out.items c.loop-row-test.false c.loop-row.invariant

use Rattle.std.proofs.Common.{slice_index_or, None, arith}
use Rattle.std.proofs.lemmas.Option.{slice_get-get_or}
use Rattle.pblk_model.specs.declared.found.Winner.{Winner}
use Rattle.line_table.specs.declared.row.LineState.TheVariants.{Free}
use Rattle.line_table.specs.declared.row.Row.{Row}
use Rattle.line_table.proofs.Counts.{counted_next, counted_fits, all_counted, none_after}
use Rattle.line_table.proofs.opening.count_live.Goals as goal

abbrev no_winner : Winner
no_winner = record { lba = 0; position = 0; line = 0; at = 0 }

abbrev no_row : Row
no_row = record { state = Free; width = 0; live = 0; taker = None }

pub overflow_add-rows : goal.overflow_add-rows
overflow_add-rows c =
    let room = counted_fits c.args.winners.now c.args.rows.now c.loop-winner.rows c.loop-winner.winner-index no_winner no_row c.loop-winner.invariant
    c.loop-winner-test.true c.requires.lines in
    omega (arith, room, c.requires.few)

pub bounds-rows-winner-in-loop-winner : goal.bounds-rows-winner-in-loop-winner
bounds-rows-winner-in-loop-winner c =
    let w = slice_index_or c.args.winners.now c.loop-winner.winner-index no_winner in
    let inside = c.requires.lines c.loop-winner.winner-index w
    (slice_get-get_or c.args.winners.now c.loop-winner.winner-index no_winner c.loop-winner-test.true) in
    omega (arith, inside, c.loop-winner.invariant.lines)

pub loop-winner-preserved : goal.loop-winner-preserved
loop-winner-preserved c =
    counted_next c.args.winners.now c.args.rows.now c.loop-winner.rows c.loop-winner.winner-index no_winner no_row c.loop-winner.invariant
    c.loop-winner-test.true c.requires.lines

pub returns : goal.returns
returns c = all_counted c.args.winners.now _ c.args.rows.now c.loop-winner.rows
    (none_after c.args.winners.now c.loop-winner.winner-index c.loop-winner-test.false) c.loop-winner.invariant

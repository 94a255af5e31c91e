use Rattle.std.proofs.Common.{◌≡◌, ◌<◌, ◌^◌, slice_index_or, None, arith}
use Rattle.std.proofs.lemmas.Option.{slice_get_within}
use Rattle.std.proofs.lemmas.List.Sums.{sum_by_more}
use Rattle.line_table.specs.declared.row.LineState.TheVariants.{Free}
use Rattle.line_table.specs.declared.row.Row.{Row}
use Rattle.line_table.specs.Rows.{free_len}
use Rattle.line_table.proofs.Tables.{short_more}
use Rattle.line_table.proofs.opening.count_free_addresses.Goals as goal

abbrev no_row : Row
no_row = record { state = Free; width = 0; live = 0; taker = None }

pub loop-row-preserved : goal.loop-row-preserved
loop-row-preserved c =
    let len : c.free_addresses_of-addresses.result ≡ free_len c.args.layout.now (slice_index_or c.args.rows.now c.loop-row.row-index no_row) =
    c.free_addresses_of-addresses.ensures.addresses in
    let short : c.free_addresses_of-addresses.result < 2 ^ 32 = c.free_addresses_of-addresses.ensures.short in
    record {
      sum = omega (
        arith,
        len,
        c.loop-row.invariant.sum,
        sum_by_more (free_len c.args.layout.now) c.args.rows.now c.loop-row.row-index no_row c.loop-row-test.true,
      );
      below = omega (arith, short, c.loop-row.invariant.below);
      short = short_more c.args.layout.now c.args.rows.now c.loop-row.row-index no_row (omega (arith, len, short)) c.loop-row.invariant.short;
    }

pub returns-clause-short : goal.returns-clause-short
returns-clause-short c = λ n row h. c.loop-row.invariant.short n row (omega (arith, slice_get_within c.args.rows.now n row h)) h

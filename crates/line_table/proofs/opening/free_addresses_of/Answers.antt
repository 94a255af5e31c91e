use Rattle.std.proofs.Common.{sym, ◌∙◌}
use Rattle.line_table.proofs.Tables.{len_of_free, len_of_other}
use Rattle.line_table.proofs.opening.free_addresses_of.Goals as goal

pub returns-then-is_free-clause-addresses : goal.returns-then-is_free-clause-addresses
returns-then-is_free-clause-addresses c = c.from.ensures ∙ c.data_len.ensures.len
    ∙ sym (len_of_free c.args.layout.now c.args.row.now (sym c.is_free.ensures ∙ c.if-is_free.true))

pub returns-else-is_free-clause-addresses : goal.returns-else-is_free-clause-addresses
returns-else-is_free-clause-addresses c = sym (len_of_other c.args.layout.now c.args.row.now (sym c.is_free.ensures ∙ c.if-is_free.false))

use Rattle.std.proofs.Common.{◌∙◌, arith}
use Rattle.pblk_meta.proofs.Pieces.{row_test}
use Rattle.pblk_meta.proofs.rows.Row.is_spelled.Goals as goal

pub returns : goal.returns
returns c = c.are_zeros.ensures ∙ row_test c.args.bytes.now (record { each = λ i. omega (arith, c.type_inv.bytes i) }) c.requires

use Rattle.std.proofs.Common.{eqb, sym, ap, ◌∙◌, arith}
use Rattle.std.proofs.lemmas.Bool.{le-ltb}
use Rattle.std.proofs.lemmas.Nat.Bits.{bit_at_above}
use Rattle.plain_placer.proofs.line.is_in.Goals as goal

pub returns-else-unit-lt64 : goal.returns-else-unit-lt64
returns-else-unit-lt64 c =
    le-ltb c.args.unit 64 c.if-unit-lt64.false
    ∙ ap (λ b. eqb b 1) (sym (bit_at_above c.args.set 64 c.args.unit (omega arith) c.if-unit-lt64.false))

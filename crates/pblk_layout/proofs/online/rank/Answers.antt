use Rattle.std.proofs.Common.{◌≡◌, ◌*◌, ◌^◌, ◌%◌, ◌-◌, ap, ◌∙◌}
use Rattle.std.specs.Prelude.{bit_and, count_ones}
use Rattle.std.proofs.lemmas.Nat.{one_shl, and_mask}
use Rattle.pblk_layout.proofs.Sets.{ones_below}
use Rattle.pblk_layout.proofs.online.rank.Goals as goal

pub returns : goal.returns
returns c =
    let bit : 1 * 2 ^ c.args.unit % 2 ^ 64 ≡ 2 ^ c.args.unit = one_shl c.args.unit 64 c.requires in
    ap (λ b. count_ones (bit_and c.args.online (b - 1))) bit ∙ ap count_ones (and_mask c.args.online c.args.unit) ∙ ones_below c.args.online c.args.unit

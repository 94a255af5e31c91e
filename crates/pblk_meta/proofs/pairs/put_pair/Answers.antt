use Rattle.std.proofs.Common.{◌≡◌, ◌+◌, ◌++◌, ap, ◌∙◌, take, append_assoc, arith}
use Rattle.pblk_model.specs.Bytes.{le64}
use Rattle.pblk_meta.proofs.pairs.put_pair.Goals as goal

pub returns-clause-placed : goal.returns-clause-placed
returns-clause-placed c =
    let place : c.args.at + 16 ≡ c.args.at + 8 + 8 = omega arith in
    ap (λ n. take n c.put_u64-2.new.out) place ∙ c.put_u64-2.ensures.placed ∙ ap (λ xs. xs ++ le64 c.args.pair.position) c.put_u64.ensures.placed
    ∙ append_assoc (take c.args.at c.args.out.now) (le64 c.args.pair.lba) (le64 c.args.pair.position)

use Rattle.std.proofs.Common.{ap, ◌∙◌}
use Rattle.pblk_model.specs.Chunk.{Block}
use Rattle.pblk_model.specs.EndRecord.{EndRecord}
use Rattle.pblk_reference.proofs.Marks.{own_mark, paired_mark}
use Rattle.pblk_reference.proofs.record.mark_at.Goals as goal

pub start_len-requires : goal.start_len-requires
start_len-requires c = c.requires

pub returns-in-None : goal.returns-in-None
returns-in-None c = own_mark c.args.shape.now c.args.end.now c.args.at c.args.block.now c.block.inside.mark c.in-None.is
    (ap (λ (b : Block). b.mark) c.block.view_is)

pub returns-in-Some : goal.returns-in-Some
returns-in-Some c =
    let pairs = c.deref.ensures.value ∙ ap (λ (r : EndRecord). r.pairs) c.end.view_is in
    paired_mark c.args.shape.now c.args.end.now c.args.at c.start_len.result c.args.block.now c.in-Some.end c.deref.result.now c.pair_at.result c.in-Some.is
    pairs c.start_len.ensures c.pair_at.ensures

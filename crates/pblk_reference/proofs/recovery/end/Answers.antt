use Rattle.std.proofs.Common.{◌∙◌}
use Rattle.pblk_reference.proofs.Newest.{end_is}
use Rattle.pblk_reference.proofs.recovery.end.Goals as goal

pub returns : goal.returns
returns c = end_is c.args.image.now c.end_after.result c.deref.result.now c.in_ok-last.last c.end_after.ensures
    (c.deref.ensures.value ∙ c.in_ok-all.ensures.records) c.in_ok-last.ensures.head

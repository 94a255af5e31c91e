use Rattle.std.proofs.Common.{◌∙◌, refl}
use Rattle.pblk_reference.proofs.Results.{answered}
use Rattle.pblk_reference.proofs.Newest.{counted_is}
use Rattle.pblk_reference.proofs.recovery.counted.Goals as goal

pub returns : goal.returns
returns c =
    answered (λ v. v.items) c.counted_after.result _ _ c.counted_after.ensures
    (counted_is c.args.image.now _ c.deref.result.now c.in_ok-last.last refl (c.deref.ensures.value ∙ c.in_ok-all.ensures.records) c.in_ok-last.ensures.head)

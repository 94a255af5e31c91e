use Rattle.std.proofs.Common.{◌≡◌, IfOk, length, ap, ◌∙◌, subst}
use Rattle.pblk_model.specs.Records.{records}
use Rattle.pblk_meta.specs.Records.{start_numbers}
use Rattle.image_check.specs.Makes.{bearer_behind, leading}
use Rattle.image_check.proofs.DriveImage.{image}
use Rattle.image_check.proofs.MakeLemmas.{table_is}
use Rattle.image_check.proofs.maker.bearers_of.Goals as goal

pub returns : goal.returns
returns c =
    let rs = records (image c.args.drive.now) in
    let is = table_is (bearer_behind (start_numbers c.args.newest.now) rs) (length rs) c.in_ok-first.first.items c.in_ok-first.ensures in
    subst (λ xs. IfOk c.leading.result (λ v. v.items ≡ xs)) (ap leading (c.deref.ensures.value ∙ is)) c.leading.ensures

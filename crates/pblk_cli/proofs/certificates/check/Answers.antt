use Rattle.pblk_cli.proofs.CertificatesCome.{checked_comes, unread_both_come}
use Rattle.pblk_cli.proofs.certificates.check.Goals as goal

pub returns-in-Err-clause-comes : goal.returns-in-Err-clause-comes
returns-in-Err-clause-comes g c = unread_both_come c.args.image.now c.args.certificate.now _ _ c.in-Err.refusal c.in-Err.ensures.refused

pub returns-clause-comes : goal.returns-clause-comes
returns-clause-comes g c =
    checked_comes c.args.image.now c.args.certificate.now c.in-Ok.read.0.items c.deref.result.now _ _ c.in-Ok.ensures.image
    (rw c.deref.ensures.value c.in-Ok.ensures.script) c.checked.result c.checked.ensures.checked c.checked.ensures.refused

use Rattle.std.proofs.Common.{◌++◌, ap, ◌∙◌}
use Rattle.image_check.specs.Text.{text_of}
use Rattle.pblk_cli.proofs.certificates.certified.Goals as goal

pub returns-clause-made : goal.returns-clause-made
returns-clause-made c = record {
  is = record {
    certificate = c.in_ok-certificate.certificate;
    right = c.in_ok-certificate.ensures.right;
    order = c.in_ok-certificate.ensures.order;
    spelled = c.in_ok-write.ensures ∙ ap (λ front. front ++ text_of c.in_ok-certificate.certificate) c.new-bytes.ensures.items;
  };
  first = c.in_ok-certificate.ensures.first;
}

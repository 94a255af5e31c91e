use Rattle.pblk_model.specs.Image.{blank}
use Rattle.pblk_laws.proofs.BlankImages.{blank_start, no_records, no_head, no_end}
use Rattle.pblk_laws.proofs.blank.blank_has_no_record.Goals as goal

pub returns : goal.returns
returns c = record {
  starts = blank_start;
  records = λ s accepted. no_records (blank s) (λ line. blank_start s line accepted);
  head = λ s accepted. no_head (blank s) (λ line. blank_start s line accepted);
  end = λ s accepted. no_end (blank s) (λ line. blank_start s line accepted);
}

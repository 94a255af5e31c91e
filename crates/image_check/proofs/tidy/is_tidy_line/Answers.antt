use Rattle.image_check.proofs.Outcomes.{if_given}
use Rattle.image_check.proofs.tidy.is_tidy_line.Goals as goal

pub returns : goal.returns
returns c = if_given c.is_sealed.result c.is_sealed.ensures (λ b h. (λ e. (c.is_whole.ensures.0 c.if-not-is_whole.false, h.0 e), λ tidy. h.1 tidy.1))

use Rattle.image_check.proofs.Spelling.{one_are}
use Rattle.image_check.proofs.number.one_in.Goals as goal

pub returns : goal.returns
returns c = one_are c.args.text.now c.number_of.result c.number_of.ensures

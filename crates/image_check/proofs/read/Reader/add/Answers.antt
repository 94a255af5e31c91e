use Rattle.std.proofs.Common.{◌++◌, ◌∷◌, [], Some, sym, subst}
use Rattle.image_check.specs.Text.{HasRead}
use Rattle.image_check.proofs.Reading.{read_more}
use Rattle.image_check.proofs.read.Reader.add.Goals as goal

pub returns : goal.returns
returns c = λ saids h. subst (λ x. HasRead x (Some c.args.said) (saids ++ c.args.said ∷ [])) (sym c.in_ok-add.ensures)
    (read_more c.args.self.now.certificate c.args.self.now.last saids h c.args.said c.requires.fits c.requires.follows)

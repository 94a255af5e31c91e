use Rattle.std.proofs.Common.{◌++◌, ◌∷◌, [], codes, ap}
use Rattle.pblk_model.specs.Text.{spaced, newline}
use Rattle.command_text.proofs.Saying.{said_as}
use Rattle.command_text.proofs.certificate.tell_certificate.Goals as goal

pub returns-clause-said : goal.returns-clause-said
returns-clause-said g c = said_as _ _ (g.O.Sink.view c.args.out.now) (g.O.Sink.view c.tell_number.new.out)
    (ap (λ n. codes "certificate Form" ++ spaced (n ∷ []) ++ newline) c.from.ensures) c.tell_number.ensures.said

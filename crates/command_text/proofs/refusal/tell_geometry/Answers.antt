use Rattle.std.proofs.Common.{◌++◌, ◌∷◌, [], codes, ap, sym, ◌∙◌}
use Rattle.pblk_model.specs.Text.{spaced, newline}
use Rattle.pblk_model.specs.CommandText.{geometry_reason}
use Rattle.command_text.proofs.Saying.{said_as}
use Rattle.command_text.proofs.refusal.tell_geometry.Goals as goal

pub returns-in-Length-clause-said : goal.returns-in-Length-clause-said
returns-in-Length-clause-said g c = said_as _ _ (g.O.Sink.view c.args.out.now) (g.O.Sink.view c.tell.new.out)
    (ap (λ e. codes "image Geometry " ++ geometry_reason e ++ newline) (sym c.in-Length.is)) c.tell.ensures.said

pub returns-in-Field-clause-said : goal.returns-in-Field-clause-said
returns-in-Field-clause-said g c = said_as _ _ (g.O.Sink.view c.args.out.now) (g.O.Sink.view c.tell_number.new.out)
    (ap (λ n. codes "image Geometry Field" ++ spaced (n ∷ []) ++ newline) c.from.ensures
    ∙ ap (λ e. codes "image Geometry " ++ geometry_reason e ++ newline) (sym c.in-Field.is)) c.tell_number.ensures.said

pub returns-in-Profile-clause-said : goal.returns-in-Profile-clause-said
returns-in-Profile-clause-said g c = said_as _ _ (g.O.Sink.view c.args.out.now) (g.O.Sink.view c.tell_number-in-Profile.new.out)
    (ap (λ n. codes "image Geometry Profile" ++ spaced (n ∷ []) ++ newline) c.from-in-Profile.ensures
    ∙ ap (λ e. codes "image Geometry " ++ geometry_reason e ++ newline) (sym c.in-Profile.is)) c.tell_number-in-Profile.ensures.said

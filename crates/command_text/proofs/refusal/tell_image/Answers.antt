use Rattle.std.proofs.Common.{◌++◌, ◌∷◌, [], codes, ap, sym, ◌∙◌}
use Rattle.pblk_model.specs.Text.{spaced, newline}
use Rattle.pblk_model.specs.CommandText.{image_line}
use Rattle.command_text.proofs.Saying.{said_as}
use Rattle.command_text.proofs.refusal.tell_image.Goals as goal

pub returns-in-Magic-clause-said : goal.returns-in-Magic-clause-said
returns-in-Magic-clause-said g c = said_as _ _ (g.O.Sink.view c.args.out.now) (g.O.Sink.view c.tell.new.out)
    (ap (image_line) (sym c.in-Magic.is)) c.tell.ensures.said

pub returns-in-Version-clause-said : goal.returns-in-Version-clause-said
returns-in-Version-clause-said g c = said_as _ _ (g.O.Sink.view c.args.out.now) (g.O.Sink.view c.tell-in-Version.new.out)
    (ap (image_line) (sym c.in-Version.is)) c.tell-in-Version.ensures.said

pub returns-in-Geometry-clause-said : goal.returns-in-Geometry-clause-said
returns-in-Geometry-clause-said g c = said_as _ _ (g.O.Sink.view c.args.out.now) (g.O.Sink.view c.tell_geometry.new.out)
    (ap (image_line) (sym c.in-Geometry.is)) c.tell_geometry.ensures.said

pub returns-in-Short-clause-said : goal.returns-in-Short-clause-said
returns-in-Short-clause-said g c = said_as _ _ (g.O.Sink.view c.args.out.now) (g.O.Sink.view c.tell_number.new.out)
    (ap (image_line) (sym c.in-Short.is)) c.tell_number.ensures.said

pub returns-in-Long-clause-said : goal.returns-in-Long-clause-said
returns-in-Long-clause-said g c = said_as _ _ (g.O.Sink.view c.args.out.now) (g.O.Sink.view c.tell-in-Long.new.out)
    (ap (image_line) (sym c.in-Long.is)) c.tell-in-Long.ensures.said

pub returns-in-Chunk-clause-said : goal.returns-in-Chunk-clause-said
returns-in-Chunk-clause-said g c = said_as _ _ (g.O.Sink.view c.args.out.now) (g.O.Sink.view c.tell_numbers.new.out)
    (ap (image_line) (sym c.in-Chunk.is)) c.tell_numbers.ensures.said

pub returns-in-Settings-clause-said : goal.returns-in-Settings-clause-said
returns-in-Settings-clause-said g c = said_as _ _ (g.O.Sink.view c.args.out.now) (g.O.Sink.view c.tell_number-in-Settings.new.out)
    (ap (λ n. codes "image Settings" ++ spaced (n ∷ []) ++ newline) c.from.ensures
    ∙ ap (image_line) (sym c.in-Settings.is)) c.tell_number-in-Settings.ensures.said

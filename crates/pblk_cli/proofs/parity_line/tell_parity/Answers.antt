use Rattle.std.proofs.Common.{◌++◌, ◌∷◌, [], codes, ap, sym, ◌∙◌}
use Rattle.pblk_model.specs.Text.{spaced, newline}
use Rattle.command_text.proofs.Saying.{said_as}
use Rattle.pblk_cli.specs.Parities.{parity_line}
use Rattle.pblk_cli.proofs.parity_line.tell_parity.Goals as goal

pub returns-in-Magic-clause-said : goal.returns-in-Magic-clause-said
returns-in-Magic-clause-said g c =
    said_as _ _ (g.O.Sink.view c.args.out.now) (g.O.Sink.view c.tell.new.out) (ap parity_line (sym c.in-Magic.is)) c.tell.ensures.said

pub returns-in-Version-clause-said : goal.returns-in-Version-clause-said
returns-in-Version-clause-said g c =
    said_as _ _ (g.O.Sink.view c.args.out.now) (g.O.Sink.view c.tell-in-Version.new.out) (ap parity_line (sym c.in-Version.is)) c.tell-in-Version.ensures.said

pub returns-in-Numbers-clause-said : goal.returns-in-Numbers-clause-said
returns-in-Numbers-clause-said g c =
    said_as _ _ (g.O.Sink.view c.args.out.now) (g.O.Sink.view c.tell-in-Numbers.new.out) (ap parity_line (sym c.in-Numbers.is)) c.tell-in-Numbers.ensures.said

pub returns-in-Short-clause-said : goal.returns-in-Short-clause-said
returns-in-Short-clause-said g c =
    said_as _ _ (g.O.Sink.view c.args.out.now) (g.O.Sink.view c.tell_number.new.out) (ap parity_line (sym c.in-Short.is)) c.tell_number.ensures.said

pub returns-in-Long-clause-said : goal.returns-in-Long-clause-said
returns-in-Long-clause-said g c =
    said_as _ _ (g.O.Sink.view c.args.out.now) (g.O.Sink.view c.tell-in-Long.new.out) (ap parity_line (sym c.in-Long.is)) c.tell-in-Long.ensures.said

pub returns-in-State-clause-said : goal.returns-in-State-clause-said
returns-in-State-clause-said g c = said_as _ _ (g.O.Sink.view c.args.out.now) (g.O.Sink.view c.tell_numbers.new.out)
    (ap (λ n. codes "parity State" ++ spaced (c.in-State.unit ∷ n ∷ []) ++ newline) c.from.ensures ∙ ap parity_line (sym c.in-State.is))
    c.tell_numbers.ensures.said

pub returns-in-Differs-clause-said : goal.returns-in-Differs-clause-said
returns-in-Differs-clause-said g c = said_as _ _ (g.O.Sink.view c.args.out.now) (g.O.Sink.view c.tell_numbers-in-Differs.new.out)
    (ap (λ n. codes "parity Differs" ++ spaced (c.in-Differs.unit ∷ n ∷ []) ++ newline) c.from-in-Differs.ensures ∙ ap parity_line (sym c.in-Differs.is))
    c.tell_numbers-in-Differs.ensures.said

pub returns-in-Drive-clause-said : goal.returns-in-Drive-clause-said
returns-in-Drive-clause-said g c =
    said_as _ _ (g.O.Sink.view c.args.out.now) (g.O.Sink.view c.tell_numbers-in-Drive.new.out)
    (ap parity_line (sym c.in-Drive.is)) c.tell_numbers-in-Drive.ensures.said

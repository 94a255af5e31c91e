use Rattle.std.proofs.Common.{◌++◌, ◌∷◌, [], codes, ap, sym, ◌∙◌}
use Rattle.pblk_model.specs.Text.{spaced, newline}
use Rattle.command_text.specs.Certificates.{check_line}
use Rattle.command_text.proofs.Saying.{said_as}
use Rattle.command_text.proofs.certificate.tell_check.Goals as goal

pub returns-in-Line-clause-said : goal.returns-in-Line-clause-said
returns-in-Line-clause-said g c = said_as _ _ (g.O.Sink.view c.args.out.now) (g.O.Sink.view c.tell_number.new.out)
    (ap (λ n. codes "check Line" ++ spaced (n ∷ []) ++ newline) c.from.ensures ∙ ap check_line (sym c.in-Line.is)) c.tell_number.ensures.said

pub returns-in-Head-clause-said : goal.returns-in-Head-clause-said
returns-in-Head-clause-said g c = said_as _ _ (g.O.Sink.view c.args.out.now) (g.O.Sink.view c.tell.new.out)
    (ap check_line (sym c.in-Head.is)) c.tell.ensures.said

pub returns-in-Bearer-clause-said : goal.returns-in-Bearer-clause-said
returns-in-Bearer-clause-said g c = said_as _ _ (g.O.Sink.view c.args.out.now) (g.O.Sink.view c.tell_number-in-Bearer.new.out)
    (ap check_line (sym c.in-Bearer.is)) c.tell_number-in-Bearer.ensures.said

pub returns-in-End-clause-said : goal.returns-in-End-clause-said
returns-in-End-clause-said g c = said_as _ _ (g.O.Sink.view c.args.out.now) (g.O.Sink.view c.tell-in-End.new.out)
    (ap check_line (sym c.in-End.is)) c.tell-in-End.ensures.said

pub returns-in-Winner-clause-said : goal.returns-in-Winner-clause-said
returns-in-Winner-clause-said g c = said_as _ _ (g.O.Sink.view c.args.out.now) (g.O.Sink.view c.tell_number-in-Winner.new.out)
    (ap check_line (sym c.in-Winner.is)) c.tell_number-in-Winner.ensures.said

pub returns-in-Live-clause-said : goal.returns-in-Live-clause-said
returns-in-Live-clause-said g c = said_as _ _ (g.O.Sink.view c.args.out.now) (g.O.Sink.view c.tell_number-in-Live.new.out)
    (ap (λ n. codes "check Live" ++ spaced (n ∷ []) ++ newline) c.from-in-Live.ensures ∙ ap check_line (sym c.in-Live.is)) c.tell_number-in-Live.ensures.said

pub returns-in-Memory-clause-said : goal.returns-in-Memory-clause-said
returns-in-Memory-clause-said g c = said_as _ _ (g.O.Sink.view c.args.out.now) (g.O.Sink.view c.tell_memory.new.out)
    (ap check_line (sym c.in-Memory.is)) c.tell_memory.ensures.said

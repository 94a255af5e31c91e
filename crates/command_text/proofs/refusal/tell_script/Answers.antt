use Rattle.std.proofs.Common.{◌++◌, ◌∷◌, [], codes, ap, sym, ◌∙◌}
use Rattle.pblk_model.specs.Text.{spaced, newline}
use Rattle.pblk_model.specs.CommandText.{script_line}
use Rattle.command_text.proofs.Saying.{said_as}
use Rattle.command_text.proofs.refusal.tell_script.Goals as goal

pub returns-in-Form-clause-said : goal.returns-in-Form-clause-said
returns-in-Form-clause-said g c = said_as _ _ (g.O.Sink.view c.args.out.now) (g.O.Sink.view c.tell_number.new.out)
    (ap (λ n. codes "script Form" ++ spaced (n ∷ []) ++ newline) c.from.ensures ∙ ap (script_line) (sym c.in-Form.is)) c.tell_number.ensures.said

pub returns-in-Limit-clause-said : goal.returns-in-Limit-clause-said
returns-in-Limit-clause-said g c = said_as _ _ (g.O.Sink.view c.args.out.now) (g.O.Sink.view c.tell_number-in-Limit.new.out)
    (ap (λ n. codes "script Limit" ++ spaced (n ∷ []) ++ newline) c.from-in-Limit.ensures
    ∙ ap (script_line) (sym c.in-Limit.is)) c.tell_number-in-Limit.ensures.said

pub returns-in-Range-clause-said : goal.returns-in-Range-clause-said
returns-in-Range-clause-said g c = said_as _ _ (g.O.Sink.view c.args.out.now) (g.O.Sink.view c.tell_number-in-Range.new.out)
    (ap (λ n. codes "script Range" ++ spaced (n ∷ []) ++ newline) c.from-in-Range.ensures
    ∙ ap (script_line) (sym c.in-Range.is)) c.tell_number-in-Range.ensures.said

pub returns-in-NeverPosted-clause-said : goal.returns-in-NeverPosted-clause-said
returns-in-NeverPosted-clause-said g c = said_as _ _ (g.O.Sink.view c.args.out.now) (g.O.Sink.view c.tell_number-in-NeverPosted.new.out)
    (ap (λ n. codes "script NeverPosted" ++ spaced (n ∷ []) ++ newline) c.from-in-NeverPosted.ensures
    ∙ ap (script_line) (sym c.in-NeverPosted.is)) c.tell_number-in-NeverPosted.ensures.said

pub returns-in-Stuck-clause-said : goal.returns-in-Stuck-clause-said
returns-in-Stuck-clause-said g c = said_as _ _ (g.O.Sink.view c.args.out.now) (g.O.Sink.view c.tell_number-in-Stuck.new.out)
    (ap (λ n. codes "script Stuck" ++ spaced (n ∷ []) ++ newline) c.from-in-Stuck.ensures
    ∙ ap (script_line) (sym c.in-Stuck.is)) c.tell_number-in-Stuck.ensures.said

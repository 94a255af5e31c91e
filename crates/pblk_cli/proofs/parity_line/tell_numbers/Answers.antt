use Rattle.std.proofs.Common.{◌∙◌}
use Rattle.command_text.proofs.Saying.{pair_line_text, said_as}
use Rattle.pblk_cli.proofs.parity_line.tell_numbers.Goals as goal

pub returns-clause-said : goal.returns-clause-said
returns-clause-said g c = said_as _ _ (g.O.Sink.view c.args.out.now) (g.O.Sink.view c.tell.new.out)
    (pair_line_text c.args.word.now c.as_bytes.result.now c.as_bytes-2.result.now c.args.first c.args.second
    (c.as_bytes.ensures.value ∙ c.format.ensures.text) (c.as_bytes-2.ensures.value ∙ c.format-2.ensures.text)) c.tell.ensures.said

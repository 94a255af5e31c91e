use Rattle.std.proofs.Common.{Some, sym, ap, ◌∙◌}
use Rattle.run_script.proofs.NameSpelling.{name_utf8, name_some}
use Rattle.run_script.proofs.said.name_of.Goals as goal

pub returns-in_default : goal.returns-in_default
returns-in_default c = let fault = c.in_default.ensures.cases in absurd (fault.0 (name_utf8 c.args.word.now (sym c.is_name.ensures ∙ c.if-not-is_name.false)))

pub returns : goal.returns
returns c = ap Some c.in-Ok.ensures.cases.0 ∙ sym (name_some c.args.word.now (sym c.is_name.ensures ∙ c.if-not-is_name.false))

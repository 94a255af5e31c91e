use Rattle.std.proofs.Common.{◌∙◌, Some, length, sym, ap}
use Rattle.pblk_model.specs.CommandText.{created_text}
use Rattle.pblk_cli.proofs.create.create.Goals as goal

pub returns-in-Ok-write-clause-comes : goal.returns-in-Ok-write-clause-comes
returns-in-Ok-write-clause-comes g c = (
  c.done.ensures.status,
  c.in-Ok.ensures.accepted,
  (
    λ tells. c.in-Ok-write.ensures.stored (sym c.write.ensures.same_told ∙ tells) ∙ ap Some (c.deref.ensures.value ∙ c.in-Ok.ensures.made),
    c.write.ensures.same_others,
    c.in-Ok-write.ensures.calm,
  ),
  c.done.ensures.text ∙ c.in-Ok-created_text.ensures ∙ ap created_text (c.len.ensures ∙ c.in-Ok.made.ok.0 ∙ ap length c.in-Ok.ensures.made),
  c.in-Ok.ensures.tidy,
  c.in-Ok.ensures.spelled,
)

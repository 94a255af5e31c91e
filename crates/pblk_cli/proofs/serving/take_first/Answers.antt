use Rattle.std.proofs.Common.{◌∷◌, ap, sym, ◌∙◌}
use Rattle.pblk_model.proofs.Parts.{next_item}
use Rattle.pblk_cli.proofs.serving.take_first.Goals as goal

pub returns-clause-items : goal.returns-clause-items
returns-clause-items g c =
    next_item c.args.values.now.items 0 c.remove.result c.requires.some c.remove.ensures.value
    ∙ ap (λ xs. c.remove.result ∷ xs) (sym c.remove.ensures.by_index.2)

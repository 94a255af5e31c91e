use Rattle.std.proofs.Common.{◌<◌, sym, ◌∙◌, subst}
use Rattle.chronicle.proofs.Moves.{looks}
use Rattle.chronicle.proofs.table.Chronicle.look.Goals as goal

pub load-requires : goal.load-requires
load-requires c = (
  c.requires.of ∙ sym c.self.view_is,
  subst (λ t. 0 < t.words) (sym c.self.view_is) c.requires.words,
  looks _ _ _ _ _ c.requires.begun c.requires.known,
)

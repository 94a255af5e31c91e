use Rattle.std.proofs.Common.{◌<◌, sym, ◌∙◌, subst}
use Rattle.chronicle.proofs.Moves.{parts}
use Rattle.chronicle.proofs.table.Chronicle.part.Goals as goal

pub split_seat-requires : goal.split_seat-requires
split_seat-requires c = (
  c.requires.of ∙ sym c.self.view_is,
  subst (λ t. 0 < t.words) (sym c.self.view_is) c.requires.words,
  parts _ _ c.requires.owned.0 c.requires.owned.1 c.requires.owned.2,
)

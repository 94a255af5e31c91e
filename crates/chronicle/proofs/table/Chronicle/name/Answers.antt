use Rattle.std.proofs.Common.{◌<◌, sym, ◌∙◌, subst}
use Rattle.chronicle.proofs.Moves.{names}
use Rattle.chronicle.proofs.table.Chronicle.name.Goals as goal

pub split_seat-requires : goal.split_seat-requires
split_seat-requires c = (
  c.requires.of ∙ sym c.self.view_is,
  subst (λ t. 0 < t.words) (sym c.self.view_is) c.requires.words,
  names _ _ c.requires.spare.0 c.requires.spare.1 c.requires.spare.2,
)

use Rattle.std.proofs.Common.{ℕ, ◌≤◌, sym, subst}
use Rattle.std.specs.List.{Contains}
use Rattle.pblk_model.specs.Shape.{units}
use Rattle.chronicle.specs.Handles.{AuthorView}
use Rattle.chronicle.specs.Prefixes.{AreWholeLogs}
use Rattle.chronicle.proofs.table.Chronicle.close.Goals as goal

pub returns-clause-whole : goal.returns-clause-whole
returns-clause-whole c =
    let all = subst (λ (a : AuthorView). (author : ℕ) → author ≤ units a.past.image.shape → Contains a.owned author) (sym c.author.view_is)
    c.requires.all in
    subst (λ (a : AuthorView). AreWholeLogs a.past a.known a.makers a.spare) c.author.view_is (c.look.ensures.whole all)

use Rattle.std.proofs.Common.{ℕ, subst}
use Rattle.std.specs.List.{Contains}
use mathlib.Core.List.{IsPrefix}
use Rattle.chronicle.specs.Handles.{AuthorView}
use Rattle.chronicle.specs.Prefixes.{logs_of}
use Rattle.pblk_engine.proofs.engine_author.EngineAuthor.meet.Goals as goal

pub returns-clause-own_noted : goal.returns-clause-own_noted
returns-clause-own_noted c =
    subst (λ (a : AuthorView). (author : ℕ) → Contains a.owned author → IsPrefix (logs_of c.args.note.known author) (logs_of a.known author))
    c.self.view_is c.meet.ensures.own_noted

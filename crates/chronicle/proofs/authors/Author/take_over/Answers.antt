use Rattle.std.proofs.Common.{◌≡◌, ℕ, ◌∙◌, ap, subst}
use Rattle.std.specs.List.{Contains}
use mathlib.Core.List.{IsPrefix}
use Rattle.chronicle.specs.Handles.{AuthorView, TokenView}
use Rattle.chronicle.specs.Prefixes.{logs_of}
use Rattle.chronicle.proofs.Rests.{left_stays, joined_writer}
use Rattle.chronicle.proofs.authors.Author.take_over.Goals as goal

pub invariant_of-self : goal.invariant_of-self
invariant_of-self c =
    let heard = c.hear.ensures in
    let writer = c.self.invariant.writer in
    record {
      empty = ap (λ m. m.1) heard.heard ∙ c.self.invariant.empty;
      writer = joined_writer _ _ c.self.inside.seat.me.0 _ c.lent.inside.seat.me.0.mine c.self.inside.number c.self.inside.appended
          heard.of (ap (λ m. m.0) heard.heard) heard.legal heard.keeps (heard.own c.self.inside.number writer.owns) writer;
    }

pub returns-clause-own : goal.returns-clause-own
returns-clause-own c =
    let own : (author : ℕ) → Contains c.self.inside.seat.me.0.mine.owned author
    → logs_of c.hear.new.seat.me.0.mine.known author ≡ logs_of c.self.inside.seat.me.0.mine.known author =
    λ author has. ap (λ m. logs_of m.0.mine.known author) c.hear.ensures.heard ∙ left_stays _ _ author (c.hear.ensures.own author has) in
    subst (λ (a : AuthorView). (author : ℕ) → Contains a.owned author → logs_of c.hear.new.seat.me.0.mine.known author ≡ logs_of a.known author) c.self.view_is
    own

pub returns-clause-own_noted : goal.returns-clause-own_noted
returns-clause-own_noted c =
    subst (λ (p : AuthorView × TokenView). (author : ℕ) → Contains p.0.owned author → IsPrefix (logs_of p.1.known author) (logs_of p.0.known author))
    (λ i. (c.self.view_is i, c.lent.view_is i)) c.hear.ensures.own

pub returns-clause-begun : goal.returns-clause-begun
returns-clause-begun c = (invariant_of-self c).writer.rests.known.begun

use Rattle.std.proofs.Common.{◌<◌, ap, sym, ◌∙◌, subst, arith}
use Rattle.pblk_world.specs.Legal.{IsAllowed}
use Rattle.chronicle.specs.Handles.{AuthorView}
use Rattle.chronicle.specs.Prefixes.{IsNext, logs_of}
use Rattle.chronicle.proofs.Moves.{appends}
use Rattle.chronicle.proofs.PrefixLemmas.{begins_length}
use Rattle.chronicle.proofs.Rests.{appended_writer, next_count}
use Rattle.chronicle.proofs.authors.Author.add.Goals as goal

pub store-requires : goal.store-requires
store-requires g c =
    let writer = c.self.invariant.writer in
    let number = c.self.inside.number in
    let of = ap (λ a. a.chronicle) c.self.view_is ∙ c.requires.of ∙ sym c.chronicle.view_is in
    let allowed = subst (λ (a : AuthorView). IsAllowed a.past.image a.number g.R.Row.event (logs_of a.known)) (sym c.self.view_is) c.requires.allowed in
    let next = subst (λ (a : AuthorView). IsNext g.R.Row.event a.makers) (sym c.self.view_is) c.requires.next in
    let begun = begins_length _ _ (writer.rests.known.begun.each number) in
    let authors = writer.rests.known.legal.authors in
    let within = writer.within in
    let words = writer.rests.words in (
      of,
      subst (λ t. number < t.words) of (omega arith),
      appends _ _ _ _ _ _ _ writer.owns (omega arith) allowed next (next_count c.self.inside.appended _ _ begun writer.counted),
    )

pub invariant_of-self : goal.invariant_of-self
invariant_of-self g c =
    let allowed = subst (λ (a : AuthorView). IsAllowed a.past.image a.number g.R.Row.event (logs_of a.known)) (sym c.self.view_is) c.requires.allowed in
    let stored = c.store.ensures in
    record {
      empty = ap (λ m. m.1) stored.2 ∙ c.self.invariant.empty;
      writer = appended_writer _ _ c.self.inside.seat.me.0 _ c.self.inside.number c.self.inside.appended g.R.Row.event stored.0
          (ap (λ m. m.0) stored.2) allowed c.self.invariant.writer;
    }

pub returns-clause-legal : goal.returns-clause-legal
returns-clause-legal g c = (invariant_of-self g c).writer.rests.known.legal

pub returns-clause-begun : goal.returns-clause-begun
returns-clause-begun g c = (invariant_of-self g c).writer.rests.known.begun

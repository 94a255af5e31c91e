use Rattle.std.proofs.Common.{◌≡◌, List, sym, subst, ap, ◌∙◌}
use Rattle.pblk_world.specs.Events.{Maker}
use Rattle.pblk_world.specs.Legal.{IsAllowed}
use Rattle.chronicle.specs.Handles.{AuthorView}
use Rattle.chronicle.specs.Prefixes.{IsNext, logs_of, next_after, with_event}
use Rattle.pblk_engine.proofs.Stops.{counting_quiet, decision_next}
use Rattle.pblk_engine.proofs.engine_author.EngineAuthor.append.Given.{Over}
use Rattle.pblk_engine.proofs.engine_author.EngineAuthor.append.Goals.{After-append, After-self}
use Rattle.pblk_engine.proofs.engine_author.EngineAuthor.append.Goals as goal

-- it is a decision
decides : (g : Over) (c : After-self g) → IsNext (g.S.Shows.shown c.args.shown.now) c.self.inside.author.makers
    × (next_after (g.S.Shows.shown c.args.shown.now) c.self.inside.author.makers ≡ c.self.inside.author.makers)
decides g c =
    let a = c.self.inside.author in
    let e = g.S.Shows.shown c.args.shown.now in
    decision_next a.past.image (logs_of a.known) a.number e a.makers c.self.invariant.engine.number
    (subst (λ (x : AuthorView). IsAllowed x.past.image x.number e (logs_of x.known)) (sym c.self.view_is) c.requires.allowed)

pub append-requires-clause-next : goal.append-requires-clause-next
append-requires-clause-next g c = (decides g (goal.at.append-requires-clause-next g c).After-self).0

-- so only what is known changes
module _ (g : Over) (c : After-append g) where
  same_makers : next_after (g.S.Shows.shown c.args.shown.now) c.self.inside.author.makers ≡ c.self.inside.author.makers
      → c.append.new.self ≡ record c.self.inside.author {
        known = with_event c.self.inside.author.known c.self.inside.author.number (g.S.Shows.shown c.args.shown.now);
      }
  same_makers same =
      let a = c.self.inside.author in
      let e = g.S.Shows.shown c.args.shown.now in
      c.append.ensures.appended ∙ ap (λ (makers : List Maker). record a { known = with_event a.known a.number e; makers = makers }) same

pub invariant_of-self : goal.invariant_of-self
invariant_of-self g c =
    counting_quiet c.self.inside.author c.append.new.self c.self.inside.stops.items _ c.self.invariant
    (same_makers g c (decides g (goal.at.invariant_of-self g c).After-self).1) c.append.ensures.own c.requires.quiet

pub returns-clause-appended : goal.returns-clause-appended
returns-clause-appended g c =
    let e = g.S.Shows.shown c.args.shown.now in
    subst (λ (a : AuthorView). c.append.new.self ≡ record a { known = with_event a.known a.number e }) c.self.view_is
    (same_makers g c (decides g (goal.at.returns-clause-appended g c).After-self).1)

use Rattle.std.specs.Prelude.{slice_get}
use Rattle.std.proofs.Common.{◌≡◌, suc, ◌-◌, List, length, sym, subst, ap, ◌∙◌}
use Rattle.pblk_world.specs.AtRest.{AreResetsNoted}
use Rattle.pblk_world.specs.Events.{Logged}
use Rattle.chronicle.specs.Handles.{AuthorView}
use Rattle.chronicle.specs.Prefixes.{logs_of, ArePrefixes}
use Rattle.pblk_engine.specs.Arms.{ArmView}
use Rattle.pblk_engine.specs.Workers.{last_made}
use Rattle.pblk_engine.proofs.Resets.{ends_arm, ends_noted, made_stays, own_stays}
use Rattle.pblk_engine.proofs.resetting.Resetting.end.Given.{Over}
use Rattle.pblk_engine.proofs.resetting.Resetting.end.Goals.{After-meet}
use Rattle.pblk_engine.proofs.resetting.Resetting.end.Goals as goal

module _ (g : Over) (c : After-meet g) where
  less : ArePrefixes c.self.inside.author.known c.args.note.known
  less = subst (λ (x : ArmView). ArePrefixes x.known c.args.note.known) (sym c.self.view_is) c.requires.told

  noted : AreResetsNoted (logs_of c.meet.new.self.known)
  noted =
      let s = c.self.inside in
      ends_noted g.M.Mount.chronicle g.M.Mount.past g.M.Mount.handed g.M.Mount.wear s.number (g.U.Unit.model s.unit) (g.U.Unit.wear s.unit) s.ended s.author
      c.meet.new.self c.args.note.known c.self.invariant.1 c.meet.ensures.met c.meet.ensures.own c.requires.note.noted less

  -- the row is the one that it was before the note
  same_made : last_made c.self.inside.number c.meet.new.self.known (g.U.Unit.model c.self.inside.unit)
      ≡ last_made c.args.self.number c.args.self.known c.args.self.unit
  same_made =
      let s = c.self.inside in
      made_stays g.M.Mount.chronicle g.M.Mount.past g.M.Mount.handed g.M.Mount.wear s.number (g.U.Unit.model s.unit) (g.U.Unit.wear s.unit) s.ended s.author
      c.meet.new.self c.args.note.known c.self.invariant.1 c.meet.ensures.met c.meet.ensures.own
      ∙ ap (λ (x : ArmView). last_made x.number x.known x.unit) c.self.view_is

pub invariant_of-result : goal.invariant_of-result
invariant_of-result g c =
    let d = (goal.at.invariant_of-result g c).After-meet in
    let s = c.self.inside in
    let e = c.meet.ensures in (
      c.self.invariant.0,
      ends_arm g.M.Mount.chronicle g.M.Mount.past g.M.Mount.handed g.M.Mount.wear s.number (g.U.Unit.model s.unit) (g.U.Unit.wear s.unit) s.ended s.author
          c.meet.new.self c.args.note.known c.self.invariant.1 e.met e.own c.give_back-lent.new.self c.give_back-lent.ensures.kept c.requires.note.noted
          (less g d) e.legal e.begun,
    )

pub returns-clause-noted : goal.returns-clause-noted
returns-clause-noted g c =
    subst (λ (x : AuthorView). AreResetsNoted (logs_of x.known)) (sym c.give_back-lent.ensures.kept) (noted g (goal.at.returns-clause-noted g c).After-meet)

pub returns-clause-was_made : goal.returns-clause-was_made
returns-clause-was_made g c = λ worker last.
    let s = c.self.inside in
    let own : logs_of c.meet.new.self.known (suc s.number) ≡ logs_of s.author.known (suc s.number) =
    own_stays g.M.Mount.chronicle g.M.Mount.past g.M.Mount.handed g.M.Mount.wear s.number (g.U.Unit.model s.unit) (g.U.Unit.wear s.unit) s.ended s.author
    c.meet.new.self c.args.note.known c.self.invariant.1 c.meet.ensures.met c.meet.ensures.own in
    let its : logs_of c.meet.new.self.known (suc c.args.self.number) ≡ logs_of c.args.self.known (suc c.args.self.number) =
    subst (λ (x : ArmView). logs_of c.meet.new.self.known (suc x.number) ≡ logs_of x.known (suc x.number)) c.self.view_is own in
    record {
      logged = last.logged;
      there = ap (λ (xs : List Logged). slice_get xs (length (logs_of c.args.self.known (suc c.args.self.number)) - 1))
          (ap (λ (x : AuthorView). logs_of x.known (suc c.args.self.number)) c.give_back-lent.ensures.kept ∙ its) ∙ last.there;
      event = last.event;
    }

use Rattle.std.proofs.Common.{◌≡◌, ◌≢◌, ℕ, suc, ◌+◌, ◌++◌, ◌∷◌, [], None, length, sym, subst, ap, ap₂, ◌∙◌}
use Rattle.pblk_model.specs.UnitLog.{UnitEvent}
use Rattle.pblk_world.specs.AtRest.{AreResetsNoted}
use Rattle.pblk_world.specs.Events.{Does}
use Rattle.pblk_world.specs.Legal.{IsAllowed}
use Rattle.chronicle.specs.Handles.{AuthorView, TokenView}
use Rattle.chronicle.specs.Prefixes.{Prefixes, logs_of, naming, with_event, ArePrefixes}
use Rattle.chronicle.specs.Views.{Past}
use Rattle.pblk_engine.specs.Arms.{last_done, last_event}
use Rattle.pblk_engine.specs.Workers.{WorkerView, last_made}
use Rattle.pblk_engine.proofs.Lent as lent
use Rattle.pblk_engine.proofs.Lent.{maker_of}
use Rattle.pblk_engine.proofs.Meetings.{worker_done}
use Rattle.pblk_engine.proofs.NotedCommands.{made_now, noted_next}
use Rattle.pblk_engine.proofs.arm.note_command.Given.{Over}
use Rattle.pblk_engine.proofs.arm.note_command.Goals.{After-take_over, After-append}
use Rattle.pblk_engine.proofs.arm.note_command.Goals as goal

-- ---- as it takes over

module _ (g : Over) (c : After-take_over g) where
  less : ArePrefixes c.worker.inside.token.known c.args.author.now.known
  less = subst (λ (x : WorkerView). ArePrefixes x.known c.args.author.now.known) (sym c.worker.view_is) c.requires.told

  over_is : c.take_over.new.self
      ≡ record c.args.author.now { makers = maker_of c.worker.inside.number (length c.worker.inside.made) ∷ []; spare = None }
  over_is =
      let w = c.worker.inside in
      let is = c.worker.invariant.1 in
      lent.over_is g.M.Mount.past.image c.args.author.now c.take_over.new.self w.token c.lend-lent.result w.number
      (length w.made) c.requires.legal is.legal less
      c.requires.numbers_none c.requires.names_none is.makers is.spare c.lend-lent.ensures.lent c.take_over.ensures.met

pub append-requires-clause-allowed : goal.append-requires-clause-allowed
append-requires-clause-allowed g c =
    let d = (goal.at.append-requires-clause-allowed g c).After-take_over in
    let old = c.args.author.now in
    let w = c.worker.inside in
    let event = last_done (g.U.Unit.model c.args.unit.now) w.number (length w.made) in
    subst (λ (x : AuthorView). IsAllowed x.past.image x.number event (logs_of x.known)) (sym (over_is g d))
    (subst (λ n. IsAllowed old.past.image n event (logs_of old.known)) (sym c.requires.author_is)
    (subst (λ (p : Past). IsAllowed p.image (suc c.args.number) event (logs_of old.known)) (sym c.requires.author_over)
    (subst (λ (x : WorkerView). IsAllowed g.M.Mount.past.image (suc c.args.number)
    (last_done (g.U.Unit.model c.args.unit.now) x.number (length x.made)) (logs_of old.known)) (sym c.worker.view_is) c.requires.allowed)))

pub append-requires-clause-next : goal.append-requires-clause-next
append-requires-clause-next g c =
    let d = (goal.at.append-requires-clause-next g c).After-take_over in
    let w = c.worker.inside in
    let is = c.worker.invariant.1 in
    lent.may_make g.M.Mount.past.image c.args.author.now c.take_over.new.self w.token c.lend-lent.result w.number (length w.made) c.requires.legal is.legal
    (less g d) c.requires.numbers_none c.requires.names_none is.makers is.spare c.lend-lent.ensures.lent c.take_over.ensures.met

-- ---- as it has noted the command

module _ (g : Over) (c : After-append g) where
  abbrev known : Prefixes
  known = c.args.author.now.known

  abbrev next : Prefixes
  next = c.append.new.self.known

  abbrev its_event : UnitEvent
  its_event = last_event (g.U.Unit.model c.args.unit.now)

  knows_less : ArePrefixes c.worker.inside.token.known known
  knows_less = subst (λ (x : WorkerView). ArePrefixes x.known known) (sym c.worker.view_is) c.requires.told

  took : c.take_over.new.self
      ≡ record c.args.author.now { makers = maker_of c.worker.inside.number (length c.worker.inside.made) ∷ []; spare = None }
  took =
      let w = c.worker.inside in
      let is = c.worker.invariant.1 in
      lent.over_is g.M.Mount.past.image c.args.author.now c.take_over.new.self w.token c.lend-lent.result w.number (length w.made) c.requires.legal is.legal
      knows_less c.requires.numbers_none c.requires.names_none is.makers is.spare c.lend-lent.ensures.lent c.take_over.ensures.met

  same_number : c.take_over.new.self.number ≡ suc c.args.number
  same_number = ap (λ (x : AuthorView). x.number) took ∙ c.requires.author_is

  same_known : c.take_over.new.self.known ≡ known
  same_known = ap (λ (x : AuthorView). x.known) took

  own : logs_of next (suc c.args.number)
      ≡ logs_of known (suc c.args.number) ++ naming known (Does its_event (maker_of c.worker.inside.number (length c.worker.inside.made))) ∷ []
  own =
      let event = Does its_event (maker_of c.worker.inside.number (length c.worker.inside.made)) in
      subst (λ (k : Prefixes). logs_of next (suc c.args.number) ≡ logs_of k (suc c.args.number) ++ naming k event ∷ []) same_known
      (subst (λ n. logs_of next n ≡ logs_of c.take_over.new.self.known n ++ naming c.take_over.new.self.known event ∷ []) same_number c.append.ensures.own)

  others : (other : ℕ) → other ≢ suc c.args.number → logs_of next other ≡ logs_of known other
  others other apart = c.append.ensures.others other (λ is. apart (is ∙ same_number)) ∙ ap (λ (k : Prefixes). logs_of k other) same_known

  noted : AreResetsNoted (logs_of next)
  noted = noted_next g.M.Mount.past.image known next (suc c.args.number) its_event (maker_of c.worker.inside.number (length c.worker.inside.made))
      c.requires.legal own others c.requires.no_reset c.requires.noted

  -- but for what it numbers it is as if it had noted the event alone
  appended : record c.append.new.self { makers = []; spare = None }
      ≡ record c.args.author.now {
        known = with_event known (suc c.args.number) (last_done (g.U.Unit.model c.args.unit.now) c.args.worker.now.number (length c.args.worker.now.made));
      }
  appended =
      let old = c.args.author.now in
      let w = c.worker.inside in
      let is = c.worker.invariant.1 in
      lent.noted_event g.M.Mount.past.image old c.take_over.new.self w.token c.lend-lent.result w.number (length w.made) c.requires.legal is.legal
      knows_less c.requires.numbers_none c.requires.names_none is.makers is.spare c.lend-lent.ensures.lent c.take_over.ensures.met c.append.new.self its_event
      c.append.ensures.appended
      ∙ ap₂ (λ n (x : WorkerView). record old { known = with_event known n (Does its_event (maker_of x.number (length x.made))) }) c.requires.author_is
      c.worker.view_is

  makers : c.append.new.self.makers ≡ maker_of c.worker.inside.number (length c.worker.inside.made + 1) ∷ []
  makers =
      let w = c.worker.inside in
      let is = c.worker.invariant.1 in
      lent.makes_next g.M.Mount.past.image c.args.author.now c.take_over.new.self w.token c.lend-lent.result w.number (length w.made) c.requires.legal is.legal
      knows_less c.requires.numbers_none c.requires.names_none is.makers is.spare c.lend-lent.ensures.lent c.take_over.ensures.met c.append.new.self its_event
      c.append.ensures.appended

  spare : c.append.new.self.spare ≡ None
  spare =
      let w = c.worker.inside in
      let is = c.worker.invariant.1 in
      lent.names_none_next g.M.Mount.past.image c.args.author.now c.take_over.new.self w.token c.lend-lent.result w.number
      (length w.made) c.requires.legal is.legal
      knows_less c.requires.numbers_none c.requires.names_none is.makers is.spare c.lend-lent.ensures.lent c.take_over.ensures.met c.append.new.self its_event
      c.append.ensures.appended

pub invariant_of-worker : goal.invariant_of-worker
invariant_of-worker g c =
    let d = (goal.at.invariant_of-worker g c).After-append in
    let w = c.worker.inside in
    let e = c.take_back.ensures in
    let b = c.give_back-lent.ensures in
    let m = last_made c.args.number c.append.new.self.known (g.U.Unit.model c.args.unit.now) in
    let met = lent.taken_back w.token c.lend-lent.new.self c.take_back.new.self c.give_back-lent.result c.append.new.self.known
    (maker_of w.number (length w.made + 1) ∷ []) c.lend-lent.ensures.kept e.met b.lent_known (b.makers ∙ makers g d) (b.spare ∙ spare g d) in (
      c.worker.invariant.0,
      worker_done g.M.Mount.chronicle g.M.Mount.past w.token c.take_back.new.self c.append.new.self.known w.number w.stripe w.made c.worker.invariant.1
          (noted g d) met
          (subst (λ (k : Prefixes). ArePrefixes k c.take_back.new.self.known) (ap (λ (x : TokenView). x.known) c.lend-lent.ensures.kept) e.keeps)
          (subst (λ (k : Prefixes). ArePrefixes k c.take_back.new.self.known) b.lent_known e.learns) e.legal e.begun m
          (made_now (known g d) (next g d) c.args.number w.number (length w.made) (its_event g d) (own g d))
          c.add.new.self c.add.ensures,
    )

pub returns-clause-appended : goal.returns-clause-appended
returns-clause-appended g c = c.give_back-lent.ensures.kept ∙ appended g (goal.at.returns-clause-appended g c).After-append

pub returns-clause-author_noted : goal.returns-clause-author_noted
returns-clause-author_noted g c =
    let d = (goal.at.returns-clause-author_noted g c).After-append in
    subst (λ (x : AuthorView). AreResetsNoted (logs_of x.known)) (sym c.give_back-lent.ensures.kept) (noted g d)

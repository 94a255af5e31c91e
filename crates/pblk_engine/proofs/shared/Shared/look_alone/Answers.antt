use Rattle.std.proofs.Common.{◌≡◌, ◌≤◌, Err, [], sym, subst, ap, ◌∙◌, le_trans}
use Rattle.std.specs.Prelude.{IsTrue}
use Rattle.write_ring.specs.declared.view.Part.{Part}
use Rattle.write_ring.specs.Handles.{AreAllClaims, pass_view}
use Rattle.chronicle.specs.Handles.{AuthorView}
use Rattle.chronicle.specs.Prefixes.{Prefixes, logs_of}
use Rattle.pblk_engine.specs.Alone.{CanBeDone}
use Rattle.pblk_engine.specs.Hearts.{HeartView}
use Rattle.pblk_engine.specs.Settlings.{HasWorked, IsWorkedOff, IsWornAt, TellsSettled}
use Rattle.pblk_engine.specs.declared.errors.SettleErr.TheVariants as errors
use Rattle.pblk_engine.proofs.LoneTakes.{claims_same}
use Rattle.pblk_engine.proofs.Settlings.{look_knows, look_worked, looked_settled, looked_worn}
use Rattle.pblk_engine.proofs.shared.Shared.look_alone.Given.{Over}
use Rattle.pblk_engine.proofs.shared.Shared.look_alone.Goals as goal
use Rattle.pblk_engine.proofs.shared.Shared.look_alone.Goals.{After-ask_pad}

module _ (g : Over) (c : After-ask_pad g) where
  low : IsTrue c.ask_pad.result → c.take_claimed-claimed.result ≤ c.tell.new.heart.intake.intake.taken
  low is = (c.ask_pad.ensures.when.0 is).0

  told_knows : c.ask_pad.new.worker.known ≡ c.tell.new.heart.author.known
  told_knows = look_knows c.args.worker.now c.tell.new.worker c.ask_pad.new.worker c.tell.new.heart c.ask_pad.result c.take_claimed-claimed.result
      c.tell.ensures.worker c.tell.ensures.keeps c.stands-2.ensures.taken c.ask_pad.ensures.worker_asked c.ask_pad.ensures.worker_same low

  worked : HasWorked c.args.worker.now c.ask_pad.new.worker []
  worked = look_worked c.args.worker.now c.tell.new.worker c.ask_pad.new.worker c.tell.new.heart c.ask_pad.result c.take_claimed-claimed.result
      c.tell.ensures.worker c.tell.ensures.keeps c.stands-2.ensures.taken c.ask_pad.ensures.worker_asked c.ask_pad.ensures.worker_same low

  same_known : c.ask_pad.new.self.author.known ≡ c.tell.new.heart.author.known
  same_known = ap (λ (h : HeartView). h.author.known) c.ask_pad.ensures.same

  -- it knows what the heart does
  knows : c.ask_pad.new.worker.known ≡ c.ask_pad.new.self.author.known
  knows = told_knows ∙ sym same_known

  -- the intake is as all was taken
  same_pass : c.ask_pad.new.self.intake.pass ≡ c.take_claimed-claimed.new.heart.intake.pass
  same_pass = ap (λ (h : HeartView). h.intake.pass) c.ask_pad.ensures.same ∙ ap (λ (h : HeartView). h.intake.pass) c.tell.ensures.heart

  same_taken : c.ask_pad.new.self.intake.intake.taken ≡ c.take_claimed-claimed.new.heart.intake.intake.taken
  same_taken = ap (λ (h : HeartView). h.intake.intake.taken) c.ask_pad.ensures.same ∙ ap (λ (h : HeartView). h.intake.intake.taken) c.tell.ensures.heart

  claims_at : AreAllClaims g.M.Mount.key.first c.take_claimed-claimed.result (pass_view c.args.pass.now).pass c.ask_pad.new.self.intake.pass
  claims_at = subst (λ (p : Part). AreAllClaims g.M.Mount.key.first c.take_claimed-claimed.result (pass_view c.args.pass.now).pass p) (sym same_pass)
      (subst (λ n. AreAllClaims g.M.Mount.key.first n (pass_view c.args.pass.now).pass c.take_claimed-claimed.new.heart.intake.pass)
      (sym c.take_claimed-claimed.ensures.front) c.take_claimed-claimed.ensures.all)

  claims : AreAllClaims g.M.Mount.key.first c.ask_pad.new.self.intake.intake.taken (pass_view c.args.pass.now).pass c.ask_pad.new.self.intake.pass
  claims = subst (λ n. AreAllClaims g.M.Mount.key.first n (pass_view c.args.pass.now).pass c.ask_pad.new.self.intake.pass)
      (c.take_claimed-claimed.ensures.front ∙ sym same_taken) claims_at

  -- what was all claimed before is all that was taken
  log : AreAllClaims g.M.Mount.key.first c.args.heart.now.intake.intake.taken (pass_view c.args.pass.now).pass c.args.heart.now.intake.pass
      → logs_of c.ask_pad.new.self.author.known 0 ≡ logs_of c.args.heart.now.author.known 0
  log all =
      let takes = c.take_claimed-claimed.ensures.takes in
      let same : c.take_claimed-claimed.new.heart.intake.intake.taken ≡ c.args.heart.now.intake.intake.taken =
      claims_same g.M.Mount.key.first c.args.heart.now.intake.intake.taken c.take_claimed-claimed.new.heart.intake.intake.taken (pass_view c.args.pass.now).pass
      c.args.heart.now.intake.pass c.take_claimed-claimed.new.heart.intake.pass c.stands.ensures.first (le_trans c.stands.ensures.first takes.rises)
      takes.copies.claims all c.take_claimed-claimed.ensures.all in
      ap (λ (k : Prefixes). logs_of k 0) same_known ∙ c.tell.ensures.own ∙ ap (λ (a : AuthorView). logs_of a.known 0) (takes.none same)

pub returns-clause-worked : goal.returns-clause-worked
returns-clause-worked g c = worked g (goal.at.returns-clause-worked g c).After-ask_pad

pub returns-clause-knows : goal.returns-clause-knows
returns-clause-knows g c = knows g (goal.at.returns-clause-knows g c).After-ask_pad

pub returns-clause-claims : goal.returns-clause-claims
returns-clause-claims g c = claims g (goal.at.returns-clause-claims g c).After-ask_pad

pub returns-clause-log : goal.returns-clause-log
returns-clause-log g c = log g (goal.at.returns-clause-log g c).After-ask_pad

pub returns-clause-settled : goal.returns-clause-settled
returns-clause-settled g c is =
    let at = (goal.at.returns-clause-settled g c).After-ask_pad in
    looked_settled g.M.Mount.past.image g.M.Mount.key g.M.Mount.handed (pass_view c.args.pass.now).pass c.ask_pad.new.worker.known
    c.take_claimed-claimed.result c.ask_pad.new.self.intake.pass (claims_at g at)
    (subst (λ (k : Prefixes). IsWorkedOff g.M.Mount.past.image (logs_of k) c.take_claimed-claimed.result) (sym (knows g at)) (c.found.ensures.settled is))

pub returns-clause-worn : goal.returns-clause-worn
returns-clause-worn g c wanted have is =
    let at = (goal.at.returns-clause-worn g c).After-ask_pad in
    let worn = c.found.ensures.worn wanted have is in
    subst (λ n. TellsSettled g.M.Mount.past.image g.M.Mount.key g.M.Mount.handed (pass_view c.args.pass.now).pass c.ask_pad.new.worker.known []
    (Err (errors.Worn n have))) (sym worn.0)
    (looked_worn g.M.Mount.past.image g.M.Mount.key g.M.Mount.handed (pass_view c.args.pass.now).pass c.ask_pad.new.worker.known
    c.take_claimed-claimed.result have c.ask_pad.new.self.intake.pass (claims_at g at)
    (subst (λ (k : Prefixes). IsWornAt g.M.Mount.past.image (logs_of k) c.take_claimed-claimed.result have) (sym (knows g at)) worn.1))

pub returns-clause-work : goal.returns-clause-work
returns-clause-work g c work is =
    let at = (goal.at.returns-clause-work g c).After-ask_pad in
    let can = c.found.ensures.work work is in
    (can.0, subst (λ (k : Prefixes). CanBeDone g.M.Mount.past.image k work) (sym (knows g at)) can.1)

use Rattle.std.proofs.Common.{◌≡◌, ◌≢◌, inr, ℕ, ◌+◌, ◌≤◌, None, Some, refl, sym, subst, ap, ◌∙◌, length, le_trans}
use Rattle.pblk_world.specs.AtRest.{IsCopyDue}
use Rattle.write_ring.specs.Handles.{AreAllClaims, pass_view}
use Rattle.write_ring.specs.declared.view.Desk.{Desk}
use Rattle.write_ring.specs.declared.view.View.{View}
use Rattle.chronicle.specs.Handles.{AuthorView}
use Rattle.chronicle.specs.Prefixes.{ArePrefixes, Prefixes, logs_of}
use Rattle.chronicle.proofs.Rests.{still_begun}
use Rattle.pblk_engine.specs.Alone.{TakesOneCopy}
use Rattle.pblk_engine.specs.Hearts.{HeartView}
use Rattle.pblk_engine.specs.Pumps.{HasCollected}
use Rattle.pblk_engine.specs.WorkSince.{HasWorkSince}
use Rattle.pblk_engine.specs.Workers.{WorkerView}
use Rattle.pblk_engine.specs.declared.copying.NextCopy.{NextCopy}
use Rattle.pblk_engine.specs.declared.copying.NextCopy.TheVariants as answer
use Rattle.pblk_engine.specs.declared.outcomes.Role.TheVariants as roles
use Rattle.pblk_engine.proofs.GoingOn.{told_only}
use Rattle.pblk_engine.proofs.LoneCopies.{copy_work, none_taken, one_copy}
use Rattle.pblk_engine.proofs.PumpSteps.{collected_copied, collected_full, collected_lost, collected_refused}
use Rattle.pblk_engine.proofs.Settlings.{lost_is}
use Rattle.pblk_engine.proofs.shared.Shared.copy_alone.Given.{Over}
use Rattle.pblk_engine.proofs.shared.Shared.copy_alone.Goals.{After-stands-2}
use Rattle.pblk_engine.proofs.shared.Shared.copy_alone.Goals as goal

-- where something is to be copied, and no place is named, the ring is full
is_full : (n : NextCopy) → n ≢ answer.Nothing → ((of : _) → n ≢ answer.At of) → n ≡ answer.Full
is_full answer.Nothing some other = absurd (some refl)
is_full answer.Full some other = refl
is_full (answer.At of) some other = absurd (other of refl)

pub returns-in_default : goal.returns-in_default
returns-in_default g c =
    let n = c.next_copy.ensures in
    let t = c.take_claimed.ensures in
    let some = n.work c.requires.named in
    let still =
    none_taken g.M.Mount.key.first (pass_view c.args.pass.now).pass c.args.heart.now c.next_copy.new.self c.next_copy.new.self c.take_claimed.new.heart
    c.stands.ensures.first (ap (λ (h : HeartView). h.intake.intake) n.same) (ap (λ (h : HeartView). h.intake.pass) n.same) (n.reached some) refl t.takes
    c.requires.claims t.all refl in
    record {
      pass_of = t.pass_of;
      same_pass = t.same_pass;
      collected = collected_full g.M.Mount.past.image g.M.Mount.handed roles.All c.args.worker.now
          (subst (λ (k : Prefixes). IsCopyDue g.M.Mount.past.image (logs_of k)) (sym c.requires.known) (n.due some).1) (λ same. c.requires.reset);
      copied = inr refl;
      keeps = subst (λ (a : AuthorView). ArePrefixes a.known c.take_claimed.new.heart.author.known) (ap (λ (h : HeartView). h.author) n.same) t.takes.keeps;
      claims = t.all;
      one = λ same. absurd cc;
      none = λ other. still;
      full = λ same. subst (λ n. c.args.heart.now.intake.intake.freed + g.M.Mount.key.size ≤ n) still
          (le_trans (n.full (is_full c.next_copy.result some c.in_default.not-At)) t.takes.reached);
    }

pub returns-in_err-fetch_copy-clause-collected : goal.returns-in_err-fetch_copy-clause-collected
returns-in_err-fetch_copy-clause-collected g c =
    let e = c.in_err-fetch_copy.field-0.0 in
    subst (HasCollected g.M.Mount.past.image g.M.Mount.handed roles.All c.args.worker.now c.fetch_copy.new.worker)
    (sym (lost_is c.from_residual.result e _ (λ w is. is) c.from_residual.ensures.0 c.from_residual.ensures.1))
    (collected_lost g.M.Mount.past.image g.M.Mount.handed roles.All c.args.worker.now c.fetch_copy.new.worker c.in-At.of.unit e
    c.in_err-fetch_copy.ensures.made)

pub put_alone-put-requires-clause-copy : goal.put_alone-put-requires-clause-copy
put_alone-put-requires-clause-copy g c =
    ap (λ (h : HeartView). h.copy) c.fetch_copy.ensures.met ∙ c.next_copy.ensures.named c.in-At.of c.in-At.is

pub put_alone-put-requires-clause-fetched : goal.put_alone-put-requires-clause-fetched
put_alone-put-requires-clause-fetched g c = c.in_ok-fetch_copy.ensures.fetched refl

module _ (g : Over) (c : After-stands-2 g) where
  due : IsCopyDue g.M.Mount.past.image (logs_of c.args.worker.now.known)
  due = subst (λ (k : Prefixes). IsCopyDue g.M.Mount.past.image (logs_of k)) (sym c.requires.known)
      (c.next_copy.ensures.due (c.next_copy.ensures.work c.requires.named)).1

  -- the heart as its copy was fetched
  fetched_desk : c.fetch_copy.new.heart.intake.intake ≡ c.args.heart.now.intake.intake
  fetched_desk = ap (λ (h : HeartView). h.intake.intake) c.fetch_copy.ensures.met ∙ ap (λ (h : HeartView). h.intake.intake) c.next_copy.ensures.same

  fetched_part : c.fetch_copy.new.heart.intake.pass ≡ c.args.heart.now.intake.pass
  fetched_part = ap (λ (h : HeartView). h.intake.pass) c.fetch_copy.ensures.met ∙ ap (λ (h : HeartView). h.intake.pass) c.next_copy.ensures.same

  fetched_reached : c.args.heart.now.intake.intake.taken ≤ c.fetch_copy.new.heart.intake.found.claimed
  fetched_reached = subst (λ n. c.args.heart.now.intake.intake.taken ≤ n) (sym (ap (λ (h : HeartView). h.intake.found.claimed) c.fetch_copy.ensures.met))
      (c.next_copy.ensures.reached (c.next_copy.ensures.work c.requires.named))

  -- and as the worker was told
  told_intake : c.tell.new.heart.intake ≡ c.take_claimed-2.new.heart.intake
  told_intake = ap (λ (h : HeartView). h.intake) c.tell.ensures.heart

  keeps : ArePrefixes c.args.heart.now.author.known c.tell.new.heart.author.known
  keeps =
      still_begun c.args.heart.now.author.known c.take_claimed-2.new.heart.author.known c.tell.new.heart.author.known
      (still_begun c.args.heart.now.author.known c.fetch_copy.new.heart.author.known c.take_claimed-2.new.heart.author.known
      (subst (λ (a : AuthorView). ArePrefixes a.known c.fetch_copy.new.heart.author.known)
      (ap (λ (h : HeartView). h.author) c.next_copy.ensures.same) c.fetch_copy.ensures.keeps)
      (subst (λ (a : AuthorView). ArePrefixes a.known c.take_claimed-2.new.heart.author.known) c.put_alone-put.ensures.author
      c.take_claimed-2.ensures.takes.keeps)) c.tell.ensures.heart_keeps

  claims : AreAllClaims g.M.Mount.key.first c.tell.new.heart.intake.intake.taken (pass_view c.args.pass.now).pass c.tell.new.heart.intake.pass
  claims = subst (λ (v : View). AreAllClaims g.M.Mount.key.first v.intake.taken (pass_view c.args.pass.now).pass v.pass) (sym told_intake)
      c.take_claimed-2.ensures.all

  learned : c.tell.new.worker ≡ record c.fetch_copy.new.worker { known = c.tell.new.worker.known }
  learned = told_only c.fetch_copy.new.worker c.tell.new.worker c.tell.new.heart.author.known c.tell.ensures.worker

  -- the copy at this position was put and taken
  took_one : (at : ℕ) → c.put_alone-put.result ≡ Some at
      → TakesOneCopy g.M.Mount.past.image (length (logs_of c.args.heart.now.author.known 0)) (logs_of c.tell.new.heart.author.known)
  took_one at is =
      one_copy g.M.Mount.key.first (pass_view c.args.pass.now).pass c.args.heart.now c.fetch_copy.new.heart c.put_alone-put.new.heart
      c.take_claimed-2.new.heart c.stands.ensures.first fetched_desk fetched_part fetched_reached c.put_alone-put.ensures.same_desk
      c.take_claimed-2.ensures.takes c.requires.claims c.take_claimed-2.ensures.all c.in-At.of.job at c.fetch_copy.new.heart.sector
      (c.put_alone-put.ensures.claimed at is) g.M.Mount.past.image c.tell.new.heart.author.known c.stands.ensures.legal keeps c.stands.ensures.begun
      c.stands.ensures.took c.stands.ensures.taken
      (sym (ap (λ (v : View). v.intake.took) told_intake) ∙ c.stands-2.ensures.took)
      (sym (ap (λ (v : View). v.intake.taken) told_intake) ∙ c.stands-2.ensures.taken)
      (c.next_copy.ensures.begun c.in-At.of c.in-At.is) c.requires.alone

  -- and that is a piece of work
  worked : (at : ℕ) → c.put_alone-put.result ≡ Some at → HasWorkSince c.args.worker.now.known c.tell.new.worker.known
  worked at is =
      subst (λ (k : Prefixes). HasWorkSince k c.tell.new.worker.known) (sym c.requires.known)
      (subst (HasWorkSince c.args.heart.now.author.known) (sym (ap (λ (w : WorkerView). w.known) c.tell.ensures.worker))
      (copy_work g.M.Mount.past.image c.args.heart.now.author.known c.tell.new.heart.author.known (took_one at is)))

  -- where its claim was refused nothing was taken
  took_none : c.put_alone-put.result ≡ None → c.take_claimed-2.new.heart.intake.intake.taken ≡ c.args.heart.now.intake.intake.taken
  took_none is =
      none_taken g.M.Mount.key.first (pass_view c.args.pass.now).pass c.args.heart.now c.fetch_copy.new.heart c.put_alone-put.new.heart
      c.take_claimed-2.new.heart c.stands.ensures.first fetched_desk fetched_part fetched_reached c.put_alone-put.ensures.same_desk
      c.take_claimed-2.ensures.takes c.requires.claims c.take_claimed-2.ensures.all (c.put_alone-put.ensures.same_pass is)

pub returns-in-Some-clause-collected : goal.returns-in-Some-clause-collected
returns-in-Some-clause-collected g c =
    let d = (goal.at.returns-in-Some-clause-collected g c).After-stands-2 in
    collected_copied g.M.Mount.past.image g.M.Mount.handed roles.All c.args.worker.now c.fetch_copy.new.worker c.in-At.of.unit
    (due g d) (λ same. c.requires.reset) c.tell.new.worker (learned g d) c.tell.ensures.keeps c.in_ok-fetch_copy.ensures.made
    (worked g d c.in-Some.field-0 c.in-Some.is)

pub returns-in-Some-clause-keeps : goal.returns-in-Some-clause-keeps
returns-in-Some-clause-keeps g c = keeps g (goal.at.returns-in-Some-clause-keeps g c).After-stands-2

pub returns-in-Some-clause-claims : goal.returns-in-Some-clause-claims
returns-in-Some-clause-claims g c = claims g (goal.at.returns-in-Some-clause-claims g c).After-stands-2

pub returns-in-Some-clause-one : goal.returns-in-Some-clause-one
returns-in-Some-clause-one g c = λ same. took_one g (goal.at.returns-in-Some-clause-one g c).After-stands-2 c.in-Some.field-0 c.in-Some.is

pub returns-in-None-clause-collected : goal.returns-in-None-clause-collected
returns-in-None-clause-collected g c =
    let d = (goal.at.returns-in-None-clause-collected g c).After-stands-2 in
    collected_refused g.M.Mount.past.image g.M.Mount.handed roles.All c.args.worker.now c.fetch_copy.new.worker c.in-At.of.unit
    (due g d) (λ same. c.requires.reset) c.tell.new.worker (learned g d) c.tell.ensures.keeps c.in_ok-fetch_copy.ensures.made

pub returns-in-None-clause-keeps : goal.returns-in-None-clause-keeps
returns-in-None-clause-keeps g c = keeps g (goal.at.returns-in-None-clause-keeps g c).After-stands-2

pub returns-in-None-clause-claims : goal.returns-in-None-clause-claims
returns-in-None-clause-claims g c = claims g (goal.at.returns-in-None-clause-claims g c).After-stands-2

pub returns-in-None-clause-none : goal.returns-in-None-clause-none
returns-in-None-clause-none g c = λ other.
    let d = (goal.at.returns-in-None-clause-none g c).After-stands-2 in
    ap (λ (v : View). v.intake.taken) (told_intake g d) ∙ took_none g d c.in-None.is

pub returns-in-None-clause-full : goal.returns-in-None-clause-full
returns-in-None-clause-full g c = λ same.
    let d = (goal.at.returns-in-None-clause-full g c).After-stands-2 in
    subst (λ n. c.args.heart.now.intake.intake.freed + g.M.Mount.key.size ≤ n) (took_none g d c.in-None.is)
    (subst (λ (k : Desk). k.freed + g.M.Mount.key.size ≤ c.take_claimed-2.new.heart.intake.intake.taken) (fetched_desk g d)
    (le_trans (c.put_alone-put.ensures.full c.in-None.is) c.take_claimed-2.ensures.takes.reached))

use Rattle.std.proofs.Common.{◌+◌, length, refl, sym, ap, ◌∙◌, subst}
use Rattle.write_ring.specs.declared.view.View.{View}
use Rattle.write_ring.specs.Frames.{is_copy}
use Rattle.write_ring.specs.Steps.{IsOfClass}
use Rattle.write_ring.proofs.Classes.{class_placed}
use Rattle.write_ring.proofs.Puts.{limit_pass, placed}
use Rattle.write_ring.proofs.table.Ring.claim_and_put.Goals as goal

pub returns-clause-class : goal.returns-clause-class
returns-clause-class c =
    let class = c.args.class in
    let v = c.args.seat.now.me.0 in
    let u = c.limit-limit.new.seat.me.0 in
    let at = c.look_claimed-claimed.result in
    let ds = c.args.batch.now.drafts in
    let ends = ap (λ k. at + k) (c.from.ensures ∙ c.filled-count.ensures) in
    let is = placed _ u _ at _ _ _ (c.exchange-found.ensures.claims.0 c.if-found-claimed.false).0 ends c.put_batch.ensures.put in
    let same = ap (λ m. m.0.pass) c.limit-limit.ensures.found ∙ limit_pass class c.look_claimed-claimed.new.seat.me.0 u
    ∙ ap (λ m. m.0.pass) c.look_claimed-claimed.ensures.found in
    subst (λ (w : View). IsOfClass (is_copy class) w.pass) (sym is)
    (class_placed class u.pass _ at (length ds) at ds refl refl (subst (IsOfClass (is_copy class)) (sym same) c.requires.class))

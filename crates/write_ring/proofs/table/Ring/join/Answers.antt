use Rattle.std.proofs.Common.{◌||◌, false, refl, arith, sym, ap, ◌∙◌, subst}
use Rattle.write_ring.specs.Frames.{IsFree, IsBlank, Carries, Fits}
use Rattle.write_ring.specs.Steps.{IsOfClass}
use Rattle.write_ring.proofs.Classes.{class_joined}
use Rattle.write_ring.proofs.Joins.{joins_pass}
use Rattle.write_ring.proofs.table.Ring.join.Goals as goal

pub join_seat-requires : goal.join_seat-requires
join_seat-requires c = (
  c.requires.ring.0,
  c.requires.other_ring.0,
  c.args.other.at_rest,
  omega (arith, c.args.self.now.words),
  joins_pass _ IsFree IsBlank Carries Fits _ _ _ _ c.args.pass.now.some c.args.other.all_put,
)

pub invariant_of-pass : goal.invariant_of-pass
invariant_of-pass c =
    let p = c.args.pass.now in
    let o = c.args.other in
    let j = c.join_seat.ensures.2 in
    let view = ap (λ m. m.0) j in
    record {
      at_rest = ap (λ m. m.1) j ∙ p.at_rest;
      some = let shares = ap (λ u. u.pass.shares) view in omega (arith, shares, p.some);
      only = ap (λ u. u.intake) view ∙ p.only;
      all_put = ap (λ u. u.pass.next) view ∙ p.all_put ∙ sym (ap (λ u. u.pass.until) view);
      for_users = ap (λ u. u.pass.copier) view ∙ ap (λ b. b || o.seat.me.0.pass.copier) p.for_users ∙ o.for_users;
      users = subst (λ u. IsOfClass false u.pass) (sym view) (class_joined false p.seat.me.0.pass o.seat.me.0.pass _ refl refl p.users o.users);
    }

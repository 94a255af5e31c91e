use Rattle.std.proofs.Common.{◌<◌, ◌≤◌, ◌||◌, true, false, arith, sym, ap, ◌∙◌, subst}
use Rattle.write_ring.specs.Frames.{IsFree, IsBlank, Carries, Fits}
use Rattle.write_ring.specs.Handles.{AreAllClaims}
use Rattle.write_ring.specs.Steps.{IsOfClass, only_intake, saw_claimed, with_intake, without_intake}
use Rattle.write_ring.proofs.Classes.{class_same}
use Rattle.write_ring.proofs.Joins.{joins_all, joins_intake, splits_all, splits_intake}
use Rattle.write_ring.proofs.Together.{all_again, copies_again, pass_again, view_again}
use Rattle.write_ring.proofs.table.Ring.all_claimed.Goals as goal

pub split_seat-desk-requires : goal.split_seat-desk-requires
split_seat-desk-requires c = (c.requires.intake_ring.0, omega (arith, c.args.self.now.words), splits_all _ IsFree IsBlank Carries Fits _ _)

pub join_seat-requires : goal.join_seat-requires
join_seat-requires c =
    let d = c.split_seat-desk.ensures in (
      c.requires.ring.0,
      d.3 ∙ c.requires.intake_ring.0,
      ap (λ m. m.1) d.4,
      omega (arith, c.args.self.now.words),
      joins_intake _ IsFree IsBlank Carries Fits _ _ _ _ c.args.pass.now.some
          (ap (λ m. m.0.pass.next) d.4 ∙ c.args.intake.now.all_put ∙ sym (ap (λ m. m.0.pass.until) d.4)),
    )

pub split_seat-back-requires : goal.split_seat-back-requires
split_seat-back-requires c =
    let v = c.args.pass.now.seat.me.0 in
    let i = c.args.intake.now in
    let l = c.look_claimed-claimed in
    let n = l.result in
    let d = c.split_seat-desk.ensures in
    let j = c.join_seat.ensures in
    let is = l.ensures.found ∙ ap (λ m. (saw_claimed m.0 n, m.1)) j.2
    ∙ ap (λ m. (saw_claimed (with_intake v m.0) n, c.args.pass.now.seat.me.1)) d.4 in
    let shares = ap (λ m. m.0.pass.shares) is in (
      l.ensures.ring ∙ j.0 ∙ c.requires.ring.0,
      omega (arith, c.args.self.now.words),
      splits_intake _ IsFree IsBlank Carries Fits _ _ (omega (arith, shares, c.args.pass.now.some, i.one))
          (ap (λ m. m.0.pass.next) is ∙ c.args.pass.now.all_put ∙ sym (ap (λ m. m.0.pass.until) is)),
    )

pub invariant_of-pass : goal.invariant_of-pass
invariant_of-pass c =
    let p = c.args.pass.now in
    let v = p.seat.me.0 in
    let i = c.args.intake.now in
    let l = c.look_claimed-claimed in
    let n = l.result in
    let b = c.split_seat-back.ensures in
    let is = l.ensures.found ∙ ap (λ m. (saw_claimed m.0 n, m.1)) c.join_seat.ensures.2
    ∙ ap (λ m. (saw_claimed (with_intake v m.0) n, p.seat.me.1)) c.split_seat-desk.ensures.4 in
    let view = ap (λ m. m.0) b.2 ∙ ap (λ m. without_intake m.0) is in
    let same = pass_again v i.seat.me.0 n p.users i.copies i.one _ view p.for_users in
    record {
      at_rest = ap (λ m. m.1) b.2 ∙ ap (λ m. m.1) is ∙ p.at_rest;
      some = subst (λ q. 0 < q.shares) (sym same) p.some;
      only = ap (λ u. u.intake) view;
      all_put = ap (λ q. q.next) same ∙ p.all_put ∙ sym (ap (λ q. q.until) same);
      for_users = ap (λ q. q.copier) same ∙ p.for_users;
      users = subst (IsOfClass false) (sym same) p.users;
    }

pub join_seat-requires-2 : goal.join_seat-requires-2
join_seat-requires-2 c =
    let d = c.split_seat-desk.ensures in
    let b = c.split_seat-back.ensures in (
      d.0 ∙ c.requires.intake_ring.0,
      b.3 ∙ c.look_claimed-claimed.ensures.ring ∙ c.join_seat.ensures.0 ∙ c.requires.ring.0,
      ap (λ m. m.1) b.4,
      omega (arith, c.args.self.now.words),
      joins_all _ IsFree IsBlank Carries Fits _ _ _ _ (ap (λ m. m.0) d.2),
    )

pub invariant_of-intake : goal.invariant_of-intake
invariant_of-intake c =
    let p = c.args.pass.now in
    let v = p.seat.me.0 in
    let i = c.args.intake.now in
    let l = c.look_claimed-claimed in
    let n = l.result in
    let d = c.split_seat-desk.ensures in
    let k = c.join_seat-2.ensures in
    let is = l.ensures.found ∙ ap (λ m. (saw_claimed m.0 n, m.1)) c.join_seat.ensures.2
    ∙ ap (λ m. (saw_claimed (with_intake v m.0) n, p.seat.me.1)) d.4 in
    let view = ap (λ m. m.0) k.2 ∙ ap (λ m. m.0) c.split_seat-back.ensures.4 ∙ ap (λ m. only_intake m.0) is in
    let same = copies_again v i.seat.me.0 n p.users i.copies i.one _ view in
    record {
      at_rest = ap (λ m. m.1) k.2 ∙ ap (λ m. m.1) d.2 ∙ i.at_rest;
      on = ap (λ u. u.intake.on) view ∙ i.on;
      one = ap (λ u. u.pass.shares) view;
      all_put = ap (λ u. u.pass.next) view ∙ sym (ap (λ u. u.pass.until) view);
      for_copies = ap (λ u. u.pass.copier) view ∙ ap (λ b. b || i.seat.me.0.pass.copier) p.for_users ∙ i.for_copies;
      copies = class_same true i.seat.me.0.pass _ same.claims same.puts i.copies;
      home = ap (λ u. u.intake.away) view ∙ i.home;
      taken_is = ap (λ u. u.intake.taken) view ∙ i.taken_is;
      freed_is = ap (λ u. u.intake.freed) view ∙ i.freed_is;
      low = subst (λ f. f ≤ i.freed) (sym (ap (λ u. u.key.first) view ∙ ap (λ k. k.first) (c.requires.ring.1 ∙ sym c.requires.intake_ring.1))) i.low;
      order = i.order;
      most = i.most;
    }

pub returns-clause-all : goal.returns-clause-all
returns-clause-all c whole =
    let p = c.args.pass.now in
    let v = p.seat.me.0 in
    let i = c.args.intake.now in
    let l = c.look_claimed-claimed in
    let n = l.result in
    let d = c.split_seat-desk.ensures in
    let j = c.join_seat.ensures in
    let b = c.split_seat-back.ensures in
    let is = l.ensures.found ∙ ap (λ m. (saw_claimed m.0 n, m.1)) j.2 ∙ ap (λ m. (saw_claimed (with_intake v m.0) n, p.seat.me.1)) d.4 in
    let same = pass_again v i.seat.me.0 n p.users i.copies i.one _ (ap (λ m. m.0) b.2 ∙ ap (λ m. without_intake m.0) is) p.for_users in
    let copies = copies_again v i.seat.me.0 n p.users i.copies i.one _
    (ap (λ m. m.0) c.join_seat-2.ensures.2 ∙ ap (λ m. m.0) b.4 ∙ ap (λ m. only_intake m.0) is) in
    let both = ap (λ m. m.0) j.2 ∙ ap (λ m. with_intake v m.0) d.4 in
    subst (λ f. AreAllClaims f n c.split_seat-back.new.seat.me.0.pass c.join_seat-2.new.seat.me.0.pass) (ap (λ k. k.first) c.requires.ring.1)
    (all_again v i.seat.me.0 n p.users i.copies i.one _ both whole l.ensures.sees c.split_seat-back.new.seat.me.0.pass
    c.join_seat-2.new.seat.me.0.pass (ap (λ q. q.claims) same) copies.claims)

pub returns-clause-found : goal.returns-clause-found
returns-clause-found c =
    let p = c.args.pass.now in
    let v = p.seat.me.0 in
    let i = c.args.intake.now in
    let l = c.look_claimed-claimed in
    let n = l.result in
    let is = l.ensures.found ∙ ap (λ m. (saw_claimed m.0 n, m.1)) c.join_seat.ensures.2
    ∙ ap (λ m. (saw_claimed (with_intake v m.0) n, p.seat.me.1)) c.split_seat-desk.ensures.4 in
    view_again v i.seat.me.0 n p.users i.copies i.one _ (ap (λ m. m.0) c.split_seat-back.ensures.2 ∙ ap (λ m. without_intake m.0) is) p.for_users p.only

pub returns-clause-same_copies : goal.returns-clause-same_copies
returns-clause-same_copies c =
    let p = c.args.pass.now in
    let v = p.seat.me.0 in
    let i = c.args.intake.now in
    let l = c.look_claimed-claimed in
    let n = l.result in
    let is = l.ensures.found ∙ ap (λ m. (saw_claimed m.0 n, m.1)) c.join_seat.ensures.2
    ∙ ap (λ m. (saw_claimed (with_intake v m.0) n, p.seat.me.1)) c.split_seat-desk.ensures.4 in
    copies_again v i.seat.me.0 n p.users i.copies i.one _
    (ap (λ m. m.0) c.join_seat-2.ensures.2 ∙ ap (λ m. m.0) c.split_seat-back.ensures.4 ∙ ap (λ m. only_intake m.0) is)

use Rattle.std.proofs.Common.{sym, ◌∙◌, subst, arith}
use Rattle.std.specs.Slots.{slots_items}
use Rattle.write_ring.specs.Endings.{IsLeft}
use Rattle.write_ring.specs.Frames.{IsFree, IsBlank, Carries, Fits}
use Rattle.write_ring.specs.Handles.{intake_view, pass_view, ring_key}
use Rattle.write_ring.proofs.ClaimLists.{covers_both}
use Rattle.write_ring.proofs.Classes.{copies_filled, copy_put, user_put, users_filled}
use Rattle.write_ring.proofs.Joins.{joins_intake}
use Rattle.write_ring.proofs.Leaving.{ends_with, left_of}
use Rattle.write_ring.proofs.table.Ring.close.Goals as goal

pub join_seat-requires : goal.join_seat-requires
join_seat-requires c = (
  c.requires.ring.0,
  c.requires.intake_ring.0,
  c.args.intake.at_rest,
  omega (arith, c.args.self.words),
  joins_intake _ IsFree IsBlank Carries Fits _ _ _ _ c.args.pass.some c.args.intake.all_put,
)

pub give_slots-requires-clause-left : goal.give_slots-requires-clause-left
give_slots-requires-clause-left c =
    let p = c.args.pass in
    let i = c.args.intake in
    let e = ends_with _ _ _ _ _ (pass_view p) (intake_view i) _ c.join_seat.ensures.2 c.requires.shares i.one p.all_put i.on i.home
    c.close_with-closed.ensures.values.2 in
    let k = ring_key c.args.self in
    let d = (intake_view i).intake in
    let xs = slots_items c.close_with-closed.result.slots in
    let r = c.args.pool.now.region in
    let own = subst (λ r. IsLeft r k.size d.freed d.taken xs) (sym c.requires.own) (left_of k _ xs e) in
    let sized = subst (λ n. IsLeft r n d.freed d.taken xs) c.args.self.sized own in
    let freed = subst (λ f. IsLeft r c.args.self.size f d.taken xs) i.freed_is sized in
    subst (λ t. IsLeft r c.args.self.size i.freed t xs) i.taken_is freed

pub returns-clause-tiled : goal.returns-clause-tiled
returns-clause-tiled c =
    let p = c.args.pass in
    let i = c.args.intake in
    let e = ends_with _ _ _ _ _ (pass_view p) (intake_view i) _ c.join_seat.ensures.2 c.requires.shares i.one p.all_put i.on i.home
    c.close_with-closed.ensures.values.2 in
    (e.claimed, λ x. sym (covers_both x (pass_view p).pass.claims (intake_view i).pass.claims) ∙ e.tiled x)

pub returns-clause-filled : goal.returns-clause-filled
returns-clause-filled c =
    let p = c.args.pass in
    let i = c.args.intake in
    let e = ends_with _ _ _ _ _ (pass_view p) (intake_view i) _ c.join_seat.ensures.2 c.requires.shares i.one p.all_put i.on i.home
    c.close_with-closed.ensures.values.2 in
    users_filled (pass_view p).pass (intake_view i).pass p.users i.copies e.filled e.copies

pub returns-clause-copies_filled : goal.returns-clause-copies_filled
returns-clause-copies_filled c =
    let p = c.args.pass in
    let i = c.args.intake in
    let e = ends_with _ _ _ _ _ (pass_view p) (intake_view i) _ c.join_seat.ensures.2 c.requires.shares i.one p.all_put i.on i.home
    c.close_with-closed.ensures.values.2 in
    copies_filled (pass_view p).pass (intake_view i).pass p.users i.copies e.filled e.copies

pub returns-clause-taken : goal.returns-clause-taken
returns-clause-taken c =
    let p = c.args.pass in
    let i = c.args.intake in
    let e = ends_with _ _ _ _ _ (pass_view p) (intake_view i) _ c.join_seat.ensures.2 c.requires.shares i.one p.all_put i.on i.home
    c.close_with-closed.ensures.values.2 in
    λ j r at.
    let was = e.took j r at in (
      was.0,
      user_put (pass_view p).pass (intake_view i).pass p.users i.copies r was.2,
      copy_put (pass_view p).pass (intake_view i).pass p.users i.copies r was.2,
    )

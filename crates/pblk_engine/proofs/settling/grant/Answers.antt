use Rattle.std.proofs.Common.{◌≡◌, ◌+◌, ◌<◌, ◌≤◌, ℕ, max, sym, subst, ap, ◌∙◌, arith}
use Rattle.write_ring.specs.declared.view.Desk.{Desk}
use Rattle.write_ring.specs.declared.view.Key.{Key}
use Rattle.write_ring.specs.declared.view.View.{View}
use Rattle.write_ring.specs.Handles.{ring_key}
use Rattle.pblk_engine.specs.Hearts.{parts}
use Rattle.pblk_engine.proofs.Decisions.{its_heart, its_mount}
use Rattle.pblk_engine.proofs.Settles.{grant_fits, grant_most, grant_settles}
use Rattle.pblk_engine.proofs.settling.grant.Goals as goal

pub grant-requires-clause-reserve : goal.grant-requires-clause-reserve
grant-requires-clause-reserve c =
    let h = parts c.args.core.now c.args.author.now c.args.intake.now.seat.me.0 in
    let b = c.requires.beating in
    let is = c.grant-room.ensures h.author.past.image b.legal.world (its_mount h b) (its_heart h b).stands in
    subst (λ n. c.grant-room.result + (ring_key c.args.ring.now).reserve ≤ n + (ring_key c.args.ring.now).size)
    (ap (λ (v : View). v.intake.freed) (sym c.granted-granted.ensures.found))
    (subst (λ (k : Key). c.grant-room.result + k.reserve ≤ c.args.intake.now.seat.me.0.intake.freed + k.size) c.requires.ring.1
    (grant_fits h b c.requires.drained c.grant-room.result is))

pub grant-requires-clause-most : goal.grant-requires-clause-most
grant-requires-clause-most c =
    let h = parts c.args.core.now c.args.author.now c.args.intake.now.seat.me.0 in
    let b = c.requires.beating in
    grant_most h b c.requires.drained c.grant-room.result
    (c.grant-room.ensures h.author.past.image b.legal.world (its_mount h b) (its_heart h b).stands)

greater : (g r a : ℕ) → r ≡ g → r < a → a ≡ max g a
greater g r a is less = omega arith

lesser : (g r a : ℕ) → r ≡ g → a ≤ r → g ≡ max g a
lesser g r a is less = omega arith

pub returns-then-granted-room-clause-settled : goal.returns-then-granted-room-clause-settled
returns-then-granted-room-clause-settled c =
    let h = parts c.args.core.now c.args.author.now c.args.intake.now.seat.me.0 in
    let b = c.requires.beating in
    let is = c.grant-room.ensures h.author.past.image b.legal.world (its_mount h b) (its_heart h b).stands in
    let found : c.granted-granted.new.intake.seat.me.0.intake ≡ c.args.intake.now.seat.me.0.intake =
    ap (λ (v : View). v.intake) c.granted-granted.ensures.found in
    let desk : c.grant.new.intake.seat.me.0.intake ≡ record c.args.intake.now.seat.me.0.intake { granted = c.grant-room.result } =
    ap (λ (v : View). v.intake) c.grant.ensures.granted ∙ ap (λ (d : Desk). record d { granted = c.grant-room.result }) found in
    let grants : c.grant.new.intake.seat.me.0.intake.granted ≡ c.grant-room.result = ap (λ (d : Desk). d.granted) desk in
    grant_settles h b c.requires.drained c.grant-room.result is c.grant.new.intake.seat.me.0 c.requires.none
    (c.grant.ensures.ring.1 ∙ sym c.requires.ring.1)
    (ap (λ (v : View). v.pass) c.grant.ensures.granted ∙ ap (λ (v : View). v.pass) c.granted-granted.ensures.found)
    (desk ∙ ap (λ n. record c.args.intake.now.seat.me.0.intake { granted = n }) (sym grants))
    (grants ∙ greater c.args.intake.now.seat.me.0.intake.granted c.granted-granted.result c.grant-room.result
    c.granted-granted.ensures.granted c.if-granted-room.true)

pub returns-else-granted-room-clause-settled : goal.returns-else-granted-room-clause-settled
returns-else-granted-room-clause-settled c =
    let h = parts c.args.core.now c.args.author.now c.args.intake.now.seat.me.0 in
    let b = c.requires.beating in
    let is = c.grant-room.ensures h.author.past.image b.legal.world (its_mount h b) (its_heart h b).stands in
    let found : c.granted-granted.new.intake.seat.me.0.intake ≡ c.args.intake.now.seat.me.0.intake =
    ap (λ (v : View). v.intake) c.granted-granted.ensures.found in
    let grants : c.granted-granted.new.intake.seat.me.0.intake.granted ≡ c.args.intake.now.seat.me.0.intake.granted = ap (λ (d : Desk). d.granted) found in
    grant_settles h b c.requires.drained c.grant-room.result is c.granted-granted.new.intake.seat.me.0 c.requires.none
    (c.granted-granted.ensures.ring.1 ∙ sym c.requires.ring.1)
    (ap (λ (v : View). v.pass) c.granted-granted.ensures.found)
    (found ∙ ap (λ n. record c.args.intake.now.seat.me.0.intake { granted = n }) (sym grants))
    (grants ∙ lesser c.args.intake.now.seat.me.0.intake.granted c.granted-granted.result c.grant-room.result c.granted-granted.ensures.granted
    (let no = c.if-granted-room.false in omega arith))

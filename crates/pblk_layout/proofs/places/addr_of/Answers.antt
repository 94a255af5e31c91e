use Rattle.std.proofs.Common.{◌≡◌, ◌*◌, ◌/◌, ◌<◌, ◌≤◌, Some, true, false, inl, inr, sym, ap, ◌∙◌, refl, arith}
use Rattle.pblk_model.specs.LineOrder.{address_of}
use Rattle.std.proofs.Math.Nat.{mul-le-mul_left, div-le_self}
use Rattle.pblk_layout.specs.Online.{is_in, units_in}
use Rattle.pblk_layout.proofs.Sets.{member, bit_zero, bit_one}
use Rattle.pblk_layout.proofs.Sizes.{clba_is_short}
use Rattle.pblk_layout.proofs.Orders.{only, at, found_short}
use Rattle.pblk_layout.proofs.places.addr_of.Goals as goal
use Rattle.pblk_layout.proofs.places.addr_of.Goals.{then-not-is_in-via-then-not-is_in, then-not-is_in-via-else-not-is_in+then-block-shape}

-- no address is that of a block that isn't there
pub returns-then-not-is_in-clause-only : goal.returns-then-not-is_in-clause-only
returns-then-not-is_in-clause-only c = λ a h.
    let is = at c.args.shape.now (units_in c.args.online) a c.args.unit c.args.block c.line_order_is.ensures.block c.line_order_is.ensures.length
    c.one_to_one.ensures c.requires.accepted.drive.ws_opt c.requires.accepted.drive.whole_stripes h in
    let there = member c.args.online c.args.unit _ is.unit_is in
    let inside : c.args.block < c.args.shape.now.clba = is.block in
    elim c.then-not-is_in.branch [
      | then-not-is_in-via-then-not-is_in w ↦ absurd (let e : false ≡ true = sym w.if-not-is_in.true ∙ c.is_in.ensures.is ∙ there.1 in cc)
      | then-not-is_in-via-else-not-is_in+then-block-shape w ↦ absurd (omega arith)
    ]

pub returns-then-not-is_in-clause-none : goal.returns-then-not-is_in-clause-none
returns-then-not-is_in-clause-none c =
    elim c.then-not-is_in.branch [
      | then-not-is_in-via-then-not-is_in w ↦ (λ _. inl (bit_zero c.args.online c.args.unit (sym c.is_in.ensures.is ∙ w.if-not-is_in.true)), λ _. refl)
      | then-not-is_in-via-else-not-is_in+then-block-shape w ↦ (λ _. inr w.if-block-shape.true, λ _. refl)
    ]

pub overflow_mul-stripe : goal.overflow_mul-stripe
overflow_mul-stripe c =
    let few : c.width.result ≤ 64 = omega (arith, c.width.ensures.few 64 (omega arith)) in
    let row : c.args.block / c.args.shape.now.ws_opt ≤ c.args.block = div-le_self c.args.block c.args.shape.now.ws_opt in
    let product : c.args.block / c.args.shape.now.ws_opt * c.width.result ≤ c.args.block / c.args.shape.now.ws_opt * 64 =
    mul-le-mul_left (c.args.block / c.args.shape.now.ws_opt) few in
    let short : c.args.shape.now.clba ≤ 65536 = clba_is_short c.a_line_is_short.ensures c.args.shape.now c.requires.accepted in
    omega arith

pub overflow_add-stripe : goal.overflow_add-stripe
overflow_add-stripe c =
    let is : is_in c.args.online c.args.unit ≡ true = sym c.is_in.ensures.is ∙ c.if-not-is_in.false in
    let f = found_short c.args.shape.now c.args.online c.width.result c.rank.result c.args.unit c.args.block c.line_order_is.ensures.block
    c.address_is_of.ensures
    c.a_line_is_short.ensures c.requires.accepted c.width.ensures.width (c.width.ensures.few _ c.requires.online) c.rank.ensures
    (rw c.if-not-is_in.false at c.is_in.ensures.below) is c.if-block-shape.false in
    omega (arith, f.0, f.1, f.3, f.4)

pub overflow_mul-result : goal.overflow_mul-result
overflow_mul-result c =
    let is : is_in c.args.online c.args.unit ≡ true = sym c.is_in.ensures.is ∙ c.if-not-is_in.false in
    let f = found_short c.args.shape.now c.args.online c.width.result c.rank.result c.args.unit c.args.block c.line_order_is.ensures.block
    c.address_is_of.ensures
    c.a_line_is_short.ensures c.requires.accepted c.width.ensures.width (c.width.ensures.few _ c.requires.online) c.rank.ensures
    (rw c.if-not-is_in.false at c.is_in.ensures.below) is c.if-block-shape.false in
    omega (arith, f.0, f.1, f.3, f.4)

pub overflow_add-result : goal.overflow_add-result
overflow_add-result c =
    let is : is_in c.args.online c.args.unit ≡ true = sym c.is_in.ensures.is ∙ c.if-not-is_in.false in
    let f = found_short c.args.shape.now c.args.online c.width.result c.rank.result c.args.unit c.args.block c.line_order_is.ensures.block
    c.address_is_of.ensures
    c.a_line_is_short.ensures c.requires.accepted c.width.ensures.width (c.width.ensures.few _ c.requires.online) c.rank.ensures
    (rw c.if-not-is_in.false at c.is_in.ensures.below) is c.if-block-shape.false in
    omega (arith, f.0, f.1, f.3, f.4)

pub returns-clause-found : goal.returns-clause-found
returns-clause-found c =
    let is : is_in c.args.online c.args.unit ≡ true = sym c.is_in.ensures.is ∙ c.if-not-is_in.false in
    (found_short c.args.shape.now c.args.online c.width.result c.rank.result c.args.unit c.args.block c.line_order_is.ensures.block c.address_is_of.ensures
    c.a_line_is_short.ensures c.requires.accepted c.width.ensures.width (c.width.ensures.few _ c.requires.online) c.rank.ensures
    (rw c.if-not-is_in.false at c.is_in.ensures.below) is c.if-block-shape.false).2

pub returns-clause-only : goal.returns-clause-only
returns-clause-only c = λ a h.
    let is = only c.args.shape.now c.args.online c.width.result c.args.unit c.args.block a c.line_order_is.ensures.block c.line_order_is.ensures.length
    c.one_to_one.ensures c.requires.accepted.drive.ws_opt c.requires.accepted.drive.whole_stripes c.width.ensures.width h in
    ap (λ k. Some (address_of c.args.shape.now c.width.result k c.args.block)) c.rank.ensures ∙ ap (λ x. Some x) is

pub returns-clause-none : goal.returns-clause-none
returns-clause-none c = (
  λ never. absurd cc,
  λ h. elim h [
    | inl e ↦ absurd (let one = bit_one c.args.online c.args.unit (sym c.is_in.ensures.is ∙ c.if-not-is_in.false) in omega (arith, one, e))
    | inr e ↦ absurd (omega arith)
  ],
)

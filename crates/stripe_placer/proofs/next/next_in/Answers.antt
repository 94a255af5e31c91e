use Rattle.std.proofs.Common.{◌≡◌, ◌*◌, ◌/◌, ◌<◌, ℕ, Some, length, refl, sym, ap, ◌∙◌, arith}
use Rattle.std.specs.List.{slice_get}
use Rattle.std.specs.Option.{option_map}
use Rattle.pblk_model.specs.declared.shape.Shape.{Shape}
use Rattle.pblk_model.specs.LineOrder.{line_order}
use Rattle.pblk_layout.specs.Online.{units_in}
use Rattle.stripe_placer.specs.OpenLines.{OpenLine, width, unit_of}
use Rattle.stripe_placer.specs.Placing.{placement, next_positions}
use Rattle.stripe_placer.proofs.Places.{stripe_inside, place_is, its_unit_below, next_program}
use Rattle.stripe_placer.proofs.next.next_in.Goals as goal

pub overflow_mul-at : goal.overflow_mul-at
overflow_mul-at c =
    let s : Shape = c.args.layout.now in
    let l : OpenLine = c.args.slot.now in
    let j = c.in_ok-stripe.stripe in
    let inside : j * s.ws_opt < width l * s.clba =
    stripe_inside (width l) s.clba s.ws_opt j c.shape.ensures.accepted.drive.ws_opt c.shape.ensures.accepted.drive.whole_stripes
    (omega (arith, c.in_ok-stripe.ensures.inside, c.requires.stripes)) in
    let at : j * c.shape.result.now.ws_opt ≡ j * s.ws_opt = ap (λ (t : Shape). j * t.ws_opt) c.shape.ensures.shape in
    omega (arith, inside, at, c.a_line_is_short.ensures s (width l) c.shape.ensures.accepted c.requires.few)

pub place-unit-requires-clause-inside : goal.place-unit-requires-clause-inside
place-unit-requires-clause-inside c =
    let s : Shape = c.args.layout.now in
    let l : OpenLine = c.args.slot.now in
    let j = c.in_ok-stripe.stripe in
    let inside : j * s.ws_opt < width l * s.clba =
    stripe_inside (width l) s.clba s.ws_opt j c.shape.ensures.accepted.drive.ws_opt c.shape.ensures.accepted.drive.whole_stripes
    (omega (arith, c.in_ok-stripe.ensures.inside, c.requires.stripes)) in
    let at : j * c.shape.result.now.ws_opt ≡ j * s.ws_opt = ap (λ (t : Shape). j * t.ws_opt) c.shape.ensures.shape in
    let wide : length (units_in c.online.result) ≡ width l = ap (λ n. length (units_in n)) c.online.ensures in
    omega (arith, inside, at, ap (λ n. n * s.clba) wide)

placed_at : (c : goal.After-line)
    → (c.place-unit.result.0 ≡ unit_of c.args.slot.now c.in_ok-stripe.stripe)
    × (c.place-unit.result.1 ≡ c.in_ok-stripe.stripe / width c.args.slot.now * c.args.layout.now.ws_opt)
placed_at c =
    let s : Shape = c.args.layout.now in
    let l : OpenLine = c.args.slot.now in
    let j = c.in_ok-stripe.stripe in
    let r : ℕ × ℕ = c.place-unit.result in
    let at : j * c.shape.result.now.ws_opt ≡ j * s.ws_opt = ap (λ (t : Shape). j * t.ws_opt) c.shape.ensures.shape in
    let there : slice_get (line_order s (units_in l.online)) (j * s.ws_opt) ≡ Some r =
    ap (λ n. slice_get (line_order s (units_in n)) (j * s.ws_opt)) (sym c.online.ensures)
    ∙ ap (λ a. slice_get (line_order s (units_in c.online.result)) a) (sym at) ∙ c.place-unit.ensures in
    place_is s l j r c.line_order_is.ensures.block c.shape.ensures.accepted.drive.ws_opt c.shape.ensures.accepted.drive.whole_stripes c.requires
    c.in_ok-stripe.ensures.inside there

pub returns-clause-next : goal.returns-clause-next
returns-clause-next c =
    let s : Shape = c.args.layout.now in
    let l : OpenLine = c.args.slot.now in
    let j = c.in_ok-stripe.stripe in
    let e = c.args.queue.now.entries in
    let at : j * c.shape.result.now.ws_opt ≡ j * s.ws_opt = ap (λ (t : Shape). j * t.ws_opt) c.shape.ensures.shape in
    let place = placed_at c in
    let of = next_positions s e c.kind-kind.result in
    ap (option_map placement)
    (next_program s e l c.line.result (j * c.shape.result.now.ws_opt) c.place-unit.result.0 c.place-unit.result.1 c.next_count-count.result j
    c.kind-kind.result of c.in_ok-stripe.ensures.next c.kind-kind.ensures
    (sym c.allows.ensures ∙ c.if-not-allows.false) c.line.ensures at place.0 place.1 c.next_count-count.ensures refl)

pub returns-clause-unit : goal.returns-clause-unit
returns-clause-unit c =
    let unit = (placed_at c).0 in
    omega (arith, unit, its_unit_below c.args.layout.now c.args.slot.now c.in_ok-stripe.stripe c.requires)

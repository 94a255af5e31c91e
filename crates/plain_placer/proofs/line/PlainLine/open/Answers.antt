use Rattle.std.proofs.Common.{◌≡◌, ◌*◌, ◌/◌, ◌<◌, ◌≤◌, ◌^◌, length, sym, subst, ap, ◌∙◌}
use Rattle.std.proofs.lemmas.List.{length-replicate}
use Rattle.pblk_model.specs.declared.shape.Shape.{Shape}
use Rattle.stripe_placer.specs.OpenLines.Stripe.{Unplaced}
use Rattle.plain_placer.proofs.Steps.{stripes_fit}
use Rattle.plain_placer.proofs.line.PlainLine.open.Goals as goal

pub returns-clause-short : goal.returns-clause-short
returns-clause-short c =
    let shape = c.args.layout.now in
    let width = c.width-width.result in
    let blocks : width * shape.clba ≤ 65536 = c.a_line_is_short.ensures shape width c.shape-shape.ensures.accepted c.width-width.ensures.few in
    let count : length c.in_ok-unplaced.field-0.items ≡ width * (shape.clba / shape.ws_opt) = ap length c.in_ok-unplaced.ensures ∙ length-replicate _ Unplaced
    ∙ ap (λ (s : Shape). width * (s.clba / s.ws_opt)) c.shape-shape.ensures.shape in
    subst (λ n. n * shape.ws_opt < 2 ^ 32) (sym count) (stripes_fit width shape.clba shape.ws_opt blocks)

use Rattle.std.proofs.Common.{◌*◌, ◌/◌, ◌<◌, ◌^◌, length, sym, subst, arith}
use Rattle.pblk_model.specs.declared.shape.Shape.{Shape}
use Rattle.plain_placer.proofs.Steps.{block_fits}
use Rattle.plain_placer.proofs.placer.next_in.Goals as goal

pub overflow_cast-result-2 : goal.overflow_cast-result-2
overflow_cast-result-2 c =
    let short : c.in_ok-stripe.stripe / c.width.result * c.shape.result.now.ws_opt < 2 ^ 32 =
    subst (λ (s : Shape). c.in_ok-stripe.stripe / c.width.result * s.ws_opt < 2 ^ 32) (sym c.shape.ensures.shape)
    (block_fits c.in_ok-stripe.stripe c.width.result c.args.layout.now.ws_opt (length c.args.line.now.stripes) c.in_ok-stripe.ensures.inside c.requires) in
    omega arith

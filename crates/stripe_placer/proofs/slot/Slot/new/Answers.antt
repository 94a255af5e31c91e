use Rattle.std.proofs.Common.{◌≢◌, ◌*◌, ◌/◌, sym, ap, subst, ◌∙◌, arith}
use Rattle.pblk_model.specs.declared.shape.Shape.{Shape}
use Rattle.pblk_model.specs.LineOrder.{start_len, data_len}
use Rattle.stripe_placer.proofs.Opening.{Opens, count_short, opened_keeps, opened_tallies, opened_line, opened_fits}
use Rattle.stripe_placer.specs.OpenLines.{OpenLine}
use Rattle.stripe_placer.specs.Inside.{FitsShape}
use Rattle.stripe_placer.proofs.slot.Slot.new.Goals as goal

opens : (c : goal.After-all_open)
    → Opens c.args.layout.now c.args.online c.width-width.result (c.start_len.result / c.shape-shape.result.now.ws_opt)
    (c.data_len.result / c.shape-shape.result.now.ws_opt)
    (c.width-width.result * (c.shape-shape.result.now.clba / c.shape-shape.result.now.ws_opt)) c.all_open.result
opens c =
    let s : Shape = c.args.layout.now in
    let w = c.width-width.result in
    record {
      accepted = c.shape-shape.ensures.accepted;
      width_is = c.width-width.ensures.width;
      few = c.width-width.ensures.few;
      some = subst (λ g. data_len s g ≢ 0) (sym c.width-width.ensures.width) c.requires.data;
      start_is = ap (λ n. n / c.shape-shape.result.now.ws_opt) c.start_len.ensures.len ∙ ap (λ (t : Shape). start_len s / t.ws_opt) c.shape-shape.ensures.shape;
      data_is = ap (λ n. n / c.shape-shape.result.now.ws_opt) c.data_len.ensures.len ∙ ap (λ (t : Shape). data_len s w / t.ws_opt) c.shape-shape.ensures.shape;
      count_is = ap (λ (t : Shape). w * (t.clba / t.ws_opt)) c.shape-shape.ensures.shape;
      chunks_are = c.all_open.ensures;
      short = c.a_line_is_short.ensures s w c.shape-shape.ensures.accepted c.width-width.ensures.few;
    }

pub overflow_mul-result : goal.overflow_mul-result
overflow_mul-result c = omega (arith, count_short _ _ _ _ _ _ _ (opens c))

pub invariant_of-result : goal.invariant_of-result
invariant_of-result c = record { keeps = opened_keeps _ _ _ _ _ _ _ (opens c); counts = opened_tallies _ _ _ _ _ _ _ (opens c) }

pub returns : goal.returns
returns c =
    let view = opened_line _ c.args.line _ _ _ _ _ _ (opens c) in
    record {
      opened = view;
      fits =
          subst (λ (l : OpenLine). FitsShape c.args.layout.now l) (sym view) (opened_fits _ c.args.line _ _ _ _ _ _ (opens c) c.requires.online);
    }

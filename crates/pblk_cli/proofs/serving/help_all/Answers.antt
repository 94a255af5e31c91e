use Rattle.std.proofs.Common.{◌≡◌, ◌<◌, length, slice_get, slice_index_or, Some, ap, subst, sym, ◌∙◌, arith}
use Rattle.std.proofs.lemmas.Option.{get_or_from_slice_get, slice_get_within}
use Rattle.pblk_cli.proofs.Tasks.{went_on}
use Rattle.pblk_cli.proofs.serving.help_all.Goals as goal

pub returns : goal.returns
returns g c =
    let old = c.args.workers.now.items in
    let xs = c.as_mut_slice.result.now in
    let ys = c.for_each_mut.new.s in
    let slice = c.as_mut_slice.ensures.value in
    let long : length ys ≡ length xs = c.for_each_mut.auto.s in
    let same : length ys ≡ length old = long ∙ ap length slice in
    record {
      helped = went_on c.args.helpers c.args.workers.now.len old ys (omega (arith, c.args.workers.now.ok.0)) same
          (λ i was w p q.
          let inside : i < length xs = omega (arith, slice_get_within old i was p, long, same) in
          let each = (c.for_each_mut.ensures i was inside).1 in
          let before : slice_index_or xs i was ≡ was = get_or_from_slice_get xs i was was (subst (λ zs. slice_get zs i ≡ Some was) (sym slice) p) in
          let after : slice_index_or ys i was ≡ w = get_or_from_slice_get ys i w was q in (
            ap (λ v. v.number) (sym after ∙ sym each.left) ∙ each.call.0 ∙ ap (λ v. v.number) (each.argument_is ∙ before),
            λ past. sym after ∙ sym each.left ∙ each.call.1 past ∙ each.argument_is ∙ before,
          ));
    }

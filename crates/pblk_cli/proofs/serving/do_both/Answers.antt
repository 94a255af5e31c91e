use Rattle.std.proofs.Common.{◌≡◌, ◌<◌, drop, length, slice_get, slice_index_or, Some, ap, refl, subst, sym, ◌∙◌, arith}
use denote.Param.Send.{sendable}
use Rattle.std.proofs.lemmas.Option.{get_or_from_slice_get, slice_get_read, slice_get_within}
use Rattle.pblk_model.proofs.Parts.{take_front}
use Rattle.block_target.specs.Sessions.{device}
use Rattle.pblk_cli.specs.Serving.{HasDone, HaveAllDone}
use Rattle.pblk_cli.proofs.serving.do_both.Goals as goal

pub for_each_mut-requires-clause-accepts : goal.for_each_mut-requires-clause-accepts
for_each_mut-requires-clause-accepts g c κs within = λ i p below is.
    let tasks = c.args.tasks.now.items in
    let slice = c.as_mut_slice.ensures.value in
    let task : slice_get tasks i ≡ Some p.now =
    subst (λ xs. slice_get xs i ≡ Some p.now) slice (slice_get_read c.as_mut_slice.result.now (length c.as_mut_slice.result.now) i p.now refl below is) in
    let ready = c.requires.ready i p.now task in
    (search sendable depth 20, search sendable depth 30)

pub returns : goal.returns
returns g c =
    let old = c.args.tasks.now.items in
    let xs = c.as_mut_slice.result.now in
    let ys = c.for_each_mut.new.s in
    let slice = c.as_mut_slice.ensures.value in
    let long : length ys ≡ length xs = c.for_each_mut.auto.s in
    let same : length ys ≡ length old = long ∙ ap length slice in
    let model = device g.M.Mount.past g.M.Mount.handed g.M.Mount.wear in
    record {
      done = subst (HaveAllDone model c.args.helpers old)
          (sym (take_front ys (drop (length ys) old) c.args.tasks.now.len (omega (arith, same, c.args.tasks.now.ok.0))))
          (record {
            count = same;
            done = λ i was new p q.
                let inside : i < length xs = omega (arith, slice_get_within old i was p, long, same) in
                let each = (c.for_each_mut.ensures i was inside).1 in
                let before : slice_index_or xs i was ≡ was = get_or_from_slice_get xs i was was (subst (λ zs. slice_get zs i ≡ Some was) (sym slice) p) in
                let after : slice_index_or ys i was ≡ new = get_or_from_slice_get ys i new was q in
                subst (λ t. HasDone model c.args.helpers t new) (each.argument_is ∙ before)
                (subst (HasDone model c.args.helpers each.argument.now) (each.left ∙ after) each.call);
          });
    }

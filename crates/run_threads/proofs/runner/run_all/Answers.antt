use Rattle.std.proofs.Common.{◌≡◌, ◌<◌, length, slice_get, slice_index_or, Some, ap, subst, sym, ◌∙◌, arith}
use Rattle.std.proofs.lemmas.Option.{get_or_from_slice_get, slice_get_within}
use Rattle.pblk_model.proofs.Parts.{got_within}
use Rattle.run_threads.specs.Threads.{HasRun}
use Rattle.run_threads.proofs.Scripts.{item_at}
use Rattle.run_threads.proofs.Whole.{of_slice}
use Rattle.run_threads.proofs.runner.run_all.Goals as goal

pub for_each_mut-requires-clause-accepts : goal.for_each_mut-requires-clause-accepts
for_each_mut-requires-clause-accepts g c κs within = λ i p below is.
    let threads = c.args.threads.now.items in
    let slice = c.as_mut_slice.ensures.value in
    let inside : i < length threads = subst (λ xs. i < length xs) slice below in
    let thread : slice_get threads i ≡ Some p.now = subst (λ xs. slice_get xs i ≡ Some p.now) slice (item_at c.as_mut_slice.result.now i p.now below is) in
    let commands = got_within c.args.script.now i (omega (arith, inside, c.requires.count)) in
    (commands.0, commands.1, c.requires.ready i commands.0 p.now commands.1 thread)

pub returns-clause-ran : goal.returns-clause-ran
returns-clause-ran g c = λ i commands old new p q r.
    let threads = c.args.threads.now.items in
    let xs = c.as_mut_slice.result.now in
    let ys = c.for_each_mut.new.s in
    let slice = c.as_mut_slice.ensures.value in
    let long : length ys ≡ length xs = c.for_each_mut.auto.s in
    let same : length ys ≡ length threads = long ∙ ap length slice in
    let inside : i < length threads = slice_get_within threads i old q in
    let was : slice_get xs i ≡ Some old = subst (λ zs. slice_get zs i ≡ Some old) (sym slice) q in
    let is : slice_get ys i ≡ Some new = of_slice c.args.threads.now.len ys threads i new (omega (arith, same, inside)) r in
    let each = (c.for_each_mut.ensures i old (omega (arith, long, same, inside))).1 in
    subst (λ t. HasRun g.P.Port.model c.args.board.now commands t new) (each.argument_is ∙ get_or_from_slice_get xs i old old was)
    (subst (λ t. HasRun g.P.Port.model c.args.board.now commands each.argument.now t)
    (◌∙◌ {b = slice_index_or ys i old} each.left (get_or_from_slice_get ys i new old is))
    (each.call commands p))

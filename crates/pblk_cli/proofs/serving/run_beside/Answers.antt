use Rattle.std.proofs.Common.{subst}
use Rattle.block_target.specs.Sessions.{device}
use Rattle.pblk_cli.specs.declared.serving.Task.TheVariants.{Helpers, Threads}
use Rattle.pblk_cli.specs.Serving.{HasDone}
use Rattle.pblk_cli.proofs.Tasks.{first_taken, second_taken}
use Rattle.pblk_cli.proofs.serving.run_beside.Goals as goal

pub unreachable-requires : goal.unreachable-requires
unreachable-requires g c =
    let model = device g.M.Mount.past g.M.Mount.handed g.M.Mount.wear in
    let a = Helpers c.args.workers in
    let b = Threads c.args.prepared in
    subst (HasDone model c.args.helpers a) c.in-Threads.is
    (first_taken model c.args.helpers a b c.take_first.result _ _ _ _ _ c.requires.empty c.put.ensures.items c.put-2.ensures.items c.do_both.ensures.done
    c.take_first.ensures.items)

pub unreachable-requires-in-Helpers-take_first : goal.unreachable-requires-in-Helpers-take_first
unreachable-requires-in-Helpers-take_first g c =
    let model = device g.M.Mount.past g.M.Mount.handed g.M.Mount.wear in
    let a = Helpers c.args.workers in
    let b = Threads c.args.prepared in
    subst (HasDone model c.args.helpers b) c.in-Helpers-take_first.is
    (second_taken model c.args.helpers a b c.take_first.result c.take_first-2.result _ _ _ _ _ _ c.requires.empty c.put.ensures.items c.put-2.ensures.items
    c.do_both.ensures.done c.take_first.ensures.items c.take_first-2.ensures.items)

pub returns-clause-ran : goal.returns-clause-ran
returns-clause-ran g c =
    let model = device g.M.Mount.past g.M.Mount.handed g.M.Mount.wear in
    let a = Helpers c.args.workers in
    let b = Threads c.args.prepared in
    subst (HasDone model c.args.helpers b) c.in-Threads-take_first.is
    (second_taken model c.args.helpers a b c.take_first.result c.take_first-2.result _ _ _ _ _ _ c.requires.empty c.put.ensures.items c.put-2.ensures.items
    c.do_both.ensures.done c.take_first.ensures.items c.take_first-2.ensures.items)

pub returns-clause-helped : goal.returns-clause-helped
returns-clause-helped g c =
    let model = device g.M.Mount.past g.M.Mount.handed g.M.Mount.wear in
    let a = Helpers c.args.workers in
    let b = Threads c.args.prepared in
    subst (HasDone model c.args.helpers a) c.in-Helpers.is
    (first_taken model c.args.helpers a b c.take_first.result _ _ _ _ _ c.requires.empty c.put.ensures.items c.put-2.ensures.items c.do_both.ensures.done
    c.take_first.ensures.items)

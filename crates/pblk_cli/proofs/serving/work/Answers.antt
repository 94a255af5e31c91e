use Rattle.std.proofs.Common.{◌≡◌, ◌+◌, ◌++◌, length, length-append, take, drop, ap, sym, subst, ◌∙◌, arith}
use Rattle.block_target.specs.Sessions.{device}
use Rattle.block_target.specs.Targets.{first_sessions}
use Rattle.pblk_cli.specs.Serving.{HaveGoneOn, HaveHelped, helpers_for, sessions_for}
use Rattle.pblk_model.proofs.Parts.{take_and_drop}
use Rattle.pblk_cli.proofs.Sessions.{accepted_for, enough_sessions, few_helpers, first_helped, firsts_count, helped_then, many_back, ports_many, unrun, workers_count}
use Rattle.pblk_cli.proofs.serving.work.Goals as goal

pub returns-in-Err-clause-workers : goal.returns-in-Err-clause-workers
returns-in-Err-clause-workers g c = ap length c.requires.workers ∙ workers_count g.M.Mount.past (sessions_for (length c.args.script.now)) (c.args.lanes + 1)

pub returns-in-Err-clause-helped : goal.returns-in-Err-clause-helped
returns-in-Err-clause-helped g c =
    let s = sessions_for (length c.args.script.now) in
    subst (HaveHelped s (helpers_for c.args.lanes c.args.collector)) (sym c.requires.workers)
    (first_helped g.M.Mount.past s (helpers_for c.args.lanes c.args.collector) (c.args.lanes + 1))

pub seat-requires-clause-enough : goal.seat-requires-clause-enough
seat-requires-clause-enough g c =
    let n = length c.args.script.now in
    let slice = ap length c.as_slice-threads.ensures in
    let count = ap length c.requires.tickets ∙ firsts_count g.M.Mount.past g.M.Mount.key g.M.Mount.handed g.M.Mount.wear c.args.script.now in
    omega (arith, slice, count, enough_sessions n)

pub prepare-requires-clause-ports : goal.prepare-requires-clause-ports
prepare-requires-clause-ports g c =
    let script = c.args.script.now in
    let n = length script in
    let firsts = first_sessions g.M.Mount.past g.M.Mount.key (sessions_for n) in
    let slice = c.as_slice-threads.ensures in
    let ports : c.seat.new.ports.items ≡ take n firsts =
    c.seat.ensures.ports ∙ ap (λ xs. take (length xs) c.args.tickets.now.items) slice ∙ ap (take n) c.requires.tickets in
    ap length ports ∙ ports_many g.M.Mount.past g.M.Mount.key g.M.Mount.handed g.M.Mount.wear c.args.script.now

pub prepare-requires-clause-accepted : goal.prepare-requires-clause-accepted
prepare-requires-clause-accepted g c = accepted_for g.M.Mount.past g.M.Mount.key g.M.Mount.handed g.M.Mount.wear c.args.script.now
    c.seat.new.ports.items c.requires.fits c.requires.flows

pub run_beside-prepared-requires-clause-enough : goal.run_beside-prepared-requires-clause-enough
run_beside-prepared-requires-clause-enough g c = λ κs within.
    let count = ap length c.requires.workers ∙ workers_count g.M.Mount.past (sessions_for (length c.args.script.now)) (c.args.lanes + 1) in
    omega (arith, count, few_helpers c.args.lanes c.args.collector, c.helper_count-helpers.ensures)

pub unseat-requires : goal.unseat-requires
unseat-requires g c =
    let script = c.args.script.now in
    let n = length script in
    let firsts = first_sessions g.M.Mount.past g.M.Mount.key (sessions_for n) in
    let slice = c.as_slice-threads.ensures in
    let ports : c.seat.new.ports.items ≡ take n firsts =
    c.seat.ensures.ports ∙ ap (λ xs. take (length xs) c.args.tickets.now.items) slice ∙ ap (take n) c.requires.tickets in
    let rest : c.seat.new.tickets.items ≡ drop n firsts =
    c.seat.ensures.tickets ∙ ap (λ xs. drop (length xs) c.args.tickets.now.items) slice ∙ ap (drop n) c.requires.tickets in
    let model = device g.M.Mount.past g.M.Mount.handed g.M.Mount.wear in
    let ran = c.end-records.ensures c.in-Ok-prepare.prepared c.run_beside-prepared.ensures.ran in
    let back : length c.end-records.result.1.items ≡ n =
    many_back _ c.end-records.result.0 _ c.end-records.result.1.items model ran ∙ ap length c.in-Ok-prepare.ensures.script in
    let count = ap length c.requires.tickets ∙ firsts_count g.M.Mount.past g.M.Mount.key g.M.Mount.handed g.M.Mount.wear c.args.script.now in
    let all = sym (length-append (take n firsts) (drop n firsts)) ∙ ap length (take_and_drop n firsts)
    ∙ firsts_count g.M.Mount.past g.M.Mount.key g.M.Mount.handed g.M.Mount.wear c.args.script.now in
    let many = ports_many g.M.Mount.past g.M.Mount.key g.M.Mount.handed g.M.Mount.wear c.args.script.now in
    let left = ap length rest in
    record { room = omega (arith, left, back, all, many, count, c.seat.ensures.room, c.args.tickets.now.ok.0, c.args.tickets.now.ok.1) }

pub returns-in-Ok-prepare-clause-workers : goal.returns-in-Ok-prepare-clause-workers
returns-in-Ok-prepare-clause-workers g c =
    c.run_beside-prepared.ensures.helped.count ∙ ap length c.requires.workers
    ∙ workers_count g.M.Mount.past (sessions_for (length c.args.script.now)) (c.args.lanes + 1)

pub returns-in-Ok-prepare-clause-helped : goal.returns-in-Ok-prepare-clause-helped
returns-in-Ok-prepare-clause-helped g c =
    let s = sessions_for (length c.args.script.now) in
    let helpers = helpers_for c.args.lanes c.args.collector in
    let went = subst (λ n. HaveGoneOn n c.args.workers.items c.run_beside-prepared.result.1.items) c.helper_count-helpers.ensures
    c.run_beside-prepared.ensures.helped in
    helped_then s helpers c.args.workers.items c.run_beside-prepared.result.1.items
    (subst (HaveHelped s helpers) (sym c.requires.workers) (first_helped g.M.Mount.past s helpers (c.args.lanes + 1))) went

pub returns-in-Err-prepare-clause-unrun : goal.returns-in-Err-prepare-clause-unrun
returns-in-Err-prepare-clause-unrun g c =
    let script = c.args.script.now in
    let n = length script in
    let firsts = first_sessions g.M.Mount.past g.M.Mount.key (sessions_for n) in
    let slice = c.as_slice-threads.ensures in
    let ports : c.seat.new.ports.items ≡ take n firsts =
    c.seat.ensures.ports ∙ ap (λ xs. take (length xs) c.args.tickets.now.items) slice ∙ ap (take n) c.requires.tickets in
    let rest : c.seat.new.tickets.items ≡ drop n firsts =
    c.seat.ensures.tickets ∙ ap (λ xs. drop (length xs) c.args.tickets.now.items) slice ∙ ap (drop n) c.requires.tickets in
    c.unseat-in-Err-prepare.ensures.tickets ∙ ap (λ xs. c.seat.new.tickets.items ++ xs) (c.in-Err-prepare.ensures.err ∙ ports)
    ∙ ap (λ xs. xs ++ take n firsts) rest ∙ unrun g.M.Mount.past g.M.Mount.key g.M.Mount.handed g.M.Mount.wear c.args.script.now ∙ sym c.requires.tickets

pub returns-in-Err-prepare-clause-workers : goal.returns-in-Err-prepare-clause-workers
returns-in-Err-prepare-clause-workers g c = ap length c.requires.workers
    ∙ workers_count g.M.Mount.past (sessions_for (length c.args.script.now)) (c.args.lanes + 1)

pub returns-in-Err-prepare-clause-helped : goal.returns-in-Err-prepare-clause-helped
returns-in-Err-prepare-clause-helped g c =
    let s = sessions_for (length c.args.script.now) in
    subst (HaveHelped s (helpers_for c.args.lanes c.args.collector)) (sym c.requires.workers)
    (first_helped g.M.Mount.past s (helpers_for c.args.lanes c.args.collector) (c.args.lanes + 1))

use Rattle.std.proofs.Common.{◌∙◌, ◌+◌, ◌-◌, length, replicate, slice_range, ap, arith}
use Rattle.pblk_model.specs.Shape.{units}
use Rattle.pblk_model.specs.Marks.{meta_mark}
use Rattle.pblk_model.specs.Blocks.{blocks_of}
use Rattle.pblk_model.specs.LineOrder.{start_len, end_len, data_len}
use Rattle.pblk_core.specs.Filling.{followed_by}
use Rattle.pblk_core.proofs.Runs.{longest, longest_bytes, run_within, stripe_of, only_front}
use Rattle.pblk_core.proofs.records.LineRecords.end_stripe.Goals as goal

pub write_once-requires-clause-room : goal.write_once-requires-clause-room
write_once-requires-clause-room c =
    let q = c.self.inside in
    let least = c.end_len_is_least.ensures q.layout in
    let h = longest q.layout q.width (least q.width c.self.invariant.accepted) (least (units q.layout) c.self.invariant.accepted) c.self.invariant.width in
    longest_bytes q.layout q.width _ h (ap length c.as_mut_slice-out.ensures.value ∙ c.self.invariant.room_for_end)

pub add_run-requires-clause-within : goal.add_run-requires-clause-within
add_run-requires-clause-within c =
    let q = c.self.inside in
    let least = c.end_len_is_least.ensures q.layout in
    let within = rw (← c.self.view_is) at c.requires.within in
    let from = rw (← c.self.view_is) at c.requires.from in
    let h = longest q.layout q.width (least q.width c.self.invariant.accepted) (least (units q.layout) c.self.invariant.accepted) c.self.invariant.width in
    let long = longest_bytes q.layout q.width _ h (c.write_once.ensures.len ∙ (ap length c.as_mut_slice-out.ensures.value ∙ c.self.invariant.room_for_end)) in
    run_within (c.args.at - (c.start_len.result + c.data_len.result)) q.layout.ws_opt (end_len q.layout q.width) q.layout.sector _
    (omega (arith, within, from, c.start_len.ensures.len, c.data_len.ensures.len)) long

pub returns-clause-blocks : goal.returns-clause-blocks
returns-clause-blocks c =
    let q = c.self.inside in
    let out = c.write_once.new.out in
    let count = end_len q.layout q.width in
    let begins = start_len q.layout + data_len q.layout q.width in
    let within = rw (← c.self.view_is) at c.requires.within in
    let from = rw (← c.self.view_is) at c.requires.from in
    let blocks = stripe_of q.layout.sector count q.layout.ws_opt (c.args.at - (c.start_len.result + c.data_len.result)) begins c.args.at out (meta_mark q.seq)
    (omega (arith, c.start_len.ensures.len, c.data_len.ensures.len)) (omega (arith, within, from, c.start_len.ensures.len, c.data_len.ensures.len)) in
    let whole = only_front q.layout.sector count out (meta_mark q.seq)
    ∙ ap (λ bs. blocks_of q.layout.sector bs (replicate count (meta_mark q.seq))) c.write_once.ensures.written in
    rw (← c.self.view_is, ← c.deref.ensures.value)
    (c.add_run.ensures ∙ ap (followed_by c.args.into.now) blocks
    ∙ ap (λ bs. followed_by c.args.into.now (slice_range bs (c.args.at - begins) (c.args.at - begins + q.layout.ws_opt))) whole)

use Rattle.std.proofs.Common.{◌∙◌, ap, arith}
use Rattle.pblk_model.specs.Marks.{meta_mark}
use Rattle.pblk_model.specs.LineOrder.{start_len}
use Rattle.pblk_core.specs.Filling.{followed_by}
use Rattle.pblk_core.proofs.Runs.{stripe_of}
use Rattle.pblk_core.proofs.records.LineRecords.start_stripe.Goals as goal

pub returns : goal.returns
returns c =
    let q = c.self.inside in
    let within = rw (← c.self.view_is) at c.requires.within in
    let blocks = stripe_of q.layout.sector (start_len q.layout) q.layout.ws_opt c.args.at 0 c.args.at c.deref.result.now (meta_mark q.seq)
    (omega arith) within in
    rw (← c.self.view_is, ← c.deref.ensures.value) (c.add_run.ensures ∙ ap (followed_by c.args.into.now) blocks)

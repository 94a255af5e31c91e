use Rattle.std.proofs.Common.{refl}
use Rattle.pblk_model.specs.Marks.{pad_mark}
use Rattle.pblk_core.proofs.Filled.{padded_up}
use Rattle.pblk_core.proofs.stripe.Stripe.pad.Goals as goal

pub returns : goal.returns
returns c =
    let q = c.self.inside in
    rw (
      ← c.self.view_is,
      c.fill_zeros.ensures.items,
      c.fill_marks.ensures.items,
      padded_up q.shape.sector q.bytes.items q.marks.items q.shape.ws_opt pad_mark c.self.invariant.whole c.self.invariant.within,
    ) refl

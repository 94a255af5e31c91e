use Rattle.std.proofs.Common.{◌≡◌, ◌≢◌, sym, ap, ◌∙◌, subst}
use denote.RawPtr.{block_ptr}
use Rattle.pblk_model.specs.Frames.{FrameView, AreApart, range_start}
use Rattle.sector_pool.proofs.Flags.{apart}
use Rattle.sector_pool.proofs.frame.Frame.apart.Goals as goal

pub returns-clause-apart : goal.returns-clause-apart
returns-clause-apart c same =
    let f = c.self.inside in
    let g = c.other.inside in
    let f_range = c.self.invariant.range.0 in
    let g_range = c.other.invariant.range.0 in
    let one_region : f.origin.region ≡ g.origin.region =
    ap (λ (v : FrameView). v.region) c.self.view_is ∙ (same ∙ sym (ap (λ (v : FrameView). v.region) c.other.view_is)) in
    -- of two frames with one number the bytes would begin at one place
    let other : f.number ≢ g.number = λ number. c.differ.ensures.0
    (f_range ∙ ((λ i. block_ptr (one_region i).block (range_start (one_region i) (number i))) ∙ sym g_range)) in
    subst (λ (v : FrameView). AreApart v.region v.number c.args.other.now.number) c.self.view_is
    (subst (λ (v : FrameView). AreApart f.origin.region f.number v.number) c.other.view_is
    (apart f.origin.region f.number g.number c.self.invariant.fits other))

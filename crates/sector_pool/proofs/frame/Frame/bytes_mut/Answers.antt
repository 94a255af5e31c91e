use Rattle.std_alloc.specs.Vec.{with_items_from}
use Rattle.std.proofs.Common.{◌≡◌, ℕ, List, ◌++◌, take, drop, length, refl, sym, ap, ◌∙◌, subst, arith}
use Rattle.std.specs.List.{slice_range}
use lib.ListN.{length-take}
use Rattle.pblk_model.specs.Frames.{FrameView}
use Rattle.sector_pool.specs.Inside.{frame_view}
use Rattle.sector_pool.specs.Lending.{with_bytes}
use Rattle.sector_pool.proofs.Lending.{lent_bytes}
use Rattle.sector_pool.proofs.frame.Frame.bytes_mut.Goals as goal

pub returns : goal.returns
returns c =
    let f = c.self.inside in
    let h = c.self.invariant in
    let xs = f.bytes.items in
    let whole : slice_range xs 0 f.size ≡ take f.size xs = ap (λ k. take k xs) (omega arith) in
    let told = c.slice_mut.ensures.value ∙ whole in
    let count = length-take f.size xs in
    let view : List ℕ → FrameView = λ l. record { region = f.origin.region; number = f.number; bytes = l } in (
      (
        refl,
        λ w. subst (λ (v : FrameView). frame_view (record f { bytes = with_items_from f.bytes 0 w }) ≡ with_bytes v w) c.self.view_is
            (ap view (lent_bytes f.size f.bytes.len w xs (drop (length (w ++ drop (length w) xs)) xs) (omega (arith, h.size, h.fits, h.range.1))
            (sym f.bytes.ok.0) ∙ ap (λ n. take n (w ++ drop (length w) (take f.size xs))) h.size)),
      ),
      record {
        writes_back = tt;
        bytes = told ∙ ap (λ (v : FrameView). v.bytes) c.self.view_is;
        size = ap length told ∙ omega (arith, count, h.size, h.fits, h.range.1, f.bytes.ok.0) ∙ h.size ∙ ap (λ (v : FrameView). v.region.size) c.self.view_is;
      },
    )

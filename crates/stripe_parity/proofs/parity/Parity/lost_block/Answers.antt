use Rattle.std.proofs.Common.{◌≡◌, ◌<◌, ℕ, List, Some, length, map, slice_get, refl, sym, ap, ◌∙◌, subst, arith}
use Rattle.std.proofs.lemmas.List.{length-map}
use Rattle.std.proofs.lemmas.Option.{none-some, same_Some, slice_get_read}
use Rattle.std.proofs.lemmas.Result.{IfOk-weaker}
use Rattle.pblk_model.specs.declared.shape.Shape.{Shape}
use Rattle.pblk_model.specs.declared.chunk.Mark.{Mark}
use Rattle.pblk_model.specs.Chunk.{Block}
use Rattle.pblk_model.proofs.Parts.{all_get, got_within}
use Rattle.ocssd_chunks.specs.DriveChunk.{DriveChunk}
use Rattle.ocssd_drive.specs.Units.{IsChunkIn}
use Rattle.scan_recovery.specs.Units.{image_of}
use Rattle.stripe_parity.specs.ParityFile.{ParityFile}
use Rattle.stripe_parity.specs.Rebuilding.{AreAsKept, IsRebuiltBlock, kept_pointer}
use Rattle.stripe_parity.specs.Sound.{parity_file}
use Rattle.stripe_parity.specs.Xors.{blocks_but, xor_onto}
use Rattle.stripe_parity.proofs.LostBlocks.{IsBelowKept, below_kept, closed_as_kept, rebuilt_block, row_here}
use Rattle.stripe_parity.proofs.parity.Parity.lost_block.Given.{Over}
use Rattle.stripe_parity.proofs.parity.Parity.lost_block.Goals as goal
use Rattle.stripe_parity.proofs.parity.Parity.lost_block.Goals.{After-written}

module _ (g : Over) (c : After-written g) where
  abbrev own : ParityFile
  own = parity_file c.self.inside

  abbrev rows : List DriveChunk
  rows = c.self.inside.rows.items

  -- the block is one of its row
  has : IsBelowKept own c.args.lost c.args.chunk c.args.block
  has =
      below_kept own c.args.lost c.args.chunk c.args.block c.self.invariant.parity
      (subst (λ (q : ParityFile). c.args.block < kept_pointer q.chunks c.args.chunk c.args.lost) (sym c.self.view_is) c.requires.written)

  -- and the row is one of the list
  low : c.args.chunk < length rows
  low =
      let there : c.args.chunk < own.shape.chunks = has.chunk_there in
      omega (arith, there, c.self.invariant.parity.rows_are, length-map rows (λ (x : DriveChunk). x.chunk.blocks))

  -- where it lies
  row : slice_get own.rows c.args.chunk ≡ Some c.index.result.now.chunk.blocks
  row = row_here rows c.args.chunk c.index.result.now low c.index.ensures

pub unreachable-requires : goal.unreachable-requires
unreachable-requires g c =
    let d = (goal.at.unreachable-requires g c).After-written in
    let b = has g d in
    let blocks = c.index.result.now.chunk.blocks in
    let same : b.row ≡ blocks = same_Some b.row blocks (sym b.row_there ∙ row g d) in
    let x = got_within blocks c.args.block (subst (λ (bs : List Block). c.args.block < length bs) same b.within) in
    none-some x.0 (c.in_default.ensures.block ∙ x.1)

pub copy_from_slice-requires : goal.copy_from_slice-requires
copy_from_slice-requires g c =
    let d = (goal.at.copy_from_slice-requires g c).After-written in
    let fits = all_get (IsChunkIn c.self.inside.shape) (rows g d) c.args.chunk c.index.result.now c.self.invariant.rows
    (slice_get_read (rows g d) (length (rows g d)) c.args.chunk c.index.result.now refl (low g d) c.index.ensures) in
    c.requires.out ∙ ap (λ (q : ParityFile). q.shape.sector) (sym c.self.view_is) ∙ sym (c.in-Some.ensures.size ∙ ap (λ (s : Shape). s.sector) fits.shape)

pub add_units-requires-clause-closed : goal.add_units-requires-clause-closed
add_units-requires-clause-closed g c = λ unit k other there.
    let us = map g.U.Unit.model c.args.units.now in
    closed_as_kept (parity_file c.self.inside) (image_of c.self.inside.shape us) c.args.lost c.args.chunk unit k c.self.invariant.parity
    (subst (λ (q : ParityFile). AreAsKept q.chunks (image_of q.shape us) c.args.lost) (sym c.self.view_is) c.requires.same)
    (λ e. other (ap (λ x. Some x) (sym e))) there

pub add_units-requires-clause-chunk : goal.add_units-requires-clause-chunk
add_units-requires-clause-chunk g c = (has g (goal.at.add_units-requires-clause-chunk g c).After-written).chunk_there

pub returns-clause-block : goal.returns-clause-block
returns-clause-block g c =
    let us = map g.U.Unit.model c.args.units.now in
    let i = image_of c.self.inside.shape us in
    let from : Block = record { sector = c.in-Some.sector.now; mark = c.in-Some.mark } in
    IfOk-weaker c.add_units.result _ _ (λ (m : Mark) h.
    subst (λ (q : ParityFile). IsRebuiltBlock q (image_of q.shape us) c.args.lost c.args.chunk c.args.block (record { sector = c.add_units.new.sum; mark = m }))
    c.self.view_is
    (rebuilt_block (parity_file c.self.inside) i c.args.lost c.args.chunk c.args.block c.index.result.now.chunk.blocks from
    (record { sector = c.add_units.new.sum; mark = m }) (row g (goal.at.returns-clause-block g c).After-written) (sym c.in-Some.ensures.block)
    (h ∙ ap (λ (l : List ℕ). xor_onto (record { sector = l; mark = c.in-Some.mark }) (blocks_but i (Some c.args.lost) c.args.chunk c.args.block))
    c.copy_from_slice.ensures.after))) c.add_units.ensures.sum

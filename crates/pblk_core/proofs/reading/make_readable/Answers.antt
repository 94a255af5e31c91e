use Rattle.std.proofs.Common.{◌≡◌, ◌<◌, ◌≤◌, true, sym, subst, ap, ◌∙◌, arith}
use Rattle.write_window.specs.Window.{WindowView, IsHeld, has_landed_at}
use Rattle.std.specs.Option.{option_to_list}
use Rattle.pblk_core.specs.Readable.{reads_of, all_moved, all_readable, block_reads}
use Rattle.pblk_core.proofs.ReadRuns.{read_within, reads_keep, window_more, map_more}
use Rattle.pblk_core.proofs.reading.make_readable.Goals as goal

pub make_block_readable-requires-clause-held : goal.make_block_readable-requires-clause-held
make_block_readable-requires-clause-held c = λ b e.
    let low : c.args.from ≤ c.loop-block.block = omega arith in
    let high : c.loop-block.block < c.args.to = omega arith in
    subst (λ (w : WindowView). IsHeld w b.mark.position × (has_landed_at w b.mark.position ≡ true)) (sym c.loop-block.invariant.window)
    (reads_keep (reads_of c.args.slot.now c.args.unit c.args.from c.loop-block.block) c.args.window.now b.mark.position
    (c.requires.held b (read_within c.args.slot.now c.args.unit c.args.from c.args.to c.loop-block.block b low high e)))

pub loop-block-preserved : goal.loop-block-preserved
loop-block-preserved c =
    let low : c.args.from ≤ c.loop-block.block = omega arith in
    let b = c.loop-block.block in
    record {
      window = c.make_block_readable.ensures.window
          ∙ ap (λ (w : WindowView). all_readable w (option_to_list (block_reads c.args.slot.now c.args.unit c.loop-block.block))) c.loop-block.invariant.window
          ∙ window_more c.args.window.now c.args.slot.now c.args.unit c.args.from c.loop-block.block low;
      map = c.make_block_readable.ensures.map
          ∙ ap (λ m. all_moved c.args.layout.now.capacity c.args.slot.now.records.line m
          (option_to_list (block_reads c.args.slot.now c.args.unit c.loop-block.block))) c.loop-block.invariant.map
          ∙ map_more c.args.layout.now.capacity c.args.slot.now.records.line c.args.map.now c.args.slot.now c.args.unit c.args.from c.loop-block.block low;
      capacity = c.make_block_readable.ensures.capacity ∙ c.loop-block.invariant.capacity;
      past = λ h. absurd (omega arith);
    }

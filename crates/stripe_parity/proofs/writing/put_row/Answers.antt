use Rattle.std.proofs.Common.{take, sym, arith}
use Rattle.std.specs.List.{flat_map}
use Rattle.std.proofs.lemmas.Result.{err_from_is_err_and}
use Rattle.pblk_model.specs.ImageFile.{block_bytes}
use Rattle.stripe_parity.proofs.Putting.{some_more, puts_next}
use Rattle.stripe_parity.proofs.writing.put_row.Goals as goal
use Rattle.pblk_model.proofs.Maps.{pieces_all}

pub returns-in_err-put_block : goal.returns-in_err-put_block
returns-in_err-put_block c =
    let p = err_from_is_err_and c.from_residual.result c.from_residual.ensures.1 in
    rw p.1 (some_more c.args.out.now.items c.loop-block.out.items c.put_block.new.out.items
    (flat_map block_bytes (take c.loop-block.block c.args.row.now.chunk.blocks)) c.loop-block.invariant c.in_err-put_block.ensures)

pub loop-block-preserved : goal.loop-block-preserved
loop-block-preserved c =
    puts_next block_bytes c.args.row.now.chunk.blocks c.loop-block.block
    (record { sector = c.in-Some.sector.now; mark = c.in-Some.mark }) c.args.out.now.items c.loop-block.out.items c.put_block.new.out.items
    (sym c.in-Some.ensures.block) c.loop-block.invariant c.in_ok-put_block.ensures

pub returns : goal.returns
returns c = pieces_all block_bytes c.args.row.now.chunk.blocks c.loop-block.block c.args.out.now.items c.loop-block.out.items
    (omega (arith, c.loop-block-test.false, c.state-state.ensures.pointer)) c.loop-block.invariant

use Rattle.std.proofs.Common.{◌≡◌, ◌+◌, ◌*◌, ◌≤◌, take, sym, ap, ◌∙◌, subst, arith}
use Rattle.pblk_model.specs.declared.shape.Shape.{Shape}
use Rattle.pblk_model.specs.Chunk.{pointer}
use Rattle.pblk_model.specs.ImageFile.{StoredChunk}
use Rattle.ocssd_drive.specs.Units.{stored_chunks}
use Rattle.drive_image.specs.Storing.{written_in}
use Rattle.drive_image.proofs.Adding.{sum_all}
use Rattle.drive_image.proofs.Wholes.{unit_length}
use Rattle.drive_image.proofs.counting.unit_blocks.Goals as goal
use Rattle.drive_image.proofs.counting.unit_blocks.Goals.{After-state-state}
use Rattle.pblk_model.proofs.ChunkLemmas.{pointer_within}
use Rattle.pblk_model.proofs.Numbers.{blocks_more}
use Rattle.pblk_model.proofs.AcceptedLemmas.{unit_few}
use Rattle.pblk_model.proofs.Maps.{sum_take}

-- the pointer that was found is within the chunk
within : (c : After-state-state) → c.state-state.result.1 ≤ c.args.kept.now.unit.shape.clba
within c =
    let found = c.kept_chunk-wear.result.0.now in
    let place = pointer_within found.chunk.state found.shape.clba (pointer found.chunk) c.state-state.ensures.fits.place in
    subst (λ (s : Shape). c.state-state.result.1 ≤ s.clba) c.kept_chunk-wear.ensures.shape
    (subst (λ n. n ≤ found.shape.clba) (sym c.state-state.ensures.pointer) place)

pub overflow_add-blocks : goal.overflow_add-blocks
overflow_add-blocks c =
    let s = c.args.kept.now.unit.shape in
    let low = within (goal.at.overflow_add-blocks c).After-state-state in
    let sum : c.loop-chunk.blocks + c.state-state.result.1 ≤ c.args.chunks * s.clba =
    blocks_more c.args.chunks c.loop-chunk.chunk s.clba c.loop-chunk.blocks c.state-state.result.1 c.loop-chunk-test.true c.loop-chunk.invariant.few low in
    let all : s.chunks * s.clba ≤ 268435456 = unit_few s c.requires.accepted in
    let same : c.args.chunks * s.clba ≡ s.chunks * s.clba = ap (λ n. n * s.clba) c.requires.chunks in
    omega arith

pub loop-chunk-preserved : goal.loop-chunk-preserved
loop-chunk-preserved c =
    let s = c.args.kept.now.unit.shape in
    let ks = stored_chunks c.args.kept.now in
    let n = c.loop-chunk.chunk in
    record {
      counted = ap (λ m. m + c.state-state.result.1) c.loop-chunk.invariant.counted
          ∙ (ap (λ m. written_in (take n ks) + m) c.state-state.ensures.pointer
          ∙ sym (sum_take (λ (k : StoredChunk). pointer k.chunk) ks n _ c.kept_chunk-wear.ensures.kept));
      few = blocks_more (n + 1) n s.clba c.loop-chunk.blocks c.state-state.result.1 (omega arith) c.loop-chunk.invariant.few
          (within (goal.at.loop-chunk-preserved c).After-state-state);
    }

pub returns-clause-sum : goal.returns-clause-sum
returns-clause-sum c =
    let ks = stored_chunks c.args.kept.now in
    let same : c.args.chunks ≡ c.loop-chunk.chunk = omega arith in
    c.loop-chunk.invariant.counted ∙ sum_all (λ (k : StoredChunk). pointer k.chunk) ks c.loop-chunk.chunk
    (unit_length c.args.kept.now.unit.shape c.args.kept.now c.requires.fits ∙ (sym c.requires.chunks ∙ same))

pub returns-clause-few : goal.returns-clause-few
returns-clause-few c =
    let s = c.args.kept.now.unit.shape in
    let same : c.loop-chunk.chunk ≡ c.args.chunks = omega arith in
    subst (λ n. c.loop-chunk.blocks ≤ n * s.clba) (same ∙ c.requires.chunks) c.loop-chunk.invariant.few

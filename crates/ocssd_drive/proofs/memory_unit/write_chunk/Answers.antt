use Rattle.std.proofs.Common.{◌≡◌, ◌*◌, ◌<◌, ◌≤◌, length, None, ◌∙◌, sym, subst}
use Rattle.pblk_model.specs.declared.shape.Shape.{Shape}
use Rattle.pblk_model.specs.Blocks.{blocks_of}
use Rattle.pblk_model.specs.ChunkStep.{Write, refusal}
use Rattle.ocssd_drive.proofs.UnitWrites.{write_of, fewer_land, most_land, fails, stops}
use Rattle.ocssd_drive.proofs.memory_unit.write_chunk.Goals as goal
use Rattle.pblk_model.proofs.BlocksLemmas.{length-blocks_of}

pub multiples_of-requires : goal.multiples_of-requires
multiples_of-requires c = write_of c.args.shape.now c.args.chunk.now.chunk c.args.at c.args.bytes.now c.args.marks.now (rw c.in-Fails.is at c.requires.taken)

pub multiples_of-requires-in-Stops : goal.multiples_of-requires-in-Stops
multiples_of-requires-in-Stops c = write_of c.args.shape.now c.args.chunk.now.chunk c.args.at c.args.bytes.now c.args.marks.now (rw c.in-Stops.is at c.requires.taken)

pub returns-in-Fails : goal.returns-in-Fails
returns-in-Fails c =
    let s = c.args.shape.now in
    let taken = rw c.in-Fails.is at c.requires.taken in
    let count = length-blocks_of s.sector c.args.bytes.now c.args.marks.now in
    let n = c.multiples_of.result in
    let blocks = blocks_of s.sector c.args.bytes.now c.args.marks.now in
    let part = fewer_land n s.ws_min c.in-Fails.cut c.min-landed.result (length blocks) (c.multiples_of.ensures.whole ∙ sym count) (subst (λ k. 0 < k) (sym count) (write_of s c.args.chunk.now.chunk c.args.at c.args.bytes.now c.args.marks.now taken).some) c.multiples_of.ensures.some c.min-landed.ensures in
    rw c.in-Fails.is (
    fails s c.args.chunk.now c.fail_write.new.self c.args.at c.in-Fails.cut n _ blocks taken (rw count c.multiples_of.ensures.quotient) c.min-landed.ensures part
    (rw c.requires.chunk.shape at c.fail_write.ensures.chunk)
    (record { shape = c.fail_write.ensures.shape ∙ c.requires.chunk.shape; fits = rw (c.fail_write.ensures.shape, c.requires.chunk.shape) at c.fail_write.ensures.fits }))

pub returns-in-Stops : goal.returns-in-Stops
returns-in-Stops c =
    let s = c.args.shape.now in
    let taken = rw c.in-Stops.is at c.requires.taken in
    let count = length-blocks_of s.sector c.args.bytes.now c.args.marks.now in
    let n = c.multiples_of-in-Stops.result in
    let blocks = blocks_of s.sector c.args.bytes.now c.args.marks.now in
    let part = most_land n s.ws_min c.in-Stops.cut c.min-landed-in-Stops.result (length blocks) (c.multiples_of-in-Stops.ensures.whole ∙ sym count) c.min-landed-in-Stops.ensures in
    rw c.in-Stops.is (
    stops s c.args.chunk.now c.cut_write.new.self c.args.at c.in-Stops.cut n _ blocks taken (rw count c.multiples_of-in-Stops.ensures.quotient) c.min-landed-in-Stops.ensures part
    c.cut_write.ensures.none
    (rw c.requires.chunk.shape at c.cut_write.ensures.chunk)
    (record { shape = c.cut_write.ensures.shape ∙ c.requires.chunk.shape; fits = rw (c.cut_write.ensures.shape, c.requires.chunk.shape) at c.cut_write.ensures.fits }))

pub fail_write-requires-clause-taken : goal.fail_write-requires-clause-taken
fail_write-requires-clause-taken c = subst (λ (s : Shape). refusal s c.args.chunk.now.chunk (Write c.args.at (blocks_of s.sector c.args.bytes.now c.args.marks.now)) ≡ None) (sym c.requires.chunk.shape) (rw c.in-Fails.is at c.requires.taken)

pub fail_write-requires-clause-part : goal.fail_write-requires-clause-part
fail_write-requires-clause-part c = subst (λ (s : Shape). c.min-landed.result * s.ws_min < length c.args.marks.now) (sym c.requires.chunk.shape)
    (fewer_land _ _ c.in-Fails.cut _ _ c.multiples_of.ensures.whole (write_of c.args.shape.now c.args.chunk.now.chunk c.args.at c.args.bytes.now c.args.marks.now (rw c.in-Fails.is at c.requires.taken)).some c.multiples_of.ensures.some c.min-landed.ensures)

pub cut_write-requires-clause-taken : goal.cut_write-requires-clause-taken
cut_write-requires-clause-taken c = subst (λ (s : Shape). refusal s c.args.chunk.now.chunk (Write c.args.at (blocks_of s.sector c.args.bytes.now c.args.marks.now)) ≡ None) (sym c.requires.chunk.shape) (rw c.in-Stops.is at c.requires.taken)

pub cut_write-requires-clause-part : goal.cut_write-requires-clause-part
cut_write-requires-clause-part c = subst (λ (s : Shape). c.min-landed-in-Stops.result * s.ws_min ≤ length c.args.marks.now) (sym c.requires.chunk.shape)
    (most_land _ _ c.in-Stops.cut _ _ c.multiples_of-in-Stops.ensures.whole c.min-landed-in-Stops.ensures)

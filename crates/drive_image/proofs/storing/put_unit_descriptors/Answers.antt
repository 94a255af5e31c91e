use Rattle.std.proofs.Common.{◌≡◌, ◌<◌, ℕ, List, length, get_or, sym, ◌∙◌, subst, arith}
use Rattle.std.specs.List.{enumerate_from}
use Rattle.std.proofs.lemmas.List.FromFn.{length-enumerate_from}
use Rattle.std.proofs.lemmas.Option.{slice_get-get_or}
use Rattle.pblk_model.specs.Chunk.{free_chunk}
use Rattle.pblk_model.specs.ImageFile.{StoredChunk, descriptor_bytes, descriptor_of}
use Rattle.ocssd_geometry.specs.Numbers.{numbers_of}
use Rattle.ocssd_drive.specs.Units.{stored_chunks}
use Rattle.drive_image.proofs.Adding.{all_added, enumerated, one_added, room_left}
use Rattle.drive_image.proofs.Wholes.{unit_length}
use Rattle.drive_image.proofs.storing.put_unit_descriptors.Goals as goal
use Rattle.pblk_model.proofs.DescriptorLemmas.{descriptor_length}

abbrev none : StoredChunk
none = record { chunk = free_chunk; wear = 0 }

pub put_descriptor-requires-clause-room : goal.put_descriptor-requires-clause-room
put_descriptor-requires-clause-room c =
    let g = numbers_of c.args.geometry.now in
    let ks = stored_chunks c.args.kept.now in
    let n : ℕ = c.loop-chunk.chunk in
    let f : ℕ × StoredChunk → List ℕ = λ k. descriptor_bytes g c.args.unit k.0 k.1 in
    let count : length ks ≡ c.args.geometry.now.chunks = unit_length c.args.kept.now.unit.shape c.args.kept.now c.requires.fits ∙ c.requires.chunks in
    let within : n < length ks = subst (λ m. n < m) (sym count) c.loop-chunk-test.true in
    let x : StoredChunk = get_or ks n none in
    let room = room_left f (enumerate_from 0 ks) n (n, x) c.args.out.now c.loop-chunk.out c.requires.room c.loop-chunk.invariant
    (enumerated ks n x (slice_get-get_or ks n none within)) in
    let size : length (f (n, x)) ≡ 32 = descriptor_length (descriptor_of g c.args.unit n x) in
    omega arith

pub loop-chunk-preserved : goal.loop-chunk-preserved
loop-chunk-preserved c =
    let g = numbers_of c.args.geometry.now in
    let ks = stored_chunks c.args.kept.now in
    let put = c.put_descriptor.ensures in
    one_added (λ (k : ℕ × StoredChunk). descriptor_bytes g c.args.unit k.0 k.1) (enumerate_from 0 ks) c.loop-chunk.chunk
    (c.loop-chunk.chunk, put.found) c.args.out.now c.loop-chunk.out c.put_descriptor.new.out c.loop-chunk.invariant
    (enumerated ks c.loop-chunk.chunk put.found put.there) put.added

pub returns : goal.returns
returns c =
    let g = numbers_of c.args.geometry.now in
    let ks = stored_chunks c.args.kept.now in
    let same : c.args.geometry.now.chunks ≡ c.loop-chunk.chunk = omega arith in
    all_added (λ (k : ℕ × StoredChunk). descriptor_bytes g c.args.unit k.0 k.1)
    (enumerate_from 0 ks) c.loop-chunk.chunk c.args.out.now c.loop-chunk.out c.loop-chunk.invariant
    (length-enumerate_from 0 ks ∙ (unit_length c.args.kept.now.unit.shape c.args.kept.now c.requires.fits ∙ (c.requires.chunks ∙ same)))

use Rattle.std.proofs.Common.{◌≡◌, ◌+◌, ◌<◌, List, [], ◌∷◌, ◌++◌, length, length-append, map, sym, ap, subst, ◌∙◌, append_assoc, append-nil, arith}
use Rattle.std.specs.List.{AllByRecursion}
use Rattle.std.specs.Vec.Iter.{into_iter_items}
use Rattle.std.proofs.lemmas.List.{length-map, nil_from_length}
use Rattle.pblk_model.specs.declared.shape.Shape.{Shape}
use Rattle.pblk_model.specs.Chunk.{Chunk}
use Rattle.pblk_model.specs.Shape.{units}
use Rattle.pblk_model.proofs.Lists.{all_front}
use Rattle.pblk_model.proofs.Maps.{map_last}
use Rattle.ocssd_chunks.specs.DriveChunk.{DriveChunk}
use Rattle.ocssd_drive.specs.Drive.{DriveView, shape_of}
use Rattle.ocssd_drive.specs.Units.{IsChunkIn}
use Rattle.stripe_parity.specs.Rebuilding.{drive_image, with_unit}
use Rattle.stripe_parity.proofs.Placing.{ArePut, all_put, olds_there, one_put}
use Rattle.stripe_parity.proofs.rebuilding.put_chunks.Goals as goal
use Rattle.stripe_parity.proofs.rebuilding.put_chunks.Goals.{In-Some}

pub replace_chunk-requires-clause-unit : goal.replace_chunk-requires-clause-unit
replace_chunk-requires-clause-unit c =
    subst (λ (s : Shape). c.args.lost < units s) (c.requires.shape ∙ sym (ap shape_of c.loop-with.invariant.3.numbers)) c.requires.lost

module _ (c : In-Some) where
  -- the chunks that were put, the next one, and the rest
  whole : c.loop-with.yielded ++ c.in-Some.with ∷ into_iter_items c.next.new.self ≡ c.args.chunks.items
  whole =
      ap (λ ys. c.loop-with.yielded ++ ys) (sym c.in-Some.ensures.steps.0)
      ∙ (c.loop-with.invariant.0 ∙ c.into_iter-with-iterator.ensures.into_iter_gives.0)

  -- so the next one is one of the unit's
  below : c.loop-with.chunk < c.args.shape.now.chunks
  below =
      omega (
        arith,
        c.loop-with.invariant.2,
        length-append c.loop-with.yielded (c.in-Some.with ∷ into_iter_items c.next.new.self),
        ap length whole,
        c.requires.count,
      )

pub replace_chunk-requires-clause-chunk : goal.replace_chunk-requires-clause-chunk
replace_chunk-requires-clause-chunk c =
    let numbers = c.loop-with.invariant.3.numbers in
    let chunks : c.loop-with.drive.geometry.chunks ≡ c.args.shape.now.chunks = ap (λ (d : DriveView). d.geometry.chunks) numbers
    ∙ ap (λ (s : Shape). s.chunks) (sym c.requires.shape) in
    subst (λ n. c.loop-with.chunk < n) (sym chunks) (below (goal.at.replace_chunk-requires-clause-chunk c).In-Some)

pub replace_chunk-requires-clause-with : goal.replace_chunk-requires-clause-with
replace_chunk-requires-clause-with c =
    let at = c.loop-with in
    subst (λ (s : Shape). IsChunkIn s c.in-Some.with) (c.requires.shape ∙ sym (ap shape_of at.invariant.3.numbers))
    (all_front (IsChunkIn c.args.shape.now) at.yielded (c.in-Some.with ∷ into_iter_items c.next.new.self)
    (subst (AllByRecursion (IsChunkIn c.args.shape.now)) (sym (whole (goal.at.replace_chunk-requires-clause-with c).In-Some)) c.requires.fits)).1.0

pub overflow_add-chunk : goal.overflow_add-chunk
overflow_add-chunk c = omega (arith, below (goal.at.overflow_add-chunk c).In-Some, c.requires.accepted.drive.lines_high)

pub loop-with-preserved : goal.loop-with-preserved
loop-with-preserved c =
    let at = c.loop-with in
    let x = c.in-Some.with in
    let rest = into_iter_items c.next.new.self in
    let f = λ (y : DriveChunk). y.chunk in
    let steps : into_iter_items at.with-iterator ≡ x ∷ rest = c.in-Some.ensures.steps.0 in
    let low = below (goal.at.loop-with-preserved c).In-Some in
    let o = olds_there c.args.drive.now c.args.lost c.requires.whole (subst (λ (s : Shape). c.args.lost < units s) c.requires.shape c.requires.lost) in
    let many : length (map f at.yielded) ≡ length at.yielded = length-map at.yielded f in
    let same : c.args.shape.now.chunks ≡ (shape_of c.args.drive.now).chunks = ap (λ (s : Shape). s.chunks) c.requires.shape in
    let old-long : length o.0 ≡ (shape_of c.args.drive.now).chunks = o.2 in (
      append_assoc at.yielded (x ∷ []) _ ∙ rw (← steps) at.invariant.0,
      let was = at.invariant.1 in
          let gone = c.in-Some.ensures.steps.1 in
          let short = ap length steps in
          omega arith,
      ap (λ n. n + 1) at.invariant.2 ∙ sym (length-append at.yielded (x ∷ [])),
      subst (λ (cs : List Chunk). ArePut c.args.lost c.args.drive.now cs c.replace_chunk.new.self) (sym (map_last f at.yielded x))
          (one_put c.args.lost at.chunk c.args.drive.now at.drive c.replace_chunk.new.self o.0 (map f at.yielded) x.chunk o.1 (at.invariant.2 ∙ sym many)
          (omega (arith, many, at.invariant.2, low, same, old-long)) at.invariant.3 c.replace_chunk.ensures.replaced c.replace_chunk.ensures.whole),
    )

pub returns-clause-put : goal.returns-clause-put
returns-clause-put c =
    let at = c.loop-with in
    let f = λ (y : DriveChunk). y.chunk in
    let empty : into_iter_items at.with-iterator ≡ [] = nil_from_length (into_iter_items at.with-iterator) (sym at.invariant.1 ∙ c.in-None.ensures.steps.0) in
    let all = sym (append-nil at.yielded) ∙ (rw empty at at.invariant.0 ∙ c.into_iter-with-iterator.ensures.into_iter_gives.0) in
    let o = olds_there c.args.drive.now c.args.lost c.requires.whole (subst (λ (s : Shape). c.args.lost < units s) c.requires.shape c.requires.lost) in
    let same : c.args.shape.now.chunks ≡ (shape_of c.args.drive.now).chunks = ap (λ (s : Shape). s.chunks) c.requires.shape in
    let old-long : length o.0 ≡ (shape_of c.args.drive.now).chunks = o.2 in
    all_put c.args.lost c.args.drive.now at.drive o.0 (map f at.yielded) o.1
    (omega (arith, length-map at.yielded f, ap length all, c.requires.count, same, old-long)) at.invariant.3
    ∙ ap (λ (xs : List DriveChunk). with_unit c.args.lost (map f xs) (drive_image c.args.drive.now)) all

pub returns-clause-wear : goal.returns-clause-wear
returns-clause-wear c = c.loop-with.invariant.3.wear

pub returns-clause-numbers : goal.returns-clause-numbers
returns-clause-numbers c = c.loop-with.invariant.3.numbers

pub returns-clause-whole : goal.returns-clause-whole
returns-clause-whole c = c.loop-with.invariant.3.whole

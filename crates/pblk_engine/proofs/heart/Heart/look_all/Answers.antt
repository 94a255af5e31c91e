use Rattle.std.proofs.Common.{◌≡◌, ◌*◌, ◌+◌, ◌-◌, ◌<◌, ◌≤◌, length, subst, ◌∙◌, arith, length-set}
use Rattle.pblk_model.proofs.Parts.{part_length}
use Rattle.chronicle.specs.Prefixes.{logs_of}
use Rattle.pblk_engine.specs.Reads.{IsLookedFor}
use Rattle.pblk_engine.proofs.RunParts.{ends_before, looked_next}
use Rattle.pblk_engine.proofs.heart.Heart.look_all.Goals as goal

pub loop-index-preserved : goal.loop-index-preserved
loop-index-preserved g c =
    let size = c.sector_size-size.result in
    let index = c.loop-index.index in
    let room : length c.loop-index.look.places ≡ 16 = c.loop-index.invariant.1 in
    let few : c.count_of-count.result ≤ 16 = c.count_of-count.ensures.few in
    let less : index < c.count_of-count.result = c.loop-index-test.true in
    let in_room : index < length c.loop-index.look.places = omega arith in
    let whole : length c.loop-index.out ≡ c.count_of-count.result * size = c.loop-index.auto.out ∙ c.count_of-count.ensures.whole in
    let ends : index * size + size ≤ c.count_of-count.result * size = ends_before index c.count_of-count.result size less in
    let inside : index * size ≤ length c.loop-index.out = omega arith in
    let wide : index * size + size - index * size ≡ size = omega arith in
    let inner : index * size + size ≤ length c.loop-index.out = omega arith in
    let long : length c.look_sector.new.out ≡ size = c.look_sector.ensures.size ∙ part_length (index * size) size c.loop-index.out inner in (
      looked_next g.M.Mount.past.image (logs_of c.args.self.now.author.known) size c.args.lba index (index * size + size - index * size)
          c.loop-index.look.places c.loop-index.out c.look_sector.new.out c.look_sector.result in_room inside long wide c.loop-index.invariant.0
          (subst (λ n. IsLookedFor g.M.Mount.past.image (logs_of c.args.self.now.author.known) (c.args.lba + n) c.look_sector.result c.look_sector.new.out)
          c.from.ensures c.look_sector.ensures.looked),
      length-set c.loop-index.look.places index c.look_sector.result ∙ room,
    )

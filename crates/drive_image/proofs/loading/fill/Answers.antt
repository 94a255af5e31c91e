use Rattle.std.proofs.Common.{◌≡◌, ◌+◌, ◌*◌, ◌<◌, ◌≤◌, ℕ, List, length, ap, ◌∙◌, subst, arith}
use Rattle.pblk_model.specs.declared.shape.Shape.{Shape}
use Rattle.pblk_model.specs.ImageFile as image
use Rattle.pblk_model.specs.ImageFile.{chunks_at, shape_at}
use Rattle.pblk_model.specs.Shape.{units}
use Rattle.pblk_laws.proofs.ImageBytesHeld.{taken_of}
use Rattle.drive_image.specs.Filling.{bytes_of}
use Rattle.drive_image.proofs.Finishing.{IsFilling, begun, gone_on, within_image, finished}
use Rattle.drive_image.proofs.loading.fill.Goals as goal
use Rattle.drive_image.proofs.loading.fill.Goals.{After-units}

counted : (b : List ℕ) (n : ℕ) (s : Shape) → n ≡ units s → s ≡ shape_at b → n * s.chunks ≡ chunks_at b
counted b n s is same = ap (λ m. m * s.chunks) is ∙ ap (λ (s : Shape). units s * s.chunks) same

count_is : (c : After-units) → c.units.result * c.shape-shape.result.chunks ≡ chunks_at c.args.image.now
count_is c = counted c.args.image.now c.units.result c.shape-shape.result c.units.ensures (c.shape-shape.ensures.shape ∙ ap image.shape_of c.requires.blank)

pub loop-n-init : goal.loop-n-init
loop-n-init c = begun c.args.image.now _ c.args.drive.now c.requires.geometry c.requires.blank c.requires.whole c.requires.quiet
    (ap (λ n. 4128 + 32 * n) (count_is c))

pub adopt_chunk-requires-clause-numbers : goal.adopt_chunk-requires-clause-numbers
adopt_chunk-requires-clause-numbers c = c.loop-n.invariant.numbers

pub adopt_chunk-requires-clause-whole : goal.adopt_chunk-requires-clause-whole
adopt_chunk-requires-clause-whole c = c.loop-n.invariant.whole

pub adopt_chunk-requires-clause-index : goal.adopt_chunk-requires-clause-index
adopt_chunk-requires-clause-index c = subst (λ m. c.loop-n.n < m)
    (count_is (goal.at.adopt_chunk-requires-clause-index c).After-units) c.loop-n-test.true

pub adopt_chunk-requires-clause-within : goal.adopt_chunk-requires-clause-within
adopt_chunk-requires-clause-within c = within_image c.args.image.now c.loop-n.n c.loop-n.at _
    (taken_of c.args.image.now c.requires.accepted) c.loop-n.invariant.filled (adopt_chunk-requires-clause-index c)

pub overflow_add-at-in-loop-n : goal.overflow_add-at-in-loop-n
overflow_add-at-in-loop-n c =
    let b = c.args.image.now in
    let inside = subst (λ m. c.loop-n.n < m) (count_is (goal.at.overflow_add-at-in-loop-n c).After-units) c.loop-n-test.true in
    let within : c.loop-n.at + bytes_of b c.loop-n.n ≤ length b = within_image b c.loop-n.n c.loop-n.at _
    (taken_of b c.requires.accepted) c.loop-n.invariant.filled inside in
    let same : c.in_ok-length.length ≡ bytes_of b c.loop-n.n = c.in_ok-length.ensures.length in
    omega arith

pub loop-n-preserved : goal.loop-n-preserved
loop-n-preserved c =
    let r = c.in_ok-length in
    let inside = subst (λ m. c.loop-n.n < m) (count_is (goal.at.loop-n-preserved c).After-units) c.loop-n-test.true in
    gone_on c.args.image.now c.loop-n.n c.loop-n.at r.length c.loop-n.drive c.adopt_chunk.new.drive c.loop-n.invariant r.ensures.got r.ensures.numbers
    r.ensures.whole
    inside r.ensures.length

pub returns-clause-image : goal.returns-clause-image
returns-clause-image c =
    let d = (goal.at.returns-clause-image c).After-units in
    let count = count_is d in
    let same : c.loop-n.n ≡ chunks_at c.args.image.now = omega arith in
    finished c.args.image.now c.loop-n.at c.loop-n.drive (subst (λ n. IsFilling c.args.image.now n c.loop-n.at c.loop-n.drive) same c.loop-n.invariant)

pub returns-clause-quiet : goal.returns-clause-quiet
returns-clause-quiet c = c.loop-n.invariant.quiet

pub returns-clause-whole : goal.returns-clause-whole
returns-clause-whole c = c.loop-n.invariant.whole

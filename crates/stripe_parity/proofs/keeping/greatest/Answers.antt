use Rattle.std.proofs.Common.{◌<◌, length, refl, ◌∙◌, Vec, Global}
use Rattle.std.proofs.lemmas.Option.{slice_get_read}
use Rattle.pblk_model.proofs.Parts.{all_get}
use Rattle.stripe_parity.specs.declared.kept.KeptChunk.{KeptChunk}
use Rattle.stripe_parity.proofs.KeptLists.{most_next}
use Rattle.stripe_parity.proofs.keeping.greatest.Goals as goal

pub loop-of-preserved : goal.loop-of-preserved
loop-of-preserved c =
    let i = c.loop-of.of-index in
    let v = c.of-item.result in
    let kept = c.args.kept.now in
    let there = slice_get_read kept (length kept) i v refl c.loop-of-test.true c.of-item.is in
    let within = all_get (λ (of : Vec KeptChunk Global). c.args.chunk < length of.items) kept i v c.requires there in
    most_next (λ (of : Vec KeptChunk Global). of.items) kept c.args.chunk i c.loop-of.most c.larger-most.result v c.index.result.now c.loop-of-test.true
    c.of-item.is
    (slice_get_read v.items (length v.items) c.args.chunk c.index.result.now refl within c.index.ensures) c.larger-most.ensures ∙ c.loop-of.invariant

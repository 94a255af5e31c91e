use Rattle.std.proofs.Common.{◌<◌, length, refl, sym, ap, ◌∙◌, arith}
use Rattle.std.proofs.lemmas.Option.{slice_get_read}
use Rattle.stripe_parity.specs.ParityFile.{ParityFile, kept_in}
use Rattle.stripe_parity.proofs.LostBlocks.{KeptHere, kept_here}
use Rattle.stripe_parity.proofs.parity.Parity.kept.Goals as goal
use Rattle.stripe_parity.proofs.parity.Parity.kept.Goals.{After-index}

-- what is kept of the unit
here : (c : After-index) → KeptHere c.self.inside.kept.items c.self.inside.shape c.args.unit c.index.result.now
here c = kept_here c.self.inside.kept.items c.self.inside.shape c.args.unit c.index.result.now c.self.invariant.parity.units_are
    c.self.invariant.parity.chunks_are
    (rw (← c.self.view_is) at c.requires.unit) c.index.ensures

pub index-requires-2 : goal.index-requires-2
index-requires-2 c =
    let low : c.args.chunk < c.self.inside.shape.chunks = rw (← c.self.view_is) at c.requires.chunk in
    omega (arith, (here c).long, low, c.index.result.now.ok.0)

pub returns : goal.returns
returns c =
    let at = (goal.at.returns c).After-index in
    let low : c.args.chunk < c.self.inside.shape.chunks = rw (← c.self.view_is) at c.requires.chunk in
    let within : c.args.chunk < length c.index.result.now.items = omega (arith, (here at).long, low) in
    let there = slice_get_read c.index.result.now.items (length c.index.result.now.items) c.args.chunk c.index-2.result.now refl within c.index-2.ensures in
    ap (λ (p : ParityFile). kept_in p.chunks c.args.chunk c.args.unit) (sym c.self.view_is) ∙ (here at).chunk_is c.args.chunk ∙ there

use Rattle.std.proofs.Common.{map, Some, sym, ap, ◌∙◌}
use Rattle.unit_port.proofs.Units.{model_there}
use Rattle.ocssd_drive.specs.Units.{WornUnit}
use Rattle.scan_recovery.proofs.PadLoops.{chunk_here}
use Rattle.pblk_laws.specs.LineBlocks.{chunk_in}
use Rattle.scan_recovery.specs.Units.{image_of}
use Rattle.scan_recovery.proofs.MediaLines.{written_is}
use Rattle.scan_recovery.proofs.PadSteps.{chunk_of}
use Rattle.scan_recovery.proofs.media.is_written_in.Goals as goal

pub chunk-requires : goal.chunk-requires
chunk-requires c =
    let us = map (λ (u : WornUnit). u.unit) c.args.units.now in
    chunk_here c.args.shape.now us c.args.line c.args.unit c.index-units-unit.result.unit c.requires.fit
    (model_there (λ (u : WornUnit). u.unit) c.args.units.now c.args.unit c.index-units-unit.result c.requires.unit
    ∙ ap (λ (x : WornUnit). Some x.unit) (sym c.index-units-unit.is)) c.requires.line

pub returns : goal.returns
returns c =
    let us = map (λ (u : WornUnit). u.unit) c.args.units.now in
    let here = chunk_of c.args.shape.now us c.args.line c.args.unit c.index-units-unit.result.unit
    (model_there (λ (u : WornUnit). u.unit) c.args.units.now c.args.unit c.index-units-unit.result c.requires.unit
    ∙ ap (λ (x : WornUnit). Some x.unit) (sym c.index-units-unit.is)) in
    written_is (chunk_in (image_of c.args.shape.now us) c.args.line c.args.unit) c.chunk.result.now.chunk c.args.block c.state-state.result.1
    (here ∙ c.chunk.ensures.chunk) c.state-state.ensures.pointer

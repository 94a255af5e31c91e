use Rattle.std.proofs.Common.{map, Some, sym, ap, ◌∙◌}
use Rattle.std.specs.List.{slice_get}
use Rattle.std.specs.Option.{option_and_then}
use Rattle.unit_port.proofs.Units.{model_there}
use Rattle.pblk_model.specs.Chunk.{Chunk}
use Rattle.ocssd_drive.specs.Units.{WornUnit}
use Rattle.scan_recovery.proofs.PadLoops.{chunk_here}
use Rattle.scan_recovery.proofs.PadSteps.{chunk_of}
use Rattle.scan_recovery.proofs.media.written_in.Goals as goal

pub chunk-chunk-requires : goal.chunk-chunk-requires
chunk-chunk-requires c =
    let us = map (λ (u : WornUnit). u.unit) c.args.units.now in
    chunk_here c.args.shape.now us c.args.line c.args.unit c.index-units-unit.result.unit c.requires.fit
    (model_there (λ (u : WornUnit). u.unit) c.args.units.now c.args.unit c.index-units-unit.result c.requires.unit
    ∙ ap (λ (x : WornUnit). Some x.unit) (sym c.index-units-unit.is)) c.requires.line

pub returns-in-None : goal.returns-in-None
returns-in-None c =
    let us = map (λ (u : WornUnit). u.unit) c.args.units.now in
    let here = chunk_of c.args.shape.now us c.args.line c.args.unit c.index-units-unit.result.unit
    (model_there (λ (u : WornUnit). u.unit) c.args.units.now c.args.unit c.index-units-unit.result c.requires.unit
    ∙ ap (λ (x : WornUnit). Some x.unit) (sym c.index-units-unit.is)) in
    c.in-None.ensures.block ∙ sym (ap (option_and_then (λ (x : Chunk). slice_get x.blocks c.args.block)) (here ∙ c.chunk-chunk.ensures.chunk))

pub returns-in-Some : goal.returns-in-Some
returns-in-Some c =
    let us = map (λ (u : WornUnit). u.unit) c.args.units.now in
    let here = chunk_of c.args.shape.now us c.args.line c.args.unit c.index-units-unit.result.unit
    (model_there (λ (u : WornUnit). u.unit) c.args.units.now c.args.unit c.index-units-unit.result c.requires.unit
    ∙ ap (λ (x : WornUnit). Some x.unit) (sym c.index-units-unit.is)) in
    c.in-Some.ensures.block ∙ sym (ap (option_and_then (λ (x : Chunk). slice_get x.blocks c.args.block)) (here ∙ c.chunk-chunk.ensures.chunk))

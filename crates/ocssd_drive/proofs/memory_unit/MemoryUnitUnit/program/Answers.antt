use Rattle.std.proofs.Common.{◌≡◌, ◌*◌, length, refl, sym, ap, subst, []}
use Rattle.ocssd_drive.specs.Units.{WornUnit}
use Rattle.pblk_model.specs.Blocks.{blocks_of}
use Rattle.pblk_model.specs.ChunkStep.{ChunkCommand, Write}
use Rattle.unit_port.specs.declared.armed.CommandKind.TheVariants as kinds
use Rattle.unit_port.specs.Armed.{IsUnarmed}
use Rattle.ocssd_drive.proofs.Unarmed.{befalls_nothing, done_by, befalls_no_failure, unfailing_by}
use Rattle.unit_port.specs.Unit.{Takes}
use Rattle.ocssd_drive.specs.Shown.{outcome_of}
use Rattle.ocssd_drive.specs.UnitFields.{worn_unit}
use Rattle.ocssd_drive.specs.Outcomes.{IsByArms}
use Rattle.ocssd_drive.proofs.ByArms.{by_arms_noted}
use Rattle.ocssd_drive.proofs.UnitChunks.{IsFound, found_of}
use Rattle.ocssd_drive.proofs.UnitSteps.{command_within, fails_by, stops_by, sound_after, Finds, finds, takes_under, planned, steps, fit_after}
use Rattle.ocssd_drive.proofs.memory_unit.MemoryUnitUnit.program.Goals as goal
use Rattle.ocssd_drive.proofs.memory_unit.MemoryUnitUnit.program.Goals.{After-index_mut-found, After-result_of}

abbrev command : After-index_mut-found → ChunkCommand
command c = Write c.args.at (blocks_of c.self.inside.shape.sector c.args.bytes.now c.args.marks.now)

takes : (c : After-index_mut-found) → Takes (worn_unit c.self.inside).unit c.args.chunk (command c)
takes c = rw (← c.self.view_is) at c.requires.taken

-- the chunk that was found is the unit's
found : (c : After-index_mut-found) → IsFound c.self.inside c.args.chunk (takes c).found c.index_mut-found.result.now
found c = found_of c.self.inside c.args.chunk (takes c).found _ c.self.invariant (takes c).there c.index_mut-found.ensures.value

befalls : (c : After-index_mut-found) → Finds c.self.inside.journal kinds.Program c.fault-fault.result c.fault-fault.new.self
befalls c = finds _ _ _ _ c.fault-fault.ensures.same c.fault-fault.ensures.loaded c.fault-fault.ensures.fault c.fault-fault.ensures.found c.fault-fault.ensures.stays c.fault-fault.ensures.own

pub write_chunk-landed-requires-clause-chunk : goal.write_chunk-landed-requires-clause-chunk
write_chunk-landed-requires-clause-chunk c = (found (goal.at.write_chunk-landed-requires-clause-chunk c).After-index_mut-found).fits

pub write_chunk-landed-requires-clause-taken : goal.write_chunk-landed-requires-clause-taken
write_chunk-landed-requires-clause-taken c =
    let h = (goal.at.write_chunk-landed-requires-clause-taken c).After-index_mut-found in
    takes_under c.self.inside c.args.chunk (command h) _ c.fault-fault.new.self _ (takes h) (found h) (befalls h)

by_arms : (c : After-result_of) → IsByArms c.self.inside.shape c.note.new.self.armed c.note.new.self.log
by_arms c =
    let h = (goal.at.invariant_of-self c).After-index_mut-found in
    by_arms_noted c.self.inside c.args.chunk (command h) c.fault-fault.result (outcome_of c.write_chunk-landed.result) c.fault-fault.new.self c.note.new.self
    c.self.invariant.by_arms (befalls h) c.write_chunk-landed.ensures.by c.note.ensures.log c.note.ensures.armed

pub returns-clause-planned : goal.returns-clause-planned
returns-clause-planned c =
    let h = (goal.at.returns-clause-planned c).After-index_mut-found in
    rw (← c.self.view_is) (planned c.self.inside c.args.chunk (command h) _ (outcome_of c.write_chunk-landed.result) c.fault-fault.new.self c.note.new.self _ (befalls h) c.write_chunk-landed.ensures.by c.note.ensures.log c.note.ensures.seat)

pub returns-clause-event : goal.returns-clause-event
returns-clause-event c =
    let h = (goal.at.returns-clause-event c).After-index_mut-found in
    rw (← c.self.view_is) (
      outcome_of c.write_chunk-landed.result,
      c.result_of.ensures,
      steps c.self.inside c.args.chunk (command h) _ _ c.fault-fault.new.self c.note.new.self _ _ _ (befalls h) (found h) c.write_chunk-landed.ensures c.note.ensures.log c.note.ensures.armed c.are_blocks.ensures,
    )

pub returns-clause-fits : goal.returns-clause-fits
returns-clause-fits c = fit_after c.self.inside c.args.chunk c.write_chunk-landed.new.chunk c.note.new.self c.self.invariant c.write_chunk-landed.ensures.fits
    (by_arms (goal.at.returns-clause-fits c).After-result_of)

pub returns-clause-quiet : goal.returns-clause-quiet
returns-clause-quiet c = λ unarmed.
    let h = (goal.at.returns-clause-quiet c).After-index_mut-found in
    let un : IsUnarmed c.self.inside.journal.armed = rw (← c.self.view_is) at unarmed in
    done_by c.self.inside.shape (command h) c.fault-fault.result (outcome_of c.write_chunk-landed.result) c.result_of.result (befalls_nothing c.self.inside.journal kinds.Program c.fault-fault.result c.fault-fault.new.self (befalls h) un) c.write_chunk-landed.ensures.by c.result_of.ensures

pub index_mut-found-requires : goal.index_mut-found-requires
index_mut-found-requires c = command_within c.self.inside c.args.self.now c.args.chunk _ c.self.view_is c.requires.taken

pub note-requires-clause-kind : goal.note-requires-clause-kind
note-requires-clause-kind c = refl

pub note-requires-clause-fault : goal.note-requires-clause-fault
note-requires-clause-fault c = c.fault-fault.ensures.fault

pub note-requires-clause-fails : goal.note-requires-clause-fails
note-requires-clause-fails c = fails_by c.self.inside.shape (Write c.args.at (blocks_of c.self.inside.shape.sector c.args.bytes.now c.args.marks.now)) _ _ c.write_chunk-landed.ensures.by

pub note-requires-clause-stops : goal.note-requires-clause-stops
note-requires-clause-stops c = stops_by c.self.inside.shape (Write c.args.at (blocks_of c.self.inside.shape.sector c.args.bytes.now c.args.marks.now)) _ _ c.write_chunk-landed.ensures.by

pub returns-clause-calm : goal.returns-clause-calm
returns-clause-calm c = c.note.ensures.calm

pub returns-clause-wear : goal.returns-clause-wear
returns-clause-wear c = ap (λ (v : WornUnit). v.wear) c.self.view_is

pub invariant_of-self : goal.invariant_of-self
invariant_of-self c = sound_after c.self.inside c.args.chunk c.write_chunk-landed.new.chunk c.note.new.self c.self.invariant c.write_chunk-landed.ensures.fits
    (by_arms c)

pub are_blocks-requires : goal.are_blocks-requires
are_blocks-requires c = subst (λ (v : WornUnit). length c.args.bytes.now ≡ length c.args.marks.now * v.unit.shape.sector) (sym c.self.view_is) c.requires.whole

pub write_chunk-landed-requires-clause-whole : goal.write_chunk-landed-requires-clause-whole
write_chunk-landed-requires-clause-whole c = subst (λ (v : WornUnit). length c.args.bytes.now ≡ length c.args.marks.now * v.unit.shape.sector) (sym c.self.view_is) c.requires.whole

pub returns-clause-unfailing : goal.returns-clause-unfailing
returns-clause-unfailing c = λ none.
    let h = (goal.at.returns-clause-unfailing c).After-index_mut-found in
    let un : c.self.inside.journal.armed.plans ≡ [] = rw (← c.self.view_is) at none in
    unfailing_by c.self.inside.shape (command h) c.fault-fault.result (outcome_of c.write_chunk-landed.result) c.result_of.result
    (befalls_no_failure c.self.inside.journal kinds.Program c.fault-fault.result c.fault-fault.new.self (befalls h) un) c.write_chunk-landed.ensures.by c.result_of.ensures

use Rattle.std.proofs.Common.{◌≡◌, refl, ap, []}
use Rattle.ocssd_drive.specs.Units.{WornUnit}
use Rattle.pblk_model.specs.ChunkStep.{Reset}
use Rattle.unit_port.specs.declared.armed.CommandKind.TheVariants as kinds
use Rattle.unit_port.specs.Armed.{IsUnarmed}
use Rattle.ocssd_drive.proofs.Unarmed.{befalls_nothing, done_by, befalls_no_failure, unfailing_by}
use Rattle.unit_port.specs.Unit.{Takes}
use Rattle.ocssd_drive.specs.Shown.{outcome_of}
use Rattle.ocssd_drive.specs.Units.{MeetsFault}
use Rattle.ocssd_drive.specs.UnitFields.{worn_unit}
use Rattle.ocssd_drive.specs.Outcomes.{IsByArms}
use Rattle.ocssd_drive.proofs.ByArms.{by_arms_noted}
use Rattle.ocssd_drive.proofs.UnitChunks.{IsFound, found_of}
use Rattle.ocssd_drive.proofs.UnitSteps.{command_within, fails_by, stops_by, Finds, finds, takes_under, planned, steps, fit_after, sound_after, met_in}
use Rattle.ocssd_drive.proofs.memory_unit.MemoryUnitUnit.reset.Goals as goal
use Rattle.ocssd_drive.proofs.memory_unit.MemoryUnitUnit.reset.Goals.{After-index_mut-found, After-result_of}

takes : (c : After-index_mut-found) → Takes (worn_unit c.self.inside).unit c.args.chunk Reset
takes c = rw (← c.self.view_is) at c.requires

-- the chunk that was found is the unit's
found : (c : After-index_mut-found) → IsFound c.self.inside c.args.chunk (takes c).found c.index_mut-found.result.now
found c = found_of c.self.inside c.args.chunk (takes c).found _ c.self.invariant (takes c).there c.index_mut-found.ensures.value

befalls : (c : After-index_mut-found) → Finds c.self.inside.journal kinds.Reset c.fault-fault.result c.fault-fault.new.self
befalls c = finds _ _ _ _ c.fault-fault.ensures.same c.fault-fault.ensures.loaded c.fault-fault.ensures.fault c.fault-fault.ensures.found c.fault-fault.ensures.stays c.fault-fault.ensures.own

pub reset_chunk-landed-requires-clause-chunk : goal.reset_chunk-landed-requires-clause-chunk
reset_chunk-landed-requires-clause-chunk c = rw (found c).fits.shape (found c).fits.fits

pub reset_chunk-landed-requires-clause-taken : goal.reset_chunk-landed-requires-clause-taken
reset_chunk-landed-requires-clause-taken c = rw (found c).fits.shape (takes_under c.self.inside c.args.chunk Reset _ c.fault-fault.new.self _ (takes c) (found c) (befalls c))

met : (c : After-result_of) → MeetsFault c.self.inside.shape c.index_mut-found.result.now Reset c.fault-fault.result (outcome_of c.reset_chunk-landed.result) c.reset_chunk-landed.new.chunk
met c = met_in _ _ _ _ _ _ _ (found (goal.at.invariant_of-self c).After-index_mut-found).fits.shape c.reset_chunk-landed.ensures

by_arms : (c : After-result_of) → IsByArms c.self.inside.shape c.note.new.self.armed c.note.new.self.log
by_arms c =
    let h = (goal.at.invariant_of-self c).After-index_mut-found in
    by_arms_noted c.self.inside c.args.chunk Reset c.fault-fault.result (outcome_of c.reset_chunk-landed.result) c.fault-fault.new.self c.note.new.self
    c.self.invariant.by_arms (befalls h) (met c).by c.note.ensures.log c.note.ensures.armed

pub invariant_of-self : goal.invariant_of-self
invariant_of-self c = sound_after c.self.inside c.args.chunk c.reset_chunk-landed.new.chunk c.note.new.self c.self.invariant (met c).fits (by_arms c)

pub returns-clause-planned : goal.returns-clause-planned
returns-clause-planned c =
    let h = (goal.at.returns-clause-planned c).After-index_mut-found in
    rw (← c.self.view_is) (planned c.self.inside c.args.chunk Reset _ (outcome_of c.reset_chunk-landed.result) c.fault-fault.new.self c.note.new.self _ (befalls h) (met c).by c.note.ensures.log c.note.ensures.seat)

pub returns-clause-event : goal.returns-clause-event
returns-clause-event c =
    let h = (goal.at.returns-clause-event c).After-index_mut-found in
    rw (← c.self.view_is) (
      outcome_of c.reset_chunk-landed.result,
      c.result_of.ensures,
      steps c.self.inside c.args.chunk Reset _ _ c.fault-fault.new.self c.note.new.self _ _ _ (befalls h) (found h) (met c) c.note.ensures.log c.note.ensures.armed tt,
    )

pub returns-clause-fits : goal.returns-clause-fits
returns-clause-fits c = fit_after c.self.inside c.args.chunk c.reset_chunk-landed.new.chunk c.note.new.self c.self.invariant (met c).fits (by_arms c)

pub returns-clause-quiet : goal.returns-clause-quiet
returns-clause-quiet c = λ unarmed.
    let h = (goal.at.returns-clause-quiet c).After-index_mut-found in
    let un : IsUnarmed c.self.inside.journal.armed = rw (← c.self.view_is) at unarmed in
    done_by c.self.inside.shape (Reset) c.fault-fault.result (outcome_of c.reset_chunk-landed.result) c.result_of.result (befalls_nothing c.self.inside.journal kinds.Reset c.fault-fault.result c.fault-fault.new.self (befalls h) un) (met c).by c.result_of.ensures

pub index_mut-found-requires : goal.index_mut-found-requires
index_mut-found-requires c = command_within c.self.inside c.args.self.now c.args.chunk _ c.self.view_is c.requires

pub note-requires-clause-kind : goal.note-requires-clause-kind
note-requires-clause-kind c = refl

pub note-requires-clause-fault : goal.note-requires-clause-fault
note-requires-clause-fault c = c.fault-fault.ensures.fault

pub note-requires-clause-fails : goal.note-requires-clause-fails
note-requires-clause-fails c = fails_by c.index_mut-found.result.now.shape Reset _ _ c.reset_chunk-landed.ensures.by

pub note-requires-clause-stops : goal.note-requires-clause-stops
note-requires-clause-stops c = stops_by c.index_mut-found.result.now.shape Reset _ _ c.reset_chunk-landed.ensures.by

pub returns-clause-calm : goal.returns-clause-calm
returns-clause-calm c = c.note.ensures.calm

pub returns-clause-wear : goal.returns-clause-wear
returns-clause-wear c = ap (λ (v : WornUnit). v.wear) c.self.view_is

pub returns-clause-unfailing : goal.returns-clause-unfailing
returns-clause-unfailing c = λ none.
    let h = (goal.at.returns-clause-unfailing c).After-index_mut-found in
    let un : c.self.inside.journal.armed.plans ≡ [] = rw (← c.self.view_is) at none in
    unfailing_by c.self.inside.shape Reset c.fault-fault.result (outcome_of c.reset_chunk-landed.result) c.result_of.result
    (befalls_no_failure c.self.inside.journal kinds.Reset c.fault-fault.result c.fault-fault.new.self (befalls h) un) (met c).by c.result_of.ensures

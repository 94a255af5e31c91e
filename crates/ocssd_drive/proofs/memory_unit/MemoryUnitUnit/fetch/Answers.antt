use Rattle.std.proofs.Common.{◌≡◌, refl, ap, []}
use Rattle.ocssd_drive.specs.Units.{WornUnit}
use Rattle.pblk_model.specs.ChunkStep.{Read}
use Rattle.unit_port.specs.declared.armed.CommandKind.TheVariants as kinds
use Rattle.unit_port.specs.Armed.{IsUnarmed}
use Rattle.ocssd_drive.proofs.Unarmed.{befalls_nothing, got_by, befalls_no_failure, unfailing_fetch}
use Rattle.unit_port.specs.Unit.{Takes}
use Rattle.ocssd_drive.specs.Shown.{fetch_outcome}
use Rattle.ocssd_drive.specs.Units.{MeetsFault}
use Rattle.ocssd_drive.specs.UnitFields.{worn_unit}
use Rattle.ocssd_drive.proofs.ByArms.{by_arms_noted}
use Rattle.ocssd_drive.proofs.UnitChunks.{IsFound, found_of}
use Rattle.ocssd_drive.proofs.UnitSteps.{command_within, fails_by, stops_by, sound_with, Finds, finds, met_in, takes_under, planned, steps_reading, fit_with}
use Rattle.ocssd_drive.proofs.memory_unit.MemoryUnitUnit.fetch.Goals as goal
use Rattle.ocssd_drive.proofs.memory_unit.MemoryUnitUnit.fetch.Goals.{After-index-found, After-note}

takes : (c : After-index-found) → Takes (worn_unit c.self.inside).unit c.args.chunk (Read c.args.block)
takes c = rw (← c.self.view_is) at c.requires.taken

-- the chunk that was found is the unit's
found : (c : After-index-found) → IsFound c.self.inside c.args.chunk (takes c).found c.index-found.result.now
found c = found_of c.self.inside c.args.chunk (takes c).found _ c.self.invariant (takes c).there c.index-found.ensures

befalls : (c : After-index-found) → Finds c.self.inside.journal kinds.Fetch c.fault-fault.result c.fault-fault.new.self
befalls c = finds _ _ _ _ c.fault-fault.ensures.same c.fault-fault.ensures.loaded c.fault-fault.ensures.fault c.fault-fault.ensures.found c.fault-fault.ensures.stays c.fault-fault.ensures.own

pub read_chunk-got-requires-clause-chunk : goal.read_chunk-got-requires-clause-chunk
read_chunk-got-requires-clause-chunk c =
    let f = found (goal.at.read_chunk-got-requires-clause-chunk c).After-index-found in
    rw f.fits.shape f.fits.fits

pub read_chunk-got-requires-clause-whole : goal.read_chunk-got-requires-clause-whole
read_chunk-got-requires-clause-whole c =
    let f = found (goal.at.read_chunk-got-requires-clause-whole c).After-index-found in
    rw f.fits.shape (rw (← c.self.view_is) at c.requires.whole)

pub read_chunk-got-requires-clause-taken : goal.read_chunk-got-requires-clause-taken
read_chunk-got-requires-clause-taken c =
    let h = (goal.at.read_chunk-got-requires-clause-taken c).After-index-found in
    rw (found h).fits.shape (takes_under c.self.inside c.args.chunk (Read c.args.block) _ c.fault-fault.new.self _ (takes h) (found h) (befalls h))

met : (c : After-note) → MeetsFault c.self.inside.shape c.index-found.result.now (Read c.args.block) c.fault-fault.result (fetch_outcome c.read_chunk-got.new.out c.read_chunk-got.result) c.index-found.result.now
met c = met_in _ _ _ _ _ _ _ (found (goal.at.returns-clause-planned c).After-index-found).fits.shape c.read_chunk-got.ensures.met

pub returns-clause-planned : goal.returns-clause-planned
returns-clause-planned c =
    let h = (goal.at.returns-clause-planned c).After-index-found in
    rw (← c.self.view_is) (planned c.self.inside c.args.chunk (Read c.args.block) _ (fetch_outcome c.read_chunk-got.new.out c.read_chunk-got.result) c.fault-fault.new.self c.note.new.self _ (befalls h) (met c).by c.note.ensures.log c.note.ensures.seat)

pub returns-clause-event : goal.returns-clause-event
returns-clause-event c =
    let h = (goal.at.returns-clause-event c).After-index-found in
    rw (← c.self.view_is) (
      fetch_outcome c.read_chunk-got.new.out c.read_chunk-got.result,
      c.read_chunk-got.ensures.tells,
      steps_reading c.self.inside c.args.chunk c.args.block _ _ c.fault-fault.new.self c.note.new.self _ _ (befalls h) (found h) (met c) c.note.ensures.log c.note.ensures.armed,
    )

pub returns-clause-fits : goal.returns-clause-fits
returns-clause-fits c = fit_with c.self.inside c.note.new.self c.self.invariant

pub returns-clause-quiet : goal.returns-clause-quiet
returns-clause-quiet c = λ unarmed.
    let h = (goal.at.returns-clause-quiet c).After-index-found in
    let un : IsUnarmed c.self.inside.journal.armed = rw (← c.self.view_is) at unarmed in
    got_by c.self.inside.shape (Read c.args.block) c.fault-fault.result c.read_chunk-got.new.out c.read_chunk-got.result (befalls_nothing c.self.inside.journal kinds.Fetch c.fault-fault.result c.fault-fault.new.self (befalls h) un) (met c).by

pub index-found-requires : goal.index-found-requires
index-found-requires c = command_within c.self.inside c.args.self.now c.args.chunk _ c.self.view_is c.requires.taken

pub note-requires-clause-kind : goal.note-requires-clause-kind
note-requires-clause-kind c = refl

pub note-requires-clause-fault : goal.note-requires-clause-fault
note-requires-clause-fault c = c.fault-fault.ensures.fault

pub note-requires-clause-fails : goal.note-requires-clause-fails
note-requires-clause-fails c = fails_by c.index-found.result.now.shape (Read c.args.block) _ _ c.read_chunk-got.ensures.met.by

pub note-requires-clause-stops : goal.note-requires-clause-stops
note-requires-clause-stops c = stops_by c.index-found.result.now.shape (Read c.args.block) _ _ c.read_chunk-got.ensures.met.by

pub returns-clause-calm : goal.returns-clause-calm
returns-clause-calm c = c.note.ensures.calm

pub returns-clause-wear : goal.returns-clause-wear
returns-clause-wear c = ap (λ (v : WornUnit). v.wear) c.self.view_is

pub invariant_of-self : goal.invariant_of-self
invariant_of-self c =
    let h = (goal.at.invariant_of-self c).After-index-found in
    sound_with c.self.inside c.note.new.self c.self.invariant
    (by_arms_noted c.self.inside c.args.chunk (Read c.args.block) c.fault-fault.result (fetch_outcome c.read_chunk-got.new.out c.read_chunk-got.result)
    c.fault-fault.new.self c.note.new.self c.self.invariant.by_arms (befalls h) (met c).by c.note.ensures.log c.note.ensures.armed)

pub returns-clause-media : goal.returns-clause-media
returns-clause-media c = ap (λ (v : WornUnit). v.unit.media) c.self.view_is

pub returns-clause-unfailing : goal.returns-clause-unfailing
returns-clause-unfailing c = λ none.
    let h = (goal.at.returns-clause-unfailing c).After-index-found in
    let un : c.self.inside.journal.armed.plans ≡ [] = rw (← c.self.view_is) at none in
    unfailing_fetch c.self.inside.shape (Read c.args.block) c.fault-fault.result c.read_chunk-got.new.out c.read_chunk-got.result
    (befalls_no_failure c.self.inside.journal kinds.Fetch c.fault-fault.result c.fault-fault.new.self (befalls h) un) (met c).by

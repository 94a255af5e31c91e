use Rattle.std.proofs.Common.{◌≡◌, ◌≤◌}
use Rattle.chronicle.specs.Prefixes.{ArePrefixes, logs_of}
use Rattle.pblk_engine.specs.Notes.{IsNoteOf}
use Rattle.pblk_engine.specs.Placements.{IsPlacedAs}
use Rattle.pblk_engine.specs.Stops.{stop_count}
use Rattle.pblk_engine.proofs.shared.Shared.program_stripe.Given as goal

abbrev pub invariant-loop : goal.invariant-loop
invariant-loop g l =
    ArePrefixes l.fn.note.known l.note.known × (l.worker ≡ l.fn.worker) × IsNoteOf g.M.Mount.chronicle g.M.Mount.past l.note
    × ArePrefixes l.fn.worker.known l.note.known
    × IsPlacedAs (logs_of l.note.known 0) l.fn.worker.stripe
    × (l.stops ≤ stop_count (logs_of l.note.known 0) l.fn.worker.stripe.stripe.unit)

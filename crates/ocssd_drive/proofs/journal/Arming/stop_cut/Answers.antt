use Rattle.std.proofs.Common.{◌^◌, ◌<◌, sym, ◌∙◌, arith}
use Rattle.ocssd_drive.specs.Faults.{changes_of}
use Rattle.ocssd_drive.proofs.FuseFalls.{fuse_falls, fuse_waits}
use Rattle.ocssd_drive.proofs.journal.Arming.stop_cut.Goals as goal

pub returns-in-Some : goal.returns-in-Some
returns-in-Some c = λ a events tallies own.
    let range : c.in-Some.fuse.nth < 2 ^ 32 = omega arith in
    let next = c.next_change.ensures a events tallies in
    fuse_falls a.unit (changes_of events) c.args.kind a.fuse c.in-Some.fuse (sym c.in-Some.is ∙ own) (sym c.is_change.ensures ∙ c.if-is_change.true) (omega arith)

pub returns-in_default : goal.returns-in_default
returns-in_default c = λ a events tallies own.
    let next = c.next_change.ensures a events tallies in
    fuse_waits a.unit (changes_of events) c.args.kind a.fuse c.in-Some.fuse (sym c.in-Some.is ∙ own) (λ same. c.if-from-next_change.false (omega arith))

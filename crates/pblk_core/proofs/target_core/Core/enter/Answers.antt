use Rattle.std.proofs.Common.{◌<◌, sym, subst, ap, ◌∙◌}
use Rattle.std.specs.FinMap as fin
use Rattle.pblk_core.specs.declared.collecting.Collection.{Collection}
use Rattle.pblk_core.proofs.Collected.{passed_same}
use Rattle.pblk_core.proofs.StandsTaken.{media_kept}
use Rattle.pblk_core.proofs.target_core.Core.enter.Goals as goal

pub returns-then-is_latest-clause-passed : goal.returns-then-is_latest-clause-passed
returns-then-is_latest-clause-passed c = λ passed lba line at position below at_work there.
    passed lba line at position (subst (λ (k : Collection). lba < k.cursor) c.take_latest.ensures.collection below)
    (sym (ap (λ (k : Collection). k.victim) c.take_latest.ensures.collection) ∙ at_work)
    (media_kept c.args.self.now.map c.args.entry.lba lba c.args.entry.position line at position
    (sym (ap (λ m. fin.get m lba) c.take_latest.ensures.map) ∙ there))

pub returns-else-is_latest-clause-legal : goal.returns-else-is_latest-clause-legal
returns-else-is_latest-clause-legal c = c.take_stale.ensures.legal

pub returns-else-is_latest-clause-passed : goal.returns-else-is_latest-clause-passed
returns-else-is_latest-clause-passed c = λ passed.
    passed_same c.args.self.now c.take_stale.new.self passed c.take_stale.ensures.collecting.map c.take_stale.ensures.collecting.collection

pub returns-else-is_latest-clause-brings : goal.returns-else-is_latest-clause-brings
returns-else-is_latest-clause-brings c = λ line apart none. c.take_stale.ensures.collecting.brings line none

pub returns-else-is_latest-clause-pad : goal.returns-else-is_latest-clause-pad
returns-else-is_latest-clause-pad c = c.take_stale.ensures.collecting.pad

pub returns-else-is_latest-clause-collection : goal.returns-else-is_latest-clause-collection
returns-else-is_latest-clause-collection c = c.take_stale.ensures.collecting.collection

use Rattle.std.proofs.Common.{◌++◌, ap, subst, ◌∙◌}
use Rattle.std.specs.List.{filter}
use Rattle.pblk_model.specs.Contents.{end_after}
use Rattle.scan_recovery.specs.Counted.{is_below}
use Rattle.scan_recovery.specs.Mounts.{head_of, is_settled}
use Rattle.scan_recovery.specs.Tally.{IsTally}
use Rattle.scan_recovery.specs.Traces.{bares}
use Rattle.scan_recovery.proofs.counting.Count.finish.Goals as goal

pub returns-clause-counted : goal.returns-clause-counted
returns-clause-counted c = λ sectors lines rs was.
    let o = head_of c.args.mount.now in
    let settled = filter (is_settled o) rs in
    let late = ap bares c.deref-2.ensures.value ∙ was.late in
    record {
      end = c.in_ok-end.ensures ∙ ap (λ xs. end_after xs o) (ap bares c.deref.ensures.value ∙ was.late);
      tally = subst (λ xs. IsTally sectors lines (settled ++ filter (is_below c.in_ok-end.end) xs) c.note_below.new.self) late
          (c.note_below.ensures.tally sectors lines settled was.tally);
    }

pub returns-clause-tops : goal.returns-clause-tops
returns-clause-tops c = c.note_below.ensures.tops

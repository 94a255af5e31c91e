use Rattle.std.proofs.Common.{length, arith}
use Rattle.pblk_core.proofs.Runs.{marks_fit}
use Rattle.pblk_core.proofs.records.LineRecords.mark_data.Goals as goal

pub unwrap-requires : goal.unwrap-requires
unwrap-requires c =
    let q = c.self.inside in
    let few = rw (← c.self.view_is) at c.requires in
    let enough = marks_fit q.layout q.width (length q.marks.items) (length c.args.marks.now) _ few c.self.invariant.width c.self.invariant.room_for_marks in
    c.extend_from_slice.ensures.succeeds (omega (arith, enough, q.marks.ok.0))

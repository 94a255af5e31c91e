use Rattle.std.proofs.Common.{◌∙◌, length, refl, ap, arith, length-append}
use Rattle.pblk_core.proofs.Filled.{marks_room, bytes_room, run_added, run_counts, run_whole}
use Rattle.pblk_core.proofs.stripe.Stripe.append_run.Goals as goal

pub append_bytes-requires : goal.append_bytes-requires
append_bytes-requires c =
    let q = c.self.inside in
    let within = marks_room q.shape.sector q.bytes.items q.marks.items c.args.count q.shape.ws_opt (rw (← c.self.view_is) at c.requires.room) in
    let size = rw (← c.self.view_is) at c.requires.size in
    omega (
      arith,
      q.bytes.ok.0,
      bytes_room q.shape.sector (length q.marks.items) c.args.count q.shape.ws_opt (length q.bytes.items)
          (length c.args.bytes.now) _ within c.self.invariant.whole size c.self.invariant.room_for_bytes,
    )

pub fill_marks-requires-clause-room : goal.fill_marks-requires-clause-room
fill_marks-requires-clause-room c =
    let q = c.self.inside in
    let within = marks_room q.shape.sector q.bytes.items q.marks.items c.args.count q.shape.ws_opt (rw (← c.self.view_is) at c.requires.room) in
    omega (arith, q.marks.ok.0, c.self.invariant.room_for_marks)

pub returns : goal.returns
returns c =
    let q = c.self.inside in
    rw (
      ← c.self.view_is,
      c.append_bytes.ensures.items,
      c.fill_marks.ensures.items,
      run_added q.shape.sector q.bytes.items c.args.bytes.now q.marks.items c.len.result c.args.count c.args.mark c.self.invariant.whole
          (omega (arith, c.len.ensures, q.marks.ok.0)),
    ) refl

pub invariant_of-self : goal.invariant_of-self
invariant_of-self c =
    let q = c.self.inside in
    let within = marks_room q.shape.sector q.bytes.items q.marks.items c.args.count q.shape.ws_opt (rw (← c.self.view_is) at c.requires.room) in
    let size = rw (← c.self.view_is) at c.requires.size in
    let bytes_sum = ap length c.append_bytes.ensures.items ∙ length-append q.bytes.items c.args.bytes.now in
    let marks_sum = ap length c.fill_marks.ensures.items
    ∙ run_counts q.marks.items c.len.result c.args.count c.args.mark (omega (arith, c.len.ensures, q.marks.ok.0)) in
    let whole = run_whole q.shape.sector (length q.marks.items) c.args.count (length q.bytes.items) c.self.invariant.whole in
    record {
      accepted = c.self.invariant.accepted;
      within = omega arith;
      whole = rw marks_sum (omega arith);
      room_for_bytes = omega (arith, c.self.invariant.room_for_bytes, c.append_bytes.ensures.room);
      room_for_marks = omega (arith, c.self.invariant.room_for_marks, c.fill_marks.ensures.room);
    }

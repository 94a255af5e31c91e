use Rattle.std.proofs.Common.{◌≡◌, length, take, ap, arith}
use Rattle.scan_recovery.proofs.PackedLines.{count_none, count_some, front_added, none_added, some_added, still_within}
use Rattle.scan_recovery.proofs.line_buffer.LineBuffer.fetch.Goals as goal

pub invariant_of-self-then-not-is_written : goal.invariant_of-self-then-not-is_written
invariant_of-self-then-not-is_written g c = record {
  short = c.self.invariant.short;
  used = count_none c.self.inside.marks.items c.note.new.marks.items c.self.inside.used c.self.inside.size c.in_ok-note.ensures.ok c.self.invariant.used;
  within = c.self.invariant.within;
}

pub returns-then-not-is_written-clause-block : goal.returns-then-not-is_written-clause-block
returns-then-not-is_written-clause-block g c =
    none_added c.self.inside.size (take c.self.inside.used c.self.inside.bytes.items) c.self.inside.marks.items c.note.new.marks.items c.args.self.now.blocks _
    c.in_ok-note.ensures.ok (ap (λ v. v.blocks) c.self.view_is) (c.is_written.ensures.unwritten c.if-not-is_written.true)

pub invariant_of-self-2 : goal.invariant_of-self-2
invariant_of-self-2 g c =
    let b = c.self.inside in
    let long : length c.fetch_into.new.out ≡ b.size = omega arith in
    record {
      short = c.self.invariant.short;
      used = count_some b.marks.items c.note-2.new.marks.items c.in_ok-mark.mark b.used b.size c.in_ok-note-2.ensures.ok c.self.invariant.used;
      within = still_within c.widen.new.bytes.len b.used b.size c.widen.new.bytes.items c.deref_mut.result.now c.fetch_into.new.out c.in_ok-widen.ensures.len
          c.deref_mut.ensures.value c.widen.new.bytes.ok.0 long;
    }

pub returns-clause-block : goal.returns-clause-block
returns-clause-block g c =
    let b = c.self.inside in
    let long : length c.fetch_into.new.out ≡ b.size = omega arith in
    let same = c.in_ok-widen.ensures.same b.used c.self.invariant.within in
    let front = front_added c.widen.new.bytes.len b.used b.size b.bytes.items c.widen.new.bytes.items c.deref_mut.result.now c.fetch_into.new.out
    c.in_ok-widen.ensures.len same c.deref_mut.ensures.value c.widen.new.bytes.ok.0 long in
    some_added b.size b.used b.bytes.items c.fetch_into.new.out _ b.marks.items c.note-2.new.marks.items c.in_ok-mark.mark c.args.self.now.blocks _ front
    c.self.invariant.within c.self.invariant.used long c.in_ok-note-2.ensures.ok
    (ap (λ v. v.blocks) c.self.view_is) c.in_ok-mark.ensures.block

pub is_written-requires-clause-closed : goal.is_written-requires-clause-closed
is_written-requires-clause-closed g c = c.requires.closed c.args.line c.args.unit

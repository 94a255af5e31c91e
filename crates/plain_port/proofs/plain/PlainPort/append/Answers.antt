use Rattle.std.proofs.Common.{◌≡◌, ◌++◌, length, replicate, ap, ◌∙◌, arith}
use Rattle.std.proofs.lemmas.List.{length-append}
use Rattle.pblk_model.specs.Bytes.{zeros}
use Rattle.block_port.specs.Own.{OwnWrite, lines_of, sectors_of}
use Rattle.block_port.specs.Port.{ModelPort}
use Rattle.plain_port.specs.Plain.{lines_in}
use Rattle.block_port.proofs.OwnLemmas.{length_placed, length_sectors}
use Rattle.plain_port.proofs.Rising.{contents_more, lines_more, rise_length, rise_more, written_over}
use Rattle.plain_port.proofs.plain.PlainPort.append.Goals as goal

pub overflow_add-self : goal.overflow_add-self
overflow_add-self c =
    let few = rise_length 0 c.self.inside.taken (lines_in c.self.inside.own) c.self.invariant.rise in
    omega (arith, few, c.self.invariant.lines, c.self.invariant.taken, c.from.ensures, c.requires.count)

pub invariant_of-self : goal.invariant_of-self
invariant_of-self c =
    let old = c.self.invariant in
    let i = c.self.inside in
    let w : OwnWrite = record {
      place = record { first = c.next.result; count = c.args.count };
      lba = c.args.lba;
      sectors = sectors_of i.sector c.args.count c.args.bytes.now;
    } in
    let lines : lines_in c.add.new.self ≡ lines_in i.own ++ lines_of w = ap lines_in c.add.ensures ∙ lines_more i.own w in
    let taken = ap (λ (p : ModelPort). p.taken) c.self.view_is in
    let seen = ap (λ (p : ModelPort). p.seen) c.self.view_is in
    let long = length_sectors i.sector c.args.count c.args.bytes.now in
    let len : length c.put.new.sectors ≡ length i.bytes.items = c.put.ensures.len ∙ ap length c.deref_mut.ensures.value in
    let same = written_over i.bytes.len i.bytes.items c.put.new.sectors i.bytes.ok.0 len in
    record {
      size = old.size;
      contents = rw (same, lines) (contents_more (replicate i.capacity (zeros i.sector)) (sectors_of i.sector i.capacity i.bytes.items)
          (sectors_of i.sector i.capacity c.put.new.sectors) (lines_in i.own) w old.contents (rw c.deref_mut.ensures.value at c.put.ensures.sectors));
      bytes = rw same (len ∙ old.bytes);
      few = old.few;
      lines = rw (lines, length-append (lines_in i.own) (lines_of w), length_placed c.next.result c.args.lba w.sectors, long)
          (omega (arith, old.lines, c.from.ensures));
      rise = rw (lines, c.from-2.ensures) (rise_more 0 i.taken c.next.result c.args.count c.args.lba (lines_in i.own) w.sectors old.rise
          (omega (arith, c.next.ensures.next, taken)) long);
      taken = omega (arith, c.next.ensures.next, c.from-2.ensures, c.requires.room);
      seen = omega (arith, c.next.ensures.next, c.from-2.ensures, c.requires.room);
    }

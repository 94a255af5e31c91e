use Rattle.std.proofs.Common.{◌≡◌, length, drop, refl, ◌∙◌, arith, length-drop}
use Rattle.pblk_model.specs.Bytes.{zeros}
use Rattle.ocssd_chunks.specs.Descriptor.{fields_of}
use Rattle.ocssd_chunks.proofs.Descriptors.{four_parts, read_back}
use Rattle.ocssd_chunks.proofs.descriptor.Descriptor.write.Goals as goal

pub returns-clause-spelling : goal.returns-clause-spelling
unfolding zeros
returns-clause-spelling c =
    let first : length c.copy_from_slice.new.self ≡ 8 = rw c.copy_from_slice.ensures.after refl in
    let second : length c.put_number.new.out ≡ 8 = rw c.put_number.ensures.bytes refl in
    let third : length c.put_number-2.new.out ≡ 8 = rw c.put_number-2.ensures.bytes refl in
    let fourth : length c.put_number-3.new.out ≡ 8 = rw c.put_number-3.ensures.bytes refl in
    let rest : length (drop 8 c.args.out.now) ≡ 24 = simp length-drop (omega arith) in
    four_parts c.copy_from_slice.new.self c.put_number.new.out c.put_number-2.new.out c.put_number-3.new.out
    (drop 8 c.args.out.now) first second third fourth rest
    ∙ rw (c.copy_from_slice.ensures.after, c.put_number.ensures.bytes, c.put_number-2.ensures.bytes, c.put_number-3.ensures.bytes, c.code_of.ensures) refl

pub returns-clause-reads_back : goal.returns-clause-reads_back
returns-clause-reads_back c =
    rw (returns-clause-spelling c)
    (read_back (fields_of c.args.self.now) c.put_number.ensures.in_range c.put_number-2.ensures.in_range c.put_number-3.ensures.in_range c.requires.pointer)

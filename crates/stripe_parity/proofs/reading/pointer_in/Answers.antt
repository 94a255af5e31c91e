use Rattle.std.proofs.Common.{ap, ◌∙◌, arith}
use Rattle.std.specs.Int.{w32, from_le_bytes}
use Rattle.std.specs.List.{slice_range}
use Rattle.std.proofs.lemmas.Nat.{le_bytes_4}
use Rattle.pblk_model.proofs.Parts.{slice_length}
use Rattle.stripe_parity.proofs.FileParts.{part_bytes}
use Rattle.stripe_parity.proofs.reading.pointer_in.Goals as goal

pub returns : goal.returns
returns c =
    let b = c.args.bytes.now in
    le_bytes_4 (slice_range b 4 8) c.from_le_bytes.result (slice_length b 4 8 4 (omega arith) (omega (arith, c.requires)))
    (part_bytes b 4 8 (λ k. omega (arith, c.type_inv.bytes k)))
    (c.from_le_bytes.ensures ∙ ap (from_le_bytes w32) c.copy_from_slice.ensures.after)

use Rattle.std.proofs.Common.{◌≡◌, ◌+◌, ◌*◌, ◌<◌, ◌≤◌, ℕ, Bool, true, false, leb, None, List, length, refl, sym, subst, arith}
use Rattle.std.proofs.lemmas.Bool.{le-leb}
use Rattle.std.proofs.lemmas.Bool.Decides.{nat_tests}
use Rattle.pblk_model.specs.Checks.{first_refusal, unless}
use Rattle.pblk_model.specs.ImageFile.{blocks_end, chunks_at, descriptors_end, short_of}
use Rattle.pblk_model.specs.declared.image.ImageErr.TheVariants as errors
use Rattle.ocssd_geometry.specs.Numbers.{numbers_of}
use Rattle.drive_image.specs.Parts.{chunk_refusals, descriptor_refusal}
use Rattle.drive_image.proofs.Ends.{descriptors_end_is, count_is, blocks_end_is}
use Rattle.drive_image.proofs.descriptors.check_chunks.Goals as goal
use Rattle.drive_image.proofs.descriptors.check_chunks.Goals.{After-check_reaches-2, In_ok-check_reaches-2}

-- what is judged of the parts' ends
record Passes (b : List ℕ) : Type 0 where
  descriptors : short_of b (descriptors_end b) ≡ None
  each : descriptor_refusal b (chunks_at b) ≡ None
  blocks : short_of b (blocks_end b) ≡ None

last : (b : List ℕ) (t : Bool) → Passes b → leb (length b) (blocks_end b) ≡ t → first_refusal (chunk_refusals b) ≡ unless t errors.Long
last b true passes is = rw (passes.descriptors, passes.each, passes.blocks, is) refl
last b false passes is = rw (passes.descriptors, passes.each, passes.blocks, is) refl

at_descriptors : (c : After-check_reaches-2) → 4128 + 32 *
    (c.from.result * c.from-2.result * c.args.numbers.now.geometry.chunks) ≡ descriptors_end c.args.bytes.now
at_descriptors c = rw (c.from.ensures, c.from-2.ensures) (descriptors_end_is c.args.bytes.now (numbers_of c.args.numbers.now.geometry) c.requires.geometry)

at_count : (c : After-check_reaches-2) → c.from.result * c.from-2.result * c.args.numbers.now.geometry.chunks ≡ chunks_at c.args.bytes.now
at_count c = rw (c.from.ensures, c.from-2.ensures) (count_is c.args.bytes.now (numbers_of c.args.numbers.now.geometry) c.requires.geometry)

at_blocks : (c : After-check_reaches-2)
    → 4128 + 32 * (c.from.result * c.from-2.result * c.args.numbers.now.geometry.chunks) +
    (c.args.numbers.now.settings.sector + 16) * c.in_ok-blocks.blocks ≡ blocks_end c.args.bytes.now
at_blocks c =
    let sum = c.in_ok-blocks.ensures.blocks in
    rw (c.from.ensures, c.from-2.ensures) (blocks_end_is c.args.bytes.now
    (numbers_of c.args.numbers.now.geometry) c.args.numbers.now.settings.sector c.in_ok-blocks.blocks c.requires.geometry c.requires.sector
    (rw (c.from.ensures, c.from-2.ensures) at sum))

passes_of : (c : In_ok-check_reaches-2) → Passes c.args.bytes.now
passes_of c =
    let b = c.args.bytes.now in
    let d = (goal.at.In_ok-check_reaches-2 c).After-check_reaches-2 in
    record {
      descriptors = subst (λ n. short_of b n ≡ None) (at_descriptors d) (sym c.in_ok-check_reaches.ensures.refused);
      each = subst (λ n. descriptor_refusal b n ≡ None) (at_count d) (sym c.in_ok-blocks.ensures.refused);
      blocks = subst (λ n. short_of b n ≡ None) (at_blocks d) (sym c.in_ok-check_reaches-2.ensures.refused);
    }

over : (m n : ℕ) → n < m → leb m n ≡ false
over m n h = grind (arith, nat_tests)

pub returns-then-bytes-end : goal.returns-then-bytes-end
returns-then-bytes-end c =
    let b = c.args.bytes.now in
    let d = (goal.at.returns-then-bytes-end c).In_ok-check_reaches-2 in
    let longer : blocks_end b < length b = subst (λ n. n < length b) (at_blocks (goal.at.In_ok-check_reaches-2 d).After-check_reaches-2) c.if-bytes-end.true in
    sym (last b false (passes_of d) (over (length b) (blocks_end b) longer))

pub returns : goal.returns
returns c =
    let b = c.args.bytes.now in
    let d = (goal.at.returns c).In_ok-check_reaches-2 in
    let within : length b ≤ blocks_end b = subst (λ n. length b ≤ n) (at_blocks (goal.at.In_ok-check_reaches-2 d).After-check_reaches-2) c.if-bytes-end.false in
    sym (last b true (passes_of d) (le-leb (length b) (blocks_end b) within))

use Rattle.std.proofs.Common.{◌≡◌, ◌+◌, ◌*◌, ◌≤◌, None, sym, ap, ◌∙◌, subst, arith}
use Rattle.std.specs.List.{range_with_len, sum_by}
use Rattle.std.proofs.lemmas.Result.{err_from_is_err_and}
use Rattle.pblk_model.specs.ImageFile.{chunk_refusal, pointer_at}
use Rattle.ocssd_geometry.specs.Numbers.{numbers_of}
use Rattle.drive_image.specs.Parts.{descriptor_refusal}
use Rattle.drive_image.proofs.Sums.{none_more, some_first}
use Rattle.drive_image.proofs.Ends.{few_blocks}
use Rattle.drive_image.proofs.descriptors.check_descriptors.Goals as goal
use Rattle.pblk_model.proofs.Maps.{sum_more}
use Rattle.pblk_model.proofs.Numbers.{blocks_more}

pub returns-in_err-blocks-clause-refused : goal.returns-in_err-blocks-clause-refused
returns-in_err-blocks-clause-refused c =
    let p = err_from_is_err_and c.from_residual.result c.from_residual.ensures.1 in
    rw (p.1, p.2) (sym (some_first
    (chunk_refusal c.args.bytes.now) c.loop-n.n c.args.count c.in_err-blocks.field-0.0 c.loop-n-test.true c.loop-n.invariant.passed
    (sym c.in_err-blocks.ensures.refused)))

pub overflow_add-blocks : goal.overflow_add-blocks
overflow_add-blocks c =
    let clba = c.args.geometry.now.clba in
    let sum : c.loop-n.blocks + c.in_ok-blocks.field-0 ≤ c.args.count * clba =
    blocks_more c.args.count c.loop-n.n clba c.loop-n.blocks c.in_ok-blocks.field-0 c.loop-n-test.true c.loop-n.invariant.few c.in_ok-blocks.ensures.within in
    let few : c.args.count * clba ≤ 268435456 = few_blocks c.args.bytes.now
    (numbers_of c.args.geometry.now) c.args.count c.requires.numbers c.requires.shape c.requires.count in
    omega arith

pub loop-n-preserved : goal.loop-n-preserved
loop-n-preserved c =
    let n = c.loop-n.n in
    let b = c.args.bytes.now in
    let before : c.loop-n.blocks ≡ sum_by (pointer_at b) (range_with_len 0 n) = c.loop-n.invariant.counted in
    let here : c.in_ok-blocks.field-0 ≡ pointer_at b n = c.in_ok-blocks.ensures.pointer in
    let sum = sum_more (pointer_at b) n in
    record {
      passed = none_more (chunk_refusal b) n c.loop-n.invariant.passed (sym c.in_ok-blocks.ensures.refused);
      counted = ap (λ m. m + c.in_ok-blocks.field-0) before ∙ (ap (λ m. sum_by (pointer_at b) (range_with_len 0 n) + m) here ∙ sym sum);
      few = blocks_more (n + 1) n c.args.geometry.now.clba c.loop-n.blocks c.in_ok-blocks.field-0
          (omega arith) c.loop-n.invariant.few c.in_ok-blocks.ensures.within;
    }

pub returns-clause-refused : goal.returns-clause-refused
returns-clause-refused c =
    let same : c.loop-n.n ≡ c.args.count = omega arith in
    sym (subst (λ n. descriptor_refusal c.args.bytes.now n ≡ None) same c.loop-n.invariant.passed)

pub returns-clause-blocks : goal.returns-clause-blocks
returns-clause-blocks c =
    let same : c.loop-n.n ≡ c.args.count = omega arith in
    subst (λ n. c.loop-n.blocks ≡ sum_by (pointer_at c.args.bytes.now) (range_with_len 0 n)) same c.loop-n.invariant.counted

pub returns-clause-few : goal.returns-clause-few
returns-clause-few c =
    let same : c.loop-n.n ≡ c.args.count = omega arith in
    subst (λ n. c.loop-n.blocks ≤ n * c.args.geometry.now.clba) same c.loop-n.invariant.few

use Rattle.std.proofs.Common.{◌≡◌, take, drop, get_or, sym, ◌∙◌, arith}
use Rattle.pblk_reference.proofs.Cells.{cell}
use Rattle.pblk_reference.proofs.bytes.u64_at.Goals as goal

pub returns : goal.returns
returns c =
    let b = c.args.bytes.now in
    let a = c.args.at in
    let e0 : get_or (take 8 (drop a b)) 0 0 ≡ c.byte_at.result = cell b a 0 8 _ (omega arith) (omega arith) ∙ sym c.byte_at.ensures in
    let e1 : get_or (take 8 (drop a b)) 1 0 ≡ c.byte_at-2.result = cell b a 1 8 _ (omega arith) (omega arith) ∙ sym c.byte_at-2.ensures in
    let e2 : get_or (take 8 (drop a b)) 2 0 ≡ c.byte_at-3.result = cell b a 2 8 _ (omega arith) (omega arith) ∙ sym c.byte_at-3.ensures in
    let e3 : get_or (take 8 (drop a b)) 3 0 ≡ c.byte_at-4.result = cell b a 3 8 _ (omega arith) (omega arith) ∙ sym c.byte_at-4.ensures in
    let e4 : get_or (take 8 (drop a b)) 4 0 ≡ c.byte_at-5.result = cell b a 4 8 _ (omega arith) (omega arith) ∙ sym c.byte_at-5.ensures in
    let e5 : get_or (take 8 (drop a b)) 5 0 ≡ c.byte_at-6.result = cell b a 5 8 _ (omega arith) (omega arith) ∙ sym c.byte_at-6.ensures in
    let e6 : get_or (take 8 (drop a b)) 6 0 ≡ c.byte_at-7.result = cell b a 6 8 _ (omega arith) (omega arith) ∙ sym c.byte_at-7.ensures in
    let e7 : get_or (take 8 (drop a b)) 7 0 ≡ c.byte_at-8.result = cell b a 7 8 _ (omega arith) (omega arith) ∙ sym c.byte_at-8.ensures in
    omega arith

-- Which mark a block has.
use Rattle.std.proofs.Common.{◌≡◌, ℕ, ◌-◌, List, Option, Some, None, sym, ap, ◌∙◌}
use Rattle.std.specs.Prelude.{nat_lt, if◌then◌else◌, slice_get}
use Rattle.pblk_model.specs.declared.shape.Shape.{Shape}
use Rattle.pblk_model.specs.declared.chunk.Mark.{Mark}
use Rattle.pblk_model.specs.Chunk.{Block}
use Rattle.pblk_model.specs.LineOrder.{start_len}
use Rattle.pblk_model.specs.EndRecord.{EndRecord}
use Rattle.pblk_model.specs.Records.{mark_at}

pub own_mark : (s : Shape) (e : Option EndRecord) (a : ℕ) (b : Block) (mark : Mark) → e ≡ None → mark ≡ b.mark → Some mark ≡ mark_at s e a b
own_mark s e a b mark e-is mark-is = ap (λ (x : Mark). Some x) mark-is ∙ ap (λ o. mark_at s o a b) (sym e-is)

pub paired_mark : (s : Shape) (e : Option EndRecord) (a n : ℕ) (b : Block) (r : EndRecord) (pairs : List Mark) (o : Option Mark) → e ≡ Some r → pairs ≡ r.pairs
    → n ≡ start_len s
    → o ≡ (if nat_lt a n then None else slice_get pairs (a - n)) → o ≡ mark_at s e a b
paired_mark s e a n b r pairs o e-is pairs-is n-is o-is =
    o-is ∙ ap (λ m. if nat_lt a m then None else slice_get pairs (a - m)) n-is
    ∙ ap (λ ps. if nat_lt a (start_len s) then None else slice_get ps (a - start_len s)) pairs-is
    ∙ ap (λ x. mark_at s x a b) (sym e-is)

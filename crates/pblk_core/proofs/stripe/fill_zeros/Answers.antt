use Rattle.std.proofs.Common.{◌≡◌, ◌+◌, ◌-◌, ◌*◌, ◌/◌, ◌%◌, ◌++◌, ℕ, List, length, replicate, ap, ◌∙◌, append_assoc, arith}
use Rattle.std.proofs.lemmas.List.{replicate-append-replicate, take-replicate}
use Rattle.pblk_core.proofs.stripe.fill_zeros.Goals as goal

-- zeros after zeros
more_zeros : (old : List ℕ) (m n k : ℕ) → m + n ≡ k → (old ++ replicate m 0) ++ replicate n 0 ≡ old ++ replicate k 0
more_zeros old m n k sum =
    append_assoc old (replicate m 0) (replicate n 0)
    ∙ ap (λ (xs : List ℕ). old ++ xs) (replicate-append-replicate m n 0 ∙ ap (λ (j : ℕ). replicate j 0) sum)

pub loop-piece-preserved : goal.loop-piece-preserved
loop-piece-preserved c = record {
  items = c.append_bytes.ensures.items ∙ ap (λ (xs : List ℕ). xs ++ replicate 4096 0) c.loop-piece.invariant.items
      ∙ more_zeros c.args.list.now.items (c.loop-piece._piece * 4096) 4096 ((c.loop-piece._piece + 1) * 4096) (omega arith);
  room = omega (arith, c.loop-piece.invariant.room, c.append_bytes.ensures.room);
}

pub returns-clause-items : goal.returns-clause-items
returns-clause-items c =
    let rest : ℕ = (c.args.end - c.len.result) % 4096 in
    c.append_bytes-2.ensures.items
    ∙ ap (λ (xs : List ℕ). c.loop-piece.list.items ++ xs) (take-replicate rest 4096 0 (omega arith))
    ∙ ap (λ (xs : List ℕ). xs ++ replicate rest 0) c.loop-piece.invariant.items
    ∙ more_zeros c.args.list.now.items (c.loop-piece._piece * 4096) rest (c.args.end - length c.args.list.now.items)
    (omega (arith, c.len.ensures, c.loop-piece-test.false, c.loop-piece.auto._piece-end))

use Rattle.std.proofs.Common.{◌≡◌, ◌+◌, ◌++◌, ◌∷◌, [], ℕ, List, map, ap, ap₂, ◌∙◌, sym, arith, le_trans}
use Rattle.std.specs.List.{range_with_len}
use Rattle.std.proofs.lemmas.List.{map-append}
use Rattle.pblk_model.proofs.Maps.{range_last}
use Rattle.chronicle.specs.Views.{Past}
use Rattle.pblk_engine.specs.Workers.{WorkerView}
use Rattle.block_target.specs.Targets.{first_worker, first_workers, naming}
use Rattle.block_target.proofs.FirstArms.{one_longer}
use Rattle.block_target.proofs.target.make_workers.Goals as goal

-- one more was named
more_workers : (past : Past) (from n : ℕ) (before after : List WorkerView) (w : WorkerView) → before ≡ first_workers past from n
    → w ≡ first_worker past (from + n) → after ≡ before ++ w ∷ [] → after ≡ first_workers past from (n + 1)
more_workers past from n before after w were new is =
    is ∙ ap₂ (λ xs x. xs ++ x ∷ []) were new ∙ sym (map-append (first_worker past) (range_with_len from n) ((from + n) ∷ []))
    ∙ ap (map (first_worker past)) (sym (range_last from n))

pub loop-number-preserved : goal.loop-number-preserved
loop-number-preserved g c =
    let at = c.loop-number.invariant in
    let worker = c.name_worker-worker.result in
    let past = g.M.Mount.past in
    let from = c.args.from in
    let n = c.loop-number.number in
    let at_number : c.from.result ≡ from + n = omega (arith, c.from.ensures) in
    let next : c.from.result + 1 ≡ from + (n + 1) = omega (arith, at_number) in (
      more_workers past from n c.loop-number.workers.items c.put.new.values.items worker at.0
          (c.name_worker-worker.ensures.worker ∙ ap (first_worker past) at_number) c.put.ensures.items,
      omega (arith, one_longer c.loop-number.workers.items c.put.new.values.items worker c.put.ensures.items, at.1),
      le_trans at.2 c.put.ensures.capacity,
      c.name_worker-worker.ensures.token ∙ ap (naming g.M.Mount.chronicle past) next,
      c.name_worker-worker.ensures.still_new,
      omega (arith, at.5, c.name_worker-worker.ensures.fewer),
    )

use Rattle.std.proofs.Common.{rules}
use Rattle.std.proofs.lemmas.List.Sorted.{IsNonDecreasingBy-from_sort_by_key, answers_always}
use Rattle.run_report.proofs.Sorting.{sorted}
use Rattle.run_report.proofs.rows.rows.Goals as goal

pub returns : goal.returns
returns c =
    sorted _ _ _ _ c.new-rows.ensures.items c.in_ok-add_threads.ensures
    (IsNonDecreasingBy-from_sort_by_key (λ r. r.first) _ c.in_ok-sort_by_key.ensures.sorted (λ a r q k. search rules))
    (c.sort_by_key.ensures.stable (λ r. r.first) (answers_always _ _ _ (λ f a r g h. search rules)))

use Rattle.std.proofs.Common.{◌<◌, List, ℕ, [], ap, sym, ◌∙◌, subst, length}
use Rattle.atomic_table.specs.Table.{opening}
use Rattle.std.proofs.lemmas.List.{length-replicate}
use Rattle.chronicle.specs.Rule.{IsKept}
use Rattle.chronicle.specs.Steps.{starting}
use Rattle.chronicle.proofs.Moves.{opens, begins}
use Rattle.chronicle.proofs.table.Chronicle.begin.Goals as goal

pub of_words-requires : goal.of_words-requires
of_words-requires g c =
    subst (λ (words : List ℕ). IsKept (opening words [] (starting c.args.count))) (sym (c.as_slice.ensures.value ∙ c.in_ok-words.ensures)) (opens c.args.count)

pub store-requires : goal.store-requires
store-requires g c =
    let made = c.in_ok-table.ensures in (
      made.2,
      subst (λ n. 0 < n) (sym (made.0 ∙ ap length (c.as_slice.ensures.value ∙ c.in_ok-words.ensures) ∙ length-replicate c.args.count 0)) c.requires.some,
      begins _ _ _ _ _ (ap (λ m. m.0.fresh) made.4) c.requires.opening,
    )

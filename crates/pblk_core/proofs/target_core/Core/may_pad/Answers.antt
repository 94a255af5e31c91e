use Rattle.std.proofs.Common.{◌≡◌, not, Bool, true, false, refl, sym, ◌∙◌}
use Rattle.pblk_core.proofs.CopiesDue.{copy_due_is, copy_by_test, test_of_copy}
use Rattle.pblk_core.proofs.target_core.Core.may_pad.Goals as goal

none_is_due : {X : Type 0} (b : Bool) → (b ≡ true → X) → (X → b ≡ true) → (not b ≡ true → ¬ X) × (¬ X → not b ≡ true)
none_is_due true gives tells = (λ e. absurd cc, λ none. absurd (none (gives refl)))
none_is_due false gives tells = (λ e is. absurd (let f = tells is in cc), λ none. refl)

pub returns : goal.returns
returns c = λ i w mount st col. let same = c.is_copy_due.ensures ∙ copy_due_is i w c.args.self.now mount st col in
    none_is_due c.is_copy_due.result (λ e. copy_by_test i _ (sym same ∙ e)) (λ is. same ∙ test_of_copy i _ is)

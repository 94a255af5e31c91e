-- A line that isn't refused.
use Rattle.std.proofs.Common.{◌≡◌, ℕ, ◌&&◌, ◌∷◌, [], Bool, true, false, Option, Some, None, Result, Ok, Err, refl, sym, ap, ◌∙◌, inl, inr}
use Rattle.std.specs.Option.{option_map_or}
use Rattle.std.specs.Result.{is_err, IsOk, OnOk}
use Rattle.std.proofs.lemmas.Bool.{cases_Bool, true≢false}
use Rattle.pblk_model.specs.declared.script.ScriptErr.{ScriptErr}
use Rattle.pblk_model.specs.declared.script.ScriptErr.TheVariants.{Form, Limit, Range, NeverPosted, Stuck, Memory}
use Rattle.pblk_model.specs.Checks.{first_refusal, unless}
use Rattle.pblk_model.specs.ScriptText.{Said, Heard, saids, form_holds, limit_holds, range_holds}
use Rattle.pblk_model.proofs.Tests.{second_of}
use Rattle.run_script.specs.Heard.{placed_at, refusal_of}
use Rattle.run_script.specs.Reading.{Refuses}

first_passes : {E : Type 0} (holds : Bool) (e : E) (others : Option E) (r : Option E) → r ≡ first_refusal (unless holds e ∷ others ∷ []) → r ≡ None
    → holds ≡ true
first_passes true e others r is none = refl
first_passes false e others r is none = absurd (let both : Some e ≡ None = sym is ∙ none in cc)

pub form_of : (capacity : ℕ) (before : Heard) (n : ℕ) (early : Bool) (said : Said) → refusal_of capacity (saids before) n early said ≡ None
    → form_holds (saids before) said ≡ true
form_of capacity before n early said none = elim (cases_Bool (form_holds (saids before) said)) [
  | inl holds ↦ holds
  | inr fails ↦ absurd (let both : Some (Form n) ≡ None = (rw fails at none) in cc)
]

pub limit_of : (capacity : ℕ) (before : Heard) (n : ℕ) (early : Bool) (said : Said) → refusal_of capacity (saids before) n early said ≡ None
    → limit_holds (saids before) said ≡ true
limit_of capacity before n early said none =
    let form = form_of capacity before n early said none in
    elim (cases_Bool (early && limit_holds (saids before) said)) [
      | inl holds ↦ second_of early (limit_holds (saids before) said) holds
      | inr fails ↦ absurd (let both : Some (Limit n) ≡ None = (rw fails at (rw form at none)) in cc)
    ]

pub placed_ok : (capacity : ℕ) (before : Heard) (n : ℕ) (early : Bool) (says : Option Said) (said : Said) → says ≡ Some said
    → refusal_of capacity (saids before) n early said ≡ None
    → placed_at capacity (saids before) n early says ≡ Ok (n, said)
placed_ok capacity before n early says said is none = ap (placed_at capacity (saids before) n early) is ∙ ap (λ r. option_map_or Err r (Ok (n, said))) none

pub done_of : {A E : Type 0} (r : Result A E) (P : Type 0) → is_err r ≡ false → OnOk r P → P
done_of (Ok x) P e h = h
done_of (Err x) P e h = absurd (true≢false e)

three_checks : (f l r : Bool) (n : ℕ) → first_refusal (unless f (Form n) ∷ unless l (Limit n) ∷ unless r (Range n) ∷ []) ≡ Some Memory → ⊥
three_checks false l r n e = cc
three_checks true false r n e = cc
three_checks true true false n e = cc
three_checks true true true n e = cc

-- a line that is refused, by its refusal
pub placed_not : (capacity : ℕ) (before : Heard) (n : ℕ) (early : Bool) (says : Option Said) (said : Said) → says ≡ Some said → (e : ScriptErr)
    → refusal_of capacity (saids before) n early said ≡ Some e
    → Refuses e (placed_at capacity (saids before) n early says) × (e ≡ Memory → IsOk (placed_at capacity (saids before) n early says))
placed_not capacity before n early says said is e refused = (
  refuses_as e (placed_at capacity (saids before) n early says) (ap (placed_at capacity (saids before) n early) is
      ∙ ap (λ r. option_map_or Err r (Ok (n, said))) refused),
  λ memory. absurd (three_checks (form_holds (saids before) said) (early && limit_holds (saids before) said) (range_holds capacity said) n (refused
      ∙ ap Some memory)),
)
  where
    refuses_as : (e : ScriptErr) (r : Result (ℕ × Said) ScriptErr) → r ≡ Err e → Refuses e r
    refuses_as (Form m) r h = h
    refuses_as (Limit m) r h = h
    refuses_as (Range m) r h = h
    refuses_as (NeverPosted m) r h = h
    refuses_as (Stuck m) r h = h
    refuses_as Memory r h = tt

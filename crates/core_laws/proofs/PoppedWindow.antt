-- A window that gives its first entry back.
use Rattle.std.proofs.Common.{◌≡◌, ℕ, ◌+◌, ◌-◌, ◌≤◌, zero, suc, List, [], ◌∷◌, drop, refl, sym, ap, ◌∙◌, arith}
use Rattle.std.specs.Prelude.{map}
use Rattle.std.specs.List.{drop-map}
use Rattle.pblk_model.specs.declared.shape.Shape.{Shape}
use Rattle.pblk_world.specs.Events.{Logged}
use Rattle.pblk_world.specs.EngineLog.{takes}
use Rattle.pblk_world.specs.Fronts.{first_position}
use Rattle.core_laws.specs.WindowOf.{held_of, window_from}

drop_one : {X : Type 0} (k : ℕ) (xs : List X) → drop (suc k) xs ≡ drop 1 (drop k xs)
drop_one zero [] = refl
drop_one zero (x ∷ xs) = refl
drop_one (suc k) [] = refl
drop_one (suc k) (x ∷ xs) = drop_one k xs

pub window_popped : (s : Shape) (log : List Logged) (from : ℕ) → first_position log ≤ from
    → (window_from s log (from + 1)).entries ≡ drop 1 (window_from s log from).entries
window_popped s log from within =
    let next : from + 1 - first_position log ≡ suc (from - first_position log) = omega arith in
    ap (λ k. map (held_of s log) (drop k (takes log))) next
    ∙ ap (map (held_of s log)) (drop_one (from - first_position log) (takes log))
    ∙ sym (drop-map (held_of s log) 1 (drop (from - first_position log) (takes log)))

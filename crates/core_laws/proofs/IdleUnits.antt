-- Units all of whose stripes are answered.
use Rattle.std.proofs.Common.{◌≡◌, ℕ, ◌<◌, ◌≤◌, zero, suc, true, Some, List, length, refl, sym, ap₂, ◌∙◌, arith}
use Rattle.std.specs.Prelude.{slice_get}
use Rattle.std.specs.List.{Contains}
use Rattle.std.specs.Option.{is_some}
use Rattle.pblk_world.specs.Events.{Logged}
use Rattle.pblk_world.specs.EngineLog.{Placed, placed_on, answers, is_answered}
use Rattle.world_laws.proofs.UnitTurns.{unit_is as its_unit, turn_is as its_turn}
use Rattle.pblk_model.proofs.Parts.{got_within, is_in, some_within}

-- where all stripes of a unit are answered there are as many answers
pub idle_fits : (log : List Logged) (unit : ℕ) → ((p : Placed) → Contains (placed_on log unit) p → is_answered log p ≡ true)
    → length (placed_on log unit) ≤ length (answers log unit)
idle_fits log unit idle = go (length (placed_on log unit)) refl
  where
    go : (n : ℕ) → length (placed_on log unit) ≡ n → length (placed_on log unit) ≤ length (answers log unit)
    go zero e = omega arith
    go (suc n) e =
        let last : (p : Placed) × (slice_get (placed_on log unit) n ≡ Some p) = got_within (placed_on log unit) n (omega arith) in
        let inside : n < length (answers log unit) = some_within (answers log unit) n
        (ap₂ (λ u k. is_some (slice_get (answers log u) k)) (sym (its_unit log unit n last.0 last.1)) (sym (its_turn log unit n last.0 last.1))
        ∙ idle last.0 (is_in (placed_on log unit) n last.0 last.1)) in
        omega arith

-- The turn of a stripe on its unit is its place among the stripes placed there.
use Rattle.std.proofs.Common.{◌≡◌, ℕ, ◌==◌, refl, zero, suc, Bool, true, false, cond, Some, List, [], ◌∷◌, sym, ap, ◌∙◌}
use Rattle.std.specs.Prelude.{slice_get}
use Rattle.std.specs.List.{filter}
use Rattle.std.proofs.lemmas.Option.{same_Some, none-some}
use Rattle.pblk_world.specs.Events.{Logged}
use Rattle.pblk_world.specs.EngineLog.{Placed, placements, placed_on, turn}
use Rattle.world_laws.proofs.UnitTurns.{lesser, rise_on, unit_is, turn_is}
use Rattle.pblk_model.proofs.Lists.{IsAmong}
use Rattle.pblk_model.proofs.Maps.{in_filter}
use Rattle.pblk_model.proofs.Tests.{same_number}

pub filtered_is : {X : Type 0} (test : X → Bool) (xs : List X) (m : ℕ) (x : X) → slice_get (filter test xs) m ≡ Some x → test x ≡ true
filtered_is test [] m x e = absurd (none-some x e)
filtered_is {X} test (y ∷ ys) m x e = go (test y) refl m e (λ n f. filtered_is test ys n x f)
  where
    go : (b : Bool) → test y ≡ b → (m : ℕ) → slice_get (cond b (y ∷ filter test ys) (filter test ys)) m ≡ Some x
        → ((n : ℕ) → slice_get (filter test ys) n ≡ Some x → test x ≡ true) → test x ≡ true
    go true t zero f rest = ap test (sym (same_Some y x f)) ∙ t
    go true t (suc m) f rest = rest m f
    go false t m f rest = rest m f

-- among the stripes of its unit it stands at its turn
pub stands_at_turn : (log : List Logged) (p : Placed) → IsAmong (placements log) p → slice_get (placed_on log p.stripe.unit) (turn log p) ≡ Some p
stands_at_turn log p among =
    let at : IsAmong (placed_on log p.stripe.unit) p =
    in_filter (λ (q : Placed). q.stripe.unit == p.stripe.unit) (placements log) p among (same_number p.stripe.unit) in
    let same : turn log p ≡ at.0 = lesser (placed_on log p.stripe.unit) at.0 p (rise_on log p.stripe.unit) at.1 in
    ap (slice_get (placed_on log p.stripe.unit)) same ∙ at.1

-- what stands at a place among the stripes of a unit is of that unit, and has that turn
pub turn_at : (log : List Logged) (unit k : ℕ) (p : Placed) → slice_get (placed_on log unit) k ≡ Some p → (p.stripe.unit ≡ unit) × (turn log p ≡ k)
turn_at log unit k p at = (unit_is log unit k p at, turn_is log unit k p at)

-- What a grant keeps, of the ring's end and of the last position.
use Rattle.std.proofs.Common.{◌≡◌, ℕ, ◌+◌, ◌-◌, ◌*◌, ◌^◌, ◌≤◌, max, min, sym, subst, arith}
use Rattle.pblk_model.specs.Accepted.{IsAccepted}
use Rattle.pblk_model.specs.Image.{Image}
use Rattle.pblk_model.specs.Shape.{units}
use Rattle.pblk_world.specs.Fronts.{first_position}
use Rattle.pblk_world.specs.Space.{freed, room, ring_limit, space_limit, position_limit}
use Rattle.pblk_world.specs.World.{World, log_of}
use Rattle.pblk_core.proofs.SmallGrant.{ring_kept}

least_of : (a b c : ℕ) → (min (min a b) c ≤ a) × (min (min a b) c ≤ c)
least_of a b c = (omega arith, omega arith)

fits : (a g k f r : ℕ) → a + k ≤ f + r → g ≤ f + r - k → k ≤ r → max a g + k ≤ f + r
fits a g k f r h e low = omega arith

below_both : (a g n : ℕ) → a ≤ n → g ≤ n → max a g ≤ n
below_both a g n h e = omega arith

-- a grant by these logs leaves no more room
pub all_granted : (granted before free : ℕ) → granted ≡ max before free → free ≤ granted
all_granted granted before free is = omega arith

-- what a grant by these logs keeps
pub grant_kept : (i : Image) (w : World) (granted front first : ℕ) → IsAccepted i.shape → front ≡ freed i.shape (log_of w 0)
    → first_position (log_of w 0) ≡ first
    → granted + units i.shape * i.shape.ws_opt ≤ front + i.shape.ring → granted ≤ max (2 ^ 61 - 2) first
    → (max granted (room i (log_of w)) + units i.shape * i.shape.ws_opt ≤ front + i.shape.ring)
    × (max granted (room i (log_of w)) ≤ max (2 ^ 61 - 2) (first_position (log_of w 0)))
grant_kept i w granted front first accepted drained same was low =
    let both = least_of (ring_limit i.shape (log_of w 0)) (space_limit i (log_of w)) (position_limit (log_of w 0)) in
    let within : room i (log_of w) ≤ front + i.shape.ring - units i.shape * i.shape.ws_opt =
    subst (λ n. room i (log_of w) ≤ n + i.shape.ring - units i.shape * i.shape.ws_opt) (sym drained) both.0 in (
      fits granted (room i (log_of w)) (units i.shape * i.shape.ws_opt) front i.shape.ring was within (ring_kept i.shape accepted),
      below_both granted (room i (log_of w)) (max (2 ^ 61 - 2) (first_position (log_of w 0))) (subst (λ n. granted ≤ max (2 ^ 61 - 2) n) (sym same) low) both.1,
    )

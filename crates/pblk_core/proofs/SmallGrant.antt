-- What a core grants.
use Rattle.std.proofs.Common.{◌≡◌, ℕ, ◌+◌, ◌-◌, ◌*◌, ◌/◌, ◌^◌, ◌<◌, ◌≤◌, min, max, nat_le, sym, subst, ap, ap₂, ◌∙◌, arith}
use Rattle.std.proofs.Math.Nat.{mul-le-mul_left, div-le_self}
use Rattle.pblk_model.specs.declared.shape.Shape.{Shape}
use Rattle.pblk_model.specs.Accepted.{IsAccepted}
use Rattle.pblk_model.specs.Shape.{units}
use Rattle.pblk_model.specs.LineOrder.{data_len}
use Rattle.pblk_model.specs.Image.{Image}
use Rattle.pblk_world.specs.World.{World, Logs, log_of}
use Rattle.pblk_world.specs.Fronts.{first_position, taken}
use Rattle.pblk_world.specs.Space.{freed, is_due, placed_front, room}
use Rattle.pblk_world.specs.Space as space
use Rattle.line_table.specs.Rows.{free_addresses}
use Rattle.pblk_world.specs.LegalMounts.{IsLegalMount}
use Rattle.core_laws.proofs.FreeRows.{addresses_free}
use Rattle.core_laws.proofs.PlacedInOrder.{ordered, front_within}
use Rattle.pblk_core.specs.declared.target_core.Core.{Core}
use Rattle.pblk_core.specs.Copies.{is_due_in}
use Rattle.pblk_core.specs.Stands.{Stands}
use Rattle.pblk_core.proofs.StandsFacts.{freed_taken_within}
use Rattle.pblk_core.proofs.SmallPositions.{taken_bounded, open_few, free_few}

-- the numbers that a core adds up are small
pub record IsSmall (c : Core) : Type 0 where
  pub freed : c.window.freed ≤ 2 ^ 62
  pub placed : c.first + c.placed ≤ 2 ^ 62
  pub left : c.left ≤ 2 ^ 26
  pub free : free_addresses c.lines ≤ 2 ^ 26
  pub ring : c.layout.ring ≤ 16384
  pub kept : units c.layout * c.layout.ws_opt ≤ c.layout.ring

pub ring_kept : (s : Shape) → IsAccepted s → units s * s.ws_opt ≤ s.ring
ring_kept s accepted =
    let low : units s * (s.mw_cunits + 4 * s.ws_opt) + 16 ≤ s.ring = accepted.target.ring_low in
    let less : units s * s.ws_opt ≤ units s * (s.mw_cunits + 4 * s.ws_opt) = mul-le-mul_left (units s) (omega arith) in
    omega arith

pub free_is : (i : Image) (w : World) (c : Core) → Stands i (log_of w) c → free_addresses c.lines ≡ space.free_addresses i (log_of w)
free_is i w c st = ap free_addresses st.table ∙ addresses_free i (log_of w)

-- whether collection is due
pub due_is : (i : Image) (logs : Logs) (c : Core) → Stands i logs c → is_due_in c ≡ is_due i logs
due_is i logs c st =
    ap₂ nat_le (ap free_addresses st.table ∙ addresses_free i logs) (ap (λ (s : Shape). 3 * data_len s (units s)) st.layout)

pub small : (i : Image) (w : World) (c : Core) → IsLegalMount i w → Stands i (log_of w) c → IsSmall c
small i w c mount st =
    let begins : first_position (log_of w 0) ≤ 2 ^ 62 = subst (λ n. n ≤ 2 ^ 62) st.first st.fits.first in
    let most : taken (log_of w 0) ≤ 2 ^ 62 = taken_bounded i w mount begins in
    let within : c.window.freed ≤ taken (log_of w 0) = freed_taken_within i w c st in
    let front : placed_front i.shape (log_of w 0) ≤ taken (log_of w 0) = front_within i.shape (log_of w 0) (ordered i w mount) in
    let lines : i.shape.chunks ≤ 1024 = mount.accepted.drive.lines_high in
    record {
      freed = omega arith;
      placed = let is : c.first + c.placed ≡ placed_front i.shape (log_of w 0) = st.placed in omega arith;
      left = let is : c.left ≡ space.open_addresses i (log_of w) = st.left in let few : space.open_addresses i (log_of w) ≤ i.shape.chunks * 65536 =
          open_few i w mount in omega arith;
      free = let is : free_addresses c.lines ≡ space.free_addresses i (log_of w) =
          free_is i w c st in let few : space.free_addresses i (log_of w) ≤ i.shape.chunks * 65536 = free_few i w mount in omega arith;
      ring = subst (λ (s : Shape). s.ring ≤ 16384) (sym st.layout) mount.accepted.target.ring_high;
      kept = subst (λ (s : Shape). units s * s.ws_opt ≤ s.ring) (sym st.layout) (ring_kept i.shape mount.accepted);
    }

-- the least of the three limits is that of the logs
pub granted_is : (i : Image) (w : World) (c : Core) → Stands i (log_of w) c → c.window.freed ≡ freed i.shape (log_of w 0)
    → min (min (c.window.freed + c.layout.ring - units c.layout * c.layout.ws_opt)
    (c.first + c.placed + (c.left + free_addresses c.lines - 2 * data_len c.layout (units c.layout)) / c.layout.ws_opt))
    (max (2 ^ 61 - 2) c.first) ≡ room i (log_of w)
granted_is i w c st front =
    ap₂ min (ap₂ min (ap₂ (λ n (s : Shape). n + s.ring - units s * s.ws_opt) front st.layout)
    (ap₂ (λ a b. a + b) st.placed (ap₂ (λ n (s : Shape). (n - 2 * data_len s (units s)) / s.ws_opt) (ap₂ (λ a b. a + b) st.left (free_is i w c st)) st.layout)))
    (ap (max (2 ^ 61 - 2)) st.first)

pub space_fits : (c : Core) (n w : ℕ) → IsSmall c → n ≤ c.left + free_addresses c.lines → c.first + c.placed + n / w < 2 ^ 64
space_fits c n w is few =
    let a : c.first + c.placed ≤ 2 ^ 62 = is.placed in
    let b : c.left ≤ 2 ^ 26 = is.left in
    let d : free_addresses c.lines ≤ 2 ^ 26 = is.free in
    let e : n / w ≤ n = div-le_self n w in
    omega arith

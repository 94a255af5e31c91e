-- The positions that can be read now are in the window, and have landed.
use Rattle.std.proofs.Common.{◌≡◌, ℕ, ◌<◌, ◌≤◌, true, false, Some, List, [], drop, length, take, sym, subst}
use Rattle.std.specs.List.{list_any}
use Rattle.pblk_model.specs.Image.{Image}
use Rattle.pblk_world.specs.World.{World, log_of}
use Rattle.pblk_world.specs.EngineLog.{Opened, Opening, takes, Placed, placements, stripes_on, bears_position, holds_position}
use Rattle.pblk_world.specs.Fronts.{first_position, taken, has_landed_at}
use Rattle.pblk_world.specs.Space.{freed}
use Rattle.core_laws.specs.PlacerOf.{unanswered_on}
use Rattle.pblk_world.specs.LegalMounts.{IsLegalMount}
use Rattle.core_laws.specs.WindowOf.{is_given_back}
use Rattle.core_laws.proofs.Answered.{first_unanswered}
use Rattle.core_laws.specs.ChunkBlocks.{newly_readable, chunk_blocks, AreInRows}
use Rattle.core_laws.proofs.UsersEntries.{AreInOrder, in_order}
use Rattle.core_laws.proofs.LeastPositions.{least_below}
use Rattle.core_laws.proofs.LandedStripe.{with_landing, one_more}
use Rattle.core_laws.proofs.LandedWindow.{landed_now}
use Rattle.core_laws.proofs.GivenNow.{IsOfChunk, chunk_members}
use Rattle.core_laws.proofs.HeldOnce.{held_once}
use Rattle.core_laws.proofs.BorneOnce.{borne_once}
use Rattle.core_laws.proofs.FirstPositions.{placed_from}
use Rattle.core_laws.proofs.NewWindow.{newest_in}
use Rattle.core_laws.proofs.NewlyHeld.{any_stripe, member_of, any_part, own_kept, newly_kept, newly_landed}
use Rattle.pblk_model.proofs.Lists.{IsAmong}
use Rattle.pblk_model.proofs.Parts.{all_at}
use Rattle.pblk_model.proofs.MarksLemmas.{accepted_small}

-- a position that a stripe holds was taken in this mount
pub held_taken : (i : Image) (w : World) (q : ℕ) (r : Placed) → IsLegalMount i w → IsAmong (placements (log_of w 0)) r → holds_position i.shape q r ≡ true
    → (first_position (log_of w 0) ≤ q) × (q < taken (log_of w 0))
held_taken i w q r mount among holds =
    let order : AreInOrder i.shape (log_of w 0) = in_order i w (accepted_small i.shape mount.accepted) mount.legal in (
      all_at (λ (p : Placed). (q : ℕ) → holds_position i.shape q p ≡ true → first_position (log_of w 0) ≤ q) (placements (log_of w 0)) among.0 r among.1
          (placed_from i w (accepted_small i.shape mount.accepted) mount.legal) q holds,
      all_at (λ (p : Placed). (q : ℕ) → holds_position i.shape q p ≡ true → q < taken (log_of w 0))
          (placements (log_of w 0)) among.0 r among.1 order.taken q holds,
    )

-- one that is in the window until a block of it can be read
pub held_by_window : (i : Image) (w : World) (q : ℕ) (r : Placed) → IsLegalMount i w → IsAmong (placements (log_of w 0)) r → holds_position i.shape q r ≡ true
    → is_given_back i.shape (log_of w 0) q ≡ false → (freed i.shape (log_of w 0) ≤ q) × (q < taken (log_of w 0))
held_by_window i w q r mount among holds kept =
    let both = held_taken i w q r mount among holds in
    (least_below (is_given_back i.shape (log_of w 0)) (length (takes (log_of w 0))) (first_position (log_of w 0)) q both.0 kept, both.1)

pub newly_not_given : (i : Image) (w : World) (unit : ℕ) (p : Placed) (o : Opening) (q : ℕ) → IsLegalMount i w → unanswered_on (log_of w 0) unit ≡ Some p
    → p.life ≡ Opened o → AreInRows i.shape (log_of w 0) o unit
    → list_any (bears_position i.shape q) (newly_readable i.shape (log_of w 0) o unit) ≡ true → is_given_back i.shape (log_of w 0) q ≡ false
newly_not_given i w unit p o q mount waits life rows e =
    newly_kept i.shape (log_of w 0) (with_landing (log_of w 0) unit 0 []) p o q (landed_now i w unit 0 [] p o mount waits life rows) (held_once i w mount)
    (borne_once i w mount)
    (subst (λ u. list_any (bears_position i.shape q) (newly_readable i.shape (log_of w 0) o u) ≡ true)
    (sym (first_unanswered (log_of w 0) unit p waits).of_unit) e)

-- what a block of the stripe's chunk bears
pub borne_in_window : (i : Image) (w : World) (p : Placed) (o : Opening) (q low high : ℕ) → IsLegalMount i w
    → list_any (bears_position i.shape q) (drop low (take high (chunk_blocks (log_of w 0) o p.stripe.unit))) ≡ true
    → is_given_back i.shape (log_of w 0) q ≡ false → (freed i.shape (log_of w 0) ≤ q) × (q < taken (log_of w 0))
borne_in_window i w p o q low high mount e kept =
    let r : (x : Placed) × (holds_position i.shape q x ≡ true) × IsAmong (stripes_on (log_of w 0) o p.stripe.unit) x =
    member_of (holds_position i.shape q) (stripes_on (log_of w 0) o p.stripe.unit)
    (any_stripe (bears_position i.shape q) (stripes_on (log_of w 0) o p.stripe.unit)
    (any_part (bears_position i.shape q) low high (chunk_blocks (log_of w 0) o p.stripe.unit) e)) in
    let of : IsOfChunk (log_of w 0) p o r.0 =
    all_at (IsOfChunk (log_of w 0) p o) (stripes_on (log_of w 0) o p.stripe.unit) r.2.0 r.0 r.2.1 (chunk_members (log_of w 0) p o) in
    held_by_window i w q r.0 mount of.among r.1 kept

pub newly_in_window : (i : Image) (w : World) (unit : ℕ) (p : Placed) (o : Opening) (q : ℕ) → IsLegalMount i w → unanswered_on (log_of w 0) unit ≡ Some p
    → p.life ≡ Opened o → AreInRows i.shape (log_of w 0) o unit
    → list_any (bears_position i.shape q) (newly_readable i.shape (log_of w 0) o unit) ≡ true → (freed i.shape (log_of w 0) ≤ q) × (q < taken (log_of w 0))
newly_in_window i w unit p o q mount waits life rows e =
    borne_in_window i w p o q _ _ mount
    (subst (λ u. list_any (bears_position i.shape q) (newly_readable i.shape (log_of w 0) o u) ≡ true)
    (sym (first_unanswered (log_of w 0) unit p waits).of_unit) e)
    (newly_not_given i w unit p o q mount waits life rows e)

pub newly_has_landed : (i : Image) (w : World) (unit event : ℕ) (knows : List ℕ) (p : Placed) (o : Opening) (q : ℕ) → IsLegalMount i w
    → unanswered_on (log_of w 0) unit ≡ Some p → p.life ≡ Opened o → AreInRows i.shape (log_of w 0) o unit
    → list_any (bears_position i.shape q) (newly_readable i.shape (log_of w 0) o unit) ≡ true
    → has_landed_at i.shape (with_landing (log_of w 0) unit event knows) q ≡ true
newly_has_landed i w unit event knows p o q mount waits life rows e =
    newly_landed i.shape (log_of w 0) (with_landing (log_of w 0) unit event knows) p o q (landed_now i w unit event knows p o mount waits life rows)
    (newest_in i w unit p mount.legal waits)
    (subst (λ u. list_any (bears_position i.shape q) (newly_readable i.shape (log_of w 0) o u) ≡ true)
    (sym (first_unanswered (log_of w 0) unit p waits).of_unit) e)

-- what the stripe itself holds is in the window too
pub own_in_window : (i : Image) (w : World) (unit : ℕ) (p : Placed) (q : ℕ) → IsLegalMount i w → unanswered_on (log_of w 0) unit ≡ Some p
    → holds_position i.shape q p ≡ true
    → (is_given_back i.shape (log_of w 0) q ≡ false) × (freed i.shape (log_of w 0) ≤ q) × (q < taken (log_of w 0))
own_in_window i w unit p q mount waits holds =
    let among : IsAmong (placements (log_of w 0)) p = (first_unanswered (log_of w 0) unit p waits).among in
    let kept : is_given_back i.shape (log_of w 0) q ≡ false =
    own_kept i.shape (log_of w 0) p q (held_once i w mount) among (one_more (log_of w 0) unit 0 [] p waits).before holds in
    let both = held_by_window i w q p mount among holds kept in
    (kept, both.0, both.1)

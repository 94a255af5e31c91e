-- The positions that the placer of a core holds.
use Rattle.std.proofs.Common.{◌≡◌, ℕ, ◌+◌, ◌-◌, ◌<◌, ◌≤◌, Some, List, length, refl, sym, subst, ap, ◌∙◌, arith}
use Rattle.std.specs.Prelude.{slice_get}
use Rattle.std.specs.List.{All, Contains}
use Rattle.std.proofs.lemmas.List.Elements.{All-from_recursion}
use Rattle.std.proofs.lemmas.Option.{slice_get_read}
use Rattle.pblk_model.specs.Image.{Image}
use Rattle.pblk_world.specs.World.{World, log_of}
use Rattle.pblk_world.specs.Fronts.{taken}
use Rattle.stripe_placer.specs.Placing.{Placing, held}
use Rattle.write_window.specs.Window as view
use Rattle.pblk_world.specs.LegalMounts.{IsLegalMount}
use Rattle.core_laws.specs.PlacerOf.{placing_of, entries_of}
use Rattle.core_laws.specs.Placed.{IsInWindow}
use Rattle.core_laws.proofs.PlacedInOrder.{ordered}
use Rattle.core_laws.proofs.HeldPositions.{in_window, held_few, fresh_below}
use Rattle.pblk_core.specs.declared.target_core.Core.{Core}
use Rattle.pblk_core.specs.Stands.{Stands}
use Rattle.pblk_core.proofs.StandsFacts.{window_taken_is}

pub held_room : (i : Image) (w : World) (c : Core) → IsLegalMount i w → Stands i (log_of w) c → length c.window.entries < c.window.size
    → length (held c.placer) < c.placer.shape.ring
held_room i w c mount st some =
    let few : length (held (placing_of i (log_of w) c.placer.entries.pad st.again)) ≤ taken (log_of w 0) - c.window.freed =
    held_few i (log_of w) c.placer.entries.pad st.again c.window.freed (ordered i w mount) st.to_freed in
    let count : length (held c.placer) ≡ length (held (placing_of i (log_of w) c.placer.entries.pad st.again)) = ap (λ p. length (held p)) st.placing in
    let end : c.window.freed + length c.window.entries ≡ taken (log_of w 0) = window_taken_is i w c st in
    let size : c.window.size ≡ i.shape.ring = st.size in
    let ring : c.placer.shape.ring ≡ i.shape.ring = ap (λ (p : Placing). p.shape.ring) st.placing in
    omega arith

pub held_another : (i : Image) (w : World) (c : Core) (position : ℕ) → IsLegalMount i w → Stands i (log_of w) c → position ≡ view.taken c.window
    → Contains (held c.placer) position → ⊥
held_another i w c position mount st is there =
    let at : (k : ℕ) × (slice_get (held c.placer) k ≡ Some position) = is_at (held c.placer) position there in
    let inside : IsInWindow i.shape (log_of w 0) position =
    in_window i (log_of w) c.placer.entries.pad st.again at.0 position (ordered i w mount) (ap (λ p. slice_get (held p) at.0) (sym st.placing) ∙ at.1) in
    let below : position < taken (log_of w 0) = inside.below_taken in
    let end : view.taken c.window ≡ taken (log_of w 0) = window_taken_is i w c st in
    omega arith
  where
    is_at : (xs : List ℕ) (x : ℕ) → Contains xs x → (k : ℕ) × (slice_get xs k ≡ Some x)
    is_at xs x h = (h.0, slice_get_read xs (length xs) h.0 x refl h.1 (sym h.2))

pub held_rises : (i : Image) (w : World) (c : Core) (position : ℕ) → IsLegalMount i w → Stands i (log_of w) c → position ≡ view.taken c.window
    → All (λ q. q < position) c.placer.entries.fresh
held_rises i w c position mount st is =
    let end : position ≡ taken (log_of w 0) = is ∙ window_taken_is i w c st in
    subst (λ n. All (λ q. q < n) c.placer.entries.fresh) (sym end)
    (subst (λ (p : Placing). All (λ q. q < taken (log_of w 0)) p.entries.fresh) (sym st.placing)
    (All-from_recursion (λ q. q < taken (log_of w 0)) (entries_of i.shape (log_of w 0) c.placer.entries.pad).fresh
    (fresh_below i.shape (log_of w 0) (ordered i w mount))))

-- What a core that stands for a legal world keeps.
use Rattle.std.proofs.Common.{◌≡◌, ℕ, ◌+◌, ◌-◌, ◌*◌, ◌<◌, ◌≤◌, List, [], ◌∷◌, length, Bool, true, false, cond, sym, subst, ap, ◌∙◌, arith, length-drop}
use Rattle.std.proofs.lemmas.List.{length-map}
use Rattle.std.specs.Prelude.{drop}
use Rattle.pblk_model.specs.declared.shape.Shape.{Shape}
use Rattle.pblk_model.specs.Accepted.{IsAccepted}
use Rattle.pblk_model.specs.Shape.{units}
use Rattle.pblk_model.specs.Image.{Image}
use Rattle.pblk_world.specs.World.{World, log_of}
use Rattle.std.specs.List.{filter}
use Rattle.pblk_world.specs.EngineLog.{Taken, takes}
use Rattle.pblk_world.specs.Fronts.{first_position, taken, synced, is_users, user_takes}
use Rattle.pblk_world.specs.Space.{freed}
use Rattle.pblk_world.proofs.SyncedFront.{synced_within}
use Rattle.write_window.specs.Window as view
use Rattle.pblk_world.specs.LegalMounts.{IsLegalMount}
use Rattle.core_laws.specs.Positions.{IsUnplaced}
use Rattle.core_laws.specs.WindowOf.{without_frame, held_of, HeldSectors}
use Rattle.core_laws.proofs.PlacedPositions.{taken_is_unplaced}
use Rattle.core_laws.proofs.UsersEntries.{in_order}
use Rattle.core_laws.proofs.Growing.{freed_within}
use Rattle.pblk_core.specs.declared.target_core.Core.{Core}
use Rattle.pblk_core.specs.Stands.{Stands}
use Rattle.pblk_model.proofs.MarksLemmas.{accepted_small}

-- the window ends at the front taken
pub freed_taken_within : (i : Image) (w : World) (c : Core) → Stands i (log_of w) c → c.window.freed ≤ taken (log_of w 0)
freed_taken_within i w c st =
    let a : freed i.shape (log_of w 0) ≤ synced i.shape (log_of w 0) = freed_within i.shape (log_of w 0) in
    let b : synced i.shape (log_of w 0) ≤ taken (log_of w 0) = synced_within i.shape (log_of w 0) in
    let d : c.window.freed ≤ freed i.shape (log_of w 0) = st.to_freed in
    omega arith

pub held_count : (i : Image) (w : World) (c : Core) → Stands i (log_of w) c
    → length c.window.entries ≡ length (takes (log_of w 0)) - (c.window.freed - first_position (log_of w 0))
held_count i w c st =
    sym (length-map c.window.entries without_frame)
    ∙ ap (λ (v : HeldSectors). length v.entries) st.window
    ∙ length-map (drop (c.window.freed - first_position (log_of w 0)) (takes (log_of w 0))) (held_of i.shape (log_of w 0))
    ∙ length-drop (c.window.freed - first_position (log_of w 0)) (takes (log_of w 0))

pub window_taken_is : (i : Image) (w : World) (c : Core) → Stands i (log_of w) c → view.taken c.window ≡ taken (log_of w 0)
window_taken_is i w c st =
    let count : length c.window.entries ≡ length (takes (log_of w 0)) - (c.window.freed - first_position (log_of w 0)) = held_count i w c st in
    let low : first_position (log_of w 0) ≤ c.window.freed = st.from_first in
    let high : c.window.freed ≤ first_position (log_of w 0) + length (takes (log_of w 0)) = freed_taken_within i w c st in
    omega arith

-- what isn't below the front freed is there
pub in_window : (i : Image) (w : World) (c : Core) (q : ℕ) → Stands i (log_of w) c → freed i.shape (log_of w 0) ≤ q → q < taken (log_of w 0)
    → view.IsHeld c.window q
in_window i w c q st low high =
    let from : c.window.freed ≤ freed i.shape (log_of w 0) = st.to_freed in
    (omega arith, subst (λ n. q < n) (sym (window_taken_is i w c st)) high)

pub next_is_unplaced : (i : Image) (w : World) → IsLegalMount i w → IsUnplaced i.shape (log_of w 0) (taken (log_of w 0))
next_is_unplaced i w mount = taken_is_unplaced i.shape (log_of w 0) (in_order i w (accepted_small i.shape mount.accepted) mount.legal).taken

-- how many users' writes were taken
pub users_few : (i : Image) (w : World) (c : Core) → Stands i (log_of w) c → c.users ≤ taken (log_of w 0)
users_few i w c st =
    let a : length (user_takes (log_of w 0)) ≤ length (takes (log_of w 0)) = filter_short (λ (t : Taken). is_users t.entry.source) (takes (log_of w 0)) in
    let b : c.users ≡ length (user_takes (log_of w 0)) = st.users in
    omega arith
  where
    filter_short : {X : Type 0} (f : X → Bool) (xs : List X) → length (filter f xs) ≤ length xs
    filter_short f [] = omega arith
    filter_short f (x ∷ xs) = let h : length (filter f xs) ≤ length xs =
        filter_short f xs in elim (f x) as (λ b. length (cond b (x ∷ filter f xs) (filter f xs)) ≤ length (x ∷ xs)) [ true ↦ omega arith | false ↦ omega arith ]

pub ring_some : (s : Shape) → IsAccepted s → 0 < s.ring
ring_some s accepted = let low : units s * (s.mw_cunits + 4 * s.ws_opt) + 16 ≤ s.ring = accepted.target.ring_low in omega arith

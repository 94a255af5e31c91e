-- The window's front and the front freed: they are one exactly where no block of the window's first
-- entry can be read.
use Rattle.std.proofs.Common.{◌≡◌, ◌+◌, ◌-◌, ◌≤◌, Bool, true, false, cond, nat_lt, Some, None, List, [], ◌∷◌, length, take, drop, refl, sym, ap, ap₂, ◌∙◌, arith}
use Rattle.std.specs.Prelude.{map, slice_get}
use Rattle.std.specs.Option.{option_map_or}
use Rattle.pblk_model.specs.Image.{Image}
use Rattle.pblk_world.specs.World.{World, log_of}
use Rattle.pblk_world.specs.EngineLog.{Taken, takes}
use Rattle.pblk_world.specs.Fronts.{first_position, synced, taken, has_landed_at}
use Rattle.pblk_world.specs.Space.{freed}
use Rattle.pblk_world.proofs.SyncedFront.{synced_within}
use Rattle.pblk_world.specs.LegalMounts.{IsLegalMount}
use Rattle.core_laws.specs.WindowOf.{HeldSector, HeldSectors, without_frame, progress_by, is_given_back, held_of}
use Rattle.core_laws.proofs.Placing.{not_below}
use Rattle.core_laws.proofs.CachedEntries.{numbered_at}
use Rattle.core_laws.proofs.FreedFront.{freed_here}
use Rattle.core_laws.proofs.Growing.{given_landed, freed_within}
use Rattle.write_window.specs.declared.held.Held.{Held}
use Rattle.write_window.specs.Entries.{is_readable, users_in}
use Rattle.write_window.specs.Window.{WindowView}
use Rattle.write_window.specs.Window as view
use Rattle.pblk_core.specs.Stands.{Stands}
use Rattle.pblk_core.specs.declared.target_core.Core.{Core}
use Rattle.pblk_core.proofs.SmallCalls.{numbered_in, drop_first, popped_window}
use Rattle.pblk_core.proofs.StandsFacts.{window_taken_is}

at_front : {B : Type 0} (w : WindowView) (f : Held → B) (d : B) → option_map_or f (view.held_at w w.freed) d ≡ option_map_or f (slice_get w.entries 0) d
at_front w f d =
    let here : nat_lt w.freed w.freed ≡ false = not_below w.freed w.freed (omega arith) in
    let none : w.freed - w.freed ≡ 0 = omega arith in
    ap₂ (λ b n. option_map_or f (cond b None (slice_get w.entries n)) d) here none

given_no : (landed given : Bool) → (given ≡ true → landed ≡ true) → is_readable (progress_by landed given) ≡ false → given ≡ false
given_no landed false first e = refl
given_no true true first e = absurd cc
given_no false true first e = let no : false ≡ true = first refl in absurd cc

-- where no block of the first entry can be read, or there is none, the window's front is that of
-- the log
pub front_is_freed : (i : Image) (w : World) (c : Core) → IsLegalMount i w → Stands i (log_of w) c → view.is_readable_at c.window c.window.freed ≡ false
    → c.window.freed ≡ freed i.shape (log_of w 0)
front_is_freed i w c mount st unread =
    go c.window.entries (drop (c.window.freed - first_position (log_of w 0)) (takes (log_of w 0))) refl refl (ap (λ (x : HeldSectors). x.entries) st.window)
    (sym (at_front c.window (λ h. is_readable h.progress) false) ∙ unread)
  where
    empty : c.window.entries ≡ [] → c.window.freed ≡ freed i.shape (log_of w 0)
    empty none =
        let all : c.window.freed + length c.window.entries ≡ taken (log_of w 0) = window_taken_is i w c st in
        let zero_long : length c.window.entries ≡ 0 = ap length none in
        let a : freed i.shape (log_of w 0) ≤ synced i.shape (log_of w 0) = freed_within i.shape (log_of w 0) in
        let b : synced i.shape (log_of w 0) ≤ taken (log_of w 0) = synced_within i.shape (log_of w 0) in
        let d : c.window.freed ≤ freed i.shape (log_of w 0) = st.to_freed in
        omega arith

    go : (held : List Held) (ts : List Taken) → c.window.entries ≡ held → drop (c.window.freed - first_position (log_of w 0)) (takes (log_of w 0)) ≡ ts
        → map without_frame held ≡ map (held_of i.shape (log_of w 0)) ts
        → option_map_or (λ (h : Held). is_readable h.progress) (slice_get held 0) false ≡ false → c.window.freed ≡ freed i.shape (log_of w 0)
    go [] ts is from same kept_here = empty is
    go (h ∷ hs) [] is from same kept_here = absurd cc
    go (h ∷ hs) (t ∷ ts) is from same kept_here =
        let here : without_frame h ≡ held_of i.shape (log_of w 0) t = cc in
        let there : slice_get (takes (log_of w 0)) (c.window.freed - first_position (log_of w 0)) ≡ Some t =
        drop_first (c.window.freed - first_position (log_of w 0)) (takes (log_of w 0)) ts t from in
        let at : t.entry.position ≡ first_position (log_of w 0) + (c.window.freed - first_position (log_of w 0)) =
        numbered_at (first_position (log_of w 0)) (length (takes (log_of w 0))) (takes (log_of w 0)) (c.window.freed - first_position (log_of w 0)) t
        (numbered_in i w mount) there in
        let low : first_position (log_of w 0) ≤ c.window.freed = st.from_first in
        let same_place : t.entry.position ≡ c.window.freed = omega arith in
        let kept : is_given_back i.shape (log_of w 0) t.entry.position ≡ false =
        given_no (has_landed_at i.shape (log_of w 0) t.entry.position) (is_given_back i.shape (log_of w 0) t.entry.position)
        (given_landed i.shape (log_of w 0) t.entry.position)
        (sym (ap (λ (x : HeldSector). is_readable x.progress) here) ∙ kept_here) in
        sym (freed_here i.shape (log_of w 0) c.window.freed st.from_first st.to_freed (ap (is_given_back i.shape (log_of w 0)) (sym same_place) ∙ kept))

-- and where the window's front is that of the log, none can be read
pub unread_at_front : (i : Image) (w : World) (c : Core) → IsLegalMount i w → Stands i (log_of w) c → c.window.freed ≡ freed i.shape (log_of w 0)
    → view.is_readable_at c.window c.window.freed ≡ false
unread_at_front i w c mount st same = go (view.is_readable_at c.window c.window.freed) refl
  where
    go : (b : Bool) → view.is_readable_at c.window c.window.freed ≡ b → view.is_readable_at c.window c.window.freed ≡ false
    go false e = e
    go true e =
        let new : WindowView = record {
          size = c.window.size;
          freed = c.window.freed + 1;
          users = c.window.users + users_in (take 1 c.window.entries);
          entries =
              drop 1 c.window.entries;
        } in
        let past : c.window.freed + 1 ≤ freed i.shape (log_of w 0) =
        (popped_window i w c new mount st (record { readable = e; size = refl; freed = refl; users = refl; entries = refl })).1 in
        absurd (omega arith)

-- The line in which a sector is live, by its slot.
use Rattle.std.proofs.Common.{◌≡◌, ℕ, ◌+◌, ◌-◌, ◌<◌, ◌≤◌, ◌&&◌, drop, if◌then◌else◌, not, Bool, true, false, Some, None, Option, List, length, refl, sym, ap, ◌∙◌, arith}
use Rattle.std.specs.Prelude.{slice_get, ◌%◌}
use Rattle.std.specs.List.{find}
use Rattle.std.specs.Option.{option_map, option_map_or, option_and_then}
use Rattle.std.proofs.lemmas.Option.{slice_get-map, slice_get_within}
use Rattle.pblk_model.specs.declared.shape.Shape.{Shape}
use Rattle.pblk_model.specs.Image.{Image}
use Rattle.pblk_model.specs.Records.{Record}
use Rattle.pblk_model.specs.Contents.{counted, winner}
use Rattle.pblk_world.specs.Events.{Logged}
use Rattle.pblk_world.specs.World.{World, log_of}
use Rattle.pblk_world.proofs.Takers.{not_landed_line}
use Rattle.pblk_world.specs.EngineLog.{Taken, takes, Placed, placements, LineLife, life_of, is_as_found, holds_position, was_lost, has_landed}
use Rattle.pblk_world.specs.Fronts.{first_position, has_landed_at, last_take}
use Rattle.pblk_world.specs.Lines.{found_image}
use Rattle.pblk_world.specs.Space.{gives_back, freed}
use Rattle.pblk_world.specs.Victims.{is_in_force, line_of_position, line_of, landed_line, landed_line_of}
use Rattle.l2p_map.specs.declared.slot.Slot.TheVariants.{Cached}
use Rattle.pblk_world.specs.LegalMounts.{IsLegalMount}
use Rattle.core_laws.specs.SlotOf.{slot_of, slot_by, slot_of_entry, slot_of_winner, media_of}
use Rattle.core_laws.specs.WindowOf.{HeldSector, HeldSectors, held_of, is_given_back, progress_by, without_frame}
use Rattle.core_laws.proofs.Placing.{not_below}
use Rattle.write_window.specs.Entries.{has_landed as progress_landed}
use Rattle.write_window.specs.Window as view
use Rattle.write_window.specs.declared.held.Held.{Held}
use Rattle.core_laws.proofs.LatestLines.{latest_stands, winner_as_found}
use Rattle.core_laws.proofs.StandingLines.{in_force}
use Rattle.core_laws.proofs.Growing.{given_holds, given_landed}
use Rattle.core_laws.proofs.UsersEntries.{in_order}
use Rattle.core_laws.proofs.LeastPositions.{least_below}
use Rattle.core_laws.proofs.NewlyHeld.{member_of}
use Rattle.core_laws.proofs.CachedEntries.{last_is_among, numbered_at}
use Rattle.core_laws.proofs.HeldOnce.{held_once}
use Rattle.core_laws.proofs.PlacedAnew.{landed_not_lost}
use Rattle.core_laws.specs.EntryHolds.{placed_line}
use Rattle.core_laws.proofs.EntryHolds.{line_of_holder}
use Rattle.pblk_core.specs.declared.hold.Hold.{Hold}
use Rattle.pblk_core.specs.declared.hold.Holds.{Holds}
use Rattle.pblk_core.specs.Holds.{line_of_slot, has_landed_in}
use Rattle.pblk_core.specs.Stands.{Stands, AreHolds}
use Rattle.pblk_core.specs.declared.target_core.Core.{Core}
use Rattle.pblk_model.proofs.Lists.{IsAmong, among_all}
use Rattle.pblk_model.proofs.Maps.{any_member, find_agree, found_none, found_passes}
use Rattle.pblk_model.proofs.Parts.{contained_among, get_dropped, is_in}
use Rattle.pblk_model.proofs.Tests.{first_of, second_of}
use Rattle.pblk_model.proofs.MarksLemmas.{accepted_small}

-- ---- the line of a position

-- where its stripes that weren't lost stand, it is that of the first of them
pub position_line : (s : Shape) (log : List Logged) (q : ℕ)
    → ((p : Placed) → IsAmong (placements log) p → holds_position s q p ≡ true → was_lost log p ≡ false → is_in_force log p.life p.stripe.line ≡ true)
    → line_of_position s log q ≡ placed_line s log q
position_line s log q force = ap (option_map (λ (p : Placed). p.stripe.line))
    (find_agree (IsAmong (placements log)) (λ p. holds_position s q p && not (was_lost log p) && is_in_force log p.life p.stripe.line)
    (λ p. holds_position s q p && not (was_lost log p))
    (λ p among. by (holds_position s q p) (was_lost log p) (is_in_force log p.life p.stripe.line) (force p among)) (placements log)
    (among_all (placements log)))
  where
    by : (a l f : Bool) → (a ≡ true → l ≡ false → f ≡ true) → (a && not l && f) ≡ (a && not l)
    by false l f stands = refl
    by true true f stands = refl
    by true false f stands = stands refl refl

-- those of the latest entry of a sector do
latest_line : (i : Image) (w : World) (lba : ℕ) (t : Taken) → IsLegalMount i w → lba < i.shape.capacity → last_take (log_of w 0) lba ≡ Some t
    → line_of_position i.shape (log_of w 0) t.entry.position ≡ placed_line i.shape (log_of w 0) t.entry.position
latest_line i w lba t mount inside last = position_line i.shape (log_of w 0) t.entry.position
    (λ p among holds kept. in_force i w mount p (contained_among (placements (log_of w 0)) p among)
    (latest_stands i w mount lba t p inside last (contained_among (placements (log_of w 0)) p among) holds kept))

-- ---- where a position has landed

-- one that has landed is where it is live
pub landed_line_is : (i : Image) (w : World) (q : ℕ) → IsLegalMount i w → has_landed_at i.shape (log_of w 0) q ≡ true
    → landed_line i.shape (log_of w 0) q ≡ line_of_position i.shape (log_of w 0) q
landed_line_is i w q mount lands = ap (option_map (λ (p : Placed). p.stripe.line))
    (find_agree (IsAmong (placements (log_of w 0)))
    (λ p. holds_position i.shape q p && has_landed (log_of w 0) p && is_in_force (log_of w 0) p.life p.stripe.line)
    (λ p. holds_position i.shape q p && not (was_lost (log_of w 0) p) && is_in_force (log_of w 0) p.life p.stripe.line)
    (λ p among. by (holds_position i.shape q p) (has_landed (log_of w 0) p) (was_lost (log_of w 0) p) (is_in_force (log_of w 0) p.life p.stripe.line)
    (landed_not_lost (log_of w 0) p) (each p among)) (placements (log_of w 0)) (among_all (placements (log_of w 0))))
  where
    by : (a b l f : Bool) → (b ≡ true → l ≡ false) → (a ≡ true → l ≡ false → b ≡ true) → (a && b && f) ≡ (a && not l && f)
    by false b l f none lands = refl
    by true true false f none lands = refl
    by true true true f none lands = absurd (cc (none refl))
    by true false true f none lands = refl
    by true false false f none lands = absurd (cc (lands refl refl))

    one : (r : Placed) × ((has_landed (log_of w 0) r && holds_position i.shape q r) ≡ true) × IsAmong (placements (log_of w 0)) r
    one = member_of (λ p. has_landed (log_of w 0) p && holds_position i.shape q p) (placements (log_of w 0)) lands

    each : (p : Placed) → IsAmong (placements (log_of w 0)) p → holds_position i.shape q p ≡ true → was_lost (log_of w 0) p ≡ false
        → has_landed (log_of w 0) p ≡ true
    each p among held kept =
        let its : has_landed (log_of w 0) one.0 ≡ true = first_of (has_landed (log_of w 0) one.0) (holds_position i.shape q one.0) one.1 in
        let same : p ≡ one.0 = held_once i w mount q p one.0 among one.2 held
        (second_of (has_landed (log_of w 0) one.0) (holds_position i.shape q one.0) one.1) kept (landed_not_lost (log_of w 0) one.0 its) in
        ap (has_landed (log_of w 0)) same ∙ its

-- ---- an entry in the window

landed_by : (a b : Bool) → progress_landed (progress_by a b) ≡ a
landed_by false b = refl
landed_by true false = refl
landed_by true true = refl

-- the window says of an entry that isn't given back whether it has landed
window_landed : (i : Image) (w : World) (c : Core) (t : Taken) → IsLegalMount i w → Stands i (log_of w) c → IsAmong (takes (log_of w 0)) t
    → is_given_back i.shape (log_of w 0) t.entry.position ≡ false
    → view.has_landed_at c.window t.entry.position ≡ has_landed_at i.shape (log_of w 0) t.entry.position
window_landed i w c t mount st among kept =
    ap (λ b. option_map_or (λ (h : Held). progress_landed h.progress)
    (if b then None else slice_get c.window.entries (t.entry.position - c.window.freed)) false) (not_below c.window.freed t.entry.position above)
    ∙ by (slice_get c.window.entries (t.entry.position - c.window.freed))
    ∙ ap (λ o. option_map_or (λ (h : HeldSector). progress_landed h.progress) o false) there
    ∙ landed_by (has_landed_at i.shape (log_of w 0) t.entry.position) (is_given_back i.shape (log_of w 0) t.entry.position)
  where
    place : t.entry.position ≡ first_position (log_of w 0) + among.0
    place = numbered_at (first_position (log_of w 0)) (length (takes (log_of w 0))) (takes (log_of w 0)) among.0 t
        (in_order i w (accepted_small i.shape mount.accepted) mount.legal).numbered among.1

    inside : among.0 < length (takes (log_of w 0))
    inside = slice_get_within (takes (log_of w 0)) among.0 t among.1

    above : c.window.freed ≤ t.entry.position
    above =
        let low : c.window.freed ≤ freed i.shape (log_of w 0) = st.to_freed in
        let from : freed i.shape (log_of w 0) ≤ t.entry.position =
        least_below (is_given_back i.shape (log_of w 0)) (length (takes (log_of w 0))) (first_position (log_of w 0)) t.entry.position
        (omega (arith, place, inside)) kept in
        omega arith

    by : (o : Option Held) → option_map_or (λ (h : Held). progress_landed h.progress) o false ≡ option_map_or (λ (h : HeldSector). progress_landed h.progress)
        (option_map without_frame o) false
    by None = refl
    by (Some h) = refl

    index : c.window.freed - first_position (log_of w 0) + (t.entry.position - c.window.freed) ≡ among.0
    index = let from : first_position (log_of w 0) ≤ c.window.freed = st.from_first in omega (arith, place, above)

    there : option_map without_frame (slice_get c.window.entries (t.entry.position - c.window.freed)) ≡ Some (held_of i.shape (log_of w 0) t)
    there =
        sym (slice_get-map without_frame c.window.entries (t.entry.position - c.window.freed))
        ∙ ap (λ (v : HeldSectors). slice_get v.entries (t.entry.position - c.window.freed)) st.window
        ∙ slice_get-map (held_of i.shape (log_of w 0)) (drop (c.window.freed - first_position (log_of w 0)) (takes (log_of w 0)))
        (t.entry.position - c.window.freed)
        ∙ ap (option_map (held_of i.shape (log_of w 0)))
        (get_dropped (c.window.freed - first_position (log_of w 0)) (takes (log_of w 0)) (t.entry.position - c.window.freed)
        ∙ ap (slice_get (takes (log_of w 0))) index ∙ among.1)

-- ---- the line of a slot

entry_line : (i : Image) (w : World) (holds : Holds) (t : Taken) → IsLegalMount i w → AreHolds i.shape (log_of w 0) holds → IsAmong (takes (log_of w 0)) t
    → line_of_slot holds.rows.items (slot_of_entry i (log_of w) t.entry.position) ≡ placed_line i.shape (log_of w 0) t.entry.position
entry_line i w holds t mount are among = go (find (gives_back i.shape (log_of w 0) t.entry.position) (placements (log_of w 0))) refl
  where
    go : (o : Option Placed) → find (gives_back i.shape (log_of w 0) t.entry.position) (placements (log_of w 0)) ≡ o
        → line_of_slot holds.rows.items (option_map_or (media_of i (log_of w) t.entry.position) o (Cached t.entry.position)) ≡ placed_line i.shape
        (log_of w 0) t.entry.position
    go None e =
        let kept : is_given_back i.shape (log_of w 0) t.entry.position ≡ false =
        found_none (gives_back i.shape (log_of w 0) t.entry.position) (placements (log_of w 0)) e in
        ap (λ n. option_and_then (λ (h : Hold). h.line) (slice_get holds.rows.items (t.entry.position % n))) are.room
        ∙ ap (option_and_then (λ (h : Hold). h.line)) (are.each t (is_in (takes (log_of w 0)) among.0 t among.1) kept)
    go (Some p) e =
        let found : (gives_back i.shape (log_of w 0) t.entry.position p ≡ true) × IsAmong (placements (log_of w 0)) p =
        found_passes (gives_back i.shape (log_of w 0) t.entry.position) (placements (log_of w 0)) p e in
        let held : holds_position i.shape t.entry.position p ≡ true =
        second_of (has_landed (log_of w 0) p) (holds_position i.shape t.entry.position p) (given_holds i.shape (log_of w 0) t.entry.position p found.0) in
        sym (line_of_holder i.shape (log_of w 0) t.entry.position p (held_once i w mount) found.1 held
        (landed_not_lost (log_of w 0) p (first_of (has_landed (log_of w 0) p) (holds_position i.shape t.entry.position p)
        (given_holds i.shape (log_of w 0) t.entry.position p found.0))))

pub line_is : (i : Image) (w : World) (holds : Holds) (lba : ℕ) → IsLegalMount i w → lba < i.shape.capacity → AreHolds i.shape (log_of w 0) holds
    → line_of_slot holds.rows.items (slot_of i (log_of w) lba) ≡ line_of i (log_of w) lba (last_take (log_of w 0) lba)
line_is i w holds lba mount inside are = go (last_take (log_of w 0) lba) refl
  where
    found_line : (o : Option Record) → last_take (log_of w 0) lba ≡ None → winner (counted (found_image i (log_of w))) lba ≡ o
        → line_of_slot holds.rows.items (slot_of_winner o) ≡ option_and_then
        (λ (r : Record). if is_as_found (life_of (log_of w 0) r.line) then Some r.line else None) o
    found_line None none e = refl
    found_line (Some r) none e = sym (ap (λ (life : LineLife). if is_as_found life then Some r.line else None) (winner_as_found i w mount lba r none e))

    go : (o : Option Taken) → last_take (log_of w 0) lba ≡ o → line_of_slot holds.rows.items (slot_by i (log_of w) lba o) ≡ line_of i (log_of w) lba o
    go None e = found_line (winner (counted (found_image i (log_of w))) lba) e refl
    go (Some t) e = entry_line i w holds t mount are (last_is_among (log_of w 0) lba t e).0 ∙ sym (latest_line i w lba t mount inside e)

-- whether it has landed there
pub landed_is : (i : Image) (w : World) (c : Core) (lba : ℕ) → IsLegalMount i w → Stands i (log_of w) c
    → landed_line_of i (log_of w) lba (last_take (log_of w 0) lba) ≡
    (if has_landed_in c.window (slot_of i (log_of w) lba) then line_of i (log_of w) lba (last_take (log_of w 0) lba) else None)
landed_is i w c lba mount st = go (last_take (log_of w 0) lba) refl
  where
    found_line : (o : Option Record) → option_and_then (λ (r : Record). if is_as_found (life_of (log_of w 0) r.line) then Some r.line else None) o
        ≡ (if has_landed_in c.window (slot_of_winner o) then option_and_then
        (λ (r : Record). if is_as_found (life_of (log_of w 0) r.line) then Some r.line else None) o else None)
    found_line None = refl
    found_line (Some r) = refl

    by_landed : (q : ℕ) (b : Bool) → has_landed_at i.shape (log_of w 0) q ≡ b
        → landed_line i.shape (log_of w 0) q ≡ (if b then line_of_position i.shape (log_of w 0) q else None)
    by_landed q true e = landed_line_is i w q mount e
    by_landed q false e = not_landed_line i.shape (log_of w 0) q e

    entry : (t : Taken) → last_take (log_of w 0) lba ≡ Some t → (o : Option Placed)
        → find (gives_back i.shape (log_of w 0) t.entry.position) (placements (log_of w 0)) ≡ o
        → landed_line i.shape (log_of w 0) t.entry.position
        ≡ (if has_landed_in c.window (option_map_or (media_of i (log_of w) t.entry.position) o (Cached t.entry.position)) then line_of_position i.shape
        (log_of w 0) t.entry.position else None)
    entry t e (Some p) f =
        let found = found_passes (gives_back i.shape (log_of w 0) t.entry.position) (placements (log_of w 0)) p f in
        landed_line_is i w t.entry.position mount
        (given_landed i.shape (log_of w 0) t.entry.position
        (any_member (gives_back i.shape (log_of w 0) t.entry.position) (placements (log_of w 0)) found.1.0 p found.1.1 found.0))
    entry t e None f =
        let kept : is_given_back i.shape (log_of w 0) t.entry.position ≡ false =
        found_none (gives_back i.shape (log_of w 0) t.entry.position) (placements (log_of w 0)) f in
        by_landed t.entry.position (has_landed_at i.shape (log_of w 0) t.entry.position) refl
        ∙ ap (λ b. if b then line_of_position i.shape (log_of w 0) t.entry.position else None)
        (sym (window_landed i w c t mount st (last_is_among (log_of w 0) lba t e).0 kept))

    go : (o : Option Taken) → last_take (log_of w 0) lba ≡ o
        → landed_line_of i (log_of w) lba o ≡ (if has_landed_in c.window (slot_by i (log_of w) lba o) then line_of i (log_of w) lba o else None)
    go None e = found_line (winner (counted (found_image i (log_of w))) lba)
    go (Some t) e = entry t e (find (gives_back i.shape (log_of w 0) t.entry.position) (placements (log_of w 0))) refl

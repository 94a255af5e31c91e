-- Lines of a history at rising positions, and the sectors after them.
use Rattle.std.proofs.Common.{ℕ, suc, ◌+◌, ◌≡◌, ◌<◌, ◌≤◌, max, List, [], ◌∷◌, ◌++◌, length, map, take, drop, slice_set, subst, ap, ◌∙◌, sym, refl, arith}
use Rattle.std.proofs.lemmas.Bool.{lt-ltb}
use Rattle.std.proofs.Math.Seq.{take-append_seam}
use Rattle.std.proofs.lemmas.List.{append_assoc, append-nil}
use Rattle.pblk_model.specs.declared.run.Place.{Place}
use Rattle.pblk_model.specs.History.{after, users}
use Rattle.block_port.specs.Own.{OwnWrite, PlacedSector, placed_from, lines_of, sectors_of}
use Rattle.block_port.specs.Port.{ModelPort, Learns, Rise, positions}
use Rattle.plain_port.specs.Sectors.{put_from}
use Rattle.plain_port.specs.Plain.{lines_in, with_write}
use Rattle.block_port.proofs.OwnLemmas.{length_sectors}
use Rattle.block_port.proofs.PlacedLines.{rise_order}
use Rattle.block_port.proofs.PortLemmas.{rise_append, rise_placed}

pub rise_later : (a b c : ℕ) (xs : List PlacedSector) → Rise a b xs → b ≤ c → Rise a c xs
rise_later a b c [] h le = omega (arith, h, le)
rise_later a b c (x ∷ xs) h le = (h.0, rise_later (x.position + 1) b c xs h.1 le)

-- all lines are below where they end
pub users_all : (a b c : ℕ) (xs : List PlacedSector) → Rise a b xs → b ≤ c → users (positions xs) c ≡ length xs
users_all a b c [] h le = refl
users_all a b c (x ∷ xs) h le =
    let ends = rise_order (x.position + 1) b xs h.1 in
    let below : x.position < c = omega (arith, ends, le) in
    rw (lt-ltb x.position c below) (ap suc (users_all (x.position + 1) b c xs h.1 le))

-- where the sectors stand makes no difference
pub put_after : (p lba : ℕ) (sectors written : List (List ℕ)) → put_from sectors lba written ≡ after sectors (map (λ x. x.write) (placed_from p lba written))
put_after p lba sectors [] = refl
put_after p lba sectors (s ∷ written) = put_after (p + 1) (lba + 1) (slice_set sectors lba s) written

pub lines_more : (own : List OwnWrite) (w : OwnWrite) → lines_in (own ++ w ∷ []) ≡ lines_in own ++ lines_of w
lines_more [] w = append-nil (lines_of w)
lines_more (v ∷ own) w = ap (λ ls. lines_of v ++ ls) (lines_more own w) ∙ sym (append_assoc (lines_of v) (lines_in own) (lines_of w))

pub after_lines : (start : List (List ℕ)) (lines more : List PlacedSector)
    → after start (map (λ x. x.write) (lines ++ more)) ≡ after (after start (map (λ x. x.write) lines)) (map (λ x. x.write) more)
after_lines start [] more = refl
after_lines start (x ∷ lines) more = after_lines (slice_set start x.write.lba x.write.sector) lines more

pub rise_length : (a b : ℕ) (xs : List PlacedSector) → Rise a b xs → a + length xs ≤ b
rise_length a b [] h = omega (arith, h)
rise_length a b (x ∷ xs) h = let later = rise_length (x.position + 1) b xs h.1 in omega (arith, later, h.0)

-- lines at the next positions
pub rise_written : (a first count : ℕ) (lba : ℕ) (sectors : List (List ℕ)) → a ≤ first → length sectors ≡ count
    → Rise a (first + count) (placed_from first lba sectors)
rise_written a first count lba [] le long = omega (arith, le)
rise_written a first count lba (s ∷ sectors) le long = let placed = rise_placed first lba (s ∷ sectors) in (le, rw long at placed.1)

-- a write that stands past all that was known is learned
pub learns_write : (p : ModelPort) (w : OwnWrite) → p.taken ≤ w.place.first → length w.sectors ≡ w.place.count → Learns p (with_write w p)
learns_write p w le long = record {
  more = lines_of w;
  known = refl;
  rise = rise_written p.taken w.place.first w.place.count w.lba w.sectors le long;
  flushed = omega arith;
}

-- the contents after one more write
pub contents_more : (start old new : List (List ℕ)) (lines : List PlacedSector) (w : OwnWrite) → old ≡ after start (map (λ x. x.write) lines)
    → new ≡ put_from old w.lba w.sectors
    → new ≡ after start (map (λ x. x.write) (lines ++ lines_of w))
contents_more start old new lines w h k =
    k ∙ put_after w.place.first w.lba old w.sectors ∙ ap (λ s. after s (map (λ x. x.write) (lines_of w))) h ∙ sym (after_lines start lines (lines_of w))

-- bytes that were written over whole
pub written_over : (n : ℕ) (old new : List ℕ) → n ≡ length old → length new ≡ length old → take n (new ++ drop (length new) old) ≡ new
written_over n old new is same =
    let e : n ≡ length new = omega (arith, is, same) in
    rw (e, take-append_seam new (drop (length new) old)) refl

pub rise_more : (a taken first count lba : ℕ) (lines : List PlacedSector) (sectors : List (List ℕ)) → Rise a taken lines → taken ≤ first
    → length sectors ≡ count → Rise a (first + count) (lines ++ placed_from first lba sectors)
rise_more a taken first count lba lines sectors h le long = rise_append a taken (first + count) lines (placed_from first lba sectors) h
    (rise_written taken first count lba sectors le long)

pub learns_written : (old mid new : ModelPort) (place : Place) (lba size count : ℕ) (bytes : List ℕ) → mid ≡ old → place.first ≡ max mid.taken mid.seen
    → place.count ≡ count
    → new ≡ with_write (record { place = place; lba = lba; sectors = sectors_of size count bytes }) mid → Learns old new
learns_written old mid new place lba size count bytes same first long is =
    let w : OwnWrite = record { place = place; lba = lba; sectors = sectors_of size count bytes } in
    rw is (subst (λ p. Learns p (with_write w mid)) same (learns_write mid w (omega (arith, first)) (length_sectors size count bytes ∙ sym long)))

-- A stripe was lost: what the map holds, by the stripes of its chunk that have landed.
use Rattle.std.proofs.Common.{◌≡◌, ℕ, ◌+◌, ◌≤◌, ◌<◌, ◌==◌, ◌&&◌, ◌||◌, Bool, true, false, Some, None, Option, List, [], ◌∷◌, length, refl, sym, subst, ap, ap₂, ◌∙◌, arith, append-nil}
use Rattle.std.specs.Prelude.{slice_get}
use Rattle.std.specs.List.{filter, find, list_any, enumerate_from, last_or}
use Rattle.std.specs.Option.{option_and_then, option_map, option_map_or}
use Rattle.pblk_model.specs.declared.shape.Shape.{Shape}
use Rattle.pblk_model.specs.Chunk.{Block}
use Rattle.pblk_model.specs.Contents.{counted, winner}
use Rattle.pblk_model.specs.Image.{Image}
use Rattle.pblk_model.specs.Records.{Record}
use Rattle.pblk_world.specs.Events.{Lost, Decides, Logged}
use Rattle.pblk_world.specs.World.{Logs}
use Rattle.pblk_world.specs.EngineLog.{Opened, Opening, Taken, takes, Placed, placements, stripes_on, has_landed, was_lost, bears_position, holds_position}
use Rattle.pblk_world.specs.Fronts.{last_take}
use Rattle.pblk_world.specs.Lines.{found_image}
use Rattle.pblk_world.specs.Space.{is_readable_in, gives_back}
use Rattle.l2p_map.specs.declared.slot.Slot.TheVariants.{Cached, Media}
use Rattle.core_laws.specs.Stepping.{after}
use Rattle.core_laws.specs.SlotOf.{readable_block, media_of, slot_of_entry, slot_of_winner, slot_by, slot_of}
use Rattle.core_laws.specs.PlacerOf.{unanswered_on}
use Rattle.core_laws.specs.ChunkBlocks.{AreInRows, IsInRow}
use Rattle.core_laws.specs.ReadSlots.{address_of_block, read_slot}
use Rattle.core_laws.specs.WindowOf.{is_given_back}
use Rattle.core_laws.proofs.OpeningNumbers.{opens_at}
use Rattle.core_laws.proofs.GivenBack.{readable_life}
use Rattle.core_laws.proofs.GivenLost.{gives_own, gives_other, readable_other, closed_now, given_lost}
use Rattle.core_laws.proofs.GivenNow.{of_chunk, chunk_life, chunk_unit, IsOfChunk, chunk_members}
use Rattle.core_laws.proofs.Growing.{given_holds}
use Rattle.core_laws.proofs.HeldOnce.{HeldOnce}
use Rattle.core_laws.proofs.KeptSlots.{IsBefore, lives_before, media_by}
use Rattle.core_laws.proofs.LandedSlots.{readable_down, address_by, moves}
use Rattle.core_laws.proofs.LostStripe.{IsOneLost, one_lost, landed_same}
use Rattle.core_laws.proofs.PlacedAnew.{landed_not_lost}
use Rattle.core_laws.proofs.StripeLines.{placed_lines, own_opening, IsOpenedFor}
use Rattle.core_laws.proofs.FirstLanded.{block_of_first}
use Rattle.core_laws.proofs.FindingInLists.{any_none, find_unique, first_stays, found_within}
use Rattle.core_laws.proofs.SteppingLemmas.{found_kept}
use Rattle.core_laws.proofs.TakenSlots.{find_same}
use Rattle.pblk_model.proofs.Lists.{IsAmong, all_imply, among_all}
use Rattle.pblk_model.proofs.Maps.{found_none, found_passes}
use Rattle.pblk_model.proofs.Parts.{all_at}
use Rattle.pblk_model.proofs.Tests.{first_of, not_both, second_of}
use Rattle.pblk_world.proofs.EngineLogLemmas.{takes_more}

module _ (i : Image) (logs : Logs) (unit event : ℕ) (knows : List ℕ) (p : Placed) (o : Opening) (once : HeldOnce i.shape (logs 0))
    (waits : unanswered_on (logs 0) unit ≡ Some p) (its : p.life ≡ Opened o) (rows : AreInRows i.shape (logs 0) o p.stripe.unit) where
  abbrev s : Shape
  s = i.shape

  abbrev log : List Logged
  log = logs 0

  abbrev new : List Logged
  new = after logs (Lost unit event) knows 0

  is : IsOneLost (logs 0) (after logs (Lost unit event) knows 0) p
  is = one_lost (logs 0) unit event knows p waits

  -- ---- the stripe that gives a position back

  gives_still : (q : ℕ) (r : Placed) → IsAmong (placements (logs 0)) r → gives_back i.shape (logs 0) q r ≡ true
      → gives_back i.shape (after logs (Lost unit event) knows 0) q r ≡ true
  gives_still q r among e = go (of_chunk p o r) refl
    where
      go : (b : Bool) → of_chunk p o r ≡ b → gives_back i.shape (after logs (Lost unit event) knows 0) q r ≡ true
      go true f = gives_own i.shape (logs 0) (after logs (Lost unit event) knows 0) p o q r is its among f ∙ given_holds i.shape (logs 0) q r e
      go false f = gives_other i.shape (logs 0) (after logs (Lost unit event) knows 0) p o q r is its among f ∙ e

  holder_found : (q : ℕ) (r : Placed) → IsAmong (placements (logs 0)) r → gives_back i.shape (after logs (Lost unit event) knows 0) q r ≡ true
      → find (gives_back i.shape (after logs (Lost unit event) knows 0) q) (placements (after logs (Lost unit event) knows 0)) ≡ Some r
  holder_found q r among e =
      ap (find (gives_back s new q)) is.stripes
      ∙ find_unique (gives_back s new q) (placements log) among.0 r among.1 e
      (all_imply (IsAmong (placements log)) (λ (t : Placed). gives_back s new q t ≡ true → t ≡ r)
      (λ t there f. once q t r there among
      (second_of (has_landed new t) (holds_position s q t) (given_holds s new q t f))
      (second_of (has_landed new r) (holds_position s q r) (given_holds s new q r e)) (kept t there f) (kept r among e)) (placements log)
      (among_all (placements log)))
    where
      kept : (t : Placed) → IsAmong (placements (logs 0)) t → gives_back i.shape (after logs (Lost unit event) knows 0) q t ≡ true
          → was_lost (logs 0) t ≡ false
      kept t there f = landed_not_lost log t (sym (landed_same log new p t is there)
          ∙ first_of (has_landed new t) (holds_position s q t) (given_holds s new q t f))

  -- ---- a sector that was on the drive

  readable_more : (r : Placed) (block : ℕ) → is_readable_in i.shape (logs 0) r.stripe.unit block r.life ≡ true
      → is_readable_in i.shape (after logs (Lost unit event) knows 0) r.stripe.unit block r.life ≡ true
  readable_more r block e = go (of_chunk p o r) refl
    where
      go : (b : Bool) → of_chunk p o r ≡ b → is_readable_in i.shape (after logs (Lost unit event) knows 0) r.stripe.unit block r.life ≡ true
      go true f = ap (λ u. is_readable_in s new u block r.life) (chunk_unit p o r f) ∙ readable_life s new o p.stripe.unit block r.life (chunk_life p o r f)
          ∙ closed_now s log new p o block is its
      go false f = readable_other s log new p o r block is its f ∙ e

  media_stays : (q : ℕ) (r : Placed) → find (gives_back i.shape (logs 0) q) (placements (logs 0)) ≡ Some r
      → slot_of_entry i (after logs (Lost unit event) knows) q ≡ media_of i logs q r
  media_stays q r found =
      let at : (gives_back i.shape (logs 0) q r ≡ true) × IsAmong (placements (logs 0)) r = found_passes (gives_back s log q) (placements log) r found in
      ap (λ (x : Option Placed). option_map_or (media_of i (after logs (Lost unit event) knows) q) x (Cached q))
      (holder_found q r at.1 (gives_still q r at.1 at.0))
      ∙ media_by i logs (Lost unit event) knows q r
      (all_at (λ (r : Placed). IsBefore (length (logs 0)) r.life) (placements log) at.1.0 r at.1.1 (lives_before log))
      (ap (option_map (λ (b : ℕ × Block). b.0))
      (first_stays (bears_position i.shape q) (λ b. is_readable_in i.shape (logs 0) r.stripe.unit b r.life)
      (λ b. is_readable_in i.shape (after logs (Lost unit event) knows 0) r.stripe.unit b r.life) r.stripe.at r.stripe.blocks
      (λ a b below f. readable_down i.shape (logs 0) r.stripe.unit a b r.life below f) (λ b f. readable_more r b f)
      (second_of (has_landed log r)
      (list_any (λ (b : ℕ × Block). bears_position s q b.1 && is_readable_in s log r.stripe.unit b.0 r.life)
      (enumerate_from r.stripe.at r.stripe.blocks)) at.0)))

  -- ---- a sector that leaves the buffer

  abbrev in_chunk : ℕ → Placed → Bool
  in_chunk q r = has_landed (logs 0) r && holds_position i.shape q r

  its_line : opens_at (logs 0) o.number ≡ Some o.line
  its_line =
      let opened : IsOpenedFor (logs 0) p.stripe.line p.life =
      all_at (λ (r : Placed). IsOpenedFor (logs 0) r.stripe.line r.life) (placements log) is.among.0 p is.among.1 (placed_lines log) in
      (own_opening log p.stripe.line o (subst (IsOpenedFor (logs 0) p.stripe.line) its opened)).0

  block_is : (q : ℕ) (r : Placed) → of_chunk p o r ≡ true
      → readable_block i (after logs (Lost unit event) knows) q r
      ≡ option_map (λ (b : ℕ × Block). b.0) (find (λ (b : ℕ × Block). bears_position i.shape q b.1) (enumerate_from r.stripe.at r.stripe.blocks))
  block_is q r of = ap (option_map (λ (b : ℕ × Block). b.0))
      (find_same (λ (b : ℕ × Block). bears_position s q b.1 && is_readable_in s new r.stripe.unit b.0 r.life)
      (λ (b : ℕ × Block). bears_position s q b.1)
      (λ b. ap (λ c. bears_position s q b.1 && c)
      (ap (λ u. is_readable_in s new u b.0 r.life) (chunk_unit p o r of) ∙ readable_life s new o p.stripe.unit b.0 r.life (chunk_life p o r of)
      ∙ closed_now s log new p o b.0 is its) ∙ and_yes (bears_position s q b.1)) (enumerate_from r.stripe.at r.stripe.blocks))
    where
      and_yes : (b : Bool) → (b && true) ≡ b
      and_yes true = refl
      and_yes false = refl

  -- its stripe has the block
  leaves_at : (q : ℕ) (r : Placed) (k : ℕ) → slice_get (stripes_on (logs 0) o p.stripe.unit) k ≡ Some r → in_chunk q r ≡ true
      → (x : Option (ℕ × Block)) → find (λ (b : ℕ × Block). bears_position i.shape q b.1) (enumerate_from r.stripe.at r.stripe.blocks) ≡ x
      → slot_of_entry i (after logs (Lost unit event) knows) q ≡ option_map_or (λ block. Media o.line (address_of_block i logs o p.stripe.unit block) q)
      (option_map (λ (b : ℕ × Block). b.0) x) (Cached q)
  leaves_at q r k at holds None f =
      absurd (not_both (holds_position s q r) (second_of (has_landed log r) (holds_position s q r) holds)
      (sym (numbered r.stripe.at r.stripe.blocks)
      ∙ found_none (λ (b : ℕ × Block). bears_position i.shape q b.1) (enumerate_from r.stripe.at r.stripe.blocks) f))
    where
      numbered : (n : ℕ) (bs : List Block) → list_any (λ (b : ℕ × Block). bears_position i.shape q b.1) (enumerate_from n bs) ≡ list_any
          (bears_position i.shape q) bs
      numbered n [] = refl
      numbered n (b ∷ bs) = ap (λ c. bears_position i.shape q b || c) (numbered (n + 1) bs)
  leaves_at q r k at holds (Some b) f =
      let row : IsInRow i.shape k r = rows k r at in
      let size : length r.stripe.blocks ≡ i.shape.ws_opt = row.blocks in
      let of : IsOfChunk (logs 0) p o r = all_at (IsOfChunk log p o) (stripes_on log o p.stripe.unit) k r at (chunk_members log p o) in
      let unit_is : r.stripe.unit ≡ p.stripe.unit = chunk_unit p o r of.of in
      let within : (r.stripe.at ≤ b.0) × (b.0 < r.stripe.at + length r.stripe.blocks) =
      found_within (λ (b : ℕ × Block). bears_position i.shape q b.1) r.stripe.at r.stripe.blocks b f in
      let low : r.stripe.at ≤ b.0 = within.0 in
      let high : b.0 < r.stripe.at + length r.stripe.blocks = within.1 in
      let address = address_by i logs o r.life r k b.0 (chunk_life p o r of.of) its_line
      (all_at (λ (r : Placed). IsOpenedFor (logs 0) r.stripe.line r.life) (placements log) of.among.0 r of.among.1 (placed_lines log)) row.at low
      (omega arith) in
      moves i logs (Lost unit event) knows o p.stripe.unit q r b.0
      (holder_found q r of.among (gives_own s log new p o q r is its of.among of.of ∙ holds))
      (block_is q r of.of ∙ ap (option_map (λ (b : ℕ × Block). b.0)) f)
      (all_at (λ (r : Placed). IsBefore (length (logs 0)) r.life) (placements log) of.among.0 r of.among.1 (lives_before log))
      address.0 (address.1 ∙ ap (λ u. address_of_block i logs o u b.0) unit_is)

  leaves : (q : ℕ) → is_given_back i.shape (logs 0) q ≡ false → (x : Option Placed) → find (in_chunk q) (stripes_on (logs 0) o p.stripe.unit) ≡ x
      → slot_of_entry i (after logs (Lost unit event) knows) q ≡ option_map_or (λ block. Media o.line (address_of_block i logs o p.stripe.unit block) q)
      (option_and_then (λ (r : Placed). option_map (λ (b : ℕ × Block). b.0)
      (find (λ (b : ℕ × Block). bears_position i.shape q b.1) (enumerate_from r.stripe.at r.stripe.blocks))) x) (Cached q)
  leaves q none None f =
      ap (λ (x : Option Placed). option_map_or (media_of i (after logs (Lost unit event) knows) q) x (Cached q))
      (any_none (gives_back s new q) (placements new)
      (given_lost s log new p o q is its ∙ ap₂ (λ a b. a || b) none (found_none (in_chunk q) (stripes_on log o p.stripe.unit) f)))
  leaves q none (Some r) f =
      let at = found_passes (in_chunk q) (stripes_on log o p.stripe.unit) r f in
      leaves_at q r at.1.0 at.1.1 at.0
      (find (λ (b : ℕ × Block). bears_position i.shape q b.1) (enumerate_from r.stripe.at r.stripe.blocks)) refl

  -- ---- the law

  entry_lost : (q : ℕ) (x : Option Placed) → find (gives_back i.shape (logs 0) q) (placements (logs 0)) ≡ x
      → slot_of_entry i (after logs (Lost unit event) knows) q
      ≡ read_slot i logs o p.stripe.unit (block_of_first i.shape (has_landed (logs 0)) (stripes_on (logs 0) o p.stripe.unit))
      (option_map_or (media_of i logs q) x (Cached q))
  entry_lost q (Some r) f = media_stays q r f
  entry_lost q None f =
      leaves q (found_none (gives_back s log q) (placements log) f) (find (in_chunk q) (stripes_on log o p.stripe.unit)) refl

  by_take : (lba : ℕ) (t : Option Taken)
      → slot_by i (after logs (Lost unit event) knows) lba t
      ≡ read_slot i logs o p.stripe.unit (block_of_first i.shape (has_landed (logs 0)) (stripes_on (logs 0) o p.stripe.unit)) (slot_by i logs lba t)
  by_take lba None = ap (λ f. slot_of_winner (winner (counted f) lba)) (found_kept i logs (Lost unit event) knows refl)
      ∙ go (winner (counted (found_image i logs)) lba)
    where
      go : (r : Option Record) → slot_of_winner r ≡ read_slot i logs o p.stripe.unit
          (block_of_first i.shape (has_landed (logs 0)) (stripes_on (logs 0) o p.stripe.unit)) (slot_of_winner r)
      go None = refl
      go (Some r) = refl
  by_take lba (Some t) = entry_lost t.entry.position (find (gives_back s log t.entry.position) (placements log)) refl

  pub slot_by_stripes : (lba : ℕ) → slot_of i (after logs (Lost unit event) knows) lba
      ≡ read_slot i logs o p.stripe.unit (block_of_first i.shape (has_landed (logs 0)) (stripes_on (logs 0) o p.stripe.unit)) (slot_of i logs lba)
  slot_by_stripes lba =
      ap (λ (ts : List Taken). slot_by i (after logs (Lost unit event) knows) lba (last_or None (filter (λ (t : Taken). t.mark.lba == lba) ts)))
      (takes_more log (record { event = Decides (Lost unit event); knows = knows }) ∙ append-nil (takes log))
      ∙ by_take lba (last_take log lba)

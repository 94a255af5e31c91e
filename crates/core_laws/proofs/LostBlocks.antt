-- A stripe was lost: the window and the map by the blocks of its chunk that had landed and couldn't
-- be read before.
use Rattle.std.proofs.Common.{◌≡◌, ℕ, ◌+◌, ◌-◌, ◌<◌, ◌≤◌, ◌||◌, nat_eq, Bool, true, false, Some, List, [], drop, take, refl, sym, subst, ap, ◌∙◌, arith}
use Rattle.std.specs.Prelude.{if◌then◌else◌}
use Rattle.std.specs.List.{find, list_any, enumerate_from}
use Rattle.std.specs.Option.{option_map, option_map_or}
use Rattle.std.proofs.lemmas.Bool.{eqb-true}
use Rattle.std.proofs.lemmas.List.{take-take as take_within}
use Rattle.pblk_model.specs.declared.shape.Shape.{Shape}
use Rattle.pblk_model.specs.Chunk.{Block}
use Rattle.pblk_model.specs.Image.{Image}
use Rattle.pblk_world.specs.Events.{Logged, Lost}
use Rattle.pblk_world.specs.World.{World, log_of}
use Rattle.pblk_world.specs.EngineLog.{Opened, Opening, Placed, stripes_on, has_landed, bears_position}
use Rattle.pblk_world.specs.Fronts.{taken, has_landed_at}
use Rattle.pblk_world.specs.Space.{landed_blocks, freed}
use Rattle.l2p_map.specs.declared.slot.Slot.{Slot}
use Rattle.l2p_map.specs.declared.slot.Slot.TheVariants.{Unwritten, Cached, Media}
use Rattle.pblk_world.specs.LegalMounts.{IsLegalMount}
use Rattle.core_laws.specs.Stepping.{after}
use Rattle.core_laws.specs.PlacerOf.{unanswered_on}
use Rattle.core_laws.specs.SlotOf.{slot_of}
use Rattle.core_laws.specs.WindowOf.{is_given_back, window_from}
use Rattle.core_laws.specs.AdvancedEntries.{advanced_window}
use Rattle.core_laws.specs.ChunkBlocks.{chunk_blocks, has_landed_in, readable_blocks, unreadable_blocks, unreadable_block}
use Rattle.core_laws.specs.ReadSlots.{address_of_block, read_slot}
use Rattle.core_laws.proofs.Answered.{first_unanswered}
use Rattle.core_laws.proofs.BorneOnce.{borne_once}
use Rattle.core_laws.proofs.CachedEntries.{cached_kept}
use Rattle.core_laws.proofs.ChunksInRows.{rows_of_chunks}
use Rattle.core_laws.proofs.FirstLanded.{block_of_first}
use Rattle.core_laws.proofs.GivenBack.{IsLandedNow, any_append}
use Rattle.core_laws.proofs.GivenLost.{given_lost, window_by_given}
use Rattle.core_laws.proofs.GivenNow.{blocks_below}
use Rattle.core_laws.proofs.Growing.{given_landed}
use Rattle.core_laws.proofs.HeldInWorlds.{borne_in_window}
use Rattle.core_laws.proofs.HeldOnce.{held_once}
use Rattle.core_laws.proofs.KeptStripes.{with_event}
use Rattle.core_laws.proofs.LandedStripe.{with_landing}
use Rattle.core_laws.proofs.LostSlots.{slot_by_stripes}
use Rattle.core_laws.proofs.LostStripe.{IsOneLost, one_lost, landed_at_same}
use Rattle.core_laws.proofs.NewBlocks.{IsNewest}
use Rattle.core_laws.proofs.NewWindow.{newest_in, none_earlier}
use Rattle.core_laws.proofs.NewlyHeld.{part_kept}
use Rattle.core_laws.proofs.NewlyRead.{find_behind}
use Rattle.core_laws.proofs.WaitingChunks.{landed_bears, landed_block, would_land}
use Rattle.pblk_model.proofs.Parts.{take_and_drop}
use Rattle.pblk_model.proofs.Tests.{or_right}

-- ---- the blocks that couldn't be read before

pub few_readable : (s : Shape) (n : ℕ) → n ≤ s.clba → readable_blocks s n ≤ n
few_readable s n within = go (nat_eq n s.clba) refl
  where
    go : (b : Bool) → nat_eq n s.clba ≡ b → (if b then s.clba else n - s.mw_cunits) ≤ n
    go true e = let same : n ≡ s.clba = eqb-true n s.clba e in omega arith
    go false e = omega arith

low_landed : (s : Shape) (log new : List Logged) (p : Placed) (o : Opening) → IsLandedNow s log new p o
    → readable_blocks s (landed_blocks s log o p.stripe.unit) ≤ landed_blocks s log o p.stripe.unit
low_landed s log new p o is =
    let below : landed_blocks s log o p.stripe.unit + s.ws_opt ≤ s.clba = blocks_below s log new p o is in
    few_readable s (landed_blocks s log o p.stripe.unit) (omega arith)

-- the others bear no position that isn't given back
none_before : (s : Shape) (log new : List Logged) (p : Placed) (o : Opening) (q : ℕ) → IsLandedNow s log new p o → IsNewest log p
    → is_given_back s log q ≡ false
    → list_any (bears_position s q) (take (readable_blocks s (landed_blocks s log o p.stripe.unit))
    (take (landed_blocks s log o p.stripe.unit) (chunk_blocks log o p.stripe.unit))) ≡ false
none_before s log new p o q is newest kept =
    ap (list_any (bears_position s q)) (take_within (readable_blocks s (landed_blocks s log o p.stripe.unit)) (landed_blocks s log o p.stripe.unit)
    (chunk_blocks log o p.stripe.unit) (low_landed s log new p o is))
    ∙ none_earlier s log new p o q is newest kept

any_behind : {X : Type 0} (f : X → Bool) (k : ℕ) (xs : List X) → list_any f (take k xs) ≡ false → list_any f xs ≡ list_any f (drop k xs)
any_behind f k xs none =
    ap (list_any f) (sym (take_and_drop k xs)) ∙ any_append f (take k xs) (drop k xs) ∙ ap (λ b. b || list_any f (drop k xs)) none

given_unreadable : (s : Shape) (log new : List Logged) (p : Placed) (o : Opening) (q : ℕ) → IsLandedNow s log new p o → IsNewest log p
    → (is_given_back s log q || has_landed_in s log o p.stripe.unit q)
    ≡ (is_given_back s log q || list_any (bears_position s q) (unreadable_blocks s log o p.stripe.unit))
given_unreadable s log new p o q is newest = go (is_given_back s log q) refl
  where
    go : (b : Bool) → is_given_back s log q ≡ b
        → (b || has_landed_in s log o p.stripe.unit q) ≡ (b || list_any (bears_position s q) (unreadable_blocks s log o p.stripe.unit))
    go true e = refl
    go false e = landed_bears s log new p o q is newest
        ∙ any_behind (bears_position s q) (readable_blocks s (landed_blocks s log o p.stripe.unit))
        (take (landed_blocks s log o p.stripe.unit) (chunk_blocks log o p.stripe.unit)) (none_before s log new p o q is newest e)

block_behind : (s : Shape) (log new : List Logged) (p : Placed) (o : Opening) (q : ℕ) → IsLandedNow s log new p o → IsNewest log p
    → is_given_back s log q ≡ false
    → block_of_first s (has_landed log) (stripes_on log o p.stripe.unit) q ≡ unreadable_block s log o p.stripe.unit q
block_behind s log new p o q is newest kept =
    let low : ℕ = readable_blocks s (landed_blocks s log o p.stripe.unit) in
    let start : 0 + low ≡ low = omega arith in
    landed_block s log new p o q is newest
    ∙ ap (option_map (λ (b : ℕ × Block). b.0))
    (find_behind (bears_position s q) (readable_blocks s (landed_blocks s log o p.stripe.unit)) 0
    (take (landed_blocks s log o p.stripe.unit) (chunk_blocks log o p.stripe.unit)) (none_before s log new p o q is newest kept)
    ∙ ap (λ n. find (λ (b : ℕ × Block). bears_position s q b.1) (enumerate_from n (unreadable_blocks s log o p.stripe.unit))) start)

-- ---- the laws, in a legal mount

module _ (i : Image) (w : World) (unit event : ℕ) (knows : List ℕ) (p : Placed) (o : Opening) (mount : IsLegalMount i w)
    (waits : unanswered_on (log_of w 0) unit ≡ Some p) (life : p.life ≡ Opened o) where
  abbrev new : List Logged
  new = with_event (log_of w 0) (Lost unit event) knows

  its : p.stripe.unit ≡ unit
  its = (first_unanswered (log_of w 0) unit p waits).of_unit

  would : IsLandedNow i.shape (log_of w 0) (with_landing (log_of w 0) unit 0 []) p o
  would = would_land i w unit p o mount waits life

  newest : IsNewest (log_of w 0) p
  newest = newest_in i w unit p mount.legal waits

  is : IsOneLost (log_of w 0) (with_event (log_of w 0) (Lost unit event) knows) p
  is = one_lost (log_of w 0) unit event knows p waits

  given_by_blocks : (q : ℕ) → is_given_back i.shape (with_event (log_of w 0) (Lost unit event) knows) q
      ≡ (is_given_back i.shape (log_of w 0) q || list_any (bears_position i.shape q) (unreadable_blocks i.shape (log_of w 0) o unit))
  given_by_blocks q = given_lost i.shape (log_of w 0) new p o q is life
      ∙ given_unreadable i.shape (log_of w 0) (with_landing (log_of w 0) unit 0 []) p o q would newest
      ∙ ap (λ u. is_given_back i.shape (log_of w 0) q || list_any (bears_position i.shape q) (unreadable_blocks i.shape (log_of w 0) o u)) its

  -- what the window holds
  pub window_lost : (from : ℕ) → window_from i.shape (after (log_of w) (Lost unit event) knows 0) from
      ≡ advanced_window (λ q. false) (λ q. list_any (bears_position i.shape q) (unreadable_blocks i.shape (log_of w 0) o unit))
      (window_from i.shape (log_of w 0) from)
  window_lost from = window_by_given i.shape (log_of w 0) unit event knows p
      (λ q. list_any (bears_position i.shape q) (unreadable_blocks i.shape (log_of w 0) o unit)) from waits given_by_blocks

  -- what the map holds
  pub slot_lost : (lba : ℕ) → slot_of i (after (log_of w) (Lost unit event) knows) lba
      ≡ read_slot i (log_of w) o unit (unreadable_block i.shape (log_of w 0) o unit) (slot_of i (log_of w) lba)
  slot_lost lba =
      slot_by_stripes i (log_of w) unit event knows p o (held_once i w mount) waits life (rows_of_chunks i w o p.stripe.unit mount) lba
      ∙ go (slot_of i (log_of w) lba) refl
      ∙ ap (λ u. read_slot i (log_of w) o u (unreadable_block i.shape (log_of w 0) o u) (slot_of i (log_of w) lba)) its
    where
      go : (x : Slot) → slot_of i (log_of w) lba ≡ x
          → read_slot i (log_of w) o p.stripe.unit (block_of_first i.shape (has_landed (log_of w 0)) (stripes_on (log_of w 0) o p.stripe.unit)) x
          ≡ read_slot i (log_of w) o p.stripe.unit (unreadable_block i.shape (log_of w 0) o p.stripe.unit) x
      go Unwritten e = refl
      go (Cached q) e = ap (λ b. option_map_or (λ block. Media o.line (address_of_block i (log_of w) o p.stripe.unit block) q) b (Cached q))
          (block_behind i.shape (log_of w 0) (with_landing (log_of w 0) unit 0 []) p o q would newest (cached_kept i (log_of w) lba q e))
      go (Media line at q) e = refl

  -- ---- the positions that can be read then are in the window, and have landed

  pub unreadable_not_given : (q : ℕ) → list_any (bears_position i.shape q) (unreadable_blocks i.shape (log_of w 0) o unit) ≡ true
      → is_given_back i.shape (log_of w 0) q ≡ false
  unreadable_not_given q e =
      part_kept i.shape (log_of w 0) (with_landing (log_of w 0) unit 0 []) p o q (landed_blocks i.shape (log_of w 0) o p.stripe.unit) would
      (held_once i w mount) (borne_once i w mount) (low_landed i.shape (log_of w 0) (with_landing (log_of w 0) unit 0 []) p o would)
      (subst (λ u. list_any (bears_position i.shape q) (unreadable_blocks i.shape (log_of w 0) o u) ≡ true) (sym its) e)

  pub unreadable_in_window : (q : ℕ) → list_any (bears_position i.shape q) (unreadable_blocks i.shape (log_of w 0) o unit) ≡ true
      → (freed i.shape (log_of w 0) ≤ q) × (q < taken (log_of w 0))
  unreadable_in_window q e = borne_in_window i w p o q _ _ mount
      (subst (λ u. list_any (bears_position i.shape q) (unreadable_blocks i.shape (log_of w 0) o u) ≡ true) (sym its) e) (unreadable_not_given q e)

  pub unreadable_landed : (q : ℕ) → list_any (bears_position i.shape q) (unreadable_blocks i.shape (log_of w 0) o unit) ≡ true
      → has_landed_at i.shape (log_of w 0) q ≡ true
  unreadable_landed q e = sym (landed_at_same i.shape (log_of w 0) new p q is)
      ∙ given_landed i.shape new q (given_by_blocks q
      ∙ or_right (is_given_back i.shape (log_of w 0) q) (list_any (bears_position i.shape q) (unreadable_blocks i.shape (log_of w 0) o unit)) e)

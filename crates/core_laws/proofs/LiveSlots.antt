-- The map and the live sectors of lines: what the map names on the drive is live in its line, and a
-- sector that is live in a closed line stands there by the map.
use Rattle.std.proofs.Common.{◌≡◌, ◌⊎◌, inl, inr, ℕ, ◌+◌, ◌*◌, ◌/◌, ◌%◌, ◌<◌, ◌≤◌, ◌==◌, ◌&&◌, zero, suc, nat_lt, Bool, true, false, Some, None, Option, List, length, take, refl, sym, subst, ap, ◌∙◌, arith, div-add-mod', if◌then◌else◌}
use Rattle.std.specs.Prelude.{map, slice_get}
use Rattle.std.specs.List.{Contains, enumerate_from, filter, find, list_any}
use Rattle.std.specs.Option.{option_and_then, option_map, option_map_or, unwrap_or}
use Rattle.std.proofs.lemmas.Bool.{cases_lt}
use Rattle.std.proofs.Math.Nat.{lt_of_mul-lt-mul_right, mul-le-mul_right, zero-mul}
use Rattle.pblk_model.specs.Chunk.{Block}
use Rattle.pblk_model.specs.Contents.{counted, end, head, is_of, winner}
use Rattle.pblk_model.specs.Image.{Image, line_units, width}
use Rattle.pblk_model.specs.LineOrder.{block_of, column_of}
use Rattle.pblk_model.specs.Records.{Record}
use Rattle.pblk_model.specs.StartRecord.{StartRecord}
use Rattle.pblk_world.specs.EngineLog.{AsFound, Begun, begun, bears_position, has_landed, holds_position, is_as_found, is_life, life_of, LineLife, Opened, Opening, openings, Placed, placements, stripes_of, stripes_on, Taken, takes, was_lost}
use Rattle.pblk_world.specs.Events.{Logged}
use Rattle.pblk_world.specs.Fronts.{first_position, last_take, synced}
use Rattle.pblk_world.specs.Lines.{are_over, found_image, known_image}
use Rattle.pblk_world.specs.Space.{gives_back, is_closed_in, is_readable_in, landed_blocks}
use Rattle.pblk_world.specs.Starts.{has_landed_start, newest_start}
use Rattle.pblk_world.specs.Victims.{is_live_in, line_of, line_of_position, line_of_winner}
use Rattle.pblk_world.specs.World.{World, Logs, log_of, media}
use Rattle.l2p_map.specs.declared.slot.Slot.TheVariants.{Cached, Media}
use Rattle.pblk_model.proofs.Lists.{IsAmong, among_contained, last_in}
use Rattle.pblk_model.proofs.Maps.{all_filter, all_mapped, any_found, any_member, enumerate_get, filter_all, found_passes, in_filter}
use Rattle.pblk_model.proofs.Options.{mapped_some, some_value}
use Rattle.pblk_model.proofs.Parts.{all_by_get, contained_among, get_below, got_within}
use Rattle.pblk_model.proofs.Tests.{and_both, both, not_both, or_left, or_right, same, same_number}
use Rattle.pblk_world.specs.LegalMounts.{IsLegalMount}
use Rattle.world_laws.proofs.Begun.{IsBegunWith, begun_with}
use Rattle.world_laws.proofs.FoundCounts.{front_low}
use Rattle.world_laws.proofs.Fronts.{synced_from}
use Rattle.world_laws.proofs.KeptEntries.{latest_kept, winner_kept}
use Rattle.world_laws.proofs.LandedRecords.{freed_below_front}
use Rattle.world_laws.proofs.LifePlaces.{HasPlace, have_places, has_place, units_now}
use Rattle.world_laws.proofs.LineBlocks.{opened_line}
use Rattle.world_laws.proofs.Lives.{IsFreedLife, standing_or_freed}
use Rattle.world_laws.proofs.Newest.{IsOlder, older_when_freed}
use Rattle.world_laws.proofs.Placements.{number_of}
use Rattle.world_laws.proofs.StartRecords.{front_synced}
use Rattle.world_laws.proofs.StripePlaces.{kth_place}
use Rattle.world_laws.proofs.Stripes.{life_of_stripe, opening_then}
use Rattle.world_laws.proofs.NextPrograms.{landed_of_answered}
use Rattle.core_laws.specs.SlotOf.{address_in, media_of, readable_block, slot_by, slot_of, slot_of_entry, slot_of_winner}
use Rattle.world_laws.proofs.EarlierLogs.{some_begun}
use Rattle.core_laws.proofs.DoneLines.{is_done}
use Rattle.core_laws.proofs.KnownFilling.{HasLoss}
use Rattle.core_laws.proofs.LastTakes.{last_is, last_none}
use Rattle.core_laws.proofs.OverAnswered.{over_answered}
use Rattle.core_laws.proofs.PlacedAnew.{landed_not_lost, one_kept}
use Rattle.core_laws.proofs.ReadBlocks.{same_address, same_line, same_position}
use Rattle.core_laws.proofs.StripeEnds.{below_end, of_unit}
use Rattle.core_laws.proofs.StandingLines.{IsStanding, line_stands, stands_in_line}

-- ---- slots

-- what gives a position back has landed and holds it, and this is the first of its blocks that can
-- be read
record IsReadIn (i : Image) (logs : Logs) (position : ℕ) (p : Placed) : Type 0 where
  landed : has_landed (logs 0) p ≡ true
  holds : holds_position i.shape position p ≡ true
  number : ℕ
  block : Block
  is_block : slice_get p.stripe.blocks number ≡ Some block
  bears : bears_position i.shape position block ≡ true
  first : readable_block i logs position p ≡ Some (p.stripe.at + number)

read_in : (i : Image) (logs : Logs) (position : ℕ) (p : Placed) → gives_back i.shape (logs 0) position p ≡ true → IsReadIn i logs position p
read_in i logs position p gives =
    let test : ℕ × Block → Bool = λ b. bears_position i.shape position b.1 && is_readable_in i.shape (logs 0) p.stripe.unit b.0 p.life in
    let all : List (ℕ × Block) = enumerate_from p.stripe.at p.stripe.blocks in
    let facts = both (has_landed (logs 0) p) (list_any test all) gives in
    let found = some_value (find test all) (sym (any_found test all) ∙ facts.1) in
    let at = found_passes test all found.0 found.1 in
    let there = number_of p.stripe.at p.stripe.blocks at.1.0 found.0 at.1.1 in
    let bears = both (bears_position i.shape position found.0.1) (is_readable_in i.shape (logs 0) p.stripe.unit found.0.0 p.life) at.0 in
    record {
      landed = facts.0;
      holds = any_member (bears_position i.shape position) p.stripe.blocks at.1.0 found.0.1 there.1 bears.0;
      number = at.1.0;
      block = found.0.1;
      is_block = there.1;
      bears = bears.0;
      first = ap (option_map (λ (b : ℕ × Block). b.0)) found.1 ∙ ap (λ n. Some n) there.0;
    }

-- the block of an entry that the map names on the drive
pub record IsGivenBy (i : Image) (logs : Logs) (position line at q : ℕ) : Type 0 where
  pub placed : Placed
  pub there : Contains (placements (logs 0)) placed
  pub landed : has_landed (logs 0) placed ≡ true
  pub holds : holds_position i.shape position placed ≡ true
  pub number : ℕ
  pub block : Block
  pub is_block : slice_get placed.stripe.blocks number ≡ Some block
  pub bears : bears_position i.shape position block ≡ true
  pub of_line : placed.stripe.line ≡ line
  pub of_address : address_in i logs placed.life placed (placed.stripe.at + number) ≡ at
  pub of_position : position ≡ q

pub given_by : (i : Image) (logs : Logs) (position line at q : ℕ) → slot_of_entry i logs position ≡ Media line at q → IsGivenBy i logs position line at q
given_by i logs position line at q slot = go (find (gives_back i.shape (logs 0) position) (placements (logs 0))) refl slot
  where
    go : (p : Option Placed) → find (gives_back i.shape (logs 0) position) (placements (logs 0)) ≡ p
        → option_map_or (media_of i logs position) p (Cached position) ≡ Media line at q → IsGivenBy i logs position line at q
    go None none e = absurd cc
    go (Some p) some e =
        let passes = found_passes (gives_back i.shape (logs 0) position) (placements (logs 0)) p some in
        let is : IsReadIn i logs position p = read_in i logs position p passes.0 in
        let address : ℕ = address_in i logs p.life p (unwrap_or (readable_block i logs position p) 0) in
        record {
          placed = p;
          there = contained_among (placements (logs 0)) p passes.1;
          landed = is.landed;
          holds = is.holds;
          number = is.number;
          block = is.block;
          is_block = is.is_block;
          bears = is.bears;
          of_line = same_line p.stripe.line line address at position q e;
          of_address = ap (λ o. address_in i logs p.life p (unwrap_or o 0)) (sym is.first) ∙ same_address p.stripe.line line address at position q e;
          of_position = same_position p.stripe.line line address at position q e;
        }

module _ (i : Image) (w : World) (mount : IsLegalMount i w) where
  abbrev log : List Logged
  log = log_of w 0

  abbrev front : ℕ
  front = synced i.shape (log_of w 0)

  -- ---- the stripe of a sector's last entry that has landed stands

  -- the front of the newest start record is at most the front synced
  newest_within : (b : Begun) → begun (log_of w 0) ≡ Some b → (newest : StartRecord) → newest_start i (log_of w) ≡ Some newest
      → newest.front ≤ synced i.shape (log_of w 0)
  newest_within b begins newest is_newest =
      last_in (λ (s : StartRecord). s.front ≤ front) (head (found_image i (log_of w)))
      (map (λ (o : Opening). o.start) (filter (has_landed_start i.shape log) (openings log))) newest found
      (all_mapped (λ (s : StartRecord). s.front ≤ front) (λ (o : Opening). o.start) (filter (has_landed_start i.shape log) (openings log))
      (all_filter (λ (o : Opening). o.start.front ≤ front) (has_landed_start i.shape log) (openings log)
      (all_by_get (λ (o : Opening). o.start.front ≤ front) (openings log) (λ k o at. front_synced i w k o mount.legal at))))
      is_newest
    where
      found : (h : StartRecord) → head (found_image i (log_of w)) ≡ Some h → h.front ≤ synced i.shape (log_of w 0)
      found h is =
          let with_ : IsBegunWith i w b = begun_with i w b mount.legal begins in
          let low : h.front ≤ end (found_image i (log_of w)) = front_low (found_image i (log_of w)) h is in
          let first : first_position log ≡ end (found_image i (log_of w)) =
          ap (λ e. option_map_or (λ (x : Begun). x.beginning.first) e 0) begins ∙ with_.first in
          let from : first_position log ≤ front = synced_from i.shape log in
          omega arith

  module _ (lba : ℕ) (small : lba < i.shape.capacity) (t : Taken) (last : last_take (log_of w 0) lba ≡ Some t) where
    pub entry_stands : (p : Placed) → Contains (placements (log_of w 0)) p → has_landed (log_of w 0) p ≡ true
        → holds_position i.shape t.entry.position p ≡ true → IsStanding i w mount t.entry.position p
    entry_stands p there landed holds = record { there = there; holds = holds; kept = landed_not_lost log p landed; stands = stands }
      where
        is_last : IsAmong (takes (log_of w 0)) t × (t.mark.lba ≡ lba)
            × ((u : Taken) → IsAmong (takes (log_of w 0)) u → u.mark.lba ≡ lba → u.entry.position ≤ t.entry.position)
        is_last = last_is i w mount.legal lba t last

        life : (o : Opening) × (p.life ≡ Opened o) × (life_of (take p.number (log_of w 0)) p.stripe.line ≡ Opened o)
        life = life_of_stripe i w p mount.legal there

        opened : Contains (openings (log_of w 0)) life.0 × (life.0.line ≡ p.stripe.line) × (life.0.number < p.number)
        opened = opening_then log p.number p.stripe.line life.0 life.2

        of_opening : Contains (stripes_of (log_of w 0) life.0) p
        of_opening = contained_among (stripes_of log life.0) p
            (in_filter (λ (q : Placed). is_life life.0.number q.life) (placements log) p (among_contained (placements log) p there)
            (ap (is_life life.0.number) life.1 ∙ same_number life.0.number))

        by_front : IsFreedLife (log_of w 0) life.0
            → (t.entry.position < synced i.shape (log_of w 0)) ⊎ (synced i.shape (log_of w 0) ≤ t.entry.position)
            → life_of (log_of w 0) p.stripe.line ≡ p.life
        by_front f (inl below) =
            let k = latest_kept i w t mount (contained_among (takes log) t is_last.0) (subst (λ n. n < i.shape.capacity) (sym is_last.1) small) below
            (λ u at its under. is_last.2 u (among_contained (takes log) u at) (its ∙ is_last.1)) in
            let one : k.0 ≡ p =
            one_kept i w mount k.0 p t.entry.position k.1 there k.3 holds (landed_not_lost log k.0 k.2) (landed_not_lost log p landed) in
            subst (λ (q : Placed). life_of log q.stripe.line ≡ q.life) one k.4
        by_front f (inr past) =
            let older : IsOlder i w life.0 f = older_when_freed i w life.0 mount.legal f in
            let low : t.entry.position < older.newest.front =
            freed_below_front i w life.0 p t.entry.position mount.legal (have_places i w mount.accepted mount.legal) f of_opening landed holds in
            let some : f.number < length log = get_below log f.number f.logged f.there in
            let b = some_begun i w mount.legal (omega arith) in
            let within : older.newest.front ≤ front = newest_within b.0 b.1 older.newest older.is_newest in
            absurd (omega arith)

        stands : life_of (log_of w 0) p.stripe.line ≡ p.life
        stands = go (standing_or_freed i w life.0 mount.legal opened.0)
          where
            go : (life_of (log_of w 0) life.0.line ≡ Opened life.0) ⊎ IsFreedLife (log_of w 0) life.0 → life_of (log_of w 0) p.stripe.line ≡ p.life
            go (inl is) = ap (life_of log) (sym opened.1) ∙ is ∙ sym life.1
            go (inr f) = by_front f (cases_lt t.entry.position front)

  -- ---- what the map names on the drive is live in its line

  pub named_is_live : (lba line at q : ℕ) → lba < i.shape.capacity → slot_of i (log_of w) lba ≡ Media line at q → is_live_in i (log_of w) line lba ≡ true
  named_is_live lba line at q small slot = go (last_take log lba) refl slot
    where
      go : (t : Option Taken) → last_take (log_of w 0) lba ≡ t → slot_by i (log_of w) lba t ≡ Media line at q → is_of line (line_of i (log_of w) lba t) ≡ true
      go None last e = by (winner (counted (found_image i (log_of w))) lba) refl e
        where
          by : (r : Option Record) → winner (counted (found_image i (log_of w))) lba ≡ r → slot_of_winner r ≡ Media line at q
              → is_of line (line_of_winner i (log_of w) lba) ≡ true
          by None wins f = absurd cc
          by (Some r) wins f =
              let life : life_of log r.line ≡ AsFound =
              winner_kept i w lba r mount wins (λ u there its. absurd (last_none i w mount.legal lba last u (among_contained (takes log) u there) its)) in
              ap (λ o. is_of line (option_and_then (λ (x : Record). if is_as_found (life_of log x.line) then Some x.line else None) o)) wins
              ∙ ap (λ (l : LineLife). is_of line (if is_as_found l then Some r.line else None)) life
              ∙ ap (λ n. n == line) (same_line r.line line r.at at r.position q f) ∙ same_number line
      go (Some t) last e =
          let given : IsGivenBy i (log_of w) t.entry.position line at q = given_by i (log_of w) t.entry.position line at q e in
          ap (is_of line) (line_stands i w mount t.entry.position given.placed
          (entry_stands lba small t last given.placed given.there given.landed given.holds) ∙ ap (λ n. Some n) given.of_line)
          ∙ same_number line

  -- ---- a chunk of a closed line is closed

  module _ (o : Opening) (is_open : life_of (log_of w 0) o.line ≡ Opened o) where
    -- the unit of a stripe is one of the line's
    pub column : (p : Placed) → Contains (stripes_of (log_of w 0) o) p
        → (c : ℕ) × (slice_get (line_units (known_image i (log_of w)) o.line) c ≡ Some p.stripe.unit)
    column p its =
        let now_image : Image = media i (log_of w) in
        let at : HasPlace i w mount.accepted mount.legal o p is_open its = has_place i w mount.accepted mount.legal o p is_open its in
        let c : ℕ = column_of i.shape (width now_image o.line) at.first in
        let parts = mapped_some (slice_get (line_units now_image o.line) c) (block_of i.shape (width now_image o.line) at.first) p.stripe.unit p.stripe.at
        at.place in
        (c, ap (λ us. slice_get us c) (units_now i w mount o is_open) ∙ parts.0)

    module _ (over : are_over i (log_of w) o.line ≡ true) where
      -- all there have landed where none was lost
      all_landed : (unit : ℕ) → list_any (was_lost (log_of w 0)) (stripes_on (log_of w 0) o unit) ≡ false
          → filter (has_landed (log_of w 0)) (stripes_on (log_of w 0) o unit) ≡ stripes_on (log_of w 0) o unit
      all_landed unit none =
          filter_all (has_landed log) (stripes_on log o unit) (all_by_get (λ (p : Placed). has_landed log p ≡ true) (stripes_on log o unit) (λ k p at.
          landed_of_answered log p (over_answered i w mount o is_open over p (of_unit i w mount o is_open unit p (k, at)).0)
          (kept k p at (was_lost log p) refl)))
        where
          kept : (k : ℕ) (p : Placed) → slice_get (stripes_on (log_of w 0) o unit) k ≡ Some p → (t : Bool) → was_lost (log_of w 0) p ≡ t → t ≡ false
          kept k p at false e = refl
          kept k p at true e = absurd (not_both (list_any (was_lost log) (stripes_on log o unit))
              (any_member (was_lost log) (stripes_on log o unit) k p at e) none)

      -- they fill the chunk at most
      within : (unit : ℕ) → length (stripes_on (log_of w 0) o unit) * i.shape.ws_opt ≤ i.shape.clba
      within unit = go (length (stripes_on log o unit)) refl
        where
          go : (n : ℕ) → length (stripes_on (log_of w 0) o unit) ≡ n → n * i.shape.ws_opt ≤ i.shape.clba
          go zero count = let none : 0 * i.shape.ws_opt ≡ 0 = zero-mul i.shape.ws_opt in omega arith
          go (suc n) count =
              let last = got_within (stripes_on log o unit) n (omega arith) in
              let low : last.0.stripe.at < i.shape.clba = below_end i w mount o is_open unit n last.0 last.1 in
              let at : last.0.stripe.at ≡ n * i.shape.ws_opt = kth_place i w o unit n last.0 mount (opened_line i w mount o is_open).opened last.1 in
              let whole : i.shape.clba ≡ i.shape.clba / i.shape.ws_opt * i.shape.ws_opt =
              (let none_over : i.shape.clba % i.shape.ws_opt ≡ 0 = mount.accepted.drive.whole_stripes in
              omega (arith, div-add-mod' i.shape.clba i.shape.ws_opt)) in
              let rows : n < i.shape.clba / i.shape.ws_opt = lt_of_mul-lt-mul_right i.shape.ws_opt (omega arith) in
              let fit : suc n * i.shape.ws_opt ≤ i.shape.clba / i.shape.ws_opt * i.shape.ws_opt = mul-le-mul_right i.shape.ws_opt rows in
              omega arith

      pub closed_there : (p : Placed) → Contains (stripes_of (log_of w 0) o) p → is_closed_in i.shape (log_of w 0) o p.stripe.unit ≡ true
      closed_there p its = go (is_done i w mount o is_open over (column p its).0 p.stripe.unit (column p its).1)
        where
          unit : ℕ
          unit = p.stripe.unit

          full : i.shape.clba ≤ length (stripes_on (log_of w 0) o p.stripe.unit) * i.shape.ws_opt
              → (t : Bool) → list_any (was_lost (log_of w 0)) (stripes_on (log_of w 0) o p.stripe.unit) ≡ t
              → is_closed_in i.shape (log_of w 0) o p.stripe.unit ≡ true
          full few true e = or_left (list_any (was_lost log) (stripes_on log o unit)) (landed_blocks i.shape log o unit == i.shape.clba) e
          full few false e =
              let most : length (stripes_on log o unit) * i.shape.ws_opt ≤ i.shape.clba = within unit in
              let blocks : length (stripes_on log o unit) * i.shape.ws_opt ≡ i.shape.clba = omega (arith, most, few) in
              or_right (list_any (was_lost log) (stripes_on log o unit)) (landed_blocks i.shape log o unit == i.shape.clba)
              (ap (λ (ps : List Placed). length ps * i.shape.ws_opt == i.shape.clba) (all_landed unit e) ∙ ap (λ n. n == i.shape.clba) blocks
              ∙ same_number i.shape.clba)

          go : (i.shape.clba ≤ length (stripes_on (log_of w 0) o p.stripe.unit) * i.shape.ws_opt) ⊎ HasLoss (log_of w 0) o p.stripe.unit
              → is_closed_in i.shape (log_of w 0) o p.stripe.unit ≡ true
          go (inl few) = full few (list_any (was_lost log) (stripes_on log o unit)) refl
          go (inr loss) = or_left (list_any (was_lost log) (stripes_on log o unit)) (landed_blocks i.shape log o unit == i.shape.clba) loss

  -- ---- what is live in a closed line the map names there

  module _ (line : ℕ) (over : are_over i (log_of w) line ≡ true) where
    gives : (position : ℕ) (p : Placed) → IsStanding i w mount position p → p.stripe.line ≡ line → gives_back i.shape (log_of w 0) position p ≡ true
    gives position p is in_line =
        and_both (has_landed log p) (list_any test (enumerate_from p.stripe.at p.stripe.blocks)) landed
        (any_member test (enumerate_from p.stripe.at p.stripe.blocks) passes.1.0 (p.stripe.at + passes.1.0, found.0)
        (enumerate_get p.stripe.at p.stripe.blocks passes.1.0 found.0 passes.1.1)
        (and_both (bears_position i.shape position found.0) (is_readable_in i.shape log p.stripe.unit (p.stripe.at + passes.1.0) p.life) passes.0 readable))
      where
        test : ℕ × Block → Bool
        test b = bears_position i.shape position b.1 && is_readable_in i.shape (log_of w 0) p.stripe.unit b.0 p.life

        life : (o : Opening) × (p.life ≡ Opened o) × (life_of (take p.number (log_of w 0)) p.stripe.line ≡ Opened o)
        life = life_of_stripe i w p mount.legal is.there

        its : life.0.line ≡ line
        its = (opening_then log p.number p.stripe.line life.0 life.2).1 ∙ in_line

        is_open : life_of (log_of w 0) life.0.line ≡ Opened life.0
        is_open = ap (life_of log) (its ∙ sym in_line) ∙ is.stands ∙ life.1

        over_there : are_over i (log_of w) life.0.line ≡ true
        over_there = ap (are_over i (log_of w)) its ∙ over

        of_opening : Contains (stripes_of (log_of w 0) life.0) p
        of_opening = contained_among (stripes_of log life.0) p
            (in_filter (λ (q : Placed). is_life life.0.number q.life) (placements log) p (among_contained (placements log) p is.there)
            (ap (is_life life.0.number) life.1 ∙ same_number life.0.number))

        landed : has_landed (log_of w 0) p ≡ true
        landed = landed_of_answered log p (over_answered i w mount life.0 is_open over_there p of_opening) is.kept

        found : (b : Block) × (find (bears_position i.shape position) p.stripe.blocks ≡ Some b)
        found = some_value (find (bears_position i.shape position) p.stripe.blocks)
            (sym (any_found (bears_position i.shape position) p.stripe.blocks) ∙ is.holds)

        passes : (bears_position i.shape position found.0 ≡ true) × IsAmong p.stripe.blocks found.0
        passes = found_passes (bears_position i.shape position) p.stripe.blocks found.0 found.1

        readable : is_readable_in i.shape (log_of w 0) p.stripe.unit (p.stripe.at + passes.1.0) p.life ≡ true
        readable =
            ap (is_readable_in i.shape log p.stripe.unit (p.stripe.at + passes.1.0)) life.1
            ∙ or_left (is_closed_in i.shape log life.0 p.stripe.unit)
            (nat_lt (p.stripe.at + passes.1.0 + i.shape.mw_cunits) (landed_blocks i.shape log life.0 p.stripe.unit))
            (closed_there life.0 is_open over_there p of_opening)

    entry_named : (position : ℕ) (p : Placed) → IsStanding i w mount position p → p.stripe.line ≡ line
        → (at : ℕ) × (slot_of_entry i (log_of w) position ≡ Media line at position)
    entry_named position p is in_line =
        let test : Placed → Bool = gives_back i.shape log position in
        let among = among_contained (placements log) p is.there in
        let found = some_value (find test (placements log)) (sym (any_found test (placements log))
        ∙ any_member test (placements log) among.0 p among.1 (gives position p is in_line)) in
        let passes = found_passes test (placements log) found.0 found.1 in
        let facts : IsReadIn i (log_of w) position found.0 = read_in i (log_of w) position found.0 passes.0 in
        let one : found.0 ≡ p = one_kept i w mount found.0 p position (contained_among (placements log) found.0 passes.1) is.there facts.holds is.holds
        (landed_not_lost log found.0 facts.landed) is.kept in
        let at : ℕ = address_in i (log_of w) found.0.life found.0 (unwrap_or (readable_block i (log_of w) position found.0) 0) in (
          at,
          ap (λ o. option_map_or (media_of i (log_of w) position) o (Cached position)) found.1
              ∙ ap (λ (q : Placed). Media q.stripe.line at position) one ∙ ap (λ l. Media l at position) in_line,
        )

    pub live_is_named : (lba : ℕ) → is_live_in i (log_of w) line lba ≡ true
        → (at : ℕ) × (position : ℕ) × (slot_of i (log_of w) lba ≡ Media line at position)
    live_is_named lba live = go (last_take log lba) live
      where
        go : (t : Option Taken) → is_of line (line_of i (log_of w) lba t) ≡ true
            → (at : ℕ) × (position : ℕ) × (slot_by i (log_of w) lba t ≡ Media line at position)
        go None e = by (winner (counted (found_image i (log_of w))) lba) e
          where
            by : (r : Option Record)
                → is_of line (option_and_then (λ (x : Record). if is_as_found (life_of (log_of w 0) x.line) then Some x.line else None) r) ≡ true
                → (at : ℕ) × (position : ℕ) × (slot_of_winner r ≡ Media line at position)
            by None f = absurd cc
            by (Some r) f = which (is_as_found (life_of log r.line)) f
              where
                which : (b : Bool) → is_of line (if b then Some r.line else None) ≡ true
                    → (at : ℕ) × (position : ℕ) × (Media r.line r.at r.position ≡ Media line at position)
                which false g = absurd cc
                which true g = (r.at, r.position, ap (λ l. Media l r.at r.position) (same r.line line g))
        go (Some t) e = by (line_of_position i.shape log t.entry.position) refl e
          where
            by : (o : Option ℕ) → line_of_position i.shape (log_of w 0) t.entry.position ≡ o → is_of line o ≡ true
                → (at : ℕ) × (position : ℕ) × (slot_of_entry i (log_of w) t.entry.position ≡ Media line at position)
            by None stands f = absurd cc
            by (Some other) stands f =
                let p = stands_in_line i w mount t.entry.position other stands in
                let named = entry_named t.entry.position p.0 p.1 (p.2 ∙ same other line f) in (named.0, t.entry.position, named.1)

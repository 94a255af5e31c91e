-- Which source of a copy is still the latest of its sector, by the map.
use Rattle.std.proofs.Common.{◌≡◌, ◌≢◌, inl, inr, ℕ, ◌+◌, ◌-◌, ◌*◌, ◌/◌, ◌%◌, ◌<◌, ◌≤◌, ◌==◌, suc, Bool, true, Some, None, Option, List, length, take, refl, sym, subst, ap, ap₂, ◌∙◌, arith, div-add-mod'}
use Rattle.std.specs.Prelude.{slice_get}
use Rattle.std.specs.List.{Contains, find}
use Rattle.std.specs.Option.{is_some, option_and_then, option_map, option_map_or, unwrap_or}
use Rattle.std.proofs.Math.Nat.{lt_of_mul-lt-mul_right, mul-le-mul_right}
use Rattle.std.proofs.lemmas.Bool.{eqb-true}
use Rattle.std.proofs.lemmas.Nat.{div-mul-add, mod-mul-add}
use Rattle.std.proofs.lemmas.Option.{slice_get_within}
use Rattle.pblk_model.specs.Chunk.{Block}
use Rattle.pblk_model.specs.Contents.{counted, winner}
use Rattle.pblk_model.specs.Image.{Image, block_at, line_units, width}
use Rattle.pblk_model.specs.LineOrder.{block_of, column_of}
use Rattle.pblk_model.specs.Marks.{sector_mark}
use Rattle.pblk_model.specs.Records.{Record, named}
use Rattle.pblk_laws.specs.LineBlocks.{written_at}
use Rattle.pblk_laws.proofs.LineUnits.{line_units_count}
use Rattle.pblk_world.specs.EngineLog.{block_of_taken, is_life, life_of, LineLife, Opened, Opening, Placed, placements, stripes_of, stripes_on, Taken, takes}
use Rattle.pblk_world.specs.Events.{Logged, Source}
use Rattle.pblk_world.specs.Fronts.{last_take}
use Rattle.pblk_world.specs.Lines.{found_image, known_image, place_of}
use Rattle.pblk_world.specs.Space.{gives_back}
use Rattle.pblk_world.specs.Taking.{BearsIt, IsLatest, IsPlaceOf, IsPlaceOfLatest, IsPlaceOfWinner}
use Rattle.pblk_world.specs.World.{World, Logs, log_of, media}
use Rattle.l2p_map.specs.declared.slot.Slot.TheVariants.{Cached, Media}
use Rattle.pblk_model.proofs.Lists.{IsAmong, among_contained}
use Rattle.pblk_model.proofs.Maps.{in_filter}
use Rattle.pblk_model.proofs.Parts.{all_at, contained_among, get_below}
use Rattle.pblk_model.proofs.Tests.{both, not_both, same_number}
use Rattle.pblk_world.specs.LegalMounts.{IsLegalMount}
use Rattle.world_laws.proofs.Entries.{IsEntryOrNone, entries_of_stripe, marks_bear}
use Rattle.world_laws.proofs.KeptEntries.{winner_kept}
use Rattle.world_laws.proofs.Latest.{one_entry}
use Rattle.world_laws.proofs.LineAddresses.{same_place}
use Rattle.world_laws.proofs.LineBlocks.{block_placed, landed_written, opened_line}
use Rattle.world_laws.proofs.LineStripes.{stripe_count}
use Rattle.world_laws.proofs.LifePlaces.{units_now}
use Rattle.world_laws.proofs.StripePlaces.{kth_place}
use Rattle.world_laws.proofs.Stripes.{life_of_stripe, opening_then}
use Rattle.core_laws.specs.SlotOf.{address_in, media_of, slot_by, slot_of, slot_of_entry, slot_of_winner}
use Rattle.core_laws.specs.SlotPositions.{position_of_slot}
use Rattle.core_laws.specs.OpenedLines.{as_opened, is_stripe_at}
use Rattle.core_laws.specs.PlacerOf.{number_of}
use Rattle.stripe_placer.specs.OpenLines as lines
use Rattle.core_laws.proofs.DoneLines.{at_place, count, on_its_unit, some_unit, wide}
use Rattle.core_laws.proofs.StripeEnds.{below_end}
use Rattle.core_laws.proofs.StripesByPlace.{find_only, not_at}
use Rattle.core_laws.proofs.LastTakes.{last_is, last_none}
use Rattle.core_laws.proofs.LiveSlots.{IsGivenBy, column, entry_stands, given_by}
use Rattle.core_laws.proofs.ReadBlocks.{same_address, same_line, same_position}
use Rattle.core_laws.proofs.StandingLines.{IsStanding}

-- ---- the map names the position of the latest

-- of an entry, in the buffer or on the drive
entry_named : (i : Image) (logs : Logs) (position : ℕ) → position_of_slot (slot_of_entry i logs position) ≡ Some position
entry_named i logs position = go (find (gives_back i.shape (logs 0) position) (placements (logs 0)))
  where
    go : (p : Option Placed) → position_of_slot (option_map_or (media_of i logs position) p (Cached position)) ≡ Some position
    go None = refl
    go (Some p) = refl

pub latest_is_named : (i : Image) (logs : Logs) (lba : ℕ) (source : Source) → IsPlaceOfLatest i logs lba source (last_take (logs 0) lba)
    → position_of_slot (slot_of i logs lba) ≡ Some source.position
latest_is_named i logs lba source place = go (last_take (logs 0) lba) place
  where
    go : (t : Option Taken) → IsPlaceOfLatest i logs lba source t → position_of_slot (slot_by i logs lba t) ≡ Some source.position
    go None its = ap (λ o. position_of_slot (slot_of_winner o)) its.is_winner ∙ ap (λ n. Some n) (sym its.position)
    go (Some t) its = entry_named i logs t.entry.position ∙ ap (λ n. Some n) (sym its.position)

-- So where the map names another position, or none, the source has become stale.
pub stale_source : (i : Image) (logs : Logs) (lba : ℕ) (source : Source) → position_of_slot (slot_of i logs lba) ≢ Some source.position
    → (block : Block) → IsLatest i logs lba source block → ⊥
stale_source i logs lba source apart block latest = apart (latest_is_named i logs lba source latest.place)

-- ---- what the map names on the drive is the latest

module _ (i : Image) (w : World) (mount : IsLegalMount i w) where
  abbrev log : List Logged
  log = log_of w 0

  -- the address of a block of a stripe is its place in the line

  module _ (o : Opening) (is_open : life_of (log_of w 0) o.line ≡ Opened o) where
    abbrev us : List ℕ
    us = line_units (known_image i (log_of w)) o.line

    at_address : (p : Placed) (r : ℕ) (block : Block) → Contains (stripes_of (log_of w 0) o) p → slice_get p.stripe.blocks r ≡ Some block
        → place_of (known_image i (log_of w)) o.line (address_in i (log_of w) (Opened o) p (p.stripe.at + r)) ≡ Some (p.stripe.unit, p.stripe.at + r)
    at_address p r block its there =
        ap (λ a. place_of (known_image i (log_of w)) o.line (a * n + (p.stripe.at + r - p.stripe.at))) number
        ∙ ap (λ d. place_of (known_image i (log_of w)) o.line ((k * g + c.0) * n + d)) behind
        ∙ ap₂ (λ h m. option_map (λ u. (u, block_of i.shape h ((k * g + c.0) * n + r))) (slice_get us m)) wide_known column_is
        ∙ ap (λ (x : Option ℕ). option_map (λ u. (u, block_of i.shape g ((k * g + c.0) * n + r))) x) c.1
        ∙ ap (λ m. Some (p.stripe.unit, m)) block_is
      where
        n : ℕ
        n = i.shape.ws_opt

        g : ℕ
        g = length (line_units (known_image i (log_of w)) o.line)

        on : IsAmong (stripes_on (log_of w 0) o p.stripe.unit) p
        on = on_its_unit i w mount o is_open p (among_contained (stripes_of log o) p its)

        k : ℕ
        k = on.0

        c : (m : ℕ) × (slice_get (line_units (known_image i (log_of w)) o.line) m ≡ Some p.stripe.unit)
        c = column i w mount o is_open p its

        some : 0 < i.shape.ws_opt
        some = mount.accepted.drive.ws_opt

        whole_rows : i.shape.clba ≡ i.shape.clba / i.shape.ws_opt * i.shape.ws_opt
        whole_rows = let none_over : i.shape.clba % i.shape.ws_opt ≡ 0 = mount.accepted.drive.whole_stripes in
            omega (arith, div-add-mod' i.shape.clba i.shape.ws_opt)

        at : p.stripe.at ≡ k * n
        at = kth_place i w o p.stripe.unit k p mount (opened_line i w mount o is_open).opened on.1

        low_row : k < i.shape.clba / i.shape.ws_opt
        low_row =
            let below : p.stripe.at < i.shape.clba = below_end i w mount o is_open p.stripe.unit k p on.1 in
            lt_of_mul-lt-mul_right i.shape.ws_opt (omega (arith, at, whole_rows, below))

        low_column : c.0 < g
        low_column = get_below us c.0 p.stripe.unit c.1

        low_block : r < n
        low_block =
            let inside : r < length p.stripe.blocks = slice_get_within p.stripe.blocks r block there in
            let count : length p.stripe.blocks ≡ i.shape.ws_opt =
            stripe_count i w o p mount.accepted mount.legal (opened_line i w mount o is_open).opened its in
            omega arith

        inside : k * g + c.0 < length (as_opened i (log_of w) o).stripes
        inside =
            let all : length (as_opened i (log_of w) o).stripes ≡ g * (i.shape.clba / i.shape.ws_opt) = count i w mount o is_open in
            let row : suc k * g ≤ i.shape.clba / i.shape.ws_opt * g = mul-le-mul_right g low_row in
            let next : suc k * g ≡ k * g + g = suc_times in
            let turned : i.shape.clba / i.shape.ws_opt * g ≡ g * (i.shape.clba / i.shape.ws_opt) = omega arith in
            omega (arith, low_column)
          where
            suc_times : suc k * g ≡ k * g + g
            suc_times = grind arith

        number : number_of i.shape (as_opened i (log_of w) o) p.stripe ≡ k * g + c.0
        number =
            let test : ℕ → Bool = is_stripe_at i.shape (as_opened i (log_of w) o) p.stripe.unit p.stripe.at in
            let first : 0 + (k * g + c.0) ≡ k * g + c.0 = omega arith in
            let here : test (k * g + c.0) ≡ true = at_place i w mount o is_open k c.0 p.stripe.unit p c.1 on.1 in
            let wide_some : 0 < lines.width (as_opened i (log_of w) o) =
            subst (λ m. 0 < m) (sym (wide i w mount o is_open)) (some_unit i w mount o is_open) in
            ap (λ o. unwrap_or o 0) (find_only test (length (as_opened i (log_of w) o).stripes) 0 (k * g + c.0) inside (ap test first ∙ here)
            (λ m other. not_at i.shape (as_opened i (log_of w) o) p.stripe.unit p.stripe.at m (k * g + c.0) some wide_some here (λ e. other (e ∙ sym first))))
            ∙ first

        behind : p.stripe.at + r - p.stripe.at ≡ r
        behind = omega arith

        wide_known : width (known_image i (log_of w)) o.line ≡ g
        wide_known = sym (line_units_count (known_image i (log_of w)) o.line)

        stripe_number : ((k * g + c.0) * n + r) / n ≡ k * g + c.0
        stripe_number = div-mul-add (k * g + c.0) n r low_block

        column_is : column_of i.shape (width (known_image i (log_of w)) o.line) ((k * g + c.0) * n + r) ≡ c.0
        column_is = ap₂ (λ m h. m % h) stripe_number wide_known ∙ mod-mul-add k g c.0 low_column

        block_is : block_of i.shape g ((k * g + c.0) * n + r) ≡ p.stripe.at + r
        block_is =
            ap₂ (λ m d. m / g * n + d) stripe_number (mod-mul-add (k * g + c.0) n r low_block)
            ∙ ap (λ m. m * n + r) (div-mul-add k g c.0 low_column) ∙ ap (λ m. m + r) (sym at)

  -- ---- the block of a sector's last entry

  module _ (lba : ℕ) (small : lba < i.shape.capacity) (t : Taken) (last : last_take (log_of w 0) lba ≡ Some t) (line at q : ℕ)
      (given : IsGivenBy i (log_of w) t.entry.position line at q) where
    abbrev p : Placed
    p = given.placed

    stands : IsStanding i w mount t.entry.position given.placed
    stands = entry_stands i w mount lba small t last p given.there given.landed given.holds

    is_last : IsAmong (takes (log_of w 0)) t × (t.mark.lba ≡ lba)
        × ((u : Taken) → IsAmong (takes (log_of w 0)) u → u.mark.lba ≡ lba → u.entry.position ≤ t.entry.position)
    is_last = last_is i w mount.legal lba t last

    own_mark : (u : Taken) → IsAmong (takes (log_of w 0)) u → u.mark.position ≡ u.entry.position
    own_mark u at = all_at (λ (x : Taken). x.mark.position ≡ x.entry.position) (takes log) at.0 u at.1 (marks_bear i w mount.legal)

    -- it is the entry's
    its_block : given.block ≡ block_of_taken t
    its_block = go (all_at (IsEntryOrNone i.shape log) p.stripe.blocks given.number given.block given.is_block
        (entries_of_stripe i w p mount.accepted mount.legal given.there))
      where
        bears : (is_some (named i.shape given.block.mark) ≡ true) × (given.block.mark.position ≡ t.entry.position)
        bears =
            let parts = both (is_some (named i.shape given.block.mark)) (given.block.mark.position == t.entry.position) given.bears in
            (parts.0, eqb-true given.block.mark.position t.entry.position parts.1)

        go : IsEntryOrNone i.shape (log_of w 0) given.block → given.block ≡ block_of_taken t
        go (inl none) = absurd (not_both (is_some (named i.shape given.block.mark)) bears.0 (ap is_some none))
        go (inr entry) =
            let one : entry.0 ≡ t = one_entry i w entry.0 t mount.legal entry.1 is_last.0
            (sym (own_mark entry.0 entry.1) ∙ ap (λ (b : Block). b.mark.position) entry.2 ∙ bears.1) in
            sym entry.2 ∙ ap block_of_taken one

    life : (o : Opening) × (p.life ≡ Opened o) × (life_of (take p.number (log_of w 0)) p.stripe.line ≡ Opened o)
    life = life_of_stripe i w p mount.legal given.there

    its_line : life.0.line ≡ line
    its_line = (opening_then log p.number p.stripe.line life.0 life.2).1 ∙ given.of_line

    is_open : life_of (log_of w 0) life.0.line ≡ Opened life.0
    is_open = ap (life_of log) (its_line ∙ sym given.of_line) ∙ stands.stands ∙ life.1

    of_opening : Contains (stripes_of (log_of w 0) life.0) p
    of_opening = contained_among (stripes_of log life.0) p
        (in_filter (λ (x : Placed). is_life life.0.number x.life) (placements log) p (among_contained (placements log) p given.there)
        (ap (is_life life.0.number) life.1 ∙ same_number life.0.number))

    its_place : place_of (known_image i (log_of w)) line at ≡ Some (p.stripe.unit, p.stripe.at + given.number)
    its_place =
        ap₂ (λ l a. place_of (known_image i (log_of w)) l a) (sym its_line)
        (sym (ap (λ (l : LineLife). address_in i (log_of w) l p (p.stripe.at + given.number)) (sym life.1) ∙ given.of_address))
        ∙ at_address life.0 is_open p given.number given.block of_opening given.is_block

    entry_place : IsPlaceOf i (log_of w) t (record { line = line; at = at; position = q })
    entry_place = record {
      position = sym given.of_position;
      placed = p;
      is_placed = given.there;
      landed = given.landed;
      line = sym given.of_line;
      not_freed = ap (life_of log) (sym given.of_line) ∙ stands.stands;
      block = given.number;
      entry = given.is_block ∙ ap (λ b. Some b) its_block;
      place = its_place;
    }

    -- and it stands there on the media
    entry_there : block_at (media i (log_of w)) line at ≡ Some (block_of_taken t)
    entry_there =
        ap (λ l. block_at (media i (log_of w)) l at) (sym its_line)
        ∙ block_placed (media i (log_of w)) life.0.line at
        ∙ ap (option_and_then (written_at (media i (log_of w)) life.0.line))
        (sym (same_place (known_image i (log_of w)) (media i (log_of w)) life.0.line at refl (units_now i w mount life.0 is_open))
        ∙ ap (λ l. place_of (known_image i (log_of w)) l at) its_line ∙ its_place)
        ∙ landed_written i w mount life.0 is_open p given.number given.block of_opening given.landed given.is_block
        ∙ ap (λ b. Some b) its_block

    pub entry_is_latest : IsLatest i (log_of w) lba (record { line = line; at = at; position = q }) (block_of_taken t)
    entry_is_latest = record {
      place = subst (IsPlaceOfLatest i (log_of w) lba (record { line = line; at = at; position = q })) (sym last) entry_place;
      there = entry_there;
      bears = subst (BearsIt lba (record { line = line; at = at; position = q }) (block_of_taken t)) (sym last)
          (ap₂ (λ m n. sector_mark m n) is_last.1 (own_mark t is_last.0 ∙ given.of_position));
    }

  -- ---- the place of a sector by its slot

  pub named_is_place : (lba line at q : ℕ) → lba < i.shape.capacity → slot_of i (log_of w) lba ≡ Media line at q
      → IsPlaceOfLatest i (log_of w) lba (record { line = line; at = at; position = q }) (last_take (log_of w 0) lba)
  named_is_place lba line at q small slot = go (last_take log lba) refl slot
    where
      go : (t : Option Taken) → last_take (log_of w 0) lba ≡ t → slot_by i (log_of w) lba t ≡ Media line at q
          → IsPlaceOfLatest i (log_of w) lba (record { line = line; at = at; position = q }) t
      go (Some t) last e = entry_place lba small t last line at q (given_by i (log_of w) t.entry.position line at q e)
      go None last e = by (winner (counted (found_image i (log_of w))) lba) refl e
        where
          by : (r : Option Record) → winner (counted (found_image i (log_of w))) lba ≡ r → slot_of_winner r ≡ Media line at q
              → IsPlaceOfWinner i (log_of w) lba (record { line = line; at = at; position = q })
          by None wins f = absurd cc
          by (Some r) wins f =
              let of_line : r.line ≡ line = same_line r.line line r.at at r.position q f in
              record {
                winning = r;
                is_winner = wins;
                line = sym of_line;
                at = sym (same_address r.line line r.at at r.position q f);
                position = sym (same_position r.line line r.at at r.position q f);
                not_freed = ap (life_of log) (sym of_line) ∙ winner_kept i w lba r mount wins (λ u there its.
                    absurd (last_none i w mount.legal lba last u (among_contained (takes log) u there) its));
              }

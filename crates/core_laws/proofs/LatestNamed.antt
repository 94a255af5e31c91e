-- What is the latest of a sector is what the map names: a source that is its place has the line and
-- the address of the slot.
use Rattle.std.proofs.Common.{◌≡◌, ℕ, ◌+◌, ◌-◌, ◌*◌, ◌/◌, ◌%◌, ◌<◌, ◌≤◌, ◌==◌, zero, suc, Bool, true, false, cond, Some, None, Option, List, [], ◌∷◌, length, refl, sym, subst, ap, ap₂, ◌∙◌, arith, div-add-mod'}
use Rattle.std.specs.Prelude.{slice_get}
use Rattle.std.specs.List.{Contains, filter}
use Rattle.std.specs.Option.{is_some, option_map}
use Rattle.std.proofs.lemmas.Nat.{div-mul-add, mod-mul-add}
use Rattle.std.proofs.lemmas.Option.{none-some, same_Some, slice_get_within}
use Rattle.std.proofs.Math.Nat.{lt_of_mul-lt-mul_right, mul-le-mul_right}
use Rattle.pblk_model.specs.Chunk.{Block}
use Rattle.pblk_model.specs.Contents.{counted, winner}
use Rattle.pblk_model.specs.Image.{Image, line_units, width}
use Rattle.pblk_model.specs.LineOrder.{block_of, column_of}
use Rattle.pblk_model.specs.Records.{Record, named}
use Rattle.pblk_laws.proofs.LineUnits.{line_units_count}
use Rattle.pblk_world.specs.Events.{Source, Logged}
use Rattle.pblk_world.specs.World.{World, log_of, media}
use Rattle.pblk_world.specs.EngineLog.{Opened, Opening, openings, life_of, is_life, Taken, takes, block_of_taken, Placed, placements, stripes_of, stripes_on, bears_position}
use Rattle.pblk_world.specs.Fronts.{last_take}
use Rattle.pblk_world.specs.Lines.{found_image, known_image, place_of}
use Rattle.pblk_world.specs.Taking.{IsPlaceOf, IsPlaceOfLatest}
use Rattle.l2p_map.specs.declared.slot.Slot.TheVariants.{Media}
use Rattle.pblk_world.specs.LegalMounts.{IsLegalMount}
use Rattle.world_laws.proofs.LifePlaces.{place_of_block, units_now}
use Rattle.world_laws.proofs.LineBlocks.{one_address}
use Rattle.world_laws.proofs.LineStripes.{stripe_count}
use Rattle.world_laws.proofs.StripePlaces.{kth_place}
use Rattle.world_laws.proofs.Stripes.{life_of_stripe, opening_then, stripe_is}
use Rattle.core_laws.specs.OpenedLines.{opened_units}
use Rattle.core_laws.specs.SlotOf.{address_in, slot_by, slot_of}
use Rattle.core_laws.specs.StripeTurns.{IsAtTurn}
use Rattle.core_laws.proofs.BorneOnce.{BearsOnce, borne_once, times}
use Rattle.core_laws.proofs.KeptLines.{keeps_units}
use Rattle.core_laws.proofs.LandedNow.{opened_now}
use Rattle.core_laws.proofs.LastTakes.{last_is}
use Rattle.core_laws.proofs.LineAddresses.{number_is}
use Rattle.core_laws.proofs.OpenedTurns.{bits_are_units}
use Rattle.core_laws.proofs.PlacedAnew.{landed_not_lost, one_kept}
use Rattle.core_laws.proofs.ReadBlocks.{IsEntryOnDrive, IsReadIn, entry_on_drive, winner_on_drive}
use Rattle.core_laws.proofs.StripeEnds.{below_end}
use Rattle.core_laws.proofs.UsersEntries.{AreInOrder, in_order}
use Rattle.pblk_model.proofs.Lists.{IsAmong}
use Rattle.pblk_model.proofs.Maps.{any_member, in_filter}
use Rattle.pblk_model.proofs.Options.{mapped_some}
use Rattle.pblk_model.proofs.Parts.{all_at, contained_among}
use Rattle.pblk_model.proofs.Tests.{and_both, same_number}
use Rattle.pblk_model.proofs.MarksLemmas.{accepted_small}

-- ---- one block of a stripe bears a position

none_passes : {X : Type 0} (f : X → Bool) (xs : List X) (k : ℕ) (x : X) → length (filter f xs) ≤ 0 → slice_get xs k ≡ Some x → f x ≡ true → ⊥
none_passes f xs k x few at passes =
    let is = in_filter f xs x (k, at) passes in
    let inside : is.0 < length (filter f xs) = slice_get_within (filter f xs) is.0 x is.1 in
    absurd (omega arith)

one_index : {X : Type 0} (f : X → Bool) (xs : List X) (j k : ℕ) (x y : X) → length (filter f xs) ≤ 1 → slice_get xs j ≡ Some x → f x ≡ true
    → slice_get xs k ≡ Some y → f y ≡ true → j ≡ k
one_index f [] j k x y few a p b q = absurd (none-some x a)
one_index f (z ∷ xs) zero zero x y few a p b q = refl
one_index {X} f (z ∷ xs) zero (suc k) x y few a p b q =
    let first : f z ≡ true = ap f (same_Some z x a) ∙ p in
    let rest : length (filter f xs) ≤ 0 = go (f z) first few in
    absurd (none_passes f xs k y rest b q)
  where
    go : (t : Bool) → t ≡ true → length (cond t (z ∷ filter f xs) (filter f xs)) ≤ 1 → length (filter f xs) ≤ 0
    go true e h = omega arith
    go false e h = absurd cc
one_index {X} f (z ∷ xs) (suc j) zero x y few a p b q =
    let first : f z ≡ true = ap f (same_Some z y b) ∙ q in
    let rest : length (filter f xs) ≤ 0 = go (f z) first few in
    absurd (none_passes f xs j x rest a p)
  where
    go : (t : Bool) → t ≡ true → length (cond t (z ∷ filter f xs) (filter f xs)) ≤ 1 → length (filter f xs) ≤ 0
    go true e h = omega arith
    go false e h = absurd cc
one_index {X} f (z ∷ xs) (suc j) (suc k) x y few a p b q = ap suc (one_index f xs j k x y (go (f z) few) a p b q)
  where
    go : (t : Bool) → length (cond t (z ∷ filter f xs) (filter f xs)) ≤ 1 → length (filter f xs) ≤ 1
    go true h = omega arith
    go false h = h

module _ (i : Image) (w : World) (mount : IsLegalMount i w) where
  abbrev log : List Logged
  log = log_of w 0

  -- ---- the address of a stripe's block, while its line is opened

  module _ (o : Opening) (is_open : life_of (log_of w 0) o.line ≡ Opened o) (p : Placed) (there : IsAmong (stripes_of (log_of w 0) o) p) where
    abbrev us : List ℕ
    us = opened_units i (log_of w) o

    abbrev n : ℕ
    n = i.shape.ws_opt

    units : line_units (known_image i (log_of w)) o.line ≡ opened_units i (log_of w) o
    units = keeps_units i w o.line o mount is_open

    opened : Contains (openings (log_of w 0)) o
    opened = (opened_now i w mount o.line o is_open).0

    of_opening : Contains (stripes_of (log_of w 0) o) p
    of_opening = contained_among (stripes_of log o) p there

    long : length p.stripe.blocks ≡ i.shape.ws_opt
    long = stripe_count i w o p mount.accepted mount.legal opened of_opening

    -- its unit is one of the line's
    column : (c : ℕ) × (slice_get (opened_units i (log_of w) o) c ≡ Some p.stripe.unit)
    column =
        let some : 0 < n = mount.accepted.drive.ws_opt in
        let place = place_of_block i w mount o is_open p 0 of_opening (omega (arith, long, some)) in
        let on_media : Image = media i (log_of w) in
        let parts = mapped_some (slice_get (line_units on_media o.line) (column_of i.shape (width on_media o.line) place.0))
        (block_of i.shape (width on_media o.line) place.0) p.stripe.unit (p.stripe.at + 0) place.1 in (
          column_of i.shape (width on_media o.line) place.0,
          ap (λ (xs : List ℕ). slice_get xs (column_of i.shape (width on_media o.line) place.0)) (sym (sym (units_now i w mount o is_open) ∙ units)) ∙ parts.0,
        )

    -- which of the unit's stripes it is
    row : IsAmong (stripes_on (log_of w 0) o p.stripe.unit) p
    row = in_filter (λ (q : Placed). q.stripe.unit == p.stripe.unit) (stripes_of log o) p there (same_number p.stripe.unit)

    inside : column.0 < length (opened_units i (log_of w) o)
    inside = slice_get_within us column.0 p.stripe.unit column.1

    its_at : p.stripe.at ≡ row.0 * i.shape.ws_opt
    its_at = kth_place i w o p.stripe.unit row.0 p mount opened row.1

    -- so this is its number in the line
    abbrev number : ℕ
    number = row.0 * length (opened_units i (log_of w) o) + column.0

    turn : IsAtTurn i.shape (opened_units i (log_of w) o) o.line (row.0 * length (opened_units i (log_of w) o) + column.0) p
    turn = record {
      unit = ap (slice_get us) (mod-mul-add row.0 (length us) column.0 inside) ∙ column.1;
      at = its_at ∙ ap (λ m. m * n) (sym (div-mul-add row.0 (length us) column.0 inside));
      line_is = (stripe_is i w o p mount.legal opened of_opening).3;
    }

    below : row.0 * length (opened_units i (log_of w) o) + column.0 < i.shape.clba / i.shape.ws_opt * length (opened_units i (log_of w) o)
    below =
        let none_over : i.shape.clba % n ≡ 0 = mount.accepted.drive.whole_stripes in
        let rows : i.shape.clba ≡ i.shape.clba / n * n = omega (arith, div-add-mod' i.shape.clba n) in
        let low : p.stripe.at < i.shape.clba = below_end i w mount o is_open p.stripe.unit row.0 p row.1 in
        let first : row.0 < i.shape.clba / n = lt_of_mul-lt-mul_right n (omega (arith, low, rows, its_at)) in
        let more : (row.0 + 1) * length us ≤ i.shape.clba / n * length us = mul-le-mul_right (length us) (omega (arith, first)) in
        let next : (row.0 + 1) * length us ≡ row.0 * length us + length us = omega arith in
        omega (arith, inside, more, next)

    module _ (r : ℕ) (within : r < i.shape.ws_opt) where
      address : address_in i (log_of w) (Opened o) p (p.stripe.at + r)
          ≡ (row.0 * length (opened_units i (log_of w) o) + column.0) * i.shape.ws_opt + r
      address =
          let left : p.stripe.at + r - p.stripe.at ≡ r = omega arith in
          ap₂ (λ a b. a * n + b) (number_is i (log_of w) o us o.line number p mount.accepted.drive.ws_opt mount.accepted.drive.whole_stripes
          (bits_are_units i w o mount) turn r within below) left

      pub addressed : place_of (known_image i (log_of w)) o.line (address_in i (log_of w) (Opened o) p (p.stripe.at + r))
          ≡ Some (p.stripe.unit, p.stripe.at + r)
      addressed =
          let known : Image = known_image i (log_of w) in
          let wide : width known o.line ≡ length us = sym (line_units_count known o.line) ∙ ap length units in
          let quotient : (number * n + r) / n ≡ number = div-mul-add number n r within in
          let rest : (number * n + r) % n ≡ r = mod-mul-add number n r within in
          let block : block_of i.shape (width known o.line) (number * n + r) ≡ p.stripe.at + r =
          ap₂ (λ q g. q / g * n + (number * n + r) % n) quotient wide ∙ ap₂ (λ a b. a + b) (sym turn.at) rest in
          let unit : slice_get (line_units known o.line) (column_of i.shape (width known o.line) (number * n + r)) ≡ Some p.stripe.unit =
          ap₂ (λ (xs : List ℕ) m. slice_get xs m) units (ap₂ (λ q g. q % g) quotient wide) ∙ turn.unit in
          ap (place_of known o.line) address
          ∙ ap₂ (λ (x : Option ℕ) b. option_map {U = ℕ × ℕ} (λ u. (u, b)) x) unit block

  -- ---- the place of the latest entry

  entry_is_named : (lba line at q : ℕ) (t : Taken) (source : Source) → last_take (log_of w 0) lba ≡ Some t → IsEntryOnDrive i (log_of w) t line at q
      → IsPlaceOf i (log_of w) t source → (source.line ≡ line) × (source.at ≡ at)
  unfolding times
  entry_is_named lba line at q t source last e is =
      let p : Placed = e.stripe in
      let read : IsReadIn i (log_of w) t.entry.position p = e.read in
      let entries : AreInOrder i.shape log = in_order i w (accepted_small i.shape mount.accepted) mount.legal in
      let taken : IsAmong (takes log) t = (last_is i w mount.legal lba t last).0 in
      let named_is : is_some (named i.shape t.mark) ≡ true =
      all_at (λ (u : Taken). is_some (named i.shape u.mark) ≡ true) (takes log) taken.0 t taken.1 entries.named in
      let marked : t.mark.position ≡ t.entry.position =
      all_at (λ (u : Taken). u.mark.position ≡ u.entry.position) (takes log) taken.0 t taken.1 entries.marked in
      let bears : bears_position i.shape t.entry.position (block_of_taken t) ≡ true =
      and_both (is_some (named i.shape t.mark)) (t.mark.position == t.entry.position) named_is
      (ap (λ m. m == t.entry.position) marked ∙ same_number t.entry.position) in
      let there : Contains (placements log) p = contained_among (placements log) p read.among in
      let one : is.placed ≡ p = one_kept i w mount is.placed p t.entry.position is.is_placed there
      (any_member (bears_position i.shape t.entry.position) is.placed.stripe.blocks is.block (block_of_taken t) is.entry bears)
      (any_member (bears_position i.shape t.entry.position) p.stripe.blocks read.number read.block read.there read.bears)
      (landed_not_lost log is.placed is.landed) (landed_not_lost log p read.landed) in
      let its_entry : slice_get p.stripe.blocks is.block ≡ Some (block_of_taken t) =
      subst (λ (x : Placed). slice_get x.stripe.blocks is.block ≡ Some (block_of_taken t)) one is.entry in
      let same : is.block ≡ read.number =
      one_index (bears_position i.shape t.entry.position) p.stripe.blocks is.block read.number (block_of_taken t) read.block
      (few p.stripe.blocks (all_at (λ (x : Placed). BearsOnce i.shape x.stripe.blocks) (placements log) read.among.0 p read.among.1 (borne_once i w mount)))
      its_entry bears read.there read.bears in
      let life = life_of_stripe i w p mount.legal there in
      let o : Opening = life.0 in
      let in_line : o.line ≡ p.stripe.line = (opening_then log p.number p.stripe.line o life.2).1 in
      let its_line : source.line ≡ p.stripe.line = is.line ∙ ap (λ (x : Placed). x.stripe.line) one in
      let is_open : life_of log o.line ≡ Opened o =
      ap (life_of log) (in_line ∙ sym its_line) ∙ is.not_freed ∙ ap (λ (x : Placed). x.life) one ∙ life.1 in
      let among : IsAmong (stripes_of log o) p = in_filter (λ (x : Placed). is_life o.number x.life) (placements log) p read.among
      (ap (is_life o.number) life.1 ∙ same_number o.number) in
      let short : read.number < length p.stripe.blocks = slice_get_within p.stripe.blocks read.number read.block read.there in
      let within : read.number < i.shape.ws_opt = omega (arith, short, long o is_open p among) in
      let known : Image = known_image i (log_of w) in
      let here : place_of known o.line source.at ≡ Some (p.stripe.unit, p.stripe.at + read.number) =
      ap (λ m. place_of known m source.at) (in_line ∙ sym its_line) ∙ is.place
      ∙ ap₂ (λ (x : Placed) m. Some (x.stripe.unit, x.stripe.at + m)) one same in
      let address : at ≡ address_in i (log_of w) (Opened o) p (p.stripe.at + read.number) =
      sym e.address ∙ ap (λ l. address_in i (log_of w) l p (p.stripe.at + read.number)) life.1 in (
        its_line ∙ e.of_line,
        one_address known o.line source.at (address_in i (log_of w) (Opened o) p (p.stripe.at + read.number)) p.stripe.unit (p.stripe.at + read.number)
            mount.accepted.drive.ws_opt here (addressed o is_open p among read.number within) ∙ sym address,
      )
    where
      few : (blocks : List Block) → BearsOnce i.shape blocks → length (filter (bears_position i.shape t.entry.position) blocks) ≤ 1
      few blocks once = once t.entry.position

  -- ---- of what the map names on the drive

  pub latest_is_named : (lba line at q : ℕ) (source : Source) → slot_of i (log_of w) lba ≡ Media line at q
      → IsPlaceOfLatest i (log_of w) lba source (last_take (log_of w 0) lba) → (source.line ≡ line) × (source.at ≡ at)
  latest_is_named lba line at q source slot is = go (last_take (log_of w 0) lba) refl slot is
    where
      go : (t : Option Taken) → last_take (log_of w 0) lba ≡ t → slot_by i (log_of w) lba t ≡ Media line at q
          → IsPlaceOfLatest i (log_of w) lba source t → (source.line ≡ line) × (source.at ≡ at)
      go None last e its =
          let found = winner_on_drive (winner (counted (found_image i (log_of w))) lba) line at q e in
          let one : its.winning ≡ found.0 = same_Some its.winning found.0 (sym its.is_winner ∙ found.1) in
          (its.line ∙ ap (λ (r : Record). r.line) one ∙ found.2.of_line, its.at ∙ ap (λ (r : Record). r.at) one ∙ found.2.of_address)
      go (Some t) last e its = entry_is_named lba line at q t source last (entry_on_drive i (log_of w) t line at q e) its

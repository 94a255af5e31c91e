-- A stripe that isn't answered can be filled again: its blocks are those of its kind, by the
-- records of its line and by the entries in the window.
use Rattle.std.proofs.Common.{◌≡◌, ◌≢◌, inl, inr, not, Bool, nat_lt, if◌then◌else◌, ℕ, ◌+◌, ◌*◌, ◌/◌, ◌<◌, ◌≤◌, true, false, Some, List, [], ◌++◌, length, drop, take, replicate, refl, sym, subst, ap, ap₂, ◌∙◌, arith, mul-div_cancel}
use Rattle.std.specs.Prelude.{slice_get}
use Rattle.std.specs.List.{AllByRecursion, Contains, filter_map}
use Rattle.std.specs.Option.{option_map_or, unwrap_or}
use Rattle.pblk_model.specs.declared.shape.Shape.{Shape}
use Rattle.pblk_model.specs.declared.chunk.Mark.{Mark}
use Rattle.pblk_model.specs.Chunk.{Block}
use Rattle.pblk_model.specs.EndRecord.{end_bytes}
use Rattle.pblk_model.specs.LineOrder.{data_len, start_len, end_len}
use Rattle.pblk_model.specs.Marks.{meta_lba, pad_mark}
use Rattle.pblk_model.specs.Image.{Image}
use Rattle.pblk_model.specs.Marks.{pad_block}
use Rattle.pblk_world.specs.Events.{Logged}
use Rattle.pblk_world.specs.World.{World, Logs, log_of}
use Rattle.pblk_world.specs.EngineLog.{Taken, takes, Opening, Placed, placements, is_life, stripes_of, has_failed as failed_opening, block_of_taken}
use Rattle.pblk_world.specs.Fronts.{first_position, waiting}
use Rattle.pblk_world.specs.Placing.{next_address, end_address, start_blocks, end_blocks, data_marks, record_blocks, stripe_at}
use Rattle.pblk_world.specs.Space.{freed}
use Rattle.pblk_world.specs.Victims.{engine_prefix, position_in}
use Rattle.world_laws.proofs.Later.{takes_joined}
use Rattle.world_laws.proofs.LineBlocks.{opened_line}
use Rattle.world_laws.proofs.LineStripes.{IsKind, stripe_kind, turn_of_stripe, data_behind_start}
use Rattle.stripe_placer.specs.declared.placement.StripeKind.{StripeKind}
use Rattle.stripe_placer.specs.declared.placement.StripeKind.TheVariants as kinds
use Rattle.stripe_placer.specs.OpenLines as lines
use Rattle.stripe_placer.specs.OpenLines.{OpenLine, kind_of, opened, width}
use Rattle.stripe_placer.specs.Placing.{Program}
use Rattle.core_laws.specs.OpenedLines.{as_opened, open_line}
use Rattle.core_laws.specs.PlacerOf.{number_of, positions_of}
use Rattle.pblk_world.specs.LegalMounts.{IsLegalMount}
use Rattle.core_laws.proofs.FailedThen.{failed_then}
use Rattle.core_laws.proofs.LineNumbers.{IsNumbered, numbered}
use Rattle.core_laws.proofs.StripesByPlace.{one_stripe}
use Rattle.core_laws.proofs.WholePlaces.{whole_number}
use Rattle.core_laws.specs.InOrder.{IsInPlace}
use Rattle.core_laws.proofs.LogOrders.{in_order}
use Rattle.core_laws.proofs.PlacerOfLemmas.{positions_taken}
use Rattle.core_laws.proofs.HeldInWorlds.{own_in_window}
use Rattle.core_laws.specs.StripeFor.{blocks_for}
use Rattle.core_laws.proofs.BlockPositions.{Bears, all_bear, positions_by}
use Rattle.core_laws.proofs.Placeable.{HasParts, IsPart, kind_by, kind_in, part_of, parts_by}
use Rattle.write_window.specs.Window.{sector_at}
use Rattle.pblk_core.specs.Entries.{entry_block, entry_blocks}
use Rattle.pblk_core.specs.Holds.{hold_of, row_at}
use Rattle.pblk_core.specs.LineRecords.{blocks_at_start, blocks_at_end, end_begins, whole_marks}
use Rattle.pblk_core.specs.Stands.{IsOpenLine, Stands}
use Rattle.pblk_core.specs.declared.hold.Hold.{Hold}
use Rattle.pblk_core.specs.declared.open_lines.OpenLine.{OpenLine as KeptLine}
use Rattle.pblk_core.specs.declared.target_core.Core.{Core}
use Rattle.pblk_core.proofs.DataBlocks.{waiting_taken}
use Rattle.pblk_core.proofs.LandedCore.{holds_it, positions_are}
use Rattle.pblk_core.proofs.LandedWay.{IsOnWay, line_of_way}
use Rattle.pblk_core.proofs.PlacingConditions.{end_kept, padded_to_stripe, start_of_line, stripe_of}
use Rattle.pblk_core.proofs.WaitingEntries.{blocks_are, numbered_at, row_of_entry, sector_there}
use Rattle.pblk_core.proofs.LineUnits.{now_units, opened_earlier, same_live}
use Rattle.pblk_core.proofs.PlacedStripe.{IsInPart, in_part}
use Rattle.pblk_model.proofs.Lists.{IsAmong, all_front}
use Rattle.pblk_model.proofs.Maps.{from_filter, get_mapped}
use Rattle.pblk_model.proofs.Parts.{all_at, all_by_get, contained_among, get_more, get_whole, take_and_drop}
use Rattle.pblk_core.proofs.WholeMarks.{marks_counted, marks_were}
use Rattle.pblk_model.proofs.Tests.{no_both}

pad_part : (k c d : ℕ) → IsPart k c d kinds.Pad → ⊥
unfolding IsPart
pad_part k c d h = h

module _ (i : Image) (w : World) (unit : ℕ) (of : Program) (mount : IsLegalMount i w) (is : IsOnWay i w unit of) where
  abbrev log : List Logged
  log = log_of w 0

  abbrev s : Shape
  s = i.shape

  abbrev p : Placed
  p = is.row.stripe

  abbrev o : Opening
  o = is.row.opening

  -- the logs when it was placed, and its line as it was then
  abbrev earlier : Logs
  earlier = engine_prefix is.row.stripe.number (log_of w)

  abbrev line_then : OpenLine
  line_then = open_line i (engine_prefix is.row.stripe.number (log_of w)) is.row.opening

  there : Contains (stripes_of (log_of w 0) is.row.opening) is.row.stripe
  there = contained_among (stripes_of log o) p is.among

  kind_then : IsKind i (engine_prefix is.row.stripe.number (log_of w)) is.row.opening is.row.stripe.stripe
  kind_then = stripe_kind i w o p mount.legal (opened_line i w mount o is.is_open).opened there

  some : 0 < i.shape.ws_opt
  some = mount.accepted.drive.ws_opt

  -- ---- its kind

  pub parts : HasParts i (now_units i w) w is.row.opening
  parts = parts_by i (now_units i w) w o is.line_is.wide_is is.line_is.well is.line_is.striped

  among : IsAmong (placements (log_of w 0)) is.row.stripe
  among = from_filter (λ (q : Placed). is_life is.row.opening.number q.life) (placements log) p is.among

  later : is.row.opening.number ≤ is.row.stripe.number
  later = opened_earlier log among.0 p o among.1 is.row.life

  same_data : (open_line i (engine_prefix is.row.stripe.number (log_of w)) is.row.opening).data_count ≡ (open_line i (log_of w) is.row.opening).data_count
  same_data = ap (λ live. (opened s o.line live).data_count) (same_live i (log_of w) o p.number later)

  pub number_then : number_of i.shape (open_line i (engine_prefix is.row.stripe.number (log_of w)) is.row.opening) is.row.stripe.stripe ≡ is.number
  number_then =
      sym (mul-div_cancel (number_of s line_then p.stripe) some)
      ∙ ap (λ n. n / s.ws_opt) (ap (λ (x : Program). x.at) is.row.is ∙ is.number_is) ∙ mul-div_cancel is.number some

  pub kind_is : kind_of (open_line i (engine_prefix is.row.stripe.number (log_of w)) is.row.opening) is.number ≡ of.kind
  kind_is = ap (kind_of line_then) (sym number_then) ∙ ap (λ (x : Program). x.kind) is.row.is

  fails_then : lines.has_failed (open_line i (engine_prefix is.row.stripe.number (log_of w)) is.row.opening)
      ≡ failed_opening (take is.row.stripe.number (log_of w 0)) is.row.opening
  fails_then = failed_then i w mount o is.is_open p.number later

  -- ---- where a stripe of its line was lost before

  module _ (failed : failed_opening (take is.row.stripe.number (log_of w 0)) is.row.opening ≡ true) where
    pub pad_then : of.kind ≡ kinds.Pad
    pad_then = sym kind_is ∙ ap (λ b. if b then kinds.Pad else if nat_lt is.number line_then.start_count then kinds.Start
        else if nat_lt is.number (line_then.start_count + line_then.data_count) then kinds.Data else kinds.End) (fails_then ∙ failed)

  -- ---- where none was

  module _ (sound : failed_opening (take is.row.stripe.number (log_of w 0)) is.row.opening ≡ false) where
    pub number_is_place : is.number ≡ is.among.0
    number_is_place =
        let g = is.line_is.wide_is in
        let wide : 0 < width (as_opened i (log_of w) o) = (let h = is.line_is.striped.wide in omega arith) in
        let own : IsNumbered i w mount o is.is_open p = numbered i w mount o is.is_open p is.among in
        one_stripe s (as_opened i (log_of w) o) p.stripe.unit p.stripe.at is.number own.number some wide is.here own.at
        ∙ whole_number i w mount o is.is_open p is.among (ap not sound)

    pub at_then : next_address i.shape (take is.row.stripe.number (log_of w 0)) is.row.opening ≡ of.at
    at_then = ap (λ n. n * s.ws_opt) (turn_of_stripe log o is.among.0 p is.among.1 ∙ sym number_is_place) ∙ sym is.number_is

    pub kind_in_line : kind_in is.number (start_len i.shape / i.shape.ws_opt)
        (open_line i (engine_prefix is.row.stripe.number (log_of w)) is.row.opening).data_count ≡ of.kind
    kind_in_line =
        sym (kind_by line_then is.number (fails_then ∙ sound)) ∙ kind_is

    part_sound : IsInPart i.shape is.row.opening of.at of.kind
    part_sound =
        let c : ℕ = start_len s / s.ws_opt in
        let here : IsPart is.number c line_then.data_count of.kind =
        subst (IsPart is.number c line_then.data_count) kind_in_line (part_of is.number c line_then.data_count) in
        subst (λ a. IsInPart s o a of.kind) (sym is.number_is)
        (in_part s o is.number c line_then.data_count of.kind parts.start_is (ap (λ d. (c + d) * s.ws_opt) same_data ∙ parts.ends_is) here)

    pub not_pad : of.kind ≢ kinds.Pad
    not_pad e = pad_part is.number (start_len s / s.ws_opt) line_then.data_count
        (subst (IsPart is.number (start_len s / s.ws_opt) line_then.data_count) (kind_in_line ∙ e)
        (part_of is.number (start_len s / s.ws_opt) line_then.data_count))

  pub part : IsInPart i.shape is.row.opening of.at of.kind
  part = go (failed_opening (take p.number log) o) refl
    where
      go : (b : Bool) → failed_opening (take is.row.stripe.number (log_of w 0)) is.row.opening ≡ b → IsInPart i.shape is.row.opening of.at of.kind
      go true e = subst (IsInPart s o of.at) (sym (pad_then e)) tt
      go false e = part_sound e

  -- a stripe that isn't a pad was placed before one of its line was lost
  pub was_sound : of.kind ≢ kinds.Pad → failed_opening (take is.row.stripe.number (log_of w 0)) is.row.opening ≡ false
  was_sound other = go (failed_opening (take p.number log) o) refl
    where
      go : (b : Bool) → failed_opening (take is.row.stripe.number (log_of w 0)) is.row.opening ≡ b → b ≡ false
      go true e = absurd (other (pad_then e))
      go false e = refl

  -- ---- its blocks

  pub blocks_then : is.row.stripe.stripe.blocks ≡ blocks_for i.shape (take is.row.stripe.number (log_of w 0)) is.row.opening of.at of.kind
  blocks_then = by (failed_opening (take p.number log) o) refl
    where
      pad : failed_opening (take is.row.stripe.number (log_of w 0)) is.row.opening ≡ true
          → IsKind i (engine_prefix is.row.stripe.number (log_of w)) is.row.opening is.row.stripe.stripe
          → is.row.stripe.stripe.blocks ≡ blocks_for i.shape (take is.row.stripe.number (log_of w 0)) is.row.opening of.at kinds.Pad
      pad e (inl h) = absurd (no_both _ e h.next.not_failed)
      pad e (inr (inl h)) = absurd (no_both _ e h.next.not_failed)
      pad e (inr (inr (inl h))) = absurd (no_both _ e h.next.not_failed)
      pad e (inr (inr (inr h))) = h.blocks

      go : failed_opening (take is.row.stripe.number (log_of w 0)) is.row.opening ≡ false
          → next_address i.shape (take is.row.stripe.number (log_of w 0)) is.row.opening ≡ of.at → (k : StripeKind) → k ≢ kinds.Pad
          → IsInPart i.shape is.row.opening of.at k
          → IsKind i (engine_prefix is.row.stripe.number (log_of w)) is.row.opening is.row.stripe.stripe
          → is.row.stripe.stripe.blocks ≡ blocks_for i.shape (take is.row.stripe.number (log_of w 0)) is.row.opening of.at k
      go unfailed at k other in_it (inr (inr (inr h))) =
          let failed : failed_opening (take p.number log) o ≡ true = h.failed in absurd (no_both _ failed unfailed)
      go unfailed at kinds.Start other in_it (inl h) = h.blocks ∙ ap (stripe_at s (start_blocks s o) 0) at
      go unfailed at kinds.Start other in_it (inr (inl h)) =
          let from : start_len s ≤ next_address s (take p.number log) o = data_behind_start i earlier o p.stripe some h in
          let low : of.at + s.ws_opt ≤ start_len s = in_it in
          absurd (omega (arith, at, some))
      go unfailed at kinds.Start other in_it (inr (inr (inl h))) =
          let from : end_address s o ≤ next_address s (take p.number log) o = h.from in
          let low : of.at + s.ws_opt ≤ start_len s = in_it in
          absurd (omega (arith, at, some))
      go unfailed at kinds.Data other in_it (inl h) =
          let low : next_address s (take p.number log) o < start_len s = h.within in
          let from : start_len s ≤ of.at = in_it.0 in
          absurd (omega (arith, at))
      go unfailed at kinds.Data other in_it (inr (inl h)) = h.blocks
      go unfailed at kinds.Data other in_it (inr (inr (inl h))) =
          let from : end_address s o ≤ next_address s (take p.number log) o = h.from in
          let low : of.at + s.ws_opt ≤ end_address s o = in_it.1 in
          absurd (omega (arith, at, some))
      go unfailed at kinds.Pad other in_it h = absurd (other refl)
      go unfailed at kinds.End other in_it (inl h) =
          let low : next_address s (take p.number log) o < start_len s = h.within in
          let from : end_address s o ≤ of.at = in_it in
          absurd (omega (arith, at))
      go unfailed at kinds.End other in_it (inr (inl h)) =
          let low : next_address s (take p.number log) o < end_address s o = h.within in
          let from : end_address s o ≤ of.at = in_it in
          absurd (omega (arith, at))
      go unfailed at kinds.End other in_it (inr (inr (inl h))) = h.blocks ∙ ap (stripe_at s (end_blocks s (take p.number log) o) (end_address s o)) at

      by : (b : Bool) → failed_opening (take is.row.stripe.number (log_of w 0)) is.row.opening ≡ b
          → is.row.stripe.stripe.blocks ≡ blocks_for i.shape (take is.row.stripe.number (log_of w 0)) is.row.opening of.at of.kind
      by true e = pad e kind_then ∙ ap (blocks_for s (take p.number log) o of.at) (sym (pad_then e))
      by false e = go e (at_then e) of.kind (not_pad e) part kind_then

  -- ---- the stripe as it is filled again

  its_chunk : is.row.stripe.stripe.chunk ≡ is.row.stripe.stripe.line
  its_chunk = IsInPlace.chunk (all_at (IsInPlace i log) (placements log) among.0 p among.1 (in_order i w mount).placed)

  filled : (blocks : List Block) → blocks ≡ blocks_for i.shape (take is.row.stripe.number (log_of w 0)) is.row.opening of.at of.kind
      → stripe_of of blocks ≡ is.row.stripe.stripe
  filled blocks same =
      let line : of.line ≡ p.stripe.line = sym (line_of_way i w unit of is) ∙ is.its_line in
      let on : of.unit ≡ p.stripe.unit = sym (ap (λ (x : Program). x.unit) is.row.is) in
      let at : of.block ≡ p.stripe.at = sym (ap (λ (x : Program). x.block) is.row.is) in
      let all : blocks ≡ p.stripe.blocks = same ∙ sym blocks_then in
      let chunk : of.line ≡ p.stripe.chunk = line ∙ sym its_chunk in
      λ j. record { line = line j; unit = on j; chunk = chunk j; at = at j; blocks = all j }

  -- a stripe of an end record stands behind all data
  module _ (kind : of.kind ≡ kinds.End) where
    pub sound_end : failed_opening (take is.row.stripe.number (log_of w 0)) is.row.opening ≡ false
    sound_end = was_sound (λ e. unlike (sym kind ∙ e))
      where
        unlike : kinds.End ≡ kinds.Pad → ⊥
        unlike e = cc

    pub enough_end : end_address i.shape is.row.opening ≤ length (stripes_of (take is.row.stripe.number (log_of w 0)) is.row.opening) * i.shape.ws_opt
    enough_end =
        let from : end_address s o ≤ of.at = subst (IsInPart s o of.at) kind part in
        let at : length (stripes_of (take p.number log) o) * s.ws_opt ≡ of.at = at_then sound_end in
        omega arith

    pub marks_end : length (whole_marks i.shape (log_of w 0) is.row.opening) ≡ data_len i.shape is.row.opening.start.width
    marks_end = marks_counted i w mount o p.number sound_end enough_end

  pub start_again : (slot : KeptLine) (shape : Shape) → of.kind ≡ kinds.Start → IsOpenLine i (log_of w) is.row.opening slot → shape ≡ i.shape
      → stripe_of of (stripe_at shape (blocks_at_start slot.records) 0 of.at) ≡ is.row.stripe.stripe
  start_again slot shape kind kept same =
      filled (stripe_at shape (blocks_at_start slot.records) 0 of.at)
      (start_of_line s log o slot.records shape of.at kept.records same ∙ ap (blocks_for s (take p.number log) o of.at) (sym kind))

  pub pad_again : (shape : Shape) → of.kind ≡ kinds.Pad → shape ≡ i.shape
      → stripe_of of (replicate shape.ws_opt (pad_block shape)) ≡ is.row.stripe.stripe
  pad_again shape kind same =
      filled (replicate shape.ws_opt (pad_block shape))
      (ap (λ (x : Shape). replicate x.ws_opt (pad_block x)) same ∙ ap (blocks_for s (take p.number log) o of.at) (sym kind))

  pub end_again : (slot : KeptLine) (shape : Shape) → of.kind ≡ kinds.End → IsOpenLine i (log_of w) is.row.opening slot → shape ≡ i.shape
      → stripe_of of (stripe_at shape (blocks_at_end slot.records) (end_begins slot.records) of.at) ≡ is.row.stripe.stripe
  end_again slot shape kind kept same =
      filled (stripe_at shape (blocks_at_end slot.records) (end_begins slot.records) of.at)
      (end_kept s log o slot.records shape of.at kept.records same ∙ ap (λ ms. by_marks ms) (sym marks)
      ∙ ap (blocks_for s (take p.number log) o of.at) (sym kind))
    where
      by_marks : List Mark → List Block
      by_marks ms = stripe_at i.shape (record_blocks i.shape is.row.opening.start.seq (end_len i.shape is.row.opening.start.width)
          (end_bytes i.shape (record { line = is.row.opening.line; width = is.row.opening.start.width; seq = is.row.opening.start.seq; pairs = ms })))
          (end_address i.shape is.row.opening) of.at

      marks : data_marks i.shape (take is.row.stripe.number (log_of w 0)) is.row.opening ≡ whole_marks i.shape (log_of w 0) is.row.opening
      marks = sym (marks_were i w mount o p.number (sound_end kind) (enough_end kind))

  -- ---- with its entries

  -- the entries that waited when it was placed
  abbrev entries_then : List Taken
  entries_then = take i.shape.ws_opt (waiting i.shape (take is.row.stripe.number (log_of w 0)))

  small : i.shape.capacity ≤ meta_lba
  small = let low = mount.accepted.target.capacity_number in omega arith

  taken_parts : takes (log_of w 0) ≡ takes (take is.row.stripe.number (log_of w 0)) ++ takes (drop is.row.stripe.number (log_of w 0))
  taken_parts = ap takes (sym (take_and_drop p.number log)) ∙ takes_joined (take p.number log) (drop p.number log)

  bear_then : AllByRecursion (Bears i.shape) (takes (take is.row.stripe.number (log_of w 0)))
  bear_then =
      (all_front (Bears s) (takes (take p.number log)) (takes (drop p.number log))
      (subst (AllByRecursion (Bears s)) taken_parts (all_bear i w small mount.legal))).0

  pub positions_then : of.kind ≡ kinds.Data → of.positions ≡ positions_of (take i.shape.ws_opt (waiting i.shape (take is.row.stripe.number (log_of w 0))))
  positions_then kind =
      positions_are i w unit of is
      ∙ ap (filter_map (position_in s)) (blocks_then ∙ ap (blocks_for s (take p.number log) o of.at) kind)
      ∙ positions_by s (take p.number log) bear_then small
      ∙ sym (positions_taken s.ws_opt (waiting s (take p.number log)))

  pub data_again : (c : Core) (shape : Shape) → of.kind ≡ kinds.Data → Stands i (log_of w) c → shape ≡ i.shape
      → stripe_of of (padded_to_stripe shape (entry_blocks c.window c.holds.rows.items of.positions)) ≡ is.row.stripe.stripe
  data_again c shape kind st same =
      filled (padded_to_stripe shape (entry_blocks c.window c.holds.rows.items of.positions))
      (ap₂ padded_to_stripe same
      (ap (entry_blocks c.window c.holds.rows.items) (positions_then kind)
      ∙ blocks_are c.window c.holds.rows.items entries_then
      (all_by_get (λ (t : Taken). entry_block c.window c.holds.rows.items t.entry.position ≡ block_of_taken t) entries_then each))
      ∙ ap (blocks_for s (take p.number log) o of.at) (sym kind))
    where
      each : (k : ℕ) (t : Taken) → slice_get (take i.shape.ws_opt (waiting i.shape (take is.row.stripe.number (log_of w 0)))) k ≡ Some t
          → entry_block c.window c.holds.rows.items t.entry.position ≡ block_of_taken t
      each k t e =
          let held : slice_get of.positions k ≡ Some t.entry.position =
          ap (λ qs. slice_get qs k) (positions_then kind) ∙ get_mapped (λ (u : Taken). u.entry.position) entries_then k t e in
          let own = own_in_window i w unit p t.entry.position mount is.row.waits (holds_it i w unit of k t.entry.position is held) in
          let first = waiting_taken s (take p.number log) k t (get_whole s.ws_opt (waiting s (take p.number log)) k t e) in
          let at : slice_get (takes log) first.0 ≡ Some t =
          ap (λ ts. slice_get ts first.0) taken_parts ∙ get_more (takes (take p.number log)) (takes (drop p.number log)) first.0 t first.1 in
          let number : t.entry.position ≡ first_position log + first.0 = numbered_at log first.0 t (in_order i w mount).numbered at in
          let low : c.window.freed ≤ freed s log = st.to_freed in
          let from : freed s log ≤ t.entry.position = own.1 in
          let sector : sector_at c.window t.entry.position ≡ Some t.entry.sector = sector_there i w c t first.0 st at (sym number) (omega arith) in
          let row : row_at c.holds.rows.items t.entry.position ≡ Some (hold_of s log t) = row_of_entry i w c t first.0 st at own.0 in
          λ j. record {
            sector = unwrap_or (sector j) [];
            mark = option_map_or (λ (h : Hold). h.mark) (row j) pad_mark;
          }

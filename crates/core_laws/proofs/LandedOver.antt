-- Where no stripe was lost, nothing more is written to an opened line exactly if all its stripes have
-- landed.
use Rattle.std.proofs.Common.{◌≡◌, ◌⊎◌, inl, inr, ℕ, ◌+◌, ◌*◌, ◌/◌, ◌%◌, ◌<◌, suc, zero, Bool, true, false, Some, List, length, refl, sym, subst, ap, ap₂, ◌∙◌, arith, if◌then◌else◌, div-add-mod'}
use Rattle.std.specs.Prelude.{slice_get}
use Rattle.std.specs.List.{Contains, list_all}
use Rattle.std.proofs.lemmas.Nat.{div-mul-add, mod-mul-add}
use Rattle.std.proofs.lemmas.Option.{same_Some}
use Rattle.std.proofs.Math.Nat.{lt_of_mul-lt-mul_right, mul-div_cancel, zero-mul}
use Rattle.pblk_model.specs.declared.chunk.ChunkState.{ChunkState}
use Rattle.pblk_model.specs.declared.chunk.ChunkState.TheVariants as states
use Rattle.pblk_model.specs.Chunk.{Chunk}
use Rattle.pblk_model.specs.Image.{Image, is_online_in, line_units, width}
use Rattle.pblk_model.specs.LineOrder.{block_of, column_of}
use Rattle.pblk_laws.specs.LineBlocks.{chunk_in}
use Rattle.pblk_laws.proofs.LineUnits.{line_units_chunks, line_units_count}
use Rattle.pblk_world.specs.EngineLog.{has_failed, LineLife, is_as_found, life_of, Opened, Opening, Placed, stripes_of, was_lost}
use Rattle.pblk_world.specs.Events.{Logged}
use Rattle.pblk_world.specs.Lines.{are_over, chunks_of, is_over_state, known_image, place_of}
use Rattle.pblk_world.specs.Placing.{IsNext, line_end}
use Rattle.pblk_world.specs.Starts.{have_landed}
use Rattle.pblk_world.specs.Victims.{engine_prefix}
use Rattle.pblk_world.specs.World.{World, log_of, media}
use Rattle.line_table.specs.declared.row.LineState.TheVariants.{Full, Failed, Open}
use Rattle.pblk_model.proofs.Lists.{IsAmong, among_contained}
use Rattle.pblk_model.proofs.Maps.{in_filter}
use Rattle.pblk_model.proofs.Options.{mapped_some, split_then}
use Rattle.pblk_model.proofs.Parts.{all_by_get, contained_among, get_below}
use Rattle.pblk_model.proofs.Tests.{not_both}
use Rattle.pblk_world.specs.LegalMounts.{IsLegalMount}
use Rattle.world_laws.proofs.LifePlaces.{units_now}
use Rattle.world_laws.proofs.LineBlocks.{IsLineOf, opened_line}
use Rattle.world_laws.proofs.LineStarts.{in_order_at, landed_of}
use Rattle.world_laws.proofs.LineStripes.{IsKind, failed_later, stripe_count, stripe_kind, turn_of_stripe}
use Rattle.core_laws.specs.RowsOf.{state_in}
use Rattle.core_laws.proofs.DoneLines.{full_or_failed}
use Rattle.core_laws.proofs.EachChunk.{all_hold}
use Rattle.core_laws.proofs.FreedWidths.{opened_width}
use Rattle.core_laws.proofs.LandedChunks.{landed_fills}
use Rattle.core_laws.proofs.GivenBack.{none_at}

-- ---- tests

same_tests : (a b : Bool) → (a ≡ true → b ≡ true) → (b ≡ true → a ≡ true) → a ≡ b
same_tests true b there back = sym (there refl)
same_tests false true there back = back refl
same_tests false false there back = refl

before_it : (n : ℕ) → 0 < n → (r : ℕ) × (n ≡ suc r)
before_it zero some = absurd (omega arith)
before_it (suc r) some = (r, refl)

module _ (i : Image) (w : World) (mount : IsLegalMount i w) (o : Opening) (is_open : life_of (log_of w 0) o.line ≡ Opened o)
    (kept : has_failed (log_of w 0) o ≡ false) where
  abbrev log : List Logged
  log = log_of w 0

  abbrev n : ℕ
  n = i.shape.ws_opt

  -- how many stripes a chunk has
  abbrev rows : ℕ
  rows = i.shape.clba / i.shape.ws_opt

  -- the line's units, in their order
  abbrev us : List ℕ
  us = line_units (known_image i (log_of w)) o.line

  line_is : IsLineOf i w o
  line_is = opened_line i w mount o is_open

  pub not_lost : (p : Placed) → Contains (stripes_of (log_of w 0) o) p → was_lost (log_of w 0) p ≡ false
  not_lost p its = none_at (was_lost log) (stripes_of log o) p kept (among_contained (stripes_of log o) p its)

  -- ---- where nothing more is written, all have landed

  over_landed : are_over i (log_of w) o.line ≡ true → have_landed (log_of w 0) o (line_end i.shape o / i.shape.ws_opt) ≡ true
  over_landed over = go (full_or_failed i w mount o is_open over)
    where
      full : (t : Bool) → (if t then Full else Open) ≡ Full → t ≡ true
      full true e = refl
      full false e = absurd cc

      failed : (t : Bool) → (if t then Full else Open) ≡ Failed → t ≡ true
      failed true e = refl
      failed false e = absurd cc

      here : state_in i (log_of w) o.line (Opened o)
          ≡ (if have_landed (log_of w 0) o (line_end i.shape o / i.shape.ws_opt) then Full else Open)
      here = ap (λ t. if t then Failed else if have_landed log o (line_end i.shape o / n) then Full else Open) kept

      go : (state_in i (log_of w) o.line (Opened o) ≡ Full) ⊎ (state_in i (log_of w) o.line (Opened o) ≡ Failed)
          → have_landed (log_of w 0) o (line_end i.shape o / i.shape.ws_opt) ≡ true
      go (inl e) = full (have_landed log o (line_end i.shape o / n)) (sym here ∙ e)
      go (inr e) = failed (have_landed log o (line_end i.shape o / n)) (sym here ∙ e)

  -- ---- where all have landed, nothing more is written

  wide : o.start.width ≡ length (line_units (known_image i (log_of w)) o.line)
  wide = opened_width i w mount o.line o is_open ∙ sym (line_units_count (known_image i (log_of w)) o.line)

  whole_rows : i.shape.clba ≡ i.shape.clba / i.shape.ws_opt * i.shape.ws_opt
  whole_rows = let none_over : i.shape.clba % i.shape.ws_opt ≡ 0 = mount.accepted.drive.whole_stripes in
      omega (arith, div-add-mod' i.shape.clba i.shape.ws_opt)

  some_rows : 0 < i.shape.clba / i.shape.ws_opt
  some_rows =
      let some : 0 < i.shape.clba = mount.accepted.drive.clba in
      let none : 0 * n ≡ 0 = zero-mul n in
      lt_of_mul-lt-mul_right n (omega (arith, whole_rows, none, some))

  all_stripes : line_end i.shape o / i.shape.ws_opt ≡ length (line_units (known_image i (log_of w)) o.line) * (i.shape.clba / i.shape.ws_opt)
  all_stripes =
      let turned : length us * (rows * n) ≡ length us * rows * n = omega arith in
      ap (λ m. m / n) (ap₂ (λ g c. g * c) wide whole_rows ∙ turned) ∙ mul-div_cancel (length us * rows) {n = n} mount.accepted.drive.ws_opt

  -- the stripe of this number stands at its turn
  record IsInTurn (x : ℕ) (p : Placed) : Type 0 where
    unit : slice_get (line_units (known_image i (log_of w)) o.line) (x % length (line_units (known_image i (log_of w)) o.line)) ≡ Some p.stripe.unit
    at : p.stripe.at ≡ x / length (line_units (known_image i (log_of w)) o.line) * i.shape.ws_opt

  in_turn : (x : ℕ) (p : Placed) → slice_get (stripes_of (log_of w 0) o) x ≡ Some p → IsInTurn x p
  in_turn x p there = go (stripe_kind i w o p mount.legal line_is.opened among)
    where
      among : Contains (stripes_of (log_of w 0) o) p
      among = contained_among (stripes_of log o) p (x, there)

      now : Image
      now = media i (log_of w)

      by_place : place_of (media i (log_of w)) o.line (x * i.shape.ws_opt + 0) ≡ Some (p.stripe.unit, p.stripe.at + 0) → IsInTurn x p
      by_place place =
          let some : 0 < n = mount.accepted.drive.ws_opt in
          let parts = mapped_some (slice_get (line_units (media i (log_of w)) o.line)
          (column_of i.shape (width (media i (log_of w)) o.line) (x * n + 0)))
          (block_of i.shape (width (media i (log_of w)) o.line) (x * n + 0)) p.stripe.unit (p.stripe.at + 0) place in
          let same_units : us ≡ line_units (media i (log_of w)) o.line = units_now i w mount o is_open in
          let same_width : width (media i (log_of w)) o.line ≡ length us = sym (line_units_count (media i (log_of w)) o.line) ∙ ap length (sym same_units) in
          let turn : (x * n + 0) / n ≡ x = div-mul-add x n 0 some in
          let first : (x * n + 0) % n ≡ 0 = mod-mul-add x n 0 some in
          let block : (x * n + 0) / n / width (media i (log_of w)) o.line * n + (x * n + 0) % n ≡ x / length us * n + 0 =
          ap₂ (λ m b. m * n + b) (ap₂ (λ m g. m / g) turn same_width) first in
          record {
            unit = ap₂ (λ (xs : List ℕ) m. slice_get xs m) same_units (sym (ap₂ (λ m g. m % g) turn same_width)) ∙ parts.0;
            at = let here : p.stripe.at + 0 ≡ x / length us * n + 0 = parts.1 ∙ block in omega (arith, here);
          }

      next : IsNext i (engine_prefix p.number (log_of w)) o p.stripe → IsInTurn x p
      next is = by_place (ap (λ m. place_of (media i (log_of w)) o.line (m * n + 0)) (sym (turn_of_stripe log o x p there))
          ∙ in_order_at i w mount o line_is p 0 among is mount.accepted.drive.ws_opt)

      go : IsKind i (engine_prefix p.number (log_of w)) o p.stripe → IsInTurn x p
      go (inl is) = next is.next
      go (inr (inl is)) = next is.next
      go (inr (inr (inl is))) = next is.next
      go (inr (inr (inr is))) = absurd (not_both (has_failed log o) (failed_later log o p.number is.failed) kept)

  full_chunk : (x unit : ℕ) (c : Chunk) → have_landed (log_of w 0) o (line_end i.shape o / i.shape.ws_opt) ≡ true
      → slice_get (line_units (known_image i (log_of w)) o.line) x ≡ Some unit → chunk_in (known_image i (log_of w)) o.line unit ≡ Some c
      → c.state ≡ states.Closed
  full_chunk x unit c landed at there =
      let g : ℕ = length us in
      let inside : x < length us = get_below us x unit at in
      let last = before_it rows some_rows in
      let k : ℕ = last.0 * length us + x in
      let count : rows ≡ suc last.0 = last.1 in
      let below : last.0 * length us + x < length us * suc last.0 = omega arith in
      let within : k < line_end i.shape o / n = subst (λ m. k < m) (sym (all_stripes ∙ ap (λ m. length us * m) count)) below in
      let p = landed_of log o (line_end i.shape o / n) k landed within in
      let turn : IsInTurn k p.0 = in_turn k p.0 p.1 in
      let row : k / length us ≡ last.0 = div-mul-add last.0 (length us) x inside in
      let column : k % length us ≡ x = mod-mul-add last.0 (length us) x inside in
      let its_unit : p.0.stripe.unit ≡ unit =
      same_Some p.0.stripe.unit unit (sym turn.unit ∙ ap (slice_get us) column ∙ at) in
      let its_at : p.0.stripe.at ≡ last.0 * n = turn.at ∙ ap (λ m. m * n) row in
      let its : Contains (stripes_of log o) p.0 = contained_among (stripes_of log o) p.0 (k, p.1) in
      let units = split_then (λ (cs : List Chunk). slice_get cs o.line) (slice_get (known_image i (log_of w)).units p.0.stripe.unit) c
      (ap (chunk_in (known_image i (log_of w)) o.line) its_unit ∙ there) in
      let long : length p.0.stripe.blocks ≡ n = stripe_count i w o p.0 mount.accepted mount.legal line_is.opened its in
      let clba : i.shape.clba ≡ suc last.0 * n = whole_rows ∙ ap (λ m. m * n) count in
      landed_fills i w mount o p.0 is_open its p.2 units.0 c units.1 units.2 (omega arith) (omega arith)

  landed_over : have_landed (log_of w 0) o (line_end i.shape o / i.shape.ws_opt) ≡ true → are_over i (log_of w) o.line ≡ true
  landed_over landed =
      ap (λ (l : LineLife). list_all (λ (c : Chunk). is_over_state (is_as_found l) c.state) chunks) is_open
      ∙ all_hold (λ (c : Chunk). is_over_state false c.state) chunks
      (all_by_get (λ (c : Chunk). is_over_state false c.state ≡ true) chunks (λ k c at. by_state c (k, at) (is_online_in c.state) refl))
    where
      chunks : List Chunk
      chunks = chunks_of (known_image i (log_of w)) o.line

      offline : (state : ChunkState) → is_online_in state ≡ false → is_over_state false state ≡ true
      offline states.Free e = absurd cc
      offline states.Open e = absurd cc
      offline states.Closed e = refl
      offline states.Offline e = refl

      by_state : (c : Chunk) → IsAmong (chunks_of (known_image i (log_of w)) o.line) c → (t : Bool) → is_online_in c.state ≡ t
          → is_over_state false c.state ≡ true
      by_state c among false e = offline c.state e
      by_state c among true e =
          let at = in_filter (λ (x : Chunk). is_online_in x.state) (chunks_of (known_image i (log_of w)) o.line) c among e in
          let its = split_then (chunk_in (known_image i (log_of w)) o.line) (slice_get us at.0) c
          (sym (line_units_chunks (known_image i (log_of w)) o.line at.0) ∙ at.1) in
          ap (is_over_state false) (full_chunk at.0 its.0 c landed its.1 its.2)

  pub over_is : are_over i (log_of w) o.line ≡ have_landed (log_of w 0) o (line_end i.shape o / i.shape.ws_opt)
  over_is = same_tests (are_over i (log_of w) o.line) (have_landed log o (line_end i.shape o / n)) over_landed landed_over

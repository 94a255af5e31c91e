-- The start record of a line, by the stripes of its last opening: none but the opening's own is
-- whole in it, and that one is once its stripes have landed.
use Rattle.std.proofs.Common.{◌≡◌, ℕ, ◌+◌, ◌-◌, ◌*◌, ◌/◌, ◌%◌, ◌^◌, ◌<◌, ◌≤◌, ◌⊎◌, inl, inr, nat_le, zero, suc, true, Some, None, Option, List, [], ◌∷◌, ◌++◌, length, take, drop, replicate, refl, sym, subst, ap, ◌∙◌, arith, length-drop}
use Rattle.std.specs.Prelude.{slice_get, slice_range}
use Rattle.std.specs.List.{AllByRecursion, Contains, flat_map}
use Rattle.std.specs.Option.{option_and_then}
use Rattle.std.proofs.lemmas.Bool.{cases_lt}
use Rattle.std.proofs.lemmas.List.{take-append-drop}
use Rattle.std.proofs.lemmas.Option.{same_Some, slice_get_within}
use Rattle.std.proofs.Math.Nat.{div-add-mod, lt_of_mul-lt-mul_right, mod-lt, mul-mod_left}
use Rattle.pblk_model.specs.declared.shape.Shape.{Shape}
use Rattle.pblk_model.specs.declared.chunk.Mark.{Mark}
use Rattle.pblk_model.specs.Blocks.{blocks_of}
use Rattle.pblk_model.specs.Chunk.{Block}
use Rattle.pblk_model.specs.Shape.{units}
use Rattle.pblk_model.specs.LineOrder.{start_len}
use Rattle.pblk_model.specs.Marks.{meta_lba, meta_mark, pad_block, pad_lba}
use Rattle.pblk_model.specs.Image.{Image, block_at, width}
use Rattle.pblk_model.specs.StartRecord.{StartRecord, read_start, start_bytes, start_fits, start_of}
use Rattle.pblk_laws.specs.LineBlocks.{written_at}
use Rattle.pblk_laws.specs.StartBlocks.{AreStart}
use Rattle.pblk_laws.proofs.Starts.{fields_fit, found, found_is, marked, read_back, start_bytes_length}
use Rattle.pblk_world.specs.Events.{Logged}
use Rattle.pblk_world.specs.World.{World, Logs, log_of, media}
use Rattle.pblk_world.specs.EngineLog.{Answer, DidLand, WasLost, Opening, Opened, life_of, Placed, stripes_of, has_landed, is_land, is_loss, answer_of, was_lost}
use Rattle.pblk_world.specs.Lines.{known_image, place_of}
use Rattle.pblk_world.specs.Placing.{IsNext, IsPad, end_address, next_address, start_blocks, stripe_at}
use Rattle.pblk_world.specs.Starts.{has_landed_start, have_landed, start_stripes}
use Rattle.pblk_world.specs.Victims.{engine_prefix}
use Rattle.pblk_world.proofs.PlacingLemmas.{length_record}
use Rattle.pblk_model.proofs.Lists.{all_replicated, length_replicate}
use Rattle.pblk_model.proofs.Options.{split_then}
use Rattle.pblk_model.proofs.Parts.{all_at, all_get, get_dropped, get_past, get_taken, got_within, is_in, same_lists}
use Rattle.pblk_model.proofs.Tests.{second_of}
use Rattle.pblk_world.specs.LegalMounts.{IsLegalMount}
use Rattle.world_laws.proofs.Stripes.{stripe_is}
use Rattle.world_laws.proofs.FoundEmpty.{all_pass}
use Rattle.world_laws.proofs.LineAddresses.{place_within, same_place}
use Rattle.world_laws.proofs.LineBlocks.{IsLineOf, IsStripeBlock, block_placed, landed_written, one_address, opened_line}
use Rattle.world_laws.proofs.LineStripes.{IsKind, IsLostBefore, before, data_behind_start, enough_placed, lost_before, start_whole, stripe_count, stripe_kind, turn_of_stripe}

-- ---- lists

pub get_range : {X : Type 0} (xs : List X) (a b k : ℕ) → k < b - a → slice_get (slice_range xs a b) k ≡ slice_get xs (a + k)
get_range xs a b k below = get_taken (b - a) (drop a xs) k below ∙ get_dropped a xs k

-- a block of a record of which the stripes are parts
pub part_get : (s : Shape) (blocks : List Block) (begins a k : ℕ) → k < s.ws_opt → slice_get (stripe_at s blocks begins a) k ≡ slice_get blocks (a - begins + k)
part_get s blocks begins a k inside = get_range blocks (a - begins) (a - begins + s.ws_opt) k (omega arith)

-- the bytes and the marks of a record's blocks
pub cut_bytes : (size : ℕ) (bytes : List ℕ) (marks : List Mark) → length bytes ≡ length marks * size
    → flat_map (λ (b : Block). b.sector) (blocks_of size bytes marks) ≡ bytes
cut_bytes size [] [] long = refl
cut_bytes size (x ∷ bytes) [] long = absurd (omega arith)
cut_bytes size bytes (m ∷ marks) long =
    let left : length (drop size bytes) ≡ length bytes - size = length-drop size bytes in
    let more : suc (length marks) * size ≡ size + length marks * size = omega arith in
    ap (λ ys. take size bytes ++ ys) (cut_bytes size (drop size bytes) marks (omega arith)) ∙ take-append-drop size bytes

pub cut_marks : (size n : ℕ) (bytes : List ℕ) (m : Mark) → AllByRecursion (λ (b : Block). b.mark ≡ m) (blocks_of size bytes (replicate n m))
cut_marks size zero bytes m = tt
cut_marks size (suc n) bytes m = (refl, cut_marks size n (drop size bytes) m)

-- pads aren't blocks of a record
pub no_pad : (s : Shape) (seq : ℕ) (b : Block) → b ≡ pad_block s → b.mark ≡ meta_mark seq → ⊥
no_pad s seq b pad is = let same : pad_lba ≡ meta_lba = ap (λ (x : Block). x.mark.lba) (sym pad) ∙ ap (λ (m : Mark). m.lba) is in absurd (omega arith)

pub pad_is : (i : Image) (logs : Logs) (o : Opening) (p : Placed) (index : ℕ) (b : Block) → IsPad i logs o p.stripe → slice_get p.stripe.blocks index ≡ Some b
    → b ≡ pad_block i.shape
pad_is i logs o p index b h is =
    let pad : Block = pad_block i.shape in
    all_get (λ (c : Block). c ≡ pad) (replicate i.shape.ws_opt pad) index b (all_replicated (λ (c : Block). c ≡ pad) i.shape.ws_opt pad refl)
    (ap (λ (bs : List Block). slice_get bs index) (sym h.blocks) ∙ is)

some_pair : (p : Option (ℕ × ℕ)) (x u y k : ℕ) → p ≡ Some (x, y) → u ≡ x → y ≡ k → p ≡ Some (u, k)
some_pair p x u y k is a b = cc

-- ---- a block at an address of the line

module _ (i : Image) (w : World) (mount : IsLegalMount i w) (o : Opening) (line : IsLineOf i w o) where
  abbrev log : List Logged
  log = log_of w 0

  abbrev now : Image
  now = media i (log_of w)

  -- it is that block of a stripe
  pub record IsAt (a : ℕ) (block : Block) : Type 0 where
    pub placed : Placed
    pub there : Contains (stripes_of (log_of w 0) o) placed
    pub index : ℕ
    pub within : index < i.shape.ws_opt
    pub is_block : slice_get placed.stripe.blocks index ≡ Some block
    pub place : place_of (media i (log_of w)) o.line a ≡ Some (placed.stripe.unit, placed.stripe.at + index)
    pub kind : IsKind i (engine_prefix placed.number (log_of w)) o placed.stripe

  pub is_at : (a : ℕ) (block : Block) → block_at (media i (log_of w)) o.line a ≡ Some block → IsAt a block
  is_at a block written =
      let at = split_then (written_at now o.line) (place_of now o.line a) block (sym (block_placed now o.line a) ∙ written) in
      let s : IsStripeBlock log o at.0.0 at.0.1 block = line.blocks at.0.0 at.0.1 block at.2 in
      let inside : s.index < length s.placed.stripe.blocks = slice_get_within s.placed.stripe.blocks s.index block s.is_block in
      let count : length s.placed.stripe.blocks ≡ i.shape.ws_opt = stripe_count i w o s.placed mount.accepted mount.legal line.opened s.there in
      record {
        placed = s.placed;
        there = s.there;
        index = s.index;
        within = omega arith;
        is_block = s.is_block;
        place = some_pair (place_of now o.line a) at.0.0 s.placed.stripe.unit at.0.1 (s.placed.stripe.at + s.index) at.1 s.on s.place;
        kind = stripe_kind i w o s.placed mount.legal line.opened s.there;
      }

  -- a stripe in line order stands at the address that was the next one
  pub in_order_at : (p : Placed) (index : ℕ) → Contains (stripes_of (log_of w 0) o) p → IsNext i (engine_prefix p.number (log_of w)) o p.stripe
      → index < i.shape.ws_opt
      → place_of (media i (log_of w)) o.line (before (log_of w 0) o p.number * i.shape.ws_opt + index) ≡ Some (p.stripe.unit, p.stripe.at + index)
  in_order_at p index there next within =
      let first : ℕ = before log o p.number * i.shape.ws_opt in
      let its = stripe_is i w o p mount.legal line.opened there in
      place_within now o.line p.stripe.unit p.stripe.at first index mount.accepted.drive.ws_opt
      (mul-mod_left (before log o p.number) i.shape.ws_opt)
      (sym (same_place (known_image i (engine_prefix p.number (log_of w))) now o.line first refl (line.units p there))
      ∙ ap (λ l. place_of (known_image i (engine_prefix p.number (log_of w))) l first) (sym its.3) ∙ next.in_order) within

  pub address_of_next : (a : ℕ) (block : Block) (h : IsAt a block) → IsNext i (engine_prefix h.placed.number (log_of w)) o h.placed.stripe
      → a ≡ before (log_of w 0) o h.placed.number * i.shape.ws_opt + h.index
  address_of_next a block h next =
      one_address now o.line a (before log o h.placed.number * i.shape.ws_opt + h.index) h.placed.stripe.unit (h.placed.stripe.at + h.index)
      mount.accepted.drive.ws_opt h.place (in_order_at h.placed h.index h.there next h.within)

  pub next_written : (p : Placed) (index : ℕ) (block : Block) → Contains (stripes_of (log_of w 0) o) p
      → IsNext i (engine_prefix p.number (log_of w)) o p.stripe → index < i.shape.ws_opt
      → written_at (media i (log_of w)) o.line (p.stripe.unit, p.stripe.at + index) ≡ Some block
      → block_at (media i (log_of w)) o.line (before (log_of w 0) o p.number * i.shape.ws_opt + index) ≡ Some block
  next_written p index block there next within written =
      block_placed now o.line (before log o p.number * i.shape.ws_opt + index)
      ∙ ap (option_and_then (written_at now o.line)) (in_order_at p index there next within) ∙ written

  -- ---- a start record in it

  -- a block with a record's mark at the front is that block of the opening's start record
  start_block : (a seq : ℕ) (block : Block) → a < start_len i.shape → block_at (media i (log_of w)) o.line a ≡ Some block → block.mark ≡ meta_mark seq
      → slice_get (start_blocks i.shape o) a ≡ Some block
  start_block a seq block low written meta = go (is_at a block written)
    where
      go : IsAt a block → slice_get (start_blocks i.shape o) a ≡ Some block
      go h = by h.kind
        where
          by : IsKind i (engine_prefix h.placed.number (log_of w)) o h.placed.stripe → slice_get (start_blocks i.shape o) a ≡ Some block
          by (inl x) =
              let first : ℕ = before log o h.placed.number * i.shape.ws_opt in
              let at : a ≡ first + h.index = address_of_next a block h x.next in
              let same : first - 0 + h.index ≡ a = omega arith in
              ap (slice_get (start_blocks i.shape o)) (sym same) ∙ sym (part_get i.shape (start_blocks i.shape o) 0 first h.index h.within)
              ∙ ap (λ (bs : List Block). slice_get bs h.index) (sym x.blocks) ∙ h.is_block
          by (inr (inl x)) =
              let at : a ≡ before log o h.placed.number * i.shape.ws_opt + h.index = address_of_next a block h x.next in
              let past : start_len i.shape ≤ next_address i.shape (take h.placed.number log) o =
              data_behind_start i (engine_prefix h.placed.number (log_of w)) o h.placed.stripe mount.accepted.drive.ws_opt x in
              absurd (omega arith)
          by (inr (inr (inl x))) =
              let at : a ≡ before log o h.placed.number * i.shape.ws_opt + h.index = address_of_next a block h x.next in
              let past : end_address i.shape o ≤ next_address i.shape (take h.placed.number log) o = x.from in
              absurd (omega arith)
          by (inr (inr (inr x))) =
              absurd (no_pad i.shape seq block (pad_is i (engine_prefix h.placed.number (log_of w)) o h.placed h.index block x h.is_block) meta)

  module _ (fits : start_fits i.shape o.line o.start.width o.start ≡ true) (narrow : o.start.width ≤ units i.shape) (in_range : o.line < i.shape.chunks) where
    narrow_number : o.start.width < 2 ^ 32
    narrow_number = let most : units i.shape ≤ 64 = mount.accepted.drive.few_units in omega arith

    bytes_of_start : flat_map (λ (b : Block). b.sector) (start_blocks i.shape o) ≡ start_bytes i.shape o.start
    bytes_of_start =
        let long : length (start_bytes i.shape o.start) ≡ start_len i.shape * i.shape.sector =
        start_bytes_length i.shape o.line o.start.width o.start mount.accepted fits in
        cut_bytes i.shape.sector (start_bytes i.shape o.start) (replicate (start_len i.shape) (meta_mark o.start.seq))
        (long ∙ ap (λ n. n * i.shape.sector) (sym (length_replicate (start_len i.shape) (meta_mark o.start.seq))))

    reads_start : read_start i.shape o.line (width (media i (log_of w)) o.line) (start_bytes i.shape o.start) ≡ Some o.start
    reads_start = ap (λ g. read_start i.shape o.line g (start_bytes i.shape o.start)) (sym line.width_is)
        ∙ read_back i.shape o.line o.start.width o.start (fields_fit i.shape o.line o.start.width o.start mount.accepted in_range narrow_number fits) fits

    -- no other start record is whole in the line
    pub one_start : (r : StartRecord) → start_of (media i (log_of w)) o.line ≡ Some r → r ≡ o.start
    one_start r whole =
        let from = found_is now o.line r whole in
        let are : AreStart now o.line r from.1 = from.2 in
        let count : length from.1 ≡ start_len i.shape = are.count in
        let record_count : length (start_blocks i.shape o) ≡ start_len i.shape =
        length_record i.shape o.start.seq (start_len i.shape) (start_bytes i.shape o.start) in
        let blocks : from.1 ≡ start_blocks i.shape o = same_lists from.1 (start_blocks i.shape o) (λ k. each from.1 are k (cases_lt k (start_len i.shape))) in
        let same_bytes : start_bytes i.shape r ≡ start_bytes i.shape o.start =
        sym are.bytes ∙ ap (flat_map (λ (b : Block). b.sector)) blocks ∙ bytes_of_start in
        let number : width now o.line < 2 ^ 32 = subst (λ n. n < 2 ^ 32) line.width_is narrow_number in
        same_Some r o.start (sym (read_back i.shape o.line (width now o.line) r
        (fields_fit i.shape o.line (width now o.line) r mount.accepted in_range number from.0) from.0)
        ∙ ap (read_start i.shape o.line (width now o.line)) same_bytes ∙ reads_start)
      where
        each : (blocks : List Block) → AreStart (media i (log_of w)) o.line r blocks → (k : ℕ) → (k < start_len i.shape) ⊎ (start_len i.shape ≤ k)
            → slice_get blocks k ≡ slice_get (start_blocks i.shape o) k
        each blocks are k (inl below) =
            let count : length blocks ≡ start_len i.shape = are.count in
            let at = got_within blocks k (omega arith) in
            at.1
            ∙ sym (start_block k r.seq at.0 below (are.written k below ∙ at.1)
            (all_at (λ (b : Block). b.mark ≡ meta_mark r.seq) blocks k at.0 at.1 are.marks))
        each blocks are k (inr past) =
            let count : length blocks ≡ start_len i.shape = are.count in
            let record_count : length (start_blocks i.shape o) ≡ start_len i.shape =
            length_record i.shape o.start.seq (start_len i.shape) (start_bytes i.shape o.start) in
            get_past blocks k (omega arith) ∙ sym (get_past (start_blocks i.shape o) k (omega arith))

-- ---- the start record of a line that is opened

pub never_both : (log : List Logged) (p : Placed) → has_landed log p ≡ true → was_lost log p ≡ true → ⊥
never_both log p landed lost = go (answer_of log p) landed lost
  where
    go : (a : Option Answer) → is_land a ≡ true → is_loss a ≡ true → ⊥
    go None is lost = absurd cc
    go (Some (DidLand number)) is lost = absurd cc
    go (Some (WasLost number)) is lost = absurd cc

-- so many first stripes have landed
pub landed_of : (log : List Logged) (o : Opening) (count k : ℕ) → have_landed log o count ≡ true → k < count
    → (p : Placed) × (slice_get (stripes_of log o) k ≡ Some p) × (has_landed log p ≡ true)
landed_of log o count k h below =
    let enough : count ≤ length (stripes_of log o) = enough_placed log o count h in
    let at = got_within (stripes_of log o) k (omega arith) in (
      at.0,
      at.1,
      all_pass (has_landed log) (take count (stripes_of log o)) k at.0 (second_of (nat_le count (length (stripes_of log o))) _ h)
          (get_taken count (stripes_of log o) k below ∙ at.1),
    )

module _ (i : Image) (w : World) (mount : IsLegalMount i w) (o : Opening) (is_open : life_of (log_of w 0) o.line ≡ Opened o) where
  abbrev its_log : List Logged
  its_log = log_of w 0

  its : IsLineOf i w o
  its = opened_line i w mount o is_open

  start_written : (k : ℕ) → has_landed_start i.shape (log_of w 0) o ≡ true → k < start_len i.shape
      → block_at (media i (log_of w)) o.line k ≡ slice_get (start_blocks i.shape o) k
  start_written k landed below =
      let n : ℕ = i.shape.ws_opt in
      let some : 0 < i.shape.ws_opt = mount.accepted.drive.ws_opt in
      let parts : n * (k / n) + k % n ≡ k = div-add-mod k n in
      let whole : start_len i.shape ≡ start_stripes i.shape * n = start_whole i.shape some in
      let low : k / n * n < start_stripes i.shape * n = omega arith in
      let at = landed_of its_log o (start_stripes i.shape) (k / n) landed (lt_of_mul-lt-mul_right n low) in
      let there : Contains (stripes_of its_log o) at.0 = is_in (stripes_of its_log o) (k / n) at.0 at.1 in
      let turn : before its_log o at.0.number ≡ k / n = turn_of_stripe its_log o (k / n) at.0 at.1 in
      let count : length at.0.stripe.blocks ≡ n = stripe_count i w o at.0 mount.accepted mount.legal its.opened there in
      let inside : k % n < n = mod-lt k some in
      let b = got_within at.0.stripe.blocks (k % n) (omega arith) in
      let here : k / n * n + k % n ≡ k = omega arith in
      by at.0 there turn (landed_written i w mount o is_open at.0 (k % n) b.0 there at.2 b.1) b.1 inside here
      (stripe_kind i w o at.0 mount.legal its.opened there)
    where
      by : (p : Placed) (there : Contains (stripes_of (log_of w 0) o) p) → before (log_of w 0) o p.number ≡ k / i.shape.ws_opt → {b : Block}
          → written_at (media i (log_of w)) o.line (p.stripe.unit, p.stripe.at + k % i.shape.ws_opt) ≡ Some b
          → slice_get p.stripe.blocks (k % i.shape.ws_opt) ≡ Some b → k % i.shape.ws_opt < i.shape.ws_opt
          → k / i.shape.ws_opt * i.shape.ws_opt + k % i.shape.ws_opt ≡ k
          → IsKind i (engine_prefix p.number (log_of w)) o p.stripe → block_at (media i (log_of w)) o.line k ≡ slice_get (start_blocks i.shape o) k
      by p there turn {b} written is inside here (inl x) =
          let first : ℕ = before its_log o p.number * i.shape.ws_opt in
          let at : first + k % i.shape.ws_opt ≡ k = ap (λ j. j * i.shape.ws_opt + k % i.shape.ws_opt) turn ∙ here in
          let index : first - 0 + k % i.shape.ws_opt ≡ k = omega arith in
          ap (block_at (media i (log_of w)) o.line) (sym at) ∙ next_written i w mount o its p (k % i.shape.ws_opt) b there x.next inside written
          ∙ sym is ∙ ap (λ (bs : List Block). slice_get bs (k % i.shape.ws_opt)) x.blocks
          ∙ part_get i.shape (start_blocks i.shape o) 0 first (k % i.shape.ws_opt) inside ∙ ap (slice_get (start_blocks i.shape o)) index
      by p there turn {b} written is inside here (inr (inl x)) =
          let past : start_len i.shape ≤ before its_log o p.number * i.shape.ws_opt =
          data_behind_start i (engine_prefix p.number (log_of w)) o p.stripe mount.accepted.drive.ws_opt x in
          let at : before its_log o p.number * i.shape.ws_opt ≡ k / i.shape.ws_opt * i.shape.ws_opt = ap (λ j. j * i.shape.ws_opt) turn in
          absurd (omega arith)
      by p there turn {b} written is inside here (inr (inr (inl x))) =
          let past : end_address i.shape o ≤ before its_log o p.number * i.shape.ws_opt = x.from in
          let at : before its_log o p.number * i.shape.ws_opt ≡ k / i.shape.ws_opt * i.shape.ws_opt = ap (λ j. j * i.shape.ws_opt) turn in
          absurd (omega arith)
      by p there turn {b} written is inside here (inr (inr (inr x))) =
          let lost : IsLostBefore its_log o p.number = lost_before its_log o p.number x.failed in
          let early : lost.turn < before its_log o p.number = lost.early in
          let whole : start_len i.shape ≡ start_stripes i.shape * i.shape.ws_opt = start_whole i.shape mount.accepted.drive.ws_opt in
          let low : k / i.shape.ws_opt * i.shape.ws_opt < start_stripes i.shape * i.shape.ws_opt = omega arith in
          let row : k / i.shape.ws_opt < start_stripes i.shape = lt_of_mul-lt-mul_right i.shape.ws_opt low in
          let at = landed_of its_log o (start_stripes i.shape) lost.turn landed (omega arith) in
          let same : at.0 ≡ lost.placed = same_Some at.0 lost.placed (sym at.1 ∙ lost.there) in
          absurd (never_both its_log at.0 at.2 (ap (was_lost its_log) same ∙ lost.lost))

  -- it is whole once its stripes have landed
  pub start_stands : start_fits i.shape o.line o.start.width o.start ≡ true → o.start.width ≤ units i.shape → o.line < i.shape.chunks
      → has_landed_start i.shape (log_of w 0) o ≡ true → start_of (media i (log_of w)) o.line ≡ Some o.start
  start_stands fits narrow in_range landed =
      found (media i (log_of w)) o.line o.start (start_blocks i.shape o)
      (length_record i.shape o.start.seq (start_len i.shape) (start_bytes i.shape o.start)) (λ k below. start_written k landed below)
      (ap (read_start i.shape o.line (width (media i (log_of w)) o.line)) (bytes_of_start i w mount o its fits narrow in_range)
      ∙ reads_start i w mount o its fits narrow in_range)
      (marked o.start.seq (start_blocks i.shape o) (cut_marks i.shape.sector (start_len i.shape) (start_bytes i.shape o.start) (meta_mark o.start.seq)))

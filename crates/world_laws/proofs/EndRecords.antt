-- The end record of an opened line, where it is whole: all stripes of the line stand, so no chunk
-- of it is Open, and the pairs are the marks of its data blocks.
use Rattle.std.proofs.Common.{◌≡◌, ◌≢◌, ℕ, ◌+◌, ◌-◌, ◌*◌, ◌/◌, ◌%◌, ◌<◌, ◌≤◌, ◌⊎◌, inl, inr, zero, suc, true, None, Some, Option, List, [], ◌∷◌, ◌++◌, length, take, drop, replicate, sym, subst, ap, ap₂, ◌∙◌, arith, length-append, length-drop, length-take}
use Rattle.std.specs.Prelude.{map, slice_get, slice_range}
use Rattle.std.specs.List.{AllByRecursion, Contains, flat_map}
use Rattle.std.specs.Option.{option_and_then}
use Rattle.std.proofs.Math.Nat.{div-add-mod, le_of_mul-le-mul_right, lt_of_mul-lt-mul_right, mod-lt, mul-div_cancel, mul-le-mul_right}
use Rattle.std.proofs.lemmas.Bool.{cases_lt}
use Rattle.std.proofs.lemmas.Grind.{flat_map-append}
use Rattle.std.proofs.lemmas.List.{drop-append-le, length-map, take-append-le}
use Rattle.std.proofs.lemmas.Option.{none-some, same_Some, slice_get_within}
use Rattle.pblk_model.specs.declared.shape.Shape.{Shape}
use Rattle.pblk_model.specs.declared.chunk.ChunkState.{ChunkState}
use Rattle.pblk_model.specs.declared.chunk.ChunkState.TheVariants as states
use Rattle.pblk_model.specs.declared.chunk.Mark.{Mark}
use Rattle.pblk_model.specs.Chunk.{Block, Chunk, IsBlock, IsChunk, PointerFits}
use Rattle.pblk_model.specs.EndRecord.{EndRecord, end_bytes, end_of, read_end}
use Rattle.pblk_model.specs.Image.{Image, IsFit, block_at, line_chunks, line_units, width}
use Rattle.pblk_model.specs.LineOrder.{address_of, block_of, column_of, data_len, end_len, start_len}
use Rattle.pblk_model.specs.Marks.{meta_mark}
use Rattle.pblk_model.specs.Sealed.{AgreesWithLine}
use Rattle.pblk_model.specs.StartRecord.{StartRecord}
use Rattle.pblk_model.proofs.LeastLengths.{end_len_least, sector_at_least}
use Rattle.pblk_model.proofs.LineOrder.{address_below, block_back, chunk_back}
use Rattle.pblk_model.proofs.LineOrderLemmas.{whole_line}
use Rattle.pblk_laws.specs.EndBlocks.{AreEnd, FitsBytes, IsEndOf, IsEndRecord}
use Rattle.pblk_laws.specs.LineBlocks.{chunk_in, written_at}
use Rattle.pblk_laws.proofs.EndSpelling.{end_bytes_length, end_written, read_end_back}
use Rattle.pblk_laws.proofs.LineBlocksLemmas.{chunk_fits}
use Rattle.pblk_laws.proofs.LineUnits.{line_units_chunks}
use Rattle.pblk_world.specs.Events.{Logged}
use Rattle.pblk_world.specs.World.{World, log_of, media}
use Rattle.pblk_world.specs.EngineLog.{Opened, Opening, Placed, has_landed, is_life, life_of, placements, stripes_of, was_lost}
use Rattle.pblk_world.specs.Lines.{place_of}
use Rattle.pblk_world.specs.Placing.{IsEnd, IsNext, data_marks, end_address, end_blocks, end_record, record_blocks}
use Rattle.pblk_world.specs.Starts.{start_stripes}
use Rattle.pblk_world.specs.Victims.{engine_prefix}
use Rattle.pblk_world.proofs.PlacingLemmas.{length_record}
use Rattle.pblk_model.proofs.Lists.{length_replicate}
use Rattle.pblk_model.proofs.Maps.{from_filter, get_mapped}
use Rattle.pblk_model.proofs.Options.{split_then}
use Rattle.pblk_model.proofs.Parts.{all_at, all_by_get, contained_among, get_more, get_past, get_rest, got_within, is_in, same_lists, take_and_drop}
use Rattle.world_laws.proofs.FitMedia.{media_fit}
use Rattle.pblk_world.specs.LegalMounts.{IsLegalMount}
use Rattle.world_laws.proofs.Later.{landed_later, placed_within}
use Rattle.world_laws.proofs.LineBlocks.{IsLineOf, block_placed, landed_written, opened_line}
use Rattle.world_laws.proofs.LineStarts.{IsAt, address_of_next, cut_bytes, cut_marks, get_range, is_at, landed_of, never_both, next_written, no_pad, pad_is, part_get}
use Rattle.world_laws.proofs.NumberedLists.{joined_count}
use Rattle.world_laws.proofs.LineStripes.{IsKind, IsLostBefore, IsSplit, before, enough_placed, lost_before, next_fits, some_data, start_whole, stripe_count, stripe_kind, stripe_then, stripes_split, turn_of_stripe}

-- ---- lists

-- an element of one of the parts, where each has as many
piece_at : {X Y : Type 0} (f : X → List Y) (m : ℕ) (xs : List X) (j k : ℕ) (x : X) (y : Y) → AllByRecursion (λ z. length (f z) ≡ m) xs
    → slice_get xs j ≡ Some x → slice_get (f x) k ≡ Some y → slice_get (flat_map f xs) (j * m + k) ≡ Some y
piece_at f m [] j k x y all there is = absurd (none-some x there)
piece_at {X} {Y} f m (z ∷ xs) zero k x y all there is =
    let first : 0 * m + k ≡ k = omega arith in
    ap (slice_get (f z ++ flat_map f xs)) first ∙ get_more (f z) (flat_map f xs) k y (ap (λ (u : X). slice_get (f u) k) (same_Some z x there) ∙ is)
piece_at f m (z ∷ xs) (suc j) k x y all there is =
    let far : suc j * m + k ≡ m + (j * m + k) = omega arith in
    ap (slice_get (f z ++ flat_map f xs)) far ∙ get_rest (f z) (flat_map f xs) m (j * m + k) all.0 ∙ piece_at f m xs j k x y all.1 there is

-- a part of a list is one of a longer list
pub part_of_front : {X : Type 0} (xs ys : List X) (a b : ℕ) → a ≤ b → b ≤ length xs → slice_range (xs ++ ys) a b ≡ slice_range xs a b
part_of_front xs ys a b order inside =
    ap (take (b - a)) (drop-append-le a xs ys (omega arith))
    ∙ take-append-le (b - a) (drop a xs) ys (let left : length (drop a xs) ≡ length xs - a = length-drop a xs in omega arith)

-- a number that a multiple makes up to a multiple is one
rest_whole : (n a k m : ℕ) → 0 < n → a + k * n ≡ m * n → a ≡ a / n * n
rest_whole n a k m some e =
    let few : k ≤ m = le_of_mul-le-mul_right {m = k} {n = m} {k = n} (omega arith) some in
    let far : m ≡ k + (m - k) = omega arith in
    let parts : (k + (m - k)) * n ≡ k * n + (m - k) * n = omega arith in
    let all : m * n ≡ k * n + (m - k) * n = ap (λ x. x * n) far ∙ parts in
    let whole : a ≡ (m - k) * n = omega arith in
    whole ∙ ap (λ x. x * n) (sym (ap (λ x. x / n) whole ∙ mul-div_cancel (m - k) some))

module _ (i : Image) (w : World) (mount : IsLegalMount i w) (o : Opening) (is_open : life_of (log_of w 0) o.line ≡ Opened o) where
  abbrev log : List Logged
  log = log_of w 0

  abbrev now : Image
  now = media i (log_of w)

  abbrev s : Shape
  s = i.shape

  abbrev ends : ℕ
  ends = end_address i.shape o

  some : 0 < i.shape.ws_opt
  some = mount.accepted.drive.ws_opt

  its : IsLineOf i w o
  its = opened_line i w mount o is_open

  -- ---- the three parts of the line

  total : end_address i.shape o + end_len i.shape o.start.width ≡ o.start.width * i.shape.clba
  total = whole_line s o.start.width (some_data i w o mount.legal its.opened)

  ends_whole : end_address i.shape o ≡ end_address i.shape o / i.shape.ws_opt * i.shape.ws_opt
  ends_whole =
      let sector : 512 ≤ s.sector = sector_at_least s mount.accepted in
      let least = (end_len_least s o.start.width mount.accepted.drive.ws_opt (omega arith)).multiple in
      let parts : s.ws_opt * (s.clba / s.ws_opt) + s.clba % s.ws_opt ≡ s.clba = div-add-mod s.clba s.ws_opt in
      let none : s.clba % s.ws_opt ≡ 0 = mount.accepted.drive.whole_stripes in
      let clba : s.clba ≡ s.ws_opt * (s.clba / s.ws_opt) = omega arith in
      let line : o.start.width * s.clba ≡ o.start.width * (s.clba / s.ws_opt) * s.ws_opt = ap (λ n. o.start.width * n) clba ∙ (let same :
      o.start.width * (s.ws_opt * (s.clba / s.ws_opt)) ≡ o.start.width * (s.clba / s.ws_opt) * s.ws_opt = omega arith in same) in
      let turned : s.ws_opt * least.0 ≡ least.0 * s.ws_opt = omega arith in
      let size : end_len s o.start.width ≡ least.0 * s.ws_opt = least.2 ∙ turned in
      rest_whole s.ws_opt (end_address s o) least.0 (o.start.width * (s.clba / s.ws_opt)) some
      (ap (λ n. end_address s o + n) (sym size) ∙ total ∙ line)

  counts : AllByRecursion (λ (p : Placed). length p.stripe.blocks ≡ i.shape.ws_opt) (stripes_of (log_of w 0) o)
  counts = all_by_get (λ (p : Placed). length p.stripe.blocks ≡ s.ws_opt) (stripes_of log o)
      (λ k p there. stripe_count i w o p mount.accepted mount.legal its.opened (is_in (stripes_of log o) k p there))

  -- ---- data that were placed by a length of the log

  pub marks_then : (n : ℕ) → ends / i.shape.ws_opt ≤ length (stripes_of (take n (log_of w 0)) o)
      → data_marks i.shape (take n (log_of w 0)) o ≡ data_marks i.shape (log_of w 0) o
  marks_then n enough =
      let split : IsSplit log o n = stripes_split log o n in
      let blocks : Placed → List Block = λ p. p.stripe.blocks in
      let long : length (flat_map blocks (stripes_of (take n log) o)) ≡ length (stripes_of (take n log) o) * s.ws_opt =
      joined_count blocks s.ws_opt (stripes_of (take n log) o)
      (all_by_get (λ (p : Placed). length p.stripe.blocks ≡ s.ws_opt) (stripes_of (take n log) o)
      (λ k p there. all_at (λ (q : Placed). length q.stripe.blocks ≡ s.ws_opt) (stripes_of log o) k p (stripe_then log o n k p there) counts)) in
      let more : ends / s.ws_opt * s.ws_opt ≤ length (stripes_of (take n log) o) * s.ws_opt = mul-le-mul_right s.ws_opt enough in
      let whole : ends ≡ ends / s.ws_opt * s.ws_opt = ends_whole in
      let inside : ends ≤ length (flat_map blocks (stripes_of (take n log) o)) = omega arith in
      ap (map (λ (b : Block). b.mark))
      (sym (ap (λ (ps : List Placed). slice_range (flat_map blocks ps) (start_len s) ends) split.parts
      ∙ ap (λ (bs : List Block). slice_range bs (start_len s) ends) (flat_map-append blocks (stripes_of (take n log) o) split.more)
      ∙ part_of_front (flat_map blocks (stripes_of (take n log) o)) (flat_map blocks split.more) (start_len s) ends (omega arith) inside))

  -- ---- with a whole end record

  module _ (start : StartRecord) (e : EndRecord) (ended : end_of (media i (log_of w)) o.line start ≡ Some e) where
    are : IsEndOf (media i (log_of w)) o.line start e × (blocks : List Block) × AreEnd (media i (log_of w)) o.line e blocks
    are = end_written now o.line start e ended

    wide : width (media i (log_of w)) o.line ≡ o.start.width
    wide = sym its.width_is

    length_is : length are.1 ≡ end_len i.shape o.start.width
    length_is = are.2.count ∙ ap (end_len s) wide

    record IsEndBlock (k : ℕ) : Type 0 where
      block : Block
      got : slice_get are.1 k ≡ Some block
      written : block_at (media i (log_of w)) o.line (end_address i.shape o + k) ≡ Some block
      mark : block.mark ≡ meta_mark e.seq

    end_block : (k : ℕ) → k < end_len i.shape o.start.width → IsEndBlock k
    end_block k below =
        let at = got_within are.1 k (omega (arith, length_is)) in
        let begins : o.start.width * s.clba - end_len s o.start.width ≡ end_address s o = omega (arith, total) in
        let here : width now o.line * s.clba - end_len s (width now o.line) ≡ end_address s o = ap (λ g. g * s.clba - end_len s g) wide ∙ begins in
        record {
          block = at.0;
          got = at.1;
          written = ap (λ a. block_at now o.line (a + k)) (sym here)
              ∙ are.2.written k (subst (λ g. k < end_len s g) (sym wide) below) ∙ at.1;
          mark = all_at (λ (b : Block). b.mark ≡ meta_mark e.seq) are.1 k at.0 at.1 are.2.marks;
        }

    -- its stripe is one of the end record
    record IsEndStripe (k : ℕ) (block : Block) : Type 0 where
      at : IsAt i w mount o its (end_address i.shape o + k) block
      kind : IsEnd i (engine_prefix at.placed.number (log_of w)) o at.placed.stripe
      address : end_address i.shape o + k ≡ before (log_of w 0) o at.placed.number * i.shape.ws_opt + at.index

    end_stripe : (k : ℕ) (block : Block) → block_at (media i (log_of w)) o.line (end_address i.shape o + k) ≡ Some block → block.mark ≡ meta_mark e.seq
        → IsEndStripe k block
    end_stripe k block written mark = by h.kind
      where
        h : IsAt i w mount o its (end_address i.shape o + k) block
        h = is_at i w mount o its (end_address s o + k) block written

        by : IsKind i (engine_prefix h.placed.number (log_of w)) o h.placed.stripe → IsEndStripe k block
        by (inl x) =
            let at = address_of_next i w mount o its (ends + k) block h x.next in
            let whole : start_len s ≡ start_stripes s * s.ws_opt = start_whole s some in
            let low : before log o h.placed.number * s.ws_opt < start_len s = x.within in
            let fits = next_fits s.ws_opt (before log o h.placed.number) (start_stripes s) (omega arith) in
            let index : h.index < s.ws_opt = h.within in
            absurd (omega (arith, at, fits))
        by (inr (inl x)) =
            let at = address_of_next i w mount o its (ends + k) block h x.next in
            let whole : ends ≡ ends / s.ws_opt * s.ws_opt = ends_whole in
            let low : before log o h.placed.number * s.ws_opt < ends = x.within in
            let fits = next_fits s.ws_opt (before log o h.placed.number) (ends / s.ws_opt) (omega arith) in
            let index : h.index < s.ws_opt = h.within in
            absurd (omega (arith, at, fits))
        by (inr (inr (inl x))) = record { at = h; kind = x; address = address_of_next i w mount o its (ends + k) block h x.next }
        by (inr (inr (inr x))) =
            absurd (no_pad s e.seq block (pad_is i (engine_prefix h.placed.number (log_of w)) o h.placed h.index block x h.is_block) mark)

    some_end : 0 < end_len i.shape o.start.width
    some_end =
        let sector : 512 ≤ s.sector = sector_at_least s mount.accepted in
        let least = (end_len_least s o.start.width mount.accepted.drive.ws_opt (omega arith)).multiple in
        let more : 1 * s.ws_opt ≤ least.0 * s.ws_opt = mul-le-mul_right s.ws_opt least.1 in
        let turned : s.ws_opt * least.0 ≡ least.0 * s.ws_opt = omega arith in
        omega (arith, some, least.2, more, turned)

    -- ---- what comes before the end record has landed

    landed_at : (j : ℕ) → j < end_address i.shape o / i.shape.ws_opt
        → (q : Placed) × (slice_get (stripes_of (log_of w 0) o) j ≡ Some q) × (has_landed (log_of w 0) q ≡ true)
    landed_at j below =
        let b : IsEndBlock 0 = end_block 0 some_end in
        let x : IsEndStripe 0 b.block = end_stripe 0 b.block b.written b.mark in
        let n : ℕ = x.at.placed.number in
        let at = landed_of (take x.at.placed.number log) o (ends / s.ws_opt) j x.kind.data_landed below in
        let placed : Contains (placements (take n log)) at.0 = contained_among (placements (take n log)) at.0
        (from_filter (λ (p : Placed). is_life o.number p.life) (placements (take n log)) at.0 (j, at.1)) in (
          at.0,
          stripe_then log o n j at.0 at.1,
          subst (λ (xs : List Logged). has_landed xs at.0 ≡ true) (take_and_drop n log)
              (landed_later (take n log) (drop n log) at.0 (placed_within (take n log) at.0 placed) at.2),
        )

    record IsFront (a : ℕ) : Type 0 where
      stripe : Placed
      there : slice_get (stripes_of (log_of w 0) o) (a / i.shape.ws_opt) ≡ Some stripe
      block : Block
      is_block : slice_get stripe.stripe.blocks (a % i.shape.ws_opt) ≡ Some block
      written : block_at (media i (log_of w)) o.line a ≡ Some block

    front : (a : ℕ) → a < end_address i.shape o → IsFront a
    front a low =
        let parts : s.ws_opt * (a / s.ws_opt) + a % s.ws_opt ≡ a = div-add-mod a s.ws_opt in
        let whole : ends ≡ ends / s.ws_opt * s.ws_opt = ends_whole in
        let under : a / s.ws_opt * s.ws_opt < ends / s.ws_opt * s.ws_opt = omega arith in
        let row : a / s.ws_opt < ends / s.ws_opt = lt_of_mul-lt-mul_right s.ws_opt under in
        let q = landed_at (a / s.ws_opt) row in
        let there : Contains (stripes_of log o) q.0 = is_in (stripes_of log o) (a / s.ws_opt) q.0 q.1 in
        let count : length q.0.stripe.blocks ≡ s.ws_opt = stripe_count i w o q.0 mount.accepted mount.legal its.opened there in
        let index : a % s.ws_opt < s.ws_opt = mod-lt a some in
        let b = got_within q.0.stripe.blocks (a % s.ws_opt) (omega arith) in
        let turn : before log o q.0.number ≡ a / s.ws_opt = turn_of_stripe log o (a / s.ws_opt) q.0 q.1 in
        let here : before log o q.0.number * s.ws_opt + a % s.ws_opt ≡ a =
        ap (λ j. j * s.ws_opt + a % s.ws_opt) turn ∙ (let same : a / s.ws_opt * s.ws_opt + a % s.ws_opt ≡ a = omega arith in same) in
        record {
          stripe = q.0;
          there = q.1;
          block = b.0;
          is_block = b.1;
          written = ap (block_at now o.line) (sym here)
              ∙ next_written i w mount o its q.0 (a % s.ws_opt) b.0 there (in_order q.0 row turn (stripe_kind i w o q.0 mount.legal its.opened there)) index
              (landed_written i w mount o is_open q.0 (a % s.ws_opt) b.0 there q.2 b.1);
        }
      where
        in_order : (q : Placed) → a / i.shape.ws_opt < end_address i.shape o / i.shape.ws_opt → before (log_of w 0) o q.number ≡ a / i.shape.ws_opt
            → IsKind i (engine_prefix q.number (log_of w)) o q.stripe → IsNext i (engine_prefix q.number (log_of w)) o q.stripe
        in_order q row turn (inl x) = x.next
        in_order q row turn (inr (inl x)) = x.next
        in_order q row turn (inr (inr (inl x))) = x.next
        in_order q row turn (inr (inr (inr x))) =
            let lost : IsLostBefore log o q.number = lost_before log o q.number x.failed in
            let early : lost.turn < before log o q.number = lost.early in
            let at = landed_at lost.turn (omega arith) in
            absurd (never_both log at.0 at.2 (subst (λ (p : Placed). was_lost log p ≡ true) (same_Some lost.placed at.0 (sym lost.there ∙ at.1)) lost.lost))

    -- ---- so all of it is written

    all_written : (a : ℕ) → a < o.start.width * i.shape.clba → (b : Block) × (block_at (media i (log_of w)) o.line a ≡ Some b)
    all_written a inside = by (cases_lt a ends)
      where
        by : (a < ends) ⊎ (ends ≤ a) → (b : Block) × (block_at (media i (log_of w)) o.line a ≡ Some b)
        by (inl low) = let f : IsFront a = front a low in (f.block, f.written)
        by (inr high) =
            let here : ends + (a - ends) ≡ a = omega arith in
            let b : IsEndBlock (a - ends) = end_block (a - ends) (omega (arith, total)) in
            (b.block, ap (block_at now o.line) (sym here) ∙ b.written)

    fit : IsFit (media i (log_of w))
    fit = media_fit i w mount.accepted mount.fit mount.legal

    not_open : (k : ℕ) (c : Chunk) → slice_get (line_chunks (media i (log_of w)) o.line) k ≡ Some c → c.state ≢ states.Open
    not_open k c there opened = by (slice_get (line_units now o.line) k) (sym (line_units_chunks now o.line k) ∙ there)
      where
        open_fits : (state : ChunkState) (n : ℕ) → state ≡ states.Open → PointerFits state i.shape.clba n → n < i.shape.clba
        open_fits states.Free n e fits = absurd cc
        open_fits states.Open n e fits = fits.1
        open_fits states.Closed n e fits = absurd cc
        open_fits states.Offline n e fits = absurd cc

        by : (u : Option ℕ) → option_and_then (chunk_in now o.line) u ≡ Some c → ⊥
        by None is = none-some c is
        by (Some unit) is =
            let fits : IsChunk s c = chunk_fits now o.line unit c fit is in
            let short : length c.blocks < s.clba = open_fits c.state (length c.blocks) opened fits.place in
            let g : ℕ = width now o.line in
            let inside : k < g = slice_get_within (line_chunks now o.line) k c there in
            let whole : s.clba % s.ws_opt ≡ 0 = mount.accepted.drive.whole_stripes in
            let a : ℕ = address_of s g k (length c.blocks) in
            let below : a < g * s.clba = address_below s.ws_opt g s.clba k (length c.blocks) some whole inside short in
            let written = all_written a (subst (λ n. a < n * s.clba) wide below) in
            let column : column_of s g a ≡ k = chunk_back s.ws_opt g k (length c.blocks) some inside in
            let block : block_of s g a ≡ length c.blocks = block_back s.ws_opt g k (length c.blocks) some inside in
            none-some written.0 (sym (get_past c.blocks (length c.blocks) (omega arith))
            ∙ sym (ap₂ (λ x y. option_and_then (λ (z : Chunk). slice_get z.blocks y) (slice_get (line_chunks now o.line) x)) column block
            ∙ ap (option_and_then (λ (z : Chunk). slice_get z.blocks (length c.blocks))) there) ∙ written.1)

    -- ---- the pairs

    abbrev its_record : EndRecord
    its_record = end_record i.shape (log_of w 0) o

    -- the blocks of the record are those of the opening's own
    own_block : (k : ℕ) → k < end_len i.shape o.start.width → slice_get are.1 k ≡ slice_get (end_blocks i.shape (log_of w 0) o) k
    own_block k below =
        let b : IsEndBlock k = end_block k below in
        let x : IsEndStripe k b.block = end_stripe k b.block b.written b.mark in
        let n : ℕ = x.at.placed.number in
        let enough : ends / s.ws_opt ≤ length (stripes_of (take n log) o) = enough_placed (take n log) o (ends / s.ws_opt) x.kind.data_landed in
        let marks : data_marks s (take n log) o ≡ data_marks s log o = marks_then n enough in
        let blocks : end_blocks s (take n log) o ≡ end_blocks s log o =
        ap (λ ms. record_blocks s o.start.seq (end_len s o.start.width)
        (end_bytes s (record { line = o.line; width = o.start.width; seq = o.start.seq; pairs = ms }))) marks in
        let from : ends ≤ before log o n * s.ws_opt = x.kind.from in
        let index : before log o n * s.ws_opt - ends + x.at.index ≡ k = omega (arith, x.address) in
        b.got ∙ sym (ap (slice_get (end_blocks s log o)) (sym index) ∙ ap (λ bs. slice_get bs (before log o n * s.ws_opt - ends + x.at.index)) (sym blocks)
        ∙ sym (part_get s (end_blocks s (take n log) o) ends (before log o n * s.ws_opt) x.at.index x.at.within)
        ∙ ap (λ (bs : List Block). slice_get bs x.at.index) (sym x.kind.blocks) ∙ x.at.is_block)

    own_blocks : are.1 ≡ end_blocks i.shape (log_of w 0) o
    own_blocks = same_lists are.1 (end_blocks s log o) (λ k. by k (cases_lt k (end_len s o.start.width)))
      where
        by : (k : ℕ) → (k < end_len i.shape o.start.width) ⊎ (end_len i.shape o.start.width ≤ k)
            → slice_get are.1 k ≡ slice_get (end_blocks i.shape (log_of w 0) o) k
        by k (inl below) = own_block k below
        by k (inr past) =
            let long : length (end_blocks s log o) ≡ end_len s o.start.width = length_record s o.start.seq (end_len s o.start.width) (end_bytes s its_record) in
            get_past are.1 k (omega (arith, length_is)) ∙ sym (get_past (end_blocks s log o) k (omega arith))

    -- the pair at a data address is the mark placed there
    pair_at : (k : ℕ) → k < data_len i.shape o.start.width → (f : IsFront (start_len i.shape + k)) → slice_get its_record.pairs k ≡ Some f.block.mark
    pair_at k below f =
        let a : ℕ = start_len s + k in
        let blocks : Placed → List Block = λ p. p.stripe.blocks in
        let parts : s.ws_opt * ((start_len s + k) / s.ws_opt) + (start_len s + k) % s.ws_opt ≡ start_len s + k = div-add-mod (start_len s + k) s.ws_opt in
        let here : (start_len s + k) / s.ws_opt * s.ws_opt + (start_len s + k) % s.ws_opt ≡ start_len s + k = omega arith in
        get_mapped (λ (b : Block). b.mark) (slice_range (flat_map blocks (stripes_of log o)) (start_len s) ends) k f.block
        (get_range (flat_map blocks (stripes_of log o)) (start_len s) ends k (omega arith)
        ∙ ap (slice_get (flat_map blocks (stripes_of log o))) (sym here)
        ∙ piece_at blocks s.ws_opt (stripes_of log o) ((start_len s + k) / s.ws_opt) ((start_len s + k) % s.ws_opt) f.stripe f.block counts f.there f.is_block)

    fits_bytes : (a : ℕ) (b : Block) → block_at (media i (log_of w)) o.line a ≡ Some b → FitsBytes b.mark
    fits_bytes a b written =
        let at = split_then (written_at now o.line) (place_of now o.line a) b (sym (block_placed now o.line a) ∙ written) in
        let c = split_then (λ (c : Chunk). slice_get c.blocks at.0.1) (chunk_in now o.line at.0.0) b at.2 in
        let fits : IsChunk s c.0 = chunk_fits now o.line at.0.0 c.0 fit c.1 in
        let block : IsBlock s b = all_at (IsBlock s) c.0.blocks at.0.1 b c.2 fits.blocks in
        record { lba = block.lba; position = block.position }

    pairs_length : length its_record.pairs ≡ data_len i.shape o.start.width
    pairs_length =
        let blocks : List Block = flat_map (λ (p : Placed). p.stripe.blocks) (stripes_of log o) in
        let long : length (flat_map (λ (p : Placed). p.stripe.blocks) (stripes_of log o)) ≡ length (stripes_of log o) * s.ws_opt =
        joined_count (λ (p : Placed). p.stripe.blocks) s.ws_opt (stripes_of log o) counts in
        let b : IsEndBlock 0 = end_block 0 some_end in
        let x : IsEndStripe 0 b.block = end_stripe 0 b.block b.written b.mark in
        let before_it : before log o x.at.placed.number ≤ length (stripes_of log o) = fewer x.at.placed.number in
        let more : before log o x.at.placed.number * s.ws_opt ≤ length (stripes_of log o) * s.ws_opt = mul-le-mul_right s.ws_opt before_it in
        let from : ends ≤ before log o x.at.placed.number * s.ws_opt = x.kind.from in
        let mapped : length its_record.pairs ≡ length (slice_range blocks (start_len s) ends) =
        length-map (slice_range blocks (start_len s) ends) (λ (b : Block). b.mark) in
        let left : length (drop (start_len s) blocks) ≡ length blocks - start_len s = length-drop (start_len s) blocks in
        let taken = length-take (ends - start_len s) (drop (start_len s) blocks) in
        omega (arith, mapped, left, taken, long, more, from)
      where
        fewer : (n : ℕ) → before (log_of w 0) o n ≤ length (stripes_of (log_of w 0) o)
        fewer n =
            let split : IsSplit log o n = stripes_split log o n in
            omega (arith, ap length split.parts, length-append (stripes_of (take n log) o) split.more)

    own_fits : IsEndRecord i.shape its_record
    own_fits = record {
      count = pairs_length;
      marks = all_by_get FitsBytes its_record.pairs (λ k m there.
          let inside : k < length its_record.pairs = slice_get_within its_record.pairs k m there in
          let below : k < data_len s o.start.width = omega (arith, pairs_length) in
          let f : IsFront (start_len s + k) = front (start_len s + k) (omega arith) in
          subst FitsBytes (same_Some f.block.mark m (sym (pair_at k below f) ∙ there)) (fits_bytes (start_len s + k) f.block f.written));
    }

    same_seq : e.seq ≡ o.start.seq
    same_seq =
        let b : IsEndBlock 0 = end_block 0 some_end in
        let own : slice_get (end_blocks s log o) 0 ≡ Some b.block = ap (λ (bs : List Block). slice_get bs 0) (sym own_blocks) ∙ b.got in
        ap (λ (m : Mark). m.position) (sym b.mark
        ∙ all_at (λ (x : Block). x.mark ≡ meta_mark o.start.seq) (end_blocks s log o) 0 b.block own
        (cut_marks s.sector (end_len s o.start.width) (end_bytes s its_record) (meta_mark o.start.seq)))

    own_record : e ≡ its_record
    own_record =
        let count : length (end_bytes s its_record) ≡ end_len s o.start.width * s.sector = end_bytes_length s its_record mount.accepted own_fits in
        let spelled : flat_map (λ (b : Block). b.sector) (end_blocks s log o) ≡ end_bytes s its_record =
        cut_bytes s.sector (end_bytes s its_record) (replicate (end_len s o.start.width) (meta_mark o.start.seq))
        (count ∙ ap (λ n. n * s.sector) (sym (length_replicate (end_len s o.start.width) (meta_mark o.start.seq)))) in
        let bytes : end_bytes s e ≡ end_bytes s its_record = sym are.2.bytes ∙ ap (flat_map (λ (b : Block). b.sector)) own_blocks ∙ spelled in
        same_Some e its_record (sym (read_end_back s e are.0.fits)
        ∙ ap₂ (λ l g. read_end s l g e.seq (end_bytes s e)) are.0.line_is (are.0.width_is ∙ wide)
        ∙ ap₂ (λ q bs. read_end s o.line o.start.width q bs) same_seq bytes ∙ read_end_back s its_record own_fits)

    pub agrees : AgreesWithLine (media i (log_of w)) o.line e
    agrees = record {
      closed = all_by_get (λ c. c.state ≢ states.Open) (line_chunks now o.line) not_open;
      marks = λ k b below written.
          let same : length e.pairs ≡ data_len s o.start.width = ap (λ (x : EndRecord). length x.pairs) own_record ∙ pairs_length in
          let f : IsFront (start_len s + k) = front (start_len s + k) (omega arith) in
          ap (λ (x : EndRecord). slice_get x.pairs k) own_record ∙ pair_at k (omega arith) f
          ∙ ap (λ (x : Block). Some x.mark) (same_Some f.block b (sym f.written ∙ written));
    }

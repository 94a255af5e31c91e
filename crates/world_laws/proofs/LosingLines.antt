-- A line of which chunks are emptied or go Offline: it has the start record that it had, or none,
-- and no record that it hadn't.
use Rattle.std.proofs.Common.{◌≡◌, ◌≢◌, ℕ, ◌+◌, ◌-◌, ◌*◌, ◌/◌, ◌%◌, ◌^◌, ◌<◌, ◌≤◌, ◌⊎◌, suc, inl, inr, nat_lt, Bool, true, false, cond, if◌then◌else◌, Option, Some, None, List, [], ◌∷◌, ◌++◌, map, length, take, refl, sym, ap, ◌∙◌, subst, arith}
use Rattle.std.specs.List.{AllByRecursion, Contains, slice_get, filter, flat_map, enumerate_from, range_with_len}
use Rattle.std.specs.Option.{option_and_then}
use Rattle.std.specs.Int.{w32, w64}
use Rattle.std.proofs.Math.Nat.{div-add-mod, mod-le, mul-le-mul_left, zero-div}
use Rattle.std.proofs.Math.Seq.{take-append_seam}
use Rattle.std.proofs.lemmas.Bool.{cases_lt, ltb-true}
use Rattle.std.proofs.lemmas.List.{take-take}
use Rattle.std.proofs.lemmas.Nat.{from_le_bytes-to_le_bytes_8}
use Rattle.std.proofs.lemmas.Option.{none-some, same_Some, slice_get_within}
use Rattle.pblk_model.specs.declared.shape.Shape.{Shape}
use Rattle.pblk_model.specs.declared.chunk.Mark.{Mark}
use Rattle.pblk_model.specs.declared.chunk.ChunkState.{ChunkState}
use Rattle.pblk_model.specs.declared.chunk.ChunkState.TheVariants.{Free, Open, Closed, Offline}
use Rattle.pblk_model.specs.Accepted.{IsAccepted}
use Rattle.pblk_model.specs.Bytes.{le16, le32, zeros, number_at}
use Rattle.pblk_model.specs.Chunk.{Chunk, Block, IsBlock, IsChunk, PointerFits, pointer, free_chunk, offline_chunk}
use Rattle.pblk_model.specs.LineOrder.{start_len, end_len, data_len, column_of, block_of}
use Rattle.pblk_model.specs.Marks.{meta_mark}
use Rattle.pblk_model.specs.Image.{Image, IsFit, is_online_in, line_chunks, line_units, width, block_at}
use Rattle.pblk_model.specs.StartRecord.{StartRecord, magic, start_bytes, start_fits, start_of}
use Rattle.pblk_model.specs.EndRecord.{EndRecord, end_of}
use Rattle.pblk_model.specs.Records.{Record, named, mark_at, bears, record_at, records_after, line_records}
use Rattle.pblk_model.specs.Sealed.{AgreesWithLine, BeginsNarrower, IsSealed}
use Rattle.pblk_model.proofs.BytesLemmas.{number_front}
use Rattle.pblk_model.proofs.LeastLengths.{end_len_least, sector_at_least, start_len_least, start_len_positive}
use Rattle.pblk_model.proofs.StartRecordLemmas.{width_there}
use Rattle.pblk_laws.specs.EndBlocks.{IsEndOf, AreEnd}
use Rattle.pblk_laws.specs.LineBlocks.{chunk_in, written_at}
use Rattle.pblk_laws.specs.StartBlocks.{AreStart}
use Rattle.pblk_laws.proofs.EndSpelling.{end_written}
use Rattle.pblk_laws.proofs.LineBlocksLemmas.{chunk_fits}
use Rattle.pblk_laws.proofs.LineUnits.{is_on, line_units_count, line_units_chunks, units_of}
use Rattle.pblk_laws.proofs.MarkNames.{named_meta}
use Rattle.pblk_laws.proofs.Widths.{width_within}
use Rattle.pblk_laws.proofs.Starts.{HasNumbers, numbers, found_is}
use Rattle.pblk_laws.proofs.StartHeads.{sector_long}
use Rattle.pblk_model.proofs.Lists.{IsAmong, among_contained}
use Rattle.pblk_model.proofs.Maps.{all_in_range, from_given, given_at, range_get}
use Rattle.pblk_model.proofs.Options.{map_some, split_then}
use Rattle.pblk_model.proofs.Parts.{all_by_get, all_get, contained_among}
use Rattle.pblk_model.proofs.Tests.{not_before}
use Rattle.world_laws.specs.Losing.{IsLostAt, AreKeptOrLost, LosesChunks}
use Rattle.world_laws.specs.SealedLines.{IsSealedLine}
use Rattle.world_laws.proofs.OnlineUnits.{is_on as online}
use Rattle.world_laws.proofs.ImageLines.{img, same_img, width_same, read_by, block_there, there, all_there, start_carry, end_carry}

-- ---- lines of a sealed image

pub sealed_line : (i : Image) (line : ℕ) → IsSealed i → line < i.shape.chunks → IsSealedLine i line
sealed_line i line whole inside = record {
  ends = λ start e started ended. whole.ends line start e inside started ended;
  begins = λ k c b there first n. whole.begins line k c b inside there first n;
}

pub all_sealed : (i : Image) → ((line : ℕ) → line < i.shape.chunks → IsSealedLine i line) → IsSealed i
all_sealed i each = record {
  ends = λ line start e inside started ended. (each line inside).ends start e started ended;
  begins = λ line k c b inside there first n. (each line inside).begins k c b there first n;
}

-- ---- addresses

-- what is left between multiples of a number, where it is less than that number
none_between : (w m k n : ℕ) → w * m - w * k - w * n < w → w * m ≤ w * k + w * n
none_between w m k n few = by (cases_lt (k + n) m) where
  by : (k + n < m) ⊎ (m ≤ k + n) → w * m ≤ w * k + w * n
  by (inl less) =
      let more : w * (k + n + 1) ≤ w * m = mul-le-mul_left w (omega arith) in
      let sum : w * (k + n + 1) ≡ w * k + w * n + w = omega arith in
      absurd (omega (arith, few, more, sum))
  by (inr within) =
      let less : w * m ≤ w * (k + n) = mul-le-mul_left w within in
      let sum : w * (k + n) ≡ w * k + w * n = omega arith in
      omega (arith, less, sum)

-- past the data of a line is its end record
past_data : (s : Shape) (g a : ℕ) → IsAccepted s → start_len s + data_len s g ≤ a → g * s.clba - end_len s g ≤ a
past_data s g a accepted high = by (nat_lt (g * s.clba - start_len s - end_len s g) s.ws_opt) refl where
  by : (t : Bool) → nat_lt (g * s.clba - start_len s - end_len s g) s.ws_opt ≡ t → g * s.clba - end_len s g ≤ a
  by false e =
      let same : data_len s g ≡ g * s.clba - start_len s - end_len s g = ap (λ t. if t then 0 else (g * s.clba - start_len s - end_len s g)) e in
      omega (arith, same, high)
  by true e =
      let sector : 512 ≤ s.sector = sector_at_least s accepted in
      let start = (start_len_least s accepted.drive.ws_opt (omega arith)).multiple in
      let end = (end_len_least s g accepted.drive.ws_opt (omega arith)).multiple in
      let parts : s.ws_opt * (s.clba / s.ws_opt) + s.clba % s.ws_opt ≡ s.clba = div-add-mod s.clba s.ws_opt in
      let clba : s.clba ≡ s.ws_opt * (s.clba / s.ws_opt) = omega (arith, accepted.drive.whole_stripes) in
      let turned : g * (s.ws_opt * (s.clba / s.ws_opt)) ≡ s.ws_opt * (g * (s.clba / s.ws_opt)) = omega arith in
      let total : g * s.clba ≡ s.ws_opt * (g * (s.clba / s.ws_opt)) = ap (λ n. g * n) clba ∙ turned in
      let few : g * s.clba - start_len s - end_len s g < s.ws_opt = ltb-true (g * s.clba - start_len s - end_len s g) s.ws_opt e in
      let within : s.ws_opt * (g * (s.clba / s.ws_opt)) ≤ s.ws_opt * start.0 + s.ws_opt * end.0 =
      none_between s.ws_opt (g * (s.clba / s.ws_opt)) start.0 end.0 (omega (arith, few, total, start.2, end.2)) in
      omega (arith, within, total, start.2, end.2, high)

-- the record of a block by a mark and what that names
abbrev record_by : ℕ → ℕ → ℕ → Block → Mark → Option ℕ → Record
record_by line seq a b m lba = record { line = line; seq = seq; at = a; position = m.position; lba = lba; sector = b.sector }

-- ---- fewer units

-- one more unit in front, in the one list and in the other
one_fewer : (a b : Bool) (n : ℕ) (u v : List Chunk) (rest more : List (ℕ × List Chunk)) → (a ≡ true → b ≡ true)
    → (map (λ (x : ℕ × List Chunk). x.0) rest ≡ map (λ (x : ℕ × List Chunk). x.0) more)
    ⊎ (length (map (λ (x : ℕ × List Chunk). x.0) rest) < length (map (λ (x : ℕ × List Chunk). x.0) more))
    → (map (λ (x : ℕ × List Chunk). x.0) (cond a ((n, v) ∷ rest) rest) ≡ map (λ (x : ℕ × List Chunk). x.0) (cond b ((n, u) ∷ more) more))
    ⊎ (length (map (λ (x : ℕ × List Chunk). x.0) (cond a ((n, v) ∷ rest) rest)) < length (map (λ (x : ℕ × List Chunk). x.0) (cond b ((n, u) ∷ more) more)))
one_fewer true true n u v rest more h (inl same) = inl (ap (λ ns. n ∷ ns) same)
one_fewer true true n u v rest more h (inr less) = inr (omega arith)
one_fewer false false n u v rest more h tail = tail
one_fewer false true n u v rest more h (inl same) = inr (let count = ap length same in omega arith)
one_fewer false true n u v rest more h (inr less) = inr (omega arith)
one_fewer true false n u v rest more h tail = let no : false ≡ true = h refl in absurd (cc)

fewer : (line n : ℕ) (us vs : List (List Chunk)) → length vs ≡ length us
    → ((k : ℕ) → online (option_and_then (λ chunks. slice_get chunks line) (slice_get vs k)) ≡ true
    → online (option_and_then (λ chunks. slice_get chunks line) (slice_get us k)) ≡ true)
    → (units_of line n vs ≡ units_of line n us) ⊎ (length (units_of line n vs) < length (units_of line n us))
unfolding units_of
fewer line n [] [] count h = inl refl
fewer line n [] (v ∷ vs) count h = absurd (omega arith)
fewer line n (u ∷ us) [] count h = absurd (omega arith)
fewer line n (u ∷ us) (v ∷ vs) count h =
    one_fewer (is_on line (n, v)) (is_on line (n, u)) n u v (filter (is_on line) (enumerate_from (n + 1) vs))
    (filter (is_on line) (enumerate_from (n + 1) us)) (h 0)
    (fewer line (n + 1) us vs (omega arith) (λ k. h (suc k)))

-- ---- how a start record begins

begins_so : (s : Shape) (r : StartRecord) → take 8 (start_bytes s r) ≡ le32 magic ++ le16 1 ++ le16 1
unfolding zeros
begins_so s r = refl

seq_there : (s : Shape) (r : StartRecord) → r.seq < 2 ^ 64 → number_at w64 16 (start_bytes s r) ≡ r.seq
unfolding zeros
seq_there s r low = from_le_bytes-to_le_bytes_8 r.seq low

first_sector : (blocks : List Block) (b : Block) (bytes : List ℕ) → slice_get blocks 0 ≡ Some b → flat_map (λ (x : Block). x.sector) blocks ≡ bytes
    → b.sector ≡ take (length b.sector) bytes
first_sector [] b bytes there all = absurd (none-some b there)
first_sector (x ∷ blocks) b bytes there all =
    let same : x ≡ b = same_Some x b there in
    subst (λ (y : Block). y.sector ≡ take (length y.sector) bytes) same
    (sym (take-append_seam x.sector (flat_map (λ (y : Block). y.sector) blocks)) ∙ ap (take (length x.sector)) all)

-- the first block of a start record begins one of a lesser width than any that is greater than its
-- own
begins_narrower : (s : Shape) (l g h : ℕ) (r : StartRecord) (blocks : List Block) (b : Block) → IsAccepted s → start_fits s l g r ≡ true
    → 1 ≤ g → g < h → g < 2 ^ 32 → slice_get blocks 0 ≡ Some b
    → flat_map (λ (x : Block). x.sector) blocks ≡ start_bytes s r → b.mark ≡ meta_mark r.seq → length b.sector ≡ s.sector → BeginsNarrower h b
begins_narrower s l g h r blocks b accepted fits some less low there bytes mark long =
    let n : HasNumbers s l g r = numbers s l g r fits in
    let sized : 24 ≤ length b.sector = (let size = sector_long s accepted in omega arith) in
    let front : b.sector ≡ take (length b.sector) (start_bytes s r) = first_sector blocks b (start_bytes s r) there bytes in
    let wide : number_at w32 12 b.sector ≡ g =
    ap (number_at w32 12) front ∙ number_front w32 12 (length b.sector) (start_bytes s r) (omega arith)
    ∙ width_there s r (let is = n.width in omega arith) ∙ n.width in
    record {
      mark = ap (λ (m : Mark). m.lba) mark;
      kind = ap (take 8) front ∙ take-take 8 (length b.sector) (start_bytes s r) (omega arith) ∙ begins_so s r;
      seq = ap (number_at w64 16) front ∙ number_front w64 16 (length b.sector) (start_bytes s r) (omega arith)
          ∙ seq_there s r (let is = n.seq in omega arith) ∙ sym (ap (λ (m : Mark). m.position) mark);
      some_width = omega arith;
      narrower = omega arith;
    }

wider : (g h : ℕ) (b : Block) → g ≤ h → BeginsNarrower g b → BeginsNarrower h b
wider g h b more n = record { mark = n.mark; kind = n.kind; seq = n.seq; some_width = n.some_width; narrower = (let less = n.narrower in omega arith) }

first_block_of : (w g : ℕ) → (0 / w) / g * w + 0 % w ≡ 0
first_block_of w g =
    let rows : 0 / w ≡ 0 = zero-div w in
    let row : (0 / w) / g ≡ 0 = ap (λ x. x / g) rows ∙ zero-div g in
    let none : (0 / w) / g * w ≡ 0 * w = ap (λ x. x * w) row in
    let rest : 0 % w ≤ 0 = mod-le 0 w in
    omega arith

-- the first block of a line is the first one of a chunk of it
record IsFirst (i : Image) (l : ℕ) (b : Block) : Type 0 where
  column : ℕ
  chunk : Chunk
  there : slice_get (line_chunks i l) column ≡ Some chunk
  first : slice_get chunk.blocks 0 ≡ Some b

line_first : (i : Image) (l : ℕ) (b : Block) → block_at i l 0 ≡ Some b → IsFirst i l b
line_first i l b is = by (slice_get (line_chunks i l) (column_of i.shape (width i l) 0)) refl is where
  by : (o : Option Chunk) → slice_get (line_chunks i l) (column_of i.shape (width i l) 0) ≡ o
      → option_and_then (λ (c : Chunk). slice_get c.blocks (block_of i.shape (width i l) 0)) o ≡ Some b → IsFirst i l b
  by None e h = absurd (none-some b h)
  by (Some c) e h = record {
    column = column_of i.shape (width i l) 0;
    chunk = c;
    there = e;
    first = ap (slice_get c.blocks) (sym (first_block_of i.shape.ws_opt (width i l))) ∙ h;
  }

-- ---- chunks of a fit image

online_by : (state : ChunkState) (clba wp : ℕ) → PointerFits state clba wp → 0 < wp → is_online_in state ≡ true
online_by Free clba wp fits some = refl
online_by Open clba wp fits some = refl
online_by Closed clba wp fits some = refl
online_by Offline clba wp fits some = absurd (omega arith)

-- ---- a line that lost chunks

module _ (s : Shape) (us vs : List (List Chunk)) (count : length vs ≡ length us) (l : ℕ) (lost : AreKeptOrLost (img s us) (img s vs) l) where
  -- a chunk with blocks was there before
  no_blocks : (u k : ℕ) (b : Block) → IsLostAt (img s us) (img s vs) l u → written_at (img s vs) l (u, k) ≡ Some b → ⊥
  no_blocks u k b at is = elim at.is [
    | inl free ↦ none-some b (sym (ap (option_and_then (λ (c : Chunk). slice_get c.blocks k)) free) ∙ is)
    | inr gone ↦ none-some b (sym (ap (option_and_then (λ (c : Chunk). slice_get c.blocks k)) gone) ∙ is)
  ]

  was_written : (u k : ℕ) (c : Chunk) (b : Block) → chunk_in (img s vs) l u ≡ Some c → slice_get c.blocks k ≡ Some b → chunk_in (img s us) l u ≡ Some c
  was_written u k c b is block = elim (lost u) [
    | inl same ↦ sym same ∙ is
    | inr at ↦ absurd (no_blocks u k b at (ap (option_and_then (λ (x : Chunk). slice_get x.blocks k)) is ∙ block))
  ]

  still_online : (k : ℕ) → online (chunk_in (img s vs) l k) ≡ true → online (chunk_in (img s us) l k) ≡ true
  still_online k on = elim (lost k) [
    | inl same ↦ ap online (sym same) ∙ on
    | inr at ↦ ap online at.was ∙ at.online
  ]

  by_units : (line_units (img s vs) l ≡ line_units (img s us) l) ⊎ (length (line_units (img s vs) l) < length (line_units (img s us) l))
  unfolding units_of
  by_units = fewer l 0 us vs count still_online

  narrow : length (line_units (img s vs) l) < length (line_units (img s us) l) → width (img s vs) l < width (img s us) l
  narrow less = let v = line_units_count (img s vs) l in let u = line_units_count (img s us) l in omega arith

  pub not_wider : width (img s vs) l ≤ width (img s us) l
  not_wider = elim by_units [
    | inl same ↦ let e = width_same s us vs l same in omega arith
    | inr less ↦ let n = narrow less in omega arith
  ]

  -- a block of a line with the same units was there before
  down : (a : ℕ) (b : Block) → line_units (img s vs) l ≡ line_units (img s us) l → block_at (img s vs) l a ≡ Some b → block_at (img s us) l a ≡ Some b
  down a b same is =
      by (slice_get (line_units (img s us) l) (column_of s (width (img s us) l) a)) (block_there s us vs l a same) (block_there s us us l a refl) where
        by : (o : Option ℕ) → block_at (img s vs) l a ≡ read_by (img s vs) l (block_of s (width (img s us) l) a) o
            → block_at (img s us) l a ≡ read_by (img s us) l (block_of s (width (img s us) l) a) o → block_at (img s us) l a ≡ Some b
        by None v u = absurd (none-some b (sym v ∙ is))
        by (Some unit) v u = elim (lost unit) [
          | inl kept ↦ u ∙ ap (option_and_then (λ (c : Chunk). slice_get c.blocks (block_of s (width (img s us) l) a))) (sym kept) ∙ sym v ∙ is
          | inr at ↦ absurd (no_blocks unit (block_of s (width (img s us) l) a) b at (sym v ∙ is))
        ]

  record HadFirst (c : Chunk) : Type 0 where
    unit : ℕ
    chunk : chunk_in (img s us) l unit ≡ Some c

  had_first : (k : ℕ) (c : Chunk) (b : Block) → slice_get (line_chunks (img s vs) l) k ≡ Some c → slice_get c.blocks 0 ≡ Some b → HadFirst c
  had_first k c b is first = by (slice_get (line_units (img s vs) l) k) (line_units_chunks (img s vs) l k) where
    by : (o : Option ℕ) → slice_get (line_chunks (img s vs) l) k ≡ option_and_then (chunk_in (img s vs) l) o → HadFirst c
    by None e = absurd (none-some c (sym e ∙ is))
    by (Some u) e = record { unit = u; chunk = was_written u 0 c b (sym e ∙ is) first }

  module _ (accepted : IsAccepted s) (fit : IsFit (img s us)) (whole : IsSealedLine (img s us) l) where
    abbrev NoNarrower : Chunk → Type 0
    NoNarrower c = (b : Block) → slice_get c.blocks 0 ≡ Some b → BeginsNarrower (width (img s us) l) b → ⊥

    none_narrower : (u : ℕ) (c : Chunk) (b : Block) → chunk_in (img s us) l u ≡ Some c → slice_get c.blocks 0 ≡ Some b
        → BeginsNarrower (width (img s us) l) b → ⊥
    none_narrower u c b is first =
        let fits : IsChunk s c = chunk_fits (img s us) l u c fit is in
        let on : is_online_in c.state ≡ true = online_by c.state s.clba (pointer c) fits.place (slice_get_within c.blocks 0 b first) in
        let all : AllByRecursion NoNarrower (line_chunks (img s us) l) = all_by_get NoNarrower (line_chunks (img s us) l)
        (λ k x there b first n. whole.begins k x b there first n) in
        all_there NoNarrower l us u c all is on b first

    fewer_none : (r : StartRecord) → length (line_units (img s vs) l) < length (line_units (img s us) l) → start_of (img s vs) l ≡ Some r → ⊥
    fewer_none r less started =
        let f = found_is (img s vs) l r started in
        let blocks : List Block = f.1 in
        let are : AreStart (img s vs) l r blocks = f.2 in
        let some : 0 < start_len s = start_len_positive s accepted in
        let b = there blocks 0 (start_len s) are.count some in
        let at : block_at (img s vs) l 0 ≡ Some b.0 = are.written 0 some ∙ b.1 in
        let first : IsFirst (img s vs) l b.0 = line_first (img s vs) l b.0 at in
        let had : HadFirst first.chunk = had_first first.column first.chunk b.0 first.there first.first in
        let fits : IsChunk s first.chunk = chunk_fits (img s us) l had.unit first.chunk fit had.chunk in
        let block : IsBlock s b.0 = all_get (IsBlock s) first.chunk.blocks 0 b.0 fits.blocks first.first in
        let wide : 1 ≤ width (img s vs) l = (let low = slice_get_within (line_chunks (img s vs) l) first.column first.chunk first.there in omega arith) in
        let low : width (img s us) l ≤ 64 = (let few = width_within (img s us) l fit in let all = accepted.drive.few_units in omega arith) in
        let narrower : width (img s vs) l < width (img s us) l = narrow less in
        let marked : b.0.mark ≡ meta_mark r.seq = all_get (λ (x : Block). x.mark ≡ meta_mark r.seq) blocks 0 b.0 are.marks b.1 in
        none_narrower had.unit first.chunk b.0 had.chunk first.first
        (begins_narrower s l (width (img s vs) l) (width (img s us) l) r blocks b.0 accepted f.0 wide narrower (omega arith) b.1 are.bytes marked block.size)

    -- where it has a start record it has its units, and had the record
    pub units_of_started : (r : StartRecord) → start_of (img s vs) l ≡ Some r → line_units (img s vs) l ≡ line_units (img s us) l
    units_of_started r started = elim by_units [
      | inl same ↦ same
      | inr less ↦ absurd (fewer_none r less started)
    ]

    width_of_started : (r : StartRecord) → start_of (img s vs) l ≡ Some r → width (img s us) l ≡ width (img s vs) l
    width_of_started r started = sym (width_same s us vs l (units_of_started r started))

    block_of_started : (r : StartRecord) (a : ℕ) (b : Block) → start_of (img s vs) l ≡ Some r → block_at (img s vs) l a ≡ Some b
        → block_at (img s us) l a ≡ Some b
    block_of_started r a b started is = down a b (units_of_started r started) is

    pub start_before : (r : StartRecord) → start_of (img s vs) l ≡ Some r → start_of (img s us) l ≡ Some r
    start_before r started = start_carry s vs us l r (width_of_started r started) started (λ a b is mark. block_of_started r a b started is)

    -- so it gets none
    pub none_still : start_of (img s us) l ≡ None → start_of (img s vs) l ≡ None
    none_still none = by (start_of (img s vs) l) refl where
      by : (o : Option StartRecord) → start_of (img s vs) l ≡ o → o ≡ None
      by None e = refl
      by (Some r) e = absurd (none-some r (sym none ∙ start_before r e))

    -- no chunk of it begins a start record of a lesser width
    pub none_begins : (k : ℕ) (c : Chunk) (b : Block) → slice_get (line_chunks (img s vs) l) k ≡ Some c → slice_get c.blocks 0 ≡ Some b
        → BeginsNarrower (width (img s vs) l) b → ⊥
    none_begins k c b is first n =
        let had : HadFirst c = had_first k c b is first in
        none_narrower had.unit c b had.chunk first (wider (width (img s vs) l) (width (img s us) l) b not_wider n)

    -- its end record was there before too, and agrees with the line still
    end_before : (r start : StartRecord) (e : EndRecord) → start_of (img s vs) l ≡ Some r → end_of (img s vs) l start ≡ Some e
        → end_of (img s us) l start ≡ Some e
    end_before r start e started ended =
        end_carry s vs us l start e (width_of_started r started) ended (λ a b is mark. block_of_started r a b started is)

    agrees_still : (r : StartRecord) (e : EndRecord) → start_of (img s vs) l ≡ Some r → end_of (img s vs) l r ≡ Some e → AgreesWithLine (img s vs) l e
    agrees_still r e started ended = record {
      closed = all_by_get (λ c. c.state ≢ Open) (line_chunks (img s vs) l)
          (λ k c is. by c (slice_get (line_units (img s vs) l) k) (sym (line_units_chunks (img s vs) l k) ∙ is));
      marks = λ k b below is. agrees.marks k b below (block_of_started r (start_len s + k) b started is);
    } where
      agrees : AgreesWithLine (img s us) l e
      agrees = whole.ends r e (start_before r started) (end_before r r e started ended)

      not_open : (c d : Chunk) → Some d ≡ Some c → d.state ≢ Open → c.state ≢ Open
      not_open c d same none = subst (λ (x : Chunk). x.state ≢ Open) (same_Some d c same) none

      by : (c : Chunk) (o : Option ℕ) → option_and_then (chunk_in (img s vs) l) o ≡ Some c → c.state ≢ Open
      by c None is = absurd (none-some c is)
      by c (Some u) is = elim (lost u) [
        | inl kept ↦ λ opened. all_there (λ c. c.state ≢ Open) l us u c agrees.closed (sym kept ∙ is) (ap is_online_in opened) opened
        | inr at ↦ elim at.is [
          | inl free ↦ not_open c free_chunk (sym free ∙ is) (λ e. absurd cc)
          | inr gone ↦ not_open c offline_chunk (sym gone ∙ is) (λ e. absurd cc)
        ]
      ]

    pub sealed_after : IsSealedLine (img s vs) l
    sealed_after = record { ends = λ start e started ended. agrees_still start e started ended; begins = none_begins }

    -- ---- its records

    abbrev mark_in : List (List Chunk) → StartRecord → ℕ → Block → Option Mark
    mark_in us start a b = mark_at s (end_of (img s us) l start) a b

    -- a block of the start or the end record bears none
    meta_bears : (start : StartRecord) (a : ℕ) (b : Block) (x : Record) (seq : ℕ) → b.mark ≡ meta_mark seq → bears s l start.seq a b b.mark ≡ Some x → ⊥
    meta_bears start a b x seq mark is =
        let name = map_some (record_by l start.seq a b b.mark) (named s b.mark) x is in
        none-some name.0 (sym (ap (named s) mark ∙ named_meta s seq accepted.target.capacity_number) ∙ name.1)

    -- where the end record went, a block's own mark counts, which was its pair
    own_mark : (r : StartRecord) (e : EndRecord) (a : ℕ) (b : Block) (x : Record) → start_of (img s vs) l ≡ Some r → end_of (img s us) l r ≡ Some e
        → block_at (img s us) l a ≡ Some b → a < width (img s us) l * s.clba → bears s l r.seq a b b.mark ≡ Some x → mark_at s (Some e) a b ≡ Some b.mark
    own_mark r e a b x started ended at inside is = place (cases_lt a (start_len s)) where
      are_end : IsEndOf (img s us) l r e × (blocks : List Block) × AreEnd (img s us) l e blocks
      are_end = end_written (img s us) l r e ended

      sizes : length e.pairs ≡ data_len s (width (img s us) l)
      sizes = are_end.0.fits.count ∙ ap (data_len s) are_end.0.width_is

      agrees : AgreesWithLine (img s us) l e
      agrees = whole.ends r e (start_before r started) ended

      in_end : start_len s + data_len s (width (img s us) l) ≤ a → ⊥
      in_end high =
          let from : width (img s us) l * s.clba - end_len s (width (img s us) l) ≤ a = past_data s (width (img s us) l) a accepted high in
          let k : ℕ = a - (width (img s us) l * s.clba - end_len s (width (img s us) l)) in
          let low : k < end_len s (width (img s us) l) = omega arith in
          let back : width (img s us) l * s.clba - end_len s (width (img s us) l) + k ≡ a = omega arith in
          let got : slice_get are_end.1 k ≡ Some b = sym (are_end.2.written k low) ∙ ap (block_at (img s us) l) back ∙ at in
          meta_bears r a b x e.seq (all_get (λ (y : Block). y.mark ≡ meta_mark e.seq) are_end.1 k b are_end.2.marks got) is

      place : (a < start_len s) ⊎ (start_len s ≤ a) → mark_at s (Some e) a b ≡ Some b.mark
      place (inl low) =
          let f = found_is (img s us) l r (start_before r started) in
          absurd (meta_bears r a b x r.seq (all_get (λ (y : Block). y.mark ≡ meta_mark r.seq) f.1 a b f.2.marks (sym (f.2.written a low) ∙ at)) is)
      place (inr high) = of_data (cases_lt (a - start_len s) (length e.pairs)) where
        back : start_len s + (a - start_len s) ≡ a
        back = omega arith

        of_data : (a - start_len s < length e.pairs) ⊎ (length e.pairs ≤ a - start_len s) → mark_at s (Some e) a b ≡ Some b.mark
        of_data (inl pair) = ap (λ t. if t then None else slice_get e.pairs (a - start_len s)) (not_before a (start_len s) high)
            ∙ agrees.marks (a - start_len s) b pair (ap (block_at (img s us) l) back ∙ at)
        of_data (inr past) = absurd (in_end (omega (arith, sizes)))

    mark_before : (r : StartRecord) (a : ℕ) (b : Block) (m : Mark) (x : Record) → start_of (img s vs) l ≡ Some r → block_at (img s us) l a ≡ Some b
        → a < width (img s us) l * s.clba → mark_in vs r a b ≡ Some m → bears s l r.seq a b m ≡ Some x → mark_in us r a b ≡ Some m
    mark_before r a b m x started at inside marked is = by (end_of (img s vs) l r) (end_of (img s us) l r) refl refl where
      by : (o p : Option EndRecord) → end_of (img s vs) l r ≡ o → end_of (img s us) l r ≡ p → mark_in us r a b ≡ Some m
      by (Some e) p now was =
          ap (λ y. mark_at s y a b) (end_before r r e started now ∙ sym now) ∙ marked
      by None None now was = ap (λ y. mark_at s y a b) (was ∙ sym now) ∙ marked
      by None (Some e) now was =
          let own : b.mark ≡ m = same_Some b.mark m (sym (ap (λ y. mark_at s y a b) now) ∙ marked) in
          ap (λ y. mark_at s y a b) was
          ∙ own_mark r e a b x started was at inside (ap (λ y. bears s l r.seq a b y) own ∙ is) ∙ ap (λ y. Some y) own

    record_before : (r : StartRecord) (a : ℕ) (x : Record) → start_of (img s vs) l ≡ Some r → a < width (img s us) l * s.clba
        → record_at (img s vs) l r a ≡ Some x → record_at (img s us) l r a ≡ Some x
    record_before r a x started inside is =
        let block = split_then (λ b. option_and_then (bears s l r.seq a b) (mark_in vs r a b)) (block_at (img s vs) l a) x is in
        let mark = split_then (bears s l r.seq a block.0) (mark_in vs r a block.0) x block.2 in
        let at : block_at (img s us) l a ≡ Some block.0 = block_of_started r a block.0 started block.1 in
        ap (option_and_then (λ b. option_and_then (bears s l r.seq a b) (mark_in us r a b))) at
        ∙ ap (option_and_then (bears s l r.seq a block.0)) (mark_before r a block.0 mark.0 x started at inside mark.1 mark.2) ∙ mark.2

    -- all of them were there before
    pub records_before : (x : Record) → Contains (line_records (img s vs) l) x → Contains (line_records (img s us) l) x
    records_before x there = by (start_of (img s vs) l) refl (among_contained (line_records (img s vs) l) x there) where
      by : (o : Option StartRecord) → start_of (img s vs) l ≡ o → IsAmong (records_after (img s vs) l o) x → Contains (line_records (img s us) l) x
      by None e at = absurd (none-some x at.1)
      by (Some r) e at =
          let n : ℕ = width (img s vs) l * s.clba in
          let from = from_given (record_at (img s vs) l r) (range_with_len 0 n) x at.0 at.1 in
          let below : from.0 < n = all_get (λ a. a < n) (range_with_len 0 n) from.1.0 from.0 (all_in_range 0 n n (omega arith)) from.1.1 in
          let same : width (img s us) l ≡ width (img s vs) l = width_of_started r e in
          let inside : from.0 < width (img s us) l * s.clba = subst (λ g. from.0 < g * s.clba) (sym same) below in
          let zero : 0 + from.0 ≡ from.0 = omega arith in
          let at_still : slice_get (range_with_len 0 (width (img s us) l * s.clba)) from.0 ≡ Some from.0 =
          range_get 0 (width (img s us) l * s.clba) from.0 inside ∙ ap (λ m. Some m) zero in
          contained_among (line_records (img s us) l) x
          (subst (λ o. IsAmong (records_after (img s us) l o) x) (sym (start_before r e))
          (given_at (record_at (img s us) l r) (range_with_len 0 (width (img s us) l * s.clba)) from.0 x from.0 at_still
          (record_before r from.0 x e inside from.2)))

-- The same of any two images over one shape.

pub lose_sealed : (i j : Image) (line : ℕ) → IsAccepted i.shape → IsFit i → IsSealedLine i line → LosesChunks i j line → IsSealedLine j line
lose_sealed i j line accepted fit whole lost =
    let same : j ≡ img i.shape j.units = same_img j i.shape lost.shape in
    subst (λ (x : Image). IsSealedLine x line) (sym same)
    (sealed_after i.shape i.units j.units lost.count line (subst (λ (x : Image). AreKeptOrLost i x line) same lost.chunks) accepted fit whole)

pub lose_start : (i j : Image) (line : ℕ) (r : StartRecord) → IsAccepted i.shape → IsFit i → IsSealedLine i line → LosesChunks i j line
    → start_of j line ≡ Some r → start_of i line ≡ Some r
lose_start i j line r accepted fit whole lost started =
    let same : j ≡ img i.shape j.units = same_img j i.shape lost.shape in
    start_before i.shape i.units j.units lost.count line (subst (λ (x : Image). AreKeptOrLost i x line) same lost.chunks) accepted fit whole r
    (ap (λ (x : Image). start_of x line) (sym same) ∙ started)

pub lose_records : (i j : Image) (line : ℕ) (r : Record) → IsAccepted i.shape → IsFit i → IsSealedLine i line → LosesChunks i j line
    → Contains (line_records j line) r → Contains (line_records i line) r
lose_records i j line r accepted fit whole lost there =
    let same : j ≡ img i.shape j.units = same_img j i.shape lost.shape in
    records_before i.shape i.units j.units lost.count line (subst (λ (x : Image). AreKeptOrLost i x line) same lost.chunks) accepted fit whole r
    (subst (λ (x : Image). Contains (line_records x line) r) same there)

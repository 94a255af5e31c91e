-- The sectors of an image are those of the blocks of their newest records.
use Rattle.std.proofs.Common.{◌≡◌, ℕ, ◌+◌, ◌*◌, ◌<◌, ◌≤◌, ◌||◌, zero, suc, Bool, true, false, cond, List, [], ◌∷◌, ◌++◌, ◌-◌, length, map, get_or, replicate, take, drop, Option, Some, None, refl, sym, ap, ◌∙◌, subst, arith, length-append, append_assoc, zero-add, zero-mul}
use Rattle.std.specs.List.{AllByRecursion, filter, flat_map, fold, list_any, range_with_len, slice_get, slice_range}
use Rattle.std.specs.Option.{is_some, option_and_then, option_map, option_map_or, IfSome}
use Rattle.std.proofs.lemmas.List.Elements.{filter-append}
use Rattle.std.proofs.lemmas.Option.{none-some, same_Some}
use Rattle.pblk_model.specs.Bytes.{zeros}
use Rattle.pblk_model.specs.Chunk.{Block, Chunk, IsBlock, IsChunk}
use Rattle.pblk_model.specs.declared.shape.Shape.{Shape}
use Rattle.pblk_model.specs.LineOrder.{block_of, column_of}
use Rattle.pblk_model.specs.Image.{Image, IsFit, line_chunks, width, block_at}
use Rattle.pblk_model.specs.StartRecord.{StartRecord, start_of}
use Rattle.pblk_model.specs.EndRecord.{end_of}
use Rattle.pblk_model.specs.Records.{Record, named, mark_at, bears, record_at, records_after, line_records, records}
use Rattle.pblk_model.specs.Contents.{head, end_after, counts, counted_after, counted, is_newer, newer, is_of, winner, sector_of, contents}
use Rattle.pblk_laws.proofs.FilledLists.{range_split}
use Rattle.scan_recovery.specs.declared.trace.Trace.{Trace}
use Rattle.scan_recovery.specs.Held.{held_by, thin_winner}
use Rattle.scan_recovery.specs.Holding.{has_record}
use Rattle.scan_recovery.specs.Sectors.{sectors_in}
use Rattle.scan_recovery.specs.Traces.{bare, without_sector}
use Rattle.world_laws.proofs.WinnerLines.{if_map, if_then}
use Rattle.scan_recovery.proofs.ScanSteps.{kept_all}
use Rattle.scan_recovery.proofs.Surveys.{flat_one}
use Rattle.scan_recovery.proofs.Tables.{table_list}
use Rattle.pblk_model.proofs.Lists.{all_append}
use Rattle.pblk_model.proofs.Maps.{all_filter, range_last}
use Rattle.pblk_model.proofs.Options.{some_mapped}
use Rattle.pblk_model.proofs.Parts.{all_get as all_at, all_get_some, drop_front, take_front}
use Rattle.pblk_model.proofs.BytesLemmas.{zeros_length}
use Rattle.pblk_model.proofs.ImageLemmas.{line_fit}
use Rattle.pblk_model.specs.Tables.{IsTable}
use Rattle.pblk_model.proofs.TableLemmas.{take_one}

-- Records and their blocks.

-- a record is of a written block, whose sector it has
pub record HasBlock (i : Image) (r : Record) : Type 0 where
  pub inside : r.line < i.shape.chunks
  pub block : Block
  pub there : block_at i r.line r.at ≡ Some block
  pub sector : r.sector ≡ block.sector

block_has : (i : Image) (line : ℕ) (start : StartRecord) (a : ℕ) (o : Option Block) → line < i.shape.chunks → block_at i line a ≡ o
    → IfSome (option_and_then (λ block. option_and_then (bears i.shape line start.seq a block) (mark_at i.shape (end_of i line start) a block)) o) (HasBlock i)
block_has i line start a None inside is = tt
block_has i line start a (Some b) inside is =
    if_then (HasBlock i) (bears i.shape line start.seq a b) (mark_at i.shape (end_of i line start) a b)
    (λ m. if_map (HasBlock i) (λ lba. record { line = line; seq = start.seq; at = a; position = m.position; lba = lba; sector = b.sector }) (named i.shape m)
    (λ lba. record { inside = inside; block = b; there = is; sector = refl }))

line_has : (i : Image) (line : ℕ) (o : Option StartRecord) → line < i.shape.chunks → AllByRecursion (HasBlock i) (records_after i line o)
line_has i line None inside = tt
line_has i line (Some start) inside =
    kept_all (HasBlock i) (record_at i line start) (range_with_len 0 _) (λ a. block_has i line start a (block_at i line a) inside refl)

lines_have : (i : Image) (a n : ℕ) → a + n ≤ i.shape.chunks → AllByRecursion (HasBlock i) (flat_map (line_records i) (range_with_len a n))
lines_have i a zero h = tt
lines_have i a (suc n) h = all_append (HasBlock i) (line_records i a) (flat_map (line_records i) (range_with_len (a + 1) n))
    (line_has i a (start_of i a) (omega arith)) (lines_have i (a + 1) n (omega arith))

counted_by : (i : Image) (rs : List Record) (o : Option StartRecord) → AllByRecursion (HasBlock i) rs → AllByRecursion (HasBlock i) (counted_after rs o)
counted_by i rs None h = tt
counted_by i rs (Some start) h = all_filter (HasBlock i) (counts start (end_after rs (Some start))) rs h

counted_have : (i : Image) → AllByRecursion (HasBlock i) (counted i)
counted_have i = counted_by i (records i) (head i) (lines_have i 0 i.shape.chunks (omega arith))

newer_has : (P : Record → Type 0) (best : Record) (r : Record) (b : Bool) → P best → P r → IfSome (cond b (Some r) (Some best)) P
newer_has P best r true h k = k
newer_has P best r false h k = h

fold_has : (P : Record → Type 0) (o : Option Record) (rs : List Record) → IfSome o P → AllByRecursion P rs → IfSome (fold newer o rs) P
fold_has P o [] h k = h
fold_has P None (r ∷ rs) h k = fold_has P (Some r) rs k.0 k.1
fold_has P (Some best) (r ∷ rs) h k = fold_has P (newer (Some best) r) rs (newer_has P best r (is_newer best r) h k.0) k.1

winner_has : (i : Image) (lba : ℕ) → IfSome (winner (counted i) lba) (HasBlock i)
winner_has i lba = fold_has (HasBlock i) None (filter (λ r. is_of lba r.lba) (counted i)) tt
    (all_filter (HasBlock i) (λ r. is_of lba r.lba) (counted i) (counted_have i))

-- What is held.

held_from : (i : Image) (zs none : List ℕ) (o : Option Record) (w : Option Trace) → zs ≡ none → IfSome o (HasBlock i)
    → option_map bare w ≡ option_map without_sector o → held_by i zs w ≡ option_map_or (λ r. r.sector) o none
held_from i zs none None None zs-is h e = zs-is
held_from i zs none None (Some t) zs-is h e = absurd (none-some (bare t) (sym e))
held_from i zs none (Some r) None zs-is h e = absurd (none-some (without_sector r) e)
held_from i zs none (Some r) (Some t) zs-is h e =
    let same : bare t ≡ without_sector r = same_Some (bare t) (without_sector r) e in
    ap (λ (x : Record). option_map_or (λ (b : Block). b.sector) (block_at i x.line x.at) zs) same
    ∙ ap (λ o. option_map_or (λ (b : Block). b.sector) o zs) h.there ∙ sym h.sector

pub held_is : (i : Image) (lba : ℕ) (zs : List ℕ) (w : Option Trace) → zs ≡ zeros i.shape.sector → option_map bare w ≡ thin_winner i lba
    → held_by i zs w ≡ sector_of i lba
held_is i lba zs w zs-is w-is = held_from i zs (zeros i.shape.sector) (winner (counted i) lba) w zs-is (winner_has i lba) w-is

inside_from : (i : Image) (o : Option Record) (w : Option Trace) → IfSome o (HasBlock i) → option_map bare w ≡ option_map without_sector o
    → IfSome w (λ t. t.line < i.shape.chunks)
inside_from i o None h e = tt
inside_from i None (Some t) h e = absurd (none-some (bare t) (sym e))
inside_from i (Some r) (Some t) h e = subst (λ (x : Record). x.line < i.shape.chunks) (sym (same_Some (bare t) (without_sector r) e)) h.inside

pub winner_inside : (i : Image) (lba : ℕ) (w : Option Trace) → option_map bare w ≡ thin_winner i lba → IfSome w (λ t. t.line < i.shape.chunks)
winner_inside i lba w is = inside_from i (winner (counted i) lba) w (winner_has i lba) is

-- Its length.

in_chunk : (s : Shape) (n : ℕ) (o : Option Chunk) (b : Block) → IfSome o (IsChunk s) → option_and_then (λ c. slice_get c.blocks n) o ≡ Some b
    → length b.sector ≡ s.sector
in_chunk s n None b h e = absurd (none-some b e)
in_chunk s n (Some c) b h e = (all_at (IsBlock s) c.blocks n b h.blocks e).size

block_size : (i : Image) (line a : ℕ) (b : Block) → IsFit i → block_at i line a ≡ Some b → length b.sector ≡ i.shape.sector
block_size i line a b fit e =
    in_chunk i.shape (block_of i.shape (width i line) a) (slice_get (line_chunks i line) (column_of i.shape (width i line) a)) b
    (all_get_some (IsChunk i.shape) (line_chunks i line) (column_of i.shape (width i line) a) (line_fit i line fit)) e

size_from : (i : Image) (o : Option Record) → IsFit i → IfSome o (HasBlock i) → length (option_map_or (λ r. r.sector) o (zeros i.shape.sector)) ≡ i.shape.sector
size_from i None fit h = zeros_length i.shape.sector
size_from i (Some r) fit h = ap length h.sector ∙ block_size i r.line r.at h.block fit h.there

pub sector_size : (i : Image) (lba : ℕ) → IsFit i → length (sector_of i lba) ≡ i.shape.sector
sector_size i lba fit = size_from i (winner (counted i) lba) fit (winner_has i lba)

pub zeros_are : (n : ℕ) → replicate n 0 ≡ zeros n
unfolding zeros
zeros_are n = refl

-- All of them, one after another.

pub bytes_more : (i : Image) (k : ℕ) (front now piece : List ℕ) → now ≡ front ++ piece → piece ≡ sector_of i k
    → front ≡ flat_map (sector_of i) (range_with_len 0 k) → now ≡ flat_map (sector_of i) (range_with_len 0 (k + 1))
bytes_more i k front now piece now-is piece-is front-is =
    now-is ∙ ap (λ xs. xs ++ piece) front-is ∙ ap (λ x. flat_map (sector_of i) (range_with_len 0 k) ++ x) piece-is
    ∙ sym (ap (flat_map (sector_of i)) (range_last 0 k) ∙ flat_one (sector_of i) (range_with_len 0 k) (0 + k)
    ∙ ap (λ j. flat_map (sector_of i) (range_with_len 0 k) ++ sector_of i j) (zero-add k))

flat_size : (f : ℕ → List ℕ) (m a n : ℕ) → ((k : ℕ) → length (f k) ≡ m) → length (flat_map f (range_with_len a n)) ≡ n * m
flat_size f m a zero h = sym (zero-mul m)
flat_size f m a (suc n) h =
    let first = h a in
    let rest = flat_size f m (a + 1) n h in
    length-append (f a) (flat_map f (range_with_len (a + 1) n)) ∙ omega arith

pub bytes_size : (i : Image) (bytes : List ℕ) → IsFit i → bytes ≡ flat_map (sector_of i) (range_with_len 0 i.shape.capacity)
    → length bytes ≡ i.shape.capacity * i.shape.sector
bytes_size i bytes fit is = ap length is ∙ flat_size (sector_of i) i.shape.sector 0 i.shape.capacity (λ k. sector_size i k fit)

flat_both : (f : ℕ → List ℕ) (xs ys : List ℕ) → flat_map f (xs ++ ys) ≡ flat_map f xs ++ flat_map f ys
flat_both f [] ys = refl
flat_both f (x ∷ xs) ys = ap (λ zs. f x ++ zs) (flat_both f xs ys) ∙ sym (append_assoc (f x) (flat_map f xs) (flat_map f ys))

-- the k-th of n pieces of one length
piece_at : (f : ℕ → List ℕ) (m n k : ℕ) → ((k : ℕ) → length (f k) ≡ m) → k < n → slice_range (flat_map f (range_with_len 0 n)) (k * m) (k * m + m) ≡ f k
piece_at f m n k h inside =
    let parts : n ≡ k + suc (n - (k + 1)) = omega arith in
    let front : List ℕ = flat_map f (range_with_len 0 k) in
    let rest : List ℕ = flat_map f (range_with_len (0 + k + 1) (n - (k + 1))) in
    let all : flat_map f (range_with_len 0 n) ≡ front ++ (f (0 + k) ++ rest) =
    ap (λ j. flat_map f (range_with_len 0 j)) parts ∙ ap (flat_map f) (range_split 0 k (suc (n - (k + 1))))
    ∙ flat_both f (range_with_len 0 k) (range_with_len (0 + k) (suc (n - (k + 1)))) in
    let long : k * m + m - k * m ≡ m = omega arith in
    ap (λ bytes. take (k * m + m - k * m) (drop (k * m) bytes)) all
    ∙ ap (take (k * m + m - k * m)) (drop_front front (f (0 + k) ++ rest) (k * m) (flat_size f m 0 k h))
    ∙ ap (λ j. take j (f (0 + k) ++ rest)) long
    ∙ take_front (f (0 + k)) rest m (h (0 + k))
    ∙ ap f (zero-add k)

map_same : {X : Type 0} (f g : ℕ → X) (a n : ℕ) → ((k : ℕ) → a ≤ k → k < a + n → f k ≡ g k) → map f (range_with_len a n) ≡ map g (range_with_len a n)
map_same f g a zero h = refl
map_same f g a (suc n) h = ap (λ y. y ∷ map f (range_with_len (a + 1) n)) (h a (omega arith) (omega arith))
    ∙ ap (λ ys. g a ∷ ys) (map_same f g (a + 1) n (λ k low high. h k (omega arith) (omega arith)))

pub sectors_are : (i : Image) (size count : ℕ) (bytes : List ℕ) → IsFit i → size ≡ i.shape.sector → count ≡ i.shape.capacity
    → bytes ≡ flat_map (sector_of i) (range_with_len 0 i.shape.capacity) → sectors_in size count bytes ≡ contents i
sectors_are i size count bytes fit size-is count-is bytes-is =
    ap (λ n. sectors_in n count bytes) size-is ∙ ap (λ n. sectors_in i.shape.sector n bytes) count-is ∙ ap (sectors_in i.shape.sector i.shape.capacity) bytes-is
    ∙ map_same (λ lba. slice_range (flat_map (sector_of i) (range_with_len 0 i.shape.capacity)) (lba * i.shape.sector) (lba * i.shape.sector + i.shape.sector))
    (sector_of i) 0 i.shape.capacity
    (λ k low high. piece_at (sector_of i) i.shape.sector i.shape.capacity k (λ j. sector_size i j fit) (omega arith))

-- How many there are.

cond_length : {X : Type 0} (b : Bool) (x : X) (xs : List X) → length (cond b (x ∷ xs) xs) ≡ cond b (suc (length xs)) (length xs)
cond_length true x xs = refl
cond_length false x xs = refl

-- two lists have as many elements of a kind, where one is made of the other
count_map : {X Y : Type 0} (p : X → Bool) (q : Y → Bool) (f : X → Y) (xs : List X) → ((x : X) → q (f x) ≡ p x)
    → length (filter q (map f xs)) ≡ length (filter p xs)
count_map p q f [] h = refl
count_map p q f (x ∷ xs) h =
    cond_length (q (f x)) (f x) (filter q (map f xs)) ∙ ap (λ b. cond b (suc (length (filter q (map f xs)))) (length (filter q (map f xs)))) (h x)
    ∙ ap (λ n. cond (p x) (suc n) n) (count_map p q f xs h) ∙ sym (cond_length (p x) x (filter p xs))

stays_some : (best : Record) (rs : List Record) → is_some (fold newer (Some best) rs) ≡ true
stays_some best [] = refl
stays_some best (r ∷ rs) = elim (is_newer best r) as
    (λ b. is_some (fold newer (cond b (Some r) (Some best)) rs) ≡ true) [ true ↦ stays_some r rs | false ↦ stays_some best rs ]

some_winner : (p : Record → Bool) (rs : List Record) → is_some (fold newer None (filter p rs)) ≡ list_any p rs
some_winner p [] = refl
some_winner p (r ∷ rs) = elim (p r) as
    (λ b. is_some (fold newer None (cond b (r ∷ filter p rs) (filter p rs))) ≡ b || list_any p rs)
    [ true ↦ stays_some r (filter p rs) | false ↦ some_winner p rs ]

pub live_is : (i : Image) (ws : List (Option Trace)) → IsTable i.shape.capacity (thin_winner i) (map (option_map bare) ws)
    → length (filter is_some ws) ≡ length (filter (has_record (counted i)) (range_with_len 0 i.shape.capacity))
live_is i ws table =
    sym (count_map is_some is_some (option_map bare) ws (some_mapped bare))
    ∙ ap (λ os. length (filter is_some os)) (table_list i.shape.capacity (thin_winner i) (map (option_map bare) ws) table)
    ∙ count_map (has_record (counted i)) is_some (thin_winner i) (range_with_len 0 i.shape.capacity)
    (λ lba. some_mapped without_sector (winner (counted i) lba) ∙ some_winner (λ r. is_of lba r.lba) (counted i))

-- one element more
pub count_one : {X : Type 0} (p : X → Bool) (xs : List X) (k : ℕ) (d : X) (b : Bool) → k < length xs → p (get_or xs k d) ≡ b
    → length (filter p (take (k + 1) xs)) ≡ length (filter p (take k xs)) + cond b 1 0
count_one p xs k d b inside is =
    ap (λ ys. length (filter p ys)) (take_one xs k d inside) ∙ ap length (filter-append p (take k xs) (get_or xs k d ∷ []))
    ∙ length-append (filter p (take k xs)) (filter p (get_or xs k d ∷ []))
    ∙ ap (λ n. length (filter p (take k xs)) + n) (cond_length (p (get_or xs k d)) (get_or xs k d) [] ∙ ap (λ c. cond c 1 0) is)

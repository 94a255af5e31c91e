-- What a tidy image keeps, line by line.
use Rattle.std.proofs.Common.{◌≡◌, ◌≢◌, ℕ, ◌+◌, ◌<◌, ◌≤◌, ◌&&◌, ◌⊎◌, inl, inr, zero, suc, Bool, true, false, cond, List, [], ◌∷◌, length, Option, Some, None, refl, sym, ap, ◌∙◌, subst, arith, add-zero, length-append}
use Rattle.std.specs.List.{AllByRecursion, cons_option, filter, filter_map, list_all, range_with_len, slice_get}
use Rattle.std.specs.Option.{option_and_then}
use Rattle.std.proofs.lemmas.Bool.{cases_lt}
use Rattle.std.proofs.lemmas.Option.{none-some, same_Some}
use Rattle.pblk_model.specs.declared.shape.Shape.{Shape}
use Rattle.pblk_model.specs.declared.chunk.ChunkState.{ChunkState}
use Rattle.pblk_model.specs.declared.chunk.ChunkState.TheVariants as states
use Rattle.pblk_model.specs.Chunk.{Block, Chunk, IsChunk, PointerFits, pointer}
use Rattle.pblk_model.specs.Image.{Image, IsFit, is_online_in, line_chunks, line_units}
use Rattle.pblk_model.specs.StartRecord.{StartRecord, start_of}
use Rattle.pblk_model.specs.EndRecord.{EndRecord, end_of}
use Rattle.pblk_model.specs.Sealed.{AgreesWithLine, IsSealed}
use Rattle.pblk_model.specs.Shape.{units}
use Rattle.pblk_model.proofs.Maps.{filter_both, given_at, in_filter, range_from_0}
use Rattle.pblk_model.proofs.Options.{split_then}
use Rattle.pblk_model.proofs.Parts.{all_by_get, all_get, get_below}
use Rattle.pblk_model.proofs.Tests.{and_false}
use Rattle.pblk_laws.specs.LineBlocks.{chunk_in}
use Rattle.pblk_laws.proofs.LineUnits.{line_units_chunks}
use Rattle.pblk_world.specs.Tidy.{HasWholeChunks, IsTidy, IsWholeChunk, has_free_chunks, is_free_state}
use Rattle.image_check.specs.Tidying.{BeginsWell, HasMarks, IsClosedLine, IsSealedIn, IsTidyLine, IsWholeLine}
use Rattle.pblk_layout.proofs.Sets.{length_kept}

-- The online chunks of a line are among the chunks of the units.

pub from_line : (i : Image) (line k : ℕ) (c : Chunk) → slice_get (line_chunks i line) k ≡ Some c → (unit : ℕ) × (chunk_in i line unit ≡ Some c)
from_line i line k c there =
    let found = split_then (chunk_in i line) (slice_get (line_units i line) k) c (sym (line_units_chunks i line k) ∙ there) in
    (found.0, found.2)

pub in_line : (i : Image) (line unit : ℕ) (c : Chunk) → chunk_in i line unit ≡ Some c → is_online_in c.state ≡ true
    → (k : ℕ) × (slice_get (line_chunks i line) k ≡ Some c)
in_line i line unit c there online =
    let found = split_then (λ chunks. slice_get chunks line) (slice_get i.units unit) c there in
    in_filter (λ (c : Chunk). is_online_in c.state) (filter_map (λ chunks. slice_get chunks line) i.units) c
    (given_at (λ (chunks : List Chunk). slice_get chunks line) i.units found.0 c unit found.1 found.2) online

-- a unit's chunk is one of the drive's
pub chunk_fits : (i : Image) (line unit : ℕ) (c : Chunk) → IsFit i → chunk_in i line unit ≡ Some c
    → IsChunk i.shape c × (unit < units i.shape) × (line < i.shape.chunks)
chunk_fits i line unit c fit there =
    let found = split_then (λ chunks. slice_get chunks line) (slice_get i.units unit) c there in
    let long : length found.0 ≡ i.shape.chunks = all_get (λ (chunks : List Chunk). length chunks ≡ i.shape.chunks) i.units unit found.0 fit.chunks found.1 in
    let inside : line < length found.0 = get_below found.0 line c found.2 in
    let below : unit < length i.units = get_below i.units unit found.0 found.1 in (
      all_get (IsChunk i.shape) found.0 line c (all_get (AllByRecursion (IsChunk i.shape)) i.units unit found.0 fit.each found.1) found.2,
      omega (arith, below, fit.units),
      omega (arith, inside, long),
    )

-- a chunk with a block is online
has_block : (s : Shape) (c : Chunk) (b : Block) → IsChunk s c → slice_get c.blocks 0 ≡ Some b → is_online_in c.state ≡ true
has_block s c b fits there = by_state c.state refl where
  by_state : (state : ChunkState) → c.state ≡ state → is_online_in state ≡ true
  by_state states.Free e = refl
  by_state states.Open e = refl
  by_state states.Closed e = refl
  by_state states.Offline e =
      let none : pointer c ≡ 0 = subst (λ s'. PointerFits s' s.clba (pointer c)) e fits.place in
      let some : 0 < length c.blocks = get_below c.blocks 0 b there in absurd (omega arith)

open_online : (c : Chunk) → c.state ≡ states.Open → is_online_in c.state ≡ true
open_online c e = ap is_online_in e

-- Each chunk is whole.

pub whole_of : (i : Image) → IsFit i → ((line : ℕ) → line < i.shape.chunks → IsWholeLine i line) → HasWholeChunks i
whole_of i fit h =
    all_by_get (AllByRecursion (IsWholeChunk i.shape)) i.units (λ unit chunks at_unit.
    all_by_get (IsWholeChunk i.shape) chunks (λ line c there.
    (let is : chunk_in i line unit ≡ Some c = ap (option_and_then (λ (cs : List Chunk). slice_get cs line)) at_unit ∙ there in
    h line (chunk_fits i line unit c fit is).2 unit c is)))

pub whole_line : (i : Image) (line : ℕ) → HasWholeChunks i → IsWholeLine i line
whole_line i line h unit c there =
    let found = split_then (λ chunks. slice_get chunks line) (slice_get i.units unit) c there in
    all_get (IsWholeChunk i.shape) found.0 line c (all_get (AllByRecursion (IsWholeChunk i.shape)) i.units unit found.0 h found.1) found.2

-- Each line is sealed.

pub sealed_of : (i : Image) → ((line : ℕ) → line < i.shape.chunks → IsSealedIn i line) → IsSealed i
sealed_of i h = record {
  ends = λ line start e inside starts is_end. (h line inside).ends start e starts is_end;
  begins = λ line k c b inside there block narrower.
      (let found = from_line i line k c there in
      (h line inside).begins found.0 c found.1 (record { block = b; there = block; narrower = narrower }));
}

pub sealed_line : (i : Image) (line : ℕ) → IsFit i → line < i.shape.chunks → IsSealed i → IsSealedIn i line
sealed_line i line fit inside h = record {
  begins = λ unit c there within.
      (let online = has_block i.shape c within.block (chunk_fits i line unit c fit there).0 within.there in
      let found = in_line i line unit c there online in
      h.begins line found.0 c within.block inside found.1 within.there within.narrower);
  ends = λ start e starts is_end. h.ends line start e inside starts is_end;
}

-- an end record agrees with its line
pub agrees_of : (i : Image) (line : ℕ) (e : EndRecord) → IsClosedLine i line → HasMarks i line e.pairs → AgreesWithLine i line e
agrees_of i line e closed marks = record {
  closed = all_by_get (λ (c : Chunk). c.state ≢ states.Open) (line_chunks i line)
      (λ k c there. (let found = from_line i line k c there in closed found.0 c found.1));
  marks = marks;
}

pub closed_line : (i : Image) (line : ℕ) (e : EndRecord) → AgreesWithLine i line e → IsClosedLine i line
closed_line i line e h unit c there is_open =
    let found = in_line i line unit c there (open_online c is_open) in
    all_get (λ (c : Chunk). c.state ≢ states.Open) (line_chunks i line) found.0 c h.closed found.1 is_open

pub sealed_by : (i : Image) (line : ℕ) (start : StartRecord) (e : EndRecord) → start_of i line ≡ Some start → end_of i line start ≡ Some e → BeginsWell i line
    → AgreesWithLine i line e → IsSealedIn i line
sealed_by i line start e starts is_end begins agrees = record {
  begins = begins;
  ends = λ other f other_starts is_f.
      (let same : other ≡ start = same_Some other start (sym other_starts ∙ starts) in
      let one : f ≡ e = same_Some f e (sym is_f ∙ ap (end_of i line) same ∙ is_end) in
      subst (AgreesWithLine i line) (sym one) agrees);
}

pub sealed_no_start : (i : Image) (line : ℕ) → BeginsWell i line → start_of i line ≡ None → IsSealedIn i line
sealed_no_start i line begins none = record { begins = begins; ends = λ start e starts is_end. absurd (none-some start (sym none ∙ starts)) }

pub sealed_no_end : (i : Image) (line : ℕ) (s : StartRecord) → BeginsWell i line → start_of i line ≡ Some s → end_of i line s ≡ None → IsSealedIn i line
sealed_no_end i line s begins is none = record {
  begins = begins;
  ends = λ start e starts is_end. absurd (none-some e (sym none ∙ ap (end_of i line) (same_Some s start (sym is ∙ starts)) ∙ is_end));
}

pub moved_line : (i j : Image) (n m : ℕ) → i ≡ j → n ≡ m → IsTidyLine i n → IsTidyLine j m
moved_line i j n m image number h = subst (λ k. IsTidyLine j k) number (subst (λ x. IsTidyLine x n) image h)

-- one line more
pub next_line : (i : Image) (n : ℕ) → IsTidyLine i n → ((line : ℕ) → line < n → IsTidyLine i line) → (line : ℕ) → line < n + 1 → IsTidyLine i line
next_line i n here before line below = by_place (cases_lt line n) where
  by_place : (line < n) ⊎ (n ≤ line) → IsTidyLine i line
  by_place (inl less) = before line less
  by_place (inr most) = let same : n ≡ line = omega arith in subst (IsTidyLine i) same here

pub tidy_line : (i : Image) (line : ℕ) → IsFit i → line < i.shape.chunks → IsTidy i → IsTidyLine i line
tidy_line i line fit inside h = (whole_line i line h.whole, sealed_line i line fit inside h.sealed)

pub tidy_of : (i : Image) → IsFit i → ((line : ℕ) → line < i.shape.chunks → IsTidyLine i line)
    → 4 ≤ length (filter (has_free_chunks i) (range_with_len 0 i.shape.chunks)) → IsTidy i
tidy_of i fit h free = record {
  sealed = sealed_of i (λ line inside. (h line inside).1);
  whole = whole_of i fit (λ line inside. (h line inside).0);
  some_free = free;
}

-- Lines with Free chunks alone.

all_free : (line : ℕ) (us : List (List Chunk))
    → ((unit : ℕ) (c : Chunk) → option_and_then (λ (cs : List Chunk). slice_get cs line) (slice_get us unit) ≡ Some c → is_free_state c.state ≡ true)
    → list_all (λ (c : Chunk). is_free_state c.state) (filter_map (λ (cs : List Chunk). slice_get cs line) us) ≡ true
all_free line [] h = refl
all_free line (u ∷ us) h = by_first (slice_get u line) (h 0) (all_free line us (λ unit c there. h (suc unit) c there)) where
  by_first : (o : Option Chunk) → ((c : Chunk) → o ≡ Some c → is_free_state c.state ≡ true)
      → list_all (λ (c : Chunk). is_free_state c.state) (filter_map (λ (cs : List Chunk). slice_get cs line) us) ≡ true
      → list_all (λ (c : Chunk). is_free_state c.state) (cons_option o (filter_map (λ (cs : List Chunk). slice_get cs line) us)) ≡ true
  by_first None here rest = rest
  by_first (Some c) here rest = ap (λ b. b && list_all (λ (c : Chunk). is_free_state c.state) (filter_map (λ (cs : List Chunk). slice_get cs line) us))
      (here c refl) ∙ rest

pub free_of : (i : Image) (line : ℕ) → ((unit : ℕ) (c : Chunk) → chunk_in i line unit ≡ Some c → is_free_state c.state ≡ true) → has_free_chunks i line ≡ true
free_of i line h = all_free line i.units h

one_not_free : (line : ℕ) (us : List (List Chunk)) (unit : ℕ) (c : Chunk)
    → option_and_then (λ (cs : List Chunk). slice_get cs line) (slice_get us unit) ≡ Some c
    → is_free_state c.state ≡ false → list_all (λ (c : Chunk). is_free_state c.state) (filter_map (λ (cs : List Chunk). slice_get cs line) us) ≡ false
one_not_free line [] unit c there fails = absurd (none-some c there)
one_not_free line (u ∷ us) zero c there fails =
    ap (λ o. list_all (λ (c : Chunk). is_free_state c.state) (cons_option o (filter_map (λ (cs : List Chunk). slice_get cs line) us))) there
    ∙ ap (λ b. b && list_all (λ (c : Chunk). is_free_state c.state) (filter_map (λ (cs : List Chunk). slice_get cs line) us)) fails
one_not_free line (u ∷ us) (suc unit) c there fails = by_first (slice_get u line) (one_not_free line us unit c there fails) where
  by_first : (o : Option Chunk) → list_all (λ (c : Chunk). is_free_state c.state) (filter_map (λ (cs : List Chunk). slice_get cs line) us) ≡ false
      → list_all (λ (c : Chunk). is_free_state c.state) (cons_option o (filter_map (λ (cs : List Chunk). slice_get cs line) us)) ≡ false
  by_first None rest = rest
  by_first (Some x) rest = and_false (is_free_state x.state) _ rest

pub not_free : (i : Image) (line unit : ℕ) (c : Chunk) → chunk_in i line unit ≡ Some c → is_free_state c.state ≡ false → has_free_chunks i line ≡ false
not_free i line unit c there fails = one_not_free line i.units unit c there fails

-- how many there are, one line more

free_more : (f : ℕ → Bool) (n : ℕ) → length (filter f (range_with_len 0 (n + 1))) ≡ length (filter f (range_with_len 0 n)) + cond (f n) 1 0
free_more f n =
    ap (λ xs. length (filter f xs)) (range_from_0 n) ∙ ap length (filter_both f (range_with_len 0 n) (n ∷ []))
    ∙ length-append (filter f (range_with_len 0 n)) (filter f (n ∷ [])) ∙ ap (λ m. length (filter f (range_with_len 0 n)) + m) (length_kept (f n) n)

pub free_yes : (f : ℕ → Bool) (n m : ℕ) → f n ≡ true → m ≡ length (filter f (range_with_len 0 n)) → m + 1 ≡ length (filter f (range_with_len 0 (n + 1)))
free_yes f n m holds is = ap (λ k. k + 1) is ∙ sym (free_more f n ∙ ap (λ b. length (filter f (range_with_len 0 n)) + cond b 1 0) holds)

pub free_no : (f : ℕ → Bool) (n m : ℕ) → f n ≡ false → m ≡ length (filter f (range_with_len 0 n)) → m ≡ length (filter f (range_with_len 0 (n + 1)))
free_no f n m fails is =
    let count = length (filter f (range_with_len 0 n)) in
    is ∙ sym (free_more f n ∙ ap (λ b. count + cond b 1 0) fails ∙ add-zero count)

-- Unit by unit.

module _ (i : Image) (line : ℕ) (P : Chunk → Type 0) where
  -- what holds of the chunks of the units below a number
  abbrev pub HoldsBelow : ℕ → Type 0
  HoldsBelow n = (u : ℕ) (c : Chunk) → u < n → chunk_in i line u ≡ Some c → P c

  pub none_below : HoldsBelow 0
  none_below u c below there = absurd (omega arith)

  pub one_below : (n : ℕ) (x : Chunk) → chunk_in i line n ≡ Some x → P x → HoldsBelow n → HoldsBelow (n + 1)
  one_below n x here holds before u c below there = by_place (cases_lt u n) where
    by_place : (u < n) ⊎ (n ≤ u) → P c
    by_place (inl less) = before u c less there
    by_place (inr most) =
        let same : u ≡ n = omega arith in
        subst P (same_Some x c (sym here ∙ ap (chunk_in i line) (sym same) ∙ there)) holds

  pub all_below : (n : ℕ) → IsFit i → n ≡ units i.shape → HoldsBelow n → (u : ℕ) (c : Chunk) → chunk_in i line u ≡ Some c → P c
  all_below n fit all before u c there = before u c (omega (arith, (chunk_fits i line u c fit there).1, all)) there

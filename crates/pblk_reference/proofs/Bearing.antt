-- The records of a line, and of all lines.
use Rattle.std.proofs.Common.{◌≡◌, ℕ, ◌*◌, List, [], Option, Some, None, sym, ap, ◌∙◌}
use Rattle.std.specs.List.{filter_map, flat_map, range_with_len}
use Rattle.std.specs.Option.{option_and_then}
use Rattle.pblk_model.specs.declared.shape.Shape.{Shape}
use Rattle.pblk_model.specs.declared.chunk.Mark.{Mark}
use Rattle.pblk_model.specs.Chunk.{Block}
use Rattle.pblk_model.specs.Image.{Image, width, block_at}
use Rattle.pblk_model.specs.StartRecord.{StartRecord, start_of}
use Rattle.pblk_model.specs.EndRecord.{EndRecord, end_of}
use Rattle.pblk_model.specs.Records.{Record, mark_at, bears, records_after, records}
use Rattle.pblk_reference.specs.Reading.{record_with, records_on}

pub no_records : (i : Image) (line : ℕ) (o : Option StartRecord) → o ≡ start_of i line → o ≡ None → [] ≡ records_on i line
unfolding records_on
no_records i line o o-is none = ap (records_after i line) (sym none ∙ o-is)

pub some_records : (i : Image) (line seq : ℕ) (start : StartRecord) (o : Option StartRecord) (e : Option EndRecord) (found : List Record) → o ≡ start_of i line
    → o ≡ Some start → seq ≡ start.seq → e ≡ end_of i line start
    → found ≡ filter_map (record_with i line seq e) (range_with_len 0 (width i line * i.shape.clba)) → found ≡ records_on i line
unfolding records_on record_with
some_records i line seq start o e found o-is some seq-is e-is found-is =
    found-is ∙ ap (λ q. filter_map (record_with i line q e) (range_with_len 0 (width i line * i.shape.clba))) seq-is
    ∙ ap (λ x. filter_map (record_with i line start.seq x) (range_with_len 0 (width i line * i.shape.clba))) e-is ∙ ap (records_after i line) (sym some ∙ o-is)

pub all_records : (i : Image) (n : ℕ) (all : List Record) → n ≡ i.shape.chunks → all ≡ flat_map (records_on i) (range_with_len 0 n) → all ≡ records i
unfolding records_on
all_records i n all n-is all-is = all-is ∙ ap (λ m. flat_map (records_on i) (range_with_len 0 m)) n-is

-- the record of one block
pub no_block : (i : Image) (line seq : ℕ) (e : Option EndRecord) (a : ℕ) → None ≡ block_at i line a → None ≡ record_with i line seq e a
unfolding record_with
no_block i line seq e a none = ap (option_and_then (λ block. option_and_then (bears i.shape line seq a block) (mark_at i.shape e a block))) none

pub no_mark : (i : Image) (line seq : ℕ) (e : Option EndRecord) (a : ℕ) (s : Shape) (block : Block) → s ≡ i.shape → Some block ≡ block_at i line a
    → None ≡ mark_at s e a block → None ≡ record_with i line seq e a
unfolding record_with
no_mark i line seq e a s block s-is block-is none =
    ap (option_and_then (bears i.shape line seq a block)) (none ∙ ap (λ (x : Shape). mark_at x e a block) s-is)
    ∙ ap (option_and_then (λ b. option_and_then (bears i.shape line seq a b) (mark_at i.shape e a b))) block-is

pub borne_by : (i : Image) (line seq : ℕ) (e : Option EndRecord) (a : ℕ) (s : Shape) (block : Block) (mark : Mark) → s ≡ i.shape
    → Some block ≡ block_at i line a → Some mark ≡ mark_at s e a block
    → bears s line seq a block mark ≡ record_with i line seq e a
unfolding record_with
borne_by i line seq e a s block mark s-is block-is mark-is =
    ap (λ (x : Shape). bears x line seq a block mark) s-is
    ∙ ap (option_and_then (bears i.shape line seq a block)) (mark-is ∙ ap (λ (x : Shape). mark_at x e a block) s-is)
    ∙ ap (option_and_then (λ b. option_and_then (bears i.shape line seq a b) (mark_at i.shape e a b))) block-is

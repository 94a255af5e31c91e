-- Runs of written blocks, and the records that they spell.
use Rattle.std.proofs.Common.{◌≡◌, ℕ, ◌+◌, ◌-◌, ◌*◌, suc, if◌then◌else◌, Bool, true, false, cond, List, [], ◌∷◌, ◌++◌, Option, Some, None, refl, sym, ap, ◌∙◌, append_assoc, append-nil}
use Rattle.std.specs.List.{cons_option, filter_map, flat_map, range_with_len}
use Rattle.std.specs.Option.{option_and_then, option_map}
use Rattle.pblk_model.specs.declared.chunk.Mark.{Mark}
use Rattle.pblk_model.specs.declared.shape.Shape.{Shape}
use Rattle.pblk_model.specs.Chunk.{Block}
use Rattle.pblk_model.specs.Image.{Image, block_at, width}
use Rattle.pblk_model.specs.LineOrder.{start_len, end_len}
use Rattle.pblk_model.specs.StartRecord.{StartRecord, have_meta, marked_start, read_start, start_of, written_run}
use Rattle.pblk_model.specs.EndRecord.{EndRecord, end_of, read_end}
use Rattle.pblk_model.specs.Records.{Record, bears, line_records, mark_at, named, record_at, records_after}
use Rattle.pblk_model.proofs.Maps.{made_last}

-- what is left of a run decides
pub run_step : (i : Image) (line a n : ℕ) (b : Block) → block_at i line a ≡ Some b
    → written_run i line a (suc n) ≡ option_map (λ blocks. b ∷ blocks) (written_run i line (a + 1) n)
unfolding written_run
run_step i line a n b there = ap (option_and_then (λ block. option_map (λ blocks. block ∷ blocks) (written_run i line (a + 1) n))) there

pub run_stop : (i : Image) (line a n : ℕ) → block_at i line a ≡ None → written_run i line a (suc n) ≡ None
unfolding written_run
run_stop i line a n none = ap (option_and_then (λ block. option_map (λ blocks. block ∷ blocks) (written_run i line (a + 1) n))) none

pub run_done : (i : Image) (line a : ℕ) → written_run i line a 0 ≡ Some []
unfolding written_run
run_done i line a = refl

-- blocks and those of a run after them
abbrev pub then_run : List Block → Option (List Block) → Option (List Block)
then_run front o = option_map (λ rest. front ++ rest) o

moved : (front : List Block) (b : Block) (o : Option (List Block)) → then_run front (option_map (λ blocks. b ∷ blocks) o) ≡ then_run (front ++ b ∷ []) o
moved front b None = refl
moved front b (Some rest) = ap Some (sym (append_assoc front (b ∷ []) rest))

pub run_more : (i : Image) (line a n m : ℕ) (front now : List Block) (b : Block) (total : Option (List Block)) → n ≡ suc m → Some b ≡ block_at i line a
    → now ≡ front ++ b ∷ []
    → then_run front (written_run i line a n) ≡ total → then_run now (written_run i line (a + 1) m) ≡ total
run_more i line a n m front now b total n-is there now-is so_far =
    ap (λ xs. then_run xs (written_run i line (a + 1) m)) now-is ∙ sym (moved front b (written_run i line (a + 1) m))
    ∙ ap (then_run front) (sym (run_step i line a m b (sym there))) ∙ ap (λ k. then_run front (written_run i line a k)) (sym n-is) ∙ so_far

pub run_none : (i : Image) (line a n m : ℕ) (front : List Block) (total : Option (List Block)) → n ≡ suc m → None ≡ block_at i line a
    → then_run front (written_run i line a n) ≡ total → None ≡ total
run_none i line a n m front total n-is none so_far =
    sym (ap (then_run front) (run_stop i line a m (sym none))) ∙ ap (λ k. then_run front (written_run i line a k)) (sym n-is) ∙ so_far

pub run_all : (i : Image) (line a n : ℕ) (front : List Block) (total : Option (List Block)) → n ≡ 0 → then_run front (written_run i line a n) ≡ total
    → Some front ≡ total
run_all i line a n front total n-is so_far = ap Some (sym (append-nil front)) ∙ sym (ap (then_run front) (run_done i line a))
    ∙ ap (λ k. then_run front (written_run i line a k)) (sym n-is) ∙ so_far

pub run_first : (o : Option (List Block)) → then_run [] o ≡ o
run_first None = refl
run_first (Some rest) = refl

-- The start record.

abbrev pub bytes_of : List Block → List ℕ
bytes_of blocks = flat_map (λ b. b.sector) blocks

abbrev start_with : Image → ℕ → Option (List Block) → Option StartRecord
start_with i line o = option_and_then (λ blocks. marked_start blocks (read_start i.shape line (width i line) (bytes_of blocks))) o

pub start_unwritten : (i : Image) (line : ℕ) → None ≡ written_run i line 0 (start_len i.shape) → None ≡ start_of i line
start_unwritten i line none = ap (start_with i line) none

pub start_unread : (i : Image) (line : ℕ) (blocks : List Block) → Some blocks ≡ written_run i line 0 (start_len i.shape)
    → None ≡ read_start i.shape line (width i line) (bytes_of blocks) → None ≡ start_of i line
start_unread i line blocks run none = ap (marked_start blocks) none ∙ ap (start_with i line) run

marked_by : (blocks : List Block) (r : StartRecord) (b : Bool) → have_meta r.seq blocks ≡ b → cond b (Some r) None ≡ marked_start blocks (Some r)
marked_by blocks r b h = ap (λ x. cond x (Some r) None) (sym h)

pub start_read : (i : Image) (line : ℕ) (blocks : List Block) (r : StartRecord) (b : Bool) → Some blocks ≡ written_run i line 0 (start_len i.shape)
    → Some r ≡ read_start i.shape line (width i line) (bytes_of blocks) → have_meta r.seq blocks ≡ b → cond b (Some r) None ≡ start_of i line
start_read i line blocks r b run read marked = marked_by blocks r b marked ∙ ap (marked_start blocks) read ∙ ap (start_with i line) run

-- The end record.

abbrev end_with : Image → ℕ → ℕ → Option (List Block) → Option EndRecord
end_with i line seq o = option_and_then (λ blocks. if have_meta seq blocks then read_end i.shape line (width i line) seq (bytes_of blocks) else None) o

abbrev end_run : Image → ℕ → Option (List Block)
end_run i line = written_run i line (width i line * i.shape.clba - end_len i.shape (width i line)) (end_len i.shape (width i line))

pub end_unwritten : (i : Image) (line : ℕ) (start : StartRecord) → None ≡ end_run i line → None ≡ end_of i line start
end_unwritten i line start none = ap (end_with i line start.seq) none

pub end_unmarked : (i : Image) (line seq : ℕ) (start : StartRecord) (blocks : List Block) → start.seq ≡ seq → Some blocks ≡ end_run i line
    → have_meta seq blocks ≡ false → None ≡ end_of i line start
end_unmarked i line seq start blocks seq-is run marked =
    ap (λ b. cond b (read_end i.shape line (width i line) seq (bytes_of blocks)) None) (sym marked)
    ∙ ap (λ n. end_with i line n (Some blocks)) (sym seq-is) ∙ ap (end_with i line start.seq) run

pub end_read : (i : Image) (line seq : ℕ) (start : StartRecord) (blocks : List Block) (o : Option EndRecord) → start.seq ≡ seq → Some blocks ≡ end_run i line
    → have_meta seq blocks ≡ true → o ≡ read_end i.shape line (width i line) seq (bytes_of blocks) → o ≡ end_of i line start
end_read i line seq start blocks o seq-is run marked o-is =
    o-is ∙ ap (λ b. cond b (read_end i.shape line (width i line) seq (bytes_of blocks)) None) (sym marked)
    ∙ ap (λ n. end_with i line n (Some blocks)) (sym seq-is) ∙ ap (end_with i line start.seq) run

-- The records.

abbrev by_mark : Image → ℕ → ℕ → ℕ → Block → Option Mark → Option Record
by_mark i line seq a block o = option_and_then (bears i.shape line seq a block) o

abbrev record_by : Image → ℕ → ℕ → Option EndRecord → ℕ → Option Block → Option Record
record_by i line seq e a o = option_and_then (λ block. by_mark i line seq a block (mark_at i.shape e a block)) o

pub no_block : (i : Image) (line : ℕ) (start : StartRecord) (a : ℕ) → None ≡ block_at i line a → None ≡ record_at i line start a
no_block i line start a none = ap (record_by i line start.seq (end_of i line start) a) none

module _ (i : Image) (line seq : ℕ) (start : StartRecord) (e : Option EndRecord) (a : ℕ) (block : Block) (seq-is : start.seq ≡ seq)
    (e-is : e ≡ end_of i line start) (there : Some block ≡ block_at i line a) where
  here : by_mark i line seq a block (mark_at i.shape e a block) ≡ record_at i line start a
  here = ap (λ o. by_mark i line seq a block (mark_at i.shape o a block)) e-is
      ∙ ap (λ n. by_mark i line n a block (mark_at i.shape (end_of i line start) a block)) (sym seq-is)
      ∙ ap (record_by i line start.seq (end_of i line start) a) there

  pub no_mark : None ≡ mark_at i.shape e a block → None ≡ record_at i line start a
  no_mark none = ap (by_mark i line seq a block) none ∙ here

  module _ (m : Mark) (marked : Some m ≡ mark_at i.shape e a block) where
    abbrev made : Option ℕ → Record
    made lba = record { line = line; seq = seq; at = a; position = m.position; lba = lba; sector = block.sector }

    pub no_name : None ≡ named i.shape m → None ≡ record_at i line start a
    no_name none = ap (option_map made) none ∙ ap (by_mark i line seq a block) marked ∙ here

    pub a_record : (lba : Option ℕ) → Some lba ≡ named i.shape m → Some (made lba) ≡ record_at i line start a
    a_record lba name = ap (option_map made) name ∙ ap (by_mark i line seq a block) marked ∙ here

-- the records of the first blocks
abbrev pub records_to : Image → ℕ → StartRecord → ℕ → List Record
records_to i line start n = filter_map (record_at i line start) (range_with_len 0 n)

pub last_none : {Y : Type 0} (f : ℕ → Option Y) (n : ℕ) (ys : List Y) → None ≡ f n → ys ≡ filter_map f (range_with_len 0 n)
    → ys ≡ filter_map f (range_with_len 0 (n + 1))
last_none f n ys none is = is ∙ sym (append-nil (filter_map f (range_with_len 0 n))) ∙ ap (λ o. filter_map f (range_with_len 0 n) ++ cons_option o []) none
    ∙ sym (made_last f n)

pub last_some : {Y : Type 0} (f : ℕ → Option Y) (n : ℕ) (ys now : List Y) (y : Y) → Some y ≡ f n → now ≡ ys ++ y ∷ [] → ys ≡ filter_map f (range_with_len 0 n)
    → now ≡ filter_map f (range_with_len 0 (n + 1))
last_some f n ys now y some now-is is = now-is ∙ ap (λ xs. xs ++ y ∷ []) is ∙ ap (λ o. filter_map f (range_with_len 0 n) ++ cons_option o []) some
    ∙ sym (made_last f n)

pub no_records : (i : Image) (line : ℕ) → None ≡ start_of i line → [] ≡ line_records i line
no_records i line none = ap (records_after i line) none

pub all_records : (i : Image) (line n : ℕ) (start : StartRecord) (rs : List Record) → Some start ≡ start_of i line → n ≡ width i line * i.shape.clba
    → rs ≡ records_to i line start n → rs ≡ line_records i line
all_records i line n start rs some n-is is = is ∙ ap (records_to i line start) n-is ∙ ap (records_after i line) some

-- The same bytes are read alike.

pub start_alike : (s t : Shape) (k line g h : ℕ) (xs ys : List ℕ) → s ≡ t → k ≡ line → g ≡ h → xs ≡ ys → read_start s k g xs ≡ read_start t line h ys
start_alike s t k line g h xs ys shape number width bytes =
    ap (λ x. read_start x k g xs) shape ∙ ap (λ x. read_start t x g xs) number ∙ ap (λ x. read_start t line x xs) width ∙ ap (read_start t line h) bytes

pub end_alike : (s t : Shape) (k line g h seq : ℕ) (xs ys : List ℕ) → s ≡ t → k ≡ line → g ≡ h → xs ≡ ys → read_end s k g seq xs ≡ read_end t line h seq ys
end_alike s t k line g h seq xs ys shape number width bytes =
    ap (λ x. read_end x k g seq xs) shape ∙ ap (λ x. read_end t x g seq xs) number ∙ ap (λ x. read_end t line x seq xs) width ∙ ap (read_end t line h seq) bytes

-- Reading a line's records from its blocks, step by step.
use Rattle.std.proofs.Common.{◌≡◌, ℕ, ◌-◌, ◌<◌, ◌≤◌, ◌==◌, ◌&&◌, Bool, true, false, cond, List, [], ◌∷◌, ◌++◌, length, take, drop, Option, Some, None, refl, sym, ap, ◌∙◌, arith, length-drop}
use Rattle.std.specs.List.{flat_map}
use Rattle.std.specs.Option.{option_map}
use Rattle.std.proofs.lemmas.Option.{none-some, same_Some}
use Rattle.std.proofs.lemmas.Bool.{lt-ltb, le-ltb}
use Rattle.pblk_model.specs.declared.shape.Shape.{Shape}
use Rattle.pblk_model.specs.Chunk.{Block}
use Rattle.pblk_model.specs.LineOrder.{start_len, end_len}
use Rattle.pblk_model.specs.Marks.{meta_lba}
use Rattle.pblk_model.specs.StartRecord.{StartRecord, have_meta, marked_start, read_start}
use Rattle.pblk_model.specs.EndRecord.{EndRecord, read_end}
use Rattle.scan_recovery.specs.Reading.{run_of, sectors_of, have_mark, start_from, start_among, end_from, end_among}
use Rattle.pblk_model.proofs.Parts.{take_all}

-- Runs of written blocks.

abbrev bytes_of : List Block → List ℕ
bytes_of blocks = flat_map (λ b. b.sector) blocks

map_twice : (b : Block) (o : Option (List Block))
    → option_map (λ rest. b.sector ++ rest) (option_map bytes_of o) ≡ option_map bytes_of (option_map (λ rest. b ∷ rest) o)
map_twice b None = refl
map_twice b (Some blocks) = refl

sectors_run : (bs : List (Option Block)) → sectors_of bs ≡ option_map bytes_of (run_of bs)
sectors_run [] = refl
sectors_run (None ∷ bs) = refl
sectors_run (Some b ∷ bs) = ap (option_map (λ rest. b.sector ++ rest)) (sectors_run bs) ∙ map_twice b (run_of bs)

record IsWritten (bs : List (Option Block)) (bytes : List ℕ) : Type 0 where
  blocks : List Block
  run : run_of bs ≡ Some blocks
  bytes_are : bytes_of blocks ≡ bytes

written_by : (o : Option (List Block)) (bytes : List ℕ) → option_map bytes_of o ≡ Some bytes
    → (blocks : List Block) × (o ≡ Some blocks) × (bytes_of blocks ≡ bytes)
written_by None bytes h = absurd (none-some bytes h)
written_by (Some blocks) bytes h = (blocks, refl, same_Some (bytes_of blocks) bytes h)

written : (bs : List (Option Block)) (bytes : List ℕ) → sectors_of bs ≡ Some bytes → IsWritten bs bytes
written bs bytes h = let w = written_by (run_of bs) bytes (sym (sectors_run bs) ∙ h) in record { blocks = w.0; run = w.1; bytes_are = w.2 }

none_by : (o : Option (List Block)) → option_map bytes_of o ≡ None → o ≡ None
none_by None h = refl
none_by (Some blocks) h = absurd (none-some (bytes_of blocks) (sym h))

unwritten : (bs : List (Option Block)) → sectors_of bs ≡ None → run_of bs ≡ None
unwritten bs h = none_by (run_of bs) (sym (sectors_run bs) ∙ h)

cons_by : (b : Block) (o : Option (List Block)) (blocks : List Block) → option_map (λ rest. b ∷ rest) o ≡ Some blocks
    → (rest : List Block) × (o ≡ Some rest) × (b ∷ rest ≡ blocks)
cons_by b None blocks h = absurd (none-some blocks h)
cons_by b (Some rest) blocks h = (rest, refl, same_Some (b ∷ rest) blocks h)

abbrev is_marked : ℕ → Block → Bool
is_marked seq b = (b.mark.lba == meta_lba) && (b.mark.position == seq)

mark_run : (seq : ℕ) (bs : List (Option Block)) (blocks : List Block) → run_of bs ≡ Some blocks → have_mark seq bs ≡ have_meta seq blocks
mark_run seq [] blocks h = ap (have_meta seq) (same_Some [] blocks h)
mark_run seq (None ∷ bs) blocks h = absurd (none-some blocks h)
mark_run seq (Some b ∷ bs) blocks h =
    let c = cons_by b (run_of bs) blocks h in
    ap (λ x. is_marked seq b && x) (mark_run seq bs c.0 c.1) ∙ ap (have_meta seq) c.2

-- The start record.

marked_by : (blocks : List Block) (r : StartRecord) (b : Bool) → have_meta r.seq blocks ≡ b → marked_start blocks (Some r) ≡ cond b (Some r) None
marked_by blocks r b h = ap (λ x. cond x (Some r) None) h

start_run : (s : Shape) (line g : ℕ) (bs : List (Option Block)) (bytes : List ℕ) (w : IsWritten bs bytes)
    → start_from s line g (run_of bs) ≡ marked_start w.blocks (read_start s line g bytes)
start_run s line g bs bytes w = ap (start_from s line g) w.run ∙ ap (λ x. marked_start w.blocks (read_start s line g x)) w.bytes_are

start_long : (s : Shape) (line g n : ℕ) (bs : List (Option Block)) → n ≡ start_len s → n ≤ length bs
    → start_among s line g bs ≡ start_from s line g (run_of (take n bs))
unfolding start_among
start_long s line g n bs n-is long =
    ap (λ b. cond b None (start_from s line g (run_of (take (start_len s) bs)))) (le-ltb (length bs) (start_len s) (omega arith))
    ∙ ap (λ m. start_from s line g (run_of (take m bs))) (sym n-is)

pub start_short : (s : Shape) (line g n : ℕ) (bs : List (Option Block)) → n ≡ start_len s → length bs < n → None ≡ start_among s line g bs
unfolding start_among
start_short s line g n bs n-is short =
    sym (ap (λ b. cond b None (start_from s line g (run_of (take (start_len s) bs)))) (lt-ltb (length bs) (start_len s) (omega arith)))

pub start_unwritten : (s : Shape) (line g n : ℕ) (bs : List (Option Block)) → n ≡ start_len s → n ≤ length bs → sectors_of (take n bs) ≡ None
    → None ≡ start_among s line g bs
start_unwritten s line g n bs n-is long none = sym (start_long s line g n bs n-is long ∙ ap (start_from s line g) (unwritten (take n bs) none))

pub start_unread : (s : Shape) (line g n : ℕ) (bs : List (Option Block)) (bytes : List ℕ) → n ≡ start_len s → n ≤ length bs
    → sectors_of (take n bs) ≡ Some bytes → read_start s line g bytes ≡ None → None ≡ start_among s line g bs
start_unread s line g n bs bytes n-is long some none =
    let w = written (take n bs) bytes some in
    sym (start_long s line g n bs n-is long ∙ start_run s line g (take n bs) bytes w ∙ ap (marked_start w.blocks) none)

pub start_read : (s : Shape) (line g n : ℕ) (bs : List (Option Block)) (bytes : List ℕ) (r : StartRecord) (b : Bool) → n ≡ start_len s → n ≤ length bs
    → sectors_of (take n bs) ≡ Some bytes → read_start s line g bytes ≡ Some r
    → have_mark r.seq (take n bs) ≡ b → cond b (Some r) None ≡ start_among s line g bs
start_read s line g n bs bytes r b n-is long some read mark =
    let w = written (take n bs) bytes some in
    sym (start_long s line g n bs n-is long ∙ start_run s line g (take n bs) bytes w ∙ ap (marked_start w.blocks) read
    ∙ marked_by w.blocks r b (sym (mark_run r.seq (take n bs) w.blocks w.run) ∙ mark))

-- The end record.

end_long : (s : Shape) (line g seq n : ℕ) (bs : List (Option Block)) → n ≡ end_len s g → n ≤ length bs
    → end_among s line g seq bs ≡ end_from s line g seq (run_of (drop (length bs - n) bs))
unfolding end_among
end_long s line g seq n bs n-is long =
    ap (λ b. cond b None (end_from s line g seq (run_of (drop (length bs - end_len s g) bs)))) (le-ltb (length bs) (end_len s g) (omega arith))
    ∙ ap (λ m. end_from s line g seq (run_of (drop (length bs - m) bs))) (sym n-is)

pub end_short : (s : Shape) (line g seq n : ℕ) (bs : List (Option Block)) → n ≡ end_len s g → length bs < n → None ≡ end_among s line g seq bs
unfolding end_among
end_short s line g seq n bs n-is short =
    sym (ap (λ b. cond b None (end_from s line g seq (run_of (drop (length bs - end_len s g) bs)))) (lt-ltb (length bs) (end_len s g) (omega arith)))

end_none : (s : Shape) (line g seq : ℕ) (bs : List (Option Block)) (o : Option (List Block)) → run_of bs ≡ o → have_mark seq bs ≡ false
    → end_from s line g seq o ≡ None
end_none s line g seq bs None is h = refl
end_none s line g seq bs (Some blocks) is h = ap (λ b. cond b (read_end s line g seq (bytes_of blocks)) None) (sym (mark_run seq bs blocks is) ∙ h)

pub end_unmarked : (s : Shape) (line g seq n : ℕ) (bs : List (Option Block)) → n ≡ end_len s g → n ≤ length bs → have_mark seq (drop (length bs - n) bs) ≡ false
    → None ≡ end_among s line g seq bs
end_unmarked s line g seq n bs n-is long mark =
    sym (end_long s line g seq n bs n-is long ∙ end_none s line g seq (drop (length bs - n) bs) (run_of (drop (length bs - n) bs)) refl mark)

pub end_unwritten : (s : Shape) (line g seq n : ℕ) (bs : List (Option Block)) → n ≡ end_len s g → n ≤ length bs → sectors_of (drop (length bs - n) bs) ≡ None
    → None ≡ end_among s line g seq bs
end_unwritten s line g seq n bs n-is long none =
    sym (end_long s line g seq n bs n-is long ∙ ap (end_from s line g seq) (unwritten (drop (length bs - n) bs) none))

pub end_reads : (s : Shape) (line g seq n : ℕ) (bs : List (Option Block)) (bytes : List ℕ) (o : Option EndRecord) → n ≡ end_len s g → n ≤ length bs
    → have_mark seq (drop (length bs - n) bs) ≡ true
    → sectors_of (drop (length bs - n) bs) ≡ Some bytes → o ≡ read_end s line g seq bytes → o ≡ end_among s line g seq bs
end_reads s line g seq n bs bytes o n-is long mark some o-is =
    let run : List (Option Block) = drop (length bs - n) bs in
    let w = written run bytes some in
    let read : end_from s line g seq (run_of run) ≡ read_end s line g seq bytes =
    ap (end_from s line g seq) w.run ∙ ap (λ b. cond b (read_end s line g seq (bytes_of w.blocks)) None) (sym (mark_run seq run w.blocks w.run) ∙ mark)
    ∙ ap (read_end s line g seq) w.bytes_are in
    o-is ∙ sym (end_long s line g seq n bs n-is long ∙ read)

-- the blocks behind a place
pub tail_is : {X : Type 0} (bs : List X) (k : ℕ) → take (length bs - k) (drop k bs) ≡ drop k bs
tail_is bs k = take_all (drop k bs) (length bs - k) (omega (arith, length-drop k bs))

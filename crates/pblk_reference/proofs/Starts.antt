-- Reading a start record step by step.
use Rattle.std.proofs.Common.{◌≡◌, ℕ, suc, leb, ◌+◌, ◌-◌, ◌<◌, ◌≤◌, Bool, true, false, cond, ◌&&◌, ◌==◌, nat_le, nat_lt, ◌^◌, List, [], ◌∷◌, ◌++◌, length, drop, Option, Some, None, refl, sym, ap, subst, ◌∙◌, append_assoc, arith}
use Rattle.std.specs.Option.{option_map, option_and_then}
use Rattle.std.specs.Str.{bytes_eq}
use Rattle.std.specs.List.{flat_map}
use Rattle.std.specs.Int.{w32, w64}
use Rattle.std.proofs.lemmas.List.{append-nil}
use Rattle.std.proofs.lemmas.Bool.{lt-leb}
use Rattle.pblk_model.specs.declared.shape.Shape.{Shape}
use Rattle.pblk_model.specs.Bytes.{number_at}
use Rattle.pblk_model.specs.Chunk.{Block}
use Rattle.pblk_model.specs.LineOrder.{start_len}
use Rattle.pblk_model.specs.Image.{Image, width, block_at}
use Rattle.pblk_model.specs.StartRecord.{Row, StartRecord, rows_in, rows_fit, start_in, start_fits, start_bytes, read_start, written_run, marked_start, start_of}
use Rattle.pblk_reference.specs.Reading.{start_fields, start_read}
use Rattle.pblk_model.proofs.StartRecordLemmas.{length-rows_in}

-- ---- rows

pub rows_go_on : (front now : List Row) (count i line seq bound : ℕ) (bytes rest : List ℕ) (total : List Row) → i < count
    → line ≡ number_at w32 0 bytes → seq ≡ number_at w64 8 bytes → bound ≡ number_at w64 16 bytes → rest ≡ drop 24 bytes
    → now ≡ front ++ record { line = line; seq = seq; bound = bound } ∷ []
    → front ++ rows_in (count - i) bytes ≡ total → now ++ rows_in (count - (i + 1)) rest ≡ total
unfolding rows_in
rows_go_on front now count i line seq bound bytes rest total lt line-is seq-is bound-is rest-is now-is so_far =
    let k : count - i ≡ suc (count - (i + 1)) = omega arith in
    let step : front ++ rows_in (count - i) bytes ≡ front
    ++ (record { line = number_at w32 0 bytes; seq = number_at w64 8 bytes; bound = number_at w64 16 bytes } ∷ rows_in (count - (i + 1)) (drop 24 bytes)) =
    ap (λ n. front ++ rows_in n bytes) k in
    rw (now-is, line-is, seq-is, bound-is, rest-is) (append_assoc front _ _ ∙ sym step ∙ so_far)

pub rows_are_read : (front : List Row) (count i : ℕ) (bytes : List ℕ) (total : List Row) → count ≤ i → front ++ rows_in (count - i) bytes ≡ total
    → front ≡ total
unfolding rows_in
rows_are_read front count i bytes total le so_far =
    let k : count - i ≡ 0 = omega arith in
    let one : front ++ rows_in (count - i) bytes ≡ front = ap (λ n. front ++ rows_in n bytes) k ∙ append-nil front in
    sym one ∙ so_far

-- ---- the choice

none_left : {A : Type 0} (a b : Bool) (x : A) → a ≡ false → None ≡ cond (a && b) (Some x) None
none_left true b x e = absurd cc
none_left false b x e = refl

none_right : {A : Type 0} (a b : Bool) (x : A) → b ≡ false → None ≡ cond (a && b) (Some x) None
none_right true true x e = absurd cc
none_right true false x e = refl
none_right false b x e = refl

some_both : {A : Type 0} (a b : Bool) (x : A) → a ≡ true → b ≡ true → Some x ≡ cond (a && b) (Some x) None
some_both true true x e f = refl
some_both true false x e f = absurd cc
some_both false b x e f = absurd cc

pub unfit : (s : Shape) (line g : ℕ) (bytes : List ℕ) (r : StartRecord) → r ≡ start_fields bytes → start_fits s line g r ≡ false
    → None ≡ start_read s line g bytes
unfolding start_fields start_read
unfit s line g bytes r r-is fits =
    none_left (start_fits s line g (start_in bytes)) (bytes_eq (start_bytes s (start_in bytes)) bytes) (start_in bytes)
    (subst (λ (x : StartRecord). start_fits s line g x ≡ false) r-is fits)

pub misspelled : (s : Shape) (line g : ℕ) (bytes text : List ℕ) (r : StartRecord) → r ≡ start_fields bytes → text ≡ start_bytes s r
    → bytes_eq text bytes ≡ false → None ≡ start_read s line g bytes
unfolding start_fields start_read
misspelled s line g bytes text r r-is text-is differs =
    none_right (start_fits s line g (start_in bytes)) (bytes_eq (start_bytes s (start_in bytes)) bytes) (start_in bytes)
    (subst (λ (x : StartRecord). bytes_eq (start_bytes s x) bytes ≡ false) r-is (subst (λ (t : List ℕ). bytes_eq t bytes ≡ false) text-is differs))

pub spelled : (s : Shape) (line g : ℕ) (bytes text : List ℕ) (r : StartRecord) → r ≡ start_fields bytes → start_fits s line g r ≡ true → text ≡ start_bytes s r
    → bytes_eq text bytes ≡ true → Some r ≡ start_read s line g bytes
unfolding start_fields start_read
spelled s line g bytes text r r-is fits text-is same =
    ap (λ (x : StartRecord). Some x) r-is
    ∙ some_both (start_fits s line g (start_in bytes)) (bytes_eq (start_bytes s (start_in bytes)) bytes) (start_in bytes)
    (subst (λ (x : StartRecord). start_fits s line g x ≡ true) r-is fits)
    (subst (λ (x : StartRecord). bytes_eq (start_bytes s x) bytes ≡ true) r-is (subst (λ (t : List ℕ). bytes_eq t bytes ≡ true) text-is same))

none_fits : (a b c : Bool) → b ≡ false → a && b && c ≡ false
none_fits true true c e = absurd cc
none_fits true false c e = refl
none_fits false b c e = refl

abbrev numbers : Shape → ℕ → ℕ → StartRecord → Bool
numbers s line g r = (r.line == line) && (r.width == g) && (r.capacity == s.capacity)
    && nat_le 1 r.first_seq && nat_le r.first_seq r.seq && nat_lt r.seq (2 ^ 61) && nat_lt r.front (2 ^ 61)

pub too_many : (s : Shape) (line g n : ℕ) (bytes : List ℕ) → n ≡ number_at w32 48 bytes → s.chunks - 1 < n → None ≡ start_read s line g bytes
unfolding start_read
too_many s line g n bytes n-is many =
    let r = start_in bytes in
    let long : length r.rows ≡ n = length-rows_in (number_at w32 48 bytes) (drop 64 bytes) ∙ sym n-is in
    let few : leb (length r.rows) (s.chunks - 1) ≡ false = lt-leb (length r.rows) (s.chunks - 1) (omega (arith, long, many)) in
    none_left (start_fits s line g r) (bytes_eq (start_bytes s r) bytes) r
    (none_fits (numbers s line g r) (leb (length r.rows) (s.chunks - 1)) (rows_fit s r 0 r.rows) few)

-- ---- blocks

regroup : (front : List Block) (block : Block) (r : Option (List Block))
    → option_map (λ bs. front ++ bs) (option_map (λ bs. block ∷ bs) r) ≡ option_map (λ bs. (front ++ block ∷ []) ++ bs) r
regroup front block None = refl
regroup front block (Some bs) = ap (λ (x : List Block). Some x) (sym (append_assoc front (block ∷ []) bs))

pub run_goes_on : (i : Image) (line at n k : ℕ) (front now : List Block) (block : Block) (total : Option (List Block)) → k < n
    → Some block ≡ block_at i line (at + k) → now ≡ front ++ block ∷ []
    → option_map (λ bs. front ++ bs) (written_run i line (at + k) (n - k)) ≡ total
    → option_map (λ bs. now ++ bs) (written_run i line (at + (k + 1)) (n - (k + 1))) ≡ total
unfolding written_run
run_goes_on i line at n k front now block total lt block-is now-is so_far =
    let k-is : n - k ≡ suc (n - (k + 1)) = omega arith in
    let place : at + k + 1 ≡ at + (k + 1) = omega arith in
    let one : written_run i line (at + k) (n - k) ≡ option_map (λ bs. block ∷ bs) (written_run i line (at + (k + 1)) (n - (k + 1))) =
    ap (λ m. written_run i line (at + k) m) k-is
    ∙ ap (λ (o : Option Block). option_and_then (λ b. option_map (λ bs. b ∷ bs) (written_run i line (at + k + 1) (n - (k + 1)))) o) (sym block-is)
    ∙ ap (λ a. option_map (λ bs. block ∷ bs) (written_run i line a (n - (k + 1)))) place in
    ap (λ (x : List Block). option_map (λ bs. x ++ bs) (written_run i line (at + (k + 1)) (n - (k + 1)))) now-is
    ∙ sym (regroup front block (written_run i line (at + (k + 1)) (n - (k + 1))))
    ∙ ap (option_map (λ bs. front ++ bs)) (sym one) ∙ so_far

pub run_stops : (i : Image) (line at n k : ℕ) (front : List Block) (total : Option (List Block)) → k < n
    → None ≡ block_at i line (at + k) → option_map (λ bs. front ++ bs) (written_run i line (at + k) (n - k)) ≡ total → None ≡ total
unfolding written_run
run_stops i line at n k front total lt none so_far =
    let k-is : n - k ≡ suc (n - (k + 1)) = omega arith in
    let one : written_run i line (at + k) (n - k) ≡ None =
    ap (λ m. written_run i line (at + k) m) k-is
    ∙ ap (λ (o : Option Block). option_and_then (λ b. option_map (λ bs. b ∷ bs) (written_run i line (at + k + 1) (n - (k + 1)))) o) (sym none) in
    ap (option_map (λ bs. front ++ bs)) (sym one) ∙ so_far

pub run_is_done : (i : Image) (line at n k : ℕ) (front : List Block) (total : Option (List Block)) → n ≤ k
    → option_map (λ bs. front ++ bs) (written_run i line (at + k) (n - k)) ≡ total → Some front ≡ total
unfolding written_run
run_is_done i line at n k front total le so_far =
    let k-is : n - k ≡ 0 = omega arith in
    let one : option_map (λ bs. front ++ bs) (written_run i line (at + k) (n - k)) ≡ Some front =
    ap (λ m. option_map (λ bs. front ++ bs) (written_run i line (at + k) m)) k-is ∙ ap (λ (x : List Block). Some x) (append-nil front) in
    sym one ∙ so_far

-- ---- the record

pub start_from : (i : Image) (line n g : ℕ) (s : Shape) (blocks : List Block) (bytes : List ℕ) (o : Option StartRecord) → s ≡ i.shape → n ≡ start_len s
    → g ≡ width i line
    → Some blocks ≡ written_run i line 0 n → bytes ≡ flat_map (λ b. b.sector) blocks → o ≡ start_read s line g bytes → marked_start blocks o ≡ start_of i line
unfolding start_read
start_from i line n g s blocks bytes o s-is n-is g-is run-is bytes-is o-is =
    let read : o ≡ start_read i.shape line (width i line) (flat_map (λ b. b.sector) blocks) =
    o-is ∙ ap (λ (x : Shape). start_read x line g bytes) s-is ∙ ap (λ x. start_read i.shape line x bytes) g-is
    ∙ ap (start_read i.shape line (width i line)) bytes-is in
    let run : Some blocks ≡ written_run i line 0 (start_len i.shape) = run-is ∙ ap (written_run i line 0) (n-is ∙ ap start_len s-is) in
    ap (marked_start blocks) read
    ∙ ap (option_and_then (λ bs. marked_start bs (read_start i.shape line (width i line) (flat_map (λ b. b.sector) bs)))) run

pub start_unwritten : (i : Image) (line n : ℕ) (s : Shape) → s ≡ i.shape → n ≡ start_len s → None ≡ written_run i line 0 n → None ≡ start_of i line
start_unwritten i line n s s-is n-is run-is =
    let run : None ≡ written_run i line 0 (start_len i.shape) = run-is ∙ ap (written_run i line 0) (n-is ∙ ap start_len s-is) in
    ap (option_and_then (λ bs. marked_start bs (read_start i.shape line (width i line) (flat_map (λ b. b.sector) bs)))) run

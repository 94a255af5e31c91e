-- Blocks whose sectors lie one after another, and one more of them.
use Rattle.std.proofs.Common.{◌≡◌, ℕ, suc, ◌+◌, ◌-◌, ◌*◌, ◌<◌, ◌≤◌, List, [], ◌∷◌, ◌++◌, length, take, drop, get_or, Option, Some, None, refl, sym, ap, ◌∙◌, subst, arith, zero-add, add-zero, add-one, length-append, length-drop, append_assoc, drop-cons}
use Rattle.std.specs.Option.{IfSome}
use Rattle.std.proofs.lemmas.List.{take-append-le, drop-append-le, length-take-le}
use borrow.Rule.Slice.PartMut.{post_of}
use Rattle.pblk_model.specs.declared.chunk.Mark.{Mark}
use Rattle.pblk_model.specs.Chunk.{Block}
use Rattle.scan_recovery.specs.Packed.{packed, written_count}
use Rattle.pblk_model.proofs.Numbers.{suc-times}
use Rattle.pblk_model.proofs.Parts.{take_all, take_front}
use Rattle.scan_recovery.proofs.Tables.{vec_written}

abbrev block : List ℕ → Mark → Option Block
block sector mark = Some (record { sector = sector; mark = mark })

pub count_more : (ms : List (Option Mark)) (o : Option Mark) → written_count (ms ++ o ∷ []) ≡ written_count ms + written_count (o ∷ [])
count_more [] o = sym (zero-add (written_count (o ∷ [])))
count_more (None ∷ ms) o = count_more ms o
count_more (Some m ∷ ms) o = let rest = count_more ms o in omega arith

pub packed_none : (size : ℕ) (bytes : List ℕ) (ms : List (Option Mark)) → packed size bytes (ms ++ None ∷ []) ≡ packed size bytes ms ++ None ∷ []
packed_none size bytes [] = refl
packed_none size bytes (None ∷ ms) = ap (λ bs. None ∷ bs) (packed_none size bytes ms)
packed_none size bytes (Some m ∷ ms) = ap (λ bs. block (take size bytes) m ∷ bs) (packed_none size (drop size bytes) ms)

some_first : (size : ℕ) (bytes sector : List ℕ) (m : Mark) → length bytes ≡ 0 → length sector ≡ size
    → packed size (bytes ++ sector) (Some m ∷ []) ≡ block sector m ∷ []
some_first size [] sector m none long = ap (λ xs. block xs m ∷ []) (take_all sector size (omega arith))
some_first size (b ∷ bytes) sector m none long = absurd (omega arith)

pub packed_some : (size : ℕ) (bytes sector : List ℕ) (ms : List (Option Mark)) (m : Mark) → length bytes ≡ written_count ms * size → length sector ≡ size
    → packed size (bytes ++ sector) (ms ++ Some m ∷ []) ≡ packed size bytes ms ++ Some (record { sector = sector; mark = m }) ∷ []
packed_some size bytes sector [] m whole long = some_first size bytes sector m (omega arith) long
packed_some size bytes sector (None ∷ ms) m whole long = ap (λ bs. None ∷ bs) (packed_some size bytes sector ms m whole long)
packed_some size bytes sector (Some n ∷ ms) m whole long =
    let all : length bytes ≡ size + written_count ms * size = whole ∙ suc-times (written_count ms) size in
    let within : size ≤ length bytes = omega arith in
    let left : length (drop size bytes) ≡ written_count ms * size = omega (arith, length-drop size bytes) in
    ap (λ xs. block xs n ∷ packed size (drop size (bytes ++ sector)) (ms ++ Some m ∷ [])) (take-append-le size bytes sector within)
    ∙ ap (λ xs. block (take size bytes) n ∷ packed size xs (ms ++ Some m ∷ [])) (drop-append-le size bytes sector within)
    ∙ ap (λ bs. block (take size bytes) n ∷ bs) (packed_some size (drop size bytes) sector ms m left long)

-- the first block is taken off
pub packed_step : (size : ℕ) (bytes rest after : List ℕ) (all left marks : List (Option Mark)) (o : Option Mark) (b : Option Block)
    (front now : List (Option Block)) → left ≡ o ∷ marks
    → ((ms : List (Option Mark)) → packed size rest (o ∷ ms) ≡ b ∷ packed size after ms) → now ≡ front ++ b ∷ []
    → front ++ packed size rest left ≡ packed size bytes all → now ++ packed size after marks ≡ packed size bytes all
packed_step size bytes rest after all left marks o b front now left-is first now-is so_far =
    ap (λ bs. bs ++ packed size after marks) now-is ∙ append_assoc front (b ∷ []) (packed size after marks)
    ∙ ap (λ bs. front ++ bs) (sym (first marks)) ∙ ap (λ ms. front ++ packed size rest ms) (sym left-is) ∙ so_far

pub first_long : (size rest : ℕ) (left marks : List (Option Mark)) (o : Option Mark) → left ≡ o ∷ marks → written_count left * size ≤ rest
    → IfSome o (λ m. size ≤ rest)
first_long size rest left marks None is within = tt
first_long size rest left marks (Some m) is within =
    let few : written_count left * size ≡ size + written_count marks * size = ap (λ n. n * size) (ap written_count is) ∙ suc-times (written_count marks) size in
    omega arith

pub left_step : (size rest after : ℕ) (left marks : List (Option Mark)) (o : Option Mark) → left ≡ o ∷ marks → rest ≡ written_count (o ∷ []) * size + after
    → written_count left * size ≤ rest → written_count marks * size ≤ after
left_step size rest after left marks None is was within =
    let count : written_count left ≡ written_count marks = ap written_count is in
    let few : written_count left * size ≡ written_count marks * size = ap (λ n. n * size) count in
    omega arith
left_step size rest after left marks (Some m) is was within =
    let count : written_count left ≡ suc (written_count marks) = ap written_count is in
    let few : written_count left * size ≡ size + written_count marks * size = ap (λ n. n * size) count ∙ suc-times (written_count marks) size in
    omega arith

-- ---- one block more in a buffer

pub count_none : (marks now : List (Option Mark)) (used size : ℕ) → now ≡ marks ++ None ∷ [] → used ≡ written_count marks * size
    → used ≡ written_count now * size
count_none marks now used size is was =
    let count : written_count marks ≡ written_count now = sym (ap written_count is ∙ count_more marks None ∙ add-zero (written_count marks)) in
    was ∙ ap (λ n. n * size) count

pub count_some : (marks now : List (Option Mark)) (m : Mark) (used size : ℕ) → now ≡ marks ++ Some m ∷ [] → used ≡ written_count marks * size
    → used + size ≡ written_count now * size
count_some marks now m used size is was =
    let count : written_count now ≡ suc (written_count marks) = let e = ap written_count is ∙ count_more marks (Some m) in omega arith in
    let all : written_count now * size ≡ size + written_count marks * size = ap (λ n. n * size) count ∙ suc-times (written_count marks) size in
    omega arith

pub none_added : (size : ℕ) (front : List ℕ) (marks now : List (Option Mark)) (old : List (Option Block)) (o : Option Block) → now ≡ marks ++ None ∷ []
    → packed size front marks ≡ old → o ≡ None
    → packed size front now ≡ old ++ o ∷ []
none_added size front marks now old o is was none =
    ap (packed size front) is ∙ packed_none size front marks ∙ ap (λ bs. bs ++ None ∷ []) was ∙ ap (λ b. old ++ b ∷ []) (sym none)

-- the k-th element and those behind it
pub drop_one : {X : Type 0} (xs : List X) (k : ℕ) (d : X) → k < length xs → drop k xs ≡ get_or xs k d ∷ drop (k + 1) xs
drop_one xs k d inside = drop-cons xs k d inside ∙ ap (λ n. get_or xs k d ∷ drop n xs) (sym (add-one k))

-- a piece that is written over the middle of a list
abbrev written_over : ℕ → ℕ → List ℕ → List ℕ → List ℕ
written_over used size old out = take used old ++ (out ++ post_of used (used + size - used) old)

pub written_length : (used size : ℕ) (old out : List ℕ) → used + size ≤ length old → length out ≡ size → length (written_over used size old out) ≡ length old
written_length used size old out inside long =
    let rest : List ℕ = drop (used + size - used) (drop used old) in
    omega (
      arith,
      length-append (take used old) (out ++ rest),
      length-append out rest,
      length-take-le used old (omega arith),
      length-drop (used + size - used) (drop used old),
      length-drop used old,
    )

-- what a vector begins with once a sector was written behind what was used of it
pub front_added : (len used size : ℕ) (bytes items old out : List ℕ) → used + size ≤ length items → take used items ≡ take used bytes → old ≡ items
    → len ≡ length items → length out ≡ size
    → take (used + size) (take len (written_over used size old out ++ drop (length (written_over used size old out)) items)) ≡ take used bytes ++ out
front_added len used size bytes items old out inside same old-is len-is long =
    let fits : used + size ≤ length old = subst (λ xs. used + size ≤ length xs) (sym old-is) inside in
    let all : length (written_over used size old out) ≡ len = written_length used size old out fits long ∙ ap length old-is ∙ sym len-is in
    let rest : List ℕ = drop (used + size - used) (drop used old) in
    let front : length (take used old ++ out) ≡ used + size = omega (arith, length-append (take used old) out, length-take-le used old (omega arith)) in
    ap (take (used + size)) (vec_written len (written_over used size old out) items all (sym len-is) ∙ sym (append_assoc (take used old) out rest))
    ∙ take_front (take used old ++ out) rest (used + size) front ∙ ap (λ xs. xs ++ out) (ap (take used) old-is ∙ same)

pub still_within : (len used size : ℕ) (items old out : List ℕ) → used + size ≤ length items → old ≡ items → len ≡ length items → length out ≡ size
    → used + size ≤ length (take len (written_over used size old out ++ drop (length (written_over used size old out)) items))
still_within len used size items old out inside old-is len-is long =
    let fits : used + size ≤ length old = subst (λ xs. used + size ≤ length xs) (sym old-is) inside in
    let all : length (written_over used size old out) ≡ len = written_length used size old out fits long ∙ ap length old-is ∙ sym len-is in
    let now = ap length (vec_written len (written_over used size old out) items all (sym len-is)) in
    subst (λ n. used + size ≤ n) (sym (now ∙ all ∙ len-is)) inside

pub some_added : (size used : ℕ) (bytes out front : List ℕ) (marks now : List (Option Mark)) (m : Mark) (old : List (Option Block)) (o : Option Block)
    → front ≡ take used bytes ++ out → used ≤ length bytes
    → used ≡ written_count marks * size → length out ≡ size → now ≡ marks ++ Some m ∷ [] → packed size (take used bytes) marks ≡ old
    → o ≡ Some (record { sector = out; mark = m }) → packed size front now ≡ old ++ o ∷ []
some_added size used bytes out front marks now m old o front-is within was long is held got =
    let whole : length (take used bytes) ≡ written_count marks * size = length-take-le used bytes within ∙ was in
    ap (λ xs. packed size xs now) front-is ∙ ap (packed size (take used bytes ++ out)) is ∙ packed_some size (take used bytes) out marks m whole long
    ∙ ap (λ bs. bs ++ block out m ∷ []) held ∙ ap (λ b. old ++ b ∷ []) (sym got)

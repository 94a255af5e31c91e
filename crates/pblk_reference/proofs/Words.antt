-- The words of the records, put one after the other.
use Rattle.std.proofs.Common.{◌≡◌, ℕ, ◌+◌, ◌*◌, ◌<◌, List, [], ◌∷◌, ◌++◌, length, take, get_or, refl, sym, ap, ◌∙◌, append_assoc}
use Rattle.std.specs.List.{flat_map}
use Rattle.std.specs.Prelude.{Result, Ok, Err, OnOk, is_ok, if◌then◌else◌}
use Rattle.std.proofs.lemmas.List.{take_more, flat_map_more}
use Rattle.pblk_model.specs.declared.chunk.Mark.{Mark}
use Rattle.pblk_model.specs.declared.shape.Shape.{Shape}
use Rattle.pblk_model.specs.Bytes.{le16, le32, le64, zeros, padded_to}
use Rattle.pblk_model.specs.LineOrder.{start_len, end_len}
use Rattle.pblk_model.specs.StartRecord.{Row, StartRecord, magic, start_bytes}
use Rattle.pblk_model.specs.EndRecord.{EndRecord, end_bytes}
use Rattle.pblk_reference.specs.Words.{kind_words, front_words, row_words, start_header, pair_words, end_header}

-- one more piece
pub piece_more : {X : Type 0} (f : X → List ℕ) (xs : List X) (i : ℕ) (d : X) (base front now : List ℕ) → i < length xs → now ≡ front ++ f (get_or xs i d)
    → front ≡ base ++ flat_map f (take i xs) → now ≡ base ++ flat_map f (take (i + 1) xs)
piece_more f xs i d base front now lt now-is front-is =
    now-is ∙ ap (λ ys. ys ++ f (get_or xs i d)) front-is ∙ flat_map_more f base (take i xs) (get_or xs i d)
    ∙ ap (λ ys. base ++ flat_map f ys) (sym (take_more xs i d lt))

two_pieces : (a b base mid now : List ℕ) → mid ≡ base ++ a → now ≡ mid ++ b → now ≡ base ++ (a ++ b)
two_pieces a b base mid now mid-is now-is = now-is ∙ ap (λ xs. xs ++ b) mid-is ∙ append_assoc base a b

three_pieces : (a b c base one two now : List ℕ) → one ≡ base ++ a → two ≡ one ++ b → now ≡ two ++ c → now ≡ base ++ (a ++ (b ++ c))
three_pieces a b c base one two now one-is two-is now-is = two_pieces (a ++ b) c base two now (two_pieces a b base one two one-is two-is) now-is
    ∙ ap (λ xs. base ++ xs) (append_assoc a b c)

four_pieces : (a b c d none one two three now : List ℕ) → none ≡ [] → one ≡ none ++ a → two ≡ one ++ b → three ≡ two ++ c → now ≡ three ++ d
    → now ≡ a ++ (b ++ (c ++ d))
four_pieces a b c d none one two three now none-is one-is two-is three-is now-is =
    three_pieces b c d a two three now (two-is ∙ ap (λ xs. xs ++ b) (one-is ∙ ap (λ xs. xs ++ a) none-is)) three-is now-is

-- what a list is after a call that adds to it only where it succeeds
pub added : {T E : Type 0} (r : Result T E) (now x y : List ℕ) → now ≡ (if is_ok r then x else y) → OnOk r (now ≡ x)
added (Ok v) now x y e = e
added (Err v) now x y e = tt

pub kind_put : (kind : ℕ) (a b c base one two now : List ℕ) → a ≡ le32 magic → b ≡ le16 1 → c ≡ le16 kind → one ≡ base ++ a → two ≡ one ++ b → now ≡ two ++ c
    → now ≡ base ++ kind_words kind
unfolding kind_words
kind_put kind a b c base one two now a-is b-is c-is one-is two-is now-is =
    three_pieces a b c base one two now one-is two-is now-is ∙ ap (λ xs. base ++ (xs ++ (b ++ c))) a-is ∙ ap (λ xs. base ++ (le32 magic ++ (xs ++ c))) b-is
    ∙ ap (λ xs. base ++ (le32 magic ++ (le16 1 ++ xs))) c-is

pub row_put : (a r : Row) (base mid now : List ℕ) → a ≡ r → mid ≡ base ++ flat_map le32 (a.line ∷ 0 ∷ []) → now ≡ mid ++ flat_map le64 (a.seq ∷ a.bound ∷ [])
    → now ≡ base ++ row_words r
unfolding row_words
row_put a r base mid now a-is mid-is now-is =
    two_pieces (flat_map le32 (a.line ∷ 0 ∷ [])) (flat_map le64 (a.seq ∷ a.bound ∷ [])) base mid now mid-is now-is ∙ ap (λ x. base ++ row_words x) a-is

pub front_put : (kind line width : ℕ) (long short none one two three now : List ℕ) → none ≡ [] → one ≡ none ++ kind_words kind
    → two ≡ one ++ flat_map le32 (line ∷ width ∷ [])
    → three ≡ two ++ flat_map le64 long → now ≡ three ++ flat_map le32 short → now ≡ front_words kind line width long short
unfolding front_words kind_words
front_put kind line width long short none one two three now none-is one-is two-is three-is now-is =
    four_pieces (kind_words kind) (flat_map le32 (line ∷ width ∷ [])) (flat_map le64 long)
    (flat_map le32 short) none one two three now none-is one-is two-is three-is now-is

start_put : (a r : StartRecord) (n : ℕ) (now : List ℕ) → a ≡ r → n ≡ length a.rows
    → now ≡ front_words 1 a.line a.width (a.seq ∷ a.first_seq ∷ a.front ∷ a.capacity ∷ []) (n ∷ 0 ∷ 0 ∷ 0 ∷ []) → now ≡ start_header r
unfolding start_header
start_put a r n now a-is n-is now-is =
    now-is ∙ ap (λ m. front_words 1 a.line a.width (a.seq ∷ a.first_seq ∷ a.front ∷ a.capacity ∷ []) (m ∷ 0 ∷ 0 ∷ 0 ∷ [])) n-is ∙ ap start_header a-is

end_put : (a r : EndRecord) (n : ℕ) (now : List ℕ) → a ≡ r → n ≡ length a.pairs → now ≡ front_words 2 a.line a.width (a.seq ∷ []) (n ∷ 0 ∷ [])
    → now ≡ end_header r
unfolding end_header
end_put a r n now a-is n-is now-is = now-is ∙ ap (λ m. front_words 2 a.line a.width (a.seq ∷ []) (m ∷ 0 ∷ [])) n-is ∙ ap end_header a-is

-- with the zeros up to whole blocks they are the spelling
start_is : (s : Shape) (r : StartRecord) → padded_to (start_len s * s.sector) (start_header r ++ flat_map row_words r.rows) ≡ start_bytes s r
unfolding start_header front_words kind_words row_words zeros
start_is s r = refl

end_is : (s : Shape) (r : EndRecord) → padded_to (end_len s r.width * s.sector) (end_header r ++ flat_map pair_words r.pairs) ≡ end_bytes s r
unfolding end_header front_words kind_words pair_words zeros
end_is s r = refl

pub start_spelled : (s : Shape) (a r : StartRecord) (k n len : ℕ) (rows : List Row) (front whole now : List ℕ) → a ≡ r → k ≡ length a.rows
    → front ≡ front_words 1 a.line a.width (a.seq ∷ a.first_seq ∷ a.front ∷ a.capacity ∷ []) (k ∷ 0 ∷ 0 ∷ 0 ∷ []) → rows ≡ a.rows
    → whole ≡ front ++ flat_map row_words rows
    → n ≡ start_len s → len ≡ n * s.sector → now ≡ padded_to len whole → now ≡ start_bytes s r
start_spelled s a r k n len rows front whole now a-is k-is front-is rows-is whole-is n-is len-is now-is =
    let head : front ≡ start_header r = start_put a r k front a-is k-is front-is in
    let same : rows ≡ r.rows = rows-is ∙ ap (λ (x : StartRecord). x.rows) a-is in
    let words : whole ≡ start_header r ++ flat_map row_words r.rows = whole-is ∙ ap (λ xs. xs ++ flat_map row_words rows) head
    ∙ ap (λ xs. start_header r ++ flat_map row_words xs) same in
    now-is ∙ ap (padded_to len) words ∙ ap (λ m. padded_to m (start_header r ++ flat_map row_words r.rows)) (len-is ∙ ap (λ m. m * s.sector) n-is)
    ∙ start_is s r

pub end_spelled : (s : Shape) (a r : EndRecord) (k n len : ℕ) (pairs : List Mark) (front whole now : List ℕ) → a ≡ r → k ≡ length a.pairs
    → front ≡ front_words 2 a.line a.width (a.seq ∷ []) (k ∷ 0 ∷ []) → pairs ≡ a.pairs → whole ≡ front ++ flat_map pair_words pairs
    → n ≡ end_len s a.width → len ≡ n * s.sector → now ≡ padded_to len whole → now ≡ end_bytes s r
end_spelled s a r k n len pairs front whole now a-is k-is front-is pairs-is whole-is n-is len-is now-is =
    let head : front ≡ end_header r = end_put a r k front a-is k-is front-is in
    let same : pairs ≡ r.pairs = pairs-is ∙ ap (λ (x : EndRecord). x.pairs) a-is in
    let blocks : n ≡ end_len s r.width = n-is ∙ ap (λ (x : EndRecord). end_len s x.width) a-is in
    let words : whole ≡ end_header r ++ flat_map pair_words r.pairs = whole-is ∙ ap (λ xs. xs ++ flat_map pair_words pairs) head
    ∙ ap (λ xs. end_header r ++ flat_map pair_words xs) same in
    now-is ∙ ap (padded_to len) words ∙ ap (λ m. padded_to m (end_header r ++ flat_map pair_words r.pairs)) (len-is ∙ ap (λ m. m * s.sector) blocks)
    ∙ end_is s r

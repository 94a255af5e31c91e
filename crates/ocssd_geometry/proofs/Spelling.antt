-- The one spelling of a geometry.
use Rattle.std.proofs.Common.{◌≡◌, ℕ, ◌+◌, List, [], ◌∷◌, ◌++◌, length, take, drop, refl, sym, ap, subst, ◌∙◌, arith}
use Rattle.std.specs.Prelude.{slice_index}
use Rattle.std.proofs.lemmas.List.{append_assoc, take_at, drop_at, length-append, replicate-append-replicate}
use Rattle.pblk_model.specs.Bytes.{le16, le32, zeros}
use Rattle.pblk_model.specs.Geometry.{Geometry, geometry_bytes}
use Rattle.ocssd_geometry.specs.Places.{PutAt}
use Rattle.pblk_model.proofs.BytesLemmas.{zeros_length}
use Rattle.pblk_model.proofs.GeometryBytes.{front}

-- ---- bytes written among zeros

zeros-add : (m n : ℕ) → zeros m ++ zeros n ≡ zeros (m + n)
unfolding zeros
zeros-add m n = replicate-append-replicate m n 0

-- bytes, and then zeros
record IsBegun (out p : List ℕ) (n : ℕ) : Type 0 where
  is : out ≡ p ++ zeros n

-- what stands after a write behind a gap of zeros
put_behind : (out new p ys : List ℕ) (at gap rest n : ℕ) → IsBegun out p n → PutAt at ys out new → length p + gap ≡ at → gap + length ys + rest ≡ n
    → IsBegun new (p ++ zeros gap ++ ys) rest
put_behind out new p ys at gap rest n was is place room =
    let parts : zeros n ≡ zeros gap ++ (zeros (length ys) ++ zeros rest) =
    ap zeros (sym room) ∙ sym (zeros-add (gap + length ys) rest) ∙ ap (λ (xs : List ℕ). xs ++ zeros rest) (sym (zeros-add gap (length ys)))
    ∙ append_assoc (zeros gap) (zeros (length ys)) (zeros rest) in
    let front_length : length (p ++ zeros gap) ≡ at = length-append p (zeros gap) ∙ ap (λ (m : ℕ). length p + m) (zeros_length gap) ∙ place in
    let whole : out ≡ (p ++ zeros gap) ++ (zeros (length ys) ++ zeros rest) =
    was.is ∙ ap (λ (xs : List ℕ). p ++ xs) parts ∙ sym (append_assoc p (zeros gap) (zeros (length ys) ++ zeros rest)) in
    let twice : out ≡ ((p ++ zeros gap) ++ zeros (length ys)) ++ zeros rest = whole ∙ sym (append_assoc (p ++ zeros gap) (zeros (length ys)) (zeros rest)) in
    let both_length : length ((p ++ zeros gap) ++ zeros (length ys)) ≡ at + length ys =
    length-append (p ++ zeros gap) (zeros (length ys)) ∙ rw (front_length, zeros_length (length ys)) refl in
    let front : take at out ≡ p ++ zeros gap = ap (λ (xs : List ℕ). take at xs) whole
    ∙ take_at (p ++ zeros gap) (zeros (length ys) ++ zeros rest) at front_length in
    let back : drop (at + length ys) out ≡ zeros rest =
    ap (λ (xs : List ℕ). drop (at + length ys) xs) twice ∙ drop_at ((p ++ zeros gap) ++ zeros (length ys)) (zeros rest) (at + length ys) both_length in
    record { is = is ∙ ap (λ (xs : List ℕ). xs ++ ys ++ drop (at + length ys) out) front ∙ ap (λ (xs : List ℕ). p ++ zeros gap ++ ys ++ xs) back }

four : (xs : List ℕ) → length xs ≡ 4 → xs ≡ slice_index xs 0 ∷ slice_index xs 1 ∷ slice_index xs 2 ∷ slice_index xs 3 ∷ []
four [] e = absurd (omega arith)
four (a ∷ []) e = absurd (omega arith)
four (a ∷ b ∷ []) e = absurd (omega arith)
four (a ∷ b ∷ c ∷ []) e = absurd (omega arith)
four (a ∷ b ∷ c ∷ d ∷ []) e = refl
four (a ∷ b ∷ c ∷ d ∷ x ∷ xs) e = absurd (omega arith)

-- all numbers written at their places among zeros
pub all_written : (g : Geometry) (lengths o0 o1 o2 o3 o4 o5 o6 o7 o8 o9 o10 o11 o12 o13 : List ℕ) → o0 ≡ zeros 4096
    → length lengths ≡ 4 → g.group_bits ≡ slice_index lengths 0 → g.pu_bits ≡ slice_index lengths 1 → g.chunk_bits ≡ slice_index lengths 2
    → g.block_bits ≡ slice_index lengths 3
    → PutAt 0 (g.mjr ∷ g.mnr ∷ []) o0 o1 → PutAt 8 lengths o1 o2 → PutAt 16 (le32 g.mccap) o2 o3 → PutAt 32 (g.wit ∷ []) o3 o4
    → PutAt 64 (le16 g.groups) o4 o5 → PutAt 66 (le16 g.pus) o5 o6 → PutAt 68 (le32 g.chunks) o6 o7 → PutAt 72 (le32 g.clba) o7 o8
    → PutAt 128 (le32 g.ws_min) o8 o9 → PutAt 132 (le32 g.ws_opt) o9 o10 → PutAt 136 (le32 g.mw_cunits) o10 o11 → PutAt 140 (le32 g.maxoc) o11 o12
    → PutAt 144 (le32 g.maxocpu) o12 o13
    → o13 ≡ geometry_bytes g
unfolding zeros
all_written g lengths o0 o1 o2 o3 o4 o5 o6 o7 o8 o9 o10 o11 o12 o13 was count group pu chunk block p1 p2 p3 p4 p5 p6 p7 p8 p9 p10 p11 p12 p13 =
    let four_are : lengths ≡ g.group_bits ∷ g.pu_bits ∷ g.chunk_bits ∷ g.block_bits ∷ [] = four lengths count ∙ rw (group, pu, chunk, block) refl in
    let e0 : IsBegun o0 [] 4096 = record { is = was } in
    let e1 = put_behind o0 o1 _ (g.mjr ∷ g.mnr ∷ []) 0 0 4094 4096 e0 p1 refl refl in
    let e2 = put_behind o1 o2 _ (g.group_bits ∷ g.pu_bits ∷ g.chunk_bits ∷ g.block_bits ∷ []) 8 6 4084 4094 e1
    (subst (λ (xs : List ℕ). PutAt 8 xs o1 o2) four_are p2) refl refl in
    let e3 = put_behind o2 o3 _ (le32 g.mccap) 16 4 4076 4084 e2 p3 refl refl in
    let e4 = put_behind o3 o4 _ (g.wit ∷ []) 32 12 4063 4076 e3 p4 refl refl in
    let e5 = put_behind o4 o5 _ (le16 g.groups) 64 31 4030 4063 e4 p5 refl refl in
    let e6 = put_behind o5 o6 _ (le16 g.pus) 66 0 4028 4030 e5 p6 refl refl in
    let e7 = put_behind o6 o7 _ (le32 g.chunks) 68 0 4024 4028 e6 p7 refl refl in
    let e8 = put_behind o7 o8 _ (le32 g.clba) 72 0 4020 4024 e7 p8 refl refl in
    let e9 = put_behind o8 o9 _ (le32 g.ws_min) 128 52 3964 4020 e8 p9 refl refl in
    let e10 = put_behind o9 o10 _ (le32 g.ws_opt) 132 0 3960 3964 e9 p10 refl refl in
    let e11 = put_behind o10 o11 _ (le32 g.mw_cunits) 136 0 3956 3960 e10 p11 refl refl in
    let e12 = put_behind o11 o12 _ (le32 g.maxoc) 140 0 3952 3956 e11 p12 refl refl in
    let e13 : IsBegun o13 (front g) 3948 = put_behind o12 o13 _ (le32 g.maxocpu) 144 0 3948 3952 e12 p13 refl refl in
    e13.is

-- Lemmas on the words of EndRecord.
use Rattle.std.proofs.Common.{List, [], ap, append_assoc, arith, drop, length, refl, suc, sym, zero, ℕ, ◌*◌, ◌++◌, ◌+◌, ◌-◌, ◌<◌, ◌∙◌, ◌∷◌, ◌≡◌, ◌≤◌}
use Rattle.std.proofs.lemmas.List.{append-nil}
use Rattle.std.specs.Int.{w64}
use Rattle.std.specs.List.{flat_map}
use Rattle.pblk_model.specs.Bytes.{number_at}
use Rattle.pblk_model.specs.EndRecord.{pair_bytes, pairs_in}
use Rattle.pblk_model.specs.declared.chunk.Mark.{Mark}

pub length-pairs_in : (n : ℕ) (bytes : List ℕ) → length (pairs_in n bytes) ≡ n
unfolding pairs_in
length-pairs_in zero bytes = refl
length-pairs_in (suc n) bytes = ap suc (length-pairs_in n (drop 16 bytes))

pub pairs_length : (pairs : List Mark) → length (flat_map pair_bytes pairs) ≡ 16 * length pairs
pairs_length [] = refl
pairs_length (m ∷ ms) = let rest : length (flat_map pair_bytes ms) ≡ 16 * length ms = pairs_length ms in omega arith

pub pairs_go_on : (front now : List Mark) (count i lba position : ℕ) (bytes rest : List ℕ) (total : List Mark) → i < count
    → lba ≡ number_at w64 0 bytes → position ≡ number_at w64 8 bytes → rest ≡ drop 16 bytes
    → now ≡ front ++ record { lba = lba; position = position } ∷ []
    → front ++ pairs_in (count - i) bytes ≡ total → now ++ pairs_in (count - (i + 1)) rest ≡ total
unfolding pairs_in
pairs_go_on front now count i lba position bytes rest total lt lba-is position-is rest-is now-is so_far =
    let k : count - i ≡ suc (count - (i + 1)) = omega arith in
    let step : front ++ pairs_in (count - i) bytes ≡ front
    ++ (record { lba = number_at w64 0 bytes; position = number_at w64 8 bytes } ∷ pairs_in (count - (i + 1)) (drop 16 bytes)) =
    ap (λ n. front ++ pairs_in n bytes) k in
    rw (now-is, lba-is, position-is, rest-is) (append_assoc front _ _ ∙ sym step ∙ so_far)

pub pairs_are_read : (front : List Mark) (count i : ℕ) (bytes : List ℕ) (total : List Mark) → count ≤ i → front ++ pairs_in (count - i) bytes ≡ total
    → front ≡ total
unfolding pairs_in
pairs_are_read front count i bytes total le so_far =
    let k : count - i ≡ 0 = omega arith in
    let one : front ++ pairs_in (count - i) bytes ≡ front = ap (λ n. front ++ pairs_in n bytes) k ∙ append-nil front in
    sym one ∙ so_far

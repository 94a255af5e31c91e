-- Sectors of a run: their bytes among those of all, and what was looked for.
use Rattle.std.proofs.Common.{◌≡◌, ◌≢◌, ◌⊎◌, inl, inr, ℕ, ◌+◌, ◌-◌, ◌*◌, ◌/◌, ◌<◌, ◌≤◌, Some, Option, List, length, take, drop, sym, subst, ap, ◌∙◌, arith}
use Rattle.std.specs.Prelude.{slice_get, slice_set}
use Rattle.std.proofs.Math.Nat.{mul-le-mul_right}
use Rattle.std.proofs.lemmas.Nat.{div-mul-add}
use Rattle.std.proofs.lemmas.Bool.{cases_order}
use Rattle.std.proofs.lemmas.Option.{same_Some}
use Rattle.std.proofs.lemmas.Slice.{between_is, between-put_mid, drop-put_mid, take-put_mid_below}
use borrow.Rule.Slice.PartMut.{put_mid}
use Rattle.pblk_model.specs.Image.{Image}
use Rattle.pblk_model.proofs.Numbers.{next_at}
use Rattle.pblk_model.proofs.Parts.{get_set_other, get_set_same}
use Rattle.pblk_world.specs.World.{Logs}
use Rattle.pblk_engine.specs.Reads.{AreLatest, AreLookedFor, IsLatest, IsLookedFor, part_at}
use Rattle.pblk_engine.specs.declared.sector_looks.SectorPlace.{SectorPlace}

-- ---- the bytes of one

-- a sector ends where a later one begins, or before
pub ends_before : (j k size : ℕ) → j < k → j * size + size ≤ k * size
ends_before j k size less =
    let next : (j + 1) * size ≡ j * size + size = next_at j size in
    let le : (j + 1) * size ≤ k * size = mul-le-mul_right size (let h : j + 1 ≤ k = omega arith in h) in
    omega arith

module _ (size k n : ℕ) (out bytes : List ℕ) (inside : k * size ≤ length out) (long : length bytes ≡ size) (wide : n ≡ size) where
  -- the one that was written
  pub part_here : part_at size k (put_mid (k * size) n out bytes) ≡ bytes
  part_here =
      let e : length bytes ≡ k * size + size - k * size = omega arith in
      between-put_mid (k * size) n out bytes (k * size + size) inside e

  -- the others stay
  pub part_else : (j : ℕ) → j ≢ k → part_at size j (put_mid (k * size) n out bytes) ≡ part_at size j out
  part_else j other = go (cases_order j k)
    where
      go : (j ≡ k) ⊎ ((j < k) ⊎ (k < j)) → part_at size j (put_mid (k * size) n out bytes) ≡ part_at size j out
      go (inl same) = absurd (other same)
      go (inr (inl before)) =
          between_is (put_mid (k * size) n out bytes) (j * size) (j * size + size)
          ∙ ap (λ (xs : List ℕ). drop (j * size) xs)
          (take-put_mid_below (k * size) n out bytes (j * size + size) (ends_before j k size before) inside)
          ∙ sym (between_is out (j * size) (j * size + size))
      go (inr (inr behind)) =
          let far : k * size + size ≤ j * size = ends_before k j size behind in
          let past : k * size + n ≤ j * size = omega arith in
          ap (λ (xs : List ℕ). take (j * size + size - j * size) xs)
          (drop-put_mid (k * size) n out bytes (j * size) past inside (long ∙ sym wide))

-- ---- those that were looked for

module _ (i : Image) (logs : Logs) (size lba : ℕ) where
  -- none is below the first
  pub none_looked : (places : List (Option SectorPlace)) (out : List ℕ) → AreLookedFor i logs size lba 0 0 places out
  none_looked places out k place from to there = absurd (omega arith)

  pub none_latest : (out : List ℕ) → AreLatest i logs size lba 0 out
  none_latest out k below = absurd (omega arith)

  -- one more was looked for
  pub looked_next : (index n : ℕ) (places : List (Option SectorPlace)) (out bytes : List ℕ) (place : Option SectorPlace) → index < length places
      → index * size ≤ length out → length bytes ≡ size → n ≡ size → AreLookedFor i logs size lba 0 index places out
      → IsLookedFor i logs (lba + index) place bytes
      → AreLookedFor i logs size lba 0 (index + 1) (slice_set places index place) (put_mid (index * size) n out bytes)
  looked_next index n places out bytes place room inside long wide are is k x from to there = go (cases_order k index)
    where
      go : (k ≡ index) ⊎ ((k < index) ⊎ (index < k)) → IsLookedFor i logs (lba + k) x (part_at size k (put_mid (index * size) n out bytes))
      go (inl same) =
          let at : slice_get (slice_set places index place) index ≡ Some x =
          subst (λ m. slice_get (slice_set places index place) m ≡ Some x) same there in
          let its : place ≡ x = same_Some place x (sym (get_set_same places index place room) ∙ at) in
          subst (λ m. IsLookedFor i logs (lba + m) x (part_at size m (put_mid (index * size) n out bytes))) (sym same)
          (subst (λ (b : List ℕ). IsLookedFor i logs (lba + index) x b) (sym (part_here size index n out bytes inside long wide))
          (subst (λ (p : Option SectorPlace). IsLookedFor i logs (lba + index) p bytes) its is))
      go (inr (inl before)) =
          let other : k ≢ index = λ same. absurd (omega arith) in
          subst (λ (b : List ℕ). IsLookedFor i logs (lba + k) x b) (sym (part_else size index n out bytes inside long wide k other))
          (are k x from before (sym (get_set_other places index k place other) ∙ there))
      go (inr (inr behind)) = absurd (omega arith)

  -- a sector that isn't on the drive has its content by the look
  pub latest_next : (index : ℕ) (out : List ℕ) → AreLatest i logs size lba index out → IsLatest i logs (lba + index) (part_at size index out)
      → AreLatest i logs size lba (index + 1) out
  latest_next index out are is k below = go (cases_order k index)
    where
      go : (k ≡ index) ⊎ ((k < index) ⊎ (index < k)) → IsLatest i logs (lba + k) (part_at size k out)
      go (inl same) = subst (λ m. IsLatest i logs (lba + m) (part_at size m out)) (sym same) is
      go (inr (inl before)) = are k before
      go (inr (inr behind)) = absurd (omega arith)

  pub rest_next : (index count : ℕ) (places : List (Option SectorPlace)) (out : List ℕ) → AreLookedFor i logs size lba index count places out
      → AreLookedFor i logs size lba (index + 1) count places out
  rest_next index count places out are k place from to there = are k place (omega arith) to there

  -- one that is has it once it was fetched
  module _ (index n : ℕ) (out bytes : List ℕ) (inside : index * size ≤ length out) (long : length bytes ≡ size) (wide : n ≡ size) where
    pub latest_fetched : AreLatest i logs size lba index out → IsLatest i logs (lba + index) bytes
        → AreLatest i logs size lba (index + 1) (put_mid (index * size) n out bytes)
    latest_fetched are is k below = go (cases_order k index)
      where
        go : (k ≡ index) ⊎ ((k < index) ⊎ (index < k)) → IsLatest i logs (lba + k) (part_at size k (put_mid (index * size) n out bytes))
        go (inl same) =
            subst (λ m. IsLatest i logs (lba + m) (part_at size m (put_mid (index * size) n out bytes))) (sym same)
            (subst (λ (b : List ℕ). IsLatest i logs (lba + index) b) (sym (part_here size index n out bytes inside long wide)) is)
        go (inr (inl before)) =
            let other : k ≢ index = λ same. absurd (omega arith) in
            subst (λ (b : List ℕ). IsLatest i logs (lba + k) b) (sym (part_else size index n out bytes inside long wide k other)) (are k before)
        go (inr (inr behind)) = absurd (omega arith)

    pub rest_fetched : (count : ℕ) (places : List (Option SectorPlace)) → AreLookedFor i logs size lba index count places out
        → AreLookedFor i logs size lba (index + 1) count places (put_mid (index * size) n out bytes)
    rest_fetched count places are k place from to there =
        let other : k ≢ index = λ same. absurd (omega arith) in
        subst (λ (b : List ℕ). IsLookedFor i logs (lba + k) place b) (sym (part_else size index n out bytes inside long wide k other))
        (are k place (omega arith) to there)

-- how many there are
pub count_is : (len size n : ℕ) → 1 ≤ size → len ≡ n * size → len / size ≡ n
count_is len size n some whole =
    let e : len ≡ n * size + 0 = omega arith in
    ap (λ k. k / size) e ∙ div-mul-add n size 0 (omega arith)

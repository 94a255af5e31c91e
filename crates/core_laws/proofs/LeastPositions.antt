-- The least position that isn't borne.
use Rattle.std.proofs.Common.{◌≡◌, ℕ, ◌+◌, ◌<◌, ◌≤◌, ◌⊎◌, Bool, true, false, arith, inl, inr}
use Rattle.std.proofs.lemmas.Bool.{cases_order}
use Rattle.pblk_model.specs.Contents.{least_missing}
use Rattle.pblk_world.proofs.SyncedFront.{IsLeast, least}
use Rattle.pblk_model.proofs.Tests.{no_both}

-- where more is borne, in as many turns or more, the least missing one is no lesser
pub least_rises : (f g : ℕ → Bool) (m n p : ℕ) → ((q : ℕ) → f q ≡ true → g q ≡ true) → m ≤ n → least_missing f m p ≤ least_missing g n p
least_rises f g m n p more fewer = go (cases_order (least_missing f m p) (least_missing g n p)) (least f m p) (least g n p)
  where
    go : (least_missing f m p ≡ least_missing g n p) ⊎ ((least_missing f m p < least_missing g n p) ⊎ (least_missing g n p < least_missing f m p))
        → IsLeast f m p (least_missing f m p) → IsLeast g n p (least_missing g n p) → least_missing f m p ≤ least_missing g n p
    go (inl same) a b = omega arith
    go (inr (inl above)) a b = omega arith
    go (inr (inr beneath)) a b =
        let x : least_missing f m p ≤ p + m = a.within in
        let y : p ≤ least_missing g n p = b.from in
        no_both (g (least_missing g n p)) (more (least_missing g n p) (a.below (least_missing g n p) y beneath)) (b.missing (omega arith))

-- one that is missing is no lesser than the least
pub least_below : (borne : ℕ → Bool) (turns p q : ℕ) → p ≤ q → borne q ≡ false → least_missing borne turns p ≤ q
least_below borne turns p q from none = go (cases_order (least_missing borne turns p) q)
  where
    go : (least_missing borne turns p ≡ q) ⊎ ((least_missing borne turns p < q) ⊎ (q < least_missing borne turns p)) → least_missing borne turns p ≤ q
    go (inl same) = omega arith
    go (inr (inl above)) = omega arith
    go (inr (inr beneath)) = no_both (borne q) ((least borne turns p).below q from beneath) none

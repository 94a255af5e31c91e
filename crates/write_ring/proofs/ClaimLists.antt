-- Lists of claims, by the positions that they have.
use Rattle.std.proofs.Common.{◌≡◌, ℕ, ◌+◌, ◌<◌, ◌≤◌, List, [], ◌∷◌, ◌++◌, arith}
use Rattle.std.proofs.lemmas.Bool.Decides.{nat_tests}
use Rattle.std.specs.List.{AllByRecursion}
use Rattle.pblk_model.proofs.Lists.{all_weaker}
use Rattle.pblk_model.specs.declared.ring.Claim.{Claim}
use Rattle.pblk_model.specs.RingState.{between, covers, covers_copy, IsGranted}
use Rattle.write_ring.specs.declared.view.Row.{Row}
use Rattle.write_ring.specs.Stock.{rows_at, copies_at}

pub covers_both : (x : ℕ) (cs ds : List Claim) → covers x (cs ++ ds) ≡ covers x cs + covers x ds
covers_both x [] ds = omega arith
covers_both x (c ∷ cs) ds = let later = covers_both x cs ds in omega arith

pub copies_both : (x : ℕ) (cs ds : List Claim) → covers_copy x (cs ++ ds) ≡ covers_copy x cs + covers_copy x ds
copies_both x [] ds = omega arith
copies_both x (c ∷ cs) ds = let later = copies_both x cs ds in omega arith

-- a claim behind all others
pub grown : (x low old new : ℕ) → low ≤ old → old ≤ new → between low old x + between old new x ≡ between low new x
grown x low old new le rises = grind (arith, nat_tests)

pub empty : (x low : ℕ) → between low low x ≡ 0
empty x low = grind (arith, nat_tests)

pub none_above : (x low high : ℕ) → high ≤ x → between low high x ≡ 0
none_above x low high above = grind (arith, nat_tests)

pub granted_more : (g h : ℕ) (cs : List Claim) → g ≤ h → AllByRecursion (IsGranted g) cs → AllByRecursion (IsGranted h) cs
granted_more g h cs le all = all_weaker (IsGranted g) (IsGranted h) cs (λ c is user. let was = is user in omega arith) all

pub rows_both : (x : ℕ) (rs ss : List Row) → rows_at x (rs ++ ss) ≡ rows_at x rs + rows_at x ss
rows_both x [] ss = omega arith
rows_both x (r ∷ rs) ss = let later = rows_both x rs ss in omega arith

pub copy_rows_both : (x : ℕ) (rs ss : List Row) → copies_at x (rs ++ ss) ≡ copies_at x rs + copies_at x ss
copy_rows_both x [] ss = omega arith
copy_rows_both x (r ∷ rs) ss = let later = copy_rows_both x rs ss in omega arith

pub at_most_one : (x low high : ℕ) → between low high x ≤ 1
at_most_one x low high = grind (arith, nat_tests)

pub inside : (x low high : ℕ) → low ≤ x → x < high → between low high x ≡ 1
inside x low high le lt = grind (arith, nat_tests)

-- One past the greatest of some positions: it depends on which they are alone.
use Rattle.std.proofs.Common.{◌≡◌, ℕ, ◌+◌, ◌<◌, ◌≤◌, max, List, [], ◌∷◌, ◌++◌, ◌∙◌, arith}
use Rattle.std.specs.List.{AllByRecursion, fold}
use Rattle.std.proofs.lemmas.List.Sums.{fold-append}
use Rattle.core_laws.specs.ClosedLines.{top_of}

abbrev raised : ℕ → ℕ → ℕ
raised top position = max top (position + 1)

from_any : (a : ℕ) (ps : List ℕ) → fold raised a ps ≡ max a (top_of ps)
from_any a [] = omega arith
from_any a (p ∷ ps) =
    let there : fold raised (max a (p + 1)) ps ≡ max (max a (p + 1)) (top_of ps) = from_any (max a (p + 1)) ps in
    let here : top_of (p ∷ ps) ≡ max (max 0 (p + 1)) (top_of ps) = from_any (max 0 (p + 1)) ps in
    there ∙ omega arith

pub top_more : (ps qs : List ℕ) → top_of (ps ++ qs) ≡ max (top_of ps) (top_of qs)
top_more ps qs = fold-append raised 0 ps qs ∙ from_any (top_of ps) qs

top_first : (p : ℕ) (ps : List ℕ) → top_of (p ∷ ps) ≡ max (p + 1) (top_of ps)
top_first p ps = let here : top_of (p ∷ ps) ≡ max (max 0 (p + 1)) (top_of ps) = from_any (max 0 (p + 1)) ps in omega arith

-- it is within a bound exactly where each position is below that
pub top_within : (n : ℕ) (ps : List ℕ) → AllByRecursion (λ position. position < n) ps → top_of ps ≤ n
top_within n [] all = omega arith
top_within n (p ∷ ps) all =
    let rest : top_of ps ≤ n = top_within n ps all.1 in
    let first : p < n = all.0 in
    let is : top_of (p ∷ ps) ≡ max (p + 1) (top_of ps) = top_first p ps in
    omega arith

pub all_below_top : (n : ℕ) (ps : List ℕ) → top_of ps ≤ n → AllByRecursion (λ position. position < n) ps
all_below_top n [] within = tt
all_below_top n (p ∷ ps) within =
    let is : top_of (p ∷ ps) ≡ max (p + 1) (top_of ps) = top_first p ps in
    (omega arith, all_below_top n ps (omega arith))

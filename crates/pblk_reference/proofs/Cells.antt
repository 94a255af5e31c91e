-- Bytes at places.
use Rattle.std.proofs.Common.{◌≡◌, ℕ, ◌+◌, ◌<◌, List, take, drop, get_or, ap, ◌∙◌}
use Rattle.std.proofs.lemmas.List.{get_or-take, get_or-drop}

pub cell : (bytes : List ℕ) (at i n j : ℕ) → i < n → at + i ≡ j → get_or (take n (drop at bytes)) i 0 ≡ get_or bytes j 0
cell bytes at i n j lt e = get_or-take n (drop at bytes) i 0 lt ∙ get_or-drop at bytes i 0 ∙ ap (λ k. get_or bytes k 0) e

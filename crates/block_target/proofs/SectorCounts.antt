-- How many sectors the bytes of a call are.
use Rattle.std.proofs.Common.{◌≡◌, ◌⊎◌, inl, inr, ℕ, ◌+◌, ◌*◌, ◌/◌, ◌<◌, ◌≤◌, sym, ap, subst, ◌∙◌, arith}
use Rattle.std.proofs.lemmas.Nat.{div-mul-add}
use Rattle.pblk_model.specs.Accepted.{IsAccepted}
use Rattle.pblk_model.specs.declared.shape.Shape.{Shape}
use Rattle.block_port.specs.Port.{AreSectors}

count_is : (n size len : ℕ) → 0 < size → len ≡ n * size → len / size ≡ n
count_is n size len some is =
    let e : n * size ≡ n * size + 0 = omega arith in
    ap (λ k. k / size) (is ∙ e) ∙ div-mul-add n size 0 some

pub sector_some : (s : Shape) → IsAccepted s → 0 < s.sector
sector_some s accepted = go accepted.target.sector
  where
    go : (s.sector ≡ 512) ⊎ (s.sector ≡ 4096) → 0 < s.sector
    go (inl e) = omega arith
    go (inr e) = omega arith

-- A call is for 1 to 16 whole sectors.
pub record IsCount (count size len : ℕ) : Type 0 where
  pub some : 1 ≤ count
  pub few : count ≤ 16
  pub whole : len ≡ count * size

pub counted : (s : Shape) (size len : ℕ) → IsAccepted s → size ≡ s.sector → AreSectors s.sector len → IsCount (len / size) size len
counted s size len accepted same sectors = subst (λ n. IsCount (len / n) n len) (sym same) here
  where
    n : len / s.sector ≡ sectors.count
    n = count_is sectors.count s.sector len (sector_some s accepted) sectors.whole

    here : IsCount (len / s.sector) s.sector len
    here = record {
      some = (let some : 1 ≤ sectors.count = sectors.some in omega (arith, n));
      few = (let few : sectors.count ≤ 16 = sectors.few in omega (arith, n));
      whole = sectors.whole ∙ ap (λ k. k * s.sector) (sym n);
    }

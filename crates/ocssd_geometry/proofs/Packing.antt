-- Addresses and their numbers.
use Rattle.std.proofs.Common.{◌≡◌, ℕ, ◌+◌, ◌*◌, ◌/◌, ◌%◌, ◌^◌, ◌<◌, ◌≤◌, None, refl, sym, ap, subst, ◌∙◌, arith}
use Rattle.std.proofs.Math.Nat.{pow-le-pow_right}
use Rattle.std.proofs.lemmas.Nat.{div-mul-add, mod-mul-add, div-add-mod'}
use Rattle.pblk_model.specs.declared.shape.Address.{Address}
use Rattle.pblk_model.specs.Geometry.{Geometry, packed, IsAddress, Packs, geometry_refusal}
use Rattle.ocssd_geometry.proofs.Acceptance.{accepted_lengths}
use Rattle.pblk_model.proofs.Numbers.{joined_below}

-- an address's number, and those of its front
pub record FitsWords (g : Geometry) (a : Address) : Type 0 where
  pub unit : a.group * 2 ^ g.pu_bits + a.pu < 2 ^ 64
  pub chunk : (a.group * 2 ^ g.pu_bits + a.pu) * 2 ^ g.chunk_bits + a.chunk < 2 ^ 64
  pub block : packed g a < 2 ^ 64
  pub sum : packed g a < 2 ^ (g.group_bits + g.pu_bits + g.chunk_bits + g.block_bits)

word_holds : (n bits : ℕ) → bits ≤ 64 → n < 2 ^ bits → n < 2 ^ 64
word_holds n bits few below = let most : 2 ^ bits ≤ 2 ^ 64 = pow-le-pow_right {n = 2} (omega arith) few in omega arith

pub fits_words : (g : Geometry) (a : Address) → geometry_refusal g ≡ None → IsAddress g a → FitsWords g a
fits_words g a accepted inside =
    let lengths = accepted_lengths g accepted in
    let group : a.group < 2 ^ g.group_bits = omega (arith, inside.group, lengths.group) in
    let pu : a.pu < 2 ^ g.pu_bits = omega (arith, inside.pu, lengths.pu) in
    let chunk : a.chunk < 2 ^ g.chunk_bits = omega (arith, inside.chunk, lengths.chunk) in
    let block : a.block < 2 ^ g.block_bits = omega (arith, inside.block, lengths.block) in
    let unit = joined_below a.group a.pu g.group_bits g.pu_bits group pu in
    let chunks = joined_below _ a.chunk (g.group_bits + g.pu_bits) g.chunk_bits unit chunk in
    let whole = joined_below _ a.block (g.group_bits + g.pu_bits + g.chunk_bits) g.block_bits chunks block in
    let sum : g.group_bits + g.pu_bits + g.chunk_bits + g.block_bits ≤ 64 = lengths.sum in
    record {
      unit = word_holds _ (g.group_bits + g.pu_bits) (omega (arith, sum)) unit;
      chunk = word_holds _ (g.group_bits + g.pu_bits + g.chunk_bits) (omega (arith, sum)) chunks;
      block = word_holds _ _ sum whole;
      sum = whole;
    }

-- the parts of a number: what is left above the block (r), what is left above the chunk (s), and
-- the fields
pub record IsParted (g : Geometry) (n r s : ℕ) (x : Address) : Type 0 where
  pub above_block : r ≡ n / 2 ^ g.block_bits
  pub block : x.block ≡ n % 2 ^ g.block_bits
  pub above_chunk : s ≡ r / 2 ^ g.chunk_bits
  pub chunk : x.chunk ≡ r % 2 ^ g.chunk_bits
  pub group : x.group ≡ s / 2 ^ g.pu_bits
  pub pu : x.pu ≡ s % 2 ^ g.pu_bits

-- the parts joined are the number
pub packed-parted : (g : Geometry) (n r s : ℕ) (x : Address) → IsParted g n r s x → packed g x ≡ n
packed-parted g n r s x p =
    let units : x.group * 2 ^ g.pu_bits + x.pu ≡ s = rw (p.group, p.pu) (div-add-mod' s (2 ^ g.pu_bits)) in
    let chunks : s * 2 ^ g.chunk_bits + x.chunk ≡ r = rw (p.above_chunk, p.chunk) (div-add-mod' r (2 ^ g.chunk_bits)) in
    let blocks : r * 2 ^ g.block_bits + x.block ≡ n = rw (p.above_block, p.block) (div-add-mod' n (2 ^ g.block_bits)) in
    rw (units, chunks) blocks

same_address : (a x : Address) → a.group ≡ x.group → a.pu ≡ x.pu → a.chunk ≡ x.chunk → a.block ≡ x.block → a ≡ x
same_address a x group pu chunk block =
    let along : ◌≡◌ {A = Address} (record { group = a.group; pu = a.pu; chunk = a.chunk; block = a.block }) x = rw (group, pu, chunk, block) refl in
    along

-- an address in range whose number this is has these parts
pub parted_only : (g : Geometry) (n r s : ℕ) (x a : Address) → geometry_refusal g ≡ None → IsParted g n r s x → Packs g a n → a ≡ x
parted_only g n r s x a accepted p packs =
    let lengths = accepted_lengths g accepted in
    let pu_below : a.pu < 2 ^ g.pu_bits = omega (arith, packs.0.pu, lengths.pu) in
    let chunk_below : a.chunk < 2 ^ g.chunk_bits = omega (arith, packs.0.chunk, lengths.chunk) in
    let block_below : a.block < 2 ^ g.block_bits = omega (arith, packs.0.block, lengths.block) in
    let unit : ℕ = a.group * 2 ^ g.pu_bits + a.pu in
    let chunks : ℕ = unit * 2 ^ g.chunk_bits + a.chunk in
    let r_is : r ≡ chunks = p.above_block ∙ ap (λ (m : ℕ). m / 2 ^ g.block_bits) (sym packs.1) ∙ div-mul-add chunks (2 ^ g.block_bits) a.block block_below in
    let s_is : s ≡ unit = p.above_chunk ∙ ap (λ (m : ℕ). m / 2 ^ g.chunk_bits) r_is ∙ div-mul-add unit (2 ^ g.chunk_bits) a.chunk chunk_below in
    same_address a x
    (sym (p.group ∙ ap (λ (m : ℕ). m / 2 ^ g.pu_bits) s_is ∙ div-mul-add a.group (2 ^ g.pu_bits) a.pu pu_below))
    (sym (p.pu ∙ ap (λ (m : ℕ). m % 2 ^ g.pu_bits) s_is ∙ mod-mul-add a.group (2 ^ g.pu_bits) a.pu pu_below))
    (sym (p.chunk ∙ ap (λ (m : ℕ). m % 2 ^ g.chunk_bits) r_is ∙ mod-mul-add unit (2 ^ g.chunk_bits) a.chunk chunk_below))
    (sym (p.block ∙ ap (λ (m : ℕ). m % 2 ^ g.block_bits) (sym packs.1) ∙ mod-mul-add chunks (2 ^ g.block_bits) a.block block_below))

-- so where its parts aren't in range, no address has the number
pub parted_in_range : (g : Geometry) (n r s : ℕ) (x a : Address) → geometry_refusal g ≡ None → IsParted g n r s x → Packs g a n → IsAddress g x
parted_in_range g n r s x a accepted p packs = subst (λ (b : Address). IsAddress g b) (parted_only g n r s x a accepted p packs) packs.0

-- two addresses in range that have one number are one
pub packs_one : (g : Geometry) (n : ℕ) (a b : Address) → geometry_refusal g ≡ None → Packs g a n → Packs g b n → b ≡ a
packs_one g n a b accepted first second =
    let r : ℕ = n / 2 ^ g.block_bits in
    let s : ℕ = r / 2 ^ g.chunk_bits in
    let x : Address = record { group = s / 2 ^ g.pu_bits; pu = s % 2 ^ g.pu_bits; chunk = r % 2 ^ g.chunk_bits; block = n % 2 ^ g.block_bits } in
    let parted : IsParted g n r s x = record { above_block = refl; block = refl; above_chunk = refl; chunk = refl; group = refl; pu = refl } in
    parted_only g n r s x b accepted parted second ∙ sym (parted_only g n r s x a accepted parted first)

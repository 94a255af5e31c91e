-- Numbers.
use Rattle.std.proofs.Common.{arith, inl, inr, lit<, suc, zero, ℕ, ◌*◌, ◌+◌, ◌/◌, ◌<◌, ◌^◌, ◌≡◌, ◌≤◌, ◌⊎◌}
use Rattle.std.proofs.Math.Nat.{mod-lt, mul-le-mul_left, mul-le-mul_right, pow-le-pow_right}
use Rattle.std.proofs.lemmas.Bool.{cases_lt}
use Rattle.std.proofs.lemmas.Nat.{mul-add-lt, pow-add}
use Rattle.std.specs.Int.{byte_at}

-- functions of a number that agree everywhere are one
pub fun_same : {X : Type 0} (f g : ℕ → X) → ((n : ℕ) → f n ≡ g n) → f ≡ g
fun_same f g h = λ i n. h n i

pub le_before : (a b : ℕ) → a < b → a ≤ b
le_before a b below = omega arith

pub suc-times : (n size : ℕ) → suc n * size ≡ size + n * size
suc-times n size = grind arith

pub next_at : (n size : ℕ) → (n + 1) * size ≡ n * size + size
next_at n size = grind arith

pub joined_below : (a b j k : ℕ) → a < 2 ^ j → b < 2 ^ k → a * 2 ^ k + b < 2 ^ (j + k)
joined_below a b j k h i =
    let below : a * 2 ^ k + b < 2 ^ k * 2 ^ j = mul-add-lt a (2 ^ k) b (2 ^ j) h i in
    omega (arith, pow-add 2 j k)

pub below_15 : (n k : ℕ) → n ≡ 2 ^ k → n ≤ 16384 → k < 15
below_15 n k is few = elim (cases_lt k 15) [
  | inl h ↦ h
  | inr h ↦ let more : 2 ^ 15 ≤ 2 ^ k = pow-le-pow_right (lit< tt) h in omega (arith, is, few, more)
]

pub byte_is : (i n : ℕ) → byte_at i n < 256
byte_is zero n = mod-lt n (omega arith)
byte_is (suc i) n = mod-lt (n / 256 ^ suc i) (omega arith)

pub some_units : (g c a : ℕ) → a < g * c → 0 < g
some_units zero c a h = absurd (omega arith)
some_units (suc g) c a h = omega arith

pub few_blocks : (u k b s : ℕ) → 8 ≤ k → 512 ≤ s → u * k * b * s ≤ 268435456 → u * b ≤ 65536
few_blocks u k b s chunks sector size =
    let h1 : u * 8 ≤ u * k = mul-le-mul_left u chunks in
    let h2 : u * 8 * b ≤ u * k * b = mul-le-mul_right b h1 in
    let h3 : u * k * b * 512 ≤ u * k * b * s = mul-le-mul_left (u * k * b) sector in
    omega arith

pub sector_is_long : (s : ℕ) → (s ≡ 512) ⊎ (s ≡ 4096) → 512 ≤ s
sector_is_long s (inl e) = omega arith
sector_is_long s (inr e) = omega arith

-- the blocks of one chunk more
pub blocks_more : (count n clba blocks one : ℕ) → n < count → blocks ≤ n * clba → one ≤ clba → blocks + one ≤ count * clba
blocks_more count n clba blocks one within before here =
    let next : n + 1 ≤ count = omega arith in
    let all : (n + 1) * clba ≤ count * clba = mul-le-mul_right clba next in
    omega arith

pub not_less : (a b : ℕ) → (a < b → ⊥) → b ≤ a
not_less a b h = elim (cases_lt a b) [ inl less ↦ absurd (h less) | inr most ↦ most ]

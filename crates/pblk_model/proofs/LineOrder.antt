-- Stripes of w blocks over g chunks of c blocks, over plain numbers.
use Rattle.std.proofs.Common.{◌≡◌, ℕ, ◌+◌, ◌*◌, ◌/◌, ◌%◌, ◌<◌, sym, ap, ◌∙◌, subst, arith}
use Rattle.std.proofs.Math.Nat.{mod-lt}
use Rattle.std.proofs.lemmas.Nat.{div-add-mod', div-mul-add, mod-mul-add, mul-add-lt, div_below}

-- an address's stripe is one of the line's
pub stripe_below : (w g c a : ℕ) → 0 < w → c % w ≡ 0 → a < g * c → a / w < (c / w) * g
stripe_below w g c a hw hc ha =
    let e : c ≡ c / w * w = omega (arith, div-add-mod' c w) in
    let same : g * c ≡ (c / w * g) * w = ap (λ x. g * x) e ∙ omega arith in
    let below : a < (c / w * g) * w = subst (λ x. a < x) same ha in
    div_below a w (c / w * g) hw below

pub chunk_below : (w g c a : ℕ) → 0 < g → (a / w) % g < g
chunk_below w g c a hg = mod-lt (a / w) hg

pub block_below : (w g c a : ℕ) → 0 < w → c % w ≡ 0 → 0 < g → a < g * c → (a / w) / g * w + a % w < c
block_below w g c a hw hc hg ha =
    let row : (a / w) / g < c / w = div_below (a / w) g (c / w) hg (stripe_below w g c a hw hc ha) in
    let below : (a / w) / g * w + a % w < w * (c / w) = mul-add-lt ((a / w) / g) w (a % w) (c / w) row (mod-lt a hw) in
    omega (arith, div-add-mod' c w)

pub address_back : (w g a : ℕ) → 0 < w → (((a / w) / g * w + a % w) / w * g + (a / w) % g) * w + ((a / w) / g * w + a % w) % w ≡ a
address_back w g a hw =
    let small : a % w < w = mod-lt a hw in
    let quotient : ((a / w) / g * w + a % w) / w ≡ (a / w) / g = div-mul-add ((a / w) / g) w (a % w) small in
    let rest : ((a / w) / g * w + a % w) % w ≡ a % w = mod-mul-add ((a / w) / g) w (a % w) small in
    rw (quotient, rest, div-add-mod' (a / w) g) (div-add-mod' a w)

pub address_below : (w g c k b : ℕ) → 0 < w → c % w ≡ 0 → k < g → b < c → ((b / w) * g + k) * w + b % w < g * c
address_below w g c k b hw hc hk hb =
    let e : c ≡ c / w * w = omega (arith, div-add-mod' c w) in
    let inside : b < (c / w) * w = subst (λ x. b < x) e hb in
    let row : b / w < c / w = div_below b w (c / w) hw inside in
    let stripe : (b / w) * g + k < g * (c / w) = mul-add-lt (b / w) g k (c / w) row hk in
    let below : ((b / w) * g + k) * w + b % w < w * (g * (c / w)) = mul-add-lt ((b / w) * g + k) w (b % w) (g * (c / w)) stripe (mod-lt b hw) in
    let same : w * (g * (c / w)) ≡ g * c = omega arith ∙ ap (λ x. g * x) (sym e) in
    subst (λ x. ((b / w) * g + k) * w + b % w < x) same below

pub chunk_back : (w g k b : ℕ) → 0 < w → k < g → ((((b / w) * g + k) * w + b % w) / w) % g ≡ k
chunk_back w g k b hw hk = rw (div-mul-add ((b / w) * g + k) w (b % w) (mod-lt b hw)) (mod-mul-add (b / w) g k hk)

pub block_back : (w g k b : ℕ) → 0 < w → k < g → ((((b / w) * g + k) * w + b % w) / w) / g * w + (((b / w) * g + k) * w + b % w) % w ≡ b
block_back w g k b hw hk =
    let small : b % w < w = mod-lt b hw in
    rw (div-mul-add ((b / w) * g + k) w (b % w) small, mod-mul-add ((b / w) * g + k) w (b % w) small, div-mul-add (b / w) g k hk) (div-add-mod' b w)

-- How many stripes the parts of a line are.
use Rattle.std.proofs.Common.{◌≡◌, ℕ, ◌+◌, ◌-◌, ◌*◌, ◌/◌, ◌%◌, ◌<◌, ◌≤◌, nat_lt, Bool, true, false, cond, refl, sym, subst, ap, ◌∙◌, arith}
use Rattle.std.specs.Int.{div_ceil}
use Rattle.std.proofs.Math.Nat.{mul-sub, mul_comm, mul-div_cancel_left, mul-add-div_right, lt_of_mul-lt-mul_right, le_of_mul-le-mul_right, mul-le-mul_right}
use Rattle.pblk_model.specs.declared.shape.Shape.{Shape}
use Rattle.pblk_model.specs.LineOrder.{start_len, end_len, data_len}
use Rattle.stripe_placer.proofs.Opening.{data_and_start, line_rows}

-- a line of g units with data addresses, in stripes
pub record IsStriped (s : Shape) (g : ℕ) : Type 0 where
  pub some : 0 < s.ws_opt
  pub wide : 0 < g
  pub start_is : start_len s / s.ws_opt * s.ws_opt ≡ start_len s
  pub data_is : data_len s g / s.ws_opt * s.ws_opt ≡ data_len s g
  pub line_is : g * (s.clba / s.ws_opt) * s.ws_opt ≡ g * s.clba
  pub fits : start_len s / s.ws_opt + data_len s g / s.ws_opt ≤ g * (s.clba / s.ws_opt)
  pub end_is : (start_len s + data_len s g) / s.ws_opt ≡ start_len s / s.ws_opt + data_len s g / s.ws_opt

back : (w d n : ℕ) → 0 < w → n ≡ w * d → n / w * w ≡ n
back w d n some e =
    let part : n / w ≡ d = ap (λ k. k / w) e ∙ mul-div_cancel_left d {n = w} some in
    ap (λ k. k * w) part ∙ mul_comm d w ∙ sym e

between : (w a b c : ℕ) → w * a - w * b - w * c ≡ w * (a - b - c)
between w a b c =
    let first : w * (a - b) ≡ w * a - w * b = mul-sub w a b in
    let second : w * (a - b - c) ≡ w * (a - b) - w * c = mul-sub w (a - b) c in
    omega arith

data_back : (w m : ℕ) (b : Bool) → 0 < w → cond b 0 (w * m) / w * w ≡ cond b 0 (w * m)
data_back w m true some = back w 0 0 some (omega arith)
data_back w m false some = back w m (w * m) some refl

pub striped : (s : Shape) (g : ℕ) → 0 < s.ws_opt → s.clba % s.ws_opt ≡ 0 → 0 < data_len s g → 0 < g → IsStriped s g
striped s g some whole has wide =
    let w : ℕ = s.ws_opt in
    let d : ℕ = div_ceil (64 + 24 * (s.chunks - 1)) (w * s.sector) in
    let e : ℕ = div_ceil (32 + 16 * (g * s.clba - start_len s)) (w * (s.sector + 16)) in
    let n : ℕ = g * (s.clba / w) in
    let start : start_len s / w * w ≡ start_len s = back w d (start_len s) some refl in
    let line : g * s.clba ≡ n * w = line_rows g s.clba w whole in
    let room : g * s.clba - start_len s - end_len s g ≡ w * (n - d - e) = ap (λ k. k - start_len s - end_len s g) (line ∙ mul_comm n w) ∙ between w n d e in
    let inside : start_len s + data_len s g ≤ g * s.clba = data_and_start s g (λ none. absurd (omega (arith, none))) in
    let data_back_ : data_len s g / w * w ≡ data_len s g =
    subst (λ k. cond (nat_lt k w) 0 k / w * w ≡ cond (nat_lt k w) 0 k) (sym room) (data_back w (n - d - e) (nat_lt (w * (n - d - e)) w) some) in
    let sum : (start_len s / w + data_len s g / w) * w ≡ start_len s / w * w + data_len s g / w * w = omega arith in
    record {
      some = some;
      wide = wide;
      start_is = start;
      data_is = data_back_;
      line_is = sym line;
      fits = le_of_mul-le-mul_right {m = start_len s / w + data_len s g / w} {n = n} {k = w} (omega arith) some;
      end_is = ap (λ k. (k + data_len s g) / w) (sym start) ∙ mul-add-div_right {m = w} some (start_len s / w) (data_len s g);
    }

-- stripe j begins before an address of whole stripes where it is among those before it

pub is_before : (w j k n : ℕ) → 0 < w → k * w ≡ n → j * w < n → j < k
is_before w j k n some e h = lt_of_mul-lt-mul_right w {m = j} {n = k} (omega arith)

pub begins_before : (w j k n : ℕ) → 0 < w → k * w ≡ n → j < k → j * w < n
begins_before w j k n some e h =
    let next : j + 1 ≤ k = omega arith in
    let product : (j + 1) * w ≤ k * w = mul-le-mul_right {m = j + 1} {n = k} w next in
    omega arith

pub ends_before : (w j k n : ℕ) → k * w ≡ n → j < k → j * w + w ≤ n
ends_before w j k n e h =
    let next : j + 1 ≤ k = omega arith in
    let product : (j + 1) * w ≤ k * w = mul-le-mul_right {m = j + 1} {n = k} w next in
    omega arith

pub begins_after : (w j k n : ℕ) → k * w ≡ n → k ≤ j → n ≤ j * w
begins_after w j k n e h = let product : k * w ≤ j * w = mul-le-mul_right {m = k} {n = j} w h in omega arith

pub is_after : (w j k n : ℕ) → 0 < w → k * w ≡ n → n ≤ j * w → k ≤ j
is_after w j k n some e h = le_of_mul-le-mul_right {m = k} {n = j} {k = w} (omega arith) some

-- The blocks of a line, in line order.
use Rattle.std.proofs.Common.{◌≡◌, ℕ, ◌+◌, ◌*◌, ◌/◌, ◌%◌, ◌<◌, ◌↔◌, zero, suc, Option, Some, None, List, [], ◌∷◌, ◌++◌, map, length, refl, sym, ap, ◌∙◌, subst, arith, length-append}
use Rattle.std.specs.List.{slice_get, flat_map, range_with_len}
use Rattle.std.specs.Option.{option_and_then, option_map}
use Rattle.std.proofs.lemmas.List.FromFn.{length-map-range_with_len, length-range_with_len}
use Rattle.std.proofs.lemmas.Option.{slice_get_within, slice_get-map}
use Rattle.std.proofs.Math.Nat.{mod-lt}
use Rattle.std.proofs.lemmas.Nat.{div-add-mod', div_below, mul-add-lt}
use Rattle.pblk_model.specs.declared.shape.Shape.{Shape}
use Rattle.pblk_model.specs.LineOrder.{line_order, column_of, block_of}
use Rattle.pblk_model.proofs.LineOrder.{stripe_below, chunk_below}
use Rattle.pblk_model.proofs.Maps.{range_get}
use Rattle.pblk_model.proofs.Numbers.{some_units}
use Rattle.pblk_model.proofs.Options.{map_some}
use Rattle.pblk_model.proofs.Parts.{get_first, get_rest}

-- pieces of one length
pub get_piece : {X Y : Type 0} (f : X → List Y) (m : ℕ) (xs : List X) (i j : ℕ) → ((x : X) → length (f x) ≡ m) → j < m
    → slice_get (flat_map f xs) (i * m + j) ≡ option_and_then (λ x. slice_get (f x) j) (slice_get xs i)
get_piece f m [] i j long h = refl
get_piece f m (x ∷ xs) zero j long h = ap (slice_get (f x ++ flat_map f xs)) (omega arith) ∙ get_first (f x) (flat_map f xs) j (omega (arith, long x))
get_piece f m (x ∷ xs) (suc i) j long h =
    let more : suc i * m + j ≡ m + (i * m + j) = omega arith in
    ap (slice_get (f x ++ flat_map f xs)) more ∙ get_rest (f x) (flat_map f xs) m (i * m + j) (long x) ∙ get_piece f m xs i j long h

pub pieces_length : {X Y : Type 0} (f : X → List Y) (m : ℕ) (xs : List X) → ((x : X) → length (f x) ≡ m) → length (flat_map f xs) ≡ length xs * m
pieces_length f m [] long = omega arith
pieces_length f m (x ∷ xs) long = length-append (f x) (flat_map f xs) ∙ omega (arith, long x, pieces_length f m xs long)

-- A stripe of w blocks, and a row of stripes.

stripe : ℕ → ℕ → ℕ → List (ℕ × ℕ)
stripe w row unit = map (λ k. (unit, row * w + k)) (range_with_len 0 w)

row_of : ℕ → List ℕ → ℕ → List (ℕ × ℕ)
row_of w us row = flat_map (stripe w row) us

stripe_length : (w row unit : ℕ) → length (stripe w row unit) ≡ w
unfolding stripe
stripe_length w row unit = length-map-range_with_len (λ k. (unit, row * w + k)) 0 w

row_length : (w : ℕ) (us : List ℕ) (row : ℕ) → length (row_of w us row) ≡ length us * w
unfolding row_of
row_length w us row = pieces_length (stripe w row) w us (stripe_length w row)

stripe_at : (w row unit k : ℕ) → k < w → slice_get (stripe w row unit) k ≡ Some (unit, row * w + k)
unfolding stripe
stripe_at w row unit k h =
    slice_get-map (λ (x : ℕ). (unit, row * w + x)) (range_with_len 0 w) k
    ∙ ap (option_map (λ (x : ℕ). (unit, row * w + x))) (range_get 0 w k h ∙ ap Some (omega arith))

and_then_same : {A B : Type 0} (f : A → Option B) (g : A → B) (o : Option A) → ((x : A) → f x ≡ Some (g x)) → option_and_then f o ≡ option_map g o
and_then_same f g None h = refl
and_then_same f g (Some x) h = h x

row_at : (w row : ℕ) (us : List ℕ) (column k : ℕ) → k < w
    → slice_get (row_of w us row) (column * w + k) ≡ option_map (λ unit. (unit, row * w + k)) (slice_get us column)
unfolding row_of
row_at w row us column k h =
    get_piece (stripe w row) w us column k (stripe_length w row) h
    ∙ and_then_same (λ unit. slice_get (stripe w row unit) k) (λ unit. (unit, row * w + k)) (slice_get us column) (λ unit. stripe_at w row unit k h)

below : (g column w k : ℕ) → column < g → k < w → column * w + k < g * w
below g column w k h l = omega (arith, mul-add-lt column w k g h l)

order_at : (w rows row column k : ℕ) (us : List ℕ) → row < rows → column < length us → k < w
    → slice_get (flat_map (row_of w us) (range_with_len 0 rows)) (row * (length us * w) + (column * w + k)) ≡ option_map (λ unit. (unit, row * w + k))
    (slice_get us column)
order_at w rows row column k us in_rows in_row in_stripe =
    let inside : column * w + k < length us * w = below (length us) column w k in_row in_stripe in
    get_piece (row_of w us) (length us * w) (range_with_len 0 rows) row (column * w + k) (row_length w us) inside
    ∙ ap (option_and_then (λ x. slice_get (row_of w us x) (column * w + k))) (range_get 0 rows row in_rows ∙ ap Some (omega arith))
    ∙ row_at w row us column k in_stripe

-- the place of an address
address_is : (w g a : ℕ) → ((a / w) / g) * (g * w) + (((a / w) % g) * w + a % w) ≡ a
address_is w g a =
    let stripe_is : a / w ≡ (a / w) / g * g + (a / w) % g = sym (div-add-mod' (a / w) g) in
    let all : a / w * w + a % w ≡ a = div-add-mod' a w in
    let more : ((a / w) / g * g + (a / w) % g) * w ≡ a / w * w = ap (λ x. x * w) (sym stripe_is) in
    omega arith

pub order_length : (s : Shape) (us : List ℕ) → 0 < s.ws_opt → s.clba % s.ws_opt ≡ 0 → length (line_order s us) ≡ length us * s.clba
unfolding row_of stripe
order_length s us some whole =
    let rows : ℕ = s.clba / s.ws_opt in
    let all : rows * s.ws_opt + s.clba % s.ws_opt ≡ s.clba = div-add-mod' s.clba s.ws_opt in
    let long : length us * (rows * s.ws_opt) ≡ length us * s.clba = ap (λ x. length us * x) (omega arith) in
    pieces_length (row_of s.ws_opt us) (length us * s.ws_opt) (range_with_len 0 rows) (row_length s.ws_opt us)
    ∙ ap (λ n. n * (length us * s.ws_opt)) (length-range_with_len 0 rows) ∙ omega arith

pub order_block : (s : Shape) (us : List ℕ) (a : ℕ) → 0 < s.ws_opt → s.clba % s.ws_opt ≡ 0 → a < length us * s.clba
    → slice_get (line_order s us) a ≡ option_map (λ unit. (unit, block_of s (length us) a)) (slice_get us (column_of s (length us) a))
unfolding row_of stripe
order_block s us a some whole inside =
    let w : ℕ = s.ws_opt in
    let g : ℕ = length us in
    let wide : 0 < g = some_units g s.clba a inside in
    let in_rows : (a / w) / g < s.clba / w = div_below (a / w) g (s.clba / w) wide (stripe_below w g s.clba a some whole inside) in
    subst (λ x. slice_get (line_order s us) x ≡ option_map (λ unit. (unit, block_of s g a)) (slice_get us (column_of s g a))) (address_is w g a)
    (order_at w (s.clba / w) ((a / w) / g) ((a / w) % g) (a % w) us in_rows (chunk_below w g s.clba a wide) (mod-lt a some))

pub order_exactly : (s : Shape) (us : List ℕ) (a unit : ℕ) → 0 < s.ws_opt → s.clba % s.ws_opt ≡ 0
    → (slice_get (line_order s us) a ≡ Some (unit, block_of s (length us) a))
    ↔ ((slice_get us (column_of s (length us) a) ≡ Some unit) × (a < length us * s.clba))
order_exactly s us a unit some whole = (
  λ e.
      let inside : a < length us * s.clba =
      omega (arith, slice_get_within (line_order s us) a (unit, block_of s (length us) a) e, order_length s us some whole) in
      let there = map_some (λ x. (x, block_of s (length us) a)) (slice_get us (column_of s (length us) a)) (unit, block_of s (length us) a)
      (sym (order_block s us a some whole inside) ∙ e) in
      (there.1 ∙ ap (λ (p : ℕ × ℕ). Some p.0) there.2, inside),
  λ h. order_block s us a some whole h.1 ∙ ap (option_map (λ x. (x, block_of s (length us) a))) h.0,
)

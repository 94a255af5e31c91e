-- The line addresses of a stripe's blocks, by its number in the line.
use Rattle.std.proofs.Common.{◌≡◌, ℕ, ◌+◌, ◌*◌, ◌/◌, ◌%◌, ◌<◌, ◌≤◌, true, Some, Option, List, length, sym, subst, ap, ap₂, ◌∙◌, arith}
use Rattle.std.specs.Prelude.{slice_get}
use Rattle.std.specs.List.{slice_index_or}
use Rattle.std.specs.Option.{unwrap_or}
use Rattle.std.proofs.lemmas.Nat.{div-mul-add, mod-mul-add}
use Rattle.std.proofs.lemmas.Option.{slice_get_within, get_or_from_slice_get}
use Rattle.std.proofs.Math.Nat.{div-add-mod', mul-le-mul_right}
use Rattle.pblk_model.specs.LineOrder.{column_of, block_of, line_order}
use Rattle.pblk_model.specs.Image.{Image}
use Rattle.pblk_model.proofs.OrderedBlocks.{order_exactly}
use Rattle.pblk_layout.specs.Online.{units_in}
use Rattle.pblk_world.specs.World.{Logs}
use Rattle.pblk_world.specs.EngineLog.{Opening, Placed}
use Rattle.stripe_placer.specs.OpenLines.{OpenLine, width, unit_of}
use Rattle.core_laws.specs.OpenedLines.{as_opened, is_stripe_at}
use Rattle.core_laws.specs.PlacerOf.{number_of}
use Rattle.core_laws.proofs.StripesByPlace.{at_its_place, not_at, find_only}
use Rattle.core_laws.specs.StripeTurns.{IsAtTurn}
use Rattle.pblk_model.proofs.Lists.{length_replicate}

module _ (i : Image) (logs : Logs) (o : Opening) (us : List ℕ) (line j : ℕ) (p : Placed) (some : 0 < i.shape.ws_opt) (whole : i.shape.clba % i.shape.ws_opt ≡ 0)
    (live : units_in (as_opened i logs o).online ≡ us) (is : IsAtTurn i.shape us line j p) where
  column : j % length us < length us
  column = slice_get_within us (j % length us) p.stripe.unit is.unit

  pub some_units : 0 < length us
  some_units = let inside : j % length us < length us = column in omega arith

  -- it is one of the stripes that the line has, and this is one of its blocks
  module _ (r : ℕ) (inside : r < i.shape.ws_opt) (below : j < i.shape.clba / i.shape.ws_opt * length us) where
    pub number_is : number_of i.shape (as_opened i logs o) p.stripe ≡ j
    number_is =
        let l : OpenLine = as_opened i logs o in
        let g : width l ≡ length us = ap (λ (xs : List ℕ). length xs) live in
        let unit : unit_of l j ≡ p.stripe.unit =
        ap₂ (λ (xs : List ℕ) n. slice_index_or xs (j % n) 0) live g ∙ get_or_from_slice_get us (j % length us) p.stripe.unit 0 is.unit in
        let place : j / width l * i.shape.ws_opt ≡ p.stripe.at = ap (λ n. j / n * i.shape.ws_opt) g ∙ sym is.at in
        let there : is_stripe_at i.shape l p.stripe.unit p.stripe.at j ≡ true = at_its_place i.shape l p.stripe.unit p.stripe.at j unit place in
        let count : length l.stripes ≡ width l * (i.shape.clba / i.shape.ws_opt) = length_replicate (width l * (i.shape.clba / i.shape.ws_opt)) _ in
        let all : width l * (i.shape.clba / i.shape.ws_opt) ≡ length us * (i.shape.clba / i.shape.ws_opt) = ap (λ n. n * (i.shape.clba / i.shape.ws_opt)) g in
        let under : j < i.shape.clba / i.shape.ws_opt * length us = below in
        let inner : j < length l.stripes = omega arith in
        let wide : 0 < width l = subst (λ n. 0 < n) (sym g) some_units in
        let from : 0 + j ≡ j = omega arith in
        ap (λ (x : Option ℕ). unwrap_or x 0)
        (find_only (is_stripe_at i.shape l p.stripe.unit p.stripe.at) (length l.stripes) 0 j inner
        (ap (is_stripe_at i.shape l p.stripe.unit p.stripe.at) from ∙ there)
        (λ m other. not_at i.shape l p.stripe.unit p.stripe.at m j some wide there (λ e. other (e ∙ sym from)))
        ∙ ap (λ m. Some m) from)

    pub address_within : j * i.shape.ws_opt + r < length us * i.shape.clba
    address_within =
        let under : j + 1 ≤ i.shape.clba / i.shape.ws_opt * length us = omega arith in
        let more : (j + 1) * i.shape.ws_opt ≤ i.shape.clba / i.shape.ws_opt * length us * i.shape.ws_opt = mul-le-mul_right i.shape.ws_opt under in
        let parts : i.shape.clba / i.shape.ws_opt * i.shape.ws_opt + i.shape.clba % i.shape.ws_opt ≡ i.shape.clba = div-add-mod' i.shape.clba i.shape.ws_opt in
        let chunk : i.shape.clba / i.shape.ws_opt * i.shape.ws_opt ≡ i.shape.clba = omega arith in
        let swap : i.shape.clba / i.shape.ws_opt * length us * i.shape.ws_opt ≡ length us * (i.shape.clba / i.shape.ws_opt * i.shape.ws_opt) = omega arith in
        let end_ : length us * (i.shape.clba / i.shape.ws_opt * i.shape.ws_opt) ≡ length us * i.shape.clba = ap (λ n. length us * n) chunk in
        let next : (j + 1) * i.shape.ws_opt ≡ j * i.shape.ws_opt + i.shape.ws_opt = omega arith in
        omega arith

    pub place_is : slice_get (line_order i.shape us) (j * i.shape.ws_opt + r) ≡ Some (p.stripe.unit, p.stripe.at + r)
    place_is =
        let quotient : (j * i.shape.ws_opt + r) / i.shape.ws_opt ≡ j = div-mul-add j i.shape.ws_opt r inside in
        let rest : (j * i.shape.ws_opt + r) % i.shape.ws_opt ≡ r = mod-mul-add j i.shape.ws_opt r inside in
        let block : block_of i.shape (length us) (j * i.shape.ws_opt + r) ≡ p.stripe.at + r = ap₂ (λ m n. m / length us * i.shape.ws_opt + n) quotient rest
        ∙ ap (λ n. n + r) (sym is.at) in
        let unit : slice_get us (column_of i.shape (length us) (j * i.shape.ws_opt + r)) ≡ Some p.stripe.unit = ap (λ n. slice_get us (n % length us)) quotient
        ∙ is.unit in
        (order_exactly i.shape us (j * i.shape.ws_opt + r) p.stripe.unit some whole).1 (unit, address_within) ∙ ap (λ b. Some (p.stripe.unit, b)) block

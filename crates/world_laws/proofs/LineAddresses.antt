-- The line addresses of a stripe's blocks: one after another from that of its first block on.
use Rattle.std.proofs.Common.{◌≡◌, ℕ, ◌+◌, ◌-◌, ◌*◌, ◌/◌, ◌%◌, ◌<◌, ◌≤◌, ◌⊎◌, inl, inr, Some, Option, List, length, take, drop, replicate, sym, ap, ap₂, ◌∙◌, arith, length-append, length-take, subst}
use Rattle.std.specs.Prelude.{map, slice_get}
use Rattle.std.specs.Option.{option_map}
use Rattle.std.proofs.lemmas.Bool.{cases_lt}
use Rattle.std.proofs.lemmas.List.{length-map}
use Rattle.std.proofs.lemmas.Nat.{div-add-mod', div-mul-add, mod-mul-add}
use Rattle.std.proofs.Math.Nat.{mod-lt, mul-le-mul_right, mul-mod_left}
use Rattle.pblk_model.specs.declared.shape.Shape.{Shape}
use Rattle.pblk_model.specs.Chunk.{Block}
use Rattle.pblk_model.specs.LineOrder.{block_of, column_of}
use Rattle.pblk_model.specs.Marks.{pad_block}
use Rattle.pblk_model.specs.Image.{Image, line_units, width}
use Rattle.pblk_laws.proofs.LineUnits.{line_units_count}
use Rattle.pblk_world.specs.Events.{Stripe, Logged}
use Rattle.pblk_world.specs.World.{Logs}
use Rattle.pblk_world.specs.EngineLog.{block_of_taken}
use Rattle.pblk_world.specs.Fronts.{waiting}
use Rattle.pblk_world.specs.Lines.{known_image, place_of}
use Rattle.pblk_world.specs.Placing.{MayPlace, IsStart, IsData, IsEnd, IsPad, data_blocks, next_address, padded, stripe_at}
use Rattle.pblk_model.proofs.Lists.{length_replicate}
use Rattle.pblk_model.proofs.Options.{mapped_some}

-- a multiple of n with a rest below n is one without a rest
no_rest : (n x r y : ℕ) → r < n → x * n + r ≡ y * n → r ≡ 0
no_rest n x r y small e = go (cases_lt x y)
  where
    go : (x < y) ⊎ (y ≤ x) → r ≡ 0
    go (inl less) = let more : (x + 1) * n ≤ y * n = mul-le-mul_right n (omega arith) in omega arith
    go (inr most) = let more : y * n ≤ x * n = mul-le-mul_right n most in omega arith

-- the address of a stripe's first block gives those of its others
pub place_within : (img : Image) (line unit at a index : ℕ) → 0 < img.shape.ws_opt → a % img.shape.ws_opt ≡ 0 → place_of img line a ≡ Some (unit, at)
    → index < img.shape.ws_opt → place_of img line (a + index) ≡ Some (unit, at + index)
place_within img line unit at a index some whole is within =
    let n : ℕ = img.shape.ws_opt in
    let g : ℕ = width img line in
    let start : a / n * n + a % n ≡ a = div-add-mod' a n in
    let far : a + index ≡ a / n * n + index = omega arith in
    let stripe : (a + index) / n ≡ a / n = ap (λ x. x / n) far ∙ div-mul-add (a / n) n index within in
    let rest : (a + index) % n ≡ index = ap (λ x. x % n) far ∙ mod-mul-add (a / n) n index within in
    let first = mapped_some (slice_get (line_units img line) (column_of img.shape g a)) (block_of img.shape g a) unit at is in
    let block : block_of img.shape g (a + index) ≡ at + index =
    ap₂ (λ x y. x / g * n + y) stripe rest ∙ (let here : at ≡ a / n / g * n + a % n = first.1 in omega arith) in
    ap₂ (λ c k. option_map {U = ℕ × ℕ} (λ u. (u, k)) (slice_get (line_units img line) (c % g))) stripe block
    ∙ ap (option_map {U = ℕ × ℕ} (λ u. (u, at + index))) first.0

-- where an address is depends on the line's units alone
place_with : Shape → List ℕ → ℕ → Option (ℕ × ℕ)
place_with s us a = option_map {U = ℕ × ℕ} (λ unit. (unit, block_of s (length us) a)) (slice_get us (column_of s (length us) a))

place_by_units : (img : Image) (line a : ℕ) → place_of img line a ≡ place_with img.shape (line_units img line) a
unfolding place_with
place_by_units img line a =
    ap (λ g. option_map {U = ℕ × ℕ} (λ unit. (unit, block_of img.shape g a)) (slice_get (line_units img line) (column_of img.shape g a)))
    (sym (line_units_count img line))

pub same_place : (x y : Image) (line a : ℕ) → x.shape ≡ y.shape → line_units x line ≡ line_units y line → place_of x line a ≡ place_of y line a
same_place x y line a shapes units = place_by_units x line a ∙ ap₂ (λ s us. place_with s us a) shapes units ∙ sym (place_by_units y line a)

-- ---- a stripe that may be placed

-- it has an address, and at most WS_OPT blocks
pub record HasAddress (i : Image) (logs : Logs) (stripe : Stripe) : Type 0 where
  pub address : ℕ
  pub whole : address % i.shape.ws_opt ≡ 0
  pub place : place_of (known_image i logs) stripe.line address ≡ Some (stripe.unit, stripe.at)
  pub few : length stripe.blocks ≤ i.shape.ws_opt

few_in_part : (s : Shape) (blocks : List Block) (begins a : ℕ) → length (stripe_at s blocks begins a) ≤ s.ws_opt
few_in_part s blocks begins a = omega (arith, length-take (a - begins + s.ws_opt - (a - begins)) (drop (a - begins) blocks))

few_padded : (s : Shape) (blocks : List Block) → length blocks ≤ s.ws_opt → length (padded s blocks) ≤ s.ws_opt
few_padded s blocks few =
    omega (arith, length-append blocks (replicate (s.ws_opt - length blocks) (pad_block s)), length_replicate (s.ws_opt - length blocks) (pad_block s))

few_data : (s : Shape) (log : List Logged) → length (data_blocks s log) ≤ s.ws_opt
few_data s log = few_padded s (map block_of_taken (take s.ws_opt (waiting s log)))
    (omega (arith, length-map (take s.ws_opt (waiting s log)) block_of_taken, length-take s.ws_opt (waiting s log)))

few_pads : (s : Shape) → length (replicate s.ws_opt (pad_block s)) ≤ s.ws_opt
few_pads s = omega (arith, length_replicate s.ws_opt (pad_block s))

pad_whole : (s : Shape) (g a at n : ℕ) → 0 < s.ws_opt → at ≡ block_of s g a → at ≡ n * s.ws_opt → a % s.ws_opt ≡ 0
pad_whole s g a at n some is whole = no_rest s.ws_opt (a / s.ws_opt / g) (a % s.ws_opt) n (mod-lt a some) (sym is ∙ whole)

pub has_address : (i : Image) (logs : Logs) (stripe : Stripe) → 0 < i.shape.ws_opt → MayPlace i logs stripe → HasAddress i logs stripe
has_address i logs stripe some may = go may.kind
  where
    next : ℕ
    next = next_address i.shape (logs 0) may.opening

    go : IsStart i logs may.opening stripe ⊎ (IsData i logs may.opening stripe ⊎ (IsEnd i logs may.opening stripe ⊎ IsPad i logs may.opening stripe))
        → HasAddress i logs stripe
    go (inl h) = record {
      address = next;
      whole = mul-mod_left _ i.shape.ws_opt;
      place = h.next.in_order;
      few = subst (λ (bs : List Block). length bs ≤ i.shape.ws_opt) (sym h.blocks) (few_in_part i.shape _ 0 next);
    }
    go (inr (inl h)) = record {
      address = next;
      whole = mul-mod_left _ i.shape.ws_opt;
      place = h.next.in_order;
      few = subst (λ (bs : List Block). length bs ≤ i.shape.ws_opt) (sym h.blocks) (few_data i.shape (logs 0));
    }
    go (inr (inr (inl h))) = record {
      address = next;
      whole = mul-mod_left _ i.shape.ws_opt;
      place = h.next.in_order;
      few = subst (λ (bs : List Block). length bs ≤ i.shape.ws_opt) (sym h.blocks) (few_in_part i.shape _ _ next);
    }
    go (inr (inr (inr h))) =
        let known : Image = known_image i logs in
        let parts = mapped_some (slice_get (line_units known stripe.line) (column_of i.shape (width known stripe.line) h.address))
        (block_of i.shape (width known stripe.line) h.address) stripe.unit stripe.at h.place in
        record {
          address = h.address;
          whole = pad_whole i.shape (width known stripe.line) h.address stripe.at _ some parts.1 h.at;
          place = h.place;
          few = subst (λ (bs : List Block). length bs ≤ i.shape.ws_opt) (sym h.blocks) (few_pads i.shape);
        }

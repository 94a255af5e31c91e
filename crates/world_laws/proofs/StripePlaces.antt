-- The k-th stripe of an opening on a unit is at k times WS_OPT in the unit's chunk, a pad too.
use Rattle.std.proofs.Common.{◌≡◌, ◌≢◌, ℕ, ◌+◌, ◌-◌, ◌*◌, ◌/◌, ◌%◌, ◌<◌, ◌⊎◌, inl, inr, ◌==◌, nat_eq, Bool, true, false, cond, Some, List, [], ◌∷◌, ◌++◌, length, take, refl, sym, ap, ap₂, ◌∙◌, arith, length-append}
use Rattle.std.specs.Prelude.{slice_get}
use Rattle.std.specs.List.{Contains, filter}
use Rattle.std.specs.List.Sorted.{IsStrictlyIncreasing}
use Rattle.std.proofs.lemmas.Bool.{cases_order, eqb-true, eqb-false}
use Rattle.std.proofs.lemmas.List.Elements.{filter-append}
use Rattle.std.proofs.lemmas.Nat.{div-add-mod', div-mul-add}
use Rattle.std.proofs.lemmas.Option.{same_Some}
use Rattle.std.proofs.Math.Nat.{mod-lt, mul-div_cancel, mul-mod_left}
use Rattle.pblk_model.specs.LineOrder.{block_of, column_of}
use Rattle.pblk_model.specs.Image.{Image, line_units, width}
use Rattle.pblk_laws.proofs.LineUnits.{line_units_count, line_units_rise}
use Rattle.pblk_world.specs.Events.{Logged}
use Rattle.pblk_world.specs.World.{World, Logs, log_of, media}
use Rattle.pblk_world.specs.EngineLog.{Opened, Opening, Placed, has_failed, life_of, openings, stripes_of, stripes_on}
use Rattle.pblk_world.specs.Lines.{known_image, place_of}
use Rattle.pblk_world.specs.Placing.{IsNext}
use Rattle.pblk_world.specs.Victims.{engine_prefix}
use Rattle.pblk_world.proofs.VictimsLemmas.{whole_prefix}
use Rattle.pblk_model.proofs.Maps.{all_passed, from_filter}
use Rattle.pblk_model.proofs.Options.{mapped_some}
use Rattle.pblk_model.proofs.Parts.{all_at, contained_among, get_below, get_last, get_more, is_in, one_column}
use Rattle.pblk_model.proofs.Tests.{not_both}
use Rattle.pblk_world.specs.LegalMounts.{IsLegalMount}
use Rattle.world_laws.proofs.Lives.{by_last}
use Rattle.world_laws.proofs.Made.{IsMade, made, own_then}
use Rattle.world_laws.proofs.Stripes.{IsPlaced, opening_then, placed_is, stripe_is}
use Rattle.world_laws.proofs.ToldImages.{image_same}
use Rattle.world_laws.proofs.ToldSince.{told_up_to}
use Rattle.world_laws.proofs.LifePlaces.{began}
use Rattle.world_laws.proofs.LifeUnits.{units_of_life}
use Rattle.world_laws.proofs.LineBlocks.{IsLineOf, opened_line}
use Rattle.world_laws.proofs.LineAddresses.{same_place}
use Rattle.world_laws.proofs.LineStarts.{in_order_at}
use Rattle.world_laws.proofs.LineStripes.{IsKind, before, failed_later, stripe_kind, turn_of_stripe, turn_on_unit}

-- ---- how many of n in turn are in a column of g

in_turn : (g c n : ℕ) → c < g → n % g ≡ c → (n + (g - 1 - c)) / g ≡ n / g
in_turn g c n below is =
    let parts : n / g * g + n % g ≡ n = div-add-mod' n g in
    let far : n + (g - 1 - c) ≡ n / g * g + (g - 1) = omega arith in
    ap (λ x. x / g) far ∙ div-mul-add (n / g) g (g - 1) (omega arith)

one_more_in : (g c n : ℕ) → c < g → n % g ≡ c → (n + 1 + (g - 1 - c)) / g ≡ (n + (g - 1 - c)) / g + 1
one_more_in g c n below is =
    let parts : n / g * g + n % g ≡ n = div-add-mod' n g in
    let far : n + 1 + (g - 1 - c) ≡ (n / g + 1) * g + 0 = omega arith in
    ap (λ x. x / g) far ∙ div-mul-add (n / g + 1) g 0 (omega arith) ∙ ap (λ x. x + 1) (sym (in_turn g c n below is))

one_more_out : (g c n : ℕ) → c < g → n % g ≢ c → (n + 1 + (g - 1 - c)) / g ≡ (n + (g - 1 - c)) / g
one_more_out g c n below other = go (cases_order (n % g) c)
  where
    parts : n / g * g + n % g ≡ n
    parts = div-add-mod' n g

    small : n % g < g
    small = mod-lt n (omega arith)

    go : (n % g ≡ c) ⊎ ((n % g < c) ⊎ (c < n % g)) → (n + 1 + (g - 1 - c)) / g ≡ (n + (g - 1 - c)) / g
    go (inl same) = absurd (other same)
    go (inr (inl less)) =
        let first : n + (g - 1 - c) ≡ n / g * g + (n % g + (g - 1 - c)) = omega (arith, parts) in
        let next : n + 1 + (g - 1 - c) ≡ n / g * g + (n % g + 1 + (g - 1 - c)) = omega (arith, parts) in
        ap (λ x. x / g) next ∙ div-mul-add (n / g) g (n % g + 1 + (g - 1 - c)) (omega arith)
        ∙ sym (ap (λ x. x / g) first ∙ div-mul-add (n / g) g (n % g + (g - 1 - c)) (omega arith))
    go (inr (inr more)) =
        let first : n + (g - 1 - c) ≡ (n / g + 1) * g + (n % g - 1 - c) = omega (arith, parts, small) in
        let next : n + 1 + (g - 1 - c) ≡ (n / g + 1) * g + (n % g - c) = omega (arith, parts, small) in
        ap (λ x. x / g) next ∙ div-mul-add (n / g + 1) g (n % g - c) (omega (arith, small))
        ∙ sym (ap (λ x. x / g) first ∙ div-mul-add (n / g + 1) g (n % g - 1 - c) (omega (arith, small)))

-- ---- stripes that go over a line's units in turn

abbrev AreInTurn : List ℕ → List Placed → Type 0
AreInTurn us ps = (m : ℕ) (p : Placed) → slice_get ps m ≡ Some p → slice_get us (m % length us) ≡ Some p.stripe.unit

on_unit : (us : List ℕ) → IsStrictlyIncreasing us → (c unit : ℕ) → slice_get us c ≡ Some unit → (ps : List Placed) → AreInTurn us ps
    → length (filter (λ (p : Placed). p.stripe.unit == unit) ps) ≡ (length ps + (length us - 1 - c)) / length us
on_unit us rise c unit column ps = by_last Counts none (λ qs q before. one qs q before) ps
  where
    g : ℕ
    g = length us

    below : c < length us
    below = get_below us c unit column

    Counts : List Placed → Type 0
    Counts qs = AreInTurn us qs → length (filter (λ (p : Placed). p.stripe.unit == unit) qs) ≡ (length qs + (length us - 1 - c)) / length us

    none : Counts []
    none turn =
        let small : 0 + (length us - 1 - c) ≡ 0 * length us + (length us - 1 - c) = omega arith in
        sym (ap (λ x. x / length us) small ∙ div-mul-add 0 (length us) (length us - 1 - c) (omega (arith, below)))

    one : (qs : List Placed) (q : Placed) → Counts qs → Counts (qs ++ q ∷ [])
    one qs q before turn =
        ap length (filter-append (λ (p : Placed). p.stripe.unit == unit) qs (q ∷ []))
        ∙ length-append (filter (λ (p : Placed). p.stripe.unit == unit) qs) (filter (λ (p : Placed). p.stripe.unit == unit) (q ∷ []))
        ∙ by (nat_eq q.stripe.unit unit) refl
        ∙ ap (λ n. (n + (length us - 1 - c)) / length us) (sym (length-append qs (q ∷ [])))
      where
        was : length (filter (λ (p : Placed). p.stripe.unit == unit) qs) ≡ (length qs + (length us - 1 - c)) / length us
        was = before (λ m p there. turn m p (get_more qs (q ∷ []) m p there))

        at : slice_get us (length qs % length us) ≡ Some q.stripe.unit
        at = turn (length qs) q (get_last qs q)

        by : (t : Bool) → nat_eq q.stripe.unit unit ≡ t
            → length (filter (λ (p : Placed). p.stripe.unit == unit) qs) + length {A = Placed} (cond t (q ∷ []) [])
            ≡ (length qs + 1 + (length us - 1 - c)) / length us
        by true same =
            let its : length qs % length us ≡ c =
            one_column us (length qs % length us) c unit rise (at ∙ ap (λ u. Some u) (eqb-true q.stripe.unit unit same)) column in
            ap (λ n. n + 1) was ∙ sym (one_more_in (length us) c (length qs) below its)
        by false other =
            let apart : length qs % length us ≢ c = λ its.
            eqb-false q.stripe.unit unit other (same_Some q.stripe.unit unit (sym at ∙ ap (slice_get us) its ∙ column)) in
            (let nothing : length (filter (λ (p : Placed). p.stripe.unit == unit) qs) + 0 ≡ (length qs + (length us - 1 - c)) / length us =
            omega (arith, was) in nothing) ∙ sym (one_more_out (length us) c (length qs) below apart)

-- ---- the stripes of an opening, in the world in which one of them was placed

module _ (i : Image) (w : World) (mount : IsLegalMount i w) (o : Opening) (opened : Contains (openings (log_of w 0)) o) (p : Placed)
    (there : Contains (stripes_of (log_of w 0) o) p) where
  abbrev log : List Logged
  log = log_of w 0

  placed : IsPlaced (log_of w 0) p
  placed = placed_is log p (stripe_is i w o p mount.legal opened there).0

  h : IsMade i w 0 p.number placed.logged
  h = made i w 0 p.number placed.logged mount.legal placed.there

  abbrev v : World
  v = h.before

  own : log_of v 0 ≡ take p.number (log_of w 0)
  own = own_then i w 0 p.number placed.logged h

  mount_then : IsLegalMount i v
  mount_then = record { accepted = mount.accepted; fit = mount.fit; legal = h.legal }

  open_then : life_of (log_of v 0) o.line ≡ Opened o
  open_then =
      let is = stripe_is i w o p mount.legal opened there in
      ap (λ (xs : List Logged). life_of xs o.line) own ∙ ap (life_of (take p.number log)) (sym is.3) ∙ is.2

  line : IsLineOf i v o
  line = opened_line i v mount_then o open_then

  abbrev us : List ℕ
  us = line_units (media i (log_of v)) o.line

  -- the address of the m-th stripe's first block gives a unit and a block
  at_stripe : (m unit at : ℕ) → place_of (media i (log_of v)) o.line (m * i.shape.ws_opt) ≡ Some (unit, at)
      → (slice_get (line_units (media i (log_of v)) o.line) (m % length (line_units (media i (log_of v)) o.line)) ≡ Some unit)
      × (at ≡ m / length (line_units (media i (log_of v)) o.line) * i.shape.ws_opt)
  at_stripe m unit at is =
      let now : Image = media i (log_of v) in
      let g : width now o.line ≡ length us = sym (line_units_count now o.line) in
      let row : m * i.shape.ws_opt / i.shape.ws_opt ≡ m = mul-div_cancel m mount.accepted.drive.ws_opt in
      let rest : m * i.shape.ws_opt % i.shape.ws_opt ≡ 0 = mul-mod_left m i.shape.ws_opt in
      let parts = mapped_some (slice_get us (column_of i.shape (width now o.line) (m * i.shape.ws_opt)))
      (block_of i.shape (width now o.line) (m * i.shape.ws_opt)) unit at is in
      let block : block_of i.shape (width now o.line) (m * i.shape.ws_opt) ≡ m / length us * i.shape.ws_opt + 0 =
      ap₂ (λ x n. x / n * i.shape.ws_opt + m * i.shape.ws_opt % i.shape.ws_opt) row g ∙ ap (λ x. m / length us * i.shape.ws_opt + x) rest in (
        ap₂ (λ x n. slice_get us (x % n)) (sym row) (sym g) ∙ parts.0,
        (let here : at ≡ m / length us * i.shape.ws_opt + 0 = parts.1 ∙ block in omega arith),
      )

  -- while the line isn't Failed its stripes go over its units in turn
  next_then : has_failed (log_of v 0) o ≡ false → (q : Placed) → Contains (stripes_of (log_of v 0) o) q
      → IsNext i (engine_prefix q.number (log_of v)) o q.stripe
  next_then whole q its = go (stripe_kind i v o q h.legal line.opened its)
    where
      go : IsKind i (engine_prefix q.number (log_of v)) o q.stripe → IsNext i (engine_prefix q.number (log_of v)) o q.stripe
      go (inl x) = x.next
      go (inr (inl x)) = x.next
      go (inr (inr (inl x))) = x.next
      go (inr (inr (inr x))) = absurd (not_both (has_failed (log_of v 0) o) (failed_later (log_of v 0) o q.number x.failed) whole)

  in_turn_then : has_failed (log_of v 0) o ≡ false → AreInTurn (line_units (media i (log_of v)) o.line) (stripes_of (log_of v 0) o)
  in_turn_then whole m q at =
      let its : Contains (stripes_of (log_of v 0) o) q = is_in (stripes_of (log_of v 0) o) m q at in
      let place : place_of (media i (log_of v)) o.line (before (log_of v 0) o q.number * i.shape.ws_opt + 0) ≡ Some (q.stripe.unit, q.stripe.at + 0) =
      in_order_at i v mount_then o line q 0 its (next_then whole q its) mount.accepted.drive.ws_opt in
      let turn : before (log_of v 0) o q.number ≡ m = turn_of_stripe (log_of v 0) o m q at in
      let here : m * i.shape.ws_opt ≡ before (log_of v 0) o q.number * i.shape.ws_opt + 0 = ap (λ x. x * i.shape.ws_opt) (sym turn) ∙
      (let same : before (log_of v 0) o q.number * i.shape.ws_opt ≡ before (log_of v 0) o q.number * i.shape.ws_opt + 0 = omega arith in same) in
      (at_stripe m q.stripe.unit (q.stripe.at + 0) (ap (place_of (media i (log_of v)) o.line) here ∙ place)).0

  -- the units that the engine knew when it placed the stripe
  known_then : line_units (known_image i (engine_prefix p.number (log_of w))) o.line ≡ line_units (media i (log_of v)) o.line
  known_then =
      let b = began i v o.line o h.legal open_then in
      let later : o.number < p.number = (opening_then log p.number p.stripe.line o (stripe_is i w o p mount.legal opened there).2).2 in
      let long : length (log_of v 0) ≡ p.number = h.here in
      ap (λ (known : Image). line_units known o.line) (image_same i (log_of v) (engine_prefix p.number (log_of w)) (told_up_to i w p.number placed.logged h))
      ∙ ap (λ (logs : Logs). line_units (known_image i logs) o.line) (sym (whole_prefix (log_of v)))
      ∙ units_of_life i v h.legal b.0 b.1 o.line o open_then (length (log_of v 0)) (omega arith) (omega arith)

  next_place : (k : ℕ) → slice_get (stripes_on (log_of w 0) o p.stripe.unit) k ≡ Some p → IsNext i (engine_prefix p.number (log_of w)) o p.stripe
      → p.stripe.at ≡ k * i.shape.ws_opt
  next_place k at x =
      let unit : ℕ = p.stripe.unit in
      let ps : List Placed = stripes_of (log_of v 0) o in
      let count : length (stripes_of (take p.number log) o) ≡ length ps = ap (λ (xs : List Logged). length (stripes_of xs o)) (sym own) in
      let is = stripe_is i w o p mount.legal opened there in
      let place : place_of (media i (log_of v)) o.line (length ps * i.shape.ws_opt) ≡ Some (unit, p.stripe.at) =
      sym (same_place (known_image i (engine_prefix p.number (log_of w))) (media i (log_of v)) o.line (length ps * i.shape.ws_opt) refl known_then)
      ∙ ap₂ (λ l n. place_of (known_image i (engine_prefix p.number (log_of w))) l (n * i.shape.ws_opt)) (sym is.3) (sym count) ∙ x.in_order in
      let parts = at_stripe (length ps) unit p.stripe.at place in
      let whole : has_failed (log_of v 0) o ≡ false = ap (λ (xs : List Logged). has_failed xs o) own ∙ x.not_failed in
      let below : length ps % length us < length us = get_below us (length ps % length us) unit parts.0 in
      let turns : length (stripes_on (log_of v 0) o unit) ≡ length ps / length us =
      on_unit us (line_units_rise (media i (log_of v)) o.line) (length ps % length us) unit parts.0 ps (in_turn_then whole)
      ∙ in_turn (length us) (length ps % length us) (length ps) below refl in
      let turn : length (stripes_on (log_of v 0) o unit) ≡ k =
      ap (λ (xs : List Logged). length (stripes_on xs o unit)) own ∙ turn_on_unit log o unit k p at in
      parts.1 ∙ ap (λ n. n * i.shape.ws_opt) (sym turns ∙ turn)

pub kth_place : (i : Image) (w : World) (o : Opening) (unit k : ℕ) (p : Placed) → IsLegalMount i w → Contains (openings (log_of w 0)) o
    → slice_get (stripes_on (log_of w 0) o unit) k ≡ Some p → p.stripe.at ≡ k * i.shape.ws_opt
kth_place i w o unit k p mount opened at =
    let log : List Logged = log_of w 0 in
    let among = from_filter (λ (q : Placed). q.stripe.unit == unit) (stripes_of log o) p (k, at) in
    let there : Contains (stripes_of log o) p = contained_among (stripes_of log o) p among in
    let on : p.stripe.unit ≡ unit = eqb-true p.stripe.unit unit
    (all_at (λ (q : Placed). (q.stripe.unit == unit) ≡ true) (stripes_on log o unit) k p at
    (all_passed (λ (q : Placed). q.stripe.unit == unit) (stripes_of log o))) in
    go there (ap (λ u. slice_get (stripes_on log o u) k) on ∙ at) (stripe_kind i w o p mount.legal opened there)
  where
    go : Contains (stripes_of (log_of w 0) o) p → slice_get (stripes_on (log_of w 0) o p.stripe.unit) k ≡ Some p
        → IsKind i (engine_prefix p.number (log_of w)) o p.stripe → p.stripe.at ≡ k * i.shape.ws_opt
    go there own (inl x) = next_place i w mount o opened p there k own x.next
    go there own (inr (inl x)) = next_place i w mount o opened p there k own x.next
    go there own (inr (inr (inl x))) = next_place i w mount o opened p there k own x.next
    go there own (inr (inr (inr x))) = x.at ∙ ap (λ n. n * i.shape.ws_opt) (turn_on_unit (log_of w 0) o p.stripe.unit k p own)

-- The stripes of an opened line that isn't Failed are placed in line order, and data and the end
-- record behind a start record that has landed.
use Rattle.std.proofs.Common.{◌≡◌, inl, inr, ℕ, ◌+◌, ◌*◌, ◌/◌, ◌%◌, ◌<◌, ◌≤◌, ◌&&◌, zero, suc, Bool, true, false, Some, List, [], ◌∷◌, length, take, drop, refl, sym, subst, ap, ap₂, ◌∙◌, arith, mul-div_cancel, le_refl}
use Rattle.std.specs.Prelude.{slice_get, nat_le}
use Rattle.std.specs.List.{Contains, list_all}
use Rattle.std.proofs.Math.Nat.{mul-mod_left}
use Rattle.pblk_model.specs.LineOrder.{start_len, data_len, column_of, block_of}
use Rattle.pblk_model.specs.Image.{Image, line_units, width}
use Rattle.pblk_world.specs.Events.{Stripe, Logged}
use Rattle.pblk_world.specs.World.{World, Logs, log_of}
use Rattle.pblk_world.specs.EngineLog.{is_opened, Opening, Opened, life_of, Placed, stripes_of, has_landed, has_failed}
use Rattle.pblk_world.specs.Lines.{known_image, place_of}
use Rattle.pblk_world.specs.Placing.{IsNext, end_address, line_end}
use Rattle.pblk_world.specs.Starts.{have_landed}
use Rattle.pblk_world.specs.Victims.{engine_prefix}
use Rattle.stripe_placer.proofs.Opening.{width_some}
use Rattle.world_laws.proofs.Later.{placed_within}
use Rattle.world_laws.proofs.LineStripes.{IsKind, failed_later, stripe_kind, turn_of_stripe}
use Rattle.world_laws.proofs.Newest.{have_landed_later}
use Rattle.world_laws.proofs.Stripes.{opening_then, stripe_is}
use Rattle.core_laws.proofs.Followed.{IsFollowed, units_width}
use Rattle.core_laws.proofs.KeptLines.{units_since}
use Rattle.core_laws.proofs.LandedNow.{opened_now}
use Rattle.core_laws.proofs.PartLengths.{IsStriped, striped, is_before}
use Rattle.core_laws.proofs.PlainOpenings.{IsOpenedLine, opened_lines}
use Rattle.pblk_model.proofs.Options.{mapped_some}
use Rattle.pblk_model.proofs.Parts.{contained_among, got_within, take_and_drop}
use Rattle.pblk_model.proofs.Tests.{and_both, le_true, not_both, second_of}

-- ---- places

-- how many units a line has, and how many stripes
abbrev pub wide : (ℕ → List ℕ) → ℕ → ℕ
wide us line = length (us line)

abbrev pub stripe_count : Image → (ℕ → List ℕ) → ℕ → ℕ
stripe_count i us line = wide us line * (i.shape.clba / i.shape.ws_opt)

-- stripe k of a line has this unit and begins at this block
pub record IsAtPlace (i : Image) (us : ℕ → List ℕ) (line k unit at : ℕ) : Type 0 where
  pub its_unit : slice_get (us line) (k % wide us line) ≡ Some unit
  pub its_block : at ≡ k / wide us line * i.shape.ws_opt

-- the place that the line address of stripe k names
pub at_place : (i : Image) (us : ℕ → List ℕ) (ls : Logs) (line k unit at : ℕ) → line_units (known_image i ls) line ≡ us line → 0 < i.shape.ws_opt
    → place_of (known_image i ls) line (k * i.shape.ws_opt) ≡ Some (unit, at) → IsAtPlace i us line k unit at
at_place i us ls line k unit at units some is =
    let w : ℕ = i.shape.ws_opt in
    let its = mapped_some (slice_get (line_units (known_image i ls) line) (column_of i.shape (width (known_image i ls) line) (k * w)))
    (block_of i.shape (width (known_image i ls) line) (k * w)) unit at is in
    let row : k * w / w ≡ k = mul-div_cancel k {n = w} some in
    let g : width (known_image i ls) line ≡ wide us line = units_width i us ls line units in
    let rest : k * w % w ≡ 0 = mul-mod_left k w in
    record {
      its_unit = ap₂ (λ (us : List ℕ) j. slice_get us j) (sym units) (ap₂ (λ a b. a % b) (sym row) (sym g)) ∙ its.0;
      its_block = its.1 ∙ ap₂ (λ a b. a / b * w + k * w % w) row g ∙ ap (λ r. k / wide us line * w + r) rest ∙ omega arith;
    }

-- ---- the next stripe that may be placed

record IsPlacedNext (i : Image) (us : ℕ → List ℕ) (log : List Logged) (line : ℕ) (o : Opening) (k : ℕ) (stripe : Stripe) : Type 0 where
  place : IsAtPlace i us line k stripe.unit stripe.at
  inside : k < stripe_count i us line
  started : start_len i.shape / i.shape.ws_opt ≤ k → have_landed log o (start_len i.shape / i.shape.ws_opt) ≡ true

all_first : {X : Type 0} (test : X → Bool) (m n : ℕ) (xs : List X) → m ≤ n → list_all test (take n xs) ≡ true → list_all test (take m xs) ≡ true
all_first test zero n xs h e = refl
all_first test (suc m) zero xs h e = absurd (omega arith)
all_first test (suc m) (suc n) [] h e = refl
all_first {X} test (suc m) (suc n) (x ∷ xs) h e = go (test x) e (λ f. all_first test m n xs (omega arith) f)
  where
    go : (b : Bool) → (b && list_all test (take n xs)) ≡ true → (list_all test (take n xs) ≡ true → list_all test (take m xs) ≡ true)
        → (b && list_all test (take m xs)) ≡ true
    go true f rest = rest f
    go false f rest = absurd cc

pub its_stripes : (i : Image) (us : ℕ → List ℕ) (line : ℕ) (o : Opening) → 0 < i.shape.ws_opt → i.shape.clba % i.shape.ws_opt ≡ 0 → IsOpenedLine i us line o
    → IsStriped i.shape (wide us line)
its_stripes i us line o some whole is =
    striped i.shape (wide us line) some whole is.has_data (width_some i.shape (wide us line) some (λ e. let has = is.has_data in absurd (omega arith)))

next_by_kind : (i : Image) (us : ℕ → List ℕ) (ls : Logs) (stripe : Stripe) (line : ℕ) (o : Opening) → stripe.line ≡ line
    → line_units (known_image i ls) line ≡ us line → 0 < i.shape.ws_opt → IsStriped i.shape (wide us line) → IsOpenedLine i us line o
    → has_failed (ls 0) o ≡ false → IsKind i ls o stripe → IsPlacedNext i us (ls 0) line o (length (stripes_of (ls 0) o)) stripe
next_by_kind i us ls stripe line o its units some striped well whole = go
  where
    w : ℕ
    w = i.shape.ws_opt

    k : ℕ
    k = length (stripes_of (ls 0) o)

    c : ℕ
    c = start_len i.shape / i.shape.ws_opt

    d : ℕ
    d = data_len i.shape (wide us line) / i.shape.ws_opt

    fits : start_len i.shape / i.shape.ws_opt + data_len i.shape (wide us line) / i.shape.ws_opt ≤ stripe_count i us line
    fits = striped.fits

    place : IsNext i ls o stripe → IsAtPlace i us line (length (stripes_of (ls 0) o)) stripe.unit stripe.at
    place next = at_place i us ls line k stripe.unit stripe.at units some (ap (λ n. place_of (known_image i ls) n (k * w)) (sym its) ∙ next.in_order)

    go : IsKind i ls o stripe → IsPlacedNext i us (ls 0) line o (length (stripes_of (ls 0) o)) stripe
    go (inl is) =
        let before : k < c = is_before w k c (start_len i.shape) some striped.start_is is.within in
        record { place = place is.next; inside = omega (arith, before, fits); started = λ above. absurd (omega (arith, before, above)) }
    go (inr (inl is)) =
        let ends : end_address i.shape o ≡ start_len i.shape + data_len i.shape (wide us line) = ap (λ g. start_len i.shape + data_len i.shape g) well.width in
        let first : c * w ≡ start_len i.shape = striped.start_is in
        let second : d * w ≡ data_len i.shape (wide us line) = striped.data_is in
        let sum : (c + d) * w ≡ c * w + d * w = omega arith in
        let within : k * w < end_address i.shape o = is.within in
        let before : k < c + d = is_before w k (c + d) (end_address i.shape o) some (omega arith) within in
        record { place = place is.next; inside = omega (arith, before, fits); started = λ above. is.start_landed }
    go (inr (inr (inl is))) =
        let n : ℕ = end_address i.shape o / w in
        let ends : n ≡ c + d = ap (λ g. (start_len i.shape + data_len i.shape g) / w) well.width ∙ striped.end_is in
        let last : line_end i.shape o ≡ wide us line * i.shape.clba = ap (λ g. g * i.shape.clba) well.width in
        let within : k * w < line_end i.shape o = is.within in
        record {
          place = place is.next;
          inside = is_before w k (stripe_count i us line) (line_end i.shape o) some (striped.line_is ∙ sym last) within;
          started = λ above. and_both (nat_le c k) (list_all (has_landed (ls 0)) (take c (stripes_of (ls 0) o))) (le_true c k above)
              (all_first (has_landed (ls 0)) c n (stripes_of (ls 0) o) (omega (arith, ends))
              (second_of (nat_le n k) (list_all (has_landed (ls 0)) (take n (stripes_of (ls 0) o))) is.data_landed));
        }
    go (inr (inr (inr is))) = let fails : has_failed (ls 0) o ≡ true = is.failed in absurd (not_both (has_failed (ls 0) o) fails whole)

-- a line that isn't Failed wasn't before
pub whole_then : (log : List Logged) (o : Opening) (n : ℕ) → has_failed log o ≡ false → has_failed (take n log) o ≡ false
whole_then log o n whole = go (has_failed (take n log) o) refl
  where
    go : (b : Bool) → has_failed (take n log) o ≡ b → b ≡ false
    go false e = refl
    go true e = absurd (not_both (has_failed log o) (failed_later log o n e) whole)

-- ---- the stripes of an opened line that isn't Failed

pub record IsInOrder (i : Image) (us : ℕ → List ℕ) (log : List Logged) (line : ℕ) (o : Opening) : Type 0 where
  pub inside : length (stripes_of log o) ≤ stripe_count i us line
  pub places : (k : ℕ) (p : Placed) → slice_get (stripes_of log o) k ≡ Some p → IsAtPlace i us line k p.stripe.unit p.stripe.at
  pub started : start_len i.shape / i.shape.ws_opt < length (stripes_of log o)
      → list_all (has_landed log) (take (start_len i.shape / i.shape.ws_opt) (stripes_of log o)) ≡ true

module _ (i : Image) (us : ℕ → List ℕ) (w : World) (is : IsFollowed i us w) (line : ℕ) (o : Opening) (is_open : life_of (log_of w 0) line ≡ Opened o) where
  abbrev log : List Logged
  log = log_of w 0

  well : IsOpenedLine i us line o
  well = opened_lines i us w is line o is_open

  -- when it was placed it was the next one, where the line hadn't failed
  was_next : (k : ℕ) (p : Placed) → slice_get (stripes_of (log_of w 0) o) k ≡ Some p → has_failed (take p.number (log_of w 0)) o ≡ false
      → IsPlacedNext i us (take p.number (log_of w 0)) line o k p.stripe
  was_next k p at whole =
      let legal = is.mount.legal in
      let some : 0 < i.shape.ws_opt = is.mount.accepted.drive.ws_opt in
      let opened = opened_now i w is.mount line o is_open in
      let there : Contains (stripes_of log o) p = contained_among (stripes_of log o) p (k, at) in
      let its = stripe_is i w o p legal opened.0 there in
      let its_line : p.stripe.line ≡ line = its.3 ∙ opened.1 in
      let behind : o.number < p.number = (opening_then log p.number p.stripe.line o its.2).2 in
      let inside : p.number < length log = placed_within log p its.0 in
      let units : line_units (known_image i (engine_prefix p.number (log_of w))) line ≡ us line =
      units_since i w line o legal is_open p.number (omega arith) (omega arith) ∙ is.keeps line (ap is_opened is_open) in
      subst (λ n. IsPlacedNext i us (take p.number log) line o n p.stripe) (turn_of_stripe log o k p at)
      (next_by_kind i us (engine_prefix p.number (log_of w)) p.stripe line o its_line units some
      (its_stripes i us line o some is.mount.accepted.drive.whole_stripes well) well
      whole
      (stripe_kind i w o p legal opened.0 there))

  pub placed_in_order : (k : ℕ) (p : Placed) → slice_get (stripes_of (log_of w 0) o) k ≡ Some p → has_failed (take p.number (log_of w 0)) o ≡ false
      → IsAtPlace i us line k p.stripe.unit p.stripe.at
  placed_in_order k p at whole = (was_next k p at whole).place

  pub placed_inside : (k : ℕ) (p : Placed) → slice_get (stripes_of (log_of w 0) o) k ≡ Some p → has_failed (take p.number (log_of w 0)) o ≡ false
      → k < stripe_count i us line
  placed_inside k p at whole = (was_next k p at whole).inside

  pub in_order : has_failed (log_of w 0) o ≡ false → IsInOrder i us (log_of w 0) line o
  in_order whole = record {
    inside = all_inside (length (stripes_of log o)) refl;
    places = λ k p at. placed_in_order k p at (whole_then log o p.number whole);
    started = λ above.
        let at = got_within (stripes_of log o) (start_len i.shape / i.shape.ws_opt) above in
        let then_ : have_landed (take at.0.number log) o (start_len i.shape / i.shape.ws_opt) ≡ true =
        (was_next (start_len i.shape / i.shape.ws_opt) at.0 at.1 (whole_then log o at.0.number whole)).started (le_refl (start_len i.shape / i.shape.ws_opt)) in
        second_of (nat_le (start_len i.shape / i.shape.ws_opt) (length (stripes_of log o)))
        (list_all (has_landed log) (take (start_len i.shape / i.shape.ws_opt) (stripes_of log o)))
        (subst (λ (xs : List Logged). have_landed xs o (start_len i.shape / i.shape.ws_opt) ≡ true) (take_and_drop at.0.number log)
        (have_landed_later (take at.0.number log) (drop at.0.number log) o (start_len i.shape / i.shape.ws_opt) then_));
  }
    where
      all_inside : (n : ℕ) → length (stripes_of (log_of w 0) o) ≡ n → length (stripes_of (log_of w 0) o) ≤ stripe_count i us line
      all_inside zero e = omega arith
      all_inside (suc m) e =
          let at = got_within (stripes_of log o) m (omega arith) in
          let last : m < stripe_count i us line = (was_next m at.0 at.1 (whole_then log o at.0.number whole)).inside in
          omega arith

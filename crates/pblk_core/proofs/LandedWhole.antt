-- A line that isn't Failed has landed whole once no stripe of it is left.
use Rattle.std.proofs.Common.{◌≡◌, ℕ, ◌+◌, ◌-◌, ◌*◌, ◌/◌, ◌≤◌, ◌==◌, ◌&&◌, zero, suc, not, Bool, true, false, cond, Some, List, [], ◌∷◌, length, replicate, refl, sym, subst, ap, ap₂, ◌∙◌, arith, length-append}
use Rattle.std.specs.Prelude.{slice_get, slice_set, map}
use Rattle.std.specs.List.{AllByRecursion, filter, list_all, list_any}
use Rattle.std.proofs.lemmas.List.{length-map, length-replicate}
use Rattle.std.proofs.lemmas.List.Elements.{filter-append}
use Rattle.std.proofs.lemmas.Option.{same_Some, none-some}
use Rattle.std.proofs.Math.Nat.{mul-div_cancel}
use Rattle.pblk_model.specs.Image.{Image}
use Rattle.pblk_world.specs.Events.{Landed, Logged}
use Rattle.pblk_world.specs.World.{World, log_of}
use Rattle.pblk_world.specs.EngineLog.{DidLand, Opening, answer_of, has_failed, has_landed, is_life, Placed, stripes_of}
use Rattle.pblk_world.specs.Placing.{line_end}
use Rattle.pblk_world.specs.Starts.{have_landed}
use Rattle.stripe_placer.specs.OpenLines as line
use Rattle.stripe_placer.specs.OpenLines.{OpenLine, is_landed, is_lost, has_left, with_stripe}
use Rattle.stripe_placer.specs.OpenLines.Stripe.{Unplaced, Unanswered, Landed as HasLanded}
use Rattle.stripe_placer.specs.Placing.{Program}
use Rattle.core_laws.specs.InOrder.{FitsItsLine}
use Rattle.core_laws.specs.LandedStripes.{landed_count}
use Rattle.core_laws.specs.OpenedLines.{open_line}
use Rattle.core_laws.specs.Stepping.{after}
use Rattle.pblk_world.specs.LegalMounts.{IsLegalMount}
use Rattle.core_laws.proofs.Followed.{follow}
use Rattle.core_laws.proofs.HistorySectors.{set_length}
use Rattle.core_laws.proofs.KeptStripes.{stripes_kept}
use Rattle.core_laws.proofs.LandedCounts.{landed_whole, one_landed, count_all as all_pass, all_count}
use Rattle.core_laws.proofs.LandedLines.{left_by_landing}
use Rattle.core_laws.proofs.LineForms.{IsLineOf, answered_as, formed, line_of}
use Rattle.core_laws.proofs.LineRoom.{failed_not_landed, has_room}
use Rattle.core_laws.proofs.NextStripes.{landed_is as landed_by, unfailed}
use Rattle.core_laws.proofs.NotedAnswers.{placements_noted}
use Rattle.core_laws.proofs.OpenAddresses.{failed_kept}
use Rattle.core_laws.proofs.StripesInOrder.{stripe_count}
use Rattle.pblk_core.specs.Stands.{stripes_left}
use Rattle.pblk_core.proofs.LandedWay.{IsOnWay, waits_there}
use Rattle.pblk_core.proofs.LineCounts.{left_landed, none_left, some_left}
use Rattle.pblk_core.proofs.LineUnits.{now_units}
use Rattle.pblk_model.proofs.Tests.{either_false, other_number, same_number}

-- ---- counting stripes

one_more_passes : {X : Type 0} (f : X → Bool) (xs : List X) (k : ℕ) (x y : X) → slice_get xs k ≡ Some x → f x ≡ false → f y ≡ true
    → length (filter f (slice_set xs k y)) ≡ length (filter f xs) + 1
one_more_passes f [] k x y at fails passes = absurd (none-some x at)
one_more_passes {X} f (z ∷ xs) zero x y at fails passes =
    ap (λ b. length (cond b (y ∷ filter f xs) (filter f xs))) passes
    ∙ (let next : suc (length (filter f xs)) ≡ length (filter f xs) + 1 = omega arith in next)
    ∙ ap (λ b. length (cond b (z ∷ filter f xs) (filter f xs)) + 1) (sym (ap f (same_Some z x at) ∙ fails))
one_more_passes {X} f (z ∷ xs) (suc k) x y at fails passes = go (f z) (one_more_passes f xs k x y at fails passes)
  where
    go : (b : Bool) → length (filter f (slice_set xs k y)) ≡ length (filter f xs) + 1
        → length (cond b (z ∷ filter f (slice_set xs k y)) (filter f (slice_set xs k y))) ≡ length (cond b (z ∷ filter f xs) (filter f xs)) + 1
    go true h = omega arith
    go false h = h

mapped_count : {X Y : Type 0} (f : Y → Bool) (g : X → Y) (h : X → Bool) → ((x : X) → f (g x) ≡ h x) → (xs : List X)
    → length (filter f (map g xs)) ≡ length (filter h xs)
mapped_count f g h same [] = refl
mapped_count {X} f g h same (x ∷ xs) = ap (λ b. length (cond b (g x ∷ filter f (map g xs)) (filter f (map g xs)))) (same x)
    ∙ go (h x) (mapped_count f g h same xs)
  where
    go : (b : Bool) → length (filter f (map g xs)) ≡ length (filter h xs)
        → length (cond b (g x ∷ filter f (map g xs)) (filter f (map g xs))) ≡ length (cond b (x ∷ filter h xs) (filter h xs))
    go true e = ap suc e
    go false e = e

none_counted : (n : ℕ) → length (filter is_landed (replicate n Unplaced)) ≡ 0
none_counted zero = refl
none_counted (suc n) = none_counted n

answered_landed : (log : List Logged) (p : Placed) → is_landed (answered_as log p) ≡ has_landed log p
unfolding answered_as
answered_landed log p = landed_by (answer_of log p)

-- ---- none was lost

none_lost : (xs : List line.Stripe) → list_any is_lost xs ≡ false → AllByRecursion (λ x. is_lost x ≡ false) xs
none_lost [] e = tt
none_lost (x ∷ xs) e = let two = either_false (is_lost x) (list_any is_lost xs) e in (two.0, none_lost xs two.1)

none_lost_set : (xs : List line.Stripe) (j : ℕ) → AllByRecursion (λ x. is_lost x ≡ false) xs
    → AllByRecursion (λ x. is_lost x ≡ false) (slice_set xs j HasLanded)
none_lost_set [] j all = tt
none_lost_set (y ∷ ys) zero all = (refl, all.1)
none_lost_set (y ∷ ys) (suc j) all = (all.0, none_lost_set ys j all.1)

module _ (i : Image) (w : World) (mount : IsLegalMount i w) (unit : ℕ) (of : Program) (is : IsOnWay i w unit of) where
  abbrev o : Opening
  o = is.row.opening

  abbrev line_now : OpenLine
  line_now = open_line i (log_of w) is.row.opening

  abbrev total : ℕ
  total = stripe_count i (now_units i w) is.row.opening.line

  module _ (kept : has_failed (log_of w 0) is.row.opening ≡ false) where
    its : IsLineOf i (now_units i w) w is.row.opening
    its = line_of i (now_units i w) w is.row.opening (follow i w mount) is.is_open kept

    rest : ℕ
    rest = stripe_count i (now_units i w) is.row.opening.line - length (stripes_of (log_of w 0) is.row.opening)

    -- as many stripes of the open line have landed as of the opening
    landed_are : length (filter is_landed (open_line i (log_of w) is.row.opening).stripes) ≡ landed_count (log_of w 0) is.row.opening
    unfolding rest
    landed_are =
        let a : length (filter is_landed (map (answered_as (log_of w 0)) (stripes_of (log_of w 0) is.row.opening))) ≡ landed_count (log_of w 0) is.row.opening =
        mapped_count is_landed (answered_as (log_of w 0)) (has_landed (log_of w 0)) (answered_landed (log_of w 0)) (stripes_of (log_of w 0) is.row.opening) in
        let b : length (filter is_landed (replicate rest Unplaced)) ≡ 0 = none_counted rest in
        ap (λ xs. length (filter is_landed xs)) (formed i (now_units i w) w is.row.opening its)
        ∙ ap length (filter-append is_landed (map (answered_as (log_of w 0)) (stripes_of (log_of w 0) is.row.opening)) (replicate rest Unplaced))
        ∙ length-append (filter is_landed (map (answered_as (log_of w 0)) (stripes_of (log_of w 0) is.row.opening)))
        (filter is_landed (replicate rest Unplaced))
        ∙ omega arith

    stripes_are : length (open_line i (log_of w) is.row.opening).stripes ≡ stripe_count i (now_units i w) is.row.opening.line
    unfolding rest
    stripes_are =
        let inside : length (stripes_of (log_of w 0) is.row.opening) ≤ stripe_count i (now_units i w) is.row.opening.line = its.order.inside in
        let a : length (map (answered_as (log_of w 0)) (stripes_of (log_of w 0) is.row.opening)) ≡ length (stripes_of (log_of w 0) is.row.opening) =
        length-map (stripes_of (log_of w 0) is.row.opening) (answered_as (log_of w 0)) in
        let b : length (replicate rest Unplaced) ≡ rest = length-replicate rest Unplaced in
        ap length (formed i (now_units i w) w is.row.opening its)
        ∙ length-append (map (answered_as (log_of w 0)) (stripes_of (log_of w 0) is.row.opening)) (replicate rest Unplaced)
        ∙ omega arith

    abbrev then_ : OpenLine
    then_ = with_stripe (open_line i (log_of w) is.row.opening) is.number HasLanded

    count : length (filter is_landed (with_stripe (open_line i (log_of w) is.row.opening) is.number HasLanded).stripes)
        ≡ landed_count (log_of w 0) is.row.opening + 1
    count =
        one_more_passes is_landed line_now.stripes is.number Unanswered HasLanded (waits_there i w unit of mount is) refl refl
        ∙ ap (λ n. n + 1) landed_are

    long : length (with_stripe (open_line i (log_of w) is.row.opening) is.number HasLanded).stripes ≡ stripe_count i (now_units i w) is.row.opening.line
    long = set_length line_now.stripes is.number HasLanded ∙ stripes_are

    left_is : has_left (with_stripe (open_line i (log_of w) is.row.opening) is.number HasLanded)
        ≡ not (list_all is_landed (with_stripe (open_line i (log_of w) is.row.opening) is.number HasLanded).stripes)
    unfolding rest
    left_is = left_by_landing then_ (none_lost_set line_now.stripes is.number (none_lost line_now.stripes
        (unfailed line_now (log_of w 0) (stripes_of (log_of w 0) o) rest kept (formed i (now_units i w) w o its))))

    full_by : (gone : Bool) → (stripes_left (open_line i (log_of w) is.row.opening) - 1 ≡ 0 → gone ≡ true)
        → (gone ≡ true → stripes_left (open_line i (log_of w) is.row.opening) - 1 ≡ 0)
        → (landed_count (log_of w 0) is.row.opening + 1 == stripe_count i (now_units i w) is.row.opening.line) ≡ gone
    full_by true last none =
        let less = left_landed line_now is.number (waits_there i w unit of mount is) in
        let zero_left : stripes_left line_now - 1 ≡ 0 = none refl in
        let empty : has_left then_ ≡ false = none_left then_ (omega arith) in
        let all : list_all is_landed then_.stripes ≡ true = by (list_all is_landed then_.stripes) (sym left_is ∙ empty) in
        let n : length (filter is_landed then_.stripes) ≡ length then_.stripes = all_count is_landed then_.stripes all in
        let c = count in let l = long in
        let same : landed_count (log_of w 0) o + 1 ≡ total = omega arith in
        ap (λ m. m == total) same ∙ same_number total
      where
        by : (b : Bool) → not b ≡ false → b ≡ true
        by true e = refl
        by false e = absurd cc
    full_by false last none =
        let less = left_landed line_now is.number (waits_there i w unit of mount is) in
        other_number (landed_count (log_of w 0) o + 1) total (λ same.
        let c = count in let l = long in
        let all : list_all is_landed then_.stripes ≡ true = all_pass is_landed then_.stripes (omega arith) in
        let empty : has_left then_ ≡ false = left_is ∙ ap not all in
        by (stripes_left then_) refl empty (λ z. last (omega arith)))
      where
        no : false ≡ true → ⊥
        no e = cc

        by : (n : ℕ) → stripes_left (with_stripe (open_line i (log_of w) is.row.opening) is.number HasLanded) ≡ n
            → has_left (with_stripe (open_line i (log_of w) is.row.opening) is.number HasLanded) ≡ false
            → (stripes_left (with_stripe (open_line i (log_of w) is.row.opening) is.number HasLanded) ≡ 0 → false ≡ true) → ⊥
        by zero e empty none_is = no (none_is e)
        by (suc n) e empty none_is = no (sym empty ∙ some_left then_ (omega (arith, e)))

  -- ---- the state of the line

  end_is : line_end i.shape is.row.opening / i.shape.ws_opt ≡ stripe_count i (now_units i w) is.row.opening.line
  end_is =
      ap (λ g. g * i.shape.clba / i.shape.ws_opt) is.line_is.well.width
      ∙ ap (λ n. n / i.shape.ws_opt) (sym is.line_is.striped.line_is)
      ∙ mul-div_cancel (stripe_count i (now_units i w) is.row.opening.line) is.line_is.striped.some

  room_then : (event : ℕ) (knows : List ℕ) → FitsItsLine i.shape (after (log_of w) (Landed unit event) knows 0) is.row.opening
  room_then event knows =
      let room : FitsItsLine i.shape (log_of w 0) is.row.opening = has_room i w is.row.stripe.stripe.line is.row.opening mount is.stands in
      record {
        some = room.some;
        within =
            subst (λ (ps : List Placed). length ps * i.shape.ws_opt ≤ line_end i.shape is.row.opening)
            (sym (ap (filter (λ (q : Placed). is_life is.row.opening.number q.life)) (placements_noted (log_of w 0) unit knows (DidLand event)))) room.within;
      }

  -- it has landed whole where no stripe is left and none was lost
  pub whole_now : (event : ℕ) (knows : List ℕ) (gone : Bool) → (stripes_left (open_line i (log_of w) is.row.opening) - 1 ≡ 0 → gone ≡ true)
      → (gone ≡ true → stripes_left (open_line i (log_of w) is.row.opening) - 1 ≡ 0)
      → have_landed (after (log_of w) (Landed unit event) knows 0) is.row.opening (line_end i.shape is.row.opening / i.shape.ws_opt)
      ≡ (gone && not (has_failed (log_of w 0) is.row.opening))
  whole_now event knows gone last none = go (has_failed (log_of w 0) o) refl
    where
      no : (b : Bool) → (b && false) ≡ false
      no true = refl
      no false = refl

      yes : (b : Bool) → (b && true) ≡ b
      yes true = refl
      yes false = refl

      go : (b : Bool) → has_failed (log_of w 0) is.row.opening ≡ b
          → have_landed (after (log_of w) (Landed unit event) knows 0) is.row.opening (line_end i.shape is.row.opening / i.shape.ws_opt) ≡ (gone && not b)
      go true e =
          failed_not_landed i.shape (after (log_of w) (Landed unit event) knows 0) o is.line_is.striped.some (room_then event knows)
          (failed_kept (log_of w 0) (after (log_of w) (Landed unit event) knows 0) (stripes_kept (log_of w 0) (Landed unit event) knows refl) o ∙ e)
          ∙ sym (no gone)
      go false e =
          landed_whole i.shape (after (log_of w) (Landed unit event) knows 0) o is.line_is.striped.some (room_then event knows)
          ∙ ap₂ (λ m n. m == n) (one_landed (log_of w 0) unit event knows is.row.stripe o is.row.waits
          (ap (is_life o.number) is.row.life ∙ same_number o.number)) end_is
          ∙ full_by e gone last none ∙ sym (yes gone)

-- The stripes of an opened line stand row by row on its units.
use Rattle.std.proofs.Common.{◌≡◌, ◌⊎◌, inl, inr, ℕ, ◌+◌, ◌*◌, ◌/◌, ◌%◌, ◌<◌, ◌≤◌, ◌==◌, zero, suc, true, Some, List, length, refl, sym, subst, ap, ap₂, ◌∙◌, arith, div-add-mod'}
use Rattle.std.specs.Prelude.{slice_get}
use Rattle.std.specs.List.{Contains, list_any}
use Rattle.std.proofs.lemmas.Bool.{cases_lt}
use Rattle.std.proofs.lemmas.Nat.{div-mul-add, mod-mul-add}
use Rattle.std.proofs.lemmas.Option.{same_Some}
use Rattle.std.proofs.Math.Nat.{eq_of_mul-eq-mul_right, mod-lt, mul-div_cancel, mul-le-mul_right, mul_assoc, mul_comm, suc-mul}
use Rattle.pblk_model.specs.declared.shape.Shape.{Shape}
use Rattle.pblk_model.specs.Image.{Image, line_units, width}
use Rattle.pblk_laws.proofs.LineUnits.{line_units_count}
use Rattle.pblk_world.specs.EngineLog.{Opened, Opening, has_landed, life_of, openings, Placed, stripes_of, stripes_on, was_lost}
use Rattle.pblk_world.specs.Events.{Logged}
use Rattle.pblk_world.specs.Lines.{known_image}
use Rattle.pblk_world.specs.Placing.{line_end}
use Rattle.pblk_world.specs.Space.{is_closed_in, landed_blocks}
use Rattle.pblk_world.specs.Starts.{have_landed}
use Rattle.pblk_world.specs.World.{World, log_of}
use Rattle.pblk_model.proofs.Lists.{IsAmong, among_contained}
use Rattle.pblk_model.proofs.Maps.{from_filter, in_filter}
use Rattle.pblk_model.proofs.Parts.{all_by_get, contained_among, get_below, got_within}
use Rattle.pblk_model.proofs.Tests.{or_right, same_number}
use Rattle.pblk_world.specs.LegalMounts.{IsLegalMount}
use Rattle.world_laws.proofs.LineStarts.{landed_of}
use Rattle.world_laws.proofs.LineStripes.{next_fits}
use Rattle.world_laws.proofs.StripePlaces.{kth_place}
use Rattle.core_laws.specs.InOrder.{FitsItsLine}
use Rattle.core_laws.proofs.LosslessMounts.{IsLosslessMount}
use Rattle.core_laws.proofs.EachChunk.{all_hold}
use Rattle.core_laws.proofs.Followed.{follow}
use Rattle.core_laws.proofs.FreedWidths.{opened_width}
use Rattle.core_laws.proofs.LandedCounts.{all_count}
use Rattle.core_laws.proofs.LandedNow.{opened_now}
use Rattle.core_laws.proofs.LineRoom.{few_stripes, has_room}
use Rattle.core_laws.proofs.StripeEnds.{below_end}
use Rattle.core_laws.proofs.StripesInOrder.{IsAtPlace, IsInOrder, in_order}
use Rattle.core_laws.proofs.PlainLogs.{none_failed}

module _ (s : Shape) (log : List Logged) (o : Opening) (landed : (p : Placed) → Contains (stripes_of log o) p → has_landed log p ≡ true) where
  -- where all stripes have landed, so have all blocks
  pub blocks_landed : (unit : ℕ) → landed_blocks s log o unit ≡ length (stripes_on log o unit) * s.ws_opt
  blocks_landed unit =
      ap (λ n. n * s.ws_opt) (all_count (has_landed log) (stripes_on log o unit)
      (all_hold (has_landed log) (stripes_on log o unit) (all_by_get (λ (q : Placed). has_landed log q ≡ true) (stripes_on log o unit) on_landed)))
    where
      on_landed : (k : ℕ) (q : Placed) → slice_get (stripes_on log o unit) k ≡ Some q → has_landed log q ≡ true
      on_landed k q there =
          landed q (contained_among (stripes_of log o) q (from_filter (λ (x : Placed). x.stripe.unit == unit) (stripes_of log o) q (k, there)))

  -- a chunk is closed where its stripes are as many as it has room for
  pub closed_when : (unit : ℕ) → length (stripes_on log o unit) * s.ws_opt ≡ s.clba → is_closed_in s log o unit ≡ true
  closed_when unit full =
      or_right (list_any (was_lost log) (stripes_on log o unit)) (landed_blocks s log o unit == s.clba)
      (ap (λ n. n == s.clba) (blocks_landed unit ∙ full) ∙ same_number s.clba)

module _ (i : Image) (w : World) (lossless : IsLosslessMount i w) (o : Opening) (is_open : life_of (log_of w 0) o.line ≡ Opened o) where
  abbrev log : List Logged
  log = log_of w 0

  abbrev s : Shape
  s = i.shape

  mount : IsLegalMount i w
  mount = lossless.mount

  -- the line's units
  abbrev pub us : List ℕ
  us = line_units (known_image i (log_of w)) o.line

  opened : Contains (openings (log_of w 0)) o
  opened = (opened_now i w mount o.line o is_open).0

  order : IsInOrder i (line_units (known_image i (log_of w))) (log_of w 0) o.line o
  order = in_order i (line_units (known_image i (log_of w))) w (follow i w mount) o.line o is_open
      (none_failed (log_of w 0) lossless.none_lost o)

  -- where the k-th stripe of the line stands
  pub record IsInRow (k : ℕ) (p : Placed) : Type 0 where
    pub some_units : 0 < length us
    pub unit : slice_get us (k % length us) ≡ Some p.stripe.unit
    pub at : p.stripe.at ≡ k / length us * i.shape.ws_opt
    pub row : k / length us < length (stripes_on (log_of w 0) o p.stripe.unit)

  pub in_row : (k : ℕ) (p : Placed) → slice_get (stripes_of (log_of w 0) o) k ≡ Some p → IsInRow k p
  in_row k p there =
      let place : IsAtPlace i (line_units (known_image i (log_of w))) o.line k p.stripe.unit p.stripe.at = order.places k p there in
      let on : IsAmong (stripes_on log o p.stripe.unit) p =
      in_filter (λ (q : Placed). q.stripe.unit == p.stripe.unit) (stripes_of log o) p (k, there) (same_number p.stripe.unit) in
      let turn : p.stripe.at ≡ on.0 * s.ws_opt = kth_place i w o p.stripe.unit on.0 p mount opened on.1 in
      let same : on.0 ≡ k / length us =
      eq_of_mul-eq-mul_right s.ws_opt mount.accepted.drive.ws_opt on.0 (k / length us) (sym turn ∙ place.its_block) in
      let below : on.0 < length (stripes_on log o p.stripe.unit) = get_below (stripes_on log o p.stripe.unit) on.0 p on.1 in
      let unit_below : k % length us < length us = get_below us (k % length us) p.stripe.unit place.its_unit in
      record {
        some_units = omega arith;
        unit = place.its_unit;
        at = place.its_block;
        row = subst (λ n. n < length (stripes_on log o p.stripe.unit)) same below;
      }

  -- no stripe stands past the rows of its unit
  pub few_rows : (c unit : ℕ) → slice_get us c ≡ Some unit
      → length (stripes_of (log_of w 0) o) ≤ length (stripes_on (log_of w 0) o unit) * length us + c
  few_rows c unit column = go (cases_lt k (length (stripes_of log o)))
    where
      m : ℕ
      m = length (stripes_on (log_of w 0) o unit)

      k : ℕ
      k = length (stripes_on (log_of w 0) o unit) * length us + c

      low : c < length us
      low = get_below us c unit column

      go : (length (stripes_on (log_of w 0) o unit) * length us + c < length (stripes_of (log_of w 0) o))
          ⊎ (length (stripes_of (log_of w 0) o) ≤ length (stripes_on (log_of w 0) o unit) * length us + c)
          → length (stripes_of (log_of w 0) o) ≤ length (stripes_on (log_of w 0) o unit) * length us + c
      go (inr few) = few
      go (inl more) =
          let at = got_within (stripes_of log o) k more in
          let row : IsInRow k at.0 = in_row k at.0 at.1 in
          let rest : k % length us ≡ c = mod-mul-add m (length us) c low in
          let turn : k / length us ≡ m = div-mul-add m (length us) c low in
          let its : at.0.stripe.unit ≡ unit = same_Some at.0.stripe.unit unit (sym row.unit ∙ ap (slice_get us) rest ∙ column) in
          let below : m < length (stripes_on log o unit) =
          subst (λ u. m < length (stripes_on log o u)) its (subst (λ n. n < length (stripes_on log o at.0.stripe.unit)) turn row.row) in
          absurd (omega arith)

  -- Where all stripes of the line have landed, each chunk that has one is full.
  module _ (landed : have_landed (log_of w 0) o (line_end i.shape o / i.shape.ws_opt) ≡ true) where
    pub all_landed : (p : Placed) → Contains (stripes_of (log_of w 0) o) p → has_landed (log_of w 0) p ≡ true
    all_landed p its =
        let at : IsAmong (stripes_of log o) p = among_contained (stripes_of log o) p its in
        let room : FitsItsLine s log o = has_room i w o.line o mount is_open in
        let few : length (stripes_of log o) ≤ line_end s o / s.ws_opt =
        few_stripes (length (stripes_of log o)) (line_end s o) s.ws_opt mount.accepted.drive.ws_opt room.within in
        let below : at.0 < length (stripes_of log o) = get_below (stripes_of log o) at.0 p at.1 in
        let same_one = landed_of log o (line_end s o / s.ws_opt) at.0 landed (omega arith) in
        subst (λ (x : Placed). has_landed log x ≡ true) (same_Some same_one.0 p (sym same_one.1 ∙ at.1)) same_one.2

    pub count_full : (p : Placed) → Contains (stripes_of (log_of w 0) o) p
        → length (stripes_on (log_of w 0) o p.stripe.unit) * i.shape.ws_opt ≡ i.shape.clba
    count_full p its = both_ways few many
      where
        m : ℕ
        m = length (stripes_on (log_of w 0) o p.stripe.unit)

        rows : ℕ
        rows = i.shape.clba / i.shape.ws_opt

        at : IsAmong (stripes_of (log_of w 0) o) p
        at = among_contained (stripes_of log o) p its

        row : IsInRow at.0 p
        row = in_row at.0 p at.1

        whole : i.shape.clba ≡ i.shape.clba / i.shape.ws_opt * i.shape.ws_opt
        whole =
            let none_over : s.clba % s.ws_opt ≡ 0 = mount.accepted.drive.whole_stripes in
            omega (arith, div-add-mod' s.clba s.ws_opt)

        few : length (stripes_on (log_of w 0) o p.stripe.unit) * i.shape.ws_opt ≤ i.shape.clba
        few = by m refl
          where
            by : (n : ℕ) → length (stripes_on (log_of w 0) o p.stripe.unit) ≡ n
                → length (stripes_on (log_of w 0) o p.stripe.unit) * i.shape.ws_opt ≤ i.shape.clba
            by zero e = subst (λ n. n * s.ws_opt ≤ s.clba) (sym e) (omega arith)
            by (suc n) e =
                let last = got_within (stripes_on log o p.stripe.unit) n (omega arith) in
                let low : last.0.stripe.at < s.clba = below_end i w mount o is_open p.stripe.unit n last.0 last.1 in
                let its_place : last.0.stripe.at ≡ n * s.ws_opt = kth_place i w o p.stripe.unit n last.0 mount opened last.1 in
                let fits : n * s.ws_opt + s.ws_opt ≤ rows * s.ws_opt = next_fits s.ws_opt n rows (below_rows its_place low whole) in
                subst (λ k. k * s.ws_opt ≤ s.clba) (sym e) (with_next n s.ws_opt (rows * s.ws_opt) s.clba fits whole)
              where
                below_rows : {a b c d : ℕ} → a ≡ b → a < c → c ≡ d → b < d
                below_rows x y z = omega (arith, x, y, z)

                with_next : (n k r c : ℕ) → n * k + k ≤ r → c ≡ r → suc n * k ≤ c
                with_next n k r c x y = omega arith

        many : i.shape.clba ≤ length (stripes_on (log_of w 0) o p.stripe.unit) * i.shape.ws_opt
        many =
            let own_width : o.start.width ≡ width (known_image i (log_of w)) o.line = opened_width i w mount o.line o is_open in
            let count : length us ≡ width (known_image i (log_of w)) o.line = line_units_count (known_image i (log_of w)) o.line in
            let end : line_end s o ≡ length us * rows * s.ws_opt =
            ap₂ (λ a b. a * b) (own_width ∙ sym count) whole ∙ sym (mul_assoc (length us) rows s.ws_opt) in
            let all : line_end s o / s.ws_opt ≡ length us * rows =
            ap (λ n. n / s.ws_opt) end ∙ mul-div_cancel (length us * rows) mount.accepted.drive.ws_opt in
            by rows refl all
          where
            c : ℕ
            c = at.0 % length us

            low : at.0 % length us < length us
            low = mod-lt at.0 row.some_units

            by : (n : ℕ) → i.shape.clba / i.shape.ws_opt ≡ n → line_end i.shape o / i.shape.ws_opt ≡ length us * (i.shape.clba / i.shape.ws_opt)
                → i.shape.clba ≤ length (stripes_on (log_of w 0) o p.stripe.unit) * i.shape.ws_opt
            by zero e all = subst (λ k. k ≤ m * s.ws_opt) (sym (whole ∙ ap (λ k. k * s.ws_opt) e)) (omega arith)
            by (suc n) e all =
                let total : line_end s o / s.ws_opt ≡ length us * suc n = all ∙ ap (λ k. length us * k) e in
                let inside : n * length us + c < line_end s o / s.ws_opt = last_row (length us) n c (line_end s o / s.ws_opt) low total in
                let stripe = landed_of log o (line_end s o / s.ws_opt) (n * length us + c) landed inside in
                let its_row : IsInRow (n * length us + c) stripe.0 = in_row (n * length us + c) stripe.0 stripe.1 in
                let rest : (n * length us + c) % length us ≡ c = mod-mul-add n (length us) c low in
                let turn : (n * length us + c) / length us ≡ n = div-mul-add n (length us) c low in
                let same : stripe.0.stripe.unit ≡ p.stripe.unit =
                same_Some stripe.0.stripe.unit p.stripe.unit (sym its_row.unit ∙ ap (slice_get us) rest ∙ row.unit) in
                let below : n < m =
                subst (λ u. n < length (stripes_on log o u)) same (subst (λ k. k < length (stripes_on log o stripe.0.stripe.unit)) turn its_row.row) in
                let fits : suc n * s.ws_opt ≤ m * s.ws_opt = mul-le-mul_right s.ws_opt below in
                subst (λ k. k ≤ m * s.ws_opt) (sym (whole ∙ ap (λ k. k * s.ws_opt) e)) fits
              where
                last_row : (u n c t : ℕ) → c < u → t ≡ u * suc n → n * u + c < t
                last_row u n c t below x =
                    let next : u * suc n ≡ n * u + u = omega (arith, mul_comm u (suc n), suc-mul n u) in
                    omega arith

        both_ways : {a b : ℕ} → a ≤ b → b ≤ a → a ≡ b
        both_ways x y = omega (arith, x, y)

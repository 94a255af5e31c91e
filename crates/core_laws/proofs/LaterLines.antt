-- Where each line is opened once the open ones are full, an entry that was lost in a line is placed
-- again in a line that was opened later.
use Rattle.std.proofs.Common.{◌≡◌, ◌≢◌, ◌⊎◌, inl, inr, ℕ, ◌+◌, ◌-◌, ◌<◌, ◌≤◌, ◌==◌, max, Bool, true, false, Some, List, length, take, refl, sym, subst, ap, ◌∙◌, arith, length-append, if◌then◌else◌}
use Rattle.std.specs.Prelude.{slice_get}
use Rattle.std.specs.List.{Contains, list_all, range_with_len, sum_by}
use Rattle.std.proofs.lemmas.Bool.{cases_order}
use Rattle.std.proofs.lemmas.List.{take-take}
use Rattle.std.proofs.lemmas.List.Folds.{sum_by-zero}
use Rattle.std.proofs.lemmas.Option.{same_Some}
use Rattle.std.proofs.Math.Nat.{max-le, mul-le-mul_right}
use Rattle.pblk_model.specs.LineOrder.{start_len}
use Rattle.pblk_model.specs.Image.{Image}
use Rattle.pblk_world.specs.Events.{Logged}
use Rattle.pblk_world.specs.World.{World, log_of}
use Rattle.pblk_world.specs.EngineLog.{Opened, Opening, openings, has_failed, holds_position, life_of, Placed, placements, stripes_of, was_lost}
use Rattle.pblk_world.specs.Placing.{IsData, end_address, next_address}
use Rattle.pblk_world.specs.Space.{unplaced_in}
use Rattle.pblk_world.specs.Victims.{engine_prefix}
use Rattle.pblk_world.proofs.EngineLogLemmas.{opened_same}
use Rattle.pblk_model.proofs.Lists.{IsAmong, among_contained}
use Rattle.pblk_model.proofs.Maps.{range_get}
use Rattle.pblk_model.proofs.Tests.{not_both, same, same_number}
use Rattle.pblk_world.specs.LegalMounts.{IsLegalMount}
use Rattle.world_laws.proofs.FoundEmpty.{all_pass}
use Rattle.world_laws.proofs.Later.{placed_within}
use Rattle.world_laws.proofs.LineStripes.{IsSplit, data_behind_start, failed_later, stripes_split}
use Rattle.world_laws.proofs.NextLives.{IsOpenSince, open_since}
use Rattle.world_laws.proofs.StartRecords.{IsNthOpening, nth_opening, numbers_rise, seq_of_nth}
use Rattle.world_laws.proofs.Stripes.{life_of_stripe, one_opening, opening_then}
use Rattle.core_laws.specs.Spent.{OpensWhenFull}
use Rattle.core_laws.proofs.PlacedAnew.{WasWaiting, lost_before, one_number, was_waiting}

-- each part of a sum of 0 is 0
pub none_in_sum : (f : ℕ → ℕ) (n : ℕ) → sum_by f (range_with_len 0 n) ≡ 0 → (k : ℕ) → k < n → f k ≡ 0
none_in_sum f n none k below =
    let all : list_all (λ m. f m == 0) (range_with_len 0 n) ≡ true =
    sym (sum_by-zero f (range_with_len 0 n)) ∙ ap (λ m. m == 0) none ∙ same_number 0 in
    let at : 0 + k ≡ k = omega arith in
    same (f k) 0 (all_pass (λ m. f m == 0) (range_with_len 0 n) k k all (range_get 0 n k below ∙ ap (λ m. Some m) at))

-- of two openings the one of greater number has the greater sequence number
pub seq_rises : (i : Image) (w : World) (mount : IsLegalMount i w) (o p : Opening) → Contains (openings (log_of w 0)) o → Contains (openings (log_of w 0)) p
    → o.number < p.number → o.start.seq < p.start.seq
seq_rises i w mount o p a b below = go (among_contained (openings (log_of w 0)) o a) (among_contained (openings (log_of w 0)) p b)
  where
    go : IsAmong (openings (log_of w 0)) o → IsAmong (openings (log_of w 0)) p → o.start.seq < p.start.seq
    go x y = by (cases_order x.0 y.0)
      where
        by : (x.0 ≡ y.0) ⊎ ((x.0 < y.0) ⊎ (y.0 < x.0)) → o.start.seq < p.start.seq
        by (inl same) =
            let one : o ≡ p = same_Some o p (sym x.1 ∙ ap (slice_get (openings (log_of w 0))) same ∙ y.1) in
            let number : o.number ≡ p.number = ap (λ (z : Opening). z.number) one in
            absurd (omega arith)
        by (inr (inl before)) =
            let is : IsNthOpening i w x.0 o = nth_opening i w x.0 o mount.legal x.1 in
            let first : o.start.seq ≡ is.g.beginning.seq + x.0 = seq_of_nth i w x.0 o is.g mount.legal is.is_begun x.1 in
            let second : p.start.seq ≡ is.g.beginning.seq + y.0 = seq_of_nth i w y.0 p is.g mount.legal is.is_begun y.1 in
            omega arith
        by (inr (inr after)) = let less : p.number < o.number = numbers_rise (log_of w 0) y.0 x.0 p o y.1 x.1 after in absurd (omega arith)

module _ (i : Image) (w : World) (mount : IsLegalMount i w) (full : OpensWhenFull i (log_of w)) where
  abbrev log : List Logged
  log = log_of w 0

  -- once a line is opened, no stripe of entries is placed in a line that was opened before it
  pub none_in_older : (o q : Opening) (p : Placed) (position : ℕ) → Contains (openings (log_of w 0)) o → Contains (placements (log_of w 0)) p
      → p.life ≡ Opened q → holds_position i.shape position p ≡ true → o.number < p.number → q.number < o.number → ⊥
  none_in_older o q p position opened there life holds later before =
      let h : WasWaiting i w mount p position = was_waiting i w mount p position there holds in
      let stands = life_of_stripe i w p mount.legal there in
      let its : q ≡ stands.0 = opened_same q stands.0 (sym life ∙ stands.1) in
      let same : h.may.opening ≡ q = opened_same h.may.opening q (sym h.may.is_open ∙ stands.2 ∙ ap Opened (sym its)) in
      let inside : p.number < length log = placed_within log p there in
      let since : IsOpenSince i w mount.legal p.stripe.line p.number q =
      open_since i w mount.legal p.number p.stripe.line q (omega arith) (stands.2 ∙ ap Opened (sym its)) in
      let then_ : life_of (take o.number log) p.stripe.line ≡ Opened q = since.since o.number before (omega arith) in
      let none : unplaced_in i.shape (take o.number log) (Opened q) ≡ 0 =
      ap (unplaced_in i.shape (take o.number log)) (sym then_)
      ∙ none_in_sum (λ line. unplaced_in i.shape (take o.number log) (life_of (take o.number log) line)) i.shape.chunks (full o opened) p.stripe.line
      h.may.in_range in
      go (has_failed (take o.number log) q) refl none (subst (λ x. IsData i (engine_prefix p.number (log_of w)) x p.stripe) same h.data_is)
    where
      go : (b : Bool) → has_failed (take o.number (log_of w 0)) q ≡ b
          → (if b then 0 else end_address i.shape q - max (start_len i.shape) (next_address i.shape (take o.number (log_of w 0)) q)) ≡ 0
          → IsData i (engine_prefix p.number (log_of w)) q p.stripe → ⊥
      go true failed none data_is = not_both (has_failed (take p.number log) q)
          (failed_later (take p.number log) q o.number
          (ap (λ (xs : List Logged). has_failed xs q) (take-take o.number p.number log (omega arith)) ∙ failed)) data_is.next.not_failed
      go false kept none data_is =
          let split : IsSplit (take p.number log) q o.number = stripes_split (take p.number log) q o.number in
          let parts : length (stripes_of (take p.number log) q) ≡ length (stripes_of (take o.number (take p.number log)) q) + length split.more =
          ap length split.parts ∙ length-append (stripes_of (take o.number (take p.number log)) q) split.more in
          let same : length (stripes_of (take o.number (take p.number log)) q) ≡ length (stripes_of (take o.number log) q) =
          ap (λ (xs : List Logged). length (stripes_of xs q)) (take-take o.number p.number log (omega arith)) in
          let few : next_address i.shape (take o.number log) q ≤ next_address i.shape (take p.number log) q =
          mul-le-mul_right i.shape.ws_opt (omega arith) in
          let start : start_len i.shape ≤ next_address i.shape (take p.number log) q =
          data_behind_start i (engine_prefix p.number (log_of w)) q p.stripe mount.accepted.drive.ws_opt data_is in
          let most : max (start_len i.shape) (next_address i.shape (take o.number log) q) ≤ next_address i.shape (take p.number log) q = max-le start few in
          let within : next_address i.shape (take p.number log) q < end_address i.shape q = data_is.within in
          omega arith

  -- a stripe that was lost, and one in another line that wasn't and holds the same position: the
  -- latter's line is newer
  pub placed_again_later : (o q : Opening) (p r : Placed) (position : ℕ) → Contains (placements (log_of w 0)) p → Contains (placements (log_of w 0)) r
      → p.life ≡ Opened o → r.life ≡ Opened q → holds_position i.shape position p ≡ true → holds_position i.shape position r ≡ true
      → was_lost (log_of w 0) p ≡ true → was_lost (log_of w 0) r ≡ false → p.stripe.line ≢ r.stripe.line → o.start.seq < q.start.seq
  placed_again_later o q p r position a b first second holds also lost kept apart = order (cases_order p.number r.number)
    where
      opened : (x : Opening) (s : Placed) → Contains (placements (log_of w 0)) s → s.life ≡ Opened x
          → Contains (openings (log_of w 0)) x × (x.line ≡ s.stripe.line) × (x.number < s.number)
      opened x s there life =
          let stands = life_of_stripe i w s mount.legal there in
          let its : stands.0 ≡ x = opened_same stands.0 x (sym stands.1 ∙ life) in
          opening_then log s.number s.stripe.line x (stands.2 ∙ ap Opened its)

      by_number : p.number < r.number → (o.number ≡ q.number) ⊎ ((o.number < q.number) ⊎ (q.number < o.number)) → o.start.seq < q.start.seq
      by_number later (inl same) = absurd (apart (sym (opened o p a first).1 ∙ ap (λ (x : Opening). x.line) (one same) ∙ (opened q r b second).1))
        where
          one : o.number ≡ q.number → o ≡ q
          one numbers = one_opening log o q (opened o p a first).0 (opened q r b second).0 numbers
      by_number later (inr (inl before)) = seq_rises i w mount o q (opened o p a first).0 (opened q r b second).0 before
      by_number later (inr (inr after)) =
          let early : o.number < p.number = (opened o p a first).2 in
          absurd (none_in_older o q r position (opened o p a first).0 b second also (omega arith) after)

      order : (p.number ≡ r.number) ⊎ ((p.number < r.number) ⊎ (r.number < p.number)) → o.start.seq < q.start.seq
      order (inr (inl before)) = by_number before (cases_order o.number q.number)
      order (inr (inr after)) = absurd (not_both (was_lost log r) (lost_before i w mount r p position b a also holds after) kept)
      order (inl same) = absurd (apart (ap (λ (x : Placed). x.stripe.line) (one_stripe p r a b same)))
        where
          one_stripe : (p r : Placed) → Contains (placements (log_of w 0)) p → Contains (placements (log_of w 0)) r → p.number ≡ r.number → p ≡ r
          one_stripe p r a b numbers = one_number i w mount p r a b numbers

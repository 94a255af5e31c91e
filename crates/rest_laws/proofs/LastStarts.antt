-- The start record of the line that was opened last: once it has landed it is the newest one. It
-- has landed where no stripe is under way and none of a start record is to be placed.
use Rattle.std.proofs.Common.{◌≡◌, ◌⊎◌, inl, inr, ℕ, ◌+◌, ◌<◌, ◌≤◌, cond, Bool, true, Some, List, [], ◌∷◌, ◌++◌, length, take, sym, subst, ap, ◌∙◌, arith}
use Rattle.std.specs.Prelude.{map, slice_get}
use Rattle.std.specs.List.{Contains, filter, last_or}
use Rattle.std.proofs.lemmas.Bool.{cases_lt}
use Rattle.std.proofs.Math.Nat.{mul-lt-mul_of_pos_right}
use Rattle.pblk_model.specs.Contents.{head}
use Rattle.pblk_model.specs.Image.{Image}
use Rattle.pblk_model.specs.StartRecord.{StartRecord}
use Rattle.pblk_world.specs.EngineLog.{is_answered, life_of, Opened, Opening, openings, Placed, placements, stripes_of}
use Rattle.pblk_world.specs.Events.{Stripe}
use Rattle.pblk_world.specs.Lines.{found_image, next_seq}
use Rattle.pblk_world.specs.Placing.{IsStart, next_address, start_blocks, stripe_at}
use Rattle.pblk_world.specs.Starts.{has_landed_start, newest_start, start_stripes}
use Rattle.pblk_world.specs.World.{World, log_of}
use Rattle.pblk_model.proofs.Lists.{among_contained, last_in}
use Rattle.pblk_model.proofs.Maps.{all_filter, all_mapped, filter_both, map_last}
use Rattle.pblk_model.proofs.Parts.{all_by_get, contained_among, get_below, got_within, take_all, take_more}
use Rattle.pblk_world.specs.LegalMounts.{IsLegalMount}
use Rattle.world_laws.proofs.FoundImages.{found_seq}
use Rattle.world_laws.proofs.HeldSectors.{last_last}
use Rattle.world_laws.proofs.LineStripes.{start_whole}
use Rattle.world_laws.proofs.Lives.{IsFreedLife, standing_or_freed}
use Rattle.world_laws.proofs.Newest.{IsOlder, older_when_freed}
use Rattle.world_laws.proofs.StartRecords.{IsNthOpening, nth_opening, numbers_rise, seq_of_nth}
use Rattle.core_laws.proofs.LosslessMounts.{IsLosslessMount}
use Rattle.core_laws.proofs.LandedNow.{opened_now}
use Rattle.rest_laws.specs.NewestOpened.{IsLastOpened}
use Rattle.rest_laws.proofs.NextPlaces.{first_landed, stripe_with}

-- An opened line has begun where its stripes are answered and no stripe of its start record is to
-- be placed.
pub start_landed : (i : Image) (w : World) (lossless : IsLosslessMount i w) (o : Opening) → life_of (log_of w 0) o.line ≡ Opened o
    → ((p : Placed) → Contains (placements (log_of w 0)) p → is_answered (log_of w 0) p ≡ true)
    → ((stripe : Stripe) → stripe.line ≡ o.line → ¬ IsStart i (log_of w) o stripe)
    → has_landed_start i.shape (log_of w 0) o ≡ true
start_landed i w lossless o is_open answered none = go (cases_lt (length (stripes_of (log_of w 0) o)) (start_stripes i.shape))
  where
    some : 0 < i.shape.ws_opt
    some = lossless.mount.accepted.drive.ws_opt

    go : (length (stripes_of (log_of w 0) o) < start_stripes i.shape) ⊎ (start_stripes i.shape ≤ length (stripes_of (log_of w 0) o))
        → has_landed_start i.shape (log_of w 0) o ≡ true
    go (inr enough) = first_landed i w lossless o (opened_now i w lossless.mount o.line o is_open).0 answered (start_stripes i.shape) enough
    go (inl few) =
        let stripe = stripe_with i w lossless o is_open (stripe_at i.shape (start_blocks i.shape o) 0 (next_address i.shape (log_of w 0) o)) in
        absurd (none stripe.0 stripe.1 (record {
          next = stripe.2;
          within = subst (λ m. next_address i.shape (log_of w 0) o < m) (sym (start_whole i.shape some)) (mul-lt-mul_of_pos_right few some);
          blocks = stripe.3;
        }))

module _ (i : Image) (w : World) (n : Opening) (last : IsLastOpened (log_of w 0) n) where
  at : (k : ℕ) × (slice_get (openings (log_of w 0)) k ≡ Some n)
  at = among_contained (openings (log_of w 0)) n last.opened

  -- no opening follows it
  at_end : length (openings (log_of w 0)) ≤ at.0 + 1
  at_end = go (cases_lt (at.0 + 1) (length (openings (log_of w 0))))
    where
      go : (at.0 + 1 < length (openings (log_of w 0))) ⊎ (length (openings (log_of w 0)) ≤ at.0 + 1) → length (openings (log_of w 0)) ≤ at.0 + 1
      go (inr few) = few
      go (inl more) =
          let next = got_within (openings (log_of w 0)) (at.0 + 1) more in
          let rises : n.number < next.0.number = numbers_rise (log_of w 0) at.0 (at.0 + 1) n next.0 at.1 next.1 (omega arith) in
          let low : next.0.number ≤ n.number = last.last next.0 (contained_among (openings (log_of w 0)) next.0 (at.0 + 1, next.1)) in
          absurd (omega arith)

  pub landed_is_newest : has_landed_start i.shape (log_of w 0) n ≡ true → newest_start i (log_of w) ≡ Some n.start
  landed_is_newest landed =
      let os : List Opening = openings (log_of w 0) in
      let test : Opening → Bool = has_landed_start i.shape (log_of w 0) in
      let split : os ≡ take at.0 os ++ n ∷ [] = sym (take_all os (at.0 + 1) at_end) ∙ take_more os at.0 n at.1 in
      let kept : filter test os ≡ filter test (take at.0 os) ++ n ∷ [] =
      ap (filter test) split ∙ filter_both test (take at.0 os) (n ∷ [])
      ∙ ap (λ (b : Bool). filter test (take at.0 os) ++ cond b (n ∷ []) []) landed in
      ap (λ (xs : List Opening). last_or (head (found_image i (log_of w))) (map (λ (o : Opening). o.start) xs)) kept
      ∙ ap (last_or (head (found_image i (log_of w)))) (map_last (λ (o : Opening). o.start) (filter test (take at.0 os)) n)
      ∙ last_last (head (found_image i (log_of w))) (map (λ (o : Opening). o.start) (filter test (take at.0 os))) n.start

module _ (i : Image) (w : World) (lossless : IsLosslessMount i w) (n : Opening) (last : IsLastOpened (log_of w 0) n) where
  mount : IsLegalMount i w
  mount = lossless.mount

  nth : IsNthOpening i w (at i w n last).0 n
  nth = nth_opening i w (at i w n last).0 n mount.legal (at i w n last).1

  its_seq : n.start.seq ≡ nth.g.beginning.seq + (at i w n last).0
  its_seq = seq_of_nth i w (at i w n last).0 n nth.g mount.legal nth.is_begun (at i w n last).1

  -- no start record has a greater number
  none_newer : (s : StartRecord) → newest_start i (log_of w) ≡ Some s → s.seq ≤ n.start.seq
  none_newer s is =
      last_in (λ (x : StartRecord). x.seq ≤ n.start.seq) (head (found_image i (log_of w)))
      (map (λ (o : Opening). o.start) (filter (has_landed_start i.shape (log_of w 0)) (openings (log_of w 0)))) s by_head
      (all_mapped (λ (x : StartRecord). x.seq ≤ n.start.seq) (λ (o : Opening). o.start)
      (filter (has_landed_start i.shape (log_of w 0)) (openings (log_of w 0)))
      (all_filter (λ (o : Opening). o.start.seq ≤ n.start.seq) (has_landed_start i.shape (log_of w 0)) (openings (log_of w 0))
      (all_by_get (λ (o : Opening). o.start.seq ≤ n.start.seq) (openings (log_of w 0)) by_opening))) is
    where
      by_head : (x : StartRecord) → head (found_image i (log_of w)) ≡ Some x → x.seq ≤ n.start.seq
      by_head x e =
          let begins : nth.g.beginning.seq ≡ next_seq (head (found_image i (log_of w))) = found_seq i w nth.g mount.legal nth.is_begun in
          let next : next_seq (head (found_image i (log_of w))) ≡ x.seq + 1 = ap next_seq e in
          let seq : n.start.seq ≡ nth.g.beginning.seq + (at i w n last).0 = its_seq in
          omega arith

      by_opening : (k : ℕ) (o : Opening) → slice_get (openings (log_of w 0)) k ≡ Some o → o.start.seq ≤ n.start.seq
      by_opening k o there =
          let its : o.start.seq ≡ nth.g.beginning.seq + k = seq_of_nth i w k o nth.g mount.legal nth.is_begun there in
          let below : k < length (openings (log_of w 0)) = get_below (openings (log_of w 0)) k o there in
          let end : length (openings (log_of w 0)) ≤ (at i w n last).0 + 1 = at_end i w n last in
          let seq : n.start.seq ≡ nth.g.beginning.seq + (at i w n last).0 = its_seq in
          omega arith

  -- so it wasn't freed
  pub last_stands : life_of (log_of w 0) n.line ≡ Opened n
  last_stands = go (standing_or_freed i w n mount.legal last.opened)
    where
      go : (life_of (log_of w 0) n.line ≡ Opened n) ⊎ IsFreedLife (log_of w 0) n → life_of (log_of w 0) n.line ≡ Opened n
      go (inl stands) = stands
      go (inr freed) =
          let older : IsOlder i w n freed = older_when_freed i w n mount.legal freed in
          let less : n.start.seq < older.newest.seq = older.seq in
          let most : older.newest.seq ≤ n.start.seq = none_newer older.newest older.is_newest in
          absurd (omega arith)

  -- where its stripes are answered, and no stripe of its start record is to be placed
  pub last_landed : ((p : Placed) → Contains (placements (log_of w 0)) p → is_answered (log_of w 0) p ≡ true)
      → ((stripe : Stripe) → stripe.line ≡ n.line → ¬ IsStart i (log_of w) n stripe)
      → has_landed_start i.shape (log_of w 0) n ≡ true
  last_landed = start_landed i w lossless n last_stands

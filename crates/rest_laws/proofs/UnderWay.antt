-- What stays by an event of the engine: the victim at work and its live sectors where it takes no
-- entry, and the copy that is under way where it takes neither that nor its sector.
use Rattle.std.proofs.Common.{◌≡◌, ◌≢◌, ◌⊎◌, inl, inr, ℕ, ◌+◌, ◌<◌, ◌≤◌, suc, true, Some, None, Option, length, sym, subst, ap, ◌∙◌, arith}
use Rattle.std.specs.Prelude.{slice_get}
use Rattle.std.specs.List.{filter, range_with_len}
use Rattle.std.proofs.lemmas.Bool.{cases_lt, cases_order}
use Rattle.std.proofs.lemmas.Option.{none-some, same_Some, slice_get_within}
use Rattle.pblk_model.specs.declared.chunk.Mark.{Mark}
use Rattle.pblk_model.specs.Image.{Image}
use Rattle.pblk_world.specs.EngineLog.{Taken, taken_by}
use Rattle.pblk_world.specs.Events.{Decides, Entry, Free, Logged, Take}
use Rattle.pblk_world.specs.Victims.{engine_prefix, is_live_in, live, victim}
use Rattle.pblk_world.specs.World.{World, Logs, log_of}
use Rattle.pblk_model.proofs.Maps.{in_filter, range_get}
use Rattle.room_law.specs.Counting.{Copy, Fresh, NoCopy, Outlived, Stale, Victim}
use Rattle.rest_laws.specs.Copies.{TookCopy}
use Rattle.rest_laws.specs.RoomRuns.{AreBegunAt, IsCopyAt, IsReasonedMount, IsVictimOf, UnderWay}
use Rattle.rest_laws.proofs.KnownViews.{since_next}
use Rattle.rest_laws.proofs.StillLive.{quiet, still}
use Rattle.rest_laws.proofs.VictimSteps.{stays}

-- a sector that is live is counted
pub some_live : (i : Image) (logs : Logs) (line lba : ℕ) → lba < i.shape.capacity → is_live_in i logs line lba ≡ true → 0 < live i logs line
some_live i logs line lba small passes =
    let alike : 0 + lba ≡ lba = omega arith in
    let at = in_filter (is_live_in i logs line) (range_with_len 0 i.shape.capacity) lba
    (lba, range_get 0 i.shape.capacity lba small ∙ ap (λ n. Some n) alike) passes in
    let inside : at.0 < length (filter (is_live_in i logs line) (range_with_len 0 i.shape.capacity)) =
    slice_get_within (filter (is_live_in i logs line) (range_with_len 0 i.shape.capacity)) at.0 lba at.1 in
    omega arith

module _ (i : Image) (w : World) (is : IsReasonedMount i w) (at : ℕ → ℕ) (turns : AreBegunAt i (log_of w) at)
    (n : ℕ) (some : 0 < n) (l : Logged) (there : slice_get (log_of w 0) n ≡ Some l) where
  pub in_log : n < length (log_of w 0)
  in_log = slice_get_within (log_of w 0) n l there

  -- ---- the copy that is under way

  module _ (unmoved : (entry : Entry) (mark : Mark) → TookCopy (log_of w 0) n entry mark → ⊥) where
    not_this : (c : UnderWay i (log_of w) at n n) → c.number ≡ n → ⊥
    not_this c e = unmoved c.entry c.mark (subst (λ k. TookCopy (log_of w 0) k c.entry c.mark) e c.took)

    pub later : (c : UnderWay i (log_of w) at n n) → suc n ≤ c.number
    later c = go (cases_order n c.number)
      where
        upto : n ≤ c.number
        upto = c.to

        go : (n ≡ c.number) ⊎ ((n < c.number) ⊎ (c.number < n)) → suc n ≤ c.number
        go (inl same) = absurd (not_this c (sym same))
        go (inr (inl more)) = omega arith
        go (inr (inr less)) = absurd (omega (arith, upto))

    abbrev pub past_event : UnderWay i (log_of w) at n n → UnderWay i (log_of w) at n (suc n)
    past_event c = record { number = c.number; entry = c.entry; mark = c.mark; took = c.took; from = c.from; to = later c }

    pub none_kept : IsCopyAt i (log_of w) at n n NoCopy → IsCopyAt i (log_of w) at n (suc n) NoCopy
    none_kept h number entry mark took from = h number entry mark took (omega arith)

    pub stale_kept : (p : ℕ) → IsCopyAt i (log_of w) at n n (Stale p) → IsCopyAt i (log_of w) at n (suc n) (Stale p)
    stale_kept p h = (past_event h.0, h.1, since_next (log_of w 0) h.0.entry.lba (at h.0.number) n h.0.from h.2)

    pub outlived_kept : (p : ℕ) → IsCopyAt i (log_of w) at n n (Outlived p) → IsCopyAt i (log_of w) at n (suc n) (Outlived p)
    outlived_kept p h = (past_event h.0, h.1, since_next (log_of w 0) h.0.entry.lba (at h.0.number) n h.0.from h.2)

    pub stale_outlived : (p : ℕ) → IsCopyAt i (log_of w) at n n (Stale p) → IsCopyAt i (log_of w) at n (suc n) (Outlived p)
    stale_outlived p h = (past_event h.0, h.1, since_next (log_of w 0) h.0.entry.lba (at h.0.number) n h.0.from h.2)

    -- one that is fresh
    module _ (p : ℕ) (h : IsCopyAt i (log_of w) at n n (Fresh p)) where
      pub copied_of : victim i (log_of w) n ≡ Some h.0.took.source.line
      copied_of = h.2 n h.0.from (omega arith)

      module _ (other : l.event ≡ Decides (Free h.0.took.source.line) → ⊥) (apart : (t : Taken) → taken_by l.event ≡ Some t → t.mark.lba ≢ h.0.entry.lba) where
        next_there : victim i (log_of w) (suc n) ≡ Some h.0.took.source.line
        next_there = stays i w is.mount n l there h.0.took.source.line copied_of other

        pub live_next : is_live_in i (engine_prefix (suc n) (log_of w)) h.0.took.source.line h.0.entry.lba ≡ true
        live_next = still i w is.mount h.0.took.source.line n some (omega (arith, in_log)) copied_of next_there l there h.0.entry.lba apart h.3

        pub fresh_kept : IsCopyAt i (log_of w) at n (suc n) (Fresh p)
        fresh_kept = (past_event h.0, h.1, λ m from upto. by m from (cases_lt n m) upto, live_next)
          where
            by : (m : ℕ) → at h.0.number ≤ m → (n < m) ⊎ (m ≤ n) → m ≤ suc n → victim i (log_of w) m ≡ Some h.0.took.source.line
            by m from (inr low) upto = h.2 m from low
            by m from (inl high) upto = let same : suc n ≡ m = omega arith in ap (victim i (log_of w)) (sym same) ∙ next_there

  -- ---- an event that takes no entry and frees another line, if any

  module _ (none : taken_by l.event ≡ None) where
    pub untaken : (entry : Entry) (mark : Mark) → TookCopy (log_of w 0) n entry mark → ⊥
    untaken entry mark took =
        let one : l ≡ record { event = Decides (Take entry mark); knows = took.knows } =
        same_Some l (record { event = Decides (Take entry mark); knows = took.knows }) (sym there ∙ took.there) in
        none-some (record { entry = entry; mark = mark }) (sym none ∙ ap (λ (x : Logged). taken_by x.event) one)

    module _ (other : (line : ℕ) → l.event ≡ Decides (Free line) → victim i (log_of w) n ≡ Some line → ⊥) where
      pub victim_still : (o : Option ℕ) → victim i (log_of w) n ≡ o → (v : Option Victim) → IsVictimOf i (engine_prefix n (log_of w)) o v
          → IsVictimOf i (engine_prefix (suc n) (log_of w)) o v
      victim_still None e None h = tt
      victim_still None e (Some v) h = absurd h
      victim_still (Some line) e None h = absurd h
      victim_still (Some line) e (Some v) h = h ∙ sym (quiet i w is.mount line n some (omega (arith, in_log)) e
          (stays i w is.mount n l there line e (λ frees. other line frees e)) l there none)

      pub copy_still : (c : Copy) → IsCopyAt i (log_of w) at n n c → IsCopyAt i (log_of w) at n (suc n) c
      copy_still NoCopy h = none_kept untaken h
      copy_still (Fresh p) h = fresh_kept untaken p h (λ frees. other h.0.took.source.line frees (copied_of untaken p h))
          (λ t one. absurd (none-some t (sym none ∙ one)))
      copy_still (Stale p) h = stale_kept untaken p h
      copy_still (Outlived p) h = outlived_kept untaken p h

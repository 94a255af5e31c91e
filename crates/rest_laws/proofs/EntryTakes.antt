-- What an entry that is taken makes of the victim at work and of the copy that is under way: a
-- user's entry takes a sector, that of the copy or another, and a copy that is taken is the one
-- under way.
use Rattle.std.proofs.Common.{◌≡◌, ◌≢◌, ◌⊎◌, inl, inr, ℕ, ◌+◌, ◌-◌, ◌<◌, ◌≤◌, ◌^◌, zero, suc, Bool, true, false, nat_eq, Some, None, Option, [], ◌∷◌, take, refl, sym, subst, ap, ◌∙◌, arith}
use Rattle.std.specs.Prelude.{slice_get}
use Rattle.std.specs.List.{cons_option}
use Rattle.std.proofs.lemmas.Bool.{cases_lt, cases_order, eqb-false, eqb-true}
use Rattle.std.proofs.lemmas.List.{take-take}
use Rattle.std.proofs.lemmas.Option.{none-some, same_Some}
use Rattle.pblk_model.specs.declared.chunk.Mark.{Mark}
use Rattle.pblk_model.specs.Image.{Image}
use Rattle.pblk_model.specs.Marks.{sector_mark, void_lba, void_mark}
use Rattle.pblk_world.specs.EngineLog.{Taken, taken_by, takes}
use Rattle.pblk_world.specs.Events.{Decides, Entry, Event, Free, Logged, Source, Take}
use Rattle.pblk_world.specs.Fronts.{taken}
use Rattle.pblk_world.specs.Taking.{IsMarked, MayTake}
use Rattle.pblk_world.specs.Victims.{engine_prefix, is_live_in, live, victim}
use Rattle.pblk_world.specs.World.{World, Logs, log_of, prefixes}
use Rattle.pblk_model.proofs.Maps.{given_at}
use Rattle.pblk_model.proofs.Parts.{contained_among, get_taken}
use Rattle.pblk_model.proofs.Tests.{not_both}
use Rattle.world_laws.proofs.NextLives.{IsDecided, decided}
use Rattle.world_laws.proofs.TakenEvents.{IsTakenAt, taken_at}
use Rattle.room_law.specs.Counting.{Copy, Elsewhere, Fresh, Loss, MayLose, NoCopy, OfCopied, OfVictim, Outlived, Stale, State, Victim, after, copy_after, fewer_live, fresh, lost_by, past_copy}
use Rattle.rest_laws.specs.AtWork.{WasTakenSince}
use Rattle.rest_laws.specs.Copies.{TookCopy}
use Rattle.rest_laws.specs.RoomRuns.{AreBegunAt, IsCopyAt, IsOfVictim, IsReasonedMount, IsVictimOf, UnderWay, WasOvertaken}
use Rattle.rest_laws.proofs.BegunInTurn.{alone, may as begun_may, position_is, some as begun_some, within as begun_within}
use Rattle.rest_laws.proofs.CopyMarks.{named_where_live, void_where_overtaken}
use Rattle.rest_laws.proofs.LengthLogs.{taken_rises}
use Rattle.rest_laws.proofs.FreedVictims.{low}
use Rattle.rest_laws.proofs.StillLive.{elsewhere, lowered, outside}
use Rattle.rest_laws.proofs.VictimSteps.{stays}
use Rattle.rest_laws.proofs.UnderWay.{copied_of, fresh_kept, in_log, live_next, none_kept, outlived_kept, past_event, some_live, stale_kept}

module _ (i : Image) (w : World) (is : IsReasonedMount i w) (at : ℕ → ℕ) (turns : AreBegunAt i (log_of w) at)
    (n : ℕ) (some : 0 < n) (l : Logged) (there : slice_get (log_of w 0) n ≡ Some l) where
  abbrev old : Logs
  old = engine_prefix n (log_of w)

  abbrev new : Logs
  new = engine_prefix (suc n) (log_of w)

  -- ---- an entry is taken

  module _ (t : Taken) (its : taken_by l.event ≡ Some t) where
    event : l.event ≡ Decides (Take t.entry t.mark)
    event = by (taken_at (l ∷ []) 0 t (ap (λ (o : Option Taken). slice_get (cons_option o []) 0) its))
      where
        only : (k : ℕ) (other : Logged) → slice_get (l ∷ []) k ≡ Some other → l ≡ other
        only zero other e = same_Some l other e
        only (suc k) other e = absurd (none-some other e)

        by : IsTakenAt (l ∷ []) 0 t → l.event ≡ Decides (Take t.entry t.mark)
        by taken = ap (λ (x : Logged). x.event) (only taken.number taken.logged taken.there) ∙ taken.event

    not_free : (line : ℕ) → l.event ≡ Decides (Free line) → ⊥
    not_free line frees = none-some t (ap taken_by (sym frees) ∙ its)

    d : IsDecided i w is.mount.legal n (Take t.entry t.mark) l
    d = decided i w is.mount.legal n (Take t.entry t.mark) l there event

    may : MayTake i (prefixes l (log_of w)) t.entry t.mark
    may = d.allowed.2

    front : t.entry.position ≡ taken (take n (log_of w 0))
    front = may.position ∙ ap taken d.own

    -- an entry of its sector was taken since an earlier length
    since : (from : ℕ) → 0 < from → from ≤ n → WasTakenSince (take (suc n) (log_of w 0)) t.mark.lba from
    since from first low =
        let rise : taken (take from (log_of w 0)) ≤ taken (take n (log_of w 0)) = taken_rises (log_of w 0) from n first low in
        let part : take from (take (suc n) (log_of w 0)) ≡ take from (log_of w 0) = take-take from (suc n) (log_of w 0) (omega arith) in
        let same : taken (take from (take (suc n) (log_of w 0))) ≡ taken (take from (log_of w 0)) = ap taken part in
        record {
          t = t;
          there = contained_among (takes (take (suc n) (log_of w 0))) t
              (given_at (λ (x : Logged). taken_by x.event) (take (suc n) (log_of w 0)) l t n
              (get_taken (suc n) (log_of w 0) n (omega arith) ∙ there) its);
          of_it = refl;
          since = omega (arith, front);
        }

    module _ (line : ℕ) (e : victim i (log_of w) n ≡ Some line) where
      next : victim i (log_of w) (suc n) ≡ Some line
      next = stays i w is.mount n l there line e (not_free line)

      one_less : t.mark.lba < i.shape.capacity → is_live_in i (engine_prefix n (log_of w)) line t.mark.lba ≡ true
          → live i (engine_prefix n (log_of w)) line ≡ live i (engine_prefix (suc n) (log_of w)) line + 1
      one_less small passes = lowered i w is.mount line n some (omega (arith, in_log i w is at turns n some l there)) e next l there t its small passes

      as_many : is_live_in i (engine_prefix n (log_of w)) line t.mark.lba ≡ false
          → live i (engine_prefix (suc n) (log_of w)) line ≡ live i (engine_prefix n (log_of w)) line
      as_many fails = elsewhere i w is.mount line n some (omega (arith, in_log i w is at turns n some l there)) e next l there t its fails

    -- ---- a user's

    module _ (users : t.entry.source ≡ None) where
      pub not_copy : (entry : Entry) (mark : Mark) → TookCopy (log_of w 0) n entry mark → ⊥
      not_copy entry mark took =
          let one : l ≡ record { event = Decides (Take entry mark); knows = took.knows } =
          same_Some l (record { event = Decides (Take entry mark); knows = took.knows }) (sym there ∙ took.there) in
          let same : t ≡ record { entry = entry; mark = mark } =
          same_Some t (record { entry = entry; mark = mark }) (sym its ∙ ap (λ (x : Logged). taken_by x.event) one) in
          none-some took.source (sym users ∙ ap (λ (x : Taken). x.entry.source) same ∙ took.is_copy)

      small : t.mark.lba < i.shape.capacity
      small =
          let named : t.mark ≡ sector_mark t.entry.lba t.entry.position = subst (IsMarked i (prefixes l (log_of w)) t.entry t.mark) users may.marked in
          let sector : t.mark.lba ≡ t.entry.lba = ap (λ (m : Mark). m.lba) named in
          let lba : t.entry.lba < i.shape.capacity = may.lba in
          omega arith

      abbrev Loses : State → Option ℕ → Option Victim → Copy → Type 0
      Loses s o v c = (loss : Loss) × MayLose (record s { victim = v; copy = c }) loss
          × IsVictimOf i (engine_prefix (suc n) (log_of w)) o (fewer_live (lost_by loss) v)
          × IsCopyAt i (log_of w) at n (suc n) (copy_after loss c)

      -- not from the victim
      from_elsewhere : (c : Copy) → IsCopyAt i (log_of w) at n n c
          → ((line : ℕ) → victim i (log_of w) n ≡ Some line → is_live_in i (engine_prefix n (log_of w)) line t.mark.lba ≡ false)
          → IsCopyAt i (log_of w) at n (suc n) c
      from_elsewhere NoCopy k fails = none_kept i w is at turns n some l there not_copy k
      from_elsewhere (Stale p) k fails = stale_kept i w is at turns n some l there not_copy p k
      from_elsewhere (Outlived p) k fails = outlived_kept i w is at turns n some l there not_copy p k
      from_elsewhere (Fresh p) k fails = fresh_kept i w is at turns n some l there not_copy p k (not_free k.0.took.source.line) (λ u one same.
          not_both (is_live_in i old k.0.took.source.line k.0.entry.lba) k.3
          (subst (λ x. is_live_in i old k.0.took.source.line x ≡ false) (ap (λ (x : Taken). x.mark.lba) (same_Some t u (sym its ∙ one)) ∙ same)
          (fails k.0.took.source.line (copied_of i w is at turns n some l there not_copy p k))))

      -- from the victim
      module _ (s : State) (line : ℕ) (e : victim i (log_of w) n ≡ Some line) (v : Victim) (h : v.live ≡ live i (engine_prefix n (log_of w)) line)
          (passes : is_live_in i (engine_prefix n (log_of w)) line t.mark.lba ≡ true) where
        less : v.live - 1 ≡ live i (engine_prefix (suc n) (log_of w)) line
        less = omega (arith, one_less line e small passes, h)

        some_left : 0 < v.live
        some_left = omega (arith, one_less line e small passes, h)

        from_victim : (c : Copy) → IsCopyAt i (log_of w) at n n c → Loses s (Some line) (Some v) c
        from_victim NoCopy k = (OfVictim, some_left, less, none_kept i w is at turns n some l there not_copy k)
        from_victim (Stale p) k = (OfVictim, some_left, less, stale_kept i w is at turns n some l there not_copy p k)
        from_victim (Outlived p) k = (OfVictim, some_left, less, outlived_kept i w is at turns n some l there not_copy p k)
        from_victim (Fresh p) k = by (nat_eq t.mark.lba k.0.entry.lba) refl
          where
            in_line : k.0.took.source.line ≡ line
            in_line = same_Some k.0.took.source.line line (sym (copied_of i w is at turns n some l there not_copy p k) ∙ e)

            by : (b : Bool) → nat_eq t.mark.lba k.0.entry.lba ≡ b → Loses s (Some line) (Some v) (Fresh p)
            by true f = (
              OfCopied,
              refl,
              less,
              (
                past_event i w is at turns n some l there not_copy k.0,
                k.1,
                subst (λ x. WasTakenSince (take (suc n) (log_of w 0)) x (at k.0.number)) (eqb-true t.mark.lba k.0.entry.lba f)
                    (since (at k.0.number) (begun_some i w is.mount at turns k.0.number k.0.entry k.0.mark k.0.took) k.0.from),
              ),
            )
            by false f =
                let apart : t.mark.lba ≢ k.0.entry.lba = eqb-false t.mark.lba k.0.entry.lba f in
                let others : (u : Taken) → taken_by l.event ≡ Some u → u.mark.lba ≢ k.0.entry.lba =
                λ u one same. apart (ap (λ (x : Taken). x.mark.lba) (same_Some t u (sym its ∙ one)) ∙ same) in
                let lba : k.0.entry.lba < i.shape.capacity = (begun_may i w is.mount at turns k.0.number k.0.entry k.0.mark k.0.took).lba in
                let other : 0 < live i new k.0.took.source.line = some_live i new k.0.took.source.line k.0.entry.lba lba
                (live_next i w is at turns n some l there not_copy p k (not_free k.0.took.source.line) others) in
                let there_too : live i new k.0.took.source.line ≡ live i new line = ap (live i new) in_line in
                (OfVictim, omega (arith, less), less, fresh_kept i w is at turns n some l there not_copy p k (not_free k.0.took.source.line) others)

      pub loses : (s : State) (o : Option ℕ) → victim i (log_of w) n ≡ o → (v : Option Victim) → IsVictimOf i (engine_prefix n (log_of w)) o v → (c : Copy)
          → IsCopyAt i (log_of w) at n n c → Loses s o v c
      loses s None e (Some v) h c k = absurd h
      loses s (Some line) e None h c k = absurd h
      loses s None e None h c k = (Elsewhere, tt, tt, from_elsewhere c k (λ line f. absurd (none-some line (sym e ∙ f))))
      loses s (Some line) e (Some v) h c k = by (is_live_in i old line t.mark.lba) refl
        where
          by : (b : Bool) → is_live_in i (engine_prefix n (log_of w)) line t.mark.lba ≡ b → Loses s (Some line) (Some v) c
          by true passes = from_victim s line e v h passes c k
          by false fails = (
            Elsewhere,
            tt,
            omega (arith, as_many line e fails, h),
            from_elsewhere c k (λ m f. subst (λ x. is_live_in i old x t.mark.lba ≡ false) (same_Some line m (sym e ∙ f)) fails),
          )

    -- ---- a copy

    module _ (source : Source) (copy : t.entry.source ≡ Some source) where
      pub this : TookCopy (log_of w 0) n t.entry t.mark
      this = record {
        knows = l.knows;
        there = there ∙ ap (λ (x : Event). Some (record { event = x; knows = l.knows })) event;
        source = source;
        is_copy = copy;
      }

      some_copy : IsCopyAt i (log_of w) at n n NoCopy → ⊥
      some_copy h =
          let after : n < at n = h n t.entry t.mark this (omega arith) in
          absurd (omega (arith, begun_within i w is.mount at turns n t.entry t.mark this))

      -- it is the one that is under way
      is_next : (c : UnderWay i (log_of w) at n n) → c.number ≡ n
      is_next c = go (cases_order n c.number)
        where
          go : (n ≡ c.number) ⊎ ((n < c.number) ⊎ (c.number < n)) → c.number ≡ n
          go (inl same) = sym same
          go (inr (inl more)) = absurd (alone i w is.mount at turns c.number c.entry c.mark c.took n t.entry t.mark this c.from more)
          go (inr (inr less)) = let upto : n ≤ c.number = c.to in absurd (omega arith)

      module _ (c : UnderWay i (log_of w) at n n) where
        abbrev now : TookCopy (log_of w 0) n c.entry c.mark
        now = record {
          knows = c.took.knows;
          there = ap (slice_get (log_of w 0)) (sym (is_next c)) ∙ c.took.there;
          source = c.took.source;
          is_copy = c.took.is_copy;
        }

        same_entry : t ≡ record { entry = c.entry; mark = c.mark }
        same_entry =
            let one : l ≡ record { event = Decides (Take c.entry c.mark); knows = c.took.knows } =
            same_Some l (record { event = Decides (Take c.entry c.mark); knows = c.took.knows }) (sym there ∙ now.there) in
            same_Some t (record { entry = c.entry; mark = c.mark }) (sym its ∙ ap (λ (x : Logged). taken_by x.event) one)

        position_next : c.entry.position ≡ taken (take n (log_of w 0))
        position_next = position_is i w is.mount at turns n c.entry c.mark now

        lba : c.entry.lba < i.shape.capacity
        lba = (begun_may i w is.mount at turns n c.entry c.mark now).lba

        -- its mark
        is_void : WasOvertaken (log_of w) at n c.number c.entry.lba → i.shape.capacity ≤ t.mark.lba
        is_void h =
            let void : c.mark ≡ void_mark c.entry.position = void_where_overtaken i w is.mount at turns n c.entry c.mark now
            (subst (λ k. WasTakenSince (take n (log_of w 0)) c.entry.lba (at k)) (is_next c) h) in
            let same : t.mark.lba ≡ void_lba = ap (λ (x : Taken). x.mark.lba) same_entry ∙ ap (λ (m : Mark). m.lba) void in
            let small : i.shape.capacity < 2 ^ 40 = is.mount.accepted.target.capacity_number in
            omega arith

        is_named : IsOfVictim i (log_of w) at n c.number c.took.source.line
            → is_live_in i (engine_prefix n (log_of w)) c.took.source.line c.entry.lba ≡ true → t.mark.lba ≡ c.entry.lba
        is_named of live =
            let named : c.mark ≡ sector_mark c.entry.lba c.entry.position = named_where_live i w is.mount at turns n c.entry c.mark now
            (λ m from upto. of m (omega (arith, ap at (is_next c))) upto) live in
            ap (λ (x : Taken). x.mark.lba) same_entry ∙ ap (λ (m : Mark). m.lba) named

      -- one whose sector was overtaken is Void, and takes no sector from the victim
      as_live : (line : ℕ) → victim i (log_of w) n ≡ Some line → (c : UnderWay i (log_of w) at n n) → WasOvertaken (log_of w) at n c.number c.entry.lba
          → live i (engine_prefix (suc n) (log_of w)) line ≡ live i (engine_prefix n (log_of w)) line
      as_live line e c over =
          outside i w is.mount line n some (omega (arith, in_log i w is at turns n some l there)) e (next line e) l there t its (is_void c over)

      pub drops : (o : Option ℕ) → victim i (log_of w) n ≡ o → (v : Option Victim) → IsVictimOf i (engine_prefix n (log_of w)) o v → (c : Copy)
          → IsCopyAt i (log_of w) at n n c → IsVictimOf i (engine_prefix (suc n) (log_of w)) o (fewer_live (fresh c) v)
      drops None e None h c k = tt
      drops None e (Some v) h c k = absurd h
      drops (Some line) e None h c k = absurd h
      drops (Some line) e (Some v) h NoCopy k = absurd (some_copy k)
      drops (Some line) e (Some v) h (Fresh p) k =
          let named : t.mark.lba ≡ k.0.entry.lba = is_named k.0 k.2 k.3 in
          let in_line : k.0.took.source.line ≡ line = same_Some k.0.took.source.line line (sym (k.2 n k.0.from (omega arith)) ∙ e) in
          let small : t.mark.lba < i.shape.capacity = subst (λ x. x < i.shape.capacity) (sym named) (lba k.0) in
          let passes : is_live_in i old line t.mark.lba ≡ true = subst (λ m. is_live_in i old m t.mark.lba ≡ true) in_line
          (subst (λ x. is_live_in i old k.0.took.source.line x ≡ true) (sym named) k.3) in
          omega (arith, one_less line e small passes, h)
      drops (Some line) e (Some v) h (Stale p) k = omega (arith, as_live line e k.0 k.2, h)
      drops (Some line) e (Some v) h (Outlived p) k = omega (arith, as_live line e k.0 k.2, h)

      pub next_position : (c : Copy) → IsCopyAt i (log_of w) at n n c → past_copy c ≡ taken (take n (log_of w 0)) + 1
      next_position NoCopy k = absurd (some_copy k)
      next_position (Fresh p) k = ap (λ x. x + 1) (sym k.1 ∙ position_next k.0)
      next_position (Stale p) k = ap (λ x. x + 1) (sym k.1 ∙ position_next k.0)
      next_position (Outlived p) k = ap (λ x. x + 1) (sym k.1 ∙ position_next k.0)

      pub none_after : IsCopyAt i (log_of w) at n (suc n) NoCopy
      none_after number entry mark took from = go (cases_lt n (at number))
        where
          go : (n < at number) ⊎ (at number ≤ n) → n < at number
          go (inl after) = after
          go (inr before) = absurd (alone i w is.mount at turns number entry mark took n t.entry t.mark this before (omega arith))

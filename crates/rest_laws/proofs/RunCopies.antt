-- What an event of the engine makes of the victim at work and of the copy that is under way, in the
-- run of crate room_law that the log makes.
use Rattle.std.proofs.Common.{◌≡◌, ℕ, ◌+◌, ◌<◌, ◌≤◌, max, suc, Some, None, Option, take, refl, sym, subst, ap, ◌∙◌, arith}
use Rattle.std.specs.Prelude.{slice_get}
use Rattle.std.specs.List.{Contains}
use Rattle.std.proofs.lemmas.Option.{same_Some}
use Rattle.pblk_model.specs.Image.{Image}
use Rattle.pblk_world.specs.EngineLog.{Taken, taken_by, takes}
use Rattle.pblk_world.specs.Events.{Decides, Free, Logged, Source}
use Rattle.pblk_world.specs.Fronts.{taken}
use Rattle.pblk_world.specs.Victims.{engine_prefix, live, victim}
use Rattle.pblk_world.specs.World.{World, Logs, log_of}
use Rattle.pblk_world.specs.Space.{placed_front}
use Rattle.room_law.specs.Counting.{Copy, Fresh, Loss, MayFreeVictim, MayLose, NoCopy, Outlived, Stale, State, Victim, at_work, copy_after, fewer_live, fresh, live_of, lost_by, outlived, past_copy, under_way}
use Rattle.rest_laws.specs.RoomRuns.{AreBegunAt, IsCopyAt, IsReasonedMount, IsRoomRun, IsVictimOf, UnderWay}
use Rattle.rest_laws.proofs.BegunInTurn.{all_begun_then, at_is, begun_then, may as begun_may, turn}
use Rattle.rest_laws.proofs.FreedVictims.{low, none_beside, none_live, one_copy}
use Rattle.rest_laws.proofs.EntryTakes.{drops, loses, next_position, none_after}
use Rattle.rest_laws.proofs.UnderWay.{copy_still, none_kept, outlived_kept, some_live, stale_outlived, untaken, victim_still}

module _ (i : Image) (w : World) (is : IsReasonedMount i w) (at : ℕ → ℕ) (turns : AreBegunAt i (log_of w) at)
    (n : ℕ) (some : 0 < n) (l : Logged) (there : slice_get (log_of w 0) n ≡ Some l) where
  abbrev old : Logs
  old = engine_prefix n (log_of w)

  -- ---- the victim at work is freed

  module _ (line : ℕ) (here : victim i (log_of w) n ≡ Some line) (frees : l.event ≡ Decides (Free line)) where
    dead : live i (engine_prefix n (log_of w)) line ≡ 0
    dead = none_live i w is.mount is.none_lost n l there line here frees

    quits : (v : Option Victim) → IsVictimOf i (engine_prefix n (log_of w)) (Some line) v → (at_work v ≡ 1) × (live_of v ≡ 0)
    quits None h = absurd h
    quits (Some v) h = (refl, h ∙ dead)

    copy_then : (c : Copy) → IsCopyAt i (log_of w) at n n c → IsCopyAt i (log_of w) at n (suc n) (outlived c)
    copy_then NoCopy k = none_kept i w is at turns n some l there (untaken i w is at turns n some l there (ap taken_by frees)) k
    copy_then (Stale p) k = stale_outlived i w is at turns n some l there (untaken i w is at turns n some l there (ap taken_by frees)) p k
    copy_then (Outlived p) k = outlived_kept i w is at turns n some l there (untaken i w is at turns n some l there (ap taken_by frees)) p k
    copy_then (Fresh p) k =
        let in_line : k.0.took.source.line ≡ line = same_Some k.0.took.source.line line (sym (k.2 n k.0.from (omega arith)) ∙ here) in
        let small : k.0.entry.lba < i.shape.capacity = (begun_may i w is.mount at turns k.0.number k.0.entry k.0.mark k.0.took).lba in
        let some_there : 0 < live i old k.0.took.source.line = some_live i old k.0.took.source.line k.0.entry.lba small k.3 in
        let same : live i old k.0.took.source.line ≡ live i old line = ap (live i old) in_line in
        absurd (omega (arith, dead))

    module _ (users : ℕ) (all : (t : Taken) → Contains (takes (take n (log_of w 0))) t → t.entry.source ≡ None → t.entry.position < users) where
      beside : UnderWay i (log_of w) at n n → taken (take n (log_of w 0)) + 1 ≤ max (placed_front i.shape (take n (log_of w 0))) users + 1
      beside c =
          let b = (turn i w is.mount at turns c.number c.entry c.mark c.took).begun in
          let same : b.at ≡ at c.number = at_is i w is.mount at turns c.number c.entry c.mark c.took in
          let from : at c.number ≤ n = c.from in
          let small : c.entry.lba < i.shape.capacity = (begun_may i w is.mount at turns c.number c.entry c.mark c.took).lba in
          let few : taken (take n (log_of w 0)) ≤ max (placed_front i.shape (take n (log_of w 0))) users =
          none_beside i w is.mount is.none_lost n l there line here frees users all c.entry.lba c.took.source small
          (begun_then i w is.mount n (low i w is.mount is.none_lost n l there line here frees) c.number n c.entry.lba c.took.source b c.to (omega arith)
          (omega arith)) in
          omega arith

      one_at_most : (c : Copy) → IsCopyAt i (log_of w) at n n c
          → taken (take n (log_of w 0)) + under_way c ≤ max (placed_front i.shape (take n (log_of w 0))) users + 1
      one_at_most NoCopy k =
          let few : taken (take n (log_of w 0)) ≤ max (placed_front i.shape (take n (log_of w 0))) users + 1 =
          one_copy i w is.mount is.none_lost n l there line here frees users all
          (all_begun_then i w is.mount n (low i w is.mount is.none_lost n l there line here frees)
          (λ number entry mark took. (turns.each number entry mark took).0.begun)) in
          omega arith
      one_at_most (Fresh p) k = beside k.0
      one_at_most (Stale p) k = beside k.0
      one_at_most (Outlived p) k = beside k.0

  module _ (s : State) (run : IsRoomRun i (log_of w) at n s) where
    -- one that takes no entry and doesn't free the victim at work
    pub victim_beside : taken_by l.event ≡ None → ((line : ℕ) → l.event ≡ Decides (Free line) → victim i (log_of w) n ≡ Some line → ⊥)
        → IsVictimOf i (engine_prefix (suc n) (log_of w)) (victim i (log_of w) n) s.victim
    victim_beside none other = victim_still i w is at turns n some l there none other (victim i (log_of w) n) refl s.victim run.victim

    pub copy_beside : taken_by l.event ≡ None → ((line : ℕ) → l.event ≡ Decides (Free line) → victim i (log_of w) n ≡ Some line → ⊥)
        → IsCopyAt i (log_of w) at n (suc n) s.copy
    copy_beside none other = copy_still i w is at turns n some l there none other s.copy run.copy

    -- a user's entry is taken
    pub users_loss : (t : Taken) → taken_by l.event ≡ Some t → t.entry.source ≡ None
        → (loss : Loss) × MayLose s loss
        × IsVictimOf i (engine_prefix (suc n) (log_of w)) (victim i (log_of w) n) (fewer_live (lost_by loss) s.victim)
        × IsCopyAt i (log_of w) at n (suc n) (copy_after loss s.copy)
    users_loss t its users = loses i w is at turns n some l there t its users s (victim i (log_of w) n) refl s.victim run.victim s.copy run.copy

    -- a copy is taken: it is the one that is under way
    pub copy_next : (t : Taken) (source : Source) → taken_by l.event ≡ Some t → t.entry.source ≡ Some source → past_copy s.copy ≡ s.taken + 1
    copy_next t source its copy = next_position i w is at turns n some l there t its source copy s.copy run.copy ∙ ap (λ x. x + 1) (sym run.numbers.taken)

    pub copy_victim : (t : Taken) (source : Source) → taken_by l.event ≡ Some t → t.entry.source ≡ Some source
        → IsVictimOf i (engine_prefix (suc n) (log_of w)) (victim i (log_of w) n) (fewer_live (fresh s.copy) s.victim)
    copy_victim t source its copy = drops i w is at turns n some l there t its source copy (victim i (log_of w) n) refl s.victim run.victim s.copy run.copy

    pub copy_over : (t : Taken) (source : Source) → taken_by l.event ≡ Some t → t.entry.source ≡ Some source
        → IsCopyAt i (log_of w) at n (suc n) NoCopy
    copy_over t source its copy = none_after i w is at turns n some l there t its source copy

    -- the victim at work is freed
    pub may_free_victim : (line : ℕ) → victim i (log_of w) n ≡ Some line → l.event ≡ Decides (Free line) → MayFreeVictim s
    may_free_victim line here frees =
        let gone_now = quits line here frees s.victim (subst (λ o. IsVictimOf i (engine_prefix n (log_of w)) o s.victim) here run.victim) in
        record {
          some = gone_now.0;
          no_live = gone_now.1;
          one_copy = omega (arith, one_at_most line here frees s.users run.users s.copy run.copy, run.numbers.taken, run.numbers.placed);
        }

    pub copy_outlived : (line : ℕ) → victim i (log_of w) n ≡ Some line → l.event ≡ Decides (Free line)
        → IsCopyAt i (log_of w) at n (suc n) (outlived s.copy)
    copy_outlived line here frees = copy_then line here frees s.copy run.copy

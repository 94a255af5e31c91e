-- What is kept where an entry is taken: it is an early one, or a copy of a live sector of the victim
-- at work.
use Rattle.std.proofs.Common.{None, Option, Some, ap, arith, inl, inr, refl, subst, suc, sym, take, ℕ, ◌+◌, ◌-◌, ◌<◌, ◌∙◌, ◌≡◌, ◌≤◌, ◌⊎◌}
use Rattle.std.proofs.lemmas.Bool.{cases_lt, cases_order}
use Rattle.std.proofs.lemmas.List.{take-take}
use Rattle.pblk_model.specs.Image.{Image}
use Rattle.pblk_world.specs.EngineLog.{Taken, taken_by}
use Rattle.pblk_world.specs.Events.{Decides, Logged, Take}
use Rattle.pblk_world.specs.Fronts.{taken}
use Rattle.pblk_world.specs.Victims.{engine_prefix, live, victim}
use Rattle.pblk_world.specs.World.{World, log_of}
use Rattle.room_law.specs.Counting.{Copy, Fresh, NoCopy, Outlived, Stale, State, Victim, at_work, fewer_live, fresh, live_of}
use Rattle.rest_laws.specs.Copies.{TookCopy}
use Rattle.rest_laws.specs.RoomRuns.{IsCopyAt, IsRoomRun, IsVictimOf, UnderWay, WasOvertaken}
use Rattle.rest_laws.proofs.BegunInTurn.{alone, may as begun_may, position_is, some as begun_some, within as begun_within}
use Rattle.rest_laws.proofs.EntryTakes.{drops}
use Rattle.rest_laws.proofs.RunNumbers as numbers
use Rattle.rest_laws.proofs.RunNumbers.{AreNumbers}
use Rattle.rest_laws.proofs.UnderWay.{some_live}
use Rattle.settle_laws.proofs.Counts.{frees}
use Rattle.settle_laws.proofs.Kept.{AreNumbersAt, Comes, IsKept, NoneFreed, Waits, are_sizes, early_end, kept_at, none_freed_now, none_freed_then, victim_works}
use Rattle.settle_laws.proofs.KeptEvents.{IsKeptBefore, are_before, before, chunks_same, done_more, frees_same, inside, some, stripes_same}
use Rattle.settle_laws.proofs.Still.{run_at}
use Rattle.settle_laws.proofs.SumSteps as sums
use Rattle.settle_laws.proofs.Takes.{IsTakenWhen, begun_since, copied, position, taken_when}

-- the victim's numbers where a sector or none of it is live no more
works_later : (v : Option Victim) (less : ℕ) → (at_work v ≡ at_work (fewer_live less v)) × (live_of (fewer_live less v) ≡ live_of v - less)
works_later None less = (refl, omega arith)
works_later (Some v) less = (refl, refl)

module _ {i : Image} {w : World} {at : ℕ → ℕ} {from total n : ℕ} {l : Logged} (e : IsKeptBefore i w at from total n l)
    (tk : Taken) (its : l.event ≡ Decides (Take tk.entry tk.mark)) where
  took : TookCopy (log_of w 0) n tk.entry tk.mark
  took = copied i w e.q.is.mount from e.q.quiet n l e.there tk its e.late

  own : tk.entry.position ≡ (before e).taken
  own = position i w e.q.is.mount n l e.there tk its

  run : (s : State) × IsRoomRun i (log_of w) at n s
  run = run_at i w e.q.is at e.q.turns n (some e) (omega (arith, inside e))

  -- the victim and the numbers after it
  later_at : IsVictimOf i (engine_prefix (suc n) (log_of w)) (victim i (log_of w) n) (fewer_live (fresh run.0.copy) e.was.v)
  later_at = drops i w e.q.is at e.q.turns n (some e) l e.there tk (ap taken_by its) took.source took.is_copy (victim i (log_of w) n) refl
      e.was.v e.was.at_it run.0.copy run.1.copy

  others : AreNumbers i (engine_prefix (suc n) (log_of w)) (before e).left (before e).free (before e).resetting (before e).placed ((before e).taken + 1)
  others = numbers.entry_takes i w e.q.is n (some e) l e.there _ _ _ _ _ (are_before e) tk.entry tk.mark its

  numbers_after : (live : ℕ) → AreNumbersAt i w (suc n) (record (before e) { done = (before e).done + 1; taken = (before e).taken + 1; live = live })
  numbers_after live = record {
    done = done_more e (Take tk.entry tk.mark) its refl;
    stripes = stripes_same e (Take tk.entry tk.mark) its refl;
    chunks = chunks_same e (Take tk.entry tk.mark) its refl;
    others = others;
  }

  -- ---- copies

  -- what comes after it was begun just now
  comes_then : (credit : ℕ) → Comes w at from (suc n) credit
  comes_then credit m entry mark other past more upto = go (cases_lt n (at m))
    where
      go : (n < at m) ⊎ (at m ≤ n) → NoneFreed w (at m) (suc n) credit
      go (inl now) = none_freed_now w (at m) (suc n) credit (omega arith)
      go (inr then_) = absurd (alone i w e.q.is.mount at e.q.turns m entry mark other n tk.entry tk.mark took then_ (omega arith))

  -- what waits then is that, or waited before
  waits_then : (credit : ℕ) → e.was.c.waiting ≤ credit → (early_end w from ≤ tk.entry.position → NoneFreed w (at n) n credit)
      → Waits i w at from (suc n) credit
  waits_then credit more_credit this m entry mark other past less above = go (cases_lt m n)
    where
      same_frees : frees (take (suc n) (log_of w 0)) ≡ frees (take n (log_of w 0))
      same_frees = frees_same e (Take tk.entry tk.mark) its refl

      go : (m < n) ⊎ (n ≤ m) → NoneFreed w (at m) (suc n) credit
      go (inl low) =
          none_freed_then w (at m) n (suc n) e.was.c.waiting credit same_frees more_credit
          (e.was.waits m entry mark other past low (omega (arith, above, others.placed_is)))
      go (inr high) =
          let equal : n ≡ m = omega arith in
          let again : TookCopy (log_of w 0) n entry mark = subst (λ k. TookCopy (log_of w 0) k entry mark) (sym equal) other in
          let own_again : entry.position ≡ (before e).taken = position_is i w e.q.is.mount at e.q.turns n entry mark again in
          none_freed_then w (at m) n (suc n) credit credit same_frees (omega arith)
          (subst (λ k. NoneFreed w (at k) n credit) equal (this (omega (arith, own, own_again, past))))

  -- ---- an early entry

  takes_early : (before e).taken + 1 ≡ early_end w from → IsKept i w at from total (suc n) (victim i (log_of w) n)
  takes_early last = record {
    c = e.was.c;
    v = fewer_live (fresh run.0.copy) e.was.v;
    kept =
        let lives = works_later e.was.v (fresh run.0.copy) in
        kept_at (fewer_live (fresh run.0.copy) e.was.v)
        (sums.early_taken (are_sizes e.q) e.was.kept last (live_of (fewer_live (fresh run.0.copy) e.was.v)) (omega (arith, lives.1)))
        (numbers_after (live_of (fewer_live (fresh run.0.copy) e.was.v))) lives.0 refl;
    at_it = later_at;
    left_low = omega (arith, e.was.left_low, others.left_is);
    waits = waits_then e.was.c.waiting (omega arith) (λ past. absurd (omega (arith, past, own, last)));
    comes = comes_then e.was.c.coming;
  }

  -- ---- a copy

  module _ (past : early_end w from ≤ (before e).taken) where
    since : (from ≤ at n) × (from ≤ n)
    since = begun_since i w e.q.is.mount from e.q.quiet at e.q.turns n tk.entry tk.mark took e.q.first (omega (arith, past, own))

    begun : at n ≤ n
    begun = begun_within i w e.q.is.mount at e.q.turns n tk.entry tk.mark took

    -- it is the copy that is under way
    this : (c : UnderWay i (log_of w) at n n) → c.number ≡ n
    this c = go (cases_order n c.number)
      where
        go : (n ≡ c.number) ⊎ ((n < c.number) ⊎ (c.number < n)) → c.number ≡ n
        go (inl equal) = sym equal
        go (inr (inl more)) = absurd (alone i w e.q.is.mount at e.q.turns c.number c.entry c.mark c.took n tk.entry tk.mark took c.from more)
        go (inr (inr less)) = let upto : n ≤ c.number = c.to in absurd (omega arith)

    -- no entry of its sector was taken since it was begun
    not_over : (c : UnderWay i (log_of w) at n n) → WasOvertaken (log_of w) at n c.number c.entry.lba → ⊥
    not_over c over =
        let same_at : at c.number ≡ at n = ap at (this c) in
        let part : taken (take (at c.number) (take n (log_of w 0))) ≡ taken (take (at n) (log_of w 0)) =
        ap taken (take-take (at c.number) n (log_of w 0) c.from) ∙ ap (λ k. taken (take k (log_of w 0))) same_at in
        let least : taken (take (at c.number) (take n (log_of w 0))) ≤ over.t.entry.position = over.since in
        let other : IsTakenWhen i w e.q.is.mount (at n) n over.t =
        taken_when i w e.q.is.mount (at n) n over.t (begun_some i w e.q.is.mount at e.q.turns n tk.entry tk.mark took) over.there
        (omega (arith, part, least)) in
        alone i w e.q.is.mount at e.q.turns n tk.entry tk.mark took other.number over.t.entry over.t.mark
        (copied i w e.q.is.mount from e.q.quiet other.number other.logged other.there over.t other.event (omega (arith, other.late, since.0))) other.late
        other.early

    -- so it is of a live sector of the victim at work
    is_fresh : (c : Copy) → IsCopyAt i (log_of w) at n n c
        → (fresh c ≡ 1) × (line : ℕ) × (victim i (log_of w) n ≡ Some line) × (0 < live i (engine_prefix n (log_of w)) line)
    is_fresh NoCopy k = absurd (omega (arith, k n tk.entry tk.mark took (omega arith), begun))
    is_fresh (Stale q) k = absurd (not_over k.0 k.2)
    is_fresh (Outlived q) k = absurd (not_over k.0 k.2)
    is_fresh (Fresh q) k = (
      refl,
      k.0.took.source.line,
      k.2 n k.0.from (omega arith),
      some_live i (engine_prefix n (log_of w)) k.0.took.source.line k.0.entry.lba
          (begun_may i w e.q.is.mount at e.q.turns k.0.number k.0.entry k.0.mark k.0.took).lba k.3,
    )

    one_fresh : (fresh run.0.copy ≡ 1) × (line : ℕ) × (victim i (log_of w) n ≡ Some line) × (0 < live i (engine_prefix n (log_of w)) line)
    one_fresh = is_fresh run.0.copy run.1.copy

    its_victim : (at_work e.was.v ≡ 1) × (live_of e.was.v ≡ live i (engine_prefix n (log_of w)) one_fresh.1)
    its_victim = victim_works i (engine_prefix n (log_of w)) one_fresh.1 e.was.v
        (subst (λ o. IsVictimOf i (engine_prefix n (log_of w)) o e.was.v) one_fresh.2 e.was.at_it)

    takes_copy : IsKept i w at from total (suc n) (victim i (log_of w) n)
    takes_copy = record {
      c = record e.was.c { waiting = e.was.c.waiting + e.was.c.coming; coming = 0 };
      v = fewer_live (fresh run.0.copy) e.was.v;
      kept =
          let lives = works_later e.was.v (fresh run.0.copy) in
          kept_at (fewer_live (fresh run.0.copy) e.was.v)
          (sums.copy_taken (are_sizes e.q) e.was.kept (omega (arith, its_victim.0)) (omega (arith, its_victim.1, one_fresh.3)) past)
          (numbers_after (live_of e.was.v - 1)) lives.0 (omega (arith, lives.1, one_fresh.0));
      at_it = later_at;
      left_low = omega (arith, e.was.left_low, others.left_is);
      waits = waits_then (e.was.c.waiting + e.was.c.coming) (omega arith) (λ far.
          none_freed_then w (at n) n n e.was.c.coming (e.was.c.waiting + e.was.c.coming) refl (omega arith)
          (e.was.comes n tk.entry tk.mark took far (omega arith) begun));
      comes = comes_then 0;
    }

  pub takes_entry : IsKept i w at from total (suc n) (victim i (log_of w) n)
  takes_entry = go (cases_lt (before e).taken (early_end w from))
    where
      go : ((before e).taken < early_end w from) ⊎ (early_end w from ≤ (before e).taken) → IsKept i w at from total (suc n) (victim i (log_of w) n)
      go (inl low) = takes_early (omega (arith, low, e.was.kept.fronts.from))
      go (inr past) = takes_copy past

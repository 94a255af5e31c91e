-- What is kept where a reset is noted, where a line is opened, and where one is freed.
use Rattle.std.proofs.Common.{None, Option, Some, ap, arith, inl, inr, refl, subst, suc, sym, ℕ, ◌*◌, ◌+◌, ◌-◌, ◌<◌, ◌∙◌, ◌≡◌, ◌≤◌, ◌⊎◌}
use Rattle.std.proofs.lemmas.Bool.{cases_lt}
use Rattle.pblk_model.specs.Image.{Image}
use Rattle.pblk_model.specs.StartRecord.{StartRecord}
use Rattle.pblk_model.specs.declared.chunk.Mark.{Mark}
use Rattle.pblk_world.specs.AtRest.{logs_at}
use Rattle.pblk_world.specs.EngineLog.{taken_by}
use Rattle.pblk_world.specs.Events.{Decides, Entry, Event, Free, Logged, Open, ResetDone}
use Rattle.pblk_world.specs.Space.{full_data, open_addresses}
use Rattle.pblk_world.specs.Victims.{engine_prefix, live, victim}
use Rattle.pblk_world.specs.World.{World, log_of}
use Rattle.room_law.specs.Counting.{Victim, at_work, live_of}
use Rattle.room_law.proofs.Stripes.{times}
use Rattle.world_laws.proofs.ToldTables.{open_told}
use Rattle.rest_laws.specs.Copies.{TookCopy}
use Rattle.rest_laws.specs.RoomRuns.{IsVictimOf}
use Rattle.rest_laws.specs.RoomSteps.{free_lines, stripes_left, unreset_chunks, unreset_lines}
use Rattle.rest_laws.proofs.BegunInTurn.{within as begun_within}
use Rattle.rest_laws.proofs.FreedVictims.{none_live}
use Rattle.rest_laws.proofs.RunLogs.{told_of_length}
use Rattle.rest_laws.proofs.RunNumbers as numbers
use Rattle.rest_laws.proofs.RunNumbers.{AreNumbers}
use Rattle.settle_laws.proofs.Freed.{freed_placed}
use Rattle.settle_laws.proofs.Kept.{AreNumbersAt, IsKept, NoneFreed, are_sizes, early_end, kept_at, none_freed_now, sizes_from, victim_works, within_at}
use Rattle.settle_laws.proofs.KeptEvents.{IsKeptBefore, KeepsVictim, are_before, before, chunks_same, done_more, done_same, earlier, goes_on, inside, some, stripes_same, victim_kept}
use Rattle.settle_laws.proofs.Steps as steps
use Rattle.settle_laws.proofs.SumSteps as sums
use Rattle.settle_laws.proofs.Sums.{Kept}

module _ {i : Image} {w : World} {at : ℕ → ℕ} {from total n : ℕ} {l : Logged} (e : IsKeptBefore i w at from total n l) where
  -- ---- a reset is noted

  pub resets : (unit number : ℕ) → l.event ≡ Decides (ResetDone unit number) → IsKept i w at from total (suc n) (victim i (log_of w) n)
  resets unit number its = go (numbers.reset i w e.q.is n (some e) l e.there _ _ _ _ _ (are_before e) unit number its)
    where
      fewer : unreset_chunks i (engine_prefix n (log_of w)) ≡ unreset_chunks i (engine_prefix (suc n) (log_of w)) + 1
      fewer = steps.chunk_less i w e.q.is n (some e) l e.there unit number its

      -- with so many lines Free and to be reset
      now : {free resetting : ℕ} → Kept (sizes_from i w from) (early_end w from) total e.was.c (record (before e) {
        done = (before e).done + 1;
        chunks = unreset_chunks i (engine_prefix (suc n) (log_of w));
        free = free;
        resetting = resetting;
      }) → AreNumbers i (engine_prefix (suc n) (log_of w)) (before e).left free resetting (before e).placed (before e).taken
          → IsKept i w at from total (suc n) (victim i (log_of w) n)
      now k others =
          goes_on e (ResetDone unit number) its refl (ap taken_by its) k (record {
            done = done_more e (ResetDone unit number) its refl;
            stripes = stripes_same e (ResetDone unit number) its refl;
            chunks = refl;
            others = others;
          }) refl refl (omega arith) e.was.left_low

      go : AreNumbers i (engine_prefix (suc n) (log_of w)) (before e).left (before e).free (before e).resetting (before e).placed (before e).taken
          ⊎ ((1 ≤ (before e).resetting) × AreNumbers i (engine_prefix (suc n) (log_of w)) (before e).left ((before e).free + 1) ((before e).resetting - 1)
          (before e).placed (before e).taken) → IsKept i w at from total (suc n) (victim i (log_of w) n)
      go (inl others) =
          now (sums.one_less (are_sizes e.q) e.was.kept (before e).stripes (unreset_chunks i (engine_prefix (suc n) (log_of w))) (omega (arith, fewer))) others
      go (inr (one, others)) =
          now (sums.line_reset (are_sizes e.q) e.was.kept (unreset_chunks i (engine_prefix (suc n) (log_of w))) fewer one) others

  -- ---- a line is opened

  pub opens : (line : ℕ) (start : StartRecord) → l.event ≡ Decides (Open line start) → IsKept i w at from total (suc n) (victim i (log_of w) n)
  opens line start its =
      goes_on e (Open line start) its refl (ap taken_by its) (sums.opened (are_sizes e.q) e.was.kept moved.0 within) (record {
        done = done_more e (Open line start) its refl;
        stripes = sym (steps.stripes_opened i w e.q.is n (some e) l e.there line start its);
        chunks = chunks_same e (Open line start) its refl;
        others = moved.1;
      }) refl refl (omega arith) (omega (arith, full))
    where
      full : (before e).left ≡ 0
      full = sym (open_told i (engine_prefix n (log_of w)) (logs_at n (log_of w)) (told_of_length i w n e.q.is.mount.legal (omega (arith, inside e))))
          ∙ (e.q.is.opened_full.each n l.knows line start (e.there ∙ ap (λ (x : Event). Some (record { event = x; knows = l.knows })) its)).full

      moved : (1 ≤ (before e).free)
          × AreNumbers i (engine_prefix (suc n) (log_of w)) ((before e).left + full_data i.shape) ((before e).free - 1) (before e).resetting
          (before e).placed (before e).taken
      moved = numbers.opened i w e.q.is n (some e) l e.there _ _ _ _ _ (are_before e) line start its

      within : (before e).left + full_data i.shape + full_data i.shape * ((before e).free - 1 + (before e).resetting) + full_data i.shape
          ≤ (sizes_from i w from).most
      within =
          let all : full_data i.shape * ((before e).free - 1 + (before e).resetting)
          ≡ full_data i.shape * (free_lines i (engine_prefix (suc n) (log_of w)) + unreset_lines i (engine_prefix (suc n) (log_of w))) =
          times (full_data i.shape) _ _ (omega (arith, moved.1.free_is, moved.1.resetting_is)) in
          omega (arith, within_at i w from (suc n) (omega (arith, moved.1.left_is, full)), all, moved.1.left_is)

  -- ---- a line is freed

  module _ (line : ℕ) (its : l.event ≡ Decides (Free line)) where
    moved : AreNumbers i (engine_prefix (suc n) (log_of w)) (before e).left (before e).free ((before e).resetting + 1) (before e).placed (before e).taken
    moved = numbers.freed i w e.q.is n (some e) l e.there _ _ _ _ _ (are_before e) line its

    low : open_addresses i (engine_prefix (suc n) (log_of w)) ≤ open_addresses i (engine_prefix from (log_of w)) + full_data i.shape
    low = omega (arith, e.was.left_low, moved.left_is)

    within : (before e).left + full_data i.shape * ((before e).free + ((before e).resetting + 1)) + full_data i.shape ≤ (sizes_from i w from).most
    within =
        let all : full_data i.shape * ((before e).free + ((before e).resetting + 1))
        ≡ full_data i.shape * (free_lines i (engine_prefix (suc n) (log_of w)) + unreset_lines i (engine_prefix (suc n) (log_of w))) =
        times (full_data i.shape) _ _ (omega (arith, moved.free_is, moved.resetting_is)) in
        omega (arith, within_at i w from (suc n) low, all, moved.left_is)

    -- the numbers after it, but for the victim's
    numbers_after : (v : Option Victim) → AreNumbersAt i w (suc n) (record (before e) {
      stripes = stripes_left i (engine_prefix (suc n) (log_of w));
      chunks = unreset_chunks i (engine_prefix (suc n) (log_of w));
      resetting = (before e).resetting + 1;
      working = at_work v;
      live = live_of v;
    })
    numbers_after v = record { done = done_same e (Free line) its refl; stripes = refl; chunks = refl; others = moved }

    pub frees_other : (victim i (log_of w) n ≡ Some line → ⊥) → IsKept i w at from total (suc n) (victim i (log_of w) n)
    frees_other apart = record {
      c = record e.was.c { waiting = 1; coming = 1 };
      v = e.was.v;
      kept = kept_at e.was.v (sums.other_freed (are_sizes e.q) e.was.kept (stripes_left i (engine_prefix (suc n) (log_of w)))
          (unreset_chunks i (engine_prefix (suc n) (log_of w))) (steps.stripes_freed i w e.q.is n (some e) l e.there line its)
          (steps.chunks_freed i w e.q.is n (some e) l e.there line its) within) (numbers_after e.was.v) refl refl;
      at_it = victim_kept e (ap taken_by its) kept;
      left_low = low;
      waits = λ m entry mark took past less above. inr (omega arith);
      comes = λ m entry mark took past more upto. inr (omega arith);
    }
      where
        kept : KeepsVictim e
        kept other frees_it works =
            let one : Decides (Free line) ≡ Decides (Free other) = sym its ∙ frees_it in
            let alike_ : line ≡ other = cc in
            apart (works ∙ ap (λ m. Some m) (sym alike_))

    pub frees_victim : victim i (log_of w) n ≡ Some line → IsKept i w at from total (suc n) None
    frees_victim works = record {
      c = e.was.c;
      v = None;
      kept = kept_at None (sums.victim_freed (are_sizes e.q) e.was.kept (stripes_left i (engine_prefix (suc n) (log_of w)))
          (unreset_chunks i (engine_prefix (suc n) (log_of w))) (steps.stripes_freed i w e.q.is n (some e) l e.there line its)
          (steps.chunks_freed i w e.q.is n (some e) l e.there line its) (omega (arith, its_victim.0))
          (its_victim.1 ∙ none_live i w e.q.is.mount e.q.is.none_lost n l e.there line works its) within) (numbers_after None) refl refl;
      at_it = tt;
      left_low = low;
      waits = λ m entry mark took past less above.
          let early = earlier e (ap taken_by its) m entry mark took less in
          absurd (omega (arith, (placed m entry mark took past (omega (arith, begun_by m entry mark took, early))).1, above, moved.placed_is));
      comes = λ m entry mark took past more upto. came m entry mark took past more upto (cases_lt n (at m));
    }
      where
        its_victim : (at_work e.was.v ≡ 1) × (live_of e.was.v ≡ live i (engine_prefix n (log_of w)) line)
        its_victim = victim_works i (engine_prefix n (log_of w)) line e.was.v
            (subst (λ o. IsVictimOf i (engine_prefix n (log_of w)) o e.was.v) works e.was.at_it)

        begun_by : (m : ℕ) (entry : Entry) (mark : Mark) → TookCopy (log_of w 0) m entry mark → at m ≤ m
        begun_by m entry mark took = begun_within i w e.q.is.mount at e.q.turns m entry mark took

        placed : (m : ℕ) (entry : Entry) (mark : Mark) → TookCopy (log_of w 0) m entry mark → early_end w from ≤ entry.position → at m ≤ n
            → (m < n) × (entry.position < (before e).placed)
        placed m entry mark took past begun =
            freed_placed i w e.q.is.mount e.q.is.none_lost n l e.there line works its from e.q.first e.q.quiet at e.q.turns m entry mark took
            (omega (arith, past)) begun

        came : (m : ℕ) (entry : Entry) (mark : Mark) → TookCopy (log_of w 0) m entry mark → early_end w from ≤ entry.position → suc n ≤ m
            → at m ≤ suc n → (n < at m) ⊎ (at m ≤ n) → NoneFreed w (at m) (suc n) e.was.c.coming
        came m entry mark took past more upto (inl now) = none_freed_now w (at m) (suc n) e.was.c.coming (omega arith)
        came m entry mark took past more upto (inr then_) = absurd (omega (arith, (placed m entry mark took past then_).0, more))

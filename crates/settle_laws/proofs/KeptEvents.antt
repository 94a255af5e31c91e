-- An event of a quiet mount: what is kept before it, and what of it stays after an event that frees
-- no line and takes no entry.
use Rattle.std.proofs.Common.{None, Some, ap, arith, false, inl, inr, length, refl, subst, suc, sym, take, true, ℕ, ◌+◌, ◌<◌, ◌∙◌, ◌≡◌, ◌≤◌, ◌⊎◌}
use Rattle.std.specs.Prelude.{slice_get}
use Rattle.std.proofs.lemmas.Bool.{cases_lt}
use Rattle.std.proofs.lemmas.Option.{none-some, same_Some, slice_get_within}
use Rattle.pblk_model.specs.Image.{Image}
use Rattle.pblk_model.specs.declared.chunk.Mark.{Mark}
use Rattle.pblk_model.proofs.Tests.{not_both}
use Rattle.pblk_world.specs.EngineLog.{taken_by}
use Rattle.pblk_world.specs.Events.{Decides, EngineEvent, Entry, Free, Logged, Take}
use Rattle.pblk_world.specs.LegalMounts.{decides, is_freeing}
use Rattle.pblk_world.specs.Space.{full_data, open_addresses, placed_front}
use Rattle.pblk_world.specs.Victims.{engine_prefix, victim}
use Rattle.pblk_world.specs.World.{World, log_of}
use Rattle.core_laws.specs.OpenAddresses.{keeps_addresses, keeps_placed}
use Rattle.rest_laws.specs.Copies.{TookCopy}
use Rattle.rest_laws.specs.RoomRuns.{IsVictimOf}
use Rattle.rest_laws.specs.RoomSteps.{keeps_free, keeps_room, keeps_unreset, stripes_left, unreset_chunks}
use Rattle.rest_laws.proofs.RunNumbers as numbers
use Rattle.rest_laws.proofs.RunNumbers.{AreNumbers}
use Rattle.rest_laws.proofs.UnderWay.{victim_still}
use Rattle.rest_laws.specs.Work.{is_work, work_of}
use Rattle.settle_laws.proofs.Counts.{frees, one_if}
use Rattle.settle_laws.proofs.Kept.{AreNumbersAt, Comes, IsKept, IsQuietMount, NoneFreed, Waits, early_end, kept_at, none_freed_now, none_freed_then, numbers_at, sizes_from}
use Rattle.settle_laws.proofs.Steps as steps
use Rattle.settle_laws.proofs.Unfreed.{as_they_are}
use Rattle.settle_laws.proofs.Sums.{Kept, Numbers}

-- an event at such a length, and what is kept before it
pub record IsKeptBefore (i : Image) (w : World) (at : ℕ → ℕ) (from total n : ℕ) (l : Logged) : Type 0 where
  pub q : IsQuietMount i w at from
  pub late : from ≤ n
  pub there : slice_get (log_of w 0) n ≡ Some l
  pub was : IsKept i w at from total n (victim i (log_of w) n)

module _ {i : Image} {w : World} {at : ℕ → ℕ} {from total n : ℕ} {l : Logged} (e : IsKeptBefore i w at from total n l) where
  pub some : 0 < n
  some = omega (arith, e.q.first, e.late)

  pub inside : n < length (log_of w 0)
  inside = slice_get_within (log_of w 0) n l e.there

  -- the numbers before it
  abbrev pub before : Numbers
  before = numbers_at i w n e.was.v

  pub are_before : AreNumbers i (engine_prefix n (log_of w)) before.left before.free before.resetting before.placed before.taken
  are_before = as_they_are i w e.q.is n some l e.there

  -- ---- copies that wait and the one that is under way

  -- an event that frees no line
  pub frees_same : (d : EngineEvent) → l.event ≡ Decides d → is_freeing d ≡ false → frees (take (suc n) (log_of w 0)) ≡ frees (take n (log_of w 0))
  frees_same d its none =
      let next = steps.frees_next i w e.q.is n some l e.there d its in
      let zero_more : one_if (is_freeing d) ≡ 0 = ap (λ b. one_if b) none in
      omega (arith, next, zero_more)

  not_this : taken_by l.event ≡ None → (entry : Entry) (mark : Mark) → TookCopy (log_of w 0) n entry mark → ⊥
  not_this none entry mark took =
      let one : l ≡ record { event = Decides (Take entry mark); knows = took.knows } =
      same_Some l (record { event = Decides (Take entry mark); knows = took.knows }) (sym e.there ∙ took.there) in
      none-some (record { entry = entry; mark = mark }) (sym none ∙ ap (λ (y : Logged). taken_by y.event) one)

  -- a copy that was taken by the end of an event that takes none was taken before it
  pub earlier : taken_by l.event ≡ None → (m : ℕ) (entry : Entry) (mark : Mark) → TookCopy (log_of w 0) m entry mark → m < suc n → m < n
  earlier none m entry mark took less = go (cases_lt m n)
    where
      go : (m < n) ⊎ (n ≤ m) → m < n
      go (inl low) = low
      go (inr high) =
          let equal : m ≡ n = omega arith in
          absurd (not_this none entry mark (subst (λ k. TookCopy (log_of w 0) k entry mark) equal took))

  waits_kept : taken_by l.event ≡ None → frees (take (suc n) (log_of w 0)) ≡ frees (take n (log_of w 0))
      → before.placed ≤ placed_front i.shape (take (suc n) (log_of w 0)) → Waits i w at from (suc n) e.was.c.waiting
  waits_kept none alike_ rises m entry mark took past less above =
      none_freed_then w (at m) n (suc n) e.was.c.waiting e.was.c.waiting alike_ (omega arith)
      (e.was.waits m entry mark took past (earlier none m entry mark took less) (omega (arith, rises, above)))

  pub comes_kept : frees (take (suc n) (log_of w 0)) ≡ frees (take n (log_of w 0)) → Comes w at from (suc n) e.was.c.coming
  comes_kept alike_ m entry mark took past more upto = go (cases_lt n (at m))
    where
      go : (n < at m) ⊎ (at m ≤ n) → NoneFreed w (at m) (suc n) e.was.c.coming
      go (inl now) = none_freed_now w (at m) (suc n) e.was.c.coming (omega arith)
      go (inr then_) =
          none_freed_then w (at m) n (suc n) e.was.c.coming e.was.c.coming alike_ (omega arith) (e.was.comes m entry mark took past (omega arith) then_)

  -- ---- the victim at work

  -- it stays, unless it is freed
  abbrev pub KeepsVictim : Type 0
  KeepsVictim = (line : ℕ) → l.event ≡ Decides (Free line) → victim i (log_of w) n ≡ Some line → ⊥

  pub kept_by : (d : EngineEvent) → l.event ≡ Decides d → is_freeing d ≡ false → KeepsVictim
  kept_by d its none other frees_it works =
      not_both (decides is_freeing l.event) (ap (decides is_freeing) frees_it) (ap (decides is_freeing) its ∙ none)

  pub victim_kept : taken_by l.event ≡ None → KeepsVictim → IsVictimOf i (engine_prefix (suc n) (log_of w)) (victim i (log_of w) n) e.was.v
  victim_kept none kept = victim_still i w e.q.is at e.q.turns n some l e.there none kept (victim i (log_of w) n) refl e.was.v e.was.at_it

  -- ---- pieces of work

  pub done_same : (d : EngineEvent) → l.event ≡ Decides d → is_work d ≡ false → before.done ≡ work_of (take (suc n) (log_of w 0))
  done_same d its none =
      let next = steps.done_next i w e.q.is n some l e.there d its in
      let zero_more : one_if (is_work d) ≡ 0 = ap (λ b. one_if b) none in
      omega (arith, next, zero_more)

  pub done_more : (d : EngineEvent) → l.event ≡ Decides d → is_work d ≡ true → before.done + 1 ≡ work_of (take (suc n) (log_of w 0))
  done_more d its one =
      let next = steps.done_next i w e.q.is n some l e.there d its in
      let one_more_ : one_if (is_work d) ≡ 1 = ap (λ b. one_if b) one in
      omega (arith, next, one_more_)

  -- ---- stripes that are still to get, and chunks that are to be reset

  pub stripes_same : (d : EngineEvent) → l.event ≡ Decides d → keeps_addresses d ≡ true → before.stripes ≡ stripes_left i (engine_prefix (suc n) (log_of w))
  stripes_same d its keeps = sym (steps.stripes_kept i w e.q.is n some l e.there d its keeps)

  pub chunks_same : (d : EngineEvent) → l.event ≡ Decides d → keeps_unreset d ≡ true → before.chunks ≡ unreset_chunks i (engine_prefix (suc n) (log_of w))
  chunks_same d its keeps = sym (steps.chunks_kept i w e.q.is n some l e.there d its keeps)

  -- ---- an event that takes no entry and frees no line

  -- what is kept of these numbers with the same credits and victim is kept after it
  pub goes_on : (d : EngineEvent) → l.event ≡ Decides d → is_freeing d ≡ false → taken_by l.event ≡ None → {y : Numbers}
      → Kept (sizes_from i w from) (early_end w from) total e.was.c y → AreNumbersAt i w (suc n) y → y.working ≡ before.working → y.live ≡ before.live
      → before.placed ≤ y.placed → y.left ≤ open_addresses i (engine_prefix from (log_of w)) + full_data i.shape
      → IsKept i w at from total (suc n) (victim i (log_of w) n)
  goes_on d its stands none {y} k are works lives rises low = record {
    c = e.was.c;
    v = e.was.v;
    kept = kept_at e.was.v k are works lives;
    at_it = victim_kept none (kept_by d its stands);
    left_low = omega (arith, low, are.others.left_is);
    waits = waits_kept none (frees_same d its stands) (omega (arith, rises, are.others.placed_is));
    comes = comes_kept (frees_same d its stands);
  }

  -- one that changes nothing
  pub unmoved : (d : EngineEvent) → l.event ≡ Decides d → is_freeing d ≡ false → taken_by l.event ≡ None → is_work d ≡ false → keeps_room d ≡ true
      → keeps_free d ≡ true → keeps_unreset d ≡ true → keeps_placed d ≡ true → keeps_addresses d ≡ true
      → IsKept i w at from total (suc n) (victim i (log_of w) n)
  unmoved d its stands none rests room_kept free_kept unreset_kept placed_kept stripes_kept =
      goes_on d its stands none e.was.kept (record {
        done = done_same d its rests;
        stripes = stripes_same d its stripes_kept;
        chunks = chunks_same d its unreset_kept;
        others = numbers.quiet i w e.q.is n some l e.there _ _ _ _ _ are_before d its room_kept free_kept unreset_kept placed_kept;
      }) refl refl (omega arith) e.was.left_low

-- What the answers of a thread say of its port as a whole.
use Rattle.std.proofs.Common.{ℕ, ◌≤◌, ◌≡◌, ⊎_elim, true, false, nat_lt, List, [], ◌∷◌, ◌++◌, sym, refl, ◌∙◌, arith}
use Rattle.std.specs.List.{AllByRecursion}
use Rattle.std.proofs.lemmas.Bool.{cases_Bool}
use Rattle.std.proofs.lemmas.List.{append-nil}
use Rattle.pblk_model.specs.declared.script.Command.{Command}
use Rattle.pblk_model.specs.declared.script.Command.TheVariants.{Write, Read, Flush, Post, Await}
use Rattle.pblk_model.specs.History.{users}
use Rattle.block_port.specs.Own.{PlacedSector}
use Rattle.block_port.specs.Port.{ModelPort, IsSameTarget, Learns, positions}
use Rattle.run_threads.specs.declared.records.Answer.{Answer}
use Rattle.run_threads.specs.declared.records.Answer.TheVariants as answers
use Rattle.run_threads.specs.Run.{Says, IsFlushed, Runs, WasRun}
use Rattle.run_threads.proofs.RunLemmas.{run_faults, run_learns, run_own, run_worns}

-- Knowing more.

learns_nothing : (old : ModelPort) → Learns old old
learns_nothing old = record { more = []; known = sym (append-nil old.known); rise = omega arith; flushed = omega arith }

target_more : (old mid new : ModelPort) → IsSameTarget old mid → IsSameTarget mid new → IsSameTarget old new
target_more old mid new h k = record {
  start = k.start ∙ h.start;
  capacity = k.capacity ∙ h.capacity;
  sector = k.sector ∙ h.sector;
  footing = k.footing ∙ h.footing;
}

-- A whole thread.

pub run_target : (told : List ℕ → ℕ) (cs : List Command) (rows : List Answer) (old new : ModelPort) → Runs told old cs rows new → IsSameTarget old new
run_target told [] [] old new h = rw h (record { start = refl; capacity = refl; sector = refl; footing = refl })
run_target told [] (a ∷ rows) old new h = absurd h
run_target told (c ∷ cs) [] old new h = absurd h
run_target told (c ∷ cs) (a ∷ rows) old new h = target_more old h.0 new h.1.target (run_target told cs rows h.0 new h.2)

-- Fronts.

fewer : (p : ℕ) (xs ys : List PlacedSector) → users (positions xs) p ≤ users (positions (xs ++ ys)) p
fewer p [] ys = omega arith
fewer p (x ∷ xs) ys =
    let later = fewer p xs ys in
    ⊎_elim (λ (h : nat_lt x.position p ≡ true). rw h (omega (arith, later))) (λ (h : nat_lt x.position p ≡ false). rw h later)
    (cases_Bool (nat_lt x.position p))

-- a flush's front stays on the drive
flushed_after : (told : List ℕ → ℕ) (old mid new : ModelPort) (c : Command) (a : Answer) → Says told old c a mid → Learns mid new → IsFlushed new a
flushed_after told old mid new Flush (answers.Synced front) h l =
    let more = fewer front.position mid.known l.more in
    (omega (arith, h.1, l.flushed), rw (h.0.is.users, l.known) more)
flushed_after told old mid new (Write lba count tag) (answers.Synced front) h l = absurd h
flushed_after told old mid new (Read lba count) (answers.Synced front) h l = absurd h
flushed_after told old mid new (Post name) (answers.Synced front) h l = absurd h
flushed_after told old mid new (Await name) (answers.Synced front) h l = absurd h
flushed_after told old mid new c (answers.Placed place) h l = tt
flushed_after told old mid new c (answers.Words front words) h l = tt
flushed_after told old mid new c answers.Done h l = tt
flushed_after told old mid new c answers.Range h l = tt
flushed_after told old mid new c (answers.Refused trouble) h l = tt

pub run_flushed : (told : List ℕ → ℕ) (cs : List Command) (rows : List Answer) (old new : ModelPort) → Runs told old cs rows new
    → AllByRecursion (IsFlushed new) rows
run_flushed told [] [] old new h = tt
run_flushed told [] (a ∷ rows) old new h = absurd h
run_flushed told (c ∷ cs) [] old new h = absurd h
run_flushed told (c ∷ cs) (a ∷ rows) old new h =
    (flushed_after told old h.0 new c a h.1.says (run_learns told cs rows h.0 new h.2), run_flushed told cs rows h.0 new h.2)

pub was_run : (told : List ℕ → ℕ) (cs : List Command) (rows : List Answer) (old new : ModelPort) → Runs told old cs rows new → WasRun told cs rows old new
was_run told cs rows old new h = record {
  runs = h;
  own = run_own told cs rows old new h;
  faults = run_faults told cs rows old new h;
  worns = run_worns told cs rows old new h;
  flushed = run_flushed told cs rows old new h;
  learns = run_learns told cs rows old new h;
  target = run_target told cs rows old new h;
}

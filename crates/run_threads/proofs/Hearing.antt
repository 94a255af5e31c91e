-- An await hears what was told.
use Rattle.std.proofs.Common.{ℕ, ◌≡◌, List, [], max, sym, refl, ap, arith}
use Rattle.std.proofs.lemmas.List.{append-nil}
use Rattle.block_port.specs.Port.{ModelPort}
use Rattle.pblk_model.specs.declared.script.Command.TheVariants.{Await}
use Rattle.run_threads.specs.declared.records.Answer.TheVariants.{Done}
use Rattle.run_threads.specs.Run.{Answers}

pub hears : (told : List ℕ → ℕ) (old new : ModelPort) (name : List ℕ) (position : ℕ) → told name ≡ position
    → new ≡ record old { seen = max old.seen position } → Answers told old (Await name) Done new
hears told old new name position is h = rw h (record {
  says = ap (λ (n : ℕ). record old { seen = max old.seen n }) (sym is);
  own = sym (append-nil old.own);
  faults = sym (append-nil old.faults);
  worns = sym (append-nil old.worns);
  learns = record { more = []; known = sym (append-nil old.known); rise = omega arith; flushed = omega arith };
  target = record { start = refl; capacity = refl; sector = refl; footing = refl };
})

-- A stripe that a unit programmed at its turn: what its arm knows then is what the engine asks for.
use Rattle.std.proofs.Common.{◌≡◌, ℕ, suc, ◌+◌, ◌<◌, ◌≤◌, ◌++◌, List, [], ◌∷◌, length, take, refl, sym, subst, ap, ◌∙◌, arith, le_trans, length-append}
use Rattle.std.specs.Prelude.{slice_get}
use Rattle.std.proofs.Math.Seq.{take-append_seam}
use Rattle.std.proofs.lemmas.List.{length-set}
use mathlib.Core.List.{IsPrefix}
use Rattle.pblk_model.specs.ChunkStep.{Write}
use Rattle.pblk_model.specs.Image.{Image}
use Rattle.pblk_model.specs.Shape.{units}
use Rattle.pblk_model.specs.UnitLog.{UnitEvent}
use Rattle.pblk_model.proofs.Parts.{get_last, take-all}
use Rattle.pblk_world.specs.Commanding.{ended_stripes}
use Rattle.pblk_world.specs.Events.{Does, Logged, Maker}
use Rattle.pblk_world.specs.World.{known}
use Rattle.pblk_core.specs.Filling.{Filling}
use Rattle.chronicle.specs.Prefixes.{Prefixes, AreLegalLogs, ArePrefixes, logs_of, naming, with_event}
use Rattle.chronicle.proofs.PrefixLemmas.{named_length, others_same, own_more}
use Rattle.pblk_engine.specs.Answers.{IsLastProgram}
use Rattle.pblk_engine.specs.Arms.{ArmView}
use Rattle.pblk_engine.specs.Deeds.{HasProgrammed, event_of}
use Rattle.pblk_engine.specs.Placements.{IsPlacedAs}
use Rattle.pblk_engine.specs.Stops.{stop_count}
use Rattle.pblk_engine.specs.Workers.{WorkerView}
use Rattle.pblk_engine.specs.declared.commands.Ended.{Ended}
use Rattle.pblk_engine.proofs.PlacedAs.{placed_still}
use Rattle.pblk_engine.proofs.Stops.{count_grows}

-- `engine` is what the engine knew once it had placed the stripe, and what the arm was told. The
-- stripe is placed on one of the drive's units.
module _ (i : Image) (engine before : Prefixes) (old new : ArmView) (was now : WorkerView) (how : Ended) (stops : ℕ)
    (legal : AreLegalLogs i new.known) (inside : was.stripe.stripe.unit < units i.shape) (unit : was.stripe.stripe.unit ≡ old.number)
    (placed : IsPlacedAs (logs_of engine 0) was.stripe) (counted : stops ≤ stop_count (logs_of engine 0) was.stripe.stripe.unit)
    (learns : ArePrefixes engine new.known) (is : HasProgrammed old new was now before how) where
  abbrev f : Filling
  f = was.stripe

  abbrev maker : Maker
  maker = record { worker = was.number; made = length was.made }

  abbrev done : UnitEvent
  done = event_of f.stripe.chunk (Write f.stripe.at f.stripe.blocks) is.done.outcome

  abbrev logged : Logged
  logged = naming before (Does done maker)

  known_then : new.known ≡ with_event before (suc f.stripe.unit) (Does done maker)
  known_then = is.done.known ∙ ap (λ n. with_event before (suc n) (Does done maker)) (sym unit)

  many : length before ≡ units i.shape + 1
  many = sym (length-set before (suc f.stripe.unit) _) ∙ ap (λ (known : Prefixes). length known) (sym known_then) ∙ legal.authors

  own : logs_of new.known (suc f.stripe.unit) ≡ logs_of before (suc f.stripe.unit) ++ logged ∷ []
  own = ap (λ (known : Prefixes). logs_of known (suc f.stripe.unit)) known_then
      ∙ own_more before (suc f.stripe.unit) (Does done maker) (let n : length before ≡ units i.shape + 1 = many in omega arith)

  engines : logs_of new.known 0 ≡ logs_of before 0
  engines = ap (λ (known : Prefixes). logs_of known 0) known_then
      ∙ others_same before (suc f.stripe.unit) (Does done maker) 0 (λ same. let no : 0 ≡ suc f.stripe.unit = same in absurd (omega arith))

  -- what the event knew of the engine's log is all that the arm knew of it
  knew : take (known logged 0) (logs_of new.known 0) ≡ logs_of before 0
  knew = ap (λ (log : List Logged). take (known logged 0) log) engines
      ∙ ap (λ n. take n (logs_of before 0)) (named_length before (Does done maker) 0) ∙ take-all (logs_of before 0)

  -- and that goes on from what the engine knew
  goes_on : IsPrefix (logs_of engine 0) (logs_of before 0)
  goes_on = subst (IsPrefix (logs_of engine 0)) engines (learns.each 0)

  pub answers_for : IsLastProgram new.known was.stripe how stops
  answers_for = record {
    number = length (logs_of before (suc f.stripe.unit));
    last = ap (λ (log : List Logged). length log) own ∙ length-append (logs_of before (suc f.stripe.unit)) (logged ∷ []);
    logged = logged;
    there = ap (λ (log : List Logged). slice_get log (length (logs_of before (suc f.stripe.unit)))) own
        ∙ get_last (logs_of before (suc f.stripe.unit)) logged;
    outcome = is.done.outcome;
    tells = is.done.told;
    maker = maker;
    event = refl;
    placed = subst (λ (log : List Logged). IsPlacedAs log f) (goes_on.1 ∙ sym knew) (placed_still (logs_of engine 0) goes_on.0 f placed);
    turn = ap (λ (log : List Logged). ended_stripes (take (length (logs_of before (suc f.stripe.unit))) log)) own
        ∙ ap ended_stripes (take-append_seam (logs_of before (suc f.stripe.unit)) (logged ∷ []))
        ∙ ap (λ n. ended_stripes (logs_of before (suc n))) unit ∙ is.turn;
    noted = subst (λ (log : List Logged). stops ≤ stop_count log f.stripe.unit) (goes_on.1 ∙ sym knew)
        (le_trans counted (count_grows (logs_of engine 0) goes_on.0 f.stripe.unit));
  }

-- A command that an arm notes: what the engine has noted of resets stays, and its worker knows it.
use Rattle.std.proofs.Common.{◌≡◌, ◌≢◌, ⊎_elim, ℕ, suc, ◌+◌, ◌-◌, true, Some, List, [], ◌∷◌, ◌++◌, length, length-append, refl, sym, subst, ap, ap₂, ◌∙◌, arith}
use Rattle.std.specs.Prelude.{slice_get}
use Rattle.std.proofs.Math.Path.{fun_ext}
use Rattle.std.proofs.lemmas.Bool.{cases_eq}
use Rattle.std.proofs.lemmas.Option.{same_Some}
use Rattle.pblk_model.specs.Image.{Image}
use Rattle.pblk_model.specs.UnitLog.{UnitEvent}
use Rattle.pblk_world.specs.AtRest.{AreResetsNoted}
use Rattle.pblk_world.specs.Commanding.{is_reset, was_stopped}
use Rattle.pblk_world.specs.Events.{Does, Logged, Maker, Step}
use Rattle.pblk_world.specs.World.{World, Logs, log_of}
use Rattle.pblk_world.proofs.Growing.{at_end}
use Rattle.pblk_world.proofs.WorldLemmas.{log_here, log_elsewhere}
use Rattle.pblk_model.proofs.Parts.{get_last, get_more}
use Rattle.world_laws.proofs.NotedResets.{noted_kept}
use Rattle.chronicle.specs.Prefixes.{Prefixes, logs_of, ArePrefixes, AreLegalLogs, naming}
use Rattle.pblk_engine.specs.Workers.{Made, WasMade}

-- the logs with an event at the end of one of them are those of the world with that step
pub step_logs : (w : World) (logs next : Logs) (author : ℕ) (l : Logged) → log_of w ≡ logs → next author ≡ logs author ++ l ∷ []
    → ((other : ℕ) → other ≢ author → next other ≡ logs other) → log_of (record { author = author; logged = l } ∷ w) ≡ next
step_logs w logs next author l is own others =
    let step : Step = record { author = author; logged = l } in
    fun_ext (λ other. ⊎_elim
    (λ (same : other ≡ author). log_here step w other (sym same) ∙ ap (λ a. log_of w a ++ l ∷ []) same ∙ ap (λ (f : Logs). f author ++ l ∷ []) is ∙ sym own
    ∙ ap next (sym same))
    (λ (apart : other ≢ author). log_elsewhere step w other (λ same. apart (sym same)) ∙ ap (λ (f : Logs). f other) is ∙ sym (others other apart))
    (cases_eq other author))

pub noted_next : (i : Image) (known next : Prefixes) (author : ℕ) (e : UnitEvent) (maker : Maker) → AreLegalLogs i known
    → logs_of next author ≡ logs_of known author ++ naming known (Does e maker) ∷ []
    → ((other : ℕ) → other ≢ author → logs_of next other ≡ logs_of known other)
    → (is_reset e.command ≡ true → was_stopped e.outcome ≡ true) → AreResetsNoted (logs_of known) → AreResetsNoted (logs_of next)
noted_next i known next author e maker legal own others stops noted =
    let w : World = legal.world in
    let step : Step = record { author = author; logged = naming known (Does e maker) } in
    subst AreResetsNoted (step_logs w (logs_of known) (logs_of next) author (naming known (Does e maker)) legal.logs own others)
    (noted_kept w step (λ x is. only x is) (subst AreResetsNoted (sym legal.logs) noted))
  where
    only : (x : UnitEvent) → Some e ≡ Some x → is_reset x.command ≡ true → was_stopped x.outcome ≡ true
    only x is = subst (λ (y : UnitEvent). is_reset y.command ≡ true → was_stopped y.outcome ≡ true) (same_Some e x is) stops

-- ---- the worker's commands

pub still_made : (before after : Prefixes) (worker count : ℕ) (m : Made) → ArePrefixes before after → WasMade (logs_of before) worker count m
    → WasMade (logs_of after) worker count m
still_made before after worker count m more was = record {
  logged = was.logged;
  there = subst (λ (xs : List Logged). slice_get xs m.number ≡ Some was.logged) (more.each (suc m.unit)).1
      (get_more (logs_of before (suc m.unit)) (more.each (suc m.unit)).0 m.number was.logged was.there);
  event = was.event;
}

pub made_now : (known next : Prefixes) (number worker count : ℕ) (e : UnitEvent)
    → logs_of next (suc number) ≡ logs_of known (suc number) ++ naming known (Does e (record { worker = worker; made = count })) ∷ []
    → WasMade (logs_of next) worker count (record { unit = number; number = length (logs_of next (suc number)) - 1; event = e })
made_now known next number worker count e own =
    let l : Logged = naming known (Does e (record { worker = worker; made = count })) in
    let long : length (logs_of next (suc number)) ≡ length (logs_of known (suc number)) + 1 =
    ap (λ (xs : List Logged). length xs) own ∙ length-append (logs_of known (suc number)) (l ∷ []) in
    let end : length (logs_of next (suc number)) - 1 ≡ length (logs_of known (suc number)) = omega arith in
    record {
      logged = l;
      there = ap₂ (λ (xs : List Logged) n. slice_get xs n) own end ∙ get_last (logs_of known (suc number)) l;
      event = refl;
    }

-- all of them
pub all_made : (before next after : Prefixes) (worker : ℕ) (made : List Made) (m : Made) → ArePrefixes before after → ArePrefixes next after
    → ((k : ℕ) (x : Made) → slice_get made k ≡ Some x → WasMade (logs_of before) worker k x) → WasMade (logs_of next) worker (length made) m
    → (k : ℕ) (x : Made) → slice_get (made ++ m ∷ []) k ≡ Some x → WasMade (logs_of after) worker k x
all_made before next after worker made m keeps learns each last k x there =
    ⊎_elim (λ (old : slice_get made k ≡ Some x). still_made before after worker k x keeps (each k x old))
    (λ (new : (k ≡ length made) × (m ≡ x)). subst (λ n. WasMade (logs_of after) worker n x) (sym new.0)
    (subst (WasMade (logs_of after) worker (length made)) new.1 (still_made next after worker (length made) m learns last)))
    (at_end made m x k there)

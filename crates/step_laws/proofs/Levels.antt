-- The ended stripes of a unit are as many as its answers: what keeps it.
use Rattle.std.proofs.Common.{◌≡◌, ◌≢◌, ℕ, ◌+◌, ◌<◌, not, nat_lt, suc, true, false, cond, Some, None, Option, List, [], ◌∷◌, ◌++◌, length, refl, sym, subst, ap, ◌∙◌, arith, append-nil, length-append}
use Rattle.std.specs.List.{filter}
use Rattle.std.specs.Option.{option_to_list}
use Rattle.std.proofs.lemmas.List.Elements.{filter-append}
use native.Mathlib.Decide.{ℕ_discrete}
use Rattle.pblk_model.specs.declared.shape.Shape.{Shape}
use Rattle.pblk_model.specs.UnitLog.{UnitEvent}
use Rattle.pblk_model.specs.Image.{Image}
use Rattle.pblk_world.specs.Events.{EngineEvent, Decides, Maker, Logged}
use Rattle.pblk_world.specs.World.{World, log_of, known, knows_engine}
use Rattle.pblk_world.specs.EngineLog.{Answer, answers, answer_by}
use Rattle.pblk_world.specs.Legal.{IsLegal}
use Rattle.pblk_world.specs.Commanding.{is_program, was_stopped, ends_program, ends_stripe, ended_stripes}
use Rattle.step_laws.specs.Whole.{engine_step, unit_step, after_unit, noted, IsLevel}
use Rattle.step_laws.proofs.Knowing.{known_whole}
use Rattle.step_laws.proofs.UnitSteps.{unit_log, other_log, engine_log}
use Rattle.pblk_model.proofs.Tests.{and_both, and_false, lt_true, not_first}
use Rattle.pblk_world.proofs.EngineLogLemmas.{answers_more}
use Rattle.pblk_world.proofs.WorldLemmas.{log_elsewhere, log_here}

-- ---- one event more

ended_more : (log : List Logged) (l : Logged) → ended_stripes (log ++ l ∷ []) ≡ ended_stripes log + length (filter ends_stripe (l ∷ []))
ended_more log l = ap (λ (xs : List Logged). length xs) (filter-append ends_stripe log (l ∷ []))
    ∙ length-append (filter ends_stripe log) (filter ends_stripe (l ∷ []))

one_ended : (l : Logged) → ends_stripe l ≡ true → length (filter ends_stripe (l ∷ [])) ≡ 1
one_ended l e = ap (λ b. length (cond b (l ∷ []) [])) e

none_ended : (l : Logged) → ends_stripe l ≡ false → length (filter ends_stripe (l ∷ [])) ≡ 0
none_ended l e = ap (λ b. length (cond b (l ∷ []) [])) e

-- ---- what the engine does without an answer

pub level_by : (s : Shape) (e : EngineEvent) (w : World) → ((unit : ℕ) → answer_by unit (Decides e) ≡ None) → IsLevel w → IsLevel (engine_step s e w ∷ w)
level_by s e w none level unit =
    ap ended_stripes (log_elsewhere (engine_step s e w) w (suc unit) (λ same. let no : 0 ≡ suc unit = same in absurd (omega arith)))
    ∙ level unit
    ∙ ap (λ (xs : List Answer). length xs)
    (sym (ap (λ (log : List Logged). answers log unit) (log_here (engine_step s e w) w 0 refl)
    ∙ answers_more (log_of w 0) (engine_step s e w).logged unit
    ∙ ap (λ (o : Option Answer). answers (log_of w 0) unit ++ option_to_list o) (none unit)
    ∙ append-nil (answers (log_of w 0) unit)))

-- ---- what a unit does that ends no stripe

-- no program
pub ends_by_command : (e : UnitEvent) → is_program e.command ≡ false → ends_program e ≡ false
ends_by_command e other = not_first (is_program e.command) (not (was_stopped e.outcome)) other

-- one that is stopped
pub ends_by_stop : (e : UnitEvent) → was_stopped e.outcome ≡ true → ends_program e ≡ false
ends_by_stop e stopped = and_false (is_program e.command) (not (was_stopped e.outcome)) (ap not stopped)

ended_still : (s : Shape) (unit : ℕ) (e : UnitEvent) (maker : Maker) (w : World) → ends_program e ≡ false
    → ended_stripes (log_of (unit_step s unit e maker w ∷ w) (suc unit)) ≡ ended_stripes (log_of w (suc unit))
ended_still s unit e maker w ends =
    let l : Logged = (unit_step s unit e maker w).logged in
    let no : ends_stripe l ≡ false = and_false (nat_lt 0 (knows_engine l)) (ends_program e) ends in
    let none : length (filter ends_stripe (l ∷ [])) ≡ 0 = none_ended l no in
    ap ended_stripes (unit_log s unit e maker w) ∙ ended_more (log_of w (suc unit)) l ∙ ap (λ n. ended_stripes (log_of w (suc unit)) + n) none ∙ omega arith

-- at another unit, and at this one
pub level_unit : (s : Shape) (unit : ℕ) (e : UnitEvent) (maker : Maker) (w : World) → ends_program e ≡ false → IsLevel w
    → IsLevel (after_unit s unit e maker w)
level_unit s unit e maker w ends level u = ended (ℕ_discrete u unit) ∙ level u
    ∙ sym (ap (λ (log : List Logged). length (answers log u)) (engine_log s unit e maker w))
  where
    ended : Dec (u ≡ unit) → ended_stripes (log_of (after_unit s unit e maker w) (suc u)) ≡ ended_stripes (log_of w (suc u))
    ended (yes same) =
        subst (λ v. ended_stripes (log_of (after_unit s unit e maker w) (suc v)) ≡ ended_stripes (log_of w (suc v))) (sym same)
        (ended_still s unit e maker w ends)
    ended (no far) = ap ended_stripes (other_log s unit e maker w (suc u) (λ same. let is : suc u ≡ suc unit = same in far (omega arith)))

-- ---- a stripe that ends, and its answer

module _ (i : Image) (w : World) (unit : ℕ) (e : UnitEvent) (maker : Maker) (tells : EngineEvent) (answer : Answer) (legal : IsLegal i w)
    (some : 0 < length (log_of w 0)) (ends : ends_program e ≡ true) (own : answer_by unit (Decides tells) ≡ Some answer)
    (others : (u : ℕ) → u ≢ unit → answer_by u (Decides tells) ≡ None) where
  abbrev mid : World
  mid = after_unit i.shape unit e maker w

  abbrev end_ : World
  end_ = noted i.shape tells mid

  unit_still : (u : ℕ) → log_of end_ (suc u) ≡ log_of mid (suc u)
  unit_still u = log_elsewhere (engine_step i.shape tells mid) mid (suc u) (λ same. let no : 0 ≡ suc u = same in absurd (omega arith))

  answers_now : (u : ℕ) (o : Option Answer) → answer_by u (Decides tells) ≡ o
      → answers (log_of end_ 0) u ≡ answers (log_of w 0) u ++ option_to_list o
  answers_now u o is =
      ap (λ (log : List Logged). answers log u) (log_here (engine_step i.shape tells mid) mid 0 refl
      ∙ ap (λ (log : List Logged). log ++ (engine_step i.shape tells mid).logged ∷ []) (engine_log i.shape unit e maker w))
      ∙ answers_more (log_of w 0) (engine_step i.shape tells mid).logged u
      ∙ ap (λ (o : Option Answer). answers (log_of w 0) u ++ option_to_list o) is

  more_answers : length (answers (log_of end_ 0) unit) ≡ length (answers (log_of w 0) unit) + 1
  more_answers = ap (λ (xs : List Answer). length xs) (answers_now unit (Some answer) own) ∙ length-append (answers (log_of w 0) unit) (answer ∷ [])

  same_answers : (u : ℕ) → u ≢ unit → answers (log_of end_ 0) u ≡ answers (log_of w 0) u
  same_answers u apart = answers_now u None (others u apart) ∙ append-nil (answers (log_of w 0) u)

  ends_now : ended_stripes (log_of mid (suc unit)) ≡ ended_stripes (log_of w (suc unit)) + 1
  ends_now =
      let l : Logged = (unit_step i.shape unit e maker w).logged in
      let knows : known l 0 ≡ length (log_of w 0) = known_whole i w legal 0 in
      let is : ends_stripe l ≡ true = and_both (nat_lt 0 (knows_engine l)) (ends_program e) (lt_true 0 (known l 0) (omega arith)) ends in
      ap ended_stripes (unit_log i.shape unit e maker w) ∙ ended_more (log_of w (suc unit)) l
      ∙ ap (λ n. ended_stripes (log_of w (suc unit)) + n) (one_ended l is)

  level_own : ended_stripes (log_of w (suc unit)) ≡ length (answers (log_of w 0) unit)
      → ended_stripes (log_of end_ (suc unit)) ≡ length (answers (log_of end_ 0) unit)
  level_own level = ap ended_stripes (unit_still unit) ∙ ends_now ∙ ap (λ n. n + 1) level ∙ sym more_answers

  level_other : (u : ℕ) → u ≢ unit → ended_stripes (log_of w (suc u)) ≡ length (answers (log_of w 0) u)
      → ended_stripes (log_of end_ (suc u)) ≡ length (answers (log_of end_ 0) u)
  level_other u apart was =
      ap ended_stripes (unit_still u
      ∙ other_log i.shape unit e maker w (suc u) (λ same. let is : suc u ≡ suc unit = same in apart (omega arith)))
      ∙ was ∙ ap (λ (xs : List Answer). length xs) (sym (same_answers u apart))

  pub level_answered : IsLevel w → IsLevel (noted i.shape tells (after_unit i.shape unit e maker w))
  level_answered all u = go (ℕ_discrete u unit)
    where
      go : Dec (u ≡ unit) → ended_stripes (log_of end_ (suc u)) ≡ length (answers (log_of end_ 0) u)
      go (yes same) = subst (λ v. ended_stripes (log_of end_ (suc v)) ≡ length (answers (log_of end_ 0) v)) (sym same) (level_own (all unit))
      go (no apart) = level_other u apart (all u)

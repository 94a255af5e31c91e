-- What is read as a script, and what is read of one.
use Rattle.std.proofs.Common.{◌≡◌, ◌⊎◌, ◌&&◌, Bool, true, false, inl, inr, ℕ, List, [], ◌∷◌, ◌++◌, map, Option, Some, None, Result, Ok, Err, refl, sym, ap, ◌∙◌, subst}
use Rattle.std.specs.Bool.{nat_lt}
use Rattle.std.specs.Option.{option_map, option_map_or}
use Rattle.pblk_model.specs.declared.script.Command.{Command}
use Rattle.pblk_model.specs.declared.script.ScriptErr.{ScriptErr}
use Rattle.pblk_model.specs.declared.script.ScriptErr.TheVariants as errors
use Rattle.pblk_model.specs.Checks.{first_refusal, unless}
use Rattle.pblk_model.specs.Script.{NeverStuck, ScriptFits}
use Rattle.pblk_model.specs.ScriptText.{Said, Heard, Line, saids, said_in, said_line, placed, line_number, heard_after, then_heard, spoken, threads_of, script_of, unposted, stuck_at, posts_refusal, form_holds, limit_holds, range_holds, read_script, IsScript}
use Rattle.pblk_laws.specs.ScriptLines.{AreLinesOf}
use Rattle.pblk_laws.proofs.ScriptSaids.{script_is, saids_of, said_is, lines_said, unposted_all}
use Rattle.pblk_laws.proofs.ScriptHeard.{AreHeard, lines_heard, heard_bytes, heard_early, IsSound, sound_heard, nothing_sound, sound_fits, read, read_is_spelled, read_is_early, read_fits, spelled_is_read_by}
use Rattle.pblk_laws.proofs.ScriptTurns.{flows_on, times_of}

pub read_lines : (capacity : ℕ) (bytes : List ℕ) (script : List (List Command)) → IsScript capacity bytes script → AreLinesOf bytes script
read_lines capacity bytes script e = record { lines = read_is_spelled capacity bytes script e; early = read_is_early capacity bytes script e }

pub read_flows : (capacity : ℕ) (bytes : List ℕ) (script : List (List Command)) → IsScript capacity bytes script → NeverStuck script
read_flows capacity bytes script e =
    let r = read capacity bytes script e in
    let fits = subst (ScriptFits capacity) (sym r.script_of_heard) (read_fits capacity bytes script e) in
    subst NeverStuck r.script_of_heard (times_of r.heard fits.once r.flows)

pub lines_read : (capacity : ℕ) (bytes : List ℕ) (script : List (List Command)) → AreLinesOf bytes script → ScriptFits capacity script → NeverStuck script
    → IsScript capacity bytes script
lines_read capacity bytes script lines fits never = spelled_is_read_by capacity bytes script lines.lines lines.early fits
    (λ heard made.
    let fits' = subst (ScriptFits capacity) (sym made) fits in
    flows_on heard (subst NeverStuck (sym made) never) fits'.posted)

pub one_script : (capacity : ℕ) (bytes : List ℕ) (a b : List (List Command)) → IsScript capacity bytes a → IsScript capacity bytes b → a ≡ b
one_script capacity bytes a b e k = let both : Ok a ≡ Ok b = sym e ∙ k in cc

-- where threads are refused as stuck, their lines were heard

told_stuck : {A : Type 0} (u k : Option ℕ) (x : A) (line : ℕ)
    → option_map_or Err (first_refusal (option_map errors.NeverPosted u ∷ option_map errors.Stuck k ∷ [])) (Ok x) ≡ Err (errors.Stuck line)
    → (u ≡ None) × (k ≡ Some line)
told_stuck None None x line e = absurd (cc)
told_stuck None (Some n) x line e = (refl, cc)
told_stuck (Some n) k x line e = absurd (cc)

not_stuck : {A : Type 0} (f e l r : Bool) (n line : ℕ) (y : A)
    → option_map_or Err (first_refusal (unless f (errors.Form n) ∷ unless (e && l) (errors.Limit n) ∷ unless r (errors.Range n) ∷ [])) (Ok y) ≡ Err
    (errors.Stuck line) → ⊥
not_stuck false e l r n line y h = cc
not_stuck true false l r n line y h = cc
not_stuck true true false r n line y h = cc
not_stuck true true true false n line y h = cc
not_stuck true true true true n line y h = cc

never_placed : (capacity : ℕ) (before : List Said) (line : Line) (o : Option Said) (n : ℕ) → placed capacity before line o ≡ Err (errors.Stuck n) → ⊥
never_placed capacity before line None n e = cc
never_placed capacity before line (Some said) n e =
    not_stuck (form_holds before said) (nat_lt line.offset 4194304) (limit_holds before said) (range_holds capacity said) (line_number line.number) n
    (line_number line.number, said) e

then_err : {A B : Type 0} (r : Result A ScriptErr) (f : A → Result B ScriptErr) (e : ScriptErr) → then_heard r f ≡ Err e
    → (r ≡ Err e) ⊎ ((x : A) × (r ≡ Ok x) × (f x ≡ Err e))
then_err (Ok x) f e h = inr (x, refl, h)
then_err (Err d) f e h = inl (let same : d ≡ e = cc in ap Err same)

never_heard : (capacity : ℕ) (before : Heard) (lines : List Line) (n : ℕ) → heard_after capacity before lines ≡ Err (errors.Stuck n) → ⊥
unfolding heard_after
never_heard capacity before [] n e = cc
never_heard capacity before (line ∷ lines) n e =
    elim (then_err (placed capacity (saids before) line (said_in line.bytes)) (λ x. heard_after capacity (before ++ x ∷ []) lines) (errors.Stuck n) e) [
      | inl here ↦ never_placed capacity (saids before) line (said_in line.bytes) n here
      | inr later ↦ never_heard capacity (before ++ later.0 ∷ []) lines n later.2
    ]

stuck_heard : (capacity : ℕ) (bytes : List ℕ) (line : ℕ) → read_script capacity bytes ≡ Err (errors.Stuck line)
    → (heard : Heard) × (heard_after capacity [] (spoken bytes) ≡ Ok heard) × (unposted (saids heard) heard ≡ None) × (stuck_at (threads_of heard) ≡ Some line)
stuck_heard capacity bytes line e =
    elim (then_err (heard_after capacity [] (spoken bytes)) (λ heard. option_map_or Err (posts_refusal heard) (Ok (script_of heard))) (errors.Stuck line) e) [
      | inl early ↦ absurd (never_heard capacity [] (spoken bytes) line early)
      | inr w ↦ let told = told_stuck (unposted (saids w.0) w.0) (stuck_at (threads_of w.0)) (script_of w.0) line w.2 in (w.0, w.1, told.0, told.1)
    ]

pub stuck_has_no_times : (capacity : ℕ) (bytes : List ℕ) (line : ℕ) → read_script capacity bytes ≡ Err (errors.Stuck line)
    → (script : List (List Command)) × AreLinesOf bytes script × ScriptFits capacity script × ¬ NeverStuck script
stuck_has_no_times capacity bytes line e =
    let h = stuck_heard capacity bytes line e in
    let all = lines_heard capacity [] (spoken bytes) h.0 h.1 in
    let heard = h.0 in
    let are : AreHeard capacity [] (spoken bytes) heard = subst (AreHeard capacity [] (spoken bytes)) (sym all.1) all.2 in
    let sound : IsSound capacity (saids heard) =
    subst (λ h. IsSound capacity (saids h)) (sym all.1) (sound_heard capacity [] (spoken bytes) all.0 (nothing_sound capacity) all.2) in
    let fits : ScriptFits capacity (script_of heard) =
    subst (ScriptFits capacity) (sym (script_is heard)) (sound_fits capacity (saids heard) sound (unposted_all (saids heard) heard h.2)) in
    let said : saids heard ≡ saids_of (script_of heard) = said_is (saids heard) sound.begins ∙ ap saids_of (sym (script_is heard)) in (
      script_of heard,
      record {
        lines = heard_bytes capacity [] (spoken bytes) heard are ∙ ap (map said_line) said ∙ lines_said (script_of heard);
        early =
            heard_early capacity [] (spoken bytes) heard are;
      },
      fits,
      λ never. let flows = flows_on heard never fits.posted in let both : None ≡ Some line = sym flows ∙ h.3 in absurd (cc),
    )

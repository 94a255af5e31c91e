-- Whether a transcript has a `worn` line, by the records.
use Rattle.std.proofs.Common.{◌≡◌, ℕ, Bool, true, false, List, [], ◌∷◌, map, refl, sym, ap, ap₂, ◌∙◌}
use Rattle.std.specs.Prelude.{◌||◌}
use Rattle.std.specs.List.{list_any}
use Rattle.pblk_model.specs.declared.script.Command.{Command}
use Rattle.run_threads.specs.declared.records.Answer.{Answer}
use Rattle.run_threads.specs.declared.records.Records.{Records}
use Rattle.run_report.specs.Report.{closing_of, outcome_of, transcript_of}
use Rattle.pblk_cli.specs.Status.{closed_worn, has_worn, is_worn}

one_thread : (answers : List Answer) → list_any is_worn (map outcome_of answers) ≡ list_any (λ a. is_worn (outcome_of a)) answers
one_thread [] = refl
one_thread (a ∷ answers) = ap (λ b. is_worn (outcome_of a) || b) (one_thread answers)

pub any_thread : (threads : List (List Answer)) → list_any (list_any is_worn) (map (map outcome_of) threads) ≡ list_any
    (λ answers. list_any (λ a. is_worn (outcome_of a)) answers) threads
any_thread [] = refl
any_thread (answers ∷ threads) = ap₂ (λ a b. a || b) (one_thread answers) (any_thread threads)

-- by the lines of the threads, and else by that of the close
pub by_threads : (script : List (List Command)) (records : Records) (end : ℕ) (threads : List (List Answer)) (b : Bool) → threads ≡ records.threads
    → b ≡ list_any (λ answers. list_any (λ a. is_worn (outcome_of a)) answers) threads
    → b ≡ true → b ≡ has_worn (transcript_of script records end)
by_threads script records end threads b same is worn =
    worn ∙ ap (λ x. x || closed_worn (closing_of records.closing)) (sym worn ∙ is
    ∙ ap (list_any (λ answers. list_any (λ a. is_worn (outcome_of a)) answers)) same ∙ sym (any_thread records.threads))

pub by_close : (script : List (List Command)) (records : Records) (end : ℕ) (threads : List (List Answer)) (b closed : Bool) → threads ≡ records.threads
    → b ≡ list_any (λ answers. list_any (λ a. is_worn (outcome_of a)) answers) threads
    → b ≡ false → closed ≡ closed_worn (closing_of records.closing) → closed ≡ has_worn (transcript_of script records end)
by_close script records end threads b closed same is calm at_close =
    at_close ∙ ap (λ x. x || closed_worn (closing_of records.closing)) (sym calm ∙ is
    ∙ ap (list_any (λ answers. list_any (λ a. is_worn (outcome_of a)) answers)) same ∙ sym (any_thread records.threads))

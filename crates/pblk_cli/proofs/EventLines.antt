-- Whether a transcript has a line that names an event, by the records; and the status.
use Rattle.std.proofs.Common.{◌≡◌, ℕ, Bool, true, false, List, [], ◌∷◌, ◌++◌, map, refl, sym, ap, ap₂, ◌∙◌}
use Rattle.std.specs.Prelude.{◌||◌}
use Rattle.std.specs.List.{flat_map, list_any}
use Rattle.pblk_model.specs.declared.script.Command.{Command}
use Rattle.pblk_model.specs.Text.{Transcript}
use Rattle.pblk_model.specs.Transcript.{closing_event, opening_event, outcome_event}
use Rattle.run_threads.specs.declared.records.Answer.{Answer}
use Rattle.run_threads.specs.declared.records.Records.{Records}
use Rattle.run_report.specs.Report.{closing_of, opening_of, outcome_of, transcript_of}
use Rattle.pblk_cli.specs.Status.{has_event, has_worn, names_any, status_of_run}

any_joined : (xs ys : List (ℕ × ℕ)) → names_any (xs ++ ys) ≡ (names_any xs || names_any ys)
any_joined [] ys = refl
any_joined (x ∷ xs) ys = refl

any_mapped : {X : Type 0} (f : X → List (ℕ × ℕ)) (xs : List X) → names_any (flat_map f xs) ≡ list_any (λ x. names_any (f x)) xs
any_mapped f [] = refl
any_mapped f (x ∷ xs) = any_joined (f x) (flat_map f xs) ∙ ap (λ b. names_any (f x) || b) (any_mapped f xs)

one_thread : (answers : List Answer) → names_any (flat_map outcome_event (map outcome_of answers)) ≡ list_any
    (λ a. names_any (outcome_event (outcome_of a))) answers
one_thread [] = refl
one_thread (a ∷ answers) = any_joined (outcome_event (outcome_of a)) (flat_map outcome_event (map outcome_of answers))
    ∙ ap (λ b. names_any (outcome_event (outcome_of a)) || b) (one_thread answers)

-- whether a line of the threads names an event
abbrev pub any_in : List (List Answer) → Bool
any_in threads = list_any (λ answers. list_any (λ a. names_any (outcome_event (outcome_of a))) answers) threads

any_threads : (threads : List (List Answer)) → names_any (flat_map (flat_map outcome_event) (map (map outcome_of) threads)) ≡ any_in threads
any_threads [] = refl
any_threads (answers ∷ threads) =
    any_joined (flat_map outcome_event (map outcome_of answers)) (flat_map (flat_map outcome_event) (map (map outcome_of) threads))
    ∙ ap₂ (λ a b. a || b) (one_thread answers) (any_threads threads)

module _ (script : List (List Command)) (records : Records) (end : ℕ) where
  -- the opening's line, those of the threads, and the line of the close
  abbrev opened : Bool
  opened = names_any (opening_event (opening_of records.opening))

  abbrev closed : Bool
  closed = names_any (closing_event (closing_of records.closing))

  event_is : has_event (transcript_of script records end) ≡ ((opened || any_in records.threads) || closed)
  event_is =
      any_joined (opening_event (opening_of records.opening) ++ flat_map (flat_map outcome_event) (map (map outcome_of) records.threads))
      (closing_event (closing_of records.closing))
      ∙ ap (λ b. b || closed)
      (any_joined (opening_event (opening_of records.opening)) (flat_map (flat_map outcome_event) (map (map outcome_of) records.threads))
      ∙ ap (λ b. opened || b) (any_threads records.threads))

  pub by_opening : (b : Bool) → b ≡ names_any (opening_event (opening_of records.opening)) → b ≡ true → b ≡ has_event (transcript_of script records end)
  by_opening b is so = so ∙ ap (λ o. (o || any_in records.threads) || closed) (sym so ∙ is) ∙ sym event_is

  pub by_threads : (threads : List (List Answer)) (o b : Bool) → threads ≡ records.threads → o ≡ names_any (opening_event (opening_of records.opening))
      → o ≡ false → b ≡ any_in threads → b ≡ true → b ≡ has_event (transcript_of script records end)
  by_threads threads o b same at_opening calm is so =
      so ∙ ap₂ (λ x y. (x || y) || closed) (sym calm ∙ at_opening) (sym so ∙ is ∙ ap any_in same) ∙ sym event_is

  pub by_close : (threads : List (List Answer)) (o b x : Bool) → threads ≡ records.threads → o ≡ names_any (opening_event (opening_of records.opening))
      → o ≡ false → b ≡ any_in threads → b ≡ false → x ≡ names_any (closing_event (closing_of records.closing))
      → x ≡ has_event (transcript_of script records end)
  by_close threads o b x same at_opening calm is none at_close =
      at_close ∙ ap₂ (λ y z. (y || z) || closed) (sym calm ∙ at_opening) (sym none ∙ is ∙ ap any_in same) ∙ sym event_is

-- The status.

pub drive_is : (t : Transcript) → has_event t ≡ true → 5 ≡ status_of_run t
drive_is t so = rw so refl

pub worn_is : (t : Transcript) → has_event t ≡ false → has_worn t ≡ true → 6 ≡ status_of_run t
worn_is t none worn = rw (none, worn) refl

pub calm_is : (t : Transcript) → has_event t ≡ false → has_worn t ≡ false → 0 ≡ status_of_run t
calm_is t none calm = rw (none, calm) refl

-- Records in which no write was answered a place.
use Rattle.std.proofs.Common.{◌≡◌, ◌+◌, ◌++◌, ℕ, false, List, [], ◌∷◌, refl, ap, ◌∙◌}
use Rattle.std.specs.List.{flat_map, list_any}
use Rattle.std.proofs.lemmas.Bool.{or_parts}
use Rattle.pblk_model.specs.declared.script.Command.{Command}
use Rattle.pblk_model.specs.declared.script.Command.TheVariants.{Write, Read, Flush, Post, Await}
use Rattle.pblk_model.specs.History.{users}
use Rattle.run_threads.specs.declared.records.Answer.{Answer}
use Rattle.run_threads.specs.declared.records.Answer.TheVariants.{Placed, Words, Synced, Done, Range, Refused}
use Rattle.run_threads.specs.declared.records.Records.{Records}
use Rattle.run_report.specs.Report.{transcript_of}
use Rattle.run_report.specs.Rows.{answered_rows, has_placed, in_order, is_placed, positions_of, rows_from, thread_rows}

no_row : (thread : ℕ) (command : Command) (answer : Answer) → is_placed answer ≡ false → answered_rows thread command answer ≡ []
no_row thread (Write lba count tag) (Placed place) h = absurd (cc h)
no_row thread (Write lba count tag) (Words front words) h = refl
no_row thread (Write lba count tag) (Synced front) h = refl
no_row thread (Write lba count tag) Done h = refl
no_row thread (Write lba count tag) Range h = refl
no_row thread (Write lba count tag) (Refused trouble) h = refl
no_row thread (Read lba count) answer h = refl
no_row thread Flush answer h = refl
no_row thread (Post name) answer h = refl
no_row thread (Await name) answer h = refl

no_rows : (thread : ℕ) (commands : List Command) (answers : List Answer) → list_any is_placed answers ≡ false → thread_rows thread commands answers ≡ []
no_rows thread [] answers h = refl
no_rows thread (command ∷ commands) [] h = refl
no_rows thread (command ∷ commands) (answer ∷ answers) h =
    let both = or_parts (is_placed answer) (list_any is_placed answers) h in
    ap (λ rows. rows ++ thread_rows thread commands answers) (no_row thread command answer both.0) ∙ no_rows thread commands answers both.1

none_placed : (thread : ℕ) (script : List (List Command)) (threads : List (List Answer)) → has_placed threads ≡ false → rows_from thread script threads ≡ []
none_placed thread [] threads h = refl
none_placed thread (commands ∷ script) [] h = refl
none_placed thread (commands ∷ script) (answers ∷ threads) h =
    let both = or_parts (list_any is_placed answers) (has_placed threads) h in
    ap (λ rows. rows ++ rows_from (thread + 1) script threads) (no_rows thread commands answers both.0) ∙ none_placed (thread + 1) script threads both.1

-- their transcript doesn't depend on where the image left ends
pub same_whatever : (script : List (List Command)) (records : Records) (one other : ℕ) → has_placed records.threads ≡ false
    → transcript_of script records one ≡ transcript_of script records other
same_whatever script records one other h =
    let none = none_placed 0 script records.threads h in
    let kept : users (flat_map positions_of (in_order (rows_from 0 script records.threads))) one
    ≡ users (flat_map positions_of (in_order (rows_from 0 script records.threads))) other = rw none refl in
    rw kept refl

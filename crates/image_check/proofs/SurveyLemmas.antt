-- The lines of an image, one more at a time.
use Rattle.std.proofs.Common.{◌≡◌, ℕ, ◌+◌, Bool, true, false, cond, [], ◌∷◌, ◌++◌, Option, Some, None, refl, sym, ap, ◌∙◌, nat_lt, subst}
use Rattle.std.specs.List.{filter_map, fold, range_with_len}
use Rattle.std.specs.Option.{is_some, option_map, option_map_or}
use Rattle.pblk_model.specs.Image.{Image}
use Rattle.pblk_model.specs.StartRecord.{start_of}
use Rattle.pblk_model.specs.EndRecord.{end_of}
use Rattle.pblk_model.specs.Contents.{head, later_start, head_to}
use Rattle.pblk_meta.specs.declared.start_record.StartRecord.{StartRecord as Start}
use Rattle.pblk_meta.specs.declared.end_record.EndRecord.{EndRecord as End}
use Rattle.pblk_meta.specs.Records.{end_numbers, start_numbers}
use Rattle.image_check.specs.declared.certificate.LineEntry.{LineEntry}
use Rattle.image_check.specs.declared.survey.Survey.{Survey}
use Rattle.image_check.specs.Right.{entries_of, entry_by, entry_of}
use Rattle.image_check.specs.Surveys.{IsSurvey}
use Rattle.image_check.proofs.RunLemmas.{last_none, last_some}
use Rattle.pblk_model.proofs.ContentsLemmas.{head_one}
use Rattle.pblk_model.proofs.Options.{some_mapped}

head_none : (i : Image) (n : ℕ) → None ≡ start_of i n → head_to i n ≡ head_to i (n + 1)
head_none i n none = ap (λ o. option_map_or (later_start (head_to i n)) o (head_to i n)) none ∙ sym (head_one i n)

by_later : (best : Option Start) (start : Start) (b : Bool) → b ≡ option_map_or (λ x. nat_lt x.seq start.seq) best true
    → option_map start_numbers (cond b (Some start) best) ≡ later_start (option_map start_numbers best) (start_numbers start)
by_later None start true is = refl
by_later None start false is = absurd cc
by_later (Some best) start true is = ap (λ b. cond b (Some (start_numbers start)) (Some (start_numbers best))) is
by_later (Some best) start false is = ap (λ b. cond b (Some (start_numbers start)) (Some (start_numbers best))) is

pub survey_none : (i : Image) (n : ℕ) (s : Survey) → None ≡ start_of i n → IsSurvey i n s → IsSurvey i (n + 1) s
survey_none i n s none h = record {
  lines = last_none (entry_of i) n s.lines.items (ap (entry_by i n) none) h.lines;
  head = h.head ∙ head_none i n none;
}

pub survey_some : (i : Image) (n : ℕ) (old new : Survey) (start : Start) (e : Option End) (full b : Bool) → Some (start_numbers start) ≡ start_of i n
    → option_map end_numbers e ≡ end_of i n (start_numbers start) → full ≡ is_some e
    → new.lines.items ≡ old.lines.items ++ record { line = n; seq = start.seq; full = full } ∷ []
    → b ≡ option_map_or (λ x. nat_lt x.seq start.seq) old.head true → new.head ≡ cond b (Some start) old.head
    → IsSurvey i n old → IsSurvey i (n + 1) new
survey_some i n old new start e full b some ended full-is lines later head h =
    let full-as : full ≡ is_some (end_of i n (start_numbers start)) = full-is ∙ sym (some_mapped end_numbers e) ∙ ap is_some ended in
    let entry : ◌≡◌ {A = Option LineEntry} (Some (record { line = n; seq = start.seq; full = full })) (entry_of i n) =
    ap (λ f. Some (record { line = n; seq = start.seq; full = f })) full-as ∙ ap (entry_by i n) some in
    record {
      lines = last_some (entry_of i) n old.lines.items new.lines.items (record { line = n; seq = start.seq; full = full }) entry lines h.lines;
      head = ap (option_map start_numbers) head ∙ by_later old.head start b later ∙ ap (λ o. later_start o (start_numbers start)) h.head
          ∙ ap (λ o. option_map_or (later_start (head_to i n)) o (head_to i n)) some ∙ sym (head_one i n);
    }

pub survey_new : (i : Image) (s : Survey) → s.lines.items ≡ [] → s.head ≡ None → IsSurvey i 0 s
unfolding head_to
survey_new i s lines head = record { lines = lines; head = ap (option_map start_numbers) head }

-- a line of an image that is the same one
pub survey_moved : (i j : Image) (m n : ℕ) (old new : Survey) → i ≡ j → m ≡ n → (IsSurvey i m old → IsSurvey i (m + 1) new) → IsSurvey j n old
    → IsSurvey j (n + 1) new
survey_moved i j m n old new image number step h =
    subst (λ k. IsSurvey j (k + 1) new) number
    (subst (λ (x : Image). IsSurvey x (m + 1) new) image
    (step (subst (λ (x : Image). IsSurvey x m old) (sym image) (subst (λ k. IsSurvey j k old) (sym number) h))))

pub all_entries : (i : Image) (n : ℕ) (s : Survey) → n ≡ i.shape.chunks → IsSurvey i n s → s.lines.items ≡ entries_of i
all_entries i n s n-is h = h.lines ∙ ap (λ k. filter_map (entry_of i) (range_with_len 0 k)) n-is

pub all_heads : (i : Image) (n : ℕ) (s : Survey) → n ≡ i.shape.chunks → IsSurvey i n s → option_map start_numbers s.head ≡ head i
unfolding head_to
all_heads i n s n-is h = h.head ∙ ap (λ k. fold later_start None (filter_map (start_of i) (range_with_len 0 k))) n-is

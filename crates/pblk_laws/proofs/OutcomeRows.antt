-- The lines of a transcript that follow its history: which outcomes they are of.
use Rattle.std.proofs.Common.{◌≡◌, ℕ, ◌+◌, ◌^◌, ◌<◌, ◌≤◌, List, [], ◌∷◌, ◌++◌, map, length, Option, Some, None, codes, refl, sym, ap, ◌∙◌, arith}
use Rattle.std.specs.List.{AllByRecursion, flat_map, enumerate_from}
use Rattle.std.specs.Fmt.{decimal}
use Rattle.std.proofs.lemmas.List.{append-nil}
use Rattle.std.proofs.lemmas.List.Folds.{flat_map-map}
use Rattle.std.proofs.lemmas.Grind.{flat_map-append}
use Rattle.pblk_model.specs.Text.{Word, Tag, Mixed, Outcome, Silent, Words, Flushed, Drive, Worn, Closing, Closed, ClosedByDrive, ClosedWorn, Transcript, word_text, outcome_line, thread_text, opening_line, closing_line, kept_line}
use Rattle.pblk_laws.proofs.Fields.{IsPlain, spaced_out, Row, row_text, IsPlainRow, plain_decimal}
use Rattle.pblk_model.proofs.Lists.{all_append}

-- How large the numbers of an outcome are.

abbrev pub WordFits : Word → Type 0
WordFits (Tag t) = t < 10 ^ 64
WordFits Mixed = Unit {0}

abbrev pub OutcomeFits : Outcome → Type 0
OutcomeFits Silent = Unit {0}
OutcomeFits (Words front words) = (front < 10 ^ 64) × AllByRecursion WordFits words
OutcomeFits (Flushed front) = front < 10 ^ 64
OutcomeFits (Drive unit event) = (unit < 10 ^ 64) × (event < 10 ^ 64)
OutcomeFits (Worn wanted have) = (wanted < 10 ^ 64) × (have < 10 ^ 64)

abbrev pub OpeningFits : Option (ℕ × ℕ) → Type 0
OpeningFits None = Unit {0}
OpeningFits (Some e) = (e.0 < 10 ^ 64) × (e.1 < 10 ^ 64)

abbrev pub ClosingFits : Closing → Type 0
ClosingFits Closed = Unit {0}
ClosingFits (ClosedByDrive unit event) = (unit < 10 ^ 64) × (event < 10 ^ 64)
ClosingFits (ClosedWorn wanted have) = (wanted < 10 ^ 64) × (have < 10 ^ 64)

-- The lines.

abbrev numbered : List ℕ → ℕ → ℕ → List (List ℕ) → List Row
numbered word a b more = record { word = word; fields = decimal a ∷ decimal b ∷ more } ∷ []

abbrev pub outcome_rows : ℕ → ℕ × Outcome → List Row
outcome_rows thread (command, Silent) = []
outcome_rows thread (command, Words front words) = numbered (codes "r") thread command (decimal front ∷ map word_text words)
outcome_rows thread (command, Flushed front) = numbered (codes "f") thread command (decimal front ∷ [])
outcome_rows thread (command, Drive unit event) = numbered (codes "e") thread command (decimal unit ∷ decimal event ∷ [])
outcome_rows thread (command, Worn wanted have) = numbered (codes "worn") thread command (decimal wanted ∷ decimal have ∷ [])

abbrev pub thread_rows : ℕ × List Outcome → List Row
thread_rows t = flat_map (outcome_rows t.0) (enumerate_from 0 t.1)

abbrev pub threads_rows : ℕ → List (List Outcome) → List Row
threads_rows n outcomes = flat_map thread_rows (enumerate_from n outcomes)

abbrev pub opening_rows : Option (ℕ × ℕ) → List Row
opening_rows None = []
opening_rows (Some e) = record { word = codes "e"; fields = codes "open" ∷ decimal e.0 ∷ decimal e.1 ∷ [] } ∷ []

abbrev pub closing_rows : Closing → List Row
closing_rows Closed = []
closing_rows (ClosedByDrive unit event) = record { word = codes "e"; fields = codes "close" ∷ decimal unit ∷ decimal event ∷ [] } ∷ []
closing_rows (ClosedWorn wanted have) = record { word = codes "worn"; fields = codes "close" ∷ decimal wanted ∷ decimal have ∷ [] } ∷ []

abbrev pub kept_rows : ℕ → List Row
kept_rows kept = record { word = codes "kept"; fields = decimal kept ∷ [] } ∷ []

abbrev pub last_rows : Transcript → List Row
last_rows t = opening_rows t.opening ++ (closing_rows t.closing ++ kept_rows t.kept)

-- They are the text.

outcome_text : (thread : ℕ) (x : ℕ × Outcome) → outcome_line thread x ≡ flat_map row_text (outcome_rows thread x)
outcome_text thread (command, Silent) = refl
outcome_text thread (command, Words front words) =
    let numbers : List (List ℕ) = decimal thread ∷ decimal command ∷ decimal front ∷ [] in
    let same : spaced_out (map word_text words) ≡ flat_map (λ w. codes " " ++ word_text w) words = flat_map-map (λ f. 32 ∷ f) word_text words in
    ap (λ xs. 114 ∷ ((spaced_out numbers ++ xs) ++ 10 ∷ [])) (sym same)
    ∙ ap (λ xs. 114 ∷ (xs ++ 10 ∷ [])) (sym (flat_map-append (λ f. 32 ∷ f) numbers (map word_text words)))
    ∙ sym (append-nil (114 ∷ (spaced_out (numbers ++ map word_text words) ++ 10 ∷ [])))
outcome_text thread (command, Flushed front) = sym (append-nil (outcome_line thread (command, Flushed front)))
outcome_text thread (command, Drive unit event) = sym (append-nil (outcome_line thread (command, Drive unit event)))
outcome_text thread (command, Worn wanted have) = sym (append-nil (outcome_line thread (command, Worn wanted have)))

texts_joined : {X : Type 0} (f : X → List ℕ) (g : X → List Row) → ((x : X) → f x ≡ flat_map row_text (g x)) → (xs : List X)
    → flat_map f xs ≡ flat_map row_text (flat_map g xs)
texts_joined f g each [] = refl
texts_joined f g each (x ∷ xs) =
    ap (λ u. u ++ flat_map f xs) (each x) ∙ ap (λ u. flat_map row_text (g x) ++ u) (texts_joined f g each xs)
    ∙ sym (flat_map-append row_text (g x) (flat_map g xs))

thread_text_is : (t : ℕ × List Outcome) → thread_text t ≡ flat_map row_text (thread_rows t)
thread_text_is t = texts_joined (outcome_line t.0) (outcome_rows t.0) (outcome_text t.0) (enumerate_from 0 t.1)

opening_text : (o : Option (ℕ × ℕ)) → opening_line o ≡ flat_map row_text (opening_rows o)
opening_text None = refl
opening_text (Some e) = sym (append-nil (opening_line (Some e)))

closing_text : (c : Closing) → closing_line c ≡ flat_map row_text (closing_rows c)
closing_text Closed = refl
closing_text (ClosedByDrive unit event) = sym (append-nil (closing_line (ClosedByDrive unit event)))
closing_text (ClosedWorn wanted have) = sym (append-nil (closing_line (ClosedWorn wanted have)))

kept_text : (kept : ℕ) → kept_line kept ≡ flat_map row_text (kept_rows kept)
kept_text kept = sym (append-nil (kept_line kept))

pub rows_text : (t : Transcript)
    → flat_map thread_text (enumerate_from 0 t.outcomes) ++ (opening_line t.opening ++ (closing_line t.closing ++ kept_line t.kept))
    ≡ flat_map row_text (threads_rows 0 t.outcomes ++ last_rows t)
rows_text t =
    let threads : flat_map thread_text (enumerate_from 0 t.outcomes) ≡ flat_map row_text (threads_rows 0 t.outcomes) =
    texts_joined thread_text thread_rows thread_text_is (enumerate_from 0 t.outcomes) in
    let last : opening_line t.opening ++ (closing_line t.closing ++ kept_line t.kept) ≡ flat_map row_text (last_rows t) =
    ap (λ u. u ++ (closing_line t.closing ++ kept_line t.kept)) (opening_text t.opening)
    ∙ ap (λ u. flat_map row_text (opening_rows t.opening) ++ (u ++ kept_line t.kept)) (closing_text t.closing)
    ∙ ap (λ u. flat_map row_text (opening_rows t.opening) ++ (flat_map row_text (closing_rows t.closing) ++ u)) (kept_text t.kept)
    ∙ ap (λ u. flat_map row_text (opening_rows t.opening) ++ u) (sym (flat_map-append row_text (closing_rows t.closing) (kept_rows t.kept)))
    ∙ sym (flat_map-append row_text (opening_rows t.opening) (closing_rows t.closing ++ kept_rows t.kept)) in
    ap (λ u. u ++ (opening_line t.opening ++ (closing_line t.closing ++ kept_line t.kept))) threads
    ∙ ap (λ u. flat_map row_text (threads_rows 0 t.outcomes) ++ u) last
    ∙ sym (flat_map-append row_text (threads_rows 0 t.outcomes) (last_rows t))

-- Their words have no spaces.

plain_words : (words : List Word) → AllByRecursion WordFits words → AllByRecursion IsPlain (map word_text words)
plain_words [] h = tt
plain_words (Tag t ∷ words) h = (plain_decimal t h.0, plain_words words h.1)
plain_words (Mixed ∷ words) h = ((omega arith, (omega arith, (omega arith, (omega arith, (omega arith, tt))))), plain_words words h.1)

plain_outcome : (thread command : ℕ) (o : Outcome) → thread < 10 ^ 64 → command < 10 ^ 64 → OutcomeFits o
    → AllByRecursion IsPlainRow (outcome_rows thread (command, o))
plain_outcome thread command Silent ht hc h = tt
plain_outcome thread command (Words front words) ht hc h =
    (record { word = (omega arith, tt); fields = (plain_decimal thread ht, (plain_decimal command hc, (plain_decimal front h.0, plain_words words h.1))) }, tt)
plain_outcome thread command (Flushed front) ht hc h =
    (record { word = (omega arith, tt); fields = (plain_decimal thread ht, (plain_decimal command hc, (plain_decimal front h, tt))) }, tt)
plain_outcome thread command (Drive unit event) ht hc h = (
  record {
    word = (omega arith, tt);
    fields =
        (plain_decimal thread ht, (plain_decimal command hc, (plain_decimal unit h.0, (plain_decimal event h.1, tt))));
  },
  tt,
)
plain_outcome thread command (Worn wanted have) ht hc h = (
  record {
    word = (omega arith, (omega arith, (omega arith, (omega arith, tt))));
    fields =
        (plain_decimal thread ht, (plain_decimal command hc, (plain_decimal wanted h.0, (plain_decimal have h.1, tt))));
  },
  tt,
)

plain_outcomes : (thread n : ℕ) (os : List Outcome) → thread < 10 ^ 64 → n + length os ≤ 10 ^ 64 → AllByRecursion OutcomeFits os
    → AllByRecursion IsPlainRow (flat_map (outcome_rows thread) (enumerate_from n os))
plain_outcomes thread n [] ht hn h = tt
plain_outcomes thread n (o ∷ os) ht hn h =
    all_append IsPlainRow (outcome_rows thread (n, o)) _ (plain_outcome thread n o ht (omega arith) h.0) (plain_outcomes thread (n + 1) os ht (omega arith) h.1)

abbrev pub AreShort : List (List Outcome) → Type 0
AreShort outcomes = AllByRecursion (λ os. length os ≤ 10 ^ 64) outcomes

pub plain_threads : (n : ℕ) (outcomes : List (List Outcome)) → n + length outcomes ≤ 10 ^ 64 → AreShort outcomes
    → AllByRecursion (AllByRecursion OutcomeFits) outcomes → AllByRecursion IsPlainRow (threads_rows n outcomes)
plain_threads n [] hn hs h = tt
plain_threads n (os ∷ outcomes) hn hs h =
    all_append IsPlainRow (thread_rows (n, os)) _ (plain_outcomes n 0 os (omega arith) (omega (arith, hs.0)) h.0)
    (plain_threads (n + 1) outcomes (omega arith) hs.1 h.1)

plain_opening : (o : Option (ℕ × ℕ)) → OpeningFits o → AllByRecursion IsPlainRow (opening_rows o)
plain_opening None h = tt
plain_opening (Some e) h = (
  record {
    word = (omega arith, tt);
    fields =
        ((omega arith, (omega arith, (omega arith, (omega arith, tt)))), (plain_decimal e.0 h.0, (plain_decimal e.1 h.1, tt)));
  },
  tt,
)

plain_closing : (c : Closing) → ClosingFits c → AllByRecursion IsPlainRow (closing_rows c)
plain_closing Closed h = tt
plain_closing (ClosedByDrive unit event) h = (
  record {
    word = (omega arith, tt);
    fields =
        ((omega arith, (omega arith, (omega arith, (omega arith, (omega arith, tt))))), (plain_decimal unit h.0, (plain_decimal event h.1, tt)));
  },
  tt,
)
plain_closing (ClosedWorn wanted have) h = (
  record {
    word = (omega arith, (omega arith, (omega arith, (omega arith, tt))));
    fields =
        ((omega arith, (omega arith, (omega arith, (omega arith, (omega arith, tt))))), (plain_decimal wanted h.0, (plain_decimal have h.1, tt)));
  },
  tt,
)

plain_kept : (kept : ℕ) → kept < 10 ^ 64 → AllByRecursion IsPlainRow (kept_rows kept)
plain_kept kept h = (record { word = (omega arith, (omega arith, (omega arith, (omega arith, tt)))); fields = (plain_decimal kept h, tt) }, tt)

pub plain_last : (t : Transcript) → OpeningFits t.opening → ClosingFits t.closing → t.kept < 10 ^ 64 → AllByRecursion IsPlainRow (last_rows t)
plain_last t ho hc hk = all_append IsPlainRow (opening_rows t.opening) _ (plain_opening t.opening ho)
    (all_append IsPlainRow (closing_rows t.closing) (kept_rows t.kept) (plain_closing t.closing hc) (plain_kept t.kept hk))

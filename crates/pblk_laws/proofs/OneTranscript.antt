-- Equal lines are of equal outcomes.
use Rattle.std.proofs.Common.{◌≡◌, ℕ, ◌+◌, ◌^◌, ◌<◌, ◌≤◌, List, [], ◌∷◌, ◌++◌, map, length, Option, Some, None, codes, refl, sym, ap, subst, ◌∙◌, append_assoc, arith}
use Rattle.std.specs.List.{AllByRecursion, flat_map, enumerate_from}
use Rattle.std.specs.Fmt.{decimal}
use Rattle.std.proofs.lemmas.List.{append_cancel_left, length-map}
use Rattle.pblk_model.specs.declared.script.Command.{Command}
use Rattle.pblk_model.specs.Text.{HistoryLine, Word, Tag, Mixed, Outcome, Silent, Words, Flushed, Drive, Worn, Closing, Closed, ClosedByDrive, ClosedWorn, Transcript, word_text, history_line, thread_text, opening_line, closing_line, kept_line, text_of}
use Rattle.pblk_model.specs.Transcript.{Ran}
use Rattle.pblk_laws.proofs.TextCuts.{same_decimal}
use Rattle.pblk_laws.proofs.TextLines.{RowFits, same_history, same_kept}
use Rattle.pblk_laws.proofs.Fields.{IsPlainRow, Row, row_text, same_rows, no_number}
use Rattle.pblk_laws.proofs.OutcomeRows.{WordFits, OutcomeFits, OpeningFits, ClosingFits, AreShort, outcome_rows, thread_rows, threads_rows, opening_rows, closing_rows, kept_rows, last_rows, rows_text, plain_threads, plain_last}
use Rattle.pblk_model.proofs.Lists.{all_append}

-- The line is of a command of a thread.

IsKeyOf : ℕ → ℕ → List (List ℕ) → Type 0
IsKeyOf thread command [] = ⊥
IsKeyOf thread command (a ∷ []) = ⊥
IsKeyOf thread command (a ∷ (b ∷ more)) = (a ≡ decimal thread) × (b ≡ decimal command)

abbrev NotOf : ℕ → ℕ → Row → Type 0
NotOf thread command r = IsKeyOf thread command r.fields → ⊥

other_outcome : (a b c d : ℕ) (o : Outcome) → ((decimal a ≡ decimal c) × (decimal b ≡ decimal d) → ⊥) → AllByRecursion (NotOf c d) (outcome_rows a (b, o))
unfolding IsKeyOf
other_outcome a b c d Silent other = tt
other_outcome a b c d (Words front words) other = (other, tt)
other_outcome a b c d (Flushed front) other = (other, tt)
other_outcome a b c d (Drive unit event) other = (other, tt)
other_outcome a b c d (Worn wanted have) other = (other, tt)

later_commands : (thread c n : ℕ) (os : List Outcome) → c < n → n + length os ≤ 10 ^ 64
    → AllByRecursion (NotOf thread c) (flat_map (outcome_rows thread) (enumerate_from n os))
later_commands thread c n [] less hn = tt
later_commands thread c n (o ∷ os) less hn =
    all_append (NotOf thread c) (outcome_rows thread (n, o)) _
    (other_outcome thread n thread c o (λ k. let same : n ≡ c = same_decimal n c (omega arith) (omega arith) k.1 in omega arith))
    (later_commands thread c (n + 1) os (omega arith) (omega arith))

other_commands : (a n c d : ℕ) (os : List Outcome) → a < 10 ^ 64 → c < a → AllByRecursion (NotOf c d) (flat_map (outcome_rows a) (enumerate_from n os))
other_commands a n c d [] ha less = tt
other_commands a n c d (o ∷ os) ha less =
    all_append (NotOf c d) (outcome_rows a (n, o)) _
    (other_outcome a n c d o (λ k. let same : a ≡ c = same_decimal a c ha (omega arith) k.0 in omega arith))
    (other_commands a (n + 1) c d os ha less)

later_threads : (c d n : ℕ) (outcomes : List (List Outcome)) → c < n → n + length outcomes ≤ 10 ^ 64 → AllByRecursion (NotOf c d) (threads_rows n outcomes)
later_threads c d n [] less hn = tt
later_threads c d n (os ∷ outcomes) less hn =
    all_append (NotOf c d) (thread_rows (n, os)) _ (other_commands n 0 c d os (omega arith) less)
    (later_threads c d (n + 1) outcomes (omega arith) (omega arith))

closing_not : (c d : ℕ) (closing : Closing) (kept : ℕ) → c < 10 ^ 64 → AllByRecursion (NotOf c d) (closing_rows closing ++ kept_rows kept)
unfolding IsKeyOf
closing_not c d Closed kept hc = (λ k. k, tt)
closing_not c d (ClosedByDrive unit event) kept hc = (λ k. no_number 99 _ c (omega arith) hc k.0, (λ k. k, tt))
closing_not c d (ClosedWorn wanted have) kept hc = (λ k. no_number 99 _ c (omega arith) hc k.0, (λ k. k, tt))

-- The words of a read.

no_mixed : (n : ℕ) → n < 10 ^ 64 → decimal n ≡ codes "mixed" → ⊥
no_mixed n h e = no_number 109 _ n (omega arith) h (sym e)

pub same_word : (a b : Word) → WordFits a → WordFits b → word_text a ≡ word_text b → a ≡ b
same_word (Tag a) (Tag b) ha hb e = ap Tag (same_decimal a b ha hb e)
same_word (Tag a) Mixed ha hb e = absurd (no_mixed a ha e)
same_word Mixed (Tag b) ha hb e = absurd (no_mixed b hb (sym e))
same_word Mixed Mixed ha hb e = refl

same_words : (a b : List Word) → AllByRecursion WordFits a → AllByRecursion WordFits b → map word_text a ≡ map word_text b → a ≡ b
same_words [] [] ha hb e = refl
same_words [] (y ∷ b) ha hb e = cc
same_words (x ∷ a) [] ha hb e = cc
same_words (x ∷ a) (y ∷ b) ha hb e =
    let here : word_text x ≡ word_text y = cc in
    let later : map word_text a ≡ map word_text b = cc in
    let first = same_word x y ha.0 hb.0 here in
    let rest = same_words a b ha.1 hb.1 later in
    cc

-- One command.

byte : List ℕ → ℕ
byte [] = 0
byte (x ∷ xs) = x

-- of the first line
letter : List Row → ℕ
letter [] = 0
letter (r ∷ rows) = byte r.word

words_of : List Row → List (List ℕ)
words_of [] = []
words_of (r ∷ rows) = r.fields

same_outcome : (thread n : ℕ) (x y : Outcome) (u v : List Row) → OutcomeFits x → OutcomeFits y → AllByRecursion (NotOf thread n) u
    → AllByRecursion (NotOf thread n) v
    → outcome_rows thread (n, x) ++ u ≡ outcome_rows thread (n, y) ++ v → (x ≡ y) × (u ≡ v)
unfolding IsKeyOf letter byte words_of
same_outcome thread n Silent Silent u v hx hy hu hv e = (refl, e)
same_outcome thread n Silent (Words b_front b_words) u v hx hy hu hv e = absurd ((subst (AllByRecursion (NotOf thread n)) e hu).0 (refl, refl))
same_outcome thread n Silent (Flushed b_front) u v hx hy hu hv e = absurd ((subst (AllByRecursion (NotOf thread n)) e hu).0 (refl, refl))
same_outcome thread n Silent (Drive b_unit b_event) u v hx hy hu hv e = absurd ((subst (AllByRecursion (NotOf thread n)) e hu).0 (refl, refl))
same_outcome thread n Silent (Worn b_wanted b_have) u v hx hy hu hv e = absurd ((subst (AllByRecursion (NotOf thread n)) e hu).0 (refl, refl))
same_outcome thread n (Words a_front a_words) Silent u v hx hy hu hv e = absurd ((subst (AllByRecursion (NotOf thread n)) (sym e) hv).0 (refl, refl))
same_outcome thread n (Words a_front a_words) (Words b_front b_words) u v hx hy hu hv e =
    let spelled : words_of (outcome_rows thread (n, (Words a_front a_words))) ≡ words_of (outcome_rows thread (n, (Words b_front b_words))) = ap words_of e in
    let fronts : decimal a_front ≡ decimal b_front = cc in
    let words : map word_text a_words ≡ map word_text b_words = cc in
    let front : a_front ≡ b_front = same_decimal a_front b_front hx.0 hy.0 fronts in
    let same : a_words ≡ b_words = same_words a_words b_words hx.1 hy.1 words in
    (cc, cc)
same_outcome thread n (Words a_front a_words) (Flushed b_front) u v hx hy hu hv e = let h : ◌≡◌ {A = ℕ} 114 102 = ap letter e in absurd (omega arith)
same_outcome thread n (Words a_front a_words) (Drive b_unit b_event) u v hx hy hu hv e = let h : ◌≡◌ {A = ℕ} 114 101 = ap letter e in absurd (omega arith)
same_outcome thread n (Words a_front a_words) (Worn b_wanted b_have) u v hx hy hu hv e = let h : ◌≡◌ {A = ℕ} 114 119 = ap letter e in absurd (omega arith)
same_outcome thread n (Flushed a_front) Silent u v hx hy hu hv e = absurd ((subst (AllByRecursion (NotOf thread n)) (sym e) hv).0 (refl, refl))
same_outcome thread n (Flushed a_front) (Words b_front b_words) u v hx hy hu hv e = let h : ◌≡◌ {A = ℕ} 102 114 = ap letter e in absurd (omega arith)
same_outcome thread n (Flushed a_front) (Flushed b_front) u v hx hy hu hv e =
    let spelled : words_of (outcome_rows thread (n, (Flushed a_front))) ≡ words_of (outcome_rows thread (n, (Flushed b_front))) = ap words_of e in
    let fronts : decimal a_front ≡ decimal b_front = cc in
    let front : a_front ≡ b_front = same_decimal a_front b_front hx hy fronts in
    (cc, cc)
same_outcome thread n (Flushed a_front) (Drive b_unit b_event) u v hx hy hu hv e = let h : ◌≡◌ {A = ℕ} 102 101 = ap letter e in absurd (omega arith)
same_outcome thread n (Flushed a_front) (Worn b_wanted b_have) u v hx hy hu hv e = let h : ◌≡◌ {A = ℕ} 102 119 = ap letter e in absurd (omega arith)
same_outcome thread n (Drive a_unit a_event) Silent u v hx hy hu hv e = absurd ((subst (AllByRecursion (NotOf thread n)) (sym e) hv).0 (refl, refl))
same_outcome thread n (Drive a_unit a_event) (Words b_front b_words) u v hx hy hu hv e = let h : ◌≡◌ {A = ℕ} 101 114 = ap letter e in absurd (omega arith)
same_outcome thread n (Drive a_unit a_event) (Flushed b_front) u v hx hy hu hv e = let h : ◌≡◌ {A = ℕ} 101 102 = ap letter e in absurd (omega arith)
same_outcome thread n (Drive a_unit a_event) (Drive b_unit b_event) u v hx hy hu hv e =
    let spelled : words_of (outcome_rows thread (n, (Drive a_unit a_event))) ≡ words_of (outcome_rows thread (n, (Drive b_unit b_event))) = ap words_of e in
    let firsts : decimal a_unit ≡ decimal b_unit = cc in
    let seconds : decimal a_event ≡ decimal b_event = cc in
    let first : a_unit ≡ b_unit = same_decimal a_unit b_unit hx.0 hy.0 firsts in
    let second : a_event ≡ b_event = same_decimal a_event b_event hx.1 hy.1 seconds in
    (cc, cc)
same_outcome thread n (Drive a_unit a_event) (Worn b_wanted b_have) u v hx hy hu hv e = let h : ◌≡◌ {A = ℕ} 101 119 = ap letter e in absurd (omega arith)
same_outcome thread n (Worn a_wanted a_have) Silent u v hx hy hu hv e = absurd ((subst (AllByRecursion (NotOf thread n)) (sym e) hv).0 (refl, refl))
same_outcome thread n (Worn a_wanted a_have) (Words b_front b_words) u v hx hy hu hv e = let h : ◌≡◌ {A = ℕ} 119 114 = ap letter e in absurd (omega arith)
same_outcome thread n (Worn a_wanted a_have) (Flushed b_front) u v hx hy hu hv e = let h : ◌≡◌ {A = ℕ} 119 102 = ap letter e in absurd (omega arith)
same_outcome thread n (Worn a_wanted a_have) (Drive b_unit b_event) u v hx hy hu hv e = let h : ◌≡◌ {A = ℕ} 119 101 = ap letter e in absurd (omega arith)
same_outcome thread n (Worn a_wanted a_have) (Worn b_wanted b_have) u v hx hy hu hv e =
    let spelled : words_of (outcome_rows thread (n, (Worn a_wanted a_have))) ≡ words_of (outcome_rows thread (n, (Worn b_wanted b_have))) = ap words_of e in
    let firsts : decimal a_wanted ≡ decimal b_wanted = cc in
    let seconds : decimal a_have ≡ decimal b_have = cc in
    let first : a_wanted ≡ b_wanted = same_decimal a_wanted b_wanted hx.0 hy.0 firsts in
    let second : a_have ≡ b_have = same_decimal a_have b_have hx.1 hy.1 seconds in
    (cc, cc)

-- One thread.

same_outcomes : (thread n : ℕ) (a b : List Outcome) (u v : List Row) → n + length a ≤ 10 ^ 64 → length a ≡ length b → AllByRecursion OutcomeFits a
    → AllByRecursion OutcomeFits b
    → ((c : ℕ) → AllByRecursion (NotOf thread c) u) → ((c : ℕ) → AllByRecursion (NotOf thread c) v)
    → flat_map (outcome_rows thread) (enumerate_from n a) ++ u ≡ flat_map (outcome_rows thread) (enumerate_from n b) ++ v → (a ≡ b) × (u ≡ v)
same_outcomes thread n [] [] u v hn long ha hb hu hv e = (refl, e)
same_outcomes thread n [] (y ∷ b) u v hn long ha hb hu hv e = absurd (omega arith)
same_outcomes thread n (x ∷ a) [] u v hn long ha hb hu hv e = absurd (omega arith)
same_outcomes thread n (x ∷ a) (y ∷ b) u v hn long ha hb hu hv e =
    let f = outcome_rows thread in
    let before : List Row = flat_map f (enumerate_from (n + 1) a) in
    let bs : List Row = flat_map f (enumerate_from (n + 1) b) in
    let lengths : length a ≡ length b = omega arith in
    let joined : f (n, x) ++ (before ++ u) ≡ f (n, y) ++ (bs ++ v) = sym (append_assoc (f (n, x)) before u) ∙ e ∙ append_assoc (f (n, y)) bs v in
    let first = same_outcome thread n x y (before ++ u) (bs ++ v) ha.0 hb.0
    (all_append (NotOf thread n) before u (later_commands thread n (n + 1) a (omega arith) (omega arith)) (hu n))
    (all_append (NotOf thread n) bs v (later_commands thread n (n + 1) b (omega arith) (omega arith)) (hv n)) joined in
    let rest = same_outcomes thread (n + 1) a b u v (omega arith) lengths ha.1 hb.1 hu hv first.1 in
    let head : x ≡ y = first.0 in
    let tail : a ≡ b = rest.0 in
    (cc, rest.1)

-- All threads.

same_threads : (n : ℕ) (a b : List (List Outcome)) (u v : List Row) → n + length a ≤ 10 ^ 64 → map length a ≡ map length b → AreShort a
    → AllByRecursion (AllByRecursion OutcomeFits) a → AllByRecursion (AllByRecursion OutcomeFits) b
    → ((c d : ℕ) → c < 10 ^ 64 → AllByRecursion (NotOf c d) u) → ((c d : ℕ) → c < 10 ^ 64 → AllByRecursion (NotOf c d) v)
    → threads_rows n a ++ u ≡ threads_rows n b ++ v → (a ≡ b) × (u ≡ v)
same_threads n [] [] u v hn long short ha hb hu hv e = (refl, e)
same_threads n [] (y ∷ b) u v hn long short ha hb hu hv e = absurd (cc)
same_threads n (x ∷ a) [] u v hn long short ha hb hu hv e = absurd (cc)
same_threads n (x ∷ a) (y ∷ b) u v hn long short ha hb hu hv e =
    let before : List Row = threads_rows (n + 1) a in
    let bs : List Row = threads_rows (n + 1) b in
    let here : length x ≡ length y = cc in
    let lengths : map length a ≡ map length b = cc in
    let counts : length a ≡ length b = sym (length-map a length) ∙ ap length lengths ∙ length-map b length in
    let joined : thread_rows (n, x) ++ (before ++ u) ≡ thread_rows (n, y) ++ (bs ++ v) = sym (append_assoc (thread_rows (n, x)) before u) ∙ e
    ∙ append_assoc (thread_rows (n, y)) bs v in
    let first = same_outcomes n 0 x y (before ++ u) (bs ++ v) (omega (arith, short.0)) here ha.0 hb.0
    (λ c. all_append (NotOf n c) before u (later_threads n c (n + 1) a (omega arith) (omega arith)) (hu n c (omega arith)))
    (λ c. all_append (NotOf n c) bs v (later_threads n c (n + 1) b (omega arith) (omega arith)) (hv n c (omega arith))) joined in
    let rest = same_threads (n + 1) a b u v (omega arith) lengths short.1 ha.1 hb.1 hu hv first.1 in
    let head : x ≡ y = first.0 in
    let tail : a ≡ b = rest.0 in
    (cc, rest.1)

-- The line of an opening.

IsOpenOf : List (List ℕ) → Type 0
IsOpenOf [] = ⊥
IsOpenOf (a ∷ more) = a ≡ codes "open"

abbrev NotOpen : Row → Type 0
NotOpen r = IsOpenOf r.fields → ⊥

no_open : (n : ℕ) → n < 10 ^ 64 → decimal n ≡ codes "open" → ⊥
no_open n h e = no_number 111 _ n (omega arith) h (sym e)

outcome_not_open : (thread n : ℕ) (o : Outcome) → thread < 10 ^ 64 → AllByRecursion NotOpen (outcome_rows thread (n, o))
unfolding IsOpenOf
outcome_not_open thread n Silent h = tt
outcome_not_open thread n (Words front words) h = (no_open thread h, tt)
outcome_not_open thread n (Flushed front) h = (no_open thread h, tt)
outcome_not_open thread n (Drive unit event) h = (no_open thread h, tt)
outcome_not_open thread n (Worn wanted have) h = (no_open thread h, tt)

outcomes_not_open : (thread n : ℕ) (os : List Outcome) → thread < 10 ^ 64 → AllByRecursion NotOpen (flat_map (outcome_rows thread) (enumerate_from n os))
outcomes_not_open thread n [] h = tt
outcomes_not_open thread n (o ∷ os) h =
    all_append NotOpen (outcome_rows thread (n, o)) _ (outcome_not_open thread n o h) (outcomes_not_open thread (n + 1) os h)

threads_not_open : (n : ℕ) (outcomes : List (List Outcome)) → n + length outcomes ≤ 10 ^ 64 → AllByRecursion NotOpen (threads_rows n outcomes)
threads_not_open n [] h = tt
threads_not_open n (os ∷ outcomes) h =
    all_append NotOpen (thread_rows (n, os)) _ (outcomes_not_open n 0 os (omega arith)) (threads_not_open (n + 1) outcomes (omega arith))

closing_not_open : (closing : Closing) (kept : ℕ) → kept < 10 ^ 64 → AllByRecursion NotOpen (closing_rows closing ++ kept_rows kept)
unfolding IsOpenOf byte
closing_not_open Closed kept h = (no_open kept h, tt)
closing_not_open (ClosedByDrive unit event) kept h = (λ e. let b : ◌≡◌ {A = ℕ} 99 111 = ap byte e in omega arith, (no_open kept h, tt))
closing_not_open (ClosedWorn wanted have) kept h = (λ e. let b : ◌≡◌ {A = ℕ} 99 111 = ap byte e in omega arith, (no_open kept h, tt))

-- The last lines.

same_closing : (a b : Closing) (k m : ℕ) → ClosingFits a → ClosingFits b → closing_rows a ++ kept_rows k ≡ closing_rows b ++ kept_rows m → a ≡ b
unfolding letter byte words_of
same_closing Closed Closed k m hx hy e = refl
same_closing Closed (ClosedByDrive b_unit b_event) k m hx hy e = let h : ◌≡◌ {A = ℕ} 107 101 = ap letter e in absurd (omega arith)
same_closing Closed (ClosedWorn b_wanted b_have) k m hx hy e = let h : ◌≡◌ {A = ℕ} 107 119 = ap letter e in absurd (omega arith)
same_closing (ClosedByDrive a_unit a_event) Closed k m hx hy e = let h : ◌≡◌ {A = ℕ} 101 107 = ap letter e in absurd (omega arith)
same_closing (ClosedByDrive a_unit a_event) (ClosedByDrive b_unit b_event) k m hx hy e =
    let spelled : words_of (closing_rows (ClosedByDrive a_unit a_event)) ≡ words_of (closing_rows (ClosedByDrive b_unit b_event)) = ap words_of e in
    let firsts : decimal a_unit ≡ decimal b_unit = cc in
    let seconds : decimal a_event ≡ decimal b_event = cc in
    let first : a_unit ≡ b_unit = same_decimal a_unit b_unit hx.0 hy.0 firsts in
    let second : a_event ≡ b_event = same_decimal a_event b_event hx.1 hy.1 seconds in
    cc
same_closing (ClosedByDrive a_unit a_event) (ClosedWorn b_wanted b_have) k m hx hy e = let h : ◌≡◌ {A = ℕ} 101 119 = ap letter e in absurd (omega arith)
same_closing (ClosedWorn a_wanted a_have) Closed k m hx hy e = let h : ◌≡◌ {A = ℕ} 119 107 = ap letter e in absurd (omega arith)
same_closing (ClosedWorn a_wanted a_have) (ClosedByDrive b_unit b_event) k m hx hy e = let h : ◌≡◌ {A = ℕ} 119 101 = ap letter e in absurd (omega arith)
same_closing (ClosedWorn a_wanted a_have) (ClosedWorn b_wanted b_have) k m hx hy e =
    let spelled : words_of (closing_rows (ClosedWorn a_wanted a_have)) ≡ words_of (closing_rows (ClosedWorn b_wanted b_have)) = ap words_of e in
    let firsts : decimal a_wanted ≡ decimal b_wanted = cc in
    let seconds : decimal a_have ≡ decimal b_have = cc in
    let first : a_wanted ≡ b_wanted = same_decimal a_wanted b_wanted hx.0 hy.0 firsts in
    let second : a_have ≡ b_have = same_decimal a_have b_have hx.1 hy.1 seconds in
    cc

same_opening : (a b : ℕ × ℕ) (u v : List Row) → OpeningFits (Some a) → OpeningFits (Some b) → opening_rows (Some a) ++ u ≡ opening_rows (Some b) ++ v → a ≡ b
unfolding words_of
same_opening (a, c) (b, d) u v hx hy e =
    let spelled : words_of (opening_rows (Some (a, c))) ≡ words_of (opening_rows (Some (b, d))) = ap words_of e in
    let firsts : decimal a ≡ decimal b = cc in
    let seconds : decimal c ≡ decimal d = cc in
    let first : a ≡ b = same_decimal a b hx.0 hy.0 firsts in
    let second : c ≡ d = same_decimal c d hx.1 hy.1 seconds in
    cc

-- The transcript.

pub record TextFits (t : Transcript) : Type 0 where
  pub history : AllByRecursion RowFits t.history
  pub outcomes : AllByRecursion (AllByRecursion OutcomeFits) t.outcomes
  pub few : length t.outcomes ≤ 10 ^ 64
  pub short : AreShort t.outcomes
  pub opening : OpeningFits t.opening
  pub closing : ClosingFits t.closing
  pub kept : t.kept < 10 ^ 64

abbrev pub rows_after : Transcript → List Row
rows_after t = threads_rows 0 t.outcomes ++ last_rows t

plain_after : (t : Transcript) → TextFits t → AllByRecursion IsPlainRow (rows_after t)
plain_after t fits = all_append IsPlainRow (threads_rows 0 t.outcomes) (last_rows t)
    (plain_threads 0 t.outcomes (omega (arith, fits.few)) fits.short fits.outcomes) (plain_last t fits.opening fits.closing fits.kept)

same_after : (t u : Transcript) → TextFits t → TextFits u → text_of t ≡ text_of u → rows_after t ≡ rows_after u
same_after t u ft fu e =
    let history : Transcript → List ℕ = λ w. flat_map history_line (enumerate_from 0 w.history) in
    let split : (w : Transcript) → text_of w ≡ history w
    ++ (flat_map thread_text (enumerate_from 0 w.outcomes) ++ (opening_line w.opening ++ (closing_line w.closing ++ kept_line w.kept))) =
    λ w. simp append_assoc in
    let parts : (w : Transcript) → text_of w ≡ history w ++ flat_map row_text (rows_after w) = λ w. split w ∙ ap (λ x. history w ++ x) (rows_text w) in
    let first : t.history ≡ u.history = same_history t u ft.history fu.history e in
    let begun : history u ≡ history t = ap (λ h. flat_map history_line (enumerate_from 0 h)) (sym first) in
    let joined : history t ++ flat_map row_text (rows_after t) ≡ history t ++ flat_map row_text (rows_after u) = sym (parts t) ∙ e ∙ parts u
    ∙ ap (λ x. x ++ flat_map row_text (rows_after u)) begun in
    same_rows (rows_after t) (rows_after u) (plain_after t ft) (plain_after u fu) (append_cancel_left (history t) _ _ joined)

not_opened : (t : Transcript) → TextFits t → t.opening ≡ None → AllByRecursion NotOpen (rows_after t)
not_opened t fits none =
    subst (λ o. AllByRecursion NotOpen (threads_rows 0 t.outcomes ++ (opening_rows o ++ (closing_rows t.closing ++ kept_rows t.kept)))) (sym none)
    (all_append NotOpen (threads_rows 0 t.outcomes) (closing_rows t.closing ++ kept_rows t.kept) (threads_not_open 0 t.outcomes (omega (arith, fits.few)))
    (closing_not_open t.closing t.kept fits.kept))

opened : (t : Transcript) (e : ℕ × ℕ) → t.opening ≡ Some e → t.outcomes ≡ []
    → rows_after t ≡ opening_rows (Some e) ++ (closing_rows t.closing ++ kept_rows t.kept)
opened t e is none = ap (λ os. threads_rows 0 os ++ last_rows t) none ∙ ap (λ o. opening_rows o ++ (closing_rows t.closing ++ kept_rows t.kept)) is

-- that a transcript did open, and one did not, their texts tell
openings_apart : (t u : Transcript) (e : ℕ × ℕ) → TextFits t → t.opening ≡ None → u.opening ≡ Some e → u.outcomes ≡ [] → rows_after t ≡ rows_after u → ⊥
unfolding IsOpenOf
openings_apart t u e ft none some empty same = (subst (AllByRecursion NotOpen) (same ∙ opened u e some empty) (not_opened t ft none)).0 refl

abbrev made : List HistoryLine → List (List Outcome) → Option (ℕ × ℕ) → Closing → ℕ → Transcript
made history outcomes opening closing kept = record { history = history; outcomes = outcomes; opening = opening; closing = closing; kept = kept }

all_same : (t u : Transcript) → t.history ≡ u.history → t.outcomes ≡ u.outcomes → t.opening ≡ u.opening → t.closing ≡ u.closing → t.kept ≡ u.kept → t ≡ u
all_same t u a b c d e = let same : made t.history t.outcomes t.opening t.closing t.kept ≡ made u.history u.outcomes u.opening u.closing u.kept = cc in same

module _ (script : List (List Command)) (t u : Transcript) (ft : TextFits t) (fu : TextFits u) (e : text_of t ≡ text_of u) where
  by_opening : (o p : Option (ℕ × ℕ)) → t.opening ≡ o → u.opening ≡ p → Ran script t o → Ran script u p → t ≡ u
  by_opening None None to uo rt ru =
      let rows : (w : Transcript) → w.opening ≡ None → rows_after w ≡ threads_rows 0 w.outcomes ++ (closing_rows w.closing ++ kept_rows w.kept) =
      λ w none. ap (λ o. threads_rows 0 w.outcomes ++ (opening_rows o ++ (closing_rows w.closing ++ kept_rows w.kept))) none in
      let joined = sym (rows t to) ∙ same_after t u ft fu e ∙ rows u uo in
      let parts = same_threads 0 t.outcomes u.outcomes (closing_rows t.closing ++ kept_rows t.kept) (closing_rows u.closing ++ kept_rows u.kept)
      (omega (arith, ft.few)) (rt ∙ sym ru) ft.short ft.outcomes fu.outcomes
      (λ c d h. closing_not c d t.closing t.kept h) (λ c d h. closing_not c d u.closing u.kept h) joined in
      all_same t u (same_history t u ft.history fu.history e) parts.0 (to ∙ sym uo)
      (same_closing t.closing u.closing t.kept u.kept ft.closing fu.closing parts.1) (same_kept t u ft.kept fu.kept e)
  by_opening None (Some f) to uo rt ru = absurd (openings_apart t u f ft to uo ru.0 (same_after t u ft fu e))
  by_opening (Some f) None to uo rt ru = absurd (openings_apart u t f fu uo to rt.0 (sym (same_after t u ft fu e)))
  by_opening (Some f) (Some g) to uo rt ru =
      let joined = sym (opened t f to rt.0) ∙ same_after t u ft fu e ∙ opened u g uo ru.0 in
      let event : f ≡ g = same_opening f g (closing_rows t.closing ++ kept_rows t.kept) (closing_rows u.closing ++ kept_rows u.kept)
      (subst OpeningFits to ft.opening) (subst OpeningFits uo fu.opening) joined in
      all_same t u (same_history t u ft.history fu.history e) (rt.0 ∙ sym ru.0) (to ∙ ap Some event ∙ sym uo) (rt.1 ∙ sym ru.1)
      (same_kept t u ft.kept fu.kept e)

  pub one_transcript : Ran script t t.opening → Ran script u u.opening → t ≡ u
  one_transcript rt ru = by_opening t.opening u.opening refl refl rt ru

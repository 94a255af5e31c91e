-- The lines of a transcript's text.
use Rattle.std.proofs.Common.{◌≡◌, ◌≢◌, ℕ, ◌+◌, ◌^◌, ◌<◌, List, [], ◌∷◌, ◌++◌, Option, Some, None, codes, refl, sym, ap, subst, ◌∙◌, append_assoc, arith}
use Rattle.std.specs.List.{AllByRecursion, flat_map, enumerate_from}
use Rattle.std.specs.Fmt.{decimal}
use Rattle.std.proofs.lemmas.List.{append_cancel_left, append_cancel_right}
use Rattle.pblk_model.specs.Text.{HistoryLine, Outcome, Silent, Words, Flushed, Drive, Worn, Closing, Closed, ClosedByDrive, ClosedWorn, Transcript, word_text, spaced, history_line, outcome_line, thread_text, opening_line, closing_line, kept_line, text_of}
use Rattle.pblk_laws.proofs.TextCuts.{Lacks, cut_last, Ended, Ended-append, Ended-by, lacks_decimal, same_decimal, cut_decimal}

-- what holds of the empty text, of a text and one behind it, and of each piece, holds of the pieces
-- together
flat_map_holds : {X : Type 0} (P : List ℕ → Type 0) (f : X → List ℕ) → P [] → ((u v : List ℕ) → P u → P v → P (u ++ v)) → ((x : X) → P (f x)) → (xs : List X)
    → P (flat_map f xs)
flat_map_holds P f none both each [] = none
flat_map_holds P f none both each (x ∷ xs) = both (f x) (flat_map f xs) (each x) (flat_map_holds P f none both each xs)

-- What follows the history begins with no `h`.

abbrev pub NoHistory : List ℕ → Type 0
NoHistory [] = Unit {0}
NoHistory (x ∷ xs) = x ≢ 104

NoHistory-append : (u v : List ℕ) → NoHistory u → NoHistory v → NoHistory (u ++ v)
NoHistory-append [] v h k = k
NoHistory-append (x ∷ u) v h k = h

NoHistory-outcome : (thread : ℕ) (o : ℕ × Outcome) → NoHistory (outcome_line thread o)
NoHistory-outcome thread (command, Silent) = tt
NoHistory-outcome thread (command, Words front words) = λ e. omega arith
NoHistory-outcome thread (command, Flushed front) = λ e. omega arith
NoHistory-outcome thread (command, Drive unit event) = λ e. omega arith
NoHistory-outcome thread (command, Worn wanted have) = λ e. omega arith

NoHistory-thread : (t : ℕ × List Outcome) → NoHistory (thread_text t)
NoHistory-thread t = flat_map_holds NoHistory (outcome_line t.0) tt NoHistory-append (NoHistory-outcome t.0) (enumerate_from 0 t.1)

NoHistory-opening : (o : Option (ℕ × ℕ)) → NoHistory (opening_line o)
NoHistory-opening None = tt
NoHistory-opening (Some e) = λ e. omega arith

NoHistory-closing : (c : Closing) → NoHistory (closing_line c)
NoHistory-closing Closed = tt
NoHistory-closing (ClosedByDrive unit event) = λ e. omega arith
NoHistory-closing (ClosedWorn wanted have) = λ e. omega arith

abbrev after_history : Transcript → List ℕ
after_history t = flat_map thread_text (enumerate_from 0 t.outcomes) ++ (opening_line t.opening ++ (closing_line t.closing ++ kept_line t.kept))

NoHistory-after : (t : Transcript) → NoHistory (after_history t)
NoHistory-after t =
    NoHistory-append _ _ (flat_map_holds NoHistory thread_text tt NoHistory-append NoHistory-thread (enumerate_from 0 t.outcomes))
    (NoHistory-append _ _ (NoHistory-opening t.opening) (NoHistory-append _ (kept_line t.kept) (NoHistory-closing t.closing) (λ e. omega arith)))

-- The lines of the history.

pub record RowFits (row : HistoryLine) : Type 0 where
  pub thread : row.thread < 10 ^ 64
  pub lba : row.lba < 10 ^ 64
  pub tag : row.tag < 10 ^ 64

abbrev first_line : ℕ → HistoryLine → List ℕ → List ℕ
first_line n row rest = 104 ∷ (32 ∷ (decimal n ++ 32 ∷ (decimal row.thread ++ 32 ∷ (decimal row.lba ++ 32 ∷ (decimal row.tag ++ 10 ∷ rest)))))

numbers_joined : (a b c d rest : List ℕ)
    → (((32 ∷ a) ++ ((32 ∷ b) ++ ((32 ∷ c) ++ ((32 ∷ d) ++ [])))) ++ 10 ∷ []) ++ rest ≡ 32 ∷ (a ++ 32 ∷ (b ++ 32 ∷ (c ++ 32 ∷ (d ++ 10 ∷ rest))))
numbers_joined a b c d rest = simp append_assoc

first_line_is : (n : ℕ) (row : HistoryLine) (rest : List ℕ) → history_line (n, row) ++ rest ≡ first_line n row rest
first_line_is n row rest = ap (λ line. 104 ∷ line) (numbers_joined (decimal n) (decimal row.thread) (decimal row.lba) (decimal row.tag) rest)

first_line_of : (n : ℕ) (row : HistoryLine) (rows : List HistoryLine) (rest : List ℕ)
    → flat_map history_line (enumerate_from n (row ∷ rows)) ++ rest ≡ first_line n row (flat_map history_line (enumerate_from (n + 1) rows) ++ rest)
first_line_of n row rows rest = append_assoc (history_line (n, row)) (flat_map history_line (enumerate_from (n + 1) rows)) rest ∙ first_line_is n row _

abbrev pub row_of : ℕ → ℕ → ℕ → HistoryLine
row_of thread lba tag = record { thread = thread; lba = lba; tag = tag }

same_row : (a b : HistoryLine) → a.thread ≡ b.thread → a.lba ≡ b.lba → a.tag ≡ b.tag → a ≡ b
same_row a b h k l = let same : row_of a.thread a.lba a.tag ≡ row_of b.thread b.lba b.tag = cc in same

same_first : (n : ℕ) (a b : HistoryLine) (u v : List ℕ) → RowFits a → RowFits b → first_line n a u ≡ first_line n b v → (a ≡ b) × (u ≡ v)
same_first n a b u v fa fb e =
    let e0 : decimal n ++ 32 ∷ (decimal a.thread ++ 32 ∷ (decimal a.lba ++ 32 ∷ (decimal a.tag ++ 10 ∷ u))) ≡ decimal n
    ++ 32 ∷ (decimal b.thread ++ 32 ∷ (decimal b.lba ++ 32 ∷ (decimal b.tag ++ 10 ∷ v))) = cc in
    let e1 : 32 ∷ (decimal a.thread ++ 32 ∷ (decimal a.lba ++ 32 ∷ (decimal a.tag ++ 10 ∷ u))) ≡ 32 ∷
    (decimal b.thread ++ 32 ∷ (decimal b.lba ++ 32 ∷ (decimal b.tag ++ 10 ∷ v))) = append_cancel_left (decimal n) _ _ e0 in
    let e2 : decimal a.thread ++ 32 ∷ (decimal a.lba ++ 32 ∷ (decimal a.tag ++ 10 ∷ u)) ≡ decimal b.thread
    ++ 32 ∷ (decimal b.lba ++ 32 ∷ (decimal b.tag ++ 10 ∷ v)) = cc in
    let thread = cut_decimal 32 a.thread b.thread _ _ (omega arith) fa.thread fb.thread e2 in
    let lba = cut_decimal 32 a.lba b.lba _ _ (omega arith) fa.lba fb.lba thread.1 in
    let tag = cut_decimal 10 a.tag b.tag u v (omega arith) fa.tag fb.tag lba.1 in
    (same_row a b thread.0 lba.0 tag.0, tag.1)

pub same_rows : (n : ℕ) (a b : List HistoryLine) (u v : List ℕ) → AllByRecursion RowFits a → AllByRecursion RowFits b → NoHistory u → NoHistory v
    → flat_map history_line (enumerate_from n a) ++ u ≡ flat_map history_line (enumerate_from n b) ++ v → a ≡ b
same_rows n [] [] u v fa fb hu hv e = refl
same_rows n [] (y ∷ b) u v fa fb hu hv e = absurd (subst NoHistory (e ∙ first_line_of n y b v) hu refl)
same_rows n (x ∷ a) [] u v fa fb hu hv e = absurd (subst NoHistory (sym e ∙ first_line_of n x a u) hv refl)
same_rows n (x ∷ a) (y ∷ b) u v fa fb hu hv e =
    let first = same_first n x y _ _ fa.0 fb.0 (sym (first_line_of n x a u) ∙ e ∙ first_line_of n y b v) in
    let more = same_rows (n + 1) a b u v fa.1 fb.1 hu hv first.1 in
    cc

pub same_history : (t u : Transcript) → AllByRecursion RowFits t.history → AllByRecursion RowFits u.history → text_of t ≡ text_of u → t.history ≡ u.history
same_history t u ft fu e =
    let split : (w : Transcript) → text_of w ≡ flat_map history_line (enumerate_from 0 w.history) ++ after_history w = λ w. simp append_assoc in
    same_rows 0 t.history u.history (after_history t) (after_history u) ft fu (NoHistory-after t) (NoHistory-after u) (sym (split t) ∙ e ∙ split u)

-- The last line.

Ended-outcome : (thread : ℕ) (o : ℕ × Outcome) → Ended 10 (outcome_line thread o)
Ended-outcome thread (command, Silent) = tt
Ended-outcome thread (command, Words front words) =
    Ended-by 10 (codes "r" ++ spaced (thread ∷ command ∷ front ∷ []) ++ flat_map (λ w. codes " " ++ word_text w) words)
Ended-outcome thread (command, Flushed front) = Ended-by 10 (codes "f" ++ spaced (thread ∷ command ∷ front ∷ []))
Ended-outcome thread (command, Drive unit event) = Ended-by 10 (codes "e" ++ spaced (thread ∷ command ∷ unit ∷ event ∷ []))
Ended-outcome thread (command, Worn wanted have) = Ended-by 10 (codes "worn" ++ spaced (thread ∷ command ∷ wanted ∷ have ∷ []))

Ended-thread : (t : ℕ × List Outcome) → Ended 10 (thread_text t)
Ended-thread t = flat_map_holds (Ended 10) (outcome_line t.0) tt (Ended-append 10) (Ended-outcome t.0) (enumerate_from 0 t.1)

Ended-history : (row : ℕ × HistoryLine) → Ended 10 (history_line row)
Ended-history row = Ended-by 10 (codes "h" ++ spaced (row.0 ∷ row.1.thread ∷ row.1.lba ∷ row.1.tag ∷ []))

Ended-opening : (o : Option (ℕ × ℕ)) → Ended 10 (opening_line o)
Ended-opening None = tt
Ended-opening (Some e) = Ended-by 10 (codes "e open" ++ spaced (e.0 ∷ e.1 ∷ []))

Ended-closing : (c : Closing) → Ended 10 (closing_line c)
Ended-closing Closed = tt
Ended-closing (ClosedByDrive unit event) = Ended-by 10 (codes "e close" ++ spaced (unit ∷ event ∷ []))
Ended-closing (ClosedWorn wanted have) = Ended-by 10 (codes "worn close" ++ spaced (wanted ∷ have ∷ []))

abbrev before_kept : Transcript → List ℕ
before_kept t = flat_map history_line (enumerate_from 0 t.history) ++ flat_map thread_text (enumerate_from 0 t.outcomes) ++ opening_line t.opening
    ++ closing_line t.closing

Ended-before : (t : Transcript) → Ended 10 (before_kept t)
Ended-before t =
    let history = flat_map history_line (enumerate_from 0 t.history) in
    let threads = flat_map thread_text (enumerate_from 0 t.outcomes) in
    Ended-append 10 (history ++ threads ++ opening_line t.opening) (closing_line t.closing)
    (Ended-append 10 (history ++ threads) (opening_line t.opening)
    (Ended-append 10 history threads
    (flat_map_holds (Ended 10) history_line tt (Ended-append 10) Ended-history (enumerate_from 0 t.history))
    (flat_map_holds (Ended 10) thread_text tt (Ended-append 10) Ended-thread (enumerate_from 0 t.outcomes)))
    (Ended-opening t.opening))
    (Ended-closing t.closing)

-- `kept` and its number, without the newline
abbrev kept_words : ℕ → List ℕ
kept_words n = 107 ∷ (101 ∷ (112 ∷ (116 ∷ (32 ∷ decimal n))))

text_parts : (t : Transcript) → text_of t ≡ (before_kept t ++ kept_words t.kept) ++ 10 ∷ []
text_parts t = simp append_assoc

Lacks-kept_words : (n : ℕ) → n < 10 ^ 64 → Lacks 10 (kept_words n)
Lacks-kept_words n h = (λ e. omega arith, (λ e. omega arith, (λ e. omega arith, (λ e. omega arith, (λ e. omega arith, lacks_decimal 10 n (omega arith) h)))))

pub same_kept : (t u : Transcript) → t.kept < 10 ^ 64 → u.kept < 10 ^ 64 → text_of t ≡ text_of u → t.kept ≡ u.kept
same_kept t u ht hu e =
    let words : before_kept t ++ kept_words t.kept ≡ before_kept u ++ kept_words u.kept =
    append_cancel_right _ _ (10 ∷ []) (sym (text_parts t) ∙ e ∙ text_parts u) in
    let last : kept_words t.kept ≡ kept_words u.kept =
    cut_last 10 (before_kept t) (before_kept u) _ _ (Ended-before t) (Ended-before u) (Lacks-kept_words t.kept ht) (Lacks-kept_words u.kept hu) words in
    same_decimal t.kept u.kept ht hu (cc)

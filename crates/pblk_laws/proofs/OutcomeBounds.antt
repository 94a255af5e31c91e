-- How large the numbers of a run's outcomes are.
use Rattle.std.proofs.Common.{◌≡◌, ℕ, zero, suc, ◌+◌, ◌/◌, ◌^◌, ◌<◌, ◌≤◌, List, [], ◌∷◌, ◌++◌, map, length, Option, Some, None, refl, sym, ap, subst, ◌∙◌, arith, inl, inr}
use Rattle.std.specs.List.{AllByRecursion, slice_get, flat_map, zip, sum_by}
use Rattle.std.specs.Option.{unwrap_or}
use Rattle.std.specs.Int.{w64}
use Rattle.std.specs.Str.{bytes_eq}
use Rattle.std.proofs.lemmas.Slice.Eq.{bytes_eq-Decides}
use Rattle.std.proofs.lemmas.Bool.{cases_Bool}
use Rattle.std.proofs.lemmas.List.{length-map}
use Rattle.std.proofs.lemmas.List.Sums.{sum_by-cons}
use Rattle.pblk_model.specs.declared.script.Command.{Command}
use Rattle.pblk_model.specs.declared.script.Command.TheVariants.{Write, Read, Flush, Post, Await}
use Rattle.pblk_model.specs.Bytes.{number_at}
use Rattle.pblk_model.specs.History.{tag_sector}
use Rattle.pblk_model.specs.Script.{ScriptFits}
use Rattle.pblk_model.specs.Text.{Outcome, Silent, Words, Flushed, Drive, Worn, Closing, Closed, ClosedByDrive, ClosedWorn, Transcript, word_of}
use Rattle.pblk_model.specs.Transcript.{Moment, now, Allowed, Ran, IsClosing, IsTranscript, answered, outcome_event, opening_event, closing_event}
use Rattle.pblk_laws.proofs.RunBounds.{history_fits, history_short, kept_fits}
use Rattle.pblk_laws.proofs.OutcomeRows.{WordFits, OutcomeFits, OpeningFits, ClosingFits, AreShort}
use Rattle.pblk_laws.proofs.OneTranscript.{TextFits}
use Rattle.pblk_model.proofs.Lists.{all_front}
use Rattle.pblk_model.proofs.Parts.{all_by_get, all_get}
use Rattle.pblk_model.proofs.BytesLemmas.{tag_below}

-- The tag of a sector has 64 bits.

pub word_fits : (sector : List ℕ) → WordFits (word_of sector)
unfolding tag_sector
word_fits sector =
    let tag = number_at w64 0 sector in
    elim (cases_Bool (bytes_eq sector (tag_sector (length sector) tag))) [
      | inl e ↦
          let same : sector ≡ tag_sector (length sector) tag = (bytes_eq-Decides sector (tag_sector (length sector) tag)).0 e in
          let low : tag < 2 ^ 64 = subst (λ xs. number_at w64 0 xs < 2 ^ 64) (sym same) (tag_below (length sector / 8) tag) in
          rw e (omega arith)
      | inr e ↦ rw e tt
    ]

words_fit : (sectors : List (List ℕ)) → AllByRecursion WordFits (map word_of sectors)
words_fit [] = tt
words_fit (sector ∷ sectors) = (word_fits sector, words_fit sectors)

-- The outcome of one command.

EventFits : ℕ × ℕ → Type 0
EventFits e = (e.0 < 2 ^ 32) × (e.1 < 2 ^ 64)

outcome_fits : (m : Moment) (command : Command) (o : Outcome) (n : ℕ) → now m ≤ n → n < 10 ^ 64 → AllByRecursion EventFits (outcome_event o)
    → Allowed m command o → OutcomeFits o
unfolding EventFits
outcome_fits m (Write lba count tag) Silent n later few named h = tt
outcome_fits m (Write lba count tag) (Words front words) n later few named h = absurd h
outcome_fits m (Write lba count tag) (Flushed front) n later few named h = absurd h
outcome_fits m (Write lba count tag) (Drive unit event) n later few named h = (let fits = named.0.0 in omega arith, let fits = named.0.1 in omega arith)
outcome_fits m (Write lba count tag) (Worn wanted have) n later few named h = (let fits = h.1 in omega arith, let fits = h in omega (arith, fits.0, fits.1))
outcome_fits m (Read lba count) Silent n later few named h = absurd h
outcome_fits m (Read lba count) (Words front words) n later few named h =
    (let low = h.1 in omega arith, subst (AllByRecursion WordFits) (sym h.2) (words_fit _))
outcome_fits m (Read lba count) (Flushed front) n later few named h = absurd h
outcome_fits m (Read lba count) (Drive unit event) n later few named h = (let fits = named.0.0 in omega arith, let fits = named.0.1 in omega arith)
outcome_fits m (Read lba count) (Worn wanted have) n later few named h = absurd h
outcome_fits m Flush Silent n later few named h = absurd h
outcome_fits m Flush (Words front words) n later few named h = absurd h
outcome_fits m Flush (Flushed front) n later few named h = let low = h.1 in omega arith
outcome_fits m Flush (Drive unit event) n later few named h = (let fits = named.0.0 in omega arith, let fits = named.0.1 in omega arith)
outcome_fits m Flush (Worn wanted have) n later few named h = (let fits = h.1 in omega arith, let fits = h in omega (arith, fits.0, fits.1))
outcome_fits m (Post name) Silent n later few named h = tt
outcome_fits m (Post name) (Words front words) n later few named h = absurd h
outcome_fits m (Post name) (Flushed front) n later few named h = absurd h
outcome_fits m (Post name) (Drive unit event) n later few named h = absurd h
outcome_fits m (Post name) (Worn wanted have) n later few named h = absurd h
outcome_fits m (Await name) Silent n later few named h = tt
outcome_fits m (Await name) (Words front words) n later few named h = absurd h
outcome_fits m (Await name) (Flushed front) n later few named h = absurd h
outcome_fits m (Await name) (Drive unit event) n later few named h = absurd h
outcome_fits m (Await name) (Worn wanted have) n later few named h = absurd h

-- An outcome has its command.

partner : (outcomes : List (List Outcome)) (script : List (List Command)) (i : ℕ) (os : List Outcome) → map length outcomes ≡ map length script
    → slice_get outcomes i ≡ Some os
    → (cs : List Command) × (slice_get script i ≡ Some cs) × (length os ≡ length cs)
partner [] script i os e f = absurd (cc)
partner (x ∷ outcomes) [] i os e f = absurd (cc)
partner (x ∷ outcomes) (cs ∷ script) zero os e f = let same : x ≡ os = cc in let long : length x ≡ length cs = cc in (cs, refl, ap length (sym same) ∙ long)
partner (x ∷ outcomes) (cs ∷ script) (suc i) os e f = let more : map length outcomes ≡ map length script = cc in partner outcomes script i os more f

paired : (cs : List Command) (os : List Outcome) (c : ℕ) (o : Outcome) → length os ≡ length cs → slice_get os c ≡ Some o
    → (command : Command) × (slice_get (zip cs os) c ≡ Some (command, o))
paired cs [] c o e f = absurd (cc)
paired [] (x ∷ os) c o e f = absurd (omega arith)
paired (k ∷ cs) (x ∷ os) zero o e f = let same : x ≡ o = cc in (k, ap (λ y. Some (k, y)) same)
paired (k ∷ cs) (x ∷ os) (suc c) o e f = paired cs os c o (omega arith) f

all_flat : {X Y : Type 0} (P : Y → Type 0) (f : X → List Y) (xs : List X) → AllByRecursion P (flat_map f xs) → AllByRecursion (λ x. AllByRecursion P (f x)) xs
all_flat P f [] h = tt
all_flat P f (x ∷ xs) h = let parts = all_front P (f x) (flat_map f xs) h in (parts.0, all_flat P f xs parts.1)

each_flat : (outcomes : List (List Outcome)) → AllByRecursion (λ os. AllByRecursion EventFits (flat_map outcome_event os)) outcomes
    → AllByRecursion (AllByRecursion (λ o. AllByRecursion EventFits (outcome_event o))) outcomes
each_flat [] h = tt
each_flat (os ∷ outcomes) h = (all_flat EventFits outcome_event os h.0, each_flat outcomes h.1)

opening_fits : (o : Option (ℕ × ℕ)) → AllByRecursion EventFits (opening_event o) → OpeningFits o
unfolding EventFits
opening_fits None h = tt
opening_fits (Some e) h = (let fits = h.0.0 in omega arith, let fits = h.0.1 in omega arith)

closing_fits : (c : Closing) → AllByRecursion EventFits (closing_event c) → IsClosing c → ClosingFits c
unfolding EventFits
closing_fits Closed h shut = tt
closing_fits (ClosedByDrive unit event) h shut = (let fits = h.0.0 in omega arith, let fits = h.0.1 in omega arith)
closing_fits (ClosedWorn wanted have) h shut = (let fits = shut.1 in omega arith, let low = shut.0 in let fits = shut.1 in omega arith)

short_by : (outcomes : List (List Outcome)) (script : List (List Command)) (n : ℕ) → map length outcomes ≡ map length script → sum_by length script ≤ n
    → n ≤ 10 ^ 64 → AreShort outcomes
short_by [] script n e few low = tt
short_by (os ∷ outcomes) [] n e few low = absurd (cc)
short_by (os ∷ outcomes) (cs ∷ script) n e few low =
    let long : length os ≡ length cs = cc in
    let more : map length outcomes ≡ map length script = cc in
    let total = sum_by-cons length cs script in
    (omega (arith, long, total), short_by outcomes script n more (omega (arith, total)) low)

module _ (size capacity : ℕ) (script : List (List Command)) (before : List (List ℕ)) (t : Transcript) (fits : ScriptFits capacity script)
    (run : IsTranscript size script before t) where
  middle : AllByRecursion (AllByRecursion (λ o. AllByRecursion EventFits (outcome_event o))) t.outcomes
  unfolding EventFits
  middle =
      let parts = all_front EventFits (opening_event t.opening ++ flat_map (flat_map outcome_event) t.outcomes) (closing_event t.closing) run.numbers in
      let first = all_front EventFits (opening_event t.opening) (flat_map (flat_map outcome_event) t.outcomes) parts.0 in
      each_flat t.outcomes (all_flat EventFits (flat_map outcome_event) t.outcomes first.1)

  ran_outcomes : map length t.outcomes ≡ map length script → AllByRecursion (AllByRecursion OutcomeFits) t.outcomes
  ran_outcomes lengths = all_by_get (AllByRecursion OutcomeFits) t.outcomes (λ i os there. all_by_get OutcomeFits os (λ c o here.
      let cs = partner t.outcomes script i os lengths there in
      let pair = paired cs.0 os c o cs.2 here in
      let answer : slice_get (answered script t i) c ≡ Some (pair.0, o) =
      ap (λ p. slice_get (zip (unwrap_or p []) (unwrap_or (slice_get t.outcomes i) [])) c) cs.1 ∙ ap (λ p. slice_get (zip cs.0 (unwrap_or p [])) c) there
      ∙ pair.1 in
      let event = all_get (λ p. AllByRecursion EventFits (outcome_event p)) os c o
      (all_get (AllByRecursion (λ p. AllByRecursion EventFits (outcome_event p))) t.outcomes i os middle there) here in
      outcome_fits (record { size = size; sectors = before; script = script; transcript = t; seen = run.seen; thread = i; command = c }) pair.0 o
      (length t.history) (run.within i (c + 1)) (history_short size capacity script before t fits run) event (run.allowed i c (pair.0, o) answer)))

  outcomes_by : (o : Option (ℕ × ℕ)) → Ran script t o
      → AllByRecursion (AllByRecursion OutcomeFits) t.outcomes × (length t.outcomes ≤ 10 ^ 64) × AreShort t.outcomes
  outcomes_by None ran =
      let count : length t.outcomes ≡ length script = sym (length-map t.outcomes length) ∙ ap length ran ∙ length-map script length in
      (ran_outcomes ran, omega (arith, count, fits.threads), short_by t.outcomes script 200000 ran fits.commands (omega arith))
  outcomes_by (Some e) ran = (
    subst (AllByRecursion (AllByRecursion OutcomeFits)) (sym ran.0) tt,
    omega (arith, ap length ran.0),
    subst AreShort (sym ran.0) tt,
  )

  pub text_fits : TextFits t
  unfolding EventFits
  text_fits =
      let parts = all_front EventFits (opening_event t.opening ++ flat_map (flat_map outcome_event) t.outcomes) (closing_event t.closing) run.numbers in
      let first = all_front EventFits (opening_event t.opening) (flat_map (flat_map outcome_event) t.outcomes) parts.0 in
      let threads = outcomes_by t.opening run.ran in
      record {
        history = history_fits size capacity script before t fits run;
        outcomes = threads.0;
        few = threads.1;
        short = threads.2;
        opening = opening_fits t.opening first.0;
        closing = closing_fits t.closing parts.1 run.closing;
        kept = kept_fits size capacity script before t fits run;
      }

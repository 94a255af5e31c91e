-- What an author, a note and a token keep between two calls.
use Rattle.std.proofs.Common.{◌≡◌, ◌≢◌, ⊎_elim, ℕ, suc, ◌+◌, ◌-◌, ◌%◌, ◌^◌, ◌<◌, ◌≤◌, None, Option, List, [], ◌∷◌, ◌++◌, append-nil, length, length-append, refl, sym, ap, ◌∙◌, subst, arith}
use Rattle.std.specs.List.{range_with_len}
use Rattle.std.proofs.Math.Nat.{mod-add-mod}
use Rattle.std.proofs.lemmas.Bool.{cases_eq}
use Rattle.std.proofs.lemmas.List.Elements.{Contains-append_left}
use mathlib.Core.List.{IsPrefix}
use base.Growing.{prefix_refl, prefix_trans}
use Rattle.atomic_table.specs.Seated.{TableId}
use Rattle.pblk_model.specs.Shape.{units}
use Rattle.pblk_world.specs.Events.{Maker, Event, Logged}
use Rattle.pblk_world.specs.Legal.{IsAllowed}
use Rattle.chronicle.specs.Views.{Part, Past, View}
use Rattle.chronicle.specs.Inside.{IsAtRest, IsWriter, IsBystander}
use Rattle.chronicle.specs.Prefixes.{Prefixes, either, logs_of, longer_of, ArePrefixes, AreLegalLogs, naming, with_event}
use Rattle.chronicle.specs.Steps.{seated, joined, appended}
use Rattle.chronicle.proofs.PrefixLemmas.{longer_at, longer_left, longer_right, own_more, others_same, begins_length}
use Rattle.chronicle.proofs.Worlds.{more_legal}

pub still_begun : (a b c : Prefixes) → ArePrefixes a b → ArePrefixes b c → ArePrefixes a c
still_begun a b c h k = record { each = λ author. prefix_trans (logs_of a author) (logs_of b author) (logs_of c author) (h.each author) (k.each author) }

pub left_stays : (xss yss : Prefixes) (author : ℕ) → IsPrefix (logs_of yss author) (logs_of xss author)
    → logs_of (longer_of xss yss) author ≡ logs_of xss author
left_stays xss yss author h = longer_at xss yss author ∙ longer_left (logs_of xss author) (logs_of yss author) h

pub right_stays : (xss yss : Prefixes) (author : ℕ) → IsPrefix (logs_of xss author) (logs_of yss author)
    → logs_of (longer_of xss yss) author ≡ logs_of yss author
right_stays xss yss author h = longer_at xss yss author ∙ longer_right (logs_of xss author) (logs_of yss author) h

-- with an event more nothing that was known is lost
pub event_keeps : (logs : Prefixes) (author : ℕ) (e : Event) → author < length logs → ArePrefixes logs (with_event logs author e)
event_keeps logs author e within = record {
  each = λ other. ⊎_elim
      (λ (is : other ≡ author). subst (λ a. IsPrefix (logs_of logs a) (logs_of (with_event logs author e) a)) (sym is)
      (naming logs e ∷ [], sym (own_more logs author e within)))
      (λ (apart : other ≢ author). subst (λ xs. IsPrefix (logs_of logs other) xs) (sym (others_same logs author e other apart))
      (prefix_refl (logs_of logs other)))
      (cases_eq other author);
}

pub appended_rests : (table table' : TableId) (v w : View) (author : ℕ) (e : Event) → table' ≡ table → w ≡ appended v author e
    → author < length v.mine.known → IsAllowed v.mine.past.image author e (logs_of v.mine.known) → IsAtRest table v → IsAtRest table' w
appended_rests table table' v w author e same is within allowed h = subst (λ (x : TableId × View). IsAtRest x.0 x.1) (λ i. (sym same i, sym is i))
    (record {
      seated = λ i. appended v author e;
      words = h.words;
      known = record {
        legal = more_legal v.mine.past.image v.mine.known author e within allowed h.known.legal;
        begun = still_begun v.mine.past.logs v.mine.known (with_event v.mine.known author e) h.known.begun (event_keeps v.mine.known author e within);
      };
    })

-- one event more, modulo 2^64
pub next_count : (count long before : ℕ) → before ≤ long → count ≡ (long - before) % 2 ^ 64 → (count + 1) % 2 ^ 64 ≡ (long + 1 - before) % 2 ^ 64
next_count count long before le is =
    ap (λ n. (n + 1) % 2 ^ 64) is ∙ mod-add-mod (long - before) (2 ^ 64) 1
    ∙ ap (λ n. n % 2 ^ 64) (let same : long - before + 1 ≡ long + 1 - before = omega arith in same)

pub appended_writer : (table table' : TableId) (v w : View) (number count : ℕ) (e : Event) → table' ≡ table → w ≡ appended v number e
    → IsAllowed v.mine.past.image number e (logs_of v.mine.known) → IsWriter table v number count → IsWriter table' w number ((count + 1) % 2 ^ 64)
appended_writer table table' v w number count e same is allowed h =
    let authors = h.rests.known.legal.authors in
    let low = h.within in
    let within : number < length v.mine.known = omega arith in
    let next = next_count count (length (logs_of v.mine.known number)) (length (logs_of v.mine.past.logs number))
    (begins_length (logs_of v.mine.past.logs number) (logs_of v.mine.known number) (h.rests.known.begun.each number)) h.counted in
    subst (λ (x : TableId × View). IsWriter x.0 x.1 number ((count + 1) % 2 ^ 64)) (λ i. (sym same i, sym is i))
    (record {
      rests = appended_rests table table v (appended v number e) number e refl refl within allowed h.rests;
      owns = h.owns;
      within = h.within;
      counted = next ∙ ap (λ n. (n - length (logs_of v.mine.past.logs number)) % 2 ^ 64)
          (sym (ap length (own_more v.mine.known number e within) ∙ length-append (logs_of v.mine.known number) (naming v.mine.known e ∷ [])));
    })

-- a seat with other logs and other workers, which knows as much
pub kept_rests : (table table' : TableId) (v w : View) (owned : List ℕ) (makers : List Maker) (spare : Option ℕ) → table' ≡ table
    → w ≡ seated (record v.mine { owned = owned; makers = makers; spare = spare }) → IsAtRest table v → IsAtRest table' w
kept_rests table table' v w owned makers spare same is h = subst (λ (x : TableId × View). IsAtRest x.0 x.1) (λ i. (sym same i, sym is i))
    (record {
      seated = λ i. seated (record v.mine { owned = owned; makers = makers; spare = spare });
      words = h.words;
      known = record { legal = h.known.legal; begun = h.known.begun };
    })

pub kept_writer : (table table' : TableId) (v w : View) (makers : List Maker) (spare : Option ℕ) (number count : ℕ) → table' ≡ table
    → w ≡ seated (record v.mine { makers = makers; spare = spare }) → IsWriter table v number count → IsWriter table' w number count
kept_writer table table' v w makers spare number count same is h =
    subst (λ (x : TableId × View). IsWriter x.0 x.1 number count) (λ i. (sym same i, sym is i))
    (record {
      rests = kept_rests table table v (seated (record v.mine { makers = makers; spare = spare })) v.mine.owned makers spare refl refl h.rests;
      owns = h.owns;
      within = h.within;
      counted = h.counted;
    })

-- of a note that is met nothing is gained but knowledge
pub quietly_joined : (p q : Part) → q.owned ≡ [] → q.makers ≡ [] → q.spare ≡ None → joined p q ≡ record p { known = longer_of p.known q.known }
quietly_joined p q owned makers spare i = record p {
  owned = (ap (λ xs. p.owned ++ xs) owned ∙ append-nil p.owned) i;
  known = longer_of p.known q.known;
  makers = (ap (λ xs. p.makers ++ xs) makers ∙ append-nil p.makers) i;
  spare = ap (either p.spare) spare i;
}

pub joined_rests : (table table' : TableId) (v w : View) (heard : Part) → table' ≡ table → w ≡ seated (joined v.mine heard)
    → AreLegalLogs v.mine.past.image (longer_of v.mine.known heard.known) → ArePrefixes v.mine.known (longer_of v.mine.known heard.known)
    → IsAtRest table v → IsAtRest table' w
joined_rests table table' v w heard same is legal keeps h = subst (λ (x : TableId × View). IsAtRest x.0 x.1) (λ i. (sym same i, sym is i))
    (record {
      seated = λ i. seated (joined v.mine heard);
      words = h.words;
      known = record { legal = legal; begun = still_begun v.mine.past.logs v.mine.known (longer_of v.mine.known heard.known) h.known.begun keeps };
    })

-- of the author's own log nothing more was heard
pub joined_writer : (table table' : TableId) (v w : View) (heard : Part) (number count : ℕ) → table' ≡ table → w ≡ seated (joined v.mine heard)
    → AreLegalLogs v.mine.past.image (longer_of v.mine.known heard.known) → ArePrefixes v.mine.known (longer_of v.mine.known heard.known)
    → IsPrefix (logs_of heard.known number) (logs_of v.mine.known number) → IsWriter table v number count → IsWriter table' w number count
joined_writer table table' v w heard number count same is legal keeps own h =
    subst (λ (x : TableId × View). IsWriter x.0 x.1 number count) (λ i. (sym same i, sym is i))
    (record {
      rests = joined_rests table table v (seated (joined v.mine heard)) heard refl refl legal keeps h.rests;
      owns = Contains-append_left v.mine.owned heard.owned number h.owns;
      within = h.within;
      counted = h.counted ∙ ap (λ (xs : List Logged). (length xs - length (logs_of v.mine.past.logs number)) % 2 ^ 64)
          (sym (left_stays v.mine.known heard.known number own));
    })

pub joined_bystander : (table table' : TableId) (v w : View) (heard : Part) → table' ≡ table → w ≡ seated (joined v.mine heard)
    → AreLegalLogs v.mine.past.image (longer_of v.mine.known heard.known) → ArePrefixes v.mine.known (longer_of v.mine.known heard.known)
    → heard.owned ≡ [] → IsBystander table v → IsBystander table' w
joined_bystander table table' v w heard same is legal keeps none h =
    subst (λ (x : TableId × View). IsBystander x.0 x.1) (λ i. (sym same i, sym is i))
    (record {
      rests = joined_rests table table v (seated (joined v.mine heard)) heard refl refl legal keeps h.rests;
      owns_none = ap (λ xs. xs ++ heard.owned) h.owns_none ∙ none;
    })

-- ---- as a chronicle begins

-- what the author of the first of these logs is to own, and what is left
pub next_range : (number count : ℕ) → number < count → range_with_len number (count - number) ≡ number ∷ range_with_len (number + 1) (count - (number + 1))
next_range number count below = ap (range_with_len number) (let more : count - number ≡ suc (count - (number + 1)) = omega arith in more)

-- the part of a seat that knows what the chronicle began with, owns these logs, and may name workers
abbrev pub first_part : Past → List ℕ → Option ℕ → Part
first_part past owned spare = record { past = past; owned = owned; known = past.logs; makers = []; spare = spare }

pub first_writer : (table : TableId) (past : Past) (number : ℕ) → table.words ≡ units past.image.shape + 1 → number ≤ units past.image.shape
    → AreLegalLogs past.image past.logs → IsWriter table (seated (first_part past (number ∷ []) None)) number 0
first_writer table past number words within legal = record {
  rests = record { seated = refl; words = words; known = record { legal = legal; begun = record { each = λ author. prefix_refl (logs_of past.logs author) } } };
  owns = (0, omega arith, refl);
  within = within;
  counted = ap (λ n. n % 2 ^ 64) (let none : 0 ≡ length (logs_of past.logs number) - length (logs_of past.logs number) = omega arith in none);
}

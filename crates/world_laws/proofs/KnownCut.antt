-- What is known of a legal world is a legal world.
use Rattle.std.proofs.Common.{◌≡◌, ℕ, ◌+◌, ◌<◌, ◌≤◌, ◌==◌, ◌↔◌, nat_lt, Bool, true, false, Some, List, [], ◌∷◌, ◌++◌, length, take, refl, sym, subst, ap, ◌∙◌, arith, length-append, length-take, take_all, if◌then◌else◌}
use Rattle.std.specs.Prelude.{slice_get}
use Rattle.std.specs.List.{Contains}
use Rattle.std.proofs.lemmas.List.{take-append-le, take-take}
use Rattle.pblk_model.specs.Image.{Image}
use Rattle.pblk_world.specs.Events.{Logged, Step}
use Rattle.pblk_world.specs.World.{World, Logs, log_of, known, prefixes}
use Rattle.pblk_world.specs.Legal.{IsLegal, IsLegalStep, IsAllowed}
use Rattle.pblk_world.proofs.WorldLemmas.{log_here}
use Rattle.pblk_model.proofs.Numbers.{fun_same}
use Rattle.pblk_model.proofs.Parts.{get_last, get_more, take_nothing}
use Rattle.pblk_model.proofs.Tests.{below_of, le_of_lt_false, same}
use Rattle.world_laws.specs.KnownCut.{cut, IsClosedCut}

-- ---- its logs

-- a log with one event more, as far as it is known, where that event is known and where it isn't
grown : (n : ℕ) (log : List Logged) (l : Logged) → length log < n → take n log ++ l ∷ [] ≡ take n (log ++ l ∷ [])
grown n log l h =
    let long : length (log ++ l ∷ []) ≡ length log + 1 = length-append log (l ∷ []) in
    ap (λ xs. xs ++ l ∷ []) (take_all n log (omega arith)) ∙ sym (take_all n (log ++ l ∷ []) (omega arith))

log_kept : (lengths : ℕ → ℕ) (s : Step) (w : World) (author : ℕ) → length (log_of w s.author) < lengths s.author
    → log_of (cut lengths w) author ≡ take (lengths author) (log_of w author) → (b : Bool) → (s.author == author) ≡ b
    → (if b then log_of (cut lengths w) author ++ s.logged ∷ [] else log_of (cut lengths w) author)
    ≡ take (lengths author) (if b then log_of w author ++ s.logged ∷ [] else log_of w author)
log_kept lengths s w author inside h false e = h
log_kept lengths s w author inside h true e =
    ap (λ xs. xs ++ s.logged ∷ []) h
    ∙ grown (lengths author) (log_of w author) s.logged (subst (λ a. length (log_of w a) < lengths a) (same s.author author e) inside)

log_left : (lengths : ℕ → ℕ) (s : Step) (w : World) (author : ℕ) → lengths s.author ≤ length (log_of w s.author)
    → log_of (cut lengths w) author ≡ take (lengths author) (log_of w author) → (b : Bool) → (s.author == author) ≡ b
    → log_of (cut lengths w) author ≡ take (lengths author) (if b then log_of w author ++ s.logged ∷ [] else log_of w author)
log_left lengths s w author outside h false e = h
log_left lengths s w author outside h true e =
    h
    ∙ sym (take-append-le (lengths author) (log_of w author) (s.logged ∷ []) (subst (λ a. lengths a ≤ length (log_of w a)) (same s.author author e) outside))

pub log_of_cut : (w : World) (lengths : ℕ → ℕ) (author : ℕ) → log_of (cut lengths w) author ≡ take (lengths author) (log_of w author)
log_of_cut [] lengths author = sym (take_nothing (lengths author))
log_of_cut (s ∷ w) lengths author = go (nat_lt (length (log_of w s.author)) (lengths s.author)) refl (log_of_cut w lengths author)
  where
    go : (b : Bool) → nat_lt (length (log_of w s.author)) (lengths s.author) ≡ b → log_of (cut lengths w) author ≡ take (lengths author) (log_of w author)
        → log_of (if b then s ∷ cut lengths w else cut lengths w) author ≡ take (lengths author) (log_of (s ∷ w) author)
    go true e h = log_kept lengths s w author (below_of (length (log_of w s.author)) (lengths s.author) e) h (s.author == author) refl
    go false e h = log_left lengths s w author (le_of_lt_false (length (log_of w s.author)) (lengths s.author) e) h (s.author == author) refl

-- ---- a step after prefixes of the logs, and after the whole

-- the logs as far as they are known
abbrev pub known_logs : (ℕ → ℕ) → Logs → Logs
known_logs lengths logs = λ author. take (lengths author) (logs author)

logs_of_cut : (w : World) (lengths : ℕ → ℕ) → log_of (cut lengths w) ≡ known_logs lengths (log_of w)
logs_of_cut w lengths = fun_same (log_of (cut lengths w)) (known_logs lengths (log_of w)) (log_of_cut w lengths)

-- the step names no more than is known, and its author's log is known whole
pub record IsWithin (lengths : ℕ → ℕ) (logs : Logs) (s : Step) : Type 0 where
  pub own : length (logs s.author) ≤ lengths s.author
  pub names : (other : ℕ) → known s.logged other ≤ lengths other

own_log : (lengths : ℕ → ℕ) (logs : Logs) (s : Step) → IsWithin lengths logs s → known_logs lengths logs s.author ≡ logs s.author
own_log lengths logs s h = take_all (lengths s.author) (logs s.author) h.own

same_prefixes : (lengths : ℕ → ℕ) (logs : Logs) (s : Step) → IsWithin lengths logs s
    → prefixes s.logged (known_logs lengths logs) ≡ prefixes s.logged logs
same_prefixes lengths logs s h = fun_same (prefixes s.logged (known_logs lengths logs)) (prefixes s.logged logs)
    (λ other. take-take (known s.logged other) (lengths other) (logs other) (h.names other))

pub widened : (i : Image) (lengths : ℕ → ℕ) (logs : Logs) (s : Step) → IsWithin lengths logs s
    → IsLegalStep i (known_logs lengths logs) s → IsLegalStep i logs s
widened i lengths logs s h step = record {
  author = step.author;
  knowledge = record {
    authors = step.knowledge.authors;
    own = step.knowledge.own ∙ ap length (own_log lengths logs s h);
    within = λ other.
        let in_part : known s.logged other ≤ length (take (lengths other) (logs other)) = step.knowledge.within other in
        omega (arith, length-take (lengths other) (logs other));
    rising = λ earlier other there. step.knowledge.rising earlier other
        (subst (λ (log : List Logged). Contains log earlier) (sym (own_log lengths logs s h)) there);
  };
  allowed = subst (λ (known : Logs). IsAllowed i s.author s.logged.event known) (same_prefixes lengths logs s h) step.allowed;
}

pub narrowed : (i : Image) (lengths : ℕ → ℕ) (logs : Logs) (s : Step) → IsWithin lengths logs s
    → IsLegalStep i logs s → IsLegalStep i (known_logs lengths logs) s
narrowed i lengths logs s h step = record {
  author = step.author;
  knowledge = record {
    authors = step.knowledge.authors;
    own = step.knowledge.own ∙ ap length (sym (own_log lengths logs s h));
    within = λ other.
        let whole : known s.logged other ≤ length (logs other) = step.knowledge.within other in
        let named : known s.logged other ≤ lengths other = h.names other in
        omega (arith, length-take (lengths other) (logs other));
    rising = λ earlier other there. step.knowledge.rising earlier other
        (subst (λ (log : List Logged). Contains log earlier) (own_log lengths logs s h) there);
  };
  allowed = subst (λ (known : Logs). IsAllowed i s.author s.logged.event known) (sym (same_prefixes lengths logs s h)) step.allowed;
}

pub step_after_cut : (i : Image) (w : World) (lengths : ℕ → ℕ) (s : Step) → length (log_of w s.author) ≤ lengths s.author
    → ((other : ℕ) → known s.logged other ≤ lengths other) → IsLegalStep i (log_of (cut lengths w)) s ↔ IsLegalStep i (log_of w) s
step_after_cut i w lengths s own names =
    let within : IsWithin lengths (log_of w) s = record { own = own; names = names } in (
      λ step. widened i lengths (log_of w) s within (subst (λ (logs : Logs). IsLegalStep i logs s) (logs_of_cut w lengths) step),
      λ step. subst (λ (logs : Logs). IsLegalStep i logs s) (sym (logs_of_cut w lengths)) (narrowed i lengths (log_of w) s within step),
    )

-- ---- all steps

-- an event of a log stands there still after a step
still_there : (s : Step) (w : World) (author number : ℕ) (l : Logged) → slice_get (log_of w author) number ≡ Some l
    → slice_get (log_of (s ∷ w) author) number ≡ Some l
still_there s w author number l e = go (s.author == author)
  where
    go : (b : Bool) → slice_get (if b then log_of w author ++ s.logged ∷ [] else log_of w author) number ≡ Some l
    go true = get_more (log_of w author) (s.logged ∷ []) number l e
    go false = e

-- the step stands at the end of its author's log
stands : (s : Step) (w : World) → slice_get (log_of (s ∷ w) s.author) (length (log_of w s.author)) ≡ Some s.logged
stands s w = ap (λ xs. slice_get xs (length (log_of w s.author))) (log_here s w s.author refl) ∙ get_last (log_of w s.author) s.logged

pub cut_is_legal : (i : Image) (w : World) (lengths : ℕ → ℕ) → IsLegal i w → IsClosedCut lengths w → IsLegal i (cut lengths w)
unfolding IsLegal
cut_is_legal i [] lengths legal closed = tt
cut_is_legal i (s ∷ w) lengths legal closed = go (nat_lt (length (log_of w s.author)) (lengths s.author)) refl
    (cut_is_legal i w lengths legal.1 (λ author other number l inside there. closed author other number l inside (still_there s w author number l there)))
  where
    go : (b : Bool) → nat_lt (length (log_of w s.author)) (lengths s.author) ≡ b → IsLegal i (cut lengths w)
        → IsLegal i (if b then s ∷ cut lengths w else cut lengths w)
    go false e rest = rest
    go true e rest =
        let inside : length (log_of w s.author) < lengths s.author = below_of (length (log_of w s.author)) (lengths s.author) e in (
          (step_after_cut i w lengths s (omega arith)
              (λ other. closed s.author other (length (log_of w s.author)) s.logged inside (stands s w))).1 legal.0,
          rest,
        )

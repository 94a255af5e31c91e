-- What one author knows once it has joined the next.
use Rattle.std.proofs.Common.{◌≡◌, ⊎_elim, ℕ, zero, suc, replicate, take, ◌+◌, List, [], ◌++◌, length, refl, sym, ap, ◌∙◌, subst, arith}
use Rattle.std.specs.Prelude.{map, slice_get}
use Rattle.std.specs.List.{Contains, range_with_len}
use Rattle.std.proofs.lemmas.Bool.{cases_eq}
use Rattle.std.proofs.lemmas.List.Elements.{Contains-append_left, Contains-append_right}
use Rattle.atomic_table.specs.Seated.{TableId}
use Rattle.pblk_model.proofs.Maps.{row_at}
use Rattle.pblk_model.proofs.Numbers.{fun_same}
use Rattle.pblk_model.proofs.Parts.{get_whole}
use Rattle.pblk_world.specs.Legal.{IsLegal}
use Rattle.pblk_world.specs.Makers.{HasMakers}
use Rattle.pblk_world.specs.World.{log_of}
use Rattle.chronicle.specs.Handles.{AuthorView, first_author}
use Rattle.chronicle.specs.Prefixes.{AreOpeningLogs, logs_of}
use Rattle.chronicle_crew.specs.declared.hand.Hand.{Hand}
use Rattle.chronicle_crew.specs.Ready.{AreFirst, HaveAppended, IsHand, blank_past}

pub joined : (chronicle : TableId) (number : ℕ) (a b : AuthorView) (h : Hand) → HaveAppended chronicle number h.count a → IsHand chronicle h
    → h.author.number ≡ number → b.chronicle ≡ a.chronicle → b.past ≡ a.past → b.owned ≡ a.owned ++ h.author.owned
    → ((author : ℕ) → Contains a.owned author → logs_of b.known author ≡ logs_of a.known author)
    → ((author : ℕ) → Contains h.author.owned author → logs_of b.known author ≡ logs_of h.author.known author)
    → HaveAppended chronicle (number + 1) h.count b
joined chronicle number a b h old hand at of past owned own other_own = record {
  of = of ∙ old.of;
  past = past ∙ old.past;
  owned = λ n below. subst (λ xs. Contains xs n) (sym owned) (⊎_elim
      (λ (is : n ≡ number). Contains-append_right a.owned h.author.owned n (its n is))
      (λ apart. Contains-append_left a.owned h.author.owned n (old.owned n (omega arith)))
      (cases_eq n number));
  counts = λ n some below. ⊎_elim
      (λ (is : n ≡ number). ap length (other_own n (its n is)) ∙ ap (λ k. length (logs_of h.author.known k)) (is ∙ sym at) ∙ hand.counted)
      (λ apart. ap length (own n (old.owned n (omega arith))) ∙ old.counts n some (omega arith))
      (cases_eq n number);
}
  where
    its : (n : ℕ) → n ≡ number → Contains h.author.owned n
    its n is = subst (λ xs. Contains xs n) (sym hand.owned) (0, omega arith, at ∙ sym is)

-- nothing was done yet
pub blank_opening : AreOpeningLogs blank_past.image blank_past.logs
unfolding IsLegal HasMakers
blank_opening = record {
  authors = refl;
  world = [];
  legal = tt;
  logs = fun_same (log_of []) (logs_of blank_past.logs) (none 9);
  makers = tt;
  none = λ worker small. refl;
}
  where
    none : (n author : ℕ) → log_of [] author ≡ logs_of (replicate n []) author
    none zero author = refl
    none (suc n) zero = refl
    none (suc n) (suc author) = none n author

-- the authors that a chronicle begins with
pub first_are : (chronicle : TableId) (authors : List AuthorView) → authors ≡ map (first_author chronicle blank_past) (range_with_len 0 9)
    → AreFirst chronicle authors
first_are chronicle authors are = record {
  each = λ place a there. sym (row_at (first_author chronicle blank_past) 9 0 place a (ap (λ xs. slice_get xs place) (sym are) ∙ there)).1
      ∙ ap (first_author chronicle blank_past) (let same : 0 + place ≡ place = omega arith in same);
}

pub still_first : (chronicle : TableId) (authors rest : List AuthorView) (n : ℕ) → rest ≡ take n authors → AreFirst chronicle authors → AreFirst chronicle rest
still_first chronicle authors rest n is first = record {
  each = λ place a there. first.each place a (get_whole n authors place a (ap (λ xs. slice_get xs place) (sym is) ∙ there));
}

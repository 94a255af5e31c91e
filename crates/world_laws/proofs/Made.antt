-- Each event of a legal world was a legal step after the world as it then was.
use Rattle.std.proofs.Common.{◌≡◌, inl, inr, ℕ, ◌+◌, ◌≤◌, ◌==◌, Bool, true, false, Some, List, [], ◌∷◌, ◌++◌, length, take, refl, sym, subst, ap, ap₂, ◌∙◌, arith, append_assoc, length-append, if◌then◌else◌}
use Rattle.std.specs.Prelude.{slice_get}
use Rattle.std.specs.List.{Contains}
use Rattle.std.proofs.lemmas.List.{take-append-le}
use Rattle.std.proofs.lemmas.Option.{none-some}
use Rattle.pblk_model.specs.Image.{Image}
use Rattle.pblk_world.specs.Events.{Logged, Step}
use Rattle.pblk_world.specs.World.{World, log_of, known}
use Rattle.pblk_world.specs.Legal.{IsLegal, IsLegalStep}
use Rattle.pblk_world.proofs.Growing.{at_end, grows}
use Rattle.pblk_model.proofs.Lists.{among_contained}
use Rattle.pblk_model.proofs.Parts.{take_front}
use Rattle.pblk_model.proofs.Tests.{same}

abbrev pub step_by : ℕ → Logged → Step
step_by author l = record { author = author; logged = l }

pub record IsMade (i : Image) (w : World) (author number : ℕ) (l : Logged) : Type 0 where
  pub before : World
  pub later : World
  pub whole : w ≡ later ++ step_by author l ∷ before
  pub here : length (log_of before author) ≡ number
  pub legal : IsLegal i before
  pub step : IsLegalStep i (log_of before) (step_by author l)

made_before : (i : Image) (s : Step) (w : World) (author number : ℕ) (l : Logged) → IsMade i w author number l → IsMade i (s ∷ w) author number l
made_before i s w author number l h = record {
  before = h.before;
  later = s ∷ h.later;
  whole = ap (λ (steps : World). s ∷ steps) h.whole;
  here = h.here;
  legal = h.legal;
  step = h.step;
}

made_now : (i : Image) (s : Step) (w : World) (author number : ℕ) (l : Logged) → IsLegalStep i (log_of w) s → IsLegal i w
    → s.author ≡ author → number ≡ length (log_of w author) → s.logged ≡ l → IsMade i (s ∷ w) author number l
made_now i s w author number l step legal its at is =
    let this : s ≡ step_by author l = ap₂ step_by its is in record {
      before = w;
      later = [];
      whole = ap (λ (first : Step). first ∷ w) this;
      here = sym at;
      legal = legal;
      step = subst (λ first. IsLegalStep i (log_of w) first) this step;
    }

pub made : (i : Image) (w : World) (author number : ℕ) (l : Logged) → IsLegal i w → slice_get (log_of w author) number ≡ Some l
    → IsMade i w author number l
unfolding IsLegal
made i [] author number l legal there = absurd (none-some l there)
made i (s ∷ w) author number l legal there = go (s.author == author) refl there (λ old. made i w author number l legal.1 old)
  where
    go : (b : Bool) → (s.author == author) ≡ b → slice_get (if b then log_of w author ++ s.logged ∷ [] else log_of w author) number ≡ Some l
        → (slice_get (log_of w author) number ≡ Some l → IsMade i w author number l) → IsMade i (s ∷ w) author number l
    go false e there earlier = made_before i s w author number l (earlier there)
    go true e there earlier = elim (at_end (log_of w author) s.logged l number there) as (λ _. IsMade i (s ∷ w) author number l) [
      | inl old ↦ made_before i s w author number l (earlier old)
      | inr new ↦ made_now i s w author number l legal.0 legal.1 (same s.author author e) new.0 new.1
    ]

pub made_in : (i : Image) (w : World) (author : ℕ) (l : Logged) → IsLegal i w → Contains (log_of w author) l → (number : ℕ) × IsMade i w author number l
made_in i w author l legal there =
    let at = among_contained (log_of w author) l there in (at.0, made i w author at.0 l legal at.1)

-- the logs then, as prefixes of the logs now
pub log_then : (i : Image) (w : World) (author number : ℕ) (l : Logged) (h : IsMade i w author number l) (other : ℕ)
    → (more : List Logged) × (log_of w other ≡ log_of h.before other ++ more)
log_then i w author number l h other =
    let steps : World = h.later ++ step_by author l ∷ [] in
    let grown = grows steps h.before other in (
      grown.0,
      ap (λ (v : World). log_of v other) (h.whole ∙ sym (append_assoc h.later (step_by author l ∷ []) h.before)) ∙ grown.1,
    )

pub own_then : (i : Image) (w : World) (author number : ℕ) (l : Logged) (h : IsMade i w author number l)
    → log_of h.before author ≡ take number (log_of w author)
own_then i w author number l h =
    let more = log_then i w author number l h author in
    sym (ap (take number) more.1 ∙ take_front (log_of h.before author) more.0 number h.here)

-- what an event knew of a log is a part of it
pub known_within : (i : Image) (w : World) (author other : ℕ) (l : Logged) → IsLegal i w → Contains (log_of w author) l
    → known l other ≤ length (log_of w other)
known_within i w author other l legal there =
    let h = made_in i w author l legal there in
    let more = log_then i w author h.0 l h.1 other in
    let then_ : known l other ≤ length (log_of h.1.before other) = h.1.step.knowledge.within other in
    let grown : length (log_of w other) ≡ length (log_of h.1.before other) + length more.0 =
    ap length more.1 ∙ length-append (log_of h.1.before other) more.0 in
    omega arith

pub known_part : (i : Image) (w : World) (author number other : ℕ) (l m : Logged) (h : IsMade i w author number l) → Contains (log_of h.before 0) m
    → take (known m other) (log_of w other) ≡ take (known m other) (log_of h.before other)
known_part i w author number other l m h there =
    let more = log_then i w author number l h other in
    ap (take (known m other)) more.1 ∙ take-append-le (known m other) (log_of h.before other) more.0 (known_within i h.before 0 other m h.legal there)

-- Logs only grow, and what is known in them never falls.
use Rattle.std.proofs.Common.{◌≡◌, ℕ, ◌<◌, ◌≤◌, ◌⊎◌, ◌==◌, zero, suc, Bool, true, false, Some, List, [], ◌∷◌, ◌++◌, length, refl, sym, subst, ap, ◌∙◌, append_assoc, arith, if◌then◌else◌, inl, inr}
use Rattle.std.specs.Prelude.{slice_get}
use Rattle.std.specs.List.{Contains}
use Rattle.std.proofs.lemmas.List.{append-nil}
use Rattle.std.proofs.lemmas.Option.{slice_get_within, same_Some, none-some}
use Rattle.pblk_model.specs.Image.{Image}
use Rattle.pblk_world.specs.Events.{Logged, Step}
use Rattle.pblk_world.specs.World.{World, log_of, known}
use Rattle.pblk_world.specs.Legal.{IsLegal, IsLegalStep}
use Rattle.pblk_model.proofs.Parts.{is_in}

abbrev by_step : Step → Bool → List Logged
by_step s true = s.logged ∷ []
by_step s false = []

with_step : (s : Step) (log : List Logged) (b : Bool) → (if b then log ++ s.logged ∷ [] else log) ≡ log ++ by_step s b
with_step s log true = refl
with_step s log false = sym (append-nil log)

pub grows : (later w : World) (author : ℕ) → (more : List Logged) × (log_of (later ++ w) author ≡ log_of w author ++ more)
grows [] w author = ([], sym (append-nil (log_of w author)))
grows (s ∷ later) w author =
    let h : (more : List Logged) × (log_of (later ++ w) author ≡ log_of w author ++ more) = grows later w author in (
      h.0 ++ by_step s (s.author == author),
      with_step s (log_of (later ++ w) author) (s.author == author)
          ∙ ap (λ xs. xs ++ by_step s (s.author == author)) h.1
          ∙ append_assoc (log_of w author) h.0 (by_step s (s.author == author)),
    )

pub prefix_legal : (i : Image) (later w : World) → IsLegal i (later ++ w) → IsLegal i w
unfolding IsLegal
prefix_legal i [] w h = h
prefix_legal i (s ∷ later) w h = prefix_legal i later w h.1

-- an element of a list with one more at its end
pub at_end : {X : Type 0} (xs : List X) (x y : X) (k : ℕ) → slice_get (xs ++ x ∷ []) k ≡ Some y → (slice_get xs k ≡ Some y) ⊎ ((k ≡ length xs) × (x ≡ y))
at_end [] x y zero e = inr (refl, same_Some x y e)
at_end [] x y (suc k) e = absurd (none-some y e)
at_end (z ∷ xs) x y zero e = inl e
at_end (z ∷ xs) x y (suc k) e =
    elim (at_end xs x y k e) as (λ _. (slice_get xs k ≡ Some y) ⊎ ((suc k ≡ suc (length xs)) × (x ≡ y))) [ inl h ↦ inl h | inr h ↦ inr (ap suc h.0, h.1) ]

Falls : World → ℕ → ℕ → Type 0
Falls w author other = (j k : ℕ) (early late : Logged) → j ≤ k → slice_get (log_of w author) j ≡ Some early → slice_get (log_of w author) k ≡ Some late
    → known early other ≤ known late other

falls_after : (other : ℕ) (log : List Logged) (l : Logged) → ((earlier : Logged) → Contains log earlier → known earlier other ≤ known l other)
    → ((j k : ℕ) (early late : Logged) → j ≤ k → slice_get log j ≡ Some early → slice_get log k ≡ Some late → known early other ≤ known late other)
    → (j k : ℕ) (early late : Logged) → j ≤ k → slice_get (log ++ l ∷ []) j ≡ Some early → slice_get (log ++ l ∷ []) k ≡ Some late
    → known early other ≤ known late other
falls_after other log l rising below j k early late h a b = go (at_end log l early j a) (at_end log l late k b)
  where
    go : (slice_get log j ≡ Some early) ⊎ ((j ≡ length log) × (l ≡ early)) → (slice_get log k ≡ Some late) ⊎ ((k ≡ length log) × (l ≡ late))
        → known early other ≤ known late other
    go (inl x) (inl y) = below j k early late h x y
    go (inl x) (inr y) = subst (λ z. known early other ≤ known z other) y.1 (rising early (is_in log j early x))
    go (inr x) (inl y) = let inside : k < length log = slice_get_within log k late y in let at : j ≡ length log = x.0 in absurd (omega arith)
    go (inr x) (inr y) = let same : known early other ≡ known late other = ap (λ z. known z other) (sym x.1 ∙ y.1) in omega arith

falls_by : (i : Image) (s : Step) (w : World) (author other : ℕ) → IsLegalStep i (log_of w) s → Falls w author other → (b : Bool) → (s.author == author) ≡ b
    → (j k : ℕ) (early late : Logged) → j ≤ k → slice_get (if b then log_of w author ++ s.logged ∷ [] else log_of w author) j ≡ Some early
    → slice_get (if b then log_of w author ++ s.logged ∷ [] else log_of w author) k ≡ Some late → known early other ≤ known late other
unfolding Falls
falls_by i s w author other step below false e = below
falls_by i s w author other step below true e =
    let same : s.author ≡ author = grind arith in
    falls_after other (log_of w author) s.logged
    (λ earlier there. step.knowledge.rising earlier other (subst (λ a. Contains (log_of w a) earlier) (sym same) there)) below

never_falls : (i : Image) (w : World) (author other : ℕ) → IsLegal i w → Falls w author other
unfolding IsLegal Falls
never_falls i [] author other legal = λ j k early late h a b. absurd (none-some early a)
never_falls i (s ∷ w) author other legal = falls_by i s w author other legal.0 (never_falls i w author other legal.1) (s.author == author) refl

pub knowledge_rises : (i : Image) (w : World) (author other j k : ℕ) (early late : Logged) → IsLegal i w → j ≤ k
    → slice_get (log_of w author) j ≡ Some early → slice_get (log_of w author) k ≡ Some late → known early other ≤ known late other
unfolding Falls
knowledge_rises i w author other j k early late legal h a b = never_falls i w author other legal j k early late h a b

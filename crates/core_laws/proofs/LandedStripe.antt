-- A stripe has landed: which positions have.
use Rattle.std.proofs.Common.{◌≡◌, ◌⊎◌, inl, inr, ℕ, ◌&&◌, ◌||◌, zero, suc, Bool, true, false, Some, None, List, [], ◌∷◌, ◌++◌, refl, sym, ap, ◌∙◌}
use Rattle.std.specs.Prelude.{slice_get}
use Rattle.std.specs.List.{AllByRecursion, list_any}
use Rattle.std.proofs.lemmas.Option.{same_Some, none-some}
use Rattle.pblk_model.specs.declared.shape.Shape.{Shape}
use Rattle.pblk_world.specs.Events.{Landed, Decides, Logged}
use Rattle.pblk_world.specs.EngineLog.{Placed, placements, DidLand, answer_of, is_land, is_loss, has_landed, was_lost, holds_position}
use Rattle.pblk_world.specs.Fronts.{has_landed_at}
use Rattle.core_laws.specs.PlacerOf.{unanswered_on}
use Rattle.core_laws.proofs.Answered.{IsAnswer}
use Rattle.core_laws.proofs.NotedAnswers.{answer_is, one_answered}
use Rattle.pblk_model.proofs.Lists.{IsAmong, all_imply}
use Rattle.pblk_model.proofs.Tests.{or_no, or_true}

abbrev pub with_landing : List Logged → ℕ → ℕ → List ℕ → List Logged
with_landing log unit event knows = log ++ record { event = Decides (Landed unit event); knows = knows } ∷ []

-- a stripe has landed, and what became of the others is as it was
pub record IsOneMore (log new : List Logged) (p : Placed) : Type 0 where
  pub stripes : placements new ≡ placements log
  pub among : IsAmong (placements log) p
  pub before : answer_of log p ≡ None
  pub now : has_landed new p ≡ true
  pub not_lost : was_lost new p ≡ false
  pub others : AllByRecursion (λ r. (r ≡ p) ⊎ (answer_of new r ≡ answer_of log r)) (placements log)

pub is_answer : (log : List Logged) (unit event : ℕ) (knows : List ℕ) → IsAnswer log (with_landing log unit event knows) unit (DidLand event)
is_answer log unit event knows = answer_is log unit knows (DidLand event)

pub one_more : (log : List Logged) (unit event : ℕ) (knows : List ℕ) (p : Placed) → unanswered_on log unit ≡ Some p
    → IsOneMore log (with_landing log unit event knows) p
one_more log unit event knows p waits =
    let one = one_answered log unit (DidLand event) knows p waits in
    record { stripes = one.stripes; among = one.among; before = one.before; now = ap is_land one.now; not_lost = ap is_loss one.now; others = one.others }

-- ---- a test that one more element passes

-- of a list in which it stands
any_with : {X : Type 0} (f : X → Bool) (xs : List X) (k : ℕ) (p : X) → slice_get xs k ≡ Some p → (list_any f xs || f p) ≡ list_any f xs
any_with f [] k p e = absurd (none-some p e)
any_with f (x ∷ xs) zero p e = ap (λ (y : _). (f x || list_any f xs) || f y) (sym (same_Some x p e)) ∙ go (f x) (list_any f xs)
  where
    go : (a b : Bool) → ((a || b) || a) ≡ (a || b)
    go true b = refl
    go false b = or_no b
any_with f (x ∷ xs) (suc k) p e = go (f x) (any_with f xs k p e)
  where
    go : (a : Bool) → (list_any f xs || f p) ≡ list_any f xs → ((a || list_any f xs) || f p) ≡ (a || list_any f xs)
    go true rest = refl
    go false rest = rest

any_but : {X : Type 0} (f g : X → Bool) (p : X) (xs : List X) → g p ≡ false → AllByRecursion (λ x. (x ≡ p) ⊎ (f x ≡ g x)) xs
    → (list_any f xs || f p) ≡ (list_any g xs || f p)
any_but f g p [] none all = refl
any_but {X} f g p (x ∷ xs) none all = go all.0 (any_but f g p xs none all.1)
  where
    by : (b c d : Bool) → (c || b) ≡ (d || b) → ((b || c) || b) ≡ ((false || d) || b)
    by true c d rest = sym (or_true d)
    by false c d rest = rest

    keep : (b c d e : Bool) → (c || b) ≡ (d || b) → ((e || c) || b) ≡ ((e || d) || b)
    keep b c d true rest = refl
    keep b c d false rest = rest

    go : (x ≡ p) ⊎ (f x ≡ g x) → (list_any f xs || f p) ≡ (list_any g xs || f p) → ((f x || list_any f xs) || f p) ≡ ((g x || list_any g xs) || f p)
    go (inl same) rest = ap (λ a. (a || list_any f xs) || f p) (ap f same) ∙ by (f p) (list_any f xs) (list_any g xs) rest
        ∙ ap (λ b. (b || list_any g xs) || f p) (sym (ap g same ∙ none))
    go (inr kept) rest = keep (f p) (list_any f xs) (list_any g xs) (f x) rest ∙ ap (λ b. (b || list_any g xs) || f p) kept

pub any_more : {X : Type 0} (f g : X → Bool) (p : X) (xs : List X) → IsAmong xs p → g p ≡ false → AllByRecursion (λ x. (x ≡ p) ⊎ (f x ≡ g x)) xs
    → list_any f xs ≡ (list_any g xs || f p)
any_more f g p xs among none all = sym (any_with f xs among.0 p among.1) ∙ any_but f g p xs none all

-- ---- which positions have landed

landed_or : (log new : List Logged) (p : Placed) (also : Placed → Bool) (r : Placed) → (r ≡ p) ⊎ (answer_of new r ≡ answer_of log r)
    → (r ≡ p) ⊎ ((has_landed new r && also r) ≡ (has_landed log r && also r))
landed_or log new p also r (inl same) = inl same
landed_or log new p also r (inr kept) = inr (ap (λ a. is_land a && also r) kept)

pub landed_at_by : (s : Shape) (log new : List Logged) (p : Placed) (q : ℕ) → IsOneMore log new p
    → has_landed_at s new q ≡ (has_landed_at s log q || holds_position s q p)
landed_at_by s log new p q is =
    ap (λ ps. list_any (λ r. has_landed new r && holds_position s q r) ps) is.stripes
    ∙ any_more (λ r. has_landed new r && holds_position s q r) (λ r. has_landed log r && holds_position s q r) p (placements log) is.among
    (ap (λ a. is_land a && holds_position s q p) is.before)
    (all_imply (λ (r : Placed). (r ≡ p) ⊎ (answer_of new r ≡ answer_of log r))
    (λ (r : Placed). (r ≡ p) ⊎ ((has_landed new r && holds_position s q r) ≡ (has_landed log r && holds_position s q r)))
    (λ r other. landed_or log new p (holds_position s q) r other) (placements log) is.others)
    ∙ ap (λ b. has_landed_at s log q || (b && holds_position s q p)) is.now

pub landed_at_now : (s : Shape) (log : List Logged) (unit event : ℕ) (knows : List ℕ) (p : Placed) (q : ℕ) → unanswered_on log unit ≡ Some p
    → has_landed_at s (with_landing log unit event knows) q ≡ (has_landed_at s log q || holds_position s q p)
landed_at_now s log unit event knows p q waits = landed_at_by s log (with_landing log unit event knows) p q (one_more log unit event knows p waits)

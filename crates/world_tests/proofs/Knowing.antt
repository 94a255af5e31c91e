-- What the events of a world with two units know.
use Rattle.std.proofs.Common.{◌≡◌, ℕ, ◌+◌, ◌<◌, ◌≤◌, ◌⊎◌, ◌&&◌, ◌==◌, zero, suc, Bool, true, false, List, [], ◌∷◌, length, subst, arith, nat_le, inl, inr}
use Rattle.std.specs.Prelude.{slice_index}
use Rattle.std.specs.List.{Contains, list_all, range_with_len}
use Rattle.std.proofs.lemmas.Bool.{cases_order}
use Rattle.pblk_model.specs.Shape.{small}
use Rattle.pblk_model.specs.Chunk.{Chunk}
use Rattle.pblk_model.specs.Image.{Image}
use Rattle.pblk_world.specs.Events.{Logged, Step}
use Rattle.pblk_world.specs.World.{World, Logs, known, log_of, prefixes}
use Rattle.pblk_world.specs.Legal.{IsKnowledge, IsAllowed, IsLegalStep}
use Rattle.world_tests.specs.Steps.{image}
use Rattle.pblk_model.proofs.Tests.{first_of, second_of, within_is}

pub no_truth : {X : Type 0} → false ≡ true → X
no_truth e = absurd (grind arith)

pub differ : (a b : ℕ) → (a == b) ≡ false → a ≡ b → ⊥
differ a b e f = grind arith

-- each number of a list is at most that at the same place of another
abbrev pub is_below : List ℕ → List ℕ → Bool
is_below [] ys = true
is_below (x ∷ xs) [] = false
is_below (x ∷ xs) (y ∷ ys) = nat_le x y && is_below xs ys

pub below_at : (xs ys : List ℕ) → is_below xs ys ≡ true → (a : ℕ) → slice_index xs a ≤ slice_index ys a
below_at [] ys e a = omega arith
below_at (x ∷ xs) [] e a = no_truth e
below_at (x ∷ xs) (y ∷ ys) e zero = within_is x y (first_of (nat_le x y) (is_below xs ys) e)
below_at (x ∷ xs) (y ∷ ys) e (suc a) = below_at xs ys (second_of (nat_le x y) (is_below xs ys) e) a

pub all_in : {X : Type 0} (P : X → Bool) (xs : List X) → list_all P xs ≡ true → (x : X) → Contains xs x → P x ≡ true
all_in P [] e x h = absurd (let past : h.0 < 0 = h.1 in omega arith)
all_in P (y ∷ ys) e x (zero, h, is) = subst (λ z. P z ≡ true) is (first_of (P y) (list_all P ys) e)
all_in P (y ∷ ys) e x (suc k, h, is) = all_in P ys (second_of (P y) (list_all P ys) e) x (k, omega arith, is)

-- what holds of each number from a on holds of those below its end
range_by : (P : ℕ → Bool) (a n k : ℕ) → P a ≡ true → ((j : ℕ) → a + 1 ≤ j → j < a + 1 + n → P j ≡ true) → a ≤ k → k < a + suc n → P k ≡ true
range_by P a n k here above h b = go (cases_order a k)
  where
    go : (a ≡ k) ⊎ ((a < k) ⊎ (k < a)) → P k ≡ true
    go (inl same) = subst (λ z. P z ≡ true) same here
    go (inr (inl more)) = above k (omega arith) (omega arith)
    go (inr (inr less)) = absurd (omega arith)

all_of_range : (P : ℕ → Bool) (a n : ℕ) → list_all P (range_with_len a n) ≡ true → (k : ℕ) → a ≤ k → k < a + n → P k ≡ true
all_of_range P a zero e k h b = absurd (omega arith)
all_of_range P a (suc n) e k h b = range_by P a n k (first_of (P a) (list_all P (range_with_len (a + 1) n)) e)
    (all_of_range P (a + 1) n (second_of (P a) (list_all P (range_with_len (a + 1) n)) e)) h b

pub all_below : (P : ℕ → Bool) (n : ℕ) → list_all P (range_with_len 0 n) ≡ true → (k : ℕ) → k < n → P k ≡ true
all_below P n e k h = all_of_range P 0 n e k (omega arith) (omega arith)

pub no_both : {X : Type 0} (b : Bool) → b ≡ false → b ≡ true → X
no_both b e f = absurd (grind arith)

-- the lengths of three logs
abbrev pub lengths : Logs → List ℕ
lengths logs = length (logs 0) ∷ length (logs 1) ∷ length (logs 2) ∷ []

within_logs : (logs : Logs) (a : ℕ) → slice_index (lengths logs) a ≤ length (logs a)
within_logs logs zero = omega arith
within_logs logs (suc zero) = omega arith
within_logs logs (suc (suc zero)) = omega arith
within_logs logs (suc (suc (suc a))) = omega arith

-- an image of the small drive
abbrev pub on_small : List (List Chunk) → Image
on_small chunks = record { shape = small; units = chunks }

knowledge : (chunks : List (List Chunk)) (logs : Logs) (author : ℕ) (l : Logged) → length l.knows ≡ 3 → known l author ≡ length (logs author)
    → is_below l.knows (lengths logs) ≡ true → list_all (λ e. is_below e.knows l.knows) (logs author) ≡ true
    → IsKnowledge (on_small chunks) logs author l
knowledge chunks logs author l all own within rising = record {
  authors = all;
  own = own;
  within = λ other. let a : known l other ≤ slice_index (lengths logs) other = below_at l.knows (lengths logs) within other in
      let b : slice_index (lengths logs) other ≤ length (logs other) = within_logs logs other in omega arith;
  rising = λ earlier other there. below_at earlier.knows l.knows
      (all_in (λ e. is_below e.knows l.knows) (logs author) rising earlier there) other;
}

-- the prefixes that a step names
abbrev pub named : Step → World → Logs
named step w = prefixes step.logged (log_of w)

-- a step is legal that names three lengths, its own log's whole, none beyond its log, and none shorter than those before
pub legal_on : (chunks : List (List Chunk)) (w : World) (s : Step) → s.author ≤ 2 → length s.logged.knows ≡ 3
    → known s.logged s.author ≡ length (log_of w s.author) → is_below s.logged.knows (lengths (log_of w)) ≡ true
    → list_all (λ e. is_below e.knows s.logged.knows) (log_of w s.author) ≡ true
    → IsAllowed (on_small chunks) s.author s.logged.event (named s w) → IsLegalStep (on_small chunks) (log_of w) s
legal_on chunks w s author all own within rising allowed = record {
  author = author;
  knowledge = knowledge chunks (log_of w) s.author s.logged all own within rising;
  allowed = allowed;
}

pub step_legal : (w : World) (s : Step) → s.author ≤ 2 → length s.logged.knows ≡ 3
    → known s.logged s.author ≡ length (log_of w s.author) → is_below s.logged.knows (lengths (log_of w)) ≡ true
    → list_all (λ e. is_below e.knows s.logged.knows) (log_of w s.author) ≡ true
    → IsAllowed image s.author s.logged.event (named s w) → IsLegalStep image (log_of w) s
step_legal = legal_on image.units

-- Lemmas on the words of EngineLog.
use Rattle.std.proofs.Common.{List, None, Some, [], ap, arith, length, length-append, refl, suc, take, true, zero, ℕ, ◌++◌, ◌+◌, ◌<◌, ◌∙◌, ◌∷◌, ◌≡◌, ◌≤◌}
use Rattle.std.proofs.lemmas.Option.{none-some, same_Some}
use Rattle.std.specs.Option.{option_to_list}
use Rattle.std.specs.Prelude.{slice_get}
use Rattle.pblk_model.proofs.Maps.{more}
use Rattle.pblk_world.specs.EngineLog.{Answer, Begun, Opened, Opening, answer_by, answers, begun, begun_by, is_land, taken_by, takes}
use Rattle.pblk_world.specs.Events.{Begin, Beginning, Decides, EngineEvent, Event, Logged}

pub takes_more : (log : List Logged) (l : Logged) → takes (log ++ l ∷ []) ≡ takes log ++ option_to_list (taken_by l.event)
takes_more log l = more (λ (m : Logged). taken_by m.event) log l

pub takes_grow : (log : List Logged) (l : Logged) → length (takes log) ≤ length (takes (log ++ l ∷ []))
takes_grow log l =
    let count : length (takes (log ++ l ∷ [])) ≡ length (takes log) + length (option_to_list (taken_by l.event)) = ap length (takes_more log l)
    ∙ length-append (takes log) (option_to_list (taken_by l.event)) in
    omega arith

pub answers_more : (log : List Logged) (l : Logged) (unit : ℕ) → answers (log ++ l ∷ []) unit ≡ answers log unit ++ option_to_list (answer_by unit l.event)
answers_more log l unit = more (λ (m : Logged). answer_by unit m.event) log l

pub answer_count : (log : List Logged) (l : Logged) (unit : ℕ) → length (answers log unit) ≤ length (answers (log ++ l ∷ []) unit)
answer_count log l unit =
    let same : length (answers (log ++ l ∷ []) unit) ≡ length (answers log unit) + length (option_to_list (answer_by unit l.event)) =
    ap length (answers_more log l unit) ∙ length-append (answers log unit) (option_to_list (answer_by unit l.event)) in
    omega arith

pub begun_kept : (log : List Logged) (e : EngineEvent) (knows : List ℕ) → begun_by knows (Decides e) ≡ None
    → begun (log ++ record { event = Decides e; knows = knows } ∷ []) ≡ begun log
begun_kept [] e knows none = none
begun_kept (l ∷ log) e knows none = refl

pub land_more : (xs ys : List Answer) (k : ℕ) → is_land (slice_get xs k) ≡ true → is_land (slice_get (xs ++ ys) k) ≡ true
land_more [] ys k e = absurd cc
land_more (x ∷ xs) ys zero e = e
land_more (x ∷ xs) ys (suc k) e = land_more xs ys k e

pub begun_knows : (n : ℕ) (log : List Logged) (b : Begun) → begun (take n log) ≡ Some b → 0 < n
begun_knows zero log b e = absurd (none-some b e)
begun_knows (suc n) log b e = omega arith

pub begun_stays : (log : List Logged) (l : Logged) (b : Begun) → begun log ≡ Some b → begun (log ++ l ∷ []) ≡ Some b
begun_stays [] l b e = absurd (none-some b e)
begun_stays (m ∷ log) l b e = e

pub first_begins : (l : Logged) (b : Beginning) → l.event ≡ Decides (Begin b) → begun (l ∷ []) ≡ Some (record { beginning = b; knows = l.knows })
first_begins l b is = ap (begun_by l.knows) is

pub begun_of_first : (n : ℕ) (log : List Logged) (b : Begun) → begun (take n log) ≡ Some b → begun log ≡ Some b
begun_of_first zero log b e = absurd (none-some b e)
begun_of_first (suc n) [] b e = e
begun_of_first (suc n) (l ∷ log) b e = e

pub begun_first : (log : List Logged) (b : Begun) → begun log ≡ Some b → (l : Logged) × (slice_get log 0 ≡ Some l) × (l.knows ≡ b.knows)
begun_first [] b e = absurd (none-some b e)
begun_first (l ∷ log) b e = (l, refl, by_event l.knows l.event e)
  where
    by_event : (knows : List ℕ) (event : Event) → begun_by knows event ≡ Some b → knows ≡ b.knows
    by_event knows (Decides (Begin beginning)) e = ap (λ (x : Begun). x.knows) (same_Some (record { beginning = beginning; knows = knows }) b e)
    by_event knows event e = absurd (none-some b e)

pub opened_same : (o p : Opening) → Opened o ≡ Opened p → o ≡ p
opened_same o p e = cc

pub begun_taken : (n : ℕ) (log : List Logged) → 0 < n → begun (take n log) ≡ begun log
begun_taken zero log h = absurd (omega arith)
begun_taken (suc n) [] h = refl
begun_taken (suc n) (l ∷ log) h = refl

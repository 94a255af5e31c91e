-- The line of a placed stripe is that of the opening in which it was placed.
use Rattle.std.proofs.Common.{◌≡◌, ℕ, Some, None, Option, List, take, refl, sym, subst, ap, ◌∙◌}
use Rattle.std.specs.Prelude.{slice_get}
use Rattle.std.specs.List.{AllByRecursion, enumerate_from}
use Rattle.std.specs.Option.{option_and_then}
use Rattle.std.proofs.lemmas.Option.{same_Some, none-some}
use Rattle.pblk_world.specs.Events.{Place, Event, Decides, Logged}
use Rattle.pblk_world.specs.EngineLog.{LineLife, AsFound, Opened, Freed, life_of, Opening, Placed, placed_by, placements}
use Rattle.core_laws.proofs.OpeningNumbers.{opens, opens_at, life_at}
use Rattle.core_laws.proofs.Opening.{all_made}
use Rattle.pblk_model.proofs.Parts.{get_whole}

-- a life by an opening is of the opening that its event made
pub IsOpenedFor : List Logged → ℕ → LineLife → Type 0
IsOpenedFor log line AsFound = Unit {0}
IsOpenedFor log line (Opened o) = (opens_at log o.number ≡ Some o.line) × (o.line ≡ line)
IsOpenedFor log line (Freed past k) = Unit {0}

opens_whole : (m : ℕ) (log : List Logged) (n line : ℕ) → opens_at (take m log) n ≡ Some line → opens_at log n ≡ Some line
opens_whole m log n line e = go (slice_get (take m log) n) refl e
  where
    go : (o : Option Logged) → slice_get (take m log) n ≡ o → option_and_then (λ (l : Logged). opens l.event) o ≡ Some line → opens_at log n ≡ Some line
    go None f g = absurd (none-some line g)
    go (Some l) f g = ap (option_and_then (λ (l : Logged). opens l.event)) (get_whole m log n l f) ∙ g

life_for : (log : List Logged) (m line : ℕ) (life : LineLife) → life_of (take m log) line ≡ life → IsOpenedFor log line life
unfolding IsOpenedFor
life_for log m line AsFound e = tt
life_for log m line (Opened o) e =
    let at = life_at (take m log) line o e in
    (opens_whole m log o.number o.line (at.0 ∙ ap (λ n. Some n) (sym at.1)), at.1)
life_for log m line (Freed past k) e = tt

placed_for : (log : List Logged) (number : ℕ) (e : Event) (p : Placed) → placed_by log number e ≡ Some p → IsOpenedFor log p.stripe.line p.life
placed_for log number (Decides (Place stripe)) p h =
    let is : ◌≡◌ {A = Placed} (record { number = number; stripe = stripe; life = life_of (take number log) stripe.line }) p =
    same_Some (record { number = number; stripe = stripe; life = life_of (take number log) stripe.line }) p h in
    subst (λ (x : Placed). IsOpenedFor log x.stripe.line x.life) is (life_for log number stripe.line (life_of (take number log) stripe.line) refl)
placed_for log number e p h = absurd (none-some p h)

pub placed_lines : (log : List Logged) → AllByRecursion (λ (p : Placed). IsOpenedFor log p.stripe.line p.life) (placements log)
placed_lines log = all_made (λ (e : ℕ × Logged). placed_by log e.0 e.1.event) (λ (p : Placed). IsOpenedFor log p.stripe.line p.life)
    (λ e p h. placed_for log e.0 e.1.event p h) (enumerate_from 0 log)

-- two stripes of one opening have its line
pub own_opening : (log : List Logged) (line : ℕ) (o : Opening) → IsOpenedFor log line (Opened o) → (opens_at log o.number ≡ Some o.line) × (o.line ≡ line)
unfolding IsOpenedFor
own_opening log line o is = is

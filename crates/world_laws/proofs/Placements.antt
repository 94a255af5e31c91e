-- The stripes that the engine's log places: where each stands. A longer log has them at the same
-- places.
use Rattle.std.proofs.Common.{◌≡◌, ℕ, ◌+◌, ◌<◌, ◌==◌, suc, zero, Bool, Some, List, [], ◌∷◌, length, take, drop, refl, sym, subst, ap, ◌∙◌, arith}
use Rattle.std.specs.Prelude.{slice_get}
use Rattle.std.specs.List.{filter, enumerate_from}
use Rattle.std.proofs.lemmas.List.{take-append-drop}
use Rattle.std.proofs.lemmas.List.Elements.{filter-append}
use Rattle.std.proofs.lemmas.Option.{none-some, same_Some}
use Rattle.pblk_world.specs.Events.{Event, Decides, Place, Logged}
use Rattle.pblk_world.specs.EngineLog.{Placed, placed_by, placements, placed_on, life_of}
use Rattle.pblk_model.proofs.Lists.{IsAmong}
use Rattle.pblk_model.proofs.Maps.{from_given, from_filter}
use Rattle.pblk_model.proofs.Parts.{get_more, get_below}
use Rattle.world_laws.proofs.Later.{placements_joined}

-- ---- in a longer log

pub still_placed : (n : ℕ) (log : List Logged) (unit k : ℕ) (p : Placed) → slice_get (placed_on (take n log) unit) k ≡ Some p
    → slice_get (placed_on log unit) k ≡ Some p
still_placed n log unit k p there =
    let more = placements_joined (take n log) (drop n log) in
    let test : Placed → Bool = λ p. p.stripe.unit == unit in
    ap (λ (xs : List Logged). slice_get (placed_on xs unit) k) (sym (take-append-drop n log))
    ∙ ap (λ ps. slice_get (filter (λ (p : Placed). p.stripe.unit == unit) ps) k) more.1
    ∙ ap (λ ps. slice_get ps k) (filter-append (λ (p : Placed). p.stripe.unit == unit) (placements (take n log)) more.0)
    ∙ get_more (placed_on (take n log) unit) (filter (λ (p : Placed). p.stripe.unit == unit) more.0) k p there

-- ---- where a stripe stands

-- the event that placed it, and what its line was then
pub record IsPlacing (log : List Logged) (p : Placed) : Type 0 where
  pub logged : Logged
  pub there : slice_get log p.number ≡ Some logged
  pub event : logged.event ≡ Decides (Place p.stripe)
  pub life : p.life ≡ life_of (take p.number log) p.stripe.line

pub number_of : {X : Type 0} (n : ℕ) (xs : List X) (j : ℕ) (e : ℕ × X) → slice_get (enumerate_from n xs) j ≡ Some e → (e.0 ≡ n + j)
    × (slice_get xs j ≡ Some e.1)
number_of n [] j e at = absurd (none-some e at)
number_of n (x ∷ xs) zero e at =
    let same : (n, x) ≡ e = same_Some (n, x) e at in
    let number : n ≡ e.0 = ap (λ (y : ℕ × _). y.0) same in
    (omega arith, ap (λ (y : ℕ × _). Some y.1) same)
number_of n (x ∷ xs) (suc j) e at = let rest = number_of (n + 1) xs j e at in (omega (arith, rest.0), rest.1)

placing_by : (log : List Logged) (number : ℕ) (l : Logged) (p : Placed) (event : Event) → l.event ≡ event → slice_get log number ≡ Some l
    → placed_by log number event ≡ Some p → IsPlacing log p
placing_by log number l p (Decides (Place stripe)) is there by =
    subst (IsPlacing log) (same_Some (record { number = number; stripe = stripe; life = life_of (take number log) stripe.line }) p by)
    (record { logged = l; there = there; event = is; life = refl })
placing_by log number l p event is there by = absurd (none-some p by)

pub placing : (log : List Logged) (p : Placed) → IsAmong (placements log) p → IsPlacing log p
placing log p among =
    let from = from_given (λ (e : ℕ × Logged). placed_by log e.0 e.1.event) (enumerate_from 0 log) p among.0 among.1 in
    let at = number_of 0 log from.1.0 from.0 from.1.1 in
    let number : from.0.0 ≡ from.1.0 = omega (arith, at.0) in
    placing_by log from.0.0 from.0.1 p from.0.1.event refl (ap (slice_get log) number ∙ at.1) from.2

pub placing_on : (log : List Logged) (unit k : ℕ) (p : Placed) → slice_get (placed_on log unit) k ≡ Some p → IsPlacing log p
placing_on log unit k p there = placing log p (from_filter (λ (q : Placed). q.stripe.unit == unit) (placements log) p (k, there))

pub placed_before : (log : List Logged) (unit k : ℕ) (p : Placed) → slice_get (placed_on log unit) k ≡ Some p → p.number < length log
placed_before log unit k p there = let at = placing_on log unit k p there in get_below log p.number at.logged at.there

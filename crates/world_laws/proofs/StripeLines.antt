-- The line of a stripe stays as it was when the stripe was placed, until it is freed; by then the
-- stripe was answered.
use Rattle.std.proofs.Common.{◌≡◌, ℕ, ◌+◌, ◌-◌, ◌<◌, ◌≤◌, ◌⊎◌, inl, inr, ◌==◌, true, Some, List, length, take, sym, subst, ap, ◌∙◌, arith}
use Rattle.std.specs.Prelude.{slice_get}
use Rattle.std.specs.List.{Contains}
use Rattle.std.proofs.lemmas.Bool.{cases_order}
use Rattle.std.proofs.lemmas.Option.{same_Some}
use Rattle.pblk_model.specs.Image.{Image}
use Rattle.pblk_world.specs.Events.{Decides, Free, Place, Logged}
use Rattle.pblk_world.specs.World.{World, Logs, log_of, prefixes}
use Rattle.pblk_world.specs.EngineLog.{LineLife, Opened, life_of, is_life, Placed, placements, placed_on, stripes_of, is_answered}
use Rattle.pblk_world.specs.Freeing.{MayFree, IsAnswered}
use Rattle.pblk_world.specs.Legal.{IsLegal}
use Rattle.pblk_model.proofs.Lists.{IsAmong}
use Rattle.pblk_model.proofs.Maps.{from_filter, in_filter}
use Rattle.pblk_model.proofs.Parts.{contained_among, get_below}
use Rattle.pblk_model.proofs.Tests.{same_number}
use Rattle.world_laws.proofs.NextLives.{IsDecided, IsFreedAt, IsPlacedIn, open_or_freed, placed_in}
use Rattle.world_laws.proofs.Tellings.{IsToldBefore, answered_told}
use Rattle.world_laws.proofs.UnitTurns.{earlier_placed, placed_then, unit_is}

module _ (i : Image) (w : World) (legal : IsLegal i w) (unit j : ℕ) (p : Placed) (there : slice_get (placed_on (log_of w 0) unit) j ≡ Some p) where
  abbrev log : List Logged
  log = log_of w 0

  abbrev at : IsPlacedIn i w legal unit j p
  at = placed_in i w legal unit j p there

  -- its line was freed, and it was answered before
  pub record IsGone (k : ℕ) : Type 0 where
    pub freed : IsFreedAt i w legal p.stripe.line (placed_in i w legal unit j p there).opening p.number k
    pub told : IsToldBefore i w legal unit j freed.number

  gone : (k : ℕ) → IsFreedAt i w legal p.stripe.line at.opening p.number k → IsGone k
  gone k freed =
      let d : IsDecided i w legal freed.number (Free p.stripe.line) freed.logged = freed.decided in
      let inside : freed.number < length log = get_below log freed.number freed.logged d.there in
      let later : p.number < freed.number = after freed in
      let before : slice_get (placed_on (take freed.number log) unit) j ≡ Some p = placed_then log unit j freed.number p there later (omega arith) in
      let among : IsAmong (placements (take freed.number log)) p = from_filter (λ (q : Placed). q.stripe.unit == unit) (placements (take freed.number log)) p
      (j, before) in
      let mine : is_life at.opening.number p.life ≡ true = ap (is_life at.opening.number) at.its_life ∙ same_number at.opening.number in
      let its : Contains (stripes_of (take freed.number log) at.opening) p =
      contained_among (stripes_of (take freed.number log) at.opening) p
      (in_filter (λ (q : Placed). is_life at.opening.number q.life) (placements (take freed.number log)) p among mine) in
      let may : MayFree i (prefixes freed.logged (log_of w)) p.stripe.line = d.allowed.2 in
      let answered : is_answered (take freed.number log) p ≡ true =
      by_life (prefixes freed.logged (log_of w)) freed.number d.own (life_of (prefixes freed.logged (log_of w) 0) p.stripe.line)
      (ap (λ (xs : List Logged). life_of xs p.stripe.line) d.own ∙ freed.was) may.answered its in
      record { freed = freed; told = answered_told i w legal unit freed.number j p before answered }
    where
      after : (freed : IsFreedAt i w legal p.stripe.line at.opening p.number k) → p.number < freed.number
      after freed = by (cases_order p.number freed.number)
        where
          by : (p.number ≡ freed.number) ⊎ ((p.number < freed.number) ⊎ (freed.number < p.number)) → p.number < freed.number
          by (inl same) =
              let one : at.logged ≡ freed.logged = same_Some at.logged freed.logged (sym at.decided.there ∙ ap (slice_get log) same ∙ freed.decided.there) in
              let no : Decides (Place p.stripe) ≡ Decides (Free p.stripe.line) = sym at.decided.event ∙ ap (λ (l : Logged). l.event) one
              ∙ freed.decided.event in
              absurd cc
          by (inr (inl below)) = below
          by (inr (inr above)) = let low : p.number ≤ freed.number = freed.first in absurd (omega arith)

      by_life : (logs : Logs) (n : ℕ) → logs 0 ≡ take n log → (life : LineLife) → life ≡ Opened at.opening → IsAnswered logs life
          → Contains (stripes_of (take n log) at.opening) p → is_answered (take n log) p ≡ true
      by_life logs n own life is answered its =
          let each : IsAnswered logs (Opened at.opening) = subst (IsAnswered logs) is answered in
          subst (λ (xs : List Logged). is_answered xs p ≡ true) own (each p (subst (λ (xs : List Logged). Contains (stripes_of xs at.opening) p) (sym own) its))

  pub open_or_gone : (k : ℕ) → p.number < k → k ≤ length log → (life_of (take k log) p.stripe.line ≡ Opened at.opening) ⊎ IsGone k
  open_or_gone k later inside =
      let far : p.number + (k - p.number) ≡ k = omega arith in
      go (subst (λ m. (life_of (take m log) p.stripe.line ≡ Opened at.opening) ⊎ IsFreedAt i w legal p.stripe.line at.opening p.number m) far
      (open_or_freed i w legal p.stripe.line p.number (k - p.number) at.opening (omega arith) at.is_open))
    where
      go : (life_of (take k log) p.stripe.line ≡ Opened at.opening) ⊎ IsFreedAt i w legal p.stripe.line at.opening p.number k
          → (life_of (take k log) p.stripe.line ≡ Opened at.opening) ⊎ IsGone k
      go (inl now) = inl now
      go (inr freed) = inr (gone k freed)

-- a stripe that was placed on a unit was answered before the next one was placed there
pub earlier_told : (i : Image) (w : World) (legal : IsLegal i w) (unit j k : ℕ) (p q : Placed) → j < k → slice_get (placed_on (log_of w 0) unit) j ≡ Some p
    → slice_get (placed_on (log_of w 0) unit) k ≡ Some q
    → IsToldBefore i w legal unit j q.number
earlier_told i w legal unit j k p q below there next =
    let log : List Logged = log_of w 0 in
    let at : IsPlacedIn i w legal unit k q = placed_in i w legal unit k q next in
    let inside : q.number < length log = get_below log q.number at.logged at.decided.there in
    let before : slice_get (placed_on (take q.number log) unit) j ≡ Some p = placed_then log unit j q.number p there
    (earlier_placed log unit j k p q below there next) (omega arith) in
    let own : prefixes at.logged (log_of w) 0 ≡ take q.number log = at.decided.own in
    let its_unit : q.stripe.unit ≡ unit = unit_is log unit k q next in
    let among : Contains (placed_on (take q.number log) q.stripe.unit) p =
    subst (λ u. Contains (placed_on (take q.number log) u) p) (sym its_unit) (contained_among (placed_on (take q.number log) unit) p (j, before)) in
    let answered : is_answered (take q.number log) p ≡ true =
    subst (λ (xs : List Logged). is_answered xs p ≡ true) own
    (at.may.idle p (subst (λ (xs : List Logged). Contains (placed_on xs q.stripe.unit) p) (sym own) among)) in
    answered_told i w legal unit q.number j p before answered

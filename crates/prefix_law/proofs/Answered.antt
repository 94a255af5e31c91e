-- Where each placed stripe is answered and what was lost was placed again, an entry that was
-- placed has landed.
use Rattle.std.proofs.Common.{◌≡◌, ℕ, ◌<◌, ◌==◌, ◌&&◌, nat_lt, Bool, true, false, Some, None, Option, List, [], length, refl, ap, ◌∙◌, arith, if◌then◌else◌}
use Rattle.std.specs.List.{Contains, filter}
use Rattle.std.specs.Option.{is_some}
use Rattle.std.proofs.lemmas.Bool.{eqb-true}
use Rattle.std.proofs.lemmas.Option.{none-some}
use Rattle.pblk_model.specs.declared.shape.Shape.{Shape}
use Rattle.pblk_world.specs.Events.{Landed, Lost, Event, Decides, Does, Logged}
use Rattle.pblk_world.specs.EngineLog.{Taken, takes, Placed, placements, Answer, DidLand, WasLost, answer_by, answer_of, turn, is_land, is_loss, has_landed, was_lost, is_answered, holds_position}
use Rattle.pblk_world.specs.Fronts.{has_landed_at, times_placed, times_lost, waits, was_placed}
use Rattle.pblk_model.proofs.Lists.{IsAmong, all_of, among_all, among_contained}
use Rattle.pblk_model.proofs.Maps.{filter_agree, filter_none, in_filter}
use Rattle.pblk_model.proofs.Parts.{all_at, contained_among, get_below}
use Rattle.pblk_model.proofs.Tests.{and_false, lt_true, no_both, not_both, same_number}
use Rattle.pblk_world.specs.LegalMounts.{is_losing, decides, NoStripeLost}
use Rattle.world_laws.proofs.Fronts.{at_landed}
use Rattle.prefix_law.specs.PlacedAgain.{ArePlacedAgain}
use Rattle.prefix_law.proofs.Among.{made_from}

-- ---- where nothing was lost

-- only a loss is answered by one
loses : (unit event : ℕ) (e : Event) → answer_by unit e ≡ Some (WasLost event) → decides is_losing e ≡ true
loses unit event (Decides (Lost other number)) is = refl
loses unit event (Decides (Landed other number)) is = absurd (go (other == unit) is)
  where
    go : (b : Bool) → (if b then Some (DidLand number) else None) ≡ Some (WasLost event) → ⊥
    go true e = cc
    go false e = cc
loses unit event (Decides e) is = absurd (none-some (WasLost event) is)
loses unit event (Does e maker) is = absurd (none-some (WasLost event) is)

none_is_loss : (log : List Logged) (p : Placed) (event : ℕ) → NoStripeLost log → answer_of log p ≡ Some (WasLost event) → ⊥
none_is_loss log p event none is =
    let made = made_from (λ (l : Logged). answer_by p.stripe.unit l.event) log (WasLost event) (turn log p, is) in
    let not : decides is_losing made.1.event ≡ false = all_at (λ (l : Logged). decides is_losing l.event ≡ false) log made.0 made.1 made.2 none in
    no_both (decides is_losing made.1.event) (loses p.stripe.unit event made.1.event made.3) not

none_was : (log : List Logged) (p : Placed) → NoStripeLost log → was_lost log p ≡ false
none_was log p none = go (answer_of log p) refl
  where
    go : (o : Option Answer) → answer_of log p ≡ o → is_loss o ≡ false
    go None is = refl
    go (Some (DidLand event)) is = refl
    go (Some (WasLost event)) is = absurd (none_is_loss log p event none is)

-- so an entry that waits was never placed
pub unlost_again : (s : Shape) (log : List Logged) → NoStripeLost log → ArePlacedAgain s log
unlost_again s log none t there waits_ =
    let never : filter (λ (p : Placed). was_lost log p && holds_position s t.entry.position p) (placements log) ≡ [] =
    filter_none (λ (p : Placed). was_lost log p && holds_position s t.entry.position p) (placements log)
    (all_of (λ (p : Placed). (was_lost log p && holds_position s t.entry.position p) ≡ false)
    (λ p. ap (λ b. b && holds_position s t.entry.position p) (none_was log p none)) (placements log)) in
    ap (nat_lt 0) (eqb-true (times_placed s log t) (times_lost s log t) waits_ ∙ ap (λ (ps : List Placed). length ps) never)

-- ---- where each stripe is answered

abbrev pub AreAnswered : List Logged → Type 0
AreAnswered log = (p : Placed) → Contains (placements log) p → is_answered log p ≡ true

-- it was lost, if it didn't land
lost_else : (o : Option Answer) → is_some o ≡ true → is_land o ≡ false → is_loss o ≡ true
lost_else None some not = absurd (cc)
lost_else (Some (DidLand event)) some not = absurd (cc)
lost_else (Some (WasLost event)) some not = refl

-- an entry that was placed and didn't land waits
waits_again : (s : Shape) (log : List Logged) (t : Taken) → AreAnswered log → has_landed_at s log t.entry.position ≡ false → waits s log t ≡ true
waits_again s log t answered missing =
    let q : ℕ = t.entry.position in
    let alike : filter (λ (p : Placed). was_lost log p && holds_position s q p) (placements log) ≡ filter (holds_position s q) (placements log) =
    filter_agree (IsAmong (placements log)) (λ (p : Placed). was_lost log p && holds_position s q p) (holds_position s q)
    (λ p among. one p (contained_among (placements log) p among) (holds_position s q p) refl) (placements log) (among_all (placements log)) in
    ap (λ n. times_placed s log t == n) (ap (λ (ps : List Placed). length ps) alike) ∙ same_number (times_placed s log t)
  where
    one : (p : Placed) → Contains (placements log) p → (b : Bool) → holds_position s t.entry.position p ≡ b → (was_lost log p && b) ≡ b
    one p there false holds = and_false (was_lost log p) false refl
    one p there true holds = ap (λ b. b && true) (lost_else (answer_of log p) (answered p there) (not_landed (has_landed log p) refl))
      where
        not_landed : (b : Bool) → has_landed log p ≡ b → b ≡ false
        not_landed false is = refl
        not_landed true is = absurd (not_both (has_landed_at s log t.entry.position)
            (at_landed s log t.entry.position (record { placed = p; there = there; landed = is; holds = holds })) missing)

was_placed_there : (s : Shape) (log : List Logged) (t : Taken) (p : Placed) → Contains (placements log) p → holds_position s t.entry.position p ≡ true
    → was_placed s log t ≡ true
was_placed_there s log t p there holds =
    let among = in_filter (holds_position s t.entry.position) (placements log) p (among_contained (placements log) p there) holds in
    let below : among.0 < length (filter (holds_position s t.entry.position) (placements log)) =
    get_below (filter (holds_position s t.entry.position) (placements log)) among.0 p among.1 in
    lt_true 0 (times_placed s log t) (omega arith)

-- and where what was lost was placed again there is no such entry
pub placed_has_landed : (s : Shape) (log : List Logged) (t : Taken) (p : Placed) → ArePlacedAgain s log → AreAnswered log → Contains (takes log) t
    → Contains (placements log) p → holds_position s t.entry.position p ≡ true → has_landed_at s log t.entry.position ≡ true
placed_has_landed s log t p again answered taken there holds = go (has_landed_at s log t.entry.position) refl
  where
    go : (b : Bool) → has_landed_at s log t.entry.position ≡ b → b ≡ true
    go true is = refl
    go false is = absurd (not_both (was_placed s log t) (was_placed_there s log t p there holds) (again t taken (waits_again s log t answered is)))

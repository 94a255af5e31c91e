-- A stripe was lost: its entries are in no line, and wait again.
use Rattle.std.proofs.Common.{◌≡◌, ◌⊎◌, inl, inr, ℕ, ◌&&◌, not, Bool, true, false, Some, None, List, refl, sym, ap, ap₂, ◌∙◌}
use Rattle.std.specs.Prelude.{if◌then◌else◌}
use Rattle.std.specs.List.{AllByRecursion, find, list_any}
use Rattle.std.specs.Option.{option_map}
use Rattle.pblk_model.specs.declared.shape.Shape.{Shape}
use Rattle.pblk_world.specs.Events.{Lost, Logged}
use Rattle.pblk_world.specs.EngineLog.{Placed, placements, WasLost, answer_of, is_land, is_loss, has_landed, was_lost, holds_position}
use Rattle.pblk_world.specs.Fronts.{has_landed_at}
use Rattle.pblk_world.specs.Victims.{is_in_force, line_of_position, landed_line}
use Rattle.core_laws.specs.PlacerOf.{unanswered_on}
use Rattle.core_laws.specs.EntryHolds.{placed_line}
use Rattle.core_laws.proofs.HeldOnce.{HeldOnce}
use Rattle.core_laws.proofs.KeptStripes.{with_event}
use Rattle.core_laws.proofs.NotedAnswers.{one_answered}
use Rattle.pblk_model.proofs.Lists.{IsAmong, all_imply, among_all}
use Rattle.pblk_model.proofs.Maps.{any_agree, find_agree, find_none}
use Rattle.pblk_model.proofs.Parts.{all_at}

-- a stripe was lost, and what became of the others is as it was
pub record IsOneLost (log new : List Logged) (p : Placed) : Type 0 where
  pub stripes : placements new ≡ placements log
  pub among : IsAmong (placements log) p
  pub before : answer_of log p ≡ None
  pub lost : was_lost new p ≡ true
  pub not_landed : has_landed new p ≡ false
  pub others : AllByRecursion (λ r. (r ≡ p) ⊎ (answer_of new r ≡ answer_of log r)) (placements log)

pub one_lost : (log : List Logged) (unit event : ℕ) (knows : List ℕ) (p : Placed) → unanswered_on log unit ≡ Some p
    → IsOneLost log (with_event log (Lost unit event) knows) p
one_lost log unit event knows p waiting =
    let one = one_answered log unit (WasLost event) knows p waiting in
    record { stripes = one.stripes; among = one.among; before = one.before; lost = ap is_loss one.now; not_landed = ap is_land one.now; others = one.others }

-- what became of one of the stripes
other : (log new : List Logged) (p r : Placed) → IsOneLost log new p → IsAmong (placements log) r → (r ≡ p) ⊎ (answer_of new r ≡ answer_of log r)
other log new p r is among = all_at (λ (r : Placed). (r ≡ p) ⊎ (answer_of new r ≡ answer_of log r)) (placements log) among.0 r among.1 is.others

-- ---- what has landed

pub landed_same : (log new : List Logged) (p r : Placed) → IsOneLost log new p → IsAmong (placements log) r → has_landed new r ≡ has_landed log r
landed_same log new p r is among = elim (other log new p r is among) as (λ _. has_landed new r ≡ has_landed log r) [
  | inl same ↦ ap (has_landed new) same ∙ is.not_landed ∙ sym (ap is_land is.before) ∙ ap (has_landed log) (sym same)
  | inr kept ↦ ap is_land kept
]

pub landed_at_same : (s : Shape) (log new : List Logged) (p : Placed) (q : ℕ) → IsOneLost log new p → has_landed_at s new q ≡ has_landed_at s log q
landed_at_same s log new p q is =
    ap (list_any (λ r. has_landed new r && holds_position s q r)) is.stripes
    ∙ any_agree (λ r. has_landed new r && holds_position s q r) (λ r. has_landed log r && holds_position s q r) (placements log)
    (all_imply (IsAmong (placements log)) (λ (r : Placed). (has_landed new r && holds_position s q r) ≡ (has_landed log r && holds_position s q r))
    (λ r among. ap (λ b. b && holds_position s q r) (landed_same log new p r is among)) (placements log) (among_all (placements log)))

-- the lines stand as before
abbrev pub StandAsBefore : List Logged → List Logged → Type 0
StandAsBefore log new = (r : Placed) → is_in_force new r.life r.stripe.line ≡ is_in_force log r.life r.stripe.line

pub landed_line_same : (s : Shape) (log new : List Logged) (p : Placed) (q : ℕ) → IsOneLost log new p → StandAsBefore log new
    → landed_line s new q ≡ landed_line s log q
landed_line_same s log new p q is stand =
    ap (λ ps. option_map (λ (r : Placed). r.stripe.line)
    (find (λ (r : Placed). holds_position s q r && has_landed new r && is_in_force new r.life r.stripe.line) ps)) is.stripes
    ∙ ap (option_map (λ (r : Placed). r.stripe.line))
    (find_agree (IsAmong (placements log)) (λ r. holds_position s q r && has_landed new r && is_in_force new r.life r.stripe.line)
    (λ r. holds_position s q r && has_landed log r && is_in_force log r.life r.stripe.line)
    (λ r among. ap₂ (λ a b. holds_position s q r && a && b) (landed_same log new p r is among) (stand r)) (placements log) (among_all (placements log)))

-- ---- the line of an entry

abbrev holds_it : Shape → List Logged → ℕ → Placed → Bool
holds_it s log q r = holds_position s q r && not (was_lost log r)

holder_now : (s : Shape) (log new : List Logged) (p r : Placed) (q : ℕ) → HeldOnce s log → IsOneLost log new p → IsAmong (placements log) r
    → holds_it s new q r ≡ (not (holds_position s q p) && holds_it s log q r)
holder_now s log new p r q once is among = elim (other log new p r is among) as (λ _. holds_it s new q r ≡ (not (holds_position s q p) && holds_it s log q r)) [
  | inl same ↦ ap (holds_it s new q) same ∙ own (holds_position s q p) (was_lost new p) (was_lost log p) is.lost
      ∙ ap (λ (x : Placed). not (holds_position s q p) && holds_it s log q x) (sym same)
  | inr kept ↦ ap (λ a. holds_position s q r && not (is_loss a)) kept
      ∙ beside (holds_position s q p) (holds_position s q r) (was_lost log r) refl refl refl kept
]
  where
    own : (b l m : Bool) → l ≡ true → (b && not l) ≡ (not b && (b && not m))
    own true true m e = refl
    own false l m e = refl
    own true false m e = absurd cc

    beside : (a b l : Bool) → holds_position s q p ≡ a → holds_position s q r ≡ b → was_lost log r ≡ l → answer_of new r ≡ answer_of log r
        → (b && not l) ≡ (not a && (b && not l))
    beside false b l e f g kept = refl
    beside true false l e f g kept = refl
    beside true true true e f g kept = refl
    beside true true false e f g kept =
        let same : r ≡ p = once q r p among is.among f e g (ap is_loss is.before) in
        absurd (not_its (was_lost new p) is.lost (ap (was_lost new) (sym same) ∙ ap is_loss kept ∙ g))
      where
        not_its : (b : Bool) → b ≡ true → b ≡ false → ⊥
        not_its true e f = cc
        not_its false e f = cc

pub line_lost : (s : Shape) (log new : List Logged) (p : Placed) (q : ℕ) → HeldOnce s log → IsOneLost log new p
    → placed_line s new q ≡ (if holds_position s q p then None else placed_line s log q)
line_lost s log new p q once is =
    ap (λ ps. option_map (λ (r : Placed). r.stripe.line) (find (holds_it s new q) ps)) is.stripes
    ∙ go (holds_position s q p) (all_imply (IsAmong (placements log))
    (λ (r : Placed). holds_it s new q r ≡ (not (holds_position s q p) && holds_it s log q r)) (λ r among. holder_now s log new p r q once is among)
    (placements log) (among_all (placements log)))
  where
    go : (b : Bool) → AllByRecursion (λ (r : Placed). holds_it s new q r ≡ (not b && holds_it s log q r)) (placements log)
        → option_map (λ (r : Placed). r.stripe.line) (find (holds_it s new q) (placements log)) ≡ (if b then None else placed_line s log q)
    go true all = ap (option_map (λ (r : Placed). r.stripe.line)) (find_none (holds_it s new q) (placements log) all)
    go false all = ap (option_map (λ (r : Placed). r.stripe.line))
        (find_agree (λ (r : Placed). holds_it s new q r ≡ holds_it s log q r) (holds_it s new q) (holds_it s log q) (λ r e. e) (placements log) all)

pub position_lost : (s : Shape) (log new : List Logged) (p : Placed) (q : ℕ) → HeldOnce s log → IsOneLost log new p → StandAsBefore log new
    → line_of_position s new q ≡ (if holds_position s q p then None else line_of_position s log q)
position_lost s log new p q once is stand =
    ap (λ ps. option_map (λ (r : Placed). r.stripe.line) (find (test new) ps)) is.stripes
    ∙ go (holds_position s q p) (all_imply (IsAmong (placements log))
    (λ (r : Placed). test new r ≡ ((not (holds_position s q p) && holds_it s log q r) && is_in_force log r.life r.stripe.line))
    (λ r among. ap₂ (λ a b. a && b) (holder_now s log new p r q once is among) (stand r)) (placements log) (among_all (placements log)))
  where
    test : List Logged → Placed → Bool
    test xs r = holds_position s q r && not (was_lost xs r) && is_in_force xs r.life r.stripe.line

    go : (b : Bool) → AllByRecursion (λ (r : Placed). test new r ≡ ((not b && holds_it s log q r) && is_in_force log r.life r.stripe.line)) (placements log)
        → option_map (λ (r : Placed). r.stripe.line) (find (test new) (placements log)) ≡ (if b then None else line_of_position s log q)
    go true all = ap (option_map (λ (r : Placed). r.stripe.line)) (find_none (test new) (placements log) all)
    go false all = ap (option_map (λ (r : Placed). r.stripe.line))
        (find_agree (λ (r : Placed). test new r ≡ test log r) (test new) (test log) (λ r e. e) (placements log) all)

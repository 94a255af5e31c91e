-- The fronts never fall, and what has landed has landed.
use Rattle.std.proofs.Common.{◌≡◌, ◌⊎◌, inl, inr, ℕ, ◌+◌, ◌<◌, ◌≤◌, ◌&&◌, zero, suc, Bool, true, false, Some, List, [], ◌∷◌, ◌++◌, length, sym, ap, ◌∙◌, arith, length-append, if◌then◌else◌}
use Rattle.std.specs.List.{Contains, find}
use Rattle.std.proofs.lemmas.Bool.{cases_lt}
use Rattle.std.proofs.lemmas.Option.{none-some}
use Rattle.pblk_model.specs.declared.shape.Shape.{Shape}
use Rattle.pblk_model.specs.Contents.{least_missing}
use Rattle.pblk_world.specs.Events.{Logged}
use Rattle.pblk_world.specs.EngineLog.{Begun, begun, takes, Placed, placements, has_landed, holds_position}
use Rattle.pblk_world.specs.Fronts.{first_position, taken, has_landed_at, synced}
use Rattle.pblk_world.proofs.SyncedFront.{synced_is, synced_within, synced_missing}
use Rattle.pblk_model.proofs.Lists.{among_contained}
use Rattle.pblk_model.proofs.Maps.{any_found, any_member, found_passes}
use Rattle.pblk_model.proofs.Options.{some_value}
use Rattle.pblk_model.proofs.Parts.{contained_among}
use Rattle.pblk_model.proofs.Tests.{and_both, first_of, no_both, second_of}
use Rattle.world_laws.proofs.Later.{takes_joined, landed_later, placed_later, placed_within}

-- a stripe that has landed holds the position
pub record IsLandedAt (s : Shape) (log : List Logged) (position : ℕ) : Type 0 where
  pub placed : Placed
  pub there : Contains (placements log) placed
  pub landed : has_landed log placed ≡ true
  pub holds : holds_position s position placed ≡ true

pub landed_at : (s : Shape) (log : List Logged) (position : ℕ) → has_landed_at s log position ≡ true → IsLandedAt s log position
landed_at s log position h =
    let test : Placed → Bool = λ p. has_landed log p && holds_position s position p in
    let found = some_value (find test (placements log)) (sym (any_found test (placements log)) ∙ h) in
    let passes = found_passes test (placements log) found.0 found.1 in record {
      placed = found.0;
      there = contained_among (placements log) found.0 passes.1;
      landed = first_of (has_landed log found.0) (holds_position s position found.0) passes.0;
      holds = second_of (has_landed log found.0) (holds_position s position found.0) passes.0;
    }

pub at_landed : (s : Shape) (log : List Logged) (position : ℕ) → IsLandedAt s log position → has_landed_at s log position ≡ true
at_landed s log position h =
    let at = among_contained (placements log) h.placed h.there in
    any_member (λ (p : Placed). has_landed log p && holds_position s position p) (placements log) at.0 h.placed at.1
    (and_both (has_landed log h.placed) (holds_position s position h.placed) h.landed h.holds)

pub landed_at_later : (s : Shape) (log more : List Logged) (position : ℕ) → has_landed_at s log position ≡ true → has_landed_at s (log ++ more) position ≡ true
landed_at_later s log more position h =
    let was = landed_at s log position h in
    at_landed s (log ++ more) position (record {
      placed = was.placed;
      there = placed_later log more was.placed was.there;
      landed = landed_later log more was.placed (placed_within log was.placed was.there) was.landed;
      holds = was.holds;
    })

pub begun_later : (log more : List Logged) (g : Begun) → begun log ≡ Some g → begun (log ++ more) ≡ Some g
begun_later [] more g e = absurd (none-some g e)
begun_later (l ∷ log) more g e = e

pub least_from : (borne : ℕ → Bool) (turns p : ℕ) → p ≤ least_missing borne turns p
unfolding least_missing
least_from borne zero p = omega arith
least_from borne (suc turns) p = go (borne p) (least_from borne turns (p + 1))
  where
    go : (b : Bool) → p + 1 ≤ least_missing borne turns (p + 1) → p ≤ (if b then least_missing borne turns (p + 1) else p)
    go true h = omega arith
    go false h = omega arith

pub synced_from : (s : Shape) (log : List Logged) → first_position log ≤ synced s log
synced_from s log = least_from (has_landed_at s log) (length (takes log)) (first_position log)

pub taken_later : (l : Logged) (log more : List Logged) → taken (l ∷ log) ≤ taken (l ∷ (log ++ more))
taken_later l log more =
    let counted : length (takes (l ∷ (log ++ more))) ≡ length (takes (l ∷ log)) + length (takes more) =
    ap length (takes_joined (l ∷ log) more) ∙ length-append (takes (l ∷ log)) (takes more) in
    omega arith

pub synced_later : (s : Shape) (log more : List Logged) → synced s log ≤ synced s (log ++ more)
synced_later s [] more = let none : synced s [] ≤ taken [] = synced_within s [] in omega arith
synced_later s (l ∷ log) more = go (cases_lt (synced s (l ∷ (log ++ more))) (synced s (l ∷ log)))
  where
    go : (synced s (l ∷ (log ++ more)) < synced s (l ∷ log)) ⊎ (synced s (l ∷ log) ≤ synced s (l ∷ (log ++ more)))
        → synced s (l ∷ log) ≤ synced s (l ∷ (log ++ more))
    go (inr h) = h
    go (inl below) =
        let new : List Logged = l ∷ (log ++ more) in
        let within : synced s (l ∷ log) ≤ taken (l ∷ log) = synced_within s (l ∷ log) in
        let grown : taken (l ∷ log) ≤ taken new = taken_later l log more in
        let from : first_position new ≤ synced s new = synced_from s new in
        no_both (has_landed_at s new (synced s new))
        (landed_at_later s (l ∷ log) more (synced s new) (synced_is s (l ∷ log) (synced s new) from below))
        (synced_missing s new (omega arith))

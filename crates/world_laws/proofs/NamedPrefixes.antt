-- Each event of a legal world was allowed by the prefixes that it names. What it knows of another
-- log was made before it, and so knew no more of the event's own log than stood there.
use Rattle.std.proofs.Common.{◌≡◌, ℕ, ◌<◌, ◌≤◌, ◌+◌, Some, List, length, take, sym, subst, ap, ◌∙◌, arith, length-append}
use Rattle.std.specs.Prelude.{slice_get}
use Rattle.std.proofs.lemmas.List.{take-append-le}
use Rattle.pblk_model.specs.Shape.{units}
use Rattle.pblk_model.specs.Image.{Image}
use Rattle.pblk_world.specs.Events.{Logged}
use Rattle.pblk_world.specs.World.{World, Logs, log_of, known, prefixes}
use Rattle.pblk_world.specs.Legal.{IsAllowed, IsLegal}
use Rattle.pblk_model.proofs.Numbers.{fun_same}
use Rattle.pblk_model.proofs.Parts.{get_first, is_in}
use Rattle.world_laws.proofs.Made.{IsMade, made, log_then, known_within}

-- an event with its number in its author's log
pub record IsByPrefixes (i : Image) (w : World) (author number : ℕ) (l : Logged) : Type 0 where
  pub in_range : author ≤ units i.shape
  pub own : known l author ≡ number
  pub within : (other : ℕ) → known l other ≤ length (log_of w other)
  pub allowed : IsAllowed i author l.event (prefixes l (log_of w))
  pub knew : (other m : ℕ) (k : Logged) → m < known l other → slice_get (log_of w other) m ≡ Some k → known k author ≤ number

pub was_made : (i : Image) (w : World) (author number : ℕ) (l : Logged) → IsLegal i w → slice_get (log_of w author) number ≡ Some l
    → IsByPrefixes i w author number l
was_made i w author number l legal there = record {
  in_range = h.step.author;
  own = h.step.knowledge.own ∙ h.here;
  within = λ other.
      let more = log_then i w author number l h other in
      let few : known l other ≤ length (log_of h.before other) = h.step.knowledge.within other in
      let longer : length (log_of w other) ≡ length (log_of h.before other) + length more.0 =
      ap length more.1 ∙ length-append (log_of h.before other) more.0 in
      omega arith;
  allowed = subst (λ (logs : Logs). IsAllowed i author l.event logs) (fun_same (prefixes l (log_of h.before)) (prefixes l (log_of w)) same) h.step.allowed;
  knew = λ other m k inside at.
      let more = log_then i w author number l h other in
      let few : known l other ≤ length (log_of h.before other) = h.step.knowledge.within other in
      let then_ : slice_get (log_of h.before other) m ≡ Some k =
      sym (get_first (log_of h.before other) more.0 m (omega arith)) ∙ sym (ap (λ (log : List Logged). slice_get log m) more.1) ∙ at in
      let low : known k author ≤ length (log_of h.before author) = known_within i h.before other author k h.legal (is_in (log_of h.before other) m k then_) in
      let here : length (log_of h.before author) ≡ number = h.here in
      omega arith;
}
  where
    h : IsMade i w author number l
    h = made i w author number l legal there

    same : (other : ℕ) → take (known l other) (log_of h.before other) ≡ take (known l other) (log_of w other)
    same other =
        let more = log_then i w author number l h other in
        sym (ap (take (known l other)) more.1 ∙ take-append-le (known l other) (log_of h.before other) more.0 (h.step.knowledge.within other))

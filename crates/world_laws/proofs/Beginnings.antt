-- The engine's log begins with `Begin`, which comes once.
use Rattle.std.proofs.Common.{◌≡◌, ◌⊎◌, inl, inr, ℕ, Some, List, [], ◌∷◌, length, take, refl, sym, subst, ap, ◌∙◌}
use Rattle.std.specs.Prelude.{slice_get}
use Rattle.std.proofs.lemmas.Option.{none-some}
use Rattle.pblk_model.specs.Image.{Image}
use Rattle.pblk_world.specs.Events.{Beginning, Begin, Take, Open, Place, Landed, Lost, Again, ResetDone, Free, Event, Decides, Does, Logged}
use Rattle.pblk_world.specs.World.{World, Logs, log_of, prefixes}
use Rattle.pblk_world.specs.EngineLog.{Begun, begun_by, begun}
use Rattle.pblk_world.specs.Legal.{IsLegal, IsAllowed}
use Rattle.pblk_world.proofs.LegalLemmas.{whole_own}
use Rattle.world_laws.proofs.Made.{IsMade, step_by, made, own_then}

-- an event comes first and begins the mount, or it comes later and the mount has begun
abbrev pub IsInTurn : List Logged → Event → Type 0
IsInTurn before (Decides (Begin b)) = before ≡ []
IsInTurn before (Decides e) = (g : Begun) × (begun before ≡ Some g)
IsInTurn before (Does e maker) = ⊥

pub in_turn : (i : Image) (logs : Logs) (e : Event) → IsAllowed i 0 e logs → IsInTurn (logs 0) e
in_turn i logs (Decides (Begin b)) may = may.is_first
in_turn i logs (Decides (Take entry mark)) may = (may.0, may.1)
in_turn i logs (Decides (Open line start)) may = (may.0, may.1)
in_turn i logs (Decides (Place stripe)) may = (may.0, may.1)
in_turn i logs (Decides (Landed unit event)) may = (may.0, may.1)
in_turn i logs (Decides (Lost unit event)) may = (may.0, may.1)
in_turn i logs (Decides (Again unit event)) may = (may.0, may.1)
in_turn i logs (Decides (ResetDone unit event)) may = (may.0, may.1)
in_turn i logs (Decides (Free line)) may = (may.0, may.1)
in_turn i logs (Does e maker) may = may

-- an event of the engine's log with those before it
pub turn_of : (i : Image) (w : World) (number : ℕ) (l : Logged) → IsLegal i w → slice_get (log_of w 0) number ≡ Some l
    → IsInTurn (take number (log_of w 0)) l.event
turn_of i w number l legal there =
    let h : IsMade i w 0 number l = made i w 0 number l legal there in
    subst (λ (log : List Logged). IsInTurn log l.event) (whole_own i (step_by 0 l) h.before h.step ∙ own_then i w 0 number l h)
    (in_turn i (prefixes l (log_of h.before)) l.event h.step.allowed)

-- only the first event begins the mount
pub begins_first : (i : Image) (w : World) (number : ℕ) (l : Logged) (b : Beginning) → IsLegal i w → slice_get (log_of w 0) number ≡ Some l
    → l.event ≡ Decides (Begin b) → number ≡ 0
begins_first i w number l b legal there is =
    let h : IsMade i w 0 number l = made i w 0 number l legal there in
    let none : log_of h.before 0 ≡ [] =
    own_then i w 0 number l h ∙ subst (λ (e : Event). IsInTurn (take number (log_of w 0)) e) is (turn_of i w number l legal there) in
    sym h.here ∙ ap (λ (log : List Logged). length log) none

-- the first event begins it
pub first_begins : (i : Image) (w : World) (l : Logged) → IsLegal i w → slice_get (log_of w 0) 0 ≡ Some l → (b : Beginning) × (l.event ≡ Decides (Begin b))
first_begins i w l legal there = go l.event refl (turn_of i w 0 l legal there)
  where
    go : (e : Event) → l.event ≡ e → IsInTurn [] e → (b : Beginning) × (l.event ≡ Decides (Begin b))
    go (Decides (Begin b)) is turn = (b, is)
    go (Decides e) is turn = absurd (none-some turn.0 turn.1)
    go (Does e maker) is turn = absurd turn

-- an event begins the mount, or it has begun
pub begun_by_then : (i : Image) (logs : Logs) (e : Event) → IsAllowed i 0 e logs → (logs 0 ≡ []) ⊎ ((g : Begun) × (begun (logs 0) ≡ Some g))
begun_by_then i logs e may = go e (in_turn i logs e may)
  where
    go : (e : Event) → IsInTurn (logs 0) e → (logs 0 ≡ []) ⊎ ((g : Begun) × (begun (logs 0) ≡ Some g))
    go (Decides (Begin b)) turn = inl turn
    go (Decides e) turn = inr turn
    go (Does e maker) turn = absurd turn

-- once the log has an event, the mount has begun
pub has_begun : (i : Image) (w : World) (l : Logged) (log : List Logged) → IsLegal i w → log_of w 0 ≡ l ∷ log → (g : Begun) × (begun (log_of w 0) ≡ Some g)
has_begun i w l log legal e =
    let first = first_begins i w l legal (ap (λ (xs : List Logged). slice_get xs 0) e) in (
      record { beginning = first.0; knows = l.knows },
      ap begun e ∙ ap (begun_by l.knows) first.1,
    )

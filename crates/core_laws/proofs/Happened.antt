-- Each event of a legal world was allowed by the prefixes that it names, and what landed is the
-- program of its stripe.
use Rattle.std.proofs.Common.{◌≡◌, ℕ, ◌<◌, zero, suc, true, Some, List, [], ◌∷◌, length, take, refl, sym, subst, ap, ap₂, ◌∙◌, arith}
use Rattle.std.specs.Prelude.{slice_get}
use Rattle.std.specs.Option.{option_and_then}
use Rattle.std.proofs.lemmas.Option.{same_Some, none-some}
use Rattle.pblk_model.specs.Chunk.{Chunk}
use Rattle.pblk_model.specs.ChunkStep.{ChunkCommand, Write, Read, Reset}
use Rattle.pblk_model.specs.UnitLog.{UnitEvent}
use Rattle.pblk_model.specs.Image.{Image}
use Rattle.pblk_world.specs.Events.{Event, Decides, Does, Logged}
use Rattle.pblk_world.specs.World.{World, Logs, log_of, known, prefixes, unit_event_of}
use Rattle.pblk_world.specs.EngineLog.{Begun, begun, Placed, placed_on, answers}
use Rattle.pblk_world.specs.Commanding.{is_program, ended_stripes, IsCommand, MayDo}
use Rattle.pblk_world.specs.Answering.{MayLand}
use Rattle.pblk_world.specs.Legal.{IsAllowed, IsLegal}
use Rattle.world_laws.proofs.NamedPrefixes.{IsByPrefixes, was_made}
use Rattle.world_laws.proofs.Placements.{still_placed}
use Rattle.core_laws.specs.StripePrograms.{HasHappened, IsProgramDone}
use Rattle.pblk_model.proofs.Parts.{get_whole}

pub happened : (i : Image) (w : World) (author : ℕ) → IsLegal i w → (k : ℕ) (l : Logged) → slice_get (log_of w author) k ≡ Some l
    → HasHappened i (log_of w) author k l
happened i w author legal k l there =
    let made : IsByPrefixes i w author k l = was_made i w author k l legal there in
    record { own = made.own; within = made.within; allowed = made.allowed }

-- ---- prefixes

take_twice : {X : Type 0} (n m : ℕ) (xs : List X) (x : X) → slice_get (take m xs) n ≡ Some x → take n (take m xs) ≡ take n xs
take_twice n zero xs x e = absurd (none-some x e)
take_twice zero (suc m) [] x e = refl
take_twice zero (suc m) (y ∷ xs) x e = refl
take_twice (suc n) (suc m) [] x e = refl
take_twice (suc n) (suc m) (y ∷ xs) x e = ap (λ ys. y ∷ ys) (take_twice n m xs x e)

begun_first : (log : List Logged) (m k : ℕ) (b : Begun) → 0 < m → begun (take k log) ≡ Some b → begun (take m log) ≡ Some b
begun_first log zero k b some e = absurd (omega arith)
begun_first [] (suc m) zero b some e = absurd (none-some b e)
begun_first [] (suc m) (suc k) b some e = e
begun_first (l ∷ log) (suc m) zero b some e = absurd (none-some b e)
begun_first (l ∷ log) (suc m) (suc k) b some e = e

-- ---- what landed

event_is : (i : Image) (unit : ℕ) (l : Logged) (e : UnitEvent) (logs : Logs) → unit_event_of l.event ≡ Some e → IsAllowed i (suc unit) l.event logs
    → MayDo i logs unit e
event_is i unit l e logs is allowed = go l.event is allowed
  where
    go : (event : Event) → unit_event_of event ≡ Some e → IsAllowed i (suc unit) event logs → MayDo i logs unit e
    go (Decides d) f may = absurd (none-some e f)
    go (Does d maker) f may = subst (MayDo i logs unit) (same_Some d e f) may

stripe_of : (i : Image) (logs : Logs) (unit chunk : ℕ) (c : Chunk) (command : ChunkCommand) (b : Begun) → is_program command ≡ true
    → IsCommand i logs unit c chunk command (Some b)
    → (p : Placed) × (slice_get (placed_on (logs 0) unit) (ended_stripes (logs (suc unit))) ≡ Some p) × (chunk ≡ p.stripe.chunk)
    × (command ≡ Write p.stripe.at p.stripe.blocks)
stripe_of i logs unit chunk c (Write at blocks) b is may = (may.placed, may.earliest, may.its_chunk, ap₂ (λ a bs. Write a bs) may.its_place may.its_blocks)
stripe_of i logs unit chunk c (Read at) b is may = absurd cc
stripe_of i logs unit chunk c Reset b is may = absurd cc

pub landed_at : (i : Image) (w : World) → IsLegal i w → (k unit n : ℕ) (l : Logged) (b : Begun) → HasHappened i (log_of w) 0 k l
    → begun (take (known l 0) (log_of w 0)) ≡ Some b → MayLand (prefixes l (log_of w)) unit n
    → (p : Placed) × (slice_get (placed_on (log_of w 0) unit) (length (answers (take k (log_of w 0)) unit)) ≡ Some p) × IsProgramDone (log_of w) unit n p
landed_at i w legal k unit n l b is begins may =
    let there : slice_get (log_of w (suc unit)) n ≡ Some may.stripe.logged =
    get_whole (known l (suc unit)) (log_of w (suc unit)) n may.stripe.logged may.stripe.is_logged in
    let one : may.new.logged ≡ may.stripe.logged = same_Some may.new.logged may.stripe.logged (sym may.new.is_known ∙ may.stripe.is_logged) in
    let event : unit_event_of may.stripe.logged.event ≡ Some may.program = ap (λ (x : Logged). unit_event_of x.event) (sym one) ∙ may.new.event in
    let made : HasHappened i (log_of w) (suc unit) n may.stripe.logged = happened i w (suc unit) legal n may.stripe.logged there in
    let does : MayDo i (prefixes may.stripe.logged (log_of w)) unit may.program =
    event_is i unit may.stripe.logged may.program (prefixes may.stripe.logged (log_of w)) event made.allowed in
    let begun_then : begun (take (known may.stripe.logged 0) (log_of w 0)) ≡ Some b =
    begun_first (log_of w 0) (known may.stripe.logged 0) (known l 0) b may.stripe.after_begin begins in
    let at = stripe_of i (prefixes may.stripe.logged (log_of w)) unit may.program.chunk does.event.found may.program.command b may.stripe.program
    (subst (IsCommand i (prefixes may.stripe.logged (log_of w)) unit does.event.found may.program.chunk may.program.command) begun_then does.command) in
    let turn : ended_stripes (take (known may.stripe.logged (suc unit)) (log_of w (suc unit))) ≡ length (answers (take k (log_of w 0)) unit) =
    ap (λ m. ended_stripes (take m (log_of w (suc unit)))) made.own
    ∙ ap ended_stripes (sym (take_twice n (known l (suc unit)) (log_of w (suc unit)) may.stripe.logged may.stripe.is_logged))
    ∙ may.stripe.its_turn ∙ ap (λ m. length (answers (take m (log_of w 0)) unit)) is.own in (
      at.0,
      ap (slice_get (placed_on (log_of w 0) unit)) (sym turn)
          ∙ still_placed (known may.stripe.logged 0) (log_of w 0) unit
          (ended_stripes (take (known may.stripe.logged (suc unit)) (log_of w (suc unit)))) at.0 at.1,
      record {
        event = may.program;
        is_event = ap (option_and_then (λ (x : Logged). unit_event_of x.event)) there ∙ event;
        chunk = at.2;
        command = at.3;
        done = may.done;
      },
    )

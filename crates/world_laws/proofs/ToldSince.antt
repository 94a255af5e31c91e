-- What the engine was told depends on the prefixes that its events name, and on nothing that a unit
-- did since.
use Rattle.std.proofs.Common.{◌≡◌, ℕ, ◌<◌, ◌==◌, suc, Bool, true, false, Some, None, Option, List, length, take, refl, sym, subst, ap, ◌∙◌, arith, length-take, if◌then◌else◌}
use Rattle.std.specs.Prelude.{slice_get, slice_index}
use Rattle.std.specs.List.{Contains}
use Rattle.std.specs.Option.{option_and_then}
use Rattle.std.proofs.lemmas.List.{take-take}
use Rattle.std.proofs.lemmas.Option.{none-some, same_Some, slice_get_within}
use Rattle.pblk_model.specs.UnitLog.{UnitEvent}
use Rattle.pblk_model.specs.Image.{Image}
use Rattle.pblk_world.specs.Events.{Landed, Lost, Again, ResetDone, Event, Decides, Logged}
use Rattle.pblk_world.specs.World.{World, Logs, log_of, known, cut_logs, prefixes, unit_event_at, unit_event_of}
use Rattle.pblk_world.specs.EngineLog.{Begun, begun, named_by}
use Rattle.pblk_world.specs.Lines.{found_by, told_by}
use Rattle.pblk_world.specs.Answering.{IsNew}
use Rattle.pblk_world.specs.Legal.{IsAllowed, IsLegal}
use Rattle.pblk_world.specs.Victims.{engine_prefix}
use Rattle.pblk_world.proofs.EngineLogLemmas.{begun_first}
use Rattle.pblk_world.proofs.LegalLemmas.{whole_own}
use Rattle.pblk_world.proofs.WorldLemmas.{media_same, unit_event_cut}
use Rattle.pblk_model.proofs.Parts.{is_in}
use Rattle.pblk_model.proofs.Tests.{same}
use Rattle.world_laws.specs.SameTold.{AreSameTold, AreSameNamed}
use Rattle.world_laws.proofs.Made.{IsMade, step_by, made_in, own_then, known_part}

-- ---- the events that are named are known

new_known : (logs : Logs) (l : Logged) (unit number : ℕ) (e : UnitEvent) → IsNew (prefixes l logs) unit number e → number < known l (suc unit)
new_known logs l unit number e new =
    let there : number < length (take (known l (suc unit)) (logs (suc unit))) =
    slice_get_within (take (known l (suc unit)) (logs (suc unit))) number new.logged new.is_known in
    omega (arith, length-take (known l (suc unit)) (logs (suc unit)))

if_named : (l : Logged) (other number unit n : ℕ) → number < known l (suc other) → (b : Bool) → (other == unit) ≡ b → (if b then Some number else None) ≡ Some n
    → n < known l (suc unit)
if_named l other number unit n inside false e named = absurd (none-some n named)
if_named l other number unit n inside true e named =
    let it : number ≡ n = same_Some number n named in
    subst (λ u. n < known l (suc u)) (same other unit e) (subst (λ m. m < known l (suc other)) it inside)

named_known : (i : Image) (logs : Logs) (l : Logged) → IsAllowed i 0 l.event (prefixes l logs) → (unit n : ℕ)
    → named_by unit l.event ≡ Some n → n < known l (suc unit)
named_known i logs l may unit n named = go l.event may named
  where
    go : (e : Event) → IsAllowed i 0 e (prefixes l logs) → named_by unit e ≡ Some n → n < known l (suc unit)
    go (Decides (Landed other event)) may named =
        if_named l other event unit n (new_known logs l other event may.2.program may.2.new) (other == unit) refl named
    go (Decides (Lost other event)) may named =
        if_named l other event unit n (new_known logs l other event may.2.program may.2.new) (other == unit) refl named
    go (Decides (Again other event)) may named =
        if_named l other event unit n (new_known logs l other event may.2.program may.2.new) (other == unit) refl named
    go (Decides (ResetDone other event)) may named =
        if_named l other event unit n (new_known logs l other event may.2.reset may.2.new) (other == unit) refl named
    go e may named = absurd (none-some n named)

pub names_are_known : (i : Image) (w : World) (l : Logged) → IsLegal i w → Contains (log_of w 0) l → (unit n : ℕ)
    → named_by unit l.event ≡ Some n → n < known l (suc unit)
names_are_known i w l legal there unit n named =
    let h = made_in i w 0 l legal there in named_known i (log_of h.1.before) l h.1.step.allowed unit n named

-- ---- logs that are the same as far as the engine's events know them

told_if : (a b : Logs) (l : Logged) (unit n : ℕ) → prefixes l b (suc unit) ≡ prefixes l a (suc unit) → (test : Bool)
    → ((if test then Some n else None) ≡ Some n → n < known l (suc unit))
    → (if test then unit_event_at b unit n else None) ≡ (if test then unit_event_at a unit n else None)
told_if a b l unit n alike false inside = refl
told_if a b l unit n alike true inside =
    sym (unit_event_cut b l unit n (inside refl))
    ∙ ap (λ (log : List Logged). option_and_then (λ (m : Logged). unit_event_of m.event) (slice_get log n)) alike
    ∙ unit_event_cut a l unit n (inside refl)

told_named : (a b : Logs) (l : Logged) (unit : ℕ) → prefixes l b (suc unit) ≡ prefixes l a (suc unit)
    → ((n : ℕ) → named_by unit l.event ≡ Some n → n < known l (suc unit)) → told_by b unit l.event ≡ told_by a unit l.event
told_named a b l unit alike inside = go l.event inside
  where
    go : (e : Event) → ((n : ℕ) → named_by unit e ≡ Some n → n < known l (suc unit)) → told_by b unit e ≡ told_by a unit e
    go (Decides (Landed other event)) inside = told_if a b l unit event alike (other == unit) (inside event)
    go (Decides (Lost other event)) inside = told_if a b l unit event alike (other == unit) (inside event)
    go (Decides (ResetDone other event)) inside = told_if a b l unit event alike (other == unit) (inside event)
    go e inside = refl

found_named : (i : Image) (w : World) (b : Logs) → AreSameNamed (log_of w) b → (o : Option Begun) → begun (log_of w 0) ≡ o
    → found_by i b o ≡ found_by i (log_of w) o
found_named i w b h None e = refl
found_named i w b h (Some g) e =
    let first = begun_first (log_of w 0) g e in
    media_same i (cut_logs g.knows b) (cut_logs g.knows (log_of w))
    (λ unit. subst (λ (ks : List ℕ). take (slice_index ks (suc unit)) (b (suc unit)) ≡ take (slice_index ks (suc unit)) (log_of w (suc unit))) first.2
    (h.named unit first.0 (is_in (log_of w 0) 0 first.0 first.1)))

pub same_told : (i : Image) (w : World) (b : Logs) → IsLegal i w → AreSameNamed (log_of w) b → AreSameTold i (log_of w) b
same_told i w b legal h = record {
  own = h.own;
  found = ap (λ (log : List Logged). found_by i b (begun log)) h.own ∙ found_named i w b h (begun (log_of w 0)) refl;
  told = λ unit l there. told_named (log_of w) b l unit (h.named unit l there) (names_are_known i w l legal there unit);
}

-- ---- what the engine was told when it made an event

pub told_when_made : (i : Image) (w : World) (number : ℕ) (l : Logged) (h : IsMade i w 0 number l)
    → AreSameTold i (log_of h.before) (prefixes l (log_of h.before))
told_when_made i w number l h = same_told i h.before (prefixes l (log_of h.before)) h.legal (record {
  own = whole_own i (step_by 0 l) h.before h.step;
  named = λ unit m there. take-take (known m (suc unit)) (known l (suc unit)) (log_of h.before (suc unit)) (h.step.knowledge.rising m (suc unit) there);
})

pub told_up_to : (i : Image) (w : World) (number : ℕ) (l : Logged) (h : IsMade i w 0 number l)
    → AreSameTold i (log_of h.before) (engine_prefix number (log_of w))
told_up_to i w number l h = same_told i h.before (engine_prefix number (log_of w)) h.legal (record {
  own = sym (own_then i w 0 number l h);
  named = λ unit m there. known_part i w 0 number (suc unit) l m h there;
})

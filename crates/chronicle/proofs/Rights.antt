-- Who numbers the commands of a worker, and how many each worker has made.
use Rattle.std.proofs.Common.{◌≡◌, ◌≢◌, ⊎_elim, ℕ, zero, suc, ◌+◌, ◌^◌, ◌==◌, ◌<◌, ◌≤◌, if◌then◌else◌, false, Bool, None, Some, Option, List, [], ◌∷◌, ◌++◌, map, refl, sym, ap, ◌∙◌, subst, arith}
use Rattle.std.specs.List.{Contains}
use Rattle.std.proofs.lemmas.Bool.{cases_eq}
use Rattle.std.proofs.lemmas.List.Elements.{Contains-append_cases}
use Rattle.std.proofs.lemmas.Option.{none-some}
use Rattle.pblk_model.specs.UnitLog.{UnitEvent}
use Rattle.pblk_model.proofs.Tests.{same_number, other_number}
use Rattle.pblk_world.specs.Events.{Maker, Event, Decides, Does, Step}
use Rattle.pblk_world.specs.Makers.{IsNumbered, commands_of, is_made_by}
use Rattle.pblk_world.specs.World.{World}
use Rattle.pblk_world.proofs.RisingMakers.{others_count, own_count}
use Rattle.chronicle.specs.Prefixes.{IsNext, either, next_after}
use Rattle.chronicle.specs.Rule.{HasRights, Owners}

-- ---- rights

module _ (w : World) (owner : Owners) (seat : ℕ) where
  pub no_rights : HasRights w owner seat [] None
  no_rights = record {
    each = λ m has. absurd (let none = has.1 in omega arith);
    next = λ n is. absurd (none-some n is);
    unnamed = λ n worker is. absurd (none-some n is);
  }

  -- of a seat that perhaps is another one
  pub moved_rights : (owner' : Owners) (seat' : ℕ) (makers : List Maker) (spare : Option ℕ) → owner'.named ≡ owner.named
      → ((worker : ℕ) → owner.worker worker ≡ seat → owner'.worker worker ≡ seat') → HasRights w owner seat makers spare
      → HasRights w owner' seat' makers spare
  moved_rights owner' seat' makers spare same moves h = record {
    each = λ m has. let e = h.each m has in (moves m.worker e.0, subst (λ n. m.worker < n) (sym same) e.1, e.2);
    next = λ n is. h.next n is ∙ sym same;
    unnamed = λ n worker is low small. let u = h.unnamed n worker is low small in (moves worker u.0, u.1);
  }

  pub joined_rights : (makers others : List Maker) (spare other : Option ℕ) → HasRights w owner seat makers spare → HasRights w owner seat others other
      → HasRights w owner seat (makers ++ others) (either spare other)
  joined_rights makers others spare other h k = record {
    each = λ m has. ⊎_elim (λ mine. h.each m mine) (λ its. k.each m its) (Contains-append_cases makers others m has);
    next = λ n is. next other k.next n is;
    unnamed = λ n worker is low small. unnamed other k.unnamed n worker is low small;
  }
    where
      next : (o : Option ℕ) → ((n : ℕ) → o ≡ Some n → n ≡ owner.named) → (n : ℕ) → either spare o ≡ Some n → n ≡ owner.named
      next None its n is = h.next n is
      next (Some x) its n is = its n is

      unnamed : (o : Option ℕ)
          → ((n worker : ℕ) → o ≡ Some n → n ≤ worker → worker < 2 ^ 64 → (owner.worker worker ≡ seat) × (commands_of worker w ≡ 0))
          → (n worker : ℕ) → either spare o ≡ Some n → n ≤ worker → worker < 2 ^ 64 → (owner.worker worker ≡ seat) × (commands_of worker w ≡ 0)
      unnamed None its n worker is low small = h.unnamed n worker is low small
      unnamed (Some x) its n worker is low small = its n worker is low small

  -- another seat notes an event, by none of these workers
  pub later_rights : (s : Step) (makers : List Maker) (spare : Option ℕ)
      → ((worker : ℕ) → owner.worker worker ≡ seat → is_made_by worker s.logged.event ≡ false) → HasRights w owner seat makers spare
      → HasRights (s ∷ w) owner seat makers spare
  later_rights s makers spare other h = record {
    each = λ m has. let e = h.each m has in (e.0, e.1, e.2 ∙ sym (others_count m.worker s w (other m.worker e.0)));
    next = h.next;
    unnamed = λ n worker is low small. let u = h.unnamed n worker is low small in (u.0, others_count worker s w (other worker u.0) ∙ u.1);
  }

-- ---- the seat itself notes an event

-- one more of this worker
abbrev raised : ℕ → Maker → Maker
raised worker m = if m.worker == worker then record m { made = m.made + 1 } else m

contains_mapped : (f : Maker → Maker) (makers : List Maker) (m : Maker) → Contains (map f makers) m → (old : Maker) × Contains makers old × (f old ≡ m)
contains_mapped f [] m has = absurd (let none = has.1 in omega arith)
contains_mapped f (x ∷ xs) m (zero, within, is) = (x, (0, omega arith, refl), is)
contains_mapped f (x ∷ xs) m (suc k, within, is) =
    let rest = contains_mapped f xs m (k, omega arith, is) in
    (rest.0, (suc rest.1.0, omega (arith, rest.1.1), rest.1.2), rest.2)

module _ (w : World) (owner : Owners) (seat : ℕ) (s : Step) (makers : List Maker) (spare : Option ℕ) (h : HasRights w owner seat makers spare) where
  of_decision : (e : _) → s.logged.event ≡ Decides e → HasRights (s ∷ w) owner seat makers spare
  of_decision e is = later_rights w owner seat s makers spare (λ worker _. ap (is_made_by worker) is) h

  module _ (e : _) (by : Maker) (is : s.logged.event ≡ Does e by) (has : Contains makers by) where
    other : (worker : ℕ) → worker ≢ by.worker → commands_of worker (s ∷ w) ≡ commands_of worker w
    other worker apart = others_count worker s w (ap (is_made_by worker) is ∙ other_number by.worker worker (λ same. apart (sym same)))

    own : commands_of by.worker (s ∷ w) ≡ commands_of by.worker w + 1
    own = own_count by.worker s w (ap (is_made_by by.worker) is ∙ same_number by.worker)

    each_next : (old : Maker) → Contains makers old
        → (owner.worker (raised by.worker old).worker ≡ seat) × ((raised by.worker old).worker < owner.named)
        × ((raised by.worker old).made ≡ commands_of (raised by.worker old).worker (s ∷ w))
    each_next old there = ⊎_elim
        (λ (same : old.worker ≡ by.worker).
        let e = h.each old there in
        let next : raised by.worker old ≡ record old { made = old.made + 1 } =
        ap (λ (b : Bool). if b then record old { made = old.made + 1 } else old) (ap (λ n. n == by.worker) same ∙ same_number by.worker) in
        subst (λ (m : Maker). (owner.worker m.worker ≡ seat) × (m.worker < owner.named) × (m.made ≡ commands_of m.worker (s ∷ w))) (sym next)
        (e.0, e.1, ap (λ n. n + 1) e.2 ∙ ap (λ k. commands_of k w + 1) same ∙ sym own ∙ ap (λ k. commands_of k (s ∷ w)) (sym same)))
        (λ (apart : old.worker ≢ by.worker).
        let e = h.each old there in
        let next : raised by.worker old ≡ old =
        ap (λ (b : Bool). if b then record old { made = old.made + 1 } else old) (other_number old.worker by.worker apart) in
        subst (λ (m : Maker). (owner.worker m.worker ≡ seat) × (m.worker < owner.named) × (m.made ≡ commands_of m.worker (s ∷ w))) (sym next)
        (e.0, e.1, e.2 ∙ sym (other old.worker apart)))
        (cases_eq old.worker by.worker)

    of_command : HasRights (s ∷ w) owner seat (map (raised by.worker) makers) spare
    of_command = record {
      each = λ m has. let old = contains_mapped (raised by.worker) makers m has in
          subst (λ (m : Maker). (owner.worker m.worker ≡ seat) × (m.worker < owner.named) × (m.made ≡ commands_of m.worker (s ∷ w))) old.2
          (each_next old.0 old.1);
      next = h.next;
      unnamed = λ n worker is low small.
          let u = h.unnamed n worker is low small in
          let named = (h.each by has).1 in
          let first = h.next n is in
          (u.0, other worker (λ same. absurd (let low' : n ≤ by.worker = subst (λ k. n ≤ k) same low in omega arith)) ∙ u.1);
    }

  pub next_rights : (e : Event) → s.logged.event ≡ e → IsNext e makers → HasRights (s ∷ w) owner seat (next_after e makers) spare
  next_rights (Decides e) is next = of_decision e is
  next_rights (Does e by) is next = of_command e by is next

  -- the event says how many its worker had made
  pub next_numbered : (e : Event) → IsNext e makers → IsNumbered e w
  next_numbered (Decides e) next = tt
  next_numbered (Does e by) next = (h.each by next).2

  -- its worker was named
  pub next_is_named : (e : Event) (does : UnitEvent) (by : Maker) → IsNext e makers → e ≡ Does does by → by.worker < owner.named
  next_is_named e does by next is = (h.each by (subst (λ (x : Event). IsNext x makers) is next)).1

  -- its worker's commands are numbered by this seat
  pub next_is_own : (e : Event) (worker : ℕ) → IsNext e makers → owner.worker worker ≢ seat → is_made_by worker e ≡ false
  next_is_own (Decides e) worker next apart = refl
  next_is_own (Does e by) worker next apart =
      other_number by.worker worker (λ same. apart (ap owner.worker (sym same) ∙ (h.each by next).0))

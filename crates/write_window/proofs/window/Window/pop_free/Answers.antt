use Rattle.std.proofs.Common.{◌≡◌, ◌∷◌, true, List, length, get_or, sym, ap, ◌∙◌, arith, subst}
use Rattle.write_window.specs.declared.held.Held.{Held}
use Rattle.write_window.specs.Entries.{is_readable}
use Rattle.write_window.specs.Window.{synced}
use Rattle.write_window.specs.Inside.{Keeps}
use Rattle.write_window.proofs.Runs.{popped}
use Rattle.write_window.proofs.Looks.{readable_landed, synced_popped}
use Rattle.write_window.proofs.window.Window.pop_free.Goals as goal

pub invariant_of-self-2 : goal.invariant_of-self-2
invariant_of-self-2 c =
    let w = c.self.inside in
    let h = c.in_ok-held.held in
    let items : w.entries.items ≡ h ∷ c.pop_front.new.self.items = c.in_ok-held.ensures.items in
    let front : c.in_ok-front.field-0.now ≡ h = c.in_ok-front.ensures.lookup ∙ ap (λ (xs : List Held). get_or xs 0 c.in_ok-front.field-0.now) items in
    let reads : is_readable h.progress ≡ true = ap (λ (x : Held). is_readable x.progress) (sym front) ∙ sym c.is_readable.ensures
    ∙ c.if-not-is_readable.false in
    record {
      keeps = popped w.freed w.users w.run.count w.run.users c.user_count-users.result h c.pop_front.new.self.items
          (subst (λ (xs : List Held). Keeps w.freed w.users w.run.count w.run.users xs) items c.self.invariant.keeps)
          (readable_landed h.progress reads) c.user_count-users.ensures;
      few = omega (arith, ap length items, c.self.invariant.few);
      room = omega (arith, c.in_ok-held.ensures.capacity, c.self.invariant.room);
    }

pub returns-clause-synced : goal.returns-clause-synced
returns-clause-synced c =
    let w = c.self.inside in
    let h = c.in_ok-held.held in
    let items : w.entries.items ≡ h ∷ c.pop_front.new.self.items = c.in_ok-held.ensures.items in
    let front : c.in_ok-front.field-0.now ≡ h = c.in_ok-front.ensures.lookup ∙ ap (λ (xs : List Held). get_or xs 0 c.in_ok-front.field-0.now) items in
    let reads : is_readable h.progress ≡ true = ap (λ (x : Held). is_readable x.progress) (sym front) ∙ sym c.is_readable.ensures
    ∙ c.if-not-is_readable.false in
    synced_popped w.size w.freed w.users c.user_count-users.result h c.pop_front.new.self.items (readable_landed h.progress reads) c.user_count-users.ensures
    ∙ ap (λ (xs : List Held). synced (record { size = w.size; freed = w.freed; users = w.users; entries = xs })) (sym items)
    ∙ ap synced c.self.view_is

use Rattle.std.proofs.Common.{◌≡◌, ◌+◌, ◌-◌, ◌<◌, true, false, List, length, drop, sym, ap, ◌∙◌, arith, subst}
use Rattle.write_window.specs.declared.held.Progress.TheVariants.{Landed}
use Rattle.write_window.specs.declared.held.Held.{Held}
use Rattle.write_window.specs.Entries.{has_landed, landed_first, users_in}
use Rattle.write_window.specs.Window.{WindowView, IsHeld, AreOf, has_landed_at}
use Rattle.write_window.specs.Inside.{Keeps, window}
use Rattle.write_window.proofs.Owners.{own_with}
use Rattle.write_window.proofs.Runs.{landed_keeps, users_few}
use Rattle.write_window.proofs.Looks.{index_inside, landed_is}
use Rattle.write_window.proofs.window.Window.landed.Goals as goal

pub extended-self-inside-requires-clause-users : goal.extended-self-inside-requires-clause-users
extended-self-inside-requires-clause-users c =
    let is = c.self.invariant.keeps in
    omega (arith, is.landed, is.landed_users, users_few (landed_first c.self.inside.entries.items))

pub invariant_of-self : goal.invariant_of-self
invariant_of-self c =
    let w = c.self.inside in
    let v : WindowView = window w in
    let xs : List Held = w.entries.items in
    let held : IsHeld v c.args.position = subst (λ (x : WindowView). IsHeld x c.args.position) (sym c.self.view_is) c.requires.held in
    let inside : c.args.position - w.freed < length xs = index_inside v c.args.position held in
    let waits : has_landed c.index.result.now.progress ≡ false = sym c.has_landed.ensures ∙ c.if-has_landed.false in
    let ys : List Held = c.turn.new.entries.items in
    let run = c.extended-self-inside.result in
    let count : run.count ≡ w.run.count + length (landed_first (drop w.run.count ys)) = c.extended-self-inside.ensures.count in
    let users : run.users ≡ w.run.users + users_in (landed_first (drop w.run.count ys)) = c.extended-self-inside.ensures.users in
    record {
      keeps = subst (λ (zs : List Held). Keeps w.freed w.users run.count run.users zs) (sym c.turn.ensures.items)
          (landed_keeps w.freed w.users w.run.count w.run.users xs
          (c.args.position - w.freed) c.index.result.now Landed run.count run.users c.self.invariant.keeps inside c.index.ensures waits
          (count ∙ ap (λ (zs : List Held). w.run.count + length (landed_first (drop w.run.count zs))) c.turn.ensures.items)
          (users ∙ ap (λ (zs : List Held). w.run.users + users_in (landed_first (drop w.run.count zs))) c.turn.ensures.items));
      few = omega (arith, c.turn.ensures.len, c.self.invariant.few);
      room = omega (arith, c.turn.ensures.capacity, c.self.invariant.room);
    }

pub returns-clause-again : goal.returns-clause-again
returns-clause-again c = λ lands.
    let v : WindowView = window c.self.inside in
    let held : IsHeld v c.args.position = subst (λ (x : WindowView). IsHeld x c.args.position) (sym c.self.view_is) c.requires.held in
    let waits : has_landed c.index.result.now.progress ≡ false = sym c.has_landed.ensures ∙ c.if-has_landed.false in
    let both : true ≡ false = sym lands ∙ ap (λ (x : WindowView). has_landed_at x c.args.position) (sym c.self.view_is)
    ∙ landed_is v c.args.position c.index.result.now held c.index.ensures ∙ waits in
    (cc)

pub returns-clause-own : goal.returns-clause-own
returns-clause-own c = λ r own.
    let before : AreOf r c.self.inside.entries.items = subst (λ (x : WindowView). AreOf r x.entries) (sym c.self.view_is) own in
    subst (λ (zs : List Held). AreOf r zs) (sym c.turn.ensures.items)
    (own_with r c.self.inside.entries.items (c.args.position - c.self.inside.freed) Landed before)

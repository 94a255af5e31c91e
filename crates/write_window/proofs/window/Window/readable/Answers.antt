use Rattle.std.proofs.Common.{◌≡◌, ◌-◌, ◌<◌, true, List, length, refl, sym, ap, ◌∙◌, arith, subst}
use Rattle.write_window.specs.declared.held.Progress.TheVariants.{Readable}
use Rattle.write_window.specs.declared.held.Held.{Held}
use Rattle.write_window.specs.Entries.{has_landed}
use Rattle.write_window.specs.Window.{WindowView, IsHeld, AreOf, has_landed_at, synced}
use Rattle.write_window.specs.Inside.{Keeps, window}
use Rattle.write_window.proofs.Owners.{own_with}
use Rattle.write_window.proofs.Runs.{turned_keeps}
use Rattle.write_window.proofs.Looks.{element, index_inside, landed_is, synced_turned}
use Rattle.write_window.proofs.window.Window.readable.Goals as goal

pub invariant_of-self : goal.invariant_of-self
invariant_of-self c =
    let w = c.self.inside in
    let v : WindowView = window w in
    let xs : List Held = w.entries.items in
    let held : IsHeld v c.args.position = subst (λ (x : WindowView). IsHeld x c.args.position) (sym c.self.view_is) c.requires.held in
    let inside : c.args.position - w.freed < length xs = index_inside v c.args.position held in
    let e = element xs (c.args.position - w.freed) inside in
    let lands : has_landed e.0.progress ≡ true = sym (landed_is v c.args.position e.0 held e.1)
    ∙ ap (λ (x : WindowView). has_landed_at x c.args.position) c.self.view_is ∙ c.requires.landed in
    record {
      keeps = subst (λ (ys : List Held). Keeps w.freed w.users w.run.count w.run.users ys) (sym c.turn.ensures.items)
          (turned_keeps w.freed w.users w.run.count w.run.users xs (c.args.position - w.freed) e.0 Readable c.self.invariant.keeps inside e.1 lands refl);
      few = omega (arith, c.turn.ensures.len, c.self.invariant.few);
      room = omega (arith, c.turn.ensures.capacity, c.self.invariant.room);
    }

pub returns-clause-synced : goal.returns-clause-synced
returns-clause-synced c =
    let w = c.self.inside in
    let v : WindowView = window w in
    let xs : List Held = w.entries.items in
    let held : IsHeld v c.args.position = subst (λ (x : WindowView). IsHeld x c.args.position) (sym c.self.view_is) c.requires.held in
    let inside : c.args.position - w.freed < length xs = index_inside v c.args.position held in
    let e = element xs (c.args.position - w.freed) inside in
    let lands : has_landed e.0.progress ≡ true = sym (landed_is v c.args.position e.0 held e.1)
    ∙ ap (λ (x : WindowView). has_landed_at x c.args.position) c.self.view_is ∙ c.requires.landed in
    ap (λ (ys : List Held). synced (record v { entries = ys })) c.turn.ensures.items
    ∙ synced_turned v (c.args.position - w.freed) e.0 Readable inside e.1 lands refl
    ∙ ap synced c.self.view_is

pub returns-clause-own : goal.returns-clause-own
returns-clause-own c = λ r own.
    let before : AreOf r c.self.inside.entries.items = subst (λ (x : WindowView). AreOf r x.entries) (sym c.self.view_is) own in
    subst (λ (zs : List Held). AreOf r zs) (sym c.turn.ensures.items)
    (own_with r c.self.inside.entries.items (c.args.position - c.self.inside.freed) Readable before)

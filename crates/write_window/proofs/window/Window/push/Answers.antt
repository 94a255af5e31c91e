use Rattle.std.proofs.Common.{List, length, refl, sym, ap, ◌∙◌, arith, subst}
use Rattle.write_window.specs.declared.held.Progress.TheVariants.{Waiting}
use Rattle.write_window.specs.declared.held.Held.{Held}
use Rattle.write_window.specs.Window.{WindowView, taken, synced}
use Rattle.write_window.specs.Inside.{Keeps, window}
use Rattle.write_window.proofs.Runs.{pushed, one_longer}
use Rattle.write_window.proofs.Looks.{synced_pushed}
use Rattle.write_window.proofs.window.Window.push.Goals as goal

pub invariant_of-self : goal.invariant_of-self
invariant_of-self c =
    let w = c.self.inside in
    let h : Held = record { entry = c.args.entry; progress = Waiting } in
    record {
      keeps = subst (λ (xs : List Held). Keeps w.freed w.users w.run.count w.run.users xs) (sym c.append.ensures.items)
          (pushed w.freed w.users w.run.count w.run.users w.entries.items h c.self.invariant.keeps refl
          (c.requires.next ∙ sym (ap taken c.self.view_is)) c.requires.position);
      few = omega (
        arith,
        ap length c.append.ensures.items,
        one_longer w.entries.items h,
        c.requires.room,
        ap (λ (v : WindowView). length v.entries) c.self.view_is,
        ap (λ (v : WindowView). v.size) c.self.view_is,
      );
      room = omega (arith, c.append.ensures.capacity, c.self.invariant.room);
    }

pub returns-clause-synced : goal.returns-clause-synced
returns-clause-synced c =
    let v : WindowView = window c.self.inside in
    ap (λ (zs : List Held). synced (record v { entries = zs })) c.append.ensures.items
    ∙ synced_pushed v (record { entry = c.args.entry; progress = Waiting }) refl
    ∙ ap synced c.self.view_is

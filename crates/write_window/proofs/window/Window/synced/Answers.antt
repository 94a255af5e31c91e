use Rattle.std.proofs.Common.{◌≡◌, ◌<◌, ◌≤◌, ◌+◌, true, false, ℕ, length, ap, subst, arith}
use Rattle.write_window.specs.Entries.{landed_first}
use Rattle.write_window.specs.Window.{WindowView, has_landed_at}
use Rattle.write_window.specs.Inside.{window}
use Rattle.write_window.proofs.Looks.{synced_below, synced_at}
use Rattle.write_window.proofs.Runs.{users_few, run_inside}
use Rattle.write_window.proofs.window.Window.synced.Goals as goal

pub overflow_add-result : goal.overflow_add-result
overflow_add-result c =
    let is = c.self.invariant.keeps in
    record {
      fits = omega (
        arith,
        is.landed_users,
        is.fits,
        is.short,
        users_few (landed_first c.self.inside.entries.items),
        run_inside c.self.inside.entries.items,
      );
    }

pub returns-clause-below : goal.returns-clause-below
returns-clause-below c =
    let v : WindowView = window c.self.inside in
    let run : c.self.inside.run.count ≡ length (landed_first v.entries) = c.self.invariant.keeps.landed in
    subst (λ (w : WindowView). (p : ℕ) → w.freed ≤ p → p < c.self.inside.freed + c.self.inside.run.count → has_landed_at w p ≡ true) c.self.view_is
    (λ p after below. synced_below v p after (omega (arith, run)))

pub returns-clause-not_its_own : goal.returns-clause-not_its_own
returns-clause-not_its_own c =
    let v : WindowView = window c.self.inside in
    let run : c.self.inside.run.count ≡ length (landed_first v.entries) = c.self.invariant.keeps.landed in
    subst (λ (w : WindowView). has_landed_at w (c.self.inside.freed + c.self.inside.run.count) ≡ false) c.self.view_is
    (synced_at v (c.self.inside.freed + c.self.inside.run.count) (ap (λ n. c.self.inside.freed + n) run))

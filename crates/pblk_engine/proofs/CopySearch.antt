-- The search for the sector that is copied next: what it leaves of a heart.
use Rattle.std.proofs.Common.{◌≡◌, ℕ, ◌+◌, ◌-◌, ◌*◌, ◌^◌, ◌≤◌, max, Bool, true, false, Option, refl, sym, subst, ap, ap₂, ◌∙◌}
use Rattle.std.specs.Prelude.{not, length}
use Rattle.atomic_table.specs.Seated.{TableId}
use Rattle.pblk_model.specs.Image.{Image}
use Rattle.pblk_model.specs.Shape.{units}
use Rattle.pblk_model.proofs.Tests.{both, not_true}
use Rattle.pblk_world.specs.AtRest.{IsCopyDue}
use Rattle.pblk_world.specs.Fronts.{first_position}
use Rattle.pblk_world.specs.LegalMounts.{IsLegalMount}
use Rattle.pblk_world.specs.Reasons.{WasRoom}
use Rattle.pblk_world.specs.Space.{room}
use Rattle.pblk_world.specs.World.{World, Logs, log_of}
use Rattle.write_window.specs.Window as window
use Rattle.write_ring.specs.declared.view.Desk.{Desk}
use Rattle.write_ring.specs.declared.view.Key.{Key}
use Rattle.write_ring.specs.declared.view.LastFound.{LastFound}
use Rattle.write_ring.specs.declared.view.View.{View}
use Rattle.chronicle.specs.Handles.{AuthorView}
use Rattle.chronicle.specs.Views.{Past}
use Rattle.pblk_core.specs.Collecting.{Collects}
use Rattle.pblk_core.specs.Copies.{copy_due, is_copying}
use Rattle.pblk_core.specs.Named.{asks_line, choice, has_free, is_busy, may_copy, may_open, named, named_beside, pad_of}
use Rattle.pblk_core.specs.Stands.{Stands}
use Rattle.pblk_core.specs.declared.target_core.Core.{Core}
use Rattle.pblk_core.specs.declared.work.Work.{Work}
use Rattle.pblk_core.specs.declared.work.Work.TheVariants as works
use Rattle.pblk_core.proofs.CopiesDue.{copy_by_test, copy_due_is}
use Rattle.pblk_engine.specs.Hearts.{IsHeartOf, IsSettled, parts}
use Rattle.pblk_engine.proofs.NextWork.{no_reset_named}
use Rattle.pblk_engine.proofs.Settles.{heart_moved}

-- ---- what the intake found, and how far the search has come

pub settled_searched : (i : Image) (logs : Logs) (old new : Core) (v v' : View) → IsSettled i logs old v → Stands i logs new → Collects i logs new
    → new ≡ record old { collection = new.collection } → is_copying new ≡ is_copying old → v' ≡ record v { found = v'.found } → IsSettled i logs new v'
settled_searched i logs old new v v' is stands collects rest copying found = record {
  heart = heart_moved i logs old new v v' is.heart stands collects
      (subst (λ (x : window.WindowView). window.AreOf v.key.origin.region x.entries) (sym same) is.heart.own) (ap (λ (x : View). x.key) found)
      (ap (λ (x : View). x.pass) found) (ap (λ (d : Desk). d.took) desk) (ap (λ (d : Desk). d.taken) desk) (ap window.taken same)
      (ap (λ (d : Desk). d.freed) desk ∙ is.heart.freed ∙ sym (ap (λ (x : window.WindowView). x.freed) same))
      (subst (λ (d : Desk). d.granted + units i.shape * i.shape.ws_opt ≤ d.freed + i.shape.ring) (sym desk) is.heart.within)
      (subst (λ (d : Desk). d.granted ≤ max (2 ^ 61 - 2) (first_position (logs 0))) (sym desk) is.heart.last)
      (subst (λ (d : Desk). WasRoom i logs (length (logs 0)) d.granted) (sym desk) is.heart.once) (ap pad_of rest) copying;
  none_to_free = is.none_to_free;
  drained = ap (λ (x : window.WindowView). x.freed) same ∙ is.drained;
  room = subst (λ (d : Desk). room i logs ≤ d.granted) (sym desk) is.room;
}
  where
    same : new.window ≡ old.window
    same = ap (λ (c : Core). c.window) rest

    desk : v'.intake ≡ v.intake
    desk = ap (λ (x : View). x.intake) found

-- between two holds of the lock
pub held_searched : (logs table : TableId) (past : Past) (key : Key) (place place' : TableId) (old new : Core) (a : AuthorView) (v v' : View)
    → IsHeartOf logs table past key place (parts old a v) → ((i : Image) (l : Logs) → Stands i l old → Stands i l new)
    → ((i : Image) (l : Logs) → Collects i l old → Collects i l new) → new ≡ record old { collection = new.collection } → is_copying new ≡ is_copying old
    → v' ≡ record v { found = v'.found } → place' ≡ table → IsHeartOf logs table past key place' (parts new a v')
held_searched logs table past key place place' old new a v v' is stands collects rest copying found ring = record {
  of = is.of;
  engine = is.engine;
  since = is.since;
  legal = is.legal;
  begun = is.begun;
  its_ring = ring;
  its_key = ap (λ (x : View). x.key) found ∙ is.its_key;
  fits = is.fits;
  settled = settled_searched past.image _ old new v v' is.settled (stands past.image _ is.settled.heart.stands)
      (collects past.image _ is.settled.heart.collects) rest copying found;
}

-- a view that was changed in what was found alone
pub found_only : (v v' : View) (f : LastFound) → v' ≡ record v { found = f } → v' ≡ record v { found = v'.found }
found_only v v' f is = is ∙ ap (λ (x : LastFound). record v { found = x }) (sym (ap (λ (x : View). x.found) is))

pub found_alone : (v v' : View) → v'.key ≡ v.key → v'.pass ≡ v.pass → v'.intake ≡ v.intake → v' ≡ record v { found = v'.found }
found_alone v v' key pass desk = λ j. record { found = v'.found; pass = pass j; intake = desk j; key = key j }

-- ---- what comes next is the same

pub same_work : (old new : Core) → new ≡ record old { collection = new.collection } → new.collection.victim ≡ old.collection.victim
    → is_copying new ≡ is_copying old → named new ≡ named old
same_work old new rest victim copying = ap named rest ∙ ap₂ by victim copying
  where
    by : Option ℕ → Bool → Work
    by victim under_way = named (record old { collection = record old.collection { victim = victim; under_way = under_way } })

-- ---- where a copy comes next

copies : (has_stripe asks has_free may_open has_copy in_flight : Bool) → choice has_stripe asks has_free may_open has_copy in_flight ≡ works.Copy
    → has_copy ≡ true
copies true a h m k f e = absurd cc
copies false true true true k f e = absurd cc
copies false true true false true f e = refl
copies false true true false false f e = absurd cc
copies false true false m true f e = refl
copies false true false m false f e = absurd cc
copies false false h m true f e = refl
copies false false h m false f e = absurd cc

-- it is due, and none is under way
pub copy_named : (i : Image) (w : World) (c : Core) → IsLegalMount i w → Stands i (log_of w) c → Collects i (log_of w) c → named c ≡ works.Copy
    → (is_copying c ≡ false) × IsCopyDue i (log_of w)
copy_named i w c mount st col names = (not_true (is_copying c) tests.1, copy_by_test i (log_of w) (sym (copy_due_is i w c mount st col) ∙ tests.0))
  where
    beside : named_beside c ≡ works.Copy
    beside = (no_reset_named _ (named_beside c) works.Copy (λ line unit e. absurd cc) names).1

    tests : (copy_due c ≡ true) × (not (is_copying c) ≡ true)
    tests = both (copy_due c) (not (is_copying c)) (copies _ (asks_line c) (has_free c) (may_open c) (may_copy c) (is_busy c) beside)

-- Pads that a flush asks for: all of it was taken, and no copy is due.
use Rattle.std.proofs.Common.{◌≡◌, inl, ℕ, ◌<◌, ◌≤◌, List, length, sym, subst, ap, ◌∙◌, le_refl}
use Rattle.std.proofs.Math.Seq.{take-length}
use Rattle.pblk_model.specs.Image.{Image}
use Rattle.pblk_world.specs.AtRest.{IsCopyDue}
use Rattle.pblk_world.specs.Events.{Logged}
use Rattle.pblk_world.specs.Fronts.{taken}
use Rattle.pblk_world.specs.LegalMounts.{IsLegalMount}
use Rattle.pblk_world.specs.Reasons.{WasAsked}
use Rattle.pblk_world.specs.World.{World, Logs, log_of}
use Rattle.step_laws.proofs.UnitSteps.{engine_longer}
use Rattle.write_window.specs.Window as window
use Rattle.write_ring.specs.declared.view.View.{View}
use Rattle.pblk_core.specs.Copies.{is_copying}
use Rattle.pblk_core.specs.Mounts.{CollectsStill, StandsStill}
use Rattle.pblk_core.specs.Named.{pad_of, padded}
use Rattle.pblk_core.specs.declared.target_core.Core.{Core}
use Rattle.pblk_core.proofs.CopiesDue.{copy_by_test, test_of_copy}
use Rattle.pblk_core.proofs.StandsTold.{copies_told}
use Rattle.pblk_engine.specs.Hearts.{HasCopies, IsHeart, IsSettled}
use Rattle.pblk_engine.proofs.Decisions.{by_left, told_left}
use Rattle.pblk_engine.proofs.PadsAsked.{asked_greater}

module _ (i : Image) (w : World) (c : Core) (v : View) (mount : IsLegalMount i w) (is : IsHeart i (log_of w) c v) (to : ℕ) where
  none_then : ¬ IsCopyDue i (log_of w) → ¬ IsCopyDue i (log_of is.left.left)
  none_then none due = none (copy_by_test i (log_of w)
      (sym (copies_told i (log_of w) (log_of is.left.left) (told_left i w c v mount is)) ∙ test_of_copy i (log_of is.left.left) due))

  asked_now : to ≤ taken (log_of w 0) → ¬ IsCopyDue i (log_of w) → WasAsked i (log_of w) (length (log_of w 0)) to
  asked_now low none = record {
    at = length (log_of w 0);
    has_begun = engine_longer w is.stands.beginning is.stands.has_begun;
    within = le_refl (length (log_of w 0));
    why = inl (
      subst (λ (log : List Logged). to ≤ taken log) (sym (take-length (log_of w 0))) low,
      by_left i w c v mount is (λ (logs : Logs). ¬ IsCopyDue i logs) (none_then none),
    );
  }

  pub heart_asked : (new : Core) → StandsStill c new → CollectsStill c new → new ≡ padded c to → to ≤ taken (log_of w 0) → ¬ IsCopyDue i (log_of w)
      → IsHeart i (log_of w) new v
  heart_asked new stands collects raised low none = record {
    stands = stands i (log_of w) is.stands;
    collects = collects i (log_of w) is.collects;
    own = subst (λ (x : Core). window.AreOf v.key.origin.region x.window.entries) (sym raised) is.own;
    took = is.took;
    taken = is.taken ∙ sym (ap (λ (x : Core). window.taken x.window) raised);
    freed = is.freed ∙ sym (ap (λ (x : Core). x.window.freed) raised);
    within = is.within;
    last = is.last;
    once = is.once;
    pads = subst (λ n. 0 < n → WasAsked i (log_of w) (length (log_of w 0)) n) (sym (ap (λ (x : Core). pad_of x) raised))
        (asked_greater i (log_of w) (length (log_of w 0)) (pad_of c) to is.pads (λ some. asked_now low none));
    copies = subst (λ b. HasCopies i (log_of w) b v.pass v.intake.taken) (sym (ap (λ (x : Core). is_copying x) raised)) is.copies;
    noted = is.noted;
    in_order = is.in_order;
    reasons = is.reasons;
    left = is.left;
  }

pub settled_asked : (i : Image) (logs : Logs) (c new : Core) (v : View) → IsSettled i logs c v → IsHeart i logs new v → (to : ℕ) → new ≡ padded c to
    → IsSettled i logs new v
settled_asked i logs c new v is heart to raised = record {
  heart = heart;
  none_to_free = is.none_to_free;
  drained = ap (λ (x : Core). x.window.freed) raised ∙ is.drained;
  room = is.room;
}

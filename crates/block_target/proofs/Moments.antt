-- A moment of a world for each length of its engine's log, and what was refused there.
use Rattle.std.proofs.Common.{◌≡◌, ℕ, ◌+◌, ◌<◌, ◌≤◌, ◌⊎◌, inl, inr, Bool, true, false, if◌then◌else◌, Some, List, [], ◌∷◌, ◌++◌, length, take, refl, sym, subst, ap, ◌∙◌, arith, length-append}
use Rattle.std.specs.Prelude.{◌==◌}
use Rattle.std.specs.List.{Contains}
use Rattle.std.proofs.Math.Seq.{take-length}
use Rattle.std.proofs.lemmas.Bool.{cases_order}
use Rattle.std.proofs.lemmas.List.{take-append-le}
use Rattle.pblk_model.specs.Image.{Image}
use Rattle.pblk_world.specs.AtRest.{IsWornFlush}
use Rattle.pblk_world.specs.Events.{Step, Logged}
use Rattle.pblk_world.specs.World.{World, log_of}
use Rattle.pblk_world.specs.EngineLog.{Begun, begun, Placed, placements, is_answered}
use Rattle.pblk_world.specs.Fronts.{taken, synced}
use Rattle.pblk_world.proofs.EngineLogLemmas.{begun_taken}
use Rattle.pblk_world.proofs.Growing.{grows}
use Rattle.pblk_world.specs.LegalMounts.{IsLegalMount}
use Rattle.block_target.specs.Moments.{IsMoment}
use Rattle.pblk_engine.proofs.HeartSteps.{mount_tail}

one_more : (s : Step) (w : World) → length (log_of (s ∷ w) 0) ≤ length (log_of w 0) + 1
one_more s w = go (s.author == 0)
  where
    go : (own : Bool) → length (if own then log_of w 0 ++ s.logged ∷ [] else log_of w 0) ≤ length (log_of w 0) + 1
    go true = omega (arith, length-append (log_of w 0) (s.logged ∷ []))
    go false = omega arith

pub moment : (w : World) (n : ℕ) → n ≤ length (log_of w 0) → (past : World) × IsMoment w n past
moment [] n few = ([], record { later = []; whole = refl; length_is = omega arith })
moment (s ∷ w) n few = go (λ within. moment w n within) (cases_order n (length (log_of (s ∷ w) 0)))
  where
    go : (n ≤ length (log_of w 0) → (past : World) × IsMoment w n past)
        → (n ≡ length (log_of (s ∷ w) 0)) ⊎ ((n < length (log_of (s ∷ w) 0)) ⊎ (length (log_of (s ∷ w) 0) < n))
        → (past : World) × IsMoment (s ∷ w) n past
    go earlier (inl same) = (s ∷ w, record { later = []; whole = refl; length_is = sym same })
    go earlier (inr (inl less)) =
        let m = earlier (omega (arith, one_more s w)) in
        (m.0, record { later = s ∷ m.1.later; whole = ap (λ v. s ∷ v) m.1.whole; length_is = m.1.length_is })
    go earlier (inr (inr more)) = absurd (omega arith)

-- an earlier mount is as legal
mount_earlier : (i : Image) (later w : World) → IsLegalMount i (later ++ w) → IsLegalMount i w
mount_earlier i [] w mount = mount
mount_earlier i (step ∷ later) w mount = mount_earlier i later w (mount_tail i step (later ++ w) mount)

-- its engine's log is what the engine's log past was
pub log_then : (w : World) (n : ℕ) (past : World) → IsMoment w n past → take n (log_of w 0) ≡ log_of past 0
log_then w n past m =
    let more : (more : List Logged) × (log_of (m.later ++ past) 0 ≡ log_of past 0 ++ more) = grows m.later past 0 in
    ap (λ v. take n (log_of v 0)) m.whole ∙ ap (take n) more.1
    ∙ take-append-le n (log_of past 0) more.0 (omega (arith, m.length_is))
    ∙ ap (λ k. take k (log_of past 0)) (sym m.length_is) ∙ take-length (log_of past 0)

-- what is known of the moment of a refused flush
pub record IsRefusedThen (i : Image) (w : World) (b : Begun) (n wanted have : ℕ) (past : World) : Type 0 where
  pub moment : IsMoment w n past
  pub mount : IsLegalMount i past
  pub begins : begun (log_of past 0) ≡ Some b
  pub answered : (p : Placed) → Contains (placements (log_of past 0)) p → is_answered (log_of past 0) p ≡ true
  pub all_taken : wanted ≤ taken (log_of past 0)
  pub is_synced : have ≡ synced i.shape (log_of past 0)

pub refused_then : (i : Image) (w : World) (b : Begun) (n wanted have : ℕ) → IsLegalMount i w → begun (log_of w 0) ≡ Some b
    → IsWornFlush i (log_of w) n wanted have → (past : World) × IsRefusedThen i w b n wanted have past
refused_then i w b n wanted have mount begins is =
    let m = moment w n is.at_rest.within in
    let log : take n (log_of w 0) ≡ log_of m.0 0 = log_then w n m.0 m.1 in (
      m.0,
      record {
        moment = m.1;
        mount = mount_earlier i m.1.later m.0 (subst (IsLegalMount i) m.1.whole mount);
        begins = sym (ap begun log) ∙ begun_taken n (log_of w 0) is.at_rest.has_begun ∙ begins;
        answered = subst (λ ls. (p : Placed) → Contains (placements ls) p → is_answered ls p ≡ true) log is.at_rest.resting.stripes;
        all_taken = subst (λ ls. wanted ≤ taken ls) log is.all_taken;
        is_synced = is.is_synced ∙ ap (synced i.shape) log;
      },
    )

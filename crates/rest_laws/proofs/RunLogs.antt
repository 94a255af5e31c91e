-- The logs at a length of the engine's log, by what the engine had been told, and an event of that
-- log as a step between two worlds.
use Rattle.std.proofs.Common.{◌≡◌, ℕ, ◌+◌, ◌≤◌, ◌<◌, ◌&&◌, not, suc, true, false, Some, List, [], ◌∷◌, ◌++◌, length, take, refl, sym, subst, ap, ap₂, ◌∙◌, arith, Bool}
use Rattle.std.specs.Prelude.{slice_get}
use Rattle.std.specs.List.{Contains, range_with_len}
use Rattle.std.proofs.lemmas.List.{take-append-le}
use Rattle.pblk_model.specs.Image.{Image}
use Rattle.pblk_world.specs.AtRest.{logs_at}
use Rattle.pblk_world.specs.Events.{Logged}
use Rattle.pblk_world.specs.Legal.{IsLegal}
use Rattle.pblk_world.specs.Lines.{are_empty, is_given_up, known_image}
use Rattle.pblk_world.specs.Space.{is_due}
use Rattle.pblk_world.specs.Victims.{engine_prefix}
use Rattle.pblk_world.specs.World.{World, Logs, known, log_of}
use Rattle.pblk_world.proofs.Growing.{grows}
use Rattle.pblk_world.proofs.WorldLemmas.{log_here}
use Rattle.pblk_model.proofs.Maps.{filter_same, none_kept}
use Rattle.pblk_model.proofs.Parts.{take_next}
use Rattle.pblk_world.specs.LegalMounts.{IsLegalMount}
use Rattle.pblk_world.specs.Orders.{AreReset}
use Rattle.world_laws.specs.SameTold.{AreSameTold}
use Rattle.world_laws.proofs.Made.{IsMade, known_within, made, own_then, step_by}
use Rattle.world_laws.proofs.ToldImages.{image_same}
use Rattle.world_laws.proofs.ToldSince.{same_told, told_up_to}
use Rattle.world_laws.proofs.ToldTables.{free_told}
use Rattle.rest_laws.specs.RoomRuns.{IsReasonedMount}
use Rattle.rest_laws.specs.RoomSteps.{free_lines, is_unreset, unreset_lines}
use Rattle.rest_laws.proofs.FreeCounts.{few_free as few_due, many_free}
use Rattle.rest_laws.proofs.LengthLogs.{IsWorldAt, told_at, world_at}

told_through : (i : Image) (a b c : Logs) → AreSameTold i a b → AreSameTold i a c → AreSameTold i b c
told_through i a b c h k = record {
  own = k.own ∙ sym h.own;
  found = k.found ∙ sym h.found;
  told = λ unit l there.
      let first : Contains (a 0) l = subst (λ (xs : List Logged). Contains xs l) h.own there in
      k.told unit l first ∙ sym (h.told unit l first);
}

pub told_of_length : (i : Image) (w : World) (n : ℕ) → IsLegal i w → n ≤ length (log_of w 0)
    → AreSameTold i (engine_prefix n (log_of w)) (logs_at n (log_of w))
told_of_length i w n legal within =
    let v : IsWorldAt i w n = world_at i w n legal within in
    told_through i (log_of v.world) (engine_prefix n (log_of w)) (logs_at n (log_of w)) v.told (told_at i w n legal within v)

-- ---- numbers of lines, by what was told

pub free_lines_told : (i : Image) (a b : Logs) → AreSameTold i a b → free_lines i b ≡ free_lines i a
free_lines_told i a b h =
    ap (λ (xs : List ℕ). length xs) (filter_same (λ line. _) (λ line. _) (free_told i a b h) (range_with_len 0 i.shape.chunks))

pub unreset_told : (i : Image) (a b : Logs) → AreSameTold i a b → unreset_lines i b ≡ unreset_lines i a
unreset_told i a b h =
    ap (λ (xs : List ℕ). length xs) (filter_same (is_unreset i b) (is_unreset i a) (λ line.
    ap (λ (log : List Logged). is_given_up log line && not (are_empty (known_image i b) line)) h.own
    ∙ ap (λ (j : Image). is_given_up (a 0) line && not (are_empty j line)) (image_same i a b h)) (range_with_len 0 i.shape.chunks))

-- where no reset is left to be made no line is to be reset
pub none_unreset : (i : Image) (logs : Logs) → AreReset i logs → unreset_lines i logs ≡ 0
none_unreset i logs reset = ap (λ (xs : List ℕ). length xs) (none_kept (is_unreset i logs) 0 i.shape.chunks each)
  where
    each : (k : ℕ) → k < i.shape.chunks → is_unreset i logs (0 + k) ≡ false
    each k small = go (is_given_up (logs 0) (0 + k)) refl
      where
        go : (t : Bool) → is_given_up (logs 0) (0 + k) ≡ t → is_unreset i logs (0 + k) ≡ false
        go false e = ap (λ t. t && not (are_empty (known_image i logs) (0 + k))) e
        go true e = ap₂ (λ t u. t && not u) e (reset (0 + k) (omega arith) e)

-- ---- an event as a step

-- the worlds before and after the event of this number
pub record IsStep (i : Image) (w : World) (n : ℕ) (l : Logged) : Type 0 where
  pub before : World
  pub mount : IsLegalMount i (step_by 0 l ∷ before)
  pub was : AreSameTold i (log_of before) (engine_prefix n (log_of w))
  pub is : AreSameTold i (log_of (step_by 0 l ∷ before)) (engine_prefix (suc n) (log_of w))

pub step_at : (i : Image) (w : World) (n : ℕ) (l : Logged) → IsLegalMount i w → slice_get (log_of w 0) n ≡ Some l → IsStep i w n l
unfolding IsLegal
step_at i w n l mount there = record {
  before = h.before;
  mount = record { accepted = mount.accepted; fit = mount.fit; legal = legal };
  was = told_up_to i w n l h;
  is = same_told i now (engine_prefix (suc n) (log_of w)) legal (record {
    own = take_next (log_of w 0) n l there ∙ ap (λ (xs : List Logged). xs ++ l ∷ []) (sym (own_then i w 0 n l h))
        ∙ sym (log_here (step_by 0 l) h.before 0 refl);
    named = named;
  });
}
  where
    h : IsMade i w 0 n l
    h = made i w 0 n l mount.legal there

    now : World
    now = step_by 0 l ∷ (made i w 0 n l mount.legal there).before

    legal : IsLegal i (step_by 0 l ∷ (made i w 0 n l mount.legal there).before)
    legal = (h.step, h.legal)

    named : (unit : ℕ) (m : Logged) → Contains (log_of (step_by 0 l ∷ (made i w 0 n l mount.legal there).before) 0) m
        → take (known m (suc unit)) (log_of w (suc unit))
        ≡ take (known m (suc unit)) (log_of (step_by 0 l ∷ (made i w 0 n l mount.legal there).before) (suc unit))
    named unit m there =
        let more = grows h.later now (suc unit) in
        ap (take (known m (suc unit))) (ap (λ (v : World). log_of v (suc unit)) h.whole ∙ more.1)
        ∙ take-append-le (known m (suc unit)) (log_of now (suc unit)) more.0 (known_within i now 0 (suc unit) m legal there)

-- ---- whether collection is due

-- where it is three lines are Free at most
pub few_free : (i : Image) (w : World) (n : ℕ) → IsReasonedMount i w → 0 < n → n ≤ length (log_of w 0)
    → is_due i (engine_prefix n (log_of w)) ≡ true → free_lines i (engine_prefix n (log_of w)) ≤ 3
few_free i w n is some within due = few_due i (engine_prefix n (log_of w)) (is.wide n some within) is.mount.accepted due

pub more_free : (i : Image) (w : World) (n : ℕ) → IsReasonedMount i w → 0 < n → n ≤ length (log_of w 0)
    → is_due i (engine_prefix n (log_of w)) ≡ false → 3 < free_lines i (engine_prefix n (log_of w))
more_free i w n is some within due = many_free i (engine_prefix n (log_of w)) (is.wide n some within) due

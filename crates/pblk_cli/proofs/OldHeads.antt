-- A run that leaves the head that it found keeps no line.
use Rattle.std.proofs.Common.{◌≡◌, ◌+◌, ◌≤◌, Some, List, [], ◌∷◌, refl, sym, ap, ◌∙◌, arith}
use Rattle.std.specs.List.{AllByRecursion}
use Rattle.pblk_model.specs.Image.{Image}
use Rattle.pblk_model.specs.Contents.{end, head}
use Rattle.pblk_model.specs.History.{users}
use Rattle.pblk_model.specs.Sealed.{IsSealed}
use Rattle.pblk_world.specs.Events.{Logged}
use Rattle.pblk_world.specs.World.{World, log_of, media}
use Rattle.pblk_world.specs.EngineLog.{Begun, Taken, begun, takes}
use Rattle.pblk_world.specs.Fronts.{first_position, is_users, user_positions, user_takes}
use Rattle.pblk_world.specs.Lines.{found_image, next_seq}
use Rattle.pblk_world.specs.LegalMounts.{IsLegalMount}
use Rattle.world_laws.specs.SameImages.{HoldsTheSame}
use Rattle.world_laws.proofs.Beginnings.{has_begun}
use Rattle.world_laws.proofs.FoundImages.{found_holds}
use Rattle.world_laws.proofs.Positions.{position_of}
use Rattle.prefix_law.proofs.LineFacts.{HasFacts, facts}
use Rattle.prefix_law.proofs.MountHead.{AsBefore, OfMount, WhichHead, reduced, which}
use Rattle.prefix_law.proofs.OpeningStarts.{first_found}
use Rattle.prefix_law.proofs.Reduced.{end_same}
use Rattle.pblk_laws.proofs.Users.{users_none}
use Rattle.pblk_model.proofs.Maps.{all_filter, all_mapped}
use Rattle.pblk_model.proofs.Parts.{all_by_get}
use Rattle.prefix_law.proofs.Prefix.{whole}

-- each line's position is the mount's first one or above it
from_first : (i : Image) (w : World) → IsLegalMount i w → AllByRecursion (λ p. first_position (log_of w 0) ≤ p) (user_positions (log_of w 0))
from_first i w mount =
    all_mapped (λ p. first_position (log_of w 0) ≤ p) (λ (t : Taken). t.entry.position) (user_takes (log_of w 0))
    (all_filter (λ (t : Taken). first_position (log_of w 0) ≤ t.entry.position) (λ t. is_users t.entry.source) (takes (log_of w 0))
    (all_by_get (λ (t : Taken). first_position (log_of w 0) ≤ t.entry.position) (takes (log_of w 0)) (λ k t there.
    let at : t.entry.position ≡ first_position (log_of w 0) + k = position_of i w k t mount.legal there in omega arith)))

module _ (i : Image) (w : World) (mount : IsLegalMount i w) (sealed : IsSealed i) (same : head (media i (log_of w)) ≡ head i) where
  held : HoldsTheSame i (found_image i (log_of w))
  held = found_holds i w (log_of w) mount.accepted mount.fit sealed mount.legal (whole w)

  module _ (b : Begun) (begins : begun (log_of w 0) ≡ Some b) where
    abbrev has : HasFacts i w
    has = facts i w b mount sealed begins

    abbrev found : Image
    found = found_image i (log_of w)

    by_head : WhichHead i w b mount has begins → users (user_positions (log_of w 0)) (end (media i (log_of w))) ≡ 0
    by_head (OfMount h n) =
        let was : head found ≡ Some h = held.head ∙ sym same ∙ n.head in
        let later : next_seq (head found) ≤ h.seq = n.start.seq in
        let next : next_seq (head found) ≡ h.seq + 1 = ap next_seq was in
        absurd (omega arith)
    by_head (AsBefore all) =
        let still : end (media i (log_of w)) ≡ first_position (log_of w 0) =
        end_same found (media i (log_of w)) (reduced i w b mount has begins all) ∙ sym (first_found i w b mount.legal begins) in
        ap (users (user_positions (log_of w 0))) still ∙ users_none (first_position (log_of w 0)) (user_positions (log_of w 0)) (from_first i w mount)

    with_beginning : users (user_positions (log_of w 0)) (end (media i (log_of w))) ≡ 0
    with_beginning = by_head (which i w b mount has begins)

  pub none_kept : users (user_positions (log_of w 0)) (end (media i (log_of w))) ≡ 0
  none_kept = go (log_of w 0) refl
    where
      go : (log : List Logged) → log_of w 0 ≡ log → users (user_positions (log_of w 0)) (end (media i (log_of w))) ≡ 0
      go [] e = ap (λ (log : List Logged). users (user_positions log) (end (media i (log_of w)))) e
      go (l ∷ log) e = let begins = has_begun i w l log mount.legal e in with_beginning begins.0 begins.1

-- The mount of a legal world began with what is found of the image that it found.
use Rattle.std.proofs.Common.{◌≡◌, ℕ, Some, List, sym, ap, ◌∙◌}
use Rattle.pblk_model.specs.declared.found.Found.{Found}
use Rattle.pblk_model.specs.Image.{Image}
use Rattle.pblk_world.specs.Events.{Beginning}
use Rattle.pblk_world.specs.World.{World, Logs, log_of, cut_logs, media}
use Rattle.pblk_world.specs.EngineLog.{Begun, begun}
use Rattle.pblk_world.specs.Lines.{found_by, found_image}
use Rattle.pblk_world.specs.Legal.{IsLegal}
use Rattle.world_laws.proofs.FoundImages.{found_first, found_seq, found_strays}
use Rattle.world_laws.specs.Finding.{IsFoundOf}
use Rattle.world_laws.specs.MountBeginnings.{beginning_of}
use Rattle.world_laws.proofs.MayBegin.{seq_follows}

-- the image that a beginning names
abbrev pub named_image : Image → Logs → Begun → Image
named_image i logs b = media i (cut_logs b.knows logs)

pub found_named : (i : Image) (w : World) (b : Begun) → begun (log_of w 0) ≡ Some b → found_image i (log_of w) ≡ named_image i (log_of w) b
found_named i w b e = ap (found_by i (log_of w)) e

same_beginning : (m n p q : ℕ) (xs ys : List ℕ) → m ≡ n → p ≡ q → xs ≡ ys
    → ◌≡◌ {A = Beginning} (record { first = m; seq = p; strays = xs }) (record { first = n; seq = q; strays = ys })
same_beginning m n p q xs ys a b c = λ k. record { first = a k; seq = b k; strays = c k }

pub began_found : (i : Image) (w : World) (b : Begun) (f : Found) → IsLegal i w → begun (log_of w 0) ≡ Some b → IsFoundOf (found_image i (log_of w)) f
    → b.beginning ≡ beginning_of f
began_found i w b f legal e is =
    same_beginning b.beginning.first f.end b.beginning.seq (beginning_of f).seq b.beginning.strays f.strays
    (found_first i w b legal e ∙ sym is.end_is)
    (found_seq i w b legal e ∙ sym (seq_follows (found_image i (log_of w)) f is))
    (found_strays i w b legal e ∙ sym is.strays_are)

-- What hasn't landed is in no line from which it could be taken.
use Rattle.std.proofs.Common.{◌≡◌, ℕ, ◌&&◌, nat_lt, Bool, true, false, Some, None, List, [], ◌∷◌, refl, ap, ◌∙◌}
use Rattle.std.specs.List.{AllByRecursion, list_any}
use Rattle.std.specs.Option.{option_map}
use Rattle.pblk_model.specs.declared.shape.Shape.{Shape}
use Rattle.pblk_model.specs.Image.{Image}
use Rattle.pblk_model.specs.Contents.{is_of}
use Rattle.pblk_world.specs.Events.{Logged}
use Rattle.pblk_world.specs.World.{Logs}
use Rattle.pblk_world.specs.EngineLog.{Taken, Placed, placements, has_landed, holds_position}
use Rattle.pblk_world.specs.Fronts.{has_landed_at}
use Rattle.pblk_world.specs.Victims.{is_in_force, take_before, landed_line, landed_line_of, took_from}
use Rattle.pblk_model.proofs.Maps.{find_none}
use Rattle.pblk_model.proofs.Tests.{and_false, either_false}

pub not_landed_line : (s : Shape) (log : List Logged) (q : ℕ) → has_landed_at s log q ≡ false → landed_line s log q ≡ None
not_landed_line s log q none = ap (option_map (λ (p : Placed). p.stripe.line))
    (find_none (λ p. holds_position s q p && has_landed log p && is_in_force log p.life p.stripe.line) (placements log) (each (placements log) none))
  where
    fails : (a b c : Bool) → (b && a) ≡ false → (a && b && c) ≡ false
    fails true true c e = absurd cc
    fails true false c e = refl
    fails false b c e = refl

    each : (ps : List Placed) → list_any (λ p. has_landed log p && holds_position s q p) ps ≡ false
        → AllByRecursion (λ p. (holds_position s q p && has_landed log p && is_in_force log p.life p.stripe.line) ≡ false) ps
    each [] e = tt
    each (p ∷ ps) e =
        let both = either_false (has_landed log p && holds_position s q p) (list_any (λ p. has_landed log p && holds_position s q p) ps) e in
        (fails (holds_position s q p) (has_landed log p) (is_in_force log p.life p.stripe.line) both.0, each ps both.1)

pub nothing_taken : (i : Image) (logs : Logs) (line : ℕ) (t before : Taken) → take_before (logs 0) t ≡ Some before
    → has_landed_at i.shape (logs 0) before.entry.position ≡ false → took_from i logs line t ≡ false
nothing_taken i logs line t before is none =
    and_false (nat_lt t.mark.lba i.shape.capacity) (is_of line (landed_line_of i logs t.mark.lba (take_before (logs 0) t)))
    (ap (λ o. is_of line (landed_line_of i logs t.mark.lba o)) is ∙ ap (is_of line) (not_landed_line i.shape (logs 0) before.entry.position none))

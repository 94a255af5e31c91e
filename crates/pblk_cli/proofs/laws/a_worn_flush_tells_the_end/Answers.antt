use Rattle.std.proofs.Common.{◌≡◌, ℕ, ◌<◌, ◌≤◌, false, Some, List, [], ◌∷◌, length, take, refl, subst, ap, arith}
use Rattle.pblk_model.specs.Image.{Image}
use Rattle.pblk_model.specs.ImageFile.{image_of}
use Rattle.pblk_world.specs.AtRest.{IsWornFlush}
use Rattle.pblk_world.specs.EngineLog.{Begun, begun}
use Rattle.pblk_world.specs.Events.{Logged}
use Rattle.pblk_world.specs.Legal.{IsLegal}
use Rattle.pblk_world.specs.World.{World, log_of}
use Rattle.pblk_world.specs.LegalMounts.{NoStripeLost, decides, is_losing}
use Rattle.world_laws.proofs.Beginnings.{has_begun}
use Rattle.prefix_law.proofs.Answered.{unlost_again}
use Rattle.block_port.specs.declared.rows.WornAnswer.{WornAnswer}
use Rattle.pblk_model.proofs.Lists.{all_contains}
use Rattle.pblk_model.proofs.Parts.{all_taken}
use Rattle.pblk_cli.specs.Worn.{IsRefusedFor, IsRefusedThen, worns_of}
use Rattle.pblk_cli.proofs.RefusedLines.{each_refused}
use Rattle.pblk_cli.proofs.laws.a_worn_flush_tells_the_end.Goals as goal

-- the mount has begun, since it took something
begins : (i : Image) (w : World) (n : ℕ) (a : WornAnswer) → IsLegal i w → IsRefusedThen i (log_of w) n a → a.count ≡ 0
    → (b : Begun) × (begun (log_of w 0) ≡ Some b)
begins i w n a legal refused flush =
    let is : IsWornFlush i (log_of w) n a.wanted a.have = subst (λ count. IsRefusedFor i (log_of w) n count a.wanted a.have) flush refused.cause in
    let some : 0 < n = is.at_rest.has_begun in
    let within : n ≤ length (log_of w 0) = is.at_rest.within in
    go (log_of w 0) refl (omega arith)
  where
    go : (log : List Logged) → log_of w 0 ≡ log → 0 < length (log_of w 0) → (b : Begun) × (begun (log_of w 0) ≡ Some b)
    go [] e some = let none : length (log_of w 0) ≡ 0 = ap length e in absurd (omega arith)
    go (l ∷ log) e some = has_begun i w l log legal e

pub returns : goal.returns
returns c = λ found left options commands t a run unlost sealed among flush.
    let i : Image = image_of found in
    let is = all_contains (λ (b : WornAnswer). (n : ℕ) × IsRefusedThen i (log_of run.world) n b) (worns_of commands t) a
    (each_refused i (log_of run.world) commands t run.worn) among in
    let begun_is = begins i run.world is.0 a run.legal.legal is.1 flush in
    let refused = subst (λ count. IsRefusedFor i (log_of run.world) is.0 count a.wanted a.have) flush is.1.cause in
    let none_lost : NoStripeLost (take is.0 (log_of run.world 0)) =
    all_taken (λ (l : Logged). decides is_losing l.event ≡ false) is.0 (log_of run.world 0) unlost in
    let told = c.a_refused_flush_tells_the_end.ensures i run.world begun_is.0 is.0 a.wanted a.have run.legal sealed begun_is.1
    (unlost_again i.shape (take is.0 (log_of run.world 0)) none_lost) refused in
    (is.0, told.0, told.1, told.2, told.3)

use Rattle.std.proofs.Common.{◌≡◌, ◌⊎◌, inl, inr, Ok, sym, subst, ap}
use Rattle.pblk_model.specs.Image.{Image}
use Rattle.pblk_world.specs.World.{Logs}
use Rattle.chronicle.specs.Prefixes.{Prefixes}
use Rattle.pblk_engine.specs.Alone.{IsCopyAlone, WasFull, at_look}
use Rattle.pblk_engine.specs.Pumps.{HasPumped, IsWork, fault_of}
use Rattle.pblk_engine.specs.declared.outcomes.Did.{Did}
use Rattle.pblk_engine.specs.declared.outcomes.Did.TheVariants as dids
use Rattle.pblk_engine.specs.declared.outcomes.Role.TheVariants as roles
use Rattle.pblk_engine.proofs.LonePumps.{was_full}
use Rattle.pblk_engine.proofs.Settlings.{lost_is}
use Rattle.pblk_engine.proofs.shared.Shared.work_alone.Goals as goal

-- a copy was made, or there was no room for it
made_or_full : (i : Image) (logs : Logs) (did : Did) → (did ≡ dids.Copied) ⊎ (did ≡ dids.NotCopied) → (did ≡ dids.NotCopied → WasFull i logs)
    → IsWork did ⊎ WasFull i logs
made_or_full i logs did (inl made) full = inl (subst IsWork (sym made) ((λ e. absurd cc), (λ e. absurd cc), (λ why e. absurd cc)))
made_or_full i logs did (inr not) full = inr (full not)

pub copy_alone-requires-clause-alone : goal.copy_alone-requires-clause-alone
copy_alone-requires-clause-alone g c =
    subst (λ (k : Prefixes). IsCopyAlone g.M.Mount.past.image (at_look k)) c.requires.known (c.requires.can.alone c.in-Copy.is)

pub returns-in_ok-copy_alone-in-Copy-clause-works : goal.returns-in_ok-copy_alone-in-Copy-clause-works
returns-in_ok-copy_alone-in-Copy-clause-works g c =
    let i = g.M.Mount.past.image in
    let known = c.args.heart.now.author.known in
    let alone : IsCopyAlone i (at_look known) =
    subst (λ (k : Prefixes). IsCopyAlone i (at_look k)) c.requires.known (c.requires.can.alone c.in-Copy.is) in
    made_or_full i (at_look known) c.in_ok-copy_alone-in-Copy.field-0 c.in_ok-copy_alone-in-Copy.ensures.copied (λ not.
    was_full i known g.M.Mount.key.size c.args.heart.now.intake.intake.freed c.args.heart.now.intake.intake.taken alone c.stands.ensures.size
    c.stands.ensures.freed c.stands.ensures.taken (c.in_ok-copy_alone-in-Copy.ensures.full (ap (λ d. Ok d) not)))

pub returns-in_ok-copy_alone-in-Copy-clause-pumped : goal.returns-in_ok-copy_alone-in-Copy-clause-pumped
returns-in_ok-copy_alone-in-Copy-clause-pumped g c = c.in_ok-copy_alone-in-Copy.ensures.collected.pumped

pub returns-in_err-copy_alone-in-Copy-clause-pumped : goal.returns-in_err-copy_alone-in-Copy-clause-pumped
returns-in_err-copy_alone-in-Copy-clause-pumped g c =
    let e = c.in_err-copy_alone-in-Copy.field-0.0 in
    subst (HasPumped g.M.Mount.past.image g.M.Mount.handed roles.All c.args.worker.now c.copy_alone.new.worker)
    (sym (lost_is c.from_residual.result (fault_of e) _ (λ w is. is) c.from_residual.ensures.0 c.from_residual.ensures.1))
    c.in_err-copy_alone-in-Copy.ensures.collected.pumped

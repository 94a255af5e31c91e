use Rattle.std.proofs.Common.{◌≡◌, ◌+◌, ◌∷◌, [], ℕ, None, Some, sym, subst, ap, ap₂, ◌∙◌, arith}
use Rattle.atomic_table.specs.Seated.{TableId}
use Rattle.pblk_core.specs.Filling.{Filling}
use Rattle.chronicle.specs.Handles.{TokenView, note_of}
use Rattle.chronicle.specs.Prefixes.{Prefixes}
use Rattle.chronicle.specs.Views.{Past}
use Rattle.pblk_engine.specs.Notes.{IsNoteOf}
use Rattle.pblk_engine.specs.Workers.{worker_view}
use Rattle.pblk_engine.proofs.EarlyArms.{first_note}
use Rattle.block_target.specs.Rooms.{IsNewWorker}
use Rattle.block_target.specs.Targets.{naming}
use Rattle.block_target.proofs.FirstTickets.{both_hold}
use Rattle.block_target.proofs.target.name_worker.Goals as goal

-- the token of the worker with this number
abbrev its_token : TokenView → ℕ → TokenView
its_token t number = record t { makers = record { worker = number; made = 0 } ∷ []; spare = None }

named : (chronicle : TableId) (past : Past) (number : ℕ) (old new : TokenView) → old ≡ naming chronicle past number
    → ((n : ℕ) → old.spare ≡ Some n → new ≡ its_token old n) → new ≡ its_token (naming chronicle past number) number
named chronicle past number old new was says =
    says number (ap (λ (t : TokenView). t.spare) was) ∙ ap (λ (t : TokenView). its_token t number) was

pub name_worker-named-requires-clause-spare : goal.name_worker-named-requires-clause-spare
name_worker-named-requires-clause-spare g c =
    let small = c.requires.small in (c.args.number, ap (λ (t : TokenView). t.spare) c.requires.token, omega arith)

pub new-requires-clause-token : goal.new-requires-clause-token
new-requires-clause-token g c =
    let m = g.M.Mount in
    let it = named m.chronicle m.past c.args.number c.args.token.now c.name_worker-named.result c.requires.token
    c.name_worker-named.ensures.worker in
    subst (λ (t : TokenView). IsNoteOf m.chronicle m.past (note_of t)) (sym it)
    (first_note m.chronicle m.past m.key m.handed m.wear c.requires.mounted c.requires.early)

pub new-requires-clause-makers : goal.new-requires-clause-makers
new-requires-clause-makers g c =
    let m = g.M.Mount in
    let it = named m.chronicle m.past c.args.number c.args.token.now c.name_worker-named.result c.requires.token
    c.name_worker-named.ensures.worker in
    ap (λ (t : TokenView). t.makers) it

pub new-requires-clause-spare : goal.new-requires-clause-spare
new-requires-clause-spare g c =
    let m = g.M.Mount in
    let it = named m.chronicle m.past c.args.number c.args.token.now c.name_worker-named.result c.requires.token
    c.name_worker-named.ensures.worker in
    ap (λ (t : TokenView). t.spare) it

pub new-requires-clause-stripe : goal.new-requires-clause-stripe
new-requires-clause-stripe g c =
    let last = both_hold (IsNewWorker g.M.Mount.past.image.shape) _ _ _ c.take_last-last.ensures.items c.requires.new in
    ap (λ (f : Filling). f.shape) last.1.stripe

pub new-requires-clause-made : goal.new-requires-clause-made
new-requires-clause-made g c =
    (both_hold (IsNewWorker g.M.Mount.past.image.shape) _ _ _ c.take_last-last.ensures.items c.requires.new).1.made

pub returns-clause-worker : goal.returns-clause-worker
returns-clause-worker g c =
    let m = g.M.Mount in
    let it = named m.chronicle m.past c.args.number c.args.token.now c.name_worker-named.result c.requires.token
    c.name_worker-named.ensures.worker in
    let last = both_hold (IsNewWorker m.past.image.shape) _ _ _ c.take_last-last.ensures.items c.requires.new in
    c.new.ensures
    ∙ ap₂ (λ (known : Prefixes) (stripe : Filling). worker_view c.args.number known stripe [] 0) (ap (λ (t : TokenView). t.known) it)
    last.1.stripe

pub returns-clause-token : goal.returns-clause-token
returns-clause-token g c =
    c.name_worker-named.ensures.named c.args.number (ap (λ (t : TokenView). t.spare) c.requires.token)
    ∙ ap (λ (t : TokenView). record t { spare = Some (c.args.number + 1) }) c.requires.token

pub returns-clause-still_new : goal.returns-clause-still_new
returns-clause-still_new g c = (both_hold (IsNewWorker g.M.Mount.past.image.shape) _ _ _ c.take_last-last.ensures.items c.requires.new).0

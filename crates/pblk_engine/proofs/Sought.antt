-- A block that an arm fetched: what was told of it, and what it is by the arm's logs.
use Rattle.std.proofs.Common.{◌≡◌, ℕ, suc, ◌+◌, ◌<◌, Bool, true, false, Some, List, [], ◌∷◌, ◌++◌, length, length-append, refl, sym, subst, ap, ◌∙◌, arith}
use Rattle.std.specs.Prelude.{slice_get, Result, Ok, Err, IsTrue, ◌↔◌}
use Rattle.std.specs.Option.{option_and_then}
use Rattle.pblk_model.specs.declared.chunk.Got.{Got}
use Rattle.pblk_model.specs.declared.chunk.Got.TheVariants as got
use Rattle.pblk_model.specs.declared.chunk.Mark.{Mark}
use Rattle.pblk_model.specs.declared.shape.Shape.{Shape}
use Rattle.pblk_model.specs.Chunk.{Block, Chunk}
use Rattle.pblk_model.specs.ChunkStep.{ChunkAnswer, ChunkCommand, Done, Empty, Gave, Read, Refused}
use Rattle.pblk_model.specs.Image.{Image}
use Rattle.pblk_model.specs.Records.{named}
use Rattle.pblk_model.specs.Shape.{units}
use Rattle.pblk_model.specs.UnitLog.{Answered, UnitOutcome}
use Rattle.pblk_laws.specs.LineBlocks.{chunk_in}
use Rattle.pblk_laws.proofs.MarkNames.{sector_exactly}
use Rattle.pblk_world.specs.Events.{Does, Logged}
use Rattle.pblk_world.specs.World.{Logs, media}
use Rattle.unit_port.specs.Armed.{is_fail, is_stop}
use Rattle.unit_port.specs.Did.{failed_or_stopped}
use Rattle.unit_port.specs.Unit.{ModelUnit, TellsBlock}
use Rattle.unit_port.specs.declared.unit.UnitErr.{UnitErr}
use Rattle.unit_port.specs.declared.unit.UnitErr.TheVariants as causes
use Rattle.l2p_map.specs.declared.slot.Slot.TheVariants.{Media}
use Rattle.core_laws.specs.SlotOf.{slot_of}
use Rattle.step_laws.specs.LookedUp.{IsLookedUp, IsMarkedBlock}
use Rattle.step_laws.specs.SlotBlocks.{IsBlockOfSlot}
use Rattle.chronicle.specs.Views.{Past}
use Rattle.chronicle.specs.Prefixes.{Prefixes, logs_of, longer_of, naming, ArePrefixes}
use Rattle.chronicle.proofs.PrefixLemmas.{own_more}
use Rattle.write_ring.specs.declared.view.Key.{Key}
use Rattle.pblk_engine.specs.Arms.{ArmView, number_told}
use Rattle.pblk_engine.specs.ArmViews.{IsArmOfMount}
use Rattle.pblk_engine.specs.Deeds.{HasDone, event_of}
use Rattle.pblk_engine.specs.Fetches.{IsMarked, IsReadableAt, TellsCause, TellsMarked}
use Rattle.pblk_engine.specs.Workers.{WorkerView}
use Rattle.pblk_engine.proofs.Fetches.{gave}
use Rattle.pblk_engine.proofs.Resets.{same_logs}

-- ---- what a fetch told

pub gave_block : (old new : List ℕ) (o : UnitOutcome) (r : Result Got UnitErr) (x : Got) (mark : Mark) → r ≡ Ok x → x ≡ got.Sector mark → TellsBlock old new r o
    → o ≡ Answered (Gave (record { sector = new; mark = mark }))
gave_block old new o r x mark is same tells =
    subst (λ (s : Result Got UnitErr). TellsBlock old new s o) (is ∙ ap (λ (y : Got). Ok y) same) tells

pub gave_none : (old new : List ℕ) (o : UnitOutcome) (r : Result Got UnitErr) (x : Got) → r ≡ Ok x → x ≡ got.Empty → TellsBlock old new r o
    → o ≡ Answered Empty
gave_none old new o r x is same tells =
    let told : (o ≡ Answered Empty) × (new ≡ old) =
    subst (λ (s : Result Got UnitErr). TellsBlock old new s o) (is ∙ ap (λ (y : Got). Ok y) same) tells in
    told.0

pub was_refused : (old new : List ℕ) (o : UnitOutcome) (r : Result Got UnitErr) (x : UnitErr) → r ≡ Err x → TellsBlock old new r o
    → failed_or_stopped o ≡ true
was_refused old new o r x is tells = go x (subst (λ (s : Result Got UnitErr). TellsBlock old new s o) is tells)
  where
    go : (x : UnitErr) → TellsBlock old new (Err x) o → failed_or_stopped o ≡ true
    go causes.Failed told = ap failed_or_stopped told.0
    go causes.Stopped told = ap failed_or_stopped told.0

pub cause_told : (old new : List ℕ) (o : UnitOutcome) (r : Result Got UnitErr) (x : UnitErr) → r ≡ Err x → TellsBlock old new r o → TellsCause x o
cause_told old new o r x is tells = go x (subst (λ (s : Result Got UnitErr). TellsBlock old new s o) is tells)
  where
    go : (x : UnitErr) → TellsBlock old new (Err x) o → TellsCause x o
    go causes.Failed told = ap is_fail told.0
    go causes.Stopped told = ap is_stop told.0

-- ---- by its mark

same_block : (a b : Block) → Gave a ≡ Gave b → a ≡ b
same_block a b is = ap (λ (x : ChunkAnswer). block_in x) is
  where
    block_in : ChunkAnswer → Block
    block_in Done = a
    block_in (Gave x) = x
    block_in Empty = a
    block_in (Refused e) = a

pub marked_told : (s : Shape) (lba position number : ℕ) (out : List ℕ) (mark : Mark) (r : Bool) → lba < s.capacity
    → (IsTrue r ↔ ((mark.lba ≡ lba) × (mark.position ≡ position))) → (o : UnitOutcome) → o ≡ Answered (Gave (record { sector = out; mark = mark }))
    → TellsMarked s lba position number out (Ok r) o
marked_told s lba position number out mark true inside tells o is =
    let same = tells.0 refl in (
      record { sector = out; mark = mark },
      is,
      record { names = (sector_exactly s mark lba).1 (same.0, inside); bears = same.1 },
      refl,
    )
marked_told s lba position number out mark false inside tells o is =
    let b : Block = record { sector = out; mark = mark } in (
      Gave b,
      is,
      λ other same marked.
          let its : b ≡ other = same_block b other same in
          let name : mark.lba ≡ lba = ((sector_exactly s mark lba).0 (ap (λ (x : Block). named s x.mark) its ∙ marked.names)).0 in
          let place : mark.position ≡ position = ap (λ (x : Block). x.mark.position) its ∙ marked.bears in
          differ (tells.1 (name, place)),
    )
  where
    differ : false ≡ true → ⊥
    differ same = cc

pub empty_told : (s : Shape) (lba position number : ℕ) (out : List ℕ) (o : UnitOutcome) → o ≡ Answered Empty
    → TellsMarked s lba position number out (Ok false) o
empty_told s lba position number out o is = (Empty, is, λ other same marked. absurd (no same))
  where
    no : {b : Block} → Empty ≡ Gave b → ⊥
    no same = cc

-- ---- what was done

-- by an arm that met a note before
pub done_as : (old met new : ArmView) (was now : WorkerView) (before : Prefixes) (chunk : ℕ) (command : ChunkCommand) (tells told : UnitOutcome → Type 0)
    → met ≡ record old { known = before } → HasDone met new was now met.known chunk command tells → ((o : UnitOutcome) → tells o → told o)
    → HasDone old new was now before chunk command told
done_as old met new was now before chunk command tells told is done more =
    let d : HasDone (record old { known = before }) new was now before chunk command tells =
    subst (λ (x : ArmView). HasDone x new was now x.known chunk command tells) is done in
    record {
      outcome = d.outcome;
      told = more d.outcome d.told;
      steps = d.steps;
      known = d.known;
      made = d.made;
      stripe = d.stripe;
      worker = d.worker;
      asked = d.asked;
      keeps = d.keeps;
      learns = d.learns;
    }

module _ (past : Past) (key : Key) (handed : List ModelUnit) (wear : List (List ℕ)) (met : ArmView) (is : IsArmOfMount past key handed wear met)
    (new : ArmView) (was now : WorkerView) (chunk : ℕ) (command : ChunkCommand) (tells : UnitOutcome → Type 0)
    (done : HasDone met new was now met.known chunk command tells) where
  -- the command is one event more in the unit's log
  pub one_more : suc (length (logs_of met.known (suc met.number))) ≡ length (logs_of new.known (suc met.number))
  one_more =
      let e = Does (event_of chunk command done.outcome) (record { worker = was.number; made = length was.made }) in
      let range : met.number < units past.image.shape = is.in_range in
      let many : length met.known ≡ units past.image.shape + 1 = is.legal.authors in
      let own : logs_of new.known (suc met.number) ≡ logs_of met.known (suc met.number) ++ naming met.known e ∷ [] =
      ap (λ (k : Prefixes). logs_of k (suc met.number)) done.known ∙ own_more met.known (suc met.number) e (omega arith) in
      let long : length (logs_of new.known (suc met.number)) ≡ length (logs_of met.known (suc met.number)) + 1 =
      ap (λ (xs : List Logged). length xs) own ∙ length-append (logs_of met.known (suc met.number)) (naming met.known e ∷ []) in
      omega arith

-- the number of the command, as it is told then
pub number_then : (handed : List ModelUnit) (old met new : ArmView) (before : Prefixes) (result : ℕ) → met ≡ record old { known = before }
    → new.number ≡ met.number → suc (length (logs_of met.known (suc met.number))) ≡ length (logs_of new.known (suc met.number))
    → ((number : ℕ) → suc number ≡ length (logs_of new.known (suc new.number)) → result ≡ number_told handed new.number number)
    → result ≡ number_told handed old.number (length (logs_of before (suc old.number)))
number_then handed old met new before result is same more told =
    told (length (logs_of met.known (suc met.number))) (more ∙ ap (λ n. length (logs_of new.known (suc n))) (sym same))
    ∙ ap (λ n. number_told handed n (length (logs_of met.known (suc met.number)))) same
    ∙ ap (λ (x : ArmView). number_told handed x.number (length (logs_of x.known (suc x.number)))) is

-- ---- the block, by the arm's logs

-- the chunk of a line
pub chunk_there : (past : Past) (key : Key) (handed : List ModelUnit) (wear : List (List ℕ)) (a : ArmView) → IsArmOfMount past key handed wear a → (line : ℕ)
    (c : Chunk) → slice_get a.unit.media line ≡ Some c → chunk_in (media past.image (logs_of a.known)) line a.number ≡ Some c
chunk_there past key handed wear a is line c there = ap (option_and_then (λ (cs : List Chunk). slice_get cs line)) is.arm.media ∙ there

module _ (past : Past) (key : Key) (handed : List ModelUnit) (wear : List (List ℕ)) (met : ArmView) (is : IsArmOfMount past key handed wear met)
    (new : ArmView) (was now : WorkerView) (line number : ℕ) (tells : UnitOutcome → Type 0)
    (done : HasDone met new was now met.known line (Read number) tells) where
  pub marked_there : (lba position : ℕ) (b : Block) → done.outcome ≡ Answered (Gave b) → IsMarked past.image.shape lba position b
      → IsMarkedBlock past.image (logs_of met.known) lba line position met.number number b
  marked_there lba position b gives marked = record {
    chunk = done.steps.event.found;
    there = chunk_there past key handed wear met is line done.steps.event.found done.steps.event.there;
    written = gave met.unit new.unit line number done.outcome done.steps b gives;
    names = marked.names;
    bears = marked.bears;
  }

-- ---- by a look

-- the block to which a slot leads can be read
pub slot_readable : (i : Image) (logs : Logs) (lba line at position : ℕ) (is : IsBlockOfSlot i logs lba line at position)
    → IsReadableAt i logs is.unit line is.number
slot_readable i logs lba line at position is =
    record { chunk = is.chunk; there = is.there; readable = is.readable; block = is.block; written = is.written }

-- and so it can by what an arm knows together with a note that knows more
pub readable_together : (i : Image) (arm note : Prefixes) (unit line number : ℕ) → ArePrefixes arm note → IsReadableAt i (logs_of note) unit line number
    → IsReadableAt i (logs_of (longer_of arm note)) unit line number
readable_together i arm note unit line number less is = subst (λ (l : Logs). IsReadableAt i l unit line number) (sym (same_logs arm note less)) is

-- where a slot leads
pub looked_up : (i : Image) (logs : Logs) (lba line at position : ℕ) → slot_of i logs lba ≡ Media line at position
    → (is : IsBlockOfSlot i logs lba line at position) → IsLookedUp i logs lba line at position is.unit is.number
looked_up i logs lba line at position slot is = record { slot = slot; place = is.place }

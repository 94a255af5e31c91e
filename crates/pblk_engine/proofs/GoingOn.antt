-- Workers that go on: what they know and made, call after call.
use Rattle.std.proofs.Common.{◌≡◌, ◌||◌, ◌&&◌, Bool, true, false, List, [], ◌∷◌, ◌++◌, append_assoc, append-nil, refl, sym, subst, ap, ap₂, ◌∙◌}
use Rattle.pblk_model.specs.ChunkStep.{Reset}
use Rattle.pblk_model.specs.UnitLog.{UnitEvent}
use Rattle.scan_recovery.specs.DriveFaults.{is_drive_fault, is_fetch}
use Rattle.unit_port.specs.Armed.{is_fail, is_stop}
use Rattle.unit_port.specs.Unit.{ModelUnit}
use Rattle.chronicle.specs.Prefixes.{Prefixes, ArePrefixes, logs_of}
use Rattle.chronicle.proofs.Rests.{still_begun}
use Rattle.pblk_engine.specs.Arms.{number_told}
use Rattle.pblk_engine.specs.Pumps.{GoesOn, IsFaultOf, IsWrite}
use Rattle.pblk_engine.specs.Workers.{Made, WorkerView}
use Rattle.pblk_engine.specs.declared.errors.DriveErr.{DriveErr}

pub all_known : (known : Prefixes) → ArePrefixes known known
all_known known = record { each = λ author. ([], append-nil (logs_of known author)) }

-- ---- one call after another

pub goes_still : (w : WorkerView) → GoesOn w w []
goes_still w = record { number = refl; keeps = all_known w.known; made = sym (append-nil w.made); asked = refl }

pub goes_learned : (old new : WorkerView) → new ≡ record old { known = new.known } → ArePrefixes old.known new.known → GoesOn old new []
goes_learned old new is keeps = record {
  number = ap (λ (w : WorkerView). w.number) is;
  keeps = keeps;
  made = ap (λ (w : WorkerView). w.made) is ∙ sym (append-nil old.made);
  asked = ap (λ (w : WorkerView). w.asked) is;
}

-- it was told so much
pub told_only : (old new : WorkerView) (known : Prefixes) → new ≡ record old { known = known } → new ≡ record old { known = new.known }
told_only old new known is = is ∙ ap (λ (k : Prefixes). record old { known = k }) (sym (ap (λ (w : WorkerView). w.known) is))

pub goes_told : (old new : WorkerView) (known : Prefixes) → new ≡ record old { known = known } → ArePrefixes old.known new.known → GoesOn old new []
goes_told old new known is keeps = goes_learned old new (told_only old new known is) keeps

pub goes_placed : (old new : WorkerView) → new ≡ record old { stripe = new.stripe } → GoesOn old new []
goes_placed old new is = record {
  number = ap (λ (w : WorkerView). w.number) is;
  keeps = subst (ArePrefixes old.known) (sym (ap (λ (w : WorkerView). w.known) is)) (all_known old.known);
  made = ap (λ (w : WorkerView). w.made) is ∙ sym (append-nil old.made);
  asked = ap (λ (w : WorkerView). w.asked) is;
}

pub goes_then : (a b c : WorkerView) (xs ys : List Made) → GoesOn a b xs → GoesOn b c ys → GoesOn a c (xs ++ ys)
goes_then a b c xs ys first second = record {
  number = second.number ∙ first.number;
  keeps = still_begun a.known b.known c.known first.keeps second.keeps;
  made = second.made ∙ ap (λ ms. ms ++ ys) first.made ∙ append_assoc a.made xs ys;
  asked = second.asked ∙ first.asked;
}

-- with one command, between steps that make none
pub goes_one : (a b c d : WorkerView) (m : Made) → GoesOn a b [] → GoesOn b c (m ∷ []) → GoesOn c d [] → GoesOn a d (m ∷ [])
goes_one a b c d m first second third = goes_then a c d (m ∷ []) [] (goes_then a b c [] (m ∷ []) first second) third

-- ---- commands that weren't lost

pub write_kept : (e : UnitEvent) → IsWrite e.command → is_stop e.outcome ≡ false → is_drive_fault e ≡ false
write_kept e is going =
    ap (λ b. b || (is_fetch e.command && is_fail e.outcome)) going ∙ ap (λ c. is_fetch c && is_fail e.outcome) is.2

pub reset_kept : (e : UnitEvent) → e.command ≡ Reset → is_stop e.outcome ≡ false → is_drive_fault e ≡ false
reset_kept e is going =
    ap (λ b. b || (is_fetch e.command && is_fail e.outcome)) going ∙ ap (λ c. is_fetch c && is_fail e.outcome) is

pub answer_kept : (e : UnitEvent) → is_stop e.outcome ≡ false → is_fail e.outcome ≡ false → is_drive_fault e ≡ false
answer_kept e going done = ap₂ (λ a b. a || (is_fetch e.command && b)) going done ∙ no (is_fetch e.command)
  where
    no : (b : Bool) → (b && false) ≡ false
    no true = refl
    no false = refl

pub fetch_lost : (e : UnitEvent) → is_fetch e.command ≡ true → is_fail e.outcome ≡ true → is_drive_fault e ≡ true
fetch_lost e fetch fail = ap₂ (λ a b. is_stop e.outcome || (a && b)) fetch fail ∙ yes (is_stop e.outcome)
  where
    yes : (b : Bool) → (b || true) ≡ true
    yes true = refl
    yes false = refl

-- the only command was lost
pub fault_one : (handed : List ModelUnit) (m : Made) (e : DriveErr) → is_drive_fault m.event ≡ true → e.unit ≡ m.unit
    → e.event ≡ number_told handed m.unit m.number → IsFaultOf handed (m ∷ []) e
fault_one handed m e lost unit number =
    record { others = []; last = m; all = refl; none = tt; lost = lost; unit = unit; number = number }

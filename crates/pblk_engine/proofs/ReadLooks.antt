-- What a worker knows after a look.
use Rattle.std.proofs.Common.{◌≡◌, ◌≤◌, ℕ, List, sym, subst, ap, ◌∙◌}
use Rattle.chronicle.specs.Views.{Past}
use Rattle.chronicle.specs.Prefixes.{AreLegalLogs, ArePrefixes, Prefixes, logs_of}
use Rattle.pblk_engine.specs.Reads.{HasLooked, IsRunLook}
use Rattle.pblk_engine.specs.Workers.{WorkerView}
use Rattle.pblk_engine.specs.declared.sector_looks.RunLook.{RunLook}
use Rattle.pblk_engine.proofs.GoingOn.{all_known}

-- it was told all that the heart knew at the look
pub has_looked : (past : Past) (old new : WorkerView) (known : Prefixes) (seen lba : ℕ) (out : List ℕ) (look : RunLook) → new ≡ record old { known = known }
    → ArePrefixes old.known new.known → AreLegalLogs past.image known → ArePrefixes past.logs known → IsRunLook past.image (logs_of known) lba out look
    → seen ≤ look.front.position → HasLooked past old new seen lba out look
has_looked past old new known seen lba out look is keeps legal begun run seen_then =
    let same : known ≡ new.known = sym (ap (λ (w : WorkerView). w.known) is) in
    record {
      worker = is ∙ ap (λ (k : Prefixes). record old { known = k }) same;
      looked = record {
        legal = subst (λ (k : Prefixes). AreLegalLogs past.image k) same legal;
        begun = subst (λ (k : Prefixes). ArePrefixes past.logs k) same begun;
        since = keeps;
        within = all_known new.known;
      };
      run = subst (λ (k : Prefixes). IsRunLook past.image (logs_of k) lba out look) same run;
      seen_then = seen_then;
    }

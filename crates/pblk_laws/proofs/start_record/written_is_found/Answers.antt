use Rattle.std.proofs.Common.{◌≡◌, ℕ, List, Some, subst, sym}
use Rattle.pblk_model.specs.Image.{width}
use Rattle.pblk_model.specs.StartRecord.{start_bytes, read_start}
use Rattle.pblk_laws.proofs.Starts.{fields_fit, read_back, marked, found}
use Rattle.pblk_laws.proofs.start_record.written_is_found.Goals as goal

pub returns : goal.returns
returns c = λ i line r blocks accepted inside wide fits start.
    let read : read_start i.shape line (width i line) (start_bytes i.shape r) ≡ Some r =
    read_back i.shape line (width i line) r (fields_fit i.shape line (width i line) r accepted inside wide fits) fits in
    found i line r blocks start.count start.written (subst (λ (bytes : List ℕ). read_start i.shape line (width i line) bytes ≡ Some r) (sym start.bytes) read)
    (marked r.seq blocks start.marks)

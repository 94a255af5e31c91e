-- What a read answers, by a look and by the fetches that it led to.
use Rattle.std.proofs.Common.{◌≡◌, ◌⊎◌, inl, inr, ℕ, ◌+◌, ◌*◌, ◌<◌, ◌≤◌, List, [], ◌++◌, length, false, sym, subst, ap, ◌∙◌, arith}
use Rattle.std.specs.Prelude.{IsErrAnd, Result, Ok, Err}
use Rattle.std.proofs.Math.Nat.{mul-le-mul_right}
use Rattle.std.proofs.lemmas.Bool.{cases_lt}
use Rattle.pblk_model.specs.declared.run.Front.{Front}
use Rattle.pblk_model.specs.declared.shape.Shape.{Shape}
use Rattle.pblk_model.specs.Accepted.{IsAccepted}
use Rattle.pblk_world.specs.Fronts.{taken}
use Rattle.unit_port.specs.Unit.{ModelUnit}
use Rattle.chronicle.specs.Views.{Past}
use Rattle.chronicle.specs.Prefixes.{ArePrefixes, Prefixes, logs_of}
use Rattle.chronicle.proofs.Rests.{still_begun}
use Rattle.pblk_engine.specs.Looks.{front_taken}
use Rattle.pblk_engine.specs.Pumps.{GoesOn}
use Rattle.pblk_engine.specs.Reads.{AreLatest, HasFetchedRun, HasLooked, HasRead, IsLatest, TellsRead, WasLook, part_at}
use Rattle.pblk_engine.specs.Workers.{Made, WorkerView}
use Rattle.pblk_engine.specs.declared.errors.DriveErr.{DriveErr}
use Rattle.pblk_engine.specs.declared.sector_looks.RunLook.{RunLook}
use Rattle.pblk_engine.proofs.GoingOn.{goes_learned, goes_then}
use Rattle.pblk_engine.proofs.ReadFetches.{lost_after}
use Rattle.pblk_engine.proofs.RunParts.{ends_before}
use Rattle.pblk_engine.proofs.Settlings.{taken_prefix}
use Rattle.pblk_model.proofs.Lists.{all_append}
use Rattle.scan_recovery.specs.DriveFaults.{is_drive_fault}

-- a sector has some bytes
some_bytes : (s : Shape) → IsAccepted s → 1 ≤ s.sector
some_bytes s is = go is.target.sector
  where
    go : (s.sector ≡ 512) ⊎ (s.sector ≡ 4096) → 1 ≤ s.sector
    go (inl few) = omega arith
    go (inr many) = omega arith

-- a sector that begins within the bytes is one of them
below_count : (k count size : ℕ) → k * size < count * size → k < count
below_count k count size less = go (cases_lt k count)
  where
    go : (k < count) ⊎ (count ≤ k) → k < count
    go (inl is) = is
    go (inr over) = let le : count * size ≤ k * size = mul-le-mul_right size over in absurd (omega arith)

-- it was known at a look, and so it is later
look_later : (past : Past) (old looked now later : Prefixes) → ArePrefixes now later → WasLook past old looked now → WasLook past old looked later
look_later past old looked now later more is = record {
  legal = is.legal;
  begun = is.begun;
  since = is.since;
  within = still_begun looked now later is.within more;
}

look_earlier : (past : Past) (early old looked now : Prefixes) → ArePrefixes early old → WasLook past old looked now → WasLook past early looked now
look_earlier past early old looked now more is = record {
  legal = is.legal;
  begun = is.begun;
  since = still_begun early old looked more is.since;
  within = is.within;
}

-- the same fetches, by what is the same
pub by_known : {B : Type 0} (past : Past) (handed : List ModelUnit) (mid new : WorkerView) (a b : Prefixes) (lba : ℕ) (look : RunLook) (Tells : B → Type 0)
    (r : Result B DriveErr) → a ≡ b → HasFetchedRun past handed mid new a lba look Tells r → HasFetchedRun past handed mid new b lba look Tells r
by_known past handed mid new a b lba look Tells r same is = subst (λ (k : Prefixes). HasFetchedRun past handed mid new k lba look Tells r) same is

-- what had been taken is taken at a later look
pub taken_at : (seen : ℕ) (early late : Prefixes) (front : Front) → front ≡ front_taken (logs_of late 0) → ArePrefixes early late
    → seen ≤ taken (logs_of early 0) → seen ≤ front.position
taken_at seen early late front is more had =
    let at : front.position ≡ taken (logs_of late 0) = ap (λ (f : Front). f.position) is in
    let rise : taken (logs_of early 0) ≤ taken (logs_of late 0) = taken_prefix (logs_of early 0) (logs_of late 0) (more.each 0) in
    omega (arith, had)

module _ (past : Past) (handed : List ModelUnit) (old mid new : WorkerView) (seen lba : ℕ) (out last : List ℕ) (look : RunLook)
    (looked : HasLooked past old mid seen lba out look) (same : length last ≡ length out) where
  first : GoesOn old mid []
  first = goes_learned old mid looked.worker looked.looked.since

  -- each sector has what it held at the look
  pub read_done : {B : Type 0} (Tells : B → Type 0) (b : B) → HasFetchedRun past handed mid new mid.known lba look Tells (Ok b)
      → AreLatest past.image (logs_of mid.known) look.size lba look.count last → HasRead past handed old new seen lba last (Ok look.front)
  read_done Tells b fetched latest = record {
    more = fetched.more;
    on = goes_then old mid new [] fetched.more first fetched.on;
    tells = (
      fetched.tells.0,
      record {
        looked = mid.known;
        look = look_later past old.known mid.known mid.known new.known fetched.on.keeps looked.looked;
        front_then = looked.run.front;
        seen_then = looked.seen_then;
        each = λ k inside.
            subst (λ n. IsLatest past.image (logs_of mid.known) (lba + k) (part_at n k last)) looked.run.size
            (latest k (below_count k look.count look.size
            (subst (λ n. k * n < look.count * look.size) (sym looked.run.size)
            (subst (λ n. k * past.image.shape.sector < n) (same ∙ looked.run.whole) inside))));
      },
    );
  }

  -- a fetch was lost
  pub read_lost : {B : Type 0} (Tells : B → Type 0) (e : DriveErr) → HasFetchedRun {A = B} past handed mid new mid.known lba look Tells (Err e)
      → HasRead past handed old new seen lba last (Err e)
  read_lost Tells e fetched =
      let some : 1 ≤ past.image.shape.sector = some_bytes past.image.shape looked.run.accepted in
      let ends : fetched.tells.k * past.image.shape.sector + past.image.shape.sector ≤ look.count * past.image.shape.sector =
      ends_before fetched.tells.k look.count past.image.shape.sector fetched.tells.below in
      let whole : length last ≡ look.count * past.image.shape.sector = same ∙ looked.run.whole ∙ ap (λ n. look.count * n) looked.run.size in
      record {
        more = fetched.more;
        on = goes_then old mid new [] fetched.more first fetched.on;
        tells = record {
          looked = mid.known;
          look = look_later past old.known mid.known mid.known new.known fetched.on.keeps looked.looked;
          k = fetched.tells.k;
          inside = omega (arith, some, ends, whole);
          line = fetched.tells.place.sought.line;
          at = fetched.tells.is.at;
          position = fetched.tells.place.sought.position;
          unit = fetched.tells.place.unit;
          block = fetched.tells.place.sought.block;
          led = fetched.tells.is.look;
          lost = fetched.tells.lost;
        };
      }

  -- what was seen is taken still
  pub seen_still : {B : Type 0} (Tells : B → Type 0) (b : B) → HasFetchedRun past handed mid new mid.known lba look Tells (Ok b)
      → seen ≤ taken (logs_of new.known 0)
  seen_still Tells b fetched =
      let front : look.front.position ≡ taken (logs_of mid.known 0) = ap (λ (f : Front). f.position) looked.run.front in
      let rise : taken (logs_of mid.known 0) ≤ taken (logs_of new.known 0) =
      taken_prefix (logs_of mid.known 0) (logs_of new.known 0) (fetched.on.keeps.each 0) in
      omega (arith, looked.seen_then, front, rise)

  -- a later read, after fetches of which none was lost
  pub read_again : {B : Type 0} (Tells : B → Type 0) (b : B) (end : WorkerView) (outs : List ℕ) (result : Result Front DriveErr)
      → HasFetchedRun past handed mid new mid.known lba look Tells (Ok b) → HasRead past handed new end seen lba outs result
      → HasRead past handed old end seen lba outs result
  read_again Tells b end outs result fetched later = record {
    more = fetched.more ++ later.more;
    on = goes_then old mid end [] (fetched.more ++ later.more) first (goes_then mid new end fetched.more later.more fetched.on later.on);
    tells = go result later.tells;
  }
    where
      learns : ArePrefixes old.known new.known
      learns = still_begun old.known mid.known new.known looked.looked.since fetched.on.keeps

      go : (r : Result Front DriveErr) → TellsRead past handed seen lba outs new.known end.known later.more r
          → TellsRead past handed seen lba outs old.known end.known (fetched.more ++ later.more) r
      go (Ok front) is = (
        all_append (λ (m : Made). is_drive_fault m.event ≡ false) fetched.more later.more fetched.tells.0 is.0,
        record {
          looked = is.1.looked;
          look = look_earlier past old.known new.known is.1.looked end.known learns is.1.look;
          front_then = is.1.front_then;
          seen_then = is.1.seen_then;
          each = is.1.each;
        },
      )
      go (Err e) is = record {
        looked = is.looked;
        look = look_earlier past old.known new.known is.looked end.known learns is.look;
        k = is.k;
        inside = is.inside;
        line = is.line;
        at = is.at;
        position = is.position;
        unit = is.unit;
        block = is.block;
        led = is.led;
        lost = lost_after handed is.unit is.line is.block fetched.more later.more e fetched.tells.0 is.lost;
      }

-- an answer that is this error
pub read_err : (past : Past) (handed : List ModelUnit) (old new : WorkerView) (seen lba : ℕ) (out : List ℕ) (r : Result Front DriveErr) (e : DriveErr)
    → IsErrAnd r (λ told. told ≡ e) → HasRead past handed old new seen lba out (Err e) → HasRead past handed old new seen lba out r
read_err past handed old new seen lba out (Ok front) e made is = absurd made
read_err past handed old new seen lba out (Err told) e made is = subst (λ (x : DriveErr). HasRead past handed old new seen lba out (Err x)) (sym made) is

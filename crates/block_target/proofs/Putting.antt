-- While a session waits for room, or for its entries.
use Rattle.std.proofs.Common.{◌≡◌, inl, inr, ℕ, ◌+◌, ◌≤◌, Ok, Err, List, [], ◌++◌, length, take, refl, sym, ap, subst, ◌∙◌, arith, append-nil, append_assoc}
use Rattle.std.specs.Prelude.{max}
use Rattle.std.proofs.Math.Seq.{take-length}
use Rattle.pblk_model.specs.Image.{Image}
use Rattle.unit_port.specs.Unit.{ModelUnit}
use Rattle.pblk_model.specs.declared.run.Front.{Front}
use Rattle.pblk_world.specs.AtRest.{IsWornWrite}
use Rattle.pblk_world.specs.Fronts.{taken}
use Rattle.chronicle.specs.Prefixes.{logs_of}
use Rattle.chronicle.proofs.Rests.{still_begun}
use Rattle.pblk_engine.specs.Pumps.{GoesOn, NoFaults}
use Rattle.pblk_engine.specs.Waits.{AsksUpTo, HasFlushed, HasRoomed, WentOn}
use Rattle.pblk_engine.specs.Workers.{Made, WorkerView}
use Rattle.pblk_engine.specs.declared.errors.SettleErr.{SettleErr}
use Rattle.pblk_engine.specs.declared.errors.SettleErr.TheVariants as errors
use Rattle.pblk_engine.specs.declared.outcomes.Did.{Did}
use Rattle.pblk_engine.specs.declared.outcomes.Flushed.TheVariants as flushed
use Rattle.pblk_engine.specs.declared.outcomes.Roomed.{Roomed}
use Rattle.pblk_engine.specs.declared.outcomes.Roomed.TheVariants as roomed
use Rattle.pblk_engine.proofs.GoingOn.{all_known}
use Rattle.pblk_engine.proofs.Settlings.{fault_then, none_of_both}
use Rattle.block_target.specs.Causes.{HasCause, TellsPut, TellsSync}

-- ---- workers that went on

pub went_none : (w : WorkerView) → WentOn w w []
went_none w = record { number = refl; keeps = all_known w.known; made = sym (append-nil w.made) }

pub went_then : (a b c : WorkerView) (xs ys : List Made) → WentOn a b xs → WentOn b c ys → WentOn a c (xs ++ ys)
went_then a b c xs ys first second = record {
  number = second.number ∙ first.number;
  keeps = still_begun a.known b.known c.known first.keeps second.keeps;
  made = second.made ∙ ap (λ ms. ms ++ ys) first.made ∙ append_assoc a.made xs ys;
}

pub went : (a b : WorkerView) (xs : List Made) → GoesOn a b xs → WentOn a b xs
went a b xs on = record { number = on.number; keeps = on.keeps; made = on.made }

-- ---- pads

pub asks_none : (position : ℕ) (w : WorkerView) → AsksUpTo position w w
asks_none position w = inl refl

pub asks_then : (position : ℕ) (a b c : WorkerView) → AsksUpTo position a b → AsksUpTo position b c → AsksUpTo position a c
asks_then position a b c (inl same) (inl still) = inl (still ∙ same)
asks_then position a b c (inl same) (inr more) = inr (more ∙ ap (λ n. max n position) same)
asks_then position a b c (inr more) (inl still) = inr (still ∙ more)
asks_then position a b c (inr more) (inr again) =
    inr (again ∙ ap (λ n. max n position) more ∙ (let e : max (max a.asked position) position ≡ max a.asked position = omega arith in e))

-- a turn that was answered Worn
pub asks_worn : (position : ℕ) (a b c : WorkerView) → AsksUpTo position a b → c.asked ≡ max b.asked position → c.asked ≡ max a.asked position
asks_worn position a b c (inl same) more = more ∙ ap (λ n. max n position) same
asks_worn position a b c (inr before) more = omega (arith, before, more)

-- ---- a wait

-- so far no command was lost, and pads may have been asked for
pub record WaitedWell (old now : WorkerView) : Type 0 where
  pub more : List Made
  pub on : WentOn old now more
  pub none : NoFaults more

pub well_begins : (w : WorkerView) → WaitedWell w w
well_begins w = record { more = []; on = went_none w; none = tt }

pub well_more : (a b c : WorkerView) (xs : List Made) → WaitedWell a b → WentOn b c xs → NoFaults xs → WaitedWell a c
well_more a b c xs was on none = record {
  more = was.more ++ xs;
  on = went_then a b c was.more xs was.on on;
  none = none_of_both was.more xs was.none none;
}

went_on : (a b c : WorkerView) (xs : List Made) → WaitedWell a b → GoesOn b c xs → NoFaults xs → WaitedWell a c
went_on a b c xs was on none = well_more a b c xs was (went b c xs on) none

-- no command was made
none_made : (xs : List Made) → xs ≡ [] → NoFaults xs
none_made xs is = subst (λ (ms : List Made). NoFaults ms) (sym is) tt

-- ---- for room

pub roomed_more : (i : Image) (handed : List ModelUnit) (wanted count : ℕ) (a b c : WorkerView) (r : Roomed) → WaitedWell a b
    → HasRoomed i handed wanted count b c (Ok r) → WaitedWell a c
roomed_more i handed wanted count a b c roomed.There was is = went_on a b c is.more was is.on (none_made is.more is.tells.0)
roomed_more i handed wanted count a b c (roomed.Pumped did) was is = went_on a b c is.more was is.on is.tells.1.0

-- once it answered Worn, where others had claimed since
pub roomed_again : (i : Image) (handed : List ModelUnit) (wanted count want have : ℕ) (a b c : WorkerView) → WaitedWell a b
    → HasRoomed i handed wanted count b c (Err (errors.Worn want have)) → WaitedWell a c
roomed_again i handed wanted count want have a b c was is = went_on a b c is.more was is.on (none_made is.more is.tells.0)

pub roomed_lost : (i : Image) (handed : List ModelUnit) (claimed count unit event : ℕ) (a b c : WorkerView) → WaitedWell a b
    → HasRoomed i handed (claimed + count) count b c (Err (errors.Drive unit event))
    → HasCause a c (λ more. TellsPut i handed count claimed c more (Err (errors.Drive unit event)))
roomed_lost i handed claimed count unit event a b c was is = record {
  more = was.more ++ is.more;
  on = went_then a b c was.more is.more was.on (went b c is.more is.on);
  tells = (fault_then handed was.more is.more (record { unit = unit; event = event }) was.none is.tells.1.0, is.tells.0);
}

-- where nobody had: what is wanted lies just behind all that was taken
pub roomed_worn : (i : Image) (handed : List ModelUnit) (claimed count wanted have : ℕ) (a b c : WorkerView) → WaitedWell a b
    → HasRoomed i handed (claimed + count) count b c (Err (errors.Worn wanted have)) → taken (logs_of c.known 0) ≤ claimed
    → HasCause a c (λ more. TellsPut i handed count claimed c more (Err (errors.Worn wanted have)))
roomed_worn i handed claimed count wanted have a b c was is most =
    let all = roomed_again i handed (claimed + count) count wanted have a b c was is in
    let worn : IsWornWrite i (logs_of c.known) (length (logs_of c.known 0)) count wanted have =
    subst (λ n. IsWornWrite i (logs_of c.known) (length (logs_of c.known 0)) count n have) (sym is.tells.1) is.tells.2 in
    let last : taken (take (length (logs_of c.known 0)) (logs_of c.known 0)) ≡ taken (logs_of c.known 0) =
    ap taken (take-length (logs_of c.known 0)) in
    let wants : wanted ≡ claimed + count = is.tells.1 in
    let least : wanted ≤ taken (take (length (logs_of c.known 0)) (logs_of c.known 0)) + count = worn.own_count in
    record {
      more = all.more;
      on = all.on;
      tells = (all.none, wants, record { worn = worn; granted = is.tells.3; own_count = omega arith });
    }

-- ---- for entries

pub flushed_more : (i : Image) (handed : List ModelUnit) (position : ℕ) (a b c : WorkerView) (did : Did) → WaitedWell a b
    → HasFlushed i handed position b c (Ok (flushed.Pumped did)) → WaitedWell a c
flushed_more i handed position a b c did was is = well_more a b c is.more was is.on is.tells.1.0

pub flushed_all : (i : Image) (handed : List ModelUnit) (position : ℕ) (a b c : WorkerView) (front : Front) → WaitedWell a b
    → HasFlushed i handed position b c (Ok (flushed.Synced front)) → HasCause a c (λ more. TellsSync i handed position c more (Ok front))
flushed_all i handed position a b c front was is =
    let all = well_more a b c is.more was is.on (none_made is.more is.tells.0) in
    record { more = all.more; on = all.on; tells = (all.none, is.tells.1, is.tells.2) }

pub flushed_err : (i : Image) (handed : List ModelUnit) (position : ℕ) (a b c : WorkerView) (e : SettleErr) → WaitedWell a b
    → HasFlushed i handed position b c (Err e) → HasCause a c (λ more. TellsSync i handed position c more (Err e))
flushed_err i handed position a b c (errors.Drive unit event) was is = record {
  more = was.more ++ is.more;
  on = went_then a b c was.more is.more was.on is.on;
  tells = (fault_then handed was.more is.more (record { unit = unit; event = event }) was.none is.tells.1.0, is.tells.0);
}
flushed_err i handed position a b c (errors.Worn wanted have) was is =
    let all = well_more a b c is.more was is.on (none_made is.more is.tells.0) in
    record { more = all.more; on = all.on; tells = (all.none, is.tells.1, is.tells.2) }

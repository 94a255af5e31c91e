-- An engine that is worked off, look by look.
use Rattle.std.proofs.Common.{◌≡◌, ◌≢◌, ℕ, ◌<◌, ◌≤◌, max, Bool, true, false, Result, Ok, Err, List, [], ◌∷◌, ◌++◌, length, take, append_assoc, append-nil, refl, sym, subst, ap, ◌∙◌, arith, le_trans}
use Rattle.std.specs.Prelude.{IsTrue}
use Rattle.std.specs.Result.{IsErr, IsErrAnd}
use mathlib.Core.List.{IsPrefix}
use base.Growing.{prefix_refl}
use Rattle.pblk_model.specs.Image.{Image}
use Rattle.pblk_model.proofs.Parts.{take-all}
use Rattle.pblk_world.specs.AtRest.{IsAtRest}
use Rattle.pblk_world.specs.Events.{Logged}
use Rattle.pblk_world.specs.Fronts.{synced, taken}
use Rattle.pblk_world.specs.World.{Logs}
use Rattle.rest_laws.proofs.LengthLogs.{taken_rises}
use Rattle.unit_port.specs.Unit.{ModelUnit}
use Rattle.write_ring.specs.declared.view.Key.{Key}
use Rattle.write_ring.specs.declared.view.Part.{Part}
use Rattle.write_ring.specs.Handles.{AreAllClaims}
use Rattle.chronicle.specs.Prefixes.{Prefixes, ArePrefixes, logs_of}
use Rattle.chronicle.proofs.PrefixLemmas.{begins_length, begins_take}
use Rattle.chronicle.proofs.Rests.{still_begun}
use Rattle.pblk_core.specs.declared.work.Why.{Why}
use Rattle.pblk_core.specs.declared.work.Why.TheVariants as whys
use Rattle.pblk_core.specs.declared.work.Work.{Work}
use Rattle.pblk_core.specs.declared.work.Work.TheVariants as works
use Rattle.pblk_engine.specs.Hearts.{HeartView}
use Rattle.pblk_engine.specs.Pumps.{GoesOn, HasPumped, IsFaultOf, NoFaults}
use Rattle.pblk_engine.specs.Settlings.{HasSettled, HasWorked, IsAllTaken, IsWorkedOff, IsWornAt, TellsSettled}
use Rattle.pblk_engine.specs.Workers.{Made, WorkerView}
use Rattle.pblk_engine.specs.declared.errors.DriveErr.{DriveErr}
use Rattle.pblk_engine.specs.declared.errors.SettleErr.{SettleErr}
use Rattle.pblk_engine.specs.declared.errors.SettleErr.TheVariants as errors
use Rattle.pblk_engine.specs.declared.outcomes.Did.{Did}
use Rattle.pblk_engine.specs.declared.outcomes.Role.TheVariants as roles

-- ---- the front taken

-- a longer log has taken no less
pub taken_prefix : (early late : List Logged) → IsPrefix early late → taken early ≤ taken late
taken_prefix [] late is = omega arith
taken_prefix (l ∷ early) late is =
    let all : List Logged = l ∷ early in
    let rise : taken (take (length all) late) ≤ taken (take (length late) late) =
    taken_rises late (length all) (length late) (omega arith) (begins_length all late is) in
    let first : take (length all) late ≡ all = begins_take all late is in
    subst (λ (log : List Logged). taken all ≤ taken log) (take-all late)
    (subst (λ (log : List Logged). taken log ≤ taken (take (length late) late)) first rise)

-- ---- at a look

-- where nothing can be done, and nothing is in flight
abbrev pub AtRests : Image → Logs → Work → ℕ → Type 0
AtRests i logs work pad = (why : Why) → work ≡ works.Nothing why → why ≢ whys.Busy → (asked : ℕ) → asked ≤ pad → IsAtRest i logs asked (length (logs 0))

pub worn_at : (i : Image) (logs : Logs) (claimed have : ℕ) → claimed ≡ taken (logs 0) → have ≡ synced i.shape (logs 0) → have < claimed
    → IsAtRest i logs claimed (length (logs 0)) → IsWornAt i logs claimed have
worn_at i logs claimed have all_taken on_drive above rest = record {
  all_taken = all_taken;
  worn = record {
    at_rest = rest;
    above = above;
    is_synced = on_drive ∙ ap (synced i.shape) (sym (take-all (logs 0)));
    all_taken = subst (λ (log : List Logged). claimed ≤ taken log) (sym (take-all (logs 0)))
        (let same : claimed ≡ taken (logs 0) = all_taken in omega arith);
  };
}

-- what a worker that asked for pads knows, made and asked for
pub asked_pads : (asks : Bool) (old new : WorkerView) (to front : ℕ) → (IsTrue asks → new ≡ record old { asked = max old.asked to })
    → (asks ≡ false → new ≡ old) → (IsTrue asks → to ≤ front)
    → (new ≡ record old { asked = new.asked }) × (old.asked ≤ new.asked) × (new.asked ≤ max old.asked front)
asked_pads true old new to front raised same low =
    let asked : new.asked ≡ max old.asked to = ap (λ (w : WorkerView). w.asked) (raised refl) in
    let most : to ≤ front = low refl in (
      raised refl ∙ ap (λ n. record old { asked = n }) (sym asked),
      omega arith,
      omega arith,
    )
asked_pads false old new to front raised same low =
    let asked : new.asked ≡ old.asked = ap (λ (w : WorkerView). w.asked) (same refl) in (
      same refl ∙ ap (λ n. record old { asked = n }) (sym asked),
      omega arith,
      omega arith,
    )

-- the worker at a look, which then knows what the heart does
pub worked_look : (old new : WorkerView) (known : Prefixes) → new ≡ record old { known = known; asked = new.asked } → ArePrefixes old.known known
    → old.asked ≤ new.asked → new.asked ≤ max old.asked (taken (logs_of known 0)) → HasWorked old new []
worked_look old new known is keeps low most = record {
  number = ap (λ (w : WorkerView). w.number) is;
  keeps = subst (ArePrefixes old.known) (sym (ap (λ (w : WorkerView). w.known) is)) keeps;
  made = ap (λ (w : WorkerView). w.made) is ∙ sym (append-nil old.made);
  asked = subst (λ (k : Prefixes). new.asked ≤ max old.asked (taken (logs_of k 0))) (sym (ap (λ (w : WorkerView). w.known) is)) most;
  asked_before = low;
}

-- by the heart as it was when the worker was told
module _ (old told new : WorkerView) (heart : HeartView) (asks : Bool) (claimed : ℕ) (told_is : told ≡ record old { known = heart.author.known })
    (keeps : ArePrefixes old.known told.known) (front : heart.intake.intake.taken ≡ taken (logs_of heart.author.known 0))
    (raised : IsTrue asks → new ≡ record told { asked = max told.asked claimed }) (still : asks ≡ false → new ≡ told)
    (low : IsTrue asks → claimed ≤ heart.intake.intake.taken) where
  asked : (new ≡ record told { asked = new.asked }) × (told.asked ≤ new.asked) × (new.asked ≤ max told.asked (taken (logs_of heart.author.known 0)))
  asked = asked_pads asks told new claimed (taken (logs_of heart.author.known 0)) raised still (λ is. subst (λ n. claimed ≤ n) front (low is))

  now : new ≡ record old { known = heart.author.known; asked = new.asked }
  now = asked.0 ∙ ap (λ (w : WorkerView). record w { asked = new.asked }) told_is

  pub look_knows : new.known ≡ heart.author.known
  look_knows = ap (λ (w : WorkerView). w.known) now

  pub look_worked : HasWorked old new []
  look_worked =
      let same_asked : told.asked ≡ old.asked = ap (λ (w : WorkerView). w.asked) told_is in
      worked_look old new heart.author.known now (subst (ArePrefixes old.known) (ap (λ (w : WorkerView). w.known) told_is) keeps)
      (subst (λ n. n ≤ new.asked) same_asked asked.1) (subst (λ n. new.asked ≤ max n (taken (logs_of heart.author.known 0))) same_asked asked.2)

-- ---- one after another

pub none_of_both : (one two : List Made) → NoFaults one → NoFaults two → NoFaults (one ++ two)
none_of_both [] two a b = b
none_of_both (m ∷ one) two a b = (a.0, none_of_both one two a.1 b)

-- a look at which nothing was done
pub worked_none : (w : WorkerView) → HasWorked w w []
worked_none w = record {
  number = refl;
  keeps = record { each = λ author. prefix_refl (logs_of w.known author) };
  made = sym (append-nil w.made);
  asked = omega arith;
  asked_before = omega arith;
}

pub worked_then : (a b c : WorkerView) (one two : List Made) → HasWorked a b one → HasWorked b c two → HasWorked a c (one ++ two)
worked_then a b c one two x y = record {
  number = y.number ∙ x.number;
  keeps = still_begun a.known b.known c.known x.keeps y.keeps;
  made = y.made ∙ ap (λ (ms : List Made). ms ++ two) x.made ∙ append_assoc a.made one two;
  asked =
      let rise : taken (logs_of b.known 0) ≤ taken (logs_of c.known 0) = taken_prefix (logs_of b.known 0) (logs_of c.known 0) (y.keeps.each 0) in
      let first : b.asked ≤ max a.asked (taken (logs_of b.known 0)) = x.asked in
      let next : c.asked ≤ max b.asked (taken (logs_of c.known 0)) = y.asked in
      omega arith;
  asked_before = le_trans x.asked_before y.asked_before;
}

-- a pump asks for no pads
pub worked_pump : (old new : WorkerView) (more : List Made) → GoesOn old new more → HasWorked old new more
worked_pump old new more is = record {
  number = is.number;
  keeps = is.keeps;
  made = is.made;
  asked = let same : new.asked ≡ old.asked = is.asked in omega arith;
  asked_before = let same : new.asked ≡ old.asked = is.asked in omega arith;
}

pub fault_then : (handed : List ModelUnit) (one two : List Made) (e : DriveErr) → NoFaults one → IsFaultOf handed two e → IsFaultOf handed (one ++ two) e
fault_then handed one two e none is = record {
  others = one ++ is.others;
  last = is.last;
  all = ap (λ (ms : List Made). one ++ ms) is.all ∙ sym (append_assoc one is.others (is.last ∷ []));
  none = none_of_both one is.others none is.none;
  lost = is.lost;
  unit = is.unit;
  number = is.number;
}

-- what is kept of looks, and of pumps that lost no command
pub record HasGoneOn (old new : WorkerView) : Type 0 where
  pub more : List Made
  pub on : HasWorked old new more
  pub none : NoFaults more

pub gone_none : (w : WorkerView) → HasGoneOn w w
gone_none w = record { more = []; on = worked_none w; none = tt }

pub gone_look : (a b c : WorkerView) → HasGoneOn a b → HasWorked b c [] → HasGoneOn a c
gone_look a b c x on = record {
  more = x.more ++ [];
  on = worked_then a b c x.more [] x.on on;
  none = none_of_both x.more [] x.none tt;
}

pub gone_pump : (i : Image) (handed : List ModelUnit) (a b c : WorkerView) (did : Did) → HasGoneOn a b → HasPumped i handed roles.All b c (Ok did)
    → HasGoneOn a c
gone_pump i handed a b c did x y = record {
  more = x.more ++ y.more;
  on = worked_then a b c x.more y.more x.on (worked_pump b c y.more y.on);
  none = none_of_both x.more y.more x.none y.tells.0;
}

module _ (i : Image) (key : Key) (handed : List ModelUnit) (pass : Part) where
  tells_then : (known : Prefixes) (one two : List Made) (result : Result (Unit {0}) SettleErr) → NoFaults one
      → TellsSettled i key handed pass known two result → TellsSettled i key handed pass known (one ++ two) result
  tells_then known one two (Ok x) none is = (none_of_both one two none is.0, is.1, is.2, is.3)
  tells_then known one two (Err (errors.Worn wanted have)) none is = (none_of_both one two none is.0, is.1, is.2, is.3)
  tells_then known one two (Err (errors.Drive unit event)) none is =
      fault_then handed one two (record { unit = unit; event = event }) none is

  -- a look that ends it
  pub settled_then : (a b c : WorkerView) (result : Result (Unit {0}) SettleErr) → HasGoneOn a b → HasWorked b c []
      → TellsSettled i key handed pass c.known [] result → HasSettled i key handed pass a c result
  settled_then a b c result x on told = record {
    more = x.more ++ [];
    on = worked_then a b c x.more [] x.on on;
    tells = tells_then c.known x.more [] result x.none told;
  }

  -- a pump that lost a command
  pub lost_then : (a b c : WorkerView) (e : DriveErr) → HasGoneOn a b → HasPumped i handed roles.All b c (Err e)
      → HasSettled i key handed pass a c (Err (errors.Drive e.unit e.event))
  lost_then a b c e x y = record {
    more = x.more ++ y.more;
    on = worked_then a b c x.more y.more x.on (worked_pump b c y.more y.on);
    tells = fault_then handed x.more y.more e x.none y.tells.0;
  }

  -- ---- a look's answers

  all_taken : (logs : Logs) (claimed : ℕ) (copies : Part) → claimed ≡ taken (logs 0) → AreAllClaims key.first claimed pass copies
      → IsAllTaken key pass (logs 0)
  all_taken logs claimed copies is claims =
      record { copies = copies; claims = subst (λ n. AreAllClaims key.first n pass copies) is claims }

  pub looked_settled : (known : Prefixes) (claimed : ℕ) (copies : Part) → AreAllClaims key.first claimed pass copies → IsWorkedOff i (logs_of known) claimed
      → TellsSettled i key handed pass known [] (Ok tt)
  looked_settled known claimed copies claims is = (tt, all_taken (logs_of known) claimed copies is.all_taken claims, is.on_drive, is.resting)

  pub looked_worn : (known : Prefixes) (claimed have : ℕ) (copies : Part) → AreAllClaims key.first claimed pass copies
      → IsWornAt i (logs_of known) claimed have → TellsSettled i key handed pass known [] (Err (errors.Worn claimed have))
  looked_worn known claimed have copies claims is = (tt, all_taken (logs_of known) claimed copies is.all_taken claims, is.all_taken, is.worn)

-- an error that is handed on by a `?`
pub lost_is : {X E : Type 0} (r : Result X E) (e : E) (P : E → Type 0) → ((w : E) → P w → w ≡ e) → IsErr r → IsErrAnd r P
    → r ≡ Err e
lost_is (Ok x) e P same is gives = absurd cc
lost_is (Err w) e P same is gives = ap Err (same w gives)

-- While a session waits until all that was seen or claimed is on the drive: a wait that was
-- answered Worn goes on up to what others have claimed meanwhile.
use Rattle.std.proofs.Common.{◌≡◌, ◌⊎◌, inl, inr, ℕ, ◌<◌, ◌≤◌, Ok, Err, List, ◌++◌, ap, ◌∙◌, arith, le_refl, le_trans}
use Rattle.std.specs.Prelude.{max, Result}
use Rattle.std.proofs.Math.Seq.{take-length}
use Rattle.pblk_model.specs.Image.{Image}
use Rattle.unit_port.specs.Unit.{ModelUnit}
use Rattle.pblk_model.specs.declared.run.Front.{Front}
use Rattle.pblk_world.specs.Events.{Logged}
use Rattle.pblk_world.specs.Fronts.{synced}
use Rattle.chronicle.specs.Prefixes.{AreLegalLogs, ArePrefixes, logs_of}
use Rattle.chronicle.proofs.Rests.{still_begun}
use Rattle.pblk_engine.specs.Waits.{AsksUpTo, WasBehind}
use Rattle.pblk_engine.specs.Workers.{Made, WorkerView}
use Rattle.pblk_engine.specs.declared.errors.SettleErr.{SettleErr}
use Rattle.pblk_engine.specs.declared.errors.SettleErr.TheVariants as errors
use Rattle.pblk_engine.proofs.GoingOn.{all_known}
use Rattle.pblk_engine.proofs.Settlings.{fault_then, none_of_both}
use Rattle.block_target.specs.Causes.{HasCause, TellsSync}
use Rattle.block_target.proofs.Putting.{WaitedWell, asks_then, went_then, well_more}

-- Pads were asked for up to an earlier position of the wait, which was answered Worn.
pub record WasWorn (i : Image) (seen low high : ℕ) (old now : WorkerView) : Type 0 where
  pub position : ℕ
  pub claimed : ℕ
  pub is : position ≡ max seen claimed
  pub from : low ≤ claimed
  pub upto : claimed ≤ high
  pub asked : now.asked ≡ max old.asked position
  pub behind : WasBehind i position now.known

-- so far no command was lost, and what was asked for is known
pub record SoFar (i : Image) (seen low high : ℕ) (old now : WorkerView) : Type 0 where
  pub well : WaitedWell old now
  pub asked : (now.asked ≡ old.asked) ⊎ WasWorn i seen low high old now

-- the answer of a wait for all that was seen or claimed
abbrev pub TellsAll : Image → List ModelUnit → ℕ → ℕ → ℕ → WorkerView → WorkerView → Result Front SettleErr → Type 0
TellsAll i handed seen low high old new r = (position : ℕ) × (claimed : ℕ) × (position ≡ max seen claimed) × (low ≤ claimed) × (claimed ≤ high)
    × HasCause old new (λ more. TellsSync i handed position new more r) × AsksUpTo position old new

pub same_error : (e d : SettleErr) → (let r : Result Front SettleErr = Err e in let s : Result Front SettleErr = Err d in r ≡ s) → e ≡ d
same_error e d is = cc

-- ---- what was behind stays so

behind_later : (i : Image) (position : ℕ) (a b : WorkerView) → ArePrefixes a.known b.known → WasBehind i position a.known → WasBehind i position b.known
behind_later i position a b keeps was = record {
  looked = was.looked;
  legal = was.legal;
  within = still_begun was.looked a.known b.known was.within keeps;
  behind = was.behind;
}

-- ---- what was asked for

asks_first : (position : ℕ) (a b c : WorkerView) → b.asked ≡ a.asked → AsksUpTo position b c → AsksUpTo position a c
asks_first position a b c same asks = asks_then position a b c (inl same) asks

asks_again : (early position : ℕ) (a b c : WorkerView) → early ≤ position → b.asked ≡ max a.asked early → c.asked ≡ max b.asked position
    → c.asked ≡ max a.asked position
asks_again early position a b c le first again = omega (arith, le, first, again)

worn_asks : (i : Image) (seen low high claimed position : ℕ) (a b c : WorkerView) → position ≡ max seen claimed → high ≤ claimed
    → (b.asked ≡ a.asked) ⊎ WasWorn i seen low high a b → c.asked ≡ max b.asked position → c.asked ≡ max a.asked position
worn_asks i seen low high claimed position a b c is le (inl same) asked = asked ∙ ap (λ n. max n position) same
worn_asks i seen low high claimed position a b c is le (inr was) asked =
    let at = was.is in
    let upto = was.upto in
    asks_again was.position position a b c (omega (arith, at, is, le, upto)) was.asked asked

module _ (i : Image) (handed : List ModelUnit) (seen low claimed position : ℕ) (a b c : WorkerView) (is : position ≡ max seen claimed)
    (from : low ≤ claimed) (was : SoFar i seen low claimed a b) where
  -- a call's cause, behind what was done before
  before : (r s : List Made → Type 0) (cause : HasCause b c r) → ((more : List Made) → r more → s (was.well.more ++ more)) → HasCause a c s
  before r s cause then = record {
    more = was.well.more ++ cause.more;
    on = went_then a b c was.well.more cause.more was.well.on cause.on;
    tells = then cause.more cause.tells;
  }

  pub all_synced : (front : Front) (high : ℕ) → claimed ≤ high → HasCause b c (λ more. TellsSync i handed position c more (Ok front))
      → AsksUpTo position b c → TellsAll i handed seen low high a c (Ok front)
  all_synced front high le cause asks = go was.asked asks
    where
      tells : (at : ℕ) → at ≤ position → HasCause a c (λ more. TellsSync i handed at c more (Ok front))
      tells at within =
          before (λ more. TellsSync i handed position c more (Ok front)) (λ more. TellsSync i handed at c more (Ok front)) cause
          (λ more t. (none_of_both was.well.more more was.well.none t.0, t.1, le_trans within t.2))

      go : (b.asked ≡ a.asked) ⊎ WasWorn i seen low claimed a b → AsksUpTo position b c → TellsAll i handed seen low high a c (Ok front)
      go (inl same) asked = (position, claimed, is, from, le, tells position (le_refl position), asks_first position a b c same asked)
      go (inr early) (inl same) =
          let at = early.is in
          let upto = early.upto in (
            early.position,
            early.claimed,
            early.is,
            early.from,
            le_trans early.upto le,
            tells early.position (omega (arith, at, is, upto)),
            inr (same ∙ early.asked),
          )
      go (inr early) (inr more) = (
        position,
        claimed,
        is,
        from,
        le,
        tells position (le_refl position),
        inr (worn_asks i seen low claimed claimed position a b c is (le_refl claimed) (inr early) more),
      )

  pub all_lost : (unit event high : ℕ) → claimed ≤ high → HasCause b c (λ more. TellsSync i handed position c more (Err (errors.Drive unit event)))
      → AsksUpTo position b c → TellsAll i handed seen low high a c (Err (errors.Drive unit event))
  all_lost unit event high le cause asks = go was.asked asks
    where
      tells : (at : ℕ) → WasBehind i at c.known → HasCause a c (λ more. TellsSync i handed at c more (Err (errors.Drive unit event)))
      tells at behind =
          before (λ more. TellsSync i handed position c more (Err (errors.Drive unit event)))
          (λ more. TellsSync i handed at c more (Err (errors.Drive unit event))) cause
          (λ more t. (fault_then handed was.well.more more (record { unit = unit; event = event }) was.well.none t.0, behind))

      now : HasCause a c (λ more. TellsSync i handed position c more (Err (errors.Drive unit event)))
      now = tells position cause.tells.1

      go : (b.asked ≡ a.asked) ⊎ WasWorn i seen low claimed a b → AsksUpTo position b c
          → TellsAll i handed seen low high a c (Err (errors.Drive unit event))
      go (inl same) asked = (position, claimed, is, from, le, now, asks_first position a b c same asked)
      go (inr early) (inl same) = (
        early.position,
        early.claimed,
        early.is,
        early.from,
        le_trans early.upto le,
        tells early.position (behind_later i early.position b c cause.on.keeps early.behind),
        inr (same ∙ early.asked),
      )
      go (inr early) (inr more) =
          (position, claimed, is, from, le, now, inr (worn_asks i seen low claimed claimed position a b c is (le_refl claimed) (inr early) more))

  module _ (wanted have : ℕ) (cause : HasCause b c (λ more. TellsSync i handed position c more (Err (errors.Worn wanted have))))
      (asked : c.asked ≡ max b.asked position) where
    asked_all : c.asked ≡ max a.asked position
    asked_all = worn_asks i seen low claimed claimed position a b c is (le_refl claimed) was.asked asked

    pub all_worn : (high : ℕ) → claimed ≤ high → TellsAll i handed seen low high a c (Err (errors.Worn wanted have))
    all_worn high le = (
      position,
      claimed,
      is,
      from,
      le,
      before (λ more. TellsSync i handed position c more (Err (errors.Worn wanted have)))
          (λ more. TellsSync i handed position c more (Err (errors.Worn wanted have))) cause
          (λ more t. (none_of_both was.well.more more was.well.none t.0, t.1, t.2)),
      inr asked_all,
    )

    -- others have claimed more
    pub worn_again : (high : ℕ) → claimed ≤ high → AreLegalLogs i c.known → SoFar i seen low high a c
    worn_again high le legal =
        let t = cause.tells in
        let same : wanted ≡ position = t.1 in
        let above : have < wanted = t.2.above in
        let its : have ≡ synced i.shape (logs_of c.known 0) =
        t.2.is_synced ∙ ap (λ (log : List Logged). synced i.shape log) (take-length (logs_of c.known 0)) in
        record {
          well = well_more a b c cause.more was.well cause.on t.0;
          asked = inr (record {
            position = position;
            claimed = claimed;
            is = is;
            from = from;
            upto = le;
            asked = asked_all;
            behind = record { looked = c.known; legal = legal; within = all_known c.known; behind = omega (arith, same, above, its) };
          });
        }

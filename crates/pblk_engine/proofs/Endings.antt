-- What an engine leaves when it ends.
use Rattle.std.proofs.Common.{◌≡◌, ◌⊎◌, inl, inr, ℕ, ◌<◌, ◌≤◌, Some, Option, List, length, sym, subst, ap, ◌∙◌, arith}
use Rattle.std.specs.Prelude.{slice_get}
use Rattle.std.specs.List.{Contains}
use mathlib.Core.List.{IsPrefix}
use Rattle.std.proofs.lemmas.Bool.{cases_lt}
use Rattle.std.proofs.lemmas.List.{length-map}
use Rattle.atomic_table.specs.Seated.{TableId}
use Rattle.pblk_model.specs.Accepted.{IsAccepted}
use Rattle.pblk_model.specs.Image.{Image, IsFit}
use Rattle.pblk_model.specs.Shape.{units}
use Rattle.pblk_model.proofs.Parts.{get_past, got_within, same_lists}
use Rattle.pblk_world.specs.AtRest.{AreResetsNoted}
use Rattle.pblk_world.specs.Events.{Logged, Maker}
use Rattle.pblk_world.specs.Fronts.{taken as taken_of}
use Rattle.pblk_world.specs.World.{World, Logs, log_of}
use Rattle.unit_port.specs.Unit.{ModelUnit}
use Rattle.write_ring.specs.declared.view.Key.{Key}
use Rattle.write_ring.specs.declared.view.Part.{Part}
use Rattle.write_ring.specs.declared.view.View.{View}
use Rattle.write_ring.specs.Handles.{AreAllClaims, IsAsPut, IsFilled, IsTiled}
use Rattle.chronicle.specs.Handles.{AuthorView}
use Rattle.chronicle.specs.Prefixes.{AreLegalLogs, ArePrefixes, AreWholeLogs, Prefixes, logs_of}
use Rattle.chronicle.specs.Views.{Past}
use Rattle.chronicle.proofs.Rests.{still_begun}
use Rattle.pblk_core.specs.declared.target_core.Core.{Core}
use Rattle.pblk_engine.specs.Arms.{ArmView, IsArm}
use Rattle.pblk_engine.specs.Endings.{HasEnded, HasEndedOf, HasJoined, HasKept, HasMadeAll, HasTakenOver}
use Rattle.pblk_engine.specs.Hearts.{HeartView, IsHeartOf, IsSettled, parts}
use Rattle.pblk_engine.specs.Mounts.{IsMounted}
use Rattle.pblk_engine.specs.Settlings.{IsWorkedOff, IsWornAt}
use Rattle.pblk_engine.specs.Workers.{WasMade, WorkerView}
use Rattle.pblk_engine.proofs.Growth.{settled_met}
use Rattle.pblk_engine.proofs.LaterRests.{off_later, worn_later}
use Rattle.pblk_engine.proofs.NotedCommands.{still_made}

-- the same levels of wear in each place
same_wear : (worn wear : List (List ℕ)) → length worn ≡ length wear
    → ((number : ℕ) (levels : List ℕ) → slice_get worn number ≡ Some levels → slice_get wear number ≡ Some levels) → worn ≡ wear
same_wear worn wear long each = same_lists worn wear (λ k. go k (cases_lt k (length worn)))
  where
    go : (k : ℕ) → (k < length worn) ⊎ (length worn ≤ k) → slice_get worn k ≡ slice_get wear k
    go k (inl within) = let got = got_within worn k within in got.1 ∙ sym (each k got.0 got.1)
    go k (inr past) = get_past worn k past ∙ sym (get_past wear k (omega arith))

-- the heart's facts by all that was known
module _ (i : Image) (known more : Prefixes) (core : Core) (intake : View) (legal : AreLegalLogs i known) (all : AreLegalLogs i more)
    (fits : IsAccepted i.shape) (fit : IsFit i) (learns : ArePrefixes known more) (own : logs_of more 0 ≡ logs_of known 0)
    (noted : AreResetsNoted (logs_of more)) where
  pub settled_in : (w : World) → log_of w ≡ logs_of more → IsSettled i (logs_of known) core intake → IsSettled i (log_of w) core intake
  settled_in w same is = subst (λ (l : Logs). IsSettled i l core intake) (sym same)
      (settled_met i known more fits fit legal all learns own noted core intake is)

module _ (chronicle table place : TableId) (past : Past) (key : Key) (handed : List ModelUnit) (wear : List (List ℕ))
    (workers : List WorkerView) (named : Option ℕ)
    (arms : List ArmView) (pass : Part) (left : List ModelUnit) (worn : List (List ℕ)) (mounted : IsMounted past key handed wear)
    (core : Core) (engine taken author : AuthorView) (intake : View)
    (held : IsHeartOf chronicle table past key place (parts core engine intake)) (over : HasTakenOver past engine workers taken)
    (joined : HasJoined chronicle past handed wear taken arms author left worn) (many : length arms ≡ units past.image.shape)
    (whole : AreWholeLogs past author.known author.makers author.spare) where
  abbrev i : Image
  i = past.image

  abbrev w : World
  w = whole.world

  same : log_of w ≡ logs_of author.known
  same = whole.logs

  settled : IsSettled i (log_of w) core intake
  settled = settled_in i engine.known author.known core intake held.legal joined.legal held.fits.accepted held.fits.fit
      (still_begun engine.known taken.known author.known over.learns joined.learns) (joined.engine_log ∙ over.engine_log) joined.noted w same held.settled

  as_many : length arms ≡ length handed
  as_many = many ∙ sym mounted.units.count

  -- each worker made what its list has
  all_made : (k : ℕ) (v : WorkerView) → slice_get workers k ≡ Some v → HasMadeAll w v
  all_made k v there = record {
    count = whole.next (record { worker = v.number; made = length v.made })
        (subst (λ (ms : List Maker). Contains ms (record { worker = v.number; made = length v.made })) (sym joined.makers) (over.makers k v there));
    each = λ j m at.
        subst (λ (l : Logs). WasMade l v.number j m) (sym same)
        (still_made taken.known author.known v.number j m joined.learns (over.each k v there j m at));
  }

  own_log : log_of w 0 ≡ logs_of engine.known 0
  own_log = ap (λ (l : Logs). l 0) same ∙ joined.engine_log ∙ over.engine_log

  learned : ArePrefixes engine.known author.known
  learned = still_begun engine.known taken.known author.known over.learns joined.learns

  same_own : logs_of author.known 0 ≡ logs_of engine.known 0
  same_own = joined.engine_log ∙ over.engine_log

  has_kept : HasKept i engine.known w
  has_kept = record {
    worked_off = λ claimed is. subst (λ (l : Logs). IsWorkedOff i l claimed) (sym same)
        (off_later i engine.known author.known held.legal learned same_own claimed is);
    worn = λ claimed have is. subst (λ (l : Logs). IsWornAt i l claimed have) (sym same)
        (worn_later i engine.known author.known held.legal learned same_own claimed have is);
  }

  has_ended : AreAllClaims key.first (taken_of (logs_of engine.known 0)) pass intake.pass → ((n : ℕ) → named ≡ Some n → taken.spare ≡ Some n)
      → IsAsPut key.first intake.intake.took pass intake.pass → IsTiled key.first pass intake.pass → IsFilled pass → IsFilled intake.pass
      → HasEnded past key handed wear workers named pass left worn
  has_ended all spare as_put tiled filled copies = record {
    world = w;
    legal = record { accepted = held.fits.accepted; fit = held.fits.fit; legal = whole.legal };
    begun = λ x. subst (λ (l : Logs). IsPrefix (logs_of past.logs x) (l x)) (sym same) (joined.begun.each x);
    count = ap (λ (us : List ModelUnit). length us) joined.gives ∙ length-map arms (λ (a : ArmView). a.unit) ∙ as_many;
    each = λ number u there.
        let was = joined.each number u there in (was.0, was.1, subst (λ (l : Logs). IsArm i l number was.0 u) (sym same) was.2);
    as_worn = same_wear worn wear (joined.as_worn ∙ as_many ∙ sym mounted.worn) joined.each_worn;
    numbered = whole.numbered;
    made = all_made;
    knew = λ k v there x. subst (λ (l : Logs). IsPrefix (logs_of v.known x) (l x)) (sym same)
        ((still_begun v.known taken.known author.known (over.knows k v there) joined.learns).each x);
    others = λ n worker is from low. whole.none n worker (joined.spare ∙ spare n is) from low;
    opening = whole.opened;
    noted = settled.heart.noted;
    in_order = settled.heart.in_order;
    reasons = settled.heart.reasons;
    none_to_free = settled.none_to_free;
    took = intake.intake.took;
    takes_are = settled.heart.took;
    copies = intake.pass;
    as_put = as_put;
    tiled = tiled;
    all_taken = subst (λ (log : List Logged). AreAllClaims key.first (taken_of log) pass intake.pass) (sym own_log) all;
    filled = filled;
    copies_filled = copies;
  }

  pub has_ended_of : (heart : HeartView) → engine ≡ heart.author → AreAllClaims key.first (taken_of (logs_of heart.author.known 0)) pass intake.pass
      → ((n : ℕ) → named ≡ Some n → taken.spare ≡ Some n) → IsAsPut key.first intake.intake.took pass intake.pass → IsTiled key.first pass intake.pass
      → IsFilled pass → IsFilled intake.pass → HasEndedOf heart past key handed wear workers named pass left worn
  unfolding has_ended
  has_ended_of heart its all spare as_put tiled filled copies = record {
    ended = has_ended (subst (λ (a : AuthorView). AreAllClaims key.first (taken_of (logs_of a.known 0)) pass intake.pass) (sym its) all) spare as_put
        tiled filled copies;
    kept = subst (λ (a : AuthorView). HasKept i a.known w) its has_kept;
    own = ap (λ (a : AuthorView). logs_of a.known 0) (sym its) ∙ sym own_log;
  }

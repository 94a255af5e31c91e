-- Which chunks are still to be reset, as the logs grow.
use Rattle.std.proofs.Common.{◌≡◌, ◌≢◌, ℕ, ◌+◌, ◌<◌, ◌≤◌, ◌&&◌, not, zero, suc, nat_eq, if◌then◌else◌, Bool, true, false, cond, Some, None, Option, List, [], ◌∷◌, ◌++◌, length, refl, sym, subst, ap, ap₂, ◌∙◌, arith}
use Rattle.std.specs.Prelude.{slice_get, ◌^◌}
use Rattle.std.specs.List.{AllByRecursion, filter_map, cons_option, flat_map, list_all, range_with_len}
use Rattle.std.specs.Option.{option_and_then, option_map_or}
use Rattle.std.proofs.lemmas.Bool.{eqb-true}
use Rattle.std.proofs.lemmas.Option.{same_Some, none-some}
use Rattle.pblk_model.specs.Chunk.{Chunk}
use Rattle.pblk_model.specs.Shape.{units}
use Rattle.pblk_model.specs.StartRecord.{StartRecord}
use Rattle.pblk_model.specs.Image.{Image}
use Rattle.pblk_world.specs.Events.{EngineEvent, Open, Decides, Logged}
use Rattle.pblk_world.specs.World.{World, Logs, log_of}
use Rattle.pblk_world.specs.EngineLog.{Answer, Begun, begun_by, begun, LineLife, AsFound, Opened, Freed, Placed, is_opened, life_of}
use Rattle.pblk_world.specs.Lines.{known_image, told_by, is_empty_state, are_empty, has_number, is_free_line, is_given_up_by, strays_of, is_given_up}
use Rattle.pblk_world.proofs.Appending.{life_more}
use Rattle.core_laws.specs.PlacerOf.{unanswered_on}
use Rattle.pblk_world.specs.LegalMounts.{IsLegalMount}
use Rattle.core_laws.specs.Stepping.{after}
use Rattle.core_laws.proofs.KeptRows.{begun_kept, known_kept}
use Rattle.core_laws.proofs.NotedAnswers.{MayNote, lives_noted, none_begun, noting}
use Rattle.pblk_core.specs.Resets.{is_used_state, is_used_in, used_units, in_line, units_to_reset, resets_of}
use Rattle.pblk_core.specs.Stands.{IsOlder, HasFitNumbers}
use Rattle.pblk_core.specs.declared.target_core.Core.{Core}
use Rattle.pblk_core.proofs.AnsweredProgram.{chunk_same}
use Rattle.pblk_meta.specs.Records.{start_numbers}
use Rattle.pblk_model.proofs.Lists.{all_of}
use Rattle.pblk_model.proofs.Maps.{filter_none, filter_same}
use Rattle.pblk_model.proofs.Tests.{both as and_true}

-- ---- lists

pub flat_same : {X : Type 0} (f g : ℕ → List X) (a n : ℕ) → ((k : ℕ) → k < a + n → f k ≡ g k)
    → flat_map f (range_with_len a n) ≡ flat_map g (range_with_len a n)
flat_same f g a zero each = refl
flat_same f g a (suc n) each = ap₂ (λ xs ys. xs ++ ys) (each a (omega arith)) (flat_same f g (a + 1) n (λ k inside. each k (omega arith)))

pub resets_same : (i : Image) (logs new : Logs) → ((line : ℕ) → line < i.shape.chunks → units_to_reset i new line ≡ units_to_reset i logs line)
    → resets_of i new ≡ resets_of i logs
resets_same i logs new each = flat_same (λ line. in_line line (units_to_reset i new line)) (λ line. in_line line (units_to_reset i logs line)) 0 i.shape.chunks
    (λ line inside. ap (in_line line) (each line (omega arith)))

-- ---- which lines were given up

pub given_up_kept : (logs : Logs) (e : EngineEvent) (knows : List ℕ) (line : ℕ) → begun_by knows (Decides e) ≡ None
    → life_of (after logs e knows 0) line ≡ life_of (logs 0) line → is_given_up (after logs e knows 0) line ≡ is_given_up (logs 0) line
given_up_kept logs e knows line none life =
    ap₂ (λ (o : Option Begun) l. is_given_up_by (option_map_or (λ (b : Begun). b.beginning.strays) o []) line l) (begun_kept (logs 0) e knows none) life

pub opened_kept : (log : List Logged) (line : ℕ) → is_opened (life_of log line) ≡ true → is_given_up log line ≡ false
opened_kept log line opened = go (life_of log line) opened
  where
    go : (life : LineLife) → is_opened life ≡ true → is_given_up_by (strays_of log) line life ≡ false
    go AsFound e = absurd cc
    go (Opened o) e = refl
    go (Freed was knows) e = absurd cc

-- an event that tells the engine nothing of a unit, and turns no line
pub resets_quiet : (i : Image) (logs : Logs) (e : EngineEvent) (knows : List ℕ) → begun_by knows (Decides e) ≡ None
    → ((unit : ℕ) → told_by logs unit (Decides e) ≡ None) → ((line : ℕ) → life_of (after logs e knows 0) line ≡ life_of (logs 0) line)
    → resets_of i (after logs e knows) ≡ resets_of i logs
resets_quiet i logs e knows none untold lives = resets_same i logs (after logs e knows)
    (λ line inside. ap₂ (λ b (j : Image). if b then used_units j line else []) (given_up_kept logs e knows line none (lives line))
    (known_kept i logs e knows none untold))

-- ---- empty lines

one_empty : (o : Option Chunk) (rest : List Chunk) → list_all (λ (c : Chunk). is_empty_state c.state) (cons_option o rest) ≡ true
    → ((c : Chunk) → o ≡ Some c → is_empty_state c.state ≡ true) × (list_all (λ (c : Chunk). is_empty_state c.state) rest ≡ true)
one_empty None rest e = ((λ c f. absurd (none-some c f)), e)
one_empty (Some d) rest e =
    let both = and_true (is_empty_state d.state) (list_all (λ (c : Chunk). is_empty_state c.state) rest) e in
    ((λ c f. ap (λ (x : Chunk). is_empty_state x.state) (sym (same_Some d c f)) ∙ both.0), both.1)

each_empty : (us : List (List Chunk)) (line unit : ℕ) (cs : List Chunk) (c : Chunk)
    → list_all (λ (c : Chunk). is_empty_state c.state) (filter_map (λ (u : List Chunk). slice_get u line) us) ≡ true
    → slice_get us unit ≡ Some cs → slice_get cs line ≡ Some c → is_empty_state c.state ≡ true
each_empty [] line unit cs c all at there = absurd (none-some cs at)
each_empty (u ∷ us) line zero cs c all at there =
    (one_empty (slice_get u line) (filter_map (λ (u : List Chunk). slice_get u line) us) all).0 c
    (ap (λ (x : List Chunk). slice_get x line) (same_Some u cs at) ∙ there)
each_empty (u ∷ us) line (suc unit) cs c all at there =
    each_empty us line unit cs c (one_empty (slice_get u line) (filter_map (λ (u : List Chunk). slice_get u line) us) all).1 at there

pub empty_unused : (j : Image) (line unit : ℕ) → are_empty j line ≡ true → is_used_in j line unit ≡ false
empty_unused j line unit all = by_unit (slice_get j.units unit) refl
  where
    by_chunk : (cs : List Chunk) → slice_get j.units unit ≡ Some cs → (o : Option Chunk) → slice_get cs line ≡ o
        → option_map_or (λ (c : Chunk). is_used_state c.state) o false ≡ false
    by_chunk cs at None e = refl
    by_chunk cs at (Some c) e = ap (λ b. not b) (each_empty j.units line unit cs c all at e)

    by_unit : (o : Option (List Chunk)) → slice_get j.units unit ≡ o
        → option_map_or (λ (c : Chunk). is_used_state c.state) (option_and_then (λ (cs : List Chunk). slice_get cs line) o) false ≡ false
    by_unit None e = refl
    by_unit (Some cs) e = by_chunk cs e (slice_get cs line) refl

pub empty_none : (j : Image) (line : ℕ) → are_empty j line ≡ true → used_units j line ≡ []
empty_none j line all = filter_none (is_used_in j line) (range_with_len 0 (units j.shape))
    (all_of (λ unit. is_used_in j line unit ≡ false) (λ unit. empty_unused j line unit all) (range_with_len 0 (units j.shape)))

-- ---- a program that was answered

module _ (i : Image) (w : World) (unit : ℕ) (a : Answer) (knows : List ℕ) (p : Placed) (b : Begun) (mount : IsLegalMount i w) (may : MayNote (log_of w) unit a)
    (waits : unanswered_on (log_of w 0) unit ≡ Some p) (begins : begun (log_of w 0) ≡ Some b) where
  pub used_beside : (line : ℕ) → line ≢ p.stripe.line
      → used_units (known_image i (after (log_of w) (noting unit a) knows)) line ≡ used_units (known_image i (log_of w)) line
  used_beside line apart =
      filter_same (is_used_in (known_image i (after (log_of w) (noting unit a) knows)) line) (is_used_in (known_image i (log_of w)) line)
      (λ u. ap (λ (o : Option Chunk). option_map_or (λ (c : Chunk). is_used_state c.state) o false)
      (chunk_same i w unit a knows p mount may waits b begins line u apart))
      (range_with_len 0 (units i.shape))

  pub resets_noted : is_opened (life_of (log_of w 0) p.stripe.line) ≡ true → resets_of i (after (log_of w) (noting unit a) knows) ≡ resets_of i (log_of w)
  resets_noted opened =
      resets_same i (log_of w) (after (log_of w) (noting unit a) knows) (λ line inside. go line (is_given_up (log_of w 0) line) refl)
    where
      same : (line : ℕ) → is_given_up (after (log_of w) (noting unit a) knows 0) line ≡ is_given_up (log_of w 0) line
      same line = given_up_kept (log_of w) (noting unit a) knows line (none_begun unit knows a) (lives_noted (log_of w) unit knows a line)

      apart : (line : ℕ) → is_given_up (log_of w 0) line ≡ true → line ≢ p.stripe.line
      apart line given e =
          let no : is_given_up (log_of w 0) p.stripe.line ≡ false = opened_kept (log_of w 0) p.stripe.line opened in
          let yes : is_given_up (log_of w 0) p.stripe.line ≡ true = ap (is_given_up (log_of w 0)) (sym e) ∙ given in
          absurd cc

      go : (line : ℕ) (c : Bool) → is_given_up (log_of w 0) line ≡ c
          → units_to_reset i (after (log_of w) (noting unit a) knows) line ≡ units_to_reset i (log_of w) line
      go line false e = ap (λ c. if c then used_units (known_image i (after (log_of w) (noting unit a) knows)) line else []) (same line ∙ e)
          ∙ sym (ap (λ c. if c then used_units (known_image i (log_of w)) line else []) e)
      go line true e =
          ap (λ c. if c then used_units (known_image i (after (log_of w) (noting unit a) knows)) line else []) (same line ∙ e)
          ∙ used_beside line (apart line e)
          ∙ sym (ap (λ c. if c then used_units (known_image i (log_of w)) line else []) e)

-- ---- a line that is opened has none

second : (a b c : Bool) → (a && b && c) ≡ true → b ≡ true
second true true c e = refl
second true false c e = absurd cc
second false b c e = absurd cc

if_empty : {X : Type 0} (b : Bool) → ◌≡◌ {A = List X} (cond b [] []) []
if_empty true = refl
if_empty false = refl

pub resets_opened : (i : Image) (logs : Logs) (line : ℕ) (start : StartRecord) (knows : List ℕ) → is_free_line i logs line ≡ true
    → resets_of i (after logs (Open line start) knows) ≡ resets_of i logs
resets_opened i logs line start knows free = resets_same i logs (after logs (Open line start) knows) (λ other inside. go other (nat_eq line other) refl)
  where
    l : Logged
    l = record { event = Decides (Open line start); knows = knows }

    known : known_image i (after logs (Open line start) knows) ≡ known_image i logs
    known = known_kept i logs (Open line start) knows refl (λ unit. refl)

    empty : are_empty (known_image i logs) line ≡ true
    empty = second (not (has_number i logs (life_of (logs 0) line) line)) (are_empty (known_image i logs) line) _ free

    go : (other : ℕ) (c : Bool) → nat_eq line other ≡ c → units_to_reset i (after logs (Open line start) knows) other ≡ units_to_reset i logs other
    go other true e =
        let same : line ≡ other = eqb-true line other e in
        let none : used_units (known_image i logs) other ≡ [] = ap (used_units (known_image i logs)) (sym same) ∙ empty_none (known_image i logs) line empty in
        ap (λ us. if is_given_up (after logs (Open line start) knows 0) other then us else []) (ap (λ (j : Image). used_units j other) known ∙ none)
        ∙ if_empty (is_given_up (after logs (Open line start) knows 0) other)
        ∙ sym (ap (λ us. if is_given_up (logs 0) other then us else []) none ∙ if_empty (is_given_up (logs 0) other))
    go other false e =
        ap₂ (λ b (j : Image). if b then used_units j other else [])
        (given_up_kept logs (Open line start) knows other refl
        (life_more (logs 0) l other ∙ ap
        (λ b. if b then Opened (record { number = length (logs 0); line = other; start = start; knows = knows }) else life_of (logs 0) other) e)) known

-- ---- the numbers of the beginning stay

pub fits_same : (old new : Core) → new.first ≡ old.first → new.start.first_seq ≡ old.start.first_seq
    → (start_numbers new.start).rows ≡ (start_numbers old.start).rows → HasFitNumbers old → HasFitNumbers new
fits_same old new first seq rows fits = record {
  first = subst (λ n. n ≤ 2 ^ 62) (sym first) fits.first;
  rows = subst (λ n. AllByRecursion (IsOlder new.start.first_seq n) (start_numbers new.start).rows) (sym first)
      (subst (λ n. AllByRecursion (IsOlder n old.first) (start_numbers new.start).rows) (sym seq)
      (subst (AllByRecursion (IsOlder old.start.first_seq old.first)) (sym rows) fits.rows));
}

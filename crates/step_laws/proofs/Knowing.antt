-- What an author who knows all logs knows, and the next step of such an author.
use Rattle.std.proofs.Common.{◌≡◌, ℕ, ◌+◌, ◌<◌, ◌≤◌, ◌⊎◌, zero, suc, Some, List, [], ◌∷◌, length, take, get_or, sym, subst, ap, ◌∙◌, arith, inl, inr}
use Rattle.std.specs.Prelude.{slice_get, slice_index}
use Rattle.std.proofs.lemmas.Bool.{cases_order}
use Rattle.std.proofs.lemmas.List.{get_or_past}
use Rattle.std.proofs.lemmas.List.FromFn.{length-map-range_with_len, get_or-map-range_with_len}
use Rattle.std.proofs.Math.Seq.{take-length}
use Rattle.pblk_model.specs.Shape.{units}
use Rattle.pblk_model.specs.Image.{Image}
use Rattle.pblk_world.specs.Events.{Event, Logged}
use Rattle.pblk_world.specs.World.{World, Logs, log_of, known, cut_logs}
use Rattle.pblk_world.specs.Legal.{IsAllowed, IsKnowledge, IsLegalStep, IsLegal}
use Rattle.step_laws.specs.Whole.{knows_all}
use Rattle.pblk_model.proofs.Numbers.{fun_same}
use Rattle.world_laws.proofs.Made.{known_within}
use Rattle.core_laws.proofs.NextWorlds.{none_beyond}

pub known_whole : (i : Image) (w : World) → IsLegal i w → (author : ℕ) → slice_index (knows_all i.shape w) author ≡ length (log_of w author)
known_whole i w legal author = go (cases_order author (units i.shape + 1))
  where
    past : units i.shape + 1 ≤ author → slice_index (knows_all i.shape w) author ≡ length (log_of w author)
    past far =
        let long : length (knows_all i.shape w) ≡ units i.shape + 1 = length-map-range_with_len (λ (a : ℕ). length (log_of w a)) 0 (units i.shape + 1) in
        get_or_past (knows_all i.shape w) author 0 (omega arith) ∙ sym (ap (λ (xs : List Logged). length xs) (none_beyond i w legal author (omega arith)))

    go : (author ≡ units i.shape + 1) ⊎ ((author < units i.shape + 1) ⊎ (units i.shape + 1 < author))
        → slice_index (knows_all i.shape w) author ≡ length (log_of w author)
    go (inl e) = past (omega arith)
    go (inr (inl below)) = get_or-map-range_with_len (λ (a : ℕ). length (log_of w a)) 0 (units i.shape + 1) author author 0 below (omega arith)
    go (inr (inr above)) = past (omega arith)

pub whole_prefixes : (i : Image) (w : World) → IsLegal i w → cut_logs (knows_all i.shape w) (log_of w) ≡ log_of w
whole_prefixes i w legal = fun_same (cut_logs (knows_all i.shape w) (log_of w)) (log_of w) (λ author.
    ap (λ n. take n (log_of w author)) (known_whole i w legal author) ∙ take-length (log_of w author))

got : {X : Type 0} (xs : List X) (k : ℕ) (x : X) → k < length xs → get_or xs k x ≡ x → slice_get xs k ≡ Some x
got [] k x inside e = absurd (omega arith)
got (y ∷ xs) zero x inside e = ap (λ z. Some z) e
got (y ∷ xs) (suc k) x inside e = got xs k x (omega arith) e

pub knowledge : (i : Image) (w : World) (author : ℕ) (e : Event) → IsLegal i w
    → IsKnowledge i (log_of w) author (record { event = e; knows = knows_all i.shape w })
knowledge i w author e legal = record {
  authors = length-map-range_with_len (λ (a : ℕ). length (log_of w a)) 0 (units i.shape + 1);
  own = known_whole i w legal author;
  within = λ other. let same : slice_index (knows_all i.shape w) other ≡ length (log_of w other) = known_whole i w legal other in omega arith;
  rising = λ earlier other has.
      let same : slice_index (knows_all i.shape w) other ≡ length (log_of w other) = known_whole i w legal other in
      let low : known earlier other ≤ length (log_of w other) = known_within i w author other earlier legal has in
      omega arith;
}

-- what may be done by the whole logs may be done next
pub next_step : (i : Image) (w : World) (author : ℕ) (e : Event) → IsLegal i w → author ≤ units i.shape → IsAllowed i author e (log_of w)
    → IsLegalStep i (log_of w) (record { author = author; logged = record { event = e; knows = knows_all i.shape w } })
next_step i w author e legal range may = record {
  author = range;
  knowledge = knowledge i w author e legal;
  allowed = subst (λ (logs : Logs). IsAllowed i author e logs) (sym (whole_prefixes i w legal)) may;
}

-- such a world has only events that are allowed by what they name
pub next_legal : (i : Image) (w : World) (author : ℕ) (e : Event) → IsLegal i w → author ≤ units i.shape → IsAllowed i author e (log_of w)
    → IsLegal i (record { author = author; logged = record { event = e; knows = knows_all i.shape w } } ∷ w)
unfolding IsLegal
next_legal i w author e legal range may = (next_step i w author e legal range may, legal)

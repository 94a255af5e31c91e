-- A legal world with one more event of the engine, which names all that stands in the logs.
use Rattle.std.proofs.Common.{◌≡◌, ◌⊎◌, inl, inr, ℕ, ◌+◌, ◌<◌, ◌≤◌, zero, suc, List, [], ◌∷◌, length, take, refl, sym, subst, ap, ◌∙◌, arith}
use Rattle.std.specs.Prelude.{map, slice_index}
use Rattle.std.specs.List.{range_with_len}
use Rattle.std.proofs.lemmas.Bool.{cases_lt}
use Rattle.std.proofs.lemmas.List.{get_or_past}
use Rattle.std.proofs.lemmas.List.FromFn.{length-map-range_with_len, get_or-map-range_with_len}
use Rattle.std.proofs.Math.Seq.{take-length}
use Rattle.pblk_model.specs.Image.{Image}
use Rattle.pblk_model.specs.Shape.{units}
use Rattle.pblk_world.specs.Events.{Decides, EngineEvent, Logged, Step}
use Rattle.pblk_world.specs.Legal.{IsAllowed, IsKnowledge, IsLegal}
use Rattle.pblk_world.specs.World.{World, Logs, cut_logs, known, log_of}
use Rattle.pblk_world.proofs.WorldLemmas.{log_elsewhere}
use Rattle.pblk_model.proofs.Numbers.{fun_same}
use Rattle.world_laws.proofs.Made.{known_within}
use Rattle.core_laws.specs.Stepping.{after}

-- the whole length of each log
abbrev pub lengths_of : Image → World → List ℕ
lengths_of i w = map (λ author. length (log_of w author)) (range_with_len 0 (units i.shape + 1))

abbrev pub next_step : Image → World → EngineEvent → Step
next_step i w e = record { author = 0; logged = record { event = Decides e; knows = lengths_of i w } }

-- there are no authors beyond the last unit
pub none_beyond : (i : Image) (w : World) → IsLegal i w → (author : ℕ) → units i.shape < author → log_of w author ≡ []
unfolding IsLegal
none_beyond i [] legal author far = refl
none_beyond i (s ∷ w) legal author far =
    let within : s.author ≤ units i.shape = legal.0.author in
    log_elsewhere s w author (λ e. absurd (omega arith)) ∙ none_beyond i w legal.1 author far

whole : (i : Image) (w : World) → IsLegal i w → (author : ℕ) → slice_index (lengths_of i w) author ≡ length (log_of w author)
whole i w legal author = go (cases_lt author (units i.shape + 1))
  where
    go : (author < units i.shape + 1) ⊎ (units i.shape + 1 ≤ author) → slice_index (lengths_of i w) author ≡ length (log_of w author)
    go (inl below) = get_or-map-range_with_len (λ (a : ℕ). length (log_of w a)) 0 (units i.shape + 1) author author 0 below (omega arith)
    go (inr far) =
        let long : length (lengths_of i w) ≡ units i.shape + 1 = length-map-range_with_len (λ (a : ℕ). length (log_of w a)) 0 (units i.shape + 1) in
        get_or_past (lengths_of i w) author 0 (omega arith) ∙ sym (ap (λ (xs : List Logged). length xs) (none_beyond i w legal author (omega arith)))

pub next_legal : (i : Image) (w : World) (e : EngineEvent) → IsLegal i w → IsAllowed i 0 (Decides e) (log_of w) → IsLegal i (next_step i w e ∷ w)
unfolding IsLegal
next_legal i w e legal may = (
  record {
    author = omega arith;
    knowledge = knowledge;
    allowed = subst (λ (logs : Logs). IsAllowed i 0 (Decides e) logs) (sym prefixes_are) may;
  },
  legal,
)
  where
    knowledge : IsKnowledge i (log_of w) 0 (record { event = Decides e; knows = lengths_of i w })
    knowledge = record {
      authors = length-map-range_with_len (λ (a : ℕ). length (log_of w a)) 0 (units i.shape + 1);
      own = whole i w legal 0;
      within = λ other. let same : slice_index (lengths_of i w) other ≡ length (log_of w other) = whole i w legal other in omega arith;
      rising = λ earlier other has.
          let same : slice_index (lengths_of i w) other ≡ length (log_of w other) = whole i w legal other in
          let low : known earlier other ≤ length (log_of w other) = known_within i w 0 other earlier legal has in
          omega arith;
    }

    prefixes_are : cut_logs (lengths_of i w) (log_of w) ≡ log_of w
    prefixes_are = fun_same (cut_logs (lengths_of i w) (log_of w)) (log_of w) (λ author.
        ap (λ n. take n (log_of w author)) (whole i w legal author) ∙ take-length (log_of w author))

pub next_logs : (i : Image) (w : World) (e : EngineEvent) → log_of (next_step i w e ∷ w) ≡ after (log_of w) e (lengths_of i w)
next_logs i w e = fun_same (log_of (next_step i w e ∷ w)) (after (log_of w) e (lengths_of i w)) each
  where
    each : (author : ℕ) → log_of (next_step i w e ∷ w) author ≡ after (log_of w) e (lengths_of i w) author
    each zero = refl
    each (suc unit) = log_elsewhere (next_step i w e) w (suc unit) (λ same. absurd (omega arith))

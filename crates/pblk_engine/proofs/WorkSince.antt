-- What the engine decided beyond what was known of its log before.
use Rattle.std.proofs.Common.{◌≡◌, inl, inr, ℕ, ◌+◌, ◌<◌, true, Some, List, [], ◌∷◌, ◌++◌, length, length-append, refl, sym, subst, ap, ◌∙◌, arith, le_refl, le_trans}
use Rattle.std.specs.Prelude.{slice_get}
use Rattle.std.proofs.lemmas.List.Elements.{filter_map-append}
use Rattle.pblk_model.specs.Image.{Image}
use Rattle.pblk_model.specs.Shape.{units}
use Rattle.pblk_model.proofs.Parts.{get_last, get_more, get_right, got_within}
use Rattle.pblk_world.specs.EngineLog.{Begun, Taken, begun, taken_by, takes}
use Rattle.pblk_world.specs.Events.{Decides, EngineEvent, Event, Logged, Take}
use Rattle.pblk_world.specs.Fronts.{first_position, taken}
use Rattle.world_laws.proofs.Positions.{first_same}
use Rattle.world_laws.proofs.Tellings.{IsFrom, source}
use Rattle.rest_laws.specs.Work.{is_work}
use Rattle.chronicle.specs.Handles.{AuthorView}
use Rattle.chronicle.specs.Prefixes.{Prefixes, AreLegalLogs, ArePrefixes, logs_of, naming, with_event}
use Rattle.chronicle.proofs.PrefixLemmas.{begins_length, own_more}
use Rattle.chronicle.proofs.Rests.{still_begun}
use Rattle.pblk_engine.specs.WorkSince.{HasDecidedSince, HasOpened, HasPlacedOn, HasWorkSince}

module _ (Is : EngineEvent → Type 0) where
  -- an event that the engine's author appends
  pub decided_now : (i : Image) (a new : AuthorView) (e : EngineEvent) → Is e → a.number ≡ 0 → AreLegalLogs i a.known
      → new ≡ record a { known = with_event a.known a.number (Decides e) } → HasDecidedSince Is a.known new.known
  decided_now i a new e is engine legal appended =
      let some : 0 < length a.known = (let many : length a.known ≡ units i.shape + 1 = legal.authors in omega arith) in
      let own : logs_of new.known 0 ≡ logs_of a.known 0 ++ naming a.known (Decides e) ∷ [] =
      ap (λ (x : AuthorView). logs_of x.known 0) appended ∙ ap (λ n. logs_of (with_event a.known n (Decides e)) 0) engine
      ∙ own_more a.known 0 (Decides e) some in
      record {
        number = length (logs_of a.known 0);
        since = le_refl (length (logs_of a.known 0));
        event = e;
        knows = (naming a.known (Decides e)).knows;
        there = ap (λ (log : List Logged). slice_get log (length (logs_of a.known 0))) own ∙ get_last (logs_of a.known 0) (naming a.known (Decides e));
        is = is;
      }

  -- who knows more knows it, too
  pub decided_still : (old new more : Prefixes) → HasDecidedSince Is old new → ArePrefixes new more → HasDecidedSince Is old more
  decided_still old new more is keeps =
      let rest = keeps.each 0 in
      record {
        number = is.number;
        since = is.since;
        event = is.event;
        knows = is.knows;
        there = ap (λ (log : List Logged). slice_get log is.number) (sym rest.1) ∙ get_more (logs_of new 0) rest.0 is.number _ is.there;
        is = is.is;
      }

  -- and it is beyond what was known earlier
  pub decided_later : (early old new : Prefixes) → ArePrefixes early old → HasDecidedSince Is old new → HasDecidedSince Is early new
  decided_later early old new keeps is = record {
    number = is.number;
    since = le_trans (begins_length (logs_of early 0) (logs_of old 0) (keeps.each 0)) is.since;
    event = is.event;
    knows = is.knows;
    there = is.there;
    is = is.is;
  }

-- the opening of a line is a piece of work
pub opened_work : (old new : Prefixes) → HasOpened old new → HasWorkSince old new
opened_work old new is = record {
  number = is.number;
  since = is.since;
  event = is.event;
  knows = is.knows;
  there = is.there;
  is = ap is_work is.is.2;
}

-- ---- stripes that are to be programmed

pub placed_still : (unit : ℕ) (old new more : Prefixes) → HasPlacedOn unit old new → ArePrefixes new more → HasPlacedOn unit old more
placed_still unit old new more (inl is) keeps = inl (decided_still (λ e. is_work e ≡ true) old new more is keeps)
placed_still unit old new more (inr is) keeps =
    inr (record { looked = is.looked; since = is.since; within = still_begun is.looked new more is.within keeps; stopped = is.stopped })

pub placed_later : (unit : ℕ) (early old new : Prefixes) → ArePrefixes early old → HasPlacedOn unit old new → HasPlacedOn unit early new
placed_later unit early old new keeps (inl is) = inl (decided_later (λ e. is_work e ≡ true) early old new keeps is)
placed_later unit early old new keeps (inr is) =
    inr (record { looked = is.looked; since = still_begun early old is.looked keeps is.since; within = is.within; stopped = is.stopped })

-- ---- entries that were taken

-- an entry is taken by a piece of work
take_work : (l : Logged) (t : Taken) → taken_by l.event ≡ Some t → (e : EngineEvent) × (l.event ≡ Decides e) × (is_work e ≡ true)
take_work l t is = go l.event refl is
  where
    go : (d : Event) → l.event ≡ d → taken_by d ≡ Some t → (e : EngineEvent) × (l.event ≡ Decides e) × (is_work e ≡ true)
    go (Decides (Take entry mark)) same is = (Take entry mark, same, refl)
    go d same is = absurd cc

-- What a log took beyond its first part was taken by an event behind that.
taken_behind : (log more : List Logged) (g : Begun) → begun log ≡ Some g → taken log < taken (log ++ more)
    → (t : Taken) × IsFrom (λ (l : Logged). taken_by l.event) more 0 t
taken_behind log more g begins rises =
    let first : first_position (log ++ more) ≡ first_position log = first_same log more g begins in
    let all : length (takes (log ++ more)) ≡ length (takes log) + length (takes more) =
    ap (λ (ts : List Taken). length ts) (filter_map-append (λ (l : Logged). taken_by l.event) log more) ∙ length-append (takes log) (takes more) in
    let t = got_within (takes more) 0 (omega (arith, rises, first, all)) in
    (t.0, source (λ (l : Logged). taken_by l.event) more 0 t.0 t.1)

-- where more was taken, the engine's log has a piece of work more
pub taken_work : (old new : Prefixes) (g : Begun) → begun (logs_of old 0) ≡ Some g → ArePrefixes old new
    → taken (logs_of old 0) < taken (logs_of new 0) → HasWorkSince old new
taken_work old new g begins keeps rises =
    let rest = keeps.each 0 in
    let t = taken_behind (logs_of old 0) rest.0 g begins (subst (λ (log : List Logged). taken (logs_of old 0) < taken log) (sym rest.1) rises) in
    let it = take_work t.1.from t.0 t.1.gives in
    record {
      number = length (logs_of old 0) + t.1.at;
      since = omega arith;
      event = it.0;
      knows = t.1.from.knows;
      there = ap (λ (log : List Logged). slice_get log (length (logs_of old 0) + t.1.at)) (sym rest.1)
          ∙ get_right (logs_of old 0) rest.0 t.1.at ∙ t.1.there ∙ ap (λ (e : Event). Some (record { event = e; knows = t.1.from.knows })) it.1;
      is = it.2;
    }

-- What is known is a legal world, and stays one with an event more.
use Rattle.std.proofs.Common.{◌≡◌, ◌≢◌, ◌⊎◌, ⊎_elim, ℕ, suc, ◌+◌, ◌<◌, ◌≤◌, None, Some, Option, List, [], ◌∷◌, length, map, take, refl, sym, ap, ◌∙◌, subst, arith, length-set}
use Rattle.std.proofs.lemmas.List.{ext_get_or, length-map}
use Rattle.std.proofs.lemmas.List.FromFn.{get_or-map-range_with_len, length-map-range_with_len}
use Rattle.std.specs.Prelude.{slice_get}
use Rattle.std.specs.List.{Contains, range_with_len}
use Rattle.std.proofs.lemmas.Bool.{cases_eq}
use mathlib.Core.List.{IsPrefix}
use base.Growing.{prefix_refl}
use Rattle.pblk_model.proofs.Lists.{among_contained}
use Rattle.pblk_model.proofs.Numbers.{fun_same}
use Rattle.pblk_model.proofs.Parts.{get_below, is_in}
use Rattle.pblk_model.specs.Image.{Image}
use Rattle.pblk_model.specs.Shape.{units}
use Rattle.pblk_model.specs.UnitLog.{UnitEvent}
use Rattle.pblk_world.specs.Events.{Maker, Event, Does, Logged, Step}
use Rattle.pblk_world.specs.Makers.{HasMakers, opening_worker}
use Rattle.pblk_world.specs.World.{World, Logs, log_of, known, prefixes}
use Rattle.pblk_world.specs.Legal.{IsAllowed, IsLegal, IsLegalStep}
use Rattle.pblk_world.proofs.Growing.{at_end}
use Rattle.pblk_world.proofs.WorldLemmas.{log_here, log_elsewhere}
use Rattle.world_laws.specs.KnownCut.{cut}
use Rattle.world_laws.proofs.KnownCut.{cut_is_legal, log_of_cut}
use Rattle.world_laws.proofs.Made.{known_within}
use Rattle.chronicle.specs.Views.{Part, Past}
use Rattle.chronicle.specs.Prefixes.{Prefixes, logs_of, AreLegalLogs, AreOpeningLogs, AreWholeLogs, NoOpeningAfter, naming, with_event}
use Rattle.chronicle.specs.Rule.{HasRights, IsPart, IsWhole, Owners}
use Rattle.chronicle.proofs.PrefixLemmas.{begins_length, begins_take, named_length}
use Rattle.chronicle.proofs.Rights.{no_rights}
use Rattle.chronicle.proofs.Parts.{lengths, next_step, whole}

-- the logs of a legal world, as a seat knows them that owns some of them
pub whole_part : (start : Past) (logs : Prefixes) (k : AreLegalLogs start.image logs) (owner : Owners) (seat : ℕ) (owned : List ℕ) (makers : List Maker)
    (spare : Option ℕ) → ((author : ℕ) → Contains owned author → owner.log author ≡ seat) → HasRights k.world owner seat makers spare
    → IsPart start k.world owner seat (record { past = start; owned = owned; known = logs; makers = makers; spare = spare })
whole_part start logs k owner seat owned makers spare owns rights = record {
  begins = λ author. subst (λ xs. IsPrefix (logs_of logs author) xs) (sym (at author)) (prefix_refl (logs_of logs author));
  closed = λ author other number l below there. subst (λ xs. known l other ≤ length xs) (at other)
      (known_within start.image k.world author other l k.legal (is_in (log_of k.world author) number l there));
  owns = λ author has. (owns author has, sym (at author));
  past = λ _. refl;
  authors = λ _. k.authors;
  rights = rights;
}
  where
    at : (author : ℕ) → log_of k.world author ≡ logs_of logs author
    at author = ap (λ (l : Logs). l author) k.logs

-- of an empty list nothing is a part but itself
nothing_more : (xs : List Logged) → IsPrefix xs [] → xs ≡ []
nothing_more [] h = refl
nothing_more (x ∷ xs) h = absurd (let long = begins_length (x ∷ xs) [] h in omega arith)

le_or : (a b : ℕ) → (a ≤ b) ⊎ (b < a)
le_or a b = grind arith

-- logs as a mount begins
unfoldable pub opening_legal : (i : Image) (logs : Prefixes) → AreOpeningLogs i logs → AreLegalLogs i logs
opening_legal i logs k = record { authors = k.authors; world = k.world; legal = k.legal; logs = k.logs }

-- no event comes after these logs
pub all_open : (early : Prefixes) (w : World) → log_of w ≡ logs_of early → NoOpeningAfter early (log_of w)
all_open early w is = record {
  each = λ unit number l e m there _ _. get_below (logs_of early (suc unit)) number l
      (ap (λ (logs : Logs). slice_get (logs (suc unit)) number) (sym is) ∙ there);
}

-- nor an event more, if it is no command of the opening
pub none_opened : (early : Prefixes) (w : World) (step : Step)
    → ((e : UnitEvent) (m : Maker) → step.logged.event ≡ Does e m → m.worker < opening_worker)
    → NoOpeningAfter early (log_of w) → NoOpeningAfter early (log_of (step ∷ w))
none_opened early w step small h = record {
  each = λ unit number l e m there is from. ⊎_elim
      (λ (own : step.author ≡ suc unit). ⊎_elim
      (λ (was : slice_get (log_of w (suc unit)) number ≡ Some l). h.each unit number l e m was is from)
      (λ (new : (number ≡ length (log_of w (suc unit))) × (step.logged ≡ l)).
      absurd (let low = small e m (ap (λ (x : Logged). x.event) new.1 ∙ is) in omega arith))
      (at_end (log_of w (suc unit)) step.logged l number (ap (λ xs. slice_get xs number) (sym (log_here step w (suc unit) own)) ∙ there)))
      (λ (apart : step.author ≢ suc unit).
      h.each unit number l e m (ap (λ xs. slice_get xs number) (sym (log_elsewhere step w (suc unit) apart)) ∙ there) is from)
      (cases_eq step.author (suc unit));
}

-- there are no authors but these
no_author : (i : Image) (w : World) (author : ℕ) → units i.shape < author → IsLegal i w → log_of w author ≡ []
unfolding IsLegal
no_author i [] author past legal = refl
no_author i (step ∷ w) author past legal =
    log_elsewhere step w author (λ is. let low = legal.0.author in absurd (omega arith)) ∙ no_author i w author past legal.1

module _ (start : Past) (w : World) (owner : Owners) (seat : ℕ) (p : Part) (h : IsPart start w owner seat p) (some : 0 < length p.known) where
  pub known_legal : IsLegal start.image w → AreLegalLogs p.past.image p.known
  known_legal legal = subst (λ (i : Image). AreLegalLogs i p.known) (ap (λ (s : Past). s.image) (sym (h.past some))) (record {
    authors = h.authors some;
    world = cut (lengths p.known) w;
    legal = cut_is_legal start.image w (lengths p.known) legal h.closed;
    logs = fun_same (log_of (cut (lengths p.known) w)) (logs_of p.known)
        (λ author. log_of_cut w (lengths p.known) author ∙ begins_take (logs_of p.known author) (log_of w author) (h.begins author));
  })

  -- a seat that owns all logs knows the world whole
  pub known_whole : IsLegal start.image w → HasMakers w → NoOpeningAfter start.logs (log_of w) → IsWhole p
  known_whole legal numbered opened all = subst (λ (s : Past). AreWholeLogs s p.known p.makers p.spare) (sym past) (record {
    world = w;
    legal = legal;
    logs = fun_same (log_of w) (logs_of p.known) each;
    numbered = numbered;
    next = λ m has. (h.rights.each m has).2;
    none = λ n worker is low small. (h.rights.unnamed n worker is low small).1;
    opened = opened;
  })
    where
      past : p.past ≡ start
      past = h.past some

      each : (author : ℕ) → log_of w author ≡ logs_of p.known author
      each author = ⊎_elim
          (λ (low : author ≤ units start.image.shape).
          sym (h.owns author (all author (subst (λ (s : Past). author ≤ units s.image.shape) (sym past) low))).1)
          (λ (high : units start.image.shape < author).
          let none : log_of w author ≡ [] = no_author start.image w author high legal in
          none ∙ sym (nothing_more (logs_of p.known author) (subst (λ xs. IsPrefix (logs_of p.known author) xs) none (h.begins author))))
          (le_or author (units start.image.shape))

  -- what an event names that its author appends is all that the author knows
  named : (e : Event) → prefixes (naming p.known e) (log_of w) ≡ logs_of p.known
  named e = fun_same (prefixes (naming p.known e) (log_of w)) (logs_of p.known)
      (λ author. ap (λ n. take n (log_of w author)) (named_length p.known e author) ∙ begins_take (logs_of p.known author) (log_of w author) (h.begins author))

  pub step_legal : (author : ℕ) (e : Event) (has : Contains p.owned author) (within : author < length p.known)
      → IsAllowed start.image author e (logs_of p.known) → IsLegalStep start.image (log_of w) (next_step p.known author e)
  step_legal author e has within allowed = record {
    author = let all = h.authors some in omega arith;
    knowledge = record {
      authors = length-map p.known length ∙ h.authors some;
      own = named_length p.known e author ∙ ap length (h.owns author has).1;
      within = λ other. subst (λ n. n ≤ length (log_of w other)) (sym (named_length p.known e other))
          (begins_length (logs_of p.known other) (log_of w other) (h.begins other));
      rising = λ earlier other there.
          let at = among_contained (log_of w author) earlier there in
          let inside : at.0 < lengths p.known author =
          subst (λ xs. at.0 < length xs) (sym (h.owns author has).1) (get_below (log_of w author) at.0 earlier at.1) in
          subst (λ n. known earlier other ≤ n) (sym (named_length p.known e other)) (h.closed author other at.0 earlier inside at.1);
    };
    allowed = subst (λ (logs : Logs). IsAllowed start.image author e logs) (sym (named e)) allowed;
  }

-- the author's own view as the whole world
pub more_legal : (i : Image) (logs : Prefixes) (author : ℕ) (e : Event) → author < length logs → IsAllowed i author e (logs_of logs)
    → AreLegalLogs i logs → AreLegalLogs i (with_event logs author e)
unfolding IsLegal
more_legal i logs author e within allowed k = record {
  authors = length-set logs author _ ∙ k.authors;
  world = next_step logs author e ∷ k.world;
  legal = (step_legal start k.world alone 0 own part (omega arith) author e has within allowed, k.legal);
  logs = fun_same (log_of (next_step logs author e ∷ k.world)) (logs_of (with_event logs author e))
      (λ other. sym (whole start k.world alone 0 own author e has within part other (ap (λ (l : Logs). l other) (sym k.logs))));
}
  where
    start : Past
    start = record { image = i; logs = logs }

    own : Part
    own = record { past = start; owned = author ∷ []; known = logs; makers = []; spare = None }

    alone : Owners
    alone = record { log = λ _. 0; worker = λ _. 0; named = 0 }

    part : IsPart start k.world alone 0 own
    part = whole_part start logs k alone 0 (author ∷ []) [] None (λ _ _. refl) (no_rights k.world alone 0)

    has : Contains (author ∷ []) author
    has = (0, omega arith, refl)

-- ---- what follows of what is known

pub known_closed : (i : Image) (logs : Prefixes) (author other : ℕ) (l : Logged) → AreLegalLogs i logs → Contains (logs_of logs author) l
    → known l other ≤ length (logs_of logs other)
known_closed i logs author other l k there =
    subst (λ (ls : Logs). known l other ≤ length (ls other)) k.logs
    (known_within i k.world author other l k.legal (subst (λ (ls : Logs). Contains (ls author) l) (sym k.logs) there))

pub names_whole : (i : Image) (logs : Prefixes) (e : Event) (k : AreLegalLogs i logs)
    → (naming logs e).knows ≡ map (λ author. length (log_of k.world author)) (range_with_len 0 (units i.shape + 1))
names_whole i logs e k =
    let each : ℕ → ℕ = λ author. length (log_of k.world author) in
    ext_get_or 0 (map length logs) (map each (range_with_len 0 (units i.shape + 1)))
    (length-map logs length ∙ k.authors ∙ sym (length-map-range_with_len each 0 (units i.shape + 1)))
    (λ author below. named_length logs e author ∙ ap (λ (ls : Logs). length (ls author)) (sym k.logs)
    ∙ sym (get_or-map-range_with_len each 0 (units i.shape + 1) author author 0 (omega (arith, length-map logs length, k.authors)) (omega arith)))

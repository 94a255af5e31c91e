-- Which commands a worker lost in a world, by its list of the commands that it made.
use Rattle.std.proofs.Common.{◌≡◌, ◌⊎◌, ⊎_elim, ℕ, ◌+◌, ◌-◌, ◌<◌, ◌==◌, ◌&&◌, suc, Bool, true, false, true≢false, cond, Some, List, [], ◌∷◌, ◌++◌, length, refl, sym, subst, ap, ◌∙◌, arith, append-nil}
use Rattle.std.specs.Prelude.{map, slice_get}
use Rattle.std.specs.List.{filter}
use Rattle.std.proofs.lemmas.Bool.{cases_eq, eqb-true}
use Rattle.std.proofs.lemmas.Option.{none-some, slice_get_within}
use Rattle.std.proofs.lemmas.List.{map-append}
use Rattle.pblk_model.specs.Image.{Image}
use Rattle.pblk_model.specs.UnitLog.{UnitEvent}
use Rattle.pblk_model.proofs.Maps.{filter_both}
use Rattle.pblk_model.proofs.Parts.{get_first, get_last, get_more}
use Rattle.pblk_model.proofs.Tests.{same_number}
use Rattle.pblk_world.specs.Events.{Decides, Does, EngineEvent, Event, Logged, Maker, Step}
use Rattle.pblk_world.specs.Legal.{IsAllowed, IsLegal}
use Rattle.pblk_world.specs.Makers.{HasMakers, IsNumbered, commands_of, is_made_by}
use Rattle.pblk_world.specs.World.{World, log_of, prefixes, unit_events}
use Rattle.pblk_world.proofs.WorldLemmas.{log_elsewhere, log_here}
use Rattle.scan_recovery.specs.DriveFaults.{drive_faults_of, is_drive_fault, is_drive_fault_of, place_in}
use Rattle.pblk_engine.specs.Workers.{Made, WasMade}
use Rattle.pblk_engine.proofs.WorkersLists.{StandsNewly, number_below, stands}
use Rattle.pblk_engine.proofs.EventNumbers.{events_count}
use Rattle.pblk_world.proofs.RisingMakers.{others_count, own_count}
use Rattle.block_target.specs.Closes.{lost_places}

-- ---- lists

pub record IsSplit {X : Type 0} (xs : List X) (n : ℕ) : Type 0 where
  pub front : List X
  pub last : X
  pub whole : xs ≡ front ++ last ∷ []
  pub count : length front ≡ n

pub split_last : {X : Type 0} (xs : List X) (n : ℕ) → length xs ≡ n + 1 → IsSplit xs n
split_last [] n long = absurd (omega arith)
split_last (x ∷ []) n long = record { front = []; last = x; whole = refl; count = omega arith }
split_last (x ∷ y ∷ xs) n long =
    let rest : IsSplit (y ∷ xs) (n - 1) = split_last (y ∷ xs) (n - 1) (omega arith) in
    record {
      front = x ∷ rest.front;
      last = rest.last;
      whole = ap (λ zs. x ∷ zs) rest.whole;
      count = let c : length rest.front ≡ n - 1 = rest.count in omega arith;
    }

lost_both : (a b : List Made) → lost_places (a ++ b) ≡ lost_places a ++ lost_places b
lost_both a b =
    ap (map (λ (m : Made). (m.unit, m.number))) (filter_both (λ (m : Made). is_drive_fault m.event) a b)
    ∙ map-append (λ (m : Made). (m.unit, m.number)) (filter (λ (m : Made). is_drive_fault m.event) a) (filter (λ (m : Made). is_drive_fault m.event) b)

-- ---- a step more

abbrev AreMade : World → ℕ → List Made → Type 0
AreMade w worker made = (k : ℕ) (m : Made) → slice_get made k ≡ Some m → WasMade (log_of w) worker k m

-- the event is a command, or it isn't of this maker
abbrev maker_in : Event → Maker → Maker
maker_in (Decides e) none = none
maker_in (Does e maker) none = maker

abbrev event_in : Event → UnitEvent → UnitEvent
event_in (Decides e) none = none
event_in (Does e maker) none = e

does_made : (e : EngineEvent) (f : UnitEvent) (m : Maker) (b : Bool) → Decides e ≡ Does f m → b ≡ false
does_made e f m b same = absurd cc

-- a step of another leaves what the worker made
made_before : (worker : ℕ) (s : Step) (w : World) (made : List Made) → is_made_by worker s.logged.event ≡ false → AreMade (s ∷ w) worker made
    → AreMade w worker made
made_before worker s w made other all k m there = go (all k m there)
  where
    go : WasMade (log_of (s ∷ w)) worker k m → WasMade (log_of w) worker k m
    go was = ⊎_elim
        (λ (old : slice_get (log_of w (suc m.unit)) m.number ≡ Some was.logged).
        record { logged = was.logged; there = old; event = was.event })
        (λ (new : StandsNewly s w (suc m.unit) m.number was.logged).
        let own : is_made_by worker s.logged.event ≡ true =
        ap (is_made_by worker) (ap (λ (l : Logged). l.event) new.2 ∙ was.event) ∙ same_number worker in
        absurd (true≢false (sym own ∙ other)))
        (stands s w (suc m.unit) m.number was.logged was.there)

-- ---- the list of a worker

lost_kept : (worker : ℕ) (s : Step) (w : World) → is_drive_fault_of worker s.logged.event ≡ false
    → drive_faults_of worker (s ∷ w) ≡ drive_faults_of worker w
lost_kept worker s w kept = ap (λ b. cond b (drive_faults_of worker w ++ place_in w s ∷ []) (drive_faults_of worker w)) kept

-- it isn't of this worker
other_lost : (worker : ℕ) (e : Event) → is_made_by worker e ≡ false → is_drive_fault_of worker e ≡ false
other_lost worker (Decides e) other = refl
other_lost worker (Does e maker) other = ap (λ b. b && is_drive_fault e) other

-- the step's own command, where it was lost
lost_one : (worker : ℕ) (s : Step) (w : World) (e : UnitEvent) (maker : Maker) → s.logged.event ≡ Does e maker → maker.worker ≡ worker
    → (m : Made) → s.author ≡ suc m.unit → m.number ≡ length (unit_events (log_of w) m.unit) → e ≡ m.event
    → drive_faults_of worker (s ∷ w) ≡ drive_faults_of worker w ++ lost_places (m ∷ [])
lost_one worker s w e maker is its m of index same = go (is_drive_fault m.event) refl
  where
    lost_is : is_drive_fault_of worker s.logged.event ≡ is_drive_fault m.event
    lost_is = ap (is_drive_fault_of worker) is
        ∙ ap (λ b. b && is_drive_fault e) (ap (λ n. n == worker) its ∙ same_number worker) ∙ ap is_drive_fault same

    place : place_in w s ≡ (m.unit, m.number)
    place =
        let one : suc m.unit - 1 ≡ m.unit = omega arith in
        ap (λ a. (a - 1, length (unit_events (log_of w) (a - 1)))) of ∙ ap (λ u. (u, length (unit_events (log_of w) u))) one
        ∙ ap (λ n. (m.unit, n)) (sym index)

    go : (b : Bool) → is_drive_fault m.event ≡ b → drive_faults_of worker (s ∷ w) ≡ drive_faults_of worker w ++ lost_places (m ∷ [])
    go true lost =
        ap (λ b. cond b (drive_faults_of worker w ++ place_in w s ∷ []) (drive_faults_of worker w)) (lost_is ∙ lost)
        ∙ ap (λ p. drive_faults_of worker w ++ p ∷ []) place
        ∙ sym (ap (λ b. drive_faults_of worker w ++ map (λ (x : Made). (x.unit, x.number)) (cond b (m ∷ []) [])) lost)
    go false kept =
        ap (λ b. cond b (drive_faults_of worker w ++ place_in w s ∷ []) (drive_faults_of worker w)) (lost_is ∙ kept)
        ∙ sym (append-nil (drive_faults_of worker w))
        ∙ sym (ap (λ b. drive_faults_of worker w ++ map (λ (x : Made). (x.unit, x.number)) (cond b (m ∷ []) [])) kept)

-- the step of a command that it made
module _ (worker : ℕ) (s : Step) (w : World) (e : UnitEvent) (maker : Maker) (is : s.logged.event ≡ Does e maker) (its : maker.worker ≡ worker)
    (numbered : maker.made ≡ commands_of worker w) (has : HasMakers w) where
  -- an earlier one stood there before
  earlier : (k : ℕ) (m : Made) → k < commands_of worker w → WasMade (log_of (s ∷ w)) worker k m → WasMade (log_of w) worker k m
  earlier k m low was = ⊎_elim
      (λ (old : slice_get (log_of w (suc m.unit)) m.number ≡ Some was.logged). record { logged = was.logged; there = old; event = was.event })
      (λ (new : StandsNewly s w (suc m.unit) m.number was.logged).
      let same : maker ≡ record { worker = worker; made = k } =
      ap (λ (x : Event). maker_in x maker) (sym is ∙ ap (λ (l : Logged). l.event) new.2 ∙ was.event) in
      let number : maker.made ≡ k = ap (λ (x : Maker). x.made) same in
      absurd (omega arith))
      (stands s w (suc m.unit) m.number was.logged was.there)

  -- this one is the step's
  abbrev IsHere : Made → Type 0
  IsHere m = (s.author ≡ suc m.unit) × (m.number ≡ length (log_of w (suc m.unit))) × (e ≡ m.event)

  here : (m : Made) → WasMade (log_of (s ∷ w)) worker (commands_of worker w) m → IsHere m
  here m was = ⊎_elim
      (λ (old : slice_get (log_of w (suc m.unit)) m.number ≡ Some was.logged).
      let below : commands_of worker w < commands_of worker w =
      number_below w (suc m.unit) m.number was.logged m.event (record { worker = worker; made = commands_of worker w }) has old was.event in
      absurd (omega arith))
      (λ (new : StandsNewly s w (suc m.unit) m.number was.logged).
      (new.0, new.1, ap (λ (x : Event). event_in x e) (sym is ∙ ap (λ (l : Logged). l.event) new.2 ∙ was.event)))
      (stands s w (suc m.unit) m.number was.logged was.there)

module _ (i : Image) (s : Step) (w : World) (worker : ℕ) (made : List Made) (legal : IsLegal i w) (has : HasMakers w)
    (numbered : IsNumbered s.logged.event w) (long : length made ≡ commands_of worker (s ∷ w)) (all : AreMade (s ∷ w) worker made)
    (rest : (front : List Made) → length front ≡ commands_of worker w → AreMade w worker front → drive_faults_of worker w ≡ lost_places front) where
  lost_now : (e : UnitEvent) (maker : Maker) → s.logged.event ≡ Does e maker → maker.worker ≡ worker → drive_faults_of worker (s ∷ w) ≡ lost_places made
  lost_now e maker is its =
      lost_one worker s w e maker is its m at.0 index at.2
      ∙ ap (λ ps. ps ++ lost_places (m ∷ [])) (rest parts.front parts.count front_made)
      ∙ sym (ap lost_places parts.whole ∙ lost_both parts.front (m ∷ []))
    where
      own : is_made_by worker s.logged.event ≡ true
      own = ap (is_made_by worker) is ∙ ap (λ n. n == worker) its ∙ same_number worker

      parts : IsSplit made (commands_of worker w)
      parts = split_last made (commands_of worker w) (long ∙ own_count worker s w own)

      m : Made
      m = parts.last

      its_number : maker.made ≡ commands_of worker w
      its_number = subst (λ (x : Event). IsNumbered x w) is numbered ∙ ap (λ n. commands_of n w) its

      at : IsHere worker s w e maker is its its_number has m
      at = here worker s w e maker is its its_number has m
          (all (commands_of worker w) m (ap (λ ms. slice_get ms (commands_of worker w)) parts.whole
          ∙ ap (slice_get (parts.front ++ m ∷ [])) (sym parts.count) ∙ get_last parts.front m))

      front_made : AreMade w worker parts.front
      front_made k x there =
          let low : k < length parts.front = slice_get_within parts.front k x there in
          let count : length parts.front ≡ commands_of worker w = parts.count in
          earlier worker s w e maker is its its_number has k x (omega arith)
          (all k x (ap (λ ms. slice_get ms k) parts.whole ∙ get_first parts.front (m ∷ []) k low ∙ there))

      index : m.number ≡ length (unit_events (log_of w) m.unit)
      index = at.1 ∙ sym (events_count i w m.unit legal)

  by_event : (e : Event) → s.logged.event ≡ e → is_made_by worker e ≡ true → drive_faults_of worker (s ∷ w) ≡ lost_places made
  by_event (Decides d) is made_it = absurd cc
  by_event (Does e maker) is made_it = lost_now e maker is (eqb-true maker.worker worker made_it)

  lost_step : (b : Bool) → is_made_by worker s.logged.event ≡ b → drive_faults_of worker (s ∷ w) ≡ lost_places made
  lost_step false other =
      lost_kept worker s w (other_lost worker s.logged.event other)
      ∙ rest made (long ∙ others_count worker s w other) (made_before worker s w made other all)
  lost_step true own = by_event s.logged.event refl own

-- of a worker that made just these they are those of the list
pub lost_are : (i : Image) (w : World) (worker : ℕ) (made : List Made) → IsLegal i w → HasMakers w → length made ≡ commands_of worker w
    → AreMade w worker made → drive_faults_of worker w ≡ lost_places made
unfolding IsLegal HasMakers
lost_are i [] worker [] legal has long all = refl
lost_are i [] worker (m ∷ made) legal has long all = absurd (omega arith)
lost_are i (s ∷ w) worker made legal has long all =
    lost_step i s w worker made legal.1 has.1 has.0 long all (λ front count each. lost_are i w worker front legal.1 has.1 count each)
    (is_made_by worker s.logged.event) refl

-- Of a worker that lost none of the commands that stand in the world's logs there are none.
pub none_lost_by : (w : World) (worker : ℕ) → ((author number : ℕ) (l : Logged) (e : UnitEvent) (maker : Maker)
    → slice_get (log_of w author) number ≡ Some l → l.event ≡ Does e maker → maker.worker ≡ worker → is_drive_fault e ≡ false)
    → drive_faults_of worker w ≡ []
none_lost_by [] worker none = refl
none_lost_by (s ∷ w) worker none =
    lost_kept worker s w (by s.logged.event refl)
    ∙ none_lost_by w worker (λ author number l e maker there is its. none author number l e maker (stays s w author number l there) is its)
  where
    stays : (s : Step) (w : World) (author n : ℕ) (l : Logged) → slice_get (log_of w author) n ≡ Some l → slice_get (log_of (s ∷ w) author) n ≡ Some l
    stays s w author n l there = ⊎_elim
        (λ (own : s.author ≡ author). ap (λ log. slice_get log n) (log_here s w author own) ∙ get_more (log_of w author) (s.logged ∷ []) n l there)
        (λ other. ap (λ log. slice_get log n) (log_elsewhere s w author other) ∙ there)
        (cases_eq s.author author)

    here : slice_get (log_of (s ∷ w) s.author) (length (log_of w s.author)) ≡ Some s.logged
    here = ap (λ log. slice_get log (length (log_of w s.author))) (log_here s w s.author refl) ∙ get_last (log_of w s.author) s.logged

    by : (e : Event) → s.logged.event ≡ e → is_drive_fault_of worker e ≡ false
    by (Decides d) is = refl
    by (Does e maker) is = go (maker.worker == worker) refl
      where
        go : (b : Bool) → (maker.worker == worker) ≡ b → (b && is_drive_fault e) ≡ false
        go true own = none s.author (length (log_of w s.author)) s.logged e maker here is (eqb-true maker.worker worker own)
        go false other = refl

-- the engine gives no command
pub engine_decides : (i : Image) (w : World) (number : ℕ) (l : Logged) (e : UnitEvent) (maker : Maker) → IsLegal i w
    → slice_get (log_of w 0) number ≡ Some l → l.event ≡ Does e maker → ⊥
unfolding IsLegal
engine_decides i [] number l e maker legal there is = absurd (none-some l there)
engine_decides i (s ∷ w) number l e maker legal there is = ⊎_elim
    (λ (old : slice_get (log_of w 0) number ≡ Some l). engine_decides i w number l e maker legal.1 old is)
    (λ (new : StandsNewly s w 0 number l).
    subst (λ a. IsAllowed i a (Does e maker) (prefixes s.logged (log_of w))) new.0
    (subst (λ (x : Event). IsAllowed i s.author x (prefixes s.logged (log_of w))) (ap (λ (x : Logged). x.event) new.2 ∙ is) legal.0.allowed))
    (stands s w 0 number l there)

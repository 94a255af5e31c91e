-- What became of a line: it is opened while it isn't, and freed while it stands. A life has the
-- number of its opening.
use Rattle.std.proofs.Common.{◌≡◌, ◌⊎◌, inl, inr, ℕ, ◌+◌, ◌<◌, ◌≤◌, ◌==◌, Bool, true, false, Some, Option, List, [], ◌∷◌, ◌++◌, length, take, refl, sym, subst, ap, ◌∙◌, arith, append-nil, append_assoc, length-append, if◌then◌else◌}
use Rattle.std.specs.Prelude.{slice_get}
use Rattle.std.specs.List.{AllByRecursion, Contains}
use Rattle.std.specs.Option.{option_to_list}
use Rattle.std.proofs.lemmas.List.{take-append-le}
use Rattle.std.proofs.lemmas.Option.{none-some, same_Some, slice_get_within}
use Rattle.pblk_model.specs.Image.{Image}
use Rattle.pblk_model.specs.StartRecord.{StartRecord}
use Rattle.pblk_world.specs.Events.{Open, Free, Event, Decides, Logged}
use Rattle.pblk_world.specs.World.{World, Logs, log_of}
use Rattle.pblk_world.specs.EngineLog.{Opening, opened_by, openings, LineLife, Opened, Freed, last_opening, turned_by, life_of, is_opened}
use Rattle.pblk_world.specs.Legal.{IsLegal, IsAllowed}
use Rattle.pblk_world.proofs.Appending.{life_more, openings_more}
use Rattle.pblk_world.proofs.Growing.{at_end}
use Rattle.pblk_world.proofs.EngineLogLemmas.{opened_same}
use Rattle.pblk_world.proofs.LinesLemmas.{free_unopened}
use Rattle.pblk_model.proofs.Lists.{all_append, all_imply, among_contained, contains_none}
use Rattle.pblk_model.proofs.Parts.{contained_among, get_last, get_more, take_front}
use Rattle.pblk_model.proofs.Tests.{not_both, same, same_number}
use Rattle.world_laws.proofs.Engine.{logged_as, of_engine}

-- by what comes last in a log
pub by_last : {X : Type 0} (P : List X → Type 0) → P [] → ((xs : List X) (x : X) → P xs → P (xs ++ x ∷ [])) → (xs : List X) → P xs
by_last {X} P none step xs = go [] xs none
  where
    go : (xs ys : List X) → P xs → P (xs ++ ys)
    go xs [] h = subst P (sym (append-nil xs)) h
    go xs (y ∷ ys) h = subst P (append_assoc xs (y ∷ []) ys) (go (xs ++ y ∷ []) ys (step xs y h))

-- ---- events of the engine that turn no line

-- what an event says of a line
pub data Turns (line number : ℕ) (knows : List ℕ) (e : Event) : Type 0 where
  IsOpen : (start : StartRecord) → e ≡ Decides (Open line start) → Turns line number knows e
  IsFree : e ≡ Decides (Free line) → Turns line number knows e
  IsNeither : ((life : LineLife) → turned_by line life number knows e ≡ life) → Turns line number knows e

pub turns : (line number : ℕ) (knows : List ℕ) (e : Event) → Turns line number knows e
turns line number knows (Decides (Open other start)) = go (other == line) refl
  where
    go : (b : Bool) → (other == line) ≡ b → Turns line number knows (Decides (Open other start))
    go true is = IsOpen start (ap (λ n. Decides (Open n start)) (same other line is))
    go false is = IsNeither (λ life. ap (λ b. if b then Opened (record { number = number; line = line; start = start; knows = knows }) else life) is)
turns line number knows (Decides (Free other)) = go (other == line) refl
  where
    go : (b : Bool) → (other == line) ≡ b → Turns line number knows (Decides (Free other))
    go true is = IsFree (ap (λ n. Decides (Free n)) (same other line is))
    go false is = IsNeither (λ life. ap (λ b. if b then Freed (last_opening life) knows else life) is)
turns line number knows e = IsNeither (λ life. refl)

abbrev pub opening_by : ℕ → ℕ → StartRecord → List ℕ → Opening
opening_by number line start knows = record { number = number; line = line; start = start; knows = knows }

turned_open : (line number : ℕ) (knows : List ℕ) (e : Event) (start : StartRecord) (life : LineLife) → e ≡ Decides (Open line start)
    → turned_by line life number knows e ≡ Opened (opening_by number line start knows)
turned_open line number knows e start life is =
    ap (turned_by line life number knows) is ∙ ap (λ b. if b then Opened (opening_by number line start knows) else life) (same_number line)

turned_free : (line number : ℕ) (knows : List ℕ) (e : Event) (life : LineLife) → e ≡ Decides (Free line)
    → turned_by line life number knows e ≡ Freed (last_opening life) knows
turned_free line number knows e life is =
    ap (turned_by line life number knows) is ∙ ap (λ b. if b then Freed (last_opening life) knows else life) (same_number line)

pub life_opened : (log : List Logged) (l : Logged) (line : ℕ) (start : StartRecord) → l.event ≡ Decides (Open line start)
    → life_of (log ++ l ∷ []) line ≡ Opened (opening_by (length log) line start l.knows)
life_opened log l line start is = life_more log l line ∙ turned_open line (length log) l.knows l.event start (life_of log line) is

pub life_freed : (log : List Logged) (l : Logged) (line : ℕ) → l.event ≡ Decides (Free line)
    → life_of (log ++ l ∷ []) line ≡ Freed (last_opening (life_of log line)) l.knows
life_freed log l line is = life_more log l line ∙ turned_free line (length log) l.knows l.event (life_of log line) is

pub life_stays : (log : List Logged) (l : Logged) (line : ℕ) → ((life : LineLife) → turned_by line life (length log) l.knows l.event ≡ life)
    → life_of (log ++ l ∷ []) line ≡ life_of log line
life_stays log l line none = life_more log l line ∙ none (life_of log line)

-- ---- openings

pub openings_joined : (log more : List Logged)
    → (os : List Opening) × (openings (log ++ more) ≡ openings log ++ os) × AllByRecursion (λ (o : Opening). length log ≤ o.number) os
openings_joined log [] = ([], ap openings (append-nil log) ∙ sym (append-nil (openings log)), tt)
openings_joined log (l ∷ more) =
    let rest = openings_joined (log ++ l ∷ []) more in
    let new : List Opening = option_to_list (opened_by (length log) l.knows l.event) in
    let long : length (log ++ l ∷ []) ≡ length log + 1 = length-append log (l ∷ []) in (
      new ++ rest.0,
      ap openings (sym (append_assoc log (l ∷ []) more)) ∙ rest.1 ∙ ap (λ (os : List Opening). os ++ rest.0) (openings_more log l)
          ∙ append_assoc (openings log) new rest.0,
      all_append (λ (o : Opening). length log ≤ o.number) new rest.0 (numbered (length log) l.knows l.event)
          (all_imply (λ (o : Opening). length (log ++ l ∷ []) ≤ o.number) (λ (o : Opening). length log ≤ o.number) (λ o is. omega arith) rest.0 rest.2),
    )
  where
    numbered : (n : ℕ) (knows : List ℕ) (e : Event) → AllByRecursion (λ (o : Opening). n ≤ o.number) (option_to_list (opened_by n knows e))
    numbered n knows (Decides (Open line start)) = (omega arith, tt)
    numbered n knows e = tt

pub opening_later : (log more : List Logged) (o : Opening) → Contains (openings log) o → Contains (openings (log ++ more)) o
opening_later log more o there =
    let joined = openings_joined log more in
    let at = among_contained (openings log) o there in
    contained_among (openings (log ++ more)) o (at.0, ap (λ (os : List Opening). slice_get os at.0) joined.1 ∙ get_more (openings log) joined.0 at.0 o at.1)

opening_new : (log : List Logged) (l : Logged) (line : ℕ) (start : StartRecord) → l.event ≡ Decides (Open line start)
    → openings (log ++ l ∷ []) ≡ openings log ++ opening_by (length log) line start l.knows ∷ []
opening_new log l line start is = openings_more log l ∙ ap (λ e. openings log ++ option_to_list (opened_by (length log) l.knows e)) is

-- ---- the opening of a life is one of the log, and of its line

IsKnownLife : List Logged → ℕ → Type 0
IsKnownLife log line = (o : Opening) → last_opening (life_of log line) ≡ Some o → Contains (openings log) o × (o.line ≡ line)

known_lives : (line : ℕ) (log : List Logged) (l : Logged) → IsKnownLife log line → IsKnownLife (log ++ l ∷ []) line
unfolding IsKnownLife
known_lives line log l h o is = go (turns line (length log) l.knows l.event)
  where
    go : Turns line (length log) l.knows l.event → Contains (openings (log ++ l ∷ [])) o × (o.line ≡ line)
    go (IsOpen start e) =
        let it : opening_by (length log) line start l.knows ≡ o =
        same_Some (opening_by (length log) line start l.knows) o (sym (ap last_opening (life_opened log l line start e)) ∙ is) in (
          contained_among (openings (log ++ l ∷ [])) o (
            length (openings log),
            ap (λ (os : List Opening). slice_get os (length (openings log))) (opening_new log l line start e)
                ∙ get_last (openings log) (opening_by (length log) line start l.knows) ∙ ap (λ x. Some x) it,
          ),
          ap (λ (x : Opening). x.line) (sym it),
        )
    go (IsFree e) =
        let was = h o (sym (ap last_opening (life_freed log l line e)) ∙ is) in (opening_later log (l ∷ []) o was.0, was.1)
    go (IsNeither none) =
        let was = h o (ap last_opening (sym (life_stays log l line none)) ∙ is) in (opening_later log (l ∷ []) o was.0, was.1)

pub life_is_known : (log : List Logged) (line : ℕ) (o : Opening) → last_opening (life_of log line) ≡ Some o → Contains (openings log) o × (o.line ≡ line)
unfolding IsKnownLife
life_is_known log line o is =
    by_last (λ log. IsKnownLife log line) (λ o is. absurd (none-some o is)) (λ log l h. known_lives line log l h) log o is

-- ---- a line that is opened wasn't freed since

IsFreedBefore : List Logged → ℕ → Type 0
IsFreedBefore log line = (o : Opening) (k : ℕ) (l : Logged) → life_of log line ≡ Opened o → slice_get log k ≡ Some l
    → l.event ≡ Decides (Free line) → k < o.number

freed_no_more : (o : Opening) (was : Option Opening) (knows : List ℕ) (life : LineLife) → life ≡ Freed was knows → life ≡ Opened o → ⊥
freed_no_more o was knows life a b = not_both (is_opened life) (ap is_opened b) (ap is_opened a)

not_free : (line : ℕ) (start : StartRecord) (e : Event) → e ≡ Decides (Open line start) → e ≡ Decides (Free line) → ⊥
not_free line start e a b = cc

freed_before : (line : ℕ) (log : List Logged) (m : Logged) → IsFreedBefore log line → IsFreedBefore (log ++ m ∷ []) line
unfolding IsFreedBefore
freed_before line log m h o k l is there free = go (turns line (length log) m.knows m.event) (at_end log m l k there)
  where
    go : Turns line (length log) m.knows m.event → (slice_get log k ≡ Some l) ⊎ ((k ≡ length log) × (m ≡ l)) → k < o.number
    go (IsOpen start e) (inl old) =
        let it : opening_by (length log) line start m.knows ≡ o = opened_same _ o (sym (life_opened log m line start e) ∙ is) in
        let number : length log ≡ o.number = ap (λ (x : Opening). x.number) it in
        let within : k < length log = slice_get_within log k l old in
        omega arith
    go (IsOpen start e) (inr new) = absurd (not_free line start l.event (ap (λ (x : Logged). x.event) (sym new.1) ∙ e) free)
    go (IsFree e) at =
        absurd (freed_no_more o (last_opening (life_of log line)) m.knows (life_of (log ++ m ∷ []) line) (life_freed log m line e) is)
    go (IsNeither none) (inl old) = h o k l (sym (life_stays log m line none) ∙ is) old free
    go (IsNeither none) (inr new) =
        let event : m.event ≡ Decides (Free line) = ap (λ (x : Logged). x.event) new.1 ∙ free in
        absurd (freed_no_more o (last_opening (life_of log line)) m.knows (life_of (log ++ m ∷ []) line) (life_freed log m line event) is)

pub freed_before_opened : (log : List Logged) (line : ℕ) (o : Opening) (k : ℕ) (l : Logged) → life_of log line ≡ Opened o → slice_get log k ≡ Some l
    → l.event ≡ Decides (Free line) → k < o.number
unfolding IsFreedBefore
freed_before_opened log line o k l is there free =
    by_last (λ log. IsFreedBefore log line) (λ o k l is there free. absurd (none-some l there)) (λ log l h. freed_before line log l h) log o k l is there free

-- ---- an opening's life goes on until its line is freed

-- the line was freed in the life of this opening
pub record IsFreedLife (log : List Logged) (o : Opening) : Type 0 where
  pub number : ℕ
  pub logged : Logged
  pub there : slice_get log number ≡ Some logged
  pub frees : logged.event ≡ Decides (Free o.line)
  pub was : life_of (take number log) o.line ≡ Opened o

freed_life_later : (log : List Logged) (l : Logged) (o : Opening) → IsFreedLife log o → IsFreedLife (log ++ l ∷ []) o
freed_life_later log l o h = let within : h.number < length log = slice_get_within log h.number h.logged h.there in record {
  number = h.number;
  logged = h.logged;
  there = get_more log (l ∷ []) h.number h.logged h.there;
  frees = h.frees;
  was = ap (λ (xs : List Logged). life_of xs o.line) (take-append-le h.number log (l ∷ []) (omega arith)) ∙ h.was;
}

AreStanding : List Logged → Type 0
AreStanding log = (o : Opening) → Contains (openings log) o → (life_of log o.line ≡ Opened o) ⊎ IsFreedLife log o

-- an event that opens no line that is opened
abbrev IsOpenOfClosed : List Logged → Event → Type 0
IsOpenOfClosed log e = (line : ℕ) (start : StartRecord) → e ≡ Decides (Open line start) → is_opened (life_of log line) ≡ false

pub opens_closed : (i : Image) (logs : Logs) (e : Event) → IsAllowed i 0 e logs → IsOpenOfClosed (logs 0) e
opens_closed i logs e may line start is =
    let allowed : IsAllowed i 0 (Decides (Open line start)) logs = subst (λ f. IsAllowed i 0 f logs) is may in
    free_unopened i logs line allowed.2.is_free

-- an opening of the longer log is one of before, or the new one
abbrev IsNewOpening : List Logged → Logged → Opening → Type 0
IsNewOpening log l o = (l.event ≡ Decides (Open o.line o.start)) × (opening_by (length log) o.line o.start l.knows ≡ o)

last_opened : (log : List Logged) (l : Logged) (o : Opening) (line : ℕ) (start : StartRecord) (k : ℕ) → l.event ≡ Decides (Open line start)
    → (slice_get (openings log) k ≡ Some o) ⊎ ((k ≡ length (openings log)) × (opening_by (length log) line start l.knows ≡ o))
    → Contains (openings log) o ⊎ IsNewOpening log l o
last_opened log l o line start k is (inl old) = inl (contained_among (openings log) o (k, old))
last_opened log l o line start k is (inr new) = inr (
  is ∙ ap (λ (x : Opening). Decides (Open x.line x.start)) new.1,
  ap (λ (x : Opening). opening_by (length log) x.line x.start l.knows) (sym new.1) ∙ new.1,
)

opening_split : (log : List Logged) (l : Logged) (o : Opening) → Contains (openings (log ++ l ∷ [])) o → Contains (openings log) o ⊎ IsNewOpening log l o
opening_split log l o there = go l.event refl
  where
    go : (e : Event) → l.event ≡ e → Contains (openings log) o ⊎ IsNewOpening log l o
    go (Decides (Open line start)) is =
        let at = among_contained (openings (log ++ l ∷ [])) o there in
        let new : Opening = opening_by (length log) line start l.knows in
        last_opened log l o line start at.0 is
        (at_end (openings log) new o at.0 (ap (λ (os : List Opening). slice_get os at.0) (sym (opening_new log l line start is)) ∙ at.1))
    go e is = inl (subst (λ (os : List Opening). Contains os o)
        (openings_more log l ∙ ap (λ f. openings log ++ option_to_list (opened_by (length log) l.knows f)) is ∙ append-nil (openings log)) there)

old_stands : (log : List Logged) (l : Logged) (o : Opening) → IsOpenOfClosed log l.event → (life_of log o.line ≡ Opened o) ⊎ IsFreedLife log o
    → (life_of (log ++ l ∷ []) o.line ≡ Opened o) ⊎ IsFreedLife (log ++ l ∷ []) o
old_stands log l o closed (inr freed) = inr (freed_life_later log l o freed)
old_stands log l o closed (inl stands) = go (turns o.line (length log) l.knows l.event)
  where
    go : Turns o.line (length log) l.knows l.event → (life_of (log ++ l ∷ []) o.line ≡ Opened o) ⊎ IsFreedLife (log ++ l ∷ []) o
    go (IsOpen start e) = absurd (not_both (is_opened (life_of log o.line)) (ap is_opened stands) (closed o.line start e))
    go (IsFree e) = inr (record {
      number = length log;
      logged = l;
      there = get_last log l;
      frees = e;
      was = ap (λ (xs : List Logged). life_of xs o.line) (take_front log (l ∷ []) (length log) refl) ∙ stands;
    })
    go (IsNeither none) = inl (life_stays log l o.line none ∙ stands)

standing_more : (log : List Logged) (l : Logged) → IsOpenOfClosed log l.event → AreStanding log → AreStanding (log ++ l ∷ [])
unfolding AreStanding
standing_more log l closed h o there = go (opening_split log l o there)
  where
    go : Contains (openings log) o ⊎ IsNewOpening log l o → (life_of (log ++ l ∷ []) o.line ≡ Opened o) ⊎ IsFreedLife (log ++ l ∷ []) o
    go (inl old) = old_stands log l o closed (h o old)
    go (inr new) = inl (life_opened log l o.line o.start new.0 ∙ ap (λ x. Opened x) new.1)

none_stands : AreStanding []
unfolding AreStanding
none_stands o there = absurd (contains_none o there)

-- each opening's line stands in that life, or was freed in it
pub standing_or_freed : (i : Image) (w : World) (o : Opening) → IsLegal i w → Contains (openings (log_of w 0)) o
    → (life_of (log_of w 0) o.line ≡ Opened o) ⊎ IsFreedLife (log_of w 0) o
unfolding AreStanding
standing_or_freed i w o legal there =
    of_engine i AreStanding none_stands (λ logs e knows may h. standing_more (logs 0) (logged_as e knows) (opens_closed i logs e may) h) w legal o there

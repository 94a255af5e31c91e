-- The life of a line: it is opened by an event that found it empty, and stays opened until it is
-- freed.
use Rattle.std.proofs.Common.{◌≡◌, ℕ, ◌+◌, ◌<◌, ◌≤◌, ◌⊎◌, inl, inr, suc, zero, nat_eq, Bool, true, false, Some, List, length, take, refl, sym, subst, ap, ◌∙◌, arith, if◌then◌else◌}
use Rattle.std.specs.Prelude.{slice_get}
use Rattle.std.proofs.lemmas.Bool.{cases_lt, eqb-true}
use Rattle.std.proofs.lemmas.List.{length-take-le}
use Rattle.pblk_model.specs.StartRecord.{StartRecord}
use Rattle.pblk_model.specs.Image.{Image}
use Rattle.pblk_world.specs.Events.{Event, EngineEvent, Decides, Open, Free, Place, Logged}
use Rattle.pblk_world.specs.World.{World, log_of, prefixes}
use Rattle.pblk_world.specs.EngineLog.{Begun, Opening, Opened, Freed, last_opening, life_of, turned_by, is_opened, Placed, placed_on}
use Rattle.pblk_world.specs.Opening.{MayOpen}
use Rattle.pblk_world.specs.Placing.{MayPlace}
use Rattle.pblk_world.specs.Legal.{IsAllowed, IsLegal}
use Rattle.pblk_world.proofs.Appending.{life_more}
use Rattle.pblk_world.proofs.LinesLemmas.{free_unopened}
use Rattle.pblk_model.proofs.Parts.{get_below, got_within, take_next}
use Rattle.world_laws.proofs.NamedPrefixes.{IsByPrefixes, was_made}
use Rattle.world_laws.proofs.Placements.{IsPlacing, placing_on}

pub life_next : (log : List Logged) (n line : ℕ) (l : Logged) → slice_get log n ≡ Some l
    → life_of (take (suc n) log) line ≡ turned_by line (life_of (take n log) line) n l.knows l.event
life_next log n line l there =
    let inside : n < length log = get_below log n l there in
    ap (λ (xs : List Logged). life_of xs line) (take_next log n l there) ∙ life_more (take n log) l line
    ∙ ap (λ k. turned_by line (life_of (take n log) line) k l.knows l.event) (length-take-le n log (omega arith))

-- ---- what the engine might do

module _ (i : Image) (w : World) (legal : IsLegal i w) where
  abbrev log : List Logged
  log = log_of w 0

  -- an event of the engine, by what it knew
  pub record IsDecided (number : ℕ) (e : EngineEvent) (l : Logged) : Type 0 where
    pub there : slice_get (log_of w 0) number ≡ Some l
    pub event : l.event ≡ Decides e
    pub own : prefixes l (log_of w) 0 ≡ take number (log_of w 0)
    pub made : IsByPrefixes i w 0 number l
    pub allowed : IsAllowed i 0 (Decides e) (prefixes l (log_of w))

  pub decided : (number : ℕ) (e : EngineEvent) (l : Logged) → slice_get (log_of w 0) number ≡ Some l → l.event ≡ Decides e → IsDecided number e l
  decided number e l there is =
      let m : IsByPrefixes i w 0 number l = was_made i w 0 number l legal there in
      record {
        there = there;
        event = is;
        own = ap (λ k. take k (log_of w 0)) m.own;
        made = m;
        allowed = subst (λ x. IsAllowed i 0 x (prefixes l (log_of w))) is m.allowed;
      }

  pub may_open : (number line : ℕ) (start : StartRecord) (l : Logged) → IsDecided number (Open line start) l → (b : Begun)
      × MayOpen i (prefixes l (log_of w)) b line start
  may_open number line start l d = (d.allowed.0, d.allowed.2)

  pub unopened : (number line : ℕ) (start : StartRecord) (l : Logged) → slice_get (log_of w 0) number ≡ Some l → l.event ≡ Decides (Open line start)
      → is_opened (life_of (take number (log_of w 0)) line) ≡ false
  unopened number line start l there is =
      let d : IsDecided number (Open line start) l = decided number (Open line start) l there is in
      ap (λ (xs : List Logged). is_opened (life_of xs line)) (sym d.own)
      ∙ free_unopened i (prefixes l (log_of w)) line (may_open number line start l d).1.is_free

  -- ---- opened

  -- the line is so from the event on that opened it
  pub record IsOpenSince (line n : ℕ) (o : Opening) : Type 0 where
    pub before : o.number < n
    pub logged : Logged
    pub there : slice_get (log_of w 0) o.number ≡ Some logged
    pub event : logged.event ≡ Decides (Open line o.start)
    pub knows : logged.knows ≡ o.knows
    pub since : (k : ℕ) → o.number < k → k ≤ n → life_of (take k (log_of w 0)) line ≡ Opened o

  later : (n line : ℕ) (o : Opening) → life_of (take (suc n) (log_of w 0)) line ≡ Opened o → IsOpenSince line n o → IsOpenSince line (suc n) o
  later n line o now h = record {
    before = let below : o.number < n = h.before in omega arith;
    logged = h.logged;
    there = h.there;
    event = h.event;
    knows = h.knows;
    since = λ k low high. by k low (cases_lt k (suc n)) high;
  }
    where
      by : (k : ℕ) → o.number < k → (k < suc n) ⊎ (suc n ≤ k) → k ≤ suc n → life_of (take k (log_of w 0)) line ≡ Opened o
      by k low (inl below) high = h.since k low (omega arith)
      by k low (inr above) high = let last : suc n ≡ k = omega arith in ap (λ m. life_of (take m (log_of w 0)) line) (sym last) ∙ now

  since_one : (n line : ℕ) (o : Opening) (l : Logged) (e : Event) → slice_get (log_of w 0) n ≡ Some l → l.event ≡ e
      → life_of (take (suc n) (log_of w 0)) line ≡ Opened o → turned_by line (life_of (take n (log_of w 0)) line) n l.knows e ≡ Opened o
      → (life_of (take n (log_of w 0)) line ≡ Opened o → IsOpenSince line n o) → IsOpenSince line (suc n) o
  since_one n line o l (Decides (Open other start)) there is now was before = by (nat_eq other line) refl was
    where
      by : (b : Bool) → nat_eq other line ≡ b → (if b then Opened (record {
        number = n;
        line = line;
        start = start;
        knows = l.knows;
      }) else life_of (take n (log_of w 0)) line) ≡ Opened o → IsOpenSince line (suc n) o
      by true same turned =
          let made : Opening = record { number = n; line = line; start = start; knows = l.knows } in
          let new : Opened made ≡ Opened o = turned in
          let one : made ≡ o = cc in
          let number : n ≡ o.number = ap (λ (x : Opening). x.number) one in
          record {
            before = omega arith;
            logged = l;
            there = ap (slice_get (log_of w 0)) (sym number) ∙ there;
            event = is ∙ ap (λ m. Decides (Open m start)) (eqb-true other line same) ∙ ap (λ (x : Opening). Decides (Open line x.start)) one;
            knows = ap (λ (x : Opening). x.knows) one;
            since = λ k low high. let last : suc n ≡ k = omega arith in ap (λ m. life_of (take m (log_of w 0)) line) (sym last) ∙ now;
          }
      by false apart turned = later n line o now (before turned)
  since_one n line o l (Decides (Free other)) there is now was before = by (nat_eq other line) refl was
    where
      by : (b : Bool) → nat_eq other line ≡ b → (if b then Freed (last_opening (life_of (take n (log_of w 0)) line)) l.knows else life_of
          (take n (log_of w 0)) line) ≡ Opened o → IsOpenSince line (suc n) o
      by true same turned = absurd cc
      by false apart turned = later n line o now (before turned)
  since_one n line o l e there is now was before = later n line o now (before was)

  pub open_since : (n line : ℕ) (o : Opening) → n ≤ length (log_of w 0) → life_of (take n (log_of w 0)) line ≡ Opened o → IsOpenSince line n o
  open_since zero line o inside is = absurd cc
  open_since (suc n) line o inside is =
      let at = got_within (log_of w 0) n (omega arith) in
      since_one n line o at.0 at.0.event at.1 refl is (sym (life_next (log_of w 0) n line at.0 at.1) ∙ is) (open_since n line o (omega arith))

  -- ---- freed

  pub record IsFreedAt (line : ℕ) (o : Opening) (from to : ℕ) : Type 0 where
    pub number : ℕ
    pub first : from ≤ number
    pub before : number < to
    pub logged : Logged
    pub decided : IsDecided number (Free line) logged
    pub was : life_of (take number (log_of w 0)) line ≡ Opened o

  freed_later : (line from to : ℕ) (o : Opening) → IsFreedAt line o from to → IsFreedAt line o from (suc to)
  freed_later line from to o h = record {
    number = h.number;
    first = h.first;
    before = (let below : h.number < to = h.before in omega arith);
    logged = h.logged;
    decided = h.decided;
    was = h.was;
  }

  abbrev IsOpenOrFreed : ℕ → Opening → ℕ → ℕ → Type 0
  IsOpenOrFreed line o from n = (life_of (take n (log_of w 0)) line ≡ Opened o) ⊎ IsFreedAt line o from n

  stays_by : (line from n : ℕ) (o : Opening) (l : Logged) (e : Event) → slice_get (log_of w 0) n ≡ Some l → l.event ≡ e → from ≤ n
      → life_of (take n (log_of w 0)) line ≡ Opened o
      → life_of (take (suc n) (log_of w 0)) line ≡ turned_by line (life_of (take n (log_of w 0)) line) n l.knows e → IsOpenOrFreed line o from (suc n)
  stays_by line from n o l (Decides (Open other start)) there is low was turned = by (nat_eq other line) refl turned
    where
      by : (b : Bool) → nat_eq other line ≡ b
          → life_of (take (suc n) (log_of w 0)) line ≡ (if b then Opened (record {
            number = n;
            line = line;
            start = start;
            knows = l.knows;
          }) else life_of (take n (log_of w 0)) line)
          → IsOpenOrFreed line o from (suc n)
      by true same t =
          absurd (both (ap is_opened was) (unopened n line start l there (is ∙ ap (λ m. Decides (Open m start)) (eqb-true other line same))))
        where
          both : is_opened (life_of (take n (log_of w 0)) line) ≡ true → is_opened (life_of (take n (log_of w 0)) line) ≡ false → ⊥
          both p q = absurd cc
      by false apart t = inl (t ∙ was)
  stays_by line from n o l (Decides (Free other)) there is low was turned = by (nat_eq other line) refl turned
    where
      by : (b : Bool) → nat_eq other line ≡ b
          → life_of (take (suc n) (log_of w 0)) line ≡
          (if b then Freed (last_opening (life_of (take n (log_of w 0)) line)) l.knows else life_of (take n (log_of w 0)) line)
          → IsOpenOrFreed line o from (suc n)
      by true same t = inr (record {
        number = n;
        first = low;
        before = omega arith;
        logged = l;
        decided = decided n (Free line) l there (is ∙ ap (λ m. Decides (Free m)) (eqb-true other line same));
        was = was;
      })
      by false apart t = inl (t ∙ was)
  stays_by line from n o l e there is low was turned = inl (turned ∙ was)

  -- what is opened stays so until it is freed
  pub open_or_freed : (line from d : ℕ) (o : Opening) → from + d ≤ length (log_of w 0) → life_of (take from (log_of w 0)) line ≡ Opened o
      → IsOpenOrFreed line o from (from + d)
  open_or_freed line from zero o inside is = let same : from ≡ from + 0 = omega arith in subst (λ k. IsOpenOrFreed line o from k) same (inl is)
  open_or_freed line from (suc d) o inside is =
      let next : suc (from + d) ≡ from + suc d = omega arith in
      let at = got_within (log_of w 0) (from + d) (omega arith) in
      subst (λ k. IsOpenOrFreed line o from k) next (by at (open_or_freed line from d o (omega arith) is))
    where
      by : (at : (l : Logged) × (slice_get (log_of w 0) (from + d) ≡ Some l)) → IsOpenOrFreed line o from (from + d)
          → IsOpenOrFreed line o from (suc (from + d))
      by at (inl now) = stays_by line from (from + d) o at.0 at.0.event at.1 refl (omega arith) now (life_next (log_of w 0) (from + d) line at.0 at.1)
      by at (inr freed) = inr (freed_later line from (from + d) o freed)

  -- ---- placed

  -- a stripe stands in its line's chunk, and was placed while its line was opened
  pub record IsPlacedIn (unit k : ℕ) (p : Placed) : Type 0 where
    pub logged : Logged
    pub decided : IsDecided p.number (Place p.stripe) logged
    pub chunk : p.stripe.chunk ≡ p.stripe.line
    pub opening : Opening
    pub its_life : p.life ≡ Opened opening
    pub is_open : life_of (take p.number (log_of w 0)) p.stripe.line ≡ Opened opening
    pub open_from : IsOpenSince p.stripe.line p.number opening
    pub may : MayPlace i (prefixes logged (log_of w)) p.stripe

  pub placed_in : (unit k : ℕ) (p : Placed) → slice_get (placed_on (log_of w 0) unit) k ≡ Some p → IsPlacedIn unit k p
  placed_in unit k p there =
      let at : IsPlacing (log_of w 0) p = placing_on (log_of w 0) unit k p there in
      let d : IsDecided p.number (Place p.stripe) at.logged = decided p.number (Place p.stripe) at.logged at.there at.event in
      let may : MayPlace i (prefixes at.logged (log_of w)) p.stripe = d.allowed.2 in
      let standing : life_of (take p.number (log_of w 0)) p.stripe.line ≡ Opened may.opening = ap (λ (xs : List Logged). life_of xs p.stripe.line) (sym d.own)
      ∙ may.is_open in
      let inside : p.number < length (log_of w 0) = get_below (log_of w 0) p.number at.logged at.there in
      record {
        logged = at.logged;
        decided = d;
        chunk = may.chunk;
        opening = may.opening;
        its_life = at.life ∙ standing;
        is_open = standing;
        open_from = open_since p.number p.stripe.line may.opening (omega arith) standing;
        may = may;
      }

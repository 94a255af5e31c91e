-- What a seat owns and knows, after each kind of step.
use Rattle.std.proofs.Common.{◌≡◌, ◌≢◌, ◌⊎◌, ⊎_elim, ℕ, ◌<◌, ◌≤◌, false, Some, Option, List, [], ◌∷◌, ◌++◌, length, refl, sym, ap, ◌∙◌, subst, arith, length-append, length-set}
use Rattle.std.specs.Prelude.{slice_get}
use Rattle.std.specs.List.{Contains}
use Rattle.std.proofs.lemmas.Bool.{cases_eq}
use Rattle.std.proofs.lemmas.List.Elements.{Contains-append_cases}
use mathlib.Core.List.{IsPrefix}
use base.Growing.{prefix_refl, prefix_trans}
use Rattle.pblk_model.proofs.Parts.{get_below, get_first}
use Rattle.pblk_world.specs.Events.{Maker, Event, Logged, Step}
use Rattle.pblk_world.specs.Makers.{is_made_by}
use Rattle.pblk_world.specs.World.{World, log_of, known}
use Rattle.pblk_world.proofs.Growing.{grows, at_end}
use Rattle.pblk_world.proofs.WorldLemmas.{log_here, log_elsewhere}
use Rattle.world_laws.specs.KnownCut.{IsClosedCut}
use Rattle.chronicle.specs.Views.{Part, Past}
use Rattle.chronicle.specs.Prefixes.{Prefixes, IsNext, logs_of, longer, longer_of, naming, next_after, with_event}
use Rattle.chronicle.specs.Rule.{HasRights, IsPart, Owners}
use Rattle.chronicle.specs.Steps.{joined, nothing}
use Rattle.chronicle.proofs.Rights.{joined_rights, later_rights, next_rights, no_rights}
use Rattle.chronicle.proofs.PrefixLemmas.{nothing_begins, begins_length, by_longer, longer_left, longer_right, longer_begins, longer_length, longer_at, longer_count, named_length, own_more, others_same}

-- so many events of each log are known
abbrev pub lengths : Prefixes → ℕ → ℕ
lengths logs author = length (logs_of logs author)

-- an event that an author appends: it names all that the author knows
abbrev pub next_step : Prefixes → ℕ → Event → Step
next_step logs author e = record { author = author; logged = naming logs e }

pub log_grows : (s : Step) (w : World) (author : ℕ) → IsPrefix (log_of w author) (log_of (s ∷ w) author)
log_grows s w author = let h = grows (s ∷ []) w author in (h.0, sym h.1)

-- an event among those that were there stands where it stood
stood : (s : Step) (w : World) (author number : ℕ) (l : Logged) → number < length (log_of w author)
    → slice_get (log_of (s ∷ w) author) number ≡ Some l → slice_get (log_of w author) number ≡ Some l
stood s w author number l within there =
    let h = grows (s ∷ []) w author in
    sym (get_first (log_of w author) h.0 number within) ∙ ap (λ xs. slice_get xs number) (sym h.1) ∙ there

pub closed_later : (s : Step) (w : World) (n : ℕ → ℕ) → ((author : ℕ) → n author ≤ length (log_of w author)) → IsClosedCut n w → IsClosedCut n (s ∷ w)
closed_later s w n within closed author other number l below there =
    let long = within author in
    closed author other number l below (stood s w author number l (omega arith) there)

module _ (start : Past) (w : World) (owner : Owners) (seat : ℕ) where
  pub nothing_part : IsPart start w owner seat nothing
  nothing_part = record {
    begins = λ author. nothing_begins (log_of w author);
    closed = λ author other number l below there. absurd (omega arith);
    owns = λ author has. absurd (let none = has.1 in omega arith);
    past = λ some. absurd (omega arith);
    authors = λ some. absurd (omega arith);
    rights = no_rights w owner seat;
  }

  -- another seat appends, a command of none of this seat's workers
  pub later_part : (s : Step) (p : Part) → owner.log s.author ≢ seat
      → ((worker : ℕ) → owner.worker worker ≡ seat → is_made_by worker s.logged.event ≡ false) → IsPart start w owner seat p
      → IsPart start (s ∷ w) owner seat p
  later_part s p apart other h = record {
    begins = λ author. prefix_trans (logs_of p.known author) (log_of w author) (log_of (s ∷ w) author) (h.begins author) (log_grows s w author);
    closed = closed_later s w (lengths p.known) (λ author. begins_length (logs_of p.known author) (log_of w author) (h.begins author)) h.closed;
    owns = λ author has. let o = h.owns author has in (o.0, o.1 ∙ sym (log_elsewhere s w author (λ e. apart (ap owner.log e ∙ o.0))));
    past = h.past;
    authors = h.authors;
    rights = later_rights w owner seat s p.makers p.spare other h.rights;
  }

  -- a part with other logs and other workers, of a seat that perhaps is another one
  pub moved_part : (owner' : Owners) (seat' : ℕ) (p : Part) (owned : List ℕ) (makers : List Maker) (spare : Option ℕ)
      → ((author : ℕ) → Contains owned author → Contains p.owned author × (owner.log author ≡ seat → owner'.log author ≡ seat'))
      → HasRights w owner' seat' makers spare
      → IsPart start w owner seat p → IsPart start w owner' seat' (record p { owned = owned; makers = makers; spare = spare })
  moved_part owner' seat' p owned makers spare fewer rights h = record {
    begins = h.begins;
    closed = h.closed;
    owns = λ author has. let f = fewer author has in let o = h.owns author f.0 in (f.1 o.0, o.1);
    past = h.past;
    authors = h.authors;
    rights = rights;
  }

  -- ---- an event more

  module _ (p : Part) (author : ℕ) (e : Event) (has : Contains p.owned author) (within : author < length p.known) (h : IsPart start w owner seat p) where
    abbrev step : Step
    step = next_step p.known author e

    abbrev more : Prefixes
    more = with_event p.known author e

    own_whole : logs_of more author ≡ log_of (step ∷ w) author
    own_whole = own_more p.known author e within ∙ ap (λ xs. xs ++ naming p.known e ∷ []) (h.owns author has).1 ∙ sym (log_here step w author refl)

    pub whole : (other : ℕ) → logs_of p.known other ≡ log_of w other → logs_of more other ≡ log_of (step ∷ w) other
    whole other same = ⊎_elim
        (λ (is : other ≡ author). subst (λ a. logs_of more a ≡ log_of (step ∷ w) a) (sym is) own_whole)
        (λ (apart : other ≢ author). others_same p.known author e other apart ∙ same ∙ sym (log_elsewhere step w other (λ is. apart (sym is))))
        (cases_eq other author)

    begins_more : (other : ℕ) → IsPrefix (logs_of more other) (log_of (step ∷ w) other)
    begins_more other = ⊎_elim
        (λ (is : other ≡ author). subst (λ a. IsPrefix (logs_of more a) (log_of (step ∷ w) a)) (sym is)
        (subst (λ xs. IsPrefix xs (log_of (step ∷ w) author)) (sym own_whole) (prefix_refl (log_of (step ∷ w) author))))
        (λ (apart : other ≢ author). subst (λ xs. IsPrefix xs (log_of (step ∷ w) other)) (sym (others_same p.known author e other apart))
        (prefix_trans (logs_of p.known other) (log_of w other) (log_of (step ∷ w) other) (h.begins other) (log_grows step w other)))
        (cases_eq other author)

    -- of no log less is known
    grown : (other : ℕ) → lengths p.known other ≤ lengths more other
    grown other = ⊎_elim
        (λ (is : other ≡ author). subst (λ a. lengths p.known a ≤ lengths more a) (sym is)
        (subst (λ xs. lengths p.known author ≤ length xs) (sym (own_more p.known author e within))
        (omega (arith, length-append (logs_of p.known author) (naming p.known e ∷ [])))))
        (λ (apart : other ≢ author). subst (λ xs. lengths p.known other ≤ length xs) (sym (others_same p.known author e other apart)) (omega arith))
        (cases_eq other author)

    new_named : (other : ℕ) → known (naming p.known e) other ≤ lengths more other
    new_named other = subst (λ n. n ≤ lengths more other) (sym (named_length p.known e other)) (grown other)

    closed_more : IsClosedCut (lengths more) (step ∷ w)
    closed_more by other number l below there = ⊎_elim
        (λ (is : by ≡ author). own_closed (subst (λ a. slice_get (log_of (step ∷ w) a) number ≡ Some l) is there))
        (λ (apart : by ≢ author).
        let was : slice_get (log_of w by) number ≡ Some l = ap (λ xs. slice_get xs number) (sym (log_elsewhere step w by (λ is. apart (sym is)))) ∙ there in
        let old = h.closed by other number l (subst (λ xs. number < length xs) (others_same p.known author e by apart) below) was in
        let more_known = grown other in
        omega arith)
        (cases_eq by author)
      where
        own_closed : slice_get (log_of (step ∷ w) author) number ≡ Some l → known l other ≤ lengths more other
        own_closed at = ⊎_elim
            (λ (was : slice_get (log_of w author) number ≡ Some l).
            let inside : number < lengths p.known author =
            subst (λ xs. number < length xs) (sym (h.owns author has).1) (get_below (log_of w author) number l was) in
            let old = h.closed author other number l inside was in
            let more_known = grown other in
            omega arith)
            (λ (new : (number ≡ length (log_of w author)) × (step.logged ≡ l)). subst (λ x. known x other ≤ lengths more other) new.1 (new_named other))
            (at_end (log_of w author) step.logged l number (ap (λ xs. slice_get xs number) (sym (log_here step w author refl)) ∙ at))

    pub appended_part : IsNext e p.makers
        → IsPart start (next_step p.known author e ∷ w) owner seat (record p { known = with_event p.known author e; makers = next_after e p.makers })
    appended_part next = record {
      begins = begins_more;
      closed = closed_more;
      owns = λ other owned. let o = h.owns other owned in (o.0, whole other o.1);
      past = λ some. h.past (omega arith);
      authors = λ some. length-set p.known author _ ∙ h.authors (omega arith);
      rights = next_rights w owner seat step p.makers p.spare h.rights e refl next;
    }

  -- ---- another part taken in

  module _ (p q : Part) (h : IsPart start w owner seat p) (k : IsPart start w owner seat q) (some : 0 < length p.known) (other_some : 0 < length q.known) where
    abbrev both : Prefixes
    both = longer_of p.known q.known

    both_at : (author : ℕ) → logs_of both author ≡ longer (logs_of p.known author) (logs_of q.known author)
    both_at author = longer_at p.known q.known author

    at_least : (author : ℕ) → (lengths p.known author ≤ lengths both author) × (lengths q.known author ≤ lengths both author)
    at_least author = subst (λ xs. (lengths p.known author ≤ length xs) × (lengths q.known author ≤ length xs)) (sym (both_at author))
        (longer_length (logs_of p.known author) (logs_of q.known author))

    closed_both : IsClosedCut (lengths both) w
    closed_both author other number l below there =
        by_longer (λ xs. number < length xs → known l other ≤ lengths both other) (logs_of p.known author) (logs_of q.known author)
        (λ _ inside. let named = h.closed author other number l inside there in let more = (at_least other).0 in omega arith)
        (λ _ inside. let named = k.closed author other number l inside there in let more = (at_least other).1 in omega arith)
        (subst (λ xs. number < length xs) (both_at author) below)

    pub own_begins : (author : ℕ) → Contains p.owned author → IsPrefix (logs_of q.known author) (logs_of p.known author)
    own_begins author has = subst (λ xs. IsPrefix (logs_of q.known author) xs) (sym (h.owns author has).1) (k.begins author)

    pub heard_own_begins : (author : ℕ) → Contains q.owned author → IsPrefix (logs_of p.known author) (logs_of q.known author)
    heard_own_begins author has = subst (λ xs. IsPrefix (logs_of p.known author) xs) (sym (k.owns author has).1) (h.begins author)

    owned_whole : (author : ℕ) → Contains p.owned author ⊎ Contains q.owned author → (owner.log author ≡ seat) × (logs_of both author ≡ log_of w author)
    owned_whole author = ⊎_elim
        (λ has. let o = h.owns author has in
        (o.0, both_at author ∙ longer_left (logs_of p.known author) (logs_of q.known author) (own_begins author has) ∙ o.1))
        (λ has. let o = k.owns author has in
        (o.0, both_at author ∙ longer_right (logs_of p.known author) (logs_of q.known author) (heard_own_begins author has) ∙ o.1))

    pub joined_part : IsPart start w owner seat (joined p q)
    joined_part = record {
      begins = λ author. subst (λ xs. IsPrefix xs (log_of w author)) (sym (both_at author))
          (longer_begins (logs_of p.known author) (logs_of q.known author) (log_of w author) (h.begins author) (k.begins author));
      closed = closed_both;
      owns = λ author has. owned_whole author (Contains-append_cases p.owned q.owned author has);
      past = λ _. h.past some;
      authors = λ _. longer_count p.known q.known (h.authors some ∙ sym (k.authors other_some)) ∙ h.authors some;
      rights = joined_rights w owner seat p.makers q.makers p.spare q.spare h.rights k.rights;
    }

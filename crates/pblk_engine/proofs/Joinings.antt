-- The engine's author joins those of the arms, one after another.
use Rattle.std.proofs.Common.{◌≡◌, ◌⊎◌, inl, inr, ⊎_elim, ℕ, zero, suc, ◌+◌, ◌<◌, ◌≤◌, None, Some, List, [], ◌∷◌, ◌++◌, length, length-append, reverse, refl, sym, subst, ap, ap₂, ◌∙◌, arith, append-nil}
use Rattle.std.specs.Prelude.{slice_get}
use Rattle.std.specs.List.{Contains}
use Rattle.std.proofs.lemmas.Bool.{cases_lt}
use Rattle.std.proofs.lemmas.List.{length-map, map-append, reverse-append}
use Rattle.std.proofs.lemmas.List.Elements.{Contains-append_left, Contains-append_right}
use Rattle.std.proofs.lemmas.Option.{none-some, slice_get_within}
use base.Growing.{prefix_refl}
use Rattle.atomic_table.specs.Seated.{TableId}
use Rattle.pblk_model.proofs.Parts.{get_right}
use Rattle.pblk_world.specs.AtRest.{AreResetsNoted}
use Rattle.pblk_world.specs.Events.{Maker}
use Rattle.pblk_world.proofs.Growing.{at_end}
use Rattle.unit_port.specs.Unit.{ModelUnit}
use Rattle.chronicle.specs.Handles.{AuthorView}
use Rattle.chronicle.specs.Prefixes.{Prefixes, AreLegalLogs, ArePrefixes, either, logs_of, longer_of}
use Rattle.chronicle.specs.Views.{Past}
use Rattle.chronicle.proofs.Rests.{still_begun}
use Rattle.pblk_engine.specs.Arms.{ArmView, IsArm, IsUnitOf}
use Rattle.pblk_engine.specs.Endings.{AreArmsInOrder, HasJoined}
use Rattle.pblk_engine.specs.Hearts.{IsEngine}
use Rattle.pblk_engine.proofs.ArmLogs.{arm_stays}
use Rattle.pblk_engine.proofs.Meetings.{noted_met, same_begun, same_legal}

-- one that stands in a list or behind it
one_more : (k n m : ℕ) → n ≡ m + 1 → k < n → (k < m) ⊎ (k ≡ m)
one_more k n m is below = ⊎_elim (λ (less : k < m). inl less) (λ (more : m ≤ k). inr (omega arith)) (cases_lt k m)

module _ (chronicle : TableId) (past : Past) (handed : List ModelUnit) (wear : List (List ℕ)) (engine : AuthorView) where
  -- it has joined none
  pub joined_none : engine.chronicle ≡ chronicle → engine.past ≡ past → IsEngine engine → AreLegalLogs past.image engine.known
      → ArePrefixes past.logs engine.known → AreResetsNoted (logs_of engine.known) → HasJoined chronicle past handed wear engine [] engine [] []
  joined_none of over is legal begun noted = record {
    of = of;
    over = over;
    owns_engine = subst (λ (owned : List ℕ). Contains owned 0) (sym is.owned) (0, omega arith, refl);
    owns = λ number within. absurd (omega arith);
    legal = legal;
    begun = begun;
    noted = noted;
    engine_log = refl;
    learns = record { each = λ author. prefix_refl (logs_of engine.known author) };
    unit_logs = λ number a there. absurd (none-some a there);
    gives = refl;
    each = λ number u there. absurd (none-some u there);
    as_worn = refl;
    makers = refl;
    spare = refl;
    each_worn = λ number levels there. absurd (none-some levels there);
  }

  module _ (arms : List ArmView) (author : AuthorView) (units : List ModelUnit) (worn : List (List ℕ))
      (is : HasJoined chronicle past handed wear engine arms author units worn)
      (a : ArmView) (other : AuthorView) (u : ModelUnit) (levels : List ℕ) (number_is : a.number ≡ length arms) (unit_is : u ≡ a.unit)
      (known_is : other.known ≡ a.known) (unit : IsUnitOf chronicle past handed wear other a.number u levels) (noted : AreResetsNoted (logs_of other.known))
      (no_makers : other.makers ≡ []) (no_spare : other.spare ≡ None)
      (new : AuthorView) (joined : new ≡ record author {
        owned = author.owned ++ other.owned;
        known = longer_of author.known other.known;
        makers = author.makers ++ other.makers;
        spare = either author.spare other.spare;
      })
      (own : (x : ℕ) → Contains author.owned x → logs_of new.known x ≡ logs_of author.known x)
      (other_own : (x : ℕ) → Contains other.owned x → logs_of new.known x ≡ logs_of other.known x)
      (keeps : ArePrefixes author.known new.known) (learns : ArePrefixes other.known new.known)
      (legal : AreLegalLogs new.past.image new.known) (begun : ArePrefixes new.past.logs new.known) where
    abbrev all : List ArmView
    all = arms ++ a ∷ []

    over : new.past ≡ past
    over = ap (λ (x : AuthorView). x.past) joined ∙ is.over

    owned_is : new.owned ≡ author.owned ++ other.owned
    owned_is = ap (λ (x : AuthorView). x.owned) joined

    owns_own : (x : ℕ) → Contains author.owned x → Contains new.owned x
    owns_own x has = subst (λ (owned : List ℕ). Contains owned x) (sym owned_is) (Contains-append_left author.owned other.owned x has)

    other_owns : Contains other.owned (suc (length arms))
    other_owns = subst (λ (owned : List ℕ). Contains owned (suc (length arms))) (sym (unit.owned ∙ ap (λ n. suc n ∷ []) number_is)) (0, omega arith, refl)

    long : length all ≡ length arms + 1
    long = length-append arms (a ∷ [])

    as_many : length units ≡ length arms
    as_many = ap (λ (us : List ModelUnit). length us) is.gives ∙ length-map arms (λ (x : ArmView). x.unit)

    owns_next : (number : ℕ) → number < length all → Contains new.owned (suc number)
    owns_next number within = ⊎_elim (λ (less : number < length arms). owns_own (suc number) (is.owns number less))
        (λ (last : number ≡ length arms). subst (λ n. Contains new.owned (suc n)) (sym last)
        (subst (λ (owned : List ℕ). Contains owned (suc (length arms))) (sym owned_is)
        (Contains-append_right author.owned other.owned (suc (length arms)) other_owns)))
        (one_more number (length all) (length arms) long within)

    logs_next : (number : ℕ) (x : ArmView) → slice_get all number ≡ Some x → logs_of new.known (suc number) ≡ logs_of x.known (suc number)
    logs_next number x there = ⊎_elim
        (λ (old : slice_get arms number ≡ Some x).
        own (suc number) (is.owns number (slice_get_within arms number x old)) ∙ is.unit_logs number x old)
        (λ (last : (number ≡ length arms) × (a ≡ x)).
        ap (λ n. logs_of new.known (suc n)) last.0 ∙ other_own (suc (length arms)) other_owns
        ∙ ap (λ (k : Prefixes). logs_of k (suc (length arms))) known_is
        ∙ ap₂ (λ (y : ArmView) n. logs_of y.known (suc n)) last.1 (sym last.0))
        (at_end arms a x number there)

    abbrev IsLeft : ℕ → ModelUnit → Type 0
    IsLeft number x = (was : ModelUnit) × (slice_get handed number ≡ Some was) × IsArm past.image (logs_of new.known) number was x

    left_last : IsLeft (length arms) u
    left_last = subst (λ n. IsLeft n u) number_is (
      unit.before,
      unit.there,
      arm_stays past.image (logs_of other.known) (logs_of new.known) a.number unit.before u
          (ap (λ n. logs_of new.known (suc n)) number_is ∙ other_own (suc (length arms)) other_owns
          ∙ ap (λ n. logs_of other.known (suc n)) (sym number_is)) unit.arm,
    )

    left_next : (number : ℕ) (x : ModelUnit) → slice_get (units ++ u ∷ []) number ≡ Some x → IsLeft number x
    left_next number x there = ⊎_elim
        (λ (old : slice_get units number ≡ Some x).
        let was = is.each number x old in
        let within : number < length units = slice_get_within units number x old in (
          was.0,
          was.1,
          arm_stays past.image (logs_of author.known) (logs_of new.known) number was.0 x
              (own (suc number) (is.owns number (let many : length units ≡ length arms = as_many in omega arith))) was.2,
        ))
        (λ (last : (number ≡ length units) × (u ≡ x)).
        subst (λ n. IsLeft n x) (sym (last.0 ∙ as_many)) (subst (IsLeft (length arms)) last.1 left_last))
        (at_end units u x number there)

    worn_next : (number : ℕ) (x : List ℕ) → slice_get (worn ++ levels ∷ []) number ≡ Some x → slice_get wear number ≡ Some x
    worn_next number x there = ⊎_elim (λ (old : slice_get worn number ≡ Some x). is.each_worn number x old)
        (λ (last : (number ≡ length worn) × (levels ≡ x)).
        ap (λ n. slice_get wear n) (last.0 ∙ is.as_worn ∙ sym number_is) ∙ unit.has_wear ∙ ap Some last.1)
        (at_end worn levels x number there)

    -- and one more
    pub joined_next : HasJoined chronicle past handed wear engine (arms ++ a ∷ []) new (units ++ u ∷ []) (worn ++ levels ∷ [])
    joined_next = record {
      of = ap (λ (x : AuthorView). x.chronicle) joined ∙ is.of;
      over = over;
      owns_engine = owns_own 0 is.owns_engine;
      owns = owns_next;
      legal = same_legal past new.past new.known over legal;
      begun = same_begun past new.past new.known over begun;
      noted = noted_met author.known other.known new.known (ap (λ (x : AuthorView). x.known) joined) keeps learns is.noted noted;
      engine_log = own 0 is.owns_engine ∙ is.engine_log;
      learns = still_begun engine.known author.known new.known is.learns keeps;
      unit_logs = logs_next;
      gives = ap₂ (λ (us : List ModelUnit) (x : ModelUnit). us ++ x ∷ []) is.gives unit_is ∙ sym (map-append (λ (x : ArmView). x.unit) arms (a ∷ []));
      each = left_next;
      as_worn = length-append worn (levels ∷ []) ∙ ap (λ n. n + 1) is.as_worn ∙ sym long;
      makers = ap (λ (x : AuthorView). x.makers) joined ∙ ap (λ (ms : List Maker). author.makers ++ ms) no_makers ∙ append-nil author.makers ∙ is.makers;
      spare = ap (λ (x : AuthorView). x.spare) joined ∙ ap (either author.spare) no_spare ∙ is.spare;
      each_worn = worn_next;
    }

-- ---- the arms that are left

-- the next one has the number of those that came before it
pub next_arm : (every done rest : List ArmView) (a : ArmView) → AreArmsInOrder every → done ++ a ∷ rest ≡ every → a.number ≡ length done
next_arm every done rest a ordered is =
    let at : length done + 0 ≡ length done = omega arith in
    ordered (length done) a
    (ap (λ (xs : List ArmView). slice_get xs (length done)) (sym is) ∙ ap (slice_get (done ++ a ∷ rest)) (sym at) ∙ get_right done (a ∷ rest) 0)

-- the last of those that are left in turned order comes next
pub left_next_arm : (every done rest left : List ArmView) (a : ArmView) → left ≡ rest ++ a ∷ [] → done ++ reverse left ≡ every
    → done ++ a ∷ reverse rest ≡ every
left_next_arm every done rest left a last is =
    ap (λ (xs : List ArmView). done ++ xs) (sym (reverse-append rest (a ∷ [])) ∙ ap reverse (sym last)) ∙ is

-- once it has joined as many as there are units, it owns all logs
pub owns_all : (owned : List ℕ) (count : ℕ) → Contains owned 0 → ((number : ℕ) → number < count → Contains owned (suc number)) → (number : ℕ)
    → number ≤ count → Contains owned number
owns_all owned count engine each zero low = engine
owns_all owned count engine each (suc number) low = each number (omega arith)

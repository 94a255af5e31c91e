-- How a mount has begun, and what image it found.
use Rattle.std.proofs.Common.{◌≡◌, ◌≢◌, ℕ, ◌≤◌, ◌⊎◌, ◌==◌, zero, suc, inl, inr, Bool, true, false, Option, Some, None, List, [], ◌∷◌, ◌++◌, length, take, refl, sym, ap, ◌∙◌, subst, arith, if◌then◌else◌, length-append}
use Rattle.std.specs.Prelude.{slice_index}
use Rattle.std.specs.List.{AllByRecursion}
use Rattle.std.proofs.Math.Path.{fun_ext}
use Rattle.std.proofs.lemmas.List.{take-append-le}
use Rattle.std.proofs.lemmas.Option.{none-some, same_Some}
use Rattle.pblk_model.specs.declared.chunk.ChunkState.TheVariants.{Open}
use Rattle.pblk_model.specs.Accepted.{IsAccepted}
use Rattle.pblk_model.specs.Image.{Image, IsFit}
use Rattle.pblk_model.specs.Sealed.{IsSealed}
use Rattle.pblk_model.specs.Contents.{head, end}
use Rattle.pblk_world.specs.Events.{EngineEvent, Begin, Beginning, Event, Decides, Does, Logged, Step}
use Rattle.pblk_world.specs.World.{World, Logs, log_of, cut_logs, prefixes, knows_engine, media}
use Rattle.pblk_world.specs.EngineLog.{Begun, begun}
use Rattle.pblk_world.specs.Lines.{found_by, found_image, next_seq, stray_lines}
use Rattle.pblk_world.specs.Opening.{MayBegin}
use Rattle.pblk_world.specs.Legal.{IsLegal, IsLegalStep, IsAllowed, MayDecide}
use Rattle.world_laws.specs.SameImages.{HasSameLines, HoldsTheSame}
use Rattle.world_laws.specs.Padding.{ArePadded}
use Rattle.world_laws.specs.EarlyLogs.{ArePrefixes, AreEarly}
use Rattle.world_laws.proofs.PaddedImages.{padded_lines, padded_sealed, padded_holds}
use Rattle.world_laws.proofs.EarlyLogs.{early_padded}
use Rattle.pblk_model.proofs.Lists.{all_imply, with_last}
use Rattle.pblk_model.proofs.Parts.{all_taken}
use Rattle.pblk_world.proofs.EngineLogLemmas.{begun_of_first, begun_stays, first_begins}
use Rattle.pblk_world.proofs.LegalLemmas.{whole_own}
use Rattle.pblk_world.proofs.WorldLemmas.{log_elsewhere, log_here}

-- ---- lists

take_twice : {X : Type 0} (k n : ℕ) (xs : List X) → (m : ℕ) × (take k (take n xs) ≡ take m xs)
take_twice zero n xs = (0, refl)
take_twice (suc k) zero xs = (0, refl)
take_twice (suc k) (suc n) [] = (0, refl)
take_twice (suc k) (suc n) (x ∷ xs) = let rest = take_twice k n xs in (suc rest.0, ap (λ ys. x ∷ ys) rest.1)

all_twice : {X : Type 0} (P : X → Type 0) (k n : ℕ) (xs : List X) → AllByRecursion P (take k xs) → AllByRecursion P (take k (take n xs))
all_twice P zero n xs h = tt
all_twice P (suc k) zero xs h = tt
all_twice P (suc k) (suc n) [] h = tt
all_twice P (suc k) (suc n) (x ∷ xs) h = (h.0, all_twice P k n xs h.1)

-- ---- a log after a step

abbrev GrowsBy : Logged → List Logged → List Logged → Type 0
GrowsBy l old new = (new ≡ old) ⊎ (new ≡ old ++ l ∷ [])

grows : (s : Step) (w : World) (author : ℕ) → GrowsBy s.logged (log_of w author) (log_of (s ∷ w) author)
grows s w author = by (s.author == author) where
  by : (b : Bool) → GrowsBy s.logged (log_of w author) (if b then log_of w author ++ s.logged ∷ [] else log_of w author)
  by true = inr refl
  by false = inl refl

-- ---- whose a step is

record IsEngineStep (i : Image) (s : Step) (w : World) : Type 0 where
  author : s.author ≡ 0
  event : EngineEvent
  is_event : s.logged.event ≡ Decides event
  may : MayDecide i (prefixes s.logged (log_of w)) event
  own : prefixes s.logged (log_of w) 0 ≡ log_of w 0

record IsUnitStep (s : Step) : Type 0 where
  unit : ℕ
  author : s.author ≡ suc unit

view : (i : Image) (s : Step) (w : World) → IsLegalStep i (log_of w) s → IsEngineStep i s w ⊎ IsUnitStep s
view i s w step = by s.author s.logged.event refl refl step.allowed (whole_own i s w step) where
  by : (author : ℕ) (e : Event) → s.author ≡ author → s.logged.event ≡ e → IsAllowed i author e (prefixes s.logged (log_of w))
      → prefixes s.logged (log_of w) author ≡ log_of w author → IsEngineStep i s w ⊎ IsUnitStep s
  by zero (Decides e) a is may own = inl (record { author = a; event = e; is_event = is; may = may; own = own })
  by zero (Does e maker) a is may own = absurd may
  by (suc unit) e a is may own = inr (record { unit = unit; author = a })

-- ---- decisions

abbrev IsFirst : Image → Logs → EngineEvent → Type 0
IsFirst i logs e = (b : Beginning) × (e ≡ Begin b) × MayBegin i logs b

abbrev IsLater : Logs → Type 0
IsLater logs = (b : Begun) × (begun (logs 0) ≡ Some b)

decided : (i : Image) (logs : Logs) (e : EngineEvent) → MayDecide i logs e → IsFirst i logs e ⊎ IsLater logs
decided i logs (Begin b) h = inl (b, refl, h)
decided i logs e h = inr (h.0, h.1)

-- ---- what is known of the engine's log

record IsOrderly (w : World) : Type 0 where
  begins : begun (log_of w 0) ≡ None → log_of w 0 ≡ []
  within : (unit : ℕ) → AllByRecursion (λ l. knows_engine l ≤ length (log_of w 0)) (log_of w (suc unit))

within_more : (s : Step) (w : World) (unit m n : ℕ) → m ≤ n → AllByRecursion (λ l. knows_engine l ≤ m) (log_of w (suc unit)) → knows_engine s.logged ≤ n
    → AllByRecursion (λ l. knows_engine l ≤ n) (log_of (s ∷ w) (suc unit))
within_more s w unit m n more h last = elim (grows s w (suc unit)) [
  | inl same ↦ subst (AllByRecursion (λ l. knows_engine l ≤ n)) (sym same) old
  | inr longer ↦ subst (AllByRecursion (λ l. knows_engine l ≤ n)) (sym longer) (with_last (λ l. knows_engine l ≤ n) (log_of w (suc unit)) s.logged old last)
] where
  old : AllByRecursion (λ l. knows_engine l ≤ n) (log_of w (suc unit))
  old = all_imply (λ l. knows_engine l ≤ m) (λ l. knows_engine l ≤ n) (λ l h. omega arith) (log_of w (suc unit)) h

not_zero : (s : Step) (unit : ℕ) → s.author ≡ suc unit → s.author ≢ 0
not_zero s unit e z = let no : suc unit ≡ 0 = sym e ∙ z in absurd (omega arith)

orderly_more : (i : Image) (s : Step) (w : World) → IsLegalStep i (log_of w) s → IsOrderly w → IsOrderly (s ∷ w)
orderly_more i s w step q = elim (view i s w step) [
  | inr u ↦
      let same : log_of (s ∷ w) 0 ≡ log_of w 0 = log_elsewhere s w 0 (not_zero s u.unit u.author) in
      let few : length (log_of w 0) ≤ length (log_of (s ∷ w) 0) = (let n = ap length same in omega arith) in
      record {
        begins = λ e. same ∙ q.begins (sym (ap begun same) ∙ e);
        within = λ unit. within_more s w unit (length (log_of w 0)) (length (log_of (s ∷ w) 0)) few (q.within unit)
            (let low = step.knowledge.within 0 in omega arith);
      }
  | inl e ↦
      let here : log_of (s ∷ w) 0 ≡ log_of w 0 ++ s.logged ∷ [] = log_here s w 0 e.author in
      let few : length (log_of w 0) ≤ length (log_of (s ∷ w) 0) =
      (let n = ap length here in let m = length-append (log_of w 0) (s.logged ∷ []) in omega arith) in
      record {
        begins = λ none. absurd (begins e here (sym (ap begun here) ∙ none));
        within = λ unit. within_more s w unit (length (log_of w 0)) (length (log_of (s ∷ w) 0)) few (q.within unit)
            (let low = step.knowledge.within 0 in omega arith);
      }
] where
  begins : (e : IsEngineStep i s w) → log_of (s ∷ w) 0 ≡ log_of w 0 ++ s.logged ∷ [] → begun (log_of w 0 ++ s.logged ∷ []) ≡ None → ⊥
  begins e here none = elim (decided i (prefixes s.logged (log_of w)) e.event e.may) [
    | inl f ↦
        let empty : log_of w 0 ≡ [] = sym e.own ∙ f.2.is_first in
        none-some (record { beginning = f.0; knows = s.logged.knows })
        (sym none ∙ ap (λ (log : List Logged). begun (log ++ s.logged ∷ [])) empty ∙ first_begins s.logged f.0 (e.is_event ∙ ap Decides f.1))
    | inr l ↦ none-some l.0 (sym none ∙ begun_stays (log_of w 0) s.logged l.0 (ap begun (sym e.own) ∙ l.1))
  ]

orderly : (i : Image) (w : World) → IsLegal i w → IsOrderly w
unfolding IsLegal
orderly i [] legal = record { begins = λ e. refl; within = λ unit. tt }
orderly i (s ∷ w) legal = orderly_more i s w legal.0 (orderly i w legal.1)

pub early_before : (i : Image) (w : World) → IsLegal i w → begun (log_of w 0) ≡ None → AreEarly (log_of w)
early_before i w legal none unit =
    let q : IsOrderly w = orderly i w legal in
    let few : length (log_of w 0) ≡ 0 = ap length (q.begins none) in
    all_imply (λ l. knows_engine l ≤ length (log_of w 0)) (λ l. knows_engine l ≡ 0) (λ l h. omega arith) (log_of w (suc unit)) (q.within unit)

-- ---- the beginning

pub record HasBegun (i : Image) (w : World) (b : Begun) : Type 0 where
  pub within : (author : ℕ) → slice_index b.knows author ≤ length (log_of w author)
  pub early : AreEarly (cut_logs b.knows (log_of w))
  pub may : MayBegin i (cut_logs b.knows (log_of w)) b.beginning

cut_same : (s : Step) (w : World) (lengths : List ℕ) → ((author : ℕ) → slice_index lengths author ≤ length (log_of w author))
    → cut_logs lengths (log_of (s ∷ w)) ≡ cut_logs lengths (log_of w)
cut_same s w lengths within = fun_ext (λ author. elim (grows s w author) [
  | inl same ↦ ap (take (slice_index lengths author)) same
  | inr longer ↦ ap (take (slice_index lengths author)) longer ∙ take-append-le (slice_index lengths author) (log_of w author) (s.logged ∷ []) (within author)
])

has_begun_more : (i : Image) (s : Step) (w : World) (b : Begun) → HasBegun i w b → HasBegun i (s ∷ w) b
has_begun_more i s w b h = record {
  within = λ author. elim (grows s w author) [
    | inl same ↦ let n = ap length same in let low = h.within author in omega arith
    | inr longer ↦ let n = ap length longer in let m = length-append (log_of w author) (s.logged ∷ []) in let low = h.within author in omega arith
  ];
  early = subst AreEarly (sym (cut_same s w b.knows h.within)) h.early;
  may = subst (λ logs. MayBegin i logs b.beginning) (sym (cut_same s w b.knows h.within)) h.may;
}

has_begun_by : (i : Image) (s : Step) (w : World) → IsLegalStep i (log_of w) s → IsLegal i w → ((b : Begun) → begun (log_of w 0) ≡ Some b → HasBegun i w b)
    → (b : Begun) → begun (log_of (s ∷ w) 0) ≡ Some b → HasBegun i w b
has_begun_by i s w step legal before_it b is = elim (view i s w step) [
  | inr u ↦ before_it b (sym (ap begun (log_elsewhere s w 0 (not_zero s u.unit u.author))) ∙ is)
  | inl e ↦ engine e (decided i (prefixes s.logged (log_of w)) e.event e.may)
] where
  engine : (e : IsEngineStep i s w) → IsFirst i (prefixes s.logged (log_of w)) e.event ⊎ IsLater (prefixes s.logged (log_of w)) → HasBegun i w b
  engine e (inr l) =
      let before : begun (log_of w 0) ≡ Some l.0 = ap begun (sym e.own) ∙ l.1 in
      let same : l.0 ≡ b = same_Some l.0 b (sym (begun_stays (log_of w 0) s.logged l.0 before) ∙ sym (ap begun (log_here s w 0 e.author)) ∙ is) in
      before_it b (before ∙ ap Some same)
  engine e (inl f) =
      let empty : log_of w 0 ≡ [] = sym e.own ∙ f.2.is_first in
      let now : begun (log_of (s ∷ w) 0) ≡ Some (record { beginning = f.0; knows = s.logged.knows }) =
      ap begun (log_here s w 0 e.author) ∙ ap (λ (log : List Logged). begun (log ++ s.logged ∷ [])) empty
      ∙ first_begins s.logged f.0 (e.is_event ∙ ap Decides f.1) in
      subst (HasBegun i w) (same_Some (record { beginning = f.0; knows = s.logged.knows }) b (sym now ∙ is)) (record {
        within = step.knowledge.within;
        early = λ unit. all_taken (λ l. knows_engine l ≡ 0) (slice_index s.logged.knows (suc unit)) (log_of w (suc unit))
            (early_before i w legal (ap begun empty) unit);
        may = f.2;
      })

pub has_begun : (i : Image) (w : World) → IsLegal i w → (b : Begun) → begun (log_of w 0) ≡ Some b → HasBegun i w b
unfolding IsLegal
has_begun i [] legal b is = absurd (none-some b is)
has_begun i (s ∷ w) legal b is = has_begun_more i s w b (has_begun_by i s w legal.0 legal.1 (λ c e. has_begun i w legal.1 c e) b is)

-- ---- an image before the units know of the beginning

pub early_lines : (i : Image) (w : World) (logs : Logs) → IsAccepted i.shape → IsFit i → IsLegal i w → ArePrefixes w logs → AreEarly logs
    → HasSameLines i (media i logs)
early_lines i w logs accepted fit legal prefix early = padded_lines i (media i logs) accepted (early_padded i w logs fit legal prefix early)

pub early_sealed : (i : Image) (w : World) (logs : Logs) → IsAccepted i.shape → IsFit i → IsSealed i → IsLegal i w → ArePrefixes w logs → AreEarly logs
    → IsSealed (media i logs)
early_sealed i w logs accepted fit whole legal prefix early = padded_sealed i (media i logs) accepted whole (early_padded i w logs fit legal prefix early)

pub early_holds : (i : Image) (w : World) (logs : Logs) → IsAccepted i.shape → IsFit i → IsSealed i → IsLegal i w → ArePrefixes w logs → AreEarly logs
    → HoldsTheSame i (media i logs)
early_holds i w logs accepted fit whole legal prefix early = padded_holds i (media i logs) accepted whole (early_padded i w logs fit legal prefix early)

-- ---- the image that was found

found_is : (i : Image) (logs : Logs) (b : Begun) → begun (logs 0) ≡ Some b → found_image i logs ≡ media i (cut_logs b.knows logs)
found_is i logs b is = ap (found_by i logs) is

found_none : (i : Image) (logs : Logs) → begun (logs 0) ≡ None → found_image i logs ≡ i
found_none i logs is = ap (found_by i logs) is

not_padded : (i : Image) → ArePadded i i
not_padded i = record { shape = refl; count = refl; chunks = λ line unit. inl refl }

pub found_padded : (i : Image) (w : World) (logs : Logs) → IsFit i → IsLegal i w → ArePrefixes w logs → ArePadded i (found_image i logs)
found_padded i w logs fit legal prefix = by (begun (logs 0)) refl where
  by : (o : Option Begun) → begun (logs 0) ≡ o → ArePadded i (found_image i logs)
  by None e = subst (ArePadded i) (sym (found_none i logs e)) (not_padded i)
  by (Some b) e =
      let n = prefix 0 in
      let h : HasBegun i w b = has_begun i w legal b (begun_of_first n.0 (log_of w 0) b (sym (ap begun n.1) ∙ e)) in
      subst (ArePadded i) (sym (found_is i logs b e)) (early_padded i w (cut_logs b.knows logs) fit legal
      (λ author. let m = prefix author in let both =
      take_twice (slice_index b.knows author) m.0 (log_of w author) in (both.0, ap (take (slice_index b.knows author)) m.1 ∙ both.1))
      (λ unit. let m = prefix (suc unit) in subst (AllByRecursion (λ l. knows_engine l ≡ 0)) (sym (ap (take (slice_index b.knows (suc unit))) m.1))
      (all_twice (λ l. knows_engine l ≡ 0) (slice_index b.knows (suc unit)) m.0 (log_of w (suc unit)) (h.early unit))))

pub found_lines : (i : Image) (w : World) (logs : Logs) → IsAccepted i.shape → IsFit i → IsLegal i w → ArePrefixes w logs → HasSameLines i (found_image i logs)
found_lines i w logs accepted fit legal prefix = padded_lines i (found_image i logs) accepted (found_padded i w logs fit legal prefix)

pub found_sealed : (i : Image) (w : World) (logs : Logs) → IsAccepted i.shape → IsFit i → IsSealed i → IsLegal i w → ArePrefixes w logs
    → IsSealed (found_image i logs)
found_sealed i w logs accepted fit whole legal prefix = padded_sealed i (found_image i logs) accepted whole (found_padded i w logs fit legal prefix)

pub found_holds : (i : Image) (w : World) (logs : Logs) → IsAccepted i.shape → IsFit i → IsSealed i → IsLegal i w → ArePrefixes w logs
    → HoldsTheSame i (found_image i logs)
found_holds i w logs accepted fit whole legal prefix = padded_holds i (found_image i logs) accepted whole (found_padded i w logs fit legal prefix)

-- ---- with what it began

pub found_begins : (i : Image) (w : World) (b : Begun) → IsLegal i w → begun (log_of w 0) ≡ Some b → MayBegin i (cut_logs b.knows (log_of w)) b.beginning
found_begins i w b legal is = (has_begun i w legal b is).may

pub found_closed : (i : Image) (w : World) (b : Begun) → IsLegal i w → begun (log_of w 0) ≡ Some b
    → AllByRecursion (AllByRecursion (λ c. c.state ≢ Open)) (found_image i (log_of w)).units
found_closed i w b legal is = subst (λ (j : Image). AllByRecursion (AllByRecursion (λ c. c.state ≢ Open)) j.units) (sym (found_is i (log_of w) b is))
    (found_begins i w b legal is).no_open_chunk

pub found_first : (i : Image) (w : World) (b : Begun) → IsLegal i w → begun (log_of w 0) ≡ Some b → b.beginning.first ≡ end (found_image i (log_of w))
found_first i w b legal is = (found_begins i w b legal is).first ∙ ap end (sym (found_is i (log_of w) b is))

pub found_seq : (i : Image) (w : World) (b : Begun) → IsLegal i w → begun (log_of w 0) ≡ Some b → b.beginning.seq ≡ next_seq (head (found_image i (log_of w)))
found_seq i w b legal is = (found_begins i w b legal is).seq ∙ ap (λ (j : Image). next_seq (head j)) (sym (found_is i (log_of w) b is))

pub found_strays : (i : Image) (w : World) (b : Begun) → IsLegal i w → begun (log_of w 0) ≡ Some b → b.beginning.strays ≡ stray_lines (found_image i (log_of w))
found_strays i w b legal is = (found_begins i w b legal is).strays ∙ ap stray_lines (sym (found_is i (log_of w) b is))

pub found_early : (i : Image) (w : World) (b : Begun) → IsLegal i w → begun (log_of w 0) ≡ Some b → AreEarly (cut_logs b.knows (log_of w))
found_early i w b legal is = (has_begun i w legal b is).early

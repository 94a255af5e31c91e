-- The lines that are left.
use Rattle.std.proofs.Common.{◌≡◌, ℕ, suc, ◌+◌, ◌-◌, ◌^◌, ◌<◌, ◌==◌, min, true, false, not, List, [], ◌∷◌, ◌++◌, length, get_or, take, drop, inl, inr, ◌⊎◌, Option, Some, None, Result, Ok, Err, refl, sym, ap, ◌∙◌, subst, arith, add-one, drop-cons}
use Rattle.std.specs.Bool.{nat_lt}
use Rattle.std.specs.List.{filter, slice_split}
use Rattle.std.specs.Result.{is_ok, IsOk}
use Rattle.std.proofs.lemmas.Bool.{false≢true}
use Rattle.std.proofs.lemmas.Bool.Decides.{nat_tests}
use Rattle.pblk_model.specs.declared.script.ScriptErr.{ScriptErr}
use Rattle.pblk_model.specs.declared.script.ScriptErr.TheVariants.{Form, Limit, Range, NeverPosted, Stuck, Memory}
use Rattle.pblk_model.specs.ScriptText.{Said, Heard, Line, lines_from, is_skipped, spoken, saids, said_in, placed, heard_after, then_heard}
use Rattle.run_script.specs.declared.reader.Reader.{Reader}
use Rattle.run_script.specs.Heard.{IsRead, placed_at, Places}
use Rattle.run_script.specs.Reading.{BeginsWell, Refuses}

abbrev pub spoken_from : ℕ → ℕ → List (List ℕ) → List Line
spoken_from number offset left = filter (λ line. not (is_skipped line.bytes)) (lines_from number offset left)

-- what was heard of the bytes, where the lines in `left` are still to be read
pub record IsAt (reader : Reader) (bytes : List ℕ) (number offset : ℕ) (left : List (List ℕ)) : Type 0 where
  pub heard : Heard
  pub read : IsRead reader heard
  pub n : ℕ
  pub number_is : number ≡ min n (2 ^ 32 - 1)
  pub o : ℕ
  pub offset_is : offset ≡ min o (2 ^ 64 - 1)
  pub same : heard_after reader.capacity heard (spoken_from n o left) ≡ heard_after reader.capacity [] (spoken bytes)
  -- nothing was heard and nothing but skipped lines was read, or the first line isn't refused
  pub first : ((heard ≡ []) × (spoken bytes ≡ spoken_from n o left)) ⊎ BeginsWell reader.capacity bytes

pub at_start : (reader : Reader) (bytes : List ℕ) → IsRead reader [] → IsAt reader bytes 1 0 (slice_split (λ byte. byte == 10) bytes)
at_start reader bytes read = record {
  heard = [];
  read = read;
  n = 1;
  number_is = omega arith;
  o = 0;
  offset_is = omega arith;
  same = refl;
  first = inl (refl, refl);
}

from_skipped : (n o : ℕ) (line : List ℕ) (left : List (List ℕ)) → is_skipped line ≡ true
    → spoken_from n o (line ∷ left) ≡ spoken_from (n + 1) (o + length line + 1) left
from_skipped n o line left e = rw e refl

line_at : ℕ → ℕ → List ℕ → Line
line_at n o line = record { number = n; offset = o; bytes = line }

from_spoken : (n o : ℕ) (line : List ℕ) (left : List (List ℕ)) → is_skipped line ≡ false → spoken_from n o (line ∷ left) ≡ record {
  number = n;
  offset = o;
  bytes = line;
} ∷ spoken_from (n + 1) (o + length line + 1) left
from_spoken n o line left e = rw e refl

heard-next : (capacity : ℕ) (before : Heard) (line : Line) (lines : List Line)
    → heard_after capacity before (line ∷ lines) ≡ then_heard (placed capacity (saids before) line (said_in line.bytes))
    (λ x. heard_after capacity (before ++ x ∷ []) lines)
unfolding heard_after
heard-next capacity before line lines = refl

heard-end : (capacity : ℕ) (before : Heard) → heard_after capacity before [] ≡ Ok before
unfolding heard_after
heard-end capacity before = refl

-- a line is judged by its number, which stands still, and by whether it begins early
placed-is : (capacity : ℕ) (before : Heard) (n o number offset : ℕ) (line : List ℕ) (said : Option Said) → number ≡ min n (2 ^ 32 - 1)
    → offset ≡ min o (2 ^ 64 - 1)
    → placed capacity (saids before) (record {
      number = n;
      offset = o;
      bytes = line;
    }) said ≡ placed_at capacity (saids before) number (nat_lt offset 4194304) said
placed-is capacity before n o number offset line None e k = ap (λ m. Err (Form m)) (sym e)
placed-is capacity before n o number offset line (Some said) e k =
    let early : nat_lt o 4194304 ≡ nat_lt offset 4194304 = grind (arith, nat_tests) in
    rw early (rw (← e) refl)

-- The first line.

abbrev pub FirstIs : ℕ → List ℕ → Heard → List Line → Type 0
FirstIs capacity bytes heard lines = ((heard ≡ []) × (spoken bytes ≡ lines)) ⊎ BeginsWell capacity bytes

first_skipped : (capacity : ℕ) (bytes : List ℕ) (heard : Heard) (lines more : List Line) → lines ≡ more → FirstIs capacity bytes heard lines
    → FirstIs capacity bytes heard more
first_skipped capacity bytes heard lines more same (inl h) = inl (h.0, h.1 ∙ same)
first_skipped capacity bytes heard lines more same (inr well) = inr well

one_heard : (capacity : ℕ) (line : Line) (r : Result (ℕ × Said) ScriptErr) → placed capacity [] line (said_in line.bytes) ≡ r → IsOk r
    → IsOk (heard_after capacity [] (line ∷ []))
one_heard capacity line (Ok x) is ok =
    ap is_ok (heard-next capacity [] line [] ∙ ap (λ r. then_heard r (λ x. heard_after capacity ([] ++ x ∷ []) [])) is ∙ heard-end capacity (x ∷ []))
one_heard capacity line (Err e) is ok = absurd (false≢true ok)

-- a line that isn't refused was the first, or another was before it that isn't
first_spoken : (capacity : ℕ) (bytes : List ℕ) (heard : Heard) (line : Line) (lines : List Line) → FirstIs capacity bytes heard (line ∷ lines)
    → IsOk (placed capacity (saids heard) line (said_in line.bytes)) → BeginsWell capacity bytes
first_spoken capacity bytes heard line lines (inl h) ok =
    let here : IsOk (placed capacity [] line (said_in line.bytes)) = subst (λ before. IsOk (placed capacity (saids before) line (said_in line.bytes))) h.0 ok in
    subst (λ ls. IsOk (heard_after capacity [] (take 1 ls))) (sym h.1) (one_heard capacity line _ refl here)
first_spoken capacity bytes heard line lines (inr well) ok = well

-- where all lines were heard the first isn't refused
all_heard : (capacity : ℕ) (lines : List Line) (heard : Heard) → heard_after capacity [] lines ≡ Ok heard → IsOk (heard_after capacity [] (take 1 lines))
all_heard capacity [] heard all = ap is_ok all
all_heard capacity (line ∷ lines) heard all = one_heard capacity line _ refl
    (heard_first (placed capacity [] line (said_in line.bytes)) (λ x. heard_after capacity ([] ++ x ∷ []) lines) heard (sym (heard-next capacity [] line lines)
    ∙ all))
  where
    heard_first : (r : Result (ℕ × Said) ScriptErr) (f : ℕ × Said → Result Heard ScriptErr) (heard : Heard) → then_heard r f ≡ Ok heard → IsOk r
    heard_first (Ok x) f heard is = refl
    heard_first (Err e) f heard is = absurd (cc)

pub read_well : (capacity : ℕ) (bytes : List ℕ) (heard : Heard) → heard_after capacity [] (spoken bytes) ≡ Ok heard → BeginsWell capacity bytes
read_well capacity bytes heard all = all_heard capacity (spoken bytes) heard all

pub next_skipped : (reader : Reader) (bytes : List ℕ) (number offset number' offset' : ℕ) (line : List ℕ) (left : List (List ℕ))
    → IsAt reader bytes number offset (line ∷ left) → is_skipped line ≡ true
    → number' ≡ min (number + 1) (2 ^ 32 - 1) → offset' ≡ min (offset + length line + 1) (2 ^ 64 - 1) → IsAt reader bytes number' offset' left
next_skipped reader bytes number offset number' offset' line left h e num off = record {
  heard = h.heard;
  read = h.read;
  n = h.n + 1;
  number_is = omega (arith, h.number_is, num);
  o = h.o + length line + 1;
  offset_is = omega (arith, h.offset_is, off);
  same = ap (heard_after reader.capacity h.heard) (sym (from_skipped h.n h.o line left e)) ∙ h.same;
  first = first_skipped reader.capacity bytes h.heard (spoken_from h.n h.o (line ∷ left)) (spoken_from (h.n + 1) (h.o + length line + 1) left)
      (from_skipped h.n h.o line left e) h.first;
}

pub next_spoken : (old new : Reader) (bytes : List ℕ) (number offset number' offset' : ℕ) (line : List ℕ) (left : List (List ℕ))
    → IsAt old bytes number offset (line ∷ left) → is_skipped line ≡ false
    → number' ≡ min (number + 1) (2 ^ 32 - 1) → offset' ≡ min (offset + length line + 1) (2 ^ 64 - 1) → new.capacity ≡ old.capacity
    → ((before : Heard) → IsRead old before → Places (Ok tt) new before (placed_at old.capacity (saids before) number (nat_lt offset 4194304) (said_in line)))
    → IsAt new bytes number' offset' left
next_spoken old new bytes number offset number' offset' line left h e num off cap places =
    let placed = places h.heard h.read in
    let this : Line = record { number = h.n; offset = h.o; bytes = line } in
    let rest = spoken_from (h.n + 1) (h.o + length line + 1) left in
    let step = heard-next old.capacity h.heard this rest in
    let is = placed-is old.capacity h.heard h.n h.o number offset line (said_in line) h.number_is h.offset_is ∙ placed.1 in
    let all : heard_after old.capacity (h.heard ++ placed.0 ∷ []) rest ≡ heard_after old.capacity [] (spoken bytes) =
    sym (step ∙ ap (λ r. then_heard r (λ x. heard_after old.capacity (h.heard ++ x ∷ []) rest)) is)
    ∙ ap (heard_after old.capacity h.heard) (sym (from_spoken h.n h.o line left e)) ∙ h.same in
    record {
      heard = h.heard ++ placed.0 ∷ [];
      read = placed.2;
      n = h.n + 1;
      number_is = omega (arith, h.number_is, num);
      o = h.o + length line + 1;
      offset_is = omega (arith, h.offset_is, off);
      same = subst (λ capacity. heard_after capacity (h.heard ++ placed.0 ∷ []) rest ≡ heard_after capacity [] (spoken bytes)) (sym cap) all;
      first = inr (subst (λ capacity. BeginsWell capacity bytes) (sym cap)
          (first_spoken old.capacity bytes h.heard this rest (first_skipped old.capacity bytes h.heard _ _ (from_spoken h.n h.o line left e) h.first)
          (ap is_ok is)));
    }

refuses_same : {A B : Type 0} (e : ScriptErr) (r : Result A ScriptErr) (f : A → Result B ScriptErr) (s : Result B ScriptErr) → Refuses e r → then_heard r f ≡ s
    → Refuses e s
refuses_same (Form n) r f s is same = sym same ∙ ap (λ r. then_heard r f) is
refuses_same (Limit n) r f s is same = sym same ∙ ap (λ r. then_heard r f) is
refuses_same (Range n) r f s is same = sym same ∙ ap (λ r. then_heard r f) is
refuses_same (NeverPosted n) r f s is same = sym same ∙ ap (λ r. then_heard r f) is
refuses_same (Stuck n) r f s is same = sym same ∙ ap (λ r. then_heard r f) is
refuses_same Memory r f s is same = tt

pub refused_spoken : (old : Reader) (bytes : List ℕ) (number offset : ℕ) (line : List ℕ) (left : List (List ℕ)) (e : ScriptErr)
    → IsAt old bytes number offset (line ∷ left) → is_skipped line ≡ false
    → ((before : Heard) → IsRead old before → Refuses e (placed_at old.capacity (saids before) number (nat_lt offset 4194304) (said_in line)))
    → Refuses e (heard_after old.capacity [] (spoken bytes))
refused_spoken old bytes number offset line left e h spoke refuses =
    let this : Line = record { number = h.n; offset = h.o; bytes = line } in
    let rest = spoken_from (h.n + 1) (h.o + length line + 1) left in
    let is = placed-is old.capacity h.heard h.n h.o number offset line (said_in line) h.number_is h.offset_is in
    refuses_same e (placed_at old.capacity (saids h.heard) number (nat_lt offset 4194304) (said_in line))
    (λ x. heard_after old.capacity (h.heard ++ x ∷ []) rest) (heard_after old.capacity [] (spoken bytes)) (refuses h.heard h.read)
    (ap (λ r. then_heard r (λ x. heard_after old.capacity (h.heard ++ x ∷ []) rest)) (sym is) ∙ sym (heard-next old.capacity h.heard this rest)
    ∙ ap (heard_after old.capacity h.heard) (sym (from_spoken h.n h.o line left spoke)) ∙ h.same)

-- there was no memory for a line that isn't refused
pub short_spoken : (old : Reader) (bytes : List ℕ) (number offset : ℕ) (line : List ℕ) (left : List (List ℕ)) → IsAt old bytes number offset (line ∷ left)
    → is_skipped line ≡ false
    → ((before : Heard) → IsRead old before → IsOk (placed_at old.capacity (saids before) number (nat_lt offset 4194304) (said_in line)))
    → BeginsWell old.capacity bytes
short_spoken old bytes number offset line left h spoke places =
    let this : Line = record { number = h.n; offset = h.o; bytes = line } in
    let rest = spoken_from (h.n + 1) (h.o + length line + 1) left in
    let is = placed-is old.capacity h.heard h.n h.o number offset line (said_in line) h.number_is h.offset_is in
    first_spoken old.capacity bytes h.heard this rest (first_skipped old.capacity bytes h.heard _ _ (from_spoken h.n h.o line left spoke) h.first)
    (subst IsOk (sym is) (places h.heard h.read))

pub at_end : (reader : Reader) (bytes : List ℕ) (number offset : ℕ) (left : List (List ℕ)) → IsAt reader bytes number offset left → left ≡ []
    → (heard : Heard) × IsRead reader heard × (heard_after reader.capacity [] (spoken bytes) ≡ Ok heard)
at_end reader bytes number offset left h none = (
  h.heard,
  h.read,
  sym h.same
      ∙ ap (λ lines. heard_after reader.capacity h.heard (spoken_from h.n h.o lines)) none ∙ heard-end reader.capacity h.heard,
)

-- the line that is next
pub next_line : (all : List (List ℕ)) (n : ℕ) (line : List ℕ) → (n < length all) × (line ≡ get_or all n line) → drop n all ≡ line ∷ drop (n + 1) all
next_line all n line h = let within : n < length all = h.0 in drop-cons all n line within ∙ ap (λ x. x ∷ drop (suc n) all) (sym h.1)
    ∙ ap (λ m. line ∷ drop m all) (sym (add-one n))

pub same_Err : {A : Type 0} (r : Result A ScriptErr) (x y : ScriptErr) → r ≡ Err x → r ≡ Err y → x ≡ y
same_Err r x y e f = cc

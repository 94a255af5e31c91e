-- Lines that are heard, and the scripts that they make.
use Rattle.std.proofs.Common.{◌≡◌, ℕ, ◌+◌, ◌<◌, ◌≤◌, ◌==◌, ◌||◌, ◌&&◌, not, Bool, true, false, List, [], ◌∷◌, ◌++◌, map, length, Option, Some, None, Result, Ok, Err, refl, sym, ap, ◌∙◌, subst, arith, inl, inr, append_assoc, append-nil}
use Rattle.std.specs.Bool.{nat_lt, nat_le}
use Rattle.std.specs.List.{AllByRecursion, flat_map, list_any, list_all, sum_by}
use Rattle.std.specs.Option.{option_map, option_map_or}
use Rattle.std.proofs.lemmas.Bool.{cases_Bool, true≢false, false≢true}
use Rattle.std.proofs.lemmas.Bool.Decides.{Decides-ltb, nat_tests}
use Rattle.std.proofs.lemmas.List.{map-append}
use Rattle.std.proofs.lemmas.Slice.Eq.{bytes_eq-Decides}
use Rattle.pblk_model.specs.declared.script.Command.{Command}
use Rattle.pblk_model.specs.declared.script.Command.TheVariants.{Write, Read, Flush, Post, Await}
use Rattle.pblk_model.specs.declared.script.ScriptErr.{ScriptErr}
use Rattle.pblk_model.specs.declared.script.ScriptErr.TheVariants as errors
use Rattle.pblk_model.specs.Checks.{first_refusal, unless}
use Rattle.pblk_model.specs.Script.{CommandFits, ScriptFits, IsName, IsNameByte, command_at, thread_lines}
use Rattle.pblk_model.specs.ScriptText.{Said, Thread, Commands, Heard, Line, saids, said_in, said_line, placed, line_number, heard_after, then_heard, spoken, threads_of, script_of, threads_in, commands_in, posts, awaits_unposted, unposted, stuck_at, posts_refusal, form_holds, limit_holds, range_holds, count_holds, count_of, name_of, is_name_byte, IsScript}
use Rattle.pblk_laws.proofs.ScriptSpelling.{Spells, said_is_spelled, spelled_is_said}
use Rattle.pblk_laws.proofs.ScriptSaids.{leading_said, threads_said, script_is, saids_of, script_said, BeginsSaid, said_is, begins_of, lines_said, threads_in-append, commands_in-append, threads_counted, commands_counted, all-push, all-later, threads_all, all_threads, posts_is, post_at, post_threads, Once, once-push, once-before, OnceAt, once_at, once_said, unposted_all, all_unposted, no_leading}
use Rattle.pblk_model.proofs.Tests.{both as both_hold, le_true, not_true, within_is}

-- A line that is heard after others.
pub record IsHeard (capacity : ℕ) (before : List Said) (line : Line) (x : ℕ × Said) : Type 0 where
  pub says : said_in line.bytes ≡ Some x.1
  pub number : x.0 ≡ line_number line.number
  pub form : form_holds before x.1 ≡ true
  pub early : nat_lt line.offset 4194304 ≡ true
  pub limit : limit_holds before x.1 ≡ true
  pub range : range_holds capacity x.1 ≡ true

by_tests : {A : Type 0} (f e l r : Bool) (form limit range : ScriptErr) (y x : A)
    → option_map_or Err (first_refusal (unless f form ∷ unless (e && l) limit ∷ unless r range ∷ [])) (Ok y) ≡ Ok x
    → (f ≡ true) × (e ≡ true) × (l ≡ true) × (r ≡ true) × (y ≡ x)
by_tests false e l r form limit range y x h = absurd (cc)
by_tests true false l r form limit range y x h = absurd (cc)
by_tests true true false r form limit range y x h = absurd (cc)
by_tests true true true false form limit range y x h = absurd (cc)
by_tests true true true true form limit range y x h = (refl, refl, refl, refl, cc)

heard_is : (capacity : ℕ) (before : List Said) (line : Line) (o : Option Said) (x : ℕ × Said) → said_in line.bytes ≡ o → placed capacity before line o ≡ Ok x
    → IsHeard capacity before line x
heard_is capacity before line None x says e = absurd (cc)
heard_is capacity before line (Some said) x says e =
    let n = line_number line.number in
    let t = by_tests (form_holds before said) (nat_lt line.offset 4194304) (limit_holds before said) (range_holds capacity said) (errors.Form n)
    (errors.Limit n) (errors.Range n) (n, said) x e in
    let same : said ≡ x.1 = ap (λ y. y.1) t.4 in
    record {
      says = says ∙ ap Some same;
      number = sym (ap (λ y. y.0) t.4);
      form = ap (form_holds before) (sym same) ∙ t.0;
      early = t.1;
      limit = ap (limit_holds before) (sym same) ∙ t.2;
      range = ap (range_holds capacity) (sym same) ∙ t.3;
    }

tests_pass : {A : Type 0} (f e l r : Bool) (form limit range : ScriptErr) (y : A) → f ≡ true → e ≡ true → l ≡ true → r ≡ true
    → option_map_or Err (first_refusal (unless f form ∷ unless (e && l) limit ∷ unless r range ∷ [])) (Ok y) ≡ Ok y
tests_pass f e l r form limit range y hf he hl hr = rw hf (rw he (rw hl (rw hr refl)))

is_heard : (capacity : ℕ) (before : List Said) (line : Line) (x : ℕ × Said) → IsHeard capacity before line x
    → placed capacity before line (said_in line.bytes) ≡ Ok x
is_heard capacity before line x h =
    let n = line_number line.number in
    ap (placed capacity before line) h.says
    ∙ tests_pass (form_holds before x.1) (nat_lt line.offset 4194304) (limit_holds before x.1) (range_holds capacity x.1) (errors.Form n) (errors.Limit n)
    (errors.Range n) (n, x.1) h.form h.early h.limit h.range
    ∙ ap (λ m. Ok (m, x.1)) (sym h.number)

-- Lines that are heard, one after another.
abbrev pub AreHeard : ℕ → Heard → List Line → Heard → Type 0
AreHeard capacity before [] [] = Unit {0}
AreHeard capacity before [] (x ∷ more) = ⊥
AreHeard capacity before (line ∷ lines) [] = ⊥
AreHeard capacity before (line ∷ lines) (x ∷ more) = IsHeard capacity (saids before) line x × AreHeard capacity (before ++ x ∷ []) lines more

then_ok : {A B : Type 0} (r : Result A ScriptErr) (f : A → Result B ScriptErr) (y : B) → then_heard r f ≡ Ok y → (x : A) × (r ≡ Ok x) × (f x ≡ Ok y)
then_ok (Ok x) f y e = (x, refl, e)
then_ok (Err d) f y e = absurd (cc)

pub lines_heard : (capacity : ℕ) (before : Heard) (lines : List Line) (heard : Heard) → heard_after capacity before lines ≡ Ok heard
    → (more : Heard) × (heard ≡ before ++ more) × AreHeard capacity before lines more
unfolding heard_after
lines_heard capacity before [] heard e = ([], (let same : before ≡ heard = cc in sym same ∙ sym (append-nil before)), tt)
lines_heard capacity before (line ∷ lines) heard e =
    let first = then_ok (placed capacity (saids before) line (said_in line.bytes)) (λ x. heard_after capacity (before ++ x ∷ []) lines) heard e in
    let rest = lines_heard capacity (before ++ first.0 ∷ []) lines heard first.2 in (
      first.0 ∷ rest.0,
      rest.1 ∙ append_assoc before (first.0 ∷ []) rest.0,
      (heard_is capacity (saids before) line (said_in line.bytes) first.0 refl first.1, rest.2),
    )

pub heard_lines : (capacity : ℕ) (before : Heard) (lines : List Line) (more : Heard) → AreHeard capacity before lines more
    → heard_after capacity before lines ≡ Ok (before ++ more)
unfolding heard_after
heard_lines capacity before [] [] h = ap Ok (sym (append-nil before))
heard_lines capacity before [] (x ∷ more) h = absurd h
heard_lines capacity before (line ∷ lines) [] h = absurd h
heard_lines capacity before (line ∷ lines) (x ∷ more) h =
    ap (λ r. then_heard r (λ x. heard_after capacity (before ++ x ∷ []) lines)) (is_heard capacity (saids before) line x h.0)
    ∙ heard_lines capacity (before ++ x ∷ []) lines more h.1 ∙ ap Ok (append_assoc before (x ∷ []) more)

-- the bytes and the places of lines that are heard
pub heard_bytes : (capacity : ℕ) (before : Heard) (lines : List Line) (more : Heard) → AreHeard capacity before lines more
    → map (λ line. line.bytes) lines ≡ map said_line (saids more)
heard_bytes capacity before [] [] h = refl
heard_bytes capacity before [] (x ∷ more) h = absurd h
heard_bytes capacity before (line ∷ lines) [] h = absurd h
heard_bytes capacity before (line ∷ lines) (x ∷ more) h =
    ap (λ b. b ∷ map (λ line. line.bytes) lines) (said_is_spelled line.bytes x.1 h.0.says).0
    ∙ ap (λ bs. said_line x.1 ∷ bs) (heard_bytes capacity (before ++ x ∷ []) lines more h.1)

pub heard_early : (capacity : ℕ) (before : Heard) (lines : List Line) (more : Heard) → AreHeard capacity before lines more
    → AllByRecursion (λ line. line.offset < 4194304) lines
heard_early capacity before [] [] h = tt
heard_early capacity before [] (x ∷ more) h = absurd h
heard_early capacity before (line ∷ lines) [] h = absurd h
heard_early capacity before (line ∷ lines) (x ∷ more) h =
    ((Decides-ltb line.offset 4194304).0 h.0.early, heard_early capacity (before ++ x ∷ []) lines more h.1)

-- What a command may be.

abbrev pub SaidFits : ℕ → Said → Type 0
SaidFits capacity Thread = Unit {0}
SaidFits capacity (Commands c) = CommandFits capacity c

name_bytes : (name : List ℕ) → list_all is_name_byte name ≡ true → AllByRecursion IsNameByte name
name_bytes [] e = tt
name_bytes (b ∷ name) e = let both = both_hold (is_name_byte b) (list_all is_name_byte name) e in (name_byte b both.0, name_bytes name both.1)
  where
    name_byte : (b : ℕ) → is_name_byte b ≡ true → IsNameByte b
    name_byte b e = elim (cases_Bool (nat_le 48 b && nat_le b 57)) [
      | inl digit ↦ let both = both_hold (nat_le 48 b) (nat_le b 57) digit in inl (within_is 48 b both.0, within_is b 57 both.1)
      | inr other ↦ let letter : (nat_le 97 b && nat_le b 122) ≡ true = (rw other at e) in
          let both = both_hold (nat_le 97 b) (nat_le b 122) letter in
          inr (within_is 97 b both.0, within_is b 122 both.1)
    ]

bytes_name : (name : List ℕ) → AllByRecursion IsNameByte name → list_all is_name_byte name ≡ true
bytes_name [] h = refl
bytes_name (b ∷ name) h = rw (byte_name b h.0) (bytes_name name h.1)
  where
    or_last : (p : Bool) → (p || true) ≡ true
    or_last true = refl
    or_last false = refl

    byte_name : (b : ℕ) → IsNameByte b → is_name_byte b ≡ true
    byte_name b (inl d) = rw (le_true 48 b d.0) (rw (le_true b 57 d.1) refl)
    byte_name b (inr l) = rw (le_true 97 b l.0) (rw (le_true b 122 l.1) (or_last (nat_le 48 b && nat_le b 57)))

name_fits : (name : List ℕ) → name_of name ≡ Some name → IsName name
name_fits name e = elim (cases_Bool (nat_le 1 (length name) && nat_le (length name) 16 && list_all is_name_byte name)) [
  | inl is ↦
      let both = both_hold (nat_le 1 (length name) && nat_le (length name) 16) (list_all is_name_byte name) is in
      let sizes = both_hold (nat_le 1 (length name)) (nat_le (length name) 16) both.0 in
      record { some = within_is 1 (length name) sizes.0; short = within_is (length name) 16 sizes.1; bytes = name_bytes name both.1 }
  | inr none ↦ absurd (let found : None ≡ Some name = (rw none at e) in cc)
]

fits_name : (name : List ℕ) → IsName name → name_of name ≡ Some name
fits_name name h = rw (le_true 1 (length name) h.some) (rw (le_true (length name) 16 h.short) (rw (bytes_name name h.bytes) refl))

said_fits : (capacity : ℕ) (before : List Said) (said : Said) → Spells said → limit_holds before said ≡ true → range_holds capacity said ≡ true
    → SaidFits capacity said
said_fits capacity before Thread s l r = tt
said_fits capacity before (Commands (Write lba count tag)) s l r =
    let counted = both_hold (nat_le 1 count) (nat_le count 16) (both_hold _ _ l).1 in
    (record { number = s.0; some = within_is 1 count counted.0; few = within_is count 16 counted.1; within = within_is (lba + count) capacity r }, s.2)
said_fits capacity before (Commands (Read lba count)) s l r =
    let counted = both_hold (nat_le 1 count) (nat_le count 16) (both_hold _ _ l).1 in
    record { number = s.0; some = within_is 1 count counted.0; few = within_is count 16 counted.1; within = within_is (lba + count) capacity r }
said_fits capacity before (Commands Flush) s l r = tt
said_fits capacity before (Commands (Post name)) s l r = name_fits name s
said_fits capacity before (Commands (Await name)) s l r = name_fits name s

pub fits_spells : (capacity : ℕ) (said : Said) → SaidFits capacity said → Spells said
fits_spells capacity Thread h = tt
fits_spells capacity (Commands (Write lba count tag)) h = (h.0.number, omega (arith, h.0.few), h.1)
fits_spells capacity (Commands (Read lba count)) h = (h.number, omega (arith, h.few))
fits_spells capacity (Commands Flush) h = tt
fits_spells capacity (Commands (Post name)) h = fits_name name h
fits_spells capacity (Commands (Await name)) h = fits_name name h

fits_range : (capacity : ℕ) (said : Said) → SaidFits capacity said → range_holds capacity said ≡ true
fits_range capacity Thread h = refl
fits_range capacity (Commands (Write lba count tag)) h = le_true (lba + count) capacity h.0.within
fits_range capacity (Commands (Read lba count)) h = le_true (lba + count) capacity h.within
fits_range capacity (Commands Flush) h = refl
fits_range capacity (Commands (Post name)) h = refl
fits_range capacity (Commands (Await name)) h = refl

fits_count : (capacity : ℕ) (c : Command) → CommandFits capacity c → count_holds (count_of c) ≡ true
fits_count capacity (Write lba count tag) h = rw (le_true 1 count h.0.some) (le_true count 16 h.0.few)
fits_count capacity (Read lba count) h = rw (le_true 1 count h.some) (le_true count 16 h.few)
fits_count capacity Flush h = refl
fits_count capacity (Post name) h = refl
fits_count capacity (Await name) h = refl

-- What was said keeps the limits.
pub record IsSound (capacity : ℕ) (s : List Said) : Type 0 where
  pub begins : BeginsSaid s
  pub threads : threads_in s ≤ 16
  pub commands : commands_in s ≤ 200000
  pub each : AllByRecursion (SaidFits capacity) s
  pub once : Once s

begins-push : (s : List Said) (x : Said) → BeginsSaid s → form_holds s x ≡ true → BeginsSaid (s ++ x ∷ [])
begins-push [] Thread b e = tt
begins-push [] (Commands (Write lba count tag)) b e = absurd (false≢true e)
begins-push [] (Commands (Read lba count)) b e = absurd (false≢true e)
begins-push [] (Commands Flush) b e = absurd (false≢true e)
begins-push [] (Commands (Post name)) b e = absurd (false≢true e)
begins-push [] (Commands (Await name)) b e = absurd (false≢true e)
begins-push (Thread ∷ s) x b e = tt
begins-push (Commands c ∷ s) x b e = absurd b

new_post : (s : List Said) (x : Said) → form_holds s x ≡ true → (name : List ℕ) → posts name x ≡ true → list_any (posts name) s ≡ false
new_post s x e name is =
    let same = posts_is name x is in
    let form : form_holds s (Commands (Post name)) ≡ true = ap (form_holds s) (sym same) ∙ e in
    not_true (list_any (posts name) s) (both_hold (not (threads_in s == 0)) (not (list_any (posts name) s)) form).1

pushed_threads : (s : List Said) (x : Said) → threads_in s ≤ 16 → limit_holds s x ≡ true → threads_in (s ++ x ∷ []) ≤ 16
pushed_threads s Thread h l = omega (arith, threads_in-append s (Thread ∷ []), (Decides-ltb (threads_in s) 16).0 l)
pushed_threads s (Commands c) h l = omega (arith, threads_in-append s (Commands c ∷ []), h)

pushed_commands : (s : List Said) (x : Said) → commands_in s ≤ 200000 → limit_holds s x ≡ true → commands_in (s ++ x ∷ []) ≤ 200000
pushed_commands s Thread h l = omega (arith, commands_in-append s (Thread ∷ []), h)
pushed_commands s (Commands c) h l =
    omega (
      arith,
      commands_in-append s (Commands c ∷ []),
      (Decides-ltb (commands_in s) 200000).0 (both_hold (nat_lt (commands_in s) 200000) (count_holds (count_of c)) l).0,
    )

sound-push : (capacity : ℕ) (s : List Said) (line : Line) (x : ℕ × Said) → IsSound capacity s → IsHeard capacity s line x → IsSound capacity (s ++ x.1 ∷ [])
sound-push capacity s line x h is = record {
  begins = begins-push s x.1 h.begins is.form;
  threads = pushed_threads s x.1 h.threads is.limit;
  commands = pushed_commands s x.1 h.commands is.limit;
  each = all-push (SaidFits capacity) s x.1 h.each (said_fits capacity s x.1 (said_is_spelled line.bytes x.1 is.says).1 is.limit is.range);
  once = once-push s x.1 h.once (new_post s x.1 is.form);
}

saids-append : (a b : Heard) → saids (a ++ b) ≡ saids a ++ saids b
saids-append a b = map-append (λ x. x.1) a b

pub sound_heard : (capacity : ℕ) (before : Heard) (lines : List Line) (more : Heard) → IsSound capacity (saids before) → AreHeard capacity before lines more
    → IsSound capacity (saids (before ++ more))
sound_heard capacity before [] [] s h = subst (λ b. IsSound capacity (saids b)) (sym (append-nil before)) s
sound_heard capacity before [] (x ∷ more) s h = absurd h
sound_heard capacity before (line ∷ lines) [] s h = absurd h
sound_heard capacity before (line ∷ lines) (x ∷ more) s h =
    let pushed = subst (IsSound capacity) (sym (saids-append before (x ∷ []))) (sound-push capacity (saids before) line x s h.0) in
    subst (λ b. IsSound capacity (saids b)) (append_assoc before (x ∷ []) more) (sound_heard capacity (before ++ x ∷ []) lines more pushed h.1)

-- The script that fits.

each_fits : (capacity : ℕ) (s : List Said) → AllByRecursion (SaidFits capacity) s
    → AllByRecursion (CommandFits capacity) (leading_said s) × AllByRecursion (AllByRecursion (CommandFits capacity)) (threads_said s)
each_fits capacity [] h = (tt, tt)
each_fits capacity (Thread ∷ s) h = let rest = each_fits capacity s h.1 in (tt, rest)
each_fits capacity (Commands c ∷ s) h = let rest = each_fits capacity s h.1 in ((h.0, rest.0), rest.1)

awaited : (name : List ℕ) (s : List Said) → awaits_unposted s (Commands (Await name)) ≡ false → list_any (posts name) s ≡ true
awaited name s e = elim (cases_Bool (list_any (posts name) s)) [
  | inl some ↦ some
  | inr none ↦ absurd (true≢false (sym (ap not none) ∙ e))
]

posted_at : (name : List ℕ) (s : List Said) → BeginsSaid s → list_any (posts name) s ≡ true
    → (i : ℕ) × (c : ℕ) × (command_at (threads_said s) i c ≡ Some (Post name))
posted_at name s b e = elim (post_at name s e) [
  | inl w ↦ absurd (let none : None ≡ Some (Post name) = (rw (no_leading s b) at w.1) in cc)
  | inr w ↦ w
]

pub sound_fits : (capacity : ℕ) (s : List Said) → IsSound capacity s → AllByRecursion (λ x. awaits_unposted s x ≡ false) s
    → ScriptFits capacity (threads_said s)
sound_fits capacity s h awaits = record {
  threads = omega (arith, threads_counted s, h.threads);
  commands = omega (arith, commands_counted s h.begins, h.commands);
  each = (each_fits capacity s h.each).1;
  once = (once_at s h.once).later;
  posted = λ j d name e. posted_at name s h.begins (awaited name s (threads_all (λ x. awaits_unposted s x ≡ false) s awaits j d (Await name) e));
}

-- What was said of a script that fits.

fits_each : (capacity : ℕ) (t : List Command) (ts : List (List Command)) → AllByRecursion (CommandFits capacity) t
    → AllByRecursion (SaidFits capacity) (saids_of ts) → AllByRecursion (SaidFits capacity) (map Commands t ++ saids_of ts)
fits_each capacity [] ts h k = k
fits_each capacity (c ∷ t) ts h k = (h.0, fits_each capacity t ts h.1 k)

all_fit : (capacity : ℕ) (script : List (List Command)) → AllByRecursion (AllByRecursion (CommandFits capacity)) script
    → AllByRecursion (SaidFits capacity) (saids_of script)
all_fit capacity [] h = tt
all_fit capacity (t ∷ ts) h = (tt, fits_each capacity t ts h.0 (all_fit capacity ts h.1))

pub fits_sound : (capacity : ℕ) (script : List (List Command)) → ScriptFits capacity script → IsSound capacity (saids_of script)
fits_sound capacity script h =
    let s = saids_of script in
    let is = script_said script in
    let none = no_leading s (begins_of script) in
    record {
      begins = begins_of script;
      threads = omega (arith, threads_counted s, ap length is, h.threads);
      commands = omega (arith, commands_counted s (begins_of script), ap (sum_by length) is, h.commands);
      each = all_fit capacity script h.each;
      once = once_said s (subst (λ first. OnceAt first (threads_said s)) (sym none) (subst (OnceAt []) (sym is) (record {
        inside = λ c d name e k. absurd (cc);
        apart = λ c j d name e k. cc;
        later = h.once;
      })));
    }

pub fits_awaits : (capacity : ℕ) (script : List (List Command)) → ScriptFits capacity script
    → AllByRecursion (λ x. awaits_unposted (saids_of script) x ≡ false) (saids_of script)
fits_awaits capacity script h =
    let s = saids_of script in
    let is = script_said script in
    all_threads (λ x. awaits_unposted s x ≡ false) s refl
    (λ c command e. absurd (let none : None ≡ Some command = (rw (no_leading s (begins_of script)) at e) in cc))
    (λ i c command e. await_posted capacity script h s is i c command (subst (λ ts. command_at ts i c ≡ Some command) is e))
  where
    await_posted : (capacity : ℕ) (script : List (List Command)) → ScriptFits capacity script → (s : List Said) → threads_said s ≡ script
        → (i c : ℕ) (command : Command) → command_at script i c ≡ Some command → awaits_unposted s (Commands command) ≡ false
    await_posted capacity script h s is i c (Write lba count tag) e = refl
    await_posted capacity script h s is i c (Read lba count) e = refl
    await_posted capacity script h s is i c Flush e = refl
    await_posted capacity script h s is i c (Post name) e = refl
    await_posted capacity script h s is i c (Await name) e =
        let w = h.posted i c name e in
        ap not (post_threads name s w.0 w.1 (subst (λ ts. command_at ts w.0 w.1 ≡ Some (Post name)) (sym is) w.2))

-- Lines that are a script's are heard.

not_zero : (n : ℕ) → 1 ≤ n → not (n == 0) ≡ true
not_zero n h = grind (arith, nat_tests)

some_thread : (a : List Said) (c : Command) (b : List Said) → BeginsSaid (a ++ Commands c ∷ b) → 1 ≤ threads_in a
some_thread [] c b h = absurd h
some_thread (Thread ∷ a) c b h = omega arith
some_thread (Commands d ∷ a) c b h = absurd h

form_passes : (capacity : ℕ) (a : List Said) (x : Said) (b : List Said) → IsSound capacity (a ++ x ∷ b) → form_holds a x ≡ true
form_passes capacity a Thread b h = refl
form_passes capacity a (Commands (Write lba count tag)) b h = not_zero (threads_in a) (some_thread a (Write lba count tag) b h.begins)
form_passes capacity a (Commands (Read lba count)) b h = not_zero (threads_in a) (some_thread a (Read lba count) b h.begins)
form_passes capacity a (Commands Flush) b h = not_zero (threads_in a) (some_thread a Flush b h.begins)
form_passes capacity a (Commands (Await name)) b h = not_zero (threads_in a) (some_thread a (Await name) b h.begins)
form_passes capacity a (Commands (Post name)) b h =
    rw (not_zero (threads_in a) (some_thread a (Post name) b h.begins)) (rw (once-before a b (Commands (Post name)) name h.once (posts_here name)) refl)
  where
    posts_here : (name : List ℕ) → posts name (Commands (Post name)) ≡ true
    posts_here name = (bytes_eq-Decides name name).1 refl

limit_passes : (capacity : ℕ) (a : List Said) (x : Said) (b : List Said) → IsSound capacity (a ++ x ∷ b) → limit_holds a x ≡ true
limit_passes capacity a Thread b h = (Decides-ltb (threads_in a) 16).1 (omega (arith, h.threads, threads_in-append a (Thread ∷ b)))
limit_passes capacity a (Commands c) b h =
    let fits : CommandFits capacity c = (all-later (SaidFits capacity) a (Commands c ∷ b) h.each).0 in
    rw ((Decides-ltb (commands_in a) 200000).1 (omega (arith, h.commands, commands_in-append a (Commands c ∷ b)))) (fits_count capacity c fits)

pub hears : (capacity : ℕ) (before : Heard) (lines : List Line) (s : List Said) → IsSound capacity (saids before ++ s)
    → map (λ line. line.bytes) lines ≡ map said_line s → AllByRecursion (λ line. line.offset < 4194304) lines
    → (more : Heard) × (saids more ≡ s) × AreHeard capacity before lines more
hears capacity before [] [] h e early = ([], refl, tt)
hears capacity before [] (x ∷ s) h e early = absurd (cc)
hears capacity before (line ∷ lines) [] h e early = absurd (cc)
hears capacity before (line ∷ lines) (x ∷ s) h e early =
    let bytes : line.bytes ≡ said_line x = cc in
    let others : map (λ line. line.bytes) lines ≡ map said_line s = cc in
    let fits : SaidFits capacity x = (all-later (SaidFits capacity) (saids before) (x ∷ s) h.each).0 in
    let this : ℕ × Said = (line_number line.number, x) in
    let regroup : saids before ++ x ∷ s ≡ saids (before ++ this ∷ []) ++ s = sym (append_assoc (saids before) (x ∷ []) s)
    ∙ ap (λ b. b ++ s) (sym (saids-append before (this ∷ []))) in
    let rest = hears capacity (before ++ this ∷ []) lines s (subst (IsSound capacity) regroup h) others early.1 in (
      this ∷ rest.0,
      ap (λ t. x ∷ t) rest.1,
      (
        record {
          says = ap said_in bytes ∙ spelled_is_said x (fits_spells capacity x fits);
          number = refl;
          form = form_passes capacity (saids before) x s h;
          early = (Decides-ltb line.offset 4194304).1 early.0;
          limit = limit_passes capacity (saids before) x s h;
          range = fits_range capacity x fits;
        },
        rest.2,
      ),
    )

-- What is read.

told_parts : {A : Type 0} (u k : Option ℕ) (x y : A)
    → option_map_or Err (first_refusal (option_map errors.NeverPosted u ∷ option_map errors.Stuck k ∷ [])) (Ok x) ≡ Ok y → (u ≡ None) × (k ≡ None) × (x ≡ y)
told_parts None None x y e = (refl, refl, cc)
told_parts None (Some n) x y e = absurd (cc)
told_parts (Some n) k x y e = absurd (cc)

-- what a script that is read was heard as
pub record IsRead (capacity : ℕ) (bytes : List ℕ) (script : List (List Command)) : Type 0 where
  pub heard : Heard
  pub lines : AreHeard capacity [] (spoken bytes) heard
  pub sound : IsSound capacity (saids heard)
  pub awaits : AllByRecursion (λ x. awaits_unposted (saids heard) x ≡ false) (saids heard)
  pub flows : stuck_at (threads_of heard) ≡ None
  pub script_of_heard : script_of heard ≡ script

pub nothing_sound : (capacity : ℕ) → IsSound capacity []
nothing_sound capacity = record { begins = tt; threads = omega arith; commands = omega arith; each = tt; once = tt }

pub read : (capacity : ℕ) (bytes : List ℕ) (script : List (List Command)) → IsScript capacity bytes script → IsRead capacity bytes script
read capacity bytes script e =
    let first = then_ok (heard_after capacity [] (spoken bytes)) (λ heard. option_map_or Err (posts_refusal heard) (Ok (script_of heard))) script e in
    let all = lines_heard capacity [] (spoken bytes) first.0 first.1 in
    let told = told_parts (unposted (saids first.0) first.0) (stuck_at (threads_of first.0)) (script_of first.0) script first.2 in
    record {
      heard = first.0;
      lines = subst (AreHeard capacity [] (spoken bytes)) (sym all.1) all.2;
      sound = subst (λ h. IsSound capacity (saids h)) (sym all.1) (sound_heard capacity [] (spoken bytes) all.0 (nothing_sound capacity) all.2);
      awaits = unposted_all (saids first.0) first.0 told.0;
      flows = told.1;
      script_of_heard = told.2;
    }

pub read_is_spelled : (capacity : ℕ) (bytes : List ℕ) (script : List (List Command)) → IsScript capacity bytes script
    → map (λ line. line.bytes) (spoken bytes) ≡ flat_map thread_lines script
read_is_spelled capacity bytes script e =
    let r = read capacity bytes script e in
    let is : saids_of script ≡ saids r.heard = sym (said_is (saids r.heard) r.sound.begins ∙ ap saids_of (sym (script_is r.heard) ∙ r.script_of_heard)) in
    heard_bytes capacity [] (spoken bytes) r.heard r.lines ∙ ap (map said_line) (sym is) ∙ lines_said script

pub read_is_early : (capacity : ℕ) (bytes : List ℕ) (script : List (List Command)) → IsScript capacity bytes script
    → AllByRecursion (λ line. line.offset < 4194304) (spoken bytes)
read_is_early capacity bytes script e = let r = read capacity bytes script e in heard_early capacity [] (spoken bytes) r.heard r.lines

pub read_fits : (capacity : ℕ) (bytes : List ℕ) (script : List (List Command)) → IsScript capacity bytes script → ScriptFits capacity script
read_fits capacity bytes script e =
    let r = read capacity bytes script e in
    subst (ScriptFits capacity) (sym (script_is r.heard) ∙ r.script_of_heard) (sound_fits capacity (saids r.heard) r.sound r.awaits)

tell : {A : Type 0} (u k : Option ℕ) (x : A) → u ≡ None → k ≡ None
    → option_map_or Err (first_refusal (option_map errors.NeverPosted u ∷ option_map errors.Stuck k ∷ [])) (Ok x) ≡ Ok x
tell u k x e f = rw e (rw f refl)

-- what is spelled so is read, where its threads are not stuck, however their lines are numbered
pub spelled_is_read_by : (capacity : ℕ) (bytes : List ℕ) (script : List (List Command)) → map (λ line. line.bytes) (spoken bytes) ≡ flat_map thread_lines script
    → AllByRecursion (λ line. line.offset < 4194304) (spoken bytes) → ScriptFits capacity script
    → ((heard : Heard) → script_of heard ≡ script → stuck_at (threads_of heard) ≡ None) → IsScript capacity bytes script
spelled_is_read_by capacity bytes script e early fits flows =
    let s = saids_of script in
    let more = hears capacity [] (spoken bytes) s (fits_sound capacity script fits) (e ∙ sym (lines_said script)) early in
    let made : script_of more.0 ≡ script = script_is more.0 ∙ ap threads_said more.1 ∙ script_said script in
    let awaits : unposted (saids more.0) more.0 ≡ None =
    all_unposted (saids more.0) more.0 (subst (λ s. AllByRecursion (λ x. awaits_unposted s x ≡ false) s) (sym more.1) (fits_awaits capacity script fits)) in
    ap (λ r. then_heard r (λ heard. option_map_or Err (posts_refusal heard) (Ok (script_of heard)))) (heard_lines capacity [] (spoken bytes) more.0 more.2)
    ∙ tell (unposted (saids more.0) more.0) (stuck_at (threads_of more.0)) (script_of more.0) awaits (flows more.0 made)
    ∙ ap Ok made

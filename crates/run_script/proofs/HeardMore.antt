-- One more line that was heard.
use Rattle.std.proofs.Common.{◌≡◌, ◌≢◌, ℕ, ◌+◌, ◌<◌, ◌≤◌, ◌==◌, ◌||◌, not, Bool, true, false, List, [], ◌∷◌, ◌++◌, length, Option, Some, None, refl, sym, ap, ◌∙◌, subst, arith}
use Rattle.std.specs.List.{list_any}
use Rattle.std.specs.Option.{option_map, option_to_list}
use Rattle.std.specs.Str.{bytes_eq}
use Rattle.std.proofs.lemmas.Bool.{true≢false}
use Rattle.std.proofs.lemmas.List.{map-append, length-append}
use Rattle.std.proofs.lemmas.List.Folds.{list_any-append}
use Rattle.pblk_model.specs.declared.script.Command.{Command}
use Rattle.pblk_model.specs.declared.script.Command.TheVariants.{Write, Read, Flush, Post, Await}
use Rattle.pblk_model.specs.ScriptText.{Said, Thread, Commands, Heard, Numbered, saids, leading, threads_of, threads_in, commands_in, posts, form_holds, limit_holds}
use Rattle.run_script.specs.declared.reader.Reader.{Reader}
use Rattle.run_script.specs.declared.names.Names.{Names}
use Rattle.run_script.specs.Names.{holds}
use Rattle.run_script.specs.Heard.{ArePosted, threads_kept, BeginsThread, IsRead, Adds, Hears}
use Rattle.pblk_model.proofs.Tests.{below_of, first_of}

-- The threads.

leading-thread : (h : Heard) (n : ℕ) → leading (h ++ (n, Thread) ∷ []) ≡ leading h
unfolding leading
leading-thread [] n = refl
leading-thread ((m, Thread) ∷ h) n = refl
leading-thread ((m, Commands c) ∷ h) n = ap (λ t. (m, c) ∷ t) (leading-thread h n)

pub threads_of-thread : (h : Heard) (n : ℕ) → threads_of (h ++ (n, Thread) ∷ []) ≡ threads_of h ++ [] ∷ []
unfolding threads_of leading
threads_of-thread [] n = refl
threads_of-thread ((m, Thread) ∷ h) n = rw (leading-thread h n) (ap (λ t. leading h ∷ t) (threads_of-thread h n))
threads_of-thread ((m, Commands c) ∷ h) n = threads_of-thread h n

no_threads-command : (h : Heard) (n : ℕ) (c : Command) → threads_of h ≡ [] → (threads_of (h ++ (n, Commands c) ∷ []) ≡ [])
    × (leading (h ++ (n, Commands c) ∷ []) ≡ leading h ++ (n, c) ∷ [])
unfolding threads_of leading
no_threads-command [] n c e = (refl, refl)
no_threads-command ((m, Thread) ∷ h) n c e = absurd (cc)
no_threads-command ((m, Commands d) ∷ h) n c e = let more = no_threads-command h n c e in (more.0, ap (λ t. (m, d) ∷ t) more.1)

some_threads-command : (h : Heard) (n : ℕ) (c : Command) (t : Numbered) (ts : List Numbered) → threads_of h ≡ t ∷ ts
    → leading (h ++ (n, Commands c) ∷ []) ≡ leading h
unfolding threads_of leading
some_threads-command [] n c t ts e = absurd (cc)
some_threads-command ((m, Thread) ∷ h) n c t ts e = refl
some_threads-command ((m, Commands d) ∷ h) n c t ts e = ap (λ t. (m, d) ∷ t) (some_threads-command h n c t ts e)

pub threads_of-command : (h : Heard) (n : ℕ) (c : Command) (done : List Numbered) (t : Numbered) → threads_of h ≡ done ++ t ∷ []
    → threads_of (h ++ (n, Commands c) ∷ []) ≡ done ++ (t ++ (n, c) ∷ []) ∷ []
unfolding threads_of
threads_of-command [] n c [] t e = absurd (cc)
threads_of-command [] n c (d ∷ done) t e = absurd (cc)
threads_of-command ((m, Commands d) ∷ h) n c done t e = threads_of-command h n c done t e
threads_of-command ((m, Thread) ∷ h) n c [] t e =
    let none : threads_of h ≡ [] = cc in
    let first : leading h ≡ t = cc in
    let more = no_threads-command h n c none in
    rw more.0 (rw more.1 (rw first refl))
threads_of-command ((m, Thread) ∷ h) n c (d ∷ []) t e =
    let rest : threads_of h ≡ t ∷ [] = cc in
    let first : leading h ≡ d = cc in
    let rest' : threads_of h ≡ [] ++ t ∷ [] = rest in
    rw (some_threads-command h n c t [] rest) (rw first (ap (λ ts. d ∷ ts) (threads_of-command h n c [] t rest')))
threads_of-command ((m, Thread) ∷ h) n c (d ∷ d' ∷ done) t e =
    let rest : threads_of h ≡ (d' ∷ done) ++ t ∷ [] = cc in
    let first : leading h ≡ d = cc in
    rw (some_threads-command h n c d' (done ++ t ∷ []) rest) (rw first (ap (λ ts. d ∷ ts) (threads_of-command h n c (d' ∷ done) t rest)))

-- The counts.

saids-push : (h : Heard) (n : ℕ) (said : Said) → saids (h ++ (n, said) ∷ []) ≡ saids h ++ said ∷ []
saids-push h n said = map-append (λ x. x.1) h ((n, said) ∷ [])

threads_in-thread : (before : List Said) → threads_in (before ++ Thread ∷ []) ≡ threads_in before + 1
threads_in-thread [] = refl
threads_in-thread (Thread ∷ before) = ap (λ k. k + 1) (threads_in-thread before)
threads_in-thread (Commands c ∷ before) = threads_in-thread before

threads_in-command : (before : List Said) (c : Command) → threads_in (before ++ Commands c ∷ []) ≡ threads_in before
threads_in-command [] c = refl
threads_in-command (Thread ∷ before) c = ap (λ k. k + 1) (threads_in-command before c)
threads_in-command (Commands d ∷ before) c = threads_in-command before c

commands_in-thread : (before : List Said) → commands_in (before ++ Thread ∷ []) ≡ commands_in before
commands_in-thread [] = refl
commands_in-thread (Thread ∷ before) = commands_in-thread before
commands_in-thread (Commands c ∷ before) = ap (λ k. k + 1) (commands_in-thread before)

commands_in-command : (before : List Said) (c : Command) → commands_in (before ++ Commands c ∷ []) ≡ commands_in before + 1
commands_in-command [] c = refl
commands_in-command (Thread ∷ before) c = commands_in-command before c
commands_in-command (Commands d ∷ before) c = ap (λ k. k + 1) (commands_in-command before c)

-- The names.

or-false : (a b : Bool) → b ≡ false → (a || (b || false)) ≡ a
or-false true b e = refl
or-false false b e = rw e refl

or-swap : (a b : Bool) → (a || (b || false)) ≡ (b || a)
or-swap true true = refl
or-swap true false = refl
or-swap false true = refl
or-swap false false = refl

posted-other : (names : Names) (before : List Said) (said : Said) → ((name : List ℕ) → posts name said ≡ false) → ArePosted names before
    → ArePosted names (before ++ said ∷ [])
posted-other names before said none are = λ name. are name
    ∙ sym (list_any-append (posts name) before (said ∷ []) ∙ or-false (list_any (posts name) before) (posts name said) (none name))

posted-post : (old new : Names) (before : List Said) (post : List ℕ) → ((other : List ℕ) → holds new other ≡ (bytes_eq post other || holds old other))
    → ArePosted old before → ArePosted new (before ++ Commands (Post post) ∷ [])
posted-post old new before post more are = λ name.
    more name ∙ ap (λ b. bytes_eq post name || b) (are name)
    ∙ sym (list_any-append (posts name) before (Commands (Post post) ∷ []) ∙ or-swap (list_any (posts name) before) (bytes_eq post name))

posts_none : (c : Command) → ((post : List ℕ) → c ≢ Post post) → (name : List ℕ) → posts name (Commands c) ≡ false
posts_none (Write lba count tag) h name = refl
posts_none (Read lba count) h name = refl
posts_none Flush h name = refl
posts_none (Post post) h name = absurd (h post refl)
posts_none (Await await) h name = refl

-- The first line.

begins-more : (h : Heard) (n : ℕ) (said : Said) → BeginsThread h → h ≢ [] → BeginsThread (h ++ (n, said) ∷ [])
begins-more [] n said b some = absurd (some refl)
begins-more ((m, Thread) ∷ h) n said b some = tt
begins-more ((m, Commands c) ∷ h) n said b some = absurd b

begins-thread : (h : Heard) (n : ℕ) → BeginsThread h → BeginsThread (h ++ (n, Thread) ∷ [])
begins-thread [] n b = tt
begins-thread ((m, Thread) ∷ h) n b = tt
begins-thread ((m, Commands c) ∷ h) n b = absurd b

-- A reader that heard a thread.

pub read-thread : (old new : Reader) (h : Heard) (n : ℕ) → IsRead old h → Hears old new n Thread → threads_in (saids h) < 16
    → IsRead new (h ++ (n, Thread) ∷ [])
read-thread old new h n r e room =
    let more : threads_in (saids (h ++ (n, Thread) ∷ [])) ≡ threads_in (saids h) + 1 = ap threads_in (saids-push h n Thread) ∙ threads_in-thread (saids h) in
    let kept : threads_kept new ≡ threads_kept old ++ [] ∷ [] = rw e.0 (rw e.1 refl) in record {
      threads = kept ∙ ap (λ ts. ts ++ [] ∷ []) r.threads ∙ sym (threads_of-thread h n);
      count = ap length kept ∙ length-append (threads_kept old) ([] ∷ []) ∙ ap (λ k. k + 1) r.count
          ∙ sym more;
      few = omega (arith, more, room);
      opens = λ none. absurd (let both : Some [] ≡ None = sym e.1 ∙ none in cc);
      commands = e.2 ∙ r.commands ∙ sym (ap commands_in (saids-push h n Thread) ∙ commands_in-thread (saids h));
      names = subst (λ names. ArePosted names (saids (h ++ (n, Thread) ∷ []))) (sym e.3)
          (subst (ArePosted old.names) (sym (saids-push h n Thread)) (posted-other old.names (saids h) Thread (λ name. refl) r.names));
      begins = begins-thread h n r.begins;
    }

-- A reader that heard a command.

no_thread : (k : ℕ) → not (k == 0) ≡ true → k ≢ 0
no_thread k e is = absurd (true≢false (sym e ∙ rw is refl))

some_heard : (h : Heard) → not (threads_in (saids h) == 0) ≡ true → h ≢ []
some_heard h e is = no_thread (threads_in (saids h)) e (rw is refl)

current_is : (o : Option Numbered) → o ≢ None → (t : Numbered) × (o ≡ Some t)
current_is None h = absurd (h refl)
current_is (Some t) h = (t, refl)

read-command : (old new : Reader) (h : Heard) (n : ℕ) (c : Command) → IsRead old h → Adds old new n c → not (threads_in (saids h) == 0) ≡ true
    → ArePosted new.names (saids h ++ Commands c ∷ []) → IsRead new (h ++ (n, Commands c) ∷ [])
read-command old new h n c r e opened names =
    let some = some_heard h opened in
    let current = current_is old.current (λ none. some (r.opens none)) in
    let before : threads_of h ≡ old.ended.items ++ current.0 ∷ [] = sym r.threads ∙ ap (λ o. old.ended.items ++ option_to_list o) current.1 in
    let now : new.current ≡ Some (current.0 ++ (n, c) ∷ []) = e.1 ∙ ap (option_map (λ thread. thread ++ (n, c) ∷ [])) current.1 in
    let kept : threads_kept new ≡ old.ended.items ++ (current.0 ++ (n, c) ∷ []) ∷ [] = rw e.0 (rw now refl) in
    let was : threads_kept old ≡ old.ended.items ++ current.0 ∷ [] = ap (λ o. old.ended.items ++ option_to_list o) current.1 in
    record {
      threads = kept ∙ sym (threads_of-command h n c old.ended.items current.0 before);
      count = ap length kept ∙ length-append old.ended.items ((current.0 ++ (n, c) ∷ []) ∷ [])
          ∙ sym (ap length was ∙ length-append old.ended.items (current.0 ∷ [])) ∙ r.count
          ∙ sym (ap threads_in (saids-push h n (Commands c)) ∙ threads_in-command (saids h) c);
      few = subst (λ k. k ≤ 16) (sym (ap threads_in (saids-push h n (Commands c)) ∙ threads_in-command (saids h) c)) r.few;
      opens = λ none. absurd (let both : Some (current.0 ++ (n, c) ∷ []) ≡ None = sym now ∙ none in cc);
      commands = e.2 ∙ ap (λ k. k + 1) r.commands ∙ sym (ap commands_in (saids-push h n (Commands c)) ∙ commands_in-command (saids h) c);
      names = subst (ArePosted new.names) (sym (saids-push h n (Commands c))) names;
      begins = begins-more h n (Commands c) r.begins some;
    }

same_names : (old new : Names) (before : List Said) (c : Command) → ((post : List ℕ) → c ≢ Post post) → new ≡ old → ArePosted old before
    → ArePosted new (before ++ Commands c ∷ [])
same_names old new before c other same are = subst (λ names. ArePosted names (before ++ Commands c ∷ [])) (sym same)
    (posted-other old before (Commands c) (posts_none c other) are)

pub read-said : (old new : Reader) (h : Heard) (n : ℕ) (said : Said) → IsRead old h → Hears old new n said → form_holds (saids h) said ≡ true
    → limit_holds (saids h) said ≡ true → IsRead new (h ++ (n, said) ∷ [])
read-said old new h n Thread r e form limit = read-thread old new h n r e (below_of (threads_in (saids h)) 16 limit)
read-said old new h n (Commands (Post name)) r e form limit = read-command old new h n (Post name) r e.0 (first_of _ _ form)
    (posted-post old.names new.names (saids h) name e.1 r.names)
read-said old new h n (Commands (Write lba count tag)) r e form limit = read-command old new h n (Write lba count tag) r e.0 form
    (same_names old.names new.names (saids h) (Write lba count tag) (λ post is. cc) e.1 r.names)
read-said old new h n (Commands (Read lba count)) r e form limit = read-command old new h n (Read lba count) r e.0 form
    (same_names old.names new.names (saids h) (Read lba count) (λ post is. cc) e.1 r.names)
read-said old new h n (Commands Flush) r e form limit = read-command old new h n Flush r e.0 form
    (same_names old.names new.names (saids h) Flush (λ post is. cc) e.1 r.names)
read-said old new h n (Commands (Await name)) r e form limit = read-command old new h n (Await name) r e.0 form
    (same_names old.names new.names (saids h) (Await name) (λ post is. cc) e.1 r.names)

use Rattle.std.proofs.Common.{◌≡◌, ◌<◌, ◌≤◌, ℕ, zero, suc, ◌++◌, [], ◌∷◌, replicate, length, refl, sym, ap, ◌∙◌, subst, arith}
use Rattle.std.specs.List.{Contains}
use Rattle.chronicle.specs.Handles.{AuthorView, TokenView}
use Rattle.chronicle.specs.Prefixes.{logs_of}
use Rattle.chronicle_crew.specs.Ready.{blank_past}
use Rattle.chronicle_crew.proofs.crew.idle.Goals as goal

-- no log has an event yet
none_yet : (n author : ℕ) → length (logs_of (replicate n []) author) ≡ 0
none_yet zero author = refl
none_yet (suc n) zero = refl
none_yet (suc n) (suc author) = none_yet n author

pub returns-clause-hand : goal.returns-clause-hand
returns-clause-hand c =
    let number = c.args.number in
    let was = c.requires.author in
    let met = c.take_over.ensures.met in
    let owned = ap (λ (a : AuthorView). a.owned) was in
    let own = c.take_over.ensures.own number (subst (λ xs. Contains xs number) (sym owned) (0, omega arith, refl)) in
    record {
      of = ap (λ (a : AuthorView). a.chronicle) met ∙ ap (λ (a : AuthorView). a.chronicle) was;
      units = subst (λ n. 0 < n) (sym (ap (λ (a : AuthorView). a.number) met ∙ ap (λ (a : AuthorView). a.number) was)) c.requires.unit;
      within = subst (λ n. n ≤ 8) (sym (ap (λ (a : AuthorView). a.number) met ∙ ap (λ (a : AuthorView). a.number) was)) c.requires.within;
      owned = ap (λ (a : AuthorView). a.owned) met ∙ owned
          ∙ ap (λ n. n ∷ []) (sym (ap (λ (a : AuthorView). a.number) met ∙ ap (λ (a : AuthorView). a.number) was));
      past = ap (λ (a : AuthorView). a.past) met ∙ ap (λ (a : AuthorView). a.past) was;
      counted =
          ap (λ n. length (logs_of c.take_over.new.self.known n)) (ap (λ (a : AuthorView). a.number) met ∙ ap (λ (a : AuthorView). a.number) was)
          ∙ ap length own ∙ ap (λ (a : AuthorView). length (logs_of a.known number)) was ∙ none_yet 9 number;
      makers = ap (λ (a : AuthorView). a.makers) met ∙ ap (λ (a : AuthorView). a.makers ++ c.lend-lent.result.makers) was
          ∙ ap (λ (t : TokenView). t.makers) c.lend-lent.ensures.lent ∙ c.requires.makers;
      beside = ap (λ (t : TokenView). t.chronicle) c.lend-lent.ensures.kept ∙ c.requires.token;
    }

-- A right to number a worker's commands that was lent to a unit's author, and given back.
use Rattle.std.proofs.Common.{◌≡◌, ℕ, suc, ◌+◌, Bool, if◌then◌else◌, None, List, [], ◌∷◌, ◌++◌, length, refl, sym, subst, ap, ap₂, ◌∙◌, arith}
use Rattle.std.specs.List.{Contains}
use Rattle.pblk_model.specs.Image.{Image}
use Rattle.pblk_model.specs.UnitLog.{UnitEvent}
use Rattle.pblk_model.proofs.Parts.{is_in}
use Rattle.pblk_model.proofs.Tests.{same_number}
use Rattle.pblk_world.specs.Events.{Does, Maker}
use Rattle.chronicle.specs.Handles.{AuthorView, TokenView}
use Rattle.chronicle.specs.Prefixes.{Prefixes, longer_of, with_event, either, next_after, ArePrefixes, AreLegalLogs}
use Rattle.chronicle.proofs.PrefixLemmas.{longer_left}

-- who knows all that another knows learns nothing of it
pub longer_same : (a b : Prefixes) → length a ≡ length b → ArePrefixes b a → longer_of a b ≡ a
longer_same [] [] same less = refl
longer_same [] (ys ∷ yss) same less = absurd (omega arith)
longer_same (xs ∷ xss) [] same less = refl
longer_same (xs ∷ xss) (ys ∷ yss) same less =
    ap₂ (λ z (zs : Prefixes). z ∷ zs) (longer_left xs ys (less.each 0))
    (longer_same xss yss (omega arith) (record { each = λ author. less.each (suc author) }))

-- both are legal worlds
pub longer_legal : (i : Image) (a b : Prefixes) → AreLegalLogs i a → AreLegalLogs i b → ArePrefixes b a → longer_of a b ≡ a
longer_legal i a b first second less = longer_same a b (first.authors ∙ sym second.authors) less

abbrev pub maker_of : ℕ → ℕ → Maker
maker_of worker made = record { worker = worker; made = made }

-- one that numbers a worker's commands numbers its next one, and then the one after that
pub its_next : (makers : List Maker) (worker count : ℕ) → makers ≡ maker_of worker count ∷ [] → Contains makers (maker_of worker count)
its_next makers worker count is =
    subst (λ ms. Contains ms (maker_of worker count)) (sym is) (is_in (maker_of worker count ∷ []) 0 (maker_of worker count) refl)

pub one_later : (e : UnitEvent) (makers : List Maker) (worker count : ℕ) → makers ≡ maker_of worker count ∷ []
    → next_after (Does e (maker_of worker count)) makers ≡ maker_of worker (count + 1) ∷ []
one_later e makers worker count is =
    ap (next_after (Does e (maker_of worker count))) is
    ∙ ap (λ (b : Bool). (if b then maker_of worker (count + 1) else maker_of worker count) ∷ []) (same_number worker)

-- ---- an author takes over what a token lent, which knows no more

module _ (i : Image) (old over : AuthorView) (token lent : TokenView) (worker count : ℕ) (legal : AreLegalLogs i old.known)
    (its_legal : AreLegalLogs i token.known) (less : ArePrefixes token.known old.known) (makes_none : old.makers ≡ []) (names_none : old.spare ≡ None)
    (its_makers : token.makers ≡ maker_of worker count ∷ []) (its_spare : token.spare ≡ None) (lends : lent ≡ token)
    (takes : over ≡ record old { known = longer_of old.known lent.known; makers = old.makers ++ lent.makers; spare = either old.spare lent.spare }) where
  -- it knows what it knew, and numbers what was lent
  pub over_is : over ≡ record old { makers = maker_of worker count ∷ []; spare = None }
  over_is =
      takes
      ∙ ap (λ (t : TokenView). record old { known = longer_of old.known t.known; makers = old.makers ++ t.makers; spare = either old.spare t.spare }) lends
      ∙ ap₂ (λ (k : Prefixes) (ms : List Maker). record old { known = k; makers = ms ++ token.makers; spare = either old.spare token.spare })
      (longer_legal i old.known token.known legal its_legal less) makes_none
      ∙ ap₂ (λ (ms : List Maker) o. record old { makers = ms; spare = o }) its_makers (ap₂ either names_none its_spare)

  pub may_make : Contains over.makers (maker_of worker count)
  may_make = its_next over.makers worker count (ap (λ (x : AuthorView). x.makers) over_is)

  -- it notes a command of the worker
  module _ (next : AuthorView) (e : UnitEvent)
      (appends : next ≡ record over {
        known = with_event over.known over.number (Does e (maker_of worker count));
        makers = next_after (Does e (maker_of worker count)) over.makers;
      }) where
    -- but for what it numbers it is as if it had noted it alone
    pub noted_alone : record next { makers = []; spare = None }
        ≡ record old { known = with_event old.known old.number (Does e (maker_of worker count)); makers = []; spare = None }
    noted_alone =
        ap (λ (x : AuthorView). record x { makers = []; spare = None }) appends
        ∙ ap (λ (x : AuthorView). record x { known = with_event x.known x.number (Does e (maker_of worker count)); makers = []; spare = None }) over_is

    pub noted_event : record next { makers = []; spare = None } ≡ record old { known = with_event old.known old.number (Does e (maker_of worker count)) }
    noted_event = noted_alone
        ∙ ap₂ (λ (ms : List Maker) o. record old { known = with_event old.known old.number (Does e (maker_of worker count)); makers = ms; spare = o })
        (sym makes_none) (sym names_none)

    pub makes_next : next.makers ≡ maker_of worker (count + 1) ∷ []
    makes_next = ap (λ (x : AuthorView). x.makers) appends
        ∙ one_later e over.makers worker count (ap (λ (x : AuthorView). x.makers) over_is)

    pub names_none_next : next.spare ≡ None
    names_none_next = ap (λ (x : AuthorView). x.spare) appends ∙ ap (λ (x : AuthorView). x.spare) over_is

-- ---- a token takes back what it lent

pub taken_back : (token lender new lent : TokenView) (known : Prefixes) (makers : List Maker) → lender ≡ record token { makers = []; spare = None }
    → new ≡ record lender { known = longer_of lender.known lent.known; makers = lender.makers ++ lent.makers; spare = either lender.spare lent.spare }
    → lent.known ≡ known → lent.makers ≡ makers → lent.spare ≡ None
    → new ≡ record token { known = longer_of token.known known; makers = makers; spare = None }
taken_back token lender new lent known makers lends takes its_known its_makers its_spare =
    takes
    ∙ ap (λ (t : TokenView). record t { known = longer_of t.known lent.known; makers = t.makers ++ lent.makers; spare = either t.spare lent.spare }) lends
    ∙ ap (λ o. record token { known = longer_of token.known lent.known; makers = lent.makers; spare = either None o }) its_spare
    ∙ ap₂ (λ (k : Prefixes) (ms : List Maker). record token { known = longer_of token.known k; makers = ms; spare = None }) its_known its_makers

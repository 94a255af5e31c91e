-- Where the bearers of a certificate are right, its end is the image's.
use Rattle.std.proofs.Common.{◌≡◌, ℕ, ◌<◌, ◌≤◌, ◌==◌, ◌&&◌, ◌||◌, not, nat_le, nat_lt, inl, inr, Bool, true, false, cond, List, [], ◌∷◌, Option, Some, None, refl, sym, ap, ◌∙◌, subst}
use Rattle.std.specs.List.{Contains, list_any}
use Rattle.std.specs.Option.{is_some, option_map_or}
use Rattle.std.proofs.lemmas.Option.{none-some, same_Some}
use Rattle.std.proofs.lemmas.Bool.{le-leb, leb-true, lt-ltb, eqb-true, eq-eqb, or_right, true≢false}
use Rattle.pblk_model.specs.Image.{Image}
use Rattle.pblk_model.specs.StartRecord.{StartRecord}
use Rattle.pblk_model.specs.Records.{Record, records}
use Rattle.pblk_model.specs.Contents.{Bears, IsEnd, end, end_after, head, is_borne}
use Rattle.pblk_laws.proofs.Ends.{end_is_only}
use Rattle.pblk_model.proofs.Lists.{contains_cases, contains_first, contains_more, contains_none}
use Rattle.pblk_model.proofs.Tests.{first_of, not_true, second_of}
use Rattle.image_check.specs.declared.certificate.Bearer.{Bearer}
use Rattle.image_check.specs.declared.certificate.Certificate.{Certificate}
use Rattle.image_check.specs.Right.{AreBearersRight, is_borne_right, is_named, may_end, said_of}

-- a record that a bearer names bears its position
names_bearing : (h : StartRecord) (b : Bearer) (r : Record) → is_named h b r ≡ true → Bears h b.position r
names_bearing h b r named =
    let mount : Bool = nat_le h.first_seq r.seq in
    let place : Bool = r.position == b.position in
    let front : (mount && place) ≡ true =
    first_of (mount && place) (r.line == b.line) (first_of ((mount && place) && (r.line == b.line)) (r.at == b.at) named) in
    record { mount = leb-true h.first_seq r.seq (first_of mount place front); position = eqb-true r.position b.position (second_of mount place front) }

any_bearing : (h : StartRecord) (b : Bearer) (rs : List Record) → list_any (is_named h b) rs ≡ true → (r : Record) × Contains rs r × Bears h b.position r
any_bearing h b [] e = absurd cc
any_bearing h b (x ∷ rs) e = by_first (any_bearing h b rs) (is_named h b x) refl where
  by_first : (list_any (is_named h b) rs ≡ true → (r : Record) × Contains rs r × Bears h b.position r) → (here : Bool) → is_named h b x ≡ here
      → (r : Record) × Contains (x ∷ rs) r × Bears h b.position r
  by_first later true is = (x, contains_first x rs, names_bearing h b x is)
  by_first later false is =
      let rest = later (sym (ap (λ y. y || list_any (is_named h b) rs) is) ∙ e) in
      (rest.0, contains_more x rest.0 rs rest.1, rest.2)

-- what is said of a position is said of it
pub said_number : {X : Type 0} (number : X → ℕ) (xs : List X) (n : ℕ) (x : X) → said_of number xs n ≡ Some x → number x ≡ n
said_number number [] n x e = absurd (none-some x e)
said_number number (y ∷ xs) n x e = by_first (said_number number xs n x) (number y == n) refl where
  by_first : (said_of number xs n ≡ Some x → number x ≡ n) → (here : Bool) → (number y == n) ≡ here → number x ≡ n
  by_first later true is = ap number (sym (same_Some y x (sym (ap (λ b. cond b (Some y) (said_of number xs n)) is) ∙ e))) ∙ eqb-true (number y) n is
  by_first later false is = later (sym (ap (λ b. cond b (Some y) (said_of number xs n)) is) ∙ e)

borne_said : (h : StartRecord) (rs : List Record) (bears : List Bearer) (q : ℕ) (o : Option Bearer) → said_of (λ b. b.position) bears q ≡ o
    → option_map_or (λ b. list_any (is_named h b) rs) o false ≡ true → (r : Record) × Contains rs r × Bears h q r
borne_said h rs bears q None said right = absurd cc
borne_said h rs bears q (Some b) said right =
    let found = any_bearing h b rs right in
    (found.0, found.1, subst (λ p. Bears h p found.0) (said_number (λ (b : Bearer). b.position) bears q b said) found.2)

module _ (h : StartRecord) (rs : List Record) (p : ℕ) (bears : List Bearer)
    (right : (q : ℕ) → is_borne_right (Some h) rs p q (said_of (λ b. b.position) bears q) ≡ true)
    (may : may_end (Some h) rs p ≡ true) where
  unborne : is_borne rs h p ≡ false
  unborne = not_true (is_borne rs h p) (second_of (nat_le h.front p) (not (is_borne rs h p)) may)

  above : h.front ≤ p
  above = leb-true h.front p (first_of (nat_le h.front p) (not (is_borne rs h p)) may)

  here : (q : ℕ) → h.front ≤ q → q < p → (r : Record) × Contains rs r × Bears h q r
  here q low high =
      let said : Option Bearer = said_of (λ b. b.position) bears q in
      borne_said h rs bears q said refl
      (sym (ap (λ b. cond b (option_map_or (λ b. list_any (is_named h b) rs) said false) (not (is_some said)))
      (ap (λ b. b && nat_lt q p) (le-leb h.front q low) ∙ lt-ltb q p high)) ∙ right q)

  borne : (xs : List Record) (r : Record) → Contains xs r → Bears h p r → is_borne xs h p ≡ true
  borne [] r there bears = absurd (contains_none r there)
  borne (x ∷ xs) r there bears = elim (contains_cases x r xs there) [
    | inl same ↦ ap (λ b. b || is_borne xs h p) (subst (λ (y : Record). (nat_le h.first_seq y.seq && (y.position == p)) ≡ true) (sym same)
        (ap (λ b. b && (r.position == p)) (le-leb h.first_seq r.seq bears.mount) ∙ eq-eqb r.position p bears.position))
    | inr later ↦ or_right (nat_le h.first_seq x.seq && (x.position == p)) (is_borne xs h p) (borne xs r later bears)
  ]

  pub is_end : IsEnd rs h p
  is_end = record {
    from_front = above;
    missing = λ r there bears. true≢false (sym (borne rs r there bears) ∙ unborne);
    least = here;
  }

by_head : (i : Image) (c : Certificate) (o : Option StartRecord) → head i ≡ o
    → ((p : ℕ) → is_borne_right o (records i) c.end p (said_of (λ b. b.position) c.bears p) ≡ true)
    → may_end o (records i) c.end ≡ true → c.end ≡ end i
by_head i c None none right may = eqb-true c.end 0 may ∙ sym (ap (end_after (records i)) none)
by_head i c (Some h) some right may = end_is_only i h c.end some (is_end h (records i) c.end c.bears right may)

pub end_right : (i : Image) (c : Certificate) → AreBearersRight i c → c.end ≡ end i
end_right i c h = by_head i c (head i) refl h.0 h.1

-- and the other way round: the end isn't borne
pub unborne_end : (rs : List Record) (h : StartRecord) (p : ℕ) → IsEnd rs h p → is_borne rs h p ≡ false
unborne_end rs h p is = none_borne rs (λ r there bears. is.missing r there bears) where
  none_borne : (xs : List Record) → ((r : Record) → Contains xs r → Bears h p r → ⊥) → is_borne xs h p ≡ false
  none_borne [] none = refl
  none_borne (x ∷ xs) none = by_first (nat_le h.first_seq x.seq && (x.position == p)) refl
      (none_borne xs (λ r there bears. none r (contains_more x r xs there) bears)) where
        by_first : (b : Bool) → nat_le h.first_seq x.seq && (x.position == p) ≡ b → is_borne xs h p ≡ false → b || is_borne xs h p ≡ false
        by_first true e rest = absurd (none x (contains_first x xs) (record {
          mount = leb-true h.first_seq x.seq (first_of (nat_le h.first_seq x.seq) (x.position == p) e);
          position = eqb-true x.position p (second_of (nat_le h.first_seq x.seq) (x.position == p) e);
        }))
        by_first false e rest = rest

pub no_head_end_is : (i : Image) → head i ≡ None → end i ≡ 0
no_head_end_is i none = ap (end_after (records i)) none

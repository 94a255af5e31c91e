-- What is seen of bearers, one record more at a time.
use Rattle.std.proofs.Common.{◌≡◌, ◌≢◌, ℕ, ◌+◌, ◌<◌, ◌≤◌, ◌==◌, ◌&&◌, ◌||◌, Bool, true, false, nat_le, List, [], ◌∷◌, ◌++◌, length, Option, Some, None, refl, sym, ap, ◌∙◌, arith}
use Rattle.std.specs.List.{list_any, slice_get, slice_set}
use Rattle.std.proofs.lemmas.List.Folds.{list_any-append}
use Rattle.std.proofs.lemmas.Option.{none-some, same_Some, slice_get_within}
use Rattle.std.proofs.lemmas.Bool.{le-leb, eq-eqb, ne_eqb}
use native.Mathlib.Decide.{ℕ_discrete}
use Rattle.pblk_model.specs.StartRecord.{StartRecord}
use Rattle.pblk_model.specs.Records.{Record}
use Rattle.pblk_model.specs.Contents.{is_borne}
use Rattle.pblk_model.proofs.Tests.{and_both, and_false, not_first, or_no, or_true}
use Rattle.image_check.specs.declared.certificate.Bearer.{Bearer}
use Rattle.image_check.specs.Bearers.{IsHit, IsMissed, hits, seen_at, seen_bearer}
use Rattle.image_check.specs.Right.{is_named}
use Rattle.pblk_model.specs.Tables.{IsTable}
use Rattle.pblk_model.proofs.TableLemmas.{table_same, table_set}

spread : (a b c : Bool) → a && (b || (c || false)) ≡ (a && b) || (a && c)
spread true true c = refl
spread true false c = or_no c
spread false b c = refl

-- what a record adds

more_seen : (h : StartRecord) (rs : List Record) (r : Record) (k : ℕ) (b : Bearer)
    → seen_bearer h (rs ++ r ∷ []) k (Some b) ≡ seen_bearer h rs k (Some b) || hits h r k b
more_seen h rs r k b = ap (λ x. (b.position == h.front + k) && x) (list_any-append (is_named h b) rs (r ∷ []))
    ∙ spread (b.position == h.front + k) (list_any (is_named h b) rs) (is_named h b r)

same_seen : (h : StartRecord) (rs : List Record) (r : Record) (k : ℕ) (o : Option Bearer) → ((b : Bearer) → o ≡ Some b → hits h r k b ≡ false)
    → seen_bearer h (rs ++ r ∷ []) k o ≡ seen_bearer h rs k o
same_seen h rs r k None miss = refl
same_seen h rs r k (Some b) miss = more_seen h rs r k b ∙ ap (λ x. seen_bearer h rs k (Some b) || x) (miss b refl) ∙ or_no (seen_bearer h rs k (Some b))

elsewhere : (h : StartRecord) (r : Record) (b : Bearer) → r.position ≢ b.position → is_named h b r ≡ false
elsewhere h r b other =
    let mount : Bool = nat_le h.first_seq r.seq in
    let place : Bool = r.position == b.position in
    not_first ((mount && place) && (r.line == b.line)) (r.at == b.at)
    (not_first (mount && place) (r.line == b.line) (and_false mount place (ne_eqb r.position b.position other)))

-- at another position
other_misses : (h : StartRecord) (r : Record) (k : ℕ) (b : Bearer) → r.position ≢ h.front + k → hits h r k b ≡ false
other_misses h r k b other = by_position (ℕ_discrete b.position (h.front + k)) where
  by_position : Dec (b.position ≡ h.front + k) → hits h r k b ≡ false
  by_position (yes same) = and_false (b.position == h.front + k) (is_named h b r) (elsewhere h r b (λ e. other (e ∙ same)))
  by_position (no apart) = not_first (b.position == h.front + k) (is_named h b r) (ne_eqb b.position (h.front + k) apart)

module _ (h : StartRecord) (bears : List Bearer) (r : Record) where
  pub below_missed : r.position < h.front → IsMissed h bears r
  below_missed below k b there = other_misses h r k b (λ e. omega arith)

  pub past_missed : (place : ℕ) → h.front + place ≡ r.position → slice_get bears place ≡ None → IsMissed h bears r
  past_missed place is none k b there = other_misses h r k b (λ e. apart e) where
    apart : r.position ≡ h.front + k → ⊥
    apart e =
        let same : k ≡ place = omega (arith, is, e) in
        none-some b (sym none ∙ ap (slice_get bears) (sym same) ∙ there)

  module _ (place : ℕ) (b : Bearer) (is : h.front + place ≡ r.position) (there : slice_get bears place ≡ Some b) where
    pub not_named : nat_le h.first_seq r.seq && ((r.position == b.position) && (r.line == b.line) && (r.at == b.at)) ≡ false → IsMissed h bears r
    not_named fails k x here = by_place (ℕ_discrete k place) where
      joined : (m p l a : Bool) → m && ((p && l) && a) ≡ false → ((m && p) && l) && a ≡ false
      joined true p l a e = e
      joined false p l a e = refl

      by_place : Dec (k ≡ place) → hits h r k x ≡ false
      by_place (yes same) =
          let one : x ≡ b = same_Some x b (sym here ∙ ap (slice_get bears) same ∙ there) in
          and_false (x.position == h.front + k) (is_named h x r)
          (ap (λ y. is_named h y r) one ∙ joined (nat_le h.first_seq r.seq) (r.position == b.position) (r.line == b.line) (r.at == b.at) fails)
      by_place (no other) = other_misses h r k x (λ e. other (omega (arith, e, is)))

    pub is_hit : h.first_seq ≤ r.seq → (r.position == b.position) && (r.line == b.line) && (r.at == b.at) ≡ true → b.position ≡ r.position
        → IsHit h bears r place
    is_hit mount holds same = record {
      bearer = b;
      there = there;
      is = and_both (b.position == h.front + place) (is_named h b r) (eq-eqb b.position (h.front + place) (omega (arith, same, is)))
          (ap (λ m. ((m && (r.position == b.position)) && (r.line == b.line)) && (r.at == b.at)) (le-leb h.first_seq r.seq mount) ∙ holds);
    }

  module _ (rs : List Record) (seen : List Bool) (table : IsTable (length bears) (seen_at h bears rs) seen) where
    pub seen_missed : IsMissed h bears r → IsTable (length bears) (seen_at h bears (rs ++ r ∷ [])) seen
    seen_missed missed = table_same (length bears) (seen_at h bears rs) (seen_at h bears (rs ++ r ∷ [])) seen table
        (λ k below. same_seen h rs r k (slice_get bears k) (λ b there. missed k b there))

    pub seen_hit : (place : ℕ) → IsHit h bears r place → IsTable (length bears) (seen_at h bears (rs ++ r ∷ [])) (slice_set seen place true)
    seen_hit place hit = table_set (length bears) (seen_at h bears rs) (seen_at h bears (rs ++ r ∷ [])) seen place true table
        (slice_get_within bears place hit.bearer hit.there)
        (ap (seen_bearer h (rs ++ r ∷ []) place) hit.there ∙ more_seen h rs r place hit.bearer
        ∙ ap (λ x. seen_bearer h rs place (Some hit.bearer) || x) hit.is ∙ or_true (seen_bearer h rs place (Some hit.bearer)))
        (λ j other. same_seen h rs r j (slice_get bears j) (λ b there. other_misses h r j b (λ e. apart j other e))) where
          position : (b : Bearer) → hits h r place b ≡ true → r.position ≡ h.front + place
          position b is = by_position (ℕ_discrete r.position (h.front + place)) where
            by_position : Dec (r.position ≡ h.front + place) → r.position ≡ h.front + place
            by_position (yes same) = same
            by_position (no other) = let both : true ≡ false = sym is ∙ other_misses h r place b other in absurd (cc)

          at_place : r.position ≡ h.front + place
          at_place = position hit.bearer hit.is

          apart : (j : ℕ) → j ≢ place → r.position ≡ h.front + j → ⊥
          apart j other e = other (omega (arith, e, at_place))

-- Whether the end is borne.
pub end_more : (rs : List Record) (r : Record) (h : StartRecord) (last : ℕ)
    → is_borne (rs ++ r ∷ []) h last ≡ is_borne rs h last || (nat_le h.first_seq r.seq && (r.position == last))
end_more rs r h last = list_any-append (λ r. nat_le h.first_seq r.seq && (r.position == last)) rs (r ∷ [])
    ∙ ap (λ x. is_borne rs h last || x) (or_no (nat_le h.first_seq r.seq && (r.position == last)))

pub end_seen : (rs : List Record) (r : Record) (h : StartRecord) (last : ℕ) → (nat_le h.first_seq r.seq && (r.position == last)) ≡ true
    → true ≡ is_borne (rs ++ r ∷ []) h last
end_seen rs r h last holds = sym (end_more rs r h last ∙ ap (λ x. is_borne rs h last || x) holds ∙ or_true (is_borne rs h last))

pub end_unseen : (rs : List Record) (r : Record) (h : StartRecord) (last : ℕ) → (nat_le h.first_seq r.seq && (r.position == last)) ≡ false
    → is_borne rs h last ≡ is_borne (rs ++ r ∷ []) h last
end_unseen rs r h last fails = sym (end_more rs r h last ∙ ap (λ x. is_borne rs h last || x) fails ∙ or_no (is_borne rs h last))

-- The bearers that the maker finds.
use Rattle.std.proofs.Common.{◌≡◌, ◌≢◌, ℕ, ◌+◌, ◌<◌, ◌≤◌, ◌==◌, ◌&&◌, nat_le, zero, suc, Bool, true, false, cond, List, [], ◌∷◌, ◌++◌, length, map, Option, Some, None, refl, sym, ap, ◌∙◌, subst, arith, add-zero, zero-add}
use Rattle.std.specs.List.{AllByRecursion, find, list_any, range_with_len, slice_get, slice_set}
use Rattle.std.specs.Option.{is_some}
use Rattle.std.proofs.lemmas.Bool.{eqb-true, eq-eqb, le-leb, lt-leb, ne_eqb}
use Rattle.std.proofs.lemmas.Option.{none-some, same_Some}
use native.Mathlib.Decide.{ℕ_discrete}
use Rattle.pblk_model.specs.Image.{Image}
use Rattle.pblk_model.specs.StartRecord.{StartRecord}
use Rattle.pblk_model.specs.Records.{Record, records}
use Rattle.pblk_model.specs.Contents.{end, end_after, head, is_borne, least_missing}
use Rattle.pblk_model.proofs.Lists.{all_imply}
use Rattle.pblk_model.proofs.Maps.{any_found, any_member, found_passes}
use Rattle.pblk_model.proofs.Options.{map_some, none_of_map, some_mapped}
use Rattle.pblk_model.proofs.Tests.{and_both, and_false, not_first, second_of}
use Rattle.image_check.specs.declared.certificate.Bearer.{Bearer}
use Rattle.image_check.specs.Makes.{AreFirst, bearer_behind, bearer_by, bears_it, first_bearer, leading, made_bearers}
use Rattle.image_check.specs.Right.{AreBearers, is_named}
use Rattle.pblk_model.specs.Tables.{IsTable}
use Rattle.pblk_model.proofs.TableLemmas.{get_table, table_same, table_set}

-- One record more.

found_first : (p : Record → Bool) (rs : List Record) (r x : Record) → find p rs ≡ Some x → find p (rs ++ r ∷ []) ≡ Some x
found_first p [] r x e = absurd (none-some x e)
found_first p (y ∷ rs) r x e = by_first (found_first p rs r x) (p y) e where
  by_first : (find p rs ≡ Some x → find p (rs ++ r ∷ []) ≡ Some x) → (b : Bool) → cond b (Some y) (find p rs) ≡ Some x
      → cond b (Some y) (find p (rs ++ r ∷ [])) ≡ Some x
  by_first later true e = e
  by_first later false e = later e

found_last : (p : Record → Bool) (rs : List Record) (r : Record) → find p rs ≡ None → find p (rs ++ r ∷ []) ≡ cond (p r) (Some r) None
found_last p [] r e = refl
found_last p (y ∷ rs) r e = by_first (found_last p rs r) (p y) e where
  by_first : (find p rs ≡ None → find p (rs ++ r ∷ []) ≡ cond (p r) (Some r) None) → (b : Bool) → cond b (Some y) (find p rs) ≡ None
      → cond b (Some y) (find p (rs ++ r ∷ [])) ≡ cond (p r) (Some r) None
  by_first later true e = absurd (none-some y (sym e))
  by_first later false e = later e

module _ (h : StartRecord) (rs : List Record) (r : Record) where
  not_it : (p : ℕ) → bears_it h p r ≡ false → first_bearer h (rs ++ r ∷ []) p ≡ first_bearer h rs p
  not_it p fails = ap bearer_by (by_found (find (bears_it h p) rs) refl) where
    by_found : (o : Option Record) → find (bears_it h p) rs ≡ o → find (bears_it h p) (rs ++ r ∷ []) ≡ find (bears_it h p) rs
    by_found None e = found_last (bears_it h p) rs r e ∙ ap (λ b. cond b (Some r) None) fails ∙ sym e
    by_found (Some x) e = found_first (bears_it h p) rs r x e ∙ sym e

  had_one : (p : ℕ) → is_some (first_bearer h rs p) ≡ true → first_bearer h (rs ++ r ∷ []) p ≡ first_bearer h rs p
  had_one p some = ap bearer_by (by_found (find (bears_it h p) rs) refl) where
    by_found : (o : Option Record) → find (bears_it h p) rs ≡ o → find (bears_it h p) (rs ++ r ∷ []) ≡ find (bears_it h p) rs
    by_found None e = let fails : false ≡ true = sym (ap (λ x. is_some (bearer_by x)) e) ∙ some in absurd (cc)
    by_found (Some x) e = found_first (bears_it h p) rs r x e ∙ sym e

  gets_it : (p : ℕ) → first_bearer h rs p ≡ None → bears_it h p r ≡ true
      → first_bearer h (rs ++ r ∷ []) p ≡ Some (record { position = r.position; line = r.line; at = r.at })
  gets_it p none holds = ap bearer_by
      (found_last (bears_it h p) rs r (none_of_map (λ (r : Record). record { position = r.position; line = r.line; at = r.at }) (find (bears_it h p) rs) none)
      ∙ ap (λ b. cond b (Some r) None) holds)

  elsewhere : (p : ℕ) → r.position ≢ p → bears_it h p r ≡ false
  elsewhere p other = and_false (nat_le h.first_seq r.seq) (r.position == p) (ne_eqb r.position p other)

  module _ (n : ℕ) (first : List (Option Bearer)) (table : IsTable n (bearer_behind h rs) first) where
    pub older_noted : r.seq < h.first_seq → IsTable n (bearer_behind h (rs ++ r ∷ [])) first
    older_noted older = table_same n (bearer_behind h rs) (bearer_behind h (rs ++ r ∷ [])) first table
        (λ k below. not_it (h.front + k) (not_first (nat_le h.first_seq r.seq) (r.position == (h.front + k)) (lt-leb h.first_seq r.seq older)))

    pub below_noted : r.position < h.front → IsTable n (bearer_behind h (rs ++ r ∷ [])) first
    below_noted low = table_same n (bearer_behind h rs) (bearer_behind h (rs ++ r ∷ [])) first table
        (λ k below. not_it (h.front + k) (elsewhere (h.front + k) (λ e. omega arith)))

    pub past_noted : (place : ℕ) → h.front + place ≡ r.position → n ≤ place → IsTable n (bearer_behind h (rs ++ r ∷ [])) first
    past_noted place is past = table_same n (bearer_behind h rs) (bearer_behind h (rs ++ r ∷ [])) first table
        (λ k below. not_it (h.front + k) (elsewhere (h.front + k) (λ e. omega arith)))

    pub had_noted : (place : ℕ) (b : Bearer) → h.front + place ≡ r.position → slice_get first place ≡ Some (Some b)
        → IsTable n (bearer_behind h (rs ++ r ∷ [])) first
    had_noted place b is there = table_same n (bearer_behind h rs) (bearer_behind h (rs ++ r ∷ [])) first table
        (λ k below. at_place k (ℕ_discrete k place)) where
          at_place : (k : ℕ) → Dec (k ≡ place) → bearer_behind h (rs ++ r ∷ []) k ≡ bearer_behind h rs k
          at_place k (yes same) = had_one (h.front + k)
              (ap is_some (ap (bearer_behind h rs) same ∙ get_table n (bearer_behind h rs) first place (Some b) table there))
          at_place k (no other) = not_it (h.front + k) (elsewhere (h.front + k) (λ e. other (omega (arith, e, is))))

    pub new_noted : (place : ℕ) → h.front + place ≡ r.position → place < n → h.first_seq ≤ r.seq → slice_get first place ≡ Some None
        → IsTable n (bearer_behind h (rs ++ r ∷ [])) (slice_set first place (Some (record { position = r.position; line = r.line; at = r.at })))
    new_noted place is inside mount there =
        table_set n (bearer_behind h rs) (bearer_behind h (rs ++ r ∷ [])) first place
        (Some (record { position = r.position; line = r.line; at = r.at })) table inside
        (gets_it (h.front + place) (get_table n (bearer_behind h rs) first place None table there)
        (and_both (nat_le h.first_seq r.seq) (r.position == (h.front + place)) (le-leb h.first_seq r.seq mount) (eq-eqb r.position (h.front + place) (sym is))))
        (λ j other. not_it (h.front + j) (elsewhere (h.front + j) (λ e. other (omega (arith, e, is)))))

-- The first ones, up to one that is missing.

module _ (h : StartRecord) (rs : List Record) where
  abbrev from : ℕ → ℕ → List Bearer
  from a n = leading (map (bearer_behind h rs) (range_with_len a n))

  borne_found : (p : ℕ) → is_borne rs h p ≡ is_some (first_bearer h rs p)
  borne_found p = any_found (bears_it h p) rs
      ∙ sym (some_mapped (λ (r : Record). record { position = r.position; line = r.line; at = r.at }) (find (bears_it h p) rs))

  record IsFound (b : Bearer) (p : ℕ) : Type 0 where
    r : Record
    found : find (bears_it h p) rs ≡ Some r
    is : record { position = r.position; line = r.line; at = r.at } ≡ b
    position : b.position ≡ p

  found_of : (p : ℕ) (b : Bearer) → first_bearer h rs p ≡ Some b → IsFound b p
  found_of p b e =
      let k = map_some (λ (r : Record). record { position = r.position; line = r.line; at = r.at }) (find (bears_it h p) rs) b e in
      let passes = found_passes (bears_it h p) rs k.0 k.1 in
      record {
        r = k.0;
        found = k.1;
        is = k.2;
        position = ap (λ (x : Bearer). x.position) (sym k.2) ∙ eqb-true k.0.position p (second_of (nat_le h.first_seq k.0.seq) (k.0.position == p) passes.0);
      }

  turns : (n a : ℕ) → least_missing (is_borne rs h) n (h.front + a) ≡ h.front + (a + length (from a n))
  unfolding least_missing
  turns zero a = omega arith
  turns (suc n) a = by_first (turns n (a + 1)) (bearer_behind h rs a) refl where
    by_first : least_missing (is_borne rs h) n (h.front + (a + 1)) ≡ h.front + (a + 1 + length (from (a + 1) n)) → (o : Option Bearer)
        → bearer_behind h rs a ≡ o
        → cond (is_borne rs h (h.front + a)) (least_missing (is_borne rs h) n (h.front + a + 1)) (h.front + a)
        ≡ h.front + (a + length (leading (o ∷ map (bearer_behind h rs) (range_with_len (a + 1) n))))
    by_first later None e =
        ap (λ b. cond b (least_missing (is_borne rs h) n (h.front + a + 1)) (h.front + a)) (borne_found (h.front + a) ∙ ap is_some e)
        ∙ ap (λ k. h.front + k) (sym (add-zero a))
    by_first later (Some b) e =
        let next : h.front + a + 1 ≡ h.front + (a + 1) = omega arith in
        let more : h.front + (a + 1 + length (from (a + 1) n)) ≡ h.front + (a + suc (length (from (a + 1) n))) = omega arith in
        ap (λ b. cond b (least_missing (is_borne rs h) n (h.front + a + 1)) (h.front + a)) (borne_found (h.front + a) ∙ ap is_some e)
        ∙ ap (least_missing (is_borne rs h) n) next ∙ later ∙ more

  pub made_end : end_after rs (Some h) ≡ h.front + length (made_bearers h rs)
  made_end = ap (least_missing (is_borne rs h) (length rs)) (sym (add-zero h.front)) ∙ turns (length rs) 0 ∙ zero_first (length (made_bearers h rs)) where
    zero_first : (m : ℕ) → h.front + (0 + m) ≡ h.front + m
    zero_first m = omega arith

  positions : (n a : ℕ) → map (λ b. b.position) (from a n) ≡ range_with_len (h.front + a) (length (from a n))
  positions zero a = refl
  positions (suc n) a = by_first (positions n (a + 1)) (bearer_behind h rs a) refl where
    by_first : map (λ b. b.position) (from (a + 1) n) ≡ range_with_len (h.front + (a + 1)) (length (from (a + 1) n)) → (o : Option Bearer)
        → bearer_behind h rs a ≡ o
        → map (λ b. b.position) (leading (o ∷ map (bearer_behind h rs) (range_with_len (a + 1) n)))
        ≡ range_with_len (h.front + a) (length (leading (o ∷ map (bearer_behind h rs) (range_with_len (a + 1) n))))
    by_first later None e = refl
    by_first later (Some b) e =
        let next : h.front + (a + 1) ≡ h.front + a + 1 = omega arith in
        ap (λ p. p ∷ map (λ b. b.position) (from (a + 1) n)) (found_of (h.front + a) b e).position
        ∙ ap (λ ps. (h.front + a) ∷ ps) (later ∙ ap (λ p. range_with_len p (length (from (a + 1) n))) next)

  are_first : (n a : ℕ) → AllByRecursion (λ b. first_bearer h rs b.position ≡ Some b) (from a n)
  are_first zero a = tt
  are_first (suc n) a = by_first (are_first n (a + 1)) (bearer_behind h rs a) refl where
    by_first : AllByRecursion (λ b. first_bearer h rs b.position ≡ Some b) (from (a + 1) n) → (o : Option Bearer) → bearer_behind h rs a ≡ o
        → AllByRecursion (λ b. first_bearer h rs b.position ≡ Some b) (leading (o ∷ map (bearer_behind h rs) (range_with_len (a + 1) n)))
    by_first later None e = tt
    by_first later (Some b) e = (ap (first_bearer h rs) (found_of (h.front + a) b e).position ∙ e, later)

  is_it : (b : Bearer) → first_bearer h rs b.position ≡ Some b → list_any (is_named h b) rs ≡ true
  is_it b e =
      let k = found_of b.position b e in
      let passes = found_passes (bears_it h b.position) rs k.r k.found in
      any_member (is_named h b) rs passes.1.0 k.r passes.1.1
      (and_both ((nat_le h.first_seq k.r.seq && (k.r.position == b.position)) && (k.r.line == b.line)) (k.r.at == b.at)
      (and_both (nat_le h.first_seq k.r.seq && (k.r.position == b.position)) (k.r.line == b.line) passes.0
      (eq-eqb k.r.line b.line (ap (λ (x : Bearer). x.line) k.is)))
      (eq-eqb k.r.at b.at (ap (λ (x : Bearer). x.at) k.is)))

module _ (i : Image) (h : StartRecord) (is : head i ≡ Some h) where
  pub end_made : end i ≡ h.front + length (made_bearers h (records i))
  end_made = ap (end_after (records i)) is ∙ made_end h (records i)

  pub bearers_made : AreBearers (head i) (records i) (end i) (made_bearers h (records i))
  bearers_made = subst (λ o. AreBearers o (records i) (end i) (made_bearers h (records i))) (sym is) (record {
    positions = positions h (records i) (length (records i)) 0 ∙ ap (λ p. range_with_len p (length (made_bearers h (records i)))) (add-zero h.front)
        ∙ ap (range_with_len h.front) (omega (arith, end_made));
    named = λ g same. subst (λ x. AllByRecursion (λ b. list_any (is_named x b) (records i) ≡ true) (made_bearers h (records i)))
        (same_Some h g same)
        (all_imply (λ b. first_bearer h (records i) b.position ≡ Some b) (λ b. list_any (is_named h b) (records i) ≡ true)
        (is_it h (records i)) (made_bearers h (records i)) (are_first h (records i) (length (records i)) 0));
  })

  pub first_made : AreFirst i (made_bearers h (records i))
  first_made g same = subst (λ x. AllByRecursion (λ b. first_bearer x (records i) b.position ≡ Some b) (made_bearers h (records i)))
      (same_Some h g (sym is ∙ same)) (are_first h (records i) (length (records i)) 0)

pub no_bearers : (i : Image) → head i ≡ None → AreBearers (head i) (records i) (end i) []
no_bearers i none = subst (λ o. AreBearers o (records i) (end i) []) (sym none) (record { positions = refl; named = λ h e. absurd (none-some h e) })

-- A table is the list of what it says.
pub table_is : {X : Type 0} (f : ℕ → X) (n : ℕ) (xs : List X) → IsTable n f xs → xs ≡ map f (range_with_len 0 n)
table_is f n xs h = from_place f 0 n xs h.count (λ k below. h.each k below ∙ ap (λ j. Some (f j)) (sym (zero-add k))) where
  from_place : {X : Type 0} (f : ℕ → X) (a n : ℕ) (xs : List X) → length xs ≡ n → ((k : ℕ) → k < n → slice_get xs k ≡ Some (f (a + k)))
      → xs ≡ map f (range_with_len a n)
  from_place f a zero [] long each = refl
  from_place f a (suc n) [] long each = absurd (omega (arith, long))
  from_place f a zero (x ∷ xs) long each = absurd (omega (arith, long))
  from_place f a (suc n) (x ∷ xs) long each =
      let here : x ≡ f a = same_Some x (f a) (each 0 (omega arith) ∙ ap (λ j. Some (f j)) (add-zero a)) in
      let tail : xs ≡ map f (range_with_len (a + 1) n) = from_place f (a + 1) n xs (omega (arith, long)) (λ k below.
      (let place : a + suc k ≡ a + 1 + k = omega arith in each (suc k) (omega arith) ∙ ap (λ j. Some (f j)) place)) in
      ap (λ y. y ∷ xs) here ∙ ap (λ ys. f a ∷ ys) tail

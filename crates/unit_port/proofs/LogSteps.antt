-- The store that adds a row keeps the rule of a log's word.
use Rattle.std.proofs.Common.{◌≡◌, ℕ, zero, suc, ◌+◌, ◌%◌, ◌^◌, List, [], ◌∷◌, ◌++◌, length, slice_set, refl, sym, ap, subst, ◌∙◌}
use Rattle.std.proofs.Math.Nat.{mod-add-mod}
use Rattle.std.proofs.lemmas.List.{length-append}
use mathlib.Core.Option.{some, some-ne-none}
use lib.ListN.{get_elem?}
use Rattle.atomic_table.specs.Table.{Me, Allows, keeps}
use Rattle.unit_port.specs.Log.{IsLogWord}
use Rattle.pblk_model.proofs.Parts.{store_sets}

module _ {E : Type 0} where
  -- a seat that has a view where there is one view is seat 0
  only_seat : (rows v new : List E) (id : ℕ) → get_elem? (rows ∷ []) id ≡ some v → slice_set (rows ∷ []) id new ≡ new ∷ []
  only_seat rows v new zero here = refl
  only_seat rows v new (suc id) here = absurd (some-ne-none v (sym here))

  view_set : (views : List (List E)) (rows v new : List E) (id : ℕ) → views ≡ rows ∷ [] → get_elem? views id ≡ some v → slice_set views id new ≡ new ∷ []
  view_set views rows v new id is here = ap (λ (l : List (List E)). slice_set l id new) is
      ∙ only_seat rows v new id (subst (λ (l : List (List E)). get_elem? l id ≡ some v) is here)

  -- the length modulo 2^64 with one row more
  next_len : (old more : List E) (next : ℕ) → length more ≡ 1 → next ≡ (length old % 2 ^ 64 + 1) % 2 ^ 64 → next ≡ length (old ++ more) % 2 ^ 64
  next_len old more next one is =
      is
      ∙ mod-add-mod (length old) (2 ^ 64) 1
      ∙ ap (λ (n : ℕ). (length old + n) % 2 ^ 64) (sym one)
      ∙ ap (λ (n : ℕ). n % 2 ^ 64) (sym (length-append old more))

  pub store_allowed : (slots id : ℕ) (me : Me (Unit {0}) (List E)) (more : List E) (next : ℕ) → length more ≡ 1 → next ≡ (length me.0 % 2 ^ 64 + 1) % 2 ^ 64
      → Allows IsLogWord slots id me 0 (λ _. next) (λ _ after. after.0 ≡ me.0 ++ more)
  store_allowed slots id me more next one is s holds count here range = (
    me.0 ++ more,
    keeps,
    tt,
    record {
      rows = me.0 ++ more;
      views = view_set s.views holds.rows me.0 (me.0 ++ more) id holds.views here;
      words = store_sets s.words (length holds.rows % 2 ^ 64) next holds.words ∙ ap (λ (n : ℕ). n ∷ []) (next_len me.0 more next one is);
    },
    refl,
  )

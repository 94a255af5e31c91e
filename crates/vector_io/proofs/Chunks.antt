-- The commands of addresses, place by place, and addresses of one chunk.
use Rattle.std.proofs.Common.{ℕ, ◌/◌, ◌%◌, ◌<◌, ◌≡◌, List, length, map, slice_get, slice_index_or, Some, sym, ap, ◌∙◌}
use Rattle.std.specs.Option.{option_map}
use Rattle.std.proofs.lemmas.Nat.{div-mul-add, mod-mul-add}
use Rattle.std.proofs.lemmas.Option.{slice_get-map, slice_get-get_or}
use Rattle.pblk_model.specs.declared.shape.Address.{Address}
use Rattle.pblk_model.specs.Geometry.{Geometry, IsAddress}
use Rattle.pblk_model.proofs.Maps.{map_back}
use Rattle.vector_io.specs.Addresses.{IsVector}
use Rattle.unit_port.specs.Commands.{UnitCommand, EventAt, command_of}
use Rattle.vector_io.specs.Plans.{unit_of, reset_of, resets, AreFirstBlocks}
use Rattle.unit_port.proofs.Units.{Spares, apart}

pub map_there : {A B : Type 0} (f : A → B) (xs : List A) (n : ℕ) (d : A) → n < length xs → slice_get (map f xs) n ≡ Some (f (slice_index_or xs n d))
map_there f xs n d within = slice_get-map f xs n ∙ ap (option_map f) (slice_get-get_or xs n d within)

same_address : (g h p q c d b e : ℕ) → g ≡ h → p ≡ q → c ≡ d → b ≡ e
    → ◌≡◌ {A = Address} (record { group = g; pu = p; chunk = c; block = b }) (record { group = h; pu = q; chunk = d; block = e })
same_address g h p q c d b e u v w x = cc

same_group : (g : Geometry) (a b : Address) → IsAddress g a → IsAddress g b → unit_of g a ≡ unit_of g b → a.group ≡ b.group
same_group g a b in_a in_b h = sym (div-mul-add a.group g.pus a.pu in_a.pu) ∙ ap (λ n. n / g.pus) h ∙ div-mul-add b.group g.pus b.pu in_b.pu

same_pu : (g : Geometry) (a b : Address) → IsAddress g a → IsAddress g b → unit_of g a ≡ unit_of g b → a.pu ≡ b.pu
same_pu g a b in_a in_b h = sym (mod-mul-add a.group g.pus a.pu in_a.pu) ∙ ap (λ n. n % g.pus) h ∙ mod-mul-add b.group g.pus b.pu in_b.pu

pub one_address : (g : Geometry) (a b : Address) → IsAddress g a → IsAddress g b → unit_of g a ≡ unit_of g b → a.chunk ≡ b.chunk → a.block ≡ b.block → a ≡ b
one_address g a b in_a in_b u c k =
    same_address a.group b.group a.pu b.pu a.chunk b.chunk a.block b.block (same_group g a b in_a in_b u) (same_pu g a b in_a in_b u) c k

-- first blocks at two places of a vector are those of two chunks
firsts_apart : (g : Geometry) (xs : List Address) (n k : ℕ) (a b : Address) → IsVector g xs → AreFirstBlocks xs → n < k → slice_get xs n ≡ Some a
    → slice_get xs k ≡ Some b → unit_of g a ≡ unit_of g b → a.chunk ≡ b.chunk → ⊥
firsts_apart g xs n k a b v firsts before at_n at_k u c =
    v.apart k (record {
      index = n;
      address = a;
      before = before;
      there = at_n;
      again = at_k
          ∙ ap Some (sym (one_address g a b (v.inside n a at_n) (v.inside k b at_k) u c (firsts n a at_n ∙ sym (firsts k b at_k))));
    })

pub resets_spare : (g : Geometry) (xs : List Address) (n : ℕ) (d : Address) (e : EventAt) → IsVector g xs → AreFirstBlocks xs → n < length xs
    → command_of e ≡ reset_of g (slice_index_or xs n d)
    → (k : ℕ) (c : UnitCommand) → n < k → slice_get (resets g xs) k ≡ Some c → Spares e c
resets_spare g xs n d e v firsts within is k c before there =
    let b = map_back (reset_of g) xs k c there in
    apart (λ u ch. firsts_apart g xs n k (slice_index_or xs n d) b.0 v firsts before (slice_get-get_or xs n d within) b.1
    (sym (ap (λ (c : UnitCommand). c.unit) is) ∙ u ∙ sym (ap (λ (c : UnitCommand). c.unit) b.2))
    (sym (ap (λ (c : UnitCommand). c.chunk) is) ∙ ch ∙ sym (ap (λ (c : UnitCommand). c.chunk) b.2)))

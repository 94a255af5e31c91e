-- The checks of the settings hold exactly where the shape is accepted.
use Rattle.std.proofs.Common.{◌≡◌, ◌↔◌, ℕ, ◌^◌, ◌⊎◌, inl, inr, ◌==◌, ◌&&◌, ◌||◌, Bool, true, false, List, [], ◌∷◌, Option, Some, None, IsNone, nat_le, nat_lt, refl, sym, ◌∙◌}
use Rattle.std.specs.List.{AllByRecursion}
use Rattle.std.proofs.lemmas.Bool.{leb-true, eqb-true, eq-eqb}
use Rattle.pblk_model.specs.declared.shape.Shape.{Shape}
use Rattle.pblk_model.specs.Accepted.{IsDriveShape, IsAccepted, settings_checks, is_ring_power}
use Rattle.pblk_model.specs.Checks.{first_failing}
use Rattle.pblk_model.proofs.Tests.{both, either}
use Rattle.pblk_model.proofs.AcceptedLemmas.{ring_power_is, settings_pass}

or_one : (a b : Bool) → (a ≡ true) ⊎ (b ≡ true) → (a || b) ≡ true
or_one true b h = refl
or_one false b (inl e) = absurd (cc)
or_one false b (inr e) = e

sector_is : (n : ℕ) → ((n == 512) || (n == 4096)) ≡ true → (n ≡ 512) ⊎ (n ≡ 4096)
sector_is n e = elim (either (n == 512) (n == 4096) e) [
  | inl h ↦ inl (eqb-true n 512 h)
  | inr h ↦ inr (eqb-true n 4096 h)
]

is_sector : (n : ℕ) → (n ≡ 512) ⊎ (n ≡ 4096) → ((n == 512) || (n == 4096)) ≡ true
is_sector n (inl e) = or_one (n == 512) (n == 4096) (inl (eq-eqb n 512 e))
is_sector n (inr e) = or_one (n == 512) (n == 4096) (inr (eq-eqb n 4096 e))

all_hold : (checks : List (ℕ × Bool)) → first_failing checks ≡ None → AllByRecursion (λ (check : ℕ × Bool). check.1 ≡ true) checks
all_hold [] e = tt
all_hold ((n, true) ∷ checks) e = (refl, all_hold checks e)
all_hold ((n, false) ∷ checks) e = absurd (cc)

accepted_of : (s : Shape) → IsDriveShape s → first_failing (settings_checks s) ≡ None → IsAccepted s
accepted_of s drive e =
    let h = all_hold (settings_checks s) e in
    let capacity = both (nat_le 1 s.capacity && nat_lt s.capacity (2 ^ 40)) _ h.1.1.1.0 in
    let counts = both (nat_le 1 s.capacity) _ capacity.0 in
    let ring = both (is_ring_power s.ring) _ h.1.1.1.1.0 in
    let power = ring_power_is s.ring ring.0 in
    record {
      drive = drive;
      target = record {
        sector = sector_is s.sector h.0;
        size = leb-true _ _ h.1.0;
        room = leb-true _ _ h.1.1.0;
        some_capacity = leb-true _ _ counts.0;
        capacity_number = leb-true _ _ counts.1;
        spare = leb-true _ _ capacity.1;
        ring_power = power.0;
        ring_low = leb-true _ _ ring.1;
        ring_high = power.1;
      };
    }

none_is : (o : Option ℕ) → IsNone o → o ≡ None
none_is None e = refl
none_is (Some n) e = absurd (cc)

is_none : (o : Option ℕ) → o ≡ None → IsNone o
is_none None e = refl
is_none (Some n) e = absurd (cc)

pub settings_agree : (s : Shape) (o : Option ℕ) → IsDriveShape s → o ≡ first_failing (settings_checks s) → IsNone o ↔ IsAccepted s
settings_agree s o drive e = (λ n. accepted_of s drive (sym e ∙ none_is o n), λ a. is_none o (e ∙ settings_pass s a))

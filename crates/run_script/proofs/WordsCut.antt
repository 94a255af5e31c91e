-- Words are cut at spaces.
use Rattle.std.proofs.Common.{◌≡◌, ◌≢◌, ℕ, ◌==◌, false, List, [], ◌∷◌, ◌++◌, refl}
use Rattle.std.specs.List.{slice_split}
use Rattle.std.proofs.lemmas.Bool.{ne_eqb}
use Rattle.run_script.specs.Lines.{Lacks}

not_space : (b : ℕ) → b ≢ 32 → (b == 32) ≡ false
not_space b h = ne_eqb b 32 h

-- where a list has no space it is one word
pub uncut : (bytes : List ℕ) → Lacks 32 bytes → slice_split (λ byte. byte == 32) bytes ≡ bytes ∷ []
uncut [] h = refl
uncut (b ∷ bytes) h = rw (not_space b h.0) (rw (uncut bytes h.1) refl)

-- the first word ends at the first space
pub cut : (word rest : List ℕ) → Lacks 32 word → slice_split (λ byte. byte == 32) (word ++ 32 ∷ rest) ≡ word ∷ slice_split (λ byte. byte == 32) rest
cut [] rest h = refl
cut (b ∷ word) rest h = rw (not_space b h.0) (rw (cut word rest h.1) refl)

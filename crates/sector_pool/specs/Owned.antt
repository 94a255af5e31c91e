-- What a cut region owns, as formulas on memory.
use Rattle.std.specs.Prelude.{refl, ℕ, ◌+◌, Bool, true, false, List, [], ◌∷◌, length}
use Rattle.std.specs.Coded.{Coded, code_by, coded×, coded_ℕ}
use base.Fraction.{full_share}
use base.Fml.{Fml, fsep, fex, feq, fall, fwand}
use denote.Builtin.{u8}
use denote.Array.{Array}
use denote.RawPtr.{Ptr, coded_ptr, lies_at}
use denote.RawPtr.Bytes.{bytes}

-- the bytes of a `Vec` that has handed them out: where they begin, and how many they are
pub record Extent : Type 0 where
  pub ptr : Ptr
  pub len : ℕ

abbrev pub extent_code : Coded Extent
extent_code = code_by (Ptr × ℕ) (coded× coded_ptr coded_ℕ) (λ e. (e.ptr, e.len)) (λ c. record { ptr = c.0; len = c.1 }) (λ _. refl)

-- these bytes, from the pointer on
abbrev pub holds_bytes : Ptr → List ℕ → Fml
holds_bytes ptr content = lies_at (Array u8 (length content)) full_share ptr content

-- what is owned of a `Vec` without its bytes: given any that fill the extent, it is refilled with them
abbrev pub awaits_bytes : Extent → ℕ → (List ℕ → Fml) → Fml
awaits_bytes e len refilled = fsep (feq ℕ len e.len)
    (fall (List ℕ) (λ content. fwand (fsep (feq ℕ (length content) e.len) (holds_bytes e.ptr content)) (refilled content)))

-- so many bytes with some content, from a place of a block of memory on
abbrev pub some_bytes : ℕ → ℕ → ℕ → Fml
some_bytes count block at = fex (List ℕ) (λ content. fsep (feq ℕ (length content) count) (bytes full_share content block at))

-- from a place on, the ranges of `stride` bytes that are here, and `rest` bytes behind the last of all
abbrev pub ranges_here : ℕ → ℕ → ℕ → ℕ → List Bool → Fml
ranges_here block stride rest at [] = some_bytes rest block at
ranges_here block stride rest at (true ∷ here) = fsep (some_bytes stride block at) (ranges_here block stride rest (at + stride) here)
ranges_here block stride rest at (false ∷ here) = ranges_here block stride rest (at + stride) here

-- What a worker knows once it was told all that the heart knows.
use Rattle.std.proofs.Common.{◌≡◌, suc, List, [], ◌∷◌, length, refl, ap₂, arith}
use Rattle.pblk_world.specs.Events.{Logged}
use Rattle.chronicle.specs.Prefixes.{Prefixes, ArePrefixes, longer_of}
use Rattle.chronicle.proofs.PrefixLemmas.{longer_right}

-- of two that know the same logs, one of them more of each
pub longer_is : (xss yss : Prefixes) → length xss ≡ length yss → ArePrefixes xss yss → longer_of xss yss ≡ yss
longer_is [] yss many is = refl
longer_is (xs ∷ xss) [] many is = absurd (let no : suc (length xss) ≡ 0 = many in omega arith)
longer_is (xs ∷ xss) (ys ∷ yss) many is =
    let fewer : suc (length xss) ≡ suc (length yss) = many in
    ap₂ (λ (zs : List Logged) (zss : Prefixes). zs ∷ zss) (longer_right xs ys (is.each 0))
    (longer_is xss yss (omega arith) (record { each = λ author. is.each (suc author) }))

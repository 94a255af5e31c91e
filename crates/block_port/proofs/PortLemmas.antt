-- Lemmas on the words of Port.
use Rattle.std.proofs.Common.{List, [], ap, arith, length, ℕ, ◌++◌, ◌+◌, ◌∙◌, ◌∷◌, ◌≡◌}
use Rattle.std.proofs.lemmas.List.{append_assoc}
use Rattle.block_port.specs.Own.{PlacedSector, placed_from}
use Rattle.block_port.specs.Port.{Learns, ModelPort, Rise}

pub rise_placed : (p lba : ℕ) (sectors : List (List ℕ)) → Rise p (p + length sectors) (placed_from p lba sectors)
rise_placed p lba [] = omega arith
rise_placed p lba (s ∷ sectors) =
    let e : p + 1 + length sectors ≡ p + length (s ∷ sectors) = omega arith in
    (omega arith, rw e at (rise_placed (p + 1) (lba + 1) sectors))

pub rise_append : (a b c : ℕ) (xs ys : List PlacedSector) → Rise a b xs → Rise b c ys → Rise a c (xs ++ ys)
rise_append a b c [] [] h k = omega (arith, h, k)
rise_append a b c [] (y ∷ ys) h k = (omega (arith, h, k.0), k.1)
rise_append a b c (x ∷ xs) ys h k = (h.0, rise_append (x.position + 1) b c xs ys h.1 k)

pub learns_more : (old mid new : ModelPort) → Learns old mid → Learns mid new → Learns old new
learns_more old mid new h k = record {
  more = h.more ++ k.more;
  known = k.known ∙ ap (λ xs. xs ++ k.more) h.known ∙ append_assoc old.known h.more k.more;
  rise = rise_append old.taken mid.taken new.taken h.more k.more h.rise k.rise;
  flushed = omega (arith, h.flushed, k.flushed);
}

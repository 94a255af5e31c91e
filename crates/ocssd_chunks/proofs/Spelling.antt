-- Blocks that are taken one after another from bytes that spell them.
use Rattle.std.proofs.Common.{◌≡◌, ℕ, suc, ◌+◌, ◌-◌, ◌*◌, ◌<◌, ◌≤◌, List, [], ◌∷◌, ◌++◌, length, take, drop, refl, sym, ap, ◌∙◌, arith, append_assoc, length-append}
use Rattle.std.proofs.lemmas.List.{append-nil, take-take, drop-drop, length-take-le}
use Rattle.pblk_model.specs.declared.chunk.Mark.{Mark}
use Rattle.pblk_model.specs.Blocks.{block_in}
use Rattle.ocssd_chunks.specs.Spelled.{AddsSpelled}
use Rattle.pblk_model.proofs.Numbers.{next_at}
use Rattle.pblk_model.proofs.BlocksLemmas.{blocks_of-append}
use Rattle.pblk_model.proofs.SpelledBlocks.{block_front, blocks_in-next}

-- the first n blocks of what is spelled were added, and the rest is left
pub record IsSpellingSoFar (size n : ℕ) (spelled rest old_bytes new_bytes : List ℕ) (old_marks new_marks : List Mark) : Type 0 where
  pub behind : rest ≡ drop (n * (size + 16)) spelled
  pub added : AddsSpelled size n spelled old_bytes new_bytes old_marks new_marks

pub spelling_begins : (size : ℕ) (spelled bytes : List ℕ) (marks : List Mark) → IsSpellingSoFar size 0 spelled spelled bytes bytes marks marks
spelling_begins size spelled bytes marks =
    let none : 0 * (size + 16) ≡ 0 = omega arith in
    record {
      behind = rw none refl;
      added = record {
        bytes = [];
        marks = [];
        bytes_added = sym (append-nil bytes);
        marks_added = sym (append-nil marks);
        whole = omega arith;
        many = refl;
        blocks = refl;
      };
    }

-- what is left is at least one more
pub room_for_next : (n count width long : ℕ) → n < count → long ≡ (count - n) * width → width ≤ long
room_for_next n count width long below long-is =
    let more : count - n ≡ (count - (n + 1)) + 1 = omega arith in
    let k = count - (n + 1) in
    omega (arith, long-is, ap (λ m. m * width) more, next_at k width)

-- and there is room for it
pub room_for_more : (n count size used room : ℕ) → n < count → used + (count - n) * size ≤ room → used + size ≤ room
room_for_more n count size used room below h = omega (arith, h, room_for_next n count size ((count - n) * size) below refl)

pub spelling_goes_on : (size n : ℕ) (spelled rest block others old_bytes bytes new_bytes : List ℕ) (old_marks marks new_marks : List Mark) (m : Mark)
    → IsSpellingSoFar size n spelled rest old_bytes bytes old_marks marks → size + 16 ≤ length rest
    → block ≡ take (size + 16) rest → others ≡ drop (size + 16) rest → m ≡ (block_in size block).mark
    → new_bytes ≡ bytes ++ take size block → new_marks ≡ marks ++ (m ∷ []) → IsSpellingSoFar size (n + 1) spelled others old_bytes new_bytes old_marks new_marks
spelling_goes_on size n spelled rest block others old_bytes bytes new_bytes old_marks marks new_marks m so long front back mark_is more_bytes more_marks =
    let a = so.added in
    let one : n + 1 ≡ suc n = omega arith in
    let next = next_at n (size + 16) in
    let size_is : length (take size block) ≡ size = length-take-le size block (omega (arith, ap length front, length-take-le (size + 16) rest long)) in
    let here : record { sector = take size (take size block); mark = m } ≡ block_in size (drop (n * (size + 16)) spelled) =
    rw (take-take size size block (omega arith), mark_is) (ap (block_in size) front ∙ block_front size rest ∙ ap (block_in size) so.behind) in
    record {
      behind = back ∙ ap (drop (size + 16)) so.behind ∙ drop-drop (size + 16) (n * (size + 16)) spelled ∙ ap (λ k. drop k spelled) (sym next);
      added = record {
        bytes = a.bytes ++ take size block;
        marks = a.marks ++ (m ∷ []);
        bytes_added = more_bytes ∙ ap (λ b. b ++ take size block) a.bytes_added ∙ append_assoc old_bytes a.bytes (take size block);
        marks_added = more_marks ∙ ap (λ b. b ++ (m ∷ [])) a.marks_added ∙ append_assoc old_marks a.marks (m ∷ []);
        whole = omega (arith, a.whole, length-append a.bytes (take size block), size_is, next_at n size);
        many = omega (arith, a.many, length-append a.marks (m ∷ []));
        blocks = blocks_of-append size a.bytes (take size block) a.marks (m ∷ []) (rw a.many a.whole)
            ∙ rw (a.blocks, here, one, blocks_in-next size n spelled) refl;
      };
    }

-- blocks that are added to empty lists are all that these hold
pub added_alone : (size count : ℕ) (spelled old_bytes bytes : List ℕ) (old_marks marks : List Mark)
    → AddsSpelled size count spelled old_bytes bytes old_marks marks → old_bytes ≡ [] → old_marks ≡ []
    → AddsSpelled size count spelled [] bytes [] marks
added_alone size count spelled old_bytes bytes old_marks marks a no_bytes no_marks = record {
  bytes = a.bytes;
  marks = a.marks;
  bytes_added = a.bytes_added ∙ ap (λ b. b ++ a.bytes) no_bytes;
  marks_added = a.marks_added ∙ ap (λ b. b ++ a.marks) no_marks;
  whole = a.whole;
  many = a.many;
  blocks = a.blocks;
}

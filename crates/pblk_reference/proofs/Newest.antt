-- The head, the end, and the newest records, step by step.
use Rattle.std.proofs.Common.{◌≡◌, ℕ, ◌+◌, ◌<◌, Bool, true, false, List, [], ◌∷◌, ◌++◌, length, take, get_or, map, Option, Some, None, refl, sym, ap, ◌∙◌, cond, arith}
use Rattle.std.specs.List.{filter, filter_map, fold, range_with_len}
use Rattle.std.specs.Global.{Vec}
use Rattle.std.proofs.lemmas.List.{append-nil, map_push}
use Rattle.std.proofs.lemmas.List.Elements.{filter_more}
use Rattle.std.proofs.lemmas.List.FromFn.{map-range_with_len_more}
use Rattle.std.proofs.lemmas.Grind.{fold-append}
use Rattle.pblk_model.specs.Image.{Image}
use Rattle.pblk_model.specs.StartRecord.{StartRecord, start_of}
use Rattle.pblk_model.specs.Records.{Record, records}
use Rattle.pblk_model.specs.Contents.{later_start, head, end_after, end, counted_after, counted, contents}
use Rattle.pblk_reference.specs.Reading.{head_to, sector_at}
use Rattle.pblk_reference.proofs.Ranges.{filter_map_range_more}

-- ---- the head

pub head_more : (i : Image) (n : ℕ) (best o : Option StartRecord) (start r : StartRecord) → o ≡ start_of i n → o ≡ Some start → Some r ≡ later_start best start
    → best ≡ head_to i n → Some r ≡ head_to i (n + 1)
unfolding head_to
head_more i n best o start r o-is some r-is best-is =
    r-is ∙ ap (λ (b : Option StartRecord). later_start b start) best-is
    ∙ sym (ap (fold later_start None) (filter_map_range_more (start_of i) n (Some start) (sym some ∙ o-is))
    ∙ fold-append later_start None (filter_map (start_of i) (range_with_len 0 n)) (start ∷ []))

pub head_same : (i : Image) (n : ℕ) (best o : Option StartRecord) → o ≡ start_of i n → o ≡ None → best ≡ head_to i n → best ≡ head_to i (n + 1)
unfolding head_to
head_same i n best o o-is none best-is =
    best-is ∙ sym (ap (fold later_start None)
    (filter_map_range_more (start_of i) n None (sym none ∙ o-is) ∙ append-nil (filter_map (start_of i) (range_with_len 0 n))))

pub all_heads : (i : Image) (n : ℕ) (best : Option StartRecord) → n ≡ i.shape.chunks → best ≡ head_to i n → best ≡ head i
unfolding head_to
all_heads i n best n-is best-is = best-is ∙ ap (λ m. fold later_start None (filter_map (start_of i) (range_with_len 0 m))) n-is

pub no_head : (i : Image) → None ≡ head_to i 0
unfolding head_to
no_head i = refl

-- ---- the end

pub end_is : (i : Image) (p : ℕ) (rs : List Record) (h : Option StartRecord) → p ≡ end_after rs h → rs ≡ records i → h ≡ head i → p ≡ end i
end_is i p rs h p-is rs-is h-is = p-is ∙ ap (λ x. end_after x h) rs-is ∙ ap (end_after (records i)) h-is

-- ---- the records that count

pub kept_more : (p : Record → Bool) (xs : List Record) (i : ℕ) (x : Record) (front now : List Record) → i < length xs → x ≡ get_or xs i x → p x ≡ true
    → now ≡ front ++ x ∷ [] → front ≡ filter p (take i xs) → now ≡ filter p (take (i + 1) xs)
kept_more p xs i x front now lt x-is passes now-is front-is =
    let y = get_or xs i x in
    now-is ∙ ap (λ ys. ys ++ x ∷ []) front-is ∙ ap (λ (z : Record). filter p (take i xs) ++ z ∷ []) x-is
    ∙ sym (filter_more p xs i x lt ∙ ap (λ b. filter p (take i xs) ++ cond b (y ∷ []) []) (sym (ap p x-is) ∙ passes))

pub kept_same : (p : Record → Bool) (xs : List Record) (i : ℕ) (x : Record) (front : List Record) → i < length xs → x ≡ get_or xs i x → p x ≡ false
    → front ≡ filter p (take i xs) → front ≡ filter p (take (i + 1) xs)
kept_same p xs i x front lt x-is fails front-is =
    let y = get_or xs i x in
    front-is ∙ sym (filter_more p xs i x lt ∙ ap (λ b. filter p (take i xs) ++ cond b (y ∷ []) []) (sym (ap p x-is) ∙ fails)
    ∙ append-nil (filter p (take i xs)))

pub counted_is : (i : Image) (kept rs : List Record) (h : Option StartRecord) → kept ≡ counted_after rs h → rs ≡ records i → h ≡ head i → kept ≡ counted i
counted_is i kept rs h kept-is rs-is h-is = kept-is ∙ ap (λ x. counted_after x h) rs-is ∙ ap (counted_after (records i)) h-is

-- ---- the sectors

pub sectors_more : (i : Image) (n : ℕ) (front now : List (Vec ℕ)) (sector : Vec ℕ) → now ≡ front ++ sector ∷ [] → sector.items ≡ sector_at i n
    → map (λ s. s.items) front ≡ map (sector_at i) (range_with_len 0 n) → map (λ s. s.items) now ≡ map (sector_at i) (range_with_len 0 (n + 1))
sectors_more i n front now sector now-is sector-is front-is =
    ap (map (λ s. s.items)) now-is ∙ map_push (λ s. s.items) front sector ∙ ap (λ xs. xs ++ sector.items ∷ []) front-is
    ∙ ap (λ x. map (sector_at i) (range_with_len 0 n) ++ x ∷ []) sector-is
    ∙ sym (map-range_with_len_more (sector_at i) 0 n n (omega arith))

pub all_sectors : (i : Image) (n : ℕ) (all : List (Vec ℕ)) → n ≡ i.shape.capacity → map (λ s. s.items) all ≡ map (sector_at i) (range_with_len 0 n)
    → map (λ s. s.items) all ≡ contents i
unfolding sector_at
all_sectors i n all n-is all-is = all-is ∙ ap (λ m. map (sector_at i) (range_with_len 0 m)) n-is

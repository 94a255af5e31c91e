-- Openings and stripes are allowed by what the engine was told.
use Rattle.std.proofs.Common.{◌≡◌, ◌⊎◌, inl, inr, ℕ, ◌+◌, ◌/◌, ◌<◌, ◌≤◌, true, Some, List, length, sym, subst, subst₂, ap, ◌∙◌}
use Rattle.std.specs.List.{Contains}
use Rattle.pblk_model.specs.LineOrder.{start_len}
use Rattle.pblk_model.specs.Image.{Image, width}
use Rattle.pblk_model.specs.StartRecord.{StartRecord}
use Rattle.pblk_world.specs.Events.{Stripe, Logged}
use Rattle.pblk_world.specs.World.{Logs}
use Rattle.pblk_world.specs.EngineLog.{Begun, Opening, life_of, openings, Placed, placed_on, is_answered, has_failed}
use Rattle.pblk_world.specs.Fronts.{synced, waiting}
use Rattle.pblk_world.specs.Lines.{place_of}
use Rattle.pblk_world.specs.Starts.{have_landed, has_landed_start}
use Rattle.pblk_world.specs.Opening.{MayOpen}
use Rattle.pblk_world.specs.Placing.{next_address, end_address, line_end, start_blocks, data_blocks, end_blocks, stripe_at, next_block, is_done_with, IsNext, IsStart, IsData, IsEnd, IsPad, MayPlace}
use Rattle.world_laws.specs.SameTold.{AreSameTold}
use Rattle.world_laws.proofs.ToldImages.{image_same}
use Rattle.world_laws.proofs.ToldTables.{free_told, left_told, rows_told}

pub opening_told : (i : Image) (a b : Logs) → AreSameTold i a b → (g : Begun) (line : ℕ) (start : StartRecord)
    → MayOpen i a g line start → MayOpen i b g line start
opening_told i a b h g line start may = record {
  in_range = may.in_range;
  is_free = free_told i a b h line ∙ may.is_free;
  is_first = λ other before. free_told i a b h other ∙ may.is_first other before;
  one_other = λ m n inside within left has. may.one_other m n inside within (sym (left_told i a b h m) ∙ left) (sym (left_told i a b h n) ∙ has);
  own_line = may.own_line;
  own_width = may.own_width ∙ ap (λ (j : Image). width j line) (sym (image_same i a b h));
  own_capacity = may.own_capacity;
  seq = may.seq ∙ ap (λ (log : List Logged). g.beginning.seq + length (openings log)) (sym h.own);
  first_seq = may.first_seq;
  front = may.front ∙ ap (synced i.shape) (sym h.own);
  rows = may.rows ∙ sym (rows_told i a b h);
  seq_number = may.seq_number;
  front_number = may.front_number;
}

next_told : (i : Image) (a b : Logs) → AreSameTold i a b → (o : Opening) (stripe : Stripe) → IsNext i a o stripe → IsNext i b o stripe
next_told i a b h o stripe its = record {
  not_failed = ap (λ (log : List Logged). has_failed log o) h.own ∙ its.not_failed;
  in_order = subst₂ (λ (log : List Logged) (j : Image). place_of j stripe.line (next_address i.shape log o) ≡ Some (stripe.unit, stripe.at))
      (sym h.own) (sym (image_same i a b h)) its.in_order;
}

start_told : (i : Image) (a b : Logs) → AreSameTold i a b → (o : Opening) (stripe : Stripe) → IsStart i a o stripe → IsStart i b o stripe
start_told i a b h o stripe its = record {
  next = next_told i a b h o stripe its.next;
  within = subst (λ (log : List Logged). next_address i.shape log o < start_len i.shape) (sym h.own) its.within;
  blocks = its.blocks ∙ ap (λ (log : List Logged). stripe_at i.shape (start_blocks i.shape o) 0 (next_address i.shape log o)) (sym h.own);
}

data_told : (i : Image) (a b : Logs) → AreSameTold i a b → (o : Opening) (stripe : Stripe) → IsData i a o stripe → IsData i b o stripe
data_told i a b h o stripe its = record {
  next = next_told i a b h o stripe its.next;
  within = subst (λ (log : List Logged). next_address i.shape log o < end_address i.shape o) (sym h.own) its.within;
  start_landed = ap (λ (log : List Logged). has_landed_start i.shape log o) h.own ∙ its.start_landed;
  has_entry = subst (λ (log : List Logged). 0 < length (waiting i.shape log)) (sym h.own) its.has_entry;
  blocks = its.blocks ∙ ap (data_blocks i.shape) (sym h.own);
}

end_told : (i : Image) (a b : Logs) → AreSameTold i a b → (o : Opening) (stripe : Stripe) → IsEnd i a o stripe → IsEnd i b o stripe
end_told i a b h o stripe its = record {
  next = next_told i a b h o stripe its.next;
  from = subst (λ (log : List Logged). end_address i.shape o ≤ next_address i.shape log o) (sym h.own) its.from;
  within = subst (λ (log : List Logged). next_address i.shape log o < line_end i.shape o) (sym h.own) its.within;
  data_landed = subst (λ (log : List Logged). have_landed log o (end_address i.shape o / i.shape.ws_opt) ≡ true) (sym h.own) its.data_landed;
  blocks = its.blocks
      ∙ ap (λ (log : List Logged). stripe_at i.shape (end_blocks i.shape log o) (end_address i.shape o) (next_address i.shape log o)) (sym h.own);
}

pad_told : (i : Image) (a b : Logs) → AreSameTold i a b → (o : Opening) (stripe : Stripe) → IsPad i a o stripe → IsPad i b o stripe
pad_told i a b h o stripe its = record {
  failed = ap (λ (log : List Logged). has_failed log o) h.own ∙ its.failed;
  chunk_left = ap (λ (log : List Logged). is_done_with i.shape log o stripe.unit) h.own ∙ its.chunk_left;
  at = its.at ∙ ap (λ (log : List Logged). next_block i.shape log o stripe.unit) (sym h.own);
  address = its.address;
  place = ap (λ (j : Image). place_of j stripe.line its.address) (image_same i a b h) ∙ its.place;
  in_order = subst₂ (λ (log : List Logged) (j : Image). (at unit : ℕ) → at < its.address
      → place_of j stripe.line at ≡ Some (unit, next_block i.shape log o unit) → is_done_with i.shape log o unit ≡ true)
      (sym h.own) (sym (image_same i a b h)) its.in_order;
  blocks = its.blocks;
}

kind_told : (i : Image) (a b : Logs) → AreSameTold i a b → (o : Opening) (stripe : Stripe)
    → IsStart i a o stripe ⊎ (IsData i a o stripe ⊎ (IsEnd i a o stripe ⊎ IsPad i a o stripe))
    → IsStart i b o stripe ⊎ (IsData i b o stripe ⊎ (IsEnd i b o stripe ⊎ IsPad i b o stripe))
kind_told i a b h o stripe (inl its) = inl (start_told i a b h o stripe its)
kind_told i a b h o stripe (inr (inl its)) = inr (inl (data_told i a b h o stripe its))
kind_told i a b h o stripe (inr (inr (inl its))) = inr (inr (inl (end_told i a b h o stripe its)))
kind_told i a b h o stripe (inr (inr (inr its))) = inr (inr (inr (pad_told i a b h o stripe its)))

pub placing_told : (i : Image) (a b : Logs) → AreSameTold i a b → (stripe : Stripe) → MayPlace i a stripe → MayPlace i b stripe
placing_told i a b h stripe may = record {
  in_range = may.in_range;
  chunk = may.chunk;
  opening = may.opening;
  is_open = ap (λ (log : List Logged). life_of log stripe.line) h.own ∙ may.is_open;
  idle = subst (λ (log : List Logged). (p : Placed) → Contains (placed_on log stripe.unit) p → is_answered log p ≡ true) (sym h.own) may.idle;
  kind = kind_told i a b h may.opening stripe may.kind;
}

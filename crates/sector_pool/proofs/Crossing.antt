-- Bytes belong to no thread, so what owns nothing but bytes may go to another one.
use Rattle.std.proofs.Common.{ℕ, ◌+◌, Bool, true, false, List, [], ◌∷◌, length}
use base.Fraction.{full_share}
use base.Shift.{Keyless}
use denote.Builtin.{u8}
use denote.Array.{Array}
use denote.RawPtr.{Ptr, block_ptr, null_ptr}
use denote.RawPtr.Bytes.{bytes}
use denote.Param.Send.{IsSend, IsSync, part_keyless, array_send, sendable, struct_send, owning_send}
use denote.Struct.Declared as declared
use Rattle.std.specs.Vec.{with_items}
use Rattle.std.proofs.Crossing.{Vec-send}
use Rattle.sector_pool.specs.Owned.{holds_bytes, some_bytes, ranges_here}
use Rattle.sector_pool.specs.contracts.memory.Ranges as Ranges
use Rattle.sector_pool.specs.contracts.memory.Origin as Origin
use Rattle.sector_pool.specs.contracts.memory.Emptied as Emptied
use Rattle.sector_pool.specs.contracts.memory.Emptied.TheInside as Inside

byte : IsSend u8
byte = search sendable

content_keyless : (content : List ℕ) (block at : ℕ) → Keyless (bytes full_share content block at)
content_keyless [] block at = tt
content_keyless (x ∷ content) block at = (part_keyless u8 byte full_share x block at, content_keyless content block (at + 1))

some_keyless : (count block at : ℕ) → Keyless (some_bytes count block at)
some_keyless count block at = λ content. (tt, content_keyless content block at)

here_keyless : (block stride rest at : ℕ) (here : List Bool) → Keyless (ranges_here block stride rest at here)
here_keyless block stride rest at [] = some_keyless rest block at
here_keyless block stride rest at (true ∷ here) = (some_keyless stride block at, here_keyless block stride rest (at + stride) here)
here_keyless block stride rest at (false ∷ here) = here_keyless block stride rest (at + stride) here

held_keyless : (ptr : Ptr) (content : List ℕ) → Keyless (holds_bytes ptr content)
held_keyless null_ptr content = tt
held_keyless (block_ptr block at) content = part_keyless (Array u8 (length content)) (array_send u8 (length content) byte) full_share content block at

pub ranges-send : IsSend Ranges.the_row
ranges-send = owning_send Ranges.the_type (search sendable) (λ m. here_keyless m.region.block m.region.stride m.rest m.region.start m.here) (λ k x w. tt)

pub ranges-sync : IsSync Ranges.the_row
ranges-sync = record { shared = λ m block at κ q. part_keyless Ranges.the_row ranges-send q m block at }

pub origin-send : IsSend Origin.the_row
origin-send = owning_send Origin.the_type tt (λ o. tt) (λ k x w. tt)

pub origin-sync : IsSync Origin.the_row
origin-sync = record { shared = λ o block at κ q. part_keyless Origin.the_row origin-send q o block at }

pub emptied-send : IsSend Emptied.the_row
emptied-send = record {
  owned = λ e vs. (
    (λ _. tt),
    λ v. (
      tt,
      λ content. (
        (tt, held_keyless e.ptr content),
        (struct_send (declared.shape Inside.the_type) (Vec-send u8 byte, tt)).owned (with_items v.vec content, tt) vs,
      ),
    ),
  );
  leaving = λ k x w. tt;
}

pub emptied-sync : IsSync Emptied.the_row
emptied-sync = record { shared = λ e block at κ. tt }

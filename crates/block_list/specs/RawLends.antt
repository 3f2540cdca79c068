-- What a block's memory ends as, where a `&mut` to one of its items is returned.
use Rattle.std.specs.Prelude.{ℕ, slice_set}
use Rattle.std.specs.Borrow.{Lends, Fml, RattleType, MutBor}
use Rattle.core.specs.declared.alloc.Allocator.{Ghosts}
use Rattle.block_list.specs.declared.raw.RawBlock.{RawBlock}
use Rattle.block_list.specs.contracts.raw.RawBlock.{the_row}

-- the memory with w as its i-th item
abbrev pub with_item : {T A : Type 0} → RawBlock T A → ℕ → T → RawBlock T A
with_item b i w = record { ptr = b.ptr; by = b.by; items = slice_set b.items i w; alloc = b.alloc }

-- once the borrow r ends, the item has the last value written through r
abbrev pub lends_raw : (T A : RattleType) → (heap : Ghosts A.Denot) → MutBor (RawBlock T.Denot A.Denot) → ℕ → MutBor T.Denot → Fml
lends_raw T A heap b i r = Lends (the_row T A heap) T b r (with_item b.now i)

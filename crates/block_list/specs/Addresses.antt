-- Where the items of blocks lie in memory, and that they stay there.
use Rattle.std.specs.Prelude.{◌≡◌, ℕ, ◌*◌, ◌/◌, ◌%◌, ◌<◌, List, map, slice_index_or}
use Rattle.std.specs.Mem.{type_size}
use Rattle.std.specs.Borrow.{RattleType}
use denote.RawPtr.{Ptr, null_ptr, ◌+ₚ◌}
use Rattle.block_list.specs.declared.raw.RawBlock.{RawBlock}

-- b has the memory of a
pub record SameRoom {T A : Type 0} (a b : RawBlock T A) : Type 0 where
  pub start : b.ptr ≡ a.ptr
  pub owner : b.alloc ≡ a.alloc

-- where the i-th of the items from p on lies
abbrev pub item_address : RattleType → Ptr → ℕ → Ptr
item_address R p i = p +ₚ i * type_size R

module _ {T A : Type 0} where
  -- where each block begins
  abbrev pub starts : List (RawBlock T A) → List Ptr
  starts blocks = map (λ b. b.ptr) blocks

  -- where the i-th item of all blocks lies
  abbrev pub address_of : RattleType → List (RawBlock T A) → ℕ → Ptr
  address_of R blocks i = item_address R (slice_index_or (starts blocks) (i / 64) null_ptr) (i % 64)

  -- the first n items of the later blocks lie where those of the earlier ones do
  abbrev pub SameAddresses : RattleType → ℕ → List (RawBlock T A) → List (RawBlock T A) → Type 0
  SameAddresses R n earlier later = (i : ℕ) → i < n → address_of R later i ≡ address_of R earlier i

-- A `&` to a block's memory may go to another thread where a `&` to an item may. Assumes nothing.
use Rattle.std.proofs.Common.{length}
use denote.RattleType.{RattleType}
use denote.Array.{Array}
use denote.Param.Send.{IsSync, array_sync, struct_sync, sendable}
use denote.Struct.Owning.{shape, to}
use Rattle.core.specs.declared.alloc.Allocator.{Ghosts}
use Rattle.std_alloc.proofs.SendSync.{seen}
use Rattle.block_list.specs.contracts.raw.RawBlock.{the_row, the_type}

pub sync : (T A : RattleType) (g : Ghosts A.Denot) → IsSync T → IsSync A → IsSync (the_row T A g)
sync T A g items heap = let O = the_type T A g in record {
  shared = λ b at o κ. ((struct_sync (shape O) (search sendable, (search sendable, tt))).shared (to O b) at o κ, (tt, seen (Array T (length b.items)) (array_sync T (length b.items) items) b.ptr b.items κ));
}

-- A block's memory may go to another thread where its items and its allocator may. Assumes nothing.
use Rattle.std.proofs.Common.{◌*◌, ◌-◌, length}
use mir.Raw.{raw}
use mir.Syntax.{Ty, ty_array}
use base.Fml.{Fml}
use base.Shift.{Keyless}
use denote.RattleType.{RattleType}
use denote.Array.{Array}
use denote.Memory.{lone}
use denote.RawPtr.{Ptr, block_ptr, null_ptr, room_for, in_block, ◌+ₚ◌}
use denote.Param.Send.{IsSend, Frees, AllSend, array_send, owning_send, struct_send, sendable}
use denote.Struct.Owning.{shape, fields, to}
use denote.Struct.Struct.{exits_of}
use Rattle.std.specs.Mem.{type_size}
use Rattle.core.specs.declared.alloc.Allocator.{Ghosts}
use Rattle.std_alloc.proofs.SendSync.{lies, quiet}
use Rattle.block_list.specs.contracts.raw.RawBlock.{the_row, the_type}

room_keyless : (τ : Ty) (p : Ptr) → Keyless (room_for τ p)
room_keyless τ (block_ptr b o) = tt
room_keyless τ null_ptr = tt

in_block_keyless : (p : Ptr) (F : Fml) → Keyless F → Keyless (in_block p F)
in_block_keyless (block_ptr b o) F k = k
in_block_keyless null_ptr F k = tt

pub send : (T A : RattleType) (g : Ghosts A.Denot) → IsSend T → IsSend A → Frees g g.dealloc_token → IsSend (the_row T A g)
send T A g items heap frees =
    let O = the_type T A g in let all : AllSend (fields O) = (search sendable, (search sendable, tt)) in
    owning_send O all
    (λ b. (
      tt,
      in_block_keyless b.ptr _ (
        lies (Array T (length b.items)) (array_send T (length b.items) items) b.ptr b.items,
        (room_keyless (raw (ty_array (lone T.mir) (64 - length b.items))) (b.ptr +ₚ length b.items * type_size T), frees.frees b.alloc (raw (ty_array (lone T.mir) 64)) b.ptr),
      ),
    ))
    (λ kept. quiet (to O) (exits_of kept (fields O)) ((struct_send (shape O) all).leaving kept))

-- A `&` to a block's memory reaches its items, and neither the room after them nor the right to free it. Assumes
-- `Logic`.
use Rattle.std.proofs.Common.{sym, subst, ◌*◌, ◌-◌, ◌^◌, List, [], ◌++◌, length}
use seplogic.Ra.Ura.{Ura}
use base.Fraction.{full_share}
use base.Fml.{Lft, Fml, fsep, flt, Incl-trans}
use mir.Syntax.{Ty, ty_array}
use mir.Raw.{raw}
use types.Logic.{Logic}
use contract.BorrowLft.{meet_⊑_left}
use denote.RattleType.{RattleType}
use denote.Memory.{lone}
use denote.Array.{Array}
use denote.ArrayMemory.{Single}
use denote.Sharing.{said}
use denote.RawPtr.{Ptr, block_ptr, null_ptr, lies_at, room_for, in_block, ◌+ₚ◌}
use denote.Shares.{Shares, Shares-less, Shares-Array}
use denote.Param.Laws.{Laws}
use denote.Param.Shared.{copy_shared}
use denote.Struct.Field.{RawPtr-field}
use denote.Struct.Laws.{RawPtr-copy, field_copy}
use denote.Struct.Lending.{lent_at, Lends, Lends-false, Lends-lies, Lends-said, Lends-first, Lends-both, of_Lends}
use Rattle.std.specs.Mem.{type_size}
use Rattle.core.specs.Allocator.{block_with_items}
use Rattle.core.specs.declared.alloc.Allocator.{Ghosts}
use Rattle.core.specs.contracts.marker.PhantomData as phantom
use Rattle.std_alloc.proofs.SharedLaws.{lent_shr_laws}
use Rattle.block_list.specs.contracts.raw.RawBlock as C
use Rattle.block_list.proofs.raw.RawBlock.TheLaw.Statement.{statement}

module _ (R : RattleType) (L : Laws R) (token : Ty → Ptr → Fml) (xs : List R.Denot) {M : Type 1} {𝓤 : Ura M} (𝓛 : Logic 𝓤) (l : Lft) (items_share : Shares 𝓛 R l) where
  abbrev Items : RattleType
  Items = Array R (length xs)

  abbrev Beyond : Ptr → Fml
  Beyond p = fsep (room_for (raw (ty_array (lone R.mir) (64 - length xs))) (p +ₚ length xs * type_size R)) (token (raw (ty_array (lone R.mir) 64)) p)

  Lends-items : (p : Ptr) → Lends 𝓛 (in_block p (block_with_items token R p (length xs) 64 xs)) (lent_at Items p xs) l
  Lends-items (block_ptr b o) = let p = block_ptr b o in
      Lends-first 𝓛 (lies_at Items full_share p xs) (Beyond p) (lent_at Items p xs) l
      (Lends-lies 𝓛 Items l p xs (Shares-Array 𝓛 R (subst Single (sym L.one) tt) (length xs) l items_share xs))
  Lends-items null_ptr = Lends-false 𝓛 (lent_at Items null_ptr xs) l

abbrev small : RattleType → Fml
small R = flt (64 * type_size R) (2 ^ 63)

pub shares : (R A : RattleType) (g : Ghosts A.Denot) (L : Laws R) (K : Laws A) → statement R A g L K
shares R A g L K =
    let l = (C.the_row R A g).lives in
    of_Lends (C.struct R A g) (C.the_codes R.Denot A.Denot R.coded A.coded (phantom.the_row A).coded) (C.the_heap R A g) (C.the_lent R A g)
    (λ d p. lent_shr_laws R L.shr_laws d.ptr (length d.items) 64 d.items)
    (copy_shared RawPtr-field RawPtr-copy, (copy_shared (phantom.the_field A) (field_copy (phantom.the_type A) tt), tt))
    (λ M 𝓤 𝓛 d p.
    let at_l = Shares-less 𝓛 R R.lives l (Incl-trans (meet_⊑_left (R.lives ++ (A.lives ++ [])) _) (meet_⊑_left R.lives (A.lives ++ []))) (L.shares 𝓛) in
    Lends-both 𝓛 (small R) (in_block d.ptr (block_with_items (g.dealloc_token d.alloc) R d.ptr (length d.items) 64 d.items)) (said (small R)) (lent_at (Array R (length d.items)) d.ptr d.items) l
    (Lends-said 𝓛 (small R) tt l) (Lends-items R L (g.dealloc_token d.alloc) d.items 𝓛 l at_l d.ptr))

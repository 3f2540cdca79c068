-- Rows in blocks, under a list of heads. A head has the last bin that its block may hold, and the total of the blocks
-- up to it.
use Rattle.std.specs.Prelude.{◌≡◌, ℕ, zero, suc, ◌+◌, ◌<◌, ◌≤◌, ◌^◌, ◌⊎◌, slice_index_or, List, [], ◌∷◌, ◌++◌, length, map, All}
use Rattle.std.specs.declared.vec.Vec.{Vec}
use Rattle.std.specs.declared.alloc.Global.{Global}
use Rattle.probe_core.specs.Roomy.{Roomy}
use Rattle.time_table.specs.declared.row.Row.{Row}
use Rattle.time_table.specs.Totals.{Rise, IsTotal, counts_from, totals_from, last_total, bin_after, raised}
use Rattle.time_table.specs.Places.{more}

-- rows, and room for some more
abbrev pub Block : Type 0
Block = Roomy Row

-- the rows of all blocks as one list, where the total before them is `before`
abbrev pub flat : ℕ → List Block → List Row
flat before [] = []
flat before (b ∷ bs) = map (raised before) b.items ++ flat (before + last_total 0 b.items) bs

-- the rows of each block
abbrev pub lists : List Block → List (List Row)
lists [] = []
lists (b ∷ bs) = b.items ∷ lists bs

-- the bins of all blocks with their counts
abbrev pub parts : List Block → List (ℕ × ℕ)
parts [] = []
parts (b ∷ bs) = counts_from 0 b.items ++ parts bs

-- the head of a block, where earlier blocks have bins less than `least` and the total `before`
pub record IsHead (least before : ℕ) (head : Row) (rows : List Row) : Type 0 where
  pub rise : Rise least 0 rows
  pub within : All (λ row. row.bin ≤ head.bin) rows
  pub bins : least ≤ head.bin
  pub some : 0 < last_total 0 rows
  pub total : head.total ≡ before + last_total 0 rows

-- the heads are those of the blocks, and the last block may hold each later bin
abbrev pub Held : ℕ → ℕ → List Row → List Block → Type 0
Held least before [] [] = least ≡ 2 ^ 32
Held least before [] (b ∷ bs) = ⊥
Held least before (h ∷ hs) [] = ⊥
Held least before (h ∷ hs) (b ∷ bs) = IsHead least before h b.items × Held (h.bin + 1) h.total hs bs

-- each head but the last has the bin of its block's last row
abbrev pub AreLast : List Row → List Block → Type 0
AreLast [] bs = Unit {0}
AreLast (h ∷ hs) [] = Unit {0}
AreLast (h ∷ hs) (b ∷ bs) = (0 < length hs → bin_after 0 b.items ≡ h.bin + 1) × AreLast hs bs

-- the same of all heads but the one at a place
abbrev pub AreLastBut : ℕ → List Row → List Block → Type 0
AreLastBut q [] bs = Unit {0}
AreLastBut q (h ∷ hs) [] = Unit {0}
AreLastBut zero (h ∷ hs) (b ∷ bs) = AreLast hs bs
AreLastBut (suc q) (h ∷ hs) (b ∷ bs) = (0 < length hs → bin_after 0 b.items ≡ h.bin + 1) × AreLastBut q hs bs

-- blocks under their heads
pub record IsHeld (heads : List Row) (blocks : List Block) : Type 0 where
  pub held : Held 0 0 heads blocks
  pub last : AreLast heads blocks

-- a block of a split table has 32 to 63 rows, and room for 64
pub record IsSized (b : Block) : Type 0 where
  pub least : 32 ≤ length b.items
  pub most : length b.items ≤ 63
  pub room : 64 ≤ length b.items + b.spare

abbrev pub AllSized : List Block → Type 0
AllSized [] = Unit {0}
AllSized (b ∷ bs) = IsSized b × AllSized bs

-- rows in blocks under their heads, whose totals are less than a limit
pub record IsSplit (limit : ℕ) (heads : List Row) (blocks : List Block) : Type 0 where
  pub heads_held : IsHeld heads blocks
  pub open heads_held use *
  pub sized : AllSized blocks
  pub fits : IsTotal limit (last_total 0 heads)

-- a block that is short or full, with which a block of n rows makes one or two that are sized
pub record IsLoose (n : ℕ) (b : Block) : Type 0 where
  pub least : 31 ≤ length b.items
  pub most : length b.items ≤ 64
  pub enough : 32 ≤ length b.items + n
  pub few : length b.items + n ≤ 126
  pub room : 64 ≤ length b.items + b.spare

-- all blocks but one are sized
abbrev pub SizedBut : ℕ → ℕ → List Block → Type 0
SizedBut n q [] = ⊥
SizedBut n zero (b ∷ bs) = IsLoose n b × AllSized bs
SizedBut n (suc q) (b ∷ bs) = IsSized b × SizedBut n q bs

-- the rows of two blocks as those of one
abbrev pub one_list : List Row → List Row → List Row
one_list left right = left ++ map (raised (last_total 0 left)) right

-- the blocks with a block more in hand, whose rows follow those of the block at a place
abbrev pub in_hand : ℕ → Block → List Block → List Block
in_hand q right [] = []
in_hand zero right (b ∷ bs) = record { items = one_list b.items right.items; spare = b.spare } ∷ bs
in_hand (suc q) right (b ∷ bs) = b ∷ in_hand q right bs

-- a block in hand, with which the block at a place makes one or two that are sized
pub record FitsAt (q : ℕ) (right : Block) (blocks : List Block) : Type 0 where
  pub within : q < length blocks
  pub sized : SizedBut (length right.items) q blocks
  pub most : length right.items ≤ 64
  pub room : 64 ≤ length right.items + right.spare

-- heads and blocks with n records more in a bin of the block at a place, which is not split yet
pub record AddsAt (place bin n : ℕ) (heads heads' : Block) (blocks blocks' : List Block) : Type 0 where
  pub heads_held : IsHeld heads'.items blocks'
  pub open heads_held use *
  pub parts : parts blocks' ≡ more bin n (parts blocks)
  pub sized : SizedBut 0 place blocks'
  pub total : last_total 0 heads'.items ≡ last_total 0 heads.items + n
  pub count : length blocks' ≡ length blocks
  pub longer : (d : Block) → length (slice_index_or blocks' place d).items ≤ length (slice_index_or blocks place d).items + 1
  pub others : (i : ℕ) (b : Block) → i < place → b ≡ slice_index_or blocks' i b → b ≡ slice_index_or blocks i b
  pub spare : heads'.spare ≡ heads.spare

-- two blocks whose rows are enough for one that is sized, and not too many for two
pub record CanLevel (left right : Block) : Type 0 where
  pub some : 31 ≤ length left.items
  pub left_most : length left.items ≤ 64
  pub right_most : length right.items ≤ 64
  pub most : length left.items + length right.items ≤ 126
  pub enough : 32 ≤ length left.items + length right.items
  pub room_left : 64 ≤ length left.items + left.spare
  pub room_right : 64 ≤ length right.items + right.spare

-- the left block is sized, and the right one is too or has no rows
pub record AreLevel (left right : Block) : Type 0 where
  pub sized : IsSized left
  pub either : (length right.items ≡ 0) ⊎ (32 ≤ length right.items)
  pub right_most : length right.items ≤ 63
  pub right_room : 64 ≤ length right.items + right.spare

-- a row went from one block to another, and the room that was in both still is
pub record GivesRow (giver taker giver' taker' : Block) : Type 0 where
  pub shorter : length giver'.items + 1 ≡ length giver.items
  pub longer : length taker'.items ≡ length taker.items + 1
  pub giver_room : length giver.items + giver.spare ≤ length giver'.items + giver'.spare
  pub taker_room : length taker.items + taker.spare ≤ length taker'.items + taker'.spare

-- heads, and the blocks under them
pub record Headed : Type 0 where
  pub heads : List Row
  pub blocks : List Block

-- blocks under heads
abbrev pub blocks_under : Block → Vec Block Global → Headed
blocks_under heads blocks = record { heads = heads.items; blocks = blocks.items }

-- heads and blocks with a block more at the end, of some rows, and its head
pub record AddsBlock (rows : List (ℕ × ℕ)) (bin total : ℕ) (old new : Headed) : Type 0 where
  pub block : Block
  pub sized : IsSized block
  pub items : block.items ≡ totals_from 0 rows
  pub heads : new.heads ≡ old.heads ++ record { bin = bin; total = total } ∷ []
  pub blocks : new.blocks ≡ old.blocks ++ block ∷ []

-- Two neighbouring blocks of which one gives rows to the other, where both stay in their places.
use Rattle.std.proofs.Common.{◌≡◌, ℕ, zero, suc, ◌+◌, ◌<◌, ◌≤◌, List, [], ◌∷◌, length, take, set, get_or, refl, sym, ap, subst, ◌∙◌, arith, add-one}
use Rattle.std.specs.List.{insert, remove}
use Rattle.std.proofs.lemmas.List.Edits.{length-remove}
use Rattle.time_table.specs.declared.row.Row.{Row}
use Rattle.time_table.specs.Totals.{IsTotal, Rise, last_total}
use Rattle.time_table.specs.Blocks.{Block, IsHeld, IsSplit, FitsAt, CanLevel, AreLevel, one_list, in_hand, parts}
use Rattle.time_table.proofs.TwoRowLists.{last_total-one_list}
use Rattle.time_table.proofs.BlockRows.{held_len, Rise-at, total_at, head_total_at, IsParted, Held-parted, parts-parted, AllSized-parted, last_total-insert, last_total-remove}
use Rattle.time_table.proofs.BlockSizes.{Held-removed, parts-removed, both, in_hand_at, but_at, at_least}
use Rattle.time_table.proofs.LastBins.{AreLast-removed, AreLast-parted}

left_read : (q : ℕ) (bs : List Block) (e b : Block) → suc q < length bs → b ≡ get_or (set bs (suc q) e) q b → b ≡ get_or (remove bs (suc q)) q b
left_read q [] e b within read = absurd (omega arith)
left_read zero (x ∷ []) e b within read = absurd (omega arith)
left_read zero (x ∷ y ∷ bs) e b within read = read
left_read (suc q) (x ∷ bs) e b within read = left_read q bs e b (omega arith) read

head_read : (q : ℕ) (hs : List Row) (h : Row) → suc q < length hs → h ≡ get_or hs (suc q) h → h ≡ get_or (remove hs q) q h
head_read q [] h within read = absurd (omega arith)
head_read zero (x ∷ []) h within read = absurd (omega arith)
head_read zero (x ∷ y ∷ hs) h within read = read
head_read (suc q) (x ∷ hs) h within read = head_read q hs h (omega arith) read

blocks_given : (q : ℕ) (bs : List Block) (e l r : Block) → suc q < length bs → set (set (set bs (suc q) e) q l) (suc q) r ≡ insert (set (remove bs (suc q)) q l) (suc q) r
blocks_given q [] e l r within = absurd (omega arith)
blocks_given zero (x ∷ []) e l r within = absurd (omega arith)
blocks_given zero (x ∷ y ∷ bs) e l r within = refl
blocks_given (suc q) (x ∷ bs) e l r within = ap (λ zs. x ∷ zs) (blocks_given q bs e l r (omega arith))

heads_given : (q : ℕ) (hs : List Row) (row : Row) → q < length hs → set hs q row ≡ insert (remove hs q) q row
heads_given q [] row within = absurd (omega arith)
heads_given zero (h ∷ hs) row within = refl
heads_given (suc q) (h ∷ hs) row within = ap (λ zs. h ∷ zs) (heads_given q hs row (omega arith))

-- the heads and blocks without the block that gives, which is in hand
pub record IsPaired (m q : ℕ) (hs : List Row) (bs : List Block) (left right : Block) : Type 0 where
  pub held : IsHeld hs (in_hand q right bs)
  pub left_at : left ≡ get_or bs q left
  pub long : length hs ≡ length bs
  pub fits : IsTotal m (last_total 0 hs)
  pub hand : FitsAt q right bs

pub paired : (m q : ℕ) (hs : List Row) (bs : List Block) (e left right : Block) → IsHeld hs bs → IsTotal m (last_total 0 hs) → q + 1 < length bs → right ≡ get_or bs (q + 1) right → FitsAt q right (remove bs (q + 1)) → 0 < length right.items → left ≡ get_or (set bs (q + 1) e) q left → IsPaired m q (remove hs q) (remove bs (suc q)) left right
paired m q hs bs e left right held fits within read hand some read' =
    let next : q + 1 ≡ suc q = add-one q in
    let long : length hs ≡ length bs = held_len 0 0 hs bs held.held in
    let right_at : right ≡ get_or bs (suc q) right = read ∙ ap (λ k. get_or bs k right) next in
    let left_in : left ≡ get_or (set bs (suc q) e) q left = read' ∙ ap (λ k. get_or (set bs k e) q left) next in
    let same : last_total 0 (remove hs q) ≡ last_total 0 hs = last_total-remove 0 q hs (omega arith) in
    let less : length (remove hs q) + 1 ≡ length hs = length-remove hs q (omega arith) in
    let less' : length (remove bs (suc q)) + 1 ≡ length bs = length-remove bs (suc q) (omega arith) in
    record {
      held = record {
        held = Held-removed 0 0 q hs bs right held.held (omega arith) right_at;
        last = AreLast-removed q hs bs right held.last (omega arith) long right_at some;
      };
      left_at = left_read q bs e left (omega arith) left_in;
      long = omega arith;
      fits = subst (IsTotal m) (sym same) fits;
      hand = subst (λ k. FitsAt q right (remove bs k)) next hand;
    }

both_at : (m q : ℕ) (hs : List Row) (bs : List Block) (left right : Block) → IsPaired m q hs bs left right → both left right ≡ get_or (in_hand q right bs) q (both left right)
both_at m q hs bs left right is = in_hand_at q bs left right is.hand.within is.left_at

pub pair_rise : (m q : ℕ) (hs : List Row) (bs : List Block) (left right : Block) → IsPaired m q hs bs left right → Rise 0 0 (one_list left.items right.items)
pair_rise m q hs bs left right is = Rise-at 0 0 q hs (in_hand q right bs) (both left right) is.held.held (omega (arith, is.long, is.hand.within)) (both_at m q hs bs left right is)

pub pair_fits : (m q : ℕ) (hs : List Row) (bs : List Block) (left right : Block) → IsPaired m q hs bs left right → last_total 0 (one_list left.items right.items) < m
pair_fits m q hs bs left right is =
    let sum : last_total 0 (take q hs) + last_total 0 (one_list left.items right.items) ≤ last_total 0 hs = total_at 0 0 q hs (in_hand q right bs) (both left right) is.held.held (omega (arith, is.long, is.hand.within)) (both_at m q hs bs left right is) in
    omega (arith, is.fits.small, sum)

pub pair_sizes : (m q : ℕ) (hs : List Row) (bs : List Block) (left right : Block) → IsPaired m q hs bs left right → CanLevel left right
pair_sizes m q hs bs left right is =
    let but = but_at _ q bs left is.hand.sized is.left_at in
    record { some = but.least; left_most = but.most; right_most = is.hand.most; most = but.few; enough = but.enough; room_left = but.room; room_right = is.hand.room }

-- the head of both counts what they count
pub pair_total : (m q : ℕ) (hs : List Row) (bs : List Block) (left right left' right' : Block) (head : Row) → IsPaired m q hs bs left right → head ≡ get_or hs q head → one_list left'.items right'.items ≡ one_list left.items right.items → last_total 0 left'.items + last_total 0 right'.items ≤ head.total
pair_total m q hs bs left right left' right' head is read same =
    let whole : last_total 0 (one_list left.items right.items) ≤ head.total = head_total_at 0 0 q hs (in_hand q right bs) (both left right) head is.held.held (omega (arith, is.long, is.hand.within)) (both_at m q hs bs left right is) read in
    let sum : last_total 0 (one_list left.items right.items) ≡ last_total 0 left'.items + last_total 0 right'.items = ap (last_total 0) (sym same) ∙ last_total-one_list left'.items right'.items in
    omega arith

pub pair_split : (m q : ℕ) (hs : List Row) (bs : List Block) (left right left' right' : Block) (head row : Row) → IsPaired m q hs bs left right → head ≡ get_or hs q head → IsParted left.items right.items left'.items right'.items head row → AreLevel left' right' → IsSplit m (insert hs q row) (insert (set bs q left') (suc q) right')
pair_split m q hs bs left right left' right' head row is read parted level =
    let within : q < length hs = omega (arith, is.long, is.hand.within) in
    let total : last_total 0 (insert hs q row) ≡ last_total 0 hs = last_total-insert 0 q hs row within in
    record {
      heads_held = record {
        held = Held-parted 0 0 q hs bs left right left' right' head row is.held.held is.hand.within is.left_at read parted;
        last = AreLast-parted q hs bs left right left' right' row is.held.last within is.long is.left_at parted.same parted.some_right (sym (parted.bin 0));
      };
      sized = AllSized-parted _ q bs left' right' is.hand.sized level.sized (record { least = at_least right'.items level.either parted.some_right; most = level.right_most; room = level.right_room });
      fits = subst (IsTotal m) (sym total) is.fits;
    }

-- the same where the heads and the blocks stay in their places
pub split_given : (m q : ℕ) (hs hs' : List Row) (bs : List Block) (e left right left' right' : Block) (head row : Row) → IsPaired m q (remove hs q) (remove bs (suc q)) left right → suc q < length bs → suc q < length hs → head ≡ get_or hs (q + 1) head → IsParted left.items right.items left'.items right'.items head row → AreLevel left' right' → hs' ≡ set hs q row → IsSplit m hs' (set (set (set bs (q + 1) e) q left') (q + 1) right')
split_given m q hs hs' bs e left right left' right' head row is within within' read parted level written =
    let next : q + 1 ≡ suc q = add-one q in
    let head_at : head ≡ get_or (remove hs q) q head = head_read q hs head within' (read ∙ ap (λ k. get_or hs k head) next) in
    let split : IsSplit m (insert (remove hs q) q row) (insert (set (remove bs (suc q)) q left') (suc q) right') = pair_split m q (remove hs q) (remove bs (suc q)) left right left' right' head row is head_at parted level in
    let heads : hs' ≡ insert (remove hs q) q row = written ∙ heads_given q hs row (omega arith) in
    let blocks : set (set (set bs (q + 1) e) q left') (q + 1) right' ≡ insert (set (remove bs (suc q)) q left') (suc q) right' = ap (λ k. set (set (set bs k e) q left') k right') next ∙ blocks_given q bs e left' right' within in
    subst (λ (zs : List Row). IsSplit m zs (set (set (set bs (q + 1) e) q left') (q + 1) right')) (sym heads)
    (subst (λ (zs : List Block). IsSplit m (insert (remove hs q) q row) zs) (sym blocks) split)

pub total_given : (m q : ℕ) (hs : List Row) (bs : List Block) (left right left' right' : Block) (head : Row) → IsPaired m q (remove hs q) (remove bs (suc q)) left right → suc q < length hs → head ≡ get_or hs (q + 1) head → one_list left'.items right'.items ≡ one_list left.items right.items → last_total 0 left'.items + last_total 0 right'.items ≤ head.total
total_given m q hs bs left right left' right' head is within read same =
    pair_total m q (remove hs q) (remove bs (suc q)) left right left' right' head is (head_read q hs head within (read ∙ ap (λ k. get_or hs k head) (add-one q))) same

pub parts_given : (m q : ℕ) (hs : List Row) (bs : List Block) (e left right left' right' : Block) → IsPaired m q hs (remove bs (suc q)) left right → suc q < length bs → right ≡ get_or bs (q + 1) right → one_list left'.items right'.items ≡ one_list left.items right.items → parts (set (set (set bs (q + 1) e) q left') (q + 1) right') ≡ parts bs
parts_given m q hs bs e left right left' right' is within read same =
    let next : q + 1 ≡ suc q = add-one q in
    ap parts (ap (λ k. set (set (set bs k e) q left') k right') next ∙ blocks_given q bs e left' right' within)
    ∙ parts-parted q (remove bs (suc q)) left right left' right' is.hand.within is.left_at same
    ∙ parts-removed q bs right within (read ∙ ap (λ k. get_or bs k right) next)

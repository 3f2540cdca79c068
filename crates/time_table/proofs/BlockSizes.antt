-- Two neighbouring blocks as one, and which blocks are sized.
use Rattle.std.proofs.Common.{◌≡◌, ℕ, zero, suc, ◌+◌, ◌<◌, ◌≤◌, ◌⊎◌, List, [], ◌∷◌, ◌++◌, length, map, set, get_or, refl, sym, ap, subst, inl, inr, ◌∙◌, arith, append_assoc, add-one}
use Rattle.std.specs.List.{remove}
use Rattle.std.proofs.lemmas.List.Elements.{All-append, All-weaker}
use Rattle.std.proofs.lemmas.List.{get_or_read, get_or-set_other}
use Rattle.std.proofs.lemmas.List.Edits.{length-remove}
use Rattle.time_table.specs.declared.row.Row.{Row}
use Rattle.time_table.specs.Totals.{Rise, counts_from, last_total, raised}
use Rattle.std.proofs.lemmas.Bool.{false≢true}
use Rattle.std.specs.Prelude.{Result, Ok, Err, IsOk, OnOk}
use Rattle.time_table.specs.Places.{added, taken, count_at}
use Rattle.time_table.proofs.MoreRecords.{length-added}
use Rattle.time_table.proofs.FewerRecords.{length-taken}
use Rattle.time_table.specs.Blocks.{Block, parts, IsHead, Held, IsSized, IsLoose, AllSized, SizedBut, FitsAt, one_list, in_hand}
use Rattle.time_table.proofs.MoreRecords.{Rise-raised, All-raised}
use Rattle.time_table.proofs.TwoRowLists.{Rise-append, last_total-one_list, counts_from-one_list, one_list-nil}

merged_head : (least before : ℕ) (h g : Row) (x y : List Row) → IsHead least before h x → IsHead (h.bin + 1) h.total g y → IsHead least before g (one_list x y)
merged_head least before h g x y one two =
    let up : h.bin + 1 ≤ g.bin = two.bins in
    record {
      rise = Rise-append least 0 h.bin x (map (raised (last_total 0 x)) y) one.rise one.within (omega (arith, one.bins)) (Rise-raised (last_total 0 x) (h.bin + 1) (last_total 0 x) 0 y (omega arith) two.rise);
      within = All-append (λ (r : Row). r.bin ≤ g.bin) x (map (raised (last_total 0 x)) y)
          (All-weaker (λ (r : Row). r.bin ≤ h.bin) (λ (r : Row). r.bin ≤ g.bin) (λ (r : Row) (le : r.bin ≤ h.bin). omega arith) x one.within)
          (All-raised (last_total 0 x) g.bin y two.within);
      bins = omega (arith, one.bins);
      some = omega (arith, last_total-one_list x y, one.some);
      total = omega (arith, last_total-one_list x y, one.total, two.total);
    }

pub Held-removed : (least before q : ℕ) (hs : List Row) (bs : List Block) (right : Block) → Held least before hs bs → suc q < length hs → right ≡ get_or bs (suc q) right → Held least before (remove hs q) (in_hand q right (remove bs (suc q)))
Held-removed least before q [] bs right held within read = absurd (omega arith)
Held-removed least before q (h ∷ hs) [] right held within read = absurd held
Held-removed least before zero (h ∷ []) (x ∷ bs) right held within read = absurd (omega arith)
Held-removed least before zero (h ∷ g ∷ hs) (x ∷ []) right held within read = absurd held.1
Held-removed least before zero (h ∷ g ∷ hs) (x ∷ y ∷ bs) right held within read =
    (subst (λ (z : Block). IsHead least before g (one_list x.items z.items)) (sym read) (merged_head least before h g x.items y.items held.0 held.1.0), held.1.1)
Held-removed least before (suc q) (h ∷ hs) (x ∷ bs) right held within read =
    (held.0, Held-removed (h.bin + 1) h.total q hs bs right held.1 (omega arith) read)

pub parts-removed : (q : ℕ) (bs : List Block) (right : Block) → suc q < length bs → right ≡ get_or bs (suc q) right → parts (in_hand q right (remove bs (suc q))) ≡ parts bs
parts-removed q [] right within read = absurd (omega arith)
parts-removed zero (x ∷ []) right within read = absurd (omega arith)
parts-removed zero (x ∷ y ∷ bs) right within read =
    ap (λ (z : Block). counts_from 0 (one_list x.items z.items) ++ parts bs) read
    ∙ ap (λ zs. zs ++ parts bs) (counts_from-one_list x.items y.items)
    ∙ append_assoc (counts_from 0 x.items) (counts_from 0 y.items) (parts bs)
parts-removed (suc q) (x ∷ bs) right within read = ap (λ zs. counts_from 0 x.items ++ zs) (parts-removed q bs right (omega arith) read)

pub sized_at : (i : ℕ) (bs : List Block) (b : Block) → AllSized bs → i < length bs → b ≡ get_or bs i b → IsSized b
sized_at i [] b sized within read = absurd (omega arith)
sized_at zero (x ∷ bs) b sized within read = subst IsSized (sym read) sized.0
sized_at (suc i) (x ∷ bs) b sized within read = sized_at i bs b sized.1 (omega arith) read

loose : (b : Block) → IsSized b → IsLoose 63 b
loose b is = record { least = omega (arith, is.least); most = omega (arith, is.most); enough = omega (arith, is.least); few = omega (arith, is.most); room = is.room }

-- after an amount was taken each block is at most short
pub loose_at : (p i : ℕ) (bs : List Block) (b : Block) → SizedBut 63 p bs → i < length bs → b ≡ get_or bs i b → IsLoose 63 b
loose_at p i [] b sized within read = absurd sized
loose_at zero zero (x ∷ bs) b sized within read = subst (IsLoose 63) (sym read) sized.0
loose_at zero (suc i) (x ∷ bs) b sized within read = loose b (sized_at i bs b sized.1 (omega arith) read)
loose_at (suc p) zero (x ∷ bs) b sized within read = subst (IsLoose 63) (sym read) (loose x sized.0)
loose_at (suc p) (suc i) (x ∷ bs) b sized within read = loose_at p i bs b sized.1 (omega arith) read

pub but_at : (n p : ℕ) (bs : List Block) (b : Block) → SizedBut n p bs → b ≡ get_or bs p b → IsLoose n b
but_at n p [] b sized read = absurd sized
but_at n zero (x ∷ bs) b sized read = subst (IsLoose n) (sym read) sized.0
but_at n (suc p) (x ∷ bs) b sized read = but_at n p bs b sized.1 read

pub tighten : (n p : ℕ) (bs : List Block) (b : Block) → SizedBut n p bs → b ≡ get_or bs p b → 32 ≤ length b.items → length b.items ≤ 63 → AllSized bs
tighten n p [] b sized read least most = absurd sized
tighten n zero (x ∷ bs) b sized read least most = (subst IsSized read (record { least = least; most = most; room = subst (λ (y : Block). 64 ≤ length y.items + y.spare) (sym read) sized.0.room }), sized.1)
tighten n (suc p) (x ∷ bs) b sized read least most = (sized.0, tighten n p bs b sized.1 read least most)

pub SizedBut-set : (n p : ℕ) (bs : List Block) (b : Block) → AllSized bs → p < length bs → IsLoose n b → SizedBut n p (set bs p b)
SizedBut-set n p [] b sized within is = absurd (omega arith)
SizedBut-set n zero (x ∷ bs) b sized within is = (is, sized.1)
SizedBut-set n (suc p) (x ∷ bs) b sized within is = (sized.0, SizedBut-set n p bs b sized.1 (omega arith) is)

two_loose : (x right : Block) → IsLoose 63 x → IsLoose 63 right → 63 ≤ length x.items + length right.items → IsLoose (length right.items) x
two_loose x right one two sum = record { least = one.least; most = one.most; enough = omega arith; few = omega (arith, one.few, two.few); room = one.room }

sized-removed_at : (q : ℕ) (bs : List Block) (right : Block) → SizedBut 63 q bs → suc q < length bs → right ≡ get_or bs (suc q) right → SizedBut (length right.items) q (remove bs (suc q))
sized-removed_at q [] right sized within read = absurd sized
sized-removed_at zero (x ∷ []) right sized within read = absurd (omega arith)
sized-removed_at zero (x ∷ y ∷ bs) right sized within read =
    let is : IsSized right = subst IsSized (sym read) sized.1.0 in
    (two_loose x right sized.0 (loose right is) (omega (arith, sized.0.least, is.least)), sized.1.1)
sized-removed_at (suc q) (x ∷ bs) right sized within read = (sized.0, sized-removed_at q bs right sized.1 (omega arith) read)

sized-removed_before : (q : ℕ) (bs : List Block) (right : Block) → SizedBut 63 (suc q) bs → suc q < length bs → right ≡ get_or bs (suc q) right → SizedBut (length right.items) q (remove bs (suc q))
sized-removed_before q [] right sized within read = absurd sized
sized-removed_before zero (x ∷ []) right sized within read = absurd (omega arith)
sized-removed_before zero (x ∷ y ∷ bs) right sized within read =
    let is : IsLoose 63 right = subst (IsLoose 63) (sym read) sized.1.0 in
    (two_loose x right (loose x sized.0) is (omega (arith, sized.0.least, is.least)), sized.1.1)
sized-removed_before (suc q) (x ∷ bs) right sized within read = (sized.0, sized-removed_before q bs right sized.1 (omega arith) read)

pub sized-removed : (p q : ℕ) (bs : List Block) (right : Block) → SizedBut 63 p bs → (p ≡ q) ⊎ (p ≡ q + 1) → suc q < length bs → right ≡ get_or bs (suc q) right → SizedBut (length right.items) q (remove bs (suc q))
sized-removed p q bs right sized is within read =
    elim is [
      | inl same ↦ sized-removed_at q bs right (subst (λ k. SizedBut 63 k bs) same sized) within read
      | inr one ↦ let one' : p ≡ suc q = omega arith in sized-removed_before q bs right (subst (λ k. SizedBut 63 k bs) one' sized) within read
    ]

-- a block in hand with no rows
pub Held-in_hand : (least before q : ℕ) (hs : List Row) (bs : List Block) (right : Block) → Held least before hs bs → right.items ≡ [] → Held least before hs (in_hand q right bs)
Held-in_hand least before q hs [] right held none = held
Held-in_hand least before q [] (x ∷ bs) right held none = absurd held
Held-in_hand least before zero (h ∷ hs) (x ∷ bs) right held none =
    (subst (IsHead least before h) (sym (ap (one_list x.items) none ∙ one_list-nil x.items)) held.0, held.1)
Held-in_hand least before (suc q) (h ∷ hs) (x ∷ bs) right held none = (held.0, Held-in_hand (h.bin + 1) h.total q hs bs right held.1 none)

pub parts-in_hand : (q : ℕ) (bs : List Block) (right : Block) → right.items ≡ [] → parts (in_hand q right bs) ≡ parts bs
parts-in_hand q [] right none = refl
parts-in_hand zero (x ∷ bs) right none = ap (λ zs. counts_from 0 zs ++ parts bs) (ap (one_list x.items) none ∙ one_list-nil x.items)
parts-in_hand (suc q) (x ∷ bs) right none = ap (λ zs. counts_from 0 x.items ++ zs) (parts-in_hand q bs right none)

-- the two blocks as one
abbrev pub both : Block → Block → Block
both left right = record { items = one_list left.items right.items; spare = left.spare }

pub in_hand_at : (q : ℕ) (bs : List Block) (left right : Block) → q < length bs → left ≡ get_or bs q left → both left right ≡ get_or (in_hand q right bs) q (both left right)
in_hand_at q [] left right within read = absurd (omega arith)
in_hand_at zero (x ∷ bs) left right within read = ap (λ (y : Block). both y right) read
in_hand_at (suc q) (x ∷ bs) left right within read = in_hand_at q bs left right (omega arith) read

pub ok_gives : {X E : Type 0} (r : Result X E) (P : Type 0) → IsOk r → OnOk r P → P
ok_gives (Ok x) P ok on = on
ok_gives (Err e) P ok on = absurd (false≢true ok)

pub with_room : (b : Block) → IsSized b → 0 < b.spare
with_room b sized = omega (arith, sized.most, sized.room)

-- a sized block with a row more, or none
pub added_loose : (bin n : ℕ) (b b' : Block) → IsSized b → b'.items ≡ added 0 bin n b.items → length b.items + b.spare ≤ length b'.items + b'.spare → IsLoose 0 b'
added_loose bin n b b' sized is room =
    let longer = length-added 0 bin n b.items in
    let long : length b'.items ≡ length (added 0 bin n b.items) = ap length is in
    record {
      least = omega (arith, longer.least, sized.least);
      most = omega (arith, longer.most, sized.most);
      enough = omega (arith, longer.least, sized.least);
      few = omega (arith, longer.most, sized.most);
      room = omega (arith, sized.room);
    }

-- a sized block with a row less, or none
pub taken_loose : (bin n : ℕ) (b b' : Block) → IsSized b → Rise 0 0 b.items → 0 < n → n ≤ count_at bin (counts_from 0 b.items) → b'.items ≡ taken 0 bin n b.items → length b.items + b.spare ≤ length b'.items + b'.spare → IsLoose 63 b'
taken_loose bin n b b' sized rise some there is room =
    let shorter = length-taken 0 0 bin n b.items rise some there in
    let long : length b'.items ≡ length (taken 0 bin n b.items) = ap length is in
    record {
      least = omega (arith, shorter.most, sized.least);
      most = omega (arith, shorter.least, sized.most);
      enough = omega (arith, shorter.most, sized.least);
      few = omega (arith, shorter.least, sized.most);
      room = omega (arith, sized.room);
    }

pub in_hand_long : (q : ℕ) (bs : List Block) (right : Block) → length (in_hand q right bs) ≡ length bs
in_hand_long q [] right = refl
in_hand_long zero (x ∷ bs) right = refl
in_hand_long (suc q) (x ∷ bs) right = ap suc (in_hand_long q bs right)

pub at_least : (rows : List Row) → (length rows ≡ 0) ⊎ (32 ≤ length rows) → 0 < length rows → 32 ≤ length rows
at_least rows (inl none) some = absurd (omega arith)
at_least rows (inr many) some = many

pub longer_at : (bin n p : ℕ) (bs : List Block) (b b' : Block) → p < length bs → b ≡ get_or bs p b → b'.items ≡ added 0 bin n b.items → (d : Block) → length (get_or (set bs p b') p d).items ≤ length (get_or bs p d).items + 1
longer_at bin n p [] b b' within read is d = absurd (omega arith)
longer_at bin n zero (x ∷ bs) b b' within read is d =
    let longer = length-added 0 bin n b.items in
    let long : length b'.items ≡ length (added 0 bin n b.items) = ap length is in
    let same : length b.items ≡ length x.items = ap (λ (y : Block). length y.items) read in
    omega (arith, longer.most)
longer_at bin n (suc p) (x ∷ bs) b b' within read is d = longer_at bin n p bs b b' (omega arith) read is d

pub tighten_all : (p : ℕ) (bs : List Block) → SizedBut 0 p bs → ((d : Block) → length (get_or bs p d).items ≤ 63) → AllSized bs
tighten_all p [] sized most = absurd sized
tighten_all zero (x ∷ bs) sized most = (record { least = omega (arith, sized.0.enough); most = most x; room = sized.0.room }, sized.1)
tighten_all (suc p) (x ∷ bs) sized most = (sized.0, tighten_all p bs sized.1 most)

pub read_length : (p : ℕ) (bs : List Block) (b : Block) → p < length bs → b ≡ get_or bs p b → (d : Block) → length (get_or bs p d).items ≡ length b.items
read_length p bs b within read d = ap (λ (y : Block). length y.items) (sym (get_or_read bs p b within read d))

sized-given : (q : ℕ) (bs : List Block) (right : Block) → SizedBut 0 (suc q) bs → suc q < length bs → right ≡ get_or bs (suc q) right → ((b : Block) → b ≡ get_or bs q b → length b.items ≤ 62) → SizedBut (length right.items) q (remove bs (suc q))
sized-given q [] right sized within read gap = absurd sized
sized-given zero (x ∷ []) right sized within read gap = absurd (omega arith)
sized-given zero (x ∷ y ∷ bs) right sized within read gap =
    let is : IsLoose 0 right = subst (IsLoose 0) (sym read) sized.1.0 in
    let few : length x.items ≤ 62 = gap x refl in
    (record { least = omega (arith, sized.0.least); most = omega arith; enough = omega (arith, sized.0.least); few = omega (arith, is.most); room = sized.0.room }, sized.1.1)
sized-given (suc q) (x ∷ bs) right sized within read gap = (sized.0, sized-given q bs right sized.1 (omega arith) read gap)

-- a block that may be full is in hand, and the one before it has a gap
pub fits_given : (q : ℕ) (bs : List Block) (right : Block) → SizedBut 0 (q + 1) bs → q + 1 < length bs → right ≡ get_or bs (q + 1) right → ((b : Block) → b ≡ get_or bs q b → length b.items ≤ 62) → FitsAt q right (remove bs (q + 1))
fits_given q bs right sized within read gap =
    let next : q + 1 ≡ suc q = add-one q in
    let sized' : SizedBut 0 (suc q) bs = subst (λ k. SizedBut 0 k bs) next sized in
    let read' : right ≡ get_or bs (suc q) right = read ∙ ap (λ k. get_or bs k right) next in
    let is = but_at 0 (q + 1) bs right sized read in
    let less : length (remove bs (q + 1)) + 1 ≡ length bs = length-remove bs (q + 1) within in
    record {
      within = omega arith;
      sized = subst (λ k. SizedBut (length right.items) q (remove bs k)) (sym next) (sized-given q bs right sized' (omega arith) read' gap);
      most = is.most;
      room = is.room;
    }

pub others_at : (p : ℕ) (bs : List Block) (b' : Block) → (i : ℕ) (b : Block) → i < p → b ≡ get_or (set bs p b') i b → b ≡ get_or bs i b
others_at p bs b' i b less read = read ∙ get_or-set_other bs p i b' b (λ same. omega arith)

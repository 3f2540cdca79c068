-- Heads that have the bin of their block's last row.
use Rattle.std.proofs.Common.{◌≡◌, ℕ, zero, suc, ◌+◌, ◌<◌, ◌≤◌, List, [], ◌∷◌, ◌++◌, length, take, drop, map, set, get_or, All, refl, sym, ap, subst, inl, inr, ◌∙◌, arith}
use Rattle.std.specs.List.{insert, remove}
use Rattle.std.proofs.lemmas.Bool.{cases_order}
use Rattle.std.proofs.lemmas.List.{length-map, length-set}
use Rattle.std.proofs.lemmas.List.Elements.{All-head, All-tail, All-weaker}
use Rattle.time_table.specs.declared.row.Row.{Row}
use Rattle.time_table.specs.Totals.{last_total, bin_after, raised}
use Rattle.time_table.specs.Places.{added}
use Rattle.time_table.specs.Blocks.{Block, Held, AreLast, AreLastBut, IsHead, one_list, in_hand, lists}
use Rattle.time_table.proofs.MoreRecords.{added_here, added_new, added_later}
use Rattle.time_table.proofs.TwoRowLists.{Rise-least, bin_after-lt, All-bin_after, one_list-nil}

bin_after-raised : (least n : ℕ) (rows : List Row) → bin_after least (map (raised n) rows) ≡ bin_after least rows
bin_after-raised least n [] = refl
bin_after-raised least n (r ∷ rs) = bin_after-raised (r.bin + 1) n rs

-- a row more is not behind the last one
bin_after-added : (least before bin n : ℕ) (rows : List Row) → bin < bin_after least rows → least ≤ bin → bin_after least (added before bin n rows) ≡ bin_after least rows
bin_after-added least before bin n [] under from = absurd (omega arith)
bin_after-added least before bin n (r ∷ rs) under from =
    elim (cases_order bin r.bin) [
      | inl same ↦ ap (bin_after least) (added_here before bin n r rs same) ∙ bin_after-raised (r.bin + 1) n rs
      | inr (inl less) ↦ ap (bin_after least) (added_new before bin n r rs less) ∙ bin_after-raised (r.bin + 1) n rs
      | inr (inr later) ↦ ap (bin_after least) (added_later before bin n r rs later) ∙ bin_after-added (r.bin + 1) r.total bin n rs under (omega arith)
    ]

-- the last row of two lists is that of the second, if it has one
bin_after-one_list : (a b n : ℕ) (l r : List Row) → 0 < length r → bin_after a (l ++ map (raised n) r) ≡ bin_after b r
bin_after-one_list a b n [] [] some = absurd (omega arith)
bin_after-one_list a b n [] (y ∷ r) some = bin_after-raised (y.bin + 1) n r
bin_after-one_list a b n (x ∷ l) r some = bin_after-one_list (x.bin + 1) b n l r some

bin_after-le : (least top : ℕ) (rows : List Row) → All (λ row. row.bin ≤ top) rows → least ≤ top + 1 → bin_after least rows ≤ top + 1
bin_after-le least top [] all le = le
bin_after-le least top (r ∷ rs) all le =
    let under : r.bin ≤ top = All-head (λ (row : Row). row.bin ≤ top) r rs all in
    bin_after-le (r.bin + 1) top rs (All-tail (λ (row : Row). row.bin ≤ top) r rs all) (omega arith)

some_rows : (rows : List Row) → 0 < last_total 0 rows → 0 < length rows
some_rows [] some = absurd (omega arith)
some_rows (r ∷ rs) some = omega arith

pub length-mapped_from : (f : Row → Row) (p : ℕ) (hs : List Row) → length (take p hs ++ map f (drop p hs)) ≡ length hs
length-mapped_from f zero hs = length-map hs f
length-mapped_from f (suc p) [] = refl
length-mapped_from f (suc p) (h ∷ hs) = ap suc (length-mapped_from f p hs)

some_left : (f : Row → Row) (p : ℕ) (hs : List Row) → 0 < length (take p hs ++ map f (drop p hs)) → 0 < length hs
some_left f p hs some = omega (arith, some, length-mapped_from f p hs)

-- heads whose bins stay
AreLast-map : (f : Row → Row) → ((h : Row) → (f h).bin ≡ h.bin) → (hs : List Row) (bs : List Block) → AreLast hs bs → AreLast (map f hs) bs
AreLast-map f same [] bs last = tt
AreLast-map f same (h ∷ hs) [] last = tt
AreLast-map f same (h ∷ hs) (b ∷ bs) last = (
  λ (some : 0 < length (map f hs)). last.0 (omega (arith, some, length-map hs f)) ∙ ap (λ k. k + 1) (sym (same h)),
  AreLast-map f same hs bs last.1,
)

pub AreLast-added : (bin n p : ℕ) (hs : List Row) (bs : List Block) (b b' : Block) → AreLast hs bs → All (λ h. bin ≤ h.bin) (drop p hs) → p < length hs → b ≡ get_or bs p b → b'.items ≡ added 0 bin n b.items → AreLast (take p hs ++ map (raised n) (drop p hs)) (set bs p b')
AreLast-added bin n p [] bs b b' last others within read is = absurd (omega arith)
AreLast-added bin n zero (h ∷ hs) [] b b' last others within read is = tt
AreLast-added bin n (suc p) (h ∷ hs) [] b b' last others within read is = tt
AreLast-added bin n zero (h ∷ hs) (x ∷ bs) b b' last others within read is = (
  λ (some : 0 < length (map (raised n) hs)).
      let end : bin_after 0 x.items ≡ h.bin + 1 = last.0 (omega (arith, some, length-map hs (raised n))) in
      let from : bin ≤ h.bin = All-head (λ (h : Row). bin ≤ h.bin) h hs others in
      ap (bin_after 0) (is ∙ ap (λ (y : Block). added 0 bin n y.items) read) ∙ bin_after-added 0 0 bin n x.items (omega arith) (omega arith) ∙ end,
  AreLast-map (raised n) (λ _. refl) hs bs last.1,
)
AreLast-added bin n (suc p) (h ∷ hs) (x ∷ bs) b b' last others within read is =
    (λ some. last.0 (some_left (raised n) p hs some), AreLast-added bin n p hs bs b b' last.1 others (omega arith) read is)

-- a block that was changed at the place of its head
pub AreLast-changed : (f : Row → Row) → ((h : Row) → (f h).bin ≡ h.bin) → (p : ℕ) (hs : List Row) (bs : List Block) (b' : Block) → AreLast hs bs → AreLastBut p (take p hs ++ map f (drop p hs)) (set bs p b')
AreLast-changed f same zero [] bs b' last = tt
AreLast-changed f same (suc p) [] bs b' last = tt
AreLast-changed f same zero (h ∷ hs) [] b' last = tt
AreLast-changed f same (suc p) (h ∷ hs) [] b' last = tt
AreLast-changed f same zero (h ∷ hs) (x ∷ bs) b' last = AreLast-map f same hs bs last.1
AreLast-changed f same (suc p) (h ∷ hs) (x ∷ bs) b' last = (λ some. last.0 (some_left f p hs some), AreLast-changed f same p hs bs b' last.1)

-- the last head may have any bin
pub AreLast-end : (p : ℕ) (hs : List Row) (bs : List Block) → p + 1 ≡ length hs → AreLastBut p hs bs → AreLast hs bs
AreLast-end p [] bs end last = tt
AreLast-end p (h ∷ hs) [] end last = tt
AreLast-end zero (h ∷ []) (x ∷ bs) end last = (λ some. absurd (omega (arith, some)), last)
AreLast-end zero (h ∷ g ∷ hs) (x ∷ bs) end last = absurd (omega arith)
AreLast-end (suc p) (h ∷ hs) (x ∷ bs) end last = (last.0, AreLast-end p hs bs (omega arith) last.1)

-- and the head at the place is made to fit
pub AreLast-fitted : (p : ℕ) (hs : List Row) (bs : List Block) (b : Block) (h' : Row) → AreLastBut p hs bs → b ≡ get_or bs p b → bin_after 0 b.items ≡ h'.bin + 1 → AreLast (set hs p h') bs
AreLast-fitted zero [] bs b h' last read is = tt
AreLast-fitted (suc p) [] bs b h' last read is = tt
AreLast-fitted zero (h ∷ hs) [] b h' last read is = tt
AreLast-fitted (suc p) (h ∷ hs) [] b h' last read is = tt
AreLast-fitted zero (h ∷ hs) (x ∷ bs) b h' last read is = (λ some. ap (λ (y : Block). bin_after 0 y.items) (sym read) ∙ is, last)
AreLast-fitted (suc p) (h ∷ hs) (x ∷ bs) b h' last read is =
    (λ (some : 0 < length (set hs p h')). last.0 (omega (arith, some, length-set hs p h')), AreLast-fitted p hs bs b h' last.1 read is)

Held-least : (least least' before : ℕ) (hs : List Row) (bs : List Block) → least' ≤ least → 0 < length hs → Held least before hs bs → Held least' before hs bs
Held-least least least' before [] bs le some held = absurd (omega arith)
Held-least least least' before (h ∷ hs) [] le some held = held
Held-least least least' before (h ∷ hs) (b ∷ bs) le some held = (
  record { rise = Rise-least least least' 0 b.items le held.0.rise; within = held.0.within; bins = omega (arith, held.0.bins); some = held.0.some; total = held.0.total },
  held.1,
)

fitted_head : (least before : ℕ) (h h' : Row) (rows : List Row) → IsHead least before h rows → ((l : ℕ) → h'.bin + 1 ≡ bin_after l rows) → h'.total ≡ h.total → IsHead least before h' rows × (h'.bin ≤ h.bin)
fitted_head least before h h' rows head is total =
    let end : h'.bin + 1 ≡ bin_after least rows = is least in (
      record {
        rise = head.rise;
        within = All-weaker (λ (r : Row). r.bin < bin_after least rows) (λ (r : Row). r.bin ≤ h'.bin) (λ (r : Row) (under : r.bin < bin_after least rows). omega arith) rows (All-bin_after least 0 rows head.rise);
        bins = omega (arith, bin_after-lt least 0 rows head.rise (some_rows rows head.some));
        some = head.some;
        total = total ∙ head.total;
      },
      omega (arith, bin_after-le least h.bin rows head.within (omega (arith, head.bins))),
    )

pub Held-fitted : (least before p : ℕ) (hs : List Row) (bs : List Block) (b : Block) (h h' : Row) → Held least before hs bs → p + 1 < length hs → b ≡ get_or bs p b → h ≡ get_or hs p h → ((l : ℕ) → h'.bin + 1 ≡ bin_after l b.items) → h'.total ≡ h.total → Held least before (set hs p h') bs
Held-fitted least before p [] bs b h h' held within read read' is total = absurd (omega arith)
Held-fitted least before p (g ∷ hs) [] b h h' held within read read' is total = absurd held
Held-fitted least before zero (g ∷ hs) (x ∷ bs) b h h' held within read read' is total =
    let same : h'.total ≡ g.total = total ∙ ap (λ (y : Row). y.total) read' in
    let fits = fitted_head least before g h' x.items held.0 (subst (λ (y : Block). (l : ℕ) → h'.bin + 1 ≡ bin_after l y.items) read is) same in
    (fits.0, subst (λ k. Held (h'.bin + 1) k hs bs) (sym same) (Held-least (g.bin + 1) (h'.bin + 1) g.total hs bs (omega (arith, fits.1)) (omega arith) held.1))
Held-fitted least before (suc p) (g ∷ hs) (x ∷ bs) b h h' held within read read' is total =
    (held.0, Held-fitted (g.bin + 1) g.total p hs bs b h h' held.1 (omega arith) read read' is total)

pub last_total-fitted : (before p : ℕ) (hs : List Row) (h h' : Row) → p < length hs → h ≡ get_or hs p h → h'.total ≡ h.total → last_total before (set hs p h') ≡ last_total before hs
last_total-fitted before p [] h h' within read total = absurd (omega arith)
last_total-fitted before zero (g ∷ hs) h h' within read total = ap (λ k. last_total k hs) (total ∙ ap (λ (y : Row). y.total) read)
last_total-fitted before (suc p) (g ∷ hs) h h' within read total = last_total-fitted g.total p hs h h' (omega arith) read total

-- the block of a head is not empty
pub some_at : (least before p : ℕ) (hs : List Row) (bs : List Block) (b : Block) → Held least before hs bs → p < length hs → b ≡ get_or bs p b → 0 < length b.items
some_at least before p [] bs b held within read = absurd (omega arith)
some_at least before p (h ∷ hs) [] b held within read = absurd held
some_at least before zero (h ∷ hs) (x ∷ bs) b held within read = subst (λ (y : Block). 0 < length y.items) (sym read) (some_rows x.items held.0.some)
some_at least before (suc p) (h ∷ hs) (x ∷ bs) b held within read = some_at (h.bin + 1) h.total p hs bs b held.1 (omega arith) read

-- a block in hand

pub AreLast-in_hand : (q : ℕ) (hs : List Row) (bs : List Block) (right : Block) → right.items ≡ [] → AreLast hs bs → AreLast hs (in_hand q right bs)
AreLast-in_hand q [] bs right none last = tt
AreLast-in_hand q (h ∷ hs) [] right none last = tt
AreLast-in_hand zero (h ∷ hs) (x ∷ bs) right none last = (λ some. ap (bin_after 0) (ap (one_list x.items) none ∙ one_list-nil x.items) ∙ last.0 some, last.1)
AreLast-in_hand (suc q) (h ∷ hs) (x ∷ bs) right none last = (last.0, AreLast-in_hand q hs bs right none last.1)

pub AreLast-all_left : (q : ℕ) (hs : List Row) (bs : List Block) (left left' right : Block) → AreLast hs (in_hand q right bs) → left ≡ get_or bs q left → left'.items ≡ one_list left.items right.items → AreLast hs (set bs q left')
AreLast-all_left q [] bs left left' right last read is = tt
AreLast-all_left q (h ∷ hs) [] left left' right last read is = tt
AreLast-all_left zero (h ∷ hs) (x ∷ bs) left left' right last read is =
    (λ some. ap (bin_after 0) (is ∙ ap (λ (y : Block). one_list y.items right.items) read) ∙ last.0 some, last.1)
AreLast-all_left (suc q) (h ∷ hs) (x ∷ bs) left left' right last read is = (last.0, AreLast-all_left q hs bs left left' right last.1 read is)

pub AreLast-parted : (q : ℕ) (hs : List Row) (bs : List Block) (left right left' right' : Block) (row : Row) → AreLast hs (in_hand q right bs) → q < length hs → length hs ≡ length bs → left ≡ get_or bs q left → one_list left'.items right'.items ≡ one_list left.items right.items → 0 < length right'.items → bin_after 0 left'.items ≡ row.bin + 1 → AreLast (insert hs q row) (insert (set bs q left') (suc q) right')
AreLast-parted q [] bs left right left' right' row last within long read same some is = absurd (omega arith)
AreLast-parted q (h ∷ hs) [] left right left' right' row last within long read same some is = absurd (omega arith)
AreLast-parted zero (h ∷ hs) (x ∷ bs) left right left' right' row last within long read same some is = (
  λ _. is,
  (
    λ more.
        sym (bin_after-one_list 0 0 (last_total 0 left'.items) left'.items right'.items some)
        ∙ ap (bin_after 0) (same ∙ ap (λ (y : Block). one_list y.items right.items) read)
        ∙ last.0 more,
    last.1,
  ),
)
AreLast-parted (suc q) (h ∷ hs) (x ∷ bs) left right left' right' row last within long read same some is =
    (λ _. last.0 (omega arith), AreLast-parted q hs bs left right left' right' row last.1 (omega arith) (omega arith) read same some is)

pub AreLast-removed : (q : ℕ) (hs : List Row) (bs : List Block) (right : Block) → AreLast hs bs → suc q < length hs → length hs ≡ length bs → right ≡ get_or bs (suc q) right → 0 < length right.items → AreLast (remove hs q) (in_hand q right (remove bs (suc q)))
AreLast-removed q [] bs right last within long read some = absurd (omega arith)
AreLast-removed q (h ∷ hs) [] right last within long read some = absurd (omega arith)
AreLast-removed zero (h ∷ []) (x ∷ bs) right last within long read some = absurd (omega arith)
AreLast-removed zero (h ∷ g ∷ hs) (x ∷ []) right last within long read some = absurd (omega arith)
AreLast-removed zero (h ∷ g ∷ hs) (x ∷ y ∷ bs) right last within long read some = (
  λ more.
      bin_after-one_list 0 0 (last_total 0 x.items) x.items right.items some
      ∙ ap (λ (z : Block). bin_after 0 z.items) read
      ∙ last.1.0 more,
  last.1.1,
)
AreLast-removed (suc q) (h ∷ hs) (x ∷ bs) right last within long read some =
    (λ _. last.0 (omega arith), AreLast-removed q hs bs right last.1 (omega arith) (omega arith) read some)

pub AreLast-lists : (hs : List Row) (bs cs : List Block) → lists cs ≡ lists bs → AreLast hs bs → AreLast hs cs
AreLast-lists [] bs cs same last = tt
AreLast-lists (h ∷ hs) bs [] same last = tt
AreLast-lists (h ∷ hs) [] (c ∷ cs) same last = cc
AreLast-lists (h ∷ hs) (b ∷ bs) (c ∷ cs) same last =
    let head : c.items ≡ b.items = cc in
    let tail : lists cs ≡ lists bs = cc in
    (λ some. ap (bin_after 0) head ∙ last.0 some, AreLast-lists hs bs cs tail last.1)

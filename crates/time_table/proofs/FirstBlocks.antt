-- Heads and blocks that are put one behind the other.
use Rattle.std.proofs.Common.{◌≡◌, ℕ, zero, suc, ◌+◌, ◌<◌, ◌≤◌, ◌^◌, List, [], ◌∷◌, ◌++◌, length, get_or, All, refl, sym, ap, subst, ◌∙◌, arith, append_assoc}
use Rattle.std.specs.List.{insert}
use Rattle.std.proofs.lemmas.List.{append-nil}
use Rattle.std.proofs.lemmas.List.Edits.{insert_end}
use Rattle.std.proofs.lemmas.List.Elements.{All-weaker}
use Rattle.std.proofs.lemmas.List.Sums.{sum_by-cons, sum_by-append}
use Rattle.time_table.specs.declared.row.Row.{Row}
use Rattle.time_table.specs.Totals.{IsTotal, Rise, counts_from, totals_from, last_total, bin_after}
use Rattle.time_table.specs.Rows.{AreRows, row_total}
use Rattle.time_table.specs.Blocks.{Headed, Block, parts, IsHead, Held, AreLast, IsSized, AllSized, IsSplit, AddsBlock}
use Rattle.time_table.proofs.TwoRowLists.{bin_after-lt, All-bin_after, length-le-total, last_total-append}
use Rattle.time_table.proofs.RowLists.{counts_from-totals, Rise-totals, bins-totals, length-totals}

-- ---- rows in a block

last_total-totals : (before : ℕ) (es : List (ℕ × ℕ)) → last_total before (totals_from before es) ≡ before + row_total es
last_total-totals before [] = omega arith
last_total-totals before (e ∷ es) =
    let sum = sum_by-cons (λ (e : ℕ × ℕ). e.1) e es in
    omega (arith, last_total-totals (before + e.1) es, sum)

-- the bin of the last row
bin_after-totals : (least before k : ℕ) (es : List (ℕ × ℕ)) (e : ℕ × ℕ) → k + 1 ≡ length es → e ≡ get_or es k e → bin_after least (totals_from before es) ≡ e.0 + 1
bin_after-totals least before k [] e long read = absurd (omega arith)
bin_after-totals least before zero (x ∷ []) e long read = ap (λ (y : ℕ × ℕ). y.0 + 1) (sym read)
bin_after-totals least before (suc k) (x ∷ []) e long read = absurd (omega arith)
bin_after-totals least before zero (x ∷ y ∷ es) e long read = absurd (omega arith)
bin_after-totals least before (suc k) (x ∷ y ∷ es) e long read = bin_after-totals (x.0 + 1) (before + x.1) k (y ∷ es) e (omega arith) read

-- rows in two parts
rows_parted : (from before : ℕ) (xs ys : List (ℕ × ℕ)) → AreRows from (xs ++ ys) → AreRows from xs × AreRows (bin_after from (totals_from before xs)) ys
rows_parted from before [] ys fit = (tt, fit)
rows_parted from before (x ∷ xs) ys fit =
    let rest = rows_parted (x.0 + 1) (before + x.1) xs ys fit.4 in
    ((fit.0, fit.1, fit.2, fit.3, rest.0), rest.1)

-- the head of a block of rows
head_of : (least before bin : ℕ) (es : List (ℕ × ℕ)) → AreRows least es → 0 < length es → All (λ r. r.bin ≤ bin) (totals_from 0 es) → least ≤ bin → IsHead least before (record { bin = bin; total = before + row_total es }) (totals_from 0 es)
head_of least before bin es fit some within from =
    let rise : Rise least 0 (totals_from 0 es) = Rise-totals least 0 es fit in
    let long = length-totals 0 es in
    record {
      rise = rise;
      within = within;
      bins = from;
      some = omega (arith, length-le-total least 0 (totals_from 0 es) rise);
      total = omega (arith, last_total-totals 0 es);
    }

-- it has the bin of the last one where other blocks follow ..
head_between : (least before k : ℕ) (es : List (ℕ × ℕ)) (e : ℕ × ℕ) → AreRows least es → k + 1 ≡ length es → e ≡ get_or es k e → IsHead least before (record { bin = e.0; total = before + row_total es }) (totals_from 0 es)
head_between least before k es e fit long read =
    let rows : List Row = totals_from 0 es in
    let rise : Rise least 0 rows = Rise-totals least 0 es fit in
    let end : bin_after least rows ≡ e.0 + 1 = bin_after-totals least 0 k es e long read in
    let same = length-totals 0 es in
    head_of least before e.0 es fit (omega arith)
    (All-weaker (λ (r : Row). r.bin < bin_after least rows) (λ (r : Row). r.bin ≤ e.0) (λ (r : Row) (under : r.bin < bin_after least rows). omega arith) rows (All-bin_after least 0 rows rise))
    (omega (arith, bin_after-lt least 0 rows rise (omega arith)))

-- .. and else the last bin that there is
head_at_end : (least before : ℕ) (es : List (ℕ × ℕ)) → AreRows least es → 0 < length es → IsHead least before (record { bin = 4294967295; total = before + row_total es }) (totals_from 0 es)
head_at_end least before [] fit some = absurd (omega arith)
head_at_end least before (e ∷ es) fit some =
    let from : least ≤ e.0 = fit.0 in
    let small : e.0 < 2 ^ 32 = fit.1 in
    head_of least before 4294967295 (e ∷ es) fit some (bins-totals least 0 (e ∷ es) fit) (omega arith)

-- ---- heads and blocks so far

put_behind : {X : Type 0} (xs : List X) (x : X) (i : ℕ) → i ≡ length xs → insert xs i x ≡ xs ++ x ∷ []
put_behind xs x i at = ap (λ k. insert xs k x) at ∙ insert_end xs x

-- heads that others may follow, with their blocks
abbrev pub AreBegun : ℕ → ℕ → List Row → List Block → Type 0
AreBegun least before [] [] = Unit {0}
AreBegun least before [] (b ∷ bs) = ⊥
AreBegun least before (h ∷ hs) [] = ⊥
AreBegun least before (h ∷ hs) (b ∷ bs) = IsHead least before h b.items × (bin_after 0 b.items ≡ h.bin + 1) × IsSized b × AreBegun (h.bin + 1) h.total hs bs

bin_after-push : (least : ℕ) (hs : List Row) (h : Row) → bin_after least (hs ++ h ∷ []) ≡ h.bin + 1
bin_after-push least [] h = refl
bin_after-push least (x ∷ hs) h = bin_after-push (x.bin + 1) hs h

parts-push : (bs : List Block) (b : Block) → parts (bs ++ b ∷ []) ≡ parts bs ++ counts_from 0 b.items
parts-push [] b = append-nil (counts_from 0 b.items)
parts-push (x ∷ bs) b = ap (λ zs. counts_from 0 x.items ++ zs) (parts-push bs b) ∙ sym (append_assoc (counts_from 0 x.items) (parts bs) (counts_from 0 b.items))

begun-push : (least before : ℕ) (hs : List Row) (bs : List Block) (h : Row) (b : Block) → AreBegun least before hs bs → IsHead (bin_after least hs) (last_total before hs) h b.items → bin_after 0 b.items ≡ h.bin + 1 → IsSized b → AreBegun least before (hs ++ h ∷ []) (bs ++ b ∷ [])
begun-push least before [] [] h b begun head end sized = (head, end, sized, tt)
begun-push least before [] (y ∷ bs) h b begun head end sized = absurd begun
begun-push least before (x ∷ hs) [] h b begun head end sized = absurd begun
begun-push least before (x ∷ hs) (y ∷ bs) h b begun head end sized = (begun.0, begun.1, begun.2, begun-push (x.bin + 1) x.total hs bs h b begun.3 head end sized)

-- with one more at the end they are whole
begun-end : (least before : ℕ) (hs : List Row) (bs : List Block) (h : Row) (b : Block) → AreBegun least before hs bs → IsHead (bin_after least hs) (last_total before hs) h b.items → h.bin ≡ 4294967295 → IsSized b → Held least before (hs ++ h ∷ []) (bs ++ b ∷ []) × AreLast (hs ++ h ∷ []) (bs ++ b ∷ []) × AllSized (bs ++ b ∷ [])
begun-end least before [] [] h b begun head end sized =
    let last : h.bin + 1 ≡ 2 ^ 32 = omega arith in
    ((head, last), (λ some. absurd (omega (arith, some)), tt), (sized, tt))
begun-end least before [] (y ∷ bs) h b begun head end sized = absurd begun
begun-end least before (x ∷ hs) [] h b begun head end sized = absurd begun
begun-end least before (x ∷ hs) (y ∷ bs) h b begun head end sized =
    let rest = begun-end (x.bin + 1) x.total hs bs h b begun.3 head end sized in
    ((begun.0, rest.0), (λ _. begun.1, rest.1), (begun.2, rest.2))

-- ---- rows that are put block by block

-- a block that was put at the end, and its head
pub put_last : (rows : List (ℕ × ℕ)) (old new : Headed) (block : Block) (head : Row) (i j : ℕ) → i ≡ length old.heads → j ≡ length old.blocks → new.heads ≡ insert old.heads i head → new.blocks ≡ insert old.blocks j block → block.items ≡ totals_from 0 rows → 64 ≤ length block.items + block.spare → 32 ≤ length rows → length rows ≤ 63 → AddsBlock rows head.bin head.total old new
put_last rows old new block head i j at at' heads blocks items room least most =
    let long : length block.items ≡ length rows = ap length items ∙ length-totals 0 rows in
    record {
      block = block;
      sized = record { least = omega arith; most = omega arith; room = room };
      items = items;
      heads = heads ∙ put_behind old.heads head i at;
      blocks = blocks ∙ put_behind old.blocks block j at';
    }

-- the rows are those of the blocks and the rest, which go on after the last head
pub record IsBegun (m : ℕ) (rows rest : List (ℕ × ℕ)) (below : ℕ) (split : Headed) : Type 0 where
  pub begun : AreBegun 0 0 split.heads split.blocks
  pub whole : parts split.blocks ++ rest ≡ rows
  pub fit : AreRows (bin_after 0 split.heads) rest
  pub total : below ≡ last_total 0 split.heads
  pub light : IsTotal m (below + row_total rest)
  pub many : 32 ≤ length rest

pub begun_none : (m : ℕ) (listed : List (ℕ × ℕ)) (split : Headed) → AreRows 0 listed → IsTotal m (row_total listed) → 32 ≤ length listed → split.heads ≡ [] → split.blocks ≡ [] → IsBegun m listed listed 0 split
begun_none m listed split fit light many heads blocks =
    record {
      begun = subst (λ (hs : List Row). AreBegun 0 0 hs split.blocks) (sym heads) (subst (λ (bs : List Block). AreBegun 0 0 [] bs) (sym blocks) tt);
      whole = ap (λ bs. parts bs ++ listed) blocks;
      fit = subst (λ (hs : List Row). AreRows (bin_after 0 hs) listed) (sym heads) fit;
      total = sym (ap (last_total 0) heads);
      light = record { half = omega (arith, light.half); small = omega (arith, light.small) };
      many = many;
    }

pub begun_more : (m : ℕ) (rows rest front back : List (ℕ × ℕ)) (total total' k : ℕ) (e : ℕ × ℕ) (split split' : Headed) → IsBegun m rows rest total split → rest ≡ front ++ back → k + 1 ≡ length front → e ≡ get_or front k e → 32 ≤ length back → total' ≡ total + row_total front → AddsBlock front e.0 total' split split' → IsBegun m rows back total' split'
begun_more m rows rest front back total total' k e split split' is around long read many sum part =
    let least : ℕ = bin_after 0 split.heads in
    let fits = rows_parted least 0 front back (subst (AreRows least) around is.fit) in
    let h : Row = record { bin = e.0; total = total' } in
    let head : IsHead least (last_total 0 split.heads) h (totals_from 0 front) =
    subst (λ n. IsHead least (last_total 0 split.heads) (record { bin = e.0; total = n }) (totals_from 0 front)) (sym (sum ∙ ap (λ n. n + row_total front) is.total)) (head_between least (last_total 0 split.heads) k front e fits.0 long read) in
    let end : bin_after 0 (totals_from 0 front) ≡ e.0 + 1 = bin_after-totals 0 0 k front e long read in
    let begun : AreBegun 0 0 (split.heads ++ h ∷ []) (split.blocks ++ part.block ∷ []) =
    begun-push 0 0 split.heads split.blocks h part.block is.begun (subst (IsHead least (last_total 0 split.heads) h) (sym part.items) head) (ap (bin_after 0) part.items ∙ end) part.sized in
    let next : bin_after 0 split'.heads ≡ bin_after least (totals_from 0 front) = ap (bin_after 0) part.heads ∙ bin_after-push 0 split.heads h ∙ sym (bin_after-totals least 0 k front e long read) in
    let weigh = ap row_total around ∙ sum_by-append (λ (e : ℕ × ℕ). e.1) front back in
    record {
      begun = subst (λ (hs : List Row). AreBegun 0 0 hs split'.blocks) (sym part.heads) (subst (λ (bs : List Block). AreBegun 0 0 (split.heads ++ h ∷ []) bs) (sym part.blocks) begun);
      whole = ap (λ bs. parts bs ++ back) part.blocks
          ∙ ap (λ zs. zs ++ back) (parts-push split.blocks part.block ∙ ap (λ zs. parts split.blocks ++ zs) (ap (counts_from 0) part.items ∙ counts_from-totals 0 front))
          ∙ append_assoc (parts split.blocks) front back
          ∙ ap (λ zs. parts split.blocks ++ zs) (sym around)
          ∙ is.whole;
      fit = subst (λ n. AreRows n back) (sym next) fits.1;
      total = sym (ap (last_total 0) part.heads ∙ last_total-append 0 split.heads (h ∷ []));
      light = record { half = omega (arith, is.light.half, weigh, sum); small = omega (arith, is.light.small, weigh, sum) };
      many = many;
    }

pub begun_whole : (m : ℕ) (rows rest : List (ℕ × ℕ)) (total total' : ℕ) (split split' : Headed) → IsBegun m rows rest total split → total' ≡ total + row_total rest → AddsBlock rest 4294967295 total' split split' → IsSplit m split'.heads split'.blocks × (parts split'.blocks ≡ rows)
begun_whole m rows rest total total' split split' is sum part =
    let least : ℕ = bin_after 0 split.heads in
    let h : Row = record { bin = 4294967295; total = total' } in
    let head : IsHead least (last_total 0 split.heads) h (totals_from 0 rest) =
    subst (λ n. IsHead least (last_total 0 split.heads) (record { bin = 4294967295; total = n }) (totals_from 0 rest)) (sym (sum ∙ ap (λ n. n + row_total rest) is.total)) (head_at_end least (last_total 0 split.heads) rest is.fit (omega (arith, is.many))) in
    let whole = begun-end 0 0 split.heads split.blocks h part.block is.begun (subst (IsHead least (last_total 0 split.heads) h) (sym part.items) head) refl part.sized in
    let made : IsSplit m (split.heads ++ h ∷ []) (split.blocks ++ part.block ∷ []) = record {
      heads_held = record { held = whole.0; last = whole.1 };
      sized = whole.2;
      fits = let end = last_total-append 0 split.heads (h ∷ []) in record { half = omega (arith, is.light.half, end, sum); small = omega (arith, is.light.small, end, sum) };
    } in (
      subst (λ (hs : List Row). IsSplit m hs split'.blocks) (sym part.heads) (subst (λ (bs : List Block). IsSplit m (split.heads ++ h ∷ []) bs) (sym part.blocks) made),
      ap parts part.blocks
          ∙ parts-push split.blocks part.block
          ∙ ap (λ zs. parts split.blocks ++ zs) (ap (counts_from 0) part.items ∙ counts_from-totals 0 rest)
          ∙ is.whole,
    )

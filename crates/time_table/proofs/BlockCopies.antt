-- Blocks that are copied one by one.
use Rattle.std.proofs.Common.{◌≡◌, ℕ, zero, suc, ◌+◌, ◌<◌, ◌≤◌, List, [], ◌∷◌, ◌++◌, length, take, drop, get_or, refl, sym, ap, subst, ◌∙◌, arith, add-one}
use Rattle.std.specs.List.{insert}
use Rattle.std.proofs.lemmas.List.{take_all, drop_all, length_push}
use Rattle.time_table.specs.declared.row.Row.{Row}
use Rattle.time_table.specs.Totals.{counts_from}
use Rattle.time_table.specs.Blocks.{Block, lists, parts, IsHead, Held, IsSized, AllSized}
use Rattle.time_table.proofs.BlockSizes.{sized_at}

lists-push : (xs : List Block) (x : Block) → lists (xs ++ x ∷ []) ≡ lists xs ++ x.items ∷ []
lists-push [] x = refl
lists-push (y ∷ xs) x = ap (λ zs. y.items ∷ zs) (lists-push xs x)

AllSized-push : (xs : List Block) (x : Block) → AllSized xs → IsSized x → AllSized (xs ++ x ∷ [])
AllSized-push [] x sized is = (is, tt)
AllSized-push (y ∷ xs) x sized is = (sized.0, AllSized-push xs x sized.1 is)

lists-more : (i : ℕ) (bs : List Block) (b : Block) → i < length bs → b ≡ get_or bs i b → take (suc i) (lists bs) ≡ take i (lists bs) ++ b.items ∷ []
lists-more i [] b within read = absurd (omega arith)
lists-more zero (x ∷ bs) b within read = ap (λ (y : Block). y.items ∷ []) (sym read)
lists-more (suc i) (x ∷ bs) b within read = ap (λ zs. x.items ∷ zs) (lists-more i bs b (omega arith) read)

pub record IsCopied (i : ℕ) (bs new : List Block) : Type 0 where
  pub same : lists new ≡ take (i + 1) (lists bs)
  pub sized : AllSized new
  pub many : length new ≡ i + 1

pub copied_more : (i : ℕ) (bs cs new : List Block) (b c : Block) → i < length bs → b ≡ get_or bs i b → c.items ≡ b.items → 64 ≤ length c.items + c.spare → lists cs ≡ take i (lists bs) → AllSized cs → AllSized bs → length cs ≡ i → new ≡ insert cs i c → IsCopied i bs new
copied_more i bs cs new b c within read items room same sized sized' many is =
    let long : length c.items ≡ length b.items = ap length items in
    let b_sized = sized_at i bs b sized' within read in
    let c_sized : IsSized c = record { least = omega (arith, b_sized.least); most = omega (arith, b_sized.most); room = room } in
    let whole : new ≡ cs ++ c ∷ [] = is ∙ ap (λ zs. zs ++ c ∷ drop i cs) (take_all i cs (omega arith)) ∙ ap (λ zs. cs ++ c ∷ zs) (drop_all i cs (omega arith)) in
    record {
      same = ap lists whole ∙ lists-push cs c ∙ ap (λ zs. zs ++ c.items ∷ []) same ∙ ap (λ zs. take i (lists bs) ++ zs ∷ []) items ∙ sym (lists-more i bs b within read) ∙ ap (λ k. take k (lists bs)) (sym (add-one i));
      sized = subst AllSized (sym whole) (AllSized-push cs c sized c_sized);
      many = ap length whole ∙ length_push cs c ∙ ap (λ k. k + 1) many;
    }

length-lists : (bs : List Block) → length (lists bs) ≡ length bs
length-lists [] = refl
length-lists (b ∷ bs) = ap suc (length-lists bs)

pub take-lists : (i : ℕ) (bs : List Block) → length bs ≤ i → take i (lists bs) ≡ lists bs
take-lists i bs le = take_all i (lists bs) (omega (arith, length-lists bs))

-- what blocks are seen as depends on their rows alone
pub parts-lists : (bs cs : List Block) → lists cs ≡ lists bs → parts cs ≡ parts bs
parts-lists [] [] same = refl
parts-lists [] (c ∷ cs) same = cc
parts-lists (b ∷ bs) [] same = cc
parts-lists (b ∷ bs) (c ∷ cs) same =
    let head : c.items ≡ b.items = cc in
    let tail : lists cs ≡ lists bs = cc in
    ap (λ zs. counts_from 0 zs ++ parts cs) head ∙ ap (λ zs. counts_from 0 b.items ++ zs) (parts-lists bs cs tail)

pub Held-lists : (least before : ℕ) (hs : List Row) (bs cs : List Block) → lists cs ≡ lists bs → Held least before hs bs → Held least before hs cs
Held-lists least before hs [] [] same held = held
Held-lists least before hs [] (c ∷ cs) same held = cc
Held-lists least before hs (b ∷ bs) [] same held = cc
Held-lists least before [] (b ∷ bs) (c ∷ cs) same held = absurd held
Held-lists least before (h ∷ hs) (b ∷ bs) (c ∷ cs) same held =
    let head : c.items ≡ b.items = cc in
    let tail : lists cs ≡ lists bs = cc in
    (subst (IsHead least before h) (sym head) held.0, Held-lists (h.bin + 1) h.total hs bs cs tail held.1)

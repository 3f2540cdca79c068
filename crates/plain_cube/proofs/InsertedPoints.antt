-- What inserting points does to the lists that the bag counts.
use Rattle.std.proofs.Common.{◌≡◌, ◌+◌, List, [], ◌∷◌, ◌++◌, length, sym, subst, arith, length-append, Result, Ok, Err, OnOk, OnErr}
use Rattle.cube_view.specs.Points.{Point}
use Rattle.cube_view.specs.Bag.{is_spot, Counts, GrowsBy}
use Rattle.cube_view.proofs.Alike.{Counts-append, Counts-push}
use Rattle.cube_view.proofs.Amounts.{amount-append, amount-push}
use Rattle.plain_cube.specs.Listed.{bag_of}

pub counts_more : (items h : List Point) (p : Point) → Counts (bag_of items) (length items) h → Counts (bag_of (items ++ p ∷ [])) (length (items ++ p ∷ [])) (h ++ p ∷ [])
counts_more items h p counts =
    let one : length (items ++ p ∷ []) ≡ length items + 1 = omega (arith, length-append items (p ∷ [])) in
    subst (λ n. Counts (bag_of (items ++ p ∷ [])) n (h ++ p ∷ [])) (sym one) (Counts-push (bag_of items) (bag_of (items ++ p ∷ [])) (length items) h p counts (λ s. amount-push (is_spot s) items p))

-- the bag of a list with others behind it counts what the bag of the list counts, with those behind it
counts_all : (items points : List Point) → GrowsBy (bag_of items) (length items) (bag_of (items ++ points)) (length (items ++ points)) points
counts_all items points h counts = subst (λ n. Counts (bag_of (items ++ points)) n (h ++ points)) (sym (length-append items points)) (Counts-append (bag_of items) (bag_of (items ++ points)) (length items) h points counts (λ s. amount-append (is_spot s) items points))

pub all_inserted : {A E : Type 0} (items after points : List Point) (r : Result A E) → OnOk r (after ≡ items ++ points) → OnOk r (GrowsBy (bag_of items) (length items) (bag_of after) (length after) points)
all_inserted items after points (Ok a) same = subst (λ (l : List Point). GrowsBy (bag_of items) (length items) (bag_of l) (length l) points) (sym same) (counts_all items points)
all_inserted items after points (Err e) same = same

module _ {A E : Type 0} (items after h : List Point) (counts : Counts (bag_of items) (length items) h) where
  pub counts_inserted : (p : Point) (r : Result A E) → OnOk r (after ≡ items ++ p ∷ []) → OnOk r (Counts (bag_of after) (length after) (h ++ p ∷ []))
  counts_inserted p (Ok a) same = subst (λ (l : List Point). Counts (bag_of l) (length l) (h ++ p ∷ [])) (sym same) (counts_more items h p counts)
  counts_inserted p (Err e) same = same

  pub counts_kept : (r : Result A E) → OnErr r (after ≡ items) → OnErr r (Counts (bag_of after) (length after) h)
  counts_kept (Ok a) same = same
  counts_kept (Err e) same = subst (λ (l : List Point). Counts (bag_of l) (length l) h) (sym same) counts

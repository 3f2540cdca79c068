-- What a row adds to the lists of points that a view counts.
use Rattle.std.proofs.Common.{◌≡◌, ◌+◌, ◌≤◌, ℕ, List, [], ◌∷◌, ◌++◌, map, sym, subst, refl, arith, append-nil, length-append, Result, Ok, Err, OnOk}
use Rattle.std.proofs.Math.Logic.{∥∥₁_elim}
use Rattle.std.specs.Coded.{le_prop}
use Rattle.cube_view.specs.Bag.{Counts, CountsMore, EachCounted}
use Rattle.cube_view.specs.Points.{Point}
use Rattle.cube_view.specs.declared.spot.Spot.{Spot}
use Rattle.feed_reader.proofs.FeedLaws.{points_of_more}
use Rattle.feed_reader.specs.Feeds.{points_in}
use Rattle.feed_reader.specs.declared.row.Row.{Row}
use Rattle.outer_io.specs.Lines.{Line}

-- each list is counted as it was, with no point behind it
pub counts_none : (counts : List Point → Type 0) → CountsMore counts counts []
counts_none counts h c = subst counts (sym (append-nil h)) c

-- the points of some lines, and then that of one more
pub counts_on : (A B C : List Point → Type 0) (f : Line → Row) (lines : List Line) (line : Line) (r : Row) → CountsMore A B (points_in (map f lines)) → r ≡ f line → CountsMore B C (points_in (r ∷ [])) → CountsMore A C (points_in (map f (lines ++ line ∷ [])))
counts_on A B C f lines line r so_far is next h a =
    let mid = h ++ points_in (map f lines) in
    subst C (points_of_more f lines line r h mid (mid ++ points_in (r ∷ [])) refl is refl) (next mid (so_far h a))

-- a view that takes a point is of one more
pub one_more : {A E : Type 0} (r : Result A E) (at at' : Spot → ℕ) (n n' : ℕ) (p : Point) → ∥ ((h : List Point) × Counts at n h) ∥₁ → EachCounted at n (λ h. OnOk r (Counts at' n' (h ++ p ∷ []))) → OnOk r (n' ≤ n + 1)
one_more (Ok x) at at' n n' p some more = ∥∥₁_elim some le_prop (λ s.
    let after = more s.0 s.1 in
    omega (arith, after.number, s.1.number, length-append s.0 (p ∷ [])))
one_more (Err e) at at' n n' p some more = tt

-- What finer, above and before say of the spots under an address.
use Rattle.std.proofs.Common.{◌≡◌, ℕ, Bool, true, false, ◌∷◌, Some, refl, ap, subst, is_some}
use Rattle.cube_view.specs.Walks.{down, across, Walk, SpotPath, Cursor, cursor, Under, Finer, top, by_down, by_across, longer}
use Rattle.cube_view.proofs.FinerWalks.{under_before}
use Rattle.proper_path.specs.Order.{IsAbove, itself, further, IsBefore}

pub some-under : (q : SpotPath) (a : Walk) (c : Cursor) → cursor q a ≡ Some c → Under q a
some-under q a c h = ap is_some h

pub under_above : {a b : Walk} → IsAbove a b → (q : SpotPath) → Under q b → Under q a
under_above itself q h = h
under_above (further {e = e} {b = b} r) q h = under_above r q (under_before q e b h)

-- the order of visits: an address that is finer than another and not equal to it comes before it
data Side (a b : Walk) : Bool → Type 0 where
  equal : {loose : Bool} → a ≡ b → Side a b loose
  below : (l : ℕ) → IsAbove (down l ∷ a) b → Side a b true
  before : {loose : Bool} → IsBefore b a → Side a b loose

side_down : {a b : Walk} (loose : Bool) (l : ℕ) → Side a b false → Side (down l ∷ a) (down l ∷ b) loose
side_down loose l (equal e) = equal (ap (λ x. down l ∷ x) e)
side_down loose l (before r) = before (record { parting = r.parting; label = r.label; goes_down = further r.goes_down; goes_across = further r.goes_across })

side_across : {a b : Walk} {m : Bool} (loose : Bool) → Side a b m → Side (across ∷ a) (across ∷ b) loose
side_across loose (equal e) = equal (ap (λ x. across ∷ x) e)
side_across {a} loose (below l r) = before (record { parting = a; label = l; goes_down = further r; goes_across = itself })
side_across loose (before r) = before (record { parting = r.parting; label = r.label; goes_down = further r.goes_down; goes_across = further r.goes_across })

side_longer : {a b : Walk} {m : Bool} (l : ℕ) → Side a b m → Side a (down l ∷ b) true
side_longer {a} {b} l (equal e) = below l (subst (λ x. IsAbove (down l ∷ a) (down l ∷ x)) e itself)
side_longer l (below m r) = below m (further r)
side_longer l (before r) = before (record { parting = r.parting; label = r.label; goes_down = further r.goes_down; goes_across = r.goes_across })

side : {loose : Bool} {a b : Walk} → Finer loose a b → Side a b loose
side top = equal refl
side (by_down {loose = k} {l = l} f) = side_down k l (side f)
side (by_across {loose = k} f) = side_across k (side f)
side (longer {l = l} f) = side_longer l (side f)

pub comes_before : (a b : Walk) → Finer false a b → (a ≡ b → ⊥) → IsBefore b a
comes_before a b f ne = go (side f)
  where
    go : Side a b false → IsBefore b a
    go (equal e) = absurd (ne e)
    go (before r) = r

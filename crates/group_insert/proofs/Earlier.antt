-- Laws of the order in which a group visits addresses.
use Rattle.std.proofs.Common.{◌≡◌, ℕ, ◌<◌, ◌⊎◌, inl, inr, [], ◌∷◌, refl, sym, ap, subst, arith}
use Rattle.cube_view.specs.Walks.{Step, down, across, Walk}
use Rattle.proper_path.specs.Order.{IsAbove, itself, further, IsBefore}
use Rattle.proper_path.proofs.Order.{above-trans, above-step, above_both, above_last, above_same, not_before_above, before_below, before-trans}
use Rattle.proper_path.proofs.Steps.{not_above_before}
use Rattle.group_insert.specs.Turns.{IsEarlier, crosses, lesser, IsOpenAbove}

-- two steps down that are the same have one label
pub down-label : {k l : ℕ} {a b : Walk} → down k ∷ a ≡ down l ∷ b → k ≡ l
down-label e = ap (λ (w : Walk). elim w [ [] ↦ 0 | s ∷ v ↦ elim s [ down n ↦ n | across ↦ 0 ] ]) e

-- no address goes down two labels from one place, nor down and across
two_labels : {k l : ℕ} {p c : Walk} → k < l → IsAbove (down k ∷ p) c → IsAbove (down l ∷ p) c → ⊥
two_labels lt f g = let e = down-label (above_same f g refl) in absurd (omega (arith, lt, e))

two_ways : {l : ℕ} {p c : Walk} → IsAbove (down l ∷ p) c → IsAbove (across ∷ p) c → ⊥
two_ways {l} {p} f g = let e : down l ∷ p ≡ across ∷ p = above_same f g refl in absurd cc

-- what is earlier than an address is earlier than what lies below it
pub earlier_below : {a b c : Walk} → IsEarlier b a → IsAbove a c → IsEarlier b c
earlier_below (crosses r) f = crosses (before_below r f)
earlier_below (lesser p k l lt x y) f = lesser p k l lt x (above-trans y f)

-- and what lies below it is earlier too
pub below_earlier : {a b c : Walk} → IsEarlier b a → IsAbove b c → IsEarlier c a
below_earlier (crosses r) f = crosses (record { parting = r.parting; label = r.label; goes_down = r.goes_down; goes_across = above-trans r.goes_across f })
below_earlier (lesser p k l lt x y) f = lesser p k l lt (above-trans x f) y

-- of two addresses of which one is earlier none stands above the other
pub earlier_not_above : {a b : Walk} → IsEarlier b a → IsAbove b a → ⊥
earlier_not_above (crosses r) f = not_before_above r f
earlier_not_above (lesser p k l lt x y) f = two_labels lt (above-trans x f) y

pub earlier_not_below : {a b : Walk} → IsEarlier b a → IsAbove a b → ⊥
earlier_not_below (crosses r) f = not_above_before f r
earlier_not_below (lesser p k l lt x y) f = two_labels lt x (above-trans y f)

pub earlier-irreflexive : {a : Walk} → IsEarlier a a → ⊥
earlier-irreflexive r = earlier_not_above r itself

-- what is earlier does not come before in the order of single visits
pub earlier_not_before : {a b : Walk} → IsEarlier b a → IsBefore b a → ⊥
earlier_not_before (crosses r) s = not_before_above (before-trans r s) itself
earlier_not_before {a} {b} (lesser p k l lt x y) s = go (above_both x s.goes_down)
  where
    -- the parting of the labels stands at or above that of the ways, or below it
    first : (down k ∷ p ≡ down s.label ∷ s.parting) ⊎ IsAbove (down k ∷ p) s.parting → ⊥
    first (inl e) = let q : p ≡ s.parting = cc in two_ways y (subst (λ z. IsAbove (across ∷ z) a) (sym q) s.goes_across)
    first (inr f) = two_labels lt (above-trans f (above-step s.goes_across)) y

    second : (down s.label ∷ s.parting ≡ down k ∷ p) ⊎ IsAbove (down s.label ∷ s.parting) p → ⊥
    second (inl e) = let q : p ≡ s.parting = cc in two_ways y (subst (λ z. IsAbove (across ∷ z) a) (sym q) s.goes_across)
    second (inr f) = two_ways (above-trans f (above-step y)) s.goes_across

    go : IsAbove (down k ∷ p) (down s.label ∷ s.parting) ⊎ IsAbove (down s.label ∷ s.parting) (down k ∷ p) → ⊥
    go (inl f) = first (above_last f)
    go (inr f) = second (above_last f)

-- what is earlier than the content of a node is earlier than the node
pub earlier_across : {a b : Walk} → IsEarlier b (across ∷ a) → IsEarlier b a
earlier_across {a} {b} (crosses r) = crosses (record { parting = r.parting; label = r.label; goes_down = pick (above_last r.goes_down); goes_across = r.goes_across })
  where
    pick : (down r.label ∷ r.parting ≡ across ∷ a) ⊎ IsAbove (down r.label ∷ r.parting) a → IsAbove (down r.label ∷ r.parting) a
    pick (inl e) = absurd cc
    pick (inr f) = f
earlier_across {a} {b} (lesser p k l lt x y) = lesser p k l lt x (pick (above_last y))
  where
    pick : (down l ∷ p ≡ across ∷ a) ⊎ IsAbove (down l ∷ p) a → IsAbove (down l ∷ p) a
    pick (inl e) = absurd cc
    pick (inr f) = f

-- what is earlier than a child of a node is earlier than the node, or lies in its content, or at or below a lesser
-- child
pub data EarlierDown (l : ℕ) (a b : Walk) : Type 0 where
  outside : IsEarlier b a → EarlierDown l a b
  in_content : IsAbove (across ∷ a) b → EarlierDown l a b
  in_lesser : (k : ℕ) → k < l → IsAbove (down k ∷ a) b → EarlierDown l a b

pub earlier_down : {l : ℕ} {a b : Walk} → IsEarlier b (down l ∷ a) → EarlierDown l a b
earlier_down {l} {a} {b} (crosses r) = pick (above_last r.goes_down)
  where
    pick : (down r.label ∷ r.parting ≡ down l ∷ a) ⊎ IsAbove (down r.label ∷ r.parting) a → EarlierDown l a b
    pick (inl e) = let q : r.parting ≡ a = cc in in_content (subst (λ z. IsAbove (across ∷ z) b) q r.goes_across)
    pick (inr f) = outside (crosses (record { parting = r.parting; label = r.label; goes_down = f; goes_across = r.goes_across }))
earlier_down {l} {a} {b} (lesser p k m lt x y) = pick (above_last y)
  where
    pick : (down m ∷ p ≡ down l ∷ a) ⊎ IsAbove (down m ∷ p) a → EarlierDown l a b
    pick (inl e) = let q : p ≡ a = cc in in_lesser k (subst (λ z. k < z) (down-label e) lt) (subst (λ z. IsAbove (down k ∷ z) b) q x)
    pick (inr f) = outside (lesser p k m lt x f)

-- the content is earlier than each child
pub content_earlier : {l : ℕ} {a b : Walk} → IsAbove (across ∷ a) b → IsEarlier b (down l ∷ a)
content_earlier {l} {a} f = crosses (record { parting = a; label = l; goes_down = itself; goes_across = f })

-- and a lesser child than a greater one
pub lesser_earlier : {k l : ℕ} {a b : Walk} → k < l → IsAbove (down k ∷ a) b → IsEarlier b (down l ∷ a)
lesser_earlier {k} {l} {a} lt f = lesser a k l lt f itself

-- at or above a node stands what is strictly above its next step
pub open_step : {e : Step} {a b : Walk} → IsOpenAbove (e ∷ a) b → IsAbove b a
open_step {e} {a} {b} o = pick (above_last_any o.0)
  where
    above_last_any : {b : Walk} → IsAbove b (e ∷ a) → (b ≡ e ∷ a) ⊎ IsAbove b a
    above_last_any itself = inl refl
    above_last_any (further g) = inr g

    pick : (b ≡ e ∷ a) ⊎ IsAbove b a → IsAbove b a
    pick (inl x) = absurd (o.1 x)
    pick (inr f) = f

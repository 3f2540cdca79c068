-- The order of visits.
use Rattle.std.proofs.Common.{◌≡◌, ℕ, ◌≤◌, ◌⊎◌, inl, inr, ◌∷◌, length, refl, sym, subst, arith}
use Rattle.cube_view.specs.Walks.{Step, down, across, Walk, Under}
use Rattle.proper_path.specs.Order.{IsAbove, itself, further, IsBefore}
use Rattle.proper_path.specs.Midway.{DoneBefore, DoneAfter, IsClosed}
use Rattle.node_arena.proofs.Labels.{same_down}
use Rattle.proper_path.proofs.Above.{under_above}
use Rattle.node_arena.specs.Amounts.{Weighted}

pub above-trans : {a b c : Walk} → IsAbove a b → IsAbove b c → IsAbove a c
above-trans f itself = f
above-trans f (further g) = further (above-trans f g)

pub above-length : {a b : Walk} → IsAbove a b → length a ≤ length b
above-length itself = omega arith
above-length (further f) = let r = above-length f in omega arith

pub above-step : {e : Step} {a b : Walk} → IsAbove (e ∷ a) b → IsAbove a b
above-step f = above-trans (further itself) f

-- of two addresses above a third one stands above the other
pub above_both : {a b c : Walk} → IsAbove a c → IsAbove b c → IsAbove a b ⊎ IsAbove b a
above_both itself g = inr g
above_both (further f) itself = inl (further f)
above_both (further f) (further g) = above_both f g

-- what stands above an address is that address or one step before it at least
pub above_cases : {a b : Walk} → IsAbove a b → (a ≡ b) ⊎ ((e : Step) × IsAbove (e ∷ a) b)
above_cases itself = inl refl
above_cases (further {e = e} {b = b} f) = go (above_cases f)
  where
    go : {a : Walk} → (a ≡ b) ⊎ ((d : Step) × IsAbove (d ∷ a) b) → (a ≡ e ∷ b) ⊎ ((d : Step) × IsAbove (d ∷ a) (e ∷ b))
    go (inl x) = inr (e, subst (λ z. IsAbove (e ∷ z) (e ∷ b)) (sym x) itself)
    go (inr r) = inr (r.0, further r.1)

pub above_last : {e f : Step} {a b : Walk} → IsAbove (e ∷ a) (f ∷ b) → (e ∷ a ≡ f ∷ b) ⊎ IsAbove (e ∷ a) b
above_last itself = inl refl
above_last (further g) = inr g

pub above_same : {a b c : Walk} → IsAbove a c → IsAbove b c → length a ≡ length b → a ≡ b
above_same {a} {b} f g e = go (above_both f g)
  where
    one : {a b : Walk} → IsAbove a b → length a ≡ length b → a ≡ b
    one {a} {b} f e = pick (above_cases f)
      where
        pick : (a ≡ b) ⊎ ((d : Step) × IsAbove (d ∷ a) b) → a ≡ b
        pick (inl x) = x
        pick (inr r) = let s = above-length r.1 in absurd (omega arith)

    go : IsAbove a b ⊎ IsAbove b a → a ≡ b
    go (inl x) = one x e
    go (inr x) = sym (one x (sym e))

-- no address comes before one that stands above it
pub not_before_above : {a b : Walk} → IsBefore b a → IsAbove a b → ⊥
not_before_above r f = let e : down r.label ∷ r.parting ≡ across ∷ r.parting = above_same r.goes_down (above-trans r.goes_across f) refl in absurd cc

pub before_below : {a b c : Walk} → IsBefore b a → IsAbove b c → IsBefore c a
before_below r f = record { parting = r.parting; label = r.label; goes_down = above-trans r.goes_down f; goes_across = r.goes_across }

pub before-trans : {a b x : Walk} → IsBefore b a → IsBefore a x → IsBefore b x
before-trans {a} {b} {x} r s = go (above_both r.goes_across s.goes_down)
  where
    first : {c d : Walk} {l : ℕ} → IsAbove (across ∷ c) (down l ∷ d) → IsAbove (across ∷ c) d
    first f = pick (above_last f)
      where
        pick : {c d : Walk} {l : ℕ} → (across ∷ c ≡ down l ∷ d) ⊎ IsAbove (across ∷ c) d → IsAbove (across ∷ c) d
        pick (inl e) = absurd cc
        pick (inr g) = g

    second : {c d : Walk} {l : ℕ} → IsAbove (down l ∷ c) (across ∷ d) → IsAbove (down l ∷ c) d
    second f = pick (above_last f)
      where
        pick : {c d : Walk} {l : ℕ} → (down l ∷ c ≡ across ∷ d) ⊎ IsAbove (down l ∷ c) d → IsAbove (down l ∷ c) d
        pick (inl e) = absurd cc
        pick (inr g) = g

    go : IsAbove (across ∷ r.parting) (down s.label ∷ s.parting) ⊎ IsAbove (down s.label ∷ s.parting) (across ∷ r.parting) → IsBefore b x
    go (inl f) = record { parting = r.parting; label = r.label; goes_down = r.goes_down; goes_across = above-trans (first f) (above-step s.goes_across) }
    go (inr f) = record { parting = s.parting; label = s.label; goes_down = above-trans (second f) (above-step r.goes_down); goes_across = s.goes_across }

pub closed_before : (p : Weighted) (x : Walk) → IsClosed p (DoneBefore p x)
closed_before p x a b d u (inl f) = (u, before_below d.1 f)
closed_before p x a b d u (inr f) = (u, before-trans f d.1)

pub closed_after : (p : Weighted) (x : Walk) → IsClosed p (DoneAfter p x)
closed_after p x a b (v, inl d) u (inl f) = (u, inl (before_below d f))
closed_after p x a b (v, inl d) u (inr f) = (u, inl (before-trans f d))
closed_after p x a b (v, inr d) u (inl f) = (u, inr (above-trans d f))
closed_after p x a b (v, inr d) u (inr f) = (u, go (above_both f.goes_across d))
  where
    last : {l : ℕ} {c : Walk} → (x ≡ across ∷ c) ⊎ IsAbove x c → IsAbove (down l ∷ c) b → IsBefore b x ⊎ IsAbove x b
    last {l} {c} (inl e) g = inl (record { parting = c; label = l; goes_down = g; goes_across = subst (λ z. IsAbove (across ∷ c) z) (sym e) itself })
    last (inr k) g = inr (above-trans k (above-step g))

    split : {c y : Walk} → IsAbove y (across ∷ c) → (y ≡ across ∷ c) ⊎ IsAbove y c
    split itself = inl refl
    split (further g) = inr g

    go : IsAbove (across ∷ f.parting) x ⊎ IsAbove x (across ∷ f.parting) → IsBefore b x ⊎ IsAbove x b
    go (inl g) = inl (record { parting = f.parting; label = f.label; goes_down = f.goes_down; goes_across = g })
    go (inr g) = last (split g) f.goes_down

-- from one visit to the next
pub before_down : {b a : Walk} {l : ℕ} → IsBefore b (down l ∷ a) → IsBefore b a
before_down {b} {a} {l} r = record { parting = r.parting; label = r.label; goes_down = r.goes_down; goes_across = pick (above_last r.goes_across) }
  where
    pick : (across ∷ r.parting ≡ down l ∷ a) ⊎ IsAbove (across ∷ r.parting) a → IsAbove (across ∷ r.parting) a
    pick (inl e) = absurd cc
    pick (inr g) = g

pub down_before : {b a : Walk} (l : ℕ) → IsBefore b a → IsBefore b (down l ∷ a)
down_before l r = record { parting = r.parting; label = r.label; goes_down = r.goes_down; goes_across = further r.goes_across }

pub across_before : {b a : Walk} → IsBefore b a → IsBefore b (across ∷ a)
across_before r = record { parting = r.parting; label = r.label; goes_down = r.goes_down; goes_across = further r.goes_across }

-- what comes before the content's address comes before the node's or lies below a child
pub before_across : {b a : Walk} → IsBefore b (across ∷ a) → IsBefore b a ⊎ ((l : ℕ) × IsAbove (down l ∷ a) b)
before_across {b} {a} r = pick (above_last r.goes_across)
  where
    pick : (across ∷ r.parting ≡ across ∷ a) ⊎ IsAbove (across ∷ r.parting) a → IsBefore b a ⊎ ((l : ℕ) × IsAbove (down l ∷ a) b)
    pick (inl e) = let k : r.parting ≡ a = cc in inr (r.label, subst (λ z. IsAbove (down r.label ∷ z) b) k r.goes_down)
    pick (inr g) = inl (record { parting = r.parting; label = r.label; goes_down = r.goes_down; goes_across = g })

-- the child on p's path is visited: now the content
pub after_child : (p : Weighted) (a b : Walk) (l : ℕ) → DoneAfter p (down l ∷ a) b → DoneBefore p (across ∷ a) b
after_child p a b l (u, inl r) = (u, across_before (before_down r))
after_child p a b l (u, inr f) = (u, record { parting = a; label = l; goes_down = f; goes_across = itself })

pub child_after : (p : Weighted) (a b : Walk) (l : ℕ) → Under p.spot (down l ∷ a) → DoneBefore p (across ∷ a) b → DoneAfter p (down l ∷ a) b
child_after p a b l v (u, r) = (u, go (before_across r))
  where
    go : IsBefore b a ⊎ ((m : ℕ) × IsAbove (down m ∷ a) b) → IsBefore b (down l ∷ a) ⊎ IsAbove (down l ∷ a) b
    go (inl s) = inl (down_before l s)
    go (inr s) = inr (subst (λ z. IsAbove (down z ∷ a) b) (same_down p.spot s.0 l a (under_above s.1 p.spot u) v) s.1)

-- there is no child on p's path: now the content
pub finest_across : (p : Weighted) (a b : Walk) → ((l : ℕ) → Under p.spot (down l ∷ a) → ⊥) → DoneBefore p (across ∷ a) b → DoneBefore p a b
finest_across p a b none (u, r) = (u, go (before_across r))
  where
    go : IsBefore b a ⊎ ((m : ℕ) × IsAbove (down m ∷ a) b) → IsBefore b a
    go (inl s) = s
    go (inr s) = absurd (none s.0 (under_above s.1 p.spot u))

pub across_finest : (p : Weighted) (a b : Walk) → DoneBefore p a b → DoneBefore p (across ∷ a) b
across_finest p a b (u, r) = (u, across_before r)

-- nothing at or below an address is done before it
pub not_done : (p : Weighted) (a b : Walk) → IsAbove a b → DoneBefore p a b → ⊥
not_done p a b f (u, r) = not_before_above r f

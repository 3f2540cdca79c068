-- What finer walks say of the spots under them.
use Rattle.std.proofs.Common.{◌≡◌, ℕ, zero, suc, ◌+◌, Bool, true, false, cond, ◌&&◌, eqb, ◌⊎◌, inl, inr, List, [], ◌∷◌, Option, Some, None, is_some, count_by, Contains, refl, sym, ap, ◌∙◌, arith, true≢false, ap₂}
use Rattle.std.proofs.lemmas.List.Sums.{sum_by-cons}
use Rattle.cube_view.specs.Walks.{Step, down, across, Walk, SpotPath, Cursor, after_down, after_across, after_step, then_step, cursor, under, Under, count_under, Finer, top, by_down, by_across, longer, dimension, HasSpot}

-- a step that succeeds began somewhere
pub begun : (o : Option Cursor) (e : Step) (c : Cursor) → then_step o e ≡ Some c → (b : Cursor) × (o ≡ Some b) × (after_step e b ≡ Some c)
begun None e c h = absurd cc
begun (Some b) e c h = (b, refl, h)

-- a step down keeps the later dimensions
pub later_kept : (l : ℕ) (rest : List ℕ) (later : List (List ℕ)) (c : Cursor) → after_down l rest later ≡ Some c → later ≡ c.later
later_kept l [] later c h = absurd cc
later_kept l (x ∷ rest) later c h = go (eqb l x) h
  where
    go : (b : Bool) → cond b (Some (record { rest = rest; later = later })) None ≡ Some c → later ≡ c.later
    go true e = ap (λ (o : Option Cursor). elim o [ None ↦ later | Some d ↦ d.later ]) e
    go false e = absurd cc

pub record Along (loose : Bool) (q : SpotPath) (a : Walk) (c : Cursor) : Type 0 where
  pub here : Cursor
  pub is : cursor q a ≡ Some here
  pub same_later : here.later ≡ c.later
  pub same : loose ≡ false → here ≡ c

pub finer_cursor : {loose : Bool} {a b : Walk} → Finer loose a b → (q : SpotPath) (c : Cursor) → cursor q b ≡ Some c → Along loose q a c
finer_cursor top q c h = record { here = c; is = h; same_later = refl; same = λ _. refl }
finer_cursor (by_down {l = l} {b = b} f) q c h =
    let s = begun (cursor q b) (down l) c h in
    let r = finer_cursor f q s.0 s.1 in
    let e : r.here ≡ s.0 = r.same refl in
    record { here = c; is = ap (λ (o : Option Cursor). then_step o (down l)) (r.is ∙ ap Some e) ∙ s.2; same_later = refl; same = λ _. refl }
finer_cursor (by_across {b = b} f) q c h =
    let s = begun (cursor q b) across c h in
    let r = finer_cursor f q s.0 s.1 in
    record { here = c; is = ap (λ (o : Option Cursor). then_step o across) r.is ∙ (ap after_across r.same_later ∙ s.2); same_later = refl; same = λ _. refl }
finer_cursor (longer {l = l} {b = b} f) q c h =
    let s = begun (cursor q b) (down l) c h in
    let r = finer_cursor f q s.0 s.1 in
    record { here = r.here; is = r.is; same_later = r.same_later ∙ later_kept l s.0.rest s.0.later c s.2; same = λ e. absurd (true≢false e) }

pub under-some : (q : SpotPath) (a : Walk) → Under q a → (c : Cursor) × (cursor q a ≡ Some c)
under-some q a h = go (cursor q a) h
  where
    go : (o : Option Cursor) → is_some o ≡ true → (c : Cursor) × (o ≡ Some c)
    go None e = absurd cc
    go (Some c) e = (c, refl)

-- what lies under the finer address lies under the coarser one, with the same labels left
pub coarser_cursor : {a b : Walk} → Finer false a b → (q : SpotPath) → Under q b → cursor q a ≡ cursor q b
coarser_cursor {a} {b} f q h =
    let s = under-some q b h in let r = finer_cursor f q s.0 s.1 in
    r.is ∙ (ap Some (r.same refl) ∙ sym s.1)

pub coarser_under : {a b : Walk} → Finer false a b → (q : SpotPath) → Under q b → Under q a
coarser_under {a} {b} f q h = ap is_some (coarser_cursor f q h) ∙ h

-- a step from a finer address and one from the coarser address go the same way
pub step_across_finer : {a b : Walk} → Finer false a b → (q : SpotPath) (e : Step) → Under q b → under q (e ∷ a) ≡ under q (e ∷ b)
step_across_finer f q e h = ap (λ (o : Option Cursor). is_some (then_step o e)) (coarser_cursor f q h)

-- what lies under an address lies under each that stands above it
pub under_before : (q : SpotPath) (e : Step) (a : Walk) → Under q (e ∷ a) → Under q a
under_before q e a h = go (cursor q a) h
  where
    go : (o : Option Cursor) → is_some (then_step o e) ≡ true → is_some o ≡ true
    go None r = absurd cc
    go (Some c) r = refl

-- order on addresses is reflexive, transitive and goes along steps
pub finer-refl : (loose : Bool) (a : Walk) → Finer loose a a
finer-refl loose [] = top
finer-refl loose (down l ∷ a) = by_down (finer-refl false a)
finer-refl loose (across ∷ a) = by_across (finer-refl true a)

pub loosen : {loose : Bool} {a b : Walk} → Finer loose a b → Finer true a b
loosen top = top
loosen (by_down f) = by_down f
loosen (by_across f) = by_across f
loosen (longer f) = longer f

pub finer-step : {a b : Walk} → Finer false a b → (e : Step) → Finer false (e ∷ a) (e ∷ b)
finer-step f (down l) = by_down f
finer-step f across = by_across (loosen f)

trans : {l m : Bool} {a b c : Walk} → Finer m b c → Finer l a b → Finer true a c × (l ≡ false → m ≡ false → Finer false a c)
trans top top = (top, λ _ _. top)
trans (by_down g) (by_down f) = let r = trans g f in (by_down (r.1 refl refl), λ _ _. by_down (r.1 refl refl))
trans (by_down g) (longer f) = let r = trans g f in (longer r.0, λ e _. absurd (true≢false e))
trans (by_across g) (by_across f) = let r = trans g f in (by_across r.0, λ _ _. by_across r.0)
trans (longer g) f = let r = trans g f in (longer r.0, λ _ e. absurd (true≢false e))

pub finer-trans : {a b c : Walk} → Finer false a b → Finer false b c → Finer false a c
finer-trans f g = (trans g f).1 refl refl

-- counts under two addresses that have the same spots
pub Contains-cons : {X : Type 0} (xs : List X) (x y : X) → Contains xs y → Contains (x ∷ xs) y
Contains-cons xs x y c = (suc c.0, omega arith, c.2)

pub Contains-head : {X : Type 0} (xs : List X) (x : X) → Contains (x ∷ xs) x
Contains-head xs x = (0, omega arith, refl)

pub Contains-cases : {X : Type 0} (xs : List X) (x y : X) → Contains (x ∷ xs) y → (x ≡ y) ⊎ Contains xs y
Contains-cases xs x y (zero, l, e) = inl e
Contains-cases xs x y (suc k, l, e) = inr (k, omega arith, e)

pub count_same : {X : Type 0} (p r : X → Bool) (xs : List X) → ((x : X) → Contains xs x → p x ≡ r x) → count_by p xs ≡ count_by r xs
count_same p r [] h = refl
count_same p r (x ∷ xs) h =
    sum_by-cons (λ y. cond (p y) 1 0) x xs
    ∙ (ap₂ (λ (b : Bool) (n : ℕ). cond b 1 0 + n) (h x (Contains-head xs x)) (count_same p r xs (λ y c. h y (Contains-cons xs x y c)))
    ∙ sym (sum_by-cons (λ y. cond (r y) 1 0) x xs))

pub iff_same : (a b : Bool) → (a ≡ true → b ≡ true) → (b ≡ true → a ≡ true) → a ≡ b
iff_same true b f g = sym (f refl)
iff_same false true f g = g refl
iff_same false false f g = refl

pub count_along : (h : List SpotPath) (a b : Walk) → ((q : SpotPath) → Contains h q → Under q a → Under q b) → ((q : SpotPath) → Contains h q → Under q b → Under q a) → (bin : ℕ) → count_under h a bin ≡ count_under h b bin
count_along h a b f g bin = count_same (λ q. under q a && eqb q.bin bin) (λ q. under q b && eqb q.bin bin) h (λ q c. ap (λ x. x && eqb q.bin bin) (iff_same (under q a) (under q b) (f q c) (g q c)))

pub dimension-finer : {loose : Bool} {a b : Walk} → Finer loose a b → dimension a ≡ dimension b
dimension-finer top = refl
dimension-finer (by_down f) = dimension-finer f
dimension-finer (by_across f) = ap suc (dimension-finer f)
dimension-finer (longer f) = dimension-finer f

-- no spot of the list lies under the address, so none is counted there
pub count-none : (h : List SpotPath) (a : Walk) (bin : ℕ) → (HasSpot h a → ⊥) → count_under h a bin ≡ 0
count-none [] a bin none = refl
count-none (q ∷ h) a bin none =
    sum_by-cons (λ x. cond (under x a && eqb x.bin bin) 1 0) q h ∙ go (under q a) refl (count-none h a bin (λ w. none (record { spot = w.spot; is_in = Contains-cons h q w.spot w.is_in; lies = w.lies })))
  where
    go : (b : Bool) → under q a ≡ b → count_under h a bin ≡ 0 → cond (b && eqb q.bin bin) 1 0 + count_under h a bin ≡ 0
    go true e r = absurd (none (record { spot = q; is_in = Contains-head h q; lies = e }))
    go false e r = omega arith

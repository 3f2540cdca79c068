-- Coarser addresses, step by step.
use Rattle.std.proofs.Common.{◌≡◌, ◌↔◌, ◌&&◌, not, ap₂, ℕ, zero, suc, ◌≤◌, Bool, true, false, eqb, eqb-true, ◌-◌, ◌<◌, List, [], ◌∷◌, length, take, drop, get_or, slice_get, Some, refl, sym, ap, ◌∙◌, subst, arith, true≢false}
use Rattle.std.proofs.lemmas.List.{length-map}
use Rattle.cube_view.specs.Walks.{down, across, Walk, Finer, top, by_down, by_across, longer}
use Rattle.cube_view.proofs.FinerWalks.{finer-refl}
use Rattle.shape_test.specs.declared.home.Move.{Move}
use Rattle.shape_test.specs.declared.home.Move.TheVariants.{Down, Across}
use Rattle.shape_test.specs.Homes.{is_across, step_of, walk_of}
use Rattle.shape_test.proofs.Local.{finer_root}

-- a list taken whole
take_length : {A : Type 0} (xs : List A) (n : ℕ) → n ≡ length xs → take n xs ≡ xs
take_length [] zero e = refl
take_length [] (suc n) e = absurd (omega (arith, e))
take_length (x ∷ xs) zero e = absurd (omega (arith, e))
take_length {A = A} (x ∷ xs) (suc n) e = ap (λ (ys : List A). x ∷ ys) (take_length xs n (omega (arith, e)))

-- steps are told apart
pub same_move : (x y : Move) → step_of x ≡ step_of y → x ≡ y
same_move (Down l) (Down m) e = let z : l ≡ m = cc in ap Down z
same_move (Down l) Across e = absurd cc
same_move Across (Down m) e = absurd cc
same_move Across Across e = refl

-- a list with an item begins with it, and goes on with the rest
pub begun_with : {A : Type 0} (b : List A) (d : A) → 1 ≤ length b → b ≡ get_or b 0 d ∷ take (length b - 1) (drop 1 b)
begun_with [] d l = absurd (omega (arith, l))
begun_with {A = A} (x ∷ b) d l = ap (λ (ys : List A). x ∷ ys) (sym (take_length b (suc (length b) - 1) (omega arith)))

-- the first of the steps
pub first_is : (a : List Move) (e : Move) → slice_get a 0 ≡ Some e → a ≡ e ∷ take (length a - 1) (drop 1 a)
first_is [] e x = absurd cc
first_is (y ∷ a) e x = let z : y ≡ e = cc in ap (λ (w : Move). w ∷ a) z ∙ ap (λ (ys : List Move). e ∷ ys) (sym (take_length a (suc (length a) - 1) (omega arith)))

-- both go on by one step
pub same_step : (loose : Bool) (e : Move) (a b : Walk) → Finer (is_across e) a b → Finer loose (step_of e ∷ a) (step_of e ∷ b)
same_step loose (Down l) a b f = by_down f
same_step loose Across a b f = by_across f

-- the second goes further down
pub longer_step : (e : Move) (a b : Walk) → is_across e ≡ false → Finer true a b → Finer true a (step_of e ∷ b)
longer_step (Down l) a b x f = longer f
longer_step Across a b x f = absurd (true≢false x)

-- how the second goes on by a step
pub record GoesOn (e : Move) (x b : Walk) : Type 0 where
  pub above : Walk
  pub is : x ≡ step_of e ∷ above
  pub finer : Finer (is_across e) above b

pub went_on : (loose : Bool) (e : Move) (x b : Walk) → Finer loose x (step_of e ∷ b) → (loose ≡ true → is_across e ≡ false → Finer true x b → ⊥) → GoesOn e x b
went_on loose e x b f short = go f refl short
  where
    go : {loose : Bool} {x y : Walk} → Finer loose x y → y ≡ step_of e ∷ b → (loose ≡ true → is_across e ≡ false → Finer true x b → ⊥) → GoesOn e x b
    go top z short = absurd cc
    go (by_down {l = l} {a = a} {b = c} f) z short = down_on e z
      where
        down_on : (e : Move) → down l ∷ c ≡ step_of e ∷ b → GoesOn e (down l ∷ a) b
        down_on (Down m) y = let p : c ≡ b = cc in let q : l ≡ m = cc in record { above = a; is = ap (λ (k : ℕ). down k ∷ a) q; finer = subst (Finer false a) p f }
        down_on Across y = absurd cc
    go (by_across {a = a} {b = c} f) z short = across_on e z
      where
        across_on : (e : Move) → across ∷ c ≡ step_of e ∷ b → GoesOn e (across ∷ a) b
        across_on (Down m) y = absurd cc
        across_on Across y = let p : c ≡ b = cc in record { above = a; is = refl; finer = subst (Finer true a) p f }
    go {x = x} (longer {l = l} {b = c} f) z short = absurd (longer_on e z short)
      where
        longer_on : (e : Move) → down l ∷ c ≡ step_of e ∷ b → (true ≡ true → is_across e ≡ false → Finer true x b → ⊥) → ⊥
        longer_on (Down m) y short = let p : c ≡ b = cc in short refl refl (subst (Finer true x) p f)
        longer_on Across y short = absurd cc

may_be : (loose far : Bool) → loose ≡ true → far ≡ false → (loose && not far) ≡ true
may_be loose far x y = ap₂ (λ (p q : Bool). p && not q) x y

was_may : (loose far : Bool) → (loose && not far) ≡ true → (loose ≡ true) × (far ≡ false)
was_may true false e = (refl, refl)
was_may true true e = absurd cc
was_may false far e = absurd cc

-- a finer address has as many steps at least
pub finer_length : {loose : Bool} {a b : Walk} → Finer loose a b → length a ≤ length b
finer_length top = omega arith
finer_length (by_down f) = let r = finer_length f in omega (arith, r)
finer_length (by_across f) = let r = finer_length f in omega (arith, r)
finer_length (longer f) = let r = finer_length f in omega (arith, r)

-- and with as many it is the same
finer_same : {loose : Bool} {a b : Walk} → Finer loose a b → length a ≡ length b → a ≡ b
finer_same top e = refl
finer_same (by_down {l = l} f) e = ap (λ (w : Walk). down l ∷ w) (finer_same f (omega (arith, e)))
finer_same (by_across f) e = ap (λ (w : Walk). across ∷ w) (finer_same f (omega (arith, e)))
finer_same (longer f) e = let r = finer_length f in absurd (omega (arith, r, e))

same_moves : (a b : List Move) → walk_of a ≡ walk_of b → a ≡ b
same_moves [] [] e = refl
same_moves [] (y ∷ b) e = absurd cc
same_moves (x ∷ a) [] e = absurd cc
same_moves (x ∷ a) (y ∷ b) e =
    let p : step_of x ≡ step_of y = cc in
    let q : walk_of a ≡ walk_of b = cc in
    ap₂ (λ (m : Move) (ms : List Move). m ∷ ms) (same_move x y p) (same_moves a b q)

-- more steps are not coarser
pub too_long : (loose : Bool) (a b : List Move) → length b < length a → (false ≡ true) ↔ Finer loose (walk_of a) (walk_of b)
too_long loose a b l = (λ x. absurd cc, λ f. let r = finer_length f in let x = length-map a step_of in let y = length-map b step_of in absurd (omega (arith, l, r, x, y)))

-- as many steps are coarser only where they are the same
pub as_long : (loose : Bool) (a b : List Move) (r : Bool) → length a ≡ length b → (r ≡ true) ↔ (a ≡ b) → (r ≡ true) ↔ Finer loose (walk_of a) (walk_of b)
as_long loose a b r l S =
    (λ y. subst (λ (m : List Move). Finer loose (walk_of a) (walk_of m)) (S.0 y) (finer-refl loose (walk_of a)), λ f. S.1 (same_moves a b (finer_same f (length-map a step_of ∙ (l ∙ sym (length-map b step_of))))))

-- no step is left
pub at_top : (loose r : Bool) (a b : List Move) → length b < 1 → r ≡ eqb (length a) 0 → (r ≡ true) ↔ Finer loose (walk_of a) (walk_of b)
at_top loose r a (x ∷ b) l e = absurd (omega (arith, l))
at_top loose r a [] l e = (λ y. forth a (sym e ∙ y), λ f. e ∙ back a (finer_root f refl))
  where
    forth : (a : List Move) → eqb (length a) 0 ≡ true → Finer loose (walk_of a) []
    forth [] y = top
    forth (x ∷ a) y = absurd (let z = eqb-true (length (x ∷ a)) 0 y in omega (arith, z))

    back : (a : List Move) → walk_of a ≡ [] → eqb (length a) 0 ≡ true
    back [] y = refl
    back (x ∷ a) y = absurd cc

module _ (loose may : Bool) (a b owner : List Move) (e : Move) (begins : b ≡ e ∷ owner) (may_is : may ≡ (loose && not (is_across e))) where
  parts : walk_of b ≡ step_of e ∷ walk_of owner
  parts = ap walk_of begins

  -- the second went further down
  pub by_longer : (r : Bool) → may ≡ true → (r ≡ true) ↔ Finer true (walk_of a) (walk_of owner) → r ≡ true → (true ≡ true) ↔ Finer loose (walk_of a) (walk_of b)
  by_longer r m R y =
      let w = was_may loose (is_across e) (sym may_is ∙ m) in
      (λ _. subst (λ (z : Walk). Finer loose (walk_of a) z) (sym parts) (subst (λ (z : Bool). Finer z (walk_of a) (step_of e ∷ walk_of owner)) (sym w.0) (longer_step e (walk_of a) (walk_of owner) w.1 (R.0 y))), λ _. refl)

  module _ (short : may ≡ true → Finer true (walk_of a) (walk_of owner) → ⊥) where
    goes : Finer loose (walk_of a) (walk_of b) → GoesOn e (walk_of a) (walk_of owner)
    goes f = went_on loose e (walk_of a) (walk_of owner) (subst (Finer loose (walk_of a)) parts f) (λ x y g. short (may_is ∙ may_be loose (is_across e) x y) g)

    -- the first does not begin with the step
    pub not_begun : (t : Bool) → (t ≡ true) ↔ (slice_get a 0 ≡ Some e) → t ≡ false → (false ≡ true) ↔ Finer loose (walk_of a) (walk_of b)
    not_begun t B f = (λ x. absurd cc, λ g. let e = B.1 (starts a (goes g)) in absurd cc)
      where
        starts : (a : List Move) → GoesOn e (walk_of a) (walk_of owner) → slice_get a 0 ≡ Some e
        starts [] g = let x = g.is in absurd cc
        starts (y ∷ a) g = let x : step_of y ≡ step_of e = (let z = g.is in cc) in ap Some (same_move y e x)

    -- it does
    pub begun_on : (t x r : Bool) (above : List Move) → (t ≡ true) ↔ (slice_get a 0 ≡ Some e) → t ≡ true → (slice_get a 0 ≡ Some e → a ≡ e ∷ above) → x ≡ is_across e → (r ≡ true) ↔ Finer x (walk_of above) (walk_of owner) → (r ≡ true) ↔ Finer loose (walk_of a) (walk_of b)
    begun_on t x r above B y first xs R = (forth, back)
      where
        own : walk_of a ≡ step_of e ∷ walk_of above
        own = ap walk_of (first (B.0 y))

        forth : r ≡ true → Finer loose (walk_of a) (walk_of b)
        forth y =
            let f = same_step loose e (walk_of above) (walk_of owner) (subst (λ (z : Bool). Finer z (walk_of above) (walk_of owner)) xs (R.0 y)) in
            subst (λ (z : Walk). Finer loose z (walk_of b)) (sym own) (subst (λ (z : Walk). Finer loose (step_of e ∷ walk_of above) z) (sym parts) f)

        back : Finer loose (walk_of a) (walk_of b) → r ≡ true
        back f =
            let g = goes f in
            let z : step_of e ∷ walk_of above ≡ step_of e ∷ g.above = sym own ∙ g.is in
            let s : g.above ≡ walk_of above = cc in
            R.1 (subst (λ (z : Bool). Finer z (walk_of above) (walk_of owner)) (sym xs) (subst (λ (z : Walk). Finer (is_across e) z (walk_of owner)) s g.finer))

-- an address with one more step
pub after_step : (e last : Move) (a b owner : List Move) (same x r : Bool) → b ≡ last ∷ owner → (same ≡ true) ↔ (e ≡ last) → same ≡ true → x ≡ is_across e → (r ≡ true) ↔ Finer x (walk_of a) (walk_of owner) → (r ≡ true) ↔ Finer false (step_of e ∷ walk_of a) (walk_of b)
after_step e last a b owner same x r begins S s xs R = (forth, back)
  where
    parts : walk_of b ≡ step_of e ∷ walk_of owner
    parts = ap walk_of begins ∙ ap (λ (m : Move). step_of m ∷ walk_of owner) (sym (S.0 s))

    forth : r ≡ true → Finer false (step_of e ∷ walk_of a) (walk_of b)
    forth y = subst (Finer false (step_of e ∷ walk_of a)) (sym parts) (same_step false e (walk_of a) (walk_of owner) (subst (λ (z : Bool). Finer z (walk_of a) (walk_of owner)) xs (R.0 y)))

    back : Finer false (step_of e ∷ walk_of a) (walk_of b) → r ≡ true
    back f =
        let g = went_on false e (step_of e ∷ walk_of a) (walk_of owner) (subst (Finer false (step_of e ∷ walk_of a)) parts f) (λ z. absurd (true≢false (sym z))) in
        let z : step_of e ∷ walk_of a ≡ step_of e ∷ g.above = g.is in
        let w : g.above ≡ walk_of a = cc in
        R.1 (subst (λ (z : Bool). Finer z (walk_of a) (walk_of owner)) (sym xs) (subst (λ (z : Walk). Finer (is_across e) z (walk_of owner)) w g.finer))

pub other_step : (e last : Move) (a b owner : List Move) (same : Bool) → b ≡ last ∷ owner → (same ≡ true) ↔ (e ≡ last) → same ≡ false → (same ≡ true) ↔ Finer false (step_of e ∷ walk_of a) (walk_of b)
other_step e last a b owner same begins S n = (λ z. absurd cc, back)
  where
    back : Finer false (step_of e ∷ walk_of a) (walk_of b) → same ≡ true
    back f =
        let g = went_on false last (step_of e ∷ walk_of a) (walk_of owner) (subst (Finer false (step_of e ∷ walk_of a)) (ap walk_of begins) f) (λ z. absurd (true≢false (sym z))) in
        let z : step_of e ≡ step_of last = (let w = g.is in cc) in
        let y = S.1 (same_move e last z) in
        absurd cc

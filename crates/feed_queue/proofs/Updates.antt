-- Functions with one value changed.
use Rattle.std.proofs.Common.{◌≡◌, ◌≢◌, ℕ, ⊎_elim, eqb, eq-eqb, ne_eqb, true, false, cond, sym, ap, subst}
use Rattle.std.proofs.lemmas.Bool.Decides.{eqb_tells}

-- a function with one value changed
abbrev pub updated : {A : Type 0} → ℕ → A → (ℕ → A) → ℕ → A
updated f w g h = cond (eqb h f) w (g h)

pub updated_here : {A : Type 0} (f : ℕ) (w : A) (g : ℕ → A) (h : ℕ) → h ≡ f → updated f w g h ≡ w
updated_here f w g h e = ap (λ b. cond b w (g h)) (eq-eqb h f e)

pub updated_else : {A : Type 0} (f : ℕ) (w : A) (g : ℕ → A) (h : ℕ) → h ≢ f → updated f w g h ≡ g h
updated_else f w g h ne = ap (λ b. cond b w (g h)) (ne_eqb h f ne)

pub updated_cases : {A : Type 0} (P : ℕ → A → Type 0) (f : ℕ) (w : A) (g : ℕ → A) → P f w → ((h : ℕ) → h ≢ f → P h (g h)) → (h : ℕ) → P h (updated f w g h)
updated_cases P f w g here else h = ⊎_elim
    (λ (t : (eqb h f ≡ true) × (h ≡ f)). subst (P h) (sym (updated_here f w g h t.1)) (subst (λ (k : ℕ). P k w) (sym t.1) here))
    (λ (t : (eqb h f ≡ false) × (h ≢ f)). subst (P h) (sym (updated_else f w g h t.1)) (else h t.1))
    (eqb_tells h f)

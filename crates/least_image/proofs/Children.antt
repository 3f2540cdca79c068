-- Children are determined by the links of their labels.
use Rattle.std.proofs.Common.{◌≡◌, ◌≢◌, ℕ, suc, ◌+◌, ◌<◌, ◌≤◌, Bool, true, false, cond, eqb, eq-eqb, ne_eqb, ◌⊎◌, inl, inr, List, [], ◌∷◌, map, length, Option, Some, None, refl, sym, ap, ap₂, ◌∙◌, arith}
use Rattle.std.proofs.lemmas.Bool.{cases_eq, cases_lt}
use Rattle.node_arena.specs.declared.link.Link.{Link}
use Rattle.node_arena.specs.Slots.{Children, child}
use Rattle.cube_image.proofs.Rests.{Rises, child-low}
use Rattle.least_image.proofs.Moves.{led_link, led_option, led_child}

-- the link at the label of the first child
child-first : (x : ℕ × Link) (xs : Children) (l : ℕ) → x.0 ≡ l → child (x ∷ xs) l ≡ Some x.1
child-first x xs l e = ap (λ (b : Bool). cond b (Some x.1) (child xs l)) (eq-eqb x.0 l e)

child-later : (x : ℕ × Link) (xs : Children) (l : ℕ) → x.0 ≢ l → child (x ∷ xs) l ≡ child xs l
child-later x xs l d = ap (λ (b : Bool). cond b (Some x.1) (child xs l)) (ne_eqb x.0 l d)

-- below the least label there is no child
child-none : (b : ℕ) (xs : Children) (l : ℕ) → Rises b xs → l < b → child xs l ≡ None
child-none b xs l R less = go (child xs l) refl
  where
    go : (o : Option Link) → child xs l ≡ o → child xs l ≡ None
    go None e = e
    go (Some k) e = let low = child-low b xs l k R e in absurd (omega arith)

none≢some : (k : Link) → None ≢ Some k
none≢some k e = absurd cc

module _ (led : ℕ → ℕ) where
  -- the first labels of two lists that have the same labels are one
  first_same : (b c : ℕ) (x y : ℕ × Link) (xs ys : Children) → Rises b (x ∷ xs) → Rises c (y ∷ ys) → ((l : ℕ) → child (x ∷ xs) l ≡ led_option led (child (y ∷ ys) l)) → x.0 ≡ y.0
  first_same b c x y xs ys R S same = go (cases_lt x.0 y.0) (cases_lt y.0 x.0)
    where
      go : (x.0 < y.0) ⊎ (y.0 ≤ x.0) → (y.0 < x.0) ⊎ (x.0 ≤ y.0) → x.0 ≡ y.0
      go (inl less) o =
          let none : child (y ∷ ys) x.0 ≡ None = child-later y ys x.0 (λ e. omega arith) ∙ child-none (y.0 + 1) ys x.0 S.1 (omega arith) in
          absurd (none≢some x.1 (sym (ap (led_option led) none) ∙ (sym (same x.0) ∙ child-first x xs x.0 refl)))
      go (inr o) (inl less) =
          let none : child (x ∷ xs) y.0 ≡ None = child-later x xs y.0 (λ e. omega arith) ∙ child-none (x.0 + 1) xs y.0 R.1 (omega arith) in
          absurd (none≢some (led_link led y.1) (sym none ∙ (same y.0 ∙ ap (led_option led) (child-first y ys y.0 refl))))
      go (inr o) (inr p) = omega arith

  -- children whose links are those of others, led
  pub children_same : (b c : ℕ) (xs ys : Children) → Rises b xs → Rises c ys → ((l : ℕ) → child xs l ≡ led_option led (child ys l)) → xs ≡ map (led_child led) ys
  children_same b c [] [] R S same = refl
  children_same b c [] (y ∷ ys) R S same = absurd (none≢some (led_link led y.1) (same y.0 ∙ ap (led_option led) (child-first y ys y.0 refl)))
  children_same b c (x ∷ xs) [] R S same = absurd (none≢some x.1 (sym (same x.0) ∙ child-first x xs x.0 refl))
  children_same b c (x ∷ xs) (y ∷ ys) R S same =
      let label = first_same b c x y xs ys R S same in
      let links : Some x.1 ≡ Some (led_link led y.1) = sym (child-first x xs x.0 refl) ∙ (same x.0 ∙ ap (led_option led) (child-first y ys x.0 (sym label))) in
      let link : x.1 ≡ led_link led y.1 = cc in
      ap₂ (λ (k : ℕ × Link) (ks : Children). k ∷ ks) (ap₂ (λ (l : ℕ) (k : Link). (l, k)) label link) (children_same (x.0 + 1) (y.0 + 1) xs ys R.1 S.1 (rest label))
    where
      rest : x.0 ≡ y.0 → (l : ℕ) → child xs l ≡ led_option led (child ys l)
      rest label l = go (cases_eq x.0 l)
        where
          go : (x.0 ≡ l) ⊎ (x.0 ≡ l → ⊥) → child xs l ≡ led_option led (child ys l)
          go (inl e) = child-none (x.0 + 1) xs l R.1 (omega arith) ∙ sym (ap (led_option led) (child-none (y.0 + 1) ys l S.1 (omega arith)))
          go (inr d) = sym (child-later x xs l d) ∙ (same l ∙ ap (led_option led) (child-later y ys l (λ e. d (label ∙ e))))

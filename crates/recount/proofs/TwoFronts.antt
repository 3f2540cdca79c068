-- Two ways to read the front of one text, line by line, are one or one goes on further.
use Rattle.std.proofs.Common.{◌≡◌, ℕ, List, [], ◌∷◌, ◌++◌, All, ◌⊎◌, inl, inr, refl, sym, ◌∙◌, append_assoc}
use Rattle.std.specs.Prelude.{⊤}
use Rattle.std.specs.List.{flat_map}
use Rattle.std.proofs.lemmas.List.Elements.{All-head, All-tail}

-- each of the items is such
abbrev pub Each : {A : Type 0} → (A → Type 0) → List A → Type 0
Each P [] = ⊤
Each P (x ∷ xs) = P x × Each P xs

pub Each-All : {A : Type 0} (P : A → Type 0) (xs : List A) → All P xs → Each P xs
Each-All P [] all = tt
Each-All P (x ∷ xs) all = (All-head P x xs all, Each-All P xs (All-tail P x xs all))

-- the first items go on into the second, and the text after them with their lines
pub record GoesOn {A : Type 0} (line : A → List ℕ) (ls : List A) (x : List ℕ) (ms : List A) : Type 0 where
  pub item : A
  pub more : List A
  pub later : List ℕ
  pub list : ms ≡ ls ++ item ∷ more
  pub text : x ≡ line item ++ later

-- where no text begins with the lines of two items
module _ {A : Type 0} (line : A → List ℕ) (Is : A → Type 0) (one : (a b : A) (x y : List ℕ) → Is a → Is b → line a ++ x ≡ line b ++ y → (a ≡ b) × (x ≡ y)) where
  abbrev pub Meet : List A → List ℕ → List A → List ℕ → Type 0
  Meet ls x ms y = ((ls ≡ ms) × (x ≡ y)) ⊎ (GoesOn line ls x ms ⊎ GoesOn line ms y ls)

  under : (a b : A) (ls ms : List A) (x y : List ℕ) → a ≡ b → Meet ls x ms y → Meet (a ∷ ls) x (b ∷ ms) y
  under a b ls ms x y same (inl (e, f)) = inl ((λ i. same i ∷ e i), f)
  under a b ls ms x y same (inr (inl g)) = inr (inl (record { item = g.item; more = g.more; later = g.later; list = (λ i. sym same i ∷ g.list i); text = g.text }))
  under a b ls ms x y same (inr (inr g)) = inr (inr (record { item = g.item; more = g.more; later = g.later; list = (λ i. same i ∷ g.list i); text = g.text }))

  pub meet : (ls ms : List A) (x y : List ℕ) → Each Is ls → Each Is ms → flat_map line ls ++ x ≡ flat_map line ms ++ y → Meet ls x ms y
  meet [] [] x y ia ib e = inl (refl, e)
  meet [] (b ∷ ms) x y ia ib e = inr (inl (record { item = b; more = ms; later = flat_map line ms ++ y; list = refl; text = e ∙ append_assoc (line b) (flat_map line ms) y }))
  meet (a ∷ ls) [] x y ia ib e = inr (inr (record { item = a; more = ls; later = flat_map line ls ++ x; list = refl; text = sym e ∙ append_assoc (line a) (flat_map line ls) x }))
  meet (a ∷ ls) (b ∷ ms) x y ia ib e =
      let both = one a b (flat_map line ls ++ x) (flat_map line ms ++ y) ia.0 ib.0 (sym (append_assoc (line a) (flat_map line ls) x) ∙ e ∙ append_assoc (line b) (flat_map line ms) y) in
      under a b ls ms x y both.0 (meet ls ms x y ia.1 ib.1 both.1)

-- Lists whose items belong together, place by place.
use Rattle.std.proofs.Common.{List, [], ◌∷◌, All, map}
use Rattle.std.specs.List.{AllZip}
use Rattle.std.proofs.lemmas.List.Elements.{All-head, All-tail}

module _ {A B : Type 0} (R : A → B → Type 0) where
  -- what holds of each pair, where something holds of each second
  pub AllZip-with : (P : B → Type 0) (T : A → B → Type 0) (xs : List A) (ys : List B) → ((x : A) (y : B) → R x y → P y → T x y) → AllZip R xs ys → All P ys → AllZip T xs ys
  AllZip-with P T [] [] f p q = tt
  AllZip-with P T [] (y ∷ ys) f p q = absurd p
  AllZip-with P T (x ∷ xs) [] f p q = absurd p
  AllZip-with P T (x ∷ xs) (y ∷ ys) f p q = (f x y p.0 (All-head P y ys q), AllZip-with P T xs ys f p.1 (All-tail P y ys q))

  -- items that belong to the values of others belong to the list of these values
  pub AllZip-mapped : {C : Type 0} (g : C → B) (xs : List A) (ys : List C) → AllZip (λ x y. R x (g y)) xs ys → AllZip R xs (map g ys)
  AllZip-mapped g [] [] z = tt
  AllZip-mapped g [] (y ∷ ys) z = absurd z
  AllZip-mapped g (x ∷ xs) [] z = absurd z
  AllZip-mapped g (x ∷ xs) (y ∷ ys) z = (z.0, AllZip-mapped g xs ys z.1)

  -- what two values of each pair are to each other
  pub AllZip-ap : {C D : Type 0} (S : C → D → Type 0) (f : A → D) (g : B → C) (xs : List A) (ys : List B) → ((x : A) (y : B) → R x y → S (g y) (f x)) → AllZip R xs ys → AllZip S (map g ys) (map f xs)
  AllZip-ap S f g [] [] k z = tt
  AllZip-ap S f g [] (y ∷ ys) k z = absurd z
  AllZip-ap S f g (x ∷ xs) [] k z = absurd z
  AllZip-ap S f g (x ∷ xs) (y ∷ ys) k z = (k x y z.0, AllZip-ap S f g xs ys k z.1)

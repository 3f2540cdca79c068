-- Two lists, side by side.
use Rattle.std.proofs.Common.{◌≡◌, ℕ, ◌+◌, ◌<◌, ◌≤◌, min, List, [], ◌∷◌, ◌++◌, length, take, get_or, sym, ◌∙◌, ap, arith}
use Rattle.std.proofs.lemmas.List.{flat_map_more, get_or_default, take_all, take_more}
use Rattle.std.proofs.lemmas.Slice.Zip.{get_or-zip, length-zip}
use Rattle.std.specs.List.{flat_map, zip}

module _ {A B : Type 0} (f : A × B → List ℕ) (ks : List A) (vs : List B) where
  -- the texts of the first pairs, and then of one more
  pub more_pairs : (start text : List ℕ) (i : ℕ) (a : A) (b : B) → i < length ks → i < length vs → a ≡ get_or ks i a → b ≡ get_or vs i b → text ≡ start ++ flat_map f (take i (zip ks vs)) → text ++ f (a, b) ≡ start ++ flat_map f (take (i + 1) (zip ks vs))
  more_pairs start text i a b in_ks in_vs is_a is_b so_far =
      let pair : get_or (zip ks vs) i (a, b) ≡ (a, b) = get_or-zip ks vs i (a, b) in_ks in_vs ∙ ap (λ x. (x, get_or vs i b)) (sym is_a) ∙ ap (λ y. (a, y)) (sym is_b) in
      let within : i < length (zip ks vs) = omega (arith, length-zip ks vs, in_ks, in_vs) in
      ap (λ t. t ++ f (a, b)) so_far ∙ flat_map_more f start (take i (zip ks vs)) (a, b)
      ∙ ap (λ ps. start ++ flat_map f ps) (sym (take_more (zip ks vs) i (a, b) within ∙ ap (λ p. take i (zip ks vs) ++ p ∷ []) pair))

  -- the same of a second item that is read with a default of its own
  pub more_pairs_at : (start text : List ℕ) (i : ℕ) (a : A) (d : B) → i < length ks → i < length vs → a ≡ get_or ks i a → text ≡ start ++ flat_map f (take i (zip ks vs)) → text ++ f (a, get_or vs i d) ≡ start ++ flat_map f (take (i + 1) (zip ks vs))
  more_pairs_at start text i a d in_ks in_vs is_a so_far = more_pairs start text i a (get_or vs i d) in_ks in_vs is_a (get_or_default vs i d (get_or vs i d) in_vs) so_far

  -- the texts of as many pairs as there are
  pub all_pairs : (start text : List ℕ) (i : ℕ) → min (length ks) (length vs) ≤ i → text ≡ start ++ flat_map f (take i (zip ks vs)) → text ≡ start ++ flat_map f (zip ks vs)
  all_pairs start text i is so_far = so_far ∙ ap (λ ps. start ++ flat_map f ps) (take_all i (zip ks vs) (omega (arith, length-zip ks vs, is)))

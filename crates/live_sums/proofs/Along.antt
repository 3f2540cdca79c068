-- A list that is gone through place by place, and changed there.
use Rattle.std.proofs.Common.{◌≡◌, ℕ, zero, suc, ◌+◌, ◌<◌, List, [], ◌∷◌, length, get_or, take, drop, set, refl, sym, ap, ◌∙◌, subst, arith}
use Rattle.std.specs.List.{AllZip}
use Rattle.std.proofs.lemmas.List.{drop-drop, drop-set-lt, take_more_set}
use Rattle.std.proofs.lemmas.List.Elements.{all_zip_more}

module _ {X : Type 0} where
  -- the item of a place after which nothing was changed
  pub item_at : (i : ℕ) (ys xs : List X) (d : X) → drop i ys ≡ drop i xs → get_or ys i d ≡ get_or xs i d
  item_at zero [] [] d same = refl
  item_at zero [] (x ∷ xs) d same = cc
  item_at zero (y ∷ ys) [] d same = cc
  item_at zero (y ∷ ys) (x ∷ xs) d same = cc
  item_at (suc i) [] [] d same = refl
  item_at (suc i) [] (x ∷ xs) d same = end i xs d same
    where
      end : (i : ℕ) (xs : List X) (d : X) → [] ≡ drop i xs → d ≡ get_or xs i d
      end zero [] d same = refl
      end zero (x ∷ xs) d same = cc
      end (suc i) [] d same = refl
      end (suc i) (x ∷ xs) d same = end i xs d same
  item_at (suc i) (y ∷ ys) [] d same = end i ys d same
    where
      end : (i : ℕ) (ys : List X) (d : X) → drop i ys ≡ [] → get_or ys i d ≡ d
      end zero [] d same = refl
      end zero (y ∷ ys) d same = cc
      end (suc i) [] d same = refl
      end (suc i) (y ∷ ys) d same = end i ys d same
  item_at (suc i) (y ∷ ys) (x ∷ xs) d same = item_at i ys xs d same

  -- what is after the next place is as before
  pub rest_more : (i : ℕ) (xs ys : List X) (y : X) → drop i ys ≡ drop i xs → drop (i + 1) (set ys i y) ≡ drop (i + 1) xs
  rest_more i xs ys y same = drop-set-lt (i + 1) ys i y (omega arith) ∙ sym (drop-drop 1 i ys) ∙ ap (drop 1) same ∙ drop-drop 1 i xs

  -- what holds of the items up to a place, and of the one there
  pub zip_more : (R : X → X → Type 0) (i : ℕ) (xs ys : List X) (x y : X) → i < length xs → length ys ≡ length xs → drop i ys ≡ drop i xs → x ≡ get_or ys i x
      → AllZip R (take i xs) (take i ys) → R (get_or ys i x) y → AllZip R (take (i + 1) xs) (take (i + 1) (set ys i y))
  zip_more R i xs ys x y lt size same is all one =
      let below : i < length ys = omega (arith, lt, size) in
      subst (AllZip R (take (i + 1) xs)) (sym (take_more_set ys i y below)) (all_zip_more R xs (take i ys) i x y lt (is ∙ item_at i ys xs x same) all (subst (λ z. R z y) (sym is) one))

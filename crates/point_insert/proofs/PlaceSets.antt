-- A place joins a set of places.
use Rattle.std.proofs.Common.{◌≡◌, ℕ, ◌⊎◌, inl, inr, Bool, true, false, not, eqb, List, ◌∷◌, Contains, sym, subst, ◌∙◌, eqb-true, refl, arith}
use Rattle.std.specs.Prelude.{IsTrue, ◌↔◌}
use Rattle.std.specs.Bool.{MatchBool}
use Rattle.std.specs.Cmp.{nat_eq_equiv}
use Rattle.std.specs.List.{list_any}
use Rattle.std.specs.List.Sorted.{IsPermutation}
use Rattle.std.proofs.lemmas.List.Sorted.{Contains-permutation, IsPermutation-sym}
use Rattle.std.proofs.lemmas.Map.Views.{Contains-from_any, list_any-from_Contains}
use Rattle.cube_view.proofs.FinerWalks.{Contains-cases, Contains-cons}
use Rattle.proper_path.specs.Midway.{IsJoined}

-- a test for a place says whether it is in the list
pub found_in : (places : List ℕ) (i : ℕ) (found : Bool) → found ≡ list_any (eqb i) places → IsTrue found ↔ Contains places i
found_in places i found is = (
  λ yes. Contains-from_any {eq = eqb} (λ x y e. eqb-true x y e) i places (sym is ∙ yes),
  λ there. is ∙ list_any-from_Contains {eq = eqb} nat_eq_equiv i places there,
)

flipped : (b : Bool) → false ≡ not b → b ≡ true
flipped true e = refl
flipped false e = cc

-- what an insertion leaves is the set with the place
pub joined_by : (before after : List ℕ) (i : ℕ) (added : Bool) → added ≡ not (list_any (eqb i) before) → MatchBool added (IsPermutation (i ∷ before) after) (after ≡ before) → IsJoined before i after
joined_by before after i true is keys = record {
  kept = λ j c. Contains-permutation (i ∷ before) after j keys (Contains-cons before i j c);
  here = Contains-permutation (i ∷ before) after i keys (0, omega arith, refl);
  only = λ j c. other j (Contains-cases before i j (Contains-permutation after (i ∷ before) j (IsPermutation-sym (i ∷ before) after keys) c));
}
  where
    other : (j : ℕ) → (i ≡ j) ⊎ Contains before j → Contains before j ⊎ (i ≡ j)
    other j (inl e) = inr e
    other j (inr c) = inl c
joined_by before after i false is keys = record {
  kept = λ j c. subst (λ z. Contains z j) (sym keys) c;
  here = subst (λ z. Contains z i) (sym keys) ((found_in before i true (sym (flipped (list_any (eqb i) before) is))).0 refl);
  only = λ j c. inl (subst (λ z. Contains z j) keys c);
}

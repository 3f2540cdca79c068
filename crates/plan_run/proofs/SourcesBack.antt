-- Sources of a list of parts that are given back one after another.
use Rattle.std.proofs.Common.{◌≡◌, ℕ, List, [], ◌∷◌, ◌++◌, map, sym, ◌∙◌, ap, subst}
use Rattle.std.proofs.lemmas.List.{map-append}
use Rattle.outer_io.specs.Faults.{Rose}
use Rattle.run_files.proofs.SourceReturns.{takes_more, takes_none}
use Rattle.run_files.specs.GivingBack.{TakesSources}
use Rattle.run_files.specs.Outside.{PlaceSeen}

module _ {P A : Type 0} (p : PlaceSeen P) (count : A → ℕ) where
  -- no part was given back
  pub returned_none : (a : P) (items : List A) → items ≡ [] → TakesSources p a a (map count items)
  returned_none a items none = subst (λ (all : List A). TakesSources p a a (map count all)) (sym none) (takes_none p a)

  -- the source of the last part was given back after those before it
  pub returned_last : (a b c : P) (items before : List A) (last : A) (n : ℕ) → items ≡ before ++ last ∷ [] → n ≡ count last → TakesSources p a b (map count before) → (Rose 0 n → Rose (p.read_faults b) (p.read_faults c)) → (n ≡ 0 → p.read_faults c ≡ p.read_faults b)
      → p.files c ≡ p.files b → p.opened c ≡ p.opened b → (p.write_faults c ≡ p.write_faults b) × (p.created c ≡ p.created b) → TakesSources p a c (map count items)
  returned_last a b c items before last n is same so_far rose quiet files opened writing =
      subst (TakesSources p a c) (ap (λ k. map count before ++ k ∷ []) same ∙ sym (ap (map count) is ∙ map-append count before (last ∷ [])))
      (takes_more p a b c (map count before) n so_far rose quiet files opened writing)

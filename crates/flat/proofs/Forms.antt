-- Words that are of the program's form.
use Rattle.std.proofs.Common.{◌≡◌, ◌≢◌, ℕ, List, [], ◌∷◌, length, get_or, Option, Some, None, Ok, Err, refl, sym, ◌∙◌, ap, arith}
use Rattle.std.specs.Prelude.{option_map}
use Rattle.flat_run.specs.Ends.{FlatEnd}
use Rattle.flat_run.specs.Names.{flat_names, ScriptNames}
use Rattle.flat_run.specs.declared.files.FlatNames.{FlatNames}
use Rattle.flat.specs.Statuses.{flat_status, word_names}
use Rattle.flat.specs.declared.status.Status.TheVariants.{Usage}

-- two items are the list
pub both_items : {A : Type 0} (xs : List A) (x y : A) → length xs ≡ 2 → x ≡ get_or xs 0 x → y ≡ get_or xs 1 y → xs ≡ x ∷ y ∷ []
both_items [] x y two first second = absurd (omega (arith, two))
both_items (a ∷ []) x y two first second = absurd (omega (arith, two))
both_items (a ∷ b ∷ []) x y two first second = λ i. sym first i ∷ sym second i ∷ []
both_items (a ∷ b ∷ c ∷ xs) x y two first second = absurd (omega (arith, two))

-- words of another number have no names
pub other_words : (words : List (List ℕ)) → length words ≢ 2 → None ≡ word_names words
other_words [] other = refl
other_words (plan ∷ []) other = refl
other_words (plan ∷ script ∷ []) other = absurd (other refl)
other_words (plan ∷ script ∷ more ∷ words) other = refl

the_same : (x y : ScriptNames) → Some x ≡ Some y → x ≡ y
the_same x y e = cc

never : (x : ScriptNames) → None ≡ Some x → ⊥
never x e = cc

module _ (words : List (List ℕ)) (own : Option FlatNames) (is : option_map flat_names own ≡ word_names words) where
  -- the names that were given are those of the form
  pub names_are : (names : FlatNames) (other : ScriptNames) → own ≡ Some names → word_names words ≡ Some other → flat_names names ≡ other
  names_are names other some form = the_same (flat_names names) other (sym (ap (option_map flat_names) some) ∙ is ∙ form)

  -- where none were given there is no form, and else there is one
  pub none_named : (other : ScriptNames) → own ≡ None → word_names words ≡ Some other → ⊥
  none_named other none form = never other (sym (ap (option_map flat_names) none) ∙ is ∙ form)

  pub has_form : (names : FlatNames) → own ≡ Some names → word_names words ≡ None → ⊥
  has_form names some none = never (flat_names names) (sym none ∙ sym is ∙ ap (option_map flat_names) some)

  pub no_form : own ≡ None → word_names words ≡ None
  no_form none = sym is ∙ ap (option_map flat_names) none

-- no end has the status of words that are no form
pub not_usage : (end : FlatEnd) → flat_status end ≡ Usage → ⊥
not_usage (Ok done) e = cc
not_usage (Err stop) e = cc

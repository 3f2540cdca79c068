-- Words that are of the program's form.
use Rattle.std.proofs.Common.{◌≡◌, ℕ, ◌<◌, ◌≤◌, Bool, List, [], ◌∷◌, length, drop, get_or, Option, Some, None, refl, sym, ◌∙◌, ap, subst, arith, if◌then◌else◌}
use Rattle.std.specs.Prelude.{Result, Ok, Err, option_map}
use Rattle.std.proofs.lemmas.Bool.{le-leb, lt-leb}
use Rattle.run_files.specs.declared.stop.Stop.{Stop}
use Rattle.share_replies.specs.Ends.{FileNames, given_names}
use Rattle.share_replies.specs.declared.adding.Outcome.{Outcome}
use Rattle.share_replies.specs.declared.adding.Outcome.TheVariants as outcome
use Rattle.share_replies.specs.declared.adding.ShareNames.{ShareNames}
use Rattle.add_replies.specs.Statuses.{IfForm, most_shares, share_names, status_of}
use Rattle.share_replies.specs.declared.status.Status.TheVariants.{Usage}

-- two items and those after them are the list
pub first_two : {A : Type 0} (xs : List A) (x y : A) → x ≡ get_or xs 0 x → y ≡ get_or xs 1 y → 1 < length xs → xs ≡ x ∷ y ∷ drop 2 xs
first_two [] x y first second lt = absurd (omega (arith, lt))
first_two (a ∷ []) x y first second lt = absurd (omega (arith, lt))
first_two (a ∷ b ∷ xs) x y first second lt = λ i. sym first i ∷ sym second i ∷ xs

-- the names of as many shares
abbrev names_if : List ℕ → List ℕ → List ℕ → List (List ℕ) → Bool → Option FileNames
names_if plan script first others few = if few then Some (record { plan = plan; script = script; replies = first ∷ others }) else None

-- words of the form have names
pub form_is : (words : List (List ℕ)) (plan script : List ℕ) (replies : List (List ℕ)) → words ≡ plan ∷ script ∷ replies → 2 < length words → length words ≤ 1026 → Some (record { plan = plan; script = script; replies = replies }) ≡ share_names words
form_is words plan script [] is some few = let size = ap length is in absurd (omega (arith, some, size))
form_is words plan script (first ∷ others) is some few =
    let size = ap length is in
    sym (ap share_names is ∙ ap (names_if plan script first others) (le-leb (length (first ∷ others)) most_shares (omega (arith, few, size))))

-- others have none
pub few_words : (words : List (List ℕ)) → length words < 3 → None ≡ share_names words
few_words [] few = refl
few_words (plan ∷ []) few = refl
few_words (plan ∷ script ∷ []) few = refl
few_words (plan ∷ script ∷ first ∷ others) few = absurd (omega (arith, few))

pub many_words : (words : List (List ℕ)) → 1026 < length words → None ≡ share_names words
many_words [] many = absurd (omega (arith, many))
many_words (plan ∷ []) many = absurd (omega (arith, many))
many_words (plan ∷ script ∷ []) many = absurd (omega (arith, many))
many_words (plan ∷ script ∷ first ∷ others) many = sym (ap (names_if plan script first others) (lt-leb (length (first ∷ others)) most_shares (omega (arith, many))))

module _ (words : List (List ℕ)) (own : Option ShareNames) (is : option_map given_names own ≡ share_names words) where
  -- what is claimed of a form holds where it does of the names that were given
  pub claim_of : (names : ShareNames) (Claim : FileNames → Type 0) → own ≡ Some names → Claim (given_names names) → IfForm words Claim
  claim_of names Claim some claim other form = let same : Some (given_names names) ≡ Some other = sym (ap (option_map given_names) some) ∙ is ∙ form in subst Claim (the_same same) claim
    where
      the_same : Some (given_names names) ≡ Some other → given_names names ≡ other
      the_same e = cc

  -- and of words that are no form anything does
  pub claim_none : (Claim : FileNames → Type 0) → own ≡ None → IfForm words Claim
  claim_none Claim none names form = let apart : None ≡ Some names = sym (ap (option_map given_names) none) ∙ is ∙ form in absurd (never apart)
    where
      never : None ≡ Some names → ⊥
      never e = cc

  pub form_some : (names : ShareNames) → own ≡ Some names → share_names words ≡ None → ⊥
  form_some names some none = never (sym (ap (option_map given_names) some) ∙ is ∙ none)
    where
      never : Some (given_names names) ≡ None → ⊥
      never e = cc

  pub form_none : own ≡ None → share_names words ≡ None
  form_none none = sym is ∙ ap (option_map given_names) none

-- no end has the status of words that are no form
pub no_usage : (end : Result Outcome Stop) → status_of end ≡ Usage → ⊥
no_usage (Ok outcome.Added) e = cc
no_usage (Ok (outcome.Refused why)) e = cc
no_usage (Err stop) e = cc

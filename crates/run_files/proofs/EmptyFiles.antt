-- Files that are empty, and stay so while others are created and given back.
use Rattle.std.proofs.Common.{All, Err, List, None, Ok, Option, Result, Some, [], inl, inr, arith, refl, subst, sym, ℕ, ◌++◌, ◌∙◌, ◌∷◌, ◌≡◌, ◌⊎◌}
use Rattle.std.proofs.Math.Seq.{take-nil}
use Rattle.std.proofs.lemmas.Bool.{cases_eq, false≢true}
use Rattle.std.proofs.lemmas.List.Elements.{All-append, All-contains, All-weaker, Contains-append_cases, Contains-append_right}
use Rattle.std.specs.Prelude.{Contains, IsSome}
use Rattle.outer_io.proofs.ToldLaws.{Told-some}
use Rattle.outer_io.specs.Files.{Files, HasFile, HasPart}
use Rattle.outer_io.specs.declared.fault.IoFault.{IoFault}
use Rattle.outer_io.specs.declared.fault.IoFault.TheVariants as fault
use Rattle.run_files.proofs.Lists.{in_one}
use Rattle.run_files.specs.GivingBack.{Lands}
use Rattle.run_files.specs.Leaving.{KeepsOthers}

pub told_still : (before after : Option Files) (names : List (List ℕ)) → KeepsOthers before after names → IsSome before → IsSome after
told_still None after names kept told = absurd (false≢true told)
told_still (Some files) None names kept told = absurd kept
told_still (Some files) (Some now) names kept told = refl

-- two names are one, or are not
one_or_two : (n m : List ℕ) → (n ≡ m) ⊎ (n ≡ m → ⊥)
one_or_two [] [] = inl refl
one_or_two [] (y ∷ m) = inr (λ e. cc)
one_or_two (x ∷ n) [] = inr (λ e. cc)
one_or_two (x ∷ n) (y ∷ m) =
    elim (cases_eq x y) [
      | inl same ↦ elim (one_or_two n m) [ inl rest ↦ inl (cc) | inr apart ↦ inr (λ e. apart (cc)) ]
      | inr other ↦ inr (λ e. other (cc))
    ]

-- a name stands among the names, or does not
among_or_not : (names : List (List ℕ)) (n : List ℕ) → Contains names n ⊎ (Contains names n → ⊥)
among_or_not [] n = inr (λ h. omega (arith, h.1))
among_or_not (m ∷ names) n =
    elim (one_or_two m n) [
      | inl same ↦ inl (0, omega arith, same)
      | inr apart ↦ elim (among_or_not names n) [
        | inl within ↦ inl (Contains-append_right (m ∷ []) names n within)
        | inr outside ↦ inr (λ h. elim (Contains-append_cases (m ∷ []) names n h) [ inl here ↦ apart (in_one m n here) | inr there ↦ outside there ])
      ]
    ]

-- a file that is empty is so after others were emptied
empty_still : (b c : Option Files) (names : List (List ℕ)) (n : List ℕ) → IsSome b → KeepsOthers b c names → (Contains names n → ⊥) → HasFile b n [] → HasFile c n []
empty_still None c names n told kept outside has = absurd (false≢true told)
empty_still (Some fb) None names n told kept outside has = tt
empty_still (Some fb) (Some fc) names n told kept outside has = kept n outside ∙ has

pub emptied_after : (b c : Option Files) (first makes : List (List ℕ)) → IsSome b → KeepsOthers b c makes → All (λ n. HasFile b n []) first → All (λ n. HasFile c n []) makes → All (λ n. HasFile c n []) (first ++ makes)
emptied_after b c first makes told kept all later =
    All-append (λ n. HasFile c n []) first makes
    (All-weaker (λ n. HasFile b n []) (λ n. HasFile c n [])
    (λ n has. elim (among_or_not makes n) [
      | inl within ↦ All-contains (λ m. HasFile c m []) makes n later within
      | inr outside ↦ empty_still b c makes n told kept outside has
    ])
    first all) later

-- the file of a sink that held nothing is empty after it was given back, if it was before
given_empty : (b c : Option Files) (name : List ℕ) (held : Option (List ℕ)) (r : Result (Unit {0}) IoFault) → IsSome b → held ≡ Some [] → Lands b c name held r → HasFile b name [] → HasFile c name []
given_empty None c name held r told nothing lands has = absurd (false≢true told)
given_empty (Some fb) c name held (Ok x) told nothing lands has = Told-some held [] (HasFile c name) nothing lands
given_empty (Some fb) c name held (Err fault.Failed) told nothing lands has =
    let part : HasPart c name [] = Told-some held [] (HasPart c name) nothing lands in
    subst (λ bytes. HasFile c name bytes) (take-nil part.0) part.1
given_empty (Some fb) None name held (Err fault.NoMemory) told nothing lands has = tt
given_empty (Some fb) (Some fc) name held (Err fault.NoMemory) told nothing lands has = lands ∙ has

-- and so is every other
pub empty_given : (b c : Option Files) (name other : List ℕ) (held : Option (List ℕ)) (r : Result (Unit {0}) IoFault) → IsSome b → held ≡ Some [] → KeepsOthers b c (name ∷ []) → Lands b c name held r → HasFile b other [] → HasFile c other []
empty_given b c name other held r told nothing kept lands has =
    elim (one_or_two name other) [
      | inl same ↦ subst (λ n. HasFile c n []) same (given_empty b c name held r told nothing lands (subst (λ n. HasFile b n []) (sym same) has))
      | inr apart ↦ empty_still b c (name ∷ []) other told kept (λ h. apart (in_one name other h)) has
    ]

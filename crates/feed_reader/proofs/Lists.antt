-- The first place of a list at which a test passes.
use Rattle.std.proofs.Common.{◌≡◌, ℕ, ◌<◌, Bool, true, false, List, length, get_or, Some, None, arith}
use Rattle.std.specs.Prelude.{position}
use Rattle.std.specs.List.{list_any, position_or_len}
use Rattle.std.proofs.lemmas.List.Elements.{All-from_get_or}
use Rattle.std.proofs.lemmas.List.Folds.{list_any_none}
use Rattle.std.proofs.lemmas.List.Sums.{position_or_len_is}
use Rattle.std.proofs.lemmas.Bool.Decides.{nat_tests}

-- the test fails at each of the first n items
abbrev pub FailsBelow : {A : Type 0} → (A → Bool) → List A → A → ℕ → Type 0
FailsBelow p xs d n = (k : ℕ) → k < n → p (get_or xs k d) ≡ false

pub position_found : {A : Type 0} (p : A → Bool) (xs : List A) (d : A) (i : ℕ) → i < length xs → FailsBelow p xs d i → p (get_or xs i d) ≡ true → position p xs ≡ Some i
position_found p xs d i within below here =
    let e : position_or_len p xs ≡ i = position_or_len_is p xs i d (omega arith) below (λ _. here) in
    rw e (grind (arith, nat_tests))

pub position_or_len_all : {A : Type 0} (p : A → Bool) (xs : List A) (d : A) → FailsBelow p xs d (length xs) → position_or_len p xs ≡ length xs
position_or_len_all p xs d below = position_or_len_is p xs (length xs) d (omega arith) below (λ (h : length xs < length xs). absurd (omega arith))

pub position_none : {A : Type 0} (p : A → Bool) (xs : List A) (d : A) → FailsBelow p xs d (length xs) → position p xs ≡ None
position_none p xs d below =
    let e : position_or_len p xs ≡ length xs = position_or_len_all p xs d below in
    rw e (grind (arith, nat_tests))

pub list_any_fails : {A : Type 0} (p : A → Bool) (xs : List A) (d : A) → FailsBelow p xs d (length xs) → list_any p xs ≡ false
list_any_fails p xs d below = list_any_none p xs (All-from_get_or (λ x. p x ≡ false) xs d below)

-- The table of a list of amounts, each in its bin.
use Rattle.std.specs.Prelude.{◌≡◌, ℕ, ◌+◌, ◌<◌, Bool, true, false, cond, List, [], ◌∷◌, sum_by, All, eqb}
use Rattle.std.proofs.Common.{refl, sym, ap, ◌∙◌, arith}
use Rattle.std.specs.FinMap.{empty}
use Rattle.std.proofs.lemmas.Bool.{eqb-true}
use Rattle.std.proofs.lemmas.List.Elements.{All-head, All-tail}
use Rattle.std.proofs.lemmas.List.Sums.{sum_by-cons}
use Rattle.time_table.specs.Counts.{BinCounts, AllCounted, add_many, count_of, total_count, amount_at}
use Rattle.time_table.proofs.AddLaws.{count_of-add_many, total_count-add_many, total_count-empty, count_of-empty, AllCounted-empty, AllCounted-add_many}

-- the table of the amounts
abbrev pub gathered : List (ℕ × ℕ) → BinCounts
gathered [] = empty
gathered (a ∷ rest) = add_many (gathered rest) a.0 a.1

pub more_there : (b : Bool) (c d n m : ℕ) → (b ≡ true → c ≡ d) → d ≡ n → cond b (c + m) d ≡ cond b m 0 + n
more_there true c d n m same is = let e : c ≡ d = same refl in omega arith
more_there false c d n m same is = omega arith

pub count_of-gathered : (rest : List (ℕ × ℕ)) (q : ℕ) → count_of (gathered rest) q ≡ amount_at q rest
count_of-gathered [] q = count_of-empty q
count_of-gathered (a ∷ rest) q =
    count_of-add_many (gathered rest) a.0 a.1 q
    ∙ more_there (eqb q a.0) (count_of (gathered rest) a.0) (count_of (gathered rest) q) (amount_at q rest) a.1 (λ e. ap (count_of (gathered rest)) (sym (eqb-true q a.0 e))) (count_of-gathered rest q)
    ∙ sym (sum_by-cons (λ (b : ℕ × ℕ). cond (eqb q b.0) b.1 0) a rest)

pub total_count-gathered : (rest : List (ℕ × ℕ)) → total_count (gathered rest) ≡ sum_by (λ (a : ℕ × ℕ). a.1) rest
total_count-gathered [] = total_count-empty
total_count-gathered (a ∷ rest) = total_count-add_many (gathered rest) a.0 a.1 ∙ omega (arith, total_count-gathered rest, sum_by-cons (λ (a : ℕ × ℕ). a.1) a rest)

pub AllCounted-gathered : (rest : List (ℕ × ℕ)) → All (λ (a : ℕ × ℕ). 0 < a.1) rest → AllCounted (gathered rest)
AllCounted-gathered [] all = AllCounted-empty
AllCounted-gathered (a ∷ rest) all =
    AllCounted-add_many (gathered rest) a.0 a.1 (All-head (λ (a : ℕ × ℕ). 0 < a.1) a rest all) (AllCounted-gathered rest (All-tail (λ (a : ℕ × ℕ). 0 < a.1) a rest all))

-- How long the generated feed is, and how it begins.
use Rattle.std.proofs.Common.{◌≡◌, ℕ, zero, suc, ◌+◌, ◌-◌, ◌*◌, ◌/◌, ◌%◌, ◌^◌, ◌<◌, ◌≤◌, List, [], ◌∷◌, ◌++◌, length, refl, ap, ◌∙◌, arith, length-append}
use Rattle.std.specs.Prelude.{Option, Some, None, MatchOption}
use Rattle.std.specs.Fmt.{decimal}
use Rattle.std.proofs.lemmas.Fmt.{length-decimal-le}
use Rattle.std.proofs.Math.Nat.{mod-add-mod, mul_comm}
use Rattle.texts.specs.LineFeeds.{pieces}
use Rattle.feed_maker.specs.GeneratedFeed.{next_state, generated_columns, generated_row, generated_rows, generated_feed}

-- a step in two operations that each wrap
pub next_state-wrapping : (s : ℕ) → ((s * 6364136223846793005) % 2 ^ 64 + 1442695040888963407) % 2 ^ 64 ≡ next_state s
next_state-wrapping s = mod-add-mod (s * 6364136223846793005) (2 ^ 64) 1442695040888963407 ∙ ap (λ (n : ℕ). (n + 1442695040888963407) % 2 ^ 64) (mul_comm s 6364136223846793005)

-- a number under 1,024 has at most four digits
pub few_digits : (n : ℕ) → n < 1024 → length (decimal n) ≤ 4
few_digits n small = length-decimal-le 4 n (omega arith) (omega arith) (omega arith)

pub length-generated_row : (s : ℕ) → s < 2 ^ 64 → length (generated_row s) ≤ 17
length-generated_row s small =
    let x : s / 2 ^ 54 < 1024 = omega arith in
    let y : s / 2 ^ 44 % 1024 < 1024 = omega arith in
    let time : s / 2 ^ 32 % 1024 < 1024 = omega arith in
    simp length-append (omega (arith, few_digits _ x, few_digits _ y, few_digits _ time))

next_state-fits : (s : ℕ) → next_state s < 2 ^ 64
next_state-fits s = omega arith

pub length-generated_rows : (s rows : ℕ) → length (generated_rows s rows) ≤ 17 * rows
length-generated_rows s zero = omega arith
length-generated_rows s (suc rows) =
    omega (
      arith,
      length-append (generated_row (next_state s)) (generated_rows (next_state s) rows),
      length-generated_row (next_state s) (next_state-fits s),
      length-generated_rows (next_state s) rows,
    )

pub length-generated_feed : (s rows : ℕ) → length (generated_feed s rows) ≤ 14 + 17 * rows
length-generated_feed s rows = omega (arith, length-generated_rows s rows)

pub pieces-generated_feed : (s rows : ℕ) → pieces (generated_feed s rows) ≡ generated_columns ∷ pieces (generated_rows s rows)
pieces-generated_feed s rows = refl

-- the first of the rows, and the others
pub generated_rows-step : (s rows : ℕ) → 0 < rows → generated_rows s rows ≡ generated_row (next_state s) ++ generated_rows (next_state s) (rows - 1)
generated_rows-step s zero some = absurd (omega arith)
generated_rows-step s (suc rows) some = let e : suc rows - 1 ≡ rows = omega arith in rw e refl

append_some : (xs : List ℕ) (y : ℕ) (ys : List ℕ) → xs ++ (y ∷ ys) ≡ [] → ⊥
append_some [] y ys e = cc
append_some (x ∷ xs) y ys e = cc

-- a row is not empty
pub generated_row-some : (s : ℕ) → generated_row s ≡ [] → ⊥
generated_row-some s e = append_some (decimal (s / 2 ^ 54)) 44 _ e

-- the byte that comes first of the rows, where the rest of the line before was taken
pub first_of_rows : (s rows : ℕ) (all rest : List ℕ) (first : Option ℕ) → 0 < rows → all ≡ generated_rows s rows
    → MatchOption first ((generated_row (next_state s) ≡ []) × (rest ≡ [])) (λ b. generated_row (next_state s) ≡ b ∷ rest)
    → MatchOption first ((all ≡ []) × (rest ++ generated_rows (next_state s) (rows - 1) ≡ [])) (λ b. all ≡ b ∷ (rest ++ generated_rows (next_state s) (rows - 1)))
first_of_rows s rows all rest None some is taken = absurd (generated_row-some (next_state s) taken.0)
first_of_rows s rows all rest (Some b) some is taken = is ∙ (generated_rows-step s rows some ∙ ap (λ (row : List ℕ). row ++ generated_rows (next_state s) (rows - 1)) taken)

-- Rows that are taken one after another.
use Rattle.std.proofs.Common.{◌≡◌, ℕ, zero, suc, ◌+◌, Bool, cond, List, [], ◌∷◌, ◌++◌, length, take, count_by, refl, sym, ◌∙◌, ap, arith, append-nil, append_assoc, add_assoc, add-zero}
use Rattle.std.proofs.lemmas.List.Sums.{sum_by-append}
use Rattle.cube_view.specs.Points.{Point}
use Rattle.feed_reader.proofs.FeedLaws.{points_in-append}
use Rattle.feed_reader.specs.Feeds.{points_in}
use Rattle.feed_reader.specs.RowCounts.{first_refusals, kept_refusals, refusals_from}
use Rattle.feed_reader.specs.declared.refusal.Refusal.{Refusal}
use Rattle.feed_reader.specs.declared.row.Row.{Row}
use Rattle.feed_reader.specs.declared.row.Row.TheVariants as row

one_on : (line n : ℕ) → (line + 1) + n ≡ line + suc n
one_on line n = omega arith

-- the refusals of rows, and then those of further rows
refusals_append : (line : ℕ) (xs ys : List Row) → refusals_from line (xs ++ ys) ≡ refusals_from line xs ++ refusals_from (line + length xs) ys
refusals_append line [] ys = ap (λ n. refusals_from n ys) (sym (add-zero line))
refusals_append line (row.Blank ∷ xs) ys = refusals_append (line + 1) xs ys ∙ ap (λ n. refusals_from (line + 1) xs ++ refusals_from n ys) (one_on line (length xs))
refusals_append line (row.Point p ∷ xs) ys = refusals_append (line + 1) xs ys ∙ ap (λ n. refusals_from (line + 1) xs ++ refusals_from n ys) (one_on line (length xs))
refusals_append line (row.Refused f ∷ xs) ys = ap (λ rs. record { line = line; fault = f } ∷ rs) (refusals_append (line + 1) xs ys ∙ ap (λ n. refusals_from (line + 1) xs ++ refusals_from n ys) (one_on line (length xs)))

-- of the first items and further ones, the first are the first of all
pub take_twice : {X : Type 0} (n : ℕ) (xs ys : List X) → take n (take n xs ++ ys) ≡ take n (xs ++ ys)
take_twice zero xs ys = refl
take_twice (suc n) [] ys = refl
take_twice (suc n) (x ∷ xs) ys = ap (λ zs. x ∷ zs) (take_twice n xs ys)

-- the first refusals of rows, and then of one row more
pub first_more : (line : ℕ) (rows : List Row) (row : Row) → first_refusals line (rows ++ row ∷ []) ≡ take kept_refusals (first_refusals line rows ++ refusals_from (line + length rows) (row ∷ []))
first_more line rows row = ap (λ rs. take kept_refusals rs) (refusals_append line rows (row ∷ [])) ∙ sym (take_twice kept_refusals (refusals_from line rows) _)

-- the count of rows, and then of one row more
pub count_more : (p : Row → Bool) (rows : List Row) (row : Row) (n k : ℕ) → n ≡ k + count_by p rows → n + count_by p (row ∷ []) ≡ k + count_by p (rows ++ row ∷ [])
count_more p rows row n k e = ap (λ m. m + count_by p (row ∷ [])) e ∙ add_assoc k (count_by p rows) (count_by p (row ∷ [])) ∙ ap (λ m. k + m) (sym (sum_by-append (λ x. cond (p x) 1 0) rows (row ∷ [])))

-- the first refusals of five at most are all
pub first_five : (first : List Refusal) (line : ℕ) (rows : List Row) → first ≡ first_refusals line rows → take kept_refusals (first ++ []) ≡ first
first_five first line rows e =
    ap (λ rs. take kept_refusals (rs ++ [])) e ∙ take_twice kept_refusals (refusals_from line rows) [] ∙ ap (λ rs. take kept_refusals rs) (append-nil (refusals_from line rows)) ∙ sym e

-- the points of rows, and then of one row more
pub points_more : (start points : List Point) (rows : List Row) (row : Row) → points ≡ start ++ points_in rows → points ++ points_in (row ∷ []) ≡ start ++ points_in (rows ++ row ∷ [])
points_more start points rows row e = ap (λ ps. ps ++ points_in (row ∷ [])) e ∙ append_assoc start (points_in rows) (points_in (row ∷ [])) ∙ ap (λ ps. start ++ ps) (sym (points_in-append rows (row ∷ [])))

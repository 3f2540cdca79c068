-- Bytes that are taken one by one into the front of a buffer.
use Rattle.std.proofs.Common.{◌≡◌, ℕ, ◌+◌, ◌<◌, ◌≤◌, List, [], ◌∷◌, ◌++◌, length, take, drop, set, refl, sym, ap, ◌∙◌, arith, append_assoc, length-append}
use Rattle.std.proofs.lemmas.List.{take_more_set, take-append-drop, drop-set-lt, length-take-le}
use Rattle.std.proofs.Math.Seq.{take-append_seam, drop-append_seam}
use Rattle.outer_io.specs.Memory.{filled}

-- i of all bytes were taken into the front of a buffer, and the others are left; before, the buffer held something else
pub record TookFront (all before left buf : List ℕ) (i : ℕ) : Type 0 where
  pub front : all ≡ take i buf ++ left
  pub back : (n : ℕ) → i ≤ n → drop n buf ≡ drop n before

pub took_none : (all before : List ℕ) → TookFront all before all before 0
took_none all before = record { front = refl; back = λ n h. refl }

pub took_more : (all before left rest buf : List ℕ) (i b : ℕ) → i < length buf → left ≡ b ∷ rest → TookFront all before left buf i → TookFront all before rest (set buf i b) (i + 1)
took_more all before left rest buf i b lt is took = record {
  front = took.front ∙ (ap (λ (xs : List ℕ). take i buf ++ xs) is ∙ (sym (append_assoc (take i buf) (b ∷ []) rest) ∙ ap (λ (xs : List ℕ). xs ++ rest) (sym (take_more_set buf i b lt))));
  back = λ n h. drop-set-lt n buf i b (omega arith) ∙ took.back n (omega arith);
}

parts_of : (xs ys : List ℕ) (i : ℕ) → length xs ≡ i → (take i (xs ++ ys) ≡ xs) × (drop i (xs ++ ys) ≡ ys)
parts_of xs ys i e = rw (← e) (take-append_seam xs ys, drop-append_seam xs ys)

module _ (all before left buf : List ℕ) (i : ℕ) (within : i ≤ length buf) (took : TookFront all before left buf i) where
  size : length (take i buf) ≡ i
  size = length-take-le i buf within

  pub took_filled : buf ≡ filled before all i
  took_filled =
      let front : take i all ≡ take i buf = ap (take i) took.front ∙ (parts_of (take i buf) left i size).0 in
      rw (front, ← took.back i (omega arith)) (sym (take-append-drop i buf))

  pub took_rest : left ≡ drop i all
  took_rest = sym (ap (drop i) took.front ∙ (parts_of (take i buf) left i size).1)

  pub took_size : length all ≡ i + length left
  took_size = omega (arith, ap length took.front, length-append (take i buf) left, size)

-- A text begins with one line at most.
use Rattle.std.proofs.Common.{◌≡◌, ℕ, ◌+◌, eqb, eq-eqb, false, List, [], ◌∷◌, ◌++◌, length, take, refl, sym, ap, ◌∙◌, append_assoc, arith, length-append}
use Rattle.std.proofs.Math.Seq.{take-append_seam}
use Rattle.std.proofs.lemmas.Bool.{false≢true}
use Rattle.texts.specs.LineFeeds.{NoFeed}

not_feed : (c : ℕ) → 10 ≡ c → eqb c 10 ≡ false → ⊥
not_feed c is never = false≢true (sym never ∙ eq-eqb c 10 (sym is))

-- where a text begins with two lines, they are one, and what follows is the same
pub same_first : (a b x y : List ℕ) → NoFeed a → NoFeed b → a ++ (10 ∷ x) ≡ b ++ (10 ∷ y) → (a ≡ b) × (x ≡ y)
same_first [] [] x y h k e = (refl, cc)
same_first [] (c ∷ b) x y h k e = let is : 10 ≡ c = cc in absurd (not_feed c is k.0)
same_first (c ∷ a) [] x y h k e = let is : 10 ≡ c = cc in absurd (not_feed c is h.0)
same_first (c ∷ a) (d ∷ b) x y h k e =
    let first : c ≡ d = cc in
    let later : a ++ (10 ∷ x) ≡ b ++ (10 ∷ y) = cc in
    let rest = same_first a b x y h.1 k.1 later in
    ((λ i. first i ∷ rest.0 i), rest.1)

-- a text without a line feed has no line
pub no_line : (a x : List ℕ) → NoFeed (a ++ (10 ∷ x)) → ⊥
no_line [] x h = false≢true (sym h.0)
no_line (c ∷ a) x h = no_line a x h.1

-- a text that begins with a line is not empty
pub not_empty : (a x y : List ℕ) → y ≡ a ++ (10 ∷ x) → y ≡ [] → ⊥
not_empty [] x y e none = cc
not_empty (b ∷ a) x y e none = cc

-- a line with its line feed is the front of the text
pub whole_line : (text a x : List ℕ) (n : ℕ) → text ≡ a ++ (10 ∷ x) → n ≡ length a → take (n + 1) text ≡ a ++ (10 ∷ [])
whole_line text a x n e same =
    let k : n + 1 ≡ length (a ++ (10 ∷ [])) = let l = length-append a (10 ∷ []) in omega (arith, l, same) in
    ap (take (n + 1)) (e ∙ sym (append_assoc a (10 ∷ []) x)) ∙ ap (λ j. take j ((a ++ (10 ∷ [])) ++ x)) k ∙ take-append_seam (a ++ (10 ∷ [])) x

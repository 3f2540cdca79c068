-- The entries of a finite map over numbers, by how a key stands to the first one.
use Rattle.std.proofs.Common.{◌≡◌, ℕ, ◌<◌, List, ◌∷◌, Some, nat_cmp, arith}
use Rattle.std.specs.FinMap.{find, put}
use Rattle.std.proofs.lemmas.Bool.{lt-ltb, le-ltb, eq-eqb, ne_eqb}

module _ {X : Type 0} where
  -- a key below the first one
  pub put_first : (k x : ℕ) (v w : X) (es : List (ℕ × X)) → k < x → put nat_cmp k v ((x, w) ∷ es) ≡ (k, v) ∷ (x, w) ∷ es
  put_first k x v w es less = rw (lt-ltb k x less)

  -- the first key
  pub put_here : (k x : ℕ) (v w : X) (es : List (ℕ × X)) → k ≡ x → put nat_cmp k v ((x, w) ∷ es) ≡ (x, v) ∷ es
  put_here k x v w es same = rw (le-ltb k x (omega arith), eq-eqb k x same)

  -- a key past the first one
  pub put_later : (k x : ℕ) (v w : X) (es : List (ℕ × X)) → x < k → put nat_cmp k v ((x, w) ∷ es) ≡ (x, w) ∷ put nat_cmp k v es
  put_later k x v w es less = rw (le-ltb k x (omega arith), ne_eqb k x (omega arith))

  pub find_here : (k x : ℕ) (w : X) (es : List (ℕ × X)) → k ≡ x → find nat_cmp k ((x, w) ∷ es) ≡ Some w
  find_here k x w es same = rw (le-ltb k x (omega arith), eq-eqb k x same)

  pub find_later : (k x : ℕ) (w : X) (es : List (ℕ × X)) → x < k → find nat_cmp k ((x, w) ∷ es) ≡ find nat_cmp k es
  find_later k x w es less = rw (le-ltb k x (omega arith), ne_eqb k x (omega arith))

  pub find_before : (k x : ℕ) (w : X) (es : List (ℕ × X)) → k < x → find nat_cmp k ((x, w) ∷ es) ≡ find nat_cmp k es
  find_before k x w es less = rw (lt-ltb k x less)

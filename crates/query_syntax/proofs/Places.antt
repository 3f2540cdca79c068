-- Places in lists of distinct texts.
use Rattle.std.proofs.Common.{◌≡◌, ℕ, suc, ◌+◌, Bool, true, false, List, [], ◌∷◌, ◌++◌, cond, length, sym, ◌∙◌, ap, refl, arith, Option, Some, None}
use Rattle.std.specs.Prelude.{not, nat_lt, map, position}
use Rattle.std.specs.List.{list_any, position_or_len}
use Rattle.std.specs.Str.{bytes_eq}
use Rattle.std.specs.Cmp.Lexicographic.{texts_ties}
use Rattle.std.proofs.lemmas.Bool.Decides.{nat_tests}
use Rattle.std.proofs.lemmas.List.{length-append}
use Rattle.std.proofs.lemmas.List.Recursion.{is_position_or_len}
use Rattle.std.proofs.lemmas.Slice.Eq.{bytes_eq-Decides}
use Rattle.cube_view.specs.Limits.{all_distinct, has_text, same_text}
use Rattle.cube_view.specs.declared.category.Category.{Category}
use Rattle.query_syntax.specs.Items.{values_at, has_item}
use Rattle.query_syntax.specs.declared.query.Choice.{Choice}
use Rattle.query_syntax.proofs.WholeTexts.{or_false_left, or_false_right}
use Rattle.std.proofs.lemmas.Bool.{and_parts, not-true}

abbrev first_place : {X : Type 0} → (X → Bool) → List X → ℕ
first_place p [] = 0
first_place p (x ∷ xs) = cond (p x) 0 (1 + first_place p xs)

first_place-at : {X : Type 0} (p : X → Bool) (front : List X) (x : X) (back : List X) → list_any p front ≡ false → p x ≡ true → first_place p (front ++ x ∷ back) ≡ length front
first_place-at p [] x back h k = rw k refl
first_place-at p (y ∷ front) x back h k =
    let none : p y ≡ false = or_false_left (p y) _ h in
    let rest : first_place p (front ++ x ∷ back) ≡ length front = first_place-at p front x back (or_false_right (p y) _ h) k in
    let one_more : 1 + first_place p (front ++ x ∷ back) ≡ suc (length front) = omega (arith, rest) in
    ap (λ (b : Bool). cond b 0 (1 + first_place p (front ++ x ∷ back))) none ∙ one_more

pub position_at : {X : Type 0} (p : X → Bool) (front : List X) (x : X) (back : List X) → list_any p front ≡ false → p x ≡ true → position p (front ++ x ∷ back) ≡ Some (length front)
position_at p front x back h k =
    let place : position_or_len p (front ++ x ∷ back) ≡ length front = sym (is_position_or_len (first_place p) p refl (λ y ys. refl) (front ++ x ∷ back)) ∙ first_place-at p front x back h k in
    let size : length (front ++ x ∷ back) ≡ length front + suc (length back) = length-append front (x ∷ back) in
    let within : nat_lt (length front) (length (front ++ x ∷ back)) ≡ true = grind (arith, nat_tests, size) in
    rw (place, within) refl

none_at : {X : Type 0} (same : List ℕ → Bool) (f : X → List ℕ) (front : List X) (x : X) (back : List X) → list_any same (map f (front ++ x ∷ back)) ≡ false → same (f x) ≡ false
none_at same f [] x back h = or_false_left (same (f x)) _ h
none_at same f (y ∷ front) x back h = none_at same f front x back (or_false_right (same (f y)) _ h)

not_before : {X : Type 0} (f : X → List ℕ) (front : List X) (x : X) (back : List X) → all_distinct (map f (front ++ x ∷ back)) ≡ true → list_any (λ y. bytes_eq (f y) (f x)) front ≡ false
not_before f [] x back h = refl
not_before f (y ∷ front) x back h =
    let other : bytes_eq (f y) (f x) ≡ false = texts_ties (f y) (f x) ∙ none_at (same_text (f y)) f front x back (not-true _ ((and_parts (not (has_text (map f (front ++ x ∷ back)) (f y))) _ h).0)) in
    rw (other) (not_before f front x back ((and_parts (not (has_text (map f (front ++ x ∷ back)) (f y))) _ h).1))

pub same_bytes : (t : List ℕ) → bytes_eq t t ≡ true
same_bytes t = (bytes_eq-Decides t t).1 refl

-- where a text stands that stands once
pub position_of : {X : Type 0} (f : X → List ℕ) (front : List X) (x : X) (back : List X) → all_distinct (map f (front ++ x ∷ back)) ≡ true → position (λ y. bytes_eq (f y) (f x)) (front ++ x ∷ back) ≡ Some (length front)
position_of f front x back h = position_at (λ y. bytes_eq (f y) (f x)) front x back (not_before f front x back h) (same_bytes (f x))

-- what stands at the seam of two lists

pub values_at-seam : (front : List Category) (c : Category) (back : List Category) → values_at (front ++ c ∷ back) (length front) ≡ c.values
values_at-seam [] c back = refl
values_at-seam (x ∷ front) c back = values_at-seam front c back

pub has_item-seam : (front : List (Option Choice)) (back : List (Option Choice)) → has_item (front ++ None ∷ back) (length front) ≡ false
has_item-seam [] back = refl
has_item-seam (x ∷ front) back = has_item-seam front back

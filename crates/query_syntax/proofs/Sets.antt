-- Sets of values, and choices.
use Rattle.std.proofs.Common.{◌≡◌, ℕ, zero, suc, ◌<◌, ◌≤◌, Bool, true, false, List, [], ◌∷◌, length, drop, cond, ◌∙◌, ap, refl, arith, Option, Some}
use Rattle.std.specs.Prelude.{map, replicate, slice_set, unwrap_or}
use Rattle.std.specs.List.{list_any}
use Rattle.std.proofs.lemmas.List.{drop-set-lt, length-set}
use Rattle.cube_view.specs.declared.category.Category.{Category}
use Rattle.query_syntax.specs.Items.{IsSetOf, choice_of, is_full, values_at}
use Rattle.query_syntax.specs.Queries.{is_choice, are_choices}
use Rattle.query_syntax.specs.declared.query.Choice.{Choice}
use Rattle.query_syntax.specs.declared.query.Choice.TheVariants.{All, Only}
use Rattle.std.proofs.lemmas.Bool.{and_parts, and_from}

list_any-set : (set : List Bool) (v : ℕ) → v < length set → list_any (λ b. b) (slice_set set v true) ≡ true
list_any-set [] v l = absurd (omega arith)
list_any-set (b ∷ set) zero l = refl
list_any-set (true ∷ set) (suc v) l = refl
list_any-set (false ∷ set) (suc v) l = list_any-set set v (omega arith)

pub set_with : (count v : ℕ) (set : List Bool) → v < count → count ≤ 256 → length set ≡ 256 → list_any (λ b. b) (drop count set) ≡ false → IsSetOf count (slice_set set v true)
set_with count v set below few size none = record {
  size = length-set set v true ∙ size;
  some = list_any-set set v (omega arith);
  none_past = ap (list_any (λ b. b)) (drop-set-lt count set v true below) ∙ none;
}

pub none_in_drop : (count n : ℕ) → list_any (λ b. b) (drop count (replicate n false)) ≡ false
none_in_drop zero zero = refl
none_in_drop (suc count) zero = refl
none_in_drop zero (suc n) = none_in_drop zero n
none_in_drop (suc count) (suc n) = none_in_drop count n

choice_by : (count : ℕ) (set : List Bool) (full : Bool) → full ≡ is_full count set → IsSetOf count set → is_choice count (cond full All (Only set)) ≡ true
choice_by count set true e h = refl
choice_by count set false e h = rw (h.size, h.some, ← e, h.none_past) refl

pub choice_fits : (count : ℕ) (set : List Bool) → IsSetOf count set → is_choice count (choice_of count set) ≡ true
choice_fits count set h = choice_by count set (is_full count set) refl h

-- the choice of a set, or all where there was none
abbrev pub or_all : Option Choice → Choice
or_all set = unwrap_or set All

pub are_choices-set : (categories : List Category) (sets : List (Option Choice)) (k : ℕ) (choice : Choice) → are_choices categories (map or_all sets) ≡ true → is_choice (length (values_at categories k)) choice ≡ true → k < length categories → are_choices categories (map or_all (slice_set sets k (Some choice))) ≡ true
are_choices-set [] sets k choice h fits l = absurd (omega arith)
are_choices-set (c ∷ categories) [] k choice h fits l = refl
are_choices-set (c ∷ categories) (set ∷ sets) zero choice h fits l = and_from _ _ fits ((and_parts (is_choice (length c.values) (or_all set)) _ h).1)
are_choices-set (c ∷ categories) (set ∷ sets) (suc k) choice h fits l = and_from _ _ ((and_parts (is_choice (length c.values) (or_all set)) _ h).0) (are_choices-set categories sets k choice ((and_parts (is_choice (length c.values) (or_all set)) _ h).1) fits (omega arith))

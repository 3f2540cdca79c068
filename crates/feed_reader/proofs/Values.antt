-- The values of a row, one category at a time.
use Rattle.std.proofs.Common.{◌≡◌, ◌∙◌, refl, sym, ℕ, ◌+◌, ◌<◌, ◌≤◌, Bool, true, false, nat_le, List, [], ◌∷◌, ◌++◌, length, map, take, get_or, slice_set, arith}
use Rattle.std.specs.Prelude.{IsTrue}
use Rattle.std.specs.List.{zip}
use Rattle.std.proofs.lemmas.Bool.Decides.{nat_tests}
use Rattle.std.proofs.lemmas.List.{get_or-map, get_or_default, length-map, length-take, take_more, map-append}
use Rattle.std.proofs.lemmas.List.Folds.{list_any_at}
use Rattle.std.proofs.lemmas.Slice.Zip.{get_or-zip, length-zip}
use Rattle.cube_view.specs.Limits.{categories_in_range}
use Rattle.cube_view.specs.declared.category.Category.{Category}
use Rattle.feed_reader.specs.Rows.{is_short, texts_at, value_of}

-- where no place is past the end, each is within
pub short_at : (places : List ℕ) (fields : List (List ℕ)) (k : ℕ) → is_short places fields ≡ false → k < length places → get_or places k 0 < length fields
short_at places fields k none within = by (nat_le (length fields) (get_or places k 0)) refl
  where
    by : (b : Bool) → nat_le (length fields) (get_or places k 0) ≡ b → get_or places k 0 < length fields
    by true e =
        let some : is_short places fields ≡ true = list_any_at (λ place. nat_le (length fields) place) places k 0 within e in
        absurd (cc (some, none))
    by false e = grind (arith, nat_tests)

-- a pair for the reads past a list's end
abbrev pub no_pair : Category × List ℕ
no_pair = (record { name = []; values = [] }, [])

-- a category beside its field
pub pair_at : (categories : List Category) (fields : List (List ℕ)) (places : List ℕ) (k : ℕ) (d : Category × List ℕ) (c : Category) → length places ≡ length categories → k < length places
    → c ≡ get_or categories k c → get_or (zip categories (texts_at fields places)) k d ≡ (c, get_or fields (get_or places k 0) [])
pair_at categories fields places k d c same within here =
    let size = length-map places (λ (place : ℕ). get_or fields place []) in
    let first : k < length categories = omega arith in
    let second : k < length (texts_at fields places) = omega arith in
    let category : get_or categories k d.0 ≡ c = get_or_default categories k d.0 c first ∙ sym here in
    let text : get_or (texts_at fields places) k d.1 ≡ get_or fields (get_or places k 0) [] = get_or-map (λ (place : ℕ). get_or fields place []) places k 0 d.1 within in
    get_or-zip categories (texts_at fields places) k d first second ∙ rw (category, text) refl

pub pairs_length : (categories : List Category) (fields : List (List ℕ)) (places : List ℕ) → length places ≡ length categories → length (zip categories (texts_at fields places)) ≡ length places
pairs_length categories fields places same =
    let size = length-map places (λ (place : ℕ). get_or fields place []) in
    length-zip categories (texts_at fields places) ∙ omega arith

-- a point's four values while its first ones are known
abbrev pub padded : List ℕ → List ℕ
padded known = take 4 (known ++ 0 ∷ 0 ∷ 0 ∷ 0 ∷ [])

pub padded_next : (known : List ℕ) (k n : ℕ) → length known ≡ k → k < 4 → slice_set (padded known) k n ≡ padded (known ++ n ∷ [])
padded_next [] k n e h = rw (sym e) refl
padded_next (a ∷ []) k n e h = rw (sym e) refl
padded_next (a ∷ b ∷ []) k n e h = rw (sym e) refl
padded_next (a ∷ b ∷ c ∷ []) k n e h = rw (sym e) refl
padded_next (a ∷ b ∷ c ∷ d ∷ known) k n e h = absurd (omega arith)

-- the values of the first k pairs, and of one more
pub values_next : (pairs : List (Category × List ℕ)) (k : ℕ) (p : Category × List ℕ) → k < length pairs → get_or pairs k p ≡ p
    → map value_of (take (k + 1) pairs) ≡ map value_of (take k pairs) ++ value_of p ∷ []
values_next pairs k p within here = rw (take_more pairs k p within, here) (map-append value_of (take k pairs) (p ∷ []))

pub known_length : (pairs : List (Category × List ℕ)) (k : ℕ) → k ≤ length pairs → length (map value_of (take k pairs)) ≡ k
known_length pairs k within = length-map (take k pairs) value_of ∙ length-take k pairs ∙ omega arith

pub at_most_four : (categories : List Category) → IsTrue (categories_in_range categories) → length categories ≤ 4
at_most_four categories h = by (nat_le (length categories) 4) refl
  where
    by : (b : Bool) → nat_le (length categories) 4 ≡ b → length categories ≤ 4
    by true e = grind (arith, nat_tests, e)
    by false e = absurd (cc (rw e at h))

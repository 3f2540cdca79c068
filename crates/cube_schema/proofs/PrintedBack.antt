-- A printed draft is read as that draft.
use Rattle.std.proofs.Common.{◌≡◌, ℕ, true, List, [], ◌∷◌, map, Option, Some, None, Ok, refl, subst, ◌∙◌}
use Rattle.serde_json.specs.Data.{Data, string}
use Rattle.std.specs.Prelude.{is_some}
use Rattle.serde_json.specs.Find.{as_str, as_object}
use Rattle.serde_json.specs.View.{items_of}
use Rattle.cube_view.specs.declared.category.Category.{Category}
use Rattle.cube_schema.specs.declared.draft.Draft.{Draft}
use Rattle.cube_schema.specs.Kinds.{items_as, category_of, members_of}
use Rattle.cube_schema.specs.Versions.{version_of}
use Rattle.cube_schema.specs.Members.{first_missing, least_unknown}
use Rattle.cube_schema.specs.Printed.{category_value, draft_value}
use Rattle.cube_schema.specs.Ranges.{first_out_of_range}
use Rattle.cube_schema.specs.Repeats.{first_repeated}
use Rattle.cube_schema.specs.Meaning.{tested, value_meaning}
use Rattle.cube_schema.proofs.Limits.{draft-versioned}

-- items that are each read as what they were made of make the list again
items_back : {A : Type 0} (kind : Data → Option A) (value : A → Data) → ((a : A) → kind (value a) ≡ Some a) → (xs : List A) → items_as kind (items_of (map value xs)) ≡ Some xs
items_back kind value back [] = refl
items_back kind value back (x ∷ xs) = rw (back x, items_back kind value back xs) refl

texts_back : (texts : List (List ℕ)) → items_as as_str (items_of (map string texts)) ≡ Some texts
texts_back texts = items_back as_str string (λ _. refl) texts

category_back : (c : Category) → category_of (category_value c) ≡ Some c
category_back c = rw (texts_back c.values) refl

categories_back : (categories : List Category) → items_as category_of (items_of (map category_value categories)) ≡ Some categories
categories_back categories = items_back category_of category_value category_back categories

-- the draft with this weight column, and with its version
abbrev with_column : Option (List ℕ) → Draft → Draft
with_column weight draft = record draft { version = version_of weight; weight = weight }

members_back : (weight : Option (List ℕ)) (draft : Draft) → members_of (draft_value (with_column weight draft)) ≡ Ok (with_column weight draft)
unfolding members_of draft_value
members_back None draft = rw (texts_back draft.asks, categories_back draft.categories, texts_back draft.feeds, texts_back draft.finals) refl
members_back (Some name) draft = rw (texts_back draft.asks, categories_back draft.categories, texts_back draft.feeds, texts_back draft.finals) refl

none_missing : (weight : Option (List ℕ)) (draft : Draft) → first_missing (draft_value (with_column weight draft)) ≡ None
unfolding draft_value
none_missing None draft = refl
none_missing (Some name) draft = refl

none_unknown : (weight : Option (List ℕ)) (draft : Draft) → least_unknown (draft_value (with_column weight draft)) ≡ None
unfolding draft_value
none_unknown None draft = refl
none_unknown (Some name) draft = refl

is_object : (draft : Draft) → is_some (as_object (draft_value draft)) ≡ true
unfolding draft_value
is_object draft = refl

column_back : (weight : Option (List ℕ)) (draft : Draft) → value_meaning (draft_value (with_column weight draft)) ≡ tested (with_column weight draft)
unfolding value_meaning
column_back weight draft = rw (is_object (with_column weight draft), none_missing weight draft, none_unknown weight draft, members_back weight draft) refl

-- a draft that passes the tests is what its value means
pub value_back : (draft : Draft) → first_out_of_range draft ≡ None → first_repeated draft ≡ None → value_meaning (draft_value draft) ≡ Ok draft
value_back draft ranges repeats =
    let passes : tested draft ≡ Ok draft = rw (ranges, repeats) refl in
    subst (λ (d : Draft). value_meaning (draft_value d) ≡ tested d) (draft-versioned draft ranges) (column_back draft.weight draft) ∙ passes

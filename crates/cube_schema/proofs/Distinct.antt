-- Texts of which none is repeated.
use Rattle.std.proofs.Common.{◌≡◌, ℕ, Bool, true, false, cond, not, List, [], ◌∷◌, ◌++◌, Option, Some, None, refl, sym, ◌∙◌}
use Rattle.std.specs.Prelude.{◌&&◌}
use Rattle.std.specs.List.{list_all, AllByRecursion}
use Rattle.std.specs.Option.{option_or}
use Rattle.std.proofs.lemmas.Bool.{or_parts}
use Rattle.std.proofs.lemmas.Cmp.{nat_list_cmp_total, eq_by_cmp_equiv}
use Rattle.std.proofs.lemmas.List.Folds.{list_any-append}
use Rattle.cube_view.specs.Limits.{same_text, has_text, all_distinct, column_names, values_distinct, texts_distinct}
use Rattle.cube_view.specs.declared.category.Category.{Category}
use Rattle.cube_schema.specs.declared.draft.Draft.{Draft}
use Rattle.cube_schema.specs.Repeats.{repeated_after, repeated_in, repeated_value, file_names, first_repeated}

pub same_text-sym : (s t : List ℕ) → same_text s t ≡ same_text t s
same_text-sym s t = (eq_by_cmp_equiv nat_list_cmp_total).symm s t

-- the texts are none of the earlier ones
abbrev AreNew : List (List ℕ) → List (List ℕ) → Type 0
AreNew earlier texts = AllByRecursion (λ t. has_text earlier t ≡ false) texts

-- texts that are none of the earlier ones and of one more
split_new : (earlier : List (List ℕ)) (text : List ℕ) (texts : List (List ℕ)) → AreNew (earlier ++ text ∷ []) texts → AreNew earlier texts × (has_text texts text ≡ false)
split_new earlier text [] new = (tt, refl)
split_new earlier text (t ∷ texts) new =
    let both = or_parts (has_text earlier t) (has_text (text ∷ []) t) (sym (list_any-append (same_text t) earlier (text ∷ [])) ∙ new.0) in
    let apart = or_parts (same_text t text) false both.1 in
    let others = split_new earlier text texts new.1 in
    ((both.0, others.0), rw (same_text-sym text t, apart.0) others.1)

-- where nothing is repeated, the texts are new and distinct
distinct_after : (earlier texts : List (List ℕ)) → repeated_after earlier texts ≡ None → AreNew earlier texts × (all_distinct texts ≡ true)
distinct_after earlier [] e = (tt, refl)
distinct_after earlier (text ∷ texts) e = here (distinct_after (earlier ++ text ∷ []) texts) (has_text earlier text) refl e
  where
    here : (repeated_after (earlier ++ text ∷ []) texts ≡ None → AreNew (earlier ++ text ∷ []) texts × (all_distinct texts ≡ true))
        → (b : Bool) → has_text earlier text ≡ b → cond b (Some text) (repeated_after (earlier ++ text ∷ []) texts) ≡ None
        → ((has_text earlier text ≡ false) × AreNew earlier texts) × ((not (has_text texts text) && all_distinct texts) ≡ true)
    here later true is e = absurd cc
    here later false is e =
        let others = later e in
        let split = split_new earlier text texts others.0 in
        ((is, split.0), rw (split.1, others.1) refl)

distinct : (texts : List (List ℕ)) → repeated_in texts ≡ None → all_distinct texts ≡ true
distinct texts e = (distinct_after [] texts e).1

none_of_or : {A : Type 0} (o p : Option A) → option_or o p ≡ None → (o ≡ None) × (p ≡ None)
none_of_or None p e = (refl, e)
none_of_or (Some a) p e = absurd cc

values_are_distinct : (categories : List Category) → repeated_value categories ≡ None → list_all values_distinct categories ≡ true
values_are_distinct [] e = refl
values_are_distinct (c ∷ categories) e =
    let both = none_of_or (repeated_in c.values) (repeated_value categories) e in
    rw (distinct c.values both.0, values_are_distinct categories both.1) refl

-- the columns, and the values of each category
pub texts_are_distinct : (draft : Draft) → first_repeated draft ≡ None → texts_distinct draft.categories draft.weight ≡ true
unfolding first_repeated
texts_are_distinct draft e =
    let first = none_of_or (repeated_in (column_names draft.categories draft.weight)) _ e in
    let second = none_of_or (repeated_value draft.categories) _ first.1 in
    rw (distinct (column_names draft.categories draft.weight) first.0, values_are_distinct draft.categories second.0) refl

-- the files
pub files_are_distinct : (draft : Draft) → first_repeated draft ≡ None → all_distinct (file_names draft) ≡ true
unfolding first_repeated
files_are_distinct draft e =
    let first = none_of_or (repeated_in (column_names draft.categories draft.weight)) _ e in
    let second = none_of_or (repeated_value draft.categories) _ first.1 in
    distinct (file_names draft) second.1

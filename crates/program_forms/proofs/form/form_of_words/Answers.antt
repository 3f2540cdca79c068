use Rattle.std.proofs.Common.{◌≡◌, ◌∙◌, ℕ, List, Global, arith, map, string_bytes, sym, ap, codes}
use Rattle.std.proofs.lemmas.List.{length-map}
use Rattle.program_forms.proofs.Lengths.{none_behind, none_of_four, none_of_three, none_of_two}
use Rattle.program_forms.specs.Forms.{Recount, Save, Load}
use Rattle.program_forms.proofs.form.form_of_words.Goals as goal
use Rattle.program_forms.proofs.form.form_of_words.Goals.{in_default-names-4-via-then-names-lt4, in_default-names-4-via-else-names-lt4+else-names-lt5, in_default-names-5-via-then-names-lt2-4, in_default-names-5-via-else-names-lt2-4+else-names-lt3-2, in_default-names-6-via-then-names-lt3-3, in_default-names-6-via-else-names-lt3-3+else-names-lt4-2}

pub returns-in_default-names-4-clause-form : goal.returns-in_default-names-4-clause-form
returns-in_default-names-4-clause-form c =
    let bytes = string_bytes {Z = Global} in
    let names : List (List ℕ) = map bytes c.in_ok-verb.names.now in
    let verb : bytes c.in_ok-verb.verb.now ≡ codes "recount" = sym c.as_str.ensures.value ∙ c.in-recount.is in
    let same = length-map c.in_ok-verb.names.now bytes in
    none_behind names verb (ap (map bytes) c.in_ok-verb.ensures.cases.0) (none_of_four Recount names (λ four. elim c.in_default-names-4.branch [
      | in_default-names-4-via-then-names-lt4 w ↦ absurd (grind (arith, four, same))
      | in_default-names-4-via-else-names-lt4+else-names-lt5 w ↦ absurd (grind (arith, four, same))
    ]))

pub returns-in_default-names-5-clause-form : goal.returns-in_default-names-5-clause-form
returns-in_default-names-5-clause-form c =
    let bytes = string_bytes {Z = Global} in
    let names : List (List ℕ) = map bytes c.in_ok-verb.names.now in
    let verb : bytes c.in_ok-verb.verb.now ≡ codes "save" = sym c.as_str.ensures.value ∙ c.in-save.is in
    let same = length-map c.in_ok-verb.names.now bytes in
    none_behind names verb (ap (map bytes) c.in_ok-verb.ensures.cases.0) (none_of_two Save names (λ two. elim c.in_default-names-5.branch [
      | in_default-names-5-via-then-names-lt2-4 w ↦ absurd (grind (arith, two, same))
      | in_default-names-5-via-else-names-lt2-4+else-names-lt3-2 w ↦ absurd (grind (arith, two, same))
    ]))

pub returns-in_default-names-6-clause-form : goal.returns-in_default-names-6-clause-form
returns-in_default-names-6-clause-form c =
    let bytes = string_bytes {Z = Global} in
    let names : List (List ℕ) = map bytes c.in_ok-verb.names.now in
    let verb : bytes c.in_ok-verb.verb.now ≡ codes "load" = sym c.as_str.ensures.value ∙ c.in-load.is in
    let same = length-map c.in_ok-verb.names.now bytes in
    none_behind names verb (ap (map bytes) c.in_ok-verb.ensures.cases.0) (none_of_three Load names (λ three. elim c.in_default-names-6.branch [
      | in_default-names-6-via-then-names-lt3-3 w ↦ absurd (grind (arith, three, same))
      | in_default-names-6-via-else-names-lt3-3+else-names-lt4-2 w ↦ absurd (grind (arith, three, same))
    ]))

use Rattle.std.proofs.Common.{◌∷◌, [], map, ◌∙◌, ap, sym, arith, length, ◌≡◌}
use Rattle.std.specs.Prelude.{Some, string_bytes}
use Rattle.std.proofs.lemmas.List.{length-map}
use Rattle.flat.specs.Statuses.{word_names}
use Rattle.flat.proofs.Forms.{both_items, other_words}
use Rattle.flat.proofs.program.word_names.Goals as goal

pub returns-then-words-ne2 : goal.returns-then-words-ne2
returns-then-words-ne2 c =
    let size = length-map c.args.words.now string_bytes in
    other_words (map string_bytes c.args.words.now) (λ two. omega (arith, size, two))

pub returns : goal.returns
returns c =
    let whole = both_items c.args.words.now c.index-words-0.result c.index-words-1.result (omega arith) c.index-words-0.is c.index-words-1.is in
    sym (ap word_names (ap (map string_bytes) whole ∙ (λ i. sym c.as_str.ensures.value i ∷ sym c.as_str-2.ensures.value i ∷ [])))

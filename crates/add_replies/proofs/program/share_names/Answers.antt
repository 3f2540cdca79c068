use Rattle.std.proofs.Common.{◌∷◌, map, ◌∙◌, ap, sym, arith}
use Rattle.std.specs.Prelude.{string_bytes}
use Rattle.std.proofs.lemmas.List.{length-map}
use Rattle.add_replies.proofs.Forms.{first_two, form_is}
use Rattle.add_replies.proofs.program.share_names.Goals as goal

pub returns : goal.returns
returns c =
    let size = length-map c.args.words.now string_bytes in
    let whole = first_two c.args.words.now c.index-words-0.result c.index-words-1.result c.index-words-0.is c.index-words-1.is (omega arith) in
    form_is (map string_bytes c.args.words.now) c.as_str.result.now c.as_str-2.result.now (map string_bytes c.split_at.result.1.now)
    (ap (map string_bytes) whole ∙ (λ i. sym c.as_str.ensures.value i ∷ sym c.as_str-2.ensures.value i ∷ map string_bytes (sym c.split_at.ensures.back i)))
    (omega (arith, size)) (omega (arith, size))

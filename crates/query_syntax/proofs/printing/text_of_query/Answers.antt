use Rattle.std.proofs.Common.{◌≡◌, ◌∙◌, List, ℕ, true, ◌++◌, ap, sym, string_bytes}
use Rattle.std.specs.Str.{is_utf8}
use Rattle.std.proofs.lemmas.Str.{IsUtf8-string_bytes, is_utf8-from_IsUtf8}
use Rattle.query_syntax.specs.Meaning.{meaning}
use Rattle.query_syntax.specs.Spelling.{query_text, spaced, further_texts}
use Rattle.query_syntax.proofs.ReadBack.{read_back}
use Rattle.query_syntax.proofs.printing.text_of_query.Goals as goal

pub returns-clause-text : goal.returns-clause-text
unfolding query_text
returns-clause-text c =
    c.in_ok-push_further.ensures ∙ ap (λ (t : List ℕ). t ++ spaced (further_texts c.args.schema.now c.args.query.now)) (c.in_ok-text.ensures.ok ∙ c.name_of_verb.ensures)

pub returns-clause-read_back : goal.returns-clause-read_back
returns-clause-read_back c =
    let schema = c.args.schema.now in
    let query = c.args.query.now in
    let text : string_bytes c.push_further.new.text ≡ query_text schema query = returns-clause-text c in
    let utf8 : is_utf8 (query_text schema query) ≡ true = ap is_utf8 (sym text) ∙ is_utf8-from_IsUtf8 (string_bytes c.push_further.new.text) (IsUtf8-string_bytes c.push_further.new.text) in
    ap (meaning schema) text ∙ read_back schema query c.requires utf8

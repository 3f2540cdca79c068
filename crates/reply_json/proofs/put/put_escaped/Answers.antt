use Rattle.std.proofs.Common.{ℕ, List, [], ◌∷◌, ◌++◌, ap, ap₂, ◌∙◌, append-nil}
use Rattle.json.specs.Print.{print, print_from, quoted}
use Rattle.json.specs.Token.{Token, string}
use Rattle.reply_json.proofs.put.put_escaped.Goals as goal

pub returns : goal.returns
unfolding print_from
returns c =
    let before = c.string-done.ensures.room.0 ∙ c.new-writer.ensures.before ∙ ap (λ v. v.items) c.replace.ensures.value in
    let tokens = c.in_ok-done.ensures.ok ∙ ap (λ (ts : List Token). ts ++ string c.args.text.now ∷ []) c.new-writer.ensures.tokens in
    c.into_inner.ensures.items
    ∙ ap₂ (λ (front : List ℕ) (ts : List Token). front ++ print ts) before tokens
    ∙ ap (λ (bytes : List ℕ). c.args.out.now.items ++ bytes) (append-nil (quoted c.args.text.now))

use Rattle.std.proofs.Common.{ℕ, ◌%◌, ◌∙◌, ap, sym, subst, true, set, arith}
use Rattle.std.specs.Prelude.{Bool, List}
use Rattle.query_syntax.specs.SetBits.{AreWords, members_in_words}
use Rattle.query_syntax.proofs.SetBits.{words_at, members_in_words-set, words-set}
use Rattle.query_syntax.proofs.value_set.ValueSet.insert.Goals as goal

pub invariant_of-self : goal.invariant_of-self
invariant_of-self c =
    let words = c.self.inside.bits in
    subst (λ (i : ℕ). AreWords (words_at words i (c.args.value % 64))) (sym c.from.ensures) (words-set words c.args.value (omega arith) c.self.invariant)

pub returns : goal.returns
returns c =
    let words = c.self.inside.bits in
    ap (λ (i : ℕ). members_in_words (words_at words i (c.args.value % 64))) c.from.ensures
    ∙ members_in_words-set words c.args.value (omega arith) c.self.invariant.four ∙ ap (λ (s : List Bool). set s c.args.value true) c.self.view_is

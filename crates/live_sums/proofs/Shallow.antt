-- What a schema takes is shallow.
use Rattle.std.proofs.Common.{ℕ, zero, suc, ◌<◌, [], ◌∷◌, length, get_or, arith}
use Rattle.std.specs.Prelude.{IsTrue}
use Rattle.cube_view.specs.declared.schema.Schema.{Schema}
use Rattle.query_syntax.specs.Meaning.{asks_valid}
use Rattle.query_syntax.specs.declared.query.Parsed.{Parsed}
use Rattle.reply_sums.specs.Sums.{AsksShallow}
use Rattle.share_replies.proofs.ShallowQueries.{all_shallow}

at_one : (schema : Schema) (p : Parsed) → IsTrue (asks_valid schema p) → (k : ℕ) (d : Parsed) → k < length (p ∷ []) → IsTrue (asks_valid schema (get_or (p ∷ []) k d))
at_one schema p valid zero d lt = valid
at_one schema p valid (suc k) d lt = absurd (omega (arith, lt))

-- one that is taken
pub one_shallow : (schema : Schema) (p : Parsed) → IsTrue (asks_valid schema p) → AsksShallow p
one_shallow schema p valid = all_shallow schema (p ∷ []) (at_one schema p valid) 0 p (omega arith)

-- What a line asks.
use Rattle.std.specs.Prelude.{◌≡◌, true, IsTrue, ⊤}
use Rattle.cube_view.specs.declared.schema.Schema.{Schema}
use Rattle.query_syntax.specs.Meaning.{asks_valid}
use Rattle.query_syntax.specs.declared.query.Parsed.{Parsed}
use Rattle.query_syntax.specs.declared.query.Parsed.TheVariants.{Skip}
use Rattle.session_core.specs.Asked.{asks_reply, asks_to_end}
use Rattle.live_sums.specs.declared.question.Next.{Next}
use Rattle.live_sums.specs.declared.question.Next.TheVariants as next

-- what a line asks that means this
abbrev pub HasMeaning : Parsed → Next → Type 0
HasMeaning p next.Nothing = p ≡ Skip
HasMeaning p (next.Asks q) = (q.asked ≡ p) × (asks_reply p ≡ true)
HasMeaning p next.End = asks_to_end p ≡ true

-- a question that is asked is one that the schema takes
abbrev pub IsAskValid : Schema → Next → Type 0
IsAskValid schema next.Nothing = ⊤
IsAskValid schema (next.Asks q) = IsTrue (asks_valid schema q.asked)
IsAskValid schema next.End = ⊤

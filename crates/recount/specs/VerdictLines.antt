-- The line of a verdict. It ends with a line feed.
use Rattle.std.specs.Prelude.{ℕ, List, [], ◌∷◌, ◌++◌, codes}
use Rattle.std.specs.Fmt.{decimal}
use Rattle.recount.specs.declared.verdict.Verdict.{Verdict}
use Rattle.recount.specs.declared.verdict.Verdict.TheVariants as verdict
use Rattle.recount.specs.declared.verdict.Why.{Why}
use Rattle.recount.specs.declared.verdict.Why.TheVariants as why

-- the name of a test
abbrev pub why_text : Why → List ℕ
why_text why.NotEntry = codes "NotEntry"
why_text why.WrongNumber = codes "WrongNumber"
why_text why.TooFew = codes "TooFew"
why_text why.TooMany = codes "TooMany"
why_text why.NotReply = codes "NotReply"
why_text why.PastEnd = codes "PastEnd"
why_text why.Fell = codes "Fell"
why_text why.Wrong = codes "Wrong"

-- `M without memory`
unfoldable pub without_line : ℕ → List ℕ
without_line without = decimal without ++ codes " without memory" ++ 10 ∷ []

-- `recount: R replies agree, M without memory`
unfoldable pub agree_line : ℕ → ℕ → List ℕ
agree_line replies without = codes "recount: " ++ decimal replies ++ codes " replies agree, " ++ without_line without

-- that, or `recount: journal line L: WHY`, or `recount: reply L: WHY`
unfoldable pub verdict_line : Verdict → List ℕ
verdict_line (verdict.Agree replies without) = agree_line replies without
verdict_line (verdict.Journal line why) = codes "recount: journal line " ++ decimal line ++ codes ": " ++ why_text why ++ 10 ∷ []
verdict_line (verdict.Replies place why) = codes "recount: reply " ++ decimal place ++ codes ": " ++ why_text why ++ 10 ∷ []

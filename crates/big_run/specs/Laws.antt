-- Laws of a large run, as statements.
use Rattle.std.specs.Prelude.{◌≡◌, ℕ, ◌≤◌, List, [], ◌∷◌, None}
use Rattle.query_syntax.specs.Queries.{all_bins, whole_space}
use Rattle.query_syntax.specs.declared.query.Choice.TheVariants.{All}
use Rattle.query_syntax.specs.declared.query.Parsed.{Parsed}
use Rattle.query_syntax.specs.declared.query.Parsed.TheVariants.{Ask}
use Rattle.query_syntax.specs.declared.query.Verb.{Verb}
use Rattle.query_syntax.specs.declared.query.Verb.TheVariants.{Count, Hist, Map, Series}
use Rattle.run_files.specs.Lines.{counts_line}
use Rattle.big_run.specs.Text.{feed_line, final_asked}

-- every row of a generated feed is a point: its line says that all were accepted
abbrev pub AllAccepted : Type 0
AllAccepted = (name : List ℕ) (state count : ℕ) → count ≤ 100000 → feed_line name state count ≡ counts_line name (record { accepted = count; blank = 0; refused = 0; fault = None; first = [] })

-- what a line of the verb without filters asks
abbrev pub plainly : Verb → Parsed
plainly verb = Ask (record { verb = verb; region = whole_space; sets = All ∷ All ∷ All ∷ All ∷ []; time = all_bins })

-- the final script asks for four tables: the count, the values of `kind`, the quarters, and four rows of 256 bins
abbrev pub AsksFour : Type 0
AsksFour = final_asked ≡ plainly Count ∷ plainly (Hist 0) ∷ plainly (Map 1) ∷ plainly (Series 0 256 4) ∷ []

-- What saving a cube prints. Each line ends with a line feed.
use Rattle.std.specs.Prelude.{ℕ, List, [], ◌∷◌, ◌++◌, codes}
use Rattle.std.specs.Fmt.{decimal}
use Rattle.cube_schema.specs.declared.plan.Plan.{Plan}
use Rattle.feed_reader.specs.declared.counts.FeedCounts.{FeedCounts}
use Rattle.run_files.specs.Reports.{feeds_text}

-- `image: B bytes`
unfoldable pub size_line : ℕ → List ℕ
size_line size = codes "image: " ++ decimal size ++ codes " bytes" ++ 10 ∷ []

-- the lines of the plan's feeds, and then the length of the image
abbrev pub saved_text : Plan → List FeedCounts → ℕ → List ℕ
saved_text plan feeds size = feeds_text plan.schema plan.feeds feeds ++ size_line size

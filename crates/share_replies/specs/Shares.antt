-- Shares: disjoint lists of points, each with the final replies to one script.
use Rattle.std.specs.Prelude.{ℕ, ◌+◌, true, false, List, [], ◌∷◌, ◌++◌, ⊤}
use Rattle.cube_view.specs.Points.{Point}
use Rattle.cube_view.specs.declared.schema.Schema.{Schema}
use Rattle.cube_view.specs.declared.stat.Stat.{Stat}
use Rattle.query_syntax.specs.declared.query.Parsed.{Parsed}
use Rattle.session_core.specs.Transcript.{IsTranscriptText}

-- A list of points, and how many of it were told
pub record Share : Type 0 where
  pub points : List Point
  pub told : ℕ

-- no points
abbrev pub nothing : Share
nothing = record { points = []; told = 0 }

-- the points of two, joined
abbrev pub joined_shares : Share → Share → Share
joined_shares s t = record { points = s.points ++ t.points; told = s.told + t.told }

-- the points of all, joined in order
abbrev pub together : List Share → Share
together [] = nothing
together (s ∷ shares) = joined_shares s (together shares)

-- any numbers of a structure
abbrev pub AnyStat : Stat → Type 0
AnyStat stat = ⊤

-- the text is the final transcript of what was asked over the share, and no line of it is that for want of memory
abbrev pub IsShare : Schema → List Parsed → Share → List ℕ → Type 0
IsShare schema ps s text = IsTranscriptText schema AnyStat true s.points s.told false ps text

-- each of the texts is so over one of the shares, in order
abbrev pub AreShares : Schema → List Parsed → List Share → List (List ℕ) → Type 0
AreShares schema ps [] [] = ⊤
AreShares schema ps (s ∷ shares) (text ∷ texts) = IsShare schema ps s text × AreShares schema ps shares texts
AreShares schema ps shares texts = ⊥

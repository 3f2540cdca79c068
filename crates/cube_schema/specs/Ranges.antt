-- The ranges of a plan's members.
use Rattle.std.specs.Prelude.{ℕ, Bool, true, ◌&&◌, ◌||◌, not, ◌==◌, nat_le, List, length, slice_index, find, Option}
use Rattle.std.specs.List.{list_all}
use Rattle.cube_view.specs.Limits.{is_between, categories_in_range, weight_in_range}
use Rattle.cube_schema.specs.declared.draft.Draft.{Draft}
use Rattle.cube_schema.specs.declared.member.Member.{Member}
use Rattle.cube_schema.specs.declared.member.Member.TheVariants.{Asks, Batch, Categories, Depth, Feeds, Finals, Journal, Start, Version, Weight, Width}
use Rattle.cube_schema.specs.Versions.{version_of}
use Rattle.cube_schema.specs.Members.{plan_members}

-- a letter, a digit, a dot, an underscore or a hyphen
abbrev pub is_file_byte : ℕ → Bool
is_file_byte b = is_between 65 90 b || is_between 97 122 b || is_between 48 57 b || (b == 46) || (b == 95) || (b == 45)

-- a file name in a plan: 1 to 64 such characters, of which the first is no dot
abbrev pub is_file_name : List ℕ → Bool
is_file_name name = is_between 1 64 (length name) && list_all is_file_byte name && not (slice_index name 0 == 46)

-- from so many to 8 file names
abbrev pub are_files : ℕ → List (List ℕ) → Bool
are_files least names = is_between least 8 (length names) && list_all is_file_name names

-- The member is within its range. A category's name, number of values and values count for `categories`. A version
-- is 2 where the plan has a weight, and else 1; a weight is read exactly where the version is 2.
abbrev pub member_in_range : Draft → Member → Bool
member_in_range draft Asks = are_files 0 draft.asks
member_in_range draft Batch = is_between 1 65536 draft.batch
member_in_range draft Categories = categories_in_range draft.categories
member_in_range draft Depth = is_between 1 20 draft.depth
member_in_range draft Feeds = are_files 1 draft.feeds
member_in_range draft Finals = are_files 0 draft.finals
member_in_range draft Journal = is_file_name draft.journal
member_in_range draft Start = true
member_in_range draft Version = draft.version == version_of draft.weight
member_in_range draft Weight = weight_in_range draft.weight
member_in_range draft Width = nat_le 1 draft.width

-- the first member that is out of its range
unfoldable pub first_out_of_range : Draft → Option Member
first_out_of_range draft = find (λ m. not (member_in_range draft m)) plan_members

-- The members of a plan and of a category, by their names.
use Rattle.std.specs.Prelude.{ℕ, Bool, List, [], ◌∷◌, codes, find, filter, ◌&&◌, not, is_none, Option, Some, None}
use Rattle.std.specs.List.{list_any}
use Rattle.std.specs.Option.{option_map_or}
use Rattle.std.specs.Ordering.{nat_cmp, match_ordering}
use Rattle.std.specs.Cmp.Lexicographic.{slice_cmp}
use Rattle.serde_json.specs.Data.{Data, null, boolean, number, string, array, object, Members, no_members, member}
use Rattle.serde_json.specs.Find.{get}
use Rattle.cube_view.specs.Limits.{same_text}
use Rattle.cube_schema.specs.Versions.{is_weighted, has_member}
use Rattle.cube_schema.specs.declared.member.Member.{Member}
use Rattle.cube_schema.specs.declared.member.Member.TheVariants.{Asks, Batch, Categories, Depth, Feeds, Finals, Journal, Start, Version, Weight, Width}

-- the members of a plan, in the byte order of their names
abbrev pub plan_members : List Member
plan_members = Asks ∷ Batch ∷ Categories ∷ Depth ∷ Feeds ∷ Finals ∷ Journal ∷ Start ∷ Version ∷ Weight ∷ Width ∷ []

-- the name of a member in the text of a plan
abbrev pub member_name : Member → List ℕ
member_name Asks = codes "asks"
member_name Batch = codes "batch"
member_name Categories = codes "categories"
member_name Depth = codes "depth"
member_name Feeds = codes "feeds"
member_name Finals = codes "finals"
member_name Journal = codes "journal"
member_name Start = codes "start"
member_name Version = codes "version"
member_name Weight = codes "weight"
member_name Width = codes "width"

-- the names of the members of an object
abbrev pub names_in : Members → List (List ℕ)
names_in no_members = []
names_in (member name d ms) = name ∷ names_in ms

-- the names of a value's members; none where it is no object
abbrev pub names_of : Data → List (List ℕ)
names_of null = []
names_of (boolean b) = []
names_of (number n) = []
names_of (string s) = []
names_of (array ds) = []
names_of (object ms) = names_in ms

-- the text is the name of a member that the plan has, where it may be weighted
abbrev pub is_plan_name : Bool → List ℕ → Bool
is_plan_name weighted text = list_any (λ m. has_member weighted m && same_text (member_name m) text) plan_members

-- the plan has this member, and the object lacks it
abbrev pub is_missing : Data → Member → Bool
is_missing d m = has_member (is_weighted d) m && is_none (get (member_name m) d)

-- the first member of a plan that the object lacks
abbrev pub first_missing : Data → Option Member
first_missing d = find (is_missing d) plan_members

-- the text that comes first by bytes, of the two
abbrev pub lesser : List ℕ → List ℕ → List ℕ
lesser s t = match_ordering (slice_cmp nat_cmp s t) s s t

-- the text that comes first by bytes
abbrev pub least_of : List (List ℕ) → Option (List ℕ)
least_of [] = None
least_of (text ∷ texts) = Some (option_map_or (lesser text) (least_of texts) text)

-- the least name, by bytes, of a member of the object that is none of a plan's
abbrev pub least_unknown : Data → Option (List ℕ)
least_unknown d = least_of (filter (λ name. not (is_plan_name (is_weighted d) name)) (names_of d))

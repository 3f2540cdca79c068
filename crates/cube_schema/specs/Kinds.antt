-- The kinds of a plan's members, and what a value of the right kind is read as.
use Rattle.std.specs.Prelude.{ℕ, Bool, true, false, if◌then◌else◌, List, [], ◌∷◌, codes, length, ◌==◌, Option, Some, None, option_map, option_and_then, Result, Ok, Err}
use Rattle.serde_json.specs.Data.{Data, Items, no_items, item}
use Rattle.serde_json.specs.Find.{get, as_str, as_array}
use Rattle.cube_view.specs.declared.category.Category.{Category}
use Rattle.cube_view.specs.Results.{◌>>=◌}
use Rattle.cube_schema.specs.declared.draft.Draft.{Draft}
use Rattle.cube_schema.specs.declared.member.Member.{Member}
use Rattle.cube_schema.specs.declared.member.Member.TheVariants.{Asks, Batch, Categories, Depth, Feeds, Finals, Journal, Start, Version, Weight, Width}
use Rattle.cube_schema.specs.declared.fault.PlanFault.{PlanFault}
use Rattle.cube_schema.specs.declared.fault.PlanFault.TheVariants.{BadKind}
use Rattle.cube_schema.specs.Versions.{as_whole_number, is_weighted}
use Rattle.cube_schema.specs.Members.{member_name, names_of}

-- the items of an array, each read as the kind; none where one of them is of another
abbrev pub items_as : {A : Type 0} → (Data → Option A) → Items → Option (List A)
items_as kind no_items = Some []
items_as kind (item d ds) = option_and_then (λ first. option_map (λ others. first ∷ others) (items_as kind ds)) (kind d)

-- an array of texts
abbrev pub texts : Data → Option (List (List ℕ))
texts d = option_and_then (items_as as_str) (as_array d)

-- the category that these parts make, where the object has two members in all
abbrev pub category_if : Bool → List ℕ → List (List ℕ) → Option Category
category_if true name values = Some (record { name = name; values = values })
category_if false name values = None

-- a category: an object with the two members `name`, a text, and `values`, an array of texts
abbrev pub category_of : Data → Option Category
category_of d =
    option_and_then (λ name. option_and_then (category_if (length (names_of d) == 2) name)
    (option_and_then texts (get (codes "values") d))) (option_and_then as_str (get (codes "name") d))

-- an array of categories
abbrev pub categories : Data → Option (List Category)
categories d = option_and_then (items_as category_of) (as_array d)

-- what was found, or else the fault
abbrev pub found_or : {A : Type 0} → PlanFault → Option A → Result A PlanFault
found_or fault None = Err fault
found_or fault (Some a) = Ok a

-- the member of the object, read as its kind
abbrev pub member_as : {A : Type 0} → (Data → Option A) → Data → Member → Result A PlanFault
member_as kind d m = found_or (BadKind m) (option_and_then kind (get (member_name m) d))

-- the name of the weight column, which a weighted plan has
abbrev pub weight_as : Data → Result (Option (List ℕ)) PlanFault
weight_as d = if is_weighted d then member_as as_str d Weight >>= (λ name. Ok (Some name)) else Ok None

-- The members of a plan, each read as its kind. They are read in the byte order of their names, so the
-- fault names the first one of the wrong kind.
unfoldable pub members_of : Data → Result Draft PlanFault
members_of d = do
  asks ← member_as texts d Asks
  batch ← member_as as_whole_number d Batch
  categories ← member_as categories d Categories
  depth ← member_as as_whole_number d Depth
  feeds ← member_as texts d Feeds
  finals ← member_as texts d Finals
  journal ← member_as as_str d Journal
  start ← member_as as_whole_number d Start
  version ← member_as as_whole_number d Version
  weight ← weight_as d
  width ← member_as as_whole_number d Width
  Ok (record { asks = asks; batch = batch; categories = categories; depth = depth; feeds = feeds; finals = finals; journal = journal; start = start; version = version; weight = weight; width = width })

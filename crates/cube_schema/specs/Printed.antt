-- The text of a plan: the compact JSON of an object, members in byte order of their names.
use Rattle.std.specs.Prelude.{ℕ, List, codes, map, Option, Some, None}
use Rattle.serde_json.specs.Data.{Data, number, unsigned, string, array, object, Members, no_members, member}
use Rattle.serde_json.specs.View.{items_of}
use Rattle.serde_json.specs.Written.{compact_text}
use Rattle.cube_view.specs.declared.category.Category.{Category}
use Rattle.cube_schema.specs.declared.draft.Draft.{Draft}
use Rattle.cube_schema.specs.declared.plan.Plan.{Plan}
use Rattle.cube_schema.specs.Drafts.{draft_of}

-- an array of texts
abbrev pub texts_value : List (List ℕ) → Data
texts_value texts = array (items_of (map string texts))

-- a category as an object
abbrev pub category_value : Category → Data
category_value c = object (member (codes "name") (string c.name) (member (codes "values") (texts_value c.values) no_members))

-- an array of categories
abbrev pub categories_value : List Category → Data
categories_value categories = array (items_of (map category_value categories))

-- the members, where there is a weight column, with its name before them
abbrev pub weight_member : Option (List ℕ) → Members → Members
weight_member None members = members
weight_member (Some name) members = member (codes "weight") (string name) members

-- the members of a draft's object
abbrev pub draft_members : Draft → Members
draft_members draft =
    member (codes "asks") (texts_value draft.asks)
    (member (codes "batch") (number (unsigned draft.batch))
    (member (codes "categories") (categories_value draft.categories)
    (member (codes "depth") (number (unsigned draft.depth))
    (member (codes "feeds") (texts_value draft.feeds)
    (member (codes "finals") (texts_value draft.finals)
    (member (codes "journal") (string draft.journal)
    (member (codes "start") (number (unsigned draft.start))
    (member (codes "version") (number (unsigned draft.version))
    (weight_member draft.weight
    (member (codes "width") (number (unsigned draft.width)) no_members))))))))))

-- a draft as an object
unfoldable pub draft_value : Draft → Data
draft_value draft = object (draft_members draft)

-- the text of a plan
abbrev pub plan_text : Plan → List ℕ
plan_text plan = compact_text (draft_value (draft_of plan))

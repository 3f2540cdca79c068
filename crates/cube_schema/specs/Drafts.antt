-- A draft: what the members of a plan's text say, before their ranges are tested.
use Rattle.cube_schema.specs.declared.draft.Draft.{Draft}
use Rattle.cube_schema.specs.declared.plan.Plan.{Plan}
use Rattle.cube_schema.specs.Versions.{version_of}

-- what the members of a plan's text say, of a plan; its version is 2 where its schema names a weight column, and else 1
abbrev pub draft_of : Plan → Draft
draft_of plan = record {
  asks = plan.asks;
  batch = plan.schema.batch;
  categories = plan.schema.categories;
  depth = plan.schema.depth;
  feeds = plan.feeds;
  finals = plan.finals;
  journal = plan.journal;
  start = plan.schema.start;
  version = version_of plan.schema.weight;
  weight = plan.schema.weight;
  width = plan.schema.width;
}

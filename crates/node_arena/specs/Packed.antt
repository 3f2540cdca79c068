-- A link as it is stored.
use Rattle.std.specs.Prelude.{ℕ, Option, Some, None}
use Rattle.node_arena.specs.declared.link.Link.{Link}
use Rattle.node_arena.specs.declared.link.LinkKind.{LinkKind}

-- the link to a slot that has a kind; without a kind there is none
abbrev pub content_from : ℕ → Option LinkKind → Option Link
content_from to None = None
content_from to (Some kind) = Some (record { to = record { 0 = to }; kind = kind })

use Rattle.std.proofs.Common.{◌∙◌, sym, ap, length}
use Rattle.cube_schema.proofs.Objects.{names_of-object, length-names_in}
use Rattle.cube_schema.proofs.kinds.member_count.Goals as goal

pub returns-in-Some : goal.returns-in-Some
returns-in-Some c = c.len.ensures.len ∙ sym (ap length (names_of-object _ _ c.in-Some.ensures) ∙ length-names_in _)

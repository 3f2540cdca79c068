use Rattle.std.proofs.Common.{◌≡◌, List, ◌++◌, sym, ap, ◌∙◌, subst}
use Rattle.std.specs.Option.{option_to_list}
use Rattle.shape_test.specs.Agreeing.{MergesOver}
use Rattle.shape_test.specs.Parts.{ArePartsIn, PartsAgree, content_part, parts_of}
use Rattle.shape_test.specs.declared.parts.Part.{Part}
use Rattle.shape_test.proofs.NodeParts.{merged_sums, sums_merged}
use Rattle.shape_test.proofs.PartLists.{content_within, parts_within}
use Rattle.shape_test.proofs.RowRemainders.{decides_same}
use Rattle.shape_test.proofs.merging.parts_agree.Goals as goal

pub sums_agree-requires-clause-within : goal.sums_agree-requires-clause-within
sums_agree-requires-clause-within g c =
    let own : c.as_slice.result.now ≡ option_to_list (content_part c.args.arena.now 0 c.args.id.0) = c.as_slice.ensures.value ∙ (c.in_ok-add_content.ensures {u = tt} ∙ ap (λ (ps : List Part). ps ++ option_to_list (content_part c.args.arena.now 0 c.args.id.0)) c.new-whole.ensures.items) in
    let parts : c.as_slice-2.result.now ≡ parts_of c.args.arena.now c.args.id.0 = c.as_slice-2.ensures.value ∙ (c.in_ok-add_parts.ensures.added ∙ ap (λ (ps : List Part). ps ++ parts_of c.args.arena.now c.args.id.0) c.new-parts.ensures.items) in
    (subst (ArePartsIn c.args.arena.now) (sym own) (content_within c.args.arena.now c.requires.readable.within 0 c.args.id.0), subst (ArePartsIn c.args.arena.now) (sym parts) (parts_within c.args.arena.now c.requires.readable.within c.args.id.0))

pub returns : goal.returns
returns g c =
    let own : c.as_slice.result.now ≡ option_to_list (content_part c.args.arena.now 0 c.args.id.0) = c.as_slice.ensures.value ∙ (c.in_ok-add_content.ensures {u = tt} ∙ ap (λ (ps : List Part). ps ++ option_to_list (content_part c.args.arena.now 0 c.args.id.0)) c.new-whole.ensures.items) in
    let parts : c.as_slice-2.result.now ≡ parts_of c.args.arena.now c.args.id.0 = c.as_slice-2.ensures.value ∙ (c.in_ok-add_parts.ensures.added ∙ ap (λ (ps : List Part). ps ++ parts_of c.args.arena.now c.args.id.0) c.new-parts.ensures.items) in
    decides_same c.sums_agree.result (PartsAgree c.args.arena.now c.as_slice.result.now c.as_slice-2.result.now c.args.left) (MergesOver c.args.arena.now c.args.id.0 c.args.left) (merged_sums c.args.arena.now c.args.id.0 c.args.left c.as_slice.result.now c.as_slice-2.result.now c.in_ok-add_parts.ensures.rising own parts) (sums_merged c.args.arena.now c.args.id.0 c.args.left c.as_slice.result.now c.as_slice-2.result.now c.in_ok-add_parts.ensures.rising own parts) c.sums_agree.ensures

use Rattle.std.proofs.Common.{◌≡◌, List, ℕ, BTreeMap, String, Global, string_bytes, string_cmp, refl, sym, ap, ◌∙◌, rules}
use Rattle.std.specs.Prelude.{codes}
use Rattle.std.specs.BTreeMap.{insert_entry}
use Rattle.serde_json.specs.Data.{Members, object, string, put}
use Rattle.serde_json.specs.View.{view, members_view}
use Rattle.serde_json.specs.declared.value.Value.{Value, Object}
use Rattle.serde_json.proofs.Views.{view-Object, members_view-insert_entry}
use Rattle.cube_schema.proofs.printing.with_weight_member.Goals as goal

same_members : (ms ns : Members) → object ms ≡ object ns → ms ≡ ns
same_members ms ns e = cc

view-insert : (value text : Value) (old new : BTreeMap (String Global) Value) (key : String Global) (name : List ℕ) (members : Members) → value ≡ Object old → view value ≡ object members
    → new.entries ≡ insert_entry string_cmp old.entries key text → string_bytes key ≡ codes "weight" → view text ≡ string name
    → view (Object new) ≡ object (put (codes "weight") (string name) members)
view-insert value text old new key name members is seen entries copied written =
    let inside : members_view old.entries ≡ members = same_members _ _ (sym (view-Object old) ∙ sym (ap view is) ∙ seen) in
    let made : members_view new.entries ≡ put (string_bytes key) (view text) (members_view old.entries) = ap members_view entries ∙ members_view-insert_entry old.entries key text in
    view-Object new ∙ ap object (made ∙ rw (copied, written, inside) refl)

pub returns-in_ok-insert-in-Object : goal.returns-in_ok-insert-in-Object
returns-in_ok-insert-in-Object c = λ members seen.
    view-insert c.args.value c.in_ok-text-in-Object.text c.in-Object.members c.insert.new.self c.in_ok-key-in-Object.key c.args.name.now members c.in-Object.is seen
    c.in_ok-insert-in-Object.ensures.entries (search rules) (search rules)

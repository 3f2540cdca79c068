use Rattle.std.proofs.Common.{◌≡◌, ◌+◌, List, sym, ◌∙◌, subst, arith, rules}
use Rattle.cube_view.specs.Places.{time_dim}
use Rattle.node_arena.specs.Slots.{Slot}
use Rattle.proper_path.specs.Paths.{point_path}
use Rattle.cube_store.specs.Counted.{HasPoints}
use Rattle.cube_store.specs.Inserting.{CanInsert, Inserts}
use Rattle.cube_store.proofs.CubeBags.{IsBag-cube}
use Rattle.cube_store.proofs.PointLists.{can_insert, counts_joined, has_more, root_of_points}
use Rattle.cube_store.proofs.Numbers.{OwnsAllButRoot-cube}
use Rattle.cube_store.proofs.cube.Cube.insert.Goals as goal

pub insert_into-requires-clause-root : goal.insert_into-requires-clause-root
insert_into-requires-clause-root c = root_of_points _ _ _ _ c.args.self.now.counted

pub insert_into-requires-clause-known : goal.insert_into-requires-clause-known
insert_into-requires-clause-known c =
    let old : c.replace-arena.result ≡ c.args.self.now.arena = search rules in
    subst (λ (a : List Slot). ∥ CanInsert (time_dim c.args.self.now.schema) (point_path c.args.self.now.schema c.args.point) a ∥₁) (sym old)
    (can_insert c.args.self.now.schema c.args.point c.args.self.now.arena c.args.self.now.root.0 c.args.self.now.size c.requires.sound c.requires.room c.args.self.now.counted)

pub invariant_of-self : goal.invariant_of-self
invariant_of-self c =
    let old : c.replace-arena.result ≡ c.args.self.now.arena = search rules in
    let I : Inserts (time_dim c.args.self.now.schema) (point_path c.args.self.now.schema c.args.point) c.args.self.now.arena c.in-Ok.arena =
    subst (λ (a : List Slot). Inserts (time_dim c.args.self.now.schema) (point_path c.args.self.now.schema c.args.point) a c.in-Ok.arena) old c.in-Ok.ensures.inserted in
    let has : HasPoints c.args.self.now.schema c.in-Ok.arena c.args.self.now.root.0 (c.args.self.now.size + 1) = has_more c.args.self.now.schema c.args.point c.args.self.now.arena c.in-Ok.arena c.args.self.now.root.0 c.args.self.now.size c.requires.sound c.tell_length.ensures c.requires.room I c.args.self.now.counted in
    record {
      counted = has;
      bag = IsBag-cube _ _ _ _ has (let r = c.requires.room in omega (arith, r));
      owned = OwnsAllButRoot-cube _ _ _ _ has;
    }

pub invariant_of-self-in-Err : goal.invariant_of-self-in-Err
invariant_of-self-in-Err c =
    let old : c.replace-arena.result ≡ c.args.self.now.arena = search rules in
    let has : HasPoints c.args.self.now.schema c.in-Err.arena c.args.self.now.root.0 c.args.self.now.size = subst (λ (a : List Slot). HasPoints c.args.self.now.schema a c.args.self.now.root.0 c.args.self.now.size) (sym (c.in-Err.ensures.back ∙ old)) c.args.self.now.counted in
    record {
      counted = has;
      bag = IsBag-cube _ _ _ _ has c.args.self.now.bag.few;
      owned = OwnsAllButRoot-cube _ _ _ _ has;
    }

pub returns-in-Ok-clause-counted : goal.returns-in-Ok-clause-counted
returns-in-Ok-clause-counted c h C =
    let old : c.replace-arena.result ≡ c.args.self.now.arena = search rules in
    counts_joined c.args.self.now.schema c.args.point c.args.self.now.arena c.in-Ok.arena c.args.self.now.root.0 c.args.self.now.size h c.requires.sound c.tell_length.ensures c.requires.room
    (subst (λ (a : List Slot). Inserts (time_dim c.args.self.now.schema) (point_path c.args.self.now.schema c.args.point) a c.in-Ok.arena) old c.in-Ok.ensures.inserted) C

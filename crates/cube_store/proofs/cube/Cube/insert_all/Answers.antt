use Rattle.std.proofs.Common.{◌+◌, IsTrue, List, length, sym, ◌∙◌, ap, subst, arith}
use Rattle.std.proofs.lemmas.List.Sorted.{All-permutation, length_permutation}
use Rattle.std.specs.List.Sorted.{IsPermutation}
use Rattle.cube_view.specs.Points.{Point}
use Rattle.cube_view.specs.Validity.{sound}
use Rattle.node_arena.specs.Slots.{Slot}
use Rattle.cube_store.specs.Counted.{AddsLeast, AddsPoints, HasPoints}
use Rattle.cube_store.proofs.CubeBags.{IsBag-cube}
use Rattle.cube_store.proofs.Growth.{counts_one}
use Rattle.cube_store.proofs.Batches.{adds_permuted, has_added}
use Rattle.cube_store.proofs.LeastCubes.{least_in_order, never_group}
use Rattle.cube_store.proofs.Numbers.{OwnsAllButRoot-cube}
use Rattle.cube_store.proofs.cube.Cube.insert_all.Goals as goal

pub insert_group-requires-clause-sound : goal.insert_group-requires-clause-sound
insert_group-requires-clause-sound c =
    let P : IsPermutation c.args.points.now c.deref.result.now = subst (λ (l : List Point). IsPermutation c.args.points.now l) (sym c.deref.ensures.value) c.in_ok-sorted.ensures.points in
    All-permutation (λ p. IsTrue (sound c.args.self.now.schema p)) c.args.points.now c.deref.result.now P c.requires.sound

pub insert_group-requires-clause-few : goal.insert_group-requires-clause-few
insert_group-requires-clause-few c =
    let l = length_permutation c.args.points.now c.in_ok-sorted.sorted.items c.in_ok-sorted.ensures.points in
    let v = ap (λ (l : List Point). length l) c.deref.ensures.value in
    let r = c.requires.room in
    omega (arith, l, v, r)

pub insert_group-requires-clause-counted : goal.insert_group-requires-clause-counted
insert_group-requires-clause-counted c = subst (λ (a : List Slot). HasPoints c.args.self.now.schema a c.args.self.now.root.0 c.args.self.now.size) (sym c.replace-arena.ensures.value) c.args.self.now.counted

pub invariant_of-self : goal.invariant_of-self
invariant_of-self c =
    let P : IsPermutation c.args.points.now c.deref.result.now = subst (λ (l : List Point). IsPermutation c.args.points.now l) (sym c.deref.ensures.value) c.in_ok-sorted.ensures.points in
    let A : AddsPoints c.args.self.now.schema c.args.self.now.root.0 c.args.self.now.size c.deref.result.now c.args.self.now.arena c.in-Ok.arena =
    subst (λ (a : List Slot). AddsPoints c.args.self.now.schema c.args.self.now.root.0 c.args.self.now.size c.deref.result.now a c.in-Ok.arena) c.replace-arena.ensures.value c.in-Ok.ensures.added in
    let has : HasPoints c.args.self.now.schema c.in-Ok.arena c.args.self.now.root.0 (c.args.self.now.size + length c.args.points.now) =
    has_added _ _ _ _ _ c.args.points.now (adds_permuted _ _ _ _ _ c.args.points.now c.deref.result.now P A) c.args.self.now.counted in
    record {
      counted = has;
      bag = IsBag-cube _ _ _ _ has c.requires.room;
      owned = OwnsAllButRoot-cube _ _ _ _ has;
    }

pub returns-in-Ok-clause-counted : goal.returns-in-Ok-clause-counted
returns-in-Ok-clause-counted c =
    let P : IsPermutation c.args.points.now c.deref.result.now = subst (λ (l : List Point). IsPermutation c.args.points.now l) (sym c.deref.ensures.value) c.in_ok-sorted.ensures.points in
    let A : AddsPoints c.args.self.now.schema c.args.self.now.root.0 c.args.self.now.size c.deref.result.now c.args.self.now.arena c.in-Ok.arena =
    subst (λ (a : List Slot). AddsPoints c.args.self.now.schema c.args.self.now.root.0 c.args.self.now.size c.deref.result.now a c.in-Ok.arena) c.replace-arena.ensures.value c.in-Ok.ensures.added in
    adds_permuted _ _ _ _ _ c.args.points.now c.deref.result.now P A

pub invariant_of-self-in-Err : goal.invariant_of-self-in-Err
invariant_of-self-in-Err c =
    let has : HasPoints c.args.self.now.schema c.in-Err.arena c.args.self.now.root.0 c.args.self.now.size = subst (λ (a : List Slot). HasPoints c.args.self.now.schema a c.args.self.now.root.0 c.args.self.now.size) (sym (c.in-Err.ensures.back ∙ c.replace-arena.ensures.value)) c.args.self.now.counted in
    record {
      counted = has;
      bag = IsBag-cube _ _ _ _ has c.args.self.now.bag.few;
      owned = OwnsAllButRoot-cube _ _ _ _ has;
    }

pub returns-then-self-eq1-clause-counted : goal.returns-then-self-eq1-clause-counted
returns-then-self-eq1-clause-counted c = counts_one c.args.self.now c.insert.new.self c.args.points.now _ c.insert.result c.in-len1.len_at_least c.in-len1.len_below c.insert.ensures.counted

pub returns-in-Ok-clause-least : goal.returns-in-Ok-clause-least
returns-in-Ok-clause-least c as_group =
    let P : IsPermutation c.args.points.now c.deref.result.now = subst (λ (l : List Point). IsPermutation c.args.points.now l) (sym c.deref.ensures.value) c.in_ok-sorted.ensures.points in
    least_in_order _ _ _ _ _ c.args.points.now c.deref.result.now P
    (subst (λ (a : List Slot). AddsLeast c.args.self.now.schema c.args.self.now.root.0 c.args.self.now.size c.deref.result.now a c.in-Ok.arena) c.replace-arena.ensures.value c.in-Ok.ensures.least)

pub returns-then-self-eq1-clause-least : goal.returns-then-self-eq1-clause-least
returns-then-self-eq1-clause-least c = never_group c.insert.result _ (λ as_group. as_group (omega (arith, c.in-len1.len_at_least, c.in-len1.len_below)) c.if-self-eq1.true)

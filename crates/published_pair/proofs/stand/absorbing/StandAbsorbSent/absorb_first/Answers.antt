use Rattle.std.proofs.Common.{◌&&◌, Bool, List, ◌++◌, refl, ◌∙◌, ap, ap₂}
use Rattle.std.specs.List.{list_all}
use Rattle.cube_view.specs.Points.{Point}
use Rattle.cube_view.specs.Validity.{sound}
use Rattle.cube_view.specs.declared.schema.Schema.{Schema}
use Rattle.published_pair.proofs.CopyPoints.{all_absorbed, not_absorbed}
use Rattle.published_pair.proofs.stand.absorbing.StandAbsorbSent.absorb_first.Goals as goal
use Rattle.published_pair.proofs.stand.absorbing.StandAbsorbSent.absorb_first.Goals.{then-not-has_room-via-then-not-has_room, then-not-has_room-via-else-not-has_room+then-not-are_sound}

pub returns-then-not-has_room-clause-absorbed : goal.returns-then-not-has_room-clause-absorbed
returns-then-not-has_room-clause-absorbed g c =
    let x = c.args.self.now in
    let z : Schema = g.V.CubeView.schema x.view in
    let slice : List Point = c.as_slice-points.result.now in
    let size = c.seen.ensures ∙ x.counts.number in
    elim c.then-not-has_room.branch [
      | then-not-has_room-via-then-not-has_room w ↦
          not_absorbed x.history.items c.in-Added.points slice x.front z c.args.operation.now c.seen.result c.has_room.result (list_all (λ p. sound z p) slice) c.in-Added.is c.as_slice-points.ensures size c.has_room.ensures refl (ap (λ (b : Bool). b && list_all (λ p. sound z p) slice) w.if-not-has_room.true)
      | then-not-has_room-via-else-not-has_room+then-not-are_sound w ↦
          not_absorbed x.history.items c.in-Added.points slice x.front z c.args.operation.now c.seen.result c.has_room.result w.are_sound.result c.in-Added.is c.as_slice-points.ensures size c.has_room.ensures (w.are_sound.ensures.value ∙ ap (λ (y : Schema). list_all (λ p. sound y p) slice) w.schema.ensures) (ap₂ (λ (a b : Bool). a && b) w.if-not-has_room.false w.if-not-are_sound.true)
    ]

pub returns-in-Ok-clause-absorbed : goal.returns-in-Ok-clause-absorbed
returns-in-Ok-clause-absorbed g c =
    let x = c.args.self.now in
    let z : Schema = g.V.CubeView.schema x.view in
    let slice : List Point = c.as_slice-points.result.now in
    all_absorbed x.history.items c.in-Added.points slice x.front z c.args.operation.now c.seen.result c.has_room.result c.are_sound.result c.in-Added.is c.as_slice-points.ensures (c.seen.ensures ∙ x.counts.number) c.has_room.ensures (c.are_sound.ensures.value ∙ ap (λ (y : Schema). list_all (λ p. sound y p) slice) c.schema.ensures) (ap₂ (λ (a b : Bool). a && b) c.if-not-has_room.false c.if-not-are_sound.false)
    c.with_all-self.result.items (g.V.CubeView.schema c.insert_all.new.self) (c.with_all-self.ensures ∙ ap (λ (l : List Point). l ++ slice) (ap (λ v. v.items) c.replace-history.ensures.value)) c.insert_all.ensures.schema

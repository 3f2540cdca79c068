use Rattle.std.proofs.Common.{List, ◌++◌, sym, ◌∙◌, ap, ap₂, append-nil}
use Rattle.cube_view.specs.Points.{Point}
use Rattle.world_core.proofs.Prefixes.{IsPrefix-take, IsPrefix-then}
use Rattle.published_pair.specs.Pair.{standing}
use Rattle.published_pair.specs.Rules.{Known}
use Rattle.published_pair.proofs.CopyPoints.{sent_points, sent_schema, sent_whole}
use Rattle.published_pair.proofs.Prefixes.{taken_prefix}
use Rattle.published_pair.proofs.publisher.PublisherOf+Of+V.note.Goals as goal
use Rattle.published_pair.proofs.publisher.PublisherOf+Of+V.note.Goals.{in-Ok-append, in-Err}

pub invariant_of-self-2-clause-pends : goal.invariant_of-self-2-clause-pends
invariant_of-self-2-clause-pends g c =
    let x = c.args.self.now in
    let desk = ap (λ d. standing d.shown.value.history.items d.shown.value.front (g.V.CubeView.schema d.shown.value.view)) (c.append-2.ensures.desk ∙ c.append.ensures.desk) in
    let batch = c.with_all-batch.ensures ∙ ap₂ (λ (a b : List Point). a ++ b) c.new.ensures c.as_slice.ensures in
    sent_points c.append-2.result _ _ _ _ _ c.replace-points.result x.since x.noted.points x.appended.items c.again.result x.schema desk c.replace-points.ensures.value x.joined x.few x.sound x.pends x.goes_by c.in-Ok.ensures.pending c.append-2.ensures.pending
    ∙ x.joined ∙ ap (λ (l : List Point). x.noted.points ++ l) (sym batch) ∙ sym (ap (λ (k : Known). k.points) c.add.ensures)

pub invariant_of-self-2-clause-goes_by : goal.invariant_of-self-2-clause-goes_by
invariant_of-self-2-clause-goes_by g c =
    let x = c.args.self.now in
    sent_schema c.append-2.result _ _ _ _ _ c.replace-points.result x.since x.noted.points x.appended.items c.again.result x.schema
    (ap (λ d. standing d.shown.value.history.items d.shown.value.front (g.V.CubeView.schema d.shown.value.view)) (c.append-2.ensures.desk ∙ c.append.ensures.desk))
    c.replace-points.ensures.value x.joined x.few x.sound x.pends x.goes_by c.in-Ok.ensures.pending c.append-2.ensures.pending

pub invariant_of-self-2-clause-joined : goal.invariant_of-self-2-clause-joined
invariant_of-self-2-clause-joined g c =
    let x = c.args.self.now in
    let batch = c.with_all-batch.ensures ∙ ap₂ (λ (a b : List Point). a ++ b) c.new.ensures c.as_slice.ensures in
    x.joined ∙ ap (λ (l : List Point). x.noted.points ++ l) (sym batch) ∙ sym (ap (λ (k : Known). k.points) c.add.ensures)
    ∙ sym (append-nil c.add.result.points)
    ∙ ap (λ (l : List Point). c.add.result.points ++ l) (sym (c.replace-points.ensures.after ∙ c.new-2.ensures))

pub invariant_of-self-2-clause-within : goal.invariant_of-self-2-clause-within
invariant_of-self-2-clause-within g c =
    let x = c.args.self.now in
    IsPrefix-take x.published.points c.add.result.points (IsPrefix-then x.published.points x.noted.points c.add.result.points (taken_prefix x.published.points x.noted.points x.within) (c.with_all-batch.result.items, ap (λ (k : Known). k.points) c.add.ensures))

pub returns-clause-sent : goal.returns-clause-sent
returns-clause-sent g c =
    let x = c.args.self.now in
    let batch = c.with_all-batch.ensures ∙ ap₂ (λ (a b : List Point). a ++ b) c.new.ensures c.as_slice.ensures in
    elim c.match-append-2.branch [
      | in-Ok-append v ↦ rw v.result-is
          (sent_whole c.append-2.result _ _ _ _ _ c.replace-points.result x.since x.noted.points x.appended.items c.again.result x.schema (sym x.shown) c.replace-points.ensures.value x.joined x.few x.sound x.pends x.goes_by c.in-Ok.ensures.pending v.in-Ok-append.ensures.pending
          ∙ ap₂ (λ (l : List Point) (k : Known). standing l k x.schema) (x.joined ∙ ap (λ (l : List Point). x.noted.points ++ l) (sym batch) ∙ sym (ap (λ (k : Known). k.points) c.add.ensures)) c.again.ensures)
      | in-Err v ↦ rw v.result-is tt
    ]

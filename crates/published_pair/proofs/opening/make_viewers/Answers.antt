use Rattle.std.proofs.Common.{rules, ◌≡◌, ◌+◌, length, List, All, ◌++◌, [], ◌∷◌, ap, ◌∙◌, length-append}
use Rattle.std.proofs.lemmas.List.Elements.{All-push}
use Rattle.published_pair.proofs.opening.make_viewers.Goals as goal

pushed : {X A B D : Type 0} (xs : List X) (x : X) (ys : List X) → ys ≡ xs ++ x ∷ [] → (f : X → A) (p q : X → B) (r : X → D) (a : A) (b d : B) (e : D) → All (λ v. (f v ≡ a) × (p v ≡ b) × (q v ≡ d) × (r v ≡ e)) xs → (f x ≡ a) × (p x ≡ b) × (q x ≡ d) × (r x ≡ e) → All (λ v. (f v ≡ a) × (p v ≡ b) × (q v ≡ d) × (r v ≡ e)) ys
pushed xs x ys is f p q r a b d e all one = rw is (All-push (λ v. (f v ≡ a) × (p v ≡ b) × (q v ≡ d) × (r v ≡ e)) xs x all one)

pub loop-preserved : goal.loop-preserved
loop-preserved g c =
    let made = c.make_viewer.ensures.writer in
    let longer : c.add.new.self ≡ c.loop.all ++ c.in_ok-viewer.viewer ∷ [] = search rules in
    record {
      shown = made.0 ∙ c.loop.invariant.shown;
      log = made.1 ∙ c.loop.invariant.log;
      behind = made.2 ∙ c.loop.invariant.behind;
      named = c.make_viewer.ensures.named ∙ c.loop.invariant.named;
      count = ap length longer ∙ (length-append c.loop.all (c.in_ok-viewer.viewer ∷ []) ∙ ap (λ n. n + 1) c.loop.invariant.count);
      each = λ k d h. pushed c.loop.all c.in_ok-viewer.viewer c.add.new.self longer (λ v. v.schema) (λ v. v.shown) (λ v. v.learned) (λ v. v.last) _ _ _ _ c.loop.invariant.each c.in_ok-viewer.ensures.viewer k d h;
    }

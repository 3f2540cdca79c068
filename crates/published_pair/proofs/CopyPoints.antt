-- What a copy makes of the points that are sent.
use Rattle.std.proofs.Common.{◌≡◌, ℕ, ◌+◌, ◌≤◌, ◌&&◌, nat_le, Bool, true, false, if◌then◌else◌, List, [], ◌∷◌, ◌++◌, length, fold, All, IsTrue, sym, ◌∙◌, ap, ap₂, subst, arith, length-append, MatchResult, Result, Ok, Err}
use Rattle.std.proofs.lemmas.Bool.{le-leb}
use Rattle.std.proofs.lemmas.List.Sums.{fold-append, list_all-from_AllPass}
use Rattle.std.specs.List.{list_all}
use Rattle.cube_view.specs.Bag.{most_points}
use Rattle.cube_view.specs.Points.{Point}
use Rattle.cube_view.specs.Validity.{sound}
use Rattle.cube_view.specs.declared.schema.Schema.{Schema}
use Rattle.published_pair.specs.declared.names.Standing.{Standing}
use Rattle.published_pair.specs.declared.stand.Sent.{Sent}
use Rattle.published_pair.specs.declared.stand.Sent.TheVariants.{Added, Noted}
use Rattle.published_pair.specs.Pair.{absorbed, standing, takes, with_points}
use Rattle.published_pair.specs.Rules.{Known}

-- points that a copy takes stand behind its own
pub taken : (s : Standing) (points : List Point) → takes s points ≡ true → with_points s points ≡ standing (s.points ++ points) s.front s.schema
taken s points e = ap (λ (b : Bool). standing (if b then s.points ++ points else s.points) s.front s.schema) e

-- others leave it as it is
pub passed_over : (s : Standing) (points : List Point) → takes s points ≡ false → with_points s points ≡ standing s.points s.front s.schema
passed_over s points e = ap (λ (b : Bool). standing (if b then s.points ++ points else s.points) s.front s.schema) e

-- by two tests of the slice that was sent
module _ (h points slice : List Point) (f : Known) (z : Schema) (op : Sent) (n : ℕ) (room all : Bool) (is : op ≡ Added points) (same : slice ≡ points) (size : n ≡ length h) (roomy : room ≡ nat_le (n + length slice) most_points) (each : all ≡ list_all (λ p. sound z p) slice) where
  test : takes (standing h f z) points ≡ (room && all)
  test = ap₂ (λ (a b : Bool). a && b) (sym (roomy ∙ ap₂ (λ (a : ℕ) (b : List Point). nat_le (a + length b) most_points) size same)) (sym (each ∙ ap (λ (l : List Point). list_all (λ p. sound z p) l) same))

  pub not_absorbed : (room && all) ≡ false → standing h f z ≡ absorbed (standing h f z) op
  not_absorbed fails = sym (ap (absorbed (standing h f z)) is ∙ passed_over (standing h f z) points (test ∙ fails))

  pub all_absorbed : (room && all) ≡ true → (k : List Point) (y : Schema) → k ≡ h ++ slice → y ≡ z → standing k f y ≡ absorbed (standing h f z) op
  all_absorbed passes k y more schema =
      ap₂ (λ (l : List Point) (x : Schema). standing l f x) (more ∙ ap (λ (l : List Point). h ++ l) same) schema
      ∙ sym (ap (absorbed (standing h f z)) is ∙ taken (standing h f z) points (test ∙ passes))

-- a publication that is sent behind others: once all are taken in, its points stand behind what was noted before, and
-- the copy stands at the list that is sent behind them
pub takes_publication : (s : Standing) (sent : List Sent) (points h : List Point) (f : Known) (z : Schema) → (fold absorbed s sent).points ≡ h → (fold absorbed s sent).schema ≡ z → All (λ p. IsTrue (sound z p)) points → length h + length points ≤ most_points
    → (fold absorbed s (sent ++ Added points ∷ []) ≡ standing (h ++ points) (fold absorbed s sent).front z) × (fold absorbed s ((sent ++ Added points ∷ []) ++ Noted f ∷ []) ≡ standing (h ++ points) f z)
takes_publication s sent points h f z counts schema all few = (one, two)
  where
    t : Standing
    t = fold absorbed s sent

    each : list_all (λ p. sound t.schema p) points ≡ true
    each = list_all-from_AllPass (λ p. sound t.schema p) points (subst (λ (y : Schema). All (λ p. IsTrue (sound y p)) points) (sym schema) all)

    room : nat_le (length t.points + length points) most_points ≡ true
    room = le-leb (length t.points + length points) most_points (let n = ap (λ (k : List Point). length k) counts in omega (arith, n, few))

    one : fold absorbed s (sent ++ Added points ∷ []) ≡ standing (h ++ points) t.front z
    one = fold-append absorbed s sent (Added points ∷ []) ∙ taken t points (ap₂ (λ (a b : Bool). a && b) room each) ∙ ap₂ (λ (k : List Point) (y : Schema). standing (k ++ points) t.front y) counts schema

    two : fold absorbed s ((sent ++ Added points ∷ []) ++ Noted f ∷ []) ≡ standing (h ++ points) f z
    two = fold-append absorbed s (sent ++ Added points ∷ []) (Noted f ∷ []) ∙ ap (λ (w : Standing). standing w.points f w.schema) one

-- a list that is sent, or refused, changes neither the points nor the schema
pub noted_keeps : {A : Type 0} (r : Result A Sent) (s : Standing) (sent more : List Sent) (f : Known) → MatchResult r (λ _. more ≡ sent ++ Noted f ∷ []) (λ x. (x ≡ Noted f) × (more ≡ sent)) → ((fold absorbed s more).points ≡ (fold absorbed s sent).points) × ((fold absorbed s more).schema ≡ (fold absorbed s sent).schema)
noted_keeps (Ok a) s sent more f is = let e = ap (fold absorbed s) is ∙ fold-append absorbed s sent (Noted f ∷ []) in (ap (λ (w : Standing). w.points) e, ap (λ (w : Standing). w.schema) e)
noted_keeps (Err x) s sent more f is = (ap (λ (l : List Sent). (fold absorbed s l).points) is.1, ap (λ (l : List Sent). (fold absorbed s l).schema) is.1)

-- a publication that was sent to copies of which the shown one stands at s: the points since the last one, and then a
-- list
module _ {A : Type 0} (r : Result A Sent) (s now : Standing) (sent mid last : List Sent) (points since h appended : List Point) (f : Known) (z : Schema) (stays : now ≡ s) (same : points ≡ since) (joined : appended ≡ h ++ since) (few : length appended ≤ most_points) (all : All (λ p. IsTrue (sound z p)) since) (counts : (fold absorbed s sent).points ≡ h) (schema : (fold absorbed s sent).schema ≡ z) (first : mid ≡ sent ++ Added points ∷ []) where
  both : (fold absorbed s (sent ++ Added since ∷ []) ≡ standing (h ++ since) (fold absorbed s sent).front z) × (fold absorbed s ((sent ++ Added since ∷ []) ++ Noted f ∷ []) ≡ standing (h ++ since) f z)
  both = takes_publication s sent since h f z counts schema all (let j = ap (λ (l : List Point). length l) joined in let a = length-append h since in omega (arith, j, a, few))

  begun : mid ≡ sent ++ Added since ∷ []
  begun = first ∙ ap (λ (l : List Point). sent ++ Added l ∷ []) same

  pub sent_points : MatchResult r (λ _. last ≡ mid ++ Noted f ∷ []) (λ x. (x ≡ Noted f) × (last ≡ mid)) → (fold absorbed now last).points ≡ appended
  sent_points second = ap (λ (t : Standing). (fold absorbed t last).points) stays ∙ (noted_keeps r s mid last f second).0 ∙ ap (λ (l : List Sent). (fold absorbed s l).points) begun ∙ ap (λ (t : Standing). t.points) both.0 ∙ sym joined

  pub sent_schema : MatchResult r (λ _. last ≡ mid ++ Noted f ∷ []) (λ x. (x ≡ Noted f) × (last ≡ mid)) → (fold absorbed now last).schema ≡ z
  sent_schema second = ap (λ (t : Standing). (fold absorbed t last).schema) stays ∙ (noted_keeps r s mid last f second).1 ∙ ap (λ (l : List Sent). (fold absorbed s l).schema) begun ∙ ap (λ (t : Standing). t.schema) both.0

  pub sent_whole : last ≡ mid ++ Noted f ∷ [] → fold absorbed now last ≡ standing appended f z
  sent_whole second = ap (λ (t : Standing). fold absorbed t last) stays ∙ ap (fold absorbed s) (second ∙ ap (λ (l : List Sent). l ++ Noted f ∷ []) begun) ∙ both.1 ∙ ap (λ (l : List Point). standing l f z) (sym joined)

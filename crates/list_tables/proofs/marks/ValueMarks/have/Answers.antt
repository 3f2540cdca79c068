-- Four values are in four sets where each has its mark.
use Rattle.std.proofs.Common.{◌≡◌, ℕ, ◌<◌, Bool, true, false, ◌&&◌, map, List, [], ◌∷◌, length, get_or, refl, sym, ◌∙◌, ap, arith}
use Rattle.list_tables.specs.Marked.{marked_sets}
use Rattle.query_syntax.specs.Boxes.{are_in_sets, chosen}
use Rattle.query_syntax.specs.declared.query.Choice.{Choice}
use Rattle.query_syntax.specs.declared.query.Choice.TheVariants.{All}
use Rattle.list_tables.proofs.marks.ValueMarks.have.Goals as goal

of_four : {A : Type 0} (d : A) (xs : List A) → length xs ≡ 4 → xs ≡ get_or xs 0 d ∷ get_or xs 1 d ∷ get_or xs 2 d ∷ get_or xs 3 d ∷ []
of_four d [] e = absurd (omega arith)
of_four d (a ∷ []) e = absurd (omega arith)
of_four d (a ∷ b ∷ []) e = absurd (omega arith)
of_four d (a ∷ b ∷ w ∷ []) e = absurd (omega arith)
of_four d (a ∷ b ∷ w ∷ x ∷ []) e = refl
of_four d (a ∷ b ∷ w ∷ x ∷ y ∷ ys) e = absurd (omega arith)

regroup : (a b w x : Bool) → (((a && b) && w) && x) ≡ (a && (b && (w && (x && true))))
regroup false b w x = refl
regroup true false w x = refl
regroup true true false x = refl
regroup true true true false = refl
regroup true true true true = refl

-- a value that is not there counts as 0
at_values : (s t u v : ℕ → Bool) (values : List ℕ) → (s (get_or values 0 0) && (t (get_or values 1 0) && (u (get_or values 2 0) && (v (get_or values 3 0) && true)))) ≡ are_in_sets (s ∷ t ∷ u ∷ v ∷ []) values
at_values s t u v [] = refl
at_values s t u v (w ∷ []) = refl
at_values s t u v (w ∷ x ∷ []) = refl
at_values s t u v (w ∷ x ∷ y ∷ []) = refl
at_values s t u v (w ∷ x ∷ y ∷ z ∷ zs) = refl

-- four tests in one
all_four : (sets : List Choice) (values : List ℕ) (a b w x : Bool) → length sets ≡ 4
    → a ≡ chosen (get_or sets 0 All) (get_or values 0 0) → b ≡ chosen (get_or sets 1 All) (get_or values 1 0)
    → w ≡ chosen (get_or sets 2 All) (get_or values 2 0) → x ≡ chosen (get_or sets 3 All) (get_or values 3 0)
    → (((a && b) && w) && x) ≡ are_in_sets (map chosen sets) values
all_four sets values a b w x ls ea eb ew ex =
    (λ i. ((ea i && eb i) && ew i) && ex i)
    ∙ (regroup (chosen (get_or sets 0 All) (get_or values 0 0)) (chosen (get_or sets 1 All) (get_or values 1 0)) (chosen (get_or sets 2 All) (get_or values 2 0)) (chosen (get_or sets 3 All) (get_or values 3 0))
    ∙ (at_values (chosen (get_or sets 0 All)) (chosen (get_or sets 1 All)) (chosen (get_or sets 2 All)) (chosen (get_or sets 3 All)) values
    ∙ (λ i. are_in_sets (map chosen (sym (of_four All sets ls) i)) values)))

pub returns : goal.returns
returns c =
    let sets = marked_sets c.args.self.now in
    let v = c.args.values.now in
    let marks = c.args.self.now.marked in
    let fits = c.fits-values in
    all_four sets v _ _ _ _ marks.many
    (ap (λ (n : ℕ). get_or c.args.self.now.first n false) c.from.ensures ∙ marks.of_first (get_or v 0 0) (fits 0))
    (ap (λ (n : ℕ). get_or c.args.self.now.second n false) c.from-2.ensures ∙ marks.of_second (get_or v 1 0) (fits 1))
    (ap (λ (n : ℕ). get_or c.args.self.now.third n false) c.from-3.ensures ∙ marks.of_third (get_or v 2 0) (fits 2))
    (ap (λ (n : ℕ). get_or c.args.self.now.fourth n false) c.from-4.ensures ∙ marks.of_fourth (get_or v 3 0) (fits 3))

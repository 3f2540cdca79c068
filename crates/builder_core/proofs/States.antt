-- The states that the fields of a builder come to.
use Rattle.std.proofs.Common.{◌≡◌, ℕ, ◌+◌, ◌≤◌, ◌<◌, Bool, List, [], ◌∷◌, ◌++◌, length, length-append, take, drop, sym, ap, ◌∙◌, arith}
use Rattle.std.proofs.Math.ListN.{drop_of_length-le}
use Rattle.std.proofs.Math.Seq.{take-length, drop-length}
use Rattle.std.proofs.lemmas.List.{take-append-le, drop-append-le, take-append-drop, length-drop}
use Rattle.cube_view.specs.Points.{Point}
use Rattle.cube_view.specs.declared.schema.Schema.{Schema}
use Rattle.published_pair.specs.Rules.{Known, known}
use Rattle.world_core.specs.Interleaving.{entry_points}
use Rattle.world_core.specs.declared.entry.Entry.{Entry}
use Rattle.world_core.proofs.Entries.{entry_points-append}
use Rattle.feed_queue.specs.declared.item.Item.{Item}
use Rattle.feed_queue.specs.declared.item.Item.TheVariants.{One}
use Rattle.builder_core.specs.Builder.{builder_state, pair_state}
use Rattle.builder_core.specs.Taking.{having_appended, having_published}
use Rattle.builder_core.proofs.BuilderRule.{counting}

module _ (f bt : ℕ) where
  -- the state goes by its parts
  pub same_state : (taken taken' : List Item) (es es' : List Entry) (n n' : ℕ) (spent spent' : Bool) (p p' : Known) (app app' : List Point) (z z' : Schema) (v v' : ℕ)
      → taken ≡ taken' → es ≡ es' → n ≡ n' → spent ≡ spent' → p ≡ p' → app ≡ app' → z ≡ z' → v ≡ v'
      → builder_state f bt taken es n spent (pair_state p app z v) ≡ builder_state f bt taken' es' n' spent' (pair_state p' app' z' v')
  same_state taken taken' es es' n n' spent spent' p p' app app' z z' v v' et ee en es_ ep ea ez ev = λ i. builder_state f bt (et i) (ee i) (en i) (es_ i) (pair_state (ep i) (ea i) (ez i) (ev i))

  -- with one entry more behind the others
  pub appended_state : (taken taken' : List Item) (es es' : List Entry) (n n' : ℕ) (spent : Bool) (p p' : Known) (app app' : List Point) (z z' : Schema) (v v' : ℕ) (e : Entry)
      → n ≤ length es → app ≡ entry_points es → app' ≡ entry_points es'
      → taken' ≡ taken ++ One e ∷ [] → es' ≡ es ++ e ∷ [] → n' ≡ n → p' ≡ p → z' ≡ z → v' ≡ v
      → builder_state f bt taken' es' n' spent (pair_state p' app' z' v') ≡ counting (having_appended (builder_state f bt taken es n spent (pair_state p app z v)) e) (One e)
  appended_state taken taken' es es' n n' spent p p' app app' z z' v v' e within before after et ee en ep ez ev =
      let journal : take n' es' ≡ take n es = ap (λ k. take k es') en ∙ (ap (take n) ee ∙ take-append-le n es (e ∷ []) within) in
      let pending : drop n' es' ≡ drop n es ++ e ∷ [] = ap (λ k. drop k es') en ∙ (ap (drop n) ee ∙ drop-append-le n es (e ∷ []) within) in
      let points : app' ≡ app ++ e.point ∷ [] = after ∙ (ap entry_points ee ∙ (entry_points-append es (e ∷ []) ∙ ap (λ l. l ++ e.point ∷ []) (sym before))) in
      λ i. record { feeders = f; batch = bt; taken = et i; journal = journal i; pending = pending i; spent = spent; published = ep i; appended = points i; schema = ez i; viewers = ev i }

  -- with all entries published
  pub published_state : (taken : List Item) (es es' : List Entry) (n n' : ℕ) (spent : Bool) (p p' : Known) (app app' : List Point) (z z' : Schema) (v v' : ℕ)
      → app ≡ entry_points es → app' ≡ entry_points es' → p'.points ≡ entry_points (take n' es')
      → es' ≡ es → n' ≡ length es → p'.book ≡ p.book → z' ≡ z → v' ≡ v
      → builder_state f bt taken es' n' spent (pair_state p' app' z' v') ≡ having_published (builder_state f bt taken es n spent (pair_state p app z v))
  published_state taken es es' n n' spent p p' app app' z z' v v' before after shown ee en eb ez ev =
      let all : take n' es' ≡ es = ap (λ k. take k es') en ∙ (ap (take (length es)) ee ∙ take-length es) in
      let journal : take n' es' ≡ take n es ++ drop n es = all ∙ sym (take-append-drop n es) in
      let pending : drop n' es' ≡ [] = ap (λ k. drop k es') en ∙ (ap (drop (length es)) ee ∙ drop-length es) in
      let points : p'.points ≡ app = shown ∙ (ap entry_points all ∙ sym before) in
      let same : app' ≡ app = after ∙ (ap entry_points ee ∙ sym before) in
      λ i. record { feeders = f; batch = bt; taken = taken; journal = journal i; pending = pending i; spent = spent; published = known (eb i) (points i); appended = same i; schema = ez i; viewers = ev i }

-- how many are pending, where so many are once one more is behind them
pub length-pending_before : (es es' : List Entry) (n n' k : ℕ) (e : Entry) → n ≤ length es → es' ≡ es ++ e ∷ [] → n' ≡ n → k + n' ≡ length es' → length (drop n es) + 1 ≡ k
length-pending_before es es' n n' k e within ee en is = let d = length-drop n es in let l = length-append es (e ∷ []) in let m = ap length ee in omega (arith, d, l, m, en, is, within)

-- so many are all
pub length-all : (es es' : List Entry) (n : ℕ) → es' ≡ es → n ≡ length es → length (take n es') ≡ length es
length-all es es' n ee en = ap length (ap (λ k. take k es') en ∙ (ap (take (length es)) ee ∙ take-length es))

-- none are pending
pub none_pending : (es : List Entry) (n k : ℕ) → k + n ≡ length es → k ≡ 0 → drop n es ≡ []
none_pending es n k is none = drop_of_length-le es (omega (arith, is, none))

-- some are pending
pub some_pending : (es : List Entry) (n k : ℕ) → k + n ≡ length es → (k ≡ 0 → ⊥) → 0 < length (drop n es)
some_pending es n k is some = let d = length-drop n es in omega (arith, d, is, some)

-- Entries that keep the order of the feeds, while further points are pushed.
use Rattle.std.proofs.Common.{◌≡◌, ◌≢◌, ℕ, suc, ◌+◌, ◌-◌, ◌≤◌, List, [], ◌∷◌, ◌++◌, All, length, set, refl, sym, subst, ap, ◌∙◌, arith, ⊎_elim, append_assoc}
use Rattle.std.proofs.lemmas.Bool.{cases_eq}
use Rattle.std.proofs.lemmas.List.{append-nil, length-set, get_or-set_same, get_or-set_other}
use Rattle.std.proofs.lemmas.List.Elements.{All-nil, All-cons, All-append}
use Rattle.cube_view.specs.Points.{Point}
use Rattle.world_core.specs.Interleaving.{entry, numbered, entries_of, entry_points, list_of}
use Rattle.world_core.specs.declared.entry.Entry.{Entry}
use Rattle.world_core.proofs.Entries.{length-entry_points, entries_of-append, entry_points-append, numbered-append, entry_points-numbered, entries_of-numbered, entries_of-numbered_other}

-- the entries were pushed from the feeds, in order, and these rests are left
pub record IsPushedFrom (feeds : List (List Point)) (es : List Entry) (rest : List (List Point)) : Type 0 where
  pub count : length rest ≡ length feeds
  pub known : All (λ (e : Entry). (1 ≤ e.feeder) × (e.feeder ≤ length feeds)) es
  pub each : (f : ℕ) → 1 ≤ f → f ≤ length feeds → entries_of f es ≡ numbered f 0 (entry_points (entries_of f es))
  pub split : (f : ℕ) → 1 ≤ f → f ≤ length feeds → list_of feeds f ≡ entry_points (entries_of f es) ++ list_of rest f

pub IsPushedFrom-start : (feeds : List (List Point)) → IsPushedFrom feeds [] feeds
IsPushedFrom-start feeds = record {
  count = refl;
  known = All-nil (λ (e : Entry). (1 ≤ e.feeder) × (e.feeder ≤ length feeds));
  each = λ f low high. refl;
  split = λ f low high. refl;
}

pub All-numbered : (P : Entry → Type 0) (f n : ℕ) (points : List Point) → ((k : ℕ) → All (λ p. P (entry f k p)) points) → All P (numbered f n points)
All-numbered P f n [] each = All-nil P
All-numbered P f n (p ∷ points) each =
    All-cons P (entry f n p) (numbered f (n + 1) points) (each n 0 p (omega arith)) (All-numbered P f (n + 1) points (λ k i d lt. each k (suc i) d (omega (arith, lt))))

module _ (feeds : List (List Point)) (es : List Entry) (rest : List (List Point)) (g : ℕ) (ps qs : List Point) (low : 1 ≤ g) (high : g ≤ length rest) (is : IsPushedFrom feeds es rest) (next : list_of rest g ≡ ps ++ qs) where
  abbrev n : ℕ
  n = length (entries_of g es)

  abbrev more : List Entry
  more = es ++ numbered g n ps

  abbrev left : List (List Point)
  left = set rest (g - 1) qs

  high_feeds : g ≤ length feeds
  high_feeds = let c = is.count in omega (arith, c, high)

  own_entries : entries_of g more ≡ entries_of g es ++ numbered g n ps
  own_entries = entries_of-append g es (numbered g n ps) ∙ ap (λ l. entries_of g es ++ l) (entries_of-numbered g n ps)

  own_points : entry_points (entries_of g more) ≡ entry_points (entries_of g es) ++ ps
  own_points = ap entry_points own_entries ∙ (entry_points-append (entries_of g es) (numbered g n ps) ∙ ap (λ l. entry_points (entries_of g es) ++ l) (entry_points-numbered g n ps))

  own_each : entries_of g more ≡ numbered g 0 (entry_points (entries_of g more))
  own_each =
      let points = entry_points (entries_of g es) in
      let k : n ≡ 0 + length points = let l = length-entry_points (entries_of g es) in omega (arith, l) in
      own_entries
      ∙ (ap (λ l. l ++ numbered g n ps) (is.each g low high_feeds)
      ∙ (ap (λ j. numbered g 0 points ++ numbered g j ps) k
      ∙ (sym (numbered-append g 0 points ps) ∙ ap (numbered g 0) (sym own_points))))

  own_split : list_of feeds g ≡ entry_points (entries_of g more) ++ list_of left g
  own_split =
      let points = entry_points (entries_of g es) in
      is.split g low high_feeds
      ∙ (ap (λ l. points ++ l) next
      ∙ (sym (append_assoc points ps qs)
      ∙ (ap (λ l. l ++ qs) (sym own_points)
      ∙ ap (λ l. entry_points (entries_of g more) ++ l) (sym (get_or-set_same rest (g - 1) qs [] (omega (arith, low, high)))))))

  other_entries : (f : ℕ) → g ≢ f → entries_of f more ≡ entries_of f es
  other_entries f ne = entries_of-append f es (numbered g n ps) ∙ (ap (λ l. entries_of f es ++ l) (entries_of-numbered_other f g n ps ne) ∙ append-nil (entries_of f es))

  other_each : (f : ℕ) → 1 ≤ f → f ≤ length feeds → g ≢ f → entries_of f more ≡ numbered f 0 (entry_points (entries_of f more))
  other_each f l h ne = other_entries f ne ∙ (is.each f l h ∙ ap (λ x. numbered f 0 (entry_points x)) (sym (other_entries f ne)))

  other_split : (f : ℕ) → 1 ≤ f → f ≤ length feeds → g ≢ f → list_of feeds f ≡ entry_points (entries_of f more) ++ list_of left f
  other_split f l h ne =
      is.split f l h
      ∙ (ap (λ x. entry_points x ++ list_of rest f) (sym (other_entries f ne))
      ∙ ap (λ x. entry_points (entries_of f more) ++ x) (sym (get_or-set_other rest (g - 1) (f - 1) qs [] (λ (e : f - 1 ≡ g - 1). ne (omega (arith, e, l, low))))))

  -- the entries with further points of a feeder, whose rest is what comes after them
  pub IsPushedFrom-push : IsPushedFrom feeds (es ++ numbered g (length (entries_of g es)) ps) (set rest (g - 1) qs)
  IsPushedFrom-push = record {
    count = length-set rest (g - 1) qs ∙ is.count;
    known = All-append (λ (e : Entry). (1 ≤ e.feeder) × (e.feeder ≤ length feeds)) es (numbered g n ps) is.known (All-numbered (λ (e : Entry). (1 ≤ e.feeder) × (e.feeder ≤ length feeds)) g n ps (λ k i d lt. (low, high_feeds)));
    each = λ f l h. ⊎_elim
        (λ (e : g ≡ f). subst (λ (k : ℕ). entries_of k more ≡ numbered k 0 (entry_points (entries_of k more))) e own_each)
        (λ (ne : g ≢ f). other_each f l h ne)
        (cases_eq g f);
    split = λ f l h. ⊎_elim
        (λ (e : g ≡ f). subst (λ (k : ℕ). list_of feeds k ≡ entry_points (entries_of k more) ++ list_of left k) e own_split)
        (λ (ne : g ≢ f). other_split f l h ne)
        (cases_eq g f);
  }

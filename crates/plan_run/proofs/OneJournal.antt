-- The entries of a run of a plan are entries of its schema.
use Rattle.std.proofs.Common.{◌≡◌, ◌∙◌, sym, ap, subst, ℕ, ◌+◌, ◌-◌, ◌<◌, ◌≤◌, ◌^◌, Bool, true, false, ◌&&◌, cond, eqb, eq-eqb, nat_le, List, [], ◌∷◌, All, length, map, get_or, refl, arith, zero-add}
use Rattle.std.proofs.lemmas.Bool.Decides.{nat_tests}
use Rattle.std.proofs.lemmas.List.{length-map}
use Rattle.std.proofs.lemmas.List.Elements.{All-cons, All-head, All-map, All-nil, All-tail}
use Rattle.cube_schema.specs.Files.{NamesFiles}
use Rattle.cube_schema.specs.declared.plan.Plan.{Plan}
use Rattle.cube_view.specs.Points.{Point}
use Rattle.cube_view.specs.Validity.{valid}
use Rattle.cube_view.specs.declared.schema.Schema.{Schema}
use Rattle.feed_queue.specs.Journal.{IsEntryOf, JournalsAreOfOne}
use Rattle.feed_reader.specs.Accepting.{AcceptsSound, AcceptsWithin, IsAccepted}
use Rattle.feed_reader.specs.Feeds.{accepted}
use Rattle.outer_io.specs.Files.{Files, file_or_empty}
use Rattle.world_core.specs.Interleaving.{IsInterleaving, entries_of, entry, list_of, numbered}
use Rattle.world_core.specs.declared.entry.Entry.{Entry}

-- what the lane and the reader of feeds say of journals and of accepted records
abbrev pub EntryLaws : Type 0
EntryLaws = JournalsAreOfOne × AcceptsSound × AcceptsWithin

-- what holds of each feeder's entries holds of all
each_own : (P : Entry → Type 0) (feeders : ℕ) (entries : List Entry) → All (λ (e : Entry). (1 ≤ e.feeder) × (e.feeder ≤ feeders)) entries → ((f : ℕ) → 1 ≤ f → f ≤ feeders → All P (entries_of f entries)) → All P entries
each_own P feeders [] known each = All-nil P
each_own P feeders (e ∷ es) known each =
    let is_known = λ (x : Entry). (1 ≤ x.feeder) × (x.feeder ≤ feeders) in
    let bounds = All-head is_known e es known in
    let own = entries_of e.feeder es in
    let mine : All P (e ∷ own) = subst (λ (b : Bool). All P (cond b (e ∷ own) own)) (eq-eqb e.feeder e.feeder refl) (each e.feeder bounds.0 bounds.1) in
    All-cons P e es (All-head P e own mine) (each_own P feeders es (All-tail is_known e es known) (λ f low high. by (eqb e.feeder f) (entries_of f es) (each f low high)))
  where
    by : (b : Bool) (rest : List Entry) → All P (cond b (e ∷ rest) rest) → All P rest
    by true rest all = All-tail P e rest all
    by false rest all = all

module _ (schema : Schema) where
  -- what an accepted list keeps
  abbrev IsList : List Point → Type 0
  IsList points = All (IsAccepted schema) points × (length points ≤ 2 ^ 30)

  entry_valid : (f n : ℕ) (p : Point) → 1 ≤ f → f ≤ 8 → n < 2 ^ 32 → IsAccepted schema p → IsEntryOf schema (entry f n p)
  entry_valid f n p low high small is = (
    record { number = small; bin = is.bin; values = is.values; bytes = is.bytes },
    let first : nat_le 1 f ≡ true = grind (arith, nat_tests, low) in
        let last : nat_le f 8 ≡ true = grind (arith, nat_tests, high) in
        ap (λ (b : Bool). b && nat_le f 8 && valid schema p) first ∙ ap (λ (b : Bool). b && valid schema p) last ∙ is.of_schema,
  )

  numbered_valid : (f n : ℕ) (points : List Point) → 1 ≤ f → f ≤ 8 → n + length points ≤ 2 ^ 30 → All (IsAccepted schema) points → All (IsEntryOf schema) (numbered f n points)
  numbered_valid f n [] low high few all = All-nil (IsEntryOf schema)
  numbered_valid f n (p ∷ points) low high few all =
      All-cons (IsEntryOf schema) (entry f n p) (numbered f (n + 1) points) (entry_valid f n p low high (omega (arith, few)) (All-head (IsAccepted schema) p points all))
      (numbered_valid f (n + 1) points low high (omega (arith, few)) (All-tail (IsAccepted schema) p points all))

  interleaving_valid : (lists : List (List Point)) (entries : List Entry) → length lists ≤ 8 → All IsList lists → IsInterleaving (length lists) (list_of lists) entries → All (IsEntryOf schema) entries
  interleaving_valid lists entries few all is = each_own (IsEntryOf schema) (length lists) entries is.known (λ f low high.
      let list = all (f - 1) [] (omega (arith, low, high)) in
      subst (All (IsEntryOf schema)) (sym (is.each f low high)) (numbered_valid f 0 (list_of lists f) low (omega (arith, high, few)) (subst (λ (n : ℕ). n ≤ 2 ^ 30) (sym (zero-add (length (list_of lists f)))) list.1) list.0))

-- an interleaving of the accepted records of a plan's feeds has entries of its schema
pub entries_valid : EntryLaws → (plan : Plan) (files : Files) (entries : List Entry) → NamesFiles plan → IsInterleaving (length plan.feeds) (list_of (map (λ name. accepted plan.schema (file_or_empty files name)) plan.feeds)) entries → All (IsEntryOf plan.schema) entries
entries_valid laws plan files entries names is =
    let schema = plan.schema in
    let bytes : List ℕ → List ℕ = file_or_empty files in
    let lists : List (List Point) = map (λ name. accepted schema (bytes name)) plan.feeds in
    let count = length-map plan.feeds (λ (name : List ℕ). accepted schema (bytes name)) in
    let few = names.feeds.1 in
    let all : All (IsList schema) lists = All-map (IsList schema) (λ (name : List ℕ). accepted schema (bytes name)) plan.feeds (λ i d lt.
    let name = get_or plan.feeds i d in
    let within = laws.2 schema (bytes name) in
    (laws.1 schema (bytes name), omega (arith, within))) in
    interleaving_valid schema lists entries (omega (arith, count, few)) all (subst (λ n. IsInterleaving n (list_of lists) entries) (sym count) is)

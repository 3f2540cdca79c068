-- An interval of bins.
use Rattle.std.proofs.Common.{◌≡◌, ℕ, ◌+◌, ◌≤◌, Bool, true, false, ◌&&◌, List, ltb, leb, refl, sym, arith}
use Rattle.std.proofs.lemmas.Bool.Decides.{nat_tests}
use Rattle.std.proofs.lemmas.Bool.{ltb-true, ltb-false, lt-ltb, le-leb, lt-leb}
use Rattle.cube_view.proofs.Amounts.{amount-none, amount-split}
use Rattle.cube_view.proofs.OneWeight.{one_if}
use Rattle.cube_view.specs.Bag.{amount}
use Rattle.cube_view.specs.Places.{is_under, is_before}
use Rattle.cube_view.specs.Points.{Point}
use Rattle.cube_view.specs.declared.address.Address.{Address}
use Rattle.cube_view.specs.declared.schema.Schema.{Schema}
use Rattle.query_syntax.specs.declared.query.Span.{Span}
use Rattle.query_walk.specs.Walks.{is_under_in}

zero_plus : (n : ℕ) → 0 + n ≡ n
zero_plus n = omega arith

-- a bin before `to` is one before `from` or one from there on
span : (u : Bool) (b from to : ℕ) → from ≤ to → one_if (u && ltb b to) ≡ one_if (u && ltb b from) + one_if (u && (leb from b && ltb b to))
span false b from to le = refl
span true b from to le = elim (ltb b from) as (λ t. ltb b from ≡ t → one_if (ltb b to) ≡ one_if t + one_if (leb from b && ltb b to)) [
  | true ↦ λ e. let lt = ltb-true b from e in rw (lt-ltb b to (omega (arith, lt, le)), lt-leb from b lt) refl
  | false ↦ λ e. let ge = ltb-false b from e in rw (le-leb from b ge) (sym (zero_plus (one_if (ltb b to))))
] refl

-- what stands before a span's end stands before its start or in it
pub before_end : (z : Schema) (a : Address) (t : Span) (h : List Point) → t.from ≤ t.to → amount (is_before z a t.to) h ≡ amount (is_before z a t.from) h + amount (is_under_in z a t) h
before_end z a t h le = amount-split (is_before z a t.to) (is_before z a t.from) (is_under_in z a t) (λ s. span (is_under z a s) s.bin t.from t.to le) h

no_bin_below : (u : Bool) (b : ℕ) → (u && ltb b 0) ≡ false
no_bin_below false b = refl
no_bin_below true b = grind (arith, nat_tests)

-- nothing stands before the first bin
pub none_before : (z : Schema) (a : Address) (bin_end : ℕ) (h : List Point) → bin_end ≡ 0 → 0 ≡ amount (is_before z a bin_end) h
none_before z a bin_end h e = rw e (sym (amount-none (is_before z a 0) (λ s. no_bin_below (is_under z a s) s.bin) h))

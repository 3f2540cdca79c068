use Rattle.std.proofs.Common.{ℕ, ◌-◌, ◌≡◌, ap₂, nat_lt, arith, ap, ◌∙◌, ne_eqb}
use Rattle.shape_test.specs.Labels.{label_end}
use Rattle.shape_test.proofs.AddressPlaces.{end_in, end_out, lt_none}
use Rattle.shape_test.proofs.place.is_label.Goals as goal

pub returns-then-k-len : goal.returns-then-k-len
returns-then-k-len c = ap₂ nat_lt c.from.ensures (c.len-then-k-len.ensures ∙ end_in c.args.schema.now c.args.dim (c.from-k.result - 2) c.get.result.now (ne_eqb c.args.dim 1 c.if-dim-eq1.false) (ap (λ (n : ℕ). n - 2) c.from-k.ensures) (omega arith) c.get.ensures)

pub returns-else-k-len : goal.returns-else-k-len
returns-else-k-len c =
    let none : label_end c.args.schema.now c.args.dim ≡ 0 = end_out c.args.schema.now c.args.dim (c.from-k.result - 2) (ne_eqb c.args.dim 1 c.if-dim-eq1.false) (ap (λ (n : ℕ). n - 2) c.from-k.ensures) (omega arith) in
    lt_none (c.from-k.result - 2) c.len.result c.args.label (label_end c.args.schema.now c.args.dim) (omega arith) none

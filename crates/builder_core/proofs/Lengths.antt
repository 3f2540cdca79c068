-- The lengths that are told, as the journal grows.
use Rattle.std.proofs.Common.{◌≡◌, ℕ, ◌+◌, ◌*◌, ◌<◌, List, [], ◌∷◌, ◌++◌, All, map, sym, ap, ◌∙◌, add-mul, one-mul, zero-mul, arith}
use Rattle.std.specs.List.{range_with_len}
use Rattle.std.proofs.lemmas.Nat.{div-mul-add}
use Rattle.std.proofs.lemmas.List.Elements.{All-map, All-weaker}
use Rattle.std.proofs.lemmas.List.FromFn.{map-range_with_len_more}
use Rattle.mailbox.specs.Ends.{InEnd}
use Rattle.builder_core.specs.Telling.{multiples_up_to, having_put}

-- those up to k batches, and a rest below one
multiples-within : (b k p : ℕ) → p < b → multiples_up_to b (k * b + p) ≡ map (λ (i : ℕ). i * b) (range_with_len 1 k)
multiples-within b k p small = ap (λ (n : ℕ). map (λ (i : ℕ). i * b) (range_with_len 1 n)) (div-mul-add k b p small)

-- those up to k batches
multiples-exact : (b n k : ℕ) → 0 < b → n ≡ k * b → multiples_up_to b n ≡ map (λ (i : ℕ). i * b) (range_with_len 1 k)
multiples-exact b n k some is =
    let same : n ≡ k * b + 0 = omega (arith, is) in
    ap (multiples_up_to b) same ∙ multiples-within b k 0 some

-- there are none up to 0
pub multiples-none : (b n : ℕ) → 0 < b → n ≡ 0 → multiples_up_to b n ≡ []
multiples-none b n some is = multiples-exact b n 0 some (is ∙ sym (zero-mul b))

-- a rest below one batch is no multiple more
pub multiples-rest : (b n k p : ℕ) → n ≡ k * b → p < b → multiples_up_to b n ≡ multiples_up_to b (n + p)
multiples-rest b n k p is small =
    let same : k * b + p ≡ n + p = omega (arith, is) in
    multiples-exact b n k (omega arith) is ∙ (sym (multiples-within b k p small) ∙ ap (multiples_up_to b) same)

-- so many batches and one more
pub batch_more : (b n k : ℕ) → n ≡ k * b → n + b ≡ (k + 1) * b
batch_more b n k is = let more = add-mul k 1 b in let one = one-mul b in omega (arith, is, more, one)

-- one batch more is one multiple more
pub multiples-more : (b n k : ℕ) → 0 < b → n ≡ k * b → multiples_up_to b n ++ (n + b) ∷ [] ≡ multiples_up_to b (n + b)
multiples-more b n k some is =
    ap (λ (l : List ℕ). l ++ (n + b) ∷ []) (multiples-exact b n k some is)
    ∙ (ap (λ (m : ℕ). map (λ (i : ℕ). i * b) (range_with_len 1 k) ++ m ∷ []) (batch_more b n k is)
    ∙ (sym (map-range_with_len_more (λ (i : ℕ). i * b) 1 k (k + 1) (omega arith))
    ∙ sym (multiples-exact b (n + b) (k + 1) some (batch_more b n k is))))

-- a length that is put into mailboxes with the same lengths
pub All-having_put : (n : ℕ) (lengths : List ℕ) (mails : List InEnd) → All (λ (m : InEnd). m.lengths ≡ lengths) mails → All (λ (m : InEnd). m.lengths ≡ lengths ++ n ∷ []) (map (having_put n) mails)
All-having_put n lengths mails all =
    All-map (λ (m : InEnd). m.lengths ≡ lengths ++ n ∷ []) (having_put n) mails
    (All-weaker (λ (m : InEnd). m.lengths ≡ lengths) (λ (m : InEnd). m.lengths ++ n ∷ [] ≡ lengths ++ n ∷ []) (λ m e. ap (λ (l : List ℕ). l ++ n ∷ []) e) mails all)

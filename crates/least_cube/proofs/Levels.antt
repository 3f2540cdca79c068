-- How far down a walk is in its last dimension, and whether a finer address is the address itself.
use Rattle.std.proofs.Common.{◌≡◌, ◌≢◌, ℕ, suc, ◌<◌, ◌≤◌, Bool, false, ◌⊎◌, inl, inr, List, [], ◌∷◌, length, refl, ap, arith}
use Rattle.cube_view.specs.Walks.{Step, down, across, Walk, Finer, top, by_down, by_across, longer}

-- how many labels a walk has in its last dimension
abbrev pub level : Walk → ℕ
level [] = 0
level (down l ∷ a) = suc (level a)
level (across ∷ a) = 0

-- a finer address is no less far down in its last dimension
pub level-finer : {loose : Bool} {a b : Walk} → Finer loose a b → level a ≤ level b
level-finer top = omega arith
level-finer (by_down f) = let r = level-finer f in omega arith
level-finer (by_across f) = omega arith
level-finer (longer f) = let r = level-finer f in omega arith

-- and just as far down where its last dimension is kept
pub level-coarser : {a b : Walk} → Finer false a b → level a ≡ level b
level-coarser top = refl
level-coarser (by_down f) = ap suc (level-coarser f)
level-coarser (by_across f) = refl

last_same : (e : Step) (a b : Walk) → e ∷ a ≡ e ∷ b → a ≡ b
last_same e a b h = cc

step_cases : (e : Step) (a b : Walk) → (a ≡ b) ⊎ (a ≢ b) → (e ∷ a ≡ e ∷ b) ⊎ (e ∷ a ≢ e ∷ b)
step_cases e a b (inl h) = inl (ap (λ z. e ∷ z) h)
step_cases e a b (inr d) = inr (λ h. d (last_same e a b h))

-- an address that is coarser than the top has no steps
pub none_above : {loose : Bool} {a b : Walk} → Finer loose a b → length b ≡ 0 → length a ≡ 0
none_above top e = e
none_above (by_down f) e = absurd (omega arith)
none_above (by_across f) e = absurd (omega arith)
none_above (longer f) e = absurd (omega arith)

-- whether a finer address is the address itself
pub finer_cases : {loose : Bool} {a b : Walk} → Finer loose a b → (a ≡ b) ⊎ (a ≢ b)
finer_cases top = inl refl
finer_cases (by_down {l = l} {a = a} {b = b} f) = step_cases (down l) a b (finer_cases f)
finer_cases (by_across {a = a} {b = b} f) = step_cases across a b (finer_cases f)
finer_cases (longer {l = l} {a = a} {b = b} f) = inr (λ h. let r = level-finer f in let n : level a ≡ level (down l ∷ b) = ap level h in omega arith)

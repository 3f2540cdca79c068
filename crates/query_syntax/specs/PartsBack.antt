-- Whether there was a filter is told by what filters said.
use Rattle.std.specs.Prelude.{◌≡◌, Bool, true, false, List, [], ◌∷◌, length, map, is_some}
use Rattle.std.proofs.Common.{ap, refl, arith}
use Rattle.query_syntax.specs.FilterParts.{said_if, sets_said}
use Rattle.query_syntax.specs.declared.query.Choice.{Choice}

pub flag_back : {A : Type 0} → (said : Bool) (part : A) → is_some (said_if said part) ≡ said
flag_back true part = refl
flag_back false part = refl

flags_of : (said : List Bool) (sets : List Choice) → length said ≡ length sets → map is_some (sets_said said sets) ≡ said
flags_of [] sets same = refl
flags_of (s ∷ said) [] same = absurd (omega arith)
flags_of (true ∷ said) (set ∷ sets) same = ap (λ more. true ∷ more) (flags_of said sets (omega arith))
flags_of (false ∷ said) (set ∷ sets) same = ap (λ more. false ∷ more) (flags_of said sets (omega arith))

pub flags_back : (said : List Bool) (sets : List Choice) → length said ≡ 4 → length sets ≡ 4 → map is_some (sets_said said sets) ≡ said
flags_back said sets flags four = flags_of said sets (omega arith)

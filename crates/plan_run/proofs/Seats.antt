-- Sessions over scripts and sinks, of which one more is seated.
use Rattle.std.proofs.Common.{◌≡◌, List, [], ◌∷◌, ◌++◌, length, refl, ap, arith}
use Rattle.live_session.specs.State.{new_session}
use Rattle.outer_io.specs.Cutting.{Cutter}
use Rattle.plan_run.specs.Seated.{sessions_of}

pub sessions_of-push : {I O : Type 0} (scripts : List (Cutter I)) (sinks : List O) (script : Cutter I) (sink : O) → length sinks ≡ length scripts → sessions_of (scripts ++ script ∷ []) (sinks ++ sink ∷ []) ≡ sessions_of scripts sinks ++ new_session script sink ∷ []
sessions_of-push [] [] script sink n = refl
sessions_of-push [] (k ∷ sinks) script sink n = absurd (omega (arith, n))
sessions_of-push (c ∷ scripts) [] script sink n = absurd (omega (arith, n))
sessions_of-push (c ∷ scripts) (k ∷ sinks) script sink n = ap (λ l. new_session c k ∷ l) (sessions_of-push scripts sinks script sink (omega (arith, n)))

-- What is put into a sink after nothing was put, and of the feed that is refused last.
use Rattle.std.proofs.Common.{ℕ, List, Option, Ok, Err, refl, ◌∙◌, ap, subst}
use Rattle.cube_view.specs.declared.schema.Schema.{Schema}
use Rattle.outer_io.specs.Bytes.{Gains, GainsPart}
use Rattle.outer_io.specs.Faults.{Rose}
use Rattle.run_files.proofs.Apart.{err_is, ok_not_err}
use Rattle.run_files.specs.Headed.{RefusesLast}
use Rattle.run_files.specs.Outside.{FailsToPut, Puts, Silent, SinkSeen}
use Rattle.run_files.specs.Saying.{SaysText}
use Rattle.run_files.specs.declared.stop.Stop.{Stop}
use Rattle.run_files.specs.declared.stop.Stop.TheVariants.{NoMemory, PlanRefused, ReadFault, WriteFault, FeedRefused}

-- of the last feed that is refused something else is said
pub refuses_saying : (schema : Schema) (file : List ℕ → Option (List ℕ)) (names : List (List ℕ)) (Says Says' : List ℕ → Type 0) → ((line : List ℕ) → Says line → Says' line) → RefusesLast schema file names Says → RefusesLast schema file names Says'
refuses_saying schema file names Says Says' step last = record {
  earlier = last.earlier;
  name = last.name;
  names_are = last.names_are;
  refuses = record {
    fault = last.refuses.fault;
    of_line = last.refuses.of_line;
    refused = last.refuses.refused;
    says = step _ last.refuses.says;
  };
}

module _ {O : Type 0} (s : SinkSeen O) where
  -- a sink that is as it was
  pub silent_itself : (o : O) → Silent s o o
  silent_itself o = record { held = refl; faults = refl; name = refl }

  -- nothing was put into it at first
  module _ (a b c : O) (quiet : Silent s a b) where
    pub silent_after : Silent s b c → Silent s a c
    silent_after more = record { held = more.held ∙ quiet.held; faults = more.faults ∙ quiet.faults; name = more.name ∙ quiet.name }

    pub puts_after : (bytes : List ℕ) → Puts s b c bytes → Puts s a c bytes
    puts_after bytes more = record {
      held = subst (λ (h : Option (List ℕ)). Gains h (s.held c) bytes) quiet.held more.held;
      faults = more.faults ∙ quiet.faults;
      name = more.name ∙ quiet.name;
    }

    pub fails_after : (bytes : List ℕ) → FailsToPut s b c bytes → FailsToPut s a c bytes
    fails_after bytes more = record {
      held = subst (λ (h : Option (List ℕ)). GainsPart h (s.held c) bytes) quiet.held more.held;
      faults = subst (λ (n : ℕ). Rose n (s.faults c)) quiet.faults more.faults;
      name = more.name ∙ quiet.name;
    }

  -- what was said is said whatever is answered of it
  module _ {T U : Type 0} (a b : O) (text : List ℕ) where
    pub says_done : (x : T) (y : U) → SaysText s a b text (Ok x) → SaysText s a b text (Ok y)
    says_done x y says = record { puts = says.puts; fails = λ e. absurd (ok_not_err y WriteFault e); silent = λ e. absurd (ok_not_err y NoMemory e); ends = (ok_not_err y PlanRefused, ok_not_err y ReadFault, ok_not_err y FeedRefused) }

    -- so it is where saying it ended the run
    pub says_ended : (k : Stop) → SaysText {T = T} s a b text (Err k) → SaysText {T = U} s a b text (Err k)
    says_ended k says = record {
      puts = tt;
      fails = λ e. says.fails (ap (λ l. Err l) (err_is k WriteFault e));
      silent = λ e. says.silent (ap (λ l. Err l) (err_is k NoMemory e));
      ends = (λ e. says.ends.0 (ap (λ l. Err l) (err_is k PlanRefused e)), λ e. says.ends.1 (ap (λ l. Err l) (err_is k ReadFault e)), λ e. says.ends.2 (ap (λ l. Err l) (err_is k FeedRefused e)));
    }

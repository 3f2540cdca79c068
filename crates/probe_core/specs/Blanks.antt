-- What a blank ledger needs, so that steps can be counted with it.
use Rattle.std.specs.Prelude.{◌≡◌, ℕ, ◌<◌}
use Rattle.std.specs.declared.sync.ledger.Blank.{Blank}

-- the blank is that of a ledger by its name and its parts, and has a part to give
pub record IsBlankOf (ledger_name ledger_parts : ℕ) (blank : Blank) : Type 0 where
  pub name : blank.name ≡ ledger_name
  pub parts : blank.parts ≡ ledger_parts
  pub some : 0 < blank.parts

-- How what a writer of JSON has written grows.
use Rattle.std.specs.Prelude.{◌++◌, ◌≡◌, List}
use Rattle.ld_text.specs.Names.{Token, Written}

-- these tokens were written, and nothing else changed
pub record Adds (old new : Written) (tokens : List Token) : Type 0 where
  pub before : new.before ≡ old.before
  pub grew : new.tokens ≡ old.tokens ++ tokens

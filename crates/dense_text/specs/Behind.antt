-- Bytes on their way to a sink: some of a text were written, and the rest of it is held back.
use Rattle.std.specs.Prelude.{◌≡◌, ℕ, List, ◌++◌, Option}
use Rattle.streams.specs.Stream.{appended}

-- of the text, what isn't held back stands behind what was there before
pub record IsBehind (before : Option (List ℕ)) (text : List ℕ) (after : Option (List ℕ)) (held : List ℕ) : Type 0 where
  pub written : List ℕ
  pub after_is : after ≡ appended before written
  pub text_is : written ++ held ≡ text

-- Text in which HTML and Graphviz read no mark.
use Rattle.std.specs.Prelude.{ℕ, List, [], ◌∷◌, codes, flat_map, nat_eq, if◌then◌else◌}

-- what stands for a byte: `&`, `<`, `>` and `"` have names
abbrev pub escape_byte : ℕ → List ℕ
escape_byte byte =
    if nat_eq byte 38 then codes "&amp;"
    else if nat_eq byte 60 then codes "&lt;"
    else if nat_eq byte 62 then codes "&gt;"
    else if nat_eq byte 34 then codes "&quot;"
    else byte ∷ []

abbrev pub escape : List ℕ → List ℕ
escape text = flat_map escape_byte text

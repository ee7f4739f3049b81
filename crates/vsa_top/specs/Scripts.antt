-- The script that stands behind an image text.
use Rattle.std.specs.Prelude.{◌≡◌, ℕ, ◌<◌, ◌≤◌, None, Some, Ok, Err, List, length}
use Rattle.script_text.specs.declared.fault.ScriptError.{ScriptError}
use Rattle.script_text.specs.declared.fault.ScriptError.TheVariants as script_error
use Rattle.script_text.specs.Script.{script_of}
use Rattle.script_text.specs.Reading.{Reading, IsRefusedWithin}
use Rattle.vsa_top.specs.declared.script.ScriptRefusal.{ScriptRefusal}
use Rattle.vsa_top.specs.declared.script.ScriptRefusal.TheVariants.{Failed, Memory, Syntax, TooLong}

-- the longest second text
abbrev pub second_limit : ℕ
second_limit = 268435456

-- the text is within the limit, and denotes these numbers
pub record IsScript (text numbers : List ℕ) : Type 0 where
  pub fits : length text ≤ second_limit
  pub denoted : script_of text ≡ Ok numbers

-- the text is within the limit, and this is its first line that is refused
pub record IsRefused (text : List ℕ) (line : ℕ) : Type 0 where
  pub fits : length text ≤ second_limit
  pub refused : script_of text ≡ Err line

-- what is told of a text that gives no script; a source that fails and want of memory tell nothing
abbrev pub LacksScript : List ℕ → ScriptRefusal → Type 0
LacksScript text (Syntax line) = IsRefused text line
LacksScript text TooLong = second_limit < length text
LacksScript text Failed = Unit {0}
LacksScript text Memory = Unit {0}

-- what a reader's error is called here
abbrev pub refusal_of : ScriptError → ScriptRefusal
refusal_of (script_error.Syntax line) = Syntax line
refusal_of script_error.Memory = Memory

-- a reader that was given the text: it has it, or it has refused a whole line of it
pub data IsAt (reader : Reading) (text : List ℕ) : Type 0 where
  going : reader.error ≡ None → reader.text ≡ text → IsAt reader text
  refused : (line : ℕ) → reader.error ≡ Some (script_error.Syntax line) → length reader.text ≤ length text
      → IsRefusedWithin text line → IsAt reader text

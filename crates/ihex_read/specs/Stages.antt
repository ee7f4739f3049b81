-- How far a text has been read: its whole lines, the line that has begun, and what the whole lines have made.
use Rattle.std.specs.Prelude.{◌≡◌, ◌++◌, ◌∷◌, [], ◌≤◌, ℕ, Bool, true, false, List, map, flat_map, length, Option, None, Some, All}
use Rattle.image.specs.declared.rule_set.Rules.{Rules}
use Rattle.image.specs.declared.tail.Tail.{Tail}
use Rattle.image.specs.declared.tail.Tail.TheVariants.{Blank, Second}
use Rattle.ihex_read.specs.declared.fault.HexFault.{HexFault}
use Rattle.ihex_read.specs.declared.fault.HexFault.TheVariants.{Trailing}
use Rattle.ihex_read.specs.declared.stage.Progress.{Progress}
use Rattle.ihex_read.specs.ImageText.{fault_of, IsOpen, Ends, IsImage}
use Rattle.text_lines.specs.Lines.{feeds_of, without_return}
use Rattle.ihex_read.specs.Loading.{Made}

-- each line with its line feed, and then a line without one
abbrev pub joined : List (List ℕ) → List ℕ → List ℕ
joined whole begun = flat_map (λ line. line ++ 10 ∷ []) whole ++ begun

-- no line feed stands in a line
pub record IsCut (whole : List (List ℕ)) (begun : List ℕ) : Type 0 where
  pub each : All (λ line. feeds_of line ≡ 0) whole
  pub last : feeds_of begun ≡ 0

-- what is used behind an end record's line
abbrev pub IsUsed : Tail → List (List ℕ) → Type 0
IsUsed Blank behind = All (λ line. line ≡ []) behind
IsUsed Second behind = behind ≡ []

-- no line is an end record, and they made the base and the image
pub record IsGoing (rules : Rules) (lines : List (List ℕ)) (base : ℕ) (image : List (Option ℕ)) : Type 0 where
  pub all_open : IsOpen rules lines
  pub made : Made lines base image

-- one is an end record, and those in front of it made the image
pub record IsOver (rules : Rules) (tail : Tail) (lines : List (List ℕ)) (image : List (Option ℕ)) : Type 0 where
  pub before : List (List ℕ)
  pub line : List ℕ
  pub behind : List (List ℕ)
  pub ends : Ends rules lines before line behind
  pub used : IsUsed tail behind
  pub placed : IsImage image before

abbrev pub Stands : Rules → Tail → List (List ℕ) → Bool → ℕ → List (Option ℕ) → Type 0
Stands rules tail lines false base image = IsGoing rules lines base image
Stands rules tail lines true base image = IsOver rules tail lines image

-- what lines have made, as it is kept
abbrev pub IsBehind : Tail → List (List ℕ) → Progress → Type 0
IsBehind tail lines progress = Stands progress.loader.rules tail lines progress.ended progress.loader.base progress.loader.image.items

-- whether the text may go on behind its last line
abbrev pub GoesOn : Tail → Bool → Type 0
GoesOn Second true = ⊥
GoesOn tail ended = Unit {0}

-- the fault of the next line; behind an end record's line each other than a blank one has one
abbrev pub next_fault : Rules → List (List ℕ) → Bool → List ℕ → Option HexFault
next_fault rules lines false line = fault_of rules lines line
next_fault rules lines true [] = None
next_fault rules lines true (b ∷ bytes) = Some Trailing

-- the lines so far, and the one that has begun
pub record HasRead (rules : Rules) (tail : Tail) (whole : List (List ℕ)) (begun : List ℕ) (ended : Bool) (base : ℕ) (image : List (Option ℕ)) : Type 0 where
  pub cut : IsCut whole begun
  pub stands : Stands rules tail (map without_return whole) ended base image
  -- a second text isn't begun
  pub rest : (GoesOn tail ended → ⊥) → begun ≡ []
  pub small : length (joined whole begun) ≤ 4194304

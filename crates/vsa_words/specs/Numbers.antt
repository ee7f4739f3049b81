-- Numbers and ranges of addresses as texts.
use Rattle.std.specs.Prelude.{◌≡◌, ℕ, ◌+◌, ◌-◌, ◌*◌, ◌<◌, ◌≤◌, All, Some, List, [], ◌∷◌, length, take, drop, slice_index}
use Rattle.hex_digits.specs.EitherCase.{word_in_either_case}
use Rattle.vsa_words.specs.declared.numbers.Span.{Span}

-- two numbers with a hyphen between
pub record IsRange (text : List ℕ) (span : Span) : Type 0 where
  pub size : length text ≡ 9
  pub hyphen : slice_index text 4 ≡ 45
  pub first : word_in_either_case (take 4 text) ≡ Some span.lo
  pub last : word_in_either_case (drop 5 text) ≡ Some span.hi

-- the number that decimal digits write, behind those of another one
abbrev pub number_behind : ℕ → List ℕ → ℕ
number_behind n [] = n
number_behind n (digit ∷ digits) = number_behind (10 * n + (digit - 48)) digits

abbrev pub IsDigit : ℕ → Type 0
IsDigit digit = (48 ≤ digit) × (digit < 58)

-- the number of decimal digits behind those of another one, where it is at most a million
pub record IsNumberBehind (n : ℕ) (digits : List ℕ) (number : ℕ) : Type 0 where
  pub all_digits : All IsDigit digits
  pub value : number ≡ number_behind n digits
  pub allowed : number ≤ 1000000

-- a number of 1 to 7 decimal digits, at most a million
pub record IsNumber (text : List ℕ) (number : ℕ) : Type 0 where
  pub some : 1 ≤ length text
  pub few : length text ≤ 7
  pub is : IsNumberBehind 0 text number

-- such a number between two others
pub record IsNumberIn (least most : ℕ) (text : List ℕ) (number : ℕ) : Type 0 where
  pub is : IsNumber text number
  pub no_less : least ≤ number
  pub no_more : number ≤ most

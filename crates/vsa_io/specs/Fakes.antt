-- Sources and sinks in memory whose every answer follows from what they were made of. Their calls are numbered
-- from 1, and a call whose number is one of a list fails.
use Rattle.std.specs.Prelude.{ℕ, Bool, nat_eq, nat_lt, nat_le, ◌&&◌, List, length, min}
use Rattle.std.specs.List.{list_any}
use Rattle.streams.specs.Count.{one_more}

-- a source that never fails: the bytes that are left, and how many a call gives at most
pub record CleanFeed : Type 0 where
  pub left : List ℕ
  pub piece : ℕ

-- a source that fails at some calls: also the number of its last call, the numbers of the calls that fail, and
-- how many have failed
pub record MemFeed : Type 0 where
  pub left : List ℕ
  pub piece : ℕ
  pub calls : ℕ
  pub failing : List ℕ
  pub faults : ℕ

-- a sink that fails only where it is full: the bytes that it holds, how many a call takes at most, how many it
-- can hold, and how many calls have failed
pub record CleanStore : Type 0 where
  pub held : List ℕ
  pub piece : ℕ
  pub room : ℕ
  pub faults : ℕ

-- a sink that fails at some calls too
pub record MemStore : Type 0 where
  pub held : List ℕ
  pub piece : ℕ
  pub room : ℕ
  pub calls : ℕ
  pub failing : List ℕ
  pub faults : ℕ

-- the call behind the last one is one of those that fail
abbrev pub is_failing : List ℕ → ℕ → Bool
is_failing failing calls = list_any (λ number. nat_eq number (one_more calls)) failing

-- how many of the bytes a call gives or takes, at most a piece, where there is room for so many
abbrev pub count_of : ℕ → ℕ → List ℕ → ℕ
count_of piece room bytes = min piece (min room (length bytes))

-- there are bytes to write, and no room for one
abbrev pub is_full_for : List ℕ → ℕ → List ℕ → Bool
is_full_for held room bytes = nat_lt 0 (length bytes) && nat_le room (length held)

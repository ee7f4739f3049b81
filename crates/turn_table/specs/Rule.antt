-- The rule that holds of a table between any two atomic steps.
use Rattle.std.specs.Prelude.{◌≡◌, ◌≢◌, ℕ, ◌+◌, ◌%◌, ◌<◌, ◌≤◌, ◌⊎◌, All, List, [], ◌∷◌, Option, Some}
use mathlib.Core.Option.{some, none}
use lib.ListN.{get_elem?}
use Rattle.atomic_table.specs.Table.{State}
use Rattle.turn_table.specs.Events.{StartsWith, events_of, AllBelow, AreClear, HaveEvents, IsAmong}
use Rattle.turn_table.specs.Views.{Stage, idle, waiting, serving, Known, Standing, seated, HasTicket, tickets_of, stands_of, says_of, made_of, room_of}

-- f of each, added up
abbrev pub total : {V : Type 0} → (V → ℕ) → List V → ℕ
total f [] = 0
total f (v ∷ vs) = f v + total f vs

-- the tickets that are held are those from the count of turns up to the count of tickets, and who is served has seen all
abbrev pub FitsStage : {E : Type 0} → ℕ → ℕ → List E → List E → Stage → Type 0
FitsStage turns drawn log seen idle = Unit {0}
FitsStage turns drawn log seen (waiting t) = (turns ≤ t) × (t < drawn)
FitsStage turns drawn log seen (serving t) = (t ≡ turns) × (t < drawn) × (seen ≡ log)

module _ {E C : Type 0} where
  -- a seat stands at this place of the list
  abbrev pub At : List (Standing E C) → ℕ → Known E C → Type 0
  At views i v = get_elem? views i ≡ some (seated v)

  -- two seats have different numbers and tickets, and neither may give the other's number
  pub record Apart (v w : Known E C) : Type 0 where
    pub numbers : v.number ≢ w.number
    pub tickets : (t : ℕ) → HasTicket v.stage t → HasTicket w.stage t → ⊥
    pub not_to_give : 0 < v.number → v.number ≤ w.room → ⊥
    -- nor has w the number of a seat that v took in, nor may it give that
    pub clear : AreClear w.number w.room v.ended

  -- some seat knows the whole history
  abbrev pub IsLatest : List E → List (Standing E C) → Type 0
  IsLatest log views = (i : ℕ) × (v : Known E C) × At views i v × ((v.seen ≡ log) ⊎ (v.told ≡ log))

  -- some seat has the number, or took in the one that had it
  abbrev pub IsKnown : List (Standing E C) → ℕ → Type 0
  IsKnown views n = (i : ℕ) × (v : Known E C) × At views i v × ((v.number ≡ n) ⊎ IsAmong n v.ended)

  module _ (seat_of : E → ℕ) (base : C) (seats : ℕ) where
    -- what a seat knows is true of the history
    pub record Suits (log : List E) (v : Known E C) : Type 0 where
      pub seen : StartsWith log v.seen
      pub told : StartsWith log v.told
      pub own : events_of seat_of v.number log ≡ v.mine
      pub own_seen : events_of seat_of v.number v.seen ≡ v.mine
      pub below : v.number < seats
      pub base_is : v.base ≡ base
      pub seats_is : v.seats ≡ seats
      pub stands : 0 < v.stands
      pub unsaid : v.says ≡ 0 → v.made ≡ 0
      pub first : 0 < v.room → (v.number ≡ 0) × (0 < v.says)
      pub to_give : (n : ℕ) → 0 < n → n ≤ v.room → events_of seat_of n log ≡ []
      pub ended : HaveEvents seat_of log v.ended
      pub clear : AreClear v.number v.room v.ended

    pub record Fits (turns drawn : ℕ) (log : List E) (v : Known E C) : Type 0 where
      pub suits : Suits log v
      pub stage : FitsStage turns drawn log v.seen v.stage

  -- the value is out with the seat that is served
  abbrev pub IsAway : {B : Type 0} → List (mathlib.Core.Option.Option (Option B)) → List (Standing E C) → Type 0
  IsAway homes views = (homes ≡ none ∷ []) × ((i : ℕ) × (v : Known E C) × (t : ℕ) × At views i v × (v.stage ≡ serving t))

  module _ {B : Type 0} (history : B → List E) (seat_of : E → ℕ) (base_of : B → C) (base : C) (seats : ℕ) where
    -- the value is at home, with the whole history
    abbrev pub IsAtHome : List E → List (mathlib.Core.Option.Option (Option B)) → Type 0
    IsAtHome log homes = (x : B) × (homes ≡ some (Some x) ∷ []) × (history x ≡ log) × (base_of x ≡ base)

    pub record Kept (s : State (Option B) (Standing E C)) : Type 0 where
      -- the tickets that were drawn, the turns that were passed, and the history
      pub drawn : ℕ
      pub turns : ℕ
      pub log : List E
      pub words : s.words ≡ (drawn % 18446744073709551616) ∷ (turns % 18446744073709551616) ∷ []
      pub few : seats < 4294967296
      pub tickets : total tickets_of s.views + turns ≡ drawn
      pub stand : total stands_of s.views ≡ total made_of s.views
      pub one_says : total says_of s.views ≡ 1
      pub made : total made_of s.views + total room_of s.views ≤ seats
      pub fits : (i : ℕ) (v : Known E C) → At s.views i v → Fits seat_of base seats turns drawn log v
      pub apart : (i j : ℕ) (v w : Known E C) → i ≢ j → At s.views i v → At s.views j w → Apart v w
      pub below : AllBelow seat_of seats log
      pub known : All (λ e. IsKnown s.views (seat_of e)) log
      pub latest : IsLatest log s.views
      pub slot : IsAtHome log s.homes ⊎ IsAway s.homes s.views

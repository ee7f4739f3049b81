-- Which symbols name an address: those of the greatest address of a symbol up to it, where they reach up to it.
use Rattle.std.specs.Prelude.{ℕ, ◌+◌, ◌==◌, max, nat_lt, nat_le, ◌&&◌, ◌||◌, if◌then◌else◌, Bool, true, false, Option, None, Some, List, [], ◌∷◌}
use Rattle.symbol_lists.specs.declared.symbol.Place.{Place}
use Rattle.symbol_lists.specs.declared.symbol.Place.TheVariants.{Any, Code, Internal, External}
use Rattle.symbol_lists.specs.declared.symbol.Symbol.{Symbol}

-- the two may be the same memory
abbrev pub meets : (asked own : Place) → Bool
meets Any own = true
meets Code Any = true
meets Code Code = true
meets Internal Any = true
meets Internal Internal = true
meets External Any = true
meets External External = true
meets asked own = false

-- the symbol's address, if it is one of the memory and not above the address
abbrev pub up_to : Place → (address : ℕ) → Symbol → Option ℕ
up_to place address symbol = if meets place symbol.place && nat_le symbol.at address then Some symbol.at else None

abbrev pub later : (a b : Option ℕ) → Option ℕ
later None b = b
later (Some a) None = Some a
later (Some a) (Some b) = Some (max a b)

-- the greatest address of a symbol up to an address
abbrev pub base_of : Place → (address : ℕ) → List Symbol → Option ℕ
base_of place address [] = None
base_of place address (symbol ∷ symbols) = later (up_to place address symbol) (base_of place address symbols)

-- it stands there and reaches up to the address
abbrev pub is_name : Place → (base address : ℕ) → Symbol → Bool
is_name place base address symbol =
    meets place symbol.place && symbol.at == base && (symbol.size == 0 || nat_lt address (symbol.at + symbol.size))

-- A data record behind lines whose bytes stand below it, and the end record.
use Rattle.std.proofs.Common.{◌≡◌, ℕ, ◌+◌, ◌<◌, ◌≤◌, ◌==◌, ◌&&◌, not, nat_lt, Bool, false, List, [], ◌∷◌, ◌++◌, length, None, refl, ◌∙◌, ap, append-nil, le-ltb, ne_eqb, arith}
use Rattle.std.specs.Prelude.{All, find}
use Rattle.std.specs.List.{list_any, enumerate_from}
use Rattle.std.proofs.lemmas.Bool.{and_left}
use Rattle.std.proofs.lemmas.List.Elements.{All-nil, All-cons, All-append, All-weaker}
use Rattle.std.proofs.lemmas.List.Folds.{list_any_none}
use Rattle.ihex_read.specs.declared.fault.HexFault.{HexFault}
use Rattle.ihex_read.specs.declared.fault.HexFault.TheVariants.{NoColon, BadDigit, BadLength, BadSum, BadType, BadTypeLength, OutOfRange, Clash, Misplaced, NoReset}
use Rattle.image.specs.declared.rule_set.Rules.{Rules}
use Rattle.ihex_read.specs.ImageText.{IsOpen, alone_faults, placing_faults, base_of, placed_from, placed_of, clashes, fault_of, has, is_end, is_misplaced}
use Rattle.ihex_read.specs.Record.{record_of, base_behind, placed_by}
use Rattle.made_programs.proofs.RecordLines.{IsRow, base_stays, line_at, no_end, none_alone, placed_back}
use Rattle.ihex_read.specs.TextFacts.{base_from-append, open_more, placed_from-append}

-- no byte may be refused for its place from this address on
abbrev pub IsFree : Rules → ℕ → Type 0
IsFree rules from = (at : ℕ) → from ≤ at → is_misplaced rules at ≡ false

-- lines with no fault, whose bytes stand below an address
pub record IsLaid (rules : Rules) (lines : List (List ℕ)) (top : ℕ) : Type 0 where
  pub all_open : IsOpen rules lines
  pub based : base_of lines ≡ 0
  pub below : All (λ (byte : ℕ × ℕ). byte.0 < top) (placed_of lines)

-- the addresses of bytes in a row
rows_within : (at : ℕ) (bytes : List ℕ) → All (λ (byte : ℕ × ℕ). (at ≤ byte.0) × (byte.0 < at + length bytes)) (enumerate_from at bytes)
rows_within at [] = All-nil (λ (byte : ℕ × ℕ). (at ≤ byte.0) × (byte.0 < at + 0))
rows_within at (b ∷ bytes) =
    let within : ℕ × ℕ → Type 0 = λ byte. (at ≤ byte.0) × (byte.0 < at + length (b ∷ bytes)) in
    All-cons within (at, b) (enumerate_from (at + 1) bytes) (omega arith, omega arith)
    (All-weaker (λ (byte : ℕ × ℕ). (at + 1 ≤ byte.0) × (byte.0 < at + 1 + length bytes)) within
    (λ byte h. let low = h.0 in let high = h.1 in (omega arith, omega arith)) (enumerate_from (at + 1) bytes) (rows_within (at + 1) bytes))

-- a test that fails at each address of a row
none_in_row : (test : ℕ × ℕ → Bool) (at : ℕ) (bytes : List ℕ)
    → ((byte : ℕ × ℕ) → at ≤ byte.0 → byte.0 < at + length bytes → test byte ≡ false)
    → list_any test (enumerate_from at bytes) ≡ false
none_in_row test at bytes fails =
    list_any_none test (enumerate_from at bytes)
    (All-weaker (λ (byte : ℕ × ℕ). (at ≤ byte.0) × (byte.0 < at + length bytes)) (λ byte. test byte ≡ false) (λ byte h. fails byte h.0 h.1)
    (enumerate_from at bytes) (rows_within at bytes))

in_range : (at : ℕ) (bytes : List ℕ) → at + length bytes ≤ 65536
    → list_any (λ (byte : ℕ × ℕ). nat_lt 65535 byte.0) (enumerate_from at bytes) ≡ false
in_range at bytes fits = none_in_row _ at bytes (λ byte low high. le-ltb 65535 byte.0 (omega arith))

apart : (placed : List (ℕ × ℕ)) (top : ℕ) (byte : ℕ × ℕ) → All (λ (other : ℕ × ℕ). other.0 < top) placed → top ≤ byte.0
    → clashes placed byte ≡ false
apart placed top byte below above =
    let test : ℕ × ℕ → Bool = λ other. (other.0 == byte.0) && not (other.1 == byte.1) in
    list_any_none test placed
    (All-weaker (λ (other : ℕ × ℕ). other.0 < top) (λ other. test other ≡ false)
    (λ other h. and_left (other.0 == byte.0) _ (ne_eqb other.0 byte.0 (λ same. omega arith))) placed below)

all_apart : (placed : List (ℕ × ℕ)) (top at : ℕ) (bytes : List ℕ) → All (λ (other : ℕ × ℕ). other.0 < top) placed → top ≤ at
    → list_any (clashes placed) (enumerate_from at bytes) ≡ false
all_apart placed top at bytes below above = none_in_row (clashes placed) at bytes (λ byte low high. apart placed top byte below (omega arith))

all_free : (rules : Rules) (at : ℕ) (bytes : List ℕ) → IsFree rules at
    → list_any (λ (byte : ℕ × ℕ). is_misplaced rules byte.0) (enumerate_from at bytes) ≡ false
all_free rules at bytes free = none_in_row _ at bytes (λ byte low high. free byte.0 low)

-- none of the faults of a line
none_found : (test : HexFault → Bool) → test NoColon ≡ false → test BadDigit ≡ false → test BadLength ≡ false → test BadSum ≡ false
    → test BadType ≡ false → test BadTypeLength ≡ false → test OutOfRange ≡ false → test Clash ≡ false → test Misplaced ≡ false
    → test NoReset ≡ false → find test (alone_faults ++ placing_faults) ≡ None
none_found test a b c d e f g h i j = rw (a, b, c, d, e, f, g, h, i, j) refl

-- a data record behind lines whose bytes stand below it
pub accepted : (rules : Rules) (lines : List (List ℕ)) (top at : ℕ) (bytes : List ℕ) → IsLaid rules lines top → top ≤ at
    → IsRow at bytes → at + length bytes ≤ 65536 → IsFree rules at → fault_of rules lines (line_at at bytes) ≡ None
accepted rules lines top at bytes laid above row fits free =
    let line = line_at at bytes in
    let alone = none_alone at bytes row in
    let places : placed_by (base_of lines) (record_of line) ≡ enumerate_from at bytes =
    ap (λ base. placed_by base (record_of line)) laid.based ∙ placed_back at bytes row in
    none_found (has rules lines line) alone.colon alone.digit alone.long alone.summed alone.kind alone.kind_long
    (ap (list_any (λ (byte : ℕ × ℕ). nat_lt 65535 byte.0)) places ∙ in_range at bytes fits)
    (ap (list_any (clashes (placed_of lines))) places ∙ all_apart (placed_of lines) top at bytes laid.below above)
    (ap (list_any (λ (byte : ℕ × ℕ). is_misplaced rules byte.0)) places ∙ all_free rules at bytes free)
    (and_left (is_end line) _ (no_end at bytes row))

-- the bytes that a data record adds
pub placed_more : (rules : Rules) (lines : List (List ℕ)) (top at : ℕ) (bytes : List ℕ) → IsLaid rules lines top → IsRow at bytes
    → placed_of (lines ++ line_at at bytes ∷ []) ≡ placed_of lines ++ enumerate_from at bytes
placed_more rules lines top at bytes laid row =
    placed_from-append 0 lines (line_at at bytes ∷ [])
    ∙ ap (λ base. placed_of lines ++ placed_from base (line_at at bytes ∷ [])) laid.based
    ∙ ap (λ added. placed_of lines ++ added) (append-nil (placed_by 0 (record_of (line_at at bytes))) ∙ placed_back at bytes row)

pub laid_more : (rules : Rules) (lines : List (List ℕ)) (top at : ℕ) (bytes : List ℕ) → IsLaid rules lines top → top ≤ at
    → IsRow at bytes → at + length bytes ≤ 65536 → IsFree rules at → IsLaid rules (lines ++ line_at at bytes ∷ []) (at + length bytes)
laid_more rules lines top at bytes laid above row fits free =
    let line = line_at at bytes in
    let below : ℕ × ℕ → Type 0 = λ byte. byte.0 < at + length bytes in
    let former = All-weaker (λ (byte : ℕ × ℕ). byte.0 < top) below (λ byte h. omega arith) (placed_of lines) laid.below in
    let added = All-weaker (λ (byte : ℕ × ℕ). (at ≤ byte.0) × (byte.0 < at + length bytes)) below (λ byte h. h.1) (enumerate_from at bytes) (rows_within at bytes) in
    record {
      all_open = open_more rules lines line laid.all_open (accepted rules lines top at bytes laid above row fits free) (no_end at bytes row);
      based = base_from-append 0 lines (line ∷ []) ∙ ap (λ base. base_behind base (record_of line)) laid.based ∙ base_stays 0 at bytes row;
      below = rw (placed_more rules lines top at bytes laid row) (All-append below (placed_of lines) (enumerate_from at bytes) former added);
    }

-- no line yet
pub laid_none : (rules : Rules) (top : ℕ) → IsLaid rules [] top
laid_none rules top = record {
  all_open = λ k h. absurd (omega arith);
  based = refl;
  below = All-nil (λ (byte : ℕ × ℕ). byte.0 < top);
}

-- a higher bound
pub laid_below : (rules : Rules) (lines : List (List ℕ)) (top more : ℕ) → IsLaid rules lines top → top ≤ more → IsLaid rules lines more
laid_below rules lines top more laid h = record {
  all_open = laid.all_open;
  based = laid.based;
  below = All-weaker (λ (byte : ℕ × ℕ). byte.0 < top) (λ byte. byte.0 < more) (λ byte less. omega arith) (placed_of lines) laid.below;
}

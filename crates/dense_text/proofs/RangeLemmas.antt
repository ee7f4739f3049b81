-- What stays of a text's ranges where bytes come behind them, and what goes on behind a range.
use Rattle.std.proofs.Common.{◌≡◌, ◌≤◌, ◌+◌, ℕ, zero, suc, List, [], ◌∷◌, ◌++◌, length, take, drop, refl, sym, ◌∙◌, ap, ap₂, append_assoc, length-drop, arith}
use Rattle.std.specs.Prelude.{All}
use Rattle.std.specs.List.{flat_map, repeat}
use Rattle.std.proofs.lemmas.List.{append-nil, drop-append-le, drop-drop, drop_at, take-append-le}
use Rattle.std.proofs.lemmas.List.Elements.{All-head, All-tail}
use Rattle.std.proofs.Math.Seq.{take-add, take-length}
use Rattle.dense_text.specs.declared.parts.Parts.{Parts}
use Rattle.dense_text.specs.declared.parts.Piece.{Piece}
use Rattle.dense_text.specs.Ranges.{IsSound, IsWithin, bytes_at, piece_of, text_of}

repeat_as : (k n : ℕ) (xs : List ℕ) → k ≡ suc n → repeat k xs ≡ xs ++ repeat n xs
repeat_as k n xs is = ap (λ i. repeat i xs) is

-- so many and so many more
pub repeat_add : (n m : ℕ) (xs : List ℕ) → repeat (n + m) xs ≡ repeat n xs ++ repeat m xs
repeat_add zero m xs = ap (λ i. repeat i xs) (omega arith)
repeat_add (suc n) m xs =
    repeat_as (suc n + m) (n + m) xs (omega arith) ∙ ap (λ rest. xs ++ rest) (repeat_add n m xs) ∙ sym (append_assoc xs (repeat n xs) (repeat m xs))

-- once more at the end is once more at the start
pub repeat_more : (n : ℕ) (xs : List ℕ) → repeat (n + 1) xs ≡ repeat n xs ++ xs
repeat_more n xs = repeat_add n 1 xs ∙ ap (λ once. repeat n xs ++ once) (append-nil xs)

-- the bytes behind a range go on from it
bytes_at_more : (bytes : List ℕ) (start len more : ℕ)
    → bytes_at bytes start (len + more) ≡ bytes_at bytes start len ++ bytes_at bytes (start + len) more
bytes_at_more bytes start len more =
    take-add len more (drop start bytes) ∙ ap (λ rest. bytes_at bytes start len ++ take more rest) (drop-drop len start bytes)

-- a range of bytes is the same where others come behind them
bytes_at_within : (bytes behind : List ℕ) (start len : ℕ) → start + len ≤ length bytes
    → bytes_at (bytes ++ behind) start len ≡ bytes_at bytes start len
bytes_at_within bytes behind start len within =
    ap (take len) (drop-append-le start bytes behind (omega (arith, within)))
    ∙ take-append-le len (drop start bytes) behind (omega (arith, within, length-drop start bytes))

-- a range at the end of the bytes goes on with what comes behind them
bytes_at_end : (bytes part : List ℕ) (start len : ℕ) → start + len ≡ length bytes
    → bytes_at (bytes ++ part) start (len + length part) ≡ bytes_at bytes start len ++ part
bytes_at_end bytes part start len end =
    bytes_at_more (bytes ++ part) start len (length part)
    ∙ ap₂ ◌++◌ (bytes_at_within bytes part start len (omega (arith, end)))
    (ap (take (length part)) (drop_at bytes part (start + len) (sym end)) ∙ take-length part)

pieces_within : (bytes behind : List ℕ) (pieces : List Piece) → All (IsWithin bytes) pieces
    → flat_map (piece_of (bytes ++ behind)) pieces ≡ flat_map (piece_of bytes) pieces
pieces_within bytes behind [] all = refl
pieces_within bytes behind (piece ∷ pieces) all =
    ap₂ ◌++◌ (ap (repeat piece.times) (bytes_at_within bytes behind piece.start piece.len (All-head (IsWithin bytes) piece pieces all)))
    (pieces_within bytes behind pieces (All-tail (IsWithin bytes) piece pieces all))

-- the last piece counts the tail that comes again
pub counted : (front : List ℕ) (bytes : List ℕ) (last : Piece) (start len : ℕ) → last.start ≡ start → last.len ≡ len
    → front ++ repeat (last.times + 1) (bytes_at bytes last.start last.len) ≡ (front ++ piece_of bytes last) ++ bytes_at bytes start len
counted front bytes last start len same_start same_len =
    ap (λ text. front ++ text) (repeat_more last.times (bytes_at bytes last.start last.len))
    ∙ sym (append_assoc front (piece_of bytes last) (bytes_at bytes last.start last.len))
    ∙ ap₂ (λ s l. (front ++ piece_of bytes last) ++ bytes_at bytes s l) same_start same_len

-- where the tail ends with the bytes, it goes on with a part that comes behind them
pub appended_part : (parts : Parts) (bytes part : List ℕ) (front : List ℕ) → IsSound parts → bytes ≡ parts.bytes.items ++ part
    → parts.tail.start + parts.tail.len ≡ length parts.bytes.items → text_of parts ≡ front
    → (flat_map (piece_of bytes) parts.pieces.items ++ piece_of bytes parts.last) ++ bytes_at bytes parts.tail.start (parts.tail.len + length part)
    ≡ front ++ part
appended_part parts bytes part front sound is end so_far =
    let old = parts.bytes.items in
    let tail = bytes_at old parts.tail.start parts.tail.len in
    let closed = ap₂ ◌++◌ (pieces_within old part parts.pieces.items sound.pieces)
    (ap (repeat parts.last.times) (bytes_at_within old part parts.last.start parts.last.len sound.last)) in
    ap (λ b. (flat_map (piece_of b) parts.pieces.items ++ piece_of b parts.last) ++ bytes_at b parts.tail.start (parts.tail.len + length part)) is
    ∙ ap₂ ◌++◌ closed (bytes_at_end old part parts.tail.start parts.tail.len end)
    ∙ sym (append_assoc (flat_map (piece_of old) parts.pieces.items ++ piece_of old parts.last) tail part)
    ∙ ap (λ text. text ++ part) so_far

-- where the bytes have a part behind the tail, the tail goes on with it
pub repeated_part : (closed bytes part front : List ℕ) (start len : ℕ) → bytes_at bytes (start + len) (length part) ≡ part
    → closed ++ bytes_at bytes start len ≡ front → closed ++ bytes_at bytes start (len + length part) ≡ front ++ part
repeated_part closed bytes part front start len has so_far =
    ap (λ text. closed ++ text) (bytes_at_more bytes start len (length part) ∙ ap (λ text. bytes_at bytes start len ++ text) has)
    ∙ sym (append_assoc closed (bytes_at bytes start len) part) ∙ ap (λ text. text ++ part) so_far

-- a copy that grew by one more
pub copied : (front part told new : List ℕ) (n : ℕ) → told ≡ part → new ≡ (front ++ repeat n part) ++ told
    → new ≡ front ++ repeat (n + 1) part
copied front part told new n same is =
    is ∙ ap (λ t. (front ++ repeat n part) ++ t) same ∙ append_assoc front (repeat n part) part ∙ ap (λ t. front ++ t) (sym (repeat_more n part))

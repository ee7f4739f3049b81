-- One part after another on its way to a sink.
use Rattle.std.proofs.Common.{◌≡◌, ◌<◌, ◌+◌, ◌-◌, ℕ, List, [], ◌∷◌, ◌++◌, length, take, drop, get_or, Option, Result, Ok, Err, refl, sym, ◌∙◌, ap, ap₂, subst, append_assoc, arith}
use Rattle.std.specs.Prelude.{OnErr}
use Rattle.std.specs.List.{flat_map, repeat}
use Rattle.std.proofs.lemmas.List.{append-nil, flat_map_more, take-append-drop, take_more}
use Rattle.std.proofs.lemmas.List.Concat.{flat_map-append}
use Rattle.streams.specs.Pieces.{AppendsPrefix-first, AppendsPrefix-second, appended-append}
use Rattle.streams.specs.Stream.{AppendsPrefix, appended}
use Rattle.dense_text.specs.Behind.{IsBehind}
use Rattle.dense_text.specs.Ranges.{bytes_at, piece_of, text_of}
use Rattle.dense_text.specs.declared.parts.Parts.{Parts}
use Rattle.dense_text.specs.declared.parts.Piece.{Piece}
use Rattle.dense_text.proofs.RangeLemmas.{repeat_add, repeat_more}

-- what comes behind a text that is on its way
pub goes_on : (before between after : Option (List ℕ)) (text kept part held : List ℕ)
    → IsBehind before text between kept → IsBehind between (kept ++ part) after held → IsBehind before (text ++ part) after held
goes_on before between after text kept part held first second = record {
  written = first.written ++ second.written;
  after_is = second.after_is ∙ ap (λ o. appended o second.written) first.after_is ∙ appended-append before first.written second.written;
  text_is = append_assoc first.written second.written held ∙ ap (λ t. first.written ++ t) second.text_is
      ∙ sym (append_assoc first.written kept part) ∙ ap (λ t. t ++ part) first.text_is;
}

-- a front of what comes behind a text that is on its way
pub stops : (before between after : Option (List ℕ)) (text kept part : List ℕ)
    → IsBehind before text between kept → AppendsPrefix between (kept ++ part) after → AppendsPrefix before (text ++ part) after
stops before between after text kept part first front =
    let from_first = subst (λ o. AppendsPrefix o (kept ++ part) after) first.after_is front in
    subst (λ t. AppendsPrefix before t after) (sym (append_assoc first.written kept part) ∙ ap (λ t. t ++ part) first.text_is)
    (AppendsPrefix-second before after first.written (kept ++ part) from_first)

-- what failed is told
pub on_err : {T F P : Type 0} (r : Result T F) → P → OnErr r P
on_err (Ok x) p = tt
on_err (Err e) p = p

-- behind what was written all of the bytes were
pub all_written : (before between after : Option (List ℕ)) (text part held : List ℕ)
    → between ≡ appended before text → after ≡ appended between part → held ≡ [] → IsBehind before (text ++ part) after held
all_written before between after text part held first second none = record {
  written = text ++ part;
  after_is = second ∙ ap (λ o. appended o part) first ∙ appended-append before text part;
  text_is = ap (λ h. (text ++ part) ++ h) none ∙ append-nil (text ++ part);
}

-- behind what was written a front of the bytes was
pub front_written : (before between after : Option (List ℕ)) (text part : List ℕ)
    → between ≡ appended before text → AppendsPrefix between part after → AppendsPrefix before (text ++ part) after
front_written before between after text part first front =
    AppendsPrefix-second before after text part (subst (λ o. AppendsPrefix o part after) first front)

-- once more is the next count
pub counts_on : (before between after : Option (List ℕ)) (front kept part told held : List ℕ) (n : ℕ) → told ≡ part
    → IsBehind before (front ++ repeat n part) between kept → IsBehind between (kept ++ told) after held
    → IsBehind before (front ++ repeat (n + 1) part) after held
counts_on before between after front kept part told held n same first second =
    subst (λ t. IsBehind before t after held) (append_assoc front (repeat n part) part ∙ ap (λ t. front ++ t) (sym (repeat_more n part)))
    (goes_on before between after (front ++ repeat n part) kept part held first (subst (λ p. IsBehind between (kept ++ p) after held) same second))

-- a count of them is a front of all of them
pub stops_counting : (before between after : Option (List ℕ)) (front kept part told : List ℕ) (n times : ℕ) → n < times → told ≡ part
    → IsBehind before (front ++ repeat n part) between kept → AppendsPrefix between (kept ++ told) after
    → AppendsPrefix before (front ++ repeat times part) after
stops_counting before between after front kept part told n times less same first second =
    let so_far = stops before between after (front ++ repeat n part) kept part first (subst (λ p. AppendsPrefix between (kept ++ p) after) same second) in
    let left = times - (n + 1) in
    let counted : (front ++ repeat n part) ++ part ≡ front ++ repeat (n + 1) part =
    append_assoc front (repeat n part) part ∙ ap (λ t. front ++ t) (sym (repeat_more n part)) in
    let all : ((front ++ repeat n part) ++ part) ++ repeat left part ≡ front ++ repeat times part =
    ap (λ t. t ++ repeat left part) counted ∙ append_assoc front (repeat (n + 1) part) (repeat left part)
    ∙ ap (λ t. front ++ t) (sym (repeat_add (n + 1) left part)) ∙ ap (λ k. front ++ repeat k part) (omega (arith, less)) in
    subst (λ t. AppendsPrefix before t after) all
    (AppendsPrefix-first before after ((front ++ repeat n part) ++ part) (repeat left part) so_far)

module _ (f : Piece → List ℕ) (before between after : Option (List ℕ)) (front kept : List ℕ) (pieces : List Piece) (i : ℕ) (d : Piece)
    (within : i < length pieces) where
  one_more : (front ++ flat_map f (take i pieces)) ++ f (get_or pieces i d) ≡ front ++ flat_map f (take (i + 1) pieces)
  one_more =
      flat_map_more f front (take i pieces) (get_or pieces i d) ∙ ap (λ ps. front ++ flat_map f ps) (sym (take_more pieces i d within))

  -- the next piece
  pub goes_over : (held : List ℕ) → IsBehind before (front ++ flat_map f (take i pieces)) between kept
      → IsBehind between (kept ++ f (get_or pieces i d)) after held → IsBehind before (front ++ flat_map f (take (i + 1) pieces)) after held
  goes_over held first second =
      subst (λ t. IsBehind before t after held) one_more
      (goes_on before between after (front ++ flat_map f (take i pieces)) kept (f (get_or pieces i d)) held first second)

  -- a front of the next piece
  pub stops_in : IsBehind before (front ++ flat_map f (take i pieces)) between kept
      → AppendsPrefix between (kept ++ f (get_or pieces i d)) after → AppendsPrefix before (front ++ flat_map f pieces) after
  stops_in first second =
      let so_far = subst (λ t. AppendsPrefix before t after) one_more
      (stops before between after (front ++ flat_map f (take i pieces)) kept (f (get_or pieces i d)) first second) in
      let all = append_assoc front (flat_map f (take (i + 1) pieces)) (flat_map f (drop (i + 1) pieces))
      ∙ ap (λ t. front ++ t) (sym (flat_map-append f (take (i + 1) pieces) (drop (i + 1) pieces)))
      ∙ ap (λ ps. front ++ flat_map f ps) (take-append-drop (i + 1) pieces) in
      subst (λ t. AppendsPrefix before t after) all
      (AppendsPrefix-first before after (front ++ flat_map f (take (i + 1) pieces)) (flat_map f (drop (i + 1) pieces)) so_far)

-- where each part of a text stops
module _ (before after : Option (List ℕ)) (parts : Parts) (kept bytes : List ℕ) (pieces : List Piece) (none : kept ≡ [])
    (same_bytes : bytes ≡ parts.bytes.items) (same_pieces : pieces ≡ parts.pieces.items) where
  whole : ((kept ++ flat_map (piece_of bytes) pieces) ++ piece_of bytes parts.last) ++ bytes_at bytes parts.tail.start parts.tail.len ≡ text_of parts
  whole =
      ap (λ k. ((k ++ flat_map (piece_of bytes) pieces) ++ piece_of bytes parts.last) ++ bytes_at bytes parts.tail.start parts.tail.len) none
      ∙ ap₂ (λ b ps. (flat_map (piece_of b) ps ++ piece_of b parts.last) ++ bytes_at b parts.tail.start parts.tail.len) same_bytes same_pieces

  pub stops_in_pieces : AppendsPrefix before (kept ++ flat_map (piece_of bytes) pieces) after → AppendsPrefix before (text_of parts) after
  stops_in_pieces front =
      let all = flat_map (piece_of bytes) pieces in
      let last = piece_of bytes parts.last in
      subst (λ t. AppendsPrefix before t after) whole
      (AppendsPrefix-first before after ((kept ++ all) ++ last) (bytes_at bytes parts.tail.start parts.tail.len)
      (AppendsPrefix-first before after (kept ++ all) last front))

  pub stops_in_last : (one : Option (List ℕ)) (held : List ℕ) → IsBehind before (kept ++ flat_map (piece_of bytes) pieces) one held
      → AppendsPrefix one (held ++ piece_of bytes parts.last) after → AppendsPrefix before (text_of parts) after
  stops_in_last one held first front =
      let all = flat_map (piece_of bytes) pieces in
      let last = piece_of bytes parts.last in
      subst (λ t. AppendsPrefix before t after) whole
      (AppendsPrefix-first before after ((kept ++ all) ++ last) (bytes_at bytes parts.tail.start parts.tail.len)
      (stops before one after (kept ++ all) held last first front))

  pub stops_in_tail : (one two : Option (List ℕ)) (held kept_two told : List ℕ)
      → IsBehind before (kept ++ flat_map (piece_of bytes) pieces) one held → IsBehind one (held ++ piece_of bytes parts.last) two kept_two
      → AppendsPrefix two (kept_two ++ told) after → told ≡ bytes_at bytes parts.tail.start parts.tail.len
      → AppendsPrefix before (text_of parts) after
  stops_in_tail one two held kept_two told first second front same =
      let all = flat_map (piece_of bytes) pieces in
      let last = piece_of bytes parts.last in
      subst (λ t. AppendsPrefix before t after) whole
      (stops before two after ((kept ++ all) ++ last) kept_two (bytes_at bytes parts.tail.start parts.tail.len)
      (goes_on before one two (kept ++ all) held last kept_two first second) (subst (λ p. AppendsPrefix two (kept_two ++ p) after) same front))

  pub stops_at_last : (one two three : Option (List ℕ)) (held kept_two kept_three told : List ℕ)
      → IsBehind before (kept ++ flat_map (piece_of bytes) pieces) one held → IsBehind one (held ++ piece_of bytes parts.last) two kept_two
      → IsBehind two (kept_two ++ told) three kept_three → told ≡ bytes_at bytes parts.tail.start parts.tail.len
      → AppendsPrefix three kept_three after → AppendsPrefix before (text_of parts) after
  stops_at_last one two three held kept_two kept_three told first second third same front =
      let all = flat_map (piece_of bytes) pieces in
      let last = piece_of bytes parts.last in
      let behind = goes_on before two three ((kept ++ all) ++ last) kept_two (bytes_at bytes parts.tail.start parts.tail.len) kept_three
      (goes_on before one two (kept ++ all) held last kept_two first second) (subst (λ p. IsBehind two (kept_two ++ p) three kept_three) same third) in
      subst (λ t. AppendsPrefix before t after) (behind.text_is ∙ whole)
      (front_written before three after behind.written kept_three behind.after_is front)

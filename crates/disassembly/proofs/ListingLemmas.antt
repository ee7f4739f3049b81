-- A walk over the units of an image, unit by unit.
use Rattle.std.proofs.Common.{◌≡◌, ◌++◌, ◌+◌, ◌/◌, ◌<◌, ◌≤◌, ℕ, zero, suc, List, [], Option, refl, sym, ap, ◌∙◌, subst, append_assoc, inl, inr, arith}
use Rattle.std.proofs.lemmas.List.{append-nil}
use Rattle.disassembly.specs.Listing.{Found, Reads, IsWalk, IsDisassembly, lines_at, passed_at}

module _ (unit : ℕ) (reads : Reads) where
  -- Whatever text the units from an address on have, the image has it behind this one.
  abbrev pub GoesOn : List (Option ℕ) → (units at passed : ℕ) → List ℕ → Type 0
  GoesOn image units at passed text = (rest : List ℕ) → IsWalk unit reads image units at passed rest → IsDisassembly unit reads image (text ++ rest)

  pub begins : (image : List (Option ℕ)) (units at : ℕ) (text : List ℕ) → units ≡ 65536 / unit → at ≡ 0 → text ≡ []
      → GoesOn image units at 0 text
  unfolding IsDisassembly
  begins image units at text all start none rest walk =
      subst (λ n. IsWalk unit reads image n 0 0 (text ++ rest)) all
      (subst (λ a. IsWalk unit reads image units a 0 (text ++ rest)) start (subst (λ t. IsWalk unit reads image units at 0 (t ++ rest)) (sym none) walk))

  pub ends : (image : List (Option ℕ)) (units at passed : ℕ) (text : List ℕ) → units ≡ 0
      → GoesOn image units at passed text → IsDisassembly unit reads image text
  unfolding IsWalk
  ends image units at passed text none on =
      let walk : IsWalk unit reads image 0 at passed [] = refl in
      subst (IsDisassembly unit reads image) (append-nil text) (on [] (subst (λ n. IsWalk unit reads image n at passed []) (sym none) walk))

  -- a unit below what was told
  pub passes_over : (image : List (Option ℕ)) (left units at next passed : ℕ) (text : List ℕ) → left ≡ suc units
      → next ≡ at + unit → at < passed
      → GoesOn image left at passed text → GoesOn image units next passed text
  unfolding IsWalk
  passes_over image left units at next passed text size after below on = λ rest walk.
      let whole : IsWalk unit reads image (suc units) at passed rest = inl (below, subst (λ n. IsWalk unit reads image units n passed rest) after walk) in
      on rest (subst (λ n. IsWalk unit reads image n at passed rest) (sym size) whole)

  -- a unit of which it is told what stands there
  pub tells : (image : List (Option ℕ)) (left units at next passed further : ℕ) (found : Found) (text new : List ℕ)
      → left ≡ suc units → next ≡ at + unit → passed ≤ at → reads image at found → new ≡ text ++ lines_at unit image at found
      → further ≡ passed_at unit at found → GoesOn image left at passed text → GoesOn image units next further new
  unfolding IsWalk
  tells image left units at next passed further found text new size after above read is further_is on = λ rest walk.
      let all : List ℕ = lines_at unit image at found ++ rest in
      let here : IsWalk unit reads image units (at + unit) (passed_at unit at found) rest =
      subst (λ n. IsWalk unit reads image units n (passed_at unit at found) rest) after (subst (λ b. IsWalk unit reads image units next b rest) further_is walk) in
      let whole : IsWalk unit reads image (suc units) at passed all = inr (above, (found, rest, read, refl, here)) in
      subst (IsDisassembly unit reads image) (sym (append_assoc text (lines_at unit image at found) rest) ∙ ap (λ t. t ++ rest) (sym is))
      (on all (subst (λ n. IsWalk unit reads image n at passed all) (sym size) whole))

  abbrev HaveOneAnswer : Type 0
  HaveOneAnswer = (image : List (Option ℕ)) (at : ℕ) (answer other : Found) → reads image at answer → reads image at other → answer ≡ other

  -- units from an address on have one text
  one_walk : HaveOneAnswer → (image : List (Option ℕ)) (units at passed : ℕ) (text other : List ℕ)
      → IsWalk unit reads image units at passed text
      → IsWalk unit reads image units at passed other → other ≡ text
  unfolding IsWalk
  one_walk one image zero at passed text other is also = also ∙ sym is
  one_walk one image (suc units) at passed text other (inl first) (inl second) = one_walk one image units (at + unit) passed text other first.1 second.1
  one_walk one image (suc units) at passed text other (inl first) (inr second) = absurd (omega (arith, first.0, second.0))
  one_walk one image (suc units) at passed text other (inr first) (inl second) = absurd (omega (arith, first.0, second.0))
  one_walk one image (suc units) at passed text other (inr (above, (found, rest, read, is, walk))) (inr (also_above, (found_2, rest_2, read_2, is_2, walk_2))) =
      let same : found_2 ≡ found = one image at found_2 found read_2 read in
      let walks = subst (λ a. IsWalk unit reads image units (at + unit) (passed_at unit at a) rest_2) same walk_2 in
      let rests : rest_2 ≡ rest = one_walk one image units (at + unit) (passed_at unit at found) rest rest_2 walk walks in
      is_2 ∙ ap (λ a. lines_at unit image at a ++ rest_2) same ∙ ap (λ r. lines_at unit image at found ++ r) rests ∙ sym is

  -- an image has one text
  pub one_text : HaveOneAnswer → (image : List (Option ℕ)) (text other : List ℕ) → IsDisassembly unit reads image text
      → IsDisassembly unit reads image other → other ≡ text
  unfolding IsDisassembly
  one_text one image text other is also = one_walk one image (65536 / unit) 0 0 text other is also

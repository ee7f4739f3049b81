-- Pieces in a row: what callers that write more than one piece need of what each of them appends.
use Rattle.std.specs.Prelude.{◌≡◌, ℕ, ◌+◌, List, [], ◌++◌, length, take, Option, None, Some}
use Rattle.std.proofs.Common.{refl, sym, ◌∙◌, ap, append_assoc, length-append, arith}
use Rattle.std.proofs.lemmas.List.{append-nil, take_all, take-append-le}
use Rattle.std.proofs.Math.Seq.{take-append-add}
use Rattle.streams.specs.Stream.{appended, AppendsPrefix}

-- two pieces in a row are one piece
pub appended-append : (held : Option (List ℕ)) (xs ys : List ℕ)
    → appended (appended held xs) ys ≡ appended held (xs ++ ys)
appended-append None xs ys = refl
appended-append (Some held) xs ys = rw append_assoc refl

-- a piece with no bytes changes nothing
pub appended-nil : (held : Option (List ℕ)) → appended held [] ≡ held
appended-nil None = refl
appended-nil (Some held) = rw append-nil refl

-- nothing is a front of a piece
pub AppendsPrefix-nothing : (held : Option (List ℕ)) (xs : List ℕ) → AppendsPrefix held xs held
AppendsPrefix-nothing held xs = (0, omega arith, sym (appended-nil held))

-- the whole piece is a front of it
pub AppendsPrefix-whole : (held : Option (List ℕ)) (xs : List ℕ) → AppendsPrefix held xs (appended held xs)
AppendsPrefix-whole held xs = (length xs, omega arith, ap (appended held) (sym (take_all (length xs) xs (omega arith))))

-- a front of the first piece is a front of both
pub AppendsPrefix-first : (held after : Option (List ℕ)) (xs ys : List ℕ)
    → AppendsPrefix held xs after → AppendsPrefix held (xs ++ ys) after
AppendsPrefix-first held after xs ys front =
    (front.0, omega (arith, length-append xs ys, front.1), front.2 ∙ ap (appended held) (sym (take-append-le front.0 xs ys front.1)))

-- the first piece and a front of the second are a front of both
pub AppendsPrefix-second : (held after : Option (List ℕ)) (xs ys : List ℕ)
    → AppendsPrefix (appended held xs) ys after → AppendsPrefix held (xs ++ ys) after
AppendsPrefix-second held after xs ys front = (
  length xs + front.0,
  omega (arith, length-append xs ys, front.1),
  front.2 ∙ appended-append held xs (take front.0 ys) ∙ ap (appended held) (sym (take-append-add xs ys front.0)),
)

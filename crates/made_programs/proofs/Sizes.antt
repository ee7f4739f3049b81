-- How long the texts are.
use Rattle.std.proofs.Common.{ℕ, ◌+◌, ◌*◌, ◌/◌, ◌≤◌, zero, suc, List, [], ◌∷◌, ◌++◌, length, take, drop, length-append, length-take, arith}
use Rattle.hex.specs.Hex.{encode_upper}
use Rattle.image_gen.specs.Records.{each, end_line, record_line, record_of, stretch_lines}
use Rattle.made_programs.proofs.Digits.{length-digits}
use Rattle.made_programs.proofs.RecordLines.{whole_record, length-whole}

length-record_line : (at : ℕ) (bytes : List ℕ) → length bytes ≤ 16 → length (record_line at bytes) ≤ 44
length-record_line at bytes short =
    let digits = length-digits (whole_record at bytes) in
    let whole = length-whole at bytes in
    let ended = length-append (encode_upper (whole_record at bytes)) (10 ∷ []) in
    omega (arith, digits, whole, ended)

length-record_of : (at : ℕ) (bytes : List ℕ) (k : ℕ) → length (record_of at bytes k) ≤ 44
length-record_of at bytes k =
    let long = length-take 16 (drop (16 * k) bytes) in
    length-record_line (at + 16 * k) (take 16 (drop (16 * k) bytes)) (omega arith)

each_short : (part : ℕ → List ℕ) (size : ℕ) → ((i : ℕ) → length (part i) ≤ size) → (n : ℕ) → length (each part n) ≤ n * size
unfolding each
each_short part size same zero = omega arith
each_short part size same (suc n) = omega (arith, length-append (each part n) (part n), each_short part size same n, same n)

stretch_short : (at : ℕ) (bytes : List ℕ) → length bytes ≤ 65536 → length (stretch_lines at bytes) ≤ 180224
stretch_short at bytes fits =
    let all = each_short (record_of at bytes) 44 (length-record_of at bytes) ((length bytes + 15) / 16) in
    omega arith

pub text_short : (at : ℕ) (bytes : List ℕ) (next : ℕ) (more : List ℕ) → length bytes ≤ 65536 → length more ≤ 65536
    → length (stretch_lines at bytes ++ stretch_lines next more ++ end_line) ≤ 4194304
text_short at bytes next more first second =
    let one = stretch_short at bytes first in
    let two = stretch_short next more second in
    let both = length-append (stretch_lines at bytes) (stretch_lines next more) in
    let all = length-append (stretch_lines at bytes ++ stretch_lines next more) end_line in
    omega arith

use Rattle.std.proofs.Common.{ℕ, ◌++◌, List, length, map, take, ap, sym, ◌∙◌, arith}
use Rattle.value_set.specs.Form.{members}
use Rattle.chip_numbers.specs.Numbers.{word_of}
use Rattle.value_bits.specs.Sets.{words}
use Rattle.value_bits.proofs.HalfSets.{words_more, words_room}
use Rattle.value_bits.proofs.halves.words_of.Goals as goal

pub push_words-requires : goal.push_words-requires
push_words-requires c =
    let room = words_room (members 256 c.args.low.now) (members 256 c.args.high.now) c.loop-place.place (omega arith) c.requires in
    omega (arith, ap length c.loop-place.invariant, room)

pub loop-place-preserved : goal.loop-place-preserved
loop-place-preserved c =
    let more = words_more (members 256 c.args.low.now) (members 256 c.args.high.now) c.loop-place.place 0 (omega arith) in
    let pushed = c.push_words.ensures in
    let start = ap (λ (xs : List ℕ). xs ++ map (λ y. word_of c.nth.result y) (members 256 c.args.high.now)) c.loop-place.invariant in
    let byte = ap (λ (x : ℕ). words (take c.loop-place.place (members 256 c.args.low.now)) (members 256 c.args.high.now) ++ map (λ y. word_of x y) (members 256 c.args.high.now)) c.nth.ensures in
    pushed ∙ start ∙ byte ∙ sym more

use Rattle.std.proofs.Common.{◌≡◌, ◌<◌, length, sym, ◌∙◌, arith}
use Rattle.std.proofs.lemmas.Bool.Decides.{nat_tests}
use Rattle.std.proofs.lemmas.List.{length-map}
use Rattle.text_lines.specs.Lines.{without_return, lines_of}
use Rattle.ihex_read.proofs.KeptLemmas.{answer_kept}
use Rattle.ihex_read.proofs.ReaderLemmas.{count_lines, read_small, end_feed, end_line, end_goes_on, end_bad, end_count}
use Rattle.ihex_read.proofs.feeding.Reader.end.Goals as goal

pub overflow_cast-count : goal.overflow_cast-count
overflow_cast-count c =
    let count = count_lines (λ line. line.value.items) c.self.inside.lines.items _ _ c.len-count.ensures c.self.inside.lines.ok.0 in
    omega (arith, count, read_small _ _ _ _ _ _ _ c.self.invariant)

pub finish-requires : goal.finish-requires
finish-requires c =
    let count = count_lines (λ line. line.value.items) c.self.inside.lines.items _ _ c.len-count.ensures c.self.inside.lines.ok.0 in
    omega (arith, count, read_small _ _ _ _ _ _ _ c.self.invariant)

pub returns-then-is_empty-clause-image : goal.returns-then-is_empty-clause-image
returns-then-is_empty-clause-image c =
    let empty : length c.self.inside.line.items ≡ 0 = grind (arith, nat_tests, c.self.inside.line.ok.0) in
    rw (← c.self.view_is, end_feed _ _ _ _ _ _ _ c.self.invariant empty) (c.finish.ensures.image c.self.inside.tail _ c.self.invariant.stands)

pub returns-then-is_empty-clause-bad : goal.returns-then-is_empty-clause-bad
returns-then-is_empty-clause-bad c = λ none.
    let empty : length c.self.inside.line.items ≡ 0 = grind (arith, nat_tests, c.self.inside.line.ok.0) in
    let count = count_lines (λ line. line.value.items) c.self.inside.lines.items _ _ c.len-count.ensures c.self.inside.lines.ok.0 in
    rw (← c.self.view_is, end_feed _ _ _ _ _ _ _ c.self.invariant empty)
    (c.finish.ensures.no_end c.self.inside.tail _ c.self.invariant.stands (count ∙ sym (length-map _ without_return)))

pub overflow_add-result : goal.overflow_add-result
overflow_add-result c =
    let count = count_lines (λ line. line.value.items) c.self.inside.lines.items _ _ c.len-count.ensures c.self.inside.lines.ok.0 in
    omega (arith, count, read_small _ _ _ _ _ _ _ c.self.invariant)

pub returns-in-Err-clause-bad : goal.returns-in-Err-clause-bad
returns-in-Err-clause-bad c = λ none.
    let some : 0 < length c.self.inside.line.items = grind (arith, nat_tests, c.self.inside.line.ok.0) in
    let fault = c.in-Err.ensures.fault c.self.inside.tail _ c.self.invariant.stands in
    let faulty = rw (c.without_return.ensures, c.deref.ensures.value) at fault in
    let count = count_lines (λ line. line.value.items) c.self.inside.lines.items _ _ c.len-count.ensures c.self.inside.lines.ok.0 in
    rw (← c.self.view_is) (end_bad _ _ _ _ _ _ _ _ _ c.self.invariant some faulty count)

pub overflow_add-count : goal.overflow_add-count
overflow_add-count c =
    let count = count_lines (λ line. line.value.items) c.self.inside.lines.items _ _ c.len-count.ensures c.self.inside.lines.ok.0 in
    omega (arith, count, read_small _ _ _ _ _ _ _ c.self.invariant)

pub finish-requires-2 : goal.finish-requires-2
finish-requires-2 c =
    let count = count_lines (λ line. line.value.items) c.self.inside.lines.items _ _ c.len-count.ensures c.self.inside.lines.ok.0 in
    omega (arith, count, read_small _ _ _ _ _ _ _ c.self.invariant)

pub returns-clause-image : goal.returns-clause-image
returns-clause-image c =
    let some : 0 < length c.self.inside.line.items = grind (arith, nat_tests, c.self.inside.line.ok.0) in
    let goes = end_goes_on _ _ _ _ _ _ _ c.self.invariant some in
    let next = c.in_default-accept.ensures.ok c.self.inside.tail _ c.self.invariant.stands goes in
    let stands = rw (c.without_return.ensures, c.deref.ensures.value) at next in
    rw (← c.self.view_is, end_line _ _ _ _ _ _ _ c.self.invariant some, ← c.in_default-accept.ensures.rules)
    (c.finish-2.ensures.image c.self.inside.tail _ stands)

pub returns-clause-bad : goal.returns-clause-bad
returns-clause-bad c = λ none.
    let some : 0 < length c.self.inside.line.items = grind (arith, nat_tests, c.self.inside.line.ok.0) in
    let goes = end_goes_on _ _ _ _ _ _ _ c.self.invariant some in
    let next = c.in_default-accept.ensures.ok c.self.inside.tail _ c.self.invariant.stands goes in
    let stands = rw (c.without_return.ensures, c.deref.ensures.value) at next in
    let count = count_lines (λ line. line.value.items) c.self.inside.lines.items _ _ c.len-count.ensures c.self.inside.lines.ok.0 in
    rw (← c.self.view_is, end_line _ _ _ _ _ _ _ c.self.invariant some, ← c.in_default-accept.ensures.rules)
    (c.finish-2.ensures.no_end c.self.inside.tail _ stands (end_count _ c.self.inside.line.items _ count))

pub returns-then-is_empty-clause-kept : goal.returns-then-is_empty-clause-kept
returns-then-is_empty-clause-kept c =
    answer_kept c.args.self.rules c.args.self.tail (lines_of c.args.self.text) _ (returns-then-is_empty-clause-image c)

pub returns-clause-kept : goal.returns-clause-kept
returns-clause-kept c = answer_kept c.args.self.rules c.args.self.tail (lines_of c.args.self.text) _ (returns-clause-image c)

use Rattle.cert_text.specs.Writing.{bytes_of}
use Rattle.cert_text.proofs.WriteLemmas.{assembled, made}
use Rattle.cert_text.proofs.writer.certificate_of.Goals as goal

pub returns : goal.returns
returns g c =
    let b = g.C.Chip.base c.args.chip.now in
    made (g.C.Chip.analysis b) (g.C.StateText.texts b) (c.texts_are_exact.ensures b c.is_program.ensures) c.tests_tell_which_are_one.ensures.nodes bytes_of
    c.in_ok-pairs.pairs.items c.sort.new.self.items c.args.nodes.now _ c.requires c.in_ok-pairs.ensures c.in_ok-sort.ensures.permutation c.in_ok-sort.ensures.sorted
    (assembled bytes_of c.sort.new.self.items c.deref.result.now c.new-text.result.items c.extend_from_slice.new.self.items c.push_lines.new.text.items _
    c.new-text.ensures.items c.in_ok-extend_from_slice.ensures.items c.in_ok-push_lines.ensures c.deref.ensures.value c.in_ok-extend_from_slice-2.ensures.items)

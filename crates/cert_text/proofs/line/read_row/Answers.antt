use Rattle.std.proofs.Common.{sym, ap, ◌∙◌}
use Rattle.std.specs.Prelude.{option_map}
use Rattle.cert_text.proofs.CertLemmas.{row_found, row_none}
use Rattle.cert_text.proofs.line.read_row.Goals as goal

pub returns-in-None : goal.returns-in-None
returns-in-None g c =
    ap (option_map (λ state. (c.in-Some.node, state))) (sym c.in-None.is)
    ∙ row_found (g.C.Chip.analysis (g.C.Chip.base c.args.chip.now)) (g.C.StateText.texts
    (g.C.Chip.base c.args.chip.now)) _ c.args.line.now _ _ _ c.sp_digits.ensures.digits c.in-Some.ensures c.in_ok-state.ensures

pub returns-in-Some-2 : goal.returns-in-Some-2
returns-in-Some-2 g c =
    ap (option_map (λ state. (c.in-Some.node, state))) (sym c.in-Some-2.is)
    ∙ row_found (g.C.Chip.analysis (g.C.Chip.base c.args.chip.now)) (g.C.StateText.texts
    (g.C.Chip.base c.args.chip.now)) _ c.args.line.now _ _ _ c.sp_digits.ensures.digits c.in-Some.ensures c.in_ok-state.ensures

pub returns-in_default : goal.returns-in_default
returns-in_default g c =
    row_none (g.C.Chip.analysis (g.C.Chip.base c.args.chip.now)) (g.C.StateText.texts
    (g.C.Chip.base c.args.chip.now)) _ c.args.line.now c.sp_digits.ensures.digits c.in_default.ensures

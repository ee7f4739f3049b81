use Rattle.std.proofs.Common.{◌∙◌, sym, ap, subst}
use Rattle.value_set.specs.Form.{gather, IsNormal}
use Rattle.value_text.proofs.FormLemmas.{gather_same, make_same}
use Rattle.value_text.proofs.sets.bytes_of.Goals as goal

pub returns-in-Some : goal.returns-in-Some
returns-in-Some c =
    c.in-Some.ensures.value ∙ ap (gather 256) (c.as_slice.ensures.value ∙ c.bytes_in.ensures)
    ∙ gather_same 256 c.in-Values.values (subst (IsNormal 256) c.in-Values.is c.requires) ∙ sym c.in-Values.is

pub returns-in-Some-run : goal.returns-in-Some-run
returns-in-Some-run c =
    c.in-Some-run.ensures.value ∙ make_same 256 c.in-Run.run'.base c.in-Run.run'.stride c.in-Run.run'.count (subst (IsNormal 256) c.in-Run.is c.requires)
    ∙ sym c.in-Run.is

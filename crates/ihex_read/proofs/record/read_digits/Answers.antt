use Rattle.std.proofs.Common.{length, ◌∙◌, sym}
use Rattle.std.proofs.lemmas.Bool.{OnTrue_from}
use Rattle.ihex_read.proofs.Digits.{reads}
use Rattle.ihex_read.proofs.record.read_digits.Goals as goal

pub returns-clause-all : goal.returns-clause-all
returns-clause-all c = let r = reads c.args.digits.now (length c.args.bytes.now) c.decode_to_slice.result c.decode_to_slice.new.out c.requires c.decode_to_slice.ensures.value in c.is_ok.ensures.value ∙ r.0

pub returns-clause-bytes : goal.returns-clause-bytes
returns-clause-bytes c = let r = reads c.args.digits.now (length c.args.bytes.now) c.decode_to_slice.result c.decode_to_slice.new.out c.requires c.decode_to_slice.ensures.value in
    OnTrue_from c.is_ok.result _ (λ h. r.1 (sym c.is_ok.ensures.value ∙ h))

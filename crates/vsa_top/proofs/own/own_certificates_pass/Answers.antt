use Rattle.vsa_top.proofs.OwnLemmas.{accepted_lem, written_lem}
use Rattle.vsa_top.proofs.own.own_certificates_pass.Goals as goal

pub returns-clause-written : goal.returns-clause-written
returns-clause-written c = written_lem c.families_have_laws.ensures.truths c.images_keep_rules.ensures c.image_or_fault.ensures.one_image

pub returns-clause-accepted : goal.returns-clause-accepted
returns-clause-accepted c = λ task answered input before after journal text report certificate image range end few answers e gives own fits no_read no_write.
    let laws = c.families_have_laws.ensures in
    accepted_lem laws.truths laws.one c.images_keep_rules.ensures task answered before after text report certificate image range end few gives own fits
    (c.reports_hold.ensures.verdict task answered input before after journal text certificate image answers e gives no_read no_write)

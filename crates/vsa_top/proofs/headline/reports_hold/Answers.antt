use Rattle.vsa_top.proofs.CheckedLemmas.{exact_lem, verdict_lem}
use Rattle.vsa_top.proofs.HeadlineLemmas.{asserted_lem, bounded_lem, certified_lem, closed_lem, open_lem, left_open_lem, open_alone_lem, complete_lem, made_lem}
use Rattle.vsa_top.proofs.headline.reports_hold.Goals as goal

pub returns-clause-closed : goal.returns-clause-closed
returns-clause-closed c =
    closed_lem c.families_have_laws.ensures.truths c.images_keep_rules.ensures c.image_or_fault.ensures.one_image

pub returns-clause-bounded : goal.returns-clause-bounded
returns-clause-bounded c =
    bounded_lem c.families_have_laws.ensures.truths c.images_keep_rules.ensures c.image_or_fault.ensures.one_image

pub returns-clause-open : goal.returns-clause-open
returns-clause-open c = open_lem c.families_have_laws.ensures.truths c.images_keep_rules.ensures c.image_or_fault.ensures.one_image

pub returns-clause-open_alone : goal.returns-clause-open_alone
returns-clause-open_alone c = open_alone_lem

pub returns-clause-complete : goal.returns-clause-complete
returns-clause-complete c = complete_lem c.image_or_fault.ensures.not_both c.ended_texts_stay.ensures.ended c.ended_texts_stay.ensures.faultless

pub returns-clause-made : goal.returns-clause-made
returns-clause-made c =
    made_lem c.image_or_fault.ensures.not_both c.ended_texts_stay.ensures.ended c.ended_texts_stay.ensures.faultless c.made_texts_denote.ensures.image c.made_texts_denote.ensures.size

pub returns-clause-asserted : goal.returns-clause-asserted
returns-clause-asserted c = asserted_lem c.families_have_laws.ensures.truths c.images_keep_rules.ensures

pub returns-clause-certified : goal.returns-clause-certified
returns-clause-certified c = certified_lem c.families_have_laws.ensures.truths c.images_keep_rules.ensures

pub returns-clause-verdict : goal.returns-clause-verdict
returns-clause-verdict c =
    verdict_lem c.image_or_fault.ensures.not_both c.ended_texts_stay.ensures.ended c.ended_texts_stay.ensures.faultless c.image_or_fault.ensures.one_image

pub returns-clause-left_open : goal.returns-clause-left_open
returns-clause-left_open c = left_open_lem c.families_have_laws.ensures.truths c.images_keep_rules.ensures

pub returns-clause-exact : goal.returns-clause-exact
returns-clause-exact c =
    exact_lem c.families_have_laws.ensures.truths c.families_have_laws.ensures.one c.images_keep_rules.ensures
    c.image_or_fault.ensures.not_both c.ended_texts_stay.ensures.ended c.ended_texts_stay.ensures.faultless c.image_or_fault.ensures.one_image

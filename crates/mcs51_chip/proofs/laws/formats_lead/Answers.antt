use Rattle.mcs51_chip.proofs.Leads.{reading_leads, updating_leads, moving_leads, clearing_leads, set_leads, clear_leads, pushing_leads, popping_leads, code_reads_lead, external_reads_lead, external_writes_lead, dividing_leads}
use Rattle.mcs51_chip.proofs.laws.formats_lead.Goals as goal

pub returns : goal.returns
returns c = record {
  reading = reading_leads;
  updating = updating_leads;
  moving = moving_leads;
  clearing = clearing_leads;
  set = set_leads;
  clear = clear_leads;
  pushing = pushing_leads;
  popping = popping_leads;
  code = code_reads_lead;
  external_read = external_reads_lead;
  external_write = external_writes_lead;
  dividing = dividing_leads;
}

use Rattle.value_set.specs.Form.{members}
use Rattle.entry_value.specs.CellLists.{cell_of, kept_from, write_from}
use Rattle.entry_value.proofs.Anywhere.{any_covers, any_form, any_hi, any_lo, at_one, at_several, only_member}
use Rattle.entry_value.proofs.Inside.{agreeing_stands, nothing_stands}
use Rattle.entry_value.proofs.Ordering.{cells_along, cells_itself, cells_joined_held, cells_joined_new, cells_widened_held, cells_widened_new}
use Rattle.entry_value.proofs.ReadForms.{read_low, read_normal}
use Rattle.entry_value.proofs.Reading.{read_holds}
use Rattle.entry_value.proofs.Uniting.{join_covers_held, join_covers_new, join_form, widen_covers_held, widen_covers_new, widen_form, within_covers}
use Rattle.entry_value.proofs.Writing.{one_covers, one_form, one_hi, one_lo}
use Rattle.entry_value.proofs.laws.cell_laws.Goals as goal

pub returns : goal.returns
returns c =
    let sets = c.set_laws.ensures in
    let bits = c.bit_laws.ensures in
    let low = c.bytes_stay_bytes.ensures in
    record {
      each = cell_of;
      kept_from = kept_from;
      write_from = write_from;
      reads = λ first ram lo hi from at size cells are below is stands. read_holds sets bits first ram lo hi from cells at size below is are stands;
      read_normal = read_normal sets bits;
      read_byte = read_low sets bits;
      byte_single = low.single;
      byte_any = low.whole;
      byte_widened_normal = low.widen_normal;
      byte_widened = low.widen;
      write = one_covers sets;
      write_form = one_form;
      write_lo = one_lo;
      write_hi = one_hi;
      store = any_covers sets;
      store_form = any_form sets;
      store_lo = any_lo;
      store_hi = any_hi;
      store_one = at_one;
      store_only = λ at address. only_member (members 65536 at) address;
      store_several = at_several;
      holds = within_covers sets;
      none = nothing_stands;
      agree = agreeing_stands;
      join_form = join_form sets;
      join_stands_held = join_covers_held sets;
      join_stands_new = join_covers_new sets;
      widen_form = widen_form sets bits;
      widen_stands_held = widen_covers_held sets bits;
      widen_stands_new = widen_covers_new sets bits;
      itself = cells_itself sets;
      along = cells_along sets;
      join_held = cells_joined_held sets;
      join_new = cells_joined_new sets;
      widen_held = cells_widened_held sets bits;
      widen_new = cells_widened_new sets bits;
    }

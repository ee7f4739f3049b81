use Rattle.std.proofs.Common.{◌≡◌, ◌<◌, length, get_or, false}
use Rattle.std.proofs.lemmas.Result.{on_ok_weaker}
use Rattle.abs_pages.specs.Paging.{Paged, has_page, pages_below}
use Rattle.abs_pages.proofs.Putting.{put_held, put_new}
use Rattle.abs_pages.proofs.writing.write_in.Goals as goal

pub returns-in-Ok : goal.returns-in-Ok
returns-in-Ok c =
    let old = c.args.pages.now.items in
    let new = c.write_held.new.pages.items in
    let at : c.in-Ok.index ≡ pages_below old c.args.number = rw c.deref.ensures.value at c.in-Ok.ensures.value in
    let found : (c.in-Ok.index < length old) × ((d : Paged) → (get_or old c.in-Ok.index d).number ≡ c.args.number) = rw c.deref.ensures.value at c.in-Ok.ensures.found in
    let put = put_held c.args.bounds.0 c.args.bounds.1 c.args.number c.in-Ok.index c.args.cell old new c.requires.pages c.requires.own at found.0 found.1 in
    record {
      pages = on_ok_weaker c.write_held.result (λ is. (put is).pages) c.write_held.ensures.value;
      value = on_ok_weaker c.write_held.result (λ is. (put is).value) c.write_held.ensures.value;
      kept = c.write_held.ensures.kept;
    }

pub returns-in-Err : goal.returns-in-Err
returns-in-Err c =
    let old = c.args.pages.now.items in
    let new = c.write_new.new.pages.items in
    let at : c.in-Err.index ≡ pages_below old c.args.number = rw c.deref.ensures.value at c.in-Err.ensures.value in
    let none : has_page old c.args.number ≡ false = rw c.deref.ensures.value at c.in-Err.ensures.found.1 in
    let put = put_new c.args.bounds.0 c.args.bounds.1 c.args.number c.in-Err.index c.args.cell old new c.requires.pages c.requires.own at none in
    record {
      pages = on_ok_weaker c.write_new.result (λ is. (put is).pages) c.write_new.ensures.value;
      value = on_ok_weaker c.write_new.result (λ is. (put is).value) c.write_new.ensures.value;
      kept = c.write_new.ensures.kept;
    }

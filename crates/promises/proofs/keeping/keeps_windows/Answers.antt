use Rattle.std.proofs.Common.{sym, ap, ◌∙◌}
use Rattle.std.specs.Prelude.{map}
use Rattle.std.specs.List.{list_all}
use Rattle.std.proofs.lemmas.List.Folds.{list_all-map}
use Rattle.promises.specs.Breaking.{single_of}
use Rattle.promises.specs.Keeping.{sp_of as stack, writes_in}
use Rattle.promises.proofs.keeping.keeps_windows.Goals as goal

pub returns : goal.returns
returns c =
    c.all_write_in.ensures
    ∙ ap (λ sp. list_all (λ item. writes_in c.args.growth c.args.windows.now sp (single_of item)) c.args.items.now) c.sp_of.ensures
    ∙ sym (list_all-map (writes_in c.args.growth c.args.windows.now (stack (map single_of c.args.items.now))) single_of c.args.items.now)

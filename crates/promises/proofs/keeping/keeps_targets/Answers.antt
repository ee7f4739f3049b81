use Rattle.std.proofs.Common.{sym, ◌∙◌}
use Rattle.std.proofs.lemmas.List.Folds.{list_all-map}
use Rattle.promises.specs.Breaking.{single_of}
use Rattle.promises.specs.Keeping.{goes_to as is_target}
use Rattle.promises.proofs.keeping.keeps_targets.Goals as goal

pub returns : goal.returns
returns c = c.all_go_to.ensures ∙ sym (list_all-map (is_target c.args.targets.now) single_of c.args.items.now)

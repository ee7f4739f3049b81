use Rattle.std.proofs.Common.{◌≡◌, take}
use Rattle.std.specs.Prelude.{map}
use Rattle.promises.specs.declared.promise.Promise.TheVariants.{Write}
use Rattle.promises.proofs.sentences.write_all.Given as goal

abbrev pub invariant-loop-pc : goal.invariant-loop-pc
invariant-loop-pc l = l.list.items ≡ map (λ pc. Write pc l.windows) (take l.pc-index l.sites)

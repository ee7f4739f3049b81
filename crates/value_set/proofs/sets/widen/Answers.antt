use Rattle.std.proofs.Common.{subst, sym, map}
use Rattle.value_set.specs.declared.form.Form.{Form}
use Rattle.value_set.specs.Form.{Includes, IsNormal}
use Rattle.value_set.proofs.Widens.{widen_includes_held, widen_includes_new, widen_normal, AllBelow_from}
use Rattle.value_set.proofs.sets.widen.Goals as goal

pub returns-clause-normal : goal.returns-clause-normal
returns-clause-normal g c = subst (λ (set : Form). IsNormal c.args.modulus set) (sym c.widen.ensures)
    (widen_normal c.args.modulus c.args.held.now c.args.new.now (map g.N.Number.number c.args.marks.now) c.requires.held_normal
    (AllBelow_from g.N.Number.number c.args.modulus c.args.marks.now c.requires.marks_below))

pub returns-clause-held : goal.returns-clause-held
returns-clause-held g c = subst (λ (set : Form). Includes c.args.modulus set c.args.held.now) (sym c.widen.ensures)
    (widen_includes_held c.args.modulus c.args.held.now c.args.new.now (map g.N.Number.number c.args.marks.now) c.requires.held_normal c.requires.new_normal
    (AllBelow_from g.N.Number.number c.args.modulus c.args.marks.now c.requires.marks_below))

pub returns-clause-added : goal.returns-clause-added
returns-clause-added g c = subst (λ (set : Form). Includes c.args.modulus set c.args.new.now) (sym c.widen.ensures)
    (widen_includes_new c.args.modulus c.args.held.now c.args.new.now (map g.N.Number.number c.args.marks.now) c.requires.held_normal c.requires.new_normal
    (AllBelow_from g.N.Number.number c.args.modulus c.args.marks.now c.requires.marks_below))

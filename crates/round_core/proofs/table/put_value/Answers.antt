use Rattle.std.proofs.Common.{◌≡◌, ◌<◌, ◌∙◌, ap, sym, subst, length, rules}
use Rattle.std.specs.Prelude.{vec_len, vec_capacity}
use Rattle.round_core.specs.Rows.{with_entry, with_value}
use Rattle.round_core.specs.Reserved.{HasPlace}
use Rattle.round_core.proofs.table.put_value.Goals as goal
use Rattle.round_core.proofs.TableLemmas.{set-value}

pub returns-in-Some-clause-items : goal.returns-in-Some-clause-items
returns-in-Some-clause-items g c =
    let xs = c.args.values.now.items in
    let len : vec_len c.args.values.now ≡ length c.args.values.now.items = search rules in
    let there : c.in-Some.place < vec_len c.args.values.now = subst (λ o. HasPlace (vec_len c.args.values.now) (vec_capacity c.args.values.now) o) c.in-Some.is c.requires in
    set-value xs c.in-Some.place c.index_mut.result.now c.replace.new.dest
    (subst (λ n. c.in-Some.place < n) len there) c.index_mut.ensures.value
    ∙ ap (λ v. with_value xs c.in-Some.place v) c.replace.ensures.after
    ∙ sym (ap (λ o. with_entry xs o c.args.key c.args.value) c.in-Some.is)

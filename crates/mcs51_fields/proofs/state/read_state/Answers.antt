use Rattle.std.proofs.Common.{◌≡◌, ◌∙◌, IfOk, None, true, if◌then◌else◌, subst, sym}
use Rattle.call_context.specs.Nodes.{frame_of}
use Rattle.mcs51_state.specs.Known.{is_interrupt}
use Rattle.mcs51_fields.specs.Nodes.{is_node}
use Rattle.mcs51_fields.specs.States.{known_field}
use Rattle.mcs51_fields.proofs.state.read_state.Goals as goal

pub returns : goal.returns
returns g c =
    let node = c.args.node.now in
    let is : is_node node ≡ true = sym c.is_node.ensures ∙ c.if-not-is_node.false in
    subst (λ is. IfOk c.read_known.result
    (λ found. found ≡ (if is then (known_field (is_interrupt (frame_of node))).value c.args.text.now else None))) (sym is)
    (subst (λ framed. IfOk c.read_known.result (λ found. found ≡ (known_field framed).value c.args.text.now)) c.is_framed.ensures c.read_known.ensures)

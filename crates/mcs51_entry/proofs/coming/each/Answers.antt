use Rattle.std.proofs.Common.{◌≡◌, ℕ, ◌+◌, List, [], ◌∷◌, ◌++◌, sym, ap, ◌∙◌}
use Rattle.std.specs.List.{flat_map, range_with_len}
use Rattle.std.proofs.lemmas.Grind.{flat_map-append}
use Rattle.std.proofs.lemmas.List.{append-nil}
use Rattle.plain_lemmas.specs.Members.{range_more}
use Rattle.mcs51_entry.specs.declared.coming.Coming.{Coming}
use Rattle.mcs51_entry.specs.Coming.{source_comings}
use Rattle.mcs51_entry.proofs.coming.each.Goals as goal

one_added : (f : ℕ → List Coming) (n : ℕ) → flat_map f (range_with_len 0 (n + 1)) ≡ flat_map f (range_with_len 0 n) ++ f n
one_added f n =
    ap (flat_map f) (range_more n)
    ∙ flat_map-append f (range_with_len 0 n) (n ∷ [])
    ∙ ap (λ (list : List Coming). flat_map f (range_with_len 0 n) ++ list) (append-nil (f n))

pub loop-source-preserved : goal.loop-source-preserved
loop-source-preserved g c =
    let f = source_comings c.args.state.now in
    let n = c.loop-source.source in
    c.in_ok-add_source.ensures ∙ ap (λ (list : List Coming). list ++ f n) c.loop-source.invariant ∙ sym (one_added f n)
